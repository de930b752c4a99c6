-- How many bytes a reader may ask for that is to read all records of its file.
use Rattle.std.proofs.Common.{◌≡◌, ℕ, ◌+◌, ◌-◌, ◌*◌, ◌≤◌, Bool, true, false, cond, List, [], ◌∷◌, drop, map, Option, refl, ◌∙◌, ap, arith}
use Rattle.std.specs.Prelude.{sum}
use Rattle.las_header.specs.Fields.{head_of, is_packed, point_offset_of, points_of, record_length_of}
use Rattle.las_header.specs.Heads.{HeadView}
use Rattle.laz_table.specs.Chunks.{fixed_sizes}
use Rattle.laz_reader.specs.Asking.{asked_for_pieces, asked_in, bytes_left}
use Rattle.laz_forms.specs.Packing.{record_layout}
use Rattle.laz_forms.specs.Pieces.{ArePiecesIf, Piece, pieces_from}
use Rattle.laz_forms.specs.Ranges.{Range, parts_of, whole_range}
use Rattle.laz_reader.specs.Reading.{ReaderSeen, ReadsAll, StandsFor, chunk_of}
use Rattle.laz_forms.specs.Refusing.{blocks_in, chunks_place, table_part, table_place}
use Rattle.laz_forms.specs.Sizes.{points_size}
use Rattle.laz_reader.proofs.AllParts.{all_of}
use Rattle.laz_reader.proofs.Asking.{asked_few, sizes_in}
use Rattle.laz_reader.proofs.PieceLists.{summed}
use Rattle.laz_reader.proofs.TableFront.{accepted_bytes}
use Rattle.laz_models.proofs.Public.{sum-cons}

pieces_size : (at : ℕ) (counts sizes : List ℕ) → sum (sizes_in (pieces_from at counts sizes)) ≤ sum sizes
pieces_size at [] sizes = omega arith
pieces_size at (n ∷ counts) [] = omega arith
pieces_size at (n ∷ counts) (s ∷ sizes) = omega (arith, sum-cons s (sizes_in (pieces_from (at + s) counts sizes)), sum-cons s sizes, pieces_size (at + s) counts sizes)

size_if : (file : List ℕ) (packed : Bool) → is_packed (head_of file) ≡ packed → (pieces : List Piece) → ArePiecesIf packed file pieces → sum (sizes_in pieces) ≤ points_size file
size_if file true is pieces are =
    let all : sum are.1 ≡ table_place file - chunks_place file = accepted_bytes (table_part file) (blocks_in (head_of file)) (table_place file - chunks_place file) are.0 are.1 are.2 in
    let here : points_size file ≡ table_place file - chunks_place file = ap (λ (b : Bool). cond b (table_place file - chunks_place file) (record_length_of (head_of file) * points_of (head_of file))) is in
    omega (arith, ap (λ (ps : List Piece). sum (sizes_in ps)) are.3, pieces_size (chunks_place file) are.0 are.1, all, here)
size_if file false is pieces are =
    let size = record_length_of (head_of file) in
    let points = points_of (head_of file) in
    let here : points_size file ≡ size * points = ap (λ (b : Bool). cond b (table_place file - chunks_place file) (size * points)) is in
    omega (arith, ap (λ (ps : List Piece). sum (sizes_in ps)) are, pieces_size (point_offset_of file) (fixed_sizes 50000 points) (map (λ m. size * m) (fixed_sizes 50000 points)), summed size points, here)

pub if_less : (b : Bool) (n : ℕ) → cond b 0 n ≤ n
if_less true n = omega arith
if_less false n = omega arith

pub left_few : (reader : ReaderSeen) → bytes_left reader ≤ sum (sizes_in reader.left)
left_few reader =
    let l = record_layout reader.head.bytes in
    omega (arith, if_less reader.bad (asked_for_pieces reader.chunk l reader.left), asked_few reader.chunk l reader.left)

-- a reader of all records that has read none has all pieces left
all_left : (reader : ReaderSeen) (file : List ℕ) → ReadsAll reader → (s : StandsFor reader file) → reader.left ≡ s.pieces
all_left reader file new s =
    let none : reader.next - reader.first ≡ 0 = omega (arith, new.first) in
    let range : reader.range ≡ whole_range (head_of file) = new.all ∙ ap (λ (h : HeadView). whole_range h.bytes) s.head in
    s.left ∙ ap (λ (n : ℕ). drop n (parts_of file reader.range s.pieces)) none ∙ ap (λ (r : Range). parts_of file r s.pieces) range ∙ (all_of file s.pieces s.are).0

pub left_size : (reader : ReaderSeen) (file : List ℕ) → ReadsAll reader → StandsFor reader file → bytes_left reader ≤ points_size file
left_size reader file new s =
    omega (arith, left_few reader, ap (λ (ps : List Piece). sum (sizes_in ps)) (all_left reader file new s), size_if file (is_packed (head_of file)) refl s.pieces s.are)

pub left_asked : (reader : ReaderSeen) (file : List ℕ) → ReadsAll reader → (s : StandsFor reader file) → bytes_left reader ≤ asked_in file s.pieces
left_asked reader file new s =
    let head : reader.head.bytes ≡ head_of file = ap (λ (v : HeadView). v.bytes) s.head in
    let asked : Option ℕ → List ℕ → ℕ = λ chunk bytes. asked_for_pieces chunk (record_layout bytes) reader.left in
    let whole : asked reader.chunk reader.head.bytes ≡ asked_in file s.pieces =
    ap (λ (c : Option ℕ). asked c reader.head.bytes) s.chunk ∙ ap (asked (chunk_of (head_of file))) head ∙ ap (asked_in file) (all_left reader file new s) in
    omega (arith, whole, if_less reader.bad (asked reader.chunk reader.head.bytes))
