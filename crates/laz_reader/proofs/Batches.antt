-- A batch of blocks: what its pieces hold, and what is left to read after them.
use Rattle.std.proofs.Common.{◌≡◌, ℕ, zero, suc, ◌+◌, ◌-◌, ◌*◌, ◌<◌, ◌≤◌, min, Bool, true, false, List, [], ◌∷◌, ◌++◌, length, length-append, map, take, drop, get_or, Option, Some, None, refl, sym, ◌∙◌, ap, subst, if◌then◌else◌, arith}
use Rattle.std.specs.Prelude.{All, IsSome, sum}
use Rattle.std.proofs.lemmas.List.{drop-drop, get_or-drop, get_or-take, length-drop, length-take, length-take-le, nil_from_length, take-take}
use Rattle.std.proofs.Math.Nat.{mul-le-mul_left}
use Rattle.std.proofs.lemmas.List.Sums.{sum_by-take-drop}
use Rattle.std.proofs.lemmas.List.Elements.{All-cons, All-drop, All-head, All-nil, All-tail, All-take}
use Rattle.std.proofs.lemmas.Option.{slice_get-get_or}
use Rattle.las_header.specs.Fields.{head_of, is_packed, record_length_of}
use Rattle.laz_chunk.specs.Chunks.{AreRecords, Holds}
use Rattle.laz_chunk.specs.Layouts.{Format, Layout, layout, record_length}
use Rattle.las_header.specs.Heads.{HeadView, IsHead}
use Rattle.laz_workers.specs.Rooms.{HandSeen, lengths_of, rooms_of}
use Rattle.laz_table.specs.VlrCauses.{chunk_size_of}
use Rattle.laz_forms.specs.Packing.{format_in, record_layout}
use Rattle.las_outside.specs.Files.{FileMap, WhereKnown}
use Rattle.laz_reader.specs.declared.seeking.Ends.{Ends}
use Rattle.laz_forms.specs.Pieces.{Piece, piece_bytes, pieces_from, plain_from, whole_piece}
use Rattle.laz_forms.specs.Ranges.{parts_of}
use Rattle.laz_reader.specs.Keeping.{cuts_from, left_of, pieces_kept, skip_at, taken_at}
use Rattle.laz_reader.specs.Reading.{AreCutFrom, AreListed, AreWholeBlocks, HaveRoom, IsCrewOf, IsInPlace, LiesIn, Position, ReaderSeen, StandsFor, pieces_left}
use Rattle.laz_forms.specs.Records.{HoldBlocks, HoldOnly, HoldsBlock, HoldsIf, IsBadPiece, cut_block}
use Rattle.laz_reader.specs.Unpacking.{HoldsNone, HoldsOnly}
use Rattle.laz_reader.proofs.InputLists.{piece_at}
use Rattle.laz_reader.proofs.Joins.{slice_get-first}
use Rattle.laz_reader.proofs.Kept.{cuts_at, cuts_length, kept_at, kept_length, left_step, rest_part, skip_fits}
use Rattle.laz_forms.proofs.Public.{known_then}
use Rattle.laz_reader.proofs.PieceLists.{counts_first, length-pieces}
use Rattle.laz_reader.proofs.PiecesRead.{hold_only_none}
use Rattle.laz_forms.proofs.Public.{record_is}

-- ---- pieces that are left
-- those of a packed file
pub packed_left : (chunk : Option ℕ) (size : ℕ) (position : Position) (counts sizes : List ℕ) → IsSome chunk → pieces_left chunk size position counts sizes ≡ left_of position.ends position.next position.at counts sizes
packed_left None size position counts sizes some = absurd (cc)
packed_left (Some c) size position counts sizes some = refl

-- and of a plain one
plain_first : (size at n : ℕ) → 0 < n → plain_from size at n ≡ whole_piece at (size * min 50000 n) (min 50000 n) ∷ plain_from size (at + size * min 50000 n) (n - 50000)
plain_first size at n some = ap (λ (t : List ℕ). pieces_from at t (map (λ m. size * m) t)) (counts_first n some)

pub plain_left : (chunk : Option ℕ) (size : ℕ) (position : Position) (counts sizes : List ℕ) → chunk ≡ None → pieces_left chunk size position counts sizes ≡ plain_from size position.at position.records
plain_left None size position counts sizes none = refl
plain_left (Some c) size position counts sizes none = absurd (cc)

-- ---- what pieces hold

one_plain : (file : List ℕ) (p : Piece) (block : List ℕ) → is_packed (head_of file) ≡ false → block ≡ piece_bytes file p → HoldOnly file (p ∷ []) (block ∷ [])
one_plain file p block plain is = record { hold = (subst (λ (t : Bool). HoldsIf t file p block) (sym plain) is, tt); only = only }
  where
    only : (others : List (List ℕ)) → HoldBlocks file (p ∷ []) others → others ≡ block ∷ []
    only [] h = absurd h
    only (b ∷ []) h = ap (λ (x : List ℕ). x ∷ []) (subst (λ (t : Bool). HoldsIf t file p b) plain h.0 ∙ sym is)
    only (b ∷ c ∷ cs) h = absurd h.1

-- what pieces take of the blocks of all of their records
abbrev pub cut_blocks : (size : ℕ) → List Piece → (wholes : List (List ℕ)) → List (List ℕ)
cut_blocks size [] wholes = []
cut_blocks size (p ∷ ps) [] = []
cut_blocks size (p ∷ ps) (w ∷ wholes) = cut_block size p w ∷ cut_blocks size ps wholes

pub length-cut_blocks : (size : ℕ) (ps : List Piece) (wholes : List (List ℕ)) → length wholes ≤ length ps → length (cut_blocks size ps wholes) ≡ length wholes
length-cut_blocks size [] [] within = refl
length-cut_blocks size [] (w ∷ wholes) within = absurd (omega arith)
length-cut_blocks size (p ∷ ps) [] within = refl
length-cut_blocks size (p ∷ ps) (w ∷ wholes) within = ap suc (length-cut_blocks size ps wholes (omega arith))

cut_there : (size : ℕ) (ps : List Piece) (wholes : List (List ℕ)) (k : ℕ) (d : Piece) → length wholes ≤ length ps → k < length wholes → get_or (cut_blocks size ps wholes) k [] ≡ cut_block size (get_or ps k d) (get_or wholes k [])
cut_there size [] [] k d within lt = absurd (omega arith)
cut_there size [] (w ∷ wholes) k d within lt = absurd (omega arith)
cut_there size (p ∷ ps) [] k d within lt = absurd (omega arith)
cut_there size (p ∷ ps) (w ∷ wholes) zero d within lt = refl
cut_there size (p ∷ ps) (w ∷ wholes) (suc k) d within lt = cut_there size ps wholes k d (omega arith) (omega arith)

module _ (l : Layout) (file : List ℕ) (packed : is_packed (head_of file) ≡ true) (same : record_layout (head_of file) ≡ l) where
  -- a piece holds a part of the block that its chunk holds
  as_chunk : (p : Piece) (b : List ℕ) → HoldsBlock file p b → (whole : List ℕ) × AreRecords l p.count whole × Holds l (piece_bytes file p) whole × (b ≡ cut_block (record_length l) p whole)
  as_chunk p b h =
      let c = subst (λ (t : Bool). HoldsIf t file p b) packed h in (
        c.0,
        subst (λ (m : Layout). AreRecords m p.count c.0) same c.1.are,
        subst (λ (m : Layout). Holds m (piece_bytes file p) c.0) same c.1.holds,
        c.2 ∙ ap (λ (m : Layout). cut_block (record_length m) p c.0) same,
      )

  holds_chunk : (p : Piece) (w : List ℕ) → HoldsOnly l p.count (piece_bytes file p) w → HoldsBlock file p (cut_block (record_length l) p w)
  holds_chunk p w h = subst (λ (t : Bool). HoldsIf t file p (cut_block (record_length l) p w)) (sym packed) (
    w,
    record {
      are = subst (λ (m : Layout). AreRecords m p.count w) (sym same) h.are;
      holds = subst (λ (m : Layout). Holds m (piece_bytes file p) w) (sym same) h.holds;
    },
    ap (λ (m : Layout). cut_block (record_length m) p w) (sym same),
  )

  only_more : (p : Piece) (ps : List Piece) (w : List ℕ) (bs : List (List ℕ)) → HoldsOnly l p.count (piece_bytes file p) w → ((others : List (List ℕ)) → HoldBlocks file ps others → others ≡ bs) → (others : List (List ℕ)) → HoldBlocks file (p ∷ ps) others
      → others ≡ cut_block (record_length l) p w ∷ bs
  only_more p ps w bs first rest [] h = absurd h
  only_more p ps w bs first rest (x ∷ xs) h =
      let here = as_chunk p x h.0 in
      let one : x ≡ cut_block (record_length l) p w = here.3 ∙ ap (cut_block (record_length l) p) (first.only here.0 here.1 here.2) in
      ap (λ (t : List ℕ). t ∷ xs) one ∙ ap (λ (t : List (List ℕ)). cut_block (record_length l) p w ∷ t) (rest xs h.1)

  -- the first pieces hold their parts of the blocks, and no others
  pub hold_each : (ps : List Piece) (wholes : List (List ℕ)) → length wholes ≤ length ps → ((k : ℕ) (d : Piece) → k < length wholes → HoldsOnly l (get_or ps k d).count (piece_bytes file (get_or ps k d)) (get_or wholes k []))
      → HoldOnly file (take (length wholes) ps) (cut_blocks (record_length l) ps wholes)
  hold_each [] [] within each = hold_only_none file
  hold_each (p ∷ ps) [] within each = hold_only_none file
  hold_each [] (w ∷ ws) within each = absurd (omega arith)
  hold_each (p ∷ ps) (w ∷ ws) within each =
      let first = each 0 p (omega arith) in
      let rest = hold_each ps ws (omega arith) (λ k d lt. each (suc k) d (omega arith)) in
      record { hold = (holds_chunk p w first, rest.hold); only = only_more p (take (length ws) ps) w (cut_blocks (record_length l) ps ws) first rest.only }

  -- a piece that holds none is bad
  pub bad_at : (ps : List Piece) (i : ℕ) → i < length ps → ((d : Piece) → HoldsNone l (get_or ps i d).count (piece_bytes file (get_or ps i d))) → IsBadPiece file ps i
  bad_at ps i lt none =
      let d : Piece = whole_piece 0 0 0 in
      let p = get_or ps i d in
      (p, slice_get-get_or ps i d lt, λ block h. let c = as_chunk p block h in none d c.0 c.1 c.2)

-- a part of a block has as many bytes as its records
length_part : (size count : ℕ) (p : Piece) (w : List ℕ) → length w ≡ size * count → p.skip + p.taken ≤ count → length (cut_block size p w) ≡ size * p.taken
length_part size count p w long fits =
    let least : size * (p.skip + p.taken) ≤ size * count = mul-le-mul_left size fits in
    omega (arith, length-take (size * p.taken) (drop (size * p.skip) w), length-drop (size * p.skip) w, long, least)

-- parts of blocks, each of as many bytes as the records of its piece have, are whole records
pub whole_blocks : (size : ℕ) (ps : List Piece) (wholes : List (List ℕ)) → length wholes ≤ length ps → ((k : ℕ) (d : Piece) → k < length wholes → length (get_or wholes k []) ≡ size * (get_or ps k d).count)
    → ((k : ℕ) (d : Piece) → k < length wholes → (get_or ps k d).skip + (get_or ps k d).taken ≤ (get_or ps k d).count) → AreWholeBlocks size (take (length wholes) ps) (cut_blocks size ps wholes)
whole_blocks size [] [] within each fits = tt
whole_blocks size (p ∷ ps) [] within each fits = tt
whole_blocks size [] (w ∷ ws) within each fits = absurd (omega arith)
whole_blocks size (p ∷ ps) (w ∷ ws) within each fits =
    (length_part size p.count p w (each 0 p (omega arith)) (fits 0 p (omega arith)), whole_blocks size ps ws (omega arith) (λ k d lt. each (suc k) d (omega arith)) (λ k d lt. fits (suc k) d (omega arith)))

-- the next block of a plain file, of which n records are left
pub record IsNextBlock (size at n count taken : ℕ) (left : List Piece) : Type 0 where
  pub some : 0 < n
  pub count_is : count ≡ min n 50000
  pub taken_is : taken ≡ size * count
  pub left_is : left ≡ plain_from size at n

module _ {size at n count taken : ℕ} {left : List Piece} (next : IsNextBlock size at n count taken left) where
  pub first : Piece
  first = whole_piece at taken count

  pub parts : left ≡ first ∷ plain_from size (at + taken) (n - count)
  unfolding first
  parts =
      let c : min 50000 n ≡ count = omega arith in
      let t : size * min 50000 n ≡ taken = ap (λ (k : ℕ). size * k) c ∙ sym next.taken_is in
      let r : n - 50000 ≡ n - count = omega arith in
      next.left_is ∙ plain_first size at n next.some
      ∙ (λ i. whole_piece at (t i) (c i) ∷ plain_from size (at + t i) (r i))

  pub first_size : first.size ≡ taken
  unfolding first
  first_size = refl

  pub block_rest : plain_from size (at + taken) (n - count) ≡ drop 1 left
  block_rest = sym (ap (drop 1) parts)

  pub block_is : 1 ≡ min 1 (length left)
  block_is = omega (arith, ap (λ (l : List Piece). length l) parts)

  pub block_lies : (file : List ℕ) → All (LiesIn file) left → at + taken ≤ length file
  unfolding first
  block_lies file lie = All-head (LiesIn file) first (plain_from size (at + taken) (n - count)) (subst (λ (l : List Piece). All (LiesIn file) l) parts lie)

  pub block_whole : (block : List ℕ) → length block ≡ taken → AreWholeBlocks size (take 1 left) (block ∷ [])
  unfolding first
  block_whole block long = subst (λ (l : List Piece). AreWholeBlocks size (take 1 l) (block ∷ [])) (sym parts) (long ∙ next.taken_is, tt)

  pub block_held : (file block : List ℕ) → is_packed (head_of file) ≡ false → block ≡ take taken (drop at file) → HoldOnly file (take 1 left) (block ∷ [])
  unfolding first
  block_held file block plain is = subst (λ (l : List Piece). HoldOnly file (take 1 l) (block ∷ [])) (sym parts) (one_plain file first block plain is)

pub one_lent : (block : List ℕ) (k : ℕ) → k < 1 → get_or (block ∷ []) k [] ≡ block
one_lent block zero lt = refl
one_lent block (suc k) lt = absurd (omega arith)

-- ---- readers
-- no chunk of a plain file is bad
pub plain_fine : (chunk : Option ℕ) (offset points size : ℕ) (position : Position) (counts sizes : List ℕ) → AreListed chunk offset points counts sizes → IsInPlace size position counts sizes → chunk ≡ None → position.bad ≡ false
plain_fine chunk offset points size position counts sizes l p none = by position.bad p.bad
  where
    by : (b : Bool) → (b ≡ true → (position.ends.first < position.next) × (position.next < position.ends.last)) → b ≡ false
    by true h = absurd (let last = p.last in omega (arith, (h refl).1, last, ap (λ (l : List ℕ). length l) (l.plain none)))
    by false h = refl

packed_of : (b : Bool) (n : ℕ) (o : Option ℕ) → o ≡ (if b then Some n else None) → IsSome o → b ≡ true
packed_of true n o is some = refl
packed_of false n None is some = absurd (cc)
packed_of false n (Some m) is some = absurd (cc)

plain_of : (b : Bool) (n : ℕ) (o : Option ℕ) → o ≡ (if b then Some n else None) → o ≡ None → b ≡ false
plain_of true n o is none = absurd (cc)
plain_of false n o is none = refl

-- the file of a reader is packed if the reader has a chunk size, and else plain
pub stands_packed : (reader : ReaderSeen) (file : List ℕ) → StandsFor reader file → IsSome reader.chunk → is_packed (head_of file) ≡ true
stands_packed reader file s some = packed_of (is_packed (head_of file)) (chunk_size_of (head_of file)) reader.chunk s.chunk some

pub stands_plain : (reader : ReaderSeen) (file : List ℕ) → StandsFor reader file → reader.chunk ≡ None → is_packed (head_of file) ≡ false
stands_plain reader file s none = plain_of (is_packed (head_of file)) (chunk_size_of (head_of file)) reader.chunk s.chunk none

-- it stands for its file after a batch too
pub stands_later : (old new : ReaderSeen) (n : ℕ) (bad : Bool) (cuts : List (ℕ × ℕ)) (lent file : List ℕ) → new ≡ record old { next = old.next + n; left = drop n old.left; bad = bad; cuts = cuts; lent = lent } → (bad ≡ true → IsBadPiece file old.left n) → StandsFor old file → StandsFor new file
stands_later old new n bad cuts lent file is known s = subst (λ (r : ReaderSeen). StandsFor r file) (sym is) (record {
  accepted = s.accepted;
  head = s.head;
  chunk = s.chunk;
  pieces = s.pieces;
  are = s.are;
  chunks = s.chunks;
  all_lie = s.all_lie;
  begun = omega (arith, s.begun);
  first = s.first;
  left =
      let read : old.next - old.first + n ≡ old.next + n - old.first = omega (arith, s.begun) in
      let parts = parts_of file old.range s.pieces in
      ap (drop n) s.left ∙ drop-drop n (old.next - old.first) parts ∙ ap (λ (k : ℕ). drop k parts) read;
  lie = All-drop (LiesIn file) n old.left s.lie;
  bad = λ is_bad. let b = known is_bad in (b.0, slice_get-first n old.left ∙ b.1, b.2);
})

-- what is known of a file if a condition holds
pub known_if : (b : Bool) (held : Option FileMap) (name : List ℕ) (P Q : List ℕ → Type 0) → WhereKnown held name P → (b ≡ true → WhereKnown held name Q) → WhereKnown held name (λ file. b ≡ true → Q file)
known_if true held name P Q p q = known_then held name Q (λ file. true ≡ true → Q file) (λ file x e. x) (q refl)
known_if false held name P Q p q = known_then held name P (λ file. false ≡ true → Q file) (λ file x e. absurd (cc)) p

-- rooms for the pieces are rooms for their numbers of records
counts_fit : (size n at : ℕ) (counts sizes : List ℕ) → length counts ≡ length sizes → All (λ (p : Piece). size * p.count ≤ n) (pieces_from at counts sizes) → All (λ count. size * count ≤ n) counts
counts_fit size n at [] sizes same all = All-nil (λ count. size * count ≤ n)
counts_fit size n at (c ∷ counts) [] same all = absurd (omega arith)
counts_fit size n at (c ∷ counts) (s ∷ sizes) same all =
    let p : Piece = whole_piece at s c in
    let fits = λ (q : Piece). size * q.count ≤ n in
    All-cons (λ count. size * count ≤ n) c counts (All-head fits p (pieces_from (at + s) counts sizes) all) (counts_fit size n (at + s) counts sizes (omega arith) (All-tail fits p (pieces_from (at + s) counts sizes) all))

-- and its crew is a crew of it
pub crew_later : (old new : ReaderSeen) (n : ℕ) (bad : Bool) (cuts : List (ℕ × ℕ)) (lent : List ℕ) (before after : List (HandSeen Format)) → new ≡ record old { next = old.next + n; left = drop n old.left; bad = bad; cuts = cuts; lent = lent } → IsCrewOf old before → length after ≡ length before → All (λ (hand : HandSeen Format). hand.space ≡ format_in old.head.bytes) after → lengths_of (rooms_of after) ≡ lengths_of (rooms_of before) → IsCrewOf new after
crew_later old new n bad cuts lent before after is c hands spaces rooms = subst (λ (r : ReaderSeen). IsCrewOf r after) (sym is) (record {
  hands = omega (arith, c.hands, hands);
  buffers = c.buffers ∙ ap (λ (k : ℕ). 2 * k) (sym hands);
  spaces = spaces;
  rooms = subst (HaveRoom _ old.pieces) (sym rooms) c.rooms;
})

-- what is left of a packed file after some of its chunks
pub packed_step : (chunk : Option ℕ) (size n t : ℕ) (position after : Position) (counts sizes : List ℕ) → IsSome chunk → length counts ≡ length sizes → IsInPlace size position counts sizes → position.next + n ≤ position.ends.last → t ≡ sum (take n (take (position.ends.last - position.next) (drop position.next sizes)))
    → (after.ends ≡ position.ends) → (after.next ≡ position.next + n) → (after.at ≡ position.at + t)
    → pieces_left chunk size after counts sizes ≡ drop n (pieces_left chunk size position counts sizes)
packed_step None size n t position after counts sizes some same place within is ends next at = absurd (cc)
packed_step (Some c) size n t position after counts sizes some same place within is ends next at =
    ap (λ (e : Ends). left_of e after.next after.at counts sizes) ends
    ∙ ap (λ (k : ℕ). left_of position.ends k after.at counts sizes) next
    ∙ ap (λ (a : ℕ). left_of position.ends (position.next + n) a counts sizes) (at ∙ ap (λ (x : ℕ). position.at + x) is)
    ∙ left_step position.ends position.next position.at n counts sizes same within place.last

-- some chunks of the lists
pub length_slice : (m next : ℕ) (xs : List ℕ) → next + m ≤ length xs → length (take m (drop next xs)) ≡ m
length_slice m next xs within = omega (arith, length-take m (drop next xs), length-drop next xs)

-- if the next chunk is known to be bad, there is one
pub bad_left : (chunk : Option ℕ) (size : ℕ) (position : Position) (counts sizes : List ℕ) → IsSome chunk → length counts ≡ length sizes → IsInPlace size position counts sizes → position.bad ≡ true → 0 < length (pieces_left chunk size position counts sizes)
bad_left chunk size position counts sizes some same place bad =
    let m = position.ends.last - position.next in
    let c = length_slice m position.next counts (omega (arith, place.next, place.last)) in
    let s = length_slice m position.next sizes (omega (arith, place.next, place.last, same)) in
    omega (arith, ap (λ (ps : List Piece). length ps) (packed_left chunk size position counts sizes some), kept_length position.ends position.next position.at (take m (drop position.next counts)) (take m (drop position.next sizes)) (c ∙ sym s), c, (place.bad bad).1)

-- What is left of a packed file is kept so, and its records have this format.
pub record IsListed (reader : ReaderSeen) (f : Format) (ends : Ends) (number at : ℕ) (cs ss : List ℕ) : Type 0 where
  pub some : IsSome reader.chunk
  pub same : length cs ≡ length ss
  pub left : reader.left ≡ pieces_kept ends number at cs ss
  pub fits : (k : ℕ) → k < length cs → skip_at ends (number + k) ≤ get_or cs k 0
  pub format : f ≡ format_in reader.head.bytes

-- the lists of the chunks that are left, as slices of the lists
pub slice_part : (slice items : List ℕ) (next last : ℕ) → slice ≡ items → take (last - next) (drop next slice) ≡ take (last - next) (drop next items)
slice_part slice items next last is = ap (λ (l : List ℕ). take (last - next) (drop next l)) is

pub part_at : (m next k : ℕ) (xs : List ℕ) → k < m → get_or (take m (drop next xs)) k 0 ≡ get_or xs (next + k) 0
part_at m next k xs lt = get_or-take m (drop next xs) k 0 lt ∙ get_or-drop next xs k 0

pub listed : (reader : ReaderSeen) (f : Format) (chunk : Option ℕ) (size : ℕ) (position : Position) (counts sizes cs ss : List ℕ) → pieces_left chunk size position counts sizes ≡ reader.left → chunk ≡ reader.chunk → IsSome reader.chunk → length counts ≡ length sizes → IsInPlace size position counts sizes → cs ≡ counts → ss ≡ sizes → f ≡ format_in reader.head.bytes
    → IsListed reader f position.ends position.next position.at (take (position.ends.last - position.next) (drop position.next cs)) (take (position.ends.last - position.next) (drop position.next ss))
listed reader f chunk size position counts sizes cs ss left chunk_is some same place cs_is ss_is format =
    let ends = position.ends in
    let next = position.next in
    let m = ends.last - next in
    let c = slice_part cs counts next ends.last cs_is in
    let s = slice_part ss sizes next ends.last ss_is in
    let long : length (take m (drop next counts)) ≡ m = length_slice m next counts (omega (arith, place.next, place.last)) in
    let short : length (take m (drop next sizes)) ≡ m = length_slice m next sizes (omega (arith, place.next, place.last, same)) in
    record {
      some = some;
      same = ap (λ (l : List ℕ). length l) c ∙ long ∙ sym short ∙ sym (ap (λ (l : List ℕ). length l) s);
      left = sym left ∙ packed_left chunk size position counts sizes (subst (λ (o : Option ℕ). IsSome o) (sym chunk_is) some)
          ∙ ap (λ (t : List ℕ). pieces_kept ends next position.at t (take m (drop next sizes))) (sym c) ∙ ap (pieces_kept ends next position.at (take m (drop next cs))) (sym s);
      fits = λ k lt.
          let below : k < m = omega (arith, lt, ap (λ (l : List ℕ). length l) c, long) in
          let is : get_or (take m (drop next cs)) k 0 ≡ get_or counts (next + k) 0 = ap (λ (l : List ℕ). get_or l k 0) c ∙ part_at m next k counts below in
          omega (arith, is, skip_fits ends counts place.front (next + k));
      format = format;
    }

module _ {reader : ReaderSeen} {f : Format} {ends : Ends} {number at : ℕ} {cs ss : List ℕ} (h : IsListed reader f ends number at cs ss) where
  pub batch_length : length reader.left ≡ length cs
  batch_length = ap (λ (l : List Piece). length l) h.left ∙ kept_length ends number at cs ss h.same

  pub batch_long : (n : ℕ) → n ≤ length cs → n ≤ length reader.left
  batch_long n le = omega (arith, batch_length)

  pub batch_most : (n m : ℕ) → n ≤ min m (length cs) → n ≤ min m (length reader.left)
  batch_most n m le = omega (arith, batch_length)

  pub batch_few : (n m : ℕ) → n < min m (length reader.left) → n < min m (length cs)
  batch_few n m lt = omega (arith, batch_length)

  pub batch_end : (n : ℕ) → (n ≡ 0 → length cs ≡ 0) → n ≡ 0 → reader.left ≡ []
  batch_end n end none = nil_from_length reader.left (batch_length ∙ end none)

  -- the piece of a number in the lists
  module _ (k : ℕ) (d : Piece) (lt : k < length cs) where
    kept_is : get_or reader.left k d ≡ record { start = at + sum (take k ss); size = get_or ss k 0; count = get_or cs k 0; skip = skip_at ends (number + k); taken = taken_at ends (number + k) (get_or cs k 0) }
    kept_is = ap (λ (l : List Piece). get_or l k d) h.left ∙ kept_at ends number at cs ss k d h.same lt

    count_is : get_or cs k 0 ≡ (get_or reader.left k d).count
    count_is = sym (ap (λ (p : Piece). p.count) kept_is)

    -- it is read where the chunk is
    bytes_are : (file : List ℕ) → piece_bytes file (get_or (pieces_from at cs ss) k d) ≡ piece_bytes file (get_or reader.left k d)
    bytes_are file = ap (piece_bytes file) (piece_at at cs ss k d h.same lt) ∙ sym (ap (piece_bytes file) kept_is)

    piece_fits : (get_or reader.left k d).skip + (get_or reader.left k d).taken ≤ (get_or reader.left k d).count
    piece_fits = subst (λ (p : Piece). p.skip + p.taken ≤ p.count) (sym kept_is) (omega (arith, h.fits k lt))

  layout_is : (file : List ℕ) → StandsFor reader file → record_layout (head_of file) ≡ layout f
  layout_is file s = ap record_layout (sym (ap (λ (h : HeadView). h.bytes) s.head)) ∙ ap layout (sym h.format)

  -- the chunks lie where the pieces do
  pub batch_lie : (file : List ℕ) → All (LiesIn file) reader.left → All (LiesIn file) (pieces_from at cs ss)
  batch_lie file lie = λ k d lt.
      let below : k < length cs = subst (λ (n : ℕ). k < n) (length-pieces at cs ss h.same) lt in
      let there : LiesIn file (get_or reader.left k d) = lie k d (omega (arith, batch_length)) in
      let kept = subst (LiesIn file) (kept_is k d below) there in
      subst (LiesIn file) (sym (piece_at at cs ss k d h.same below)) kept

  pub batch_blocks : (wholes : List (List ℕ)) → List (List ℕ)
  batch_blocks wholes = cut_blocks (record_length (layout f)) reader.left wholes

  pub batch_count : (wholes : List (List ℕ)) → length wholes ≤ length cs → length (batch_blocks wholes) ≡ length wholes
  unfolding batch_blocks
  batch_count wholes within = length-cut_blocks (record_length (layout f)) reader.left wholes (batch_long (length wholes) within)

  pub batch_hold : (file : List ℕ) → StandsFor reader file → (wholes : List (List ℕ)) → length wholes ≤ length cs → ((k : ℕ) (d : Piece) → k < length wholes → HoldsOnly (layout f) (get_or cs k 0) (piece_bytes file (get_or (pieces_from at cs ss) k d)) (get_or wholes k []))
      → HoldOnly file (take (length wholes) reader.left) (batch_blocks wholes)
  unfolding batch_blocks
  batch_hold file s wholes within each =
      hold_each (layout f) file (stands_packed reader file s h.some) (layout_is file s) reader.left wholes (batch_long (length wholes) within)
      (λ k d lt. let below : k < length cs = omega arith in
      subst (λ (n : ℕ). HoldsOnly (layout f) n (piece_bytes file (get_or reader.left k d)) (get_or wholes k [])) (count_is k d below)
      (subst (λ (b : List ℕ). HoldsOnly (layout f) (get_or cs k 0) b (get_or wholes k [])) (bytes_are k d below file) (each k d lt)))

  pub batch_bad : (file : List ℕ) → StandsFor reader file → (i : ℕ) → i < length cs → ((d : Piece) → HoldsNone (layout f) (get_or cs i 0) (piece_bytes file (get_or (pieces_from at cs ss) i d))) → IsBadPiece file reader.left i
  batch_bad file s i lt none =
      bad_at (layout f) file (stands_packed reader file s h.some) (layout_is file s) reader.left i (omega (arith, batch_length))
      (λ d. subst (λ (n : ℕ). HoldsNone (layout f) n (piece_bytes file (get_or reader.left i d))) (count_is i d lt)
      (subst (λ (b : List ℕ). HoldsNone (layout f) (get_or cs i 0) b) (bytes_are i d lt file) (none d)))

  size_is : IsHead reader.head.bytes → record_length (layout f) ≡ record_length_of reader.head.bytes
  size_is head = ap (λ (x : Format). record_length (layout x)) h.format ∙ record_is reader.head.bytes head

  pub batch_whole : (wholes : List (List ℕ)) → length wholes ≤ length cs → IsHead reader.head.bytes → ((k : ℕ) → k < length wholes → length (get_or wholes k []) ≡ record_length (layout f) * get_or cs k 0)
      → AreWholeBlocks (record_length_of reader.head.bytes) (take (length wholes) reader.left) (batch_blocks wholes)
  unfolding batch_blocks
  batch_whole wholes within head each =
      let long = record_length (layout f) in
      subst (λ (n : ℕ). AreWholeBlocks n (take (length wholes) reader.left) (cut_blocks long reader.left wholes)) (size_is head)
      (whole_blocks long reader.left wholes (batch_long (length wholes) within)
      (λ k d lt. each k lt ∙ ap (λ (n : ℕ). long * n) (count_is k d (omega arith)))
      (λ k d lt. piece_fits k d (omega arith)))

  -- the blocks are cut from what the crew answers
  pub batch_cuts : (wholes : List (List ℕ)) → length wholes ≤ length cs → IsHead reader.head.bytes → ((k : ℕ) → k < length wholes → length (get_or wholes k []) ≡ record_length (layout f) * get_or cs k 0)
      → AreCutFrom (record_length_of reader.head.bytes) (cuts_from ends number (take (length wholes) cs)) wholes (batch_blocks wholes)
  unfolding batch_blocks
  batch_cuts wholes within head each =
      let long = record_length (layout f) in
      let blocks = cut_blocks long reader.left wholes in
      let cuts = cuts_from ends number (take (length wholes) cs) in
      let count : length blocks ≡ length wholes = length-cut_blocks long reader.left wholes (batch_long (length wholes) within) in
      let first : length (take (length wholes) cs) ≡ length wholes = length-take-le (length wholes) cs within in
      let none : Piece = whole_piece 0 0 0 in
      let at_k : (k : ℕ) (d : ℕ × ℕ) → k < length wholes → get_or cuts k d ≡ (skip_at ends (number + k), taken_at ends (number + k) (get_or cs k 0)) =
      λ k d lt. cuts_at ends number (take (length wholes) cs) k d (omega (arith, first)) ∙ ap (λ (n : ℕ). (skip_at ends (number + k), taken_at ends (number + k) n)) (get_or-take (length wholes) cs k 0 lt) in
      subst (λ (n : ℕ). AreCutFrom n cuts wholes blocks) (size_is head) (record {
        same = sym count;
        cut = cuts_length ends number (take (length wholes) cs) ∙ first ∙ sym count;
        within = λ k d lt.
            let below : k < length wholes = omega (arith, lt, count) in
            let fits : skip_at ends (number + k) + taken_at ends (number + k) (get_or cs k 0) ≤ get_or cs k 0 = omega (arith, h.fits k (omega (arith, below, within))) in
            let enough : long * (skip_at ends (number + k) + taken_at ends (number + k) (get_or cs k 0)) ≤ length (get_or wholes k []) = omega (arith, mul-le-mul_left long fits, each k below) in
            subst (λ (c : ℕ × ℕ). long * (c.0 + c.1) ≤ length (get_or wholes k [])) (sym (at_k k d below)) enough;
        parts = λ k d lt.
            let below : k < length wholes = omega (arith, lt, count) in
            let here : get_or blocks k [] ≡ take (long * taken_at ends (number + k) (get_or cs k 0)) (drop (long * skip_at ends (number + k)) (get_or wholes k [])) =
            cut_there long reader.left wholes k none (batch_long (length wholes) within) below ∙ ap (λ (p : Piece). cut_block long p (get_or wholes k [])) (kept_is k none (omega (arith, below, within))) in
            subst (λ (c : ℕ × ℕ). get_or blocks k [] ≡ take (long * c.1) (drop (long * c.0) (get_or wholes k []))) (sym (at_k k d below)) here;
      })

  -- rooms for all chunks are rooms for those that are left
  pub batch_rooms : (place m next : ℕ) (counts sizes lengths : List ℕ) → length counts ≡ length sizes → cs ≡ take m (drop next counts) → HaveRoom (record_length (record_layout reader.head.bytes)) (pieces_from place counts sizes) lengths → All (λ n. All (λ count. record_length (layout f) * count ≤ n) cs) lengths
  batch_rooms place m next counts sizes lengths same is rooms = λ k d lt j e below.
      let size : record_length (layout f) ≡ record_length (record_layout reader.head.bytes) = ap (λ (x : Format). record_length (layout x)) h.format in
      let n = get_or lengths k d in
      let fits : ℕ → Type 0 = λ count. record_length (record_layout reader.head.bytes) * count ≤ n in
      let all = All-take fits m (drop next counts) (All-drop fits next counts (counts_fit (record_length (record_layout reader.head.bytes)) n place counts sizes same (rooms k d lt))) in
      let here : record_length (record_layout reader.head.bytes) * get_or cs j e ≤ n = subst (λ (l : List ℕ). All fits l) (sym is) all j e below in
      subst (λ (x : ℕ). x * get_or cs j e ≤ n) (sym size) here

-- the cuts of the chunks of a batch
pub front_cuts : (ends : Ends) (next m n : ℕ) (slice counts : List ℕ) (k : ℕ) → slice ≡ counts → k ≡ n → n ≤ m → cuts_from ends next (take k (take m (drop next slice))) ≡ cuts_from ends next (take (next + n - next) (drop next counts))
front_cuts ends next m n slice counts k is same within =
    let count : k ≡ next + n - next = omega (arith, same) in
    ap (λ (l : List ℕ). cuts_from ends next (take k (take m (drop next l)))) is ∙ ap (cuts_from ends next) (take-take k m (drop next counts) (omega (arith, same, within)))
    ∙ ap (λ (j : ℕ). cuts_from ends next (take j (drop next counts))) count

pub positive : (n : ℕ) → (n ≡ 0 → ⊥) → 0 < n
positive zero never = absurd (never refl)
positive (suc n) never = omega arith

-- as many buffers as before
pub as_many : {A : Type 0} (n : ℕ) (new old : List A) → n ≡ length old → length new ≡ length old → length (take n (new ++ drop (length new) old)) ≡ length old
as_many n new old is same = omega (arith, length-take n (new ++ drop (length new) old), length-append new (drop (length new) old), length-drop (length new) old)

-- the numbers of a reader after a batch
pub placed_later : (size n t : ℕ) (bad : Bool) (position : Position) (counts sizes : List ℕ) → length counts ≡ length sizes → IsInPlace size position counts sizes → position.next + n ≤ position.ends.last → t ≡ sum (take n (take (position.ends.last - position.next) (drop position.next sizes)))
    → (bad ≡ true → (0 < n) × (position.next + n < position.ends.last))
    → IsInPlace size (record position { at = position.at + t; next = position.next + n; batch = position.next; bad = bad }) counts sizes
placed_later size n t bad position counts sizes same p within is known =
    let last = position.ends.last in
    let next = position.next in
    let rest = sum_by-take-drop (λ x. x) (take (last - next) (drop next sizes)) n in
    let after : sum (drop n (take (last - next) (drop next sizes))) ≡ sum (take (last - (next + n)) (drop (next + n) sizes)) = ap (λ (l : List ℕ). sum l) (sym (rest_part position.ends last next n sizes within)) in
    record {
      first = omega (arith, p.first, p.batch);
      batch = omega arith;
      next = within;
      last = p.last;
      front = p.front;
      near = omega (arith, p.near, rest, after, is);
      number = p.number;
      bad = λ b. let k = known b in (omega (arith, k.0, p.first, p.batch), k.1);
    }
