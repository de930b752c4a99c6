-- How many bytes inputs are asked for whose chunks are copied.
use Rattle.std.proofs.Common.{◌≡◌, ℕ, suc, ◌+◌, ◌-◌, ◌*◌, ◌≤◌, sum, Bool, true, false, cond, List, [], ◌∷◌, map, Option, Some, None, refl, ap, arith}
use Rattle.std.specs.Prelude.{All, sum_by}
use Rattle.std.specs.FinMap as finmap
use Rattle.std.specs.List.{AllByRecursion}
use Rattle.std.proofs.lemmas.List.Sums.{sum_by-cons}
use Rattle.las_header.specs.Fields.{head_of, is_packed, points_of, record_length_of}
use Rattle.las_outside.specs.Files.{FileMap}
use Rattle.laz_models.proofs.Public.{sum-cons}
use Rattle.laz_reader.specs.Asking.{asked_to_open}
use Rattle.laz_reader.proofs.Public.{accepted_bytes}
use Rattle.laz_forms.specs.Pieces.{ArePieces, ArePiecesIf, Piece, bytes_in, pieces_from}
use Rattle.laz_forms.specs.Refusing.{blocks_in, chunks_place, table_part, table_place}
use Rattle.laz_forms.specs.Sizes.{points_size}
use Rattle.las_merge.specs.Appending.{SourceSeen}
use Rattle.las_merge.specs.Asking.{asked_of_all, asked_to_compare, asked_with_chunks}
use Rattle.las_merge.specs.Listing.{ListedInput, chunks_source}
use Rattle.las_merge.specs.Opening.{IsOpen, input_names}
use Rattle.las_merge.proofs.Known.{file_of, read_held}
use Rattle.las_merge.proofs.Listed.{IsRead}

-- ---- the chunks of a file lie where its points are

bytes_from : (at : ℕ) (counts sizes : List ℕ) → bytes_in (pieces_from at counts sizes) ≤ sum sizes
bytes_from at [] sizes = omega arith
bytes_from at (n ∷ counts) [] = omega arith
bytes_from at (n ∷ counts) (s ∷ sizes) =
    omega (arith, sum-cons s (map (λ (p : Piece). p.size) (pieces_from (at + s) counts sizes)), sum-cons s sizes, bytes_from (at + s) counts sizes)

bytes_if : (file : List ℕ) (packed : Bool) → packed ≡ true → is_packed (head_of file) ≡ packed → (pieces : List Piece) → ArePiecesIf packed file pieces → bytes_in pieces ≤ points_size file
bytes_if file true same is pieces are =
    let all : sum are.1 ≡ table_place file - chunks_place file = accepted_bytes (table_part file) (blocks_in (head_of file)) (table_place file - chunks_place file) are.0 are.1 are.2 in
    let here : points_size file ≡ table_place file - chunks_place file = ap (λ (b : Bool). cond b (table_place file - chunks_place file) (record_length_of (head_of file) * points_of (head_of file))) is in
    omega (arith, ap bytes_in are.3, bytes_from (chunks_place file) are.0 are.1, all, here)
bytes_if file false same is pieces are = absurd (cc)

-- ---- all inputs

module _ (known : FileMap) where
  one_read : (l : ListedInput) → IsOpen (Some known) l.input → IsRead known l
      → bytes_in l.pieces + asked_to_compare (finmap.get known l.input.name) ≤ asked_with_chunks (finmap.get known l.input.name)
  one_read l o r =
      let file = file_of known l.input.name in
      let held = read_held known l.input o in
      omega (
        arith,
        bytes_if file (is_packed (head_of file)) r.packed refl l.pieces r.are,
        ap asked_to_compare held,
        ap asked_with_chunks held,
      )

  pub copied_bytes : (listed : List ListedInput) → All (IsOpen (Some known)) (map (λ l. l.input) listed) → AllByRecursion (IsRead known) listed
      → sum_by (λ s. s.size) (map chunks_source listed) + asked_of_all asked_to_compare known (input_names (map (λ l. l.input) listed))
      ≤ asked_of_all asked_with_chunks known (input_names (map (λ l. l.input) listed))
  copied_bytes [] opened read = omega arith
  copied_bytes (l ∷ ls) opened read =
      let names = input_names (map (λ (x : ListedInput). x.input) ls) in
      let compare = λ (name : List ℕ). asked_to_compare (finmap.get known name) in
      let whole = λ (name : List ℕ). asked_with_chunks (finmap.get known name) in
      let size : SourceSeen → ℕ = λ s. s.size in
      omega (
        arith,
        one_read l (opened 0 l.input (omega arith)) read.0,
        sum_by-cons size (chunks_source l) (map chunks_source ls),
        sum-cons (compare l.input.name) (map compare names),
        sum-cons (whole l.input.name) (map whole names),
        copied_bytes ls (λ k d lt. opened (suc k) d (omega (arith, lt))) read.1,
      )

-- what is asked for to compare inputs is no more than what is asked for to read them
less_one : (o : Option (List ℕ)) → asked_to_compare o ≤ asked_with_chunks o
less_one None = omega arith
less_one (Some file) = omega arith

pub compared_less : (known : FileMap) (names : List (List ℕ)) → asked_of_all asked_to_compare known names ≤ asked_of_all asked_with_chunks known names
compared_less known [] = omega arith
compared_less known (name ∷ names) =
    let compare = λ (name : List ℕ). asked_to_compare (finmap.get known name) in
    let whole = λ (name : List ℕ). asked_with_chunks (finmap.get known name) in
    omega (arith, less_one (finmap.get known name), sum-cons (compare name) (map compare names), sum-cons (whole name) (map whole names), compared_less known names)
