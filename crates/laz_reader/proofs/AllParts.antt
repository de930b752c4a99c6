-- All records of a file are those of its pieces.
use Rattle.std.proofs.Common.{◌≡◌, inl, inr, ℕ, zero, suc, ◌+◌, ◌*◌, ◌-◌, ◌<◌, ◌≤◌, min, Bool, true, false, List, [], map, refl, sym, ◌∙◌, ap, subst, arith}
use Rattle.std.specs.Prelude.{All, sum}
use Rattle.std.specs.List.{range_with_len}
use Rattle.std.proofs.Math.Nat.{div-zero}
use Rattle.std.proofs.lemmas.Bool.{cases_lt}
use Rattle.std.proofs.lemmas.List.Elements.{All-cons, All-nil}
use Rattle.las_header.specs.Fields.{head_of, is_packed, point_offset_of, points_of, record_length_of}
use Rattle.laz_table.specs.declared.chunks.Blocks.{Blocks}
use Rattle.laz_table.specs.declared.chunks.Blocks.TheVariants.{Fixed, Counted}
use Rattle.laz_table.specs.Chunks.{HasChunkSize, IsAccepted, fixed_sizes}
use Rattle.laz_table.specs.VlrCauses.{chunk_count, chunk_size_of}
use Rattle.laz_forms.specs.Pieces.{ArePieces, ArePiecesIf, Piece, pieces_from, plain_from}
use Rattle.laz_forms.specs.Ranges.{first_if, first_in, first_of, parts_if, parts_in, parts_of, whole_range}
use Rattle.laz_reader.specs.Reading.{points_listed}
use Rattle.laz_forms.specs.Refusing.{blocks_in, chunks_place}
use Rattle.laz_reader.proofs.Accepting.{points_as}
use Rattle.laz_forms.proofs.Public.{count-few}
use Rattle.laz_reader.proofs.Parts.{all_first, all_parts}
use Rattle.laz_reader.proofs.TableFront.{accepted_points, points_summed}

-- each chunk of an accepted table has a record
fixed-some : (chunk points k n : ℕ) → 1 ≤ chunk → chunk * (k + n) < points + chunk → All (λ m. 0 < m) (map (λ i. min chunk (points - chunk * i)) (range_with_len k n))
fixed-some chunk points k zero some within = All-nil (λ m. 0 < m)
fixed-some chunk points k (suc n) some within =
    let more : chunk * k + chunk * n < points = omega (arith, within) in
    All-cons (λ m. 0 < m) (min chunk (points - chunk * k)) (map (λ i. min chunk (points - chunk * i)) (range_with_len (k + 1) n)) (omega (arith, some, more))
    (fixed-some chunk points (k + 1) n some (omega (arith, within)))

pub accepted_some : (bytes : List ℕ) (blocks : Blocks) (total : ℕ) (sizes counts : List ℕ) → HasChunkSize blocks → IsAccepted bytes blocks total sizes counts → All (λ n. 0 < n) sizes
accepted_some bytes (Fixed chunk points) total sizes counts some a =
    subst (λ (l : List ℕ). All (λ n. 0 < n) l) (sym a.sizes_are) (fixed-some chunk points 0 (chunk_count points chunk) (omega (arith, some)) (omega (arith, count-few points chunk (omega (arith, some)))))
accepted_some bytes (Counted points) total sizes counts some a =
    subst (λ (l : List ℕ). All (λ n. 0 < n) l) (sym a.sizes_are)
    (λ k d lt. elim (cases_lt 0 _) [
      | inl one ↦ one
      | inr none ↦ absurd (points_summed bytes (Counted points) total a.fine (a.coded, counts, a.table, λ are. let one = (are.0 k d lt).0 in absurd (omega (arith, one, none))))
    ])

-- they have as many as the head counts, or there are none
no_sizes : (points : ℕ) → fixed_sizes 0 points ≡ []
no_sizes points = ap (λ (n : ℕ). map (λ i. min 0 (points - 0 * i)) (range_with_len 0 n)) (div-zero (points + 0 - 1))

both : (bytes : List ℕ) (blocks : Blocks) (total : ℕ) (sizes counts : List ℕ) → IsAccepted bytes blocks total sizes counts → All (λ n. 0 < n) sizes × (sum sizes ≤ points_listed blocks)
both bytes (Counted points) total sizes counts a = (accepted_some bytes (Counted points) total sizes counts tt a, omega (arith, accepted_points bytes (Counted points) total sizes counts tt a))
both bytes (Fixed zero points) total sizes counts a =
    let none : sizes ≡ [] = a.sizes_are ∙ no_sizes points in
    (subst (λ (l : List ℕ). All (λ n. 0 < n) l) (sym none) (All-nil (λ n. 0 < n)), omega (arith, ap (λ (l : List ℕ). sum l) none))
both bytes (Fixed (suc chunk) points) total sizes counts a =
    let one : 0 < suc chunk = omega arith in
    (accepted_some bytes (Fixed (suc chunk) points) total sizes counts one a, omega (arith, accepted_points bytes (Fixed (suc chunk) points) total sizes counts one a))

-- the parts of all records are the pieces, and the first is the first of all
all_if : (packed : Bool) (file : List ℕ) (pieces : List Piece) → ArePiecesIf packed file pieces
    → (parts_if packed (head_of file) (point_offset_of file) (whole_range (head_of file)) pieces ≡ pieces) × (first_if packed (whole_range (head_of file)) pieces ≡ 0)
all_if true file pieces are =
    let b = both _ (blocks_in (head_of file)) _ are.0 are.1 are.2 in
    let few : sum are.0 ≤ points_of (head_of file) = omega (arith, b.1, points_as (chunk_size_of (head_of file)) (points_of (head_of file))) in
    let from = pieces_from (chunks_place file) are.0 are.1 in (
      subst (λ (ps : List Piece). parts_in (whole_range (head_of file)) 0 ps ≡ ps) (sym are.3) (all_parts (whole_range (head_of file)) (chunks_place file) are.0 are.1 refl b.0 few),
      subst (λ (ps : List Piece). first_in (whole_range (head_of file)) 0 ps ≡ 0) (sym are.3) (all_first (whole_range (head_of file)) (chunks_place file) are.0 are.1 refl b.0 few),
    )
all_if false file pieces are =
    let size = record_length_of (head_of file) in
    let at : point_offset_of file + size * 0 ≡ point_offset_of file = omega arith in
    let points : points_of (head_of file) - 0 ≡ points_of (head_of file) = omega arith in
    (ap (λ (n : ℕ). plain_from size n (points_of (head_of file) - 0)) at ∙ ap (plain_from size (point_offset_of file)) points ∙ sym are, refl)

pub all_of : (file : List ℕ) (pieces : List Piece) → ArePieces file pieces → (parts_of file (whole_range (head_of file)) pieces ≡ pieces) × (first_of file (whole_range (head_of file)) pieces ≡ 0)
all_of file pieces are = all_if (is_packed (head_of file)) file pieces are
