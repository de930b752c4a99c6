-- Blocks that are read one batch after another.
use Rattle.std.proofs.Common.{◌≡◌, ℕ, zero, suc, ◌+◌, List, [], ◌∷◌, ◌++◌, take, drop, Some, None, refl, sym, ◌∙◌, ap, subst, zero-add, arith}
use Rattle.std.specs.Prelude.{slice_get}
use Rattle.std.proofs.lemmas.List.{take-append-drop}
use Rattle.std.proofs.Math.Seq.{take-add}
use Rattle.laz_forms.specs.Pieces.{Piece}
use Rattle.laz_forms.specs.Records.{HoldBlocks}
use Rattle.laz_reader.specs.Reading.{BatchesJoin}

pub hold-append : (file : List ℕ) (pieces others : List Piece) (blocks more : List (List ℕ)) → HoldBlocks file pieces blocks → HoldBlocks file others more → HoldBlocks file (pieces ++ others) (blocks ++ more)
hold-append file [] others [] more h k = k
hold-append file [] others (b ∷ blocks) more h k = absurd h
hold-append file (p ∷ pieces) others [] more h k = absurd h
hold-append file (p ∷ pieces) others (b ∷ blocks) more h k = (h.0, hold-append file pieces others blocks more h.1 k)

slice_get-drop : (n i : ℕ) (pieces : List Piece) → slice_get (drop n pieces) i ≡ slice_get pieces (n + i)
slice_get-drop zero i pieces = ap (slice_get pieces) (sym (zero-add i))
slice_get-drop (suc n) i [] = refl
slice_get-drop (suc n) i (p ∷ pieces) = let e : suc (n + i) ≡ suc n + i = omega arith in slice_get-drop n i pieces ∙ ap (slice_get (p ∷ pieces)) e

-- the first of what is left after n
pub slice_get-first : (n : ℕ) (ps : List Piece) → slice_get (drop n ps) 0 ≡ slice_get ps n
slice_get-first zero ps = refl
slice_get-first (suc n) [] = refl
slice_get-first (suc n) (p ∷ ps) = slice_get-first n ps

pub joined : BatchesJoin
joined file pieces n blocks more None h k =
    let P : List Piece → Type 0 = λ l. HoldBlocks file l (blocks ++ more) in
    subst P (take-append-drop n pieces) (hold-append file (take n pieces) (drop n pieces) blocks more h k)
joined file pieces n blocks more (Some i) h k =
    let P : List Piece → Type 0 = λ l. HoldBlocks file l (blocks ++ more) in (
      subst P (sym (take-add n i pieces)) (hold-append file (take n pieces) (take i (drop n pieces)) blocks more h k.0),
      (k.1.0, sym (slice_get-drop n i pieces) ∙ k.1.1, k.1.2),
    )
