-- Bytes of a file that are read on.
use Rattle.std.proofs.Common.{◌≡◌, ℕ, ◌+◌, ◌-◌, ◌≤◌, List, ◌++◌, length, take, drop, sym, ◌∙◌, ap, arith}
use Rattle.std.proofs.lemmas.List.{drop-drop, take-append-drop, take_at}
use Rattle.std.proofs.Math.Seq.{take-add}

-- the first bytes stay, and the rest is read after them
pub read_more : (old all more buffer file : List ℕ) (from start total len : ℕ) → length all ≡ total → len ≡ total → start ≤ total → take start all ≡ take start buffer → take start buffer ≡ old
    → drop start all ≡ take (total - start) (drop (from + start) file) → old ≡ take start (drop from file) → take len (all ++ more) ≡ take total (drop from file)
read_more old all more buffer file from start total len long same le front kept rest was =
    let whole = drop from file in
    let split : start + (total - start) ≡ total = omega arith in
    take_at all more len (long ∙ sym same) ∙ sym (take-append-drop start all)
    ∙ ap (λ (t : List ℕ). t ++ drop start all) (front ∙ kept ∙ was)
    ∙ ap (λ (t : List ℕ). take start whole ++ t) (rest ∙ ap (take (total - start)) (sym (drop-drop start from file)))
    ∙ sym (take-add start (total - start) whole) ∙ ap (λ (n : ℕ). take n whole) split
