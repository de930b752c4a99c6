-- A text that is put in pieces.
use Rattle.std.proofs.Common.{◌≡◌, ℕ, zero, suc, ◌+◌, ◌<◌, ◌≤◌, min, List, [], ◌∷◌, ◌++◌, length, get_or, take, drop, map, Option, Some, None, Bor, refl, sym, ◌∙◌, ap, append_assoc, arith}
use Rattle.std.specs.List.{concat}
use Rattle.std.proofs.lemmas.List.{append-nil, take_min, take-append-le}
use Rattle.std.proofs.Math.Seq.{take-append-add}
use Rattle.las_outside.specs.Sinks.{SinkView, written_after, with_more, with_fault}

-- the text of some pieces
abbrev pub text_of : List (Bor (List ℕ)) → List ℕ
text_of pieces = concat (map (λ piece. piece.now) pieces)

pub text_of_more : (pieces : List (Bor (List ℕ))) (i : ℕ) (d : Bor (List ℕ)) → i < length pieces → text_of (take (i + 1) pieces) ≡ text_of (take i pieces) ++ (get_or pieces i d).now
text_of_more [] i d within = absurd (omega arith)
text_of_more (p ∷ ps) zero d within = append-nil p.now
text_of_more (p ∷ ps) (suc i) d within =
    let next : suc i + 1 ≡ suc (i + 1) = omega arith in
    ap (λ (n : ℕ). text_of (take n (p ∷ ps))) next ∙ ap (λ (t : List ℕ). p.now ++ t) (text_of_more ps i d (omega (arith, within))) ∙ sym (append_assoc p.now (text_of (take i ps)) (get_or ps i d).now)

text_of_split : (pieces : List (Bor (List ℕ))) (i : ℕ) (d : Bor (List ℕ)) → i < length pieces → text_of pieces ≡ text_of (take i pieces) ++ ((get_or pieces i d).now ++ text_of (drop (suc i) pieces))
text_of_split [] i d within = absurd (omega arith)
text_of_split (p ∷ ps) zero d within = refl
text_of_split (p ∷ ps) (suc i) d within =
    ap (λ (t : List ℕ). p.now ++ t) (text_of_split ps i d (omega (arith, within))) ∙ sym (append_assoc p.now (text_of (take i ps)) ((get_or ps i d).now ++ text_of (drop (suc i) ps)))

written_after-twice : (written : Option (List ℕ)) (xs ys : List ℕ) → written_after (written_after written xs) ys ≡ written_after written (xs ++ ys)
written_after-twice None xs ys = refl
written_after-twice (Some written) xs ys = ap (λ (t : List ℕ). Some t) (append_assoc written xs ys)

written_after-none : (written : Option (List ℕ)) → written ≡ written_after written []
written_after-none None = refl
written_after-none (Some written) = ap (λ (t : List ℕ). Some t) (sym (append-nil written))

pub with_more-twice : (sink : SinkView) (xs ys : List ℕ) → with_more (with_more sink xs) ys ≡ with_more sink (xs ++ ys)
with_more-twice sink xs ys = ap (λ (w : Option (List ℕ)). let s : SinkView = record { written = w; faults = sink.faults } in s) (written_after-twice sink.written xs ys)

pub with_more-none : (sink : SinkView) → sink ≡ with_more sink []
with_more-none sink = ap (λ (w : Option (List ℕ)). let s : SinkView = record { written = w; faults = sink.faults } in s) (written_after-none sink.written)

-- some of a piece after those before it is a prefix of the whole text
pub prefix_of : (done piece rest : List ℕ) (n : ℕ) → done ++ take n piece ≡ take (length done + min n (length piece)) (done ++ (piece ++ rest))
prefix_of done piece rest n =
    let short : min n (length piece) ≤ length piece = omega arith in
    ap (λ (t : List ℕ). done ++ t) (sym (take_min n piece) ∙ sym (take-append-le (min n (length piece)) piece rest short)) ∙ sym (take-append-add done (piece ++ rest) (min n (length piece)))

-- one piece more was put
pub put_more : (pieces : List (Bor (List ℕ))) (i : ℕ) (d : Bor (List ℕ)) (old so_far new : SinkView) → i < length pieces → so_far ≡ with_more old (text_of (take i pieces)) → new ≡ with_more so_far (get_or pieces i d).now → new ≡ with_more old (text_of (take (i + 1) pieces))
put_more pieces i d old so_far new within was put =
    put ∙ ap (λ (s : SinkView). with_more s (get_or pieces i d).now) was ∙ with_more-twice old (text_of (take i pieces)) (get_or pieces i d).now ∙ ap (with_more old) (sym (text_of_more pieces i d within))

-- the text is cut off within a piece
pub cut_off : (pieces : List (Bor (List ℕ))) (i n : ℕ) (d : Bor (List ℕ)) (old so_far new : SinkView) → i < length pieces → so_far ≡ with_more old (text_of (take i pieces)) → new ≡ with_fault (with_more so_far (take n (get_or pieces i d).now))
    → (m : ℕ) × (new ≡ with_fault (with_more old (take m (text_of pieces))))
cut_off pieces i n d old so_far new within was put =
    let done = text_of (take i pieces) in
    let piece = (get_or pieces i d).now in
    let rest = text_of (drop (suc i) pieces) in
    let whole = prefix_of done piece rest n ∙ ap (λ (t : List ℕ). take (length done + min n (length piece)) t) (sym (text_of_split pieces i d within)) in (
      length done + min n (length piece),
      put ∙ ap (λ (s : SinkView). with_fault (with_more s (take n piece))) was ∙ ap with_fault (with_more-twice old done (take n piece) ∙ ap (with_more old) whole),
    )
