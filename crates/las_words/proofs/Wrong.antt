-- The first value that is wrong, one value at a time.
use Rattle.std.proofs.Common.{◌≡◌, ℕ, zero, suc, ◌+◌, ◌-◌, ◌<◌, ◌≤◌, Bool, true, false, cond, List, [], ◌∷◌, length, drop, Option, Some, refl, sym, ◌∙◌, ap, arith, String, Global}
use Rattle.las_words.specs.declared.table.Values.{Values}
use Rattle.las_words.specs.Texts.{texts, word_at}
use Rattle.las_words.specs.Faults.{fits, first_wrong}
use Rattle.las_words.proofs.Cutting.{next_word, no_word}

missing : (names : List (List ℕ)) (values : Values) (at count : ℕ) → 0 < count → first_wrong names values at count [] ≡ Some at
missing names values at zero some = absurd (omega arith)
missing names values at (suc count) some = refl

wrong : (names : List (List ℕ)) (values : Values) (at count : ℕ) (word : List ℕ) (rest : List (List ℕ)) → 0 < count → fits names values word ≡ false → first_wrong names values at count (word ∷ rest) ≡ Some at
wrong names values at zero word rest some unfit = absurd (omega arith)
wrong names values at (suc count) word rest some unfit = ap (λ (b : Bool). cond b (first_wrong names values (at + 1) count rest) (Some at)) unfit

right : (names : List (List ℕ)) (values : Values) (at count : ℕ) (word : List ℕ) (rest : List (List ℕ)) → 0 < count → fits names values word ≡ true → first_wrong names values at count (word ∷ rest) ≡ first_wrong names values (at + 1) (count - 1) rest
right names values at zero word rest some fit = absurd (omega arith)
right names values at (suc count) word rest some fit =
    ap (λ (b : Bool). cond b (first_wrong names values (at + 1) count rest) (Some at)) fit
    ∙ ap (λ (n : ℕ). first_wrong names values (at + 1) n rest) (omega arith)

pub missing_here : (names : List (List ℕ)) (values : Values) (at count k : ℕ) (words : List (String Global)) (all : Option ℕ) → k < count → length words ≤ k
    → first_wrong names values (at + k) (count - k) (drop k (texts words)) ≡ all → Some (at + k) ≡ all
missing_here names values at count k words all more past so_far =
    sym (ap (first_wrong names values (at + k) (count - k)) (no_word words k past) ∙ missing names values (at + k) (count - k) (omega arith)) ∙ so_far

pub wrong_here : (names : List (List ℕ)) (values : Values) (at count k : ℕ) (words : List (String Global)) (all : Option ℕ) → k < count → k < length words → fits names values (word_at (texts words) k) ≡ false
    → first_wrong names values (at + k) (count - k) (drop k (texts words)) ≡ all → Some (at + k) ≡ all
wrong_here names values at count k words all more within unfit so_far =
    sym (ap (first_wrong names values (at + k) (count - k)) (next_word words k within) ∙ wrong names values (at + k) (count - k) _ _ (omega arith) unfit) ∙ so_far

pub right_here : (names : List (List ℕ)) (values : Values) (at count k : ℕ) (words : List (String Global)) (all : Option ℕ) → k < count → k < length words → fits names values (word_at (texts words) k) ≡ true
    → first_wrong names values (at + k) (count - k) (drop k (texts words)) ≡ all → first_wrong names values (at + (k + 1)) (count - (k + 1)) (drop (k + 1) (texts words)) ≡ all
right_here names values at count k words all more within fit so_far =
    let place : at + (k + 1) ≡ at + k + 1 = omega arith in
    let left : count - (k + 1) ≡ count - k - 1 = omega arith in
    ap (λ (n : ℕ). first_wrong names values n (count - (k + 1)) (drop (k + 1) (texts words))) place
    ∙ ap (λ (n : ℕ). first_wrong names values (at + k + 1) n (drop (k + 1) (texts words))) left
    ∙ sym (ap (first_wrong names values (at + k) (count - k)) (next_word words k within) ∙ right names values (at + k) (count - k) _ _ (omega arith) fit)
    ∙ so_far
