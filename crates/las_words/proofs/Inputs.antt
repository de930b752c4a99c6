-- The values of an option that is given again and again: what holds of them if no word is wrong.
use Rattle.std.proofs.Common.{◌≡◌, ◌≢◌, ℕ, zero, suc, ◌+◌, ◌≤◌, Bool, true, false, cond, ◌||◌, nat_lt, List, [], ◌∷◌, ◌++◌, length, drop, Option, Some, None, is_some, codes, get_or, refl, sym, ◌∙◌, ap, subst, arith, lit≤}
use Rattle.std.specs.Prelude.{All, find}
use Rattle.std.specs.List.{cons_option, count_by, list_any}
use Rattle.std.specs.Option.{option_map, option_map_or}
use Rattle.std.specs.Str.{bytes_eq}
use Rattle.std.proofs.lemmas.List.{drop-drop, get_or-drop}
use Rattle.std.proofs.lemmas.List.Elements.{All-cons, All-head, All-nil, All-tail}
use Rattle.std.proofs.lemmas.List.Sums.{sum_by-append}
use Rattle.std.proofs.lemmas.Slice.Eq.{bytes_eq-Decides}
use Rattle.std.proofs.lemmas.Bool.Decides.{nat_tests}
use Rattle.std.proofs.lemmas.Bool.{or_parts}
use Rattle.las_words.specs.declared.table.Tool.{Tool}
use Rattle.las_words.specs.declared.table.Tool.TheVariants.{Lasmerge}
use Rattle.las_words.specs.declared.table.Flag.{Flag}
use Rattle.las_words.specs.declared.table.Flag.TheVariants.{Inputs}
use Rattle.las_words.specs.declared.pieces.Piece.{Piece}
use Rattle.las_words.specs.Texts.{word_at}
use Rattle.las_words.specs.Table.{flag_named}
use Rattle.las_words.specs.Pieces.{values_after, cut_words}
use Rattle.las_words.specs.Faults.{word_fault_of, first_fault, option_fault}
use Rattle.las_words.specs.Settings.{is_given, text_given, texts_of}
use Rattle.las_words.proofs.Chosen.{no_fault, or_none}

abbrev Words : Type 0
Words = List (List ℕ)

-- ---- one value at least, and the first of them

some_by : (b : Bool) (piece : Piece) (rest : Option Piece) (text : List ℕ) (others : Words) → (is_some (option_map (λ q. q.at) rest) ≡ true → 1 ≤ length others)
    → is_some (option_map (λ q. q.at) (cond b (Some piece) rest)) ≡ true → 1 ≤ length (cons_option (cond b (Some text) None) others)
some_by true piece rest text others more given = omega arith
some_by false piece rest text others more given = more given

pub some_text : (words : Words) (name : List ℕ) (pieces : List Piece) → is_given words name pieces ≡ true → 1 ≤ length (texts_of words name pieces)
some_text words name [] given = cc
some_text words name (piece ∷ pieces) given =
    some_by (bytes_eq (word_at words piece.at) name) piece (find (λ q. bytes_eq (word_at words q.at) name) pieces) (word_at words (piece.at + 1)) (texts_of words name pieces) (some_text words name pieces) given

first_by : (words : Words) (p : List ℕ → Bool) (b : Bool) (piece : Piece) (rest : Option Piece) (others : Words)
    → (is_some (option_map (λ q. q.at) rest) ≡ true → list_any p others ≡ false → p (option_map_or (λ at. word_at words (at + 1)) (option_map (λ q. q.at) rest) []) ≡ false)
    → is_some (option_map (λ q. q.at) (cond b (Some piece) rest)) ≡ true → list_any p (cons_option (cond b (Some (word_at words (piece.at + 1))) None) others) ≡ false
    → p (option_map_or (λ at. word_at words (at + 1)) (option_map (λ q. q.at) (cond b (Some piece) rest)) []) ≡ false
first_by words p true piece rest others more given none = (or_parts (p (word_at words (piece.at + 1))) (list_any p others) none).0
first_by words p false piece rest others more given none = more given none

-- what holds of no value does not hold of the first
pub first_text : (words : Words) (name : List ℕ) (pieces : List Piece) (p : List ℕ → Bool) → is_given words name pieces ≡ true → list_any p (texts_of words name pieces) ≡ false → p (text_given words name pieces) ≡ false
first_text words name [] p given none = cc
first_text words name (piece ∷ pieces) p given none =
    first_by words p (bytes_eq (word_at words piece.at) name) piece (find (λ q. bytes_eq (word_at words q.at) name) pieces) (texts_of words name pieces) (first_text words name pieces p) given none

-- words that are not equal are others
pub unequal : (a b : List ℕ) → bytes_eq a b ≡ false → b ≢ a
unequal a b none same = let equal : bytes_eq a b ≡ true = (bytes_eq-Decides a b).1 (sym same) in cc

pub none_is : (word : List ℕ) (others : Words) → list_any (bytes_eq word) others ≡ false → All (λ other. other ≢ word) others
none_is word [] none = All-nil (λ other. other ≢ word)
none_is word (other ∷ others) none =
    let both = or_parts (bytes_eq word other) (list_any (bytes_eq word) others) none in
    All-cons (λ other. other ≢ word) other others (unequal word other both.0) (none_is word others both.1)

-- ---- pieces have the options that their words name

abbrev pub IsNamed : Tool → Words → Piece → Type 0
IsNamed tool words piece = piece.flag ≡ flag_named tool (word_at words piece.at)

pub cut_named : (tool : Tool) (words : Words) (at skip : ℕ) (rest : Words) → rest ≡ drop at words → All (IsNamed tool words) (cut_words tool at skip rest)
cut_named tool words at skip [] are = All-nil (IsNamed tool words)
cut_named tool words at zero (word ∷ rest) are =
    let place : at + 0 ≡ at = omega arith in
    let here : word ≡ word_at words at = ap (λ (l : Words). get_or l 0 []) are ∙ get_or-drop at words 0 [] ∙ ap (λ (k : ℕ). get_or words k []) place in
    All-cons (IsNamed tool words) (record { at = at; flag = flag_named tool word }) (cut_words tool (at + 1) (values_after (flag_named tool word) rest) rest)
    (ap (flag_named tool) here) (cut_named tool words (at + 1) (values_after (flag_named tool word) rest) rest (ap (drop 1) are ∙ drop-drop 1 at words))
cut_named tool words at (suc skip) (word ∷ rest) are = cut_named tool words (at + 1) skip rest (ap (drop 1) are ∙ drop-drop 1 at words)

-- ---- at most 32 inputs

abbrev is_input : Words → Piece → Bool
is_input words piece = list_any (bytes_eq (word_at words piece.at)) (codes "-i" ∷ [])

abbrev inputs_in : Words → List Piece → ℕ
inputs_in words pieces = count_by (is_input words) pieces

one_more : (words : Words) (piece : Piece) (pieces : List Piece) → inputs_in words (piece ∷ pieces) ≡ cond (is_input words piece) 1 0 + inputs_in words pieces
one_more words piece pieces =
    let split : inputs_in words (piece ∷ pieces) ≡ 0 + cond (is_input words piece) 1 0 + inputs_in words pieces = sum_by-append (λ (p : Piece). cond (is_input words p) 1 0) (piece ∷ []) pieces in
    omega (arith, split)

counted_by : (b : Bool) (text : List ℕ) (others : Words) (count : ℕ) → length others ≡ count → length (cons_option (cond b (Some text) None) others) ≡ cond (b || false) 1 0 + count
counted_by true text others count is = omega (arith, is)
counted_by false text others count is = omega (arith, is)

inputs_counted : (words : Words) (pieces : List Piece) → length (texts_of words (codes "-i") pieces) ≡ inputs_in words pieces
inputs_counted words [] = refl
inputs_counted words (piece ∷ pieces) =
    counted_by (bytes_eq (word_at words piece.at) (codes "-i")) (word_at words (piece.at + 1)) (texts_of words (codes "-i") pieces) (inputs_in words pieces) (inputs_counted words pieces)
    ∙ sym (one_more words piece pieces)

-- an input that is no fault follows 31 at most
room_by : (names words : Words) (earlier : List Piece) (at : ℕ) (flag : Option Flag) → flag ≡ Some Inputs → option_fault names words earlier at flag ≡ None → inputs_in words earlier ≤ 31
room_by names words earlier at None is none = cc
room_by names words earlier at (Some flag) is none =
    let same : flag ≡ Inputs = cc in
    let P : Flag → Type 0 = λ f. option_fault names words earlier at (Some f) ≡ None in
    let tests = no_fault (nat_lt 31 (inputs_in words earlier)) at _ (subst P same none) in
    let test = tests.0 in
    grind (arith, nat_tests)

room : (names words : Words) (earlier : List Piece) (piece : Piece) → IsNamed Lasmerge words piece → word_fault_of names words earlier piece ≡ None → inputs_in words earlier ≤ 32
    → inputs_in words earlier + cond (is_input words piece) 1 0 ≤ 32
room names words earlier piece named none few = by (bytes_eq (word_at words piece.at) (codes "-i")) refl
  where
    by : (b : Bool) → bytes_eq (word_at words piece.at) (codes "-i") ≡ b → inputs_in words earlier + cond (b || false) 1 0 ≤ 32
    by false is = omega (arith, few)
    by true is =
        let word : word_at words piece.at ≡ codes "-i" = (bytes_eq-Decides (word_at words piece.at) (codes "-i")).0 is in
        let flag : piece.flag ≡ Some Inputs = named ∙ ap (flag_named Lasmerge) word in
        let less = room_by names words earlier piece.at piece.flag flag none in
        omega arith

inputs_few : (names words : Words) (earlier pieces : List Piece) → All (IsNamed Lasmerge words) pieces → first_fault names words earlier pieces ≡ None → inputs_in words earlier ≤ 32
    → inputs_in words earlier + inputs_in words pieces ≤ 32
inputs_few names words earlier [] named none few = omega arith
inputs_few names words earlier (piece ∷ pieces) named none few =
    let both = or_none (word_fault_of names words earlier piece) (first_fault names words (earlier ++ piece ∷ []) pieces) none in
    let one = room names words earlier piece (All-head (IsNamed Lasmerge words) piece pieces named) both.0 few in
    let pushed : inputs_in words (earlier ++ piece ∷ []) ≡ inputs_in words earlier + (0 + cond (is_input words piece) 1 0) = sum_by-append (λ (p : Piece). cond (is_input words p) 1 0) earlier (piece ∷ []) in
    let rest = inputs_few names words (earlier ++ piece ∷ []) pieces (All-tail (IsNamed Lasmerge words) piece pieces named) both.1 (omega (arith, pushed)) in
    omega (arith, pushed, one_more words piece pieces)

pub few_inputs : (names words : Words) (pieces : List Piece) → All (IsNamed Lasmerge words) pieces → first_fault names words [] pieces ≡ None → length (texts_of words (codes "-i") pieces) ≤ 32
few_inputs names words pieces named none = let h = inputs_few names words [] pieces named none (lit≤ tt) in omega (arith, inputs_counted words pieces)
