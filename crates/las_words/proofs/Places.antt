-- The places of a range of records: what holds of them if no word is wrong.
use Rattle.std.proofs.Common.{◌≡◌, ◌⊎◌, inl, inr, ℕ, ◌+◌, ◌≤◌, Bool, true, false, cond, nat_lt, List, [], ◌∷◌, ◌++◌, Option, Some, None, codes, refl, sym, ◌∙◌, ap, subst, append_assoc, append-nil, arith, lit≤}
use Rattle.std.specs.Prelude.{All, find}
use Rattle.std.specs.Option.{option_map, option_map_or, option_or}
use Rattle.std.specs.Str.{bytes_eq}
use Rattle.std.proofs.lemmas.Bool.Decides.{nat_tests}
use Rattle.std.proofs.lemmas.List.Elements.{All-head, All-tail}
use Rattle.std.proofs.lemmas.Slice.Eq.{bytes_eq-Decides}
use Rattle.las_words.specs.declared.table.Tool.TheVariants.{Las2las}
use Rattle.las_words.specs.declared.table.Flag.{Flag}
use Rattle.las_words.specs.declared.table.Flag.TheVariants.{StartAtPoint, StopAtPoint}
use Rattle.las_words.specs.declared.pieces.Piece.{Piece}
use Rattle.las_words.specs.Texts.{word_at}
use Rattle.las_words.specs.Table.{flag_named}
use Rattle.las_words.specs.Faults.{crossed, word_fault_of, first_fault, follows_too_many, option_fault}
use Rattle.las_words.specs.Settings.{number_said, start_of, stop_given, text_given}
use Rattle.las_words.proofs.Chosen.{no_fault, or_none}
use Rattle.las_words.proofs.Inputs.{IsNamed}

abbrev Words : Type 0
Words = List (List ℕ)

-- ---- one option more: the first value of a name is as before, or the option's
abbrev is_of : Words → List ℕ → Piece → Bool
is_of words name piece = bytes_eq (word_at words piece.at) name

abbrev IsPushed : (words : Words) (name : List ℕ) (piece : Piece) (before now : List ℕ) → Type 0
IsPushed words name piece before now = (now ≡ before) ⊎ ((is_of words name piece ≡ true) × (now ≡ word_at words (piece.at + 1)))

abbrev value_in : Words → Option Piece → List ℕ
value_in words found = option_map_or (λ at. word_at words (at + 1)) (option_map (λ (q : Piece). q.at) found) []

last_by : (words : Words) (name : List ℕ) (piece : Piece) (b : Bool) → is_of words name piece ≡ b → IsPushed words name piece [] (value_in words (cond b (Some piece) None))
last_by words name piece true is = inr (is, refl)
last_by words name piece false is = inl refl

more_by : (words : Words) (name : List ℕ) (piece first : Piece) (b : Bool) (before now : Option Piece) → IsPushed words name piece (value_in words before) (value_in words now)
    → IsPushed words name piece (value_in words (cond b (Some first) before)) (value_in words (cond b (Some first) now))
more_by words name piece first true before now pushed = inl refl
more_by words name piece first false before now pushed = pushed

text_pushed : (words : Words) (name : List ℕ) (earlier : List Piece) (piece : Piece) → IsPushed words name piece (text_given words name earlier) (text_given words name (earlier ++ piece ∷ []))
text_pushed words name [] piece = last_by words name piece (is_of words name piece) refl
text_pushed words name (first ∷ earlier) piece =
    more_by words name piece first (is_of words name first) (find (is_of words name) earlier) (find (is_of words name) (earlier ++ piece ∷ [])) (text_pushed words name earlier piece)

-- ---- the start is not above the stop
abbrev AreInOrder : Words → List Piece → Type 0
AreInOrder words pieces = start_of words pieces ≤ stop_given words pieces

-- an option of a name that is no fault does not cross the one before it
not_crossed : (names words : Words) (earlier : List Piece) (at : ℕ) (flag : Option Flag) (own : Flag) → flag ≡ Some own → option_fault names words earlier at flag ≡ None → crossed words earlier own (at + 1) ≡ None
not_crossed names words earlier at None own is none = cc
not_crossed names words earlier at (Some flag) own is none =
    let same : flag ≡ own = cc in
    let after = no_fault (follows_too_many words earlier flag) at (option_or _ (crossed words earlier flag (at + 1))) none in
    subst (λ (f : Flag). crossed words earlier f (at + 1) ≡ None) same (or_none _ (crossed words earlier flag (at + 1)) after.1).1

not_less : (a b at : ℕ) → cond (nat_lt a b) (Some at) None ≡ None → b ≤ a
not_less a b at is = let less = (no_fault (nat_lt a b) at None is).0 in grind (arith, nat_tests)

flag_is : (words : Words) (piece : Piece) (name : List ℕ) (own : Flag) → IsNamed Las2las words piece → is_of words name piece ≡ true → flag_named Las2las name ≡ Some own → piece.flag ≡ Some own
flag_is words piece name own named is flag = named ∙ ap (flag_named Las2las) ((bytes_eq-Decides (word_at words piece.at) name).0 is) ∙ flag

-- one option more, by the values that are found now
in_order_by : (names words : Words) (earlier : List Piece) (piece : Piece) (start stop : List ℕ) → IsNamed Las2las words piece → word_fault_of names words earlier piece ≡ None → AreInOrder words earlier
    → IsPushed words (codes "-start_at_point") piece (text_given words (codes "-start_at_point") earlier) start
    → IsPushed words (codes "-stop_at_point") piece (text_given words (codes "-stop_at_point") earlier) stop
    → number_said StartAtPoint 0 start ≤ number_said StopAtPoint 4294967295 stop
in_order_by names words earlier piece start stop named none order (inl s) (inl e) =
    let low : number_said StartAtPoint 0 start ≡ start_of words earlier = ap (number_said StartAtPoint 0) s in
    let high : number_said StopAtPoint 4294967295 stop ≡ stop_given words earlier = ap (number_said StopAtPoint 4294967295) e in
    omega (arith, low, high, order)
in_order_by names words earlier piece start stop named none order (inr s) (inl e) =
    let low : number_said StartAtPoint 0 start ≡ number_said StartAtPoint 0 (word_at words (piece.at + 1)) = ap (number_said StartAtPoint 0) s.1 in
    let high : number_said StopAtPoint 4294967295 stop ≡ stop_given words earlier = ap (number_said StopAtPoint 4294967295) e in
    let flag = flag_is words piece (codes "-start_at_point") StartAtPoint named s.0 refl in
    let least = not_less _ _ (piece.at + 1) (not_crossed names words earlier piece.at piece.flag StartAtPoint flag none) in
    omega (arith, low, high, least)
in_order_by names words earlier piece start stop named none order (inl s) (inr e) =
    let low : number_said StartAtPoint 0 start ≡ start_of words earlier = ap (number_said StartAtPoint 0) s in
    let high : number_said StopAtPoint 4294967295 stop ≡ number_said StopAtPoint 4294967295 (word_at words (piece.at + 1)) = ap (number_said StopAtPoint 4294967295) e.1 in
    let flag = flag_is words piece (codes "-stop_at_point") StopAtPoint named e.0 refl in
    let least = not_less _ _ (piece.at + 1) (not_crossed names words earlier piece.at piece.flag StopAtPoint flag none) in
    omega (arith, low, high, least)
in_order_by names words earlier piece start stop named none order (inr s) (inr e) =
    let word = word_at words piece.at in
    let is_start : word ≡ codes "-start_at_point" = (bytes_eq-Decides word (codes "-start_at_point")).0 s.0 in
    let clash : false ≡ true = ap (λ (w : List ℕ). bytes_eq w (codes "-stop_at_point")) (sym is_start) ∙ e.0 in
    absurd (cc)

in_order_after : (names words : Words) (earlier pieces : List Piece) → All (IsNamed Las2las words) pieces → first_fault names words earlier pieces ≡ None → AreInOrder words earlier → AreInOrder words (earlier ++ pieces)
in_order_after names words earlier [] named none order = subst (AreInOrder words) (sym (append-nil earlier)) order
in_order_after names words earlier (piece ∷ pieces) named none order =
    let both = or_none (word_fault_of names words earlier piece) (first_fault names words (earlier ++ piece ∷ []) pieces) none in
    let more = in_order_by names words earlier piece _ _ (All-head (IsNamed Las2las words) piece pieces named) both.0 order
    (text_pushed words (codes "-start_at_point") earlier piece) (text_pushed words (codes "-stop_at_point") earlier piece) in
    subst (AreInOrder words) (append_assoc earlier (piece ∷ []) pieces) (in_order_after names words (earlier ++ piece ∷ []) pieces (All-tail (IsNamed Las2las words) piece pieces named) both.1 more)

pub in_order : (names words : Words) (pieces : List Piece) → All (IsNamed Las2las words) pieces → first_fault names words [] pieces ≡ None → start_of words pieces ≤ stop_given words pieces
in_order names words pieces named none = in_order_after names words [] pieces named none (lit≤ tt)
