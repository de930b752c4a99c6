-- Loops over items that gather what a function gives of each, or look for one: what one item adds.
use Rattle.std.proofs.Common.{◌≡◌, ℕ, ◌+◌, ◌<◌, Bool, true, false, cond, ◌||◌, List, [], ◌∷◌, ◌++◌, length, get_or}
use Rattle.std.proofs.Common.{drop, Option, Some, None, is_some, refl, sym, ◌∙◌, ap, append_assoc, append-nil, add-one}
use Rattle.std.proofs.Common.{drop-cons, arith}
use Rattle.std.specs.Prelude.{find}
use Rattle.std.specs.List.{cons_option, filter_map, list_any}
use Rattle.std.proofs.lemmas.Bool.{false≢true}
use Rattle.std.proofs.lemmas.List.{get_or-drop}
use Rattle.las_words.specs.declared.table.Flag.{Flag}
use Rattle.las_words.specs.Table.{OptionMeaning, Setting, Filters, Changes, TallyNames, row_of}
use Rattle.std.specs.Str.{bytes_eq}
use Rattle.las_words.specs.declared.pieces.Piece.{Piece}
use Rattle.las_words.specs.Settings.{value_by}
use Rattle.las_words.specs.Tallies.{tally_by, tally_in}
use Rattle.las_words.specs.Texts.{word_at}

-- the value that an item gives, if any, stands before those of the rest
one_then :
    {Y : Type 0} (given : Option Y) (found rest : List Y) → (found ++ cons_option given []) ++ rest ≡ found ++
    cons_option given rest
one_then None found rest = ap (λ (ys : List _). ys ++ rest) (append-nil found)
one_then (Some y) found rest = append_assoc found (y ∷ []) rest

-- what is gathered from an index on
rest_is :
    {X Y : Type 0} (h : X → Option Y) (xs : List X) (k : ℕ) (d : X) → k < length xs →
    filter_map h (drop k xs) ≡ cons_option (h (get_or xs k d)) (filter_map h (drop (k + 1) xs))
rest_is h xs k d within =
    ap (filter_map h) (drop-cons xs k d within) ∙ ap
    (λ (j : ℕ). cons_option (h (get_or xs k d)) (filter_map h (drop j xs))) (sym (add-one k))

-- what the item at an index adds
pub gathered :
    {X Y : Type 0} (h : X → Option Y) (xs : List X) (k : ℕ) (d : X) (given : Option Y) (found now all : List Y) →
    k < length xs → h (get_or xs k d) ≡ given → now ≡ found ++ cons_option given [] → found ++
    filter_map h (drop k xs) ≡ all → now ++ filter_map h (drop (k + 1) xs) ≡ all
gathered h xs k d given found now all within is more sofar =
    let rest = filter_map h (drop (k + 1) xs) in
    ap (λ (ys : List _). ys ++ rest) more ∙ one_then given found rest
    ∙ ap (λ (o : Option _). found ++ cons_option o rest) (sym is)
    ∙ ap (λ (ys : List _). found ++ ys) (sym (rest_is h xs k d within))
    ∙ sofar

-- ---- a test of what is gathered

-- the item gives none
pub none_here :
    {X Y : Type 0} (p : Y → Bool) (h : X → Option Y) (xs : List X) (k : ℕ) (d : X) → k < length xs →
    h (get_or xs k d) ≡ None → list_any p (filter_map h (drop (k + 1) xs)) ≡ list_any p (filter_map h (drop k xs))
none_here p h xs k d within is =
    let rest = filter_map h (drop (k + 1) xs) in
    sym (ap (list_any p) (rest_is h xs k d within) ∙ ap (λ (o : Option _). list_any p (cons_option o rest)) is)

-- it does not hold of the value that the item gives
pub not_here :
    {X Y : Type 0} (p : Y → Bool) (h : X → Option Y) (xs : List X) (k : ℕ) (d : X) (y : Y) → k < length xs →
    h (get_or xs k d) ≡ Some y → p y ≡ false → list_any p (filter_map h (drop (k + 1) xs)) ≡ list_any p
    (filter_map h (drop k xs))
not_here p h xs k d y within is not =
    let rest = filter_map h (drop (k + 1) xs) in
    sym (ap (list_any p) (rest_is h xs k d within) ∙ ap (λ (o : Option _). list_any p (cons_option o rest)) is ∙
    ap (λ (b : Bool). b || list_any p rest) not)

-- ---- the tallies

-- an option that names one gives the word after it
tally_given :
    (means : OptionMeaning) (after : List (List ℕ)) → is_some (tally_by means []) ≡ true →
    tally_by means after ≡ Some (word_at after 0)
tally_given TallyNames after is = refl
tally_given Setting after is = absurd (false≢true is)
tally_given (Filters _) after is = absurd (false≢true is)
tally_given (Changes _) after is = absurd (false≢true is)

pub tally_is :
    (flag : Option Flag) (after : List (List ℕ)) → is_some (tally_in flag []) ≡ true →
    tally_in flag after ≡ Some (word_at after 0)
tally_is None after is = absurd (false≢true is)
tally_is (Some flag) after is = tally_given (row_of flag).means after is

-- another one gives none
none_given :
    (means : OptionMeaning) (after : List (List ℕ)) → is_some (tally_by means []) ≡ false → tally_by means after ≡ None
none_given TallyNames after is = absurd (false≢true (sym is))
none_given Setting after is = refl
none_given (Filters _) after is = refl
none_given (Changes _) after is = refl

pub none_is :
    (flag : Option Flag) (after : List (List ℕ)) → is_some (tally_in flag []) ≡ false → tally_in flag after ≡ None
none_is None after is = refl
none_is (Some flag) after is = none_given (row_of flag).means after is

pub word_after : (words : List (List ℕ)) (at : ℕ) → word_at words at ≡ word_at (drop at words) 0
word_after words at = grind (arith, get_or-drop)

-- ---- the values of a name

-- what a word gives, by whether it is the name
pub value_is :
    (words : List (List ℕ)) (name : List ℕ) (piece : Piece) (word : List ℕ) (test given : Bool) →
    word ≡ word_at words piece.at → test ≡ bytes_eq word name → test ≡ given →
    value_by words name piece ≡ cond given (Some (word_at words (piece.at + 1))) None
value_is words name piece word test given is tested same =
    ap (λ (b : Bool). cond b (Some (word_at words (piece.at + 1))) None)
    (ap (λ (w : List ℕ). bytes_eq w name) (sym is) ∙ sym tested ∙ same)

-- ---- the first item of which a test holds

pub found_later :
    {X : Type 0} (p : X → Bool) (xs : List X) (k : ℕ) (d : X) → k < length xs → p (get_or xs k d) ≡ false →
    find p (drop (k + 1) xs) ≡ find p (drop k xs)
found_later p xs k d within not =
    let rest = drop (k + 1) xs in
    let x = get_or xs k d in
    sym (ap (find p) (drop-cons xs k d within) ∙ ap (λ (j : ℕ). find p (x ∷ drop j xs)) (sym (add-one k)) ∙
    ap (λ (b : Bool). cond b (Some x) (find p rest)) not)
