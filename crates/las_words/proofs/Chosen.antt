-- The tallies that words ask for: what holds of them if no word is wrong.
use Rattle.std.proofs.Common.{◌≡◌, ℕ, ◌+◌, Bool, true, false, cond, ◌||◌, List, [], ◌∷◌, ◌++◌, drop, Option, Some, None, refl, sym, ◌∙◌, subst, arith, append-nil}
use Rattle.std.specs.Prelude.{All}
use Rattle.std.specs.List.{AllPairs, cons_option, list_any}
use Rattle.std.specs.Option.{option_or}
use Rattle.std.specs.Str.{bytes_eq}
use Rattle.std.proofs.lemmas.List.Elements.{All-cons, All-nil, All-weaker, filter_map-append}
use Rattle.std.proofs.lemmas.List.Folds.{list_any-append}
use Rattle.std.proofs.lemmas.List.Kept.{AllPairs-cons}
use Rattle.std.proofs.lemmas.Slice.Eq.{bytes_eq-Decides}
use Rattle.std.proofs.lemmas.Bool.{or_parts}
use Rattle.las_words.specs.declared.table.Flag.{Flag}
use Rattle.las_words.specs.declared.table.Flag.TheVariants.{Tally}
use Rattle.las_words.specs.declared.table.Values.TheVariants.{Tap}
use Rattle.las_words.specs.declared.pieces.Piece.{Piece}
use Rattle.las_words.specs.Texts.{word_at}
use Rattle.las_words.specs.Tallies.{tallies_of, tally_in}
use Rattle.las_words.specs.Faults.{word_fault_of, first_fault, first_wrong, follows_too_many, misplaced, option_fault, value_fault}

pub or_none : (a b : Option ℕ) → option_or a b ≡ None → (a ≡ None) × (b ≡ None)
or_none None b is = (refl, is)
or_none (Some x) b is = cc

-- if there is no fault, the first test found none
pub no_fault : (b : Bool) (at : ℕ) (rest : Option ℕ) → cond b (Some at) rest ≡ None → (b ≡ false) × (rest ≡ None)
no_fault true at rest is = cc
no_fault false at rest is = (refl, is)

fitting : (b : Bool) (at : ℕ) (rest : Option ℕ) → cond b rest (Some at) ≡ None → b ≡ true
fitting true at rest is = refl
fitting false at rest is = cc

pub bytes_eq-swap : (a b : List ℕ) → bytes_eq a b ≡ false → bytes_eq b a ≡ false
bytes_eq-swap a b is = by_answer (bytes_eq b a) refl
  where
    by_answer : (r : Bool) → bytes_eq b a ≡ r → r ≡ false
    by_answer false same = refl
    by_answer true same =
        let equal : b ≡ a = (bytes_eq-Decides b a).0 same in
        let answer : bytes_eq a b ≡ true = (bytes_eq-Decides a b).1 (sym equal) in
        cc

tallies-push : (words : List (List ℕ)) (earlier : List Piece) (piece : Piece) → tallies_of words (earlier ++ piece ∷ []) ≡ tallies_of words earlier ++ cons_option (tally_in piece.flag (drop (piece.at + 1) words)) []
tallies-push words earlier piece = filter_map-append (λ (p : Piece). tally_in p.flag (drop (p.at + 1) words)) earlier (piece ∷ [])

-- what holds of a tally after others
record Fresh (names earlier : List (List ℕ)) (tally : List ℕ) : Type 0 where
  there : list_any (bytes_eq tally) names ≡ true
  fresh : list_any (bytes_eq tally) earlier ≡ false

one_value : (names : List (List ℕ)) (at : ℕ) (words : List (List ℕ)) → first_wrong names Tap at 1 words ≡ None → list_any (bytes_eq (word_at words 0)) names ≡ true
one_value names at [] is = cc
one_value names at (word ∷ words) is = fitting (list_any (bytes_eq word) names) at None is

tally_fresh : (names words : List (List ℕ)) (earlier : List Piece) (at : ℕ) (flag : Option Flag) (tally : List ℕ) → option_fault names words earlier at flag ≡ None → tally_in flag (drop (at + 1) words) ≡ Some tally → Fresh names (tallies_of words earlier) tally
tally_fresh names words earlier at None tally sound is = cc
tally_fresh names words earlier at (Some Tally) tally sound is =
    let after = drop (at + 1) words in
    let values = no_fault (follows_too_many words earlier Tally) at (option_or (value_fault names (tallies_of words earlier) Tap (at + 1) after) None) sound in
    let value = or_none (value_fault names (tallies_of words earlier) Tap (at + 1) after) None values.1 in
    let both = or_none (first_wrong names Tap (at + 1) 1 after) (misplaced (tallies_of words earlier) Tap (at + 1) after) value.0 in
    let other = no_fault (list_any (bytes_eq (word_at after 0)) (tallies_of words earlier)) (at + 1) None both.1 in
    let same : word_at after 0 ≡ tally = cc in
    subst (Fresh names (tallies_of words earlier)) same (record { there = one_value names (at + 1) after both.0; fresh = other.0 })
tally_fresh names words earlier at (Some _) tally sound is = cc

-- tallies that are fresh after some and one more
fresh_before : (names earlier : List (List ℕ)) (tally : List ℕ) (others : List (List ℕ)) → All (Fresh names (earlier ++ tally ∷ [])) others → All (Fresh names earlier) others × All (λ other. bytes_eq tally other ≡ false) others
fresh_before names earlier tally others all =
    let parts = λ (other : List ℕ) (f : Fresh names (earlier ++ tally ∷ []) other).
    or_parts (list_any (bytes_eq other) earlier) (bytes_eq other tally || false) (sym (list_any-append (bytes_eq other) earlier (tally ∷ [])) ∙ f.fresh) in (
      All-weaker (Fresh names (earlier ++ tally ∷ [])) (Fresh names earlier) (λ other f. record { there = f.there; fresh = (parts other f).0 }) others all,
      All-weaker (Fresh names (earlier ++ tally ∷ [])) (λ other. bytes_eq tally other ≡ false) (λ other f. bytes_eq-swap other tally (or_parts (bytes_eq other tally) false (parts other f).1).0) others all,
    )

record AreFresh (names earlier tallies : List (List ℕ)) : Type 0 where
  all : All (Fresh names earlier) tallies
  distinct : AllPairs (λ tally other. bytes_eq tally other ≡ false) tallies

fresh_more : (names earlier : List (List ℕ)) (tally : Option (List ℕ)) (tallies : List (List ℕ)) → ((t : List ℕ) → tally ≡ Some t → Fresh names earlier t) → AreFresh names (earlier ++ cons_option tally []) tallies → AreFresh names earlier (cons_option tally tallies)
fresh_more names earlier None tallies first rest = subst (λ (e : List (List ℕ)). AreFresh names e tallies) (append-nil earlier) rest
fresh_more names earlier (Some t) tallies first rest =
    let h = fresh_before names earlier t tallies rest.all in record {
      all = All-cons (Fresh names earlier) t tallies (first t refl) h.0;
      distinct = AllPairs-cons (λ tally other. bytes_eq tally other ≡ false) t tallies h.1 rest.distinct;
    }

tallies_fresh : (names words : List (List ℕ)) (earlier pieces : List Piece) → first_fault names words earlier pieces ≡ None → AreFresh names (tallies_of words earlier) (tallies_of words pieces)
tallies_fresh names words earlier [] sound = record { all = All-nil (Fresh names (tallies_of words earlier)); distinct = λ i j d below within. absurd (omega arith) }
tallies_fresh names words earlier (piece ∷ pieces) sound =
    let both = or_none (word_fault_of names words earlier piece) (first_fault names words (earlier ++ piece ∷ []) pieces) sound in
    fresh_more names (tallies_of words earlier) (tally_in piece.flag (drop (piece.at + 1) words)) (tallies_of words pieces)
    (λ t is. tally_fresh names words earlier piece.at piece.flag t both.0 is)
    (subst (λ (e : List (List ℕ)). AreFresh names e (tallies_of words pieces)) (tallies-push words earlier piece) (tallies_fresh names words (earlier ++ piece ∷ []) pieces both.1))

pub tallies_there : (names words : List (List ℕ)) (pieces : List Piece) → first_fault names words [] pieces ≡ None → All (λ tally. list_any (bytes_eq tally) names ≡ true) (tallies_of words pieces)
tallies_there names words pieces sound =
    let h = tallies_fresh names words [] pieces sound in
    All-weaker (Fresh names []) (λ tally. list_any (bytes_eq tally) names ≡ true) (λ tally f. f.there) (tallies_of words pieces) h.all

pub tallies_distinct : (names words : List (List ℕ)) (pieces : List Piece) → first_fault names words [] pieces ≡ None → AllPairs (λ tally other. bytes_eq tally other ≡ false) (tallies_of words pieces)
tallies_distinct names words pieces sound = (tallies_fresh names words [] pieces sound).distinct
