-- How many bytes inputs are asked for while they are opened, and while they are read.
use Rattle.std.proofs.Common.{◌≡◌, ◌≢◌, ℕ, zero, suc, ◌+◌, ◌≤◌, ◌<◌, Bool, cond, List, [], ◌∷◌, length, map, take, Option, Some, None, IsSomeAnd, refl, sym, ◌∙◌, ap, subst, arith}
use Rattle.std.specs.Prelude.{sum, All}
use Rattle.std.specs.FinMap as finmap
use Rattle.std.proofs.lemmas.List.Elements.{All-head, All-tail}
use Rattle.las_outside.specs.Files.{FileMap, IsMissing, WhereKnown}
use Rattle.las_outside.specs.Outside.{Outside}
use Rattle.las_outside.proofs.Public.{get-with_value, same_other}
use Rattle.laz_reader.specs.Asking.{AsksAtMost, asked_to_open, bytes_left}
use Rattle.laz_reader.specs.Reading.{ReaderSeen, ReadsAll, StandsFor}
use Rattle.laz_forms.proofs.Public.{known_both}
use Rattle.laz_reader.proofs.Public.{left_asked}
use Rattle.las_merge.specs.Asking.{IsAskedToRead, asked_of_all}
use Rattle.las_merge.specs.Inputs.{IfKnown, item_at}
use Rattle.laz_models.proofs.Public.{sum-cons}

-- ---- sums over names
module _ (f : List ℕ → ℕ) where
  abbrev sum_of : List (List ℕ) → ℕ
  sum_of names = sum (map f names)

  pub sum_next : (names : List (List ℕ)) (i : ℕ) → i < length names → sum_of (take (suc i) names) ≡ sum_of (take i names) + f (item_at names i)
  sum_next [] i lt = absurd (omega (arith, lt))
  sum_next (x ∷ xs) zero lt = sum-cons (f x) [] ∙ omega arith
  sum_next (x ∷ xs) (suc i) lt = omega (arith, sum-cons (f x) (map f (take (suc i) xs)), sum-cons (f x) (map f (take i xs)), sum_next xs i (omega (arith, lt)))

  pub sum_some : (names : List (List ℕ)) (i : ℕ) → sum_of (take i names) ≤ sum_of names
  sum_some [] zero = omega arith
  sum_some [] (suc i) = omega arith
  sum_some (x ∷ xs) zero = omega arith
  sum_some (x ∷ xs) (suc i) = omega (arith, sum-cons (f x) (map f (take i xs)), sum-cons (f x) (map f xs), sum_some xs i)

-- ---- one input

of_some : (asked : Option (List ℕ) → ℕ) (old new : Outside) (o : Option (List ℕ))
    → IsSomeAnd o (λ file. AsksAtMost (asked (Some file)) old new) → AsksAtMost (asked o) old new
of_some asked old new None most = absurd most
of_some asked old new (Some file) most = most

-- what a call asks of a file, if there is one of the name
pub asked_one : (held : Option FileMap) (name : List ℕ) (asked : Option (List ℕ) → ℕ) (old new : Outside) → (IsMissing held name → AsksAtMost (asked None) old new)
    → ((IsMissing held name → ⊥) → WhereKnown held name (λ file. AsksAtMost (asked (Some file)) old new)) → IfKnown held (λ known. AsksAtMost (asked (finmap.get known name)) old new)
asked_one held name asked old new missing there known is = by (finmap.get known name) refl
  where
    none_some : (o : Option (List ℕ)) (file : List ℕ) → o ≡ Some file → o ≡ None → ⊥
    none_some o file some none = absurd (cc)

    by : (o : Option (List ℕ)) → finmap.get known name ≡ o → AsksAtMost (asked (finmap.get known name)) old new
    by None none = subst (λ (o : Option (List ℕ)). AsksAtMost (asked o) old new) (sym none) (missing (subst (λ (h : Option FileMap). IsMissing h name) (sym is) none))
    by (Some file) some =
        let here : IsMissing held name → ⊥ = λ gone. none_some (finmap.get known name) file some (subst (λ (h : Option FileMap). IsMissing h name) is gone) in
        of_some asked old new (finmap.get known name) (subst (λ (h : Option FileMap). WhereKnown h name (λ file. AsksAtMost (asked (Some file)) old new)) is (there here))

-- the same of a file that is there
pub asked_there : (held : Option FileMap) (name : List ℕ) (asked : Option (List ℕ) → ℕ) (old new : Outside) → WhereKnown held name (λ file. AsksAtMost (asked (Some file)) old new) → (known : FileMap) → held ≡ Some known → AsksAtMost (asked (finmap.get known name)) old new
asked_there held name asked old new most known is = of_some asked old new (finmap.get known name) (subst (λ (h : Option FileMap). WhereKnown h name (λ file. AsksAtMost (asked (Some file)) old new)) is most)

-- an input that was opened again, and read
pub asked_again : (held : Option FileMap) (name : List ℕ) (reader : ReaderSeen) (old mid new : Outside) (asked : Option (List ℕ) → ℕ) → IsAskedToRead asked → ReadsAll reader → WhereKnown held name (StandsFor reader) → WhereKnown held name (λ file. AsksAtMost (asked_to_open file) old mid) → AsksAtMost (bytes_left reader) mid new
    → WhereKnown held name (λ file. AsksAtMost (asked (Some file)) old new)
asked_again held name reader old mid new asked bound all stands opened rest =
    known_both held name (StandsFor reader) (λ file. AsksAtMost (asked_to_open file) old mid) (λ file. AsksAtMost (asked (Some file)) old new)
    (λ file s most. omega (arith, most, rest, left_asked reader file all s, bound.to_read file s.pieces s.are)) stands opened

-- ---- inputs beside the output

other_name : (known : FileMap) (output text name : List ℕ) → name ≢ output → finmap.get (finmap.insert known output text) name ≡ finmap.get known name
other_name known output text name ne = get-with_value known output (Some text) name ∙ ap (λ (b : Bool). cond b (Some text) (finmap.get known name)) (same_other name output ne)

pub other_asked : (asked : Option (List ℕ) → ℕ) (known : FileMap) (output text : List ℕ) (names : List (List ℕ)) → All (λ name. name ≢ output) names
    → asked_of_all asked (finmap.insert known output text) names ≡ asked_of_all asked known names
other_asked asked known output text [] other = refl
other_asked asked known output text (n ∷ names) other =
    let here : finmap.get (finmap.insert known output text) n ≡ finmap.get known n = other_name known output text n (All-head (λ (name : List ℕ). name ≢ output) n names other) in
    let rest = other_asked asked known output text names (All-tail (λ (name : List ℕ). name ≢ output) n names other) in
    ap (λ (m : ℕ). sum (m ∷ map (λ name. asked (finmap.get (finmap.insert known output text) name)) names)) (ap asked here)
    ∙ sum-cons (asked (finmap.get known n)) (map (λ name. asked (finmap.get (finmap.insert known output text) name)) names)
    ∙ ap (λ (m : ℕ). asked (finmap.get known n) + m) rest
    ∙ sym (sum-cons (asked (finmap.get known n)) (map (λ name. asked (finmap.get known name)) names))
