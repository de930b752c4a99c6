use Rattle.std.proofs.Common.{◌≡◌, ℕ, ◌+◌, ◌-◌, ◌%◌, ◌^◌, ◌<◌, ◌≤◌, eqb, ltb, cond, Bool, true, false, List, [], ◌∷◌, ◌++◌, refl, ap, ◌∙◌, arith, ⊎_elim}
use Rattle.std.proofs.lemmas.Bool.{cases_lt, cases_eq, cond-true, eq-eqb, ne_eqb, and_from, lt-ltb}
use Rattle.laz_integer.specs.Events.{Event, Own, Symbol, Flag, Bits, symbols_under, same_name, raw_events}
use Rattle.laz_integer.specs.Integer.{rest_events, corrector_events}
use Rattle.laz_integer.proofs.Public.{same_text-refl, symbols_under-append, raw-wide, raw-short, Silent-raws, events-zero, events-most, events-narrow, events-wide, cond-append}
use Rattle.laz_gpstime.specs.Meanings.{Meaning, Multiple, Switch, meaning, meanings, meaning_in, switch_in, time_kind}
use Rattle.laz_integer.specs.Uses.{own_name}
use Rattle.laz_gpstime.specs.Times.{model_of, new_symbol, switch_events, time_symbol}

-- ---- names
pub same-time : (m : ℕ) → same_name (own_name time_kind m) (own_name time_kind m) ≡ true
same-time m = and_from (eqb m m) _ (eq-eqb m m refl) (same_text-refl time_kind)

cond-same : {A : Type 0} (b : Bool) (a : A) → cond b a a ≡ a
cond-same true a = refl
cond-same false a = refl

-- ---- what events say
pub meanings-append : (xs ys : List Event) → meanings (xs ++ ys) ≡ meanings xs ++ meanings ys
meanings-append [] ys = refl
meanings-append (Symbol other n s ∷ xs) ys = cond-append (same_name (own_name time_kind other.which) other) (meaning other.which s) _ (meanings xs) (meanings ys) (meanings-append xs ys)
meanings-append (Flag other bit ∷ xs) ys = meanings-append xs ys
meanings-append (Bits b v ∷ xs) ys = meanings-append xs ys

pub meanings-raw : (b v : ℕ) → meanings (raw_events b v) ≡ []
meanings-raw b v =
    ⊎_elim
    (λ (wide : 19 < b). ap meanings (raw-wide b v wide))
    (λ (short : b ≤ 19). ap meanings (raw-short b v short))
    (cases_lt 19 b)

-- Events that say nothing of times: no symbol of theirs is one of the time's own models.
pub record AreQuiet (events : List Event) : Type 0 where
  pub say : meanings events ≡ []
  pub symbols : (m : ℕ) → symbols_under (own_name time_kind m) events ≡ []

pub quiet-raw : (b v : ℕ) → AreQuiet (raw_events b v)
quiet-raw b v = record { say = meanings-raw b v; symbols = λ m. (Silent-raws time_kind b v).symbols Own m }

quiet-rest : (k v : ℕ) → k ≤ 32 → AreQuiet (rest_events time_kind k v)
quiet-rest k v few =
    ⊎_elim
    (λ (zero_is : k ≡ 0). rw (zero_is, events-zero time_kind v) (record { say = refl; symbols = λ m. refl }))
    (λ (some_is : k ≡ 0 → ⊥).
    let positive : 0 < k = omega (arith, some_is) in
    ⊎_elim
    (λ (most_is : k ≡ 32). rw (most_is, events-most time_kind v) (record { say = refl; symbols = λ m. refl }))
    (λ (fewer : k ≡ 32 → ⊥).
    let small : k < 32 = omega (arith, fewer, few) in
    ⊎_elim
    (λ (wide : 8 < k). rw (events-wide time_kind k v wide small) (record { say = meanings-raw (k - 8) (v % 2 ^ (k - 8)); symbols = λ m. (Silent-raws time_kind (k - 8) (v % 2 ^ (k - 8))).symbols Own m }))
    (λ (narrow : k ≤ 8). rw (events-narrow time_kind k v positive narrow) (record { say = refl; symbols = λ m. refl }))
    (cases_lt 8 k))
    (cases_eq k 32))
    (cases_eq k 0)

pub quiet-corrector : (bits ctx k v : ℕ) → k ≤ 32 → AreQuiet (corrector_events time_kind bits ctx k v)
quiet-corrector bits ctx k v few = let rest = quiet-rest k v few in record { say = rest.say; symbols = rest.symbols }

pub quiet-none : AreQuiet []
quiet-none = record { say = refl; symbols = λ m. refl }

pub quiet-append : (xs ys : List Event) → AreQuiet xs → AreQuiet ys → AreQuiet (xs ++ ys)
quiet-append xs ys f g =
    record {
      say = meanings-append xs ys ∙ (ap (λ l. l ++ meanings ys) f.say ∙ g.say);
      symbols = λ m. symbols_under-append (own_name time_kind m) xs ys ∙ (ap (λ l. l ++ symbols_under (own_name time_kind m) ys) (f.symbols m) ∙ g.symbols m);
    }

-- ---- what a symbol says
pub says-symbol : (d s : ℕ) (rest : List Event) → AreQuiet rest → meanings (time_symbol d s ∷ rest) ≡ meaning (model_of d) s ∷ []
says-symbol d s rest quiet = cond-true (same_name (own_name time_kind (model_of d)) (own_name time_kind (model_of d))) _ _ (same-time (model_of d)) ∙ ap (λ l. meaning (model_of d) s ∷ l) quiet.say

-- A symbol that is no switch.
pub record IsPlain (m : Meaning) : Type 0 where
  pub point_switch : switch_in (m ∷ []) ≡ 0
  pub point_meaning : meaning_in (m ∷ []) ≡ m

plain-six : (s : ℕ) → s ≤ 2 → IsPlain (meaning 0 s)
plain-six s few =
    ⊎_elim
    (λ (zero_is : s ≡ 0). rw zero_is (record { point_switch = refl; point_meaning = refl }))
    (λ (more : s ≡ 0 → ⊥).
    ⊎_elim
    (λ (one_is : s ≡ 1). rw one_is (record { point_switch = refl; point_meaning = refl }))
    (λ (two : s ≡ 1 → ⊥). let is : s ≡ 2 = omega (arith, more, two, few) in rw is (record { point_switch = refl; point_meaning = refl }))
    (cases_eq s 1))
    (cases_eq s 0)

pub multiple-is : (s : ℕ) → s < 511 → meaning 1 s ≡ Multiple s
multiple-is s h = cond-true (ltb s 511) _ _ (lt-ltb s 511 h)

plain-many : (s : ℕ) → s ≤ 512 → IsPlain (meaning 1 s)
plain-many s few =
    ⊎_elim
    (λ (less : s < 511). rw (multiple-is s less) (record { point_switch = refl; point_meaning = refl }))
    (λ (more : 511 ≤ s).
    ⊎_elim
    (λ (same : s ≡ 511). rw same (record { point_switch = refl; point_meaning = refl }))
    (λ (ne : s ≡ 511 → ⊥). let is : s ≡ 512 = omega (arith, more, ne, few) in rw is (record { point_switch = refl; point_meaning = refl }))
    (cases_eq s 511))
    (cases_lt s 511)

pub plain : (d s : ℕ) → s ≤ new_symbol d → IsPlain (meaning (model_of d) s)
plain d s few =
    ⊎_elim
    (λ (zero_is : d ≡ 0). let b = eq-eqb d 0 zero_is in rw b (plain-six s (rw b at few)))
    (λ (some : d ≡ 0 → ⊥). let b = ne_eqb d 0 some in rw b (plain-many s (rw b at few)))
    (cases_eq d 0)

pub switch-is : (d i : ℕ) → 0 < i → i < 4 → meaning (model_of d) (new_symbol d + i) ≡ Switch i
switch-is d i some few =
    let known : (n : ℕ) → i ≡ n → cond (eqb d 0) (meaning 0 (2 + n)) (meaning 1 (512 + n)) ≡ Switch n → meaning (model_of d) (new_symbol d + i) ≡ Switch i =
    λ n is e.
    ⊎_elim
    (λ (zero_is : d ≡ 0). let b = eq-eqb d 0 zero_is in rw (is, b) (rw b at e))
    (λ (more : d ≡ 0 → ⊥). let b = ne_eqb d 0 more in rw (is, b) (rw b at e))
    (cases_eq d 0) in
    ⊎_elim
    (λ (one : i ≡ 1). known 1 one (cond-same (eqb d 0) (Switch 1)))
    (λ (ne : i ≡ 1 → ⊥).
    ⊎_elim
    (λ (two : i ≡ 2). known 2 two (cond-same (eqb d 0) (Switch 2)))
    (λ (three : i ≡ 2 → ⊥). known 3 (omega (arith, some, few, ne, three)) (cond-same (eqb d 0) (Switch 3)))
    (cases_eq i 2))
    (cases_eq i 1)

-- ---- what a point says that is spelled by a switch, if there is one, and a symbol that is none
pub record Says (events : List Event) (i : ℕ) (m : Meaning) : Type 0 where
  pub point_switch : switch_in (meanings events) ≡ i
  pub point_meaning : meaning_in (meanings events) ≡ m

pub says : (d e i s : ℕ) (rest : List Event) → i < 4 → s ≤ new_symbol e → AreQuiet rest → Says (switch_events d i ++ time_symbol e s ∷ rest) i (meaning (model_of e) s)
says d e i s rest few range quiet =
    let one = says-symbol e s rest quiet in
    let is = plain e s range in
    ⊎_elim
    (λ (none : i ≡ 0).
    rw none
    (record {
      point_switch = ap switch_in one ∙ is.point_switch;
      point_meaning = ap meaning_in one ∙ is.point_meaning;
    }))
    (λ (some : i ≡ 0 → ⊥).
    let b = ne_eqb i 0 some in
    let first : meanings (time_symbol d (new_symbol d + i) ∷ time_symbol e s ∷ rest) ≡ Switch i ∷ meaning (model_of e) s ∷ [] =
    cond-true (same_name (own_name time_kind (model_of d)) (own_name time_kind (model_of d))) _ _ (same-time (model_of d)) ∙ (ap (λ l. meaning (model_of d) (new_symbol d + i) ∷ l) one ∙ ap (λ m. m ∷ meaning (model_of e) s ∷ []) (switch-is d i (omega (arith, some)) few)) in
    rw b
    (record {
      point_switch = ap switch_in first;
      point_meaning = ap meaning_in first;
    }))
    (cases_eq i 0)
