-- Events of one use say nothing of another. Meant for the crates of items, too.
use Rattle.std.proofs.Common.{◌≡◌, ℕ, ◌+◌, ◌<◌, ◌≤◌, eqb, Bool, true, false, not, ◌&&◌, List, [], ◌∷◌, ◌++◌, refl, sym, ap, subst, ◌∙◌, arith, ⊎_elim}
use Rattle.std.proofs.lemmas.Bool.{cases_lt, cond-false}
use Rattle.std.proofs.lemmas.List.{append-nil}
use Rattle.std.specs.List.{AllByRecursion}
use Rattle.laz_models.specs.Counting.{Counting}
use Rattle.laz_models.specs.Bank.{model_at}
use Rattle.laz_models.specs.Dist.{StandsFor}
use Rattle.laz_models.specs.BitDist.{BitStandsFor}
use Rattle.laz_integer.specs.Events.{Event, Symbol, Flag, Bits, Name, Role, Own, Width, ZeroOrOne, High, same_role, same_text, same_name, symbols_under, bits_under, raw_events}
use Rattle.laz_integer.specs.Integer.{IntState, IntStands, IntSpell, corrector_events}
use Rattle.laz_integer.specs.Uses.{name_of, Silent, AllSilent, absent, apart}
use Rattle.laz_integer.specs.Fields.{BankStands}
use Rattle.laz_integer.proofs.Named.{symbols_under-append, bits_under-append, raw-wide, raw-short}
use Rattle.laz_integer.specs.Corrector.{choices}
use Rattle.laz_integer.proofs.Counted.{AreIntEvents, corrector-events}

pub both_true : (a b : Bool) → a && b ≡ true → (a ≡ true) × (b ≡ true)
both_true true b h = (refl, h)
both_true false b h = absurd (let e : false ≡ true = h in cc)

pub not_true : (a : Bool) → not a ≡ true → a ≡ false
not_true true h = absurd (let e : false ≡ true = h in cc)
not_true false h = refl

-- ---- lists that are silent on a use
pub Silent-none : (kind : List ℕ) → Silent kind []
Silent-none kind = record { symbols = λ role which. refl; bits = λ role which. refl }

pub Silent-append : (kind : List ℕ) (xs ys : List Event) → Silent kind xs → Silent kind ys → Silent kind (xs ++ ys)
Silent-append kind xs ys f g =
    record {
      symbols = λ role which. symbols_under-append (name_of kind role which) xs ys ∙ (ap (λ l. l ++ symbols_under (name_of kind role which) ys) (f.symbols role which) ∙ g.symbols role which);
      bits = λ role which. bits_under-append (name_of kind role which) xs ys ∙ (ap (λ l. l ++ bits_under (name_of kind role which) ys) (f.bits role which) ∙ g.bits role which);
    }

-- what is under a name of the use stays as it is
pub symbols-silent : (kind : List ℕ) (role : Role) (which : ℕ) (earlier others : List Event) → Silent kind others → symbols_under (name_of kind role which) (earlier ++ others) ≡ symbols_under (name_of kind role which) earlier
symbols-silent kind role which earlier others h =
    symbols_under-append (name_of kind role which) earlier others ∙ (ap (λ l. symbols_under (name_of kind role which) earlier ++ l) (h.symbols role which) ∙ append-nil _)

pub bits-silent : (kind : List ℕ) (role : Role) (which : ℕ) (earlier others : List Event) → Silent kind others → bits_under (name_of kind role which) (earlier ++ others) ≡ bits_under (name_of kind role which) earlier
bits-silent kind role which earlier others h =
    bits_under-append (name_of kind role which) earlier others ∙ (ap (λ l. bits_under (name_of kind role which) earlier ++ l) (h.bits role which) ∙ append-nil _)

-- and so do the models that stand for it
pub bank-silent : (kind : List ℕ) (bank : List Counting) (earlier others : List Event) → Silent kind others → BankStands kind earlier bank → BankStands kind (earlier ++ others) bank
bank-silent kind bank earlier others silent h m within =
    subst (λ (l : List ℕ). StandsFor l (model_at bank m)) (sym (symbols-silent kind Own m earlier others silent)) (h m within)

pub int-silent : (kind : List ℕ) (st : IntState) (earlier others : List Event) → Silent kind others → IntStands kind earlier st → IntStands kind (earlier ++ others) st
int-silent kind st earlier others silent h =
    record {
      widths = λ ctx within. subst (λ (l : List ℕ). StandsFor l (model_at st.bank ctx)) (sym (symbols-silent kind Width ctx earlier others silent)) (h.widths ctx within);
      bits = subst (λ (l : List Bool). BitStandsFor l st.zero_or_one) (sym (bits-silent kind ZeroOrOne 0 earlier others silent)) h.bits;
      highs = λ j within. subst (λ (l : List ℕ). StandsFor l (model_at st.bank (st.contexts + j))) (sym (symbols-silent kind High (j + 1) earlier others silent)) (h.highs j within);
    }

-- ---- events of a use
-- Each event is of the use, or raw.
abbrev pub IsOf : List ℕ → Event → Type 0
IsOf kind (Symbol name n s) = name.kind ≡ kind
IsOf kind (Flag name bit) = name.kind ≡ kind
IsOf kind (Bits b v) = Unit {0}

abbrev pub AreOf : List ℕ → List Event → Type 0
AreOf kind events = AllByRecursion (IsOf kind) events

and_last : (a b c : Bool) → c ≡ false → a && (b && c) ≡ false
and_last true true c e = e
and_last true false c e = refl
and_last false b c e = refl

other_kind : (other kind : List ℕ) (role : Role) (which : ℕ) (name : Name) → same_text other kind ≡ false → name.kind ≡ kind → same_name (name_of other role which) name ≡ false
other_kind other kind role which name e of = and_last (same_role role name.role) (eqb which name.which) (same_text other name.kind) (ap (same_text other) of ∙ e)

symbols-other : (other kind : List ℕ) (role : Role) (which : ℕ) (events : List Event) → same_text other kind ≡ false → AreOf kind events → symbols_under (name_of other role which) events ≡ []
symbols-other other kind role which [] e h = refl
symbols-other other kind role which (Symbol name n s ∷ events) e h =
    cond-false (same_name (name_of other role which) name) _ _ (other_kind other kind role which name e h.0) ∙ symbols-other other kind role which events e h.1
symbols-other other kind role which (Flag name bit ∷ events) e h = symbols-other other kind role which events e h.1
symbols-other other kind role which (Bits b v ∷ events) e h = symbols-other other kind role which events e h.1

bits-other : (other kind : List ℕ) (role : Role) (which : ℕ) (events : List Event) → same_text other kind ≡ false → AreOf kind events → bits_under (name_of other role which) events ≡ []
bits-other other kind role which [] e h = refl
bits-other other kind role which (Symbol name n s ∷ events) e h = bits-other other kind role which events e h.1
bits-other other kind role which (Flag name bit ∷ events) e h =
    cond-false (same_name (name_of other role which) name) _ _ (other_kind other kind role which name e h.0) ∙ bits-other other kind role which events e h.1
bits-other other kind role which (Bits b v ∷ events) e h = bits-other other kind role which events e h.1

pub Silent-other : (other kind : List ℕ) (events : List Event) → same_text other kind ≡ false → AreOf kind events → Silent other events
Silent-other other kind events e h =
    record {
      symbols = λ role which. symbols-other other kind role which events e h;
      bits = λ role which. bits-other other kind role which events e h;
    }

-- raw values are of no use at all
pub Silent-raw : (kind : List ℕ) (b v : ℕ) → Silent kind (Bits b v ∷ [])
Silent-raw kind b v = record { symbols = λ role which. refl; bits = λ role which. refl }

pub Silent-raws : (kind : List ℕ) (b v : ℕ) → Silent kind (raw_events b v)
Silent-raws kind b v =
    ⊎_elim
    (λ (wide : 19 < b). rw (raw-wide b v wide) (record { symbols = λ role which. refl; bits = λ role which. refl }))
    (λ (short : b ≤ 19). rw (raw-short b v short) (Silent-raw kind b v))
    (cases_lt 19 b)

-- an integer's events are of its use
AreOf-events : (kind : List ℕ) (bits contexts : ℕ) (events : List Event) → AreIntEvents kind bits contexts events → AreOf kind events
AreOf-events kind bits contexts [] h = tt
AreOf-events kind bits contexts (Symbol name n s ∷ events) h = (h.0.0, AreOf-events kind bits contexts events h.1)
AreOf-events kind bits contexts (Flag name bit ∷ events) h = (ap (λ (l : Name). l.kind) h.0, AreOf-events kind bits contexts events h.1)
AreOf-events kind bits contexts (Bits b v ∷ events) h = (tt, AreOf-events kind bits contexts events h.1)

pub Silent-corrector : (other kind : List ℕ) (bits ctx k v : ℕ) → same_text other kind ≡ false → bits ≤ 32 → k ≤ bits → v < choices k → Silent other (corrector_events kind bits ctx k v)
Silent-corrector other kind bits ctx k v e few range value =
    Silent-other other kind (corrector_events kind bits ctx k v) e (AreOf-events kind bits (ctx + 1) (corrector_events kind bits ctx k v) (corrector-events kind bits (ctx + 1) ctx k v few (omega arith) range value))

pub Silent-int : (other kind : List ℕ) (bits ctx : ℕ) (pred value : _) (events : List Event) (k : ℕ) → same_text other kind ≡ false → bits ≤ 32 → IntSpell kind bits ctx pred events value k → Silent other events
Silent-int other kind bits ctx pred value events k e few h =
    subst (Silent other) (sym h.is) (Silent-corrector other kind bits ctx k h.v e few h.width h.within)

-- ---- uses that differ, by tests that compute
pub other_than : (other kind : List ℕ) → absent other (kind ∷ []) ≡ true → same_text other kind ≡ false
other_than other kind e = not_true (same_text other kind) (both_true _ true e).0

pub first-other : (kind k : List ℕ) (kinds : List (List ℕ)) → absent kind (k ∷ kinds) ≡ true → (same_text kind k ≡ false) × (absent kind kinds ≡ true)
first-other kind k kinds e = let both = both_true (not (same_text kind k)) (absent kind kinds) e in (not_true (same_text kind k) both.0, both.1)

pub absent-split : (kind : List ℕ) (kinds more : List (List ℕ)) → absent kind (kinds ++ more) ≡ true → (absent kind kinds ≡ true) × (absent kind more ≡ true)
absent-split kind [] more h = (refl, h)
absent-split kind (k ∷ kinds) more h =
    let parts = both_true (not (same_text kind k)) (absent kind (kinds ++ more)) h in
    let rest = absent-split kind kinds more parts.1 in
    (ap (λ b. b && absent kind kinds) parts.0 ∙ rest.0, rest.1)

pub AllSilent-split : (kinds more : List (List ℕ)) (events : List Event) → AllSilent (kinds ++ more) events → AllSilent kinds events × AllSilent more events
AllSilent-split [] more events h = (tt, h)
AllSilent-split (k ∷ kinds) more events h = let rest = AllSilent-split kinds more events h.1 in ((h.0, rest.0), rest.1)

pub all-silent : (kinds others : List (List ℕ)) (events : List Event) → apart kinds others ≡ true → ((kind : List ℕ) → absent kind others ≡ true → Silent kind events) → AllSilent kinds events
all-silent [] others events e own = tt
all-silent (k ∷ kinds) others events e own =
    let parts = both_true (absent k others) (apart kinds others) e in
    (own k parts.0, all-silent kinds others events parts.1 own)
