-- Lawful events cut out lawful parts. Meant for the crates of items and chunks, too.
use Rattle.std.proofs.Common.{◌≡◌, ℕ, ◌+◌, ◌^◌, ◌<◌, ◌≤◌, eqb, ◌&&◌, min, Bool, true, false, if◌then◌else◌, List, [], ◌∷◌, ◌++◌, refl, sym, ap, subst, ◌∙◌, arith, ⊎_elim, lit<, lit≤}
use Rattle.std.proofs.lemmas.Bool.{cases_lt, eqb-true}
use Rattle.laz_range.specs.Cut.{Cut, Bit, Raw, AreCuts, AreAlike, IsCut, symbol}
use Rattle.laz_range.specs.Span.{Begins, span}
use Rattle.laz_range.proofs.Public.{AreAlike-symbols, raw_high}
use Rattle.laz_models.specs.Counting.{AreStarts}
use Rattle.laz_models.specs.Dist.{AreSymbols, dist}
use Rattle.laz_models.proofs.Public.{dist-AreStarts, p0-some, p0-below}
use Rattle.laz_models.specs.BitDist.{p0_of}
use Rattle.laz_integer.specs.Corrector.{choices}
use Rattle.laz_integer.specs.Events.{Event, Symbol, Flag, Bits, Name, Role, Own, Width, ZeroOrOne, High, same_role, same_text, same_name, symbols_under, bits_under, cut_after, cuts_after, cuts_of, raw_events}
use Rattle.laz_integer.specs.Integer.{IntSpell, corrector_events}
use Rattle.laz_integer.specs.Ranged.{IsRanged, AreRanged, AreOneKind, HasIntSizes}
use Rattle.laz_integer.specs.Uses.{name_of, own_name}
use Rattle.laz_integer.specs.Fields.{SpellsByte, SpellsWord}
use Rattle.laz_integer.proofs.SymbolParts.{AreCuts-symbol, IsDistribution-starts, symbol_back}
use Rattle.laz_integer.proofs.Correctors.{power-le}
use Rattle.laz_integer.proofs.Counted.{IsIntSymbol, AreIntEvents, corrector-events}
use Rattle.laz_integer.proofs.Named.{cuts_after-append, raw-wide, raw-short}
use Rattle.laz_integer.proofs.Uses.{both_true}
use Rattle.laz_integer.proofs.Lists.{cons_same}

pub AreRanged-append : (sizes : Name → ℕ) (xs ys : List Event) → AreRanged sizes xs → AreRanged sizes ys → AreRanged sizes (xs ++ ys)
AreRanged-append sizes [] ys h k = k
AreRanged-append sizes (x ∷ xs) ys h k = (h.0, AreRanged-append sizes xs ys h.1 k)

pub AreRanged-front : (sizes : Name → ℕ) (xs ys : List Event) → AreRanged sizes (xs ++ ys) → AreRanged sizes xs
AreRanged-front sizes [] ys h = tt
AreRanged-front sizes (x ∷ xs) ys h = (h.0, AreRanged-front sizes xs ys h.1)

-- ---- names that are the same
no_false : {X : Type 0} → false ≡ true → X
no_false e = absurd (cc)

role-is : (a b : Role) → same_role a b ≡ true → a ≡ b
role-is Own Own e = refl
role-is Own Width e = no_false e
role-is Own ZeroOrOne e = no_false e
role-is Own High e = no_false e
role-is Width Own e = no_false e
role-is Width Width e = refl
role-is Width ZeroOrOne e = no_false e
role-is Width High e = no_false e
role-is ZeroOrOne Own e = no_false e
role-is ZeroOrOne Width e = no_false e
role-is ZeroOrOne ZeroOrOne e = refl
role-is ZeroOrOne High e = no_false e
role-is High Own e = no_false e
role-is High Width e = no_false e
role-is High ZeroOrOne e = no_false e
role-is High High e = refl

text-is : (a b : List ℕ) → same_text a b ≡ true → a ≡ b
text-is [] [] e = refl
text-is [] (y ∷ ys) e = no_false e
text-is (x ∷ xs) [] e = no_false e
text-is (x ∷ xs) (y ∷ ys) e =
    let p = both_true (eqb x y) (same_text xs ys) e in
    cons_same x y xs ys (eqb-true x y p.0) (text-is xs ys p.1)

same_fields : (k l : List ℕ) (r s : Role) (i j : ℕ) → k ≡ l → r ≡ s → i ≡ j → (let n : Name = record { kind = k; role = r; which = i } in n) ≡ record { kind = l; role = s; which = j }
same_fields k l r s i j e f g = cc

pub name-is : (a b : Name) → same_name a b ≡ true → a ≡ b
name-is a b e =
    let p = both_true (same_role a.role b.role) (eqb a.which b.which && same_text a.kind b.kind) e in
    let q = both_true (eqb a.which b.which) (same_text a.kind b.kind) p.1 in
    same_fields a.kind b.kind a.role b.role a.which b.which (text-is a.kind b.kind q.1) (role-is a.role b.role p.0) (eqb-true a.which b.which q.0)

by-case : (P : List ℕ → Type 0) (b : Bool) (xs ys : List ℕ) → (b ≡ true → P xs) → P ys → P (if b then xs else ys)
by-case P true xs ys f g = f refl
by-case P false xs ys f g = g

pub under-AreSymbols : (sizes : Name → ℕ) (name : Name) (events : List Event) → AreRanged sizes events → AreSymbols (sizes name) (symbols_under name events)
under-AreSymbols sizes name [] h = tt
under-AreSymbols sizes name (Symbol other n s ∷ events) h =
    let rest = under-AreSymbols sizes name events h.1 in
    by-case (AreSymbols (sizes name)) (same_name name other) (s ∷ symbols_under name events) (symbols_under name events)
    (λ same. (omega (arith, h.0.0, h.0.3, ap sizes (name-is name other same)), rest))
    rest
under-AreSymbols sizes name (Flag other bit ∷ events) h = under-AreSymbols sizes name events h.1
under-AreSymbols sizes name (Bits b v ∷ events) h = under-AreSymbols sizes name events h.1

-- ---- lawful events cut lawfully
pub AreCuts-ranged : (sizes : Name → ℕ) (earlier events : List Event) → AreRanged sizes earlier → AreRanged sizes events → AreCuts (cuts_after earlier events)
AreCuts-ranged sizes earlier [] before h = tt
AreCuts-ranged sizes earlier (Symbol name n s ∷ events) before h =
    let small : AreSymbols n (symbols_under name earlier) = subst (λ (k : ℕ). AreSymbols k (symbols_under name earlier)) (sym h.0.0) (under-AreSymbols sizes name earlier before) in (
      (AreCuts-symbol n (dist n (symbols_under name earlier)) s (dist-AreStarts n (symbols_under name earlier) h.0.1 h.0.2 small) h.0.3).0,
      AreCuts-ranged sizes (earlier ++ Symbol name n s ∷ []) events (AreRanged-append sizes earlier (Symbol name n s ∷ []) before (h.0, tt)) h.1,
    )
AreCuts-ranged sizes earlier (Flag name bit ∷ events) before h =
    ((p0-some (bits_under name earlier), p0-below (bits_under name earlier)), AreCuts-ranged sizes (earlier ++ Flag name bit ∷ []) events (AreRanged-append sizes earlier (Flag name bit ∷ []) before (h.0, tt)) h.1)
AreCuts-ranged sizes earlier (Bits b v ∷ events) before h =
    (h.0, AreCuts-ranged sizes (earlier ++ Bits b v ∷ []) events (AreRanged-append sizes earlier (Bits b v ∷ []) before (h.0, tt)) h.1)

-- ---- the events of a raw value, a corrector, an integer and a field are lawful
pub raw-ranged : (sizes : Name → ℕ) (b v : ℕ) → 0 < b → b ≤ 32 → v < 2 ^ b → AreRanged sizes (raw_events b v)
raw-ranged sizes b v some few small =
    ⊎_elim
    (λ (wide : 19 < b).
    let high = raw_high v b wide small in
    rw (raw-wide b v wide) ((lit< tt, lit≤ tt, omega arith), ((omega arith, omega arith, high), tt)))
    (λ (narrow : b ≤ 19). rw (raw-short b v narrow) ((some, narrow, small), tt))
    (cases_lt 19 b)

power-two : (k n : ℕ) → 0 < k → n ≡ 2 ^ min k 8 → (2 ≤ n) × (n ≤ 2048)
power-two k n some e =
    let least : 1 ≤ min k 8 = omega arith in
    let most : min k 8 ≤ 8 = omega arith in
    (omega (arith, e, power-le 1 (min k 8) least), omega (arith, e, power-le (min k 8) 8 most))

ranged-symbol : (sizes : Name → ℕ) (kind : List ℕ) (bits contexts : ℕ) (role : Role) (which n s : ℕ) → HasIntSizes sizes kind bits → 1 ≤ bits → bits ≤ 32 → IsIntSymbol bits contexts role which n s → IsRanged sizes (Symbol (name_of kind role which) n s)
ranged-symbol sizes kind bits contexts Own which n s has some most h = absurd h
ranged-symbol sizes kind bits contexts ZeroOrOne which n s has some most h = absurd h
ranged-symbol sizes kind bits contexts Width which n s has some most h = (h.1 ∙ sym (has.widths which), omega (arith, h.1), omega (arith, h.1), h.2)
ranged-symbol sizes kind bits contexts High which n s has some most h =
    let two = power-two which n h.0 h.2 in
    (h.2 ∙ sym (has.highs which), two.0, two.1, h.3)

ranged-events : (sizes : Name → ℕ) (kind : List ℕ) (bits contexts : ℕ) (events : List Event) → HasIntSizes sizes kind bits → 1 ≤ bits → bits ≤ 32 → AreIntEvents kind bits contexts events → AreRanged sizes events
ranged-events sizes kind bits contexts [] has some most h = tt
ranged-events sizes kind bits contexts (Symbol name n s ∷ events) has some most h =
    (subst (λ (l : List ℕ). IsRanged sizes (Symbol (name_of l name.role name.which) n s)) (sym h.0.0) (ranged-symbol sizes kind bits contexts name.role name.which n s has some most h.0.1), ranged-events sizes kind bits contexts events has some most h.1)
ranged-events sizes kind bits contexts (Flag name bit ∷ events) has some most h = (tt, ranged-events sizes kind bits contexts events has some most h.1)
ranged-events sizes kind bits contexts (Bits b v ∷ events) has some most h = (h.0, ranged-events sizes kind bits contexts events has some most h.1)

pub corrector-ranged : (sizes : Name → ℕ) (kind : List ℕ) (bits ctx k v : ℕ) → HasIntSizes sizes kind bits → 1 ≤ bits → bits ≤ 32 → k ≤ bits → v < choices k → AreRanged sizes (corrector_events kind bits ctx k v)
corrector-ranged sizes kind bits ctx k v has some most range within =
    ranged-events sizes kind bits (ctx + 1) (corrector_events kind bits ctx k v) has some most (corrector-events kind bits (ctx + 1) ctx k v most (omega arith) range within)

pub int-ranged : (sizes : Name → ℕ) (kind : List ℕ) (bits ctx : ℕ) (pred value : _) (k : ℕ) (events : List Event) → HasIntSizes sizes kind bits → 1 ≤ bits → bits ≤ 32 → IntSpell kind bits ctx pred events value k → AreRanged sizes events
int-ranged sizes kind bits ctx pred value k events has some most h = subst (AreRanged sizes) (sym h.is) (corrector-ranged sizes kind bits ctx k h.v has some most h.width h.within)

pub byte-ranged : (sizes : Name → ℕ) (marked : Bool) (kind : List ℕ) (m expected s : ℕ) (events : List Event) → sizes (own_name kind m) ≡ 256 → SpellsByte marked kind m expected events s → AreRanged sizes events
byte-ranged sizes true kind m expected s events e h = subst (AreRanged sizes) (sym h.1) ((sym e, lit≤ tt, lit≤ tt, h.0), tt)
byte-ranged sizes false kind m expected s events e h = subst (AreRanged sizes) (sym h.0) tt

pub word-ranged : (sizes : Name → ℕ) (marked : Bool) (kind : List ℕ) (ctx pred value : ℕ) (events : List Event) → HasIntSizes sizes kind 16 → SpellsWord marked kind ctx pred events value → AreRanged sizes events
word-ranged sizes true kind ctx pred value events has h = int-ranged sizes kind 16 ctx _ _ h.0 events has (lit≤ tt) (lit≤ tt) h.1
word-ranged sizes false kind ctx pred value events has h = subst (AreRanged sizes) (sym h.0) tt

-- ---- two lawful events of one kind cut out alike parts, which are equal only if the events are
pub IsCut-ranged : (sizes : Name → ℕ) (front : List Event) (e : Event) → AreRanged sizes front → IsRanged sizes e → IsCut (cut_after front e)
IsCut-ranged sizes front e before h = (AreCuts-ranged sizes front (e ∷ []) before (h, tt)).0

dist-is : (sizes : Name → ℕ) (front : List Event) (name : Name) (n s : ℕ) → AreRanged sizes front → IsRanged sizes (Symbol name n s) → AreStarts n (dist n (symbols_under name front))
dist-is sizes front name n s before h =
    dist-AreStarts n (symbols_under name front) h.1 h.2 (subst (λ (k : ℕ). AreSymbols k (symbols_under name front)) (sym h.0) (under-AreSymbols sizes name front before))

same_number : (sizes : Name → ℕ) (a b : Name) (n m : ℕ) → n ≡ sizes a → m ≡ sizes b → a ≡ b → m ≡ n
same_number sizes a b n m e f g = cc

alike-named : (sizes : Name → ℕ) (front : List Event) (a : Name) (n s t : ℕ) → AreRanged sizes front → IsRanged sizes (Symbol a n s) → IsRanged sizes (Symbol a n t) → AreAlike (cut_after front (Symbol a n s)) (cut_after front (Symbol a n t))
alike-named sizes front a n s t before f g =
    let parts = dist-is sizes front a n s before f in
    AreAlike-symbols (dist n (symbols_under a front)) s t (IsDistribution-starts n _ parts) (omega (arith, parts.length, f.3)) (omega (arith, parts.length, g.3))

pub AreAlike-ranged : (sizes : Name → ℕ) (front : List Event) (d e : Event) → AreRanged sizes front → IsRanged sizes d → IsRanged sizes e → AreOneKind d e → AreAlike (cut_after front d) (cut_after front e)
AreAlike-ranged sizes front (Symbol a n s) (Symbol b m t) before f g same =
    let number : m ≡ n = same_number sizes a b n m f.0 g.0 same in
    let other : IsRanged sizes (Symbol a n t) = subst (λ (k : ℕ). IsRanged sizes (Symbol a k t)) number (subst (λ (c : Name). IsRanged sizes (Symbol c m t)) (sym same) g) in
    subst (λ (k : ℕ). AreAlike (cut_after front (Symbol a n s)) (cut_after front (Symbol b k t))) (sym number)
    (subst (λ (c : Name). AreAlike (cut_after front (Symbol a n s)) (cut_after front (Symbol c n t))) same (alike-named sizes front a n s t before f other))
AreAlike-ranged sizes front (Symbol a n s) (Flag b other) before f g same = absurd same
AreAlike-ranged sizes front (Symbol a n s) (Bits c w) before f g same = absurd same
AreAlike-ranged sizes front (Flag a bit) (Symbol b m t) before f g same = absurd same
AreAlike-ranged sizes front (Flag a bit) (Flag b other) before f g same = ap (λ c. p0_of (bits_under c front)) same
AreAlike-ranged sizes front (Flag a bit) (Bits c w) before f g same = absurd same
AreAlike-ranged sizes front (Bits b v) (Symbol a m t) before f g same = absurd same
AreAlike-ranged sizes front (Bits b v) (Flag a other) before f g same = absurd same
AreAlike-ranged sizes front (Bits b v) (Bits c w) before f g same = same

same_bit : (p q : ℕ) (bit other : Bool) → Bit p bit ≡ Bit q other → bit ≡ other
same_bit p q bit other e = cc

same_raw : (b c v w : ℕ) → Raw b v ≡ Raw c w → v ≡ w
same_raw b c v w e = cc

symbols_equal : (a b : Name) (n m s t : ℕ) → a ≡ b → m ≡ n → t ≡ s → Symbol a n s ≡ Symbol b m t
symbols_equal a b n m s t e f g = cc

flags_equal : (a b : Name) (bit other : Bool) → a ≡ b → bit ≡ other → Flag a bit ≡ Flag b other
flags_equal a b bit other e f = cc

raws_equal : (b c v w : ℕ) → b ≡ c → v ≡ w → Bits b v ≡ Bits c w
raws_equal b c v w e f = cc

pub event-from_cut : (sizes : Name → ℕ) (front : List Event) (d e : Event) → AreRanged sizes front → IsRanged sizes d → IsRanged sizes e → AreOneKind d e → cut_after front d ≡ cut_after front e → d ≡ e
event-from_cut sizes front (Symbol a n s) (Symbol b m t) before f g same cut =
    let number : m ≡ n = same_number sizes a b n m f.0 g.0 same in
    let parts = dist-is sizes front a n s before f in
    let here : symbol (dist n (symbols_under a front)) t ≡ symbol (dist n (symbols_under a front)) s =
    ap (λ k. symbol (dist k (symbols_under a front)) t) (sym number) ∙ (ap (λ c. symbol (dist m (symbols_under c front)) t) same ∙ sym cut) in
    symbols_equal a b n m s t same number (symbol_back (dist n (symbols_under a front)) s t (IsDistribution-starts n _ parts) (omega (arith, parts.length, f.3)) (omega (arith, parts.length, g.3, number)) here)
event-from_cut sizes front (Symbol a n s) (Flag b other) before f g same cut = absurd same
event-from_cut sizes front (Symbol a n s) (Bits c w) before f g same cut = absurd same
event-from_cut sizes front (Flag a bit) (Symbol b m t) before f g same cut = absurd same
event-from_cut sizes front (Flag a bit) (Flag b other) before f g same cut = flags_equal a b bit other same (same_bit _ _ bit other cut)
event-from_cut sizes front (Flag a bit) (Bits c w) before f g same cut = absurd same
event-from_cut sizes front (Bits b v) (Symbol a m t) before f g same cut = absurd same
event-from_cut sizes front (Bits b v) (Flag a other) before f g same cut = absurd same
event-from_cut sizes front (Bits b v) (Bits c w) before f g same cut = raws_equal b c v w same (same_raw b c v w cut)

-- one event more
pub cuts-more : (front : List Event) (e : Event) → cuts_of (front ++ e ∷ []) ≡ cuts_of front ++ cut_after front e ∷ []
cuts-more front e = cuts_after-append [] front (e ∷ [])

pub Begins-more : (front : List Event) (e : Event) (bytes : List ℕ) → Begins (span (cuts_of (front ++ e ∷ []))) bytes → Begins (span (cuts_of front ++ cut_after front e ∷ [])) bytes
Begins-more front e bytes h = subst (λ (cs : List Cut). Begins (span cs) bytes) (cuts-more front e) h
