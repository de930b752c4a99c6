-- Spellings of a time part at one event.
use Rattle.std.proofs.Common.{◌≡◌, ℕ, ℤ, ◌+◌, ◌*◌, ◌/◌, ◌≤◌, ◌⊎◌, inl, inr, List, [], ◌∷◌, ◌++◌, refl, sym, ap, subst, ◌∙◌, arith, ⊎_elim, lit≤}
use Rattle.std.proofs.lemmas.Bool.{cases_eq}
use Rattle.std.specs.Int.{w32, cast_signed, cast_unsigned}
use Rattle.laz_integer.specs.Events.{Event, raw_events}
use Rattle.laz_integer.specs.Integer.{IntSpell}
use Rattle.laz_integer.specs.Uses.{own_name}
use Rattle.laz_integer.proofs.Public.{One, as-one, int-one, made-one, raw-one, symbol-one, symbols-apart, then}
use Rattle.laz_gpstime.specs.Meanings.{time_kind}
use Rattle.laz_gpstime.specs.Sequences.{Point}
use Rattle.laz_gpstime.specs.Spelling.{SpellsNear, SpellsNew, SpellsSame, SpellsTime, time_plus}
use Rattle.laz_gpstime.specs.Times.{context, difference_on, model_of, new_symbol, predicted, same_symbol, switch_events, symbols_of, time_on, time_symbol}
use Rattle.laz_gpstime.proofs.Written.{same-below}
use Rattle.laz_gpstime.proofs.Coded.{some-switch}

-- ---- the symbols of a sequence

times-one : {V : Type 0} (d a b : ℕ) (more others : List Event) (v w : V) → (a ≡ b → One more others v w) → One (time_symbol d a ∷ more) (time_symbol d b ∷ others) v w
times-one {V} d a b more others v w next =
    then {W = V} (time_symbol d a ∷ []) (time_symbol d b ∷ []) more others a b v w (symbol-one (own_name time_kind (model_of d)) (symbols_of d) a b) next

apart : {V : Type 0} (d a b : ℕ) (more others : List Event) (v w : V) → (a ≡ b → ⊥) → One (time_symbol d a ∷ more) (time_symbol d b ∷ others) v w
apart d a b more others v w ne = symbols-apart (own_name time_kind (model_of d)) (symbols_of d) a b more others v w ne

-- ---- what follows a switch
abbrev Spells : (d from : ℕ) → List Event → ℕ → Type 0
Spells d from events time = SpellsSame d from events time ⊎ (SpellsNear d from events time ⊎ SpellsNew d from events time)

near-near : (d from : ℕ) (xs ys : List Event) (v w : ℕ) → SpellsNear d from xs v → SpellsNear d from ys w → One xs ys v w
near-near d from xs ys v w s t =
    as-one (time_symbol d s.m ∷ s.rest) (time_symbol d t.m ∷ t.rest) xs ys v w s.is t.is
    (times-one d s.m t.m s.rest t.rest v w
    (λ (e : s.m ≡ t.m).
    made-one {V = ℤ × ℕ} s.rest t.rest (s.x, s.k) (t.x, t.k) v w (λ f. s.makes ∙ (ap (λ (x : ℤ × ℕ). time_plus from (cast_unsigned w32 x.0)) f ∙ sym t.makes))
    (int-one time_kind 32 (context d s.m) (cast_signed w32 (predicted d s.m)) s.rest t.rest s.x t.x s.k t.k (lit≤ tt) s.value
    (subst (λ (m : ℕ). IntSpell time_kind 32 (context d m) (cast_signed w32 (predicted d m)) t.rest t.x t.k) (sym e) t.value))))

new-new : (d from : ℕ) (xs ys : List Event) (v w : ℕ) → SpellsNew d from xs v → SpellsNew d from ys w → One xs ys v w
new-new d from xs ys v w s t =
    as-one (time_symbol d (new_symbol d) ∷ s.rest ++ raw_events 32 s.low) (time_symbol d (new_symbol d) ∷ t.rest ++ raw_events 32 t.low) xs ys v w s.is t.is
    (times-one d (new_symbol d) (new_symbol d) (s.rest ++ raw_events 32 s.low) (t.rest ++ raw_events 32 t.low) v w
    (λ e.
    then {V = ℤ × ℕ} s.rest t.rest (raw_events 32 s.low) (raw_events 32 t.low) (s.high, s.k) (t.high, t.k) v w
    (int-one time_kind 32 8 (cast_signed w32 (from / 4294967296)) s.rest t.rest s.high t.high s.k t.k (lit≤ tt) s.value t.value)
    (λ (f : ◌≡◌ {A = ℤ × ℕ} (s.high, s.k) (t.high, t.k)).
    made-one (raw_events 32 s.low) (raw_events 32 t.low) s.low t.low v w
    (λ g. s.makes ∙ (ap (λ (x : ℤ × ℕ). cast_unsigned w32 x.0 * 4294967296 + s.low) f ∙ (ap (λ n. cast_unsigned w32 t.high * 4294967296 + n) g ∙ sym t.makes)))
    (raw-one 32 s.low t.low))))

same-near : (d from : ℕ) (xs ys : List Event) (v w : ℕ) → SpellsSame d from xs v → SpellsNear d from ys w → One xs ys v w
same-near d from xs ys v w s t =
    as-one (time_symbol d (same_symbol d) ∷ []) (time_symbol d t.m ∷ t.rest) xs ys v w s.is t.is (apart d (same_symbol d) t.m [] t.rest v w (λ e. t.differs (sym e)))

near-same : (d from : ℕ) (xs ys : List Event) (v w : ℕ) → SpellsNear d from xs v → SpellsSame d from ys w → One xs ys v w
near-same d from xs ys v w s t =
    as-one (time_symbol d s.m ∷ s.rest) (time_symbol d (same_symbol d) ∷ []) xs ys v w s.is t.is (apart d s.m (same_symbol d) s.rest [] v w s.differs)

same-opens : (d from : ℕ) (xs ys : List Event) (v w : ℕ) → SpellsSame d from xs v → SpellsNew d from ys w → One xs ys v w
same-opens d from xs ys v w s t =
    as-one (time_symbol d (same_symbol d) ∷ []) (time_symbol d (new_symbol d) ∷ t.rest ++ raw_events 32 t.low) xs ys v w s.is t.is
    (apart d (same_symbol d) (new_symbol d) [] (t.rest ++ raw_events 32 t.low) v w (λ e. omega (arith, e, same-below d)))

opens-same : (d from : ℕ) (xs ys : List Event) (v w : ℕ) → SpellsNew d from xs v → SpellsSame d from ys w → One xs ys v w
opens-same d from xs ys v w s t =
    as-one (time_symbol d (new_symbol d) ∷ s.rest ++ raw_events 32 s.low) (time_symbol d (same_symbol d) ∷ []) xs ys v w s.is t.is
    (apart d (new_symbol d) (same_symbol d) (s.rest ++ raw_events 32 s.low) [] v w (λ e. omega (arith, e, same-below d)))

near-opens : (d from : ℕ) (xs ys : List Event) (v w : ℕ) → SpellsNear d from xs v → SpellsNew d from ys w → One xs ys v w
near-opens d from xs ys v w s t =
    as-one (time_symbol d s.m ∷ s.rest) (time_symbol d (new_symbol d) ∷ t.rest ++ raw_events 32 t.low) xs ys v w s.is t.is
    (apart d s.m (new_symbol d) s.rest (t.rest ++ raw_events 32 t.low) v w (λ e. omega (arith, e, s.below)))

opens-near : (d from : ℕ) (xs ys : List Event) (v w : ℕ) → SpellsNew d from xs v → SpellsNear d from ys w → One xs ys v w
opens-near d from xs ys v w s t =
    as-one (time_symbol d (new_symbol d) ∷ s.rest ++ raw_events 32 s.low) (time_symbol d t.m ∷ t.rest) xs ys v w s.is t.is
    (apart d (new_symbol d) t.m (s.rest ++ raw_events 32 s.low) t.rest v w (λ e. omega (arith, e, t.below)))

rest-one : (d from : ℕ) (xs ys : List Event) (v w : ℕ) → Spells d from xs v → Spells d from ys w → One xs ys v w
rest-one d from xs ys v w (inl s) (inl t) = as-one (time_symbol d (same_symbol d) ∷ []) (time_symbol d (same_symbol d) ∷ []) xs ys v w s.is t.is (inl (refl, s.makes ∙ sym t.makes))
rest-one d from xs ys v w (inl s) (inr (inl t)) = same-near d from xs ys v w s t
rest-one d from xs ys v w (inl s) (inr (inr t)) = same-opens d from xs ys v w s t
rest-one d from xs ys v w (inr (inl s)) (inl t) = near-same d from xs ys v w s t
rest-one d from xs ys v w (inr (inl s)) (inr (inl t)) = near-near d from xs ys v w s t
rest-one d from xs ys v w (inr (inl s)) (inr (inr t)) = near-opens d from xs ys v w s t
rest-one d from xs ys v w (inr (inr s)) (inl t) = opens-same d from xs ys v w s t
rest-one d from xs ys v w (inr (inr s)) (inr (inl t)) = opens-near d from xs ys v w s t
rest-one d from xs ys v w (inr (inr s)) (inr (inr t)) = new-new d from xs ys v w s t

-- what follows begins with a symbol that is no switch
head : (d from : ℕ) (xs : List Event) (v : ℕ) → Spells d from xs v → (m : ℕ) × (m ≤ new_symbol d) × (more : List Event) × (xs ≡ time_symbol d m ∷ more)
head d from xs v (inl s) = (same_symbol d, omega (arith, same-below d), [], s.is)
head d from xs v (inr (inl s)) = (s.m, omega (arith, s.below), s.rest, s.is)
head d from xs v (inr (inr s)) = (new_symbol d, omega arith, s.rest ++ raw_events 32 s.low, s.is)

-- ---- a switch, or none

switched : (d i : ℕ) (rest : List Event) → (i ≡ 0 → ⊥) → switch_events d i ++ rest ≡ time_symbol d (new_symbol d + i) ∷ rest
switched d i rest some = ap (λ l. l ++ rest) (some-switch d i some)

unswitched : (d i : ℕ) (rest : List Event) → i ≡ 0 → switch_events d i ++ rest ≡ rest
unswitched d i rest e = ap (λ n. switch_events d n ++ rest) e

spells-at : (points : List Point) (i : ℕ) (rest : List Event) (v : ℕ) → i ≡ 0 → Spells (difference_on points i) (time_on points i) rest v → Spells (difference_on points 0) (time_on points 0) rest v
spells-at points i rest v e h = subst (λ (n : ℕ). Spells (difference_on points n) (time_on points n) rest v) e h

switches-one : (points : List Point) (i j : ℕ) (xs ys : List Event) (v w : ℕ) → Spells (difference_on points i) (time_on points i) xs v → Spells (difference_on points j) (time_on points j) ys w
    → One (switch_events (difference_on points 0) i ++ xs) (switch_events (difference_on points 0) j ++ ys) v w
switches-one points i j xs ys v w s t =
    let d : ℕ = difference_on points 0 in
    let from : ℕ = time_on points 0 in
    let one : List Event = switch_events d i ++ xs in
    let other : List Event = switch_events d j ++ ys in
    ⊎_elim
    (λ (e : i ≡ 0).
    let here = spells-at points i xs v e s in
    ⊎_elim
    (λ (f : j ≡ 0). as-one xs ys one other v w (unswitched d i xs e) (unswitched d j ys f) (rest-one d from xs ys v w here (spells-at points j ys w f t)))
    (λ (some : j ≡ 0 → ⊥).
    let h = head d from xs v here in
    as-one (time_symbol d h.0 ∷ h.2) (time_symbol d (new_symbol d + j) ∷ ys) one other v w (unswitched d i xs e ∙ h.3) (switched d j ys some)
    (apart d h.0 (new_symbol d + j) h.2 ys v w (λ g. omega (arith, g, some, h.1))))
    (cases_eq j 0))
    (λ (some : i ≡ 0 → ⊥).
    ⊎_elim
    (λ (f : j ≡ 0).
    let h = head d from ys w (spells-at points j ys w f t) in
    as-one (time_symbol d (new_symbol d + i) ∷ xs) (time_symbol d h.0 ∷ h.2) one other v w (switched d i xs some) (unswitched d j ys f ∙ h.3)
    (apart d (new_symbol d + i) h.0 xs h.2 v w (λ g. omega (arith, g, some, h.1))))
    (λ (more : j ≡ 0 → ⊥).
    as-one (time_symbol d (new_symbol d + i) ∷ xs) (time_symbol d (new_symbol d + j) ∷ ys) one other v w (switched d i xs some) (switched d j ys more)
    (times-one d (new_symbol d + i) (new_symbol d + j) xs ys v w
    (λ g.
    let same : j ≡ i = omega (arith, g) in
    rest-one (difference_on points i) (time_on points i) xs ys v w s (subst (λ (n : ℕ). Spells (difference_on points n) (time_on points n) ys w) same t))))
    (cases_eq j 0))
    (cases_eq i 0)

pub time-one : (points : List Point) (xs ys : List Event) (v w : ℕ) → SpellsTime points xs v → SpellsTime points ys w → One xs ys v w
time-one points xs ys v w s t =
    let d : ℕ = difference_on points 0 in
    as-one (switch_events d s.i ++ s.rest) (switch_events d t.i ++ t.rest) xs ys v w s.is t.is (switches-one points s.i t.i s.rest t.rest v w s.spells t.spells)
