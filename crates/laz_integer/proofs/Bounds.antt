-- How many events and parts there are, and how many bytes they take. Meant for the crates of items and chunks, too.
use Rattle.std.proofs.Common.{◌+◌, ◌≡◌, ℕ, ◌-◌, ◌%◌, ◌^◌, ◌<◌, ◌≤◌, Bool, true, false, List, [], ◌∷◌, ◌++◌, length, ap, arith, lit≤, ⊎_elim}
use Rattle.std.proofs.lemmas.Bool.{cases_lt}
use Rattle.laz_integer.specs.Events.{Symbol, Event, cuts_after, raw_events}
use Rattle.laz_integer.specs.Integer.{IntSpell, corrector_events, width_name}
use Rattle.laz_integer.specs.Fields.{SpellsByte, SpellsWord}
use Rattle.laz_integer.proofs.Named.{raw-wide, raw-short}
use Rattle.laz_integer.proofs.Cases.{by-width}

pub length-cuts : (earlier events : List Event) → length (cuts_after earlier events) ≡ length events
length-cuts earlier [] = omega arith
length-cuts earlier (e ∷ events) = omega (arith, length-cuts (earlier ++ e ∷ []) events)

-- ---- numbers of events
pub raw-few : (b v : ℕ) → length (raw_events b v) ≤ 2
raw-few b v =
    ⊎_elim
    (λ (wide : 19 < b). rw (raw-wide b v wide) (lit≤ tt))
    (λ (narrow : b ≤ 19). rw (raw-short b v narrow) (lit≤ tt))
    (cases_lt 19 b)

pub corrector-few : (kind : List ℕ) (bits ctx k v : ℕ) → k ≤ 32 → length (corrector_events kind bits ctx k v) ≤ 4
corrector-few kind bits ctx k v few =
    by-width (λ l. length (Symbol (width_name kind ctx) (bits + 1) k ∷ l) ≤ 4) kind k v few (λ e. lit≤ tt) (λ e. lit≤ tt) (λ some narrow. lit≤ tt)
    (λ wide small. omega (arith, raw-few (k - 8) (v % 2 ^ (k - 8))))

pub corrector-fewer : (kind : List ℕ) (bits ctx k v : ℕ) → k ≤ 27 → length (corrector_events kind bits ctx k v) ≤ 3
corrector-fewer kind bits ctx k v few =
    by-width (λ l. length (Symbol (width_name kind ctx) (bits + 1) k ∷ l) ≤ 3) kind k v (omega arith) (λ e. lit≤ tt) (λ e. lit≤ tt) (λ some narrow. lit≤ tt)
    (λ wide small. rw (raw-short (k - 8) (v % 2 ^ (k - 8)) (omega arith)) (lit≤ tt))

pub int-few : (kind : List ℕ) (bits ctx : ℕ) (pred value : _) (events : List Event) (k : ℕ) → bits ≤ 32 → IntSpell kind bits ctx pred events value k → length events ≤ 4
int-few kind bits ctx pred value events k most h = omega (arith, ap length h.is, corrector-few kind bits ctx k h.v (omega (arith, h.width, most)))

pub int-fewer : (kind : List ℕ) (bits ctx : ℕ) (pred value : _) (events : List Event) (k : ℕ) → bits ≤ 27 → IntSpell kind bits ctx pred events value k → length events ≤ 3
int-fewer kind bits ctx pred value events k most h = omega (arith, ap length h.is, corrector-fewer kind bits ctx k h.v (omega (arith, h.width, most)))

pub byte-few : (marked : Bool) (kind : List ℕ) (m expected s : ℕ) (events : List Event) → SpellsByte marked kind m expected events s → length events ≤ 1
byte-few true kind m expected s events h = omega (arith, ap length h.1)
byte-few false kind m expected s events h = omega (arith, ap length h.0)

pub word-few : (marked : Bool) (kind : List ℕ) (ctx pred value : ℕ) (events : List Event) → SpellsWord marked kind ctx pred events value → length events ≤ 3
word-few true kind ctx pred value events h = int-fewer _ 16 _ _ _ events h.0 (lit≤ tt) h.1
word-few false kind ctx pred value events h = omega (arith, ap length h.0)
