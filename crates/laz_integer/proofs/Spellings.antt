use Rattle.std.proofs.Common.{◌≡◌, ℕ, ℤ, ◌+◌, ◌%◌, ◌^◌, ◌<◌, ◌≤◌, List, [], ◌++◌, refl, sym, ap, ◌∙◌, arith, subst}
use Rattle.std.specs.Int.{w32, cast_signed, cast_unsigned}
use mir.Val.{SFits}
use Rattle.std.proofs.lemmas.Int.{to_z-of_z, of_z-to_z}
use Rattle.std.proofs.Math.Facts.{Fits-of_z}
use Rattle.laz_range.specs.Cut.{Cut, AreCuts}
use Rattle.laz_range.specs.Span.{Begins, span}
use Rattle.laz_range.specs.Coding.{Coding, Codes}
use Rattle.laz_range.specs.Decoding.{Decoding, ReadsOn, Takes, TakesNone}
use Rattle.laz_range.proofs.Public.{Takes-ReadsOn, TakesNone-NoneBegins, Takes-begins}
use Rattle.laz_integer.specs.Corrector.{choices, corrected, corrector, difference, HasBits, width_of, corrector_index}
use Rattle.laz_integer.specs.Events.{Event, cuts_after}
use Rattle.laz_integer.specs.Integer.{IntState, IsIntState, IntStands, IntSpell, IntEvents, IsCorrector, ReadsCorrector, ReadsInt, NoInt, corrector_events, int_cuts, int_next}
use Rattle.laz_integer.proofs.Correctors.{difference-on, word-fits}
use Rattle.laz_integer.proofs.Counted.{corrector-events, AreCuts-events, length-events_cuts}
use Rattle.laz_integer.proofs.Bounds.{corrector-few, corrector-fewer}
use Rattle.laz_integer.proofs.Stood.{comes}

-- ---- the parts of each corrector's events are parts
pub AreCuts-int : (st : IntState) (ctx : ℕ) (x : ℕ × ℕ) → IsIntState st → ctx < st.contexts → IsCorrector st.bits x → AreCuts (int_cuts st ctx x.0 x.1)
AreCuts-int st ctx x h within asked =
    AreCuts-events [] st st.bits st.contexts (corrector_events [] st.bits ctx x.0 x.1) (record { state = h; bits = refl; contexts = refl }) (corrector-events [] st.bits st.contexts ctx x.0 x.1 h.few within asked.0 asked.1)

-- ---- what a reader answers, in the words of its definition
spelled-cuts : (kind : List ℕ) (earlier : List Event) (st : IntState) (ctx : ℕ) (pred value : ℤ) (events : List Event) (k : ℕ) → IsIntState st → ctx < st.contexts → IntStands kind earlier st
    → (h : IntSpell kind st.bits ctx pred events value k) → cuts_after earlier events ≡ int_cuts st ctx k h.v
spelled-cuts kind earlier st ctx pred value events k is within stands h =
    ap (cuts_after earlier) h.is ∙ (comes kind earlier st ctx k h.v is within h.width h.within stands).cuts

pub no-int : (kind : List ℕ) (earlier : List Event) (st : IntState) (ctx : ℕ) (pred : ℤ) (old new : Decoding) → IsIntState st → ctx < st.contexts → IntStands kind earlier st
    → TakesNone {X = ℕ × ℕ} (IsCorrector st.bits) (λ y. int_cuts st ctx y.0 y.1) old new → NoInt kind earlier st.bits ctx pred old
no-int kind earlier st ctx pred old new is within stands none read had events value k spells begins =
    TakesNone-NoneBegins {X = ℕ × ℕ} (IsCorrector st.bits) (λ y. int_cuts st ctx y.0 y.1) old new (λ y asked. AreCuts-int st ctx y is within asked) none
    read had (k, spells.v) (spells.width, spells.within)
    (subst (λ (cs : List Cut). Begins (span (read ++ cs)) old.bytes) (spelled-cuts kind earlier st ctx pred value events k is within stands spells) begins)

pair_first : (a b c d : ℕ) → ◌≡◌ {A = ℕ × ℕ} (a, b) (c, d) → a ≡ c
pair_first a b c d e = ap (λ (p : ℕ × ℕ). p.0) e

pair_second : (a b c d : ℕ) → ◌≡◌ {A = ℕ × ℕ} (a, b) (c, d) → b ≡ d
pair_second a b c d e = ap (λ (p : ℕ × ℕ). p.1) e

same_events : (kind : List ℕ) (bits ctx j w k v : ℕ) → j ≡ k → w ≡ v → corrector_events kind bits ctx j w ≡ corrector_events kind bits ctx k v
same_events kind bits ctx j w k v e f = rw (e, f) refl

same_integer : (bits : ℕ) (pred : ℤ) (j w k v : ℕ) → j ≡ k → w ≡ v → corrected bits pred j w ≡ corrected bits pred k v
same_integer bits pred j w k v e f = rw (e, f) refl

pub reads-int : (kind : List ℕ) (earlier : List Event) (st after : IntState) (ctx : ℕ) (pred value : ℤ) (k v : ℕ) (old new : Decoding) → IsIntState st → ctx < st.contexts → IntStands kind earlier st
    → Takes {X = ℕ × ℕ} (IsCorrector st.bits) (λ y. int_cuts st ctx y.0 y.1) old new (k, v) → value ≡ corrected st.bits pred k v → after ≡ int_next st ctx k v → ReadsInt kind earlier st.bits ctx pred value k old new after
reads-int kind earlier st after ctx pred value k v old new is within stands takes makes next =
    let asked = takes.choice.asked in
    let events : List Event = corrector_events kind st.bits ctx k v in
    let came = comes kind earlier st ctx k v is within asked.0 asked.1 stands in
    record {
      events = events;
      spells = record { v = v; width = asked.0; within = asked.1; is = refl; makes = makes };
      reads = subst (λ (cs : List Cut). ReadsOn cs old new) (sym came.cuts)
          (Takes-ReadsOn {X = ℕ × ℕ} (IsCorrector st.bits) (λ y. int_cuts st ctx y.0 y.1) old new (k, v) (AreCuts-int st ctx (k, v) is within asked) takes);
      stands = subst (λ (s : IntState). IntStands kind (earlier ++ events) s) (sym next) came.stands;
      only = λ read had others other j spells begins.
          let same = Takes-begins {X = ℕ × ℕ} (IsCorrector st.bits) (λ y. int_cuts st ctx y.0 y.1) old new (k, v) (λ y asked. AreCuts-int st ctx y is within asked) takes
          read had (j, spells.v) (spells.width, spells.within)
          (subst (λ (cs : List Cut). Begins (span (read ++ cs)) old.bytes) (spelled-cuts kind earlier st ctx pred other others j is within stands spells) begins) in
          let same_k : j ≡ k = pair_first j spells.v k v same in
          let same_v : spells.v ≡ v = pair_second j spells.v k v same in (
            spells.is ∙ same_events kind st.bits ctx j spells.v k v same_k same_v,
            spells.makes ∙ same_integer st.bits pred j spells.v k v same_k same_v ∙ sym makes,
            same_k,
          );
    }

-- ---- a writer's corrector makes the integer
pub corrected-is : (bits : ℕ) (pred real : ℤ) (k v : ℕ) → bits ≤ 32 → SFits w32 real → cast_unsigned w32 pred < 4294967296 → HasBits bits real → corrector bits k v ≡ difference bits pred real → real ≡ corrected bits pred k v
corrected-is bits pred real k v few fits word within makes =
    let sum : (cast_unsigned w32 pred + corrector bits k v) % 2 ^ bits ≡ cast_unsigned w32 real =
    ap (λ n. (cast_unsigned w32 pred + n) % 2 ^ bits) makes ∙ difference-on bits (cast_unsigned w32 pred) (cast_unsigned w32 real) few word within in
    sym (ap (cast_signed w32) sum ∙ to_z-of_z w32 real fits)

-- ---- a writer's events
abbrev pub IsWritten : ℕ → ℤ → ℤ → ℕ → ℕ → Type 0
IsWritten bits pred real k v = (k ≡ width_of bits (difference bits pred real)) × (v ≡ corrector_index bits (difference bits pred real) k)

pub written-events : (kind : List ℕ) (bits ctx : ℕ) (pred real : ℤ) (k v : ℕ) → IsWritten bits pred real k v → IntEvents kind bits ctx pred real ≡ corrector_events kind bits ctx k v
written-events kind bits ctx pred real k v h = rw (h.1, h.0) refl

pub written-codes : (kind : List ℕ) (earlier : List Event) (st : IntState) (ctx : ℕ) (pred real : ℤ) (k v : ℕ) (a b : Coding) → IsIntState st → ctx < st.contexts → k ≤ st.bits → v < choices k → IntStands kind earlier st
    → IsWritten st.bits pred real k v → Codes a b (int_cuts st ctx k v) → Codes a b (cuts_after earlier (IntEvents kind st.bits ctx pred real))
written-codes kind earlier st ctx pred real k v a b is within range value stands h codes =
    subst (λ (cs : List Cut). Codes a b cs) (sym (ap (cuts_after earlier) (written-events kind st.bits ctx pred real k v h) ∙ (comes kind earlier st ctx k v is within range value stands).cuts)) codes

pub written-stands : (kind : List ℕ) (earlier : List Event) (st after : IntState) (ctx : ℕ) (pred real : ℤ) (k v : ℕ) → IsIntState st → ctx < st.contexts → k ≤ st.bits → v < choices k → IntStands kind earlier st
    → IsWritten st.bits pred real k v → after ≡ int_next st ctx k v → IntStands kind (earlier ++ IntEvents kind st.bits ctx pred real) after
written-stands kind earlier st after ctx pred real k v is within range value stands h next =
    subst (λ (es : List Event). IntStands kind (earlier ++ es) after) (sym (written-events kind st.bits ctx pred real k v h))
    (subst (λ (s : IntState). IntStands kind (earlier ++ corrector_events kind st.bits ctx k v) s) (sym next) (comes kind earlier st ctx k v is within range value stands).stands)

pub written-spells : (kind : List ℕ) (bits ctx : ℕ) (pred real : ℤ) (k v : ℕ) → k ≤ bits → v < choices k → IsWritten bits pred real k v → real ≡ corrected bits pred k v → IntSpell kind bits ctx pred (IntEvents kind bits ctx pred real) real k
written-spells kind bits ctx pred real k v range value h makes =
    record { v = v; width = range; within = value; is = written-events kind bits ctx pred real k v h; makes = makes }

-- ---- a signed word that was passed on
pub difference-passed : (bits : ℕ) (pred real : ℤ) (n : ℕ) → SFits w32 pred → SFits w32 real → n ≡ difference bits (cast_signed w32 (cast_unsigned w32 pred)) (cast_signed w32 (cast_unsigned w32 real)) → n ≡ difference bits pred real
difference-passed bits pred real n f g e = e ∙ (ap (λ p. difference bits p (cast_signed w32 (cast_unsigned w32 real))) (to_z-of_z w32 pred f) ∙ ap (λ r. difference bits pred r) (to_z-of_z w32 real g))

pub both-passed : (P : ℤ → ℤ → Type 0) (pred real : ℤ) → SFits w32 pred → SFits w32 real → P (cast_signed w32 (cast_unsigned w32 pred)) (cast_signed w32 (cast_unsigned w32 real)) → P pred real
both-passed P pred real f g h = subst (λ r. P pred r) (to_z-of_z w32 real g) (subst (λ p. P p (cast_signed w32 (cast_unsigned w32 real))) (to_z-of_z w32 pred f) h)

pub corrected-passed : (bits : ℕ) (pred : ℤ) (k v : ℕ) (z : ℤ) → bits ≤ 32 → SFits w32 pred → z ≡ corrected bits (cast_signed w32 (cast_unsigned w32 pred)) k v → cast_signed w32 (cast_unsigned w32 z) ≡ corrected bits pred k v
corrected-passed bits pred k v z few f e =
    let is : z ≡ corrected bits pred k v = e ∙ ap (λ p. corrected bits p k v) (to_z-of_z w32 pred f) in
    let n : ℕ = (cast_unsigned w32 pred + corrector bits k v) % 2 ^ bits in
    ap (λ y. cast_signed w32 (cast_unsigned w32 y)) is ∙ ap (cast_signed w32) (of_z-to_z w32 n (word-fits (cast_unsigned w32 pred + corrector bits k v) bits few))

pub word_of : (z : ℤ) → SFits w32 z → cast_unsigned w32 z < 4294967296
word_of z f = (Fits-of_z {w = w32} f).fits

-- ---- four events at most, and three at most up to 27 bits
pub int-used : (st : IntState) (ctx k v : ℕ) (a b : Coding) → k ≤ 32 → Codes a b (int_cuts st ctx k v) → a.left ≤ b.left + 12
int-used st ctx k v a b few h = omega (arith, h.used, length-events_cuts st (corrector_events [] st.bits ctx k v), corrector-few [] st.bits ctx k v few)

pub int-short : (st : IntState) (ctx k v : ℕ) (a b : Coding) → k ≤ 27 → Codes a b (int_cuts st ctx k v) → a.left ≤ b.left + 9
int-short st ctx k v a b few h = omega (arith, h.used, length-events_cuts st (corrector_events [] st.bits ctx k v), corrector-fewer [] st.bits ctx k v few)

-- ---- a reader's answer, with the number of bits fixed
pub fixed-reads : (bits : ℕ) (st next : IntState) (ctx : ℕ) (pred value : ℤ) (k : ℕ) (old new : Decoding) → st.bits ≡ bits
    → ReadsCorrector st.bits st ctx pred value k old new next → ReadsCorrector bits st ctx pred value k old new next
fixed-reads bits st next ctx pred value k old new same reads = subst (λ (n : ℕ). ReadsCorrector n st ctx pred value k old new next) same reads

pub fixed-none : (bits : ℕ) (st : IntState) (ctx : ℕ) (old new : Decoding) → st.bits ≡ bits
    → TakesNone {X = ℕ × ℕ} (IsCorrector st.bits) (λ y. int_cuts st ctx y.0 y.1) old new → TakesNone {X = ℕ × ℕ} (IsCorrector bits) (λ y. int_cuts st ctx y.0 y.1) old new
fixed-none bits st ctx old new same none = subst (λ (n : ℕ). TakesNone {X = ℕ × ℕ} (IsCorrector n) (λ y. int_cuts st ctx y.0 y.1) old new) same none
