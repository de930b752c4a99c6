use Rattle.std.proofs.Common.{◌≡◌, ℕ, ℤ, ◌+◌, ◌*◌, ◌/◌, ◌%◌, ◌<◌, ◌≤◌, eqb, Bool, true, false, List, ◌++◌, length, Result, Ok, Err, refl, sym, ap, subst, ◌∙◌, arith, ⊎_elim}
use Rattle.std.specs.Bool.{MatchBool}
use Rattle.std.specs.Result.{MatchResult}
use Rattle.std.specs.Int.{w32, cast_signed, cast_unsigned}
use Rattle.std.proofs.lemmas.Bool.{cases_eq, cond-true, cond-false, eq-eqb, ne_eqb}
use Rattle.std.proofs.lemmas.Int.{of_z-to_z}
use Rattle.std.proofs.lemmas.List.{append-nil}
use Rattle.laz_range.specs.Cut.{Cut, raw_cuts}
use Rattle.laz_range.specs.Decoding.{Decoding, Refuses, Takes, TakesNone}
use Rattle.laz_range.proofs.Public.{Takes-empty, Takes-then, TakesNone-first, TakesNone-second, Refuses-none, Refuses-second}
use Rattle.laz_integer.specs.Corrector.{corrected, corrector}
use Rattle.laz_integer.specs.Integer.{IntState, IsCorrector, int_cuts, int_next}
use Rattle.laz_integer.proofs.Public.{Takes-onto, TakesNone-onto}
use Rattle.laz_gpstime.specs.Choices.{Choice, IsChoice, IsFront, IsRest, Front, Rest, choice_cuts, choice_next, choice_time, front_cuts, front_next, no_rest, rest_cuts, rest_next, rest_time, word_context, word_read}
use Rattle.laz_gpstime.specs.Meanings.{New, meaning}
use Rattle.laz_gpstime.specs.Spelling.{time_plus}
use Rattle.laz_gpstime.specs.Slots.{TimeState, difference_of, slot_of, after_point}
use Rattle.laz_gpstime.specs.Times.{context, model_of, new_symbol, predicted, same_symbol}
use Rattle.laz_gpstime.proofs.Points.{new-is, same_state}

-- ---- a word that is read
pub word-none : (it : IntState) (ctx : ℕ) (a b : Decoding) → it.bits ≡ 32 → TakesNone {X = ℕ × ℕ} (IsCorrector it.bits) (λ y. int_cuts it ctx y.0 y.1) a b → TakesNone {X = ℕ × ℕ} (IsCorrector 32) (λ y. int_cuts it ctx y.0 y.1) a b
word-none it ctx a b bits h = subst (λ (n : ℕ). TakesNone {X = ℕ × ℕ} (IsCorrector n) (λ y. int_cuts it ctx y.0 y.1) a b) bits h

pub record ReadsWord (it new : IntState) (ctx pred word : ℕ) (a b : Decoding) (x : ℕ × ℕ) : Type 0 where
  pub takes : Takes {X = ℕ × ℕ} (IsCorrector 32) (λ y. int_cuts it ctx y.0 y.1) a b x
  pub word_is : word ≡ cast_unsigned w32 (corrected 32 (cast_signed w32 pred) x.0 x.1)
  pub next : new ≡ int_next it ctx x.0 x.1

pub word-read : (it new : IntState) (ctx pred word : ℕ) (p value : ℤ) (a b : Decoding) (k v : ℕ) → it.bits ≡ 32 → pred < 4294967296 → p ≡ cast_signed w32 pred → word ≡ cast_unsigned w32 (cast_signed w32 (cast_unsigned w32 value))
    → Takes {X = ℕ × ℕ} (IsCorrector it.bits) (λ y. int_cuts it ctx y.0 y.1) a b (k, v) → value ≡ corrected it.bits (cast_signed w32 (cast_unsigned w32 p)) k v → new ≡ int_next it ctx k v → ReadsWord it new ctx pred word a b (k, v)
word-read it new ctx pred word p value a b k v bits small is at takes makes next =
    let n : ℕ = (cast_unsigned w32 (cast_signed w32 pred) + corrector 32 k v) % 4294967296 in
    let below : n < 4294967296 = omega arith in
    let passed : cast_signed w32 (cast_unsigned w32 p) ≡ cast_signed w32 pred = ap (λ z. cast_signed w32 (cast_unsigned w32 z)) is ∙ ap (cast_signed w32) (of_z-to_z w32 pred small) in
    let made : value ≡ cast_signed w32 n = makes ∙ (ap (λ m. corrected m (cast_signed w32 (cast_unsigned w32 p)) k v) bits ∙ ap (λ z. corrected 32 z k v) passed) in
    record {
      takes = subst (λ (m : ℕ). Takes {X = ℕ × ℕ} (IsCorrector m) (λ y. int_cuts it ctx y.0 y.1) a b (k, v)) bits takes;
      word_is = at ∙ (ap (λ z. cast_unsigned w32 (cast_signed w32 (cast_unsigned w32 z))) made ∙ ap (λ m. cast_unsigned w32 (cast_signed w32 m)) (of_z-to_z w32 n below));
      next = next;
    }

-- ---- which case it is
true_false : true ≡ false → ⊥
true_false e = cc

false_true : false ≡ true → ⊥
false_true e = cc

pub match-true : (b : Bool) (P Q : Type 0) → b ≡ true → MatchBool b P Q → P
match-true true P Q e h = h
match-true false P Q e h = absurd (false_true e)

match-false : (b : Bool) (P Q : Type 0) → b ≡ false → MatchBool b P Q → Q
match-false false P Q e h = h
match-false true P Q e h = absurd (true_false e)

pub to-true : (b : Bool) (P Q : Type 0) → b ≡ true → P → MatchBool b P Q
to-true true P Q e h = h
to-true false P Q e h = absurd (false_true e)

to-false : (b : Bool) (P Q : Type 0) → b ≡ false → Q → MatchBool b P Q
to-false false P Q e h = h
to-false true P Q e h = absurd (true_false e)

same_rest : (k v l k' v' l' : ℕ) → k ≡ k' → v ≡ v' → l ≡ l' → ◌≡◌ {A = Rest} ((k, v), l) ((k', v'), l')
same_rest k v l k' v' l' e f g = cc

-- ---- the same time
pub same-takes : (st : TimeState) (s : ℕ) (d : Decoding) → s ≡ same_symbol (difference_of st) → d.taken ≤ length d.bytes → d.failed ≡ false → Takes (IsRest (difference_of st) s) (rest_cuts st s) d d no_rest
same-takes st s d is within good =
    let b = eq-eqb s (same_symbol (difference_of st)) is in
    Takes-empty (IsRest (difference_of st) s) (rest_cuts st s) d no_rest (to-true _ _ _ b refl) (cond-true _ _ _ b) (λ y q. match-true _ _ _ b q) within good

pub same-time : (d from s : ℕ) (y : Rest) → s ≡ same_symbol d → from ≡ rest_time d from s y
same-time d from s y is = sym (cond-true _ _ _ (eq-eqb s (same_symbol d) is))

pub same-next : (st new : TimeState) (s time : ℕ) (y : Rest) → s ≡ same_symbol (difference_of st) → time ≡ (slot_of st).time → new.sequences ≡ after_point st.sequences (meaning (model_of (difference_of st)) s) time → new.symbols ≡ st.symbols → new.integers ≡ st.integers → new ≡ rest_next st s y
same-next st new s time y is at q b n =
    let d = difference_of st in
    let t : time ≡ rest_time d (slot_of st).time s y = at ∙ same-time d (slot_of st).time s y is in
    same_state new.sequences _ new.symbols _ new.integers _ (q ∙ ap (after_point st.sequences (meaning (model_of d) s)) t) b (n ∙ sym (cond-true _ _ _ (eq-eqb s (same_symbol d) is)))

-- ---- a difference
pub record IsNear (d s : ℕ) : Type 0 where
  pub same : eqb s (same_symbol d) ≡ false
  pub new : eqb s (new_symbol d) ≡ false

pub is-near : (d s : ℕ) → s < new_symbol d → (s ≡ same_symbol d → ⊥) → IsNear d s
is-near d s below differs = record { same = ne_eqb s (same_symbol d) differs; new = ne_eqb s (new_symbol d) (λ e. omega (arith, e, below)) }

pub near-asked : (d s : ℕ) (y : Rest) → IsNear d s → IsRest d s y → IsCorrector 32 y.0 × (y.1 ≡ 0)
near-asked d s y near h = let rest = match-false _ _ _ near.same h in (rest.0, match-false _ _ _ near.new rest.1)

pub asked-near : (d s : ℕ) (y : Rest) → IsNear d s → IsCorrector 32 y.0 → y.1 ≡ 0 → IsRest d s y
asked-near d s y near h z = to-false _ _ _ near.same (h, to-false _ _ _ near.new z)

pub near-cuts : (st : TimeState) (s ctx : ℕ) (y : Rest) → IsNear (difference_of st) s → ctx ≡ context (difference_of st) s → rest_cuts st s y ≡ int_cuts st.integers ctx y.0.0 y.0.1
near-cuts st s ctx y near is =
    let d = difference_of st in
    let at : word_context d s ≡ ctx = cond-false _ _ _ near.new ∙ sym is in
    cond-false _ _ _ near.same ∙ (ap (λ l. int_cuts st.integers (word_context d s) y.0.0 y.0.1 ++ l) (cond-false _ _ _ near.new) ∙ (append-nil _ ∙ ap (λ n. int_cuts st.integers n y.0.0 y.0.1) at))

pub near-takes : (st : TimeState) (s ctx : ℕ) (a b : Decoding) (x : ℕ × ℕ) → IsNear (difference_of st) s → ctx ≡ context (difference_of st) s
    → Takes {X = ℕ × ℕ} (IsCorrector 32) (λ y. int_cuts st.integers ctx y.0 y.1) a b x → Takes (IsRest (difference_of st) s) (rest_cuts st s) a b (x, 0)
near-takes st s ctx a b x near is h =
    Takes-onto {X = ℕ × ℕ} {Z = Rest} (λ x. (x, 0)) (λ y. y.0) (IsCorrector 32) (IsRest (difference_of st) s) (λ y. int_cuts st.integers ctx y.0 y.1) (rest_cuts st s) a b x
    (λ z q. same_rest z.0.0 z.0.1 0 z.0.0 z.0.1 z.1 refl refl (sym (near-asked (difference_of st) s z near q).1))
    (asked-near (difference_of st) s (x, 0) near h.choice.asked refl)
    (λ z q. (near-asked (difference_of st) s z near q).0)
    (λ z. near-cuts st s ctx z near is) refl h

pub near-none : (st : TimeState) (s ctx : ℕ) (a b : Decoding) → IsNear (difference_of st) s → ctx ≡ context (difference_of st) s
    → TakesNone {X = ℕ × ℕ} (IsCorrector 32) (λ y. int_cuts st.integers ctx y.0 y.1) a b → TakesNone (IsRest (difference_of st) s) (rest_cuts st s) a b
near-none st s ctx a b near is h =
    TakesNone-onto {X = ℕ × ℕ} {Z = Rest} (λ y. y.0) (IsCorrector 32) (IsRest (difference_of st) s) (λ y. int_cuts st.integers ctx y.0 y.1) (rest_cuts st s) a b
    (λ z q. (near-asked (difference_of st) s z near q).0) (λ z. near-cuts st s ctx z near is) h

pub near-time : (d from s pred word time : ℕ) (x : ℕ × ℕ) → IsNear d s → pred ≡ predicted d s → word ≡ cast_unsigned w32 (corrected 32 (cast_signed w32 pred) x.0 x.1) → time ≡ time_plus from word → time ≡ rest_time d from s (x, 0)
near-time d from s pred word time x near p w t =
    let at : word ≡ word_read d from s (x, 0) = w ∙ ap (λ n. cast_unsigned w32 (corrected 32 (cast_signed w32 n) x.0 x.1)) (p ∙ sym (cond-false _ _ _ near.new)) in
    t ∙ (ap (time_plus from) at ∙ (sym (cond-false _ _ _ near.new) ∙ sym (cond-false _ _ _ near.same)))

pub near-next : (st new : TimeState) (s ctx time : ℕ) (x : ℕ × ℕ) → IsNear (difference_of st) s → ctx ≡ context (difference_of st) s → time ≡ rest_time (difference_of st) (slot_of st).time s (x, 0)
    → new.sequences ≡ after_point st.sequences (meaning (model_of (difference_of st)) s) time → new.symbols ≡ st.symbols → new.integers ≡ int_next st.integers ctx x.0 x.1 → new ≡ rest_next st s (x, 0)
near-next st new s ctx time x near is t q b n =
    let d = difference_of st in
    let at : ctx ≡ word_context d s = is ∙ sym (cond-false _ _ _ near.new) in
    same_state new.sequences _ new.symbols _ new.integers _ (q ∙ ap (after_point st.sequences (meaning (model_of d) s)) t) b
    (n ∙ (ap (λ m. int_next st.integers m x.0 x.1) at ∙ sym (cond-false _ _ _ near.same)))

-- ---- a time that opens a sequence
pub new-same : (d : ℕ) → eqb (new_symbol d) (same_symbol d) ≡ false
new-same d =
    ⊎_elim
    (λ (zero_is : d ≡ 0). rw (eq-eqb d 0 zero_is) refl)
    (λ (some : d ≡ 0 → ⊥). rw (ne_eqb d 0 some) refl)
    (cases_eq d 0)

pub new-new : (d : ℕ) → eqb (new_symbol d) (new_symbol d) ≡ true
new-new d = eq-eqb (new_symbol d) (new_symbol d) refl

abbrev pub AskedNew : Rest → Type 0
AskedNew y = IsCorrector 32 y.0 × (y.1 < 4294967296)

pub new-asked : (d : ℕ) (y : Rest) → IsRest d (new_symbol d) y → AskedNew y
new-asked d y h = let rest = match-false _ _ _ (new-same d) h in (rest.0, match-true _ _ _ (new-new d) rest.1)

pub asked-new : (d : ℕ) (y : Rest) → AskedNew y → IsRest d (new_symbol d) y
asked-new d y h = to-false _ _ _ (new-same d) (h.0, to-true _ _ _ (new-new d) h.1)

abbrev pub new_cuts : TimeState → Rest → List Cut
new_cuts st y = int_cuts st.integers 8 y.0.0 y.0.1 ++ raw_cuts 32 y.1

pub new-cuts : (st : TimeState) (y : Rest) → rest_cuts st (new_symbol (difference_of st)) y ≡ new_cuts st y
new-cuts st y =
    let d = difference_of st in
    let at : word_context d (new_symbol d) ≡ 8 = cond-true _ _ _ (new-new d) in
    cond-false _ _ _ (new-same d) ∙ (ap (λ l. int_cuts st.integers (word_context d (new_symbol d)) y.0.0 y.0.1 ++ l) (cond-true _ _ _ (new-new d)) ∙ ap (λ n. int_cuts st.integers n y.0.0 y.0.1 ++ raw_cuts 32 y.1) at)

pub new-takes : (st : TimeState) (a b c : Decoding) (x : ℕ × ℕ) (low : ℕ) → Takes {X = ℕ × ℕ} (IsCorrector 32) (λ y. int_cuts st.integers 8 y.0 y.1) a b x → Takes (λ v. v < 4294967296) (raw_cuts 32) b c low
    → Takes (IsRest (difference_of st) (new_symbol (difference_of st))) (rest_cuts st (new_symbol (difference_of st))) a c (x, low)
new-takes st a b c x low f g =
    let both = Takes-then {X = ℕ × ℕ} (IsCorrector 32) (λ _ v. v < 4294967296) (λ y. int_cuts st.integers 8 y.0 y.1) (λ _ v. raw_cuts 32 v) a b c x low f g in
    Takes-onto {X = Rest} {Z = Rest} (λ y. y) (λ y. y) AskedNew (IsRest (difference_of st) (new_symbol (difference_of st))) (new_cuts st) (rest_cuts st (new_symbol (difference_of st))) a c (x, low)
    (λ z q. refl) (asked-new (difference_of st) (x, low) both.choice.asked) (λ z q. new-asked (difference_of st) z q) (λ z. new-cuts st z) refl both

pub new-none : (st : TimeState) (a b : Decoding) → TakesNone {X = Rest} AskedNew (new_cuts st) a b → TakesNone (IsRest (difference_of st) (new_symbol (difference_of st))) (rest_cuts st (new_symbol (difference_of st))) a b
new-none st a b h = TakesNone-onto {X = Rest} {Z = Rest} (λ y. y) AskedNew (IsRest (difference_of st) (new_symbol (difference_of st))) (new_cuts st) (rest_cuts st (new_symbol (difference_of st))) a b (λ z q. new-asked (difference_of st) z q) (λ z. new-cuts st z) h

pub new-none_high : (st : TimeState) (a b : Decoding) → TakesNone {X = ℕ × ℕ} (IsCorrector 32) (λ y. int_cuts st.integers 8 y.0 y.1) a b
    → TakesNone (IsRest (difference_of st) (new_symbol (difference_of st))) (rest_cuts st (new_symbol (difference_of st))) a b
new-none_high st a b h = new-none st a b (TakesNone-first {X = ℕ × ℕ} (IsCorrector 32) (λ _ v. v < 4294967296) (λ y. int_cuts st.integers 8 y.0 y.1) (λ _ v. raw_cuts 32 v) a b h)

pub new-none_low : (st : TimeState) (a b c : Decoding) (x : ℕ × ℕ) → Takes {X = ℕ × ℕ} (IsCorrector 32) (λ y. int_cuts st.integers 8 y.0 y.1) a b x → TakesNone (λ v. v < 4294967296) (raw_cuts 32) b c
    → TakesNone (IsRest (difference_of st) (new_symbol (difference_of st))) (rest_cuts st (new_symbol (difference_of st))) a c
new-none_low st a b c x f g = new-none st a c (TakesNone-second {X = ℕ × ℕ} (IsCorrector 32) (λ _ v. v < 4294967296) (λ y. int_cuts st.integers 8 y.0 y.1) (λ _ v. raw_cuts 32 v) a b c x f g)

pub new-time : (d from pred word low time : ℕ) (x : ℕ × ℕ) → pred ≡ from / 4294967296 → word ≡ cast_unsigned w32 (corrected 32 (cast_signed w32 pred) x.0 x.1) → time ≡ word * 4294967296 + low → time ≡ rest_time d from (new_symbol d) (x, low)
new-time d from pred word low time x p w t =
    let at : word ≡ word_read d from (new_symbol d) (x, low) = w ∙ ap (λ n. cast_unsigned w32 (corrected 32 (cast_signed w32 n) x.0 x.1)) (p ∙ sym (cond-true _ _ _ (new-new d))) in
    t ∙ (ap (λ n. n * 4294967296 + low) at ∙ (sym (cond-true _ _ _ (new-new d)) ∙ sym (cond-false _ _ _ (new-same d))))

pub new-next : (st new : TimeState) (time : ℕ) (y : Rest) → time ≡ rest_time (difference_of st) (slot_of st).time (new_symbol (difference_of st)) y
    → new.sequences ≡ after_point st.sequences New time → new.symbols ≡ st.symbols → new.integers ≡ int_next st.integers 8 y.0.0 y.0.1 → new ≡ rest_next st (new_symbol (difference_of st)) y
new-next st new time y t q b n =
    let d = difference_of st in
    let at : 8 ≡ word_context d (new_symbol d) = sym (cond-true _ _ _ (new-new d)) in
    same_state new.sequences _ new.symbols _ new.integers _ (q ∙ (ap (after_point st.sequences New) t ∙ ap (λ m. after_point st.sequences m (rest_time d (slot_of st).time (new_symbol d) y)) (sym (new-is d)))) b
    (n ∙ (ap (λ m. int_next st.integers m y.0.0 y.0.1) at ∙ sym (cond-false _ _ _ (new-same d))))

-- ---- all of it
all-here : {E : Type 0} (result : Result ℕ E) (st new : TimeState) (a b c : Decoding) (x : Front) → Takes (IsFront st) (front_cuts st) a b x
    → (let mid = front_next st x in MatchResult result (λ time. (y : Rest) × Takes (IsRest (difference_of mid) x.1) (rest_cuts mid x.1) b c y × (time ≡ rest_time (difference_of mid) (slot_of mid).time x.1 y) × (new ≡ rest_next mid x.1 y)) (λ _. TakesNone (IsRest (difference_of mid) x.1) (rest_cuts mid x.1) b c))
    → MatchResult result (λ time. (z : Choice) × Takes (IsChoice st) (choice_cuts st) a c z × (time ≡ choice_time st z) × (new ≡ choice_next st z)) (λ _. Refuses (IsChoice st) (choice_cuts st) a c)
all-here (Ok time) st new a b c x f g =
    ((x, g.0), Takes-then {X = Front} {Y = Rest} (IsFront st) (λ x. IsRest (difference_of (front_next st x)) x.1) (front_cuts st) (λ x. rest_cuts (front_next st x) x.1) a b c x g.0 f g.1, g.2, g.3)
all-here (Err e) st new a b c x f g = Refuses-second {X = Front} {Y = Rest} (IsFront st) (λ x. IsRest (difference_of (front_next st x)) x.1) (front_cuts st) (λ x. rest_cuts (front_next st x) x.1) a b c x f (Refuses-none _ _ b c g)

pub all-after : {E : Type 0} (result : Result ℕ E) (st mid new : TimeState) (a b c : Decoding) (x : Front) → Takes (IsFront st) (front_cuts st) a b x → mid ≡ front_next st x
    → MatchResult result (λ time. (y : Rest) × Takes (IsRest (difference_of mid) x.1) (rest_cuts mid x.1) b c y × (time ≡ rest_time (difference_of mid) (slot_of mid).time x.1 y) × (new ≡ rest_next mid x.1 y)) (λ _. TakesNone (IsRest (difference_of mid) x.1) (rest_cuts mid x.1) b c)
    → MatchResult result (λ time. (z : Choice) × Takes (IsChoice st) (choice_cuts st) a c z × (time ≡ choice_time st z) × (new ≡ choice_next st z)) (λ _. Refuses (IsChoice st) (choice_cuts st) a c)
all-after result st mid new a b c x f is g =
    all-here result st new a b c x f
    (subst (λ (m : TimeState). MatchResult result (λ time. (y : Rest) × Takes (IsRest (difference_of m) x.1) (rest_cuts m x.1) b c y × (time ≡ rest_time (difference_of m) (slot_of m).time x.1 y) × (new ≡ rest_next m x.1 y)) (λ _. TakesNone (IsRest (difference_of m) x.1) (rest_cuts m x.1) b c)) is g)
