-- What a decoder has read, in the words of what begins its bytes. Cited by crates above.
use Rattle.std.proofs.Common.{◌≡◌, ℕ, ◌+◌, ◌-◌, ◌*◌, ◌/◌, ◌%◌, ◌^◌, ◌<◌, ◌≤◌, List, [], ◌∷◌, ◌++◌, length, take, drop, Option, Some, None, Result, Ok, Err, get_or, lit<, lit≤, refl, sym, ap, subst, ◌∙◌, arith, ⊎_elim, length-drop}
use Rattle.std.specs.Option.{SomeIff, option_and_then}
use Rattle.laz_range.specs.Cut.{Cut, Raw, IsCut, AreCuts, IsLike, one_event, raw_cuts}
use Rattle.laz_range.specs.Span.{initial_span, span, number, Begins}
use Rattle.laz_range.specs.Reading.{Reading, IsIn, follow, follow_all, reading}
use Rattle.laz_range.specs.Choice.{Only, Nothing}
use Rattle.laz_range.specs.Decoding.{Decoding, reading_of, HasRead, ReadsOn, NoneBegins, Takes, TakesNone, Reads}
use Rattle.laz_range.proofs.Reach.{after-IsSpan, initial_span-IsSpan}
use Rattle.laz_range.proofs.Begin.{follow_all-is}
use Rattle.laz_range.proofs.Whole.{after-append}
use Rattle.laz_range.proofs.Other.{IsOther, alike_cases, follow-other, follow-apart}
use Rattle.laz_range.proofs.Chain.{follows_front, follows_both, some_injective}
use Rattle.laz_range.proofs.Refills.{raw_cuts-wide, raw_cuts-narrow}
use Rattle.laz_range.proofs.Cuts.{raw_high}
use Rattle.std.proofs.lemmas.Bool.{cases_lt}

-- ---- one event
pub follow-one : (r m : Reading) (c : Cut) → follow r c ≡ Some m → follow_all r (c ∷ []) ≡ Some m
follow-one r m c e = rw e refl

some_front : (o : Option Reading) (m : Reading) → option_and_then (λ (s : Reading). Some s) o ≡ Some m → o ≡ Some m
some_front None m e = e
some_front (Some x) m e = e

pub one-follow : (r m : Reading) (c : Cut) → follow_all r (c ∷ []) ≡ Some m → follow r c ≡ Some m
one-follow r m c e = some_front (follow r c) m e

no_some : (o : Option Reading) (m : Reading) → o ≡ None → option_and_then (λ (s : Reading). Some s) o ≡ Some m → ⊥
no_some o m e f = let none : None ≡ Some m = rw e at f in cc

-- no choice, if each is none
pub Nothing-none : {X : Type 0} (P : X → Type 0) (c : X → Cut) (r : Reading) → ((y : X) → P y → follow r (c y) ≡ None) → Nothing P (λ y. c y ∷ []) r
Nothing-none P c r none y s asked e = no_some (follow r (c y)) s (none y asked) e

-- of the events of its kind, one alone begins what is left
pub Only-one : (r m : Reading) (c : Cut) → IsCut c → follow r c ≡ Some m → IsLike c c → Only (IsLike c) one_event r c m
Only-one r m c is e like =
    record {
      asked = like;
      reads = follow-one r m c e;
      only = λ y s asked f.
          ⊎_elim
          (λ (same : c ≡ y). sym same)
          (λ (other : IsOther c y). absurd (no_some (follow r y) s (follow-other r m c y is asked.0 other e) f))
          (alike_cases c y asked.1);
    }

pub Nothing-one : (r : Reading) (c : Cut) → IsCut c → IsIn r c → follow r c ≡ None → Nothing (IsLike c) one_event r
Nothing-one r c is lies none y s asked f =
    ⊎_elim
    (λ (same : c ≡ y). no_some (follow r y) s (subst (λ (d : Cut). follow r d ≡ None) same none) f)
    (λ (other : IsOther c y). no_some (follow r y) s (follow-apart r c y is asked.0 other lies) f)
    (alike_cases c y asked.1)

-- ---- a choice among fewer
pub Only-pull : {X Y : Type 0} (g : Y → X) (P : X → Type 0) (Q : Y → Type 0) (cuts : X → List Cut) (r m : Reading) (y : Y)
    → Only P cuts r (g y) m → Q y → ((z : Y) → Q z → P (g z)) → ((z : Y) → Q z → g z ≡ g y → z ≡ y) → Only Q (λ z. cuts (g z)) r y m
Only-pull g P Q cuts r m y h asked to back =
    record {
      asked = asked;
      reads = h.reads;
      only = λ z s q e. back z q (h.only (g z) s (to z q) e);
    }

-- ---- a raw value of two parts
halves_same : (y low high : ℕ) → y % 65536 ≡ low → y / 65536 ≡ high → y ≡ high * 65536 + low
halves_same y low high e f = omega (arith, e, f)

pub Only-wide : (r m s : Reading) (b low high : ℕ) → 19 < b → ((v : ℕ) → v < 2 ^ b → v / 65536 < 2 ^ (b - 16)) → high * 65536 + low < 2 ^ b
    → Only (λ v. v < 2 ^ 16) (λ v. Raw 16 v ∷ []) r low m → Only (λ v. v < 2 ^ (b - 16)) (λ v. Raw (b - 16) v ∷ []) m high s
    → Only (λ v. v < 2 ^ b) (raw_cuts b) r (high * 65536 + low) s
Only-wide r m s b low high wide halves small f g =
    let low_small : low < 65536 = f.asked in
    let low_is : (high * 65536 + low) % 65536 ≡ low = omega arith in
    let high_is : (high * 65536 + low) / 65536 ≡ high = omega arith in
    record {
      asked = small;
      reads = rw (raw_cuts-wide b (high * 65536 + low) wide, low_is, high_is) (follows_both r m s (Raw 16 low ∷ []) (Raw (b - 16) high ∷ []) f.reads g.reads);
      only = λ y t asked e.
          let parts = follows_front r t (Raw 16 (y % 65536) ∷ []) (Raw (b - 16) (y / 65536) ∷ []) (rw (raw_cuts-wide b y wide) at e) in
          let y_low : y % 65536 < 65536 = omega arith in
          let first : y % 65536 ≡ low = f.only (y % 65536) parts.0 y_low parts.1 in
          let same : follow_all r (Raw 16 low ∷ []) ≡ Some parts.0 = subst (λ (v : ℕ). follow_all r (Raw 16 v ∷ []) ≡ Some parts.0) first parts.1 in
          let mid : parts.0 ≡ m = some_injective (follow_all r (Raw 16 low ∷ [])) parts.0 m same f.reads in
          let rest : follow_all m (Raw (b - 16) (y / 65536) ∷ []) ≡ Some t = subst (λ (q : Reading). follow_all q (Raw (b - 16) (y / 65536) ∷ []) ≡ Some t) mid parts.2 in
          let second : y / 65536 ≡ high = g.only (y / 65536) t (halves y asked) rest in
          halves_same y low high first second;
    }

pub Nothing-wide_low : (r : Reading) (b : ℕ) → 19 < b → Nothing (λ v. v < 2 ^ 16) (λ v. Raw 16 v ∷ []) r → Nothing (λ v. v < 2 ^ b) (raw_cuts b) r
Nothing-wide_low r b wide none y t asked e =
    let parts = follows_front r t (Raw 16 (y % 65536) ∷ []) (Raw (b - 16) (y / 65536) ∷ []) (rw (raw_cuts-wide b y wide) at e) in
    let y_low : y % 65536 < 65536 = omega arith in
    none (y % 65536) parts.0 y_low parts.1

pub Nothing-wide_high : (r m : Reading) (b low : ℕ) → 19 < b → ((v : ℕ) → v < 2 ^ b → v / 65536 < 2 ^ (b - 16))
    → Only (λ v. v < 2 ^ 16) (λ v. Raw 16 v ∷ []) r low m → Nothing (λ v. v < 2 ^ (b - 16)) (λ v. Raw (b - 16) v ∷ []) m → Nothing (λ v. v < 2 ^ b) (raw_cuts b) r
Nothing-wide_high r m b low wide halves f none y t asked e =
    let parts = follows_front r t (Raw 16 (y % 65536) ∷ []) (Raw (b - 16) (y / 65536) ∷ []) (rw (raw_cuts-wide b y wide) at e) in
    let y_low : y % 65536 < 65536 = omega arith in
    let first : y % 65536 ≡ low = f.only (y % 65536) parts.0 y_low parts.1 in
    let same : follow_all r (Raw 16 low ∷ []) ≡ Some parts.0 = subst (λ (v : ℕ). follow_all r (Raw 16 v ∷ []) ≡ Some parts.0) first parts.1 in
    let mid : parts.0 ≡ m = some_injective (follow_all r (Raw 16 low ∷ [])) parts.0 m same f.reads in
    none (y / 65536) t (halves y asked) (subst (λ (q : Reading). follow_all q (Raw (b - 16) (y / 65536) ∷ []) ≡ Some t) mid parts.2)

-- ---- what a decoder has read
pub AreCuts-append : (xs ys : List Cut) → AreCuts xs → AreCuts ys → AreCuts (xs ++ ys)
AreCuts-append [] ys h k = k
AreCuts-append (x ∷ xs) ys h k = (h.0, AreCuts-append xs ys h.1 k)

same_reading : (v n w k : ℕ) (bs cs : List ℕ) → v ≡ w → n ≡ k → bs ≡ cs → record { value = v; len = n; rest = bs } ≡ (let r : Reading = record { value = w; len = k; rest = cs } in r)
same_reading v n w k bs cs e f g = cc

pub HasRead-reading : (events : List Cut) (d : Decoding) → HasRead events d → reading_of d ≡ reading (span events) d.bytes
HasRead-reading events d h =
    let at : number (take d.taken d.bytes) ≡ number (take ((span events).shifts + 4) d.bytes) = ap (λ k. number (take k d.bytes)) h.taken in
    same_reading _ _ _ _ _ _ (omega (arith, h.value, at)) h.len (ap (λ k. drop k d.bytes) h.taken)

pub SomeIff-at : {A : Type 0} (o : Option A) (P : Type 0) (x : A) → SomeIff o P x → P → o ≡ Some x
SomeIff-at None P x h p = absurd (h p)
SomeIff-at (Some z) P x h p = ap Some h.1

pub SomeIff-from : {A : Type 0} (o : Option A) (P : Type 0) (x m : A) → SomeIff o P x → o ≡ Some m → P × (m ≡ x)
SomeIff-from {A} None P x m h e = let no : None ≡ Some m = e in absurd (cc)
SomeIff-from (Some z) P x m h e = let same : z ≡ m = cc in (h.0, sym same ∙ h.1)

-- the events that a decoder can follow are those that begin the bytes after what it has read
pub follow_all-read : (events cuts : List Cut) (d : Decoding) → HasRead events d → AreCuts cuts
    → SomeIff (follow_all (reading_of d) cuts) (Begins (span (events ++ cuts)) d.bytes) (reading (span (events ++ cuts)) d.bytes)
follow_all-read events cuts d h all =
    rw (HasRead-reading events d h, after-append initial_span events cuts)
    (follow_all-is (span events) cuts d.bytes (after-IsSpan initial_span events initial_span-IsSpan h.cuts) all h.bytes h.begins)

places_same : (n k : ℕ) (bs : List ℕ) → n ≤ length bs → k ≤ length bs → drop n bs ≡ drop k bs → n ≡ k
places_same n k bs h g e = omega (arith, length-drop n bs, length-drop k bs, ap length e)

pub HasRead-on : (events cuts : List Cut) (d n : Decoding) → HasRead events d → AreCuts cuts → follow_all (reading_of d) cuts ≡ Some (reading_of n) → n.bytes ≡ d.bytes → n.taken ≤ length n.bytes → HasRead (events ++ cuts) n
HasRead-on events cuts d n h all e same within =
    let both = SomeIff-from (follow_all (reading_of d) cuts) (Begins (span (events ++ cuts)) d.bytes) (reading (span (events ++ cuts)) d.bytes) (reading_of n) (follow_all-read events cuts d h all) e in
    let begins : Begins (span (events ++ cuts)) n.bytes = rw same both.0 in
    let is : reading_of n ≡ reading (span (events ++ cuts)) n.bytes = both.1 ∙ ap (reading (span (events ++ cuts))) (sym same) in
    let taken : n.taken ≡ (span (events ++ cuts)).shifts + 4 = places_same n.taken ((span (events ++ cuts)).shifts + 4) n.bytes within begins.enough (ap (λ (r : Reading). r.rest) is) in
    let at : number (take n.taken n.bytes) ≡ number (take ((span (events ++ cuts)).shifts + 4) n.bytes) = ap (λ k. number (take k n.bytes)) taken in
    record {
      cuts = AreCuts-append events cuts h.cuts all;
      bytes = rw same h.bytes;
      begins = begins;
      taken = taken;
      value = omega (arith, at, begins.low, ap (λ (r : Reading). r.value) is);
      len = ap (λ (r : Reading). r.len) is;
    }

-- ---- the promise in the words of what begins the bytes
pub Takes-ReadsOn : {X : Type 0} (P : X → Type 0) (cuts : X → List Cut) (old new : Decoding) (x : X) → AreCuts (cuts x) → Takes P cuts old new x → ReadsOn (cuts x) old new
Takes-ReadsOn P cuts old new x all h events read = HasRead-on events (cuts x) old new read all h.choice.reads h.bytes h.within

pub TakesNone-NoneBegins : {X : Type 0} (P : X → Type 0) (cuts : X → List Cut) (old new : Decoding) → ((y : X) → P y → AreCuts (cuts y)) → TakesNone P cuts old new → NoneBegins P cuts old
TakesNone-NoneBegins P cuts old new all h events read y asked begins =
    h.nothing y _ asked (SomeIff-at (follow_all (reading_of old) (cuts y)) _ _ (follow_all-read events (cuts y) old read (all y asked)) begins)

-- of the choices asked for, the one that was read alone begins the bytes after what was read before
pub Takes-begins : {X : Type 0} (P : X → Type 0) (cuts : X → List Cut) (old new : Decoding) (x : X) → ((y : X) → P y → AreCuts (cuts y)) → Takes P cuts old new x
    → (events : List Cut) → HasRead events old → (y : X) → P y → Begins (span (events ++ cuts y)) old.bytes → y ≡ x
Takes-begins P cuts old new x all h events read y asked begins =
    h.choice.only y _ asked (SomeIff-at (follow_all (reading_of old) (cuts y)) _ _ (follow_all-read events (cuts y) old read (all y asked)) begins)

-- the same call, said of equal events
pub Reads-same : {X E : Type 0} (result : Result X E) (P : X → Type 0) (cuts others : X → List Cut) (old new : Decoding) → ((x : X) → others x ≡ cuts x) → Reads result P cuts old new → Reads result P others old new
Reads-same (Ok x) P cuts others old new same h =
    record {
      choice = record {
        asked = h.choice.asked;
        reads = ap (follow_all (reading_of old)) (same x) ∙ h.choice.reads;
        only = λ y s asked e. h.choice.only y s asked (ap (follow_all (reading_of old)) (sym (same y)) ∙ e);
      };
      bytes = h.bytes;
      within = h.within;
      good = h.good;
    }
Reads-same (Err e) P cuts others old new same h =
    record {
      nothing = λ y s asked f. h.nothing y s asked (ap (follow_all (reading_of old)) (sym (same y)) ∙ f);
      bytes = h.bytes;
      failed = h.failed;
    }

pub AreCuts-raw : (b v : ℕ) → 0 < b → b ≤ 32 → v < 2 ^ b → AreCuts (raw_cuts b v)
AreCuts-raw b v some few small =
    ⊎_elim
    (λ (wide : 19 < b).
    let high = raw_high v b wide small in
    rw (raw_cuts-wide b v wide) ((lit< tt, lit≤ tt, omega arith), ((omega arith, omega arith, high), tt)))
    (λ (narrow : b ≤ 19). rw (raw_cuts-narrow b v narrow) ((some, narrow, small), tt))
    (cases_lt 19 b)

-- the number of the first four bytes
pub number-four : (bytes : List ℕ) → 4 ≤ length bytes → number (take 4 bytes) ≡ ((get_or bytes 0 0 * 256 + get_or bytes 1 0) * 256 + get_or bytes 2 0) * 256 + get_or bytes 3 0
number-four [] h = absurd (omega arith)
number-four (a ∷ []) h = absurd (omega arith)
number-four (a ∷ b ∷ []) h = absurd (omega arith)
number-four (a ∷ b ∷ c ∷ []) h = absurd (omega arith)
number-four (a ∷ b ∷ c ∷ d ∷ rest) h = omega arith
