-- What the calls of a decoder read: symbols, bits and raw values. Cited by crates above.
use Rattle.std.proofs.Common.{◌≡◌, ℕ, ◌+◌, ◌-◌, ◌*◌, ◌/◌, ◌^◌, ◌<◌, ◌≤◌, Bool, List, [], ◌∷◌, length, drop, Some, Result, Ok, Err, IsErr, OnOk, OnErr, ◌↔◌, refl, ◌∙◌, arith, inl, inr, ⊎_elim, ◌⊎◌, subst, length-drop}
use Rattle.std.specs.Bool.{⊤}
use Rattle.laz_range.specs.Cut.{Cut, Part, Bit, Raw, IsCut, AreCuts, IsLike, one_event, raw_cuts, start_in, width_in}
use Rattle.laz_range.specs.Span.{bytes_for}
use Rattle.laz_range.specs.Reading.{Reading, IsIn, follow, reading_after_part, quotient, RefusesPart, RefusesRaw}
use Rattle.laz_range.specs.Decoding.{Decoding, reading_of, Takes, TakesNone, RunsOut, ReadsOn, NoneBegins}
use Rattle.laz_range.specs.Input.{Advances, Stops}
use Rattle.laz_range.proofs.Refills.{raw_cuts-narrow, follow-in, wide_small}
use Rattle.laz_range.proofs.Ends.{short_of, enough_for}
use Rattle.laz_range.proofs.Decodings.{Reads-same, Only-one, Nothing-one, Only-pull, Takes-ReadsOn, TakesNone-NoneBegins, Only-wide, Nothing-wide_low, Nothing-wide_high, one-follow}
use Rattle.laz_range.proofs.Chain.{some_injective}
use Rattle.laz_range.proofs.Cuts.{raw_high}
use Rattle.std.specs.Result.{MatchResult}

pub like_self : (c : Cut) → IsCut c → IsLike c c
like_self (Part lo hi) is = (is, inl (refl, refl))
like_self (Bit p0 bit) is = (is, refl)
like_self (Raw b v) is = (is, refl)

-- ---- an event that the value lies in
pub event-passes : (d n : Decoding) (c : Cut) → IsCut c → IsIn (reading_of d) c → Advances (reading_after_part (reading_of d) (start_in d.len c) (width_in d.len c)) d n → Takes (IsLike c) one_event d n c
event-passes d n c is lies h =
    record {
      choice = Only-one (reading_of d) (reading_of n) c is (follow-in (reading_of d) c lies ∙ h.reads) (like_self c is);
      bytes = h.bytes;
      within = h.within;
      good = h.good;
    }

pub event-stops : (d n : Decoding) (c : Cut) → IsCut c → IsIn (reading_of d) c → Stops (reading_after_part (reading_of d) (start_in d.len c) (width_in d.len c)) d n → TakesNone (IsLike c) one_event d n
event-stops d n c is lies h =
    record {
      nothing = Nothing-one (reading_of d) c is lies (follow-in (reading_of d) c lies ∙ h.reads);
      bytes = h.bytes;
      failed = h.failed;
    }

-- a choice among fewer
pub Takes-pull : {X Y : Type 0} (g : Y → X) (P : X → Type 0) (Q : Y → Type 0) (cuts : X → List Cut) (d n : Decoding) (y : Y)
    → Takes P cuts d n (g y) → Q y → ((z : Y) → Q z → P (g z)) → ((z : Y) → Q z → g z ≡ g y → z ≡ y) → Takes Q (λ z. cuts (g z)) d n y
Takes-pull g P Q cuts d n y h asked to back =
    record {
      choice = Only-pull g P Q cuts (reading_of d) (reading_of n) y h.choice asked to back;
      bytes = h.bytes;
      within = h.within;
      good = h.good;
    }

pub TakesNone-pull : {X Y : Type 0} (g : Y → X) (P : X → Type 0) (Q : Y → Type 0) (cuts : X → List Cut) (d n : Decoding)
    → TakesNone P cuts d n → ((z : Y) → Q z → P (g z)) → TakesNone Q (λ z. cuts (g z)) d n
TakesNone-pull g P Q cuts d n h to =
    record {
      nothing = λ y s asked e. h.nothing (g y) s (to y asked) e;
      bytes = h.bytes;
      failed = h.failed;
    }

-- ---- the bytes run out, or do not
width_some : (r : Reading) (c : Cut) → IsIn r c → 0 < width_in r.len c
width_some r c h = omega (arith, h.above, h.below)

pub event-short : (d n : Decoding) (c : Cut) → d.taken ≤ length d.bytes → IsIn (reading_of d) c → Stops (reading_after_part (reading_of d) (start_in d.len c) (width_in d.len c)) d n → RunsOut d c
event-short d n c within lies h =
    omega (arith, short_of (reading_of d) (start_in d.len c) (width_in d.len c) (width_some (reading_of d) c lies) h.reads, length-drop d.taken d.bytes)

pub event-enough : (d n : Decoding) (c : Cut) → d.taken ≤ length d.bytes → IsIn (reading_of d) c → Advances (reading_after_part (reading_of d) (start_in d.len c) (width_in d.len c)) d n → RunsOut d c → ⊥
event-enough d n c within lies h over =
    omega (arith, over, enough_for (reading_of d) (reading_of n) (start_in d.len c) (width_in d.len c) (width_some (reading_of d) c lies) h.reads, length-drop d.taken d.bytes)

-- ---- bits
bit_back : (p0 : ℕ) (bit other : Bool) → Bit p0 other ≡ Bit p0 bit → other ≡ bit
bit_back p0 bit other e = cc

pub bit-passes : (d n : Decoding) (p0 : ℕ) (bit : Bool) → 0 < p0 → p0 < 8192 → IsIn (reading_of d) (Bit p0 bit)
    → Advances (reading_after_part (reading_of d) (start_in d.len (Bit p0 bit)) (width_in d.len (Bit p0 bit))) d n → Takes {X = Bool} (λ _. ⊤) (λ b. Bit p0 b ∷ []) d n bit
bit-passes d n p0 bit some part lies h =
    Takes-pull (Bit p0) (IsLike (Bit p0 bit)) (λ _. ⊤) one_event d n bit (event-passes d n (Bit p0 bit) (some, part) lies h) tt (λ z q. ((some, part), refl)) (λ z q e. bit_back p0 bit z e)

pub bit-stops : (d n : Decoding) (p0 : ℕ) (bit : Bool) → 0 < p0 → p0 < 8192 → IsIn (reading_of d) (Bit p0 bit)
    → Stops (reading_after_part (reading_of d) (start_in d.len (Bit p0 bit)) (width_in d.len (Bit p0 bit))) d n → TakesNone {X = Bool} (λ _. ⊤) (λ b. Bit p0 b ∷ []) d n
bit-stops d n p0 bit some part lies h =
    TakesNone-pull (Bit p0) (IsLike (Bit p0 bit)) (λ _. ⊤) one_event d n (event-stops d n (Bit p0 bit) (some, part) lies h) (λ z q. ((some, part), refl))

pub AreCuts-bit : (p0 : ℕ) (bit : Bool) → 0 < p0 → p0 < 8192 → AreCuts (Bit p0 bit ∷ [])
AreCuts-bit p0 bit some part = ((some, part), tt)

-- ---- raw values
raw_back : (b v w : ℕ) → Raw b w ≡ Raw b v → w ≡ v
raw_back b v w e = cc

pub raw-passes : (d n : Decoding) (b v : ℕ) → 0 < b → b ≤ 19 → v < 2 ^ b → IsIn (reading_of d) (Raw b v)
    → Advances (reading_after_part (reading_of d) (v * (d.len / 2 ^ b)) (d.len / 2 ^ b)) d n → Takes (λ w. w < 2 ^ b) (λ w. Raw b w ∷ []) d n v
raw-passes d n b v some few small lies h =
    Takes-pull (Raw b) (IsLike (Raw b v)) (λ w. w < 2 ^ b) one_event d n v (event-passes d n (Raw b v) (some, few, small) lies h) small (λ z q. ((some, few, q), refl)) (λ z q e. raw_back b v z e)

pub raw-stops : (d n : Decoding) (b v : ℕ) → 0 < b → b ≤ 19 → v < 2 ^ b → IsIn (reading_of d) (Raw b v)
    → Stops (reading_after_part (reading_of d) (v * (d.len / 2 ^ b)) (d.len / 2 ^ b)) d n → TakesNone (λ w. w < 2 ^ b) (λ w. Raw b w ∷ []) d n
raw-stops d n b v some few small lies h =
    TakesNone-pull (Raw b) (IsLike (Raw b v)) (λ w. w < 2 ^ b) one_event d n (event-stops d n (Raw b v) (some, few, small) lies h) (λ z q. ((some, few, q), refl))

pub left_short : (d : Decoding) (b v : ℕ) → d.taken ≤ length d.bytes → RunsOut d (Raw b v) → length (drop d.taken d.bytes) < bytes_for (d.len / 2 ^ b)
left_short d b v within over = omega (arith, over, length-drop d.taken d.bytes)

pub part_taken : (d n : Decoding) (b v : ℕ) → d.taken ≤ length d.bytes → v < 2 ^ b → IsIn (reading_of d) (Raw b v) → Advances (reading_after_part (reading_of d) (v * (d.len / 2 ^ b)) (d.len / 2 ^ b)) d n → v ≡ quotient (reading_of d) b → RefusesPart (reading_of d) b → ⊥
part_taken d n b v within small lies h is refused =
    ⊎_elim
    (λ (large : 2 ^ b ≤ quotient (reading_of d) b). omega (arith, large, small, is))
    (λ (over : length (drop d.taken d.bytes) < bytes_for (d.len / 2 ^ b)). event-enough d n (Raw b v) within lies h (omega (arith, over, length-drop d.taken d.bytes)))
    refused

-- ---- the clauses of a call that passes one event
abbrev pub DonePart : {E : Type 0} → Result (Unit {0}) E → Decoding → Decoding → Cut → Type 0
DonePart result d n c = MatchResult result (λ _. Advances (reading_after_part (reading_of d) (start_in d.len c) (width_in d.len c)) d n) (λ _. Stops (reading_after_part (reading_of d) (start_in d.len c) (width_in d.len c)) d n)

pub part-reads : {E : Type 0} (result : Result (Unit {0}) E) (d n : Decoding) (c : Cut) → IsCut c → IsIn (reading_of d) c → DonePart result d n c
    → MatchResult result (λ _. Takes (IsLike c) one_event d n c) (λ _. TakesNone (IsLike c) one_event d n)
part-reads (Ok x) d n c is lies h = event-passes d n c is lies h
part-reads (Err e) d n c is lies h = event-stops d n c is lies h

pub part-bad : {E : Type 0} (result : Result (Unit {0}) E) (d n : Decoding) (c : Cut) → d.taken ≤ length d.bytes → IsIn (reading_of d) c → DonePart result d n c → IsErr result ↔ RunsOut d c
part-bad (Ok x) d n c within lies h = (λ e. absurd (cc), λ over. absurd (event-enough d n c within lies h over))
part-bad (Err e) d n c within lies h = (λ _. event-short d n c within lies h, λ _. refl)

pub part-read : {E : Type 0} (result : Result (Unit {0}) E) (d n : Decoding) (c : Cut) → IsCut c → IsIn (reading_of d) c → DonePart result d n c → OnOk result (ReadsOn (one_event c) d n)
part-read (Ok x) d n c is lies h = Takes-ReadsOn (IsLike c) one_event d n c (is, tt) (event-passes d n c is lies h)
part-read (Err e) d n c is lies h = tt

pub part-none : {E : Type 0} (result : Result (Unit {0}) E) (d n : Decoding) (c : Cut) → IsCut c → IsIn (reading_of d) c → DonePart result d n c → OnErr result (NoneBegins (IsLike c) one_event d)
part-none (Ok x) d n c is lies h = tt
part-none (Err e) d n c is lies h = TakesNone-NoneBegins (IsLike c) one_event d n (λ y like. (like.0, tt)) (event-stops d n c is lies h)

-- ---- a raw value of two parts
abbrev pub TakesRaw : ℕ → Decoding → Decoding → ℕ → Type 0
TakesRaw b d n v = Takes (λ w. w < 2 ^ b) (λ w. Raw b w ∷ []) d n v

abbrev pub StopsRaw : ℕ → Decoding → Decoding → Type 0
StopsRaw b d n = TakesNone (λ w. w < 2 ^ b) (λ w. Raw b w ∷ []) d n

pub wide-takes : (d m n : Decoding) (b low high : ℕ) → 19 < b → TakesRaw 16 d m low → TakesRaw (b - 16) m n high → Takes (λ v. v < 2 ^ b) (raw_cuts b) d n (high * 65536 + low)
wide-takes d m n b low high wide f g =
    record {
      choice = Only-wide (reading_of d) (reading_of m) (reading_of n) b low high wide (λ v small. raw_high v b wide small) (wide_small b low high wide f.choice.asked g.choice.asked) f.choice g.choice;
      bytes = g.bytes ∙ f.bytes;
      within = g.within;
      good = g.good;
    }

pub wide-stops_low : (d m : Decoding) (b : ℕ) → 19 < b → StopsRaw 16 d m → TakesNone (λ v. v < 2 ^ b) (raw_cuts b) d m
wide-stops_low d m b wide f =
    record { nothing = Nothing-wide_low (reading_of d) b wide f.nothing; bytes = f.bytes; failed = f.failed }

pub wide-stops_high : (d m n : Decoding) (b low : ℕ) → 19 < b → TakesRaw 16 d m low → StopsRaw (b - 16) m n → TakesNone (λ v. v < 2 ^ b) (raw_cuts b) d n
wide-stops_high d m n b low wide f g =
    record {
      nothing = Nothing-wide_high (reading_of d) (reading_of m) b low wide (λ v small. raw_high v b wide small) f.choice g.nothing;
      bytes = g.bytes ∙ f.bytes;
      failed = g.failed;
    }

low_follows : (d m : Decoding) (low q : ℕ) → low ≡ q → TakesRaw 16 d m low → follow (reading_of d) (Raw 16 q) ≡ Some (reading_of m)
low_follows d m low q e f = subst (λ (v : ℕ). follow (reading_of d) (Raw 16 v) ≡ Some (reading_of m)) e (one-follow (reading_of d) (reading_of m) (Raw 16 low) f.choice.reads)

pub wide-refused : (d m : Decoding) (b low : ℕ) → 19 < b → TakesRaw 16 d m low → low ≡ quotient (reading_of d) 16 → RefusesPart (reading_of m) (b - 16) → RefusesRaw (reading_of d) b
wide-refused d m b low wide f is refused =
    inr (wide, inr (reading_of m, low_follows d m low (quotient (reading_of d) 16) is f, refused))

pub wide-taken : (d m : Decoding) (b low : ℕ) → 19 < b → TakesRaw 16 d m low → low ≡ quotient (reading_of d) 16 → (RefusesPart (reading_of d) 16 → ⊥) → (RefusesPart (reading_of m) (b - 16) → ⊥) → RefusesRaw (reading_of d) b → ⊥
wide-taken d m b low wide f is first second refused =
    ⊎_elim
    (λ (narrow : (b ≤ 19) × RefusesPart (reading_of d) b). omega (arith, narrow.0, wide))
    (λ (both : (19 < b) × (RefusesPart (reading_of d) 16 ⊎ ((k : Reading) × (follow (reading_of d) (Raw 16 (quotient (reading_of d) 16)) ≡ Some k) × RefusesPart k (b - 16)))).
    ⊎_elim
    first
    (λ (behind : (k : Reading) × (follow (reading_of d) (Raw 16 (quotient (reading_of d) 16)) ≡ Some k) × RefusesPart k (b - 16)).
    let same : behind.0 ≡ reading_of m = some_injective (follow (reading_of d) (Raw 16 (quotient (reading_of d) 16))) behind.0 (reading_of m) behind.1 (low_follows d m low (quotient (reading_of d) 16) is f) in
    second (subst (λ (k : Reading). RefusesPart k (b - 16)) same behind.2))
    both.1)
    refused

-- ---- a raw value of one part
pub narrow-takes : (d n : Decoding) (b v : ℕ) → b ≤ 19 → TakesRaw b d n v → Takes (λ w. w < 2 ^ b) (raw_cuts b) d n v
narrow-takes d n b v few f = Reads-same {E = Unit {0}} (Ok v) (λ w. w < 2 ^ b) (λ w. Raw b w ∷ []) (raw_cuts b) d n (λ w. raw_cuts-narrow b w few) f

pub narrow-stops : (d n : Decoding) (b : ℕ) → b ≤ 19 → StopsRaw b d n → TakesNone (λ w. w < 2 ^ b) (raw_cuts b) d n
narrow-stops d n b few f = Reads-same {E = Unit {0}} (Err (tt {0})) (λ w. w < 2 ^ b) (λ w. Raw b w ∷ []) (raw_cuts b) d n (λ w. raw_cuts-narrow b w few) f

pub narrow-taken : (d : Decoding) (b : ℕ) → b ≤ 19 → (RefusesPart (reading_of d) b → ⊥) → RefusesRaw (reading_of d) b → ⊥
narrow-taken d b few one refused =
    ⊎_elim
    (λ (narrow : (b ≤ 19) × RefusesPart (reading_of d) b). one narrow.1)
    (λ (both : (19 < b) × (RefusesPart (reading_of d) 16 ⊎ ((k : Reading) × (follow (reading_of d) (Raw 16 (quotient (reading_of d) 16)) ≡ Some k) × RefusesPart k (b - 16)))). omega (arith, few, both.0))
    refused
