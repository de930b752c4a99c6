-- For readers of whole streams: which of the choices asked for all the bytes spell. `d` is a decoder of the bytes that has
-- read nothing yet.
use Rattle.std.proofs.Common.{◌≡◌, ℕ, zero, suc, ◌+◌, ◌*◌, ◌≤◌, List, [], ◌∷◌, ◌++◌, length, take, drop, refl, sym, ap, subst, ◌∙◌, arith, lit<}
use Rattle.std.proofs.lemmas.List.{take_all, take-take, take-append-drop}
use Rattle.laz_range.specs.Cut.{Cut, AreCuts, start_in, width_in}
use Rattle.laz_range.specs.Span.{Span, Begins, Fits, IsBytes, after, cut, subspan, renormal_step, span}
use Rattle.laz_range.specs.Decoding.{Decoding, HasRead, Refuses, Takes}
use Rattle.laz_range.proofs.Decodings.{Takes-ReadsOn, Takes-begins}
use Rattle.laz_range.proofs.Refusals.{Refuses-NoneBegins}
use Rattle.laz_range.proofs.Spans.{shifts-renormal_step}

-- ---- bytes that fit are begun, and those that are begun and end there fit
pub Fits-Begins : (s : Span) (bytes : List ℕ) → Fits s bytes → Begins s bytes
Fits-Begins s bytes f =
    let whole : take (s.shifts + 4) bytes ≡ bytes = take_all (s.shifts + 4) bytes (omega (arith, f.length)) in
    record { enough = omega (arith, f.length); low = rw whole f.low; high = rw whole f.high }

pub Begins-Fits : (s : Span) (bytes : List ℕ) → Begins s bytes → s.shifts + 4 ≡ length bytes → Fits s bytes
Begins-Fits s bytes b ends =
    let whole : take (s.shifts + 4) bytes ≡ bytes = take_all (s.shifts + 4) bytes (omega (arith, ends)) in
    record { length = ends; low = rw whole at b.low; high = rw whole at b.high }

-- ---- `new` has refused: the bytes spell no list of events
pub unopened-fits : (bytes : List ℕ) (cuts : List Cut) → ((events : List Cut) → AreCuts events → Begins (span events) bytes → ⊥) → AreCuts cuts → Fits (span cuts) bytes → ⊥
unopened-fits bytes cuts none all fits = none cuts all (Fits-Begins (span cuts) bytes fits)

-- ---- the reader has refused: the bytes spell no choice asked for
pub none-fits : {X : Type 0} (P : X → Type 0) (cuts : X → List Cut) (d n : Decoding) → ((y : X) → P y → AreCuts (cuts y)) → HasRead [] d → Refuses P cuts d n → (y : X) → P y → Fits (span (cuts y)) d.bytes → ⊥
none-fits P cuts d n all read none y asked fits = Refuses-NoneBegins P cuts d n all none [] read y asked (Fits-Begins (span (cuts y)) d.bytes fits)

-- ---- x was read: the bytes can spell no other choice, and if they spell x, all were taken
pub one-fits : {X : Type 0} (P : X → Type 0) (cuts : X → List Cut) (d n : Decoding) (x : X) → ((y : X) → P y → AreCuts (cuts y)) → HasRead [] d → Takes P cuts d n x
    → (y : X) → P y → Fits (span (cuts y)) d.bytes → (y ≡ x) × (n.taken ≡ length n.bytes)
one-fits {X} P cuts d n x all read takes y asked fits =
    let same : y ≡ x = Takes-begins P cuts d n x all takes [] read y asked (Fits-Begins (span (cuts y)) d.bytes fits) in
    let now = Takes-ReadsOn P cuts d n x (all x takes.choice.asked) takes [] read in
    let here : Fits (span (cuts x)) d.bytes = subst (λ (z : X). Fits (span (cuts z)) d.bytes) same fits in
    (same, now.taken ∙ (here.length ∙ ap length (sym takes.bytes)))

-- x was read, and all bytes were taken: they spell x
pub read-fits : {X : Type 0} (P : X → Type 0) (cuts : X → List Cut) (d n : Decoding) (x : X) → ((y : X) → P y → AreCuts (cuts y)) → HasRead [] d → Takes P cuts d n x → n.taken ≡ length n.bytes → Fits (span (cuts x)) d.bytes
read-fits P cuts d n x all read takes ends =
    let now = Takes-ReadsOn P cuts d n x (all x takes.choice.asked) takes [] read in
    let fits : Fits (span (cuts x)) n.bytes = Begins-Fits (span (cuts x)) n.bytes now.begins (sym now.taken ∙ ends) in
    subst (λ (bs : List ℕ). Fits (span (cuts x)) bs) takes.bytes fits

-- ---- an event takes three bytes at most
cut-few : (s : Span) (c : Cut) → (cut s c).shifts ≤ s.shifts + 3
unfolding subspan
cut-few s c =
    let part : Span = record { low = s.low + start_in s.len c; len = width_in s.len c; shifts = s.shifts } in
    omega (arith, shifts-renormal_step part, shifts-renormal_step (renormal_step part), shifts-renormal_step (renormal_step (renormal_step part)))

pub after-few : (s : Span) (events : List Cut) → (after s events).shifts ≤ s.shifts + 3 * length events
after-few s [] = omega arith
after-few s (c ∷ events) = omega (arith, cut-few s c, after-few (cut s c) events)

-- ---- bytes written after others
pub written_after : (n k : ℕ) (bytes before stream : List ℕ) → take n bytes ≡ before → drop n (take (n + k) bytes) ≡ stream → take (n + k) bytes ≡ before ++ stream
written_after n k bytes before stream front rest =
    let more : n ≤ n + k = omega arith in
    let first : take n (take (n + k) bytes) ≡ before = take-take n (n + k) bytes more ∙ front in
    sym (take-append-drop n (take (n + k) bytes)) ∙ rw (first, rest) refl

-- ---- fronts and rests of bytes are bytes
pub IsBytes-take : (n : ℕ) (bytes : List ℕ) → IsBytes bytes → IsBytes (take n bytes)
IsBytes-take zero bytes h i = lit< tt
IsBytes-take (suc n) [] h i = lit< tt
IsBytes-take (suc n) (b ∷ bs) h zero = h 0
IsBytes-take (suc n) (b ∷ bs) h (suc i) = IsBytes-take n bs (λ k. h (suc k)) i

pub IsBytes-drop : (n : ℕ) (bytes : List ℕ) → IsBytes bytes → IsBytes (drop n bytes)
IsBytes-drop zero bytes h = h
IsBytes-drop (suc n) [] h = λ i. lit< tt
IsBytes-drop (suc n) (b ∷ bs) h = IsBytes-drop n bs (λ k. h (suc k))
