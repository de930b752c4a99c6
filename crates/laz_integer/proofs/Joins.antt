-- Two spelled parts of a record, one after another, as one. Meant for the crates of chunks.
use Rattle.std.proofs.Common.{◌≡◌, List, ◌++◌, refl, ap}
use Rattle.laz_range.specs.Decoding.{Decoding, Refuses, Takes}
use Rattle.laz_range.proofs.Public.{Takes-then, Takes-through, Refuses-first, Refuses-second, Refuses-through}
use Rattle.laz_integer.specs.Events.{Event, cuts_after}
use Rattle.laz_integer.specs.Spelled.{spelled_cuts}
use Rattle.laz_integer.proofs.Named.{cuts_after-append}

-- Events that are those of two parts, one after the other.
pub record Both {V W : Type 0} (P : List Event × V → Type 0) (Q : List Event × W → Type 0) (x : List Event × (V × W)) : Type 0 where
  pub first : List Event
  pub second : List Event
  pub are : first ++ second ≡ x.0
  pub spells : P (first, x.1.0)
  pub more : Q (second, x.1.1)

same_event : {V W : Type 0} (x : List Event × (V × W)) (a : List Event) → a ≡ x.0 → (let y : List Event × (V × W) = (a, (x.1.0, x.1.1)) in y) ≡ x
same_event (e, (v, w)) a h = ap (λ l. (l, (v, w))) h

abbrev pub joint : {V W : Type 0} → (List Event × V) × (List Event × W) → List Event × (V × W)
joint z = (z.0.0 ++ z.1.0, (z.0.1, z.1.1))

to-both : {V W : Type 0} (P : List Event × V → Type 0) (Q : List Event × W → Type 0) (z : (List Event × V) × (List Event × W)) → P z.0 × Q z.1 → Both P Q (joint z)
to-both P Q ((a, v), (b, w)) h = record { first = a; second = b; are = refl; spells = h.0; more = h.1 }

from-both : {V W : Type 0} (P : List Event × V → Type 0) (Q : List Event × W → Type 0) (x : List Event × (V × W)) → Both P Q x
    → (z : (List Event × V) × (List Event × W)) × (P z.0 × Q z.1) × (joint z ≡ x)
from-both P Q x h = (((h.first, x.1.0), (h.second, x.1.1)), (h.spells, h.more), same_event x (h.first ++ h.second) h.are)

pub both-takes : {V W : Type 0} (P : List Event × V → Type 0) (Q : List Event × W → Type 0) (earlier : List Event) (a b c : Decoding) (x : List Event × V) (y : List Event × W)
    → Takes P (spelled_cuts earlier) a b x → Takes Q (spelled_cuts (earlier ++ x.0)) b c y → Takes (Both P Q) (spelled_cuts earlier) a c (joint (x, y))
both-takes {V} {W} P Q earlier a b c x y f g =
    Takes-through {X = (List Event × V) × (List Event × W)} {Z = List Event × (V × W)} joint (λ z. P z.0 × Q z.1) (Both P Q) (λ z. cuts_after earlier z.0.0 ++ cuts_after (earlier ++ z.0.0) z.1.0) (spelled_cuts earlier) a c (x, y)
    (to-both P Q)
    (from-both P Q)
    (λ z h. cuts_after-append earlier z.0.0 z.1.0)
    (Takes-then P (λ z. Q) (spelled_cuts earlier) (λ x y. cuts_after (earlier ++ x.0) y.0) a b c x y f g)

pub both-first : {V W : Type 0} (P : List Event × V → Type 0) (Q : List Event × W → Type 0) (earlier : List Event) (a b : Decoding)
    → Refuses P (spelled_cuts earlier) a b → Refuses (Both P Q) (spelled_cuts earlier) a b
both-first {V} {W} P Q earlier a b f =
    Refuses-through {X = (List Event × V) × (List Event × W)} {Z = List Event × (V × W)} joint (λ z. P z.0 × Q z.1) (Both P Q) (λ z. cuts_after earlier z.0.0 ++ cuts_after (earlier ++ z.0.0) z.1.0) (spelled_cuts earlier) a b
    (from-both P Q)
    (λ z h. cuts_after-append earlier z.0.0 z.1.0)
    (Refuses-first P (λ z. Q) (spelled_cuts earlier) (λ x y. cuts_after (earlier ++ x.0) y.0) a b f)

pub both-second : {V W : Type 0} (P : List Event × V → Type 0) (Q : List Event × W → Type 0) (earlier : List Event) (a b c : Decoding) (x : List Event × V)
    → Takes P (spelled_cuts earlier) a b x → Refuses Q (spelled_cuts (earlier ++ x.0)) b c → Refuses (Both P Q) (spelled_cuts earlier) a c
both-second {V} {W} P Q earlier a b c x f g =
    Refuses-through {X = (List Event × V) × (List Event × W)} {Z = List Event × (V × W)} joint (λ z. P z.0 × Q z.1) (Both P Q) (λ z. cuts_after earlier z.0.0 ++ cuts_after (earlier ++ z.0.0) z.1.0) (spelled_cuts earlier) a c
    (from-both P Q)
    (λ z h. cuts_after-append earlier z.0.0 z.1.0)
    (Refuses-second P (λ z. Q) (spelled_cuts earlier) (λ x y. cuts_after (earlier ++ x.0) y.0) a b c x f g)

-- ---- a part that is absent: no events, and one value
