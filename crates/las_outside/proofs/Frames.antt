-- What calls leave as it was is the same for one call after another, and for none.
use Rattle.std.proofs.Common.{ℕ, ◌+◌, ◌≤◌, refl, ◌∙◌, arith}
use Rattle.las_outside.specs.Frames.{IsCalm, OnlyReads, OnlyWrites, Reads}
use Rattle.las_outside.specs.Outside.{Later, Outside}

pub later-refl : (a : Outside) → Later a a
later-refl a = record { known = refl; reads = omega arith; writes = omega arith; asked = omega arith }

pub later-trans : (a b c : Outside) → Later a b → Later b c → Later a c
later-trans a b c ab bc = record {
  known = bc.known ∙ ab.known;
  reads = omega (arith, ab.reads, bc.reads);
  writes = omega (arith, ab.writes, bc.writes);
  asked = omega (arith, ab.asked, bc.asked);
}

pub only_reads-trans : (a b c : Outside) → OnlyReads a b → OnlyReads b c → OnlyReads a c
only_reads-trans a b c ab bc = record {
  held = bc.held ∙ ab.held;
  writes = bc.writes ∙ ab.writes;
  later = later-trans a b c ab.later bc.later;
}

pub reads-trans : (n m : ℕ) (a b c : Outside) → Reads n a b → Reads m b c → Reads (n + m) a c
reads-trans n m a b c ab bc = record {
  only = only_reads-trans a b c ab.only bc.only;
  asked = omega (arith, ab.asked, bc.asked);
}

-- a bound that is greater
pub reads-more : (n m : ℕ) (a b : Outside) → n ≤ m → Reads n a b → Reads m a b
reads-more n m a b le ab = record { only = ab.only; asked = omega (arith, le, ab.asked) }

pub only_writes-refl : (a : Outside) → OnlyWrites a a
only_writes-refl a = record { asked = refl; reads = refl; later = later-refl a }

pub only_writes-trans : (a b c : Outside) → OnlyWrites a b → OnlyWrites b c → OnlyWrites a c
only_writes-trans a b c ab bc = record {
  asked = bc.asked ∙ ab.asked;
  reads = bc.reads ∙ ab.reads;
  later = later-trans a b c ab.later bc.later;
}

pub calm-refl : (a : Outside) → IsCalm a a
calm-refl a = record { reads = refl; writes = refl }

pub calm-trans : (a b c : Outside) → IsCalm a b → IsCalm b c → IsCalm a c
calm-trans a b c ab bc = record { reads = bc.reads ∙ ab.reads; writes = bc.writes ∙ ab.writes }
