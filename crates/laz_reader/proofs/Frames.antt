-- What calls that read and write leave as it was, one after another.
use Rattle.std.proofs.Common.{ℕ, arith}
use Rattle.las_outside.specs.Frames.{OnlyWrites}
use Rattle.las_outside.specs.Outside.{Outside}
use Rattle.las_outside.proofs.Public.{later-trans}
use Rattle.laz_reader.specs.Asking.{ReadsAndWrites}

-- reads and writes after writes
pub after_writes : (most : ℕ) (a b c : Outside) → OnlyWrites a b → ReadsAndWrites most b c → ReadsAndWrites most a c
after_writes most a b c ab bc = record {
  asked = omega (arith, ab.asked, bc.asked);
  later = later-trans a b c ab.later bc.later;
}

-- reads and writes before writes
pub then_writes : (most : ℕ) (a b c : Outside) → ReadsAndWrites most a b → OnlyWrites b c → ReadsAndWrites most a c
then_writes most a b c ab bc = record {
  asked = omega (arith, ab.asked, bc.asked);
  later = later-trans a b c ab.later bc.later;
}
