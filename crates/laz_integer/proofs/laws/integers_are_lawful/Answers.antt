use Rattle.laz_integer.proofs.Bounds.{int-few, int-fewer}
use Rattle.laz_integer.proofs.Ranges.{int-ranged}
use Rattle.laz_integer.proofs.Uses.{Silent-int}
use Rattle.laz_integer.proofs.laws.integers_are_lawful.Goals as goal

pub returns : goal.returns
returns c =
    record {
      ranged = λ sizes kind bits ctx pred value events k has some most h. int-ranged sizes kind bits ctx pred value k events has some most h;
      few = int-few;
      fewer = int-fewer;
      silent = Silent-int;
    }
