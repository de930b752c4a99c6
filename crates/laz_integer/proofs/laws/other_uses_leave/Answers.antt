use Rattle.laz_integer.proofs.Uses.{bank-silent, int-silent}
use Rattle.laz_integer.proofs.laws.other_uses_leave.Goals as goal

pub returns : goal.returns
returns c =
    record {
      integers = λ kind earlier others st silent h. int-silent kind st earlier others silent h;
      banks = λ kind earlier others bank silent h. bank-silent kind bank earlier others silent h;
    }
