-- Worked values: the numbers that the calls for C answer, as `las.h` has them.
use Rattle.std.proofs.Common.{◌≡◌, refl}
use Rattle.laz_c.specs.declared.answers.TheConstants.{BAD, DONE, NO_MEMORY, WRONG}

done : DONE ≡ 0
done = refl

out_of_memory : NO_MEMORY ≡ 1
out_of_memory = refl

bad : BAD ≡ 2
bad = refl

wrong : WRONG ≡ 3
wrong = refl
