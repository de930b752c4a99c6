-- The length of bytes with zeros after them.
use Rattle.std.proofs.Common.{◌≡◌, ℕ, ◌-◌, ◌≤◌, List, length, arith, length-append}
use Rattle.std.specs.Prelude.{replicate}
use Rattle.std.proofs.lemmas.List.{length-replicate}
use Rattle.laz_workers.specs.Rooms.{lengthened}

pub length-lengthened : (n : ℕ) (xs : List ℕ) → length xs ≤ n → length (lengthened n xs) ≡ n
length-lengthened n xs h = omega (arith, length-append xs (replicate (n - length xs) 0), length-replicate {A = ℕ} (n - length xs) 0)
