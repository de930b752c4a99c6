-- What calls leave as it was, by what is seen of files before and after them.
use Rattle.std.specs.Prelude.{◌≡◌, ℕ, ◌+◌, ◌≤◌}
use Rattle.las_outside.specs.Outside.{Later, Outside}

-- Nothing but reads was done.
pub record OnlyReads (old new : Outside) : Type 0 where
  -- no file changed
  pub held : new.held ≡ old.held
  -- no call that writes failed
  pub writes : new.write_faults ≡ old.write_faults
  -- no count fell
  pub later : Later old new

-- Nothing but reads was done, and they asked for at most this many bytes.
pub record Reads (most : ℕ) (old new : Outside) : Type 0 where
  pub only : OnlyReads old new
  pub asked : new.asked ≤ old.asked + most

-- Nothing but writes was done.
pub record OnlyWrites (old new : Outside) : Type 0 where
  -- no bytes were asked for
  pub asked : new.asked ≡ old.asked
  -- no call that reads failed
  pub reads : new.read_faults ≡ old.read_faults
  -- no count fell
  pub later : Later old new

-- No call failed.
pub record IsCalm (old new : Outside) : Type 0 where
  pub reads : new.read_faults ≡ old.read_faults
  pub writes : new.write_faults ≡ old.write_faults
