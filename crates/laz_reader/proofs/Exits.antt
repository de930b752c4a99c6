-- How a call that reads ends where it answers a fault of another call.
use Rattle.std.proofs.Common.{◌≡◌, inl, inr, ℕ, Result, Ok, Err, refl, sym, ◌∙◌, subst, arith}
use Rattle.std.specs.Prelude.{IfErr, IsErrAnd}
use Rattle.las_outside.specs.Faults.{Rose}
use Rattle.las_outside.specs.Frames.{OnlyReads, Reads}
use Rattle.las_outside.specs.Outside.{Outside}
use Rattle.las_outside.proofs.Public.{later-refl}
use Rattle.laz_forms.specs.declared.fault.Fault.{Fault}
use Rattle.laz_forms.specs.declared.fault.Fault.TheVariants.{Refused, Read, Write, Memory}
use Rattle.laz_reader.specs.Reading.{EndsReading, FailsReading}

-- what holds of a fault holds of the answer that has it
pub at_exit : {T : Type 0} (r : Result T Fault) (fault : Fault) (P : Fault → Type 0) → IsErrAnd r (λ e. e ≡ fault) → P fault → IfErr r P
at_exit (Ok x) fault P exit p = tt
at_exit (Err e) fault P exit p = subst P (sym exit) p

-- a fault after calls that have not moved the count of failed reads
pub ends_after : (missing : Type 0) (old mid new : Outside) (fault : Fault) → mid.read_faults ≡ old.read_faults → EndsReading ⊥ mid new fault → EndsReading missing old new fault
ends_after missing old mid new (Refused cause) same ends = ends ∙ same
ends_after missing old mid new Read same (inl never) = absurd never
ends_after missing old mid new Read same (inr rose) = inr (subst (λ (n : ℕ). Rose n new.read_faults) same rose)
ends_after missing old mid new Write same ends = ends
ends_after missing old mid new Memory same ends = ends ∙ same

pub fails_after : (missing : Type 0) (old mid new : Outside) (fault : Fault) → mid.read_faults ≡ old.read_faults → FailsReading mid new fault → EndsReading missing old new fault
fails_after missing old mid new (Refused cause) same ends = absurd ends
fails_after missing old mid new Read same ends = inr (subst (λ (n : ℕ). Rose n new.read_faults) same ends)
fails_after missing old mid new Write same ends = ends
fails_after missing old mid new Memory same ends = ends ∙ same

pub fails_later :
    (old mid new : Outside) (fault : Fault) → mid.read_faults ≡ old.read_faults → FailsReading mid new fault →
    FailsReading old new fault
fails_later old mid new (Refused cause) same ends = ends
fails_later old mid new Read same ends = subst (λ (n : ℕ). Rose n new.read_faults) same ends
fails_later old mid new Write same ends = ends
fails_later old mid new Memory same ends = ends ∙ same

-- nothing was read
pub only_reads-refl : (a : Outside) → OnlyReads a a
only_reads-refl a = record { held = refl; writes = refl; later = later-refl a }

pub reads-refl : (most : ℕ) (a : Outside) → Reads most a a
reads-refl most a = record { only = only_reads-refl a; asked = omega arith }
