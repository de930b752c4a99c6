-- An output that was begun, or not.
use Rattle.std.proofs.Common.{◌≡◌, ◌⊎◌, inl, inr, ℕ, List, take, Option, Result, IfErr, sym, subst}
use Rattle.las_header.specs.Plain.{plain_of}
use Rattle.las_outside.specs.Faults.{Rose}
use Rattle.las_outside.specs.Outside.{Outside, with_bytes}
use Rattle.laz_forms.specs.declared.fault.Fault.{Fault}
use Rattle.laz_forms.specs.declared.fault.Fault.TheVariants as fault
use Rattle.laz_forms.specs.Outputs.{Output, front}
use Rattle.laz_writer.specs.Writing.{Stops}
use Rattle.laz_file.proofs.Public.{create_left}
use Rattle.las_merge.specs.declared.fault.MergeFault.{MergeFault}
use Rattle.las_merge.specs.declared.fault.MergeFault.TheVariants.{Write, Memory}
use Rattle.las_merge.specs.Copying.{FailsBeginning, output_of_merge, output_with}

pub fails_begin : (old new : Outside) (out : Output) (cause : Fault) (r : MergeFault) → (cause ≡ fault.Memory → r ≡ Memory) → (cause ≡ fault.Write → r ≡ Write) → (cause ≡ fault.Memory) ⊎ (cause ≡ fault.Write) → (cause ≡ fault.Write → Rose old.write_faults new.write_faults)
    → Stops cause old new ⊎ ((n : ℕ) × Stops cause (with_bytes old out.name (take n (front out))) new) → FailsBeginning old new out r
fails_begin old new out cause r memory write (inl is) rose s = subst (FailsBeginning old new out) (sym (memory is)) (λ records. create_left old new out cause records s)
fails_begin old new out cause r memory write (inr is) rose s = subst (FailsBeginning old new out) (sym (write is)) (rose is, λ records. create_left old new out cause records s)

pub fails_under : {T : Type 0} (r : Result T MergeFault) (old new : Outside) (name head plain : List ℕ) (chunk : Option ℕ) → plain ≡ plain_of head → IfErr r (FailsBeginning old new (output_with name plain chunk)) → IfErr r (FailsBeginning old new (output_of_merge name head chunk))
fails_under r old new name head plain chunk is fails = subst (λ (h : List ℕ). IfErr r (FailsBeginning old new (output_with name h chunk))) is fails
