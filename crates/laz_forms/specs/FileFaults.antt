-- What a fault of a call stands for.
use Rattle.std.specs.Prelude.{Option, Some, Result, Ok, Err}
use Rattle.las_header.specs.declared.refusal.Refusal.{Refusal}
use Rattle.las_outside.specs.Faults.{Rose}
use Rattle.las_outside.specs.Outside.{Outside}
use Rattle.laz_forms.specs.declared.fault.Fault.{Fault}
use Rattle.laz_forms.specs.declared.fault.Fault.TheVariants.{Refused, Read, Write, Memory}

-- how copying goes on after a fault of a reader: a refusal ends the records, and any other fault the call
abbrev pub end_of : Fault → Result (Option Refusal) Fault
end_of (Refused cause) = Ok (Some cause)
end_of fault = Err fault

-- A call that reads and writes ends with a fault that has its cause, and never with a refusal.
abbrev pub HasCause : (old now : Outside) → Fault → Type 0
HasCause old now (Refused cause) = ⊥
HasCause old now Read = Rose old.read_faults now.read_faults
HasCause old now Write = Rose old.write_faults now.write_faults
HasCause old now Memory = Unit {0}
