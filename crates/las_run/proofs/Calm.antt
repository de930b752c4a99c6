-- No call failed in a run that neither memory nor a failure ended.
use Rattle.std.proofs.Common.{◌≡◌, ℕ, List, refl, Result, Ok, Err, OnOk, IfErr, ap}
use Rattle.las_header.specs.declared.refusal.Refusal.{Refusal}
use Rattle.las_outside.specs.Sinks.{SinkView}
use Rattle.laz_forms.specs.declared.fault.Fault.{Fault}
use Rattle.laz_forms.specs.declared.fault.Fault.TheVariants as file
use Rattle.las_run.specs.declared.stop.Stop.{Stop}
use Rattle.las_run.specs.declared.stop.Stop.TheVariants as stop
use Rattle.las_run.specs.Calm.{IsNoFailure}
use Rattle.las_run.specs.Endings.{status_of}
use Rattle.las_run.specs.Ends.{Change, Ends, cause_of, stop_by}
use Rattle.las_run.specs.Runs.{Task}
use Rattle.las_run.specs.Seen.{IsDecided}

-- a status that is decided is of an outcome that neither memory nor a failure ended
pub settled : (names : List (List ℕ)) (outcome : Result (Unit {0}) Stop) (C : Type 0) (status : ℕ) → status ≡ status_of (cause_of names outcome) → OnOk outcome C → IfErr outcome (λ s. IsNoFailure s → C) → IsDecided status → C
settled names (Ok x) C status is done kept decided = done
settled names (Err stop.Memory) C status is done kept decided = absurd (decided.0 is)
settled names (Err (stop.Usage index)) C status is done kept decided = kept tt
settled names (Err (stop.Read number)) C status is done kept decided = absurd (decided.1 is)
settled names (Err stop.Write) C status is done kept decided = absurd (decided.2 is)
settled names (Err (stop.Refused number cause)) C status is done kept decided = kept tt
settled names (Err (stop.Differs number field)) C status is done kept decided = kept tt
settled names (Err (stop.TooMany surplus)) C status is done kept decided = kept tt

-- then nothing failed on standard output either
pub out_settled : (task : Task) (change : Change) (names : List (List ℕ)) (outcome : Result (Unit {0}) Stop) (status : ℕ) → status ≡ status_of (cause_of names outcome) → OnOk outcome (change.out_now.faults ≡ change.out.faults)
    → Ends task change (cause_of names outcome) → IsDecided status → change.out_now.faults ≡ change.out.faults
out_settled task change names (Ok x) status is done e decided = done
out_settled task change names (Err stop.Memory) status is done e decided = absurd (decided.0 is)
out_settled task change names (Err (stop.Usage index)) status is done e decided = ap (λ (s : SinkView). s.faults) e.3
out_settled task change names (Err (stop.Read number)) status is done e decided = absurd (decided.1 is)
out_settled task change names (Err stop.Write) status is done e decided = absurd (decided.2 is)
out_settled task change names (Err (stop.Refused number cause)) status is done e decided = ap (λ (s : SinkView). s.faults) e.4
out_settled task change names (Err (stop.Differs number field)) status is done e decided = ap (λ (s : SinkView). s.faults) e.4
out_settled task change names (Err (stop.TooMany surplus)) status is done e decided = ap (λ (s : SinkView). s.faults) e.3

-- a call on an input that ends with no failure refuses it
pub stop_kept : (number : ℕ) (fault : Fault) (C : Type 0) → ((cause : Refusal) → fault ≡ file.Refused cause → C) → IsNoFailure (stop_by number fault) → C
stop_kept number (file.Refused cause) C refused kept = refused cause refl
stop_kept number file.Read C refused kept = absurd kept
stop_kept number file.Write C refused kept = absurd kept
stop_kept number file.Memory C refused kept = absurd kept
