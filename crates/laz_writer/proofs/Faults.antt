-- What a call that writes an output does to the counts of faults.
use Rattle.std.proofs.Common.{◌≡◌, ◌⊎◌, inl, inr, ℕ, List, Result, Ok, Err, refl, sym, ◌∙◌, ap, arith}
use Rattle.std.specs.Prelude.{IsErrAnd}
use Rattle.las_outside.specs.Faults.{Rose, count_after}
use Rattle.las_outside.specs.Frames.{IsCalm}
use Rattle.las_outside.specs.Outside.{Outside, with_bytes}
pub use Rattle.las_outside.proofs.Public.{later-trans}
use Rattle.laz_forms.specs.declared.fault.Fault.{Fault}
use Rattle.laz_forms.specs.declared.fault.Fault.TheVariants.{Refused, Read, Write, Memory}
use Rattle.laz_writer.specs.Writing.{Stops}

-- a call ends with one of two faults
pub stops_kind : (fault : Fault) (made now : Outside) → Stops fault made now → (fault ≡ Memory) ⊎ (fault ≡ Write)
stops_kind Memory made now s = inl refl
stops_kind Write made now s = inr refl
stops_kind Read made now s = absurd s
stops_kind (Refused cause) made now s = absurd s

-- with `Write` only after a failed write
pub stops_rose : (old made now : Outside) (fault : Fault) → made.write_faults ≡ old.write_faults → Stops fault made now → fault ≡ Write → Rose old.write_faults now.write_faults
stops_rose old made now Memory same s is = absurd (let clash : Memory ≡ Write = is in cc)
stops_rose old made now Write same s is = omega (arith, ap (λ (o : Outside). o.write_faults) s ∙ ap (λ (n : ℕ). count_after n 1) same)
stops_rose old made now Read same s is = absurd s
stops_rose old made now (Refused cause) same s is = absurd s

-- bytes put under a name change no count
pub calm_text : (before old new : Outside) (name xs ys : List ℕ) → old ≡ with_bytes before name xs → new ≡ with_bytes before name ys → IsCalm old new
calm_text before old new name xs ys was is = record {
  reads = ap (λ (o : Outside). o.read_faults) is ∙ sym (ap (λ (o : Outside). o.read_faults) was);
  writes = ap (λ (o : Outside). o.write_faults) is ∙ sym (ap (λ (o : Outside). o.write_faults) was);
}

-- the error of a result, by either way of saying it
pub err_of : {T E : Type 0} (r : Result T E) (e w : E) → IsErrAnd r (λ x. x ≡ e) → r ≡ Err w → e ≡ w
err_of (Ok x) e w is of = absurd is
err_of (Err x) e w is of = let same : x ≡ w = cc in sym is ∙ same

-- an answer that is out of memory has no other fault
pub memory_only : {T X : Type 0} (r : Result T Fault) → IsErrAnd r (λ e. e ≡ Memory) → r ≡ Err Write → X
memory_only r exit is = let same : Memory ≡ Write = err_of r Memory Write exit is in absurd (cc)

-- and one after a failed write is not out of memory
pub write_only :
    {T X : Type 0} (r : Result T Fault) (fault : Fault) → IsErrAnd r (λ e. e ≡ fault) → fault ≡ Write → r ≡ Err Memory →
    X
write_only r fault exit write is = let same : fault ≡ Memory = err_of r fault Memory exit is in absurd (cc)
