-- How an output ends that inputs are copied into.
use Rattle.std.proofs.Common.{◌≡◌, ◌⊎◌, inl, inr, ℕ, ◌<◌, List, [], length, take, Option, Some, sym, ◌∙◌, ap, subst}
use Rattle.std.specs.List.{concat}
use Rattle.std.proofs.lemmas.List.{append-nil}
use Rattle.las_header.specs.declared.refusal.Refusal.{Refusal}
use Rattle.las_outside.specs.Drafts.{IsUnfinished}
use Rattle.las_outside.specs.Faults.{Rose}
use Rattle.las_outside.specs.Files.{FileMap}
use Rattle.las_outside.specs.Outside.{Outside, with_bytes}
use Rattle.laz_forms.specs.declared.fault.Fault.{Fault}
use Rattle.laz_forms.specs.declared.fault.Fault.TheVariants as fault
use Rattle.laz_file.specs.Copying.{LeavesPart, with_reads}
use Rattle.laz_forms.specs.Outputs.{Output, draft_of, patches_of, stopped}
use Rattle.laz_writer.specs.Writing.{Stands, Stops, WriterSeen}
use Rattle.laz_forms.proofs.Public.{known_then}
use Rattle.laz_file.proofs.Public.{leaves_part, held_after}
use Rattle.las_merge.specs.declared.fault.MergeFault.{MergeFault}
use Rattle.las_merge.specs.declared.fault.MergeFault.TheVariants.{At, Unequal, TooManyPoints, TooManyChunks, Write, Memory}
use Rattle.las_merge.specs.Inputs.{item_at}
use Rattle.las_merge.specs.Copying.{BeginsWith, CopiesAll, CopiesInto, CopiesPart, CopiesTo, EndsMerging, FailsCopying, IsFaultOf, LeavesMid, OnlyRecords}

-- the records before a bad chunk are those that the file begins with
only_begins : (file part : List ℕ) (bad : Option ℕ) → OnlyRecords file part bad → BeginsWith file part
only_begins file part bad o blocks worse are =
    ([], ap concat (o.1.only blocks worse are).0 ∙ sym o.2 ∙ sym (append-nil part))

pub into_part : (held : Option FileMap) (names : List (List ℕ)) (number : ℕ) (records : List ℕ) (cause : Refusal) → CopiesInto held names number records (λ name part. CopiesTo held name part (Some cause)) → CopiesPart held names number records
into_part held names number records cause d =
    let name = item_at names number in
    record {
      parts = d.parts;
      part = d.part;
      copied = d.copied;
      number_is = d.number_is;
      within = d.within;
      here = known_then held name (λ file. OnlyRecords file d.part (Some d.here.0)) (λ file. BeginsWith file d.part) (λ file o. only_begins file d.part (Some d.here.0) o) d.here.2;
      records_are = d.records_are;
    }

module _ (old : Outside) (names : List (List ℕ)) (w : WriterSeen) (before : Outside) (out : Output) (s : Stands before old w out []) where
  -- copying failed
  mid_part : (new : Outside) (number : ℕ) (records : List ℕ) → CopiesPart old.held names number records → LeavesPart old new w records → LeavesMid old.held before.held new.held names out
  mid_part new number records copied left =
      let p = left before out [] s in
      inl (number, records, copied, λ more. leaves_part before old w out [] s records more new.held p.0 p.1)

  pub fails_merging : (new : Outside) (cause : MergeFault) → FailsCopying old new names w cause → EndsMerging old.held before.held old new names out cause
  fails_merging new cause f = by cause f.3
    where
      mid : LeavesMid old.held before.held new.held names out
      mid = mid_part new f.0 f.1 f.2 f.4

      within : (input : ℕ) → input ≡ f.0 → input < length names
      within input same = subst (λ (k : ℕ). k < length names) (sym same) f.2.within

      by : (r : MergeFault) → IsFaultOf old new f.0 r → EndsMerging old.held before.held old new names out r
      by (At input (fault.Refused refusal)) h = inr (within input h.0, h.1, mid)
      by (At input fault.Read) h = (within input h.0, h.1, mid)
      by (At input fault.Write) h = absurd h
      by (At input fault.Memory) h = (within input h, mid)
      by (Unequal input field) h = (within input h.0, h.1, mid)
      by TooManyPoints h = absurd h
      by TooManyChunks h = absurd h
      by Write h = (h, mid)
      by Memory h = mid

  -- a fault of the output
  ends_output : (new : Outside) (cause : Fault) (r : MergeFault) → (cause ≡ fault.Memory → r ≡ Memory) → (cause ≡ fault.Write → r ≡ Write) → (cause ≡ fault.Memory) ⊎ (cause ≡ fault.Write) → (cause ≡ fault.Write → Rose old.write_faults new.write_faults)
      → LeavesMid old.held before.held new.held names out → EndsMerging old.held before.held old new names out r
  ends_output new cause r memory write (inl is) rose mid = subst (EndsMerging old.held before.held old new names out) (sym (memory is)) mid
  ends_output new cause r memory write (inr is) rose mid = subst (EndsMerging old.held before.held old new names out) (sym (write is)) (rose is, mid)

  -- finishing failed
  pub finish_fails : (mid new : Outside) (records : List ℕ) → mid.write_faults ≡ old.write_faults → CopiesAll old.held names records → (cause : Fault) (r : MergeFault) → (cause ≡ fault.Memory → r ≡ Memory) → (cause ≡ fault.Write → r ≡ Write) → (cause ≡ fault.Memory) ⊎ (cause ≡ fault.Write)
      → (cause ≡ fault.Write → Rose mid.write_faults new.write_faults) → (left : List ℕ) → IsUnfinished (draft_of out records) (patches_of out records) left → Stops cause (with_bytes (with_reads before mid) out.name left) new → EndsMerging old.held before.held old new names out r
  finish_fails mid new records same all cause r memory write kind rose left is stops =
      ends_output new cause r memory write kind (λ e. subst (λ (n : ℕ). Rose n new.write_faults) same (rose e))
      (inr (records, all, inr (left, is, held_after cause (with_bytes (with_reads before mid) out.name left) new stops)))

  -- stopping failed
  pub stop_fails : (mid new : Outside) (number : ℕ) (records : List ℕ) (refusal : Refusal) → mid.write_faults ≡ old.write_faults → CopiesInto old.held names number records (λ name part. CopiesTo old.held name part (Some refusal)) → (cause : Fault) (r : MergeFault) → (cause ≡ fault.Memory → r ≡ Memory)
      → (cause ≡ fault.Write → r ≡ Write) → (cause ≡ fault.Memory) ⊎ (cause ≡ fault.Write) → (cause ≡ fault.Write → Rose mid.write_faults new.write_faults) → (n : ℕ) → Stops cause (with_bytes (with_reads before mid) out.name (take n (stopped out records))) new
      → EndsMerging old.held before.held old new names out r
  stop_fails mid new number records refusal same into cause r memory write kind rose n stops =
      ends_output new cause r memory write kind (λ e. subst (λ (k : ℕ). Rose k new.write_faults) same (rose e))
      (inl (
        number,
        records,
        into_part old.held names number records refusal into,
        λ more. leaves_part before old w out [] s records more new.held n (held_after cause (with_bytes (with_reads before mid) out.name (take n (stopped out records))) new stops),
      ))
