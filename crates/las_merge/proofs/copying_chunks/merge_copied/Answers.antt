use Rattle.laz_forms.proofs.Public.{if_err}
use Rattle.std.proofs.Common.{◌≡◌, ◌≢◌, inr, Err, IfErr, OnErr, OnOk, ℕ, ◌^◌, ◌<◌, ◌≤◌, List, length, Option, Some}
use Rattle.std.proofs.Common.{false, sym, ◌∙◌, ap, subst, arith}
use Rattle.std.specs.Prelude.{All, string_bytes, sum_by}
use Rattle.std.specs.declared.alloc.Global.{Global}
use Rattle.std.proofs.lemmas.List.{length-map}
use Rattle.std.proofs.lemmas.Result.{on_ok_weaker, IfErr-weaker, on_err_weaker, IfOk-from_err}
use Rattle.las_outside.specs.Faults.{Rose}
use Rattle.las_outside.specs.Files.{FileMap, with_file}
use Rattle.las_outside.specs.Outside.{Outside, with_bytes}
use Rattle.las_outside.proofs.Public.{calm-trans, later-trans}
use Rattle.laz_forms.specs.declared.fault.Fault.TheVariants as fault
use Rattle.laz_forms.proofs.Public.{on_ok}
use Rattle.laz_file.proofs.Public.{err_at}
use Rattle.laz_copied.specs.Copied.{Chunk}
use Rattle.laz_file.specs.Copying.{with_reads, LeavesPrefix}
use Rattle.las_merge.specs.declared.fault.MergeFault.{MergeFault}
use Rattle.las_merge.specs.declared.fault.MergeFault.TheVariants.{At, Unequal, Write}
use Rattle.las_merge.specs.Appending.{IsCopyFault, PartLiesIn, SourceSeen}
use Rattle.las_merge.specs.Inputs.{names_of}
use Rattle.las_merge.specs.Opening.{InputSeen, points_read}
use Rattle.las_merge.specs.Outcomes.{SaysCopying}
use Rattle.las_merge.specs.Packed.{CanCopyFrom, asked_to_copy}
use Rattle.las_merge.specs.Summing.{copied_text}
use Rattle.las_merge.proofs.AskedToCopy.{compared_less}
use Rattle.las_merge.proofs.CopiedOnce.{copied_once}
use Rattle.las_merge.proofs.CopiedWhole.{asked_few, asked_whole, before_copied, can_copy, copy_is_fault, copy_within}
use Rattle.las_merge.proofs.CopiedWhole.{files}
use Rattle.las_merge.proofs.CopiedWhole.{head_one, head_packed, left_by, many_chunks, many_points}
use Rattle.las_merge.proofs.CopiedWhole.{parts, sources_lie, sources_long, sources_other, text_is}
use Rattle.las_merge.proofs.CopyOutcomes.{says_chunks, says_listing, says_memory, says_points}
use Rattle.las_merge.proofs.MergeOutcomes.{err_is}
use Rattle.las_merge.proofs.Whole.{other_names}
use Rattle.las_merge.proofs.copying_chunks.merge_copied.Given.{Over}
use Rattle.las_merge.proofs.copying_chunks.merge_copied.Goals.{In_ok-listed, In_ok-points}
use Rattle.las_merge.proofs.copying_chunks.merge_copied.Goals as goal

-- what stands when the inputs were listed
module _ (g : Over) (c : In_ok-listed g) where
  abbrev names : List (List ℕ)
  names = names_of c.args.inputs.now

  abbrev inputs : List InputSeen
  inputs = c.in_ok-listed.listed.inputs.items

  all : length inputs ≡ length names
  all = omega (arith, c.in_ok-listed.ensures.all, length-map c.args.inputs.now (string_bytes {Z = Global}))

  some : 1 ≤ length names
  some = omega (arith, c.requires.some, length-map c.args.inputs.now (string_bytes {Z = Global}))

pub frame_of-requires-clause-packed : goal.frame_of-requires-clause-packed
frame_of-requires-clause-packed g c =
    let k = (goal.at.frame_of-requires-clause-packed g c).In_ok-listed in
    let ens = c.in_ok-listed.ensures in
    head_packed _ _ _ _ _ _ _ _ ens.opened ens.lists (all g k) (some g k)

pub frame_of-requires-clause-one : goal.frame_of-requires-clause-one
frame_of-requires-clause-one g c =
    let k = (goal.at.frame_of-requires-clause-one g c).In_ok-listed in
    let ens = c.in_ok-listed.ensures in
    head_one _ _ _ _ _ _ _ _ ens.opened ens.lists (all g k) (some g k)

pub write-requires-clause-names : goal.write-requires-clause-names
write-requires-clause-names g c n d lt =
    let k = (goal.at.write-requires-clause-names g c).In_ok-listed in
    let ens = c.in_ok-listed.ensures in
    let other = sources_other _ _ _ _ _ _ _ _ ens.opened ens.lists (all g k) (some g k) c.args.output.now
    (other_names c.args.inputs.now c.args.output.now c.requires.names) in
    subst (λ (ss : List SourceSeen). All (λ s. s.name ≢ c.args.output.now) ss) (sym c.deref-2.ensures.value) other n d
    lt

pub write-requires-clause-lie : goal.write-requires-clause-lie
write-requires-clause-lie g c =
    let k = (goal.at.write-requires-clause-lie g c).In_ok-listed in
    let l = c.in_ok-listed.listed in
    let ens = c.in_ok-listed.ensures in
    let lie = sources_lie _ _ _ _ _ _ _ _ ens.opened ens.lists (all g k) (some g k) in
    subst (λ (ss : List SourceSeen). All (PartLiesIn (g.F.Files.seen c.list_inputs.new.files).held) ss)
    (sym c.deref-2.ensures.value)
    (subst (λ (h : Option FileMap). All (PartLiesIn h) l.sources.items) (sym c.list_inputs.ensures.reads.held) lie)

pub returns-in_err-listed-clause-says : goal.returns-in_err-listed-clause-says
returns-in_err-listed-clause-says g c =
    let old = g.F.Files.seen c.args.files.now in
    let new = g.F.Files.seen c.list_inputs.new.files in
    let names = names_of c.args.inputs.now in
    let e = c.in_err-listed.field-0.0 in
    err_is (SaysCopying names c.args.output.now old new) c.from_residual.result e c.from_residual.ensures.1
    (says_listing names c.args.output.now old new c.list_inputs.ensures.reads e c.in_err-listed.ensures.ends)

pub returns-in_err-points-clause-says : goal.returns-in_err-points-clause-says
returns-in_err-points-clause-says g c =
    let k = (goal.at.returns-in_err-points-clause-says g c).In_ok-listed in
    let old = g.F.Files.seen c.args.files.now in
    let new = g.F.Files.seen c.list_inputs.new.files in
    let ens = c.in_ok-listed.ensures in
    let many : 2 ^ 32 ≤ points_read (inputs g k) =
    subst (λ (is : List InputSeen). 2 ^ 32 ≤ points_read is) c.deref.ensures.value c.in_err-points.ensures.many.1 in
    let e = c.in_err-points.field-0.0 in
    err_is (SaysCopying (names g k) c.args.output.now old new) c.from_residual-in_err-points.result e
    c.from_residual-in_err-points.ensures.1
    (subst (λ (f : MergeFault). SaysCopying (names g k) c.args.output.now old new (Err f))
    (sym c.in_err-points.ensures.many.0)
    (says_points (names g k) c.args.output.now old new c.list_inputs.ensures.reads
    (λ known is. many_points _ _ _ _ _ _ _ _ ens.opened ens.lists (all g k) (some g k) known is many)))

-- and when their records were counted
module _ (g : Over) (c : In_ok-points g) where
  few : points_read c.in_ok-listed.listed.inputs.items < 2 ^ 32
  few = subst (λ (is : List InputSeen). points_read is < 2 ^ 32) c.deref.ensures.value c.in_ok-points.ensures.small

pub returns-then-listed-clause-says : goal.returns-then-listed-clause-says
returns-then-listed-clause-says g c =
    let k = (goal.at.returns-then-listed-clause-says g c).In_ok-listed in
    let ens = c.in_ok-listed.ensures in
    says_chunks (names g k) c.args.output.now (g.F.Files.seen c.args.files.now)
    (g.F.Files.seen c.list_inputs.new.files) c.list_inputs.ensures.reads
    (λ known is. many_chunks _ _ _ _ _ _ _ _ ens.opened ens.lists (all g k) (some g k) known is
    (few g (goal.at.returns-then-listed-clause-says g c).In_ok-points) c.if-listed.true)

pub returns-in-Err-clause-says : goal.returns-in-Err-clause-says
returns-in-Err-clause-says g c =
    let old = g.F.Files.seen c.args.files.now in
    let new = g.F.Files.seen c.list_inputs.new.files in
    says_memory (names_of c.args.inputs.now) c.args.output.now old new c.list_inputs.ensures.reads

-- and when the files are known
module _ (g : Over) (c : In_ok-listed g) (known : FileMap)
    (is : (g.F.Files.seen c.args.files.now).held ≡ Some known) where
  abbrev merged : List (List ℕ)
  merged = files _ _ _ _ _ _ _ _ c.in_ok-listed.ensures.opened c.in_ok-listed.ensures.lists (all g c) (some g c) known
      is

  abbrev chunks : List (List Chunk)
  chunks = parts _ _ _ _ _ _ _ _ c.in_ok-listed.ensures.opened c.in_ok-listed.ensures.lists (all g c) (some g c) known
      is

  can_copy_them : points_read (inputs g c) < 2 ^ 32 → c.in_ok-listed.listed.lists.many ≡ false
      → CanCopyFrom known (names g c) merged chunks
  can_copy_them few not_many = can_copy _ _ _ _ _ _ _ _ c.in_ok-listed.ensures.opened c.in_ok-listed.ensures.lists
      (all g c) (some g c) known is few not_many

pub returns-clause-says : goal.returns-clause-says
returns-clause-says g c =
    let k = (goal.at.returns-clause-says g c).In_ok-listed in
    let small = few g (goal.at.returns-clause-says g c).In_ok-points in
    let old = g.F.Files.seen c.args.files.now in
    let mid = g.F.Files.seen c.list_inputs.new.files in
    let new = g.F.Files.seen c.write.new.files in
    let output = c.args.output.now in
    let l = c.in_ok-listed.listed in
    let ens = c.in_ok-listed.ensures in
    let frame = c.in-Ok.frame in
    let same = c.list_inputs.ensures.reads.held in
    let text = copied_text mid.held frame.head.bytes frame.place c.deref-2.result.now frame.table.items in
    let here : text ≡ copied_text old.held frame.head.bytes frame.place l.sources.items frame.table.items =
    (λ i. copied_text (same i) frame.head.bytes frame.place (c.deref-2.ensures.value i) frame.table.items) in
    let whole = λ (known : FileMap) (is : old.held ≡ Some known).
    text_is _ _ _ _ _ _ _ _ ens.opened ens.lists (all g k) (some g k) known is frame.head.bytes frame.table.items
    frame.place c.if-listed.false c.in-Ok.ensures.head c.in-Ok.ensures.place c.in-Ok.ensures.table in
    let can = λ (known : FileMap) (is : old.held ≡ Some known).
    can_copy_them g k known is small c.if-listed.false in
    let IsFault : MergeFault → Type 0 = IsCopyFault (λ n. n < length c.deref-2.result.now) mid new in
    let cause : IfErr c.write.result IsFault = c.write.ensures.cause in
    let written : OnOk c.write.result (new ≡ with_bytes (with_reads mid new) output text) = c.write.ensures.written in
    let left : OnErr c.write.result (LeavesPrefix mid.held new.held output text) = c.write.ensures.left in
    record {
      copied = on_ok_weaker c.write.result
          (λ put known is. (
            merged g k known is,
            chunks g k known is,
            can known is,
            ap (λ (o : Outside). o.held) put ∙ (λ i. with_file (same i) output (here i))
                ∙ ap (λ (t : List ℕ). with_file old.held output t) (whole known is),
          )) written;
      kept = IfErr-weaker c.write.result IsFault _
          (λ e h kind. absurd (copy_is_fault (λ n. n < length c.deref-2.result.now) mid new e h kind)) cause;
      unequal = λ number field err. absurd (err_at IsFault c.write.result (Unequal number field) cause err);
      at = λ number fault err.
          let within : number < length c.deref-2.result.now =
          copy_within (λ n. n < length c.deref-2.result.now) mid new number fault
          (err_at IsFault c.write.result (At number fault) cause err) in
          let below : number < length (names g k) = omega (
            arith,
            within,
            ap (λ (ss : List SourceSeen). length ss) c.deref-2.ensures.value,
            sources_long _ _ _ _ _ _ _ _ ens.opened ens.lists (all g k) (some g k),
          ) in (
            below,
            λ known is. before_copied known (names g k) (merged g k known is) (chunks g k known is) number
                (can known is) below,
          );
      read = λ number err. inr (subst (λ (n : ℕ). Rose n new.read_faults) c.in_ok-listed.ensures.calm.reads
          (err_at IsFault c.write.result (At number fault.Read) cause err).1);
      write = λ err. (
        subst (λ (n : ℕ). Rose n new.write_faults) c.list_inputs.ensures.reads.writes
            (err_at IsFault c.write.result Write cause err),
        λ known is. (merged g k known is, chunks g k known is, can known is),
      );
      never = λ number err. err_at IsFault c.write.result (At number fault.Write) cause err;
      left = on_err_weaker c.write.result
          (λ prefix known is. left_by old.held mid.held new.held known (names g k) (merged g k known is)
          (chunks g k known is) output text same (can known is) (here ∙ whole known is) prefix) left;
      calm = on_ok_weaker c.write.result (calm-trans old mid new c.in_ok-listed.ensures.calm) c.write.ensures.calm;
      later = later-trans old mid new c.list_inputs.ensures.reads.later c.write.ensures.frame.later;
    }

pub returns-clause-asked : goal.returns-clause-asked
returns-clause-asked g c =
    let k = (goal.at.returns-clause-asked g c).In_ok-listed in
    let small = few g (goal.at.returns-clause-asked g c).In_ok-points in
    let ens = c.in_ok-listed.ensures in
    let size : SourceSeen → ℕ = λ s. s.size in
    on_ok c.write.result
    (λ known is files parts can.
    let bound = asked_few _ _ _ _ _ _ _ _ ens.opened ens.lists (all g k) (some g k) known is in
    let once = copied_once known (names g k) (merged g k known is) files (chunks g k known is) parts
    (can_copy_them g k known is small c.if-listed.false) can in
    omega (
      arith,
      bound,
      c.write.ensures.frame.asked,
      ap (sum_by size) c.deref-2.ensures.value,
      c.list_inputs.ensures.reads.later.asked,
      ap (λ (fs : List (List ℕ)). asked_to_copy fs parts) once.0,
      ap (asked_to_copy (merged g k known is)) once.1,
    ))

pub returns-in_err-listed-clause-asked : goal.returns-in_err-listed-clause-asked
returns-in_err-listed-clause-asked g c = IfOk-from_err c.from_residual.result _ c.from_residual.ensures.0

pub returns-in_err-points-clause-asked : goal.returns-in_err-points-clause-asked
returns-in_err-points-clause-asked g c =
    IfOk-from_err c.from_residual-in_err-points.result _ c.from_residual-in_err-points.ensures.0

pub returns-in_err-listed-clause-calm_kept : goal.returns-in_err-listed-clause-calm_kept
returns-in_err-listed-clause-calm_kept g c = if_err _ c.from_residual.result _ c.from_residual.ensures.1 c.in_err-listed.ensures.calm_kept

-- what was asked for when the inputs were listed, or could not be
pub returns-in_err-listed-clause-asked_always : goal.returns-in_err-listed-clause-asked_always
returns-in_err-listed-clause-asked_always g c known is =
    omega (arith, c.list_inputs.ensures.asked known is, compared_less known (names_of c.args.inputs.now))

pub returns-in_err-points-clause-asked_always : goal.returns-in_err-points-clause-asked_always
returns-in_err-points-clause-asked_always g c known is =
    omega (arith, c.list_inputs.ensures.asked known is, compared_less known (names_of c.args.inputs.now))

pub returns-then-listed-clause-asked_always : goal.returns-then-listed-clause-asked_always
returns-then-listed-clause-asked_always g c known is =
    omega (arith, c.list_inputs.ensures.asked known is, compared_less known (names_of c.args.inputs.now))

pub returns-in-Err-clause-asked_always : goal.returns-in-Err-clause-asked_always
returns-in-Err-clause-asked_always g c known is =
    omega (arith, c.list_inputs.ensures.asked known is, compared_less known (names_of c.args.inputs.now))

pub returns-clause-asked_always : goal.returns-clause-asked_always
returns-clause-asked_always g c known is =
    let k = (goal.at.returns-clause-asked_always g c).In_ok-listed in
    let ens = c.in_ok-listed.ensures in
    let size : SourceSeen → ℕ = λ s. s.size in
    omega (
      arith,
      c.list_inputs.ensures.asked known is,
      asked_whole _ _ _ _ _ _ _ _ ens.opened ens.lists (all g k) (some g k) known is,
      c.write.ensures.frame.asked,
      ap (sum_by size) c.deref-2.ensures.value,
    )

pub returns-clause-calm_kept : goal.returns-clause-calm_kept
returns-clause-calm_kept g c =
    let mid = g.F.Files.seen c.list_inputs.new.files in
    let new = g.F.Files.seen c.write.new.files in
    let IsFault : MergeFault → Type 0 = IsCopyFault (λ n. n < length c.deref-2.result.now) mid new in
    IfErr-weaker c.write.result IsFault _
    (λ e h kind. absurd (copy_is_fault (λ n. n < length c.deref-2.result.now) mid new e h kind)) c.write.ensures.cause
