use Rattle.laz_forms.proofs.Public.{if_err}
use Rattle.std.proofs.lemmas.Result.{IfOk-from_err}
use Rattle.std.proofs.Common.{◌≡◌, ◌++◌, ◌+◌, ◌≤◌, ℕ, List, inr, length, map, min, take, Option, refl, sym, ◌∙◌, ap}
use Rattle.std.proofs.Common.{subst, append_assoc, arith, ◌<◌}
use Rattle.std.specs.Prelude.{slice_index_or}
use Rattle.std.specs.List.{concat}
use Rattle.std.proofs.Math.Seq.{take-append-add}
use Rattle.byteorder.specs.Endian.{little_bytes}
use Rattle.las_outside.specs.Files.{FileMap, with_file}
use Rattle.las_outside.specs.Outside.{Outside, with_bytes}
use Rattle.las_outside.proofs.Public.{on_err, prefix_of}
use Rattle.laz_reader.proofs.Public.{after_writes, then_writes}
use Rattle.laz_file.proofs.Public.{known_after}
use Rattle.laz_file.specs.Copying.{with_reads, LeavesPrefix}
use Rattle.las_merge.specs.Appending.{PartLiesIn, SourceSeen, part_of}
use Rattle.las_merge.proofs.Appended.{leaves_more, parts_after, reads_now, copy_fault_since}
use Rattle.las_merge.proofs.copying_chunks.write.Given.{Over}
use Rattle.las_merge.proofs.copying_chunks.write.Goals.{In-Ok}
use Rattle.las_merge.proofs.copying_chunks.write.Goals as goal

pub returns-in-Err-clause-left : goal.returns-in-Err-clause-left
returns-in-Err-clause-left g c =
    let old = g.F.Files.seen c.args.files.now in
    let new = g.F.Files.seen c.begin.new.files in
    let name = c.args.output.now in
    let frame = c.args.frame.now in
    let pointer = little_bytes 8 frame.place in
    leaves_more old.held new.held name (frame.head.bytes ++ pointer) (concat (map (part_of old.held) c.args.sources.now) ++ frame.table.items)
    (subst (λ (h : List ℕ). LeavesPrefix old.held new.held name (h ++ pointer)) c.bytes.ensures.bytes c.in-Err.ensures.left)

pub copy_all-requires-clause-lie : goal.copy_all-requires-clause-lie
copy_all-requires-clause-lie g c k d lt =
    let old = g.F.Files.seen c.args.files.now in
    let name = c.args.output.now in
    let s : SourceSeen = slice_index_or c.args.sources.now k d in
    subst (λ (h : Option FileMap). PartLiesIn h s) (sym (ap (λ (o : Outside). o.held) c.in-Ok.ensures.begun))
    (known_after old.held name _ s.name (λ file. s.place + s.size ≤ length file) (c.requires.names k d lt) (c.requires.lie k d lt))

-- what stands when the output was begun
module _ (g : Over) (c : In-Ok g) where
  abbrev old : Outside
  old = g.F.Files.seen c.args.files.now

  abbrev mid : Outside
  mid = g.F.Files.seen c.begin.new.files

  abbrev pointer : List ℕ
  pointer = little_bytes 8 c.args.frame.now.place

  abbrev begun : List ℕ
  begun = c.bytes.result.now ++ pointer

  abbrev front : List ℕ
  front = c.args.frame.now.head.bytes ++ pointer

  abbrev parts : Option FileMap → List ℕ
  parts held = concat (map (part_of held) c.args.sources.now)

  same : begun ≡ front
  same = ap (λ (h : List ℕ). h ++ pointer) c.bytes.ensures.bytes

  parts_are : parts mid.held ≡ parts old.held
  parts_are = ap parts (ap (λ (o : Outside). o.held) c.in-Ok.ensures.begun)
      ∙ parts_after old.held c.args.output.now begun c.args.sources.now c.requires.names

pub returns-in_err-copy_all-clause-left : goal.returns-in_err-copy_all-clause-left
returns-in_err-copy_all-clause-left g c =
    let k = (goal.at.returns-in_err-copy_all-clause-left g c).In-Ok in
    let old = old g k in
    let name = c.args.output.now in
    let whole = parts g k old.held in
    let left = c.in_err-copy_all.ensures.left old (begun g k) c.in-Ok.ensures.begun in
    on_err c.from_residual.result (inr (
      length (front g k) + min left.0 (length whole),
      left.1 ∙ (λ i. with_file old.held name (same g k i ++ take left.0 (parts_are g k i)))
          ∙ ap (λ (t : List ℕ). with_file old.held name t)
          (prefix_of (front g k) whole c.args.frame.now.table.items left.0),
    ))

pub append_all-requires : goal.append_all-requires
append_all-requires g c =
    let k = (goal.at.append_all-requires g c).In-Ok in
    record {
      held = (
        with_reads (old g k) (g.F.Files.seen c.copy_all.new.files),
        _,
        c.in_ok-copy_all.ensures.copied (old g k) (begun g k) c.in-Ok.ensures.begun,
      );
    }

pub returns-in-Ok-append_all-clause-written : goal.returns-in-Ok-append_all-clause-written
returns-in-Ok-append_all-clause-written g c =
    let k = (goal.at.returns-in-Ok-append_all-clause-written g c).In-Ok in
    let old = old g k in
    let before = with_reads old (g.F.Files.seen c.copy_all.new.files) in
    let now = g.F.Files.seen c.append_all.new.files in
    let name = c.args.output.now in
    let text = begun g k ++ parts g k (mid g k).held in
    let put = c.in-Ok-append_all.ensures.added before text
    (c.in_ok-copy_all.ensures.copied old (begun g k) c.in-Ok.ensures.begun) in
    let table = c.deref.result.now in
    let text_is : text ++ table ≡ front g k ++ (parts g k old.held ++ c.args.frame.now.table.items) =
    (λ i. (same g k i ++ parts_are g k i) ++ c.deref.ensures.value i)
    ∙ append_assoc (front g k) (parts g k old.held) c.args.frame.now.table.items in
    reads_now old before now name (text ++ table) put refl refl
    ∙ ap (λ (t : List ℕ). with_bytes (with_reads old now) name t) text_is

pub returns-in-Ok-append_all-clause-calm : goal.returns-in-Ok-append_all-clause-calm
returns-in-Ok-append_all-clause-calm g c =
    let k = (goal.at.returns-in-Ok-append_all-clause-calm g c).In-Ok in
    let put = c.in-Ok-append_all.ensures.added (with_reads (old g k) (g.F.Files.seen c.copy_all.new.files)) _
    (c.in_ok-copy_all.ensures.copied (old g k) (begun g k) c.in-Ok.ensures.begun) in
    record {
      reads = c.append_all.ensures.writes.reads ∙ c.in_ok-copy_all.ensures.calm.reads ∙ c.begin.ensures.writes.reads;
      writes = ap (λ (o : Outside). o.write_faults) put;
    }

pub returns-in-Ok-append_all-clause-frame : goal.returns-in-Ok-append_all-clause-frame
returns-in-Ok-append_all-clause-frame g c =
    then_writes _ _ _ _ (after_writes _ _ _ _ c.begin.ensures.writes c.copy_all.ensures.frame) c.append_all.ensures.writes

pub returns-in-Err-append_all-clause-left : goal.returns-in-Err-append_all-clause-left
returns-in-Err-append_all-clause-left g c =
    let k = (goal.at.returns-in-Err-append_all-clause-left g c).In-Ok in
    let old = old g k in
    let name = c.args.output.now in
    let front = front g k in
    let whole = parts g k old.held in
    let left = c.in-Err-append_all.ensures.stopped (with_reads old (g.F.Files.seen c.copy_all.new.files))
    (begun g k ++ parts g k (mid g k).held)
    (c.in_ok-copy_all.ensures.copied old (begun g k) c.in-Ok.ensures.begun) in
    let table = c.args.frame.now.table.items in
    let m = length (front ++ whole) + left.0 in
    inr (
      m,
      ap (λ (o : Outside). o.held) left.1
          ∙ (λ i. with_file old.held name
          ((same g k i ++ parts_are g k i) ++ take left.0 (c.deref.ensures.value i)))
          ∙ ap (λ (t : List ℕ). with_file old.held name t)
          (sym (take-append-add (front ++ whole) table left.0)
          ∙ ap (λ (t : List ℕ). take m t) (append_assoc front whole table)),
    )

pub returns-in-Err-append_all-clause-cause : goal.returns-in-Err-append_all-clause-cause
returns-in-Err-append_all-clause-cause g c =
    let k = (goal.at.returns-in-Err-append_all-clause-cause g c).In-Ok in
    let left = c.in-Err-append_all.ensures.stopped (with_reads (old g k) (g.F.Files.seen c.copy_all.new.files)) _
    (c.in_ok-copy_all.ensures.copied (old g k) (begun g k) c.in-Ok.ensures.begun) in
    omega (arith, ap (λ (o : Outside). o.write_faults) left.1)

pub returns-in-Err-append_all-clause-frame : goal.returns-in-Err-append_all-clause-frame
returns-in-Err-append_all-clause-frame g c =
    then_writes _ _ _ _ (after_writes _ _ _ _ c.begin.ensures.writes c.copy_all.ensures.frame) c.append_all.ensures.writes

pub returns-in_err-copy_all-clause-written : goal.returns-in_err-copy_all-clause-written
returns-in_err-copy_all-clause-written g c = IfOk-from_err c.from_residual.result _ c.from_residual.ensures.0

pub returns-in_err-copy_all-clause-calm : goal.returns-in_err-copy_all-clause-calm
returns-in_err-copy_all-clause-calm g c = IfOk-from_err c.from_residual.result _ c.from_residual.ensures.0

pub returns-in_err-copy_all-clause-frame : goal.returns-in_err-copy_all-clause-frame
returns-in_err-copy_all-clause-frame g c = after_writes _ _ _ _ c.begin.ensures.writes c.copy_all.ensures.frame

pub returns-in_err-copy_all-clause-cause : goal.returns-in_err-copy_all-clause-cause
returns-in_err-copy_all-clause-cause g c =
    let P : ℕ → Type 0 = λ n. n < length c.args.sources.now in
    if_err _ c.from_residual.result _ c.from_residual.ensures.1
    (copy_fault_since P P (g.F.Files.seen c.args.files.now) (g.F.Files.seen c.begin.new.files)
    (g.F.Files.seen c.copy_all.new.files) c.begin.ensures.writes.reads
    (ap (λ (o : Outside). o.write_faults) c.in-Ok.ensures.begun) (λ n e. e) c.in_err-copy_all.field-0.0
    c.in_err-copy_all.ensures.cause)
