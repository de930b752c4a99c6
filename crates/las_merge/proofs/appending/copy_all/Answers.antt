use Rattle.std.proofs.lemmas.Result.{IfOk-from_err}
use Rattle.std.proofs.Common.{◌≡◌, ◌≢◌, ◌<◌, ◌+◌, ◌≤◌, ◌++◌, ℕ, List, length, map, take, get_or, sym, ◌∙◌, ap, subst, append_assoc, arith}
use Rattle.std.specs.List.{concat}
use Rattle.std.specs.Prelude.{sum_by}
use Rattle.las_outside.specs.Files.{WhereKnown, with_file}
use Rattle.las_outside.specs.Outside.{Outside, with_bytes}
use Rattle.las_outside.proofs.Public.{calm-trans, later-trans, on_err}
use Rattle.laz_file.specs.Copying.{with_reads}
use Rattle.las_merge.specs.Appending.{PartLiesIn, SourceSeen, source_bytes, part_of}
use Rattle.laz_forms.proofs.Public.{known_then, if_err}
use Rattle.las_merge.proofs.Appended.{copy_fault_since, in_part, joined_more, still_known, still_part, sum_more, sum_within}
use Rattle.las_merge.proofs.appending.copy_all.Given.{Over}
use Rattle.las_merge.proofs.appending.copy_all.Goals.{After-copy_part}
use Rattle.las_merge.proofs.appending.copy_all.Goals as goal

pub copy_part-requires-clause-lies : goal.copy_part-requires-clause-lies
copy_part-requires-clause-lies g c =
    let h = c.requires.held in
    let old = g.F.Files.seen c.args.files.now in
    let cur = g.F.Files.seen c.sources.files in
    let output = c.args.output.now in
    let s : SourceSeen = c.index-sources-i.result in
    let there = c.sources.invariant.copied h.0 h.1 h.2 in
    let other : s.name ≢ output = subst (λ (x : SourceSeen). x.name ≢ output) (sym c.index-sources-i.is) (c.requires.names c.sources.i s c.sources-test.true) in
    let lies : PartLiesIn old.held s = subst (λ (x : SourceSeen). PartLiesIn old.held x) (sym c.index-sources-i.is) (c.requires.lie c.sources.i s c.sources-test.true) in
    let place = c.span-place.ensures.place in
    let size = c.span-place.ensures.size in
    let P : List ℕ → Type 0 = λ file. c.span-place.result.0 + c.span-place.result.1 ≤ length file in
    subst (λ (n : List ℕ). WhereKnown cur.held n P) (sym c.name.ensures)
    (still_known h.0.held old.held cur.held output s.name h.1 _ P other (ap (λ (o : Outside). o.held) h.2) (ap (λ (o : Outside). o.held) there)
    (known_then old.held s.name _ P (λ file le. omega (arith, le, place, size)) lies))

pub copy_part-requires-clause-held : goal.copy_part-requires-clause-held
copy_part-requires-clause-held g c =
    let h = c.requires.held in
    (with_reads h.0 (g.F.Files.seen c.sources.files), _, c.sources.invariant.copied h.0 h.1 h.2)

-- what stands when the next part was copied, or could not be
module _ (g : Over) (c : After-copy_part g) where
  abbrev old : Outside
  old = g.F.Files.seen c.args.files.now

  abbrev cur : Outside
  cur = g.F.Files.seen c.sources.files

  abbrev now : Outside
  now = g.F.Files.seen c.copy_part.new.files

  abbrev source : SourceSeen
  source = c.index-sources-i.result

  abbrev done : List ℕ
  done = concat (map (part_of old.held) (take c.sources.i c.args.sources.now))

  part_is : (before : Outside) (text : List ℕ) → old ≡ with_bytes before c.args.output.now text
      → source_bytes cur.held c.name.result.now c.span-place.result.0 c.span-place.result.1
      ≡ part_of old.held (get_or c.args.sources.now c.sources.i source)
  part_is before text was =
      let place = c.span-place.result.0 in
      let size = c.span-place.result.1 in
      let other : source.name ≢ c.args.output.now = subst (λ (x : SourceSeen). x.name ≢ c.args.output.now)
      (sym c.index-sources-i.is) (c.requires.names c.sources.i source c.sources-test.true) in
      ap (λ (n : List ℕ). source_bytes cur.held n place size) c.name.ensures
      ∙ still_part before.held old.held cur.held c.args.output.now source.name text (text ++ done) place size other
      (ap (λ (o : Outside). o.held) was)
      (ap (λ (o : Outside). o.held) (c.sources.invariant.copied before text was))
      ∙ ap (λ (n : ℕ). source_bytes old.held source.name n size) c.span-place.ensures.place
      ∙ ap (λ (n : ℕ). source_bytes old.held source.name source.place n) c.span-place.ensures.size
      ∙ ap (part_of old.held) c.index-sources-i.is

  asked_so_far : now.asked
      ≤ old.asked + sum_by (λ (x : SourceSeen). x.size) (take (c.sources.i + 1) c.args.sources.now)
  asked_so_far = omega (
    arith,
    c.copy_part.ensures.frame.asked,
    c.sources.invariant.frame.asked,
    c.span-place.ensures.size,
    ap (λ (x : SourceSeen). x.size) c.index-sources-i.is,
    sum_more (λ (x : SourceSeen). x.size) c.args.sources.now c.sources.i source c.sources-test.true,
  )

pub returns-in_err-copy_part-clause-left : goal.returns-in_err-copy_part-clause-left
returns-in_err-copy_part-clause-left g c before text was =
    let k = (goal.at.returns-in_err-copy_part-clause-left g c).After-copy_part in
    let done = done g k in
    let l = c.in_err-copy_part.ensures.left (with_reads before (cur g k)) (text ++ done)
    (c.sources.invariant.copied before text was) in
    let p = in_part (part_of (old g k).held) c.args.sources.now c.sources.i l.0 (source g k) c.sources-test.true in
    on_err c.from_residual.result (
      p.0,
      l.1 ∙ ap (λ (t : List ℕ). with_file before.held c.args.output.now t)
          (append_assoc text done _
          ∙ ap (λ (t : List ℕ). text ++ (done ++ take l.0 t)) (part_is g k before text was)
          ∙ ap (λ (t : List ℕ). text ++ t) p.1),
    )

pub sources-preserved : goal.sources-preserved
sources-preserved g c =
    let k = (goal.at.sources-preserved g c).After-copy_part in
    let done = done g k in
    record {
      room = c.copy_part.ensures.room ∙ c.sources.invariant.room;
      copied = λ before text was.
          c.in_ok-copy_part.ensures.copied (with_reads before (cur g k)) (text ++ done)
          (c.sources.invariant.copied before text was)
          ∙ ap (λ (t : List ℕ). with_bytes (with_reads before (now g k)) c.args.output.now t)
          (append_assoc text done _ ∙ ap (λ (t : List ℕ). text ++ (done ++ t)) (part_is g k before text was)
          ∙ ap (λ (t : List ℕ). text ++ t) (sym (joined_more (part_of (old g k).held) c.args.sources.now c.sources.i
          (source g k) c.sources-test.true)));
      calm = calm-trans _ _ _ c.sources.invariant.calm c.in_ok-copy_part.ensures.calm;
      frame = record {
        asked = asked_so_far g k;
        later = later-trans _ _ _ c.sources.invariant.frame.later c.copy_part.ensures.frame.later;
      };
    }

pub returns-in_err-copy_part-clause-frame : goal.returns-in_err-copy_part-clause-frame
returns-in_err-copy_part-clause-frame g c =
    let k = (goal.at.returns-in_err-copy_part-clause-frame g c).After-copy_part in
    record {
      asked = omega (
        arith,
        asked_so_far g k,
        sum_within (λ (x : SourceSeen). x.size) c.args.sources.now (c.sources.i + 1),
      );
      later = later-trans _ _ _ c.sources.invariant.frame.later c.copy_part.ensures.frame.later;
    }

pub returns-in_err-copy_part-clause-cause : goal.returns-in_err-copy_part-clause-cause
returns-in_err-copy_part-clause-cause g c =
    let old = g.F.Files.seen c.args.files.now in
    let cur = g.F.Files.seen c.sources.files in
    let now = g.F.Files.seen c.copy_part.new.files in
    let calm = c.sources.invariant.calm in
    if_err _ c.from_residual.result _ c.from_residual.ensures.1
    (copy_fault_since (λ n. n ≡ c.sources.i) (λ n. n < length c.args.sources.now) old cur now calm.reads calm.writes (λ n e. omega (arith, e, c.sources-test.true)) c.in_err-copy_part.field-0.0 c.in_err-copy_part.ensures.cause)

pub returns-in_err-copy_part-clause-copied : goal.returns-in_err-copy_part-clause-copied
returns-in_err-copy_part-clause-copied g c before text is =
    IfOk-from_err c.from_residual.result _ c.from_residual.ensures.0

pub returns-in_err-copy_part-clause-calm : goal.returns-in_err-copy_part-clause-calm
returns-in_err-copy_part-clause-calm g c = IfOk-from_err c.from_residual.result _ c.from_residual.ensures.0

pub returns-clause-calm : goal.returns-clause-calm
returns-clause-calm g c = c.sources.invariant.calm
