use Rattle.std.proofs.Common.{rules, ◌≡◌, ◌+◌, ◌≤◌, ℕ, List, ◌∙◌, ap, subst, Err, length, arith}
use Rattle.std.proofs.lemmas.Result.{IfOk-from_err}
use Rattle.las_header.specs.Heads.{HeadView}
use Rattle.las_outside.specs.Files.{IsMissing}
use Rattle.las_outside.specs.Frames.{IsCalm, OnlyReads}
use Rattle.las_outside.specs.Outside.{Outside}
use Rattle.las_outside.proofs.Public.{calm-trans, only_reads-trans}
use Rattle.laz_forms.specs.declared.fault.Fault.{Fault}
use Rattle.laz_forms.proofs.Public.{known_at, known_both, known_then, not_missing}
use Rattle.laz_reader.specs.Asking.{asked_for_head}
use Rattle.laz_reader.specs.Reading.{EndsReading}
use Rattle.laz_reader.proofs.OpeningAsks.{head_asks}
use Rattle.laz_reader.proofs.Exits.{at_exit, ends_after, fails_after}
use Rattle.laz_reader.proofs.Heads.{head_known, head_accepted, head_given, head_refused, never_refused, no_stray_read, refused_by_front, residual_is, same_cause}
use Rattle.laz_reader.proofs.opening.read_head.Goals as goal

-- the reads after the size was asked for
both_read : (old same mid new : Outside) → same ≡ old → OnlyReads same mid → OnlyReads mid new → OnlyReads old new
both_read old same mid new is front rest = subst (λ (o : Outside). OnlyReads o new) is (only_reads-trans same mid new front rest)

both_calm : (old same mid new : Outside) → same ≡ old → IsCalm same mid → IsCalm mid new → IsCalm old new
both_calm old same mid new is front rest = subst (λ (o : Outside). IsCalm o new) is (calm-trans same mid new front rest)

front_asks : (file : List ℕ) (old same new : ℕ) → same ≡ old → new ≤ same + 227 → new ≤ old + asked_for_head file
front_asks file old same new is asks = omega (arith, asks, is)

pub returns-in_default-clause-head : goal.returns-in_default-clause-head
returns-in_default-clause-head g c = tt

pub returns-in_default-clause-size : goal.returns-in_default-clause-size
returns-in_default-clause-size g c = tt

pub returns-in_default-clause-within : goal.returns-in_default-clause-within
returns-in_default-clause-within g c = tt

pub returns-in_default-clause-plain : goal.returns-in_default-clause-plain
returns-in_default-clause-plain g c = tt

pub returns-in_default-clause-calm : goal.returns-in_default-clause-calm
returns-in_default-clause-calm g c = tt

pub returns-in_default-clause-asked : goal.returns-in_default-clause-asked
returns-in_default-clause-asked g c = tt

pub returns-in_err-offset : goal.returns-in_err-offset
returns-in_err-offset g c =
    record {
      head = IfOk-from_err c.from_residual.result _ c.from_residual.ensures.0;
      size = IfOk-from_err c.from_residual.result _ c.from_residual.ensures.0;
      within = IfOk-from_err c.from_residual.result _ c.from_residual.ensures.0;
      plain = IfOk-from_err c.from_residual.result _ c.from_residual.ensures.0;
      refused = λ cause is.
          let held = ap (λ (o : Outside). o.held) c.in-Ok.ensures.ok in
          let same = residual_is c.from_residual.result c.in_err-offset.field-0.0 cause c.from_residual.ensures.1 is in
          known_both _ _ _ _ _ (λ file size front. refused_by_front file c.in-Ok.size cause size front)
          c.in-Ok.ensures.length
          (known_at _ _ _ _ held (c.in_err-offset.ensures.refused cause (ap (λ (f : Fault). Err f) same)));
      reads =
          subst (λ (o : Outside). OnlyReads o (g.F.Files.seen c.read_front.new.files)) c.in-Ok.ensures.ok
          c.read_front.ensures.reads.only;
      calm = IfOk-from_err c.from_residual.result _ c.from_residual.ensures.0;
      ends = let old = g.F.Files.seen c.args.files.now in
          let new = g.F.Files.seen c.read_front.new.files in
          let missing = IsMissing old.held c.args.name.now in
          at_exit c.from_residual.result c.in_err-offset.field-0.0 (EndsReading missing old new)
          c.from_residual.ensures.1
          (ends_after missing old (g.F.Files.seen c.size.new.self) new c.in_err-offset.field-0.0
          (ap (λ (o : Outside). o.read_faults) c.in-Ok.ensures.ok) c.in_err-offset.ensures.ends);
      asked = IfOk-from_err c.from_residual.result _ c.from_residual.ensures.0;
      asked_of = λ there.
          let before = ap (λ (o : Outside). o.asked) c.in-Ok.ensures.ok in
          known_then _ _ _ _ (λ file size. front_asks file (g.F.Files.seen c.args.files.now).asked _ (g.F.Files.seen
          c.read_front.new.files).asked before c.read_front.ensures.reads.asked) c.in-Ok.ensures.length;
      missing = λ missing.
          absurd (not_missing _ _ _ c.in-Ok.ensures.length missing);
    }

pub returns-in_err-read_on : goal.returns-in_err-read_on
returns-in_err-read_on g c =
    record {
      head = IfOk-from_err c.from_residual-in_err-read_on.result _ c.from_residual-in_err-read_on.ensures.0;
      size = IfOk-from_err c.from_residual-in_err-read_on.result _ c.from_residual-in_err-read_on.ensures.0;
      within = IfOk-from_err c.from_residual-in_err-read_on.result _ c.from_residual-in_err-read_on.ensures.0;
      plain = IfOk-from_err c.from_residual-in_err-read_on.result _ c.from_residual-in_err-read_on.ensures.0;
      refused =
          λ cause is. never_refused (g.F.Files.seen c.read_front.new.files) (g.F.Files.seen c.read_on.new.files)
          c.from_residual-in_err-read_on.result c.in_err-read_on.field-0.0 cause
          c.from_residual-in_err-read_on.ensures.1 c.in_err-read_on.ensures.ends is;
      reads = both_read _ _ _ _ c.in-Ok.ensures.ok c.read_front.ensures.reads.only c.read_on.ensures.reads.only;
      calm = IfOk-from_err c.from_residual-in_err-read_on.result _ c.from_residual-in_err-read_on.ensures.0;
      ends = let old = g.F.Files.seen c.args.files.now in
          let mid = g.F.Files.seen c.read_front.new.files in
          let new = g.F.Files.seen c.read_on.new.files in
          let missing = IsMissing old.held c.args.name.now in
          let same = c.in_ok-offset.ensures.calm.reads ∙ ap (λ (o : Outside). o.read_faults) c.in-Ok.ensures.ok in
          at_exit c.from_residual-in_err-read_on.result c.in_err-read_on.field-0.0 (EndsReading missing old new)
          c.from_residual-in_err-read_on.ensures.1
          (fails_after missing old mid new c.in_err-read_on.field-0.0 same c.in_err-read_on.ensures.ends);
      asked = IfOk-from_err c.from_residual-in_err-read_on.result _ c.from_residual-in_err-read_on.ensures.0;
      asked_of = λ there.
          let held = ap (λ (o : Outside). o.held) c.in-Ok.ensures.ok in
          let before = ap (λ (o : Outside). o.asked) c.in-Ok.ensures.ok in
          let front = c.in_ok-offset.ensures in
          let rest = c.in_err-read_on.ensures in
          head_asks (g.F.Files.seen c.args.files.now).held c.args.name.now c.read_front.new.bytes.items
          c.in_ok-offset.offset (g.F.Files.seen c.args.files.now).asked (g.F.Files.seen c.read_on.new.files).asked
          (known_at _ _ _ _ held front.bytes) front.offset
          (omega (arith, before, front.reads.asked, front.len, rest.reads.asked));
      missing = λ missing.
          absurd (not_missing _ _ _ c.in-Ok.ensures.length missing);
    }

pub returns-in-Ok-read : goal.returns-in-Ok-read
returns-in-Ok-read g c =
    record {
      head = let held1 = ap (λ (o : Outside). o.held) c.in-Ok.ensures.ok in
          let front = c.read_front.new.bytes.items in
          let bytes = c.read_on.new.bytes.items in
          let size = c.in-Ok.size in
          let offset = c.in_ok-offset.offset in
          let known =
          head_known (g.F.Files.seen c.args.files.now).held c.args.name.now front bytes size offset _
          c.in-Ok.ensures.length (known_at _ _ _ _ held1 c.in_ok-offset.ensures.bytes)
          (known_at _ _ _ _ (c.in_ok-offset.ensures.reads.only.held ∙ held1) c.in_ok-read_on.ensures.bytes)
          c.in_ok-offset.ensures.len c.in_ok-offset.ensures.front c.in_ok-offset.ensures.offset in
          known_then _ _ _ _ (λ file h. head_accepted file front bytes size offset h c.read.result c.in-Ok-read.head
          c.read.ensures.head c.read.ensures.refused c.in-Ok-read.is) known;
      size =
          ap (λ (h : HeadView). h.size) (head_given _ _ c.read.result c.in-Ok-read.head c.read.ensures.head
          c.read.ensures.refused c.in-Ok-read.is);
      within =
          let same =
          ap (λ (h : HeadView). length h.bytes)
          (head_given _ _ c.read.result c.in-Ok-read.head c.read.ensures.head c.read.ensures.refused
          c.in-Ok-read.is) in
          omega (arith, same, c.in_ok-offset.ensures.bounds, c.in_ok-read_on.ensures.len, c.read_on.new.bytes.ok.0);
      plain =
          no_stray_read _ _ c.read.result c.in-Ok-read.head c.read.ensures.head c.read.ensures.refused c.in-Ok-read.is;
      refused = search rules;
      reads = both_read _ _ _ _ c.in-Ok.ensures.ok c.read_front.ensures.reads.only c.read_on.ensures.reads.only;
      calm = both_calm _ _ _ _ c.in-Ok.ensures.ok c.in_ok-offset.ensures.calm c.in_ok-read_on.ensures.calm;
      ends = tt;
      asked =
          let same =
          ap (λ (h : HeadView). length h.bytes)
          (head_given _ _ c.read.result c.in-Ok-read.head c.read.ensures.head c.read.ensures.refused
          c.in-Ok-read.is) in
          let before = ap (λ (o : Outside). o.asked) c.in-Ok.ensures.ok in
          let front = c.in_ok-offset.ensures in
          let rest = c.in_ok-read_on.ensures in
          omega (
            arith,
            same,
            before,
            front.reads.asked,
            front.len,
            front.bounds,
            rest.reads.asked,
            rest.len,
            c.read_on.new.bytes.ok.0,
          );
      asked_of = λ there.
          let held = ap (λ (o : Outside). o.held) c.in-Ok.ensures.ok in
          let before = ap (λ (o : Outside). o.asked) c.in-Ok.ensures.ok in
          let front = c.in_ok-offset.ensures in
          let rest = c.in_ok-read_on.ensures in
          head_asks (g.F.Files.seen c.args.files.now).held c.args.name.now c.read_front.new.bytes.items
          c.in_ok-offset.offset (g.F.Files.seen c.args.files.now).asked (g.F.Files.seen c.read_on.new.files).asked
          (known_at _ _ _ _ held front.bytes) front.offset
          (omega (arith, before, front.reads.asked, front.len, rest.reads.asked));
      missing = λ missing.
          absurd (not_missing _ _ _ c.in-Ok.ensures.length missing);
    }

pub returns-in-Err : goal.returns-in-Err
returns-in-Err g c =
    record {
      head = tt;
      size = tt;
      within = tt;
      plain = tt;
      refused = λ cause is.
          let held1 = ap (λ (o : Outside). o.held) c.in-Ok.ensures.ok in
          let front = c.read_front.new.bytes.items in
          let bytes = c.read_on.new.bytes.items in
          let size = c.in-Ok.size in
          let offset = c.in_ok-offset.offset in
          let known =
          head_known (g.F.Files.seen c.args.files.now).held c.args.name.now front bytes size offset _
          c.in-Ok.ensures.length (known_at _ _ _ _ held1 c.in_ok-offset.ensures.bytes)
          (known_at _ _ _ _ (c.in_ok-offset.ensures.reads.only.held ∙ held1) c.in_ok-read_on.ensures.bytes)
          c.in_ok-offset.ensures.len c.in_ok-offset.ensures.front c.in_ok-offset.ensures.offset in
          known_then _ _ _ _ (λ file h. head_refused file front bytes size offset h c.read.result c.in-Err.cause cause
          c.read.ensures.head c.read.ensures.refused c.in-Err.is (same_cause c.in-Err.cause cause is)) known;
      reads = both_read _ _ _ _ c.in-Ok.ensures.ok c.read_front.ensures.reads.only c.read_on.ensures.reads.only;
      calm = tt;
      ends =
          c.in_ok-read_on.ensures.calm.reads ∙ c.in_ok-offset.ensures.calm.reads ∙
          ap (λ (o : Outside). o.read_faults) c.in-Ok.ensures.ok;
      asked = tt;
      asked_of = λ there.
          let held = ap (λ (o : Outside). o.held) c.in-Ok.ensures.ok in
          let before = ap (λ (o : Outside). o.asked) c.in-Ok.ensures.ok in
          let front = c.in_ok-offset.ensures in
          let rest = c.in_ok-read_on.ensures in
          head_asks (g.F.Files.seen c.args.files.now).held c.args.name.now c.read_front.new.bytes.items
          c.in_ok-offset.offset (g.F.Files.seen c.args.files.now).asked (g.F.Files.seen c.read_on.new.files).asked
          (known_at _ _ _ _ held front.bytes) front.offset
          (omega (arith, before, front.reads.asked, front.len, rest.reads.asked));
      missing = λ missing.
          absurd (not_missing _ _ _ c.in-Ok.ensures.length missing);
    }
