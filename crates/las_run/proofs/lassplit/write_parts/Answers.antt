use Rattle.std.proofs.Common.{Result, Err, refl, ap, subst, sym}
use Rattle.std.specs.Prelude.{string_bytes}
use Rattle.laz_forms.specs.declared.fault.Fault.{Fault}
use Rattle.las_split.specs.Outputs as parts
use Rattle.las_run.specs.Ends.{EndsCommand, quiet, stopped_by}
use Rattle.las_run.specs.Tools.{Splits}
use Rattle.las_run.proofs.Making.{by_product, ends_done, ends_stopped, part_late}
use Rattle.las_run.proofs.lassplit.write_parts.Goals as goal
use Rattle.las_run.proofs.lassplit.write_parts.Goals.{in-Ok, in-Err}

pub returns-clause-ends : goal.returns-clause-ends
returns-clause-ends g c =
    let old = g.F.Files.seen c.args.files.now in
    let new = g.F.Files.seen c.split.new.files in
    let input = c.args.reader.name in
    let stem = string_bytes c.args.names.now.stem in
    let end = string_bytes c.args.names.now.end in
    let rule = c.args.rule.now in
    let Makes = parts.Splits stem end rule in
    λ out. elim c.match-split.branch [
      | in-Ok w ↦
          subst (λ (r : Result (Unit {0}) Fault). EndsCommand (Splits input stem end rule) input (quiet old new out)
          (stopped_by 0 r)) (sym w.result-is)
          (ends_done (by_product Makes input) (quiet old new out) (Unit {0}) tt tt refl w.in-Ok.ensures.ends)
      | in-Err w ↦
          let h = w.in-Err.ensures in
          subst (λ (r : Result (Unit {0}) Fault). EndsCommand (Splits input stem end rule) input (quiet old new out)
          (stopped_by 0 r)) (sym w.result-is)
          (ends_stopped (by_product Makes input) (quiet old new out) (Unit {0}) w.in-Err.fault (λ cause. tt) refl
          (λ cause is. part_late cause (h.bad cause (ap Err is))) h.ends)
    ]
