use Rattle.std.proofs.Common.{rules}
use Rattle.std.proofs.lemmas.Result.{IfOk-from_err}
use Rattle.laz_reader.proofs.Heads.{never_refused}
use Rattle.laz_reader.proofs.opening.find_table.Goals as goal

pub returns-then-size-offset-clause-place : goal.returns-then-size-offset-clause-place
returns-then-size-offset-clause-place g c = tt

pub returns-then-size-offset-clause-order : goal.returns-then-size-offset-clause-order
returns-then-size-offset-clause-order g c = tt

pub returns-then-size-offset-clause-calm : goal.returns-then-size-offset-clause-calm
returns-then-size-offset-clause-calm g c = tt

pub returns-then-size-offset-2-clause-place : goal.returns-then-size-offset-2-clause-place
returns-then-size-offset-2-clause-place g c = tt

pub returns-then-size-offset-2-clause-order : goal.returns-then-size-offset-2-clause-order
returns-then-size-offset-2-clause-order g c = tt

pub returns-then-size-offset-2-clause-calm : goal.returns-then-size-offset-2-clause-calm
returns-then-size-offset-2-clause-calm g c = tt

pub returns-in_err-pointer : goal.returns-in_err-pointer
returns-in_err-pointer g c =
    record {
      place = IfOk-from_err c.from_residual.result _ c.from_residual.ensures.0;
      order = IfOk-from_err c.from_residual.result _ c.from_residual.ensures.0;
      refused =
          λ cause is. never_refused (g.F.Files.seen c.args.files.now) (g.F.Files.seen c.read_number.new.files)
          c.from_residual.result c.in_err-pointer.field-0.0 cause c.from_residual.ensures.1
          c.in_err-pointer.ensures.ends is;
      reads = search rules;
      calm = IfOk-from_err c.from_residual.result _ c.from_residual.ensures.0;
      ends = search rules;
    }

pub returns-in_err-last : goal.returns-in_err-last
returns-in_err-last g c =
    record {
      place = IfOk-from_err c.from_residual-in_err-last.result _ c.from_residual-in_err-last.ensures.0;
      order = IfOk-from_err c.from_residual-in_err-last.result _ c.from_residual-in_err-last.ensures.0;
      refused =
          λ cause is. never_refused (g.F.Files.seen c.read_number.new.files) (g.F.Files.seen c.read_number-2.new.files)
          c.from_residual-in_err-last.result c.in_err-last.field-0.0 cause c.from_residual-in_err-last.ensures.1
          c.in_err-last.ensures.ends is;
      reads = search rules;
      calm = IfOk-from_err c.from_residual-in_err-last.result _ c.from_residual-in_err-last.ensures.0;
      ends = search rules;
    }
