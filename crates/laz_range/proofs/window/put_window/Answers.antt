use Rattle.std.proofs.Common.{◌∙◌, arith, length-take, length-drop}
use Rattle.laz_range.proofs.Windows.{window_put}
use Rattle.laz_range.proofs.window.put_window.Goals as goal

pub returns-clause-number : goal.returns-clause-number
returns-clause-number c = window_put c.args.next c.args.window c.args.bytes.now c.put_eight.new.bytes c.if-next-lt4.false c.requires.within (c.put_eight.auto.bytes ∙ simp (length-take, length-drop) (omega (arith, c.requires.within))) c.put_eight.ensures
