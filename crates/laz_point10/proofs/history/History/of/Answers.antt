use Rattle.laz_point10.proofs.Histories.{HistoryStands-first}
use Rattle.laz_point10.proofs.history.History.of.Goals as goal

pub returns : goal.returns
returns c = rw (c.new.ensures, c.new-2.ensures) (HistoryStands-first c.args.first)
