use Rattle.las_split.proofs.Buffers.{one_added}
use Rattle.las_split.proofs.gathering.Gathered.add.Goals as goal

pub returns : goal.returns
returns c = one_added c.push_records.result c.self.inside.texts.items c.args.self.now c.args.place c.index_mut.result.now c.push_records.new.text c.args.point.now c.self.view_is c.requires c.index_mut.ensures.value c.push_records.ensures
