use Rattle.las_split.specs.Sorting.{task_in}
use Rattle.las_split.proofs.Placing.{in_old}
use Rattle.las_split.proofs.sorting.place_of.Goals as goal

pub returns-in-Some-clause-opened : goal.returns-in-Some-clause-opened
returns-in-Some-clause-opened g c was opened written more point i is whole =
    let task = task_in c.args.splitter.now in
    let there = c.in-Some.ensures.some in
    (in_old task was (g.F.Files.seen c.args.files.now).held c.args.parts.now.numbers c.args.parts.now.writers.items opened written i more whole point c.args.number is c.in-Some.place there, there)
