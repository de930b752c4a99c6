use Rattle.std.proofs.Common.{◌∙◌, sym, arith}
use Rattle.las_header.proofs.VlrLemmas.{found_within, found_after}
use Rattle.las_header.specs.Fields.{minor_of}
use Rattle.las_header.proofs.CauseLemmas.{least_any}
use Rattle.las_header.proofs.changes.laszip_bounds.Goals as goal

pub returns-in-Some-clause-within : goal.returns-in-Some-clause-within
returns-in-Some-clause-within c =
    let inside = found_within c.args.head.now c.in-Some.place (sym c.first_laszip.ensures ∙ c.in-Some.is) in
    omega (arith, inside, c.from.ensures, c.requires.head.vlrs)

pub returns-in-Some-clause-block : goal.returns-in-Some-clause-block
returns-in-Some-clause-block c =
    let after = found_after c.args.head.now c.in-Some.place (sym c.first_laszip.ensures ∙ c.in-Some.is) in
    let least = least_any (minor_of c.args.head.now) in
    omega (arith, after, least, c.requires.head.header_size)
