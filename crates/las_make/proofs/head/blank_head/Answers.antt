use Rattle.std.proofs.Common.{◌∙◌, ap}
use Rattle.las_header.specs.Heads.{HeadView}
use Rattle.laz_reader.proofs.Public.{head_given}
use Rattle.las_make.proofs.Accepting.{blank_causes, blank_read}
use Rattle.las_make.proofs.head.blank_head.Goals as goal

pub read-requires-clause-accepted : goal.read-requires-clause-accepted
read-requires-clause-accepted c = (blank_read c.args.settings c.requires c.in_ok-bytes.bytes.items c.in_ok-bytes.ensures).0

pub read-requires-clause-whole : goal.read-requires-clause-whole
read-requires-clause-whole c = (blank_read c.args.settings c.requires c.in_ok-bytes.bytes.items c.in_ok-bytes.ensures).1

pub unreachable-requires : goal.unreachable-requires
unreachable-requires c =
    let none = blank_causes c.args.settings c.requires c.in_ok-bytes.bytes.items c.in_ok-bytes.ensures in
    let given = c.read.ensures.head none in
    let refused = c.in-Err.is in
    cc

pub returns : goal.returns
returns c =
    ap (λ (h : HeadView). h.bytes) (head_given c.in_ok-bytes.bytes.items 227 c.read.result c.in-Ok.head c.read.ensures.head c.read.ensures.refused c.in-Ok.is) ∙ c.in_ok-bytes.ensures
