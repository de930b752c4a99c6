use Rattle.std.proofs.Common.{◌+◌, length, sym, arith, lt-ltb}
use Rattle.las_header.specs.Fields.{vlr_count_of}
use Rattle.las_header.specs.Vlrs.{vlrs_end}
use Rattle.las_header.proofs.VlrLemmas.{place_is, end_is, vlr_start-mono, vlr_head_fits}
use Rattle.las_header.proofs.vlrs.pass_the_end.Goals as goal

pub returns-then-head-at-lt-VLR_HEAD : goal.returns-then-head-at-lt-VLR_HEAD
returns-then-head-at-lt-VLR_HEAD c =
    let fits = vlr_head_fits c.vlrs.i (vlr_count_of c.args.head.now) c.args.head.now (omega arith) in
    sym (lt-ltb (length c.args.head.now) (vlrs_end c.args.head.now) (omega (arith, fits, c.vlrs.invariant.0, c.vlrs.invariant.1)))

pub returns-then-at-head : goal.returns-then-at-head
returns-then-at-head c =
    let head = c.args.head.now in
    let place = place_is c.place_at-place.result c.vlrs.i c.vlrs.at head c.place_at-place.ensures.start c.place_at-place.ensures.payload c.vlrs.invariant.0 in
    let next = end_is c.place_at-place.result c.vlrs.i c.end_of-at.result head place c.end_of-at.ensures in
    let later = vlr_start-mono (c.vlrs.i + 1) (vlr_count_of head) head (omega arith) in
    sym (lt-ltb (length head) (vlrs_end head) (omega (arith, next, later)))
