use Rattle.std.proofs.lemmas.List.{length_push}
use Rattle.std.proofs.Common.{◌≡◌, length, sym, ap, ◌∙◌, arith}
use Rattle.las_header.specs.Vlrs.{vlr_place, is_laszip}
use Rattle.las_header.proofs.VlrLemmas.{place_fits, place_is, end_is, laszips, laszips-found, laszips-other}
use Rattle.las_header.proofs.vlrs.count_laszip.Goals as goal
use Rattle.las_header.proofs.vlrs.count_laszip.Goals.{then-is_laszip, else-is_laszip}

pub place_at-place-requires-clause-within : goal.place_at-place-requires-clause-within
place_at-place-requires-clause-within c = place_fits c.vlrs.i c.vlrs.at c.args.head.now (omega arith) c.vlrs.invariant.0 c.requires.vlrs

pub is_laszip-requires : goal.is_laszip-requires
is_laszip-requires c =
    let fits = place_fits c.vlrs.i c.vlrs.at c.args.head.now (omega arith) c.vlrs.invariant.0 c.requires.vlrs in
    omega (arith, c.place_at-place.ensures.start)

pub vlrs-preserved : goal.vlrs-preserved
vlrs-preserved c =
    let head = c.args.head.now in
    let place = place_is c.place_at-place.result c.vlrs.i c.vlrs.at head c.place_at-place.ensures.start c.place_at-place.ensures.payload c.vlrs.invariant.0 in
    let tested : c.is_laszip.result ≡ is_laszip head (vlr_place c.vlrs.i head) = c.is_laszip.ensures ∙ ap (is_laszip head) place in
    let next = end_is c.place_at-place.result c.vlrs.i c.end_of-at.result head place c.end_of-at.ensures in
    elim c.if-is_laszip.branch [
      | then-is_laszip w ↦
          let more = ap length (laszips-found c.vlrs.i head (sym tested ∙ w.if-is_laszip.true)) ∙ length_push (laszips c.vlrs.i head) (vlr_place c.vlrs.i head) in
          (next, omega (arith, w.found-is, more, c.vlrs.invariant.1), omega (arith, w.found-is, c.vlrs.invariant.2))
      | else-is_laszip w ↦
          let same = ap length (laszips-other c.vlrs.i head (sym tested ∙ w.if-is_laszip.false)) in
          (next, omega (arith, w.found-is, same, c.vlrs.invariant.1), omega (arith, w.found-is, c.vlrs.invariant.2))
    ]
