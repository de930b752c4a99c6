use Rattle.std.proofs.Common.{◌≡◌, ◌+◌, Some, slice_get, refl, sym, ap, ◌∙◌, arith}
use Rattle.las_header.specs.declared.vlrs.VlrPlace.{VlrPlace}
use Rattle.las_header.specs.Fields.{vlr_count_of}
use Rattle.las_header.specs.Vlrs.{vlr_place, is_laszip}
use Rattle.las_header.proofs.VlrLemmas.{place_fits, place_is, laszips, laszips-found, first_stays}
use Rattle.las_header.proofs.vlrs.first_laszip.Goals as goal

pub place_at-place-requires-clause-within : goal.place_at-place-requires-clause-within
place_at-place-requires-clause-within c = place_fits c.vlrs.i c.vlrs.at c.args.head.now (omega arith) c.vlrs.invariant.0 c.requires.vlrs

pub is_laszip-requires : goal.is_laszip-requires
is_laszip-requires c =
    let fits = place_fits c.vlrs.i c.vlrs.at c.args.head.now (omega arith) c.vlrs.invariant.0 c.requires.vlrs in
    omega (arith, c.place_at-place.ensures.start)

pub returns-then-is_laszip : goal.returns-then-is_laszip
returns-then-is_laszip c =
    let head = c.args.head.now in
    let place = place_is c.place_at-place.result c.vlrs.i c.vlrs.at head c.place_at-place.ensures.start c.place_at-place.ensures.payload c.vlrs.invariant.0 in
    let found = laszips-found c.vlrs.i head (sym (c.is_laszip.ensures ∙ ap (is_laszip head) place) ∙ c.if-is_laszip.true) in
    let first : slice_get (laszips (c.vlrs.i + 1) head) 0 ≡ Some (vlr_place c.vlrs.i head) = rw (found, c.vlrs.invariant.1) refl in
    ap (λ (p : VlrPlace). Some p) place ∙ sym (first_stays (c.vlrs.i + 1) (vlr_count_of head) head (vlr_place c.vlrs.i head) (omega arith) first)
