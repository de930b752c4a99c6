use Rattle.laz_range.proofs.Public.{Codes-append}
use Rattle.laz_point10.proofs.writing.put_point.Goals as goal

pub returns-clause-codes : goal.returns-clause-codes
returns-clause-codes g c =
    let changes = c.changes_of-changes.ensures.changes in
    let e = c.predictions-e.ensures.predicted in
    Codes-append _ _ _ _ _ (rw (changes, e) at c.put_head.ensures.codes)
    (Codes-append _ _ _ _ _ (rw (changes, e) at c.put_surface.ensures.codes)
    (Codes-append _ _ _ _ _ (rw (changes, e) at c.put_scan.ensures.codes) (rw e at c.put_place.ensures.codes)))
