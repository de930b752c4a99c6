use Rattle.std.proofs.Common.{drop}
use Rattle.laz_range.proofs.Public.{IsBytes-drop}
use Rattle.laz_chunk.specs.Layouts.{record_length}
use Rattle.laz_chunk.proofs.Lawful.{sizes}
use Rattle.laz_chunk.proofs.Parting.{one-held, whole-fits}
use Rattle.laz_chunk.proofs.laws.one_is_held.Goals as goal

pub returns : goal.returns
returns c l count bytes one other some small are others s t =
    let stream = drop (record_length l) bytes in
    let rest = IsBytes-drop (record_length l) bytes small in
    one-held l count bytes one other some
    (record {
      fits = whole-fits stream c.fronts_fit.ensures.some;
      fronts = λ front more all begins. c.event_fronts_begin.ensures sizes front more stream all rest begins;
      one = λ front d e all f g kind begins other_begins. c.one_event_begins.ensures sizes front d e stream all f g kind rest begins other_begins;
    })
    are others s t
