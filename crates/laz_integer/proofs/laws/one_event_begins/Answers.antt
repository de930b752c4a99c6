use Rattle.laz_integer.specs.Events.{cut_after, cuts_of}
use Rattle.laz_integer.proofs.Ranges.{IsCut-ranged, AreAlike-ranged, event-from_cut, Begins-more}
use Rattle.laz_integer.proofs.laws.one_event_begins.Goals as goal

pub returns : goal.returns
returns c sizes front d e bytes before f g same are one other =
    event-from_cut sizes front d e before f g same
    (c.one_begins.ensures (cuts_of front) (cut_after front d) (cut_after front e) bytes are (IsCut-ranged sizes front d before f) (IsCut-ranged sizes front e before g) (AreAlike-ranged sizes front d e before f g same) (Begins-more front d bytes one) (Begins-more front e bytes other))
