use Rattle.std.proofs.Common.{List, [], ◌++◌, subst}
use Rattle.laz_range.specs.Cut.{Cut, AreCuts}
use Rattle.laz_range.specs.Span.{Begins, span}
use Rattle.laz_integer.specs.Events.{cuts_after, cuts_of}
use Rattle.laz_integer.proofs.Named.{cuts_after-append}
use Rattle.laz_integer.proofs.Ranges.{AreCuts-ranged}
use Rattle.laz_integer.proofs.laws.event_fronts_begin.Goals as goal

pub returns : goal.returns
returns c sizes front rest bytes all are begins =
    let both = cuts_after-append [] front rest in
    c.fronts_begin.ensures (cuts_of front) (cuts_after front rest) bytes
    (subst (λ (cs : List Cut). AreCuts cs) both (AreCuts-ranged sizes [] (front ++ rest) tt all)) are
    (subst (λ (cs : List Cut). Begins (span cs) bytes) both begins)
