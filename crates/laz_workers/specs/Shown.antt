-- What contracts see of a hand.
use Rattle.laz_workers.specs.declared.hand.Hand.{Hand}
use Rattle.laz_workers.specs.Rooms.{HandSeen}

-- all but its pass, which is there only while inputs are worked
abbrev pub shown : {S : Type 0} → Hand S → HandSeen S
shown h = record { space = h.space; first = h.first; second = h.second }
