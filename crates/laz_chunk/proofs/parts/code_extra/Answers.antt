use Rattle.laz_chunk.proofs.parts.code_extra.Goals as goal

pub returns-in-Some-clause-events : goal.returns-in-Some-clause-events
returns-in-Some-clause-events c = rw c.in-Some.is c.code.ensures.events

pub returns-in-Some-clause-stands : goal.returns-in-Some-clause-stands
returns-in-Some-clause-stands c = rw c.in-Some.is c.code.ensures.stands
