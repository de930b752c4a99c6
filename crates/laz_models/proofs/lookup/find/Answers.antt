use Rattle.laz_models.proofs.lookup.find.Goals as goal

pub returns : goal.returns
returns c = rw (← c.distribution.ensures.starts) c.last_at.ensures
