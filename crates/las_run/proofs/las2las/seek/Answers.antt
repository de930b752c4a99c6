use Rattle.std.proofs.Common.{refl, sym, subst, rules}
use Rattle.laz_reader.specs.Reading.{IsFreshReader, ReaderSeen}
use Rattle.las_run.proofs.las2las.seek.Goals as goal

pub returns-clause-fresh : goal.returns-clause-fresh
returns-clause-fresh c =
    let new = c.requires.new in
    subst (λ (r : ReaderSeen). IsFreshReader r.name r) (sym c.seek_record.ensures.sought) (record {
      named = refl;
      unread = refl;
      sound = new.sound;
      unprepared = new.unprepared;
      empty = new.empty;
    })

pub returns-clause-range : goal.returns-clause-range
returns-clause-range c = search rules
