use Rattle.laz_chunk.proofs.Steps.{items-are}
use Rattle.laz_chunk.proofs.records.take_records.Goals as goal

pub returns-in-Some-rgb-clause-reads : goal.returns-in-Some-rgb-clause-reads
returns-in-Some-rgb-clause-reads c =
    let e = items-are c.args.items.now _ _ c.in-Some.is c.in-Some-rgb.is in
    rw e c.take_all.ensures.reads

pub returns-in-None-rgb-clause-reads : goal.returns-in-None-rgb-clause-reads
returns-in-None-rgb-clause-reads c =
    let e = items-are c.args.items.now _ _ c.in-Some.is c.in-None-rgb.is in
    rw e c.take_all-in-None-rgb.ensures.reads

pub returns-in-Some-rgb-2-clause-reads : goal.returns-in-Some-rgb-2-clause-reads
returns-in-Some-rgb-2-clause-reads c =
    let e = items-are c.args.items.now _ _ c.in-None.is c.in-Some-rgb-2.is in
    rw e c.take_all-in-Some-rgb-2.ensures.reads

pub returns-in-None-rgb-2-clause-reads : goal.returns-in-None-rgb-2-clause-reads
returns-in-None-rgb-2-clause-reads c =
    let e = items-are c.args.items.now _ _ c.in-None.is c.in-None-rgb-2.is in
    rw e c.take_all-in-None-rgb-2.ensures.reads
