use Rattle.laz_chunk.proofs.Steps.{items-are}
use Rattle.laz_chunk.proofs.records.put_records.Goals as goal

pub returns-in-Some-rgb-clause-codes : goal.returns-in-Some-rgb-clause-codes
returns-in-Some-rgb-clause-codes c =
    let e = items-are c.args.items.now _ _ c.in-Some.is c.in-Some-rgb.is in
    rw e c.put_all.ensures.codes

pub returns-in-None-rgb-clause-codes : goal.returns-in-None-rgb-clause-codes
returns-in-None-rgb-clause-codes c =
    let e = items-are c.args.items.now _ _ c.in-Some.is c.in-None-rgb.is in
    rw e c.put_all-in-None-rgb.ensures.codes

pub returns-in-Some-rgb-2-clause-codes : goal.returns-in-Some-rgb-2-clause-codes
returns-in-Some-rgb-2-clause-codes c =
    let e = items-are c.args.items.now _ _ c.in-None.is c.in-Some-rgb-2.is in
    rw e c.put_all-in-Some-rgb-2.ensures.codes

pub returns-in-None-rgb-2-clause-codes : goal.returns-in-None-rgb-2-clause-codes
returns-in-None-rgb-2-clause-codes c =
    let e = items-are c.args.items.now _ _ c.in-None.is c.in-None-rgb-2.is in
    rw e c.put_all-in-None-rgb-2.ensures.codes
