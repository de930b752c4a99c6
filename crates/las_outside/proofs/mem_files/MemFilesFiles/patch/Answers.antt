use Rattle.std.proofs.Common.{◌≡◌, true, false, refl, ◌∙◌, ap, arith}
use Rattle.las_outside.specs.Calls.{Calls, next_call}
use Rattle.las_outside.specs.Faults.{count_after}
use Rattle.las_outside.specs.MemFiles.{Memory}
use Rattle.las_outside.proofs.Counting.{later_write}
use Rattle.las_outside.proofs.mem_files.MemFilesFiles.patch.Goals as goal

-- the calls after the next one
counted :
    (c : goal.Then-is_none) → c.replace.new.self.calls ≡
    (let next : Calls = record c.args.self.now.calls { writes = next_call c.args.self.now.calls.writes } in next)
counted c =
    c.replace.ensures.calls ∙ c.next_write-listed.ensures.counted
    ∙ ap (λ (m : Memory). let next : Calls = record m.calls { writes = next_call m.calls.writes } in next)
    c.self.view_is

pub returns-then-is_none-clause-calls : goal.returns-then-is_none-clause-calls
returns-then-is_none-clause-calls c = counted c

pub returns-then-is_none-clause-later : goal.returns-then-is_none-clause-later
returns-then-is_none-clause-later c =
    later_write c.args.self.now c.replace.new.self false (counted c)
    (omega (arith, ap (λ (calls : Calls). calls.write_faults) (counted c)))

pub returns-clause-calls : goal.returns-clause-calls
returns-clause-calls c =
    c.write_failed.ensures.counted
    ∙ ap (λ (calls : Calls). let next : Calls = record calls { write_faults = count_after calls.write_faults 1 }
    in next)
    (ap (λ (m : Memory). m.calls) c.self-2.view_is ∙ c.replace.ensures.calls ∙ c.next_write-listed.ensures.counted
    ∙ ap (λ (m : Memory). let next : Calls = record m.calls { writes = next_call m.calls.writes } in next)
    c.self.view_is)

pub returns-clause-later : goal.returns-clause-later
returns-clause-later c =
    let is =
    ap (λ (m : Memory). m.calls) c.self-2.view_is ∙ c.replace.ensures.calls ∙ c.next_write-listed.ensures.counted
    ∙ ap (λ (m : Memory). let next : Calls = record m.calls { writes = next_call m.calls.writes } in next)
    c.self.view_is in
    let new : Memory = record c.replace.new.self { calls = c.write_failed.new.self } in
    let later =
    later_write c.args.self.now new true (returns-clause-calls c)
    (omega (arith, c.write_failed.ensures.later, ap (λ (calls : Calls). calls.write_faults) is)) in
    record { known = refl; reads = later.reads; writes = later.writes; asked = later.asked }
