use Rattle.std.proofs.Common.{ℕ, List, sym, subst, arith}
use Rattle.std.specs.Prelude.{string_bytes}
use Rattle.las_header.specs.Heads.{HeadView}
use Rattle.las_merge.specs.Opening.{IsOpen}
use Rattle.las_merge.specs.Asking.{asked_to_compare}
use Rattle.las_merge.proofs.Asked.{asked_one}
use Rattle.las_merge.proofs.Again.{open_by}
use Rattle.las_merge.proofs.opening.open_input.Goals as goal

pub returns-in-Ok-from_str-clause-opened : goal.returns-in-Ok-from_str-clause-opened
returns-in-Ok-from_str-clause-opened g c =
    let held = (g.F.Files.seen c.args.files.now).held in
    let reader = c.in-Ok.reader in
    subst (λ (h : HeadView). IsOpen held (record { name = string_bytes c.in-Ok-from_str.name; head = h })) (sym c.into_head.ensures)
    (subst (λ (n : List ℕ). IsOpen held (record { name = n; head = reader.head })) (sym c.in-Ok-from_str.ensures.ok) (open_by held c.args.name.now reader c.in-Ok.ensures.whole c.in-Ok.ensures.stands))

pub returns-in-Err-clause-asked : goal.returns-in-Err-clause-asked
returns-in-Err-clause-asked g c =
    asked_one (g.F.Files.seen c.args.files.now).held c.args.name.now asked_to_compare (g.F.Files.seen c.args.files.now) (g.F.Files.seen c.open.new.files) (λ gone. let same = c.open.ensures.missing gone in omega (arith, same)) c.open.ensures.asked_of

pub returns-in-Ok-from_str-clause-asked : goal.returns-in-Ok-from_str-clause-asked
returns-in-Ok-from_str-clause-asked g c =
    asked_one (g.F.Files.seen c.args.files.now).held c.args.name.now asked_to_compare (g.F.Files.seen c.args.files.now) (g.F.Files.seen c.open.new.files) (λ gone. let same = c.open.ensures.missing gone in omega (arith, same)) c.open.ensures.asked_of

pub returns-in-Err-from_str-clause-asked : goal.returns-in-Err-from_str-clause-asked
returns-in-Err-from_str-clause-asked g c =
    asked_one (g.F.Files.seen c.args.files.now).held c.args.name.now asked_to_compare (g.F.Files.seen c.args.files.now) (g.F.Files.seen c.open.new.files) (λ gone. let same = c.open.ensures.missing gone in omega (arith, same)) c.open.ensures.asked_of
