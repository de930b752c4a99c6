use Rattle.std.proofs.Common.{◌≡◌, ℕ, List, drop, Option, is_some, Err, sym, ◌∙◌, ap, subst}
use Rattle.las_header.specs.declared.refusal.Refusal.TheVariants.{StrayVlr}
use Rattle.las_header.specs.Fields.{point_offset_of}
use Rattle.las_outside.specs.Files.{FileMap, WhereKnown}
use Rattle.laz_file.specs.Copying.{LeavesInPart, Packs, packed_output}
use Rattle.laz_file.specs.Endings.{EndsMaking}
use Rattle.laz_file.proofs.Public.{ends_err}
use Rattle.las_make.proofs.Reread.{asks_opening, asks_reading, open_fails, packed_unknown, unread}
use Rattle.las_make.proofs.Since.{ends_since}
use Rattle.las_make.proofs.packing.pack_plain.Goals as goal

pub returns-in_err-reader-clause-ends : goal.returns-in_err-reader-clause-ends
returns-in_err-reader-clause-ends g c =
    let old = g.F.Files.seen c.args.files.now in
    let new = g.F.Files.seen c.open.new.files in
    ends_err (Packs c.args.packed.now c.args.chunk) c.args.plain.now old new (Unit {0}) c.from_residual.result c.in_err-reader.field-0.0 c.from_residual.ensures.1
    (open_fails c.args.plain.now c.args.packed.now c.args.chunk old new c.requires.accepted c.open.ensures.reads.held c.in_err-reader.field-0.0 c.in_err-reader.ensures.ends (λ cause is. c.in_err-reader.ensures.refused cause (ap Err is)))

pub returns-in_err-reader-clause-in_part : goal.returns-in_err-reader-clause-in_part
returns-in_err-reader-clause-in_part g c is = unread c.args.plain.now c.args.packed.now c.args.chunk (g.F.Files.seen c.args.files.now) (g.F.Files.seen c.open.new.files) c.requires.accepted c.open.ensures.reads.held

pub returns-then-is_some-clause-ends : goal.returns-then-is_some-clause-ends
returns-then-is_some-clause-ends g c =
    packed_unknown c.args.plain.now c.args.packed.now c.args.chunk (g.F.Files.seen c.args.files.now) (g.F.Files.seen c.open.new.files) c.requires.accepted c.open.ensures.reads.held c.in_ok-reader.reader StrayVlr
    (ap is_some (sym c.chunk.ensures) ∙ sym c.is_some.ensures ∙ c.if-is_some.true) c.in_ok-reader.ensures.stands

pub returns-clause-ends : goal.returns-clause-ends
returns-clause-ends g c =
    let mid = g.F.Files.seen c.open.new.files in
    let new = g.F.Files.seen c.pack.new.files in
    let Makes = Packs c.args.packed.now c.args.chunk in
    ends_since Makes c.args.plain.now new (g.F.Files.seen c.args.files.now) mid c.open.ensures.reads.held c.in_ok-reader.ensures.calm c.pack.result
    (subst (λ (name : List ℕ). EndsMaking Makes name mid new c.pack.result) c.in_ok-reader.ensures.fresh.named c.pack.ensures.ends)

pub returns-clause-in_part : goal.returns-clause-in_part
returns-clause-in_part g c is =
    let mid = g.F.Files.seen c.open.new.files in
    let new = g.F.Files.seen c.pack.new.files in
    let Part = λ (held : Option FileMap) (name : List ℕ). WhereKnown held name (λ file. LeavesInPart (packed_output c.args.packed.now file c.args.chunk) (drop (point_offset_of file) file) held new.held) in
    subst (λ (h : Option FileMap). Part h c.args.plain.now) c.open.ensures.reads.held
    (subst (Part mid.held) c.in_ok-reader.ensures.fresh.named (c.pack.ensures.in_part is))

pub returns-in_err-reader-clause-asked : goal.returns-in_err-reader-clause-asked
returns-in_err-reader-clause-asked g c = asks_opening c.args.plain.now c.args.chunk (g.F.Files.seen c.args.files.now) c.requires.accepted (g.F.Files.seen c.open.new.files) c.open.ensures.asked_of

pub returns-then-is_some-clause-asked : goal.returns-then-is_some-clause-asked
returns-then-is_some-clause-asked g c = asks_opening c.args.plain.now c.args.chunk (g.F.Files.seen c.args.files.now) c.requires.accepted (g.F.Files.seen c.open.new.files) c.open.ensures.asked_of

pub returns-clause-asked : goal.returns-clause-asked
returns-clause-asked g c =
    asks_reading c.args.plain.now c.args.chunk (g.F.Files.seen c.args.files.now) c.requires.accepted c.in_ok-reader.reader (g.F.Files.seen c.open.new.files) (g.F.Files.seen c.pack.new.files) c.in_ok-reader.ensures.fresh.whole c.in_ok-reader.ensures.stands c.open.ensures.asked_of c.pack.ensures.frame.asked
