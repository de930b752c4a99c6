use Rattle.std.proofs.Common.{◌≡◌, ◌+◌, length, Option, Err, sym, ◌∙◌, ap, subst, arith}
use Rattle.las_outside.specs.Files.{FileMap, WhereKnown, with_file}
use Rattle.las_outside.specs.Outside.{Outside}
use Rattle.std.specs.Prelude.{IsSome}
use Rattle.laz_reader.specs.Asking.{AsksAtMost, asked_to_open}
use Rattle.laz_forms.specs.Sizes.{points_size}
use Rattle.laz_forms.specs.Laws.{CanBePacked}
use Rattle.laz_forms.specs.Packing.{packed_file}
use Rattle.laz_file.proofs.Public.{packed_stands}
use Rattle.las_make.specs.declared.fault.MakeFault.{MakeFault}
use Rattle.las_make.specs.Making.{FailsMaking, with_made}
use Rattle.las_make.specs.Made.{made_file}
use Rattle.las_make.proofs.Ended.{form_whole, made_asked, made_known, packing_fails, size_asked, size_fails, size_is}
use Rattle.las_make.proofs.making.make.Given.{Over}
use Rattle.las_make.proofs.making.make.Goals.{After-pack_plain, In-Ok-pack_plain}
use Rattle.las_make.proofs.making.make.Goals as goal

pub pack_plain-requires-clause-accepted : goal.pack_plain-requires-clause-accepted
pack_plain-requires-clause-accepted g c κs within =
    let old = g.F.Files.seen c.args.files.now in
    subst (λ (h : Option FileMap). WhereKnown h c.args.plain.now (λ file. CanBePacked file c.args.chunk))
    (sym (ap (λ (o : Outside). o.held) c.in-Ok.ensures.written))
    (made_known c.args.settings c.requires.range c.args.plain.now c.args.packed.now c.args.chunk old.held
    c.requires.chunk)

pub returns-in-Err-pack_plain-clause-fails : goal.returns-in-Err-pack_plain-clause-fails
returns-in-Err-pack_plain-clause-fails g c =
    let old = g.F.Files.seen c.args.files.now in
    let new = g.F.Files.seen c.pack_plain.new.files in
    let h = c.in-Err-pack_plain.ensures in
    subst (λ (fault : MakeFault). FailsMaking c.args.plain.now c.args.packed.now c.args.settings c.args.chunk old new fault) (sym c.fault_of-in-Err-pack_plain.ensures)
    (packing_fails c.args.settings c.requires.range c.args.plain.now c.args.packed.now c.args.chunk old new
    (c.pack_plain.ensures.later.known ∙ c.write_plain.ensures.writes.later.known) (g.F.Files.seen c.write_plain.new.files)
    c.in-Err-pack_plain.fault c.in-Ok.ensures.written (h.ends, λ is. h.in_part (ap Err is)))

-- what stands when the plain file was packed, or could not be
module _ (g : Over) (c : After-pack_plain g) where
  most_asked : IsSome (g.F.Files.seen c.args.files.now).held
      → AsksAtMost (length (made_file c.args.settings)) (g.F.Files.seen c.write_plain.new.files)
      (g.F.Files.seen c.pack_plain.new.files)
  most_asked some =
      let mid = g.F.Files.seen c.write_plain.new.files in
      let new = g.F.Files.seen c.pack_plain.new.files in
      let plain = c.args.plain.now in
      made_asked c.args.settings c.requires.range plain (g.F.Files.seen c.args.files.now).held mid new
      (subst (λ (h : Option FileMap). WhereKnown h plain
      (λ file. AsksAtMost (asked_to_open file + points_size file) mid new))
      (ap (λ (o : Outside). o.held) c.in-Ok.ensures.written) c.pack_plain.ensures.asked) some

-- and when it was packed
module _ (g : Over) (c : In-Ok-pack_plain g) where
  whole : (g.F.Files.seen c.pack_plain.new.files).held
      ≡ with_made c.args.plain.now c.args.packed.now c.args.settings c.args.chunk
      (g.F.Files.seen c.args.files.now).held
  whole =
      let pre = g.F.Files.seen c.pack_plain.new.files in
      form_whole c.args.settings c.requires.range c.args.plain.now c.args.packed.now c.args.chunk
      (g.F.Files.seen c.args.files.now).held pre.held
      (c.pack_plain.ensures.later.known ∙ c.write_plain.ensures.writes.later.known)
      (subst (λ (o : Outside). WhereKnown o.held c.args.plain.now
      (λ file. pre.held ≡ with_file o.held c.args.packed.now (packed_file file c.args.chunk))) c.in-Ok.ensures.written
      (packed_stands c.args.packed.now c.args.chunk c.args.plain.now (g.F.Files.seen c.write_plain.new.files) pre
      (subst (λ (o : Outside). WhereKnown o.held c.args.plain.now (λ file. CanBePacked file c.args.chunk)) (sym c.in-Ok.ensures.written)
      (made_known c.args.settings c.requires.range c.args.plain.now c.args.packed.now c.args.chunk
      (g.F.Files.seen c.args.files.now).held c.requires.chunk)) c.in-Ok-pack_plain.ensures.ends.0))

pub returns-in-Ok-size-clause-made : goal.returns-in-Ok-size-clause-made
returns-in-Ok-size-clause-made g c =
    ap (λ (o : Outside). o.held) c.in-Ok-size.ensures.ok
    ∙ whole g (goal.at.returns-in-Ok-size-clause-made g c).In-Ok-pack_plain

pub returns-in-Ok-size-clause-packed_size : goal.returns-in-Ok-size-clause-packed_size
returns-in-Ok-size-clause-packed_size g c some =
    let k = (goal.at.returns-in-Ok-size-clause-packed_size g c).In-Ok-pack_plain in
    size_is c.args.settings c.requires.range c.args.plain.now c.args.packed.now c.args.chunk
    (g.F.Files.seen c.args.files.now).held (g.F.Files.seen c.pack_plain.new.files).held _ (whole g k)
    c.in-Ok-size.ensures.length some

pub returns-in-Err-size-clause-fails : goal.returns-in-Err-size-clause-fails
returns-in-Err-size-clause-fails g c =
    let k = (goal.at.returns-in-Err-size-clause-fails g c).In-Ok-pack_plain in
    size_fails c.args.settings c.requires.range c.args.plain.now c.args.packed.now c.args.chunk
    (g.F.Files.seen c.args.files.now) (g.F.Files.seen c.pack_plain.new.files) (g.F.Files.seen c.size.new.self)
    (whole g k)
    (c.in-Ok-pack_plain.ensures.ends.2.reads ∙ ap (λ (o : Outside). o.read_faults) c.in-Ok.ensures.written)
    c.in-Err-size.ensures.err

pub returns-in-Err-clause-asked : goal.returns-in-Err-clause-asked
returns-in-Err-clause-asked g c some = omega (arith, c.write_plain.ensures.writes.asked)

pub returns-in-Err-pack_plain-clause-asked : goal.returns-in-Err-pack_plain-clause-asked
returns-in-Err-pack_plain-clause-asked g c some =
    let k = (goal.at.returns-in-Err-pack_plain-clause-asked g c).After-pack_plain in
    omega (arith, c.write_plain.ensures.writes.asked, most_asked g k some)

pub returns-in-Ok-size-clause-asked : goal.returns-in-Ok-size-clause-asked
returns-in-Ok-size-clause-asked g c some =
    let k = (goal.at.returns-in-Ok-size-clause-asked g c).After-pack_plain in
    omega (
      arith,
      c.write_plain.ensures.writes.asked,
      most_asked g k some,
      ap (λ (o : Outside). o.asked) c.in-Ok-size.ensures.ok,
    )

pub returns-in-Err-size-clause-asked : goal.returns-in-Err-size-clause-asked
returns-in-Err-size-clause-asked g c some =
    let k = (goal.at.returns-in-Err-size-clause-asked g c).After-pack_plain in
    let pre = g.F.Files.seen c.pack_plain.new.files in
    omega (
      arith,
      c.write_plain.ensures.writes.asked,
      most_asked g k some,
      size_asked pre (g.F.Files.seen c.size.new.self) c.args.packed.now c.in-Err-size.ensures.err,
    )
