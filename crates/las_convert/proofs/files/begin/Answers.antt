use Rattle.laz_forms.specs.Outputs.{Output}
use Rattle.laz_writer.specs.Writing.{Stands, WriterSeen, new_output}
use Rattle.laz_forms.specs.declared.fault.Fault.{Fault}
use Rattle.laz_file.specs.Copying.{CanTake}
use Rattle.laz_reader.specs.Reading.{ReaderSeen, records_in}
use Rattle.las_outside.specs.Outside.{Outside}
use Rattle.std.proofs.Math.Nat.{mul-le-mul_left}
use Rattle.las_outside.proofs.Public.{only_writes-refl}
use Rattle.laz_forms.specs.declared.fault.Fault.TheVariants.{Memory}
use Rattle.std.proofs.lemmas.Result.{IfOk-from_err}
use Rattle.std.proofs.Common.{◌≡◌, ◌≤◌, false, sym, ◌∙◌, ap, ℕ, List, [], subst, true, IfOk, Err, Ok, Result, arith}
use Rattle.las_header.specs.Fields.{is_packed, points_of, record_length_of}
use Rattle.las_header.specs.Heads.{HeadView}
use Rattle.las_header.specs.Plain.{plain_of}
use Rattle.las_convert.proofs.Endings.{begin_left}
use Rattle.las_convert.proofs.files.begin.Goals as goal
use Rattle.laz_forms.proofs.Public.{plain_itself, if_err}

pub returns-then-packed-clause-left : goal.returns-then-packed-clause-left
returns-then-packed-clause-left g c =
    begin_left c.create.result (g.F.Files.seen c.args.files.now) (g.F.Files.seen c.create.new.files) c.args.reader.now c.args.output.now c.in_ok-plain.plain.bytes c.args.chunk (c.in_ok-plain.ensures.bytes ∙ ap (λ (h : HeadView). plain_of h.bytes) c.head-head.ensures) c.create.ensures.stopped

pub returns-clause-left : goal.returns-clause-left
returns-clause-left g c =
    let head = c.head-head.result.now.bytes in
    let plain : is_packed head ≡ false = sym c.packed.ensures ∙ c.if-packed.false in
    begin_left c.create-2.result (g.F.Files.seen c.args.files.now) (g.F.Files.seen c.create-2.new.files) c.args.reader.now c.args.output.now head c.args.chunk (plain_itself head plain ∙ ap (λ (h : HeadView). plain_of h.bytes) c.head-head.ensures) c.create-2.ensures.stopped

pub returns-in_err-plain-clause-stands : goal.returns-in_err-plain-clause-stands
returns-in_err-plain-clause-stands g c = IfOk-from_err c.from_residual.result _ c.from_residual.ensures.0

pub returns-in_err-plain-clause-can : goal.returns-in_err-plain-clause-can
returns-in_err-plain-clause-can g c = IfOk-from_err c.from_residual.result _ c.from_residual.ensures.0

pub returns-in_err-plain-clause-calm : goal.returns-in_err-plain-clause-calm
returns-in_err-plain-clause-calm g c = IfOk-from_err c.from_residual.result _ c.from_residual.ensures.0

pub returns-in_err-plain-clause-cause : goal.returns-in_err-plain-clause-cause
returns-in_err-plain-clause-cause g c = if_err _ c.from_residual.result Memory c.from_residual.ensures.1 tt

pub returns-in_err-plain-clause-writes : goal.returns-in_err-plain-clause-writes
returns-in_err-plain-clause-writes g c = only_writes-refl _

pub returns-then-packed-clause-stands : goal.returns-then-packed-clause-stands
returns-then-packed-clause-stands g c =
    let old = g.F.Files.seen c.args.files.now in
    let new = g.F.Files.seen c.create.new.files in
    let is = c.in_ok-plain.ensures.bytes ∙ ap (λ (h : HeadView). plain_of h.bytes) c.head-head.ensures in
    subst
    (λ (h : List ℕ). let out : Output = record {
      name = c.args.output.now;
      head = h;
      chunk = c.args.chunk;
      counted = true;
    } in
    IfOk c.create.result (λ writer. Stands old new writer out [])) is c.create.ensures.stands

pub returns-clause-stands : goal.returns-clause-stands
returns-clause-stands g c =
    let old = g.F.Files.seen c.args.files.now in
    let new = g.F.Files.seen c.create-2.new.files in
    let head = c.head-head.result.now.bytes in
    let plain : is_packed head ≡ false = sym c.packed.ensures ∙ c.if-packed.false in
    let is = plain_itself head plain ∙ ap (λ (h : HeadView). plain_of h.bytes) c.head-head.ensures in
    subst
    (λ (h : List ℕ). let out : Output = record {
      name = c.args.output.now;
      head = h;
      chunk = c.args.chunk;
      counted = true;
    } in
    IfOk c.create-2.result (λ writer. Stands old new writer out [])) is c.create-2.ensures.stands

-- A writer of an output under a head of this record length, for as many records as a reader has left, can take them.
can_take : (reader : ReaderSeen) (old new : Outside) (out : Output) (most : ℕ) (r : Result WriterSeen Fault)
    → record_length_of out.head ≡ record_length_of reader.head.bytes → records_in reader.left ≤ most
    → IfOk r (λ writer. writer.failed ≡ false) → IfOk r (λ writer. writer.most ≡ most)
    → IfOk r (λ writer. Stands old new writer out []) → IfOk r (CanTake reader)
can_take reader old new out most (Err fault) long few sound is stands = tt
can_take reader old new out most (Ok writer) long few sound is stands =
    let fits : records_in reader.left ≤ writer.most = omega (arith, few, is) in
    let more = mul-le-mul_left writer.size fits in
    record { sound = sound; size = stands.size ∙ long; room = omega (arith, stands.taken, more) }

pub returns-then-packed-clause-can : goal.returns-then-packed-clause-can
returns-then-packed-clause-can g c =
    let most : c.points-most.result ≡ points_of c.args.reader.now.head.bytes =
    c.points-most.ensures ∙ ap (λ (h : HeadView). points_of h.bytes) c.head-head.ensures in
    can_take c.args.reader.now _ _ (new_output c.args.output.now c.in_ok-plain.plain.bytes c.args.chunk true)
    c.points-most.result c.create.result
    (c.in_ok-plain.ensures.records.record_length ∙ ap (λ (h : HeadView). record_length_of h.bytes) c.head-head.ensures)
    (omega (arith, most, c.requires.whole.records, c.requires.whole.within))
    c.create.ensures.open c.create.ensures.most c.create.ensures.stands

pub returns-clause-can : goal.returns-clause-can
returns-clause-can g c =
    let most : c.points-most.result ≡ points_of c.args.reader.now.head.bytes =
    c.points-most.ensures ∙ ap (λ (h : HeadView). points_of h.bytes) c.head-head.ensures in
    can_take c.args.reader.now _ _ (new_output c.args.output.now c.head-head.result.now.bytes c.args.chunk true)
    c.points-most.result c.create-2.result
    (ap (λ (h : HeadView). record_length_of h.bytes) c.head-head.ensures)
    (omega (arith, most, c.requires.whole.records, c.requires.whole.within))
    c.create-2.ensures.open c.create-2.ensures.most c.create-2.ensures.stands
