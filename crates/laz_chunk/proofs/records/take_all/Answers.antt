use Rattle.std.proofs.Common.{◌≡◌, ℕ, ◌*◌, [], length, refl, sym, ap, subst, ◌∙◌, arith, rules}
use Rattle.std.proofs.lemmas.Result.{err_from_is_err_and}
use Rattle.laz_range.specs.Choice.{AreAsked, all_cuts, state_after}
use Rattle.laz_range.specs.Decoding.{Refuses, Takes}
use Rattle.laz_range.proofs.Public.{Takes-start, Refuses-step}
use Rattle.laz_chunk.specs.Layouts.{Layout, record_length}
use Rattle.laz_chunk.specs.Records.{record_at, records_in}
use Rattle.laz_chunk.specs.declared.items.Items.{Items}
use Rattle.laz_chunk.specs.Stands.{items_of, layout_in}
use Rattle.laz_chunk.specs.Chunks.{History, IsSpelled, grown, record_cuts}
use Rattle.laz_chunk.proofs.Lists.{records-set}
use Rattle.laz_integer.proofs.Public.{place-is, place-within}
use Rattle.laz_chunk.proofs.Steps.{ReadsRecord, part-length, part_within, take-step}
use Rattle.laz_chunk.proofs.records.take_all.Goals as goal

pub loop-i-init : goal.loop-i-init
loop-i-init g c =
    let items : Items = items_of c.args.point10.now (g.T.TimePart.item c.args.times.now) (g.C.ColourPart.item c.args.colours.now) c.args.extra.now in
    record {
      good = c.requires.good;
      layout = refl;
      long = refl;
      reads = λ h s. ([], Takes-start grown (IsSpelled (layout_in items)) record_cuts h c.args.decoder.now c.requires.within c.requires.good, refl, s);
    }

pub read_record-requires-clause-whole : goal.read_record-requires-clause-whole
read_record-requires-clause-whole g c =
    let items : Items = items_of c.args.point10.now (g.T.TimePart.item c.args.times.now) (g.C.ColourPart.item c.args.colours.now) c.args.extra.now in
    part-length c.loop-i.i c.args.extent.count c.args.extent.size (record_length (layout_in items)) c.loop-i.records c.requires.size (c.loop-i.invariant.long ∙ c.requires.records) c.loop-i-test.true ∙ ap record_length (sym c.loop-i.invariant.layout)

pub read_record-requires-clause-good : goal.read_record-requires-clause-good
read_record-requires-clause-good g c = c.loop-i.invariant.good

pub returns-in_err-read_record-clause-reads : goal.returns-in_err-read_record-clause-reads
returns-in_err-read_record-clause-reads g c h s =
    let items : Items = items_of c.args.point10.now (g.T.TimePart.item c.args.times.now) (g.C.ColourPart.item c.args.colours.now) c.args.extra.now in
    let p = err_from_is_err_and c.from_residual.result c.from_residual.ensures.1 in
    let l : Layout = layout_in items in
    let old = c.loop-i.invariant.reads h s in
    let h2 : History = state_after grown h old.0 in
    let none = subst (λ (k : Layout). Refuses (IsSpelled k h2) (record_cuts h2) c.loop-i.decoder c.read_record.new.decoder) c.loop-i.invariant.layout (c.in_err-read_record.ensures.reads h2 old.3) in
    rw p.1 (Refuses-step grown (IsSpelled l) record_cuts h h2 c.loop-i.i c.args.extent.count c.args.decoder.now c.loop-i.decoder c.read_record.new.decoder old.0 refl c.loop-i-test.true old.1 none)

pub loop-i-preserved : goal.loop-i-preserved
loop-i-preserved g c =
    let items : Items = items_of c.args.point10.now (g.T.TimePart.item c.args.times.now) (g.C.ColourPart.item c.args.colours.now) c.args.extra.now in
    let inv = c.loop-i.invariant in
    let l : Layout = layout_in items in
    let i : ℕ = c.loop-i.i in
    let m : ℕ = record_length l in
    let place : i * c.args.extent.size ≡ m * i = ap (λ (n : ℕ). i * n) c.requires.size ∙ place-is i m in
    let within = place-within i c.args.extent.count m c.loop-i-test.true in
    let own = part-length i c.args.extent.count c.args.extent.size m c.loop-i.records c.requires.size (inv.long ∙ c.requires.records) c.loop-i-test.true in
    record {
      good = c.in_ok-read_record.ensures.good;
      layout = c.in_ok-read_record.ensures.layout ∙ inv.layout;
      long = search rules;
      reads = λ h s.
          let old = inv.reads h s in
          let h2 : History = state_after grown h old.0 in
          let one = subst (λ (k : Layout). ReadsRecord k h2 (record_at k c.read_record.new.bytes) (items_of c.read_record.new.point10 (g.T.TimePart.item c.read_record.new.times) (g.C.ColourPart.item c.read_record.new.colours) c.read_record.new.extra) c.loop-i.decoder c.read_record.new.decoder) inv.layout (c.in_ok-read_record.ensures.reads h2 old.3) in
          take-step l h i old.0 (records_in l i c.loop-i.records) _ (record_at l c.read_record.new.bytes) (items_of c.read_record.new.point10 (g.T.TimePart.item c.read_record.new.times) (g.C.ColourPart.item c.read_record.new.colours) c.read_record.new.extra) c.args.decoder.now c.loop-i.decoder c.read_record.new.decoder old.1 old.2
          (records-set l i (i * c.args.extent.size) _ c.loop-i.records c.read_record.new.bytes (c.in_ok-read_record.ensures.whole ∙ own) place (omega (arith, within, place, inv.long, c.requires.records, place-is i m)))
          one;
    }

pub returns-clause-reads : goal.returns-clause-reads
returns-clause-reads g c h s =
    let items : Items = items_of c.args.point10.now (g.T.TimePart.item c.args.times.now) (g.C.ColourPart.item c.args.colours.now) c.args.extra.now in
    let l : Layout = layout_in items in
    let old = c.loop-i.invariant.reads h s in
    let all : c.loop-i.i ≡ c.args.extent.count = omega (arith, c.loop-i-test.false, c.loop-i.auto.i-end) in (
      old.0,
      subst (λ (n : ℕ). Takes (AreAsked grown (IsSpelled l) h n) (all_cuts grown record_cuts h) c.args.decoder.now c.loop-i.decoder old.0) all old.1,
      old.2 ∙ ap (λ (n : ℕ). records_in l n c.loop-i.records) all,
    )

pub overflow_mul-at : goal.overflow_mul-at
overflow_mul-at g c =
    let items : Items = items_of c.args.point10.now (g.T.TimePart.item c.args.times.now) (g.C.ColourPart.item c.args.colours.now) c.args.extra.now in
    let within = part_within c.loop-i.i c.args.extent.count c.args.extent.size (record_length (layout_in items)) (length c.loop-i.records) c.requires.size (c.loop-i.invariant.long ∙ c.requires.records) c.loop-i-test.true in
    omega (arith, within)

pub overflow_add-at : goal.overflow_add-at
overflow_add-at g c =
    let items : Items = items_of c.args.point10.now (g.T.TimePart.item c.args.times.now) (g.C.ColourPart.item c.args.colours.now) c.args.extra.now in
    let within = part_within c.loop-i.i c.args.extent.count c.args.extent.size (record_length (layout_in items)) (length c.loop-i.records) c.requires.size (c.loop-i.invariant.long ∙ c.requires.records) c.loop-i-test.true in
    omega (arith, within)

pub slice_bounds-read_record-end : goal.slice_bounds-read_record-end
slice_bounds-read_record-end g c =
    let items : Items = items_of c.args.point10.now (g.T.TimePart.item c.args.times.now) (g.C.ColourPart.item c.args.colours.now) c.args.extra.now in
    part_within c.loop-i.i c.args.extent.count c.args.extent.size (record_length (layout_in items)) (length c.loop-i.records) c.requires.size (c.loop-i.invariant.long ∙ c.requires.records) c.loop-i-test.true

pub returns-clause-good : goal.returns-clause-good
returns-clause-good g c = c.loop-i.invariant.good

pub returns-clause-layout : goal.returns-clause-layout
returns-clause-layout g c = c.loop-i.invariant.layout

pub returns-clause-records : goal.returns-clause-records
returns-clause-records g c = c.loop-i.invariant.long

pub returns-in_err-read_record-clause-layout : goal.returns-in_err-read_record-clause-layout
returns-in_err-read_record-clause-layout g c = c.in_err-read_record.ensures.layout ∙ c.loop-i.invariant.layout
