use Rattle.std.proofs.Common.{◌≡◌, ℕ, ◌+◌, ◌*◌, ◌≤◌, length, refl, sym, ap, subst, ◌∙◌, arith}
use Rattle.laz_range.specs.Choice.{all_cuts, state_after}
use Rattle.laz_range.specs.Coding.{CodesInSteps}
use Rattle.laz_range.specs.Span.{Span}
use Rattle.laz_range.proofs.Public.{CodesInSteps-none}
use Rattle.laz_chunk.specs.Layouts.{Layout, most_events, record_length}
use Rattle.laz_chunk.specs.Records.{records_in}
use Rattle.laz_chunk.specs.declared.items.Items.{Items}
use Rattle.laz_chunk.specs.Stands.{AreChunkPoints, ItemsStand, items_of, layout_in}
use Rattle.laz_chunk.specs.Chunks.{History, grown, record_cuts, written}
use Rattle.laz_integer.proofs.Public.{place-within}
use Rattle.laz_chunk.proofs.Steps.{Stand, part, part-length, part_within, put-more, put-step}
use Rattle.laz_chunk.proofs.records.put_all.Goals as goal

pub code_record-requires-clause-whole : goal.code_record-requires-clause-whole
code_record-requires-clause-whole g c =
    let items : Items = items_of c.args.point10.now (g.T.TimePart.item c.args.times.now) (g.C.ColourPart.item c.args.colours.now) c.args.extra.now in
    part-length c.loop-i.i c.args.packed.count c.args.packed.size (record_length (layout_in items)) c.args.records.now c.requires.size c.requires.records c.loop-i-test.true ∙ ap record_length (sym c.loop-i.invariant.layout)

pub keep_left-requires : goal.keep_left-requires
keep_left-requires g c =
    let items : Items = items_of c.args.point10.now (g.T.TimePart.item c.args.times.now) (g.C.ColourPart.item c.args.colours.now) c.args.extra.now in
    let r : ℕ = 3 * most_events (layout_in items) in
    omega (arith, c.requires.most, c.loop-i.invariant.left, place-within c.loop-i.i c.args.packed.count r c.loop-i-test.true)

pub code_record-requires-clause-left : goal.code_record-requires-clause-left
code_record-requires-clause-left g c =
    let items : Items = items_of c.args.point10.now (g.T.TimePart.item c.args.times.now) (g.C.ColourPart.item c.args.colours.now) c.args.extra.now in
    let few : 3 * most_events (layout_in items) ≤ c.keep_left.new.self.left = omega (arith, c.requires.most, c.keep_left.ensures.left) in
    subst (λ (l : Layout). 3 * most_events l ≤ c.keep_left.new.self.left) (sym c.loop-i.invariant.layout) few

pub loop-i-preserved : goal.loop-i-preserved
loop-i-preserved g c =
    let items : Items = items_of c.args.point10.now (g.T.TimePart.item c.args.times.now) (g.C.ColourPart.item c.args.colours.now) c.args.extra.now in
    let old = c.loop-i.invariant in
    let l : Layout = layout_in items in
    let used : c.keep_left.new.self.left ≤ c.code_record.new.encoder.left + 3 * most_events l = subst (λ (k : Layout). c.keep_left.new.self.left ≤ c.code_record.new.encoder.left + 3 * most_events k) old.layout c.code_record.ensures.used in
    let step : (h : History) → AreChunkPoints l.extra h.1 → ItemsStand h.0 h.1 items → CodesInSteps c.args.encoder.now c.code_record.new.encoder (all_cuts grown record_cuts h (written l h (records_in l (c.loop-i.i + 1) c.args.records.now))) × Stand l (state_after grown h (written l h (records_in l (c.loop-i.i + 1) c.args.records.now))) (items_of c.code_record.new.point10 (g.T.TimePart.item c.code_record.new.times) (g.C.ColourPart.item c.code_record.new.colours) c.code_record.new.extra) = λ h are s.
    put-step l (layout_in (items_of c.loop-i.point10 (g.T.TimePart.item c.loop-i.times) (g.C.ColourPart.item c.loop-i.colours) c.loop-i.extra)) h c.loop-i.i c.args.packed.count c.args.packed.size c.args.records.now (items_of c.loop-i.point10 (g.T.TimePart.item c.loop-i.times) (g.C.ColourPart.item c.loop-i.colours) c.loop-i.extra) (items_of c.code_record.new.point10 (g.T.TimePart.item c.code_record.new.times) (g.C.ColourPart.item c.code_record.new.colours) c.code_record.new.extra) c.args.encoder.now c.loop-i.encoder c.keep_left.new.self c.code_record.new.encoder old.layout c.requires.size c.requires.records c.loop-i-test.true
    (λ i. (c.type_inv.records i).fits)
    (old.codes h are s)
    c.keep_left.ensures.codes
    (old.stands h are s)
    (λ g' fit k. (c.code_record.ensures.codes g' fit k, c.code_record.ensures.stands g' fit k)) in
    let some = c.requires.stands in
    let more : c.code_record.new.encoder.more ≡ c.keep_left.new.self.more =
    put-more l (layout_in (items_of c.loop-i.point10 (g.T.TimePart.item c.loop-i.times) (g.C.ColourPart.item c.loop-i.colours) c.loop-i.extra)) (state_after grown some.history (written l some.history (records_in l c.loop-i.i c.args.records.now))) (part c.loop-i.i c.args.packed.size c.args.records.now) (items_of c.loop-i.point10 (g.T.TimePart.item c.loop-i.times) (g.C.ColourPart.item c.loop-i.colours) c.loop-i.extra) (items_of c.code_record.new.point10 (g.T.TimePart.item c.code_record.new.times) (g.C.ColourPart.item c.code_record.new.colours) c.code_record.new.extra) c.keep_left.new.self c.code_record.new.encoder old.layout (old.stands some.history some.points some.stand)
    (λ g' fit k. (c.code_record.ensures.codes g' fit k, c.code_record.ensures.stands g' fit k)) in
    record {
      layout = c.code_record.ensures.layout ∙ old.layout;
      left = omega (arith, old.left, used, more, c.keep_left.ensures.codes.room, ap (λ (s : Span). s.shifts) c.keep_left.ensures.codes.span);
      codes = λ h are s. (step h are s).0;
      stands = λ h are s. (step h are s).1;
    }

pub loop-i-init : goal.loop-i-init
loop-i-init g c = record {
  layout = refl;
  left = omega arith;
  codes = λ h are s. CodesInSteps-none c.args.encoder.now;
  stands = λ h are s. (are, s);
}

pub overflow_mul-at : goal.overflow_mul-at
overflow_mul-at g c =
    let items : Items = items_of c.args.point10.now (g.T.TimePart.item c.args.times.now) (g.C.ColourPart.item c.args.colours.now) c.args.extra.now in
    let within = part_within c.loop-i.i c.args.packed.count c.args.packed.size (record_length (layout_in items)) (length c.args.records.now) c.requires.size c.requires.records c.loop-i-test.true in
    omega (arith, within)

pub overflow_add-at : goal.overflow_add-at
overflow_add-at g c =
    let items : Items = items_of c.args.point10.now (g.T.TimePart.item c.args.times.now) (g.C.ColourPart.item c.args.colours.now) c.args.extra.now in
    let within = part_within c.loop-i.i c.args.packed.count c.args.packed.size (record_length (layout_in items)) (length c.args.records.now) c.requires.size c.requires.records c.loop-i-test.true in
    omega (arith, within)

pub slice_bounds-code_record-end : goal.slice_bounds-code_record-end
slice_bounds-code_record-end g c =
    let items : Items = items_of c.args.point10.now (g.T.TimePart.item c.args.times.now) (g.C.ColourPart.item c.args.colours.now) c.args.extra.now in
    part_within c.loop-i.i c.args.packed.count c.args.packed.size (record_length (layout_in items)) (length c.args.records.now) c.requires.size c.requires.records c.loop-i-test.true

pub returns-clause-codes : goal.returns-clause-codes
returns-clause-codes g c h are s =
    let items : Items = items_of c.args.point10.now (g.T.TimePart.item c.args.times.now) (g.C.ColourPart.item c.args.colours.now) c.args.extra.now in
    let l : Layout = layout_in items in
    let all : c.loop-i.i ≡ c.args.packed.count = omega (arith, c.loop-i-test.false, c.loop-i.auto.i-end) in
    subst (λ (n : ℕ). CodesInSteps c.args.encoder.now c.loop-i.encoder (all_cuts grown record_cuts h (written l h (records_in l n c.args.records.now)))) all (c.loop-i.invariant.codes h are s)
