use Rattle.std.proofs.Common.{◌≡◌, ◌+◌, ◌*◌, ◌-◌, ◌/◌, ◌≤◌, ◌++◌, length, refl, sym, ◌∙◌, arith}
use Rattle.las_filter.specs.Filters.{keeps_all}
use Rattle.las_filter.specs.Changes.{changed}
use Rattle.las_filter.specs.Kept.{kept, steps_of}
use Rattle.las_filter.proofs.Public.{grows}
use Rattle.las_header.specs.Plain.{cut_records}
use Rattle.las_convert.specs.Adding.{AddsAlways}
use Rattle.las_convert.proofs.Adding.{adds_none, plan_keeps}
use Rattle.las_convert.proofs.Cuts.{kept_dropped, kept_first, kept_more, kept_refused}
use Rattle.las_convert.proofs.Cuts.{next_dropped, next_kept, next_refused, none_yet}
use Rattle.las_convert.proofs.keeping.keep_sized.Goals as goal
use Rattle.las_convert.proofs.keeping.keep_sized.Goals.{After-split_at, then-keeps+in-Ok, else-keeps}
use Rattle.laz_forms.proofs.Public.{rest_next, block_fits}

-- what stands when the next record was cut off
module _ (c : After-split_at) where
  within : c.loop-turn.at ≤ length c.loop-turn.buffer
  within =
      let fits = block_fits c.args.size c.loop-turn._turn c.args.block.now c.requires.whole c.loop-turn-test.true in
      omega (arith, c.loop-turn.invariant.at, c.loop-turn.auto.buffer, fits, c.requires.room)

pub loop-turn-init : goal.loop-turn-init
loop-turn-init c = record {
  rest = none_yet c.args.size c.args.block.now;
  at = omega arith;
  kept = kept_first (AddsAlways (steps_of c.args.plan.now)) c.args.size c.args.block.now c.args.buffer.now (λ before. adds_none (kept (steps_of c.args.plan.now)) before);
}

pub returns-in-Err-clause-kept : goal.returns-in-Err-clause-kept
returns-in-Err-clause-kept c =
    let plan = steps_of c.args.plan.now in
    let size = c.args.size in
    let block = c.args.block.now in
    let at = c.loop-turn.at in
    let t = c.loop-turn._turn in
    let n = length block / size in
    let point = c.split_at.result.0.now in
    kept_refused (AddsAlways plan) size t at block c.loop-turn.buffer c.loop-turn.invariant.kept (at + size - at) n c.put_changed.new.place
    (λ ones adds before. next_refused (kept plan) before size t block c.loop-turn.rest.now point c.loop-turn.invariant.rest c.split_at.ensures.front (keeps_all plan.keeps point) (changed plan.changes point) (grows plan (before ++ cut_records size t block) point) ones (adds before) (plan_keeps plan) n
    (sym c.if-keeps.ensures) (c.in-Err.ensures.refused.0 refl) c.loop-turn-test.true)
    (within (goal.at.returns-in-Err-clause-kept c).After-split_at)

pub loop-turn-preserved : goal.loop-turn-preserved
loop-turn-preserved c =
    let plan = steps_of c.args.plan.now in
    let size = c.args.size in
    let block = c.args.block.now in
    let at = c.loop-turn.at in
    let t = c.loop-turn._turn in
    let so = c.loop-turn.invariant.kept in
    let left = c.loop-turn.invariant.rest in
    let first = c.split_at.ensures.front in
    let point = c.split_at.result.0.now in
    let long : size * (t + 1) ≡ size * t + size = omega arith in
    record {
      rest = rest_next size t block c.loop-turn.rest.now c.split_at.result.1.now left c.split_at.ensures.back;
      at = elim c.if-keeps.branch [ then-keeps+in-Ok w ↦ omega (arith, long, w.at-is, c.loop-turn.invariant.at) | else-keeps w ↦ omega (arith, long, w.at-is, c.loop-turn.invariant.at) ];
      kept = elim c.if-keeps.branch [
        | then-keeps+in-Ok w ↦
            let new = w.put_changed.new.place in
            let size_is : length new ≡ size = w.put_changed.ensures.size ∙ c.split_at.ensures.front_len in
            kept_more (AddsAlways plan) size t at block c.loop-turn.buffer so (at + size - at) new w.at-is w.buffer-is
            (λ ones adds before. next_kept (kept plan) before size t block c.loop-turn.rest.now point left first (keeps_all plan.keeps point) (changed plan.changes point) (grows plan (before ++ cut_records size t block) point) ones (adds before) new (sym w.if-keeps.ensures) w.in-Ok.ensures.made)
            size_is (within (goal.at.loop-turn-preserved c).After-split_at)
        | else-keeps w ↦
            kept_dropped (AddsAlways plan) size t at block c.loop-turn.buffer so w.at-is w.buffer-is
            (λ ones adds before. next_dropped (kept plan) before size t block c.loop-turn.rest.now point left first (keeps_all plan.keeps point) (changed plan.changes point) (grows plan (before ++ cut_records size t block) point) ones (adds before) (sym c.keeps.ensures ∙ w.if-keeps.false))
      ];
    }
