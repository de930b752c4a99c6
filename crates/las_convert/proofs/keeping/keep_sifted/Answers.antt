use Rattle.std.proofs.Math.Nat.{mul-div-le}
use Rattle.std.proofs.lemmas.Result.{IfOk-from_err}
use Rattle.std.proofs.Common.{◌≡◌, ◌+◌, ◌*◌, ◌-◌, ◌/◌, ◌≤◌, ◌++◌, false, length, refl, sym, ◌∙◌, subst, ap, ℕ, List, arith}
use Rattle.las_filter.specs.Changes.{changed}
use Rattle.las_filter.specs.Kept.{steps_of}
use Rattle.las_header.specs.Plain.{cut_records}
use Rattle.las_thin.specs.Kept.{passing}
use Rattle.las_thin.specs.Placed.{Placed}
use Rattle.las_thin.specs.Sieving.{Settings, HasSifted}
use Rattle.las_convert.specs.Adding.{Adds, kept_by}
use Rattle.las_convert.specs.Passing.{passes_after}
use Rattle.las_convert.proofs.Adding.{adds_none}
use Rattle.las_convert.proofs.Cuts.{after_next, kept_dropped, kept_first, kept_more, kept_refused}
use Rattle.las_convert.proofs.Cuts.{next_dropped, next_kept, next_refused, none_yet, reached}
use Rattle.las_convert.proofs.Passing.{keeps_one_more, no_more, sieve_keeps}
use Rattle.las_convert.proofs.keeping.keep_sifted.Goals as goal
use Rattle.las_convert.proofs.keeping.keep_sifted.Goals.{After-split_at, In_ok-passes, then-branch+in-Ok, else-branch}
use Rattle.laz_forms.proofs.Public.{rest_next, block_fits}

-- what stands when the next record was cut off
module _ (c : After-split_at) where
  within : c.loop-turn.at ≤ length c.loop-turn.buffer
  within =
      let fits = block_fits c.args.size c.loop-turn._turn c.args.block.now c.requires.whole c.loop-turn-test.true in
      omega (arith, c.loop-turn.invariant.at, c.loop-turn.auto.buffer, fits, c.requires.room)

-- what stands when it was said whether it passes
module _ (c : In_ok-passes) (looked : List Placed) (before : List (List ℕ)) (is : length before ≡ c.args.read)
    (stands : HasSifted looked (passing (steps_of c.args.plan.now) before) c.args.sieve.now) where
  abbrev all : List (List ℕ)
  all = before ++ cut_records c.args.size c.loop-turn._turn c.args.block.now

  here : length all ≡ c.loop-turn.place
  here = reached before c.args.size c.loop-turn._turn c.args.block.now c.args.read c.loop-turn.place is
      c.loop-turn.invariant.place

  passes_is : passes_after c.args.sieve.now.settings looked (steps_of c.args.plan.now) all c.split_at.result.0.now
      ≡ c.in_ok-passes.field-0
  passes_is =
      let answer = c.in_ok-passes.ensures.answer looked all here
      (c.loop-turn.invariant.stands looked before is stands) in
      sym (ap
      (λ (s : Settings). passes_after s looked (steps_of c.args.plan.now) all c.split_at.result.0.now)
      c.loop-turn.invariant.settings) ∙ sym answer

pub loop-turn-init : goal.loop-turn-init
loop-turn-init c =
    let plan = steps_of c.args.plan.now in
    let settings = c.args.sieve.now.settings in
    record {
      rest = none_yet c.args.size c.args.block.now;
      at = omega arith;
      place = omega arith;
      settings = refl;
      kept = λ looked before is stands. kept_first (Adds (kept_by settings looked plan) before) c.args.size c.args.block.now c.args.buffer.now (adds_none (kept_by settings looked plan) before);
      stands = λ looked before is stands. no_more looked plan before c.args.sieve.now stands;
    }

pub passes-requires-clause-asked : goal.passes-requires-clause-asked
passes-requires-clause-asked c =
    let a = c.requires.asked in
    let t = c.loop-turn._turn in (
      a.0,
      a.1 ++ cut_records c.args.size t c.args.block.now,
      reached a.1 c.args.size t c.args.block.now c.args.read c.loop-turn.place a.2 c.loop-turn.invariant.place,
      c.loop-turn.invariant.stands a.0 a.1 a.2 a.3,
    )

pub returns-in-Err-clause-kept : goal.returns-in-Err-clause-kept
returns-in-Err-clause-kept c looked before is stands =
    let plan = steps_of c.args.plan.now in
    let settings = c.args.sieve.now.settings in
    let keeping = kept_by settings looked plan in
    let size = c.args.size in
    let block = c.args.block.now in
    let at = c.loop-turn.at in
    let t = c.loop-turn._turn in
    let n = length block / size in
    let point = c.split_at.result.0.now in
    let all = before ++ cut_records size t block in
    let passes = passes_is (goal.at.returns-in-Err-clause-kept c).In_ok-passes looked before is stands
    ∙ c.if-branch.true in
    kept_refused (Adds keeping before) size t at block c.loop-turn.buffer (c.loop-turn.invariant.kept looked before is stands) (at + size - at) n c.put_changed.new.place
    (λ ones adds. next_refused keeping before size t block c.loop-turn.rest.now point c.loop-turn.invariant.rest c.split_at.ensures.front (passes_after settings looked plan all point) (changed plan.changes point) (keeps_one_more settings looked plan all point) ones adds (sieve_keeps settings looked plan) n
    passes (c.in-Err.ensures.refused.0 refl) c.loop-turn-test.true)
    (within (goal.at.returns-in-Err-clause-kept c).After-split_at)

pub loop-turn-preserved : goal.loop-turn-preserved
loop-turn-preserved c =
    let plan = steps_of c.args.plan.now in
    let settings = c.args.sieve.now.settings in
    let size = c.args.size in
    let block = c.args.block.now in
    let at = c.loop-turn.at in
    let t = c.loop-turn._turn in
    let left = c.loop-turn.invariant.rest in
    let first = c.split_at.ensures.front in
    let point = c.split_at.result.0.now in
    let long : size * (t + 1) ≡ size * t + size = omega arith in
    let k = (goal.at.loop-turn-preserved c).In_ok-passes in
    record {
      rest = rest_next size t block c.loop-turn.rest.now c.split_at.result.1.now left c.split_at.ensures.back;
      at = elim c.if-branch.branch [ then-branch+in-Ok w ↦ omega (arith, long, w.at-is, c.loop-turn.invariant.at) | else-branch w ↦ omega (arith, long, w.at-is, c.loop-turn.invariant.at) ];
      place = omega (arith, c.loop-turn.invariant.place);
      settings = c.passes.ensures.settings ∙ c.loop-turn.invariant.settings;
      kept = λ looked before is stands.
          let keeping = kept_by settings looked plan in
          let so = c.loop-turn.invariant.kept looked before is stands in
          let all = before ++ cut_records size t block in
          let passes = passes_is k looked before is stands in
          let grow = keeps_one_more settings looked plan all point in
          elim c.if-branch.branch [
            | then-branch+in-Ok w ↦
                let new = w.put_changed.new.place in
                let size_is : length new ≡ size = w.put_changed.ensures.size ∙ c.split_at.ensures.front_len in
                kept_more (Adds keeping before) size t at block c.loop-turn.buffer so (at + size - at) new w.at-is w.buffer-is
                (λ ones adds. next_kept keeping before size t block c.loop-turn.rest.now point left first (passes_after settings looked plan all point) (changed plan.changes point) grow ones adds new (passes ∙ w.if-branch.true) w.in-Ok.ensures.made)
                size_is (within (goal.at.loop-turn-preserved c).After-split_at)
            | else-branch w ↦
                kept_dropped (Adds keeping before) size t at block c.loop-turn.buffer so w.at-is w.buffer-is
                (λ ones adds. next_dropped keeping before size t block c.loop-turn.rest.now point left first (passes_after settings looked plan all point) (changed plan.changes point) grow ones adds (passes ∙ w.if-branch.false))
          ];
      stands = λ looked before is stands.
          subst (λ (records : List (List ℕ)). HasSifted looked (passing plan records) c.passes.new.sieve)
          (after_next before size t block c.loop-turn.rest.now point left first)
          (c.in_ok-passes.ensures.stands looked (before ++ cut_records size t block) (here k looked before is stands)
          (c.loop-turn.invariant.stands looked before is stands));
    }

pub returns-clause-kept : goal.returns-clause-kept
returns-clause-kept c looked before is stands =
    let plan = steps_of c.args.plan.now in
    let keeping = kept_by c.args.sieve.now.settings looked plan in
    let so = c.loop-turn.invariant.kept looked before is stands in
    let end : c.loop-turn._turn ≡ length c.args.block.now / c.args.size = omega (arith, c.loop-turn-test.false, c.loop-turn.auto._turn-end) in
    (so.ones, so.bytes, so.size_is, subst (λ (k : ℕ). Adds keeping before (cut_records c.args.size k c.args.block.now) so.ones false) end so.adds)

pub returns-in_err-passes-clause-within : goal.returns-in_err-passes-clause-within
returns-in_err-passes-clause-within c = IfOk-from_err c.from_residual.result _ c.from_residual.ensures.0

pub returns-in_err-passes-clause-kept : goal.returns-in_err-passes-clause-kept
returns-in_err-passes-clause-kept c looked before is stands =
    IfOk-from_err c.from_residual.result _ c.from_residual.ensures.0

pub returns-in_err-passes-clause-stands : goal.returns-in_err-passes-clause-stands
returns-in_err-passes-clause-stands c looked before is stands =
    IfOk-from_err c.from_residual.result _ c.from_residual.ensures.0

pub returns-clause-stands : goal.returns-clause-stands
returns-clause-stands c looked before is stands = λ fine.
    let end : c.loop-turn._turn ≡ length c.args.block.now / c.args.size =
    omega (arith, c.loop-turn-test.false, c.loop-turn.auto._turn-end) in
    subst
    (λ (k : ℕ). HasSifted looked (passing (steps_of c.args.plan.now) (before ++ cut_records c.args.size k
    c.args.block.now)) c.loop-turn.sieve)
    end (c.loop-turn.invariant.stands looked before is stands)

pub returns-in-Err-clause-stands : goal.returns-in-Err-clause-stands
returns-in-Err-clause-stands c looked before is stands = λ no. cc

pub returns-clause-settings : goal.returns-clause-settings
returns-clause-settings c = c.loop-turn.invariant.settings

pub returns-in-Err-clause-settings : goal.returns-in-Err-clause-settings
returns-in-Err-clause-settings c = c.passes.ensures.settings ∙ c.loop-turn.invariant.settings

pub returns-in_err-passes-clause-settings : goal.returns-in_err-passes-clause-settings
returns-in_err-passes-clause-settings c = c.passes.ensures.settings ∙ c.loop-turn.invariant.settings

pub returns-clause-within : goal.returns-clause-within
returns-clause-within c =
    let end : c.loop-turn._turn ≡ length c.args.block.now / c.args.size =
    omega (arith, c.loop-turn-test.false, c.loop-turn.auto._turn-end) in
    let all : c.loop-turn.at ≤ c.args.size * (length c.args.block.now / c.args.size) =
    subst (λ (k : ℕ). c.loop-turn.at ≤ c.args.size * k) end c.loop-turn.invariant.at in
    omega (arith, all, mul-div-le (length c.args.block.now) c.args.size)

pub returns-in-Err-clause-within : goal.returns-in-Err-clause-within
returns-in-Err-clause-within c =
    let fits = block_fits c.args.size c.loop-turn._turn c.args.block.now c.requires.whole c.loop-turn-test.true in
    omega (arith, c.loop-turn.invariant.at, fits)
