use Rattle.std.proofs.Common.{◌≡◌, ℕ, zero, suc, ◌+◌, ◌-◌, ◌*◌, ◌/◌, ◌<◌, ◌≤◌, List, ◌++◌, All, Some, drop, length, length-append, length-set, refl, sym, ◌∙◌, ap, subst, arith}
use Rattle.std.proofs.lemmas.List.{take_all}
use Rattle.las_header.specs.declared.counts.Counts.{Counts}
use Rattle.las_header.specs.Plain.{cut_records}
use Rattle.las_header.proofs.Public.{left_first, left_next, cut_length}
use Rattle.las_points.specs.Record.{return_number_of}
use Rattle.las_info.specs.declared.extents.Extents.{Extents}
use Rattle.las_info.proofs.Running.{RunOf, Running, running_all, running_none, running_one, summary_of_run}
use Rattle.las_info.proofs.Tallying.{few_but_first, few_counted, few_first}
use Rattle.las_info.proofs.summary.summed.Goals.{then-count-eq1, else-count-eq1}
use Rattle.las_info.proofs.summary.summed.Goals as goal

-- a product is at least its first factor, or twice that
at_least : (a k : ℕ) → 0 < k → a ≤ a * k
at_least a zero h = absurd (omega arith)
at_least a (suc k) h = let all : a * suc k ≡ a + a * k = omega arith in omega (arith, all)

twice : (a k : ℕ) → 1 < k → a + a ≤ a * k
twice a zero h = absurd (omega arith)
twice a (suc k) h = let all : a * suc k ≡ a + a * k = omega arith in omega (arith, all, at_least a k (omega arith))

pub split_at-requires : goal.split_at-requires
split_at-requires c =
    let n = length c.args.block.now / c.args.size in
    omega (arith, c.loop-pair.invariant.left, at_least c.args.size (n - 2 * c.loop-pair._pair) (omega (arith, c.loop-pair-test.true)))

pub split_at-requires-in-loop-pair : goal.split_at-requires-in-loop-pair
split_at-requires-in-loop-pair c =
    let n = length c.args.block.now / c.args.size in
    omega (arith, c.loop-pair.invariant.left, c.split_at.ensures.back_len, twice c.args.size (n - 2 * c.loop-pair._pair) (omega (arith, c.loop-pair-test.true)))

pub count_first-requires-clause-long : goal.count_first-requires-clause-long
count_first-requires-clause-long c = omega (arith, c.requires.size, c.split_at.ensures.front_len)

pub count_first-requires-clause-room : goal.count_first-requires-clause-room
count_first-requires-clause-room c k d lt = omega (arith, c.loop-pair.invariant.few k d lt, c.requires.fewer, c.loop-pair-test.true)

pub count_second-requires-clause-long : goal.count_second-requires-clause-long
count_second-requires-clause-long c = omega (arith, c.requires.size, c.split_at-in-loop-pair.ensures.front_len)

pub count_second-requires-clause-room : goal.count_second-requires-clause-room
count_second-requires-clause-room c k d lt =
    let most = c.args.counts.points + 2 * c.loop-pair._pair in
    let one = subst (λ (s : List ℕ). All (λ m. m ≤ most + 1) s) (sym c.count_first.ensures)
    (few_counted c.loop-pair.returns (return_number_of c.split_at.result.0.now) most c.loop-pair.invariant.few) in
    omega (arith, one k d lt, c.requires.fewer, c.loop-pair-test.true)

pub widen-requires : goal.widen-requires
widen-requires c = omega (arith, c.requires.size, c.split_at.ensures.front_len)

pub widen-requires-in-loop-pair : goal.widen-requires-in-loop-pair
widen-requires-in-loop-pair c = omega (arith, c.requires.size, c.split_at-in-loop-pair.ensures.front_len)

pub count_first-requires-then-count-eq1-clause-long : goal.count_first-requires-then-count-eq1-clause-long
count_first-requires-then-count-eq1-clause-long c =
    let n = length c.args.block.now / c.args.size in
    omega (arith, c.requires.size, c.loop-pair.invariant.left, at_least c.args.size (n - 2 * c.loop-pair._pair) (omega (arith, c.if-count-eq1.true, c.loop-pair-test.false)))

pub count_first-requires-then-count-eq1-clause-room : goal.count_first-requires-then-count-eq1-clause-room
count_first-requires-then-count-eq1-clause-room c k d lt = omega (arith, c.loop-pair.invariant.few k d lt, c.requires.fewer, c.if-count-eq1.true, c.loop-pair-test.false)

pub widen-requires-then-count-eq1 : goal.widen-requires-then-count-eq1
widen-requires-then-count-eq1 c =
    let n = length c.args.block.now / c.args.size in
    omega (arith, c.requires.size, c.loop-pair.invariant.left, at_least c.args.size (n - 2 * c.loop-pair._pair) (omega (arith, c.if-count-eq1.true, c.loop-pair-test.false)))

pub loop-pair-init : goal.loop-pair-init
loop-pair-init c = record {
  number = refl;
  left = left_first c.args.size c.args.block.now c.requires.whole;
  long = omega (arith, ap length c.of-returns.ensures);
  few = subst (λ (s : List ℕ). All (λ n. n ≤ c.args.counts.points + 0) s) (sym c.of-returns.ensures) (few_first c.args.counts.points c.args.counts.returns c.requires.within);
  run = λ before are. running_none c.args.size (length c.args.block.now / c.args.size) c.args.block.now before c.of-returns.result c.of-bounds.result are;
}

pub loop-pair-preserved : goal.loop-pair-preserved
loop-pair-preserved c =
    let size = c.args.size in
    let block = c.args.block.now in
    let n = length block / size in
    let t = 2 * c.loop-pair._pair in
    let most = c.args.counts.points + t in
    let point = c.split_at.result.0.now in
    let others = c.split_at.result.1.now in
    let other = c.split_at-in-loop-pair.result.0.now in
    let further = c.split_at-in-loop-pair.result.1.now in
    let returns = c.loop-pair.returns in
    let first = c.count_first.new.self in
    let second = c.count_second.new.self in
    let more : t + 1 < n = omega (arith, c.loop-pair-test.true) in
    let next : t + 1 + 1 ≡ 2 * (c.loop-pair._pair + 1) = omega arith in
    let long : length first ≡ 8 = omega (arith, ap length c.count_first.ensures, length-set {A = ℕ}, c.loop-pair.invariant.long) in
    record {
      number = refl;
      left = left_next size n (t + 1) others further more c.split_at-in-loop-pair.ensures.back
          (left_next size n t c.loop-pair.rest.now others (omega (arith, more)) c.split_at.ensures.back c.loop-pair.invariant.left)
          ∙ ap (λ (k : ℕ). size * (n - k)) next;
      long = omega (arith, ap length c.count_second.ensures, length-set {A = ℕ}, long);
      few =
          let one = subst (λ (s : List ℕ). All (λ m. m ≤ most + 1) s) (sym c.count_first.ensures) (few_counted returns (return_number_of point) most c.loop-pair.invariant.few) in
          let two = subst (λ (s : List ℕ). All (λ m. m ≤ most + 1 + 1) s) (sym c.count_second.ensures) (few_counted first (return_number_of other) (most + 1) one) in
          λ k d lt. omega (arith, two k d lt);
      run = λ before are.
          let one = running_one size n t block c.loop-pair.rest.now point others before returns first c.loop-pair.bounds c.widen.new.self
          (omega (arith, more)) c.split_at.ensures.front c.split_at.ensures.back c.loop-pair.invariant.long (c.loop-pair.invariant.run before are) c.count_first.ensures c.widen.ensures in
          let two = running_one size n (t + 1) block others other further before first second c.widen.new.self c.widen-in-loop-pair.new.self
          more c.split_at-in-loop-pair.ensures.front c.split_at-in-loop-pair.ensures.back long one c.count_second.ensures c.widen-in-loop-pair.ensures in
          subst (λ (k : ℕ). Running size n k block further before second c.widen-in-loop-pair.new.self) next two;
    }

pub total-requires : goal.total-requires
total-requires c =
    let n = length c.args.block.now / c.args.size in
    let points = c.args.counts.points in
    let t = 2 * c.loop-pair._pair in
    let few : All (λ m. m ≤ points + n) c.if-count-eq1.returns =
    elim c.if-count-eq1.branch [
      | then-count-eq1 w ↦
          let one = few_counted c.loop-pair.returns (return_number_of c.loop-pair.rest.now) (points + t) c.loop-pair.invariant.few in
          let all : points + t + 1 ≡ points + n = omega (arith, w.if-count-eq1, c.loop-pair-test.false) in
          subst (λ (k : ℕ). All (λ m. m ≤ k) c.if-count-eq1.returns) all
          (subst (λ (s : List ℕ). All (λ m. m ≤ points + t + 1) s) (sym (w.returns-is ∙ w.count_first-then-count-eq1.ensures)) one)
      | else-count-eq1 w ↦
          let all : points + t ≡ points + n = omega (arith, w.if-count-eq1, c.loop-pair-test.false) in
          subst (λ (k : ℕ). All (λ m. m ≤ k) c.if-count-eq1.returns) all
          (subst (λ (s : List ℕ). All (λ m. m ≤ points + t) s) (sym w.returns-is) c.loop-pair.invariant.few)
    ] in
    λ k d lt. omega (arith, few k d lt, c.requires.fewer)

pub returns-clause-within : goal.returns-clause-within
returns-clause-within c =
    let n = length c.args.block.now / c.args.size in
    let points = c.args.counts.points in
    let t = 2 * c.loop-pair._pair in
    let few : All (λ m. m ≤ points + n) c.if-count-eq1.returns =
    elim c.if-count-eq1.branch [
      | then-count-eq1 w ↦
          let one = few_counted c.loop-pair.returns (return_number_of c.loop-pair.rest.now) (points + t) c.loop-pair.invariant.few in
          let all : points + t + 1 ≡ points + n = omega (arith, w.if-count-eq1, c.loop-pair-test.false) in
          subst (λ (k : ℕ). All (λ m. m ≤ k) c.if-count-eq1.returns) all
          (subst (λ (s : List ℕ). All (λ m. m ≤ points + t + 1) s) (sym (w.returns-is ∙ w.count_first-then-count-eq1.ensures)) one)
      | else-count-eq1 w ↦
          let all : points + t ≡ points + n = omega (arith, w.if-count-eq1, c.loop-pair-test.false) in
          subst (λ (k : ℕ). All (λ m. m ≤ k) c.if-count-eq1.returns) all
          (subst (λ (s : List ℕ). All (λ m. m ≤ points + t) s) (sym w.returns-is) c.loop-pair.invariant.few)
    ] in
    subst (λ (s : List ℕ). All (λ m. m ≤ points + n) s) (sym c.total.ensures) (few_but_first (points + n) c.if-count-eq1.returns few)

pub returns-clause-list : goal.returns-clause-list
returns-clause-list c records counted extended =
    let size = c.args.size in
    let block = c.args.block.now in
    let rest = c.loop-pair.rest.now in
    let n = length block / size in
    let t = 2 * c.loop-pair._pair in
    let are : RunOf records c.of-returns.result c.of-bounds.result = record {
      counted = ap (λ (s : List ℕ). drop 1 s) c.of-returns.ensures ∙ ap (λ (x : Counts). x.returns) counted;
      extended = ap (λ (e : Extents). Some e) c.of-bounds.ensures ∙ extended;
    } in
    let run : RunOf (records ++ cut_records size n block) c.if-count-eq1.returns c.if-count-eq1.bounds =
    elim c.if-count-eq1.branch [
      | then-count-eq1 w ↦
          let more : t < n = omega (arith, w.if-count-eq1, c.loop-pair-test.false) in
          let one : n - t ≡ 1 = omega (arith, w.if-count-eq1, c.loop-pair-test.false) in
          let last : length rest ≤ size = omega (arith, c.loop-pair.invariant.left ∙ ap (λ (k : ℕ). size * k) one) in
          let step = running_one size n t block rest rest (drop size rest) records c.loop-pair.returns w.count_first-then-count-eq1.new.self c.loop-pair.bounds w.widen-then-count-eq1.new.self
          more (sym (take_all size rest last)) refl c.loop-pair.invariant.long (c.loop-pair.invariant.run records are)
          w.count_first-then-count-eq1.ensures w.widen-then-count-eq1.ensures in
          let end = running_all size n (t + 1) block (drop size rest) records w.count_first-then-count-eq1.new.self w.widen-then-count-eq1.new.self (omega (arith, one)) step in
          record {
            counted = ap (λ (s : List ℕ). drop 1 s) w.returns-is ∙ end.counted;
            extended = ap (λ (e : Extents). Some e) w.bounds-is ∙ end.extended;
          }
      | else-count-eq1 w ↦
          let end = running_all size n t block rest records c.loop-pair.returns c.loop-pair.bounds (omega (arith, w.if-count-eq1, c.loop-pair-test.false)) (c.loop-pair.invariant.run records are) in
          record {
            counted = ap (λ (s : List ℕ). drop 1 s) w.returns-is ∙ end.counted;
            extended = ap (λ (e : Extents). Some e) w.bounds-is ∙ end.extended;
          }
    ] in
    let all = records ++ cut_records size n block in
    let long : c.args.counts.points + n ≡ length all =
    omega (arith, ap (λ (x : Counts). x.points) counted, length-append records (cut_records size n block), cut_length size n block) in
    summary_of_run all (c.args.counts.points + n) c.if-count-eq1.returns c.total.result c.if-count-eq1.bounds run long c.total.ensures
    ∙ ap (λ (e : Extents). record { counts = record { points = c.args.counts.points + n; returns = c.total.result }; extents = Some e }) (sym c.extents.ensures)
