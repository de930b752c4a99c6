use Rattle.std.proofs.lemmas.Result.{IfOk-from_err}
use Rattle.std.proofs.Common.{◌≡◌, ◌+◌, ◌<◌, ◌≤◌, ◌∷◌, ℕ, suc, List, [], Some, length, take, sym, ◌∙◌, ap, subst}
use Rattle.std.proofs.Common.{length-append, arith}
use Rattle.las_outside.specs.Files.{FileMap}
use Rattle.las_outside.specs.Outside.{Outside}
use Rattle.las_outside.proofs.Public.{calm-trans, only_reads-trans}
use Rattle.laz_forms.proofs.Public.{if_err}
use Rattle.std.specs.FinMap as finmap
use Rattle.las_merge.specs.Asking.{asked_of_all, asked_to_compare}
use Rattle.las_merge.specs.Inputs.{item_at, names_of}
use Rattle.las_merge.specs.Opening.{InputSeen}
use Rattle.las_merge.proofs.Asked.{sum_next, sum_some}
use Rattle.las_merge.proofs.Opened.{name_at, next_ends, open_more, within_names}
use Rattle.las_merge.proofs.opening.open_inputs.Given.{Over}
use Rattle.las_merge.proofs.opening.open_inputs.Goals.{After-open_next}
use Rattle.las_merge.proofs.opening.open_inputs.Goals as goal

-- what stands when the next input was opened, or could not be
module _ (g : Over) (c : After-open_next g) where
  abbrev start : Outside
  start = g.F.Files.seen c.args.files.now

  abbrev old : Outside
  old = g.F.Files.seen c.inputs.files

  abbrev new : Outside
  new = g.F.Files.seen c.open_next.new.files

  abbrev names : List (List ℕ)
  names = names_of c.args.names.now

  abbrev readers : List InputSeen
  readers = c.inputs.inputs.items

  abbrev i : ℕ
  i = c.inputs.name-index

  named : c.deref.result.now ≡ item_at names i
  named = name_at c.args.names.now i c.name-item.result c.deref.result.now c.inputs-test.true c.name-item.is
      c.deref.ensures

  within : i < length names
  within = within_names c.args.names.now i c.inputs-test.true

  next_named : c.deref.result.now ≡ item_at names (length readers)
  next_named = subst (λ (k : ℕ). c.deref.result.now ≡ item_at names k) (sym c.inputs.invariant.count) named

  next_within : length readers < length names
  next_within = omega (arith, within, c.inputs.invariant.count)

  asked_so_far : (known : FileMap) → start.held ≡ Some known
      → new.asked ≤ start.asked + asked_of_all asked_to_compare known (take (suc i) names)
  asked_so_far known is =
      let cost = λ (name : List ℕ). asked_to_compare (finmap.get known name) in
      let here = c.open_next.ensures.asked known (c.inputs.invariant.reads.held ∙ is) in
      omega (arith, c.inputs.invariant.asked known is, here, ap cost named, sum_next cost names i within)

pub returns-in_err-open_next-clause-ends : goal.returns-in_err-open_next-clause-ends
returns-in_err-open_next-clause-ends g c =
    let k = (goal.at.returns-in_err-open_next-clause-ends g c).After-open_next in
    if_err _ c.from_residual.result _ c.from_residual.ensures.1
    (next_ends (names g k) (readers g k) c.deref.result.now (start g k) (old g k) (new g k) c.inputs.invariant.opened
    (next_within g k) (next_named g k) c.inputs.invariant.reads.held c.inputs.invariant.calm.reads
    c.in_err-open_next.field-0.0 c.in_err-open_next.ensures.ends)

pub inputs-preserved : goal.inputs-preserved
inputs-preserved g c =
    let k = (goal.at.inputs-preserved g c).After-open_next in
    let more = c.in_ok-open_next.ensures.opened in
    record {
      opened = open_more (start g k).held (old g k).held (names g k) c.deref.result.now (readers g k) _ more.0
          c.inputs.invariant.opened (next_within g k) (next_named g k) c.inputs.invariant.reads.held more.1 more.2;
      count = omega (
        arith,
        ap (λ (rs : List InputSeen). length rs) more.2,
        length-append (readers g k) (more.0 ∷ []),
        c.inputs.invariant.count,
      );
      reads = only_reads-trans (start g k) (old g k) (new g k) c.inputs.invariant.reads c.open_next.ensures.reads;
      calm = calm-trans (start g k) (old g k) (new g k) c.inputs.invariant.calm c.in_ok-open_next.ensures.calm;
      asked = λ known is.
          let one : i g k + 1 ≡ suc (i g k) = omega arith in
          omega (
            arith,
            asked_so_far g k known is,
            ap (λ (m : ℕ). asked_of_all asked_to_compare known (take m (names g k))) one,
          );
    }

pub returns-in_err-open_next-clause-asked : goal.returns-in_err-open_next-clause-asked
returns-in_err-open_next-clause-asked g c known is =
    let k = (goal.at.returns-in_err-open_next-clause-asked g c).After-open_next in
    let cost = λ (name : List ℕ). asked_to_compare (finmap.get known name) in
    omega (arith, asked_so_far g k known is, sum_some cost (names g k) (suc (i g k)))

pub returns-clause-asked : goal.returns-clause-asked
returns-clause-asked g c known is =
    omega (
      arith,
      c.inputs.invariant.asked known is,
      sum_some
          (λ (name : List ℕ). asked_to_compare (finmap.get known name)) (names_of c.args.names.now) c.inputs.name-index,
    )

pub returns-in_err-open_next-clause-opened : goal.returns-in_err-open_next-clause-opened
returns-in_err-open_next-clause-opened g c = IfOk-from_err c.from_residual.result _ c.from_residual.ensures.0

pub returns-in_err-open_next-clause-all : goal.returns-in_err-open_next-clause-all
returns-in_err-open_next-clause-all g c = IfOk-from_err c.from_residual.result _ c.from_residual.ensures.0

pub returns-in_err-open_next-clause-calm : goal.returns-in_err-open_next-clause-calm
returns-in_err-open_next-clause-calm g c = IfOk-from_err c.from_residual.result _ c.from_residual.ensures.0
