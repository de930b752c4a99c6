use Rattle.std.proofs.lemmas.Result.{IfOk-from_err}
use Rattle.std.proofs.Common.{◌≡◌, ◌+◌, ◌-◌, ◌<◌, ◌≤◌, ◌∷◌, ◌∙◌, ℕ, suc, List, [], Option, Some, length, take, sym, ap, subst, length-append}
use Rattle.std.proofs.Common.{arith}
use Rattle.las_outside.specs.Files.{FileMap}
use Rattle.las_outside.specs.Outside.{Outside}
use Rattle.las_outside.proofs.Public.{calm-trans, only_reads-trans}
use Rattle.laz_forms.proofs.Public.{if_err}
use Rattle.std.specs.FinMap as finmap
use Rattle.las_merge.specs.Asking.{asked_of_all, asked_to_compare}
use Rattle.las_merge.specs.Inputs.{item_at, names_of}
use Rattle.las_merge.specs.Listing.{ListsChunks}
use Rattle.las_merge.specs.Opening.{InputSeen}
use Rattle.las_merge.proofs.Asked.{sum_next, sum_some}
use Rattle.las_merge.proofs.KeptPacked.{next_ends_packed}
use Rattle.las_merge.proofs.Listed.{list_packed}
use Rattle.las_merge.proofs.Opened.{name_at, open_more, within_names}
use Rattle.las_merge.proofs.listing.list_inputs.Given.{Over}
use Rattle.las_merge.proofs.listing.list_inputs.Goals.{After-list_next}
use Rattle.las_merge.proofs.listing.list_inputs.Goals as goal

pub list_next-requires-clause-lists : goal.list_next-requires-clause-lists
list_next-requires-clause-lists g c = (
  _,
  subst (λ (h : Option FileMap). ListsChunks h c.inputs.listed.inputs.items c.inputs.listed.sources.items
      c.inputs.listed.lists.many c.inputs.listed.lists.points.items c.inputs.listed.lists.bytes.items
      ((g.F.Files.seen c.inputs.files).asked - (g.F.Files.seen c.args.files.now).asked))
      (sym c.inputs.invariant.reads.held) c.inputs.invariant.lists,
)

-- what stands when the next input was listed, or could not be
module _ (g : Over) (c : After-list_next g) where
  abbrev start : Outside
  start = g.F.Files.seen c.args.files.now

  abbrev old : Outside
  old = g.F.Files.seen c.inputs.files

  abbrev new : Outside
  new = g.F.Files.seen c.list_next.new.files

  abbrev names : List (List ℕ)
  names = names_of c.args.names.now

  abbrev readers : List InputSeen
  readers = c.inputs.listed.inputs.items

  named : c.deref.result.now ≡ item_at names (length readers)
  named = subst (λ (k : ℕ). c.deref.result.now ≡ item_at names k) (sym c.inputs.invariant.count)
      (name_at c.args.names.now c.inputs.name-index c.name-item.result c.deref.result.now c.inputs-test.true
      c.name-item.is c.deref.ensures)

  within : length readers < length names
  within = omega (
    arith,
    within_names c.args.names.now c.inputs.name-index c.inputs-test.true,
    c.inputs.invariant.count,
  )

  asked_so_far : (known : FileMap) → start.held ≡ Some known
      → new.asked ≤ start.asked + asked_of_all asked_to_compare known (take (suc c.inputs.name-index) names)
  asked_so_far known is =
      let cost = λ (name : List ℕ). asked_to_compare (finmap.get known name) in
      let i = c.inputs.name-index in
      let here = c.list_next.ensures.asked known (c.inputs.invariant.reads.held ∙ is) in
      let at : c.deref.result.now ≡ item_at names i = name_at c.args.names.now i c.name-item.result c.deref.result.now
      c.inputs-test.true c.name-item.is c.deref.ensures in
      omega (
        arith,
        c.inputs.invariant.asked known is,
        here,
        ap cost at,
        sum_next cost names i (within_names c.args.names.now i c.inputs-test.true),
      )

pub returns-in_err-list_next-clause-asked : goal.returns-in_err-list_next-clause-asked
returns-in_err-list_next-clause-asked g c known is =
    let k = (goal.at.returns-in_err-list_next-clause-asked g c).After-list_next in
    let cost = λ (name : List ℕ). asked_to_compare (finmap.get known name) in
    omega (arith, asked_so_far g k known is, sum_some cost (names g k) (suc c.inputs.name-index))

pub returns-clause-asked : goal.returns-clause-asked
returns-clause-asked g c known is =
    omega (
      arith,
      c.inputs.invariant.asked known is,
      sum_some
          (λ (name : List ℕ). asked_to_compare (finmap.get known name)) (names_of c.args.names.now) c.inputs.name-index,
    )

pub returns-in_err-list_next-clause-ends : goal.returns-in_err-list_next-clause-ends
returns-in_err-list_next-clause-ends g c =
    let k = (goal.at.returns-in_err-list_next-clause-ends g c).After-list_next in
    if_err _ c.from_residual.result _ c.from_residual.ensures.1
    (next_ends_packed (names g k) (readers g k) c.deref.result.now (start g k) (old g k) (new g k)
    c.inputs.invariant.opened (list_packed (start g k).held _ _ _ _ _ _ c.inputs.invariant.lists) (within g k)
    (named g k) c.inputs.invariant.reads.held c.inputs.invariant.calm.reads c.in_err-list_next.field-0.0
    c.in_err-list_next.ensures.ends)

pub inputs-preserved : goal.inputs-preserved
inputs-preserved g c =
    let k = (goal.at.inputs-preserved g c).After-list_next in
    let start = start g k in
    let old = old g k in
    let new = new g k in
    let more = c.in_ok-list_next.ensures.next in
    let listed = c.list_next.new.listed in
    let was = c.inputs.listed in
    let before = subst (λ (h : Option FileMap). ListsChunks h was.inputs.items was.sources.items was.lists.many
    was.lists.points.items was.lists.bytes.items (old.asked - start.asked)) (sym c.inputs.invariant.reads.held)
    c.inputs.invariant.lists in
    let spent : old.asked - start.asked + (new.asked - old.asked) ≡ new.asked - start.asked =
    omega (arith, c.inputs.invariant.reads.later.asked, c.list_next.ensures.reads.later.asked) in
    record {
      opened = open_more start.held old.held (names g k) c.deref.result.now (readers g k) listed.inputs.items more.0
          c.inputs.invariant.opened (within g k) (named g k) c.inputs.invariant.reads.held more.1 more.2;
      lists = subst (λ (h : Option FileMap). ListsChunks h listed.inputs.items listed.sources.items listed.lists.many
          listed.lists.points.items listed.lists.bytes.items (new.asked - start.asked)) c.inputs.invariant.reads.held
          (subst (λ (n : ℕ). ListsChunks old.held listed.inputs.items listed.sources.items listed.lists.many
          listed.lists.points.items listed.lists.bytes.items n) spent
          (c.in_ok-list_next.ensures.lists (old.asked - start.asked) before));
      count = omega (
        arith,
        ap (λ (rs : List InputSeen). length rs) more.2,
        length-append (readers g k) (more.0 ∷ []),
        c.inputs.invariant.count,
      );
      reads = only_reads-trans start old new c.inputs.invariant.reads c.list_next.ensures.reads;
      calm = calm-trans start old new c.inputs.invariant.calm c.in_ok-list_next.ensures.calm;
      asked = λ known is.
          let one : c.inputs.name-index + 1 ≡ suc c.inputs.name-index = omega arith in
          omega (
            arith,
            asked_so_far g k known is,
            ap (λ (m : ℕ). asked_of_all asked_to_compare known (take m (names g k))) one,
          );
    }

pub returns-in_err-list_next-clause-opened : goal.returns-in_err-list_next-clause-opened
returns-in_err-list_next-clause-opened g c = IfOk-from_err c.from_residual.result _ c.from_residual.ensures.0

pub returns-in_err-list_next-clause-lists : goal.returns-in_err-list_next-clause-lists
returns-in_err-list_next-clause-lists g c = IfOk-from_err c.from_residual.result _ c.from_residual.ensures.0

pub returns-in_err-list_next-clause-all : goal.returns-in_err-list_next-clause-all
returns-in_err-list_next-clause-all g c = IfOk-from_err c.from_residual.result _ c.from_residual.ensures.0

pub returns-in_err-list_next-clause-calm : goal.returns-in_err-list_next-clause-calm
returns-in_err-list_next-clause-calm g c = IfOk-from_err c.from_residual.result _ c.from_residual.ensures.0

pub returns-in_err-list_next-clause-calm_kept : goal.returns-in_err-list_next-clause-calm_kept
returns-in_err-list_next-clause-calm_kept g c =
    let k = (goal.at.returns-in_err-list_next-clause-calm_kept g c).After-list_next in
    if_err _ c.from_residual.result _ c.from_residual.ensures.1
    (λ no. calm-trans (start g k) (old g k) (new g k) c.inputs.invariant.calm (c.in_err-list_next.ensures.calm_kept no))
