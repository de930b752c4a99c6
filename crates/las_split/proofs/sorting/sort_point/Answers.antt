use Rattle.laz_forms.proofs.Public.{if_err}
use Rattle.las_outside.proofs.Public.{on_err}
use Rattle.std.proofs.lemmas.Result.{IfOk-from_err}
use Rattle.std.proofs.Common.{◌≡◌, inr, ℕ, ◌+◌, List, Option, ◌++◌, ◌∷◌, [], length, refl, sym, true, subst, append_assoc, arith}
use Rattle.las_outside.specs.Files.{FileMap}
use Rattle.las_split.specs.Sorting.{AreGathered, SortsPoint, SplitTask, task_in, part_bytes_of}
use Rattle.las_split.specs.Steps.{AreIn, OpensOrRefuses}
use Rattle.las_split.proofs.Placing.{leaves_here}
use Rattle.las_split.proofs.SortingPoints.{no_record, number_here, place_within, sorts_none, sorts_one}
use Rattle.las_split.proofs.sorting.sort_point.Given.{Over}
use Rattle.las_split.proofs.sorting.sort_point.Goals.{In_ok-found}
use Rattle.las_split.proofs.sorting.sort_point.Goals as goal

-- what stands when the part of the record was looked for
module _ (g : Over) (c : In_ok-found g) (was : Option FileMap) (records block : List (List ℕ))
    (i : AreIn (task_in c.args.splitter.now) was (g.F.Files.seen c.args.files.now).held c.args.parts.now
    (records ++ block) records)
    (s : AreGathered (task_in c.args.splitter.now) c.args.parts.now.numbers c.args.parts.now.gathered records block)
    (at : c.args.index ≡ length records + length block) where
  abbrev task : SplitTask
  task = task_in c.args.splitter.now

  opened : OpensOrRefuses task was (g.F.Files.seen c.place_of.new.files).held c.args.parts.now c.place_of.new.parts
      (records ++ block) records c.part_of-number.result c.args.point.now c.in_ok-found.found
  opened =
      c.in_ok-found.ensures.opened was (records ++ block) records block c.args.point.now i
      (number_here _ _ _ _ _ _ records block i s c.args.index c.args.point.now c.part_of-number.result at
      c.part_of-number.ensures) refl

  gathered : AreGathered task c.place_of.new.parts.numbers c.place_of.new.parts.gathered records block
  gathered =
      c.in_ok-found.ensures.gathered (part_bytes_of task records block) s
      (no_record _ _ _ _ _ _ records block i s c.part_of-number.result)

pub returns-in_default-clause-sorts : goal.returns-in_default-clause-sorts
returns-in_default-clause-sorts g c was records block both at =
    let k = (goal.at.returns-in_default-clause-sorts g c).In_ok-found in
    let e = opened g k was records block both.0 both.1 at in
    let m = rw c.in_default.is at e in
    sorts_none _ _ _ _ _ _ records block both.0 both.1 c.args.index c.args.point.now c.part_of-number.result at
    c.part_of-number.ensures _ _ _ _ m.0 m.1 m.2 m.3

pub add-requires : goal.add-requires
add-requires g c =
    let k = (goal.at.add-requires g c).In_ok-found in
    let q = c.requires.parts in
    let n = c.place_of.new.parts in
    let e = opened g k q.0 q.1 q.2 q.3.0 q.3.1 q.4 in
    let m = rw c.in-Some.is at e in
    let are = gathered g k q.0 q.1 q.2 q.3.0 q.3.1 q.4 in
    omega (arith, place_within n.gathered _ n.numbers c.in-Some.place c.part_of-number.result are m.1)

pub returns-in-Ok-clause-sorts : goal.returns-in-Ok-clause-sorts
returns-in-Ok-clause-sorts g c was records block both at =
    let k = (goal.at.returns-in-Ok-clause-sorts g c).In_ok-found in
    let n = c.place_of.new.parts in
    let e = opened g k was records block both.0 both.1 at in
    let m = rw c.in-Some.is at e in
    subst
    (λ (t : List (List ℕ)). SortsPoint (task_in c.args.splitter.now) was (g.F.Files.seen c.place_of.new.files).held
    n.numbers n.writers.items t records block c.args.point.now true) (sym c.in-Ok.ensures)
    (sorts_one _ _ _ _ _ _ records block both.0 both.1 c.args.index c.args.point.now c.part_of-number.result at
    c.part_of-number.ensures _ _ _ n.gathered c.in-Some.place m.0 m.1 (gathered g k was records block both.0 both.1 at))

pub returns-in-Err-clause-left : goal.returns-in-Err-clause-left
returns-in-Err-clause-left g c was records block both at =
    let k = (goal.at.returns-in-Err-clause-left g c).In_ok-found in
    let one = c.args.point.now ∷ [] in
    let e = opened g k was records block both.0 both.1 at in
    let m = rw c.in-Some.is at e in
    inr
    (leaves_here _ _ _ _ _ ((records ++ block) ++ one) records m.0 (block ++ one) (append_assoc records block one) _
    refl)

pub returns-in_err-found-clause-sorts : goal.returns-in_err-found-clause-sorts
returns-in_err-found-clause-sorts g c was records block both at =
    IfOk-from_err c.from_residual.result _ c.from_residual.ensures.0

pub returns-in_err-found-clause-left : goal.returns-in_err-found-clause-left
returns-in_err-found-clause-left g c was records block both at =
    on_err c.from_residual.result
    (c.in_err-found.ensures.left was (records ++ block) records block c.args.point.now both.0
    (number_here _ _ _ _ _ _ records block both.0 both.1 c.args.index c.args.point.now c.part_of-number.result at
    c.part_of-number.ensures) refl)

pub returns-in_err-found-clause-cause : goal.returns-in_err-found-clause-cause
returns-in_err-found-clause-cause g c =
    if_err _ c.from_residual.result _ c.from_residual.ensures.1 c.in_err-found.ensures.cause

pub returns-in_err-found-clause-calm : goal.returns-in_err-found-clause-calm
returns-in_err-found-clause-calm g c = IfOk-from_err c.from_residual.result _ c.from_residual.ensures.0

pub returns-in_err-found-clause-writes : goal.returns-in_err-found-clause-writes
returns-in_err-found-clause-writes g c = c.place_of.ensures.writes

pub returns-in_default-clause-calm : goal.returns-in_default-clause-calm
returns-in_default-clause-calm g c = c.in_ok-found.ensures.calm

pub returns-in_default-clause-writes : goal.returns-in_default-clause-writes
returns-in_default-clause-writes g c = c.place_of.ensures.writes

pub returns-in-Ok-clause-calm : goal.returns-in-Ok-clause-calm
returns-in-Ok-clause-calm g c = c.in_ok-found.ensures.calm

pub returns-in-Ok-clause-writes : goal.returns-in-Ok-clause-writes
returns-in-Ok-clause-writes g c = c.place_of.ensures.writes

pub returns-in-Err-clause-writes : goal.returns-in-Err-clause-writes
returns-in-Err-clause-writes g c = c.place_of.ensures.writes
