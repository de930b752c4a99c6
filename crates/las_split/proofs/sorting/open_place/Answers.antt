use Rattle.std.proofs.Common.{◌≡◌, inl, inr, ℕ, ◌<◌, ◌^◌, List, ◌++◌, ◌∷◌, [], append_assoc, length, map, slice_get, refl, sym, ◌∙◌, ap, subst, arith}
use Rattle.laz_writer.specs.Writing.{WriterSeen}
use Rattle.las_split.specs.declared.limits.TheConstants.{MAX_PARTS}
use Rattle.las_split.specs.Sorting.{InParts, bytes_at, task_in}
use Rattle.las_split.proofs.Placing.{at_end, in_new, leaves_here, left_new, text_new, too_many}
use Rattle.las_split.proofs.Standing.{writers_length}
use Rattle.las_split.proofs.sorting.open_place.Given.{Over}
use Rattle.las_split.proofs.sorting.open_place.Goals.{After-open}
use Rattle.las_split.proofs.sorting.open_place.Goals as goal
use Rattle.las_outside.proofs.Public.{on_err}

pub returns-then-place-ge-MAX_PARTS-clause-opened : goal.returns-then-place-ge-MAX_PARTS-clause-opened
returns-then-place-ge-MAX_PARTS-clause-opened g c was opened written more point i is whole =
    let task = task_in c.args.splitter.now in (
      i,
      too_many task was (g.F.Files.seen c.args.files.now).held c.args.parts.now.numbers c.args.parts.now.writers.items opened written i more whole point c.args.number is c.requires.other (omega (arith, c.if-place-ge-MAX_PARTS.true, c.len-place.ensures)),
      refl,
      refl,
    )

module _ (g : Over) (c : After-open g) where
  small : c.args.number < 2 ^ 32
  small = omega (arith, c.ranges.number.fits)

  room : length c.args.parts.now.writers.items < MAX_PARTS
  room = omega (arith, c.if-place-ge-MAX_PARTS.false, c.len-place.ensures)

pub returns-in_err-open-clause-left : goal.returns-in_err-open-clause-left
returns-in_err-open-clause-left g c was opened written more point i is whole =
    let k = (goal.at.returns-in_err-open-clause-left g c).After-open in
    on_err c.from_residual.result
    (elim c.in_err-open.ensures.left [
      | inl same ↦ inl (leaves_here _ _ _ _ _ opened written i more whole _ same)
      | inr part ↦ inr (left_new _ _ _ _ _ opened written i more whole point c.args.number is
          c.requires.other (room g k) (small g k) _ part.0 part.1)
    ])

pub returns-clause-opened : goal.returns-clause-opened
returns-clause-opened g c was opened written more point i is whole =
    let k = (goal.at.returns-clause-opened g c).After-open in
    let task = task_in c.args.splitter.now in
    let old = g.F.Files.seen c.args.files.now in
    let new = g.F.Files.seen c.open.new.files in
    let ns = c.args.parts.now.numbers in
    let many = opened ++ point ∷ [] in
    let e = c.in_ok-open.ensures in
    let p = e.writers in
    let both = in_new _ _ _ _ _ opened written i more whole point c.args.number is c.requires.other (room g k)
    (small g k) old new p.0 refl p.2 p.3 p.4 in
    let same = writers_length task (bytes_at task written) ns c.args.parts.now.writers.items i.writers_are in
    let place : c.len-place.result ≡ length ns = omega (arith, c.len-place.ensures, same) in (
      subst (λ (ms : List ℕ). InParts task was new.held ms c.open.new.self.writers.items many written) (sym e.numbers)
          (subst (λ (vs : List WriterSeen). InParts task was new.held (ns ++ c.args.number ∷ []) vs many written)
          (sym {A = List WriterSeen} p.1) both),
      ap (λ (ms : List ℕ). slice_get ms c.len-place.result) e.numbers ∙ ap (slice_get (ns ++ c.args.number ∷ [])) place
          ∙ at_end ns c.args.number,
    )

pub returns-clause-gathered : goal.returns-clause-gathered
returns-clause-gathered g c text is none =
    c.in_ok-open-2.ensures
    ∙ ap (λ (ts : List (List ℕ)). ts ++ [] ∷ []) c.open.ensures.gathered
    ∙ text_new text c.args.parts.now.numbers c.args.number c.args.parts.now.gathered none is
    ∙ ap (λ (ms : List ℕ). map text ms) (sym c.in_ok-open.ensures.numbers)

pub returns-in_err-open-2-clause-left : goal.returns-in_err-open-2-clause-left
returns-in_err-open-2-clause-left g c was opened written more point i is whole =
    let k = (goal.at.returns-in_err-open-2-clause-left g c).After-open in
    let old = g.F.Files.seen c.args.files.now in
    let new = g.F.Files.seen c.open.new.files in
    let p = c.in_ok-open.ensures.writers in
    let both = in_new _ _ _ _ _ opened written i more whole point c.args.number is c.requires.other (room g k)
    (small g k) old new p.0 refl p.2 p.3 p.4 in
    on_err c.from_residual-in_err-open-2.result
    (inr
    (leaves_here _ _ _ _ _ (opened ++ point ∷ []) written both (more ++ point ∷ [])
    (ap (λ (t : List (List ℕ)). t ++ point ∷ []) whole ∙ append_assoc written more (point ∷ [])) _ refl))
