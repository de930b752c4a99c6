use Rattle.std.proofs.Common.{◌≡◌, ℕ, List, Err, refl, sym, ◌∙◌, ap, subst}
use Rattle.las_header.specs.Fields.{points_of}
use Rattle.las_header.specs.Heads.{HeadView}
use Rattle.las_outside.specs.Files.{IsMissing, WhereKnown}
use Rattle.las_outside.specs.Outside.{Outside}
use Rattle.laz_reader.specs.Asking.{AsksAtMost, asked_to_open}
use Rattle.laz_reader.specs.Reading.{EndsReading, IsNewReader, StandsFor}
use Rattle.laz_forms.specs.Refusing.{IsRefusal}
use Rattle.laz_forms.proofs.Public.{not_missing}
use Rattle.std.specs.Prelude.{Some}
use Rattle.las_merge.specs.Copying.{IsFaultOf}
use Rattle.las_merge.specs.Fields.{first_difference}
use Rattle.las_merge.specs.Opening.{InputSeen, IsItsFile}
use Rattle.las_merge.proofs.Again.{again_by, fails_again, no_other, no_others, some_none}
use Rattle.las_merge.proofs.opening.open_again.Given.{Over}
use Rattle.las_merge.proofs.opening.open_again.Goals.{After-first_difference, After-open, After-points-2}
use Rattle.las_merge.proofs.opening.open_again.Goals as goal

-- what stands when the file was opened, or could not be
module _ (g : Over) (c : After-open g) where
  abbrev old : Outside
  old = g.F.Files.seen c.args.files.now

  named : c.deref.result.now ≡ c.args.input.now.name
  named = cc (c.deref.ensures, ap (λ (i : InputSeen). i.name) c.input.view_is)

  asked : WhereKnown old.held c.args.input.now.name
      (λ file. AsksAtMost (asked_to_open file) old (g.F.Files.seen c.open.new.files))
  asked = subst (λ (n : List ℕ). WhereKnown old.held n
      (λ file. AsksAtMost (asked_to_open file) old (g.F.Files.seen c.open.new.files))) named
      (c.open.ensures.asked_of (λ gone. not_missing old.held c.args.input.now.name (IsItsFile c.args.input.now)
      c.requires.opened.stands (subst (IsMissing old.held) named gone)))

pub returns-in-Err-clause-ends : goal.returns-in-Err-clause-ends
returns-in-Err-clause-ends g c =
    let k = (goal.at.returns-in-Err-clause-ends g c).After-open in
    let old = old g k in
    let new = g.F.Files.seen c.open.new.files in
    let f = c.in-Err.fault in
    subst (IsFaultOf old new c.args.number) (sym c.fault_of.ensures)
    (fails_again old.held c.args.input.now c.requires.opened.stands old new refl c.args.number f
    (λ cause is. subst (λ (n : List ℕ). WhereKnown old.held n (λ file. IsRefusal file (Some cause))) (named g k)
    (c.in-Err.ensures.refused cause (ap Err is)))
    (subst (λ (n : List ℕ). EndsReading (IsMissing old.held n) old new f) (named g k) c.in-Err.ensures.ends))

-- and when it was opened
module _ (g : Over) (c : After-first_difference g) where
  stands : WhereKnown (g.F.Files.seen c.args.files.now).held c.args.input.now.name (StandsFor c.in-Ok.reader)
  stands = subst (λ (n : List ℕ). WhereKnown (g.F.Files.seen c.args.files.now).held n (StandsFor c.in-Ok.reader))
      (cc (c.deref.ensures, ap (λ (i : InputSeen). i.name) c.input.view_is)) c.in-Ok.ensures.stands

  answer : c.first_difference.result
      ≡ first_difference c.args.input.now.head.bytes c.in-Ok.reader.head.bytes
  answer = c.first_difference.ensures
      ∙ ap (λ (i : InputSeen). first_difference i.head.bytes c.head.result.now.bytes) c.input.view_is
      ∙ ap (λ (h : HeadView). first_difference c.args.input.now.head.bytes h.bytes) c.head.ensures

-- and when its records were counted
module _ (g : Over) (c : After-points-2 g) where
  theirs : c.points.result ≡ points_of c.in-Ok.reader.head.bytes
  theirs = c.points.ensures ∙ ap (λ (h : HeadView). points_of h.bytes) c.head-2.ensures

  mine : c.points-2.result ≡ points_of c.args.input.now.head.bytes
  mine = c.points-2.ensures ∙ ap (λ (i : InputSeen). points_of i.head.bytes) c.input.view_is

pub returns-in-Some-clause-ends : goal.returns-in-Some-clause-ends
returns-in-Some-clause-ends g c =
    let k = (goal.at.returns-in-Some-clause-ends g c).After-first_difference in (
      refl,
      no_other (g.F.Files.seen c.args.files.now).held c.args.input.now c.requires.opened.stands c.in-Ok.reader
          (λ none. some_none c.in-Some.field (sym c.in-Some.is ∙ answer g k ∙ none)) (stands g k),
    )

pub returns-then-points-clause-ends : goal.returns-then-points-clause-ends
returns-then-points-clause-ends g c =
    let k = (goal.at.returns-then-points-clause-ends g c).After-points-2 in (
      refl,
      no_others (g.F.Files.seen c.args.files.now).held c.args.input.now c.requires.opened.stands c.in-Ok.reader
          (λ same. c.if-points.true (theirs g k ∙ same ∙ sym (mine g k)))
          (stands g (goal.at.returns-then-points-clause-ends g c).After-first_difference),
    )

pub returns-clause-again : goal.returns-clause-again
returns-clause-again g c =
    let opened = (goal.at.returns-clause-again g c).After-open in
    let compared = (goal.at.returns-clause-again g c).After-first_difference in
    let counted = (goal.at.returns-clause-again g c).After-points-2 in
    let reader = c.in-Ok.reader in
    again_by (g.F.Files.seen c.args.files.now).held c.args.input.now reader
    (subst (λ (n : List ℕ). IsNewReader n reader) (named g opened) c.in-Ok.ensures.fresh) c.in-Ok.ensures.whole
    (stands g compared) (sym (answer g compared) ∙ c.in_default.is)
    (sym (theirs g counted) ∙ c.if-points.false ∙ mine g counted)

pub returns-in-Err-clause-asked : goal.returns-in-Err-clause-asked
returns-in-Err-clause-asked g c = asked g (goal.at.returns-in-Err-clause-asked g c).After-open

pub returns-in-Some-clause-asked : goal.returns-in-Some-clause-asked
returns-in-Some-clause-asked g c = asked g (goal.at.returns-in-Some-clause-asked g c).After-open

pub returns-then-points-clause-asked : goal.returns-then-points-clause-asked
returns-then-points-clause-asked g c = asked g (goal.at.returns-then-points-clause-asked g c).After-open

pub returns-clause-asked : goal.returns-clause-asked
returns-clause-asked g c = asked g (goal.at.returns-clause-asked g c).After-open
