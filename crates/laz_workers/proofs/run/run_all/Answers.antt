use Rattle.std.proofs.Common.{◌≡◌, ℕ, ◌*◌, ◌≤◌, List, [], ◌∷◌, All, ◌++◌, length, drop, take, map, sym, ap, ◌∙◌, subst, arith}
use Rattle.std.proofs.lemmas.List.{length-map}
use Rattle.std.proofs.Math.Seq.{take-append_seam}
use Rattle.laz_workers.specs.declared.hand.Hand.{Hand}
use Rattle.laz_workers.specs.Numbers.{HoldsBelow}
use Rattle.laz_workers.specs.Rooms.{HandSeen, numbers_in, rooms_of, lengths_of}
use Rattle.laz_workers.specs.Run.{EveryInputFits, IsJoined}
use Rattle.laz_workers.proofs.Standing.{stands_below}
use Rattle.laz_workers.specs.Shown.{shown}
use Rattle.laz_workers.specs.Work.{HoldsAnswer, texts}
use Rattle.laz_workers.proofs.run.run_all.Goals as goal

-- the elements of a `Vec` after its slice was written
whole : {X : Type 0} (n : ℕ) (new old : List X) → length new ≡ n → take n (new ++ drop (length new) old) ≡ new
whole n new old e = ap (λ k. take k (new ++ drop (length new) old)) (sym e) ∙ take-append_seam new (drop (length new) old)

-- an element that was pushed to an empty list
alone : {X : Type 0} (xs ys : List X) (x : X) → length xs ≡ 0 → ys ≡ xs ++ x ∷ [] → ys ≡ x ∷ []
alone [] ys x n e = e
alone (z ∷ zs) ys x n e = absurd (omega (arith, n))

pub work_all-opening-requires-clause-hands : goal.work_all-opening-requires-clause-hands
work_all-opening-requires-clause-hands g c κs within =
    let shows : map shown c.as_mut_slice.result.now ≡ c.args.crew.now = ap (map shown) c.as_mut_slice.ensures.value ∙ c.crew.view_is in
    omega (arith, c.requires.hands, ap length shows, length-map c.as_mut_slice.result.now shown)

pub work_all-opening-requires-clause-fits : goal.work_all-opening-requires-clause-fits
work_all-opening-requires-clause-fits g c κs within =
    let shows : map shown c.as_mut_slice.result.now ≡ c.args.crew.now = ap (map shown) c.as_mut_slice.ensures.value ∙ c.crew.view_is in
    let P : List (HandSeen g.row.J-Space.Denot) → Type 0 = λ l. EveryInputFits (g.J.Job.fits c.args.job.now) (texts c.args.inputs.now) (lengths_of (rooms_of l)) in
    subst P (sym shows) c.requires.fits

pub work_all-opening-requires-clause-suits : goal.work_all-opening-requires-clause-suits
work_all-opening-requires-clause-suits g c κs within =
    let shows : map shown c.as_mut_slice.result.now ≡ c.args.crew.now = ap (map shown) c.as_mut_slice.ensures.value ∙ c.crew.view_is in
    let P : List (HandSeen g.row.J-Space.Denot) → Type 0 = λ l. All (λ h. g.J.Job.suits c.args.job.now h.space) l in
    subst P (sym shows) c.requires.suits

pub work_all-opening-requires-clause-passes : goal.work_all-opening-requires-clause-passes
work_all-opening-requires-clause-passes g c κs within =
    let shows : map shown c.as_mut_slice.result.now ≡ c.args.crew.now = ap (map shown) c.as_mut_slice.ensures.value ∙ c.crew.view_is in
    let count = ap length (sym shows) ∙ length-map c.as_mut_slice.result.now shown in
    (c.requires.passes.0 ∙ count, c.requires.passes.1)

pub work_all-opening-requires-clause-inputs : goal.work_all-opening-requires-clause-inputs
work_all-opening-requires-clause-inputs g c κs within =
    let shows : map shown c.as_mut_slice.result.now ≡ c.args.crew.now = ap (map shown) c.as_mut_slice.ensures.value ∙ c.crew.view_is in
    let count = ap length (sym shows) ∙ length-map c.as_mut_slice.result.now shown in
    let P : ℕ → Type 0 = λ n. length c.args.inputs.now ≤ 2 * n in
    (c.requires.inputs.0, subst P count c.requires.inputs.1)

pub push_reserved-requires : goal.push_reserved-requires
push_reserved-requires g c =
    let p = c.work_all-opening.ensures.passes in
    omega (arith, p.0, p.1, c.requires.passes.0, c.requires.hands, c.args.passes.now.ok.1)

pub invariant_of-crew : goal.invariant_of-crew
invariant_of-crew g c =
    let old = c.crew.inside.hands in
    let new = c.work_all-opening.new.hands in
    let P : List (Hand g.row.J-Space.Denot) → Type 0 = λ l. length l ≤ 8 in
    let same = c.work_all-opening.auto.hands ∙ ap length c.as_mut_slice.ensures.value in
    let Q : ℕ → Type 0 = λ n. n ≤ 8 in
    subst P (sym (whole old.len new old.items (c.work_all-opening.auto.hands ∙ c.as_mut_slice.ensures.len))) (subst Q (sym same) c.crew.invariant)

pub returns-clause-numbers : goal.returns-clause-numbers
returns-clause-numbers g c =
    let old = c.crew.inside.hands in
    let new = c.work_all-opening.new.hands in
    let P : List (Hand g.row.J-Space.Denot) → Type 0 = λ l. HoldsBelow c.args.claims.now.total (numbers_in (rooms_of (map shown l))) in
    subst P (sym (whole old.len new old.items (c.work_all-opening.auto.hands ∙ c.as_mut_slice.ensures.len))) c.work_all-opening.ensures.numbers

pub returns-clause-stand : goal.returns-clause-stand
returns-clause-stand g c number lt =
    let old = c.crew.inside.hands in
    let new = c.work_all-opening.new.hands in
    let P : List (Hand g.row.J-Space.Denot) → Type 0 = λ l. HoldsBelow c.args.claims.now.total (numbers_in (rooms_of (map shown l))) in
    let all = take old.len (new ++ drop (length new) old.items) in
    let from = subst P (sym (whole old.len new old.items (c.work_all-opening.auto.hands ∙ c.as_mut_slice.ensures.len))) c.work_all-opening.ensures.numbers in
    stands_below c.args.claims.now.total (rooms_of (map shown all)) number from lt

pub returns-clause-answers : goal.returns-clause-answers
returns-clause-answers g c =
    let old = c.crew.inside.hands in
    let new = c.work_all-opening.new.hands in
    let P : List (Hand g.row.J-Space.Denot) → Type 0 = λ l. All (HoldsAnswer (g.J.Job.answer c.args.job.now) (texts c.args.inputs.now)) (rooms_of (map shown l)) in
    subst P (sym (whole old.len new old.items (c.work_all-opening.auto.hands ∙ c.as_mut_slice.ensures.len))) c.work_all-opening.ensures.answers

pub returns-clause-passes : goal.returns-clause-passes
returns-clause-passes g c =
    let old = c.crew.inside.hands in
    let new = c.work_all-opening.new.hands in
    let opening = c.work_all-opening.result in
    let none = sym c.work_all-opening.new.passes.ok.0 ∙ c.work_all-opening.ensures.passes.0 in
    let P : List (Hand g.row.J-Space.Denot) → Type 0 = λ l. IsJoined c.args.claims.now (rooms_of (map shown l)) opening in
    let joined = subst P (sym (whole old.len new old.items (c.work_all-opening.auto.hands ∙ c.as_mut_slice.ensures.len))) c.work_all-opening.ensures.joined in
    (opening, alone c.work_all-opening.new.passes.items c.push_reserved.new.self.items opening none c.push_reserved.ensures.items, joined)

pub returns-clause-capacity : goal.returns-clause-capacity
returns-clause-capacity g c = c.push_reserved.ensures.capacity ∙ c.work_all-opening.ensures.passes.1

pub returns-clause-hands : goal.returns-clause-hands
returns-clause-hands g c =
    let old = c.crew.inside.hands in
    let new = c.work_all-opening.new.hands in
    let all = take old.len (new ++ drop (length new) old.items) in
    let same = ap length (whole old.len new old.items (c.work_all-opening.auto.hands ∙ c.as_mut_slice.ensures.len)) in
    let kept = c.work_all-opening.auto.hands ∙ ap length c.as_mut_slice.ensures.value in
    length-map all shown ∙ (same ∙ (kept ∙ (sym (length-map old.items shown) ∙ ap length c.crew.view_is)))

pub returns-clause-few : goal.returns-clause-few
returns-clause-few g c = omega (arith, c.requires.inputs.1, ap length c.crew.view_is, length-map c.crew.inside.hands.items shown, c.crew.invariant)

pub returns-clause-lengths : goal.returns-clause-lengths
returns-clause-lengths g c =
    let old = c.crew.inside.hands in
    let new = c.work_all-opening.new.hands in
    let shows : map shown c.as_mut_slice.result.now ≡ c.args.crew.now = ap (map shown) c.as_mut_slice.ensures.value ∙ c.crew.view_is in
    let f : List (Hand g.row.J-Space.Denot) → List ℕ = λ l. lengths_of (rooms_of (map shown l)) in
    let h : List (HandSeen g.row.J-Space.Denot) → List ℕ = λ l. lengths_of (rooms_of l) in
    ap f (whole old.len new old.items (c.work_all-opening.auto.hands ∙ c.as_mut_slice.ensures.len)) ∙ (c.work_all-opening.ensures.lengths ∙ ap h shows)

pub returns-clause-suits : goal.returns-clause-suits
returns-clause-suits g c =
    let old = c.crew.inside.hands in
    let new = c.work_all-opening.new.hands in
    let P : List (Hand g.row.J-Space.Denot) → Type 0 = λ l. All (λ h. g.J.Job.suits c.args.job.now h.space) (map shown l) in
    subst P (sym (whole old.len new old.items (c.work_all-opening.auto.hands ∙ c.as_mut_slice.ensures.len))) c.work_all-opening.ensures.suits
