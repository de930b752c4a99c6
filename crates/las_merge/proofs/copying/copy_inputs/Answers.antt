use Rattle.std.proofs.Common.{◌≡◌, ℕ, ◌≤◌, ◌+◌, ◌*◌, List, ◌∷◌, ◌++◌, length, Option, None, Some, refl, sym, ◌∙◌, ap}
use Rattle.std.proofs.Common.{subst, arith, map, length-append}
use Rattle.std.specs.List.{concat}
use Rattle.std.specs.Vec.Iter.{into_iter_items}
use Rattle.las_header.specs.declared.refusal.Refusal.{Refusal}
use Rattle.las_outside.specs.Files.{FileMap, WhereKnown}
use Rattle.las_outside.specs.Outside.{Outside}
use Rattle.laz_file.specs.Copying.{with_reads}
use Rattle.std.specs.FinMap as finmap
use Rattle.laz_reader.specs.Asking.{AsksAtMost}
use Rattle.laz_writer.specs.Writing.{WriterSeen}
use Rattle.las_outside.proofs.Public.{calm-refl, calm-trans, later-refl, later-trans}
use Rattle.las_merge.specs.Asking.{IsAskedToRead, asked_of_all}
use Rattle.las_merge.specs.Copying.{BeginsWith, CopiesTo}
use Rattle.las_merge.specs.Opening.{InputSeen, input_names, points_read}
use Rattle.las_merge.proofs.Asked.{asked_there}
use Rattle.las_merge.proofs.Again.{fault_since}
use Rattle.las_merge.proofs.Copied.{HasCopied, copies_all, has_more, has_none, into_next, leaves_next, next_copies}
use Rattle.las_merge.proofs.Copied.{next_known, next_name, next_open, next_room, next_stands, no_items, rest_room}
use Rattle.las_merge.proofs.Copied.{takes_next}
use Rattle.las_merge.proofs.copying.copy_inputs.Given.{Over}
use Rattle.las_merge.proofs.copying.copy_inputs.Goals.{In-Some}
use Rattle.las_merge.proofs.copying.copy_inputs.Goals as goal
use Rattle.laz_models.proofs.Public.{sum-cons}

pub inputs-init : goal.inputs-init
inputs-init g c =
    let old = g.F.Files.seen c.args.files.now in
    let w = c.args.writer.now in
    let gives = c.into_iter-input-iterator.ensures.into_iter_gives in
    let readers = c.args.inputs.items in
    record {
      can = tt;
      finite = tt;
      len = ap (λ (rs : List InputSeen). length rs) gives.0 ∙ sym c.args.inputs.ok.0 ∙ sym gives.1;
      copied = subst (λ (rs : List InputSeen). HasCopied old old readers rs 0 w w) (sym gives.0)
          (has_none old readers w);
      sound = c.requires.sound;
      most = refl;
      room = subst (λ (rs : List InputSeen). w.taken + w.size * points_read rs ≤ w.size * w.most) (sym gives.0)
          c.requires.room;
      calm = calm-refl old;
      later = later-refl old;
      asked = λ asked bound known is. omega (
        arith,
        ap (λ (rs : List InputSeen). asked_of_all asked known (input_names rs))
            gives.0,
      );
    }

-- what stands when there is one more input
module _ (g : Over) (c : In-Some g) where
  abbrev old : Outside
  old = g.F.Files.seen c.args.files.now

  abbrev now : Outside
  now = g.F.Files.seen c.inputs.files

  abbrev rest : List InputSeen
  rest = into_iter_items c.next.new.self

  abbrev reader : InputSeen
  reader = c.in-Some.input

  abbrev v : WriterSeen
  v = c.inputs.writer

  has : HasCopied old now c.args.inputs.items (reader ∷ rest) c.inputs.number c.args.writer.now v
  has = subst (λ (rs : List InputSeen). HasCopied old now c.args.inputs.items rs c.inputs.number c.args.writer.now v)
      c.in-Some.ensures.steps.0 c.inputs.invariant.copied

  room : v.taken + v.size * points_read (reader ∷ rest) ≤ v.size * v.most
  room = subst (λ (rs : List InputSeen). v.taken + v.size * points_read rs ≤ v.size * v.most)
      c.in-Some.ensures.steps.0 c.inputs.invariant.room

  -- what is known of its file was known at the start
  known_before : (P : List ℕ → Type 0) → WhereKnown now.held reader.name P → WhereKnown old.held reader.name P
  known_before P here = next_known _ _ _ _ _ _ _ _ has _ _ _ c.requires.stands.3 c.requires.names P here

  copies : (part : List ℕ) (end other : Option Refusal) → CopiesTo now.held reader.name part end → end ≡ other
      → CopiesTo old.held reader.name part other
  copies part end other here is = subst (λ (e : Option Refusal). CopiesTo old.held reader.name part e) is
      (next_copies _ _ _ _ _ _ _ _ has _ _ _ c.requires.stands.3 c.requires.names part end here)

  -- what it and those before it were asked for
  asked_so_far : (new : Outside) → ((asked : Option (List ℕ) → ℕ) → IsAskedToRead asked
      → WhereKnown now.held reader.name (λ file. AsksAtMost (asked (Some file)) now new))
      → (asked : Option (List ℕ) → ℕ) → IsAskedToRead asked → (known : FileMap) → old.held ≡ Some known
      → new.asked + asked_of_all asked known (input_names rest)
      ≤ old.asked + asked_of_all asked known (input_names c.args.inputs.items)
  asked_so_far new most_of asked bound known is =
      let most = known_before (λ file. AsksAtMost (asked (Some file)) now new) (most_of asked bound) in
      let here = asked_there old.held reader.name asked now new most known is in
      let first = sum-cons (asked (finmap.get known reader.name))
      (map (λ name. asked (finmap.get known name)) (input_names rest)) in
      let items = ap (λ (rs : List InputSeen). asked_of_all asked known (input_names rs))
      c.in-Some.ensures.steps.0 in
      let before = c.inputs.invariant.asked asked bound known is in
      omega (arith, here, first, items, before)

pub copy_next-requires-clause-opened : goal.copy_next-requires-clause-opened
copy_next-requires-clause-opened g c κs within =
    let k = (goal.at.copy_next-requires-clause-opened g c).In-Some in
    next_open _ _ _ _ _ _ _ _ (has g k) _ _ _ c.requires.stands.3 c.requires.opened c.requires.names

pub copy_next-requires-clause-names : goal.copy_next-requires-clause-names
copy_next-requires-clause-names g c κs within =
    let k = (goal.at.copy_next-requires-clause-names g c).In-Some in
    next_name _ _ _ _ _ _ _ _ (has g k) _ _ _ c.requires.stands.3 c.requires.names

pub copy_next-requires-clause-room : goal.copy_next-requires-clause-room
copy_next-requires-clause-room g c κs within =
    let k = (goal.at.copy_next-requires-clause-room g c).In-Some in
    next_room _ _ _ _ _ _ _ _ (has g k) _ _ _ c.requires.stands.3 c.requires.sizes c.inputs.invariant.sound
    (room g k)

pub copy_next-requires-clause-stands : goal.copy_next-requires-clause-stands
copy_next-requires-clause-stands g c κs within =
    let k = (goal.at.copy_next-requires-clause-stands g c).In-Some in
    let s = c.requires.stands in (
      with_reads s.0 (now g k),
      s.1,
      s.2 ++ concat (has g k).parts,
      next_stands _ _ _ _ _ _ _ _ (has g k) _ _ _ s.3,
    )

pub inputs-preserved : goal.inputs-preserved
inputs-preserved g c =
    let k = (goal.at.inputs-preserved g c).In-Some in
    let new = g.F.Files.seen c.copy_next.new.files in
    let d = c.in-Ok.ensures.copied in
    let most = c.in-Ok.ensures.most in
    record {
      can = tt;
      finite = tt;
      len = omega (
        arith,
        ap (λ (rs : List InputSeen). length rs) c.in-Some.ensures.steps.0,
        c.in-Some.ensures.steps.1,
        c.inputs.invariant.len,
      );
      copied = has_more _ _ _ _ _ _ _ _ (has g k) new c.copy_next.new.writer d.0
          (copies g k d.0 c.in-Ok.end None d.1 c.in_default.is) d.2;
      sound = c.in-Ok.ensures.open;
      most = most ∙ c.inputs.invariant.most;
      room = rest_room _ _ _ _ _ _ _ _ (has g k) _ _ _ c.requires.stands.3 new c.copy_next.new.writer d.0 d.2
          (d.3 c.in_default.is) most (room g k);
      calm = calm-trans (old g k) (now g k) new c.inputs.invariant.calm c.in-Ok.ensures.calm;
      later = later-trans (old g k) (now g k) new c.inputs.invariant.later c.copy_next.ensures.later;
      asked = asked_so_far g k new c.copy_next.ensures.asked;
    }

pub returns-in-Some-end-clause-copied : goal.returns-in-Some-end-clause-copied
returns-in-Some-end-clause-copied g c =
    let k = (goal.at.returns-in-Some-end-clause-copied g c).In-Some in
    let d = c.in-Ok.ensures.copied in
    let cause = Some c.in-Some-end.cause in (
      concat (has g k).parts ++ d.0,
      into_next _ _ _ _ _ _ _ _ (has g k) (λ name part. CopiesTo (old g k).held name part cause) d.0
          (copies g k d.0 c.in-Ok.end cause d.1 c.in-Some-end.is),
      takes_next _ _ _ _ _ _ _ _ (has g k) (g.F.Files.seen c.copy_next.new.files) c.copy_next.new.writer d.0 d.2,
    )

pub returns-in-Err-clause-ends : goal.returns-in-Err-clause-ends
returns-in-Err-clause-ends g c =
    let k = (goal.at.returns-in-Err-clause-ends g c).In-Some in
    let new = g.F.Files.seen c.copy_next.new.files in
    let number = c.inputs.number in
    let l = c.in-Err.ensures.left in (
      number,
      concat (has g k).parts ++ l.0,
      into_next _ _ _ _ _ _ _ _ (has g k)
          (λ name part. WhereKnown (old g k).held name (λ file. BeginsWith file part)) l.0
          (known_before g k (λ file. BeginsWith file l.0) l.1),
      fault_since (old g k) (now g k) new number c.in-Err.fault c.inputs.invariant.later.known
          c.inputs.invariant.calm.reads c.inputs.invariant.calm.writes c.in-Err.ensures.cause,
      leaves_next _ _ _ _ _ _ _ _ (has g k) new l.0 l.2,
    )

pub returns-clause-copied : goal.returns-clause-copied
returns-clause-copied g c =
    let before = g.F.Files.seen c.args.files.now in
    let after = g.F.Files.seen c.inputs.files in
    let readers = c.args.inputs.items in
    let w = c.args.writer.now in
    let u = c.inputs.writer in
    let none = no_items (into_iter_items c.inputs.input-iterator) _ c.inputs.invariant.len c.in-None.ensures.steps.0 in
    let all = subst (λ (rs : List InputSeen). HasCopied before after readers rs c.inputs.number w u) none
    c.inputs.invariant.copied in
    (concat all.parts, copies_all before after readers c.inputs.number w u all, all.takes)

pub returns-in-Some-end-clause-asked : goal.returns-in-Some-end-clause-asked
returns-in-Some-end-clause-asked g c asked bound known is =
    let k = (goal.at.returns-in-Some-end-clause-asked g c).In-Some in
    omega (arith, asked_so_far g k (g.F.Files.seen c.copy_next.new.files) c.copy_next.ensures.asked asked bound known is)

pub returns-in-Err-clause-asked : goal.returns-in-Err-clause-asked
returns-in-Err-clause-asked g c asked bound known is =
    let k = (goal.at.returns-in-Err-clause-asked g c).In-Some in
    omega (arith, asked_so_far g k (g.F.Files.seen c.copy_next.new.files) c.copy_next.ensures.asked asked bound known is)

pub returns-clause-asked : goal.returns-clause-asked
returns-clause-asked g c asked bound known is = omega (arith, c.inputs.invariant.asked asked bound known is)

pub returns-in-Err-clause-later : goal.returns-in-Err-clause-later
returns-in-Err-clause-later g c = later-trans _ _ _ c.inputs.invariant.later c.copy_next.ensures.later

pub returns-in-Some-end-clause-later : goal.returns-in-Some-end-clause-later
returns-in-Some-end-clause-later g c = later-trans _ _ _ c.inputs.invariant.later c.copy_next.ensures.later

pub returns-in-Some-end-clause-open : goal.returns-in-Some-end-clause-open
returns-in-Some-end-clause-open g c = c.in-Ok.ensures.open

pub returns-in-Some-end-clause-calm : goal.returns-in-Some-end-clause-calm
returns-in-Some-end-clause-calm g c = calm-trans _ _ _ c.inputs.invariant.calm c.in-Ok.ensures.calm

pub returns-clause-open : goal.returns-clause-open
returns-clause-open g c = c.inputs.invariant.sound

pub returns-clause-calm : goal.returns-clause-calm
returns-clause-calm g c = c.inputs.invariant.calm

pub returns-clause-later : goal.returns-clause-later
returns-clause-later g c = c.inputs.invariant.later

pub overflow_add-number : goal.overflow_add-number
overflow_add-number g c =
    let h = c.inputs.invariant.copied in
    let all = ap (λ (rs : List InputSeen). length rs) h.split in
    omega (arith, h.count, all, length-append h.done (into_iter_items c.inputs.input-iterator), c.requires.few)
