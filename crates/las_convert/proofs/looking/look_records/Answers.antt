use Rattle.laz_forms.proofs.Public.{if_err}
use Rattle.las_convert.proofs.Making.{ends_since, is_fault}
use Rattle.std.proofs.Common.{◌≡◌, ◌+◌, ◌/◌, ◌%◌, ◌^◌, ◌<◌, ◌++◌, ◌∷◌, ℕ, Option, Some, Err, List, [], length, refl}
use Rattle.std.proofs.Common.{sym, ◌∙◌, ap, subst, length-append, arith}
use Rattle.std.specs.List.{concat}
use Rattle.std.proofs.lemmas.Result.{err_from_is_err_and, IfOk-from_err}
use Rattle.las_filter.specs.Kept.{steps_of}
use Rattle.las_header.specs.Fields.{record_length_of}
use Rattle.las_header.specs.Heads.{HeadView}
use Rattle.las_header.specs.Plain.{cut_all}
use Rattle.las_header.proofs.Public.{cut_none}
use Rattle.las_outside.specs.Files.{FileMap}
use Rattle.las_outside.specs.Outside.{Outside}
use Rattle.las_outside.proofs.Public.{calm-refl, calm-trans, later-refl, only_reads-trans}
use Rattle.las_thin.specs.Kept.{passing}
use Rattle.las_thin.specs.Sieving as sieve
use Rattle.laz_forms.specs.declared.fault.Fault.TheVariants.{Refused, Memory}
use Rattle.laz_reader.specs.Reading.{ReaderSeen}
use Rattle.laz_reader.specs.Turns.{ComesTo, HasComeTo, HoldFirst, MayCome, file_at}
use Rattle.laz_reader.proofs.Public.{come_first, next_may, none_come}
use Rattle.laz_file.proofs.Public.{few_come, records_come}
use Rattle.las_convert.proofs.Going.{count_is}
use Rattle.las_convert.proofs.looking.look_records.Given.{Over}
use Rattle.las_convert.proofs.looking.look_records.Goals.{At-turns, After-from-size, In_ok-next, In-Some}
use Rattle.las_convert.proofs.looking.look_records.Goals.{After-block-block}
use Rattle.las_convert.proofs.looking.look_records.Goals as goal

-- how long a record is
module _ (g : Over) (c : After-from-size g) where
  some : 0 < c.from-size.result
  some = grind (arith, c.record_length.ensures.enough, c.from-size.ensures)

  size_is : c.from-size.result ≡ record_length_of c.args.reader.now.head.bytes
  size_is = c.from-size.ensures ∙ c.record_length.ensures.field
      ∙ ap (λ (v : HeadView). record_length_of v.bytes) c.head.ensures

-- what stands when a turn begins
module _ (g : Over) (c : At-turns g) where
  abbrev old : Outside
  old = g.F.Files.seen c.args.files.now

  abbrev first : ReaderSeen
  first = c.args.reader.now

  abbrev place : ℕ
  place = c.turns.invariant.looked.0

  abbrev blocks : List (List ℕ)
  blocks = c.turns.invariant.looked.1

  come : HasComeTo old.held first c.turns.reader c.turns.crew c.turns.turn place blocks
  come = c.turns.invariant.looked.2

  hold : HoldFirst old.held first place blocks
  hold = come_first old.held first c.turns.reader c.turns.crew c.turns.turn place blocks come

  there : file_at (g.F.Files.seen c.turns.files).held first.name ≡ file_at old.held first.name
  there = ap (λ (h : Option FileMap). file_at h first.name) c.turns.invariant.only.held

-- what stands when the next block was read, or there is none
module _ (g : Over) (c : In_ok-next g) where
  abbrev turn_read : At-turns g
  turn_read = (goal.at.In_ok-next g c).At-turns

  abbrev IsNext : Option ℕ → Type 0
  IsNext = ComesTo (old g turn_read).held (first g turn_read) c.next_block.new.self c.next_block.new.crew
      c.next_block.new.turn (place g turn_read) (blocks g turn_read)

  next : IsNext c.in_ok-next.next
  next =
      let t = turn_read in
      c.in_ok-next.ensures.next (old g t).held (first g t) (place g t) (blocks g t) (come g t) (there g t)

-- what stands when it came
module _ (g : Over) (c : In-Some g) where
  abbrev read_come : In_ok-next g
  read_come = (goal.at.In-Some g c).In_ok-next

  comes : IsNext g read_come (Some c.in-Some.number)
  comes = subst (IsNext g read_come) c.in-Some.is (next g read_come)

-- what stands when it was lent
module _ (g : Over) (c : After-block-block g) where
  abbrev turn_lent : At-turns g
  turn_lent = (goal.at.After-block-block g c).At-turns

  abbrev some_lent : In-Some g
  some_lent = (goal.at.After-block-block g c).In-Some

  abbrev sized : After-from-size g
  sized = (goal.at.After-block-block g c).After-from-size

  abbrev block : List ℕ
  block = c.block-block.result.now

  abbrev before : List (List ℕ)
  before = cut_all c.from-size.result (concat (blocks g turn_lent))

  lent : (comes g some_lent).0 ≡ block
  lent = let x = comes g some_lent in sym (c.block-block.ensures x.1.0 x.1.1 x.1.2 ∙ x.1.3)

  may : MayCome (first g turn_lent) (concat (blocks g turn_lent)) block
  may =
      let t = turn_lent in
      subst (MayCome (first g t) (concat (blocks g t))) lent
      (next_may (old g t).held (first g t) c.turns.reader c.next_block.new.self c.turns.crew c.next_block.new.crew
      c.turns.turn c.next_block.new.turn (place g t) _ (blocks g t) (come g t) (comes g some_lent))

  came : HasComeTo (old g turn_lent).held (first g turn_lent) c.next_block.new.self c.next_block.new.crew
      c.next_block.new.turn (place g turn_lent + 1) (blocks g turn_lent ++ block ∷ [])
  came =
      let t = turn_lent in
      subst
      (λ (b : List ℕ). HasComeTo (old g t).held (first g t) c.next_block.new.self c.next_block.new.crew
      c.next_block.new.turn (place g t + 1) (blocks g t ++ b ∷ [])) lent (comes g some_lent).2

  few : c.turns.read + length block / c.from-size.result < 2 ^ 32
  few =
      let t = turn_lent in
      let less = few_come (first g t) c.from-size.result (concat (blocks g t)) block (some g sized) (size_is g sized) may
      c.requires.few in
      omega (arith, less, c.turns.invariant.looked.3)

pub turns-init : goal.turns-init
turns-init g c =
    let none = cut_none c.from-size.result (some g (goal.at.turns-init g c).After-from-size) in
    record {
      only = record { held = refl; writes = refl; later = later-refl _ };
      settings = refl;
      looked = (
        0,
        [],
        none_come (g.F.Files.seen c.args.files.now).held c.args.reader.now c.args.crew.now c.first-turn.result
            c.first-turn.ensures.next c.first-turn.ensures.count c.requires.open c.requires.crew c.requires.stands,
        ap (λ (rs : List (List ℕ)). length rs) none,
        subst
            (λ (rs : List (List ℕ)). sieve.HasSifted (passing (steps_of c.args.plan.now) rs) [] c.args.sieve.now)
            (sym none) c.requires.unlooked,
      );
      calm = calm-refl _;
      asked = omega arith;
    }

pub next_block-requires-clause-come : goal.next_block-requires-clause-come
next_block-requires-clause-come g c κs within =
    let t = (goal.at.next_block-requires-clause-come g c).At-turns in
    ((old g t).held, first g t, place g t, blocks g t, come g t, there g t)

pub returns-in_err-next-clause-bad : goal.returns-in_err-next-clause-bad
returns-in_err-next-clause-bad g c =
    let t = (goal.at.returns-in_err-next-clause-bad g c).At-turns in
    let p = err_from_is_err_and c.from_residual.result c.from_residual.ensures.1 in
    rw (p.1, p.2) (λ cause is.
    let same : c.in_err-next.field-0.0 ≡ Refused cause = cc in (
      place g t,
      blocks g t,
      hold g t,
      c.in_err-next.ensures.bad (old g t).held (first g t) (place g t) (blocks g t) (come g t) (there g t) cause
          (ap Err same),
    ))

pub returns-in_default-clause-looked : goal.returns-in_default-clause-looked
returns-in_default-clause-looked g c =
    let t = (goal.at.returns-in_default-clause-looked g c).At-turns in
    let r = (goal.at.returns-in_default-clause-looked g c).In_ok-next in
    let size = size_is g (goal.at.returns-in_default-clause-looked g c).After-from-size in
    let all : place g t ≡ length (first g t).left = subst (IsNext g r) c.in_default.is (next g r) in (
      blocks g t,
      subst (λ (k : ℕ). HoldFirst (old g t).held (first g t) k (blocks g t)) all (hold g t),
      subst
          (λ (k : ℕ). sieve.HasSifted (passing (steps_of c.args.plan.now) (cut_all k (concat (blocks g t)))) []
          c.turns.sieve) size c.turns.invariant.looked.4,
    )

pub block-block-requires : goal.block-block-requires
block-block-requires g c =
    let x = comes g (goal.at.block-block-requires g c).In-Some in
    (x.1.0, x.1.1, x.1.2)

pub look_block-requires-clause-whole : goal.look_block-requires-clause-whole
look_block-requires-clause-whole g c =
    let b = (goal.at.look_block-requires-clause-whole g c).After-block-block in
    subst (λ (k : ℕ). length c.block-block.result.now % k ≡ 0) (sym (size_is g (sized g b))) (may g b).whole

pub look_block-requires-clause-few : goal.look_block-requires-clause-few
look_block-requires-clause-few g c = few g (goal.at.look_block-requires-clause-few g c).After-block-block

pub look_block-requires-clause-looked : goal.look_block-requires-clause-looked
look_block-requires-clause-looked g c =
    let done = c.turns.invariant.looked in
    (cut_all c.from-size.result (concat done.1), done.3, done.4)

pub overflow_add-read : goal.overflow_add-read
overflow_add-read g c = let less = few g (goal.at.overflow_add-read g c).After-block-block in omega (arith, less)

pub turns-preserved : goal.turns-preserved
turns-preserved g c =
    let b = (goal.at.turns-preserved g c).After-block-block in
    let t = (goal.at.turns-preserved g c).At-turns in
    let s = c.from-size.result in
    let done = c.turns.invariant.looked in
    let more = records_come (first g t) s (blocks g t) (block g b) (some g (sized g b)) (size_is g (sized g b))
    (may g b) in
    let long : length (before g b ++ cut_all s (block g b)) ≡ c.turns.read + length (block g b) / s =
    omega (arith, length-append (before g b) (cut_all s (block g b)), count_is s (block g b), done.3) in
    record {
      only = only_reads-trans _ _ _ c.turns.invariant.only c.next_block.ensures.reads.only;
      settings = c.look_block.ensures.settings ∙ c.turns.invariant.settings;
      looked = (
        place g t + 1,
        blocks g t ++ block g b ∷ [],
        came g b,
        ap (λ (rs : List (List ℕ)). length rs) more ∙ long,
        subst
            (λ (rs : List (List ℕ)). sieve.HasSifted (passing (steps_of c.args.plan.now) rs) [] c.look_block.new.sieve)
            (sym more) (c.in_ok-look_block.ensures.stands (before g b) done.3 done.4),
      );
      calm = calm-trans _ _ _ c.turns.invariant.calm c.in_ok-next.ensures.calm;
      asked = omega (arith, c.turns.invariant.asked, c.in_ok-next.ensures.asked);
    }

pub returns-in_err-next-clause-looked : goal.returns-in_err-next-clause-looked
returns-in_err-next-clause-looked g c = IfOk-from_err c.from_residual.result _ c.from_residual.ensures.0

pub returns-in_err-next-clause-calm : goal.returns-in_err-next-clause-calm
returns-in_err-next-clause-calm g c = IfOk-from_err c.from_residual.result _ c.from_residual.ensures.0

pub returns-in_err-look_block-clause-looked : goal.returns-in_err-look_block-clause-looked
returns-in_err-look_block-clause-looked g c =
    IfOk-from_err c.from_residual-in_err-look_block.result _ c.from_residual-in_err-look_block.ensures.0

pub returns-in_err-look_block-clause-calm : goal.returns-in_err-look_block-clause-calm
returns-in_err-look_block-clause-calm g c =
    IfOk-from_err c.from_residual-in_err-look_block.result _ c.from_residual-in_err-look_block.ensures.0

pub returns-in_err-next-clause-reads : goal.returns-in_err-next-clause-reads
returns-in_err-next-clause-reads g c = record {
  only = only_reads-trans _ _ _ c.turns.invariant.only c.next_block.ensures.reads.only;
  asked = omega (arith, c.turns.invariant.asked, c.next_block.ensures.reads.asked);
}

pub returns-in_default-clause-reads : goal.returns-in_default-clause-reads
returns-in_default-clause-reads g c = record {
  only = only_reads-trans _ _ _ c.turns.invariant.only c.next_block.ensures.reads.only;
  asked = omega (arith, c.turns.invariant.asked, c.next_block.ensures.reads.asked);
}

pub returns-in_err-look_block-clause-reads : goal.returns-in_err-look_block-clause-reads
returns-in_err-look_block-clause-reads g c = record {
  only = only_reads-trans _ _ _ c.turns.invariant.only c.next_block.ensures.reads.only;
  asked = omega (arith, c.turns.invariant.asked, c.next_block.ensures.reads.asked);
}

pub returns-in_err-next-clause-settings : goal.returns-in_err-next-clause-settings
returns-in_err-next-clause-settings g c = c.turns.invariant.settings

pub returns-in_default-clause-settings : goal.returns-in_default-clause-settings
returns-in_default-clause-settings g c = c.turns.invariant.settings

pub returns-in_err-look_block-clause-settings : goal.returns-in_err-look_block-clause-settings
returns-in_err-look_block-clause-settings g c = c.look_block.ensures.settings ∙ c.turns.invariant.settings

pub returns-in_default-clause-calm : goal.returns-in_default-clause-calm
returns-in_default-clause-calm g c = calm-trans _ _ _ c.turns.invariant.calm c.in_ok-next.ensures.calm

pub returns-in_err-next-clause-cause : goal.returns-in_err-next-clause-cause
returns-in_err-next-clause-cause g c =
    if_err _ c.from_residual.result _ c.from_residual.ensures.1
    (ends_since (g.F.Files.seen c.args.files.now) (g.F.Files.seen c.turns.files) (g.F.Files.seen c.next_block.new.files)
    c.in_err-next.field-0.0 c.turns.invariant.calm.reads c.in_err-next.ensures.ends)

pub returns-in_err-look_block-clause-cause : goal.returns-in_err-look_block-clause-cause
returns-in_err-look_block-clause-cause g c =
    if_err _ c.from_residual-in_err-look_block.result Memory c.from_residual-in_err-look_block.ensures.1
    (c.in_ok-next.ensures.calm.reads ∙ c.turns.invariant.calm.reads)

pub returns-in_err-look_block-clause-bad : goal.returns-in_err-look_block-clause-bad
returns-in_err-look_block-clause-bad g c cause is =
    let e =
    is_fault c.from_residual-in_err-look_block.result Memory (Refused cause)
    c.from_residual-in_err-look_block.ensures.1 is in
    cc
