use Rattle.std.proofs.Common.{◌≡◌, ◌+◌, ◌%◌, ◌/◌, ◌^◌, ◌<◌, ◌≤◌, ◌++◌, ◌∷◌, ℕ, Option, Err, List, [], length, map, refl, sym, ◌∙◌, ap, subst, arith}
use Rattle.std.specs.List.{concat}
use Rattle.std.proofs.lemmas.List.Elements.{All-map}
use Rattle.std.proofs.lemmas.Result.{err_from_is_err_and}
use Rattle.las_header.specs.Fields.{record_length_of}
use Rattle.las_header.specs.Heads.{HeadView}
use Rattle.las_info.specs.Surveys.{IsShown}
use Rattle.las_info.specs.Tallies.{TapSeen, count_at}
use Rattle.las_info.proofs.Public.{none_shown}
use Rattle.las_outside.specs.Files.{FileMap}
use Rattle.las_outside.proofs.Public.{calm-refl, calm-trans, later-refl, only_reads-trans}
use Rattle.laz_forms.specs.declared.fault.Fault.TheVariants.{Refused}
use Rattle.laz_reader.specs.Turns.{ComesTo, HoldFirst, file_at}
use Rattle.laz_reader.proofs.Public.{come_first, next_may, none_come}
use Rattle.laz_file.proofs.Public.{few_come}
use Rattle.las_survey.proofs.Batches.{block_shown, cut, none_read}
use Rattle.las_survey.proofs.surveying.show_records.Goals as goal

pub turns-init : goal.turns-init
turns-init g c =
    let old = g.F.Files.seen c.args.files.now in
    let some : 0 < c.from-size.result = grind (arith, c.record_length.ensures.enough, c.from-size.ensures) in
    record {
      only = record { held = refl; writes = refl; later = later-refl _ };
      shown = (
        0,
        [],
        none_come old.held c.args.reader.now c.args.crew.now c.first-turn.result c.first-turn.ensures.next c.first-turn.ensures.count c.requires.open c.requires.crew c.requires.stands,
        none_read c.from-size.result _ _ some (none_shown _ _ c.new-survey.ensures.none (ap (map (λ tap. (goal.Tap-dyn g (tap.vtable, tap.value)).tap_seen tap.value)) c.new-survey.ensures.taps)),
      );
      calm = calm-refl _;
      asked = omega arith;
    }

pub next_block-requires-clause-come : goal.next_block-requires-clause-come
next_block-requires-clause-come g c κs within =
    let first = c.args.reader.now in
    let done = c.turns.invariant.shown in
    ((g.F.Files.seen c.args.files.now).held, first, done.0, done.1, done.2, ap (λ (h : Option FileMap). file_at h first.name) c.turns.invariant.only.held)

pub returns-in_err-next-clause-bad : goal.returns-in_err-next-clause-bad
returns-in_err-next-clause-bad g c =
    let p = err_from_is_err_and c.from_residual.result c.from_residual.ensures.1 in
    let old = g.F.Files.seen c.args.files.now in
    let first = c.args.reader.now in
    let done = c.turns.invariant.shown in
    rw (p.1, p.2) (λ cause is.
    let same : c.in_err-next.field-0.0 ≡ Refused cause = cc in
    (done.0, done.1, come_first old.held first c.turns.reader c.turns.crew c.turns.turn done.0 done.1 done.2, c.in_err-next.ensures.bad old.held first done.0 done.1 done.2 (ap (λ (h : Option FileMap). file_at h first.name) c.turns.invariant.only.held) cause (ap Err same)))

pub returns-in-None-clause-shown : goal.returns-in-None-clause-shown
returns-in-None-clause-shown g c =
    let old = g.F.Files.seen c.args.files.now in
    let first = c.args.reader.now in
    let done = c.turns.invariant.shown in
    let size : c.from-size.result ≡ record_length_of first.head.bytes = c.from-size.ensures ∙ c.record_length.ensures.field ∙ ap (λ (h : HeadView). record_length_of h.bytes) c.head.ensures in
    let same = ap (λ (h : Option FileMap). file_at h first.name) c.turns.invariant.only.held in
    let all : done.0 ≡ length first.left = subst (ComesTo old.held first c.next_block.new.self c.next_block.new.crew c.next_block.new.turn done.0 done.1) c.in-None.is (c.in_ok-next.ensures.next old.held first done.0 done.1 done.2 same) in
    let hold = come_first old.held first c.turns.reader c.turns.crew c.turns.turn done.0 done.1 done.2 in
    (done.1, subst (λ (k : ℕ). HoldFirst old.held first k done.1) all hold, subst (λ (k : ℕ). IsShown (map (λ tap. (goal.Tap-dyn g (tap.vtable, tap.value)).tap_seen tap.value) c.args.taps.items) (cut k (concat done.1)) (record { summary = c.turns.survey.summary; taps = map (λ tap. (goal.Tap-dyn g (tap.vtable, tap.value)).tap_seen tap.value) c.turns.survey.taps.items })) size done.3)

pub block-requires : goal.block-requires
block-requires g c =
    let first = c.args.reader.now in
    let done = c.turns.invariant.shown in
    let old = g.F.Files.seen c.args.files.now in
    let same = ap (λ (h : Option FileMap). file_at h first.name) c.turns.invariant.only.held in
    let come = subst (ComesTo old.held first c.next_block.new.self c.next_block.new.crew c.next_block.new.turn done.0 done.1) c.in-Some.is (c.in_ok-next.ensures.next old.held first done.0 done.1 done.2 same) in
    (come.1.0, come.1.1, come.1.2)

pub see_all-requires-clause-whole : goal.see_all-requires-clause-whole
see_all-requires-clause-whole g c =
    let old = g.F.Files.seen c.args.files.now in
    let first = c.args.reader.now in
    let done = c.turns.invariant.shown in
    let size : c.from-size.result ≡ record_length_of first.head.bytes = c.from-size.ensures ∙ c.record_length.ensures.field ∙ ap (λ (h : HeadView). record_length_of h.bytes) c.head.ensures in
    let same = ap (λ (h : Option FileMap). file_at h first.name) c.turns.invariant.only.held in
    let come = subst (ComesTo old.held first c.next_block.new.self c.next_block.new.crew c.next_block.new.turn done.0 done.1) c.in-Some.is (c.in_ok-next.ensures.next old.held first done.0 done.1 done.2 same) in
    let block : c.block.result.now ≡ come.0 = c.block.ensures come.1.0 come.1.1 come.1.2 ∙ come.1.3 in
    let may = next_may old.held first c.turns.reader c.next_block.new.self c.turns.crew c.next_block.new.crew c.turns.turn c.next_block.new.turn done.0 _ done.1 done.2 come in
    subst (λ (k : ℕ). length c.block.result.now % k ≡ 0) (sym size) (subst (λ (b : List ℕ). length b % record_length_of first.head.bytes ≡ 0) (sym block) may.whole)

pub see_all-requires-clause-shown : goal.see_all-requires-clause-shown
see_all-requires-clause-shown g c =
    let old = g.F.Files.seen c.args.files.now in
    let first = c.args.reader.now in
    let done = c.turns.invariant.shown in
    let s = c.from-size.result in
    let some : 0 < s = grind (arith, c.record_length.ensures.enough, c.from-size.ensures) in
    let size : s ≡ record_length_of first.head.bytes = c.from-size.ensures ∙ c.record_length.ensures.field ∙ ap (λ (h : HeadView). record_length_of h.bytes) c.head.ensures in
    let same = ap (λ (h : Option FileMap). file_at h first.name) c.turns.invariant.only.held in
    let come = subst (ComesTo old.held first c.next_block.new.self c.next_block.new.crew c.next_block.new.turn done.0 done.1) c.in-Some.is (c.in_ok-next.ensures.next old.held first done.0 done.1 done.2 same) in
    let block : c.block.result.now ≡ come.0 = c.block.ensures come.1.0 come.1.1 come.1.2 ∙ come.1.3 in
    let may = next_may old.held first c.turns.reader c.next_block.new.self c.turns.crew c.next_block.new.crew c.turns.turn c.next_block.new.turn done.0 _ done.1 done.2 come in (
      map (λ tap. (goal.Tap-dyn g (tap.vtable, tap.value)).tap_seen tap.value) c.args.taps.items,
      cut s (concat done.1),
      done.3,
      All-map (λ (tap : TapSeen). (bin : ℕ) → count_at tap.tally bin ≤ 2 ^ 63) (λ tap. (goal.Tap-dyn g (tap.vtable, tap.value)).tap_seen tap.value) c.args.taps.items c.requires.room,
      subst (λ (b : List ℕ). length (cut s (concat done.1)) + length b / s < 2 ^ 32) (sym block) (few_come first s (concat done.1) come.0 some size may c.requires.few),
    )

pub turns-preserved : goal.turns-preserved
turns-preserved g c =
    let old = g.F.Files.seen c.args.files.now in
    let first = c.args.reader.now in
    let done = c.turns.invariant.shown in
    let s = c.from-size.result in
    let some : 0 < s = grind (arith, c.record_length.ensures.enough, c.from-size.ensures) in
    let size : s ≡ record_length_of first.head.bytes = c.from-size.ensures ∙ c.record_length.ensures.field ∙ ap (λ (h : HeadView). record_length_of h.bytes) c.head.ensures in
    let same = ap (λ (h : Option FileMap). file_at h first.name) c.turns.invariant.only.held in
    let come = subst (ComesTo old.held first c.next_block.new.self c.next_block.new.crew c.next_block.new.turn done.0 done.1) c.in-Some.is (c.in_ok-next.ensures.next old.held first done.0 done.1 done.2 same) in
    let block : c.block.result.now ≡ come.0 = c.block.ensures come.1.0 come.1.1 come.1.2 ∙ come.1.3 in
    let may = next_may old.held first c.turns.reader c.next_block.new.self c.turns.crew c.next_block.new.crew c.turns.turn c.next_block.new.turn done.0 _ done.1 done.2 come in
    let taps = map (λ tap. (goal.Tap-dyn g (tap.vtable, tap.value)).tap_seen tap.value) c.args.taps.items in
    let seen = c.in_ok-see_all-in-Some.ensures taps (cut s (concat done.1)) done.3 in
    record {
      only = only_reads-trans _ _ _ c.turns.invariant.only c.next_block.ensures.reads.only;
      shown = (
        done.0 + 1,
        done.1 ++ come.0 ∷ [],
        come.2,
        block_shown first s done.1 come.0 taps (record { summary = c.see_all.new.self.summary; taps = map (λ tap. (goal.Tap-dyn g (tap.vtable, tap.value)).tap_seen tap.value) c.see_all.new.self.taps.items }) some size may (subst (λ (b : List ℕ). IsShown taps (cut s (concat done.1) ++ cut s b) (record { summary = c.see_all.new.self.summary; taps = map (λ tap. (goal.Tap-dyn g (tap.vtable, tap.value)).tap_seen tap.value) c.see_all.new.self.taps.items })) block seen),
      );
      calm = calm-trans _ _ _ c.turns.invariant.calm c.in_ok-next.ensures.calm;
      asked = omega (arith, c.turns.invariant.asked, c.in_ok-next.ensures.asked);
    }
