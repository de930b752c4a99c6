use Rattle.las_outside.proofs.Public.{only_writes-refl}
use Rattle.std.proofs.lemmas.Result.{IfOk-from_err}
use Rattle.std.proofs.Common.{rules, ◌≡◌, ◌<◌, ◌≤◌, ◌*◌, ◌^◌, ℕ, List, ◌++◌, length, map, take, sym, ◌∙◌, ap, subst}
use Rattle.std.specs.Prelude.{All, Contains, Vec}
use Rattle.std.proofs.lemmas.List.{length-map}
use Rattle.las_outside.specs.Outside.{Outside, with_bytes}
use Rattle.laz_chunk.specs.Layouts.{Format}
use Rattle.laz_workers.specs.Rooms.{HandSeen, lengths_of, numbers_in, rooms_of}
use Rattle.laz_workers.specs.Run.{EveryInputFits}
use Rattle.laz_workers.specs.Work.{HoldsAnswer, texts}
use Rattle.laz_writer.specs.Writing.{FitsRoom, IsBlock, IsChunk, PackingSeen, Stops, all_chunks}
use Rattle.laz_writer.proofs.Rooms.{fit_rooms, goes_on, plan_of, small_rooms}
use Rattle.laz_forms.proofs.Public.{All-unmap, if_err}
use Rattle.laz_writer.proofs.packing.Packing.append_kept.Goals as goal

pub work_batch-requires-clause-fits : goal.work_batch-requires-clause-fits
work_batch-requires-clause-fits g c κs within =
    let p = c.self.inside in
    let plan = plan_of p.job p.chunk p.most p.pointer (length p.crew) in
    let P : PackingSeen → Type 0 = λ q. All (IsBlock q.plan) q.kept in
    let blocks : All (IsBlock plan) (texts p.kept.items) = subst P (sym c.self.view_is) c.requires.blocks in
    let all = fit_rooms plan (map (λ (h : HandSeen Format). h.space) p.crew) (lengths_of (rooms_of p.crew)) c.self.invariant.0 (texts p.kept.items) blocks in
    subst (λ (v : List (Vec ℕ _)). EveryInputFits (FitsRoom p.job) (texts v) (lengths_of (rooms_of p.crew))) (sym c.as_slice.ensures.value) all

pub work_batch-requires-clause-suits : goal.work_batch-requires-clause-suits
work_batch-requires-clause-suits g c κs within =
    let p = c.self.inside in
    All-unmap (λ (s : Format). s ≡ p.job) (λ (h : HandSeen Format). h.space) p.crew c.self.invariant.0.spaces_are

pub invariant_of-self : goal.invariant_of-self
invariant_of-self g c =
    let p = c.self.inside in
    (goes_on p.job p.chunk p.most p.pointer p.crew c.work_batch.new.crew c.self.invariant.0 c.work_batch.ensures.hands c.work_batch.ensures.lengths c.work_batch.ensures.suits, c.self.invariant.1)

pub put_chunks-requires-clause-answers : goal.put_chunks-requires-clause-answers
put_chunks-requires-clause-answers g c =
    subst (λ (v : List (Vec ℕ _)). All (HoldsAnswer (IsChunk c.self.inside.job) (texts v)) (rooms_of c.work_batch.new.crew)) (c.as_slice.ensures.value ∙ sym c.as_slice-2.ensures.value) c.in_ok-work_batch.ensures.answers

pub put_chunks-requires-clause-small : goal.put_chunks-requires-clause-small
put_chunks-requires-clause-small g c =
    let p = c.self.inside in
    let plan = plan_of p.job p.chunk p.most p.pointer (length p.crew) in
    subst (λ (ns : List ℕ). All (λ (n : ℕ). n < 2 ^ 32) ns) (sym c.work_batch.ensures.lengths) (small_rooms plan (map (λ (h : HandSeen Format). h.space) p.crew) (lengths_of (rooms_of p.crew)) c.self.invariant.0)

pub invariant_of-self-in_err-put_chunks : goal.invariant_of-self-in_err-put_chunks
invariant_of-self-in_err-put_chunks g c =
    let p = c.self.inside in
    (goes_on p.job p.chunk p.most p.pointer p.crew c.work_batch.new.crew c.self.invariant.0 c.work_batch.ensures.hands c.work_batch.ensures.lengths c.work_batch.ensures.suits, c.self.invariant.1)

pub invariant_of-self-2 : goal.invariant_of-self-2
invariant_of-self-2 g c =
    let p = c.self.inside in
    (goes_on p.job p.chunk p.most p.pointer p.crew c.work_batch.new.crew c.self.invariant.0 c.work_batch.ensures.hands c.work_batch.ensures.lengths c.work_batch.ensures.suits, c.self.invariant.1)

pub work_batch-requires-clause-inputs : goal.work_batch-requires-clause-inputs
work_batch-requires-clause-inputs g c κs within =
    let p = c.self.inside in
    let few : length (texts p.kept.items) ≤ 2 * length p.crew =
    subst (λ (q : PackingSeen). length q.kept ≤ 2 * q.plan.workers) (sym c.self.view_is) c.requires.few in
    let long : length (texts p.kept.items) ≡ length p.kept.items = length-map p.kept.items _ in
    subst (λ (v : List (Vec ℕ _)). length v ≤ 2 * length p.crew) (sym c.as_slice.ensures.value)
    (subst (λ (n : ℕ). n ≤ 2 * length p.crew) long few)

pub put_chunks-requires-clause-stand : goal.put_chunks-requires-clause-stand
put_chunks-requires-clause-stand g c =
    subst
    (λ (v : List (Vec ℕ _)). (number : ℕ) → number < length v → Contains (numbers_in (rooms_of c.work_batch.new.crew)) number)
    (c.as_slice.ensures.value ∙ sym c.as_slice-2.ensures.value) c.in_ok-work_batch.ensures.stand

pub returns-clause-stopped : goal.returns-clause-stopped
returns-clause-stopped g c = λ before text is. tt

pub returns-clause-writes : goal.returns-clause-writes
returns-clause-writes g c = c.put_chunks.ensures.writes

pub returns-in_err-work_batch : goal.returns-in_err-work_batch
returns-in_err-work_batch g c =
    record {
      added = λ before text is. IfOk-from_err c.from_residual.result _ c.from_residual.ensures.0;
      stopped = search rules;
      packing = IfOk-from_err c.from_residual.result _ c.from_residual.ensures.0;
      plan = search rules;
      writes = only_writes-refl (g.F.Files.seen c.args.files.now);
    }

pub returns-in_err-put_chunks : goal.returns-in_err-put_chunks
returns-in_err-put_chunks g c =
    record {
      added =
          λ before text is. IfOk-from_err c.from_residual-in_err-put_chunks.result _
          c.from_residual-in_err-put_chunks.ensures.0;
      stopped = λ before text was. let left = c.in_err-put_chunks.ensures.stopped before text was in
          let kept = ap (λ (v : List (Vec ℕ _)). texts v) c.as_slice-2.ensures.value in
          let made =
          ap (λ (bs : List (List ℕ)). with_bytes before c.args.name.now (text ++ take left.0 (all_chunks
          c.self.inside.job bs))) kept
          ∙ ap (λ (q : PackingSeen). with_bytes before c.args.name.now (text ++ take left.0 (all_chunks q.plan.format
          q.kept))) c.self.view_is in
          if_err _ c.from_residual-in_err-put_chunks.result _ c.from_residual-in_err-put_chunks.ensures.1 (
            left.0,
            subst (λ (o : Outside). Stops c.in_err-put_chunks.field-0.0 o (g.F.Files.seen c.put_chunks.new.files))
                made left.1,
          );
      packing = IfOk-from_err c.from_residual-in_err-put_chunks.result _ c.from_residual-in_err-put_chunks.ensures.0;
      plan = search rules;
      writes = c.put_chunks.ensures.writes;
    }
