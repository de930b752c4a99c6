use Rattle.std.proofs.lemmas.Result.{IfOk-from_err}
use Rattle.std.proofs.Common.{◌+◌, ◌-◌, ◌++◌, ℕ, List, min, take, drop, ◌∙◌, ap, append_assoc, arith}
use Rattle.las_outside.specs.Outside.{with_bytes, with_write_fault}
use Rattle.las_outside.proofs.Public.{changed_after, failed_after, known_of, on_err, only_writes-trans}
use Rattle.las_merge.proofs.Appended.{slice_more, slice_part, writes_by}
use Rattle.las_merge.proofs.appending.append_all.Goals as goal

pub append-requires : goal.append-requires
append-requires g c =
    let h = c.requires.held in
    known_of h.0 c.args.name.now (h.1 ++ take c.pieces.done c.args.bytes.now) (λ _. Unit {0}) _ (c.pieces.invariant.added h.0 h.1 h.2) tt

pub returns-in_err-append-clause-stopped : goal.returns-in_err-append-clause-stopped
returns-in_err-append-clause-stopped g c before text was =
    let name = c.args.name.now in
    let bytes = c.args.bytes.now in
    let done = c.pieces.done in
    let size = c.min-size.result in
    let e = c.in_err-append.ensures.err in
    let piece = take (done + size - done) (drop done bytes) in
    on_err c.from_residual.result (
      done + min e.0 (done + size - done),
      failed_after before name (text ++ take done bytes) (λ b. b ++ take e.0 piece) _ _ (c.pieces.invariant.added before text was) e.1
          ∙ ap (λ (t : List ℕ). with_write_fault (with_bytes before name t)) (append_assoc text (take done bytes) (take e.0 piece) ∙ ap (λ (t : List ℕ). text ++ t) (slice_part bytes done size e.0)),
    )

pub pieces-preserved : goal.pieces-preserved
pieces-preserved g c =
    let name = c.args.name.now in
    let bytes = c.args.bytes.now in
    let done = c.pieces.done in
    let size = c.min-size.result in
    let piece = take (done + size - done) (drop done bytes) in
    record {
      within = omega (arith, c.min-size.ensures, c.pieces-test.true);
      added = λ before text was. changed_after before name (text ++ take done bytes) (λ b. b ++ piece) _ _ (c.pieces.invariant.added before text was) c.in_ok-append.ensures.ok
          ∙ ap (λ (t : List ℕ). with_bytes before name t) (append_assoc text (take done bytes) piece ∙ ap (λ (t : List ℕ). text ++ t) (slice_more bytes done size));
      writes = only_writes-trans _ _ _ c.pieces.invariant.writes (writes_by _ _ _ _ c.in_ok-append.ensures.ok
          c.in_ok-append.ensures.later);
    }

pub returns-in_err-append-clause-added : goal.returns-in_err-append-clause-added
returns-in_err-append-clause-added g c before text is = IfOk-from_err c.from_residual.result _ c.from_residual.ensures.0
