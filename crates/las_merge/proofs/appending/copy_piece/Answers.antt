use Rattle.std.proofs.lemmas.List.{append-nil}
use Rattle.las_outside.specs.Files.{with_file}
use Rattle.std.proofs.Common.{◌∙◌, ap, ℕ, List, sym}
use Rattle.las_outside.specs.Outside.{Outside}
use Rattle.las_outside.proofs.Public.{known_after}
use Rattle.las_merge.proofs.Appended.{piece_copied, piece_left}
use Rattle.las_merge.proofs.appending.copy_piece.Goals as goal

pub append-requires : goal.append-requires
append-requires g c =
    let h = c.requires.held in
    known_after h.0.held c.args.output.now h.1 (λ _. Unit {0}) _ (ap (λ (o : Outside). o.held) c.in-Ok.ensures.ok ∙ ap (λ (o : Outside). o.held) h.2) tt

pub returns-in-Ok-append-clause-copied : goal.returns-in-Ok-append-clause-copied
returns-in-Ok-append-clause-copied g c before text was =
    piece_copied before _ _ c.args.input.now c.args.output.now text _ c.args.place _ was c.in-Ok.ensures.ok c.in-Ok.ensures.bytes _ c.in-Ok-append.ensures.ok

pub returns-in-Err-append-clause-left : goal.returns-in-Err-append-clause-left
returns-in-Err-append-clause-left g c before text was =
    let e = c.in-Err-append.ensures.err in
    (e.0, piece_left before _ _ c.args.input.now c.args.output.now text _ c.args.place _ was c.in-Ok.ensures.ok c.in-Ok.ensures.bytes _ e.0 e.1)

pub returns-in-Err-clause-left : goal.returns-in-Err-clause-left
returns-in-Err-clause-left g c before text was = (
  0,
  ap (λ (o : Outside). o.held) c.in-Err.ensures.err ∙ ap (λ (o : Outside). o.held) was
      ∙ ap (λ (t : List ℕ). with_file before.held c.args.output.now t) (sym (append-nil text)),
)
