use Rattle.laz_forms.specs.declared.fault.Fault.TheVariants.{Memory}
use Rattle.laz_forms.proofs.Public.{if_err}
use Rattle.std.proofs.lemmas.Result.{IfOk-from_err}
use Rattle.std.proofs.Common.{◌≡◌, ◌⊎◌, inr, ℕ, List, take, ◌∙◌, subst}
use Rattle.std.specs.Prelude.{None, true, string_bytes}
use Rattle.las_outside.specs.Files.{with_file}
use Rattle.las_outside.proofs.Public.{on_err}
use Rattle.laz_forms.specs.Outputs.{Output, front}
use Rattle.las_split.proofs.Opening.{left_created, left_whole}
use Rattle.las_split.proofs.parts.Parts.open.Goals as goal

pub returns-in_err-writer-clause-left : goal.returns-in_err-writer-clause-left
returns-in_err-writer-clause-left g c =
    let old = g.F.Files.seen c.args.files.now in
    let new = g.F.Files.seen c.create.new.files in
    let name = c.deref.ensures ∙ c.in_ok-name.ensures in
    let out : Output = record { name = c.deref.result.now; head = c.args.splitter.now.head.now.bytes; chunk = None; counted = true } in
    on_err c.from_residual-in_err-writer.result
    (subst (λ (t : List ℕ). (new.held ≡ old.held) ⊎ ((n : ℕ) × (new.held ≡ with_file old.held t (take n (front out))))) name
    (left_created old new out c.in_err-writer.field-0.0 c.in_err-writer.ensures.stopped))

pub returns-in_err-add-clause-left : goal.returns-in_err-add-clause-left
returns-in_err-add-clause-left g c =
    let names = c.args.splitter.now.names.now in
    on_err c.from_residual-in_err-add.result
    (inr (left_whole (g.F.Files.seen c.args.files.now) (g.F.Files.seen c.create.new.files) (string_bytes names.stem) (string_bytes names.end) c.args.splitter.now.head.now.bytes c.args.number c.in_ok-writer.writer c.deref.result.now (c.deref.ensures ∙ c.in_ok-name.ensures) c.in_ok-writer.ensures.stands))

pub returns-clause-left : goal.returns-clause-left
returns-clause-left g c =
    let names = c.args.splitter.now.names.now in
    inr (left_whole (g.F.Files.seen c.args.files.now) (g.F.Files.seen c.create.new.files) (string_bytes names.stem) (string_bytes names.end) c.args.splitter.now.head.now.bytes c.args.number c.in_ok-writer.writer c.deref.result.now (c.deref.ensures ∙ c.in_ok-name.ensures) c.in_ok-writer.ensures.stands)

pub returns-in_err-name-clause-numbers : goal.returns-in_err-name-clause-numbers
returns-in_err-name-clause-numbers g c = IfOk-from_err c.from_residual.result _ c.from_residual.ensures.0

pub returns-in_err-name-clause-writers : goal.returns-in_err-name-clause-writers
returns-in_err-name-clause-writers g c = IfOk-from_err c.from_residual.result _ c.from_residual.ensures.0

pub returns-in_err-name-clause-calm : goal.returns-in_err-name-clause-calm
returns-in_err-name-clause-calm g c = IfOk-from_err c.from_residual.result _ c.from_residual.ensures.0

pub returns-in_err-writer-clause-numbers : goal.returns-in_err-writer-clause-numbers
returns-in_err-writer-clause-numbers g c =
    IfOk-from_err c.from_residual-in_err-writer.result _ c.from_residual-in_err-writer.ensures.0

pub returns-in_err-writer-clause-writers : goal.returns-in_err-writer-clause-writers
returns-in_err-writer-clause-writers g c =
    IfOk-from_err c.from_residual-in_err-writer.result _ c.from_residual-in_err-writer.ensures.0

pub returns-in_err-writer-clause-calm : goal.returns-in_err-writer-clause-calm
returns-in_err-writer-clause-calm g c =
    IfOk-from_err c.from_residual-in_err-writer.result _ c.from_residual-in_err-writer.ensures.0

pub returns-in_err-add-clause-numbers : goal.returns-in_err-add-clause-numbers
returns-in_err-add-clause-numbers g c =
    IfOk-from_err c.from_residual-in_err-add.result _ c.from_residual-in_err-add.ensures.0

pub returns-in_err-add-clause-writers : goal.returns-in_err-add-clause-writers
returns-in_err-add-clause-writers g c =
    IfOk-from_err c.from_residual-in_err-add.result _ c.from_residual-in_err-add.ensures.0

pub returns-in_err-add-clause-calm : goal.returns-in_err-add-clause-calm
returns-in_err-add-clause-calm g c =
    IfOk-from_err c.from_residual-in_err-add.result _ c.from_residual-in_err-add.ensures.0

pub returns-in_err-name-clause-cause : goal.returns-in_err-name-clause-cause
returns-in_err-name-clause-cause g c = if_err _ c.from_residual.result Memory c.from_residual.ensures.1 tt

pub returns-in_err-add-clause-cause : goal.returns-in_err-add-clause-cause
returns-in_err-add-clause-cause g c =
    if_err _ c.from_residual-in_err-add.result Memory c.from_residual-in_err-add.ensures.1 tt
