use Rattle.std.proofs.Common.{ℕ, ◌<◌, [], ◌∷◌, rules}
use Rattle.std.proofs.lemmas.Result.{err_from_is_err_and}
use Rattle.laz_range.proofs.Public.{Takes-then, TakesNone-first, TakesNone-second}
use Rattle.laz_models.specs.Bank.{model_at}
use Rattle.laz_integer.specs.Integer.{symbol_cut}
use Rattle.laz_integer.specs.Bytes.{has_bit}
use Rattle.laz_integer.specs.Fields.{IsByte, byte_cuts}
use Rattle.laz_integer.proofs.Public.{sized-takes, byte-model, first-model, sized-none}
use Rattle.laz_point10.proofs.reading.take_head.Goals as goal

pub returns-in_err-changes-clause-reads : goal.returns-in_err-changes-clause-reads
returns-in_err-changes-clause-reads c =
    let p = err_from_is_err_and c.from_residual.result c.from_residual.ensures.1 in
    let ms = c.args.models.now in
    let previous = c.args.previous.now in
    let size = (first-model ms.changes 64 [] c.requires.models.changes).1 in
    rw p.1 (TakesNone-first {Y = ℕ} (λ s. s < 64) (λ s y. IsByte (has_bit 32 s) previous.flags y) (λ s. symbol_cut (model_at ms.changes 0) s ∷ []) (λ s y. byte_cuts (has_bit 32 s) ms.flags previous.flags y) _ _
    (sized-none (model_at ms.changes 0) 64 _ _ size c.in_err-changes.ensures.reads))

pub returns-in_err-flags-clause-reads : goal.returns-in_err-flags-clause-reads
returns-in_err-flags-clause-reads c =
    let p = err_from_is_err_and c.from_residual-in_err-flags.result c.from_residual-in_err-flags.ensures.1 in
    let ms = c.args.models.now in
    let previous = c.args.previous.now in
    let size = (first-model ms.changes 64 [] c.requires.models.changes).1 in
    rw p.1 (TakesNone-second {Y = ℕ} (λ s. s < 64) (λ s y. IsByte (has_bit 32 s) previous.flags y) (λ s. symbol_cut (model_at ms.changes 0) s ∷ []) (λ s y. byte_cuts (has_bit 32 s) ms.flags previous.flags y) _ _ _ c.in_ok-changes.changes
    (sized-takes (model_at ms.changes 0) c.in_ok-changes.changes 64 _ _ size c.in_ok-changes.ensures.reads) (rw c.has_bit-marked.ensures at c.in_err-flags.ensures.reads))

pub returns-clause-reads : goal.returns-clause-reads
returns-clause-reads c =
    let ms = c.args.models.now in
    let previous = c.args.previous.now in
    let size = (first-model ms.changes 64 [] c.requires.models.changes).1 in
    Takes-then {Y = ℕ} (λ s. s < 64) (λ s y. IsByte (has_bit 32 s) previous.flags y) (λ s. symbol_cut (model_at ms.changes 0) s ∷ []) (λ s y. byte_cuts (has_bit 32 s) ms.flags previous.flags y) _ _ _ c.in_ok-changes.changes c.in_ok-flags.flags
    (sized-takes (model_at ms.changes 0) c.in_ok-changes.changes 64 _ _ size c.in_ok-changes.ensures.reads) (rw c.has_bit-marked.ensures at c.in_ok-flags.ensures.reads)

pub take_byte-requires-clause-size : goal.take_byte-requires-clause-size
take_byte-requires-clause-size c =
    let small : c.args.previous.now.flags < 256 = search rules in
    (byte-model 256 c.args.previous.now.flags c.args.models.now.flags c.requires.models.flags small).1
