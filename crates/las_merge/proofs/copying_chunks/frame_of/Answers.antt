use Rattle.laz_table.specs.Table.{table_bytes}
use Rattle.std.proofs.Common.{◌∙◌, ap, ℕ, List, length, sum, sym, arith}
use Rattle.std.proofs.lemmas.Result.{IfOk-from_err}
use Rattle.laz_table.specs.declared.limits.TheConstants.{COUNTED_CHUNKS}
use Rattle.laz_forms.specs.Packing.{packed_head}
use Rattle.las_merge.specs.Summing.{summed_head}
use Rattle.las_merge.proofs.copying_chunks.frame_of.Goals as goal

pub returns-clause-head : goal.returns-clause-head
returns-clause-head c = c.in_ok-head.ensures ∙ ap (λ inputs. packed_head (summed_head inputs) COUNTED_CHUNKS) c.deref.ensures.value

pub returns-in_err-head-clause-head : goal.returns-in_err-head-clause-head
returns-in_err-head-clause-head c = IfOk-from_err c.from_residual.result _ c.from_residual.ensures.0

pub returns-in_err-head-clause-place : goal.returns-in_err-head-clause-place
returns-in_err-head-clause-place c = IfOk-from_err c.from_residual.result _ c.from_residual.ensures.0

pub returns-in_err-head-clause-table : goal.returns-in_err-head-clause-table
returns-in_err-head-clause-table c = IfOk-from_err c.from_residual.result _ c.from_residual.ensures.0

pub returns-in_err-head-clause-buffer : goal.returns-in_err-head-clause-buffer
returns-in_err-head-clause-buffer c = IfOk-from_err c.from_residual.result _ c.from_residual.ensures.0

pub returns-in_err-table-clause-head : goal.returns-in_err-table-clause-head
returns-in_err-table-clause-head c = IfOk-from_err c.from_residual-in_err-table.result _ c.from_residual-in_err-table.ensures.0

pub returns-in_err-table-clause-place : goal.returns-in_err-table-clause-place
returns-in_err-table-clause-place c = IfOk-from_err c.from_residual-in_err-table.result _ c.from_residual-in_err-table.ensures.0

pub returns-in_err-table-clause-table : goal.returns-in_err-table-clause-table
returns-in_err-table-clause-table c = IfOk-from_err c.from_residual-in_err-table.result _ c.from_residual-in_err-table.ensures.0

pub returns-in_err-table-clause-buffer : goal.returns-in_err-table-clause-buffer
returns-in_err-table-clause-buffer c = IfOk-from_err c.from_residual-in_err-table.result _ c.from_residual-in_err-table.ensures.0

pub returns-in_err-buffer-clause-head : goal.returns-in_err-buffer-clause-head
returns-in_err-buffer-clause-head c = IfOk-from_err c.from_residual-in_err-buffer.result _ c.from_residual-in_err-buffer.ensures.0

pub returns-in_err-buffer-clause-place : goal.returns-in_err-buffer-clause-place
returns-in_err-buffer-clause-place c = IfOk-from_err c.from_residual-in_err-buffer.result _ c.from_residual-in_err-buffer.ensures.0

pub returns-in_err-buffer-clause-table : goal.returns-in_err-buffer-clause-table
returns-in_err-buffer-clause-table c = IfOk-from_err c.from_residual-in_err-buffer.result _ c.from_residual-in_err-buffer.ensures.0

pub returns-in_err-buffer-clause-buffer : goal.returns-in_err-buffer-clause-buffer
returns-in_err-buffer-clause-buffer c = IfOk-from_err c.from_residual-in_err-buffer.result _ c.from_residual-in_err-buffer.ensures.0

pub returns-clause-place : goal.returns-clause-place
returns-clause-place c =
    let bytes = ap (λ (b : List ℕ). length b) c.bytes.ensures.bytes in
    let sizes = ap (λ (b : List ℕ). sum b) c.deref-2.ensures.value in
    omega (arith, bytes, c.total.ensures.sum, sizes)

pub returns-clause-table : goal.returns-clause-table
returns-clause-table c =
    c.in_ok-table.ensures ∙ (λ i. table_bytes (c.deref-3.ensures.value i) (c.deref-4.ensures.value i))

pub returns-clause-buffer : goal.returns-clause-buffer
returns-clause-buffer c = omega (arith, c.in_ok-buffer.ensures.len, c.in_ok-buffer.buffer.ok.0)

pub counted_table_of-requires : goal.counted_table_of-requires
counted_table_of-requires c =
    let counts = ap (λ (b : List ℕ). length b) c.deref-3.ensures.value in
    let sizes = ap (λ (b : List ℕ). length b) c.deref-4.ensures.value in
    record { same = counts ∙ c.requires.same ∙ sym sizes; few = omega (arith, sizes, c.requires.few) }
