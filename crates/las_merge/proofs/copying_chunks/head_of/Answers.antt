use Rattle.std.proofs.Common.{◌≡◌, ℕ, List, Result, IfOk, ◌∙◌, ap}
use Rattle.std.proofs.lemmas.Result.{IfOk-from_err, IfOk-weaker}
use Rattle.las_header.specs.Counting.{with_sums}
use Rattle.las_header.specs.Fields.{format_of}
use Rattle.las_header.specs.Heads.{HeadView}
use Rattle.las_header.specs.Plain.{plain_of, with_vlr}
use Rattle.laz_table.specs.Payload.{laszip_payload}
use Rattle.laz_table.specs.VlrCauses.{extra_of}
use Rattle.laz_table.specs.declared.limits.TheConstants.{COUNTED_CHUNKS}
use Rattle.laz_forms.specs.Packing.{packed_head}
use Rattle.las_merge.specs.Opening.{first_read}
use Rattle.las_merge.specs.Summing.{long_returns_summed, returns_summed, summed_head}
use Rattle.las_merge.proofs.Whole.{head_first}
use Rattle.las_merge.proofs.copying_chunks.head_of.Goals as goal

-- a head with the payload of its own format is the packed one, stated for any chunk size, so that none is computed
is_packed_head : {E : Type 0} (r : Result HeadView E) (payload bytes summed : List ℕ) (chunk : ℕ) → IfOk r (λ head. head.bytes ≡ with_vlr payload bytes) → payload ≡ laszip_payload (format_of bytes) (extra_of bytes) chunk → bytes ≡ summed → IfOk r (λ head. head.bytes ≡ packed_head summed chunk)
is_packed_head r payload bytes summed chunk done is same =
    IfOk-weaker r _ _ (λ head e. e ∙ ap (λ (p : List ℕ). with_vlr p bytes) is ∙ ap (λ (h : List ℕ). packed_head h chunk) same) done

pub returns : goal.returns
returns c =
    let inputs = c.args.inputs.now in
    let first : c.head.result.now.bytes ≡ first_read inputs = ap (λ (h : HeadView). h.bytes) c.head.ensures ∙ head_first inputs c.index-inputs-0.result c.requires.some c.index-inputs-0.is in
    let plain : c.in_ok-plain.plain.bytes ≡ plain_of (first_read inputs) = c.in_ok-plain.ensures.bytes ∙ ap plain_of first in
    let short : c.returns_in.result ≡ returns_summed inputs = c.returns_in.ensures in
    let long : c.long_returns_in.result ≡ long_returns_summed inputs = c.long_returns_in.ensures in
    let points = c.requires.points in
    let bytes = c.with_sums-summed.result.bytes in
    let summed : bytes ≡ summed_head inputs = c.with_sums-summed.ensures.bytes ∙ (λ i. with_sums (points i) (short i) (long i) (plain i)) in
    let items : c.vlr_of-payload.result.items ≡ laszip_payload c.format.result c.extra.result COUNTED_CHUNKS = c.vlr_of-payload.ensures in
    let format : c.format.result ≡ format_of bytes = c.format.ensures.field in
    let extra : c.extra.result ≡ extra_of bytes = c.extra.ensures.field in
    let payload : c.deref.result.now ≡ laszip_payload (format_of bytes) (extra_of bytes) COUNTED_CHUNKS = c.deref.ensures.0 ∙ items ∙ (λ i. laszip_payload (format i) (extra i) COUNTED_CHUNKS) in
    let done : IfOk c.with_vlr.result (λ head. head.bytes ≡ with_vlr c.deref.result.now bytes) = c.with_vlr.ensures.bytes in
    is_packed_head c.with_vlr.result c.deref.result.now bytes (summed_head inputs) COUNTED_CHUNKS done payload summed

pub returns-in_err-plain : goal.returns-in_err-plain
returns-in_err-plain c = IfOk-from_err c.from_residual.result _ c.from_residual.ensures.0
