use Rattle.std.proofs.Common.{◌≡◌, ℕ, List, Option, sym, ◌∙◌, ap}
use Rattle.std.proofs.lemmas.Result.{IfOk-weaker}
use Rattle.las_header.specs.Fields.{format_of}
use Rattle.las_header.specs.Heads.{HeadView}
use Rattle.las_header.specs.Plain.{with_vlr}
use Rattle.laz_table.specs.Payload.{laszip_payload}
use Rattle.laz_table.specs.VlrCauses.{extra_of}
use Rattle.laz_writer.specs.Writing.{written_head}
use Rattle.laz_writer.proofs.begin.formed.Goals as goal

pub returns : goal.returns
returns c =
    let h = c.args.head.now.bytes in
    let payload : c.deref.result.now ≡ laszip_payload (format_of h) (extra_of h) c.in-Some.chunk =
    c.deref.ensures.0 ∙ c.vlr_of-payload.ensures ∙ ap (λ (f : ℕ). laszip_payload f c.extra.result c.in-Some.chunk) c.format.ensures.field
    ∙ ap (λ (e : ℕ). laszip_payload (format_of h) e c.in-Some.chunk) c.extra.ensures.field in
    IfOk-weaker c.with_vlr.result (λ (w : HeadView). w.bytes ≡ with_vlr c.deref.result.now h) (λ (w : HeadView). w.bytes ≡ written_head c.args.chunk h)
    (λ w is. is ∙ ap (λ (p : List ℕ). with_vlr p h) payload ∙ ap (λ (k : Option ℕ). written_head k h) (sym c.in-Some.is)) c.with_vlr.ensures.bytes
