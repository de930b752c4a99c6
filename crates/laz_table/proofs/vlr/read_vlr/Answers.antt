use Rattle.std.proofs.Common.{◌≡◌, ℕ, length, Ok, sym, ap, ◌∙◌, arith, List}
use Rattle.las_header.specs.Refusals.{first_cause}
use Rattle.las_header.specs.Numbers.{number_at}
use Rattle.las_header.specs.Vlrs.{laszip_vlrs_of}
use Rattle.laz_table.specs.VlrCauses.{payload_at, vlr_causes}
use Rattle.laz_table.proofs.VlrCauseLemmas.{answered_cause, payload-decides, payload-is, payload_within, unrefused}
use Rattle.laz_table.proofs.vlr.read_vlr.Goals as goal

pub payload_at-payload-requires : goal.payload_at-payload-requires
payload_at-payload-requires c =
    rw c.bytes.ensures.bytes (payload_within c.args.head.now.bytes c.in-Some.place (sym c.laszip_vlr.ensures ∙ c.in-Some.is) c.bytes.ensures.head.vlrs)

pub returns-in-Some-payload_cause-clause-chunk : goal.returns-in-Some-payload_cause-clause-chunk
returns-in-Some-payload_cause-clause-chunk c none =
    let one : length (laszip_vlrs_of c.args.head.now.bytes) ≡ 1 = omega (arith, c.laszip_count.ensures, c.if-laszip_count-ne1.false) in
    let payload = c.payload_at-payload.ensures ∙ ap (λ (b : List ℕ). payload_at c.in-Some.place b) c.bytes.ensures.bytes in
    let first = payload-decides c.args.head.now.bytes c.payload_at-payload.result.now c.in-Some.place _ _ _ c.payload_cause.result one (sym c.laszip_vlr.ensures ∙ c.in-Some.is) payload
    c.format.ensures.field c.extra.ensures.field c.points.ensures c.payload_cause.ensures.cause in
    unrefused (first_cause (vlr_causes c.args.head.now.bytes)) c.in-Some-payload_cause.cause none (first ∙ c.in-Some-payload_cause.is)

pub returns-in-Some-payload_cause-clause-refused : goal.returns-in-Some-payload_cause-clause-refused
returns-in-Some-payload_cause-clause-refused c cause is =
    let one : length (laszip_vlrs_of c.args.head.now.bytes) ≡ 1 = omega (arith, c.laszip_count.ensures, c.if-laszip_count-ne1.false) in
    let payload = c.payload_at-payload.ensures ∙ ap (λ (b : List ℕ). payload_at c.in-Some.place b) c.bytes.ensures.bytes in
    let first = payload-decides c.args.head.now.bytes c.payload_at-payload.result.now c.in-Some.place _ _ _ c.payload_cause.result one (sym c.laszip_vlr.ensures ∙ c.in-Some.is) payload
    c.format.ensures.field c.extra.ensures.field c.points.ensures c.payload_cause.ensures.cause in
    answered_cause (first_cause (vlr_causes c.args.head.now.bytes)) c.in-Some-payload_cause.cause cause (first ∙ c.in-Some-payload_cause.is) is

pub returns-in-None-clause-chunk : goal.returns-in-None-clause-chunk
returns-in-None-clause-chunk c none =
    let payload = c.payload_at-payload.ensures ∙ ap (λ (b : List ℕ). payload_at c.in-Some.place b) c.bytes.ensures.bytes in
    let is = payload-is c.args.head.now.bytes c.in-Some.place (sym c.laszip_vlr.ensures ∙ c.in-Some.is) in
    ap Ok (c.u32_at.ensures ∙ ap (λ (b : List ℕ). number_at 4 12 b) (payload ∙ sym is))

pub returns-in-None-clause-refused : goal.returns-in-None-clause-refused
returns-in-None-clause-refused c cause is =
    let one : length (laszip_vlrs_of c.args.head.now.bytes) ≡ 1 = omega (arith, c.laszip_count.ensures, c.if-laszip_count-ne1.false) in
    let payload = c.payload_at-payload.ensures ∙ ap (λ (b : List ℕ). payload_at c.in-Some.place b) c.bytes.ensures.bytes in
    let first = payload-decides c.args.head.now.bytes c.payload_at-payload.result.now c.in-Some.place _ _ _ c.payload_cause.result one (sym c.laszip_vlr.ensures ∙ c.in-Some.is) payload
    c.format.ensures.field c.extra.ensures.field c.points.ensures c.payload_cause.ensures.cause in
    unrefused (first_cause (vlr_causes c.args.head.now.bytes)) cause (first ∙ c.in-None.is) is
