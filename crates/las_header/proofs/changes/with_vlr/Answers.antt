use Rattle.std.proofs.Common.{◌≡◌, ℕ, ◌+◌, List, length, subst, sym, ap, ◌∙◌, arith}
use Rattle.std.specs.List.{splice}
use Rattle.las_header.specs.Fields.{point_offset_of, vlr_count_of, format_byte_of}
use Rattle.las_header.specs.Vlrs.{vlrs_end}
use Rattle.las_header.specs.Plain.{with_layout, laszip_vlr, with_vlr}
use Rattle.las_header.specs.Heads.{PacksHead}
use Rattle.las_header.proofs.PackingLemmas.{CanPack, packs, count_fits, plain_byte}
use Rattle.las_header.proofs.changes.with_vlr.Goals as goal

pub overflow_add-vlr_count : goal.overflow_add-vlr_count
overflow_add-vlr_count c =
    let can : CanPack c.args.payload.now c.args.head.now =
    record { head_is = c.requires.head; plain = c.requires.plain; none = c.requires.none; short = c.requires.short; bytes = λ k. omega (arith, c.type_inv.head k) } in
    omega (arith, count_fits can, c.vlr_count.ensures)

pub returns : goal.returns
returns c =
    let head = c.args.head.now in
    let payload = c.args.payload.now in
    let can : CanPack payload head =
    record { head_is = c.requires.head; plain = c.requires.plain; none = c.requires.none; short = c.requires.short; bytes = λ k. omega (arith, c.type_inv.head k) } in
    let size = 54 + length payload in
    let format : c.format.result ≡ format_byte_of head = omega (arith, c.format.ensures, plain_byte can) in
    let middle : c.in_ok-bytes.bytes.items ≡ splice head (vlrs_end head) (vlrs_end head) (laszip_vlr payload) =
    c.in_ok-bytes.ensures
    ∙ ap (λ (e : ℕ). splice head e e c.deref.result.now) c.end_of_vlrs-end.ensures
    ∙ ap (λ (v : List ℕ). splice head (vlrs_end head) (vlrs_end head) v) (c.deref.ensures.value ∙ c.in_ok-vlr.ensures) in
    let is : c.set_layout.new.head.items ≡ with_vlr payload head =
    c.set_layout.ensures
    ∙ ap (λ (b : List ℕ). with_layout (c.point_offset.result + size) (c.vlr_count.result + 1) (c.format.result + 128) b) middle
    ∙ ap (λ (o : ℕ). with_layout (o + size) (c.vlr_count.result + 1) (c.format.result + 128) (splice head (vlrs_end head) (vlrs_end head) (laszip_vlr payload))) c.point_offset.ensures
    ∙ ap (λ (n : ℕ). with_layout (point_offset_of head + size) (n + 1) (c.format.result + 128) (splice head (vlrs_end head) (vlrs_end head) (laszip_vlr payload))) c.vlr_count.ensures
    ∙ ap (λ (f : ℕ). with_layout (point_offset_of head + size) (vlr_count_of head + 1) (f + 128) (splice head (vlrs_end head) (vlrs_end head) (laszip_vlr payload))) format in
    subst (λ (b : List ℕ). PacksHead payload head b) (sym is) (packs payload head can)
