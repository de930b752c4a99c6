use Rattle.std.proofs.Common.{◌≡◌, ℕ, ◌+◌, ◌-◌, List, [], length, take, drop, slice_get, subst, sym, ap, ◌∙◌, arith, length-append}
use Rattle.std.proofs.lemmas.List.{length-take-le}
use Rattle.std.specs.List.{splice}
use Rattle.las_header.specs.Fields.{point_offset_of, vlr_count_of, format_of}
use Rattle.las_header.specs.Vlrs.{laszip_vlrs_of, vlr_size}
use Rattle.las_header.specs.Plain.{with_layout, without_vlr}
use Rattle.las_header.specs.Heads.{IsPlainOf}
use Rattle.las_header.proofs.VlrLemmas.{first_said}
use Rattle.las_header.proofs.UnpackingLemmas.{plains}
use Rattle.las_header.proofs.changes.without_vlr.Goals as goal

pub set_layout-requires : goal.set_layout-requires
set_layout-requires c =
    let head = c.args.head.now in
    let start = c.laszip_bounds-start.result.0 in
    let front : length (take start head) ≡ start = length-take-le start head (omega (arith, c.laszip_bounds-start.ensures.within)) in
    let size = ap length c.in_ok-bytes.ensures in
    omega (arith, size, front, c.laszip_bounds-start.ensures.block, length-append (take start head) (drop (start + c.laszip_bounds-start.result.1) head))

pub returns : goal.returns
returns c =
    let head = c.args.head.now in
    let start = c.laszip_bounds-start.result.0 in
    let size = c.laszip_bounds-start.result.1 in
    let said = first_said (slice_get (laszip_vlrs_of head) 0) (λ place. (start ≡ place.start) × (size ≡ vlr_size place)) c.laszip_bounds-start.ensures.first in
    let place = said.0 in
    let is : c.set_layout.new.head.items ≡ without_vlr place head =
    c.set_layout.ensures
    ∙ ap (λ (b : List ℕ). with_layout (c.point_offset.result - size) (c.vlr_count.result - 1) c.format.result b) c.in_ok-bytes.ensures
    ∙ ap (λ (o : ℕ). with_layout (o - size) (c.vlr_count.result - 1) c.format.result (splice head start (start + size) [])) c.point_offset.ensures
    ∙ ap (λ (n : ℕ). with_layout (point_offset_of head - size) (n - 1) c.format.result (splice head start (start + size) [])) c.vlr_count.ensures
    ∙ ap (λ (f : ℕ). with_layout (point_offset_of head - size) (vlr_count_of head - 1) f (splice head start (start + size) [])) c.format.ensures
    ∙ ap (λ (n : ℕ). with_layout (point_offset_of head - n) (vlr_count_of head - 1) (format_of head) (splice head start (start + n) [])) said.2.1
    ∙ ap (λ (s : ℕ). with_layout (point_offset_of head - vlr_size place) (vlr_count_of head - 1) (format_of head) (splice head s (s + vlr_size place) [])) said.2.0 in
    subst (λ (b : List ℕ). IsPlainOf head b) (sym is) (plains head place c.requires.head c.requires.packed c.requires.one said.1)
