use Rattle.std.proofs.Common.{[], ◌∷◌, codes, replicate, refl, ◌∙◌, ap}
use Rattle.byteorder.specs.Endian.{little_bytes}
use Rattle.las_make.specs.Made.{blank_head, made_length, scale_bytes}
use Rattle.las_make.proofs.Placed.{appended}
use Rattle.las_make.proofs.head.blank_bytes.Goals as goal

pub returns : goal.returns
unfolding blank_head
returns c =
    let part_1 = appended c.in_ok-head.head.items c.extend_from_slice.new.self.items _ [] (codes "LASF") c.in_ok-head.ensures.items refl c.in_ok-extend_from_slice.ensures.items in
    let part_2 = appended c.extend_from_slice.new.self.items c.extend_from_slice-2.new.self.items _ _ (replicate 20 0) part_1 refl c.in_ok-extend_from_slice-2.ensures.items in
    let part_3 = appended c.extend_from_slice-2.new.self.items c.extend_from_slice-3.new.self.items _ _ (1 ∷ 2 ∷ []) part_2 refl c.in_ok-extend_from_slice-3.ensures.items in
    let part_4 = appended c.extend_from_slice-3.new.self.items c.extend_from_slice-4.new.self.items _ _ (replicate 68 0) part_3 refl c.in_ok-extend_from_slice-4.ensures.items in
    let part_5 = appended c.extend_from_slice-4.new.self.items c.extend_from_slice-5.new.self.items _ _ (little_bytes 2 227) part_4 c.to_le_bytes.ensures c.in_ok-extend_from_slice-5.ensures.items in
    let part_6 = appended c.extend_from_slice-5.new.self.items c.extend_from_slice-6.new.self.items _ _ (little_bytes 4 227) part_5 c.to_le_bytes-2.ensures c.in_ok-extend_from_slice-6.ensures.items in
    let part_7 = appended c.extend_from_slice-6.new.self.items c.extend_from_slice-7.new.self.items _ _ (little_bytes 4 0) part_6 c.to_le_bytes-3.ensures c.in_ok-extend_from_slice-7.ensures.items in
    let part_8 = appended c.extend_from_slice-7.new.self.items c.extend_from_slice-8.new.self.items _ _ (c.args.settings.format ∷ []) part_7 refl c.in_ok-extend_from_slice-8.ensures.items in
    let part_9 = appended c.extend_from_slice-8.new.self.items c.extend_from_slice-9.new.self.items _ _ (little_bytes 2 (made_length c.args.settings)) part_8 (c.to_le_bytes-4.ensures ∙ ap (little_bytes 2) c.record_length-length.ensures) c.in_ok-extend_from_slice-9.ensures.items in
    let part_10 = appended c.extend_from_slice-9.new.self.items c.extend_from_slice-10.new.self.items _ _ (replicate 24 0) part_9 refl c.in_ok-extend_from_slice-10.ensures.items in
    let part_11 = appended c.extend_from_slice-10.new.self.items c.extend_from_slice-11.new.self.items _ _ (scale_bytes) part_10 refl c.in_ok-extend_from_slice-11.ensures.items in
    let part_12 = appended c.extend_from_slice-11.new.self.items c.extend_from_slice-12.new.self.items _ _ (scale_bytes) part_11 refl c.in_ok-extend_from_slice-12.ensures.items in
    let part_13 = appended c.extend_from_slice-12.new.self.items c.extend_from_slice-13.new.self.items _ _ (scale_bytes) part_12 refl c.in_ok-extend_from_slice-13.ensures.items in
    appended c.extend_from_slice-13.new.self.items c.extend_from_slice-14.new.self.items _ _ (replicate 72 0) part_13 refl c.in_ok-extend_from_slice-14.ensures.items
