use Rattle.std.proofs.Common.{ℕ, [], ◌∷◌, refl, ap}
use Rattle.byteorder.specs.Endian.{little_bytes}
use Rattle.las_make.specs.Records.{base_fields, class_made, flags_made, intensity_made, x_made, y_made, z_made}
use Rattle.las_make.proofs.Placed.{put_next}
use Rattle.las_make.proofs.records.put_base.Goals as goal

pub returns : goal.returns
unfolding base_fields
returns c =
    let k = c.args.k in
    let d = c.args.draws in
    let one = put_next 0 4 c.args.place.now c.put.new.place _ [] (little_bytes 4 (x_made k d)) refl c.to_le_bytes.ensures refl c.put.ensures in
    let two = put_next 4 8 c.put.new.place c.put-2.new.place _ _ (little_bytes 4 (y_made k d)) one c.to_le_bytes-2.ensures refl c.put-2.ensures in
    let three = put_next 8 12 c.put-2.new.place c.put-3.new.place _ _ (little_bytes 4 (z_made d)) two c.to_le_bytes-3.ensures refl c.put-3.ensures in
    let four = put_next 12 14 c.put-3.new.place c.put-4.new.place _ _ (little_bytes 2 (intensity_made d)) three c.to_le_bytes-4.ensures refl c.put-4.ensures in
    let five = put_next 14 18 c.put-4.new.place c.put-5.new.place _ _ (flags_made k d ∷ class_made d ∷ 0 ∷ 0 ∷ []) four (ap (λ (b : ℕ). b ∷ class_made d ∷ 0 ∷ 0 ∷ []) c.flags.ensures) refl c.put-5.ensures in
    put_next 18 20 c.put-5.new.place c.put-6.new.place _ _ (little_bytes 2 1) five c.to_le_bytes-5.ensures refl c.put-6.ensures
