-- The lengths of records, and of rooms for the chunk of whole records.
use Rattle.std.proofs.Common.{◌≡◌, ℕ, zero, suc, ◌<◌, ◌≤◌, ◌*◌, ◌%◌, List, length, sym, ap, ◌∙◌, arith}
use Rattle.std.proofs.Math.Nat.{mul-mod_right}
use Rattle.laz_chunk.specs.Layouts.{Format, HasFormatLength, layout, record_length, room_for}
use Rattle.laz_chunk.specs.Chunks.{count_of}
use Rattle.laz_chunk.proofs.Ends.{count-is}

pub format-length : (format extra : ℕ) → format < 4 → HasFormatLength format extra
format-length zero extra few = omega arith
format-length (suc zero) extra few = omega arith
format-length (suc (suc zero)) extra few = omega arith
format-length (suc (suc (suc zero))) extra few = omega arith
format-length (suc (suc (suc (suc format)))) extra few = absurd (omega (arith, few))

-- ---- what `pack` asks for of n records, if the workspace's format is also known by other numbers
pub are-whole : (f g : Format) (n : ℕ) (records : List ℕ) → f ≡ g → length records ≡ record_length (layout g) * n → length records % record_length (layout f) ≡ 0
are-whole f g n records same long =
    ap (λ (w : Format). length records % record_length (layout w)) same
    ∙ (ap (λ (k : ℕ). k % record_length (layout g)) long ∙ mul-mod_right (record_length (layout g)) n)

pub are-enough : (f g : Format) (n room : ℕ) (records : List ℕ) → f ≡ g → length records ≡ record_length (layout g) * n → room ≡ room_for (layout g) n → room_for (layout f) (count_of (layout f) records) ≤ room
are-enough f g n room records same long is =
    let all : room_for (layout f) (count_of (layout f) records) ≡ room =
    ap (λ (w : Format). room_for (layout w) (count_of (layout w) records)) same
    ∙ (ap (room_for (layout g)) (count-is (layout g) n records long) ∙ sym is) in
    omega (arith, all)
