-- Blocks of records and the rooms of a crew that packs them.
use Rattle.std.proofs.Common.{◌≡◌, ℕ, zero, suc, ◌-◌, ◌*◌, ◌%◌, ◌^◌, ◌<◌, ◌≤◌, min, Bool, true, false, List, length, map, sym, ◌∙◌, ap, subst, arith}
use Rattle.std.specs.Prelude.{All}
use Rattle.std.proofs.Math.Nat.{mul-le-mul, mul-le-mul_left, mul-mod_right}
use Rattle.std.proofs.lemmas.List.Elements.{All-map, All-weaker}
use Rattle.las_outside.specs.Limits.{AreWorkers}
use Rattle.laz_chunk.specs.Layouts.{Format, Layout, colour_length, layout, most_events, record_length, room_for, time_length}
use Rattle.laz_chunk.specs.Chunks.{count_of}
use Rattle.laz_chunk.proofs.Public.{count-is, room_is}
use Rattle.laz_workers.specs.Rooms.{HandSeen, lengths_of, rooms_of}
use Rattle.laz_workers.specs.Run.{EveryInputFits}
use Rattle.laz_writer.specs.Writing.{CanPack, FitsRoom, IsBlock, Plan}

-- a room for more records is larger
pub room_more : (l : Layout) (m n : ℕ) → 1 ≤ m → m ≤ n → room_for l m ≤ room_for l n
room_more l m n some more =
    let less : m - 1 ≤ n - 1 = omega arith in
    omega (arith, room_is l m some, room_is l n (omega arith), mul-le-mul_left (3 * most_events l) less)

time_least : (b : Bool) → time_length b ≤ 8
time_least true = omega arith
time_least false = omega arith

colour_least : (b : Bool) → colour_length b ≤ 6
colour_least true = omega arith
colour_least false = omega arith

-- a room for at most 250,000 records is small
pub room_small : (f : Format) (n : ℕ) → f.extra < 193 → n ≤ 250000 → room_for (layout f) n < 2 ^ 32
room_small f zero extra few = omega arith
room_small f (suc n) extra few =
    let l : Layout = layout f in
    let events : 3 * most_events l ≤ 690 = omega (arith, extra) in
    let times : time_length l.times ≤ 8 = time_least l.times in
    let colours : colour_length l.colours ≤ 6 = colour_least l.colours in
    let fewer : suc n - 1 ≤ 249999 = omega (arith, few) in
    let most : 3 * most_events l * (suc n - 1) ≤ 690 * 249999 = mul-le-mul events fewer in
    let size : record_length l ≤ 226 = omega (arith, extra, times, colours) in
    omega (arith, room_is l (suc n) (omega arith), most, size)

module _ (plan : Plan) (spaces : List Format) (rooms : List ℕ) (can : CanPack plan spaces rooms) where
  -- a block fits a room for the largest one
  fits_room : (block : List ℕ) (room : ℕ) → room ≡ room_for (layout plan.format) (min plan.chunk plan.most) → IsBlock plan block → FitsRoom plan.format block room
  fits_room block room is b =
      let l : Layout = layout plan.format in
      let count : count_of l block ≡ b.count = count-is l b.count block b.size in
      let least : record_length l * 1 ≤ record_length l * b.count = mul-le-mul_left (record_length l) b.some in
      let larger : room_for l b.count ≤ room_for l (min plan.chunk plan.most) = room_more l b.count (min plan.chunk plan.most) b.some (omega (arith, b.few, b.within)) in
      record {
        some = omega (arith, b.size, least);
        whole = ap (λ (n : ℕ). n % record_length l) b.size ∙ mul-mod_right (record_length l) b.count;
        room = omega (arith, larger, is, ap (room_for l) count);
      }

  -- every block fits every room
  pub fit_rooms : (blocks : List (List ℕ)) → All (IsBlock plan) blocks → EveryInputFits (FitsRoom plan.format) blocks rooms
  fit_rooms blocks are =
      All-weaker (λ (n : ℕ). n ≡ room_for (layout plan.format) (min plan.chunk plan.most)) (λ (n : ℕ). All (λ (b : List ℕ). FitsRoom plan.format b n) blocks)
      (λ n is. All-weaker (IsBlock plan) (λ (b : List ℕ). FitsRoom plan.format b n) (λ b one. fits_room b n is one) blocks are) rooms can.rooms_are

  pub small_rooms : All (λ (n : ℕ). n < 2 ^ 32) rooms
  small_rooms =
      let small : room_for (layout plan.format) (min plan.chunk plan.most) < 2 ^ 32 = room_small plan.format (min plan.chunk plan.most) can.extra (omega (arith, can.numbers.size.1)) in
      All-weaker (λ (n : ℕ). n ≡ room_for (layout plan.format) (min plan.chunk plan.most)) (λ (n : ℕ). n < 2 ^ 32) (λ n is. omega (arith, is, small)) rooms can.rooms_are

-- the plan of a crew
abbrev pub plan_of : Format → (chunk most pointer workers : ℕ) → Plan
plan_of format chunk most pointer workers = record { format = format; chunk = chunk; most = most; pointer = pointer; workers = workers }

-- A crew that keeps its hands and its rooms can go on.
pub goes_on : (format : Format) (chunk most pointer : ℕ) (old new : List (HandSeen Format)) → CanPack (plan_of format chunk most pointer (length old)) (map (λ (h : HandSeen Format). h.space) old) (lengths_of (rooms_of old))
    → length new ≡ length old → lengths_of (rooms_of new) ≡ lengths_of (rooms_of old) → All (λ (h : HandSeen Format). h.space ≡ format) new → CanPack (plan_of format chunk most pointer (length new)) (map (λ (h : HandSeen Format). h.space) new) (lengths_of (rooms_of new))
goes_on format chunk most pointer old new can hands rooms suits = record {
  known = can.known;
  extra = can.extra;
  numbers = record { size = can.numbers.size; most = can.numbers.most; near = can.numbers.near };
  hands = subst AreWorkers (sym hands) can.hands;
  spaces_are = All-map (λ (s : Format). s ≡ format) (λ (h : HandSeen Format). h.space) new suits;
  rooms_are = subst (λ (ns : List ℕ). All (λ (n : ℕ). n ≡ room_for (layout format) (min chunk most)) ns) (sym rooms) can.rooms_are;
}
