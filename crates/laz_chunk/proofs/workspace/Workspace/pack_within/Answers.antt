use Rattle.std.proofs.Common.{◌≡◌, ◌==◌, false, ℕ, ◌+◌, ◌*◌, ◌-◌, ◌/◌, ◌≤◌, List, length, take, drop, refl, ap, sym, subst, ◌∙◌, arith}
use Rattle.std.proofs.lemmas.Bool.Decides.{nat_tests}
use Rattle.std.proofs.lemmas.List.{length-drop, length-take-le}
use Rattle.laz_range.specs.Span.{Span}
use Rattle.laz_range.proofs.Public.{IsBytes-take}
use Rattle.laz_chunk.specs.Layouts.{Format, Layout, layout, most_events, record_length, room_for}
use Rattle.laz_chunk.specs.Stands.{layout_in}
use Rattle.laz_chunk.specs.Chunks.{count_of}
use Rattle.laz_chunk.proofs.Chunk.{Put, Started, packed-is, packed-stream, started, started-sometime}
use Rattle.laz_chunk.proofs.Ends.{whole-records}
use Rattle.laz_chunk.proofs.workspace.Workspace.pack_within.Goals as goal
use Rattle.laz_chunk.proofs.Bounds.{room_is}

pub split_at-requires : goal.split_at-requires
split_at-requires c =
    let l : Layout = layout c.args.self.now in
    let size_is : c.record_length-size.result ≡ record_length l = c.record_length-size.ensures ∙ ap (λ (f : Format). record_length (layout f)) c.self.view_is in
    omega (arith, size_is, c.requires.some)

pub start_record-requires : goal.start_record-requires
start_record-requires c =
    let l : Layout = layout c.args.self.now in
    let size_is : c.record_length-size.result ≡ record_length l = c.record_length-size.ensures ∙ ap (λ (f : Format). record_length (layout f)) c.self.view_is in
    let layout_is : layout_in c.self.inside.items ≡ l = c.self.invariant.0 ∙ ap layout c.self.view_is in
    record { first = c.split_at.ensures.front_len ∙ (size_is ∙ ap record_length (sym layout_is)) }

pub put_first-requires : goal.put_first-requires
put_first-requires c = record { room = omega (arith, c.split_at.ensures.front_len, c.lengthen.ensures.least) }

pub lengthen-requires : goal.lengthen-requires
lengthen-requires c =
    let l : Layout = layout c.args.self.now in
    let size_is : c.record_length-size.result ≡ record_length l = c.record_length-size.ensures ∙ ap (λ (f : Format). record_length (layout f)) c.self.view_is in
    let whole = whole-records l c.args.records.now c.requires.some c.requires.whole in
    let room = subst (λ (n : ℕ). n ≤ c.args.limit) (room_is l (count_of l c.args.records.now) whole.some) c.requires.room in
    omega (arith, size_is, room, c.requires.capacity)

pub within-encoder-requires : goal.within-encoder-requires
within-encoder-requires c =
    let l : Layout = layout c.args.self.now in
    let size_is : c.record_length-size.result ≡ record_length l = c.record_length-size.ensures ∙ ap (λ (f : Format). record_length (layout f)) c.self.view_is in
    let whole = whole-records l c.args.records.now c.requires.some c.requires.whole in
    let room = subst (λ (n : ℕ). n ≤ c.args.limit) (room_is l (count_of l c.args.records.now) whole.some) c.requires.room in
    let same : length c.replace.result.items ≡ length c.lengthen.new.bytes.items = rw c.replace.ensures.value c.put_first.ensures.room in
    record {
      start = omega (arith, same, c.lengthen.ensures.least);
      size = omega (arith, same, c.lengthen.ensures.within c.args.limit c.requires.within (omega (arith, size_is, room)));
      capacity = rw c.replace.ensures.value (omega (arith, c.put_first.ensures.capacity, c.lengthen.ensures.capacity, c.requires.capacity));
    }

pub overflow_sub-records : goal.overflow_sub-records
overflow_sub-records c =
    let l : Layout = layout c.args.self.now in
    let size_is : c.record_length-size.result ≡ record_length l = c.record_length-size.ensures ∙ ap (λ (f : Format). record_length (layout f)) c.self.view_is in
    let whole = whole-records l c.args.records.now c.requires.some c.requires.whole in
    subst (λ (n : ℕ). 1 ≤ length c.args.records.now / n) (sym size_is) whole.some

pub put_records-requires-clause-size : goal.put_records-requires-clause-size
put_records-requires-clause-size c =
    let l : Layout = layout c.args.self.now in
    let size_is : c.record_length-size.result ≡ record_length l = c.record_length-size.ensures ∙ ap (λ (f : Format). record_length (layout f)) c.self.view_is in
    let layout_is : layout_in c.self.inside.items ≡ l = c.self.invariant.0 ∙ ap layout c.self.view_is in
    let layout_now : layout_in c.start_record.new.items ≡ l = c.start_record.ensures.layout ∙ layout_is in
    size_is ∙ ap record_length (sym layout_now)

pub put_records-requires-clause-left : goal.put_records-requires-clause-left
put_records-requires-clause-left c =
    let l : Layout = layout c.args.self.now in
    let size_is : c.record_length-size.result ≡ record_length l = c.record_length-size.ensures ∙ ap (λ (f : Format). record_length (layout f)) c.self.view_is in
    let layout_is : layout_in c.self.inside.items ≡ l = c.self.invariant.0 ∙ ap layout c.self.view_is in
    let layout_now : layout_in c.start_record.new.items ≡ l = c.start_record.ensures.layout ∙ layout_is in
    let whole = whole-records l c.args.records.now c.requires.some c.requires.whole in
    let room = subst (λ (n : ℕ). n ≤ c.args.limit) (room_is l (count_of l c.args.records.now) whole.some) c.requires.room in
    let same : length c.replace.result.items ≡ length c.lengthen.new.bytes.items = rw c.replace.ensures.value c.put_first.ensures.room in
    let left : ℕ = c.within-encoder.result.left + c.within-encoder.result.more in
    let few : 3 * most_events l * (count_of l c.args.records.now - 1) ≤ left = omega (arith, room, same, c.within-encoder.ensures.left, c.within-encoder.ensures.more, size_is) in
    let counted : 3 * most_events l * (length c.args.records.now / c.record_length-size.result - 1) ≤ left = subst (λ (n : ℕ). 3 * most_events l * (length c.args.records.now / n - 1) ≤ left) (sym size_is) few in
    subst (λ (k : Layout). 3 * most_events k * (length c.args.records.now / c.record_length-size.result - 1) ≤ left) (sym layout_now) counted

pub put_records-requires-clause-records : goal.put_records-requires-clause-records
put_records-requires-clause-records c =
    let l : Layout = layout c.args.self.now in
    let m : ℕ = record_length l in
    let records : List ℕ = c.args.records.now in
    let size_is : c.record_length-size.result ≡ m = c.record_length-size.ensures ∙ ap (λ (f : Format). record_length (layout f)) c.self.view_is in
    let layout_is : layout_in c.self.inside.items ≡ l = c.self.invariant.0 ∙ ap layout c.self.view_is in
    let layout_now : layout_in c.start_record.new.items ≡ l = c.start_record.ensures.layout ∙ layout_is in
    let whole = whole-records l records c.requires.some c.requires.whole in
    let further : length c.split_at.result.1.now ≡ m * (count_of l records - 1) = (ap length c.split_at.ensures.back ∙ length-drop c.record_length-size.result records) ∙ (ap (λ (n : ℕ). length records - n) size_is ∙ whole.further) in
    further ∙ (ap (λ (n : ℕ). m * (length records / n - 1)) (sym size_is) ∙ ap (λ (k : Layout). record_length k * (length records / c.record_length-size.result - 1)) (sym layout_now))

pub returns-clause-bytes : goal.returns-clause-bytes
returns-clause-bytes c =
    let l : Layout = layout c.args.self.now in
    let m : ℕ = record_length l in
    let records : List ℕ = c.args.records.now in
    let size_is : c.record_length-size.result ≡ m = c.record_length-size.ensures ∙ ap (λ (f : Format). record_length (layout f)) c.self.view_is in
    let layout_is : layout_in c.self.inside.items ≡ l = c.self.invariant.0 ∙ ap layout c.self.view_is in
    let layout_now : layout_in c.start_record.new.items ≡ l = c.start_record.ensures.layout ∙ layout_is in
    let front_is = c.split_at.ensures.front ∙ ap (λ (n : ℕ). take n records) size_is in
    let back_is = c.split_at.ensures.back ∙ ap (λ (n : ℕ). drop n records) size_is in
    let long = ap length front_is ∙ (length-take-le m records c.requires.some ∙ sym size_is) in
    let written_first : take c.record_length-size.result c.replace.result.items ≡ take m records =
    rw c.replace.ensures.value (ap (λ (n : ℕ). take n c.put_first.new.out.items) (sym long) ∙ (c.put_first.ensures.front ∙ front_is)) in
    let begun : Started l (take m records) c.start_record.new.items = started _ l _ (take m records) c.start_record.new.items layout_is front_is c.start_record.ensures.stands in
    let put : Put l (length records / c.record_length-size.result - 1) c.start_record.new.items c.split_at.result.1.now c.within-encoder.result c.put_records.new.encoder =
    subst (λ (k : Layout). Put k (length records / c.record_length-size.result - 1) c.start_record.new.items c.split_at.result.1.now c.within-encoder.result c.put_records.new.encoder) layout_now c.put_records.ensures.codes in
    let puts : Put l (count_of l records - 1) c.start_record.new.items c.split_at.result.1.now c.within-encoder.result c.put_records.new.encoder =
    subst (λ (n : ℕ). Put l (length records / n - 1) c.start_record.new.items c.split_at.result.1.now c.within-encoder.result c.put_records.new.encoder) size_is put in
    let codes = packed-stream l records c.split_at.result.1.now c.start_record.new.items c.within-encoder.result c.put_records.new.encoder c.requires.some (λ i. (c.type_inv.records i).fits) back_is begun puts in
    let before_is : c.put_records.new.encoder.before ≡ take m records = codes.before ∙ (c.within-encoder.ensures.before ∙ written_first) in
    packed-is l records c.put_records.new.encoder.before c.finish-room.result.0.items c.finish-room.result.1 c.record_length-size.result c.within-encoder.result c.put_records.new.encoder size_is c.requires.some before_is c.finish-room.ensures.front
    c.within-encoder.ensures.span
    codes

pub returns-clause-count : goal.returns-clause-count
returns-clause-count c =
    let l : Layout = layout c.args.self.now in
    let m : ℕ = record_length l in
    let records : List ℕ = c.args.records.now in
    let size_is : c.record_length-size.result ≡ m = c.record_length-size.ensures ∙ ap (λ (f : Format). record_length (layout f)) c.self.view_is in
    let layout_is : layout_in c.self.inside.items ≡ l = c.self.invariant.0 ∙ ap layout c.self.view_is in
    let layout_now : layout_in c.start_record.new.items ≡ l = c.start_record.ensures.layout ∙ layout_is in
    let front_is = c.split_at.ensures.front ∙ ap (λ (n : ℕ). take n records) size_is in
    let back_is = c.split_at.ensures.back ∙ ap (λ (n : ℕ). drop n records) size_is in
    let long = ap length front_is ∙ (length-take-le m records c.requires.some ∙ sym size_is) in
    let written_first : take c.record_length-size.result c.replace.result.items ≡ take m records =
    rw c.replace.ensures.value (ap (λ (n : ℕ). take n c.put_first.new.out.items) (sym long) ∙ (c.put_first.ensures.front ∙ front_is)) in
    let begun : Started l (take m records) c.start_record.new.items = started _ l _ (take m records) c.start_record.new.items layout_is front_is c.start_record.ensures.stands in
    let put : Put l (length records / c.record_length-size.result - 1) c.start_record.new.items c.split_at.result.1.now c.within-encoder.result c.put_records.new.encoder =
    subst (λ (k : Layout). Put k (length records / c.record_length-size.result - 1) c.start_record.new.items c.split_at.result.1.now c.within-encoder.result c.put_records.new.encoder) layout_now c.put_records.ensures.codes in
    let puts : Put l (count_of l records - 1) c.start_record.new.items c.split_at.result.1.now c.within-encoder.result c.put_records.new.encoder =
    subst (λ (n : ℕ). Put l (length records / n - 1) c.start_record.new.items c.split_at.result.1.now c.within-encoder.result c.put_records.new.encoder) size_is put in
    let codes = packed-stream l records c.split_at.result.1.now c.start_record.new.items c.within-encoder.result c.put_records.new.encoder c.requires.some (λ i. (c.type_inv.records i).fits) back_is begun puts in
    let before_is : c.put_records.new.encoder.before ≡ take m records = codes.before ∙ (c.within-encoder.ensures.before ∙ written_first) in
    let before_long : length c.put_records.new.encoder.before ≡ c.record_length-size.result = ap length before_is ∙ (length-take-le m records c.requires.some ∙ sym size_is) in
    sym (length-take-le (c.record_length-size.result + c.finish-room.result.1) c.finish-room.result.0.items (omega (arith, c.finish-room.ensures.length, before_long))) ∙ ap length (returns-clause-bytes c)

pub returns-clause-longer : goal.returns-clause-longer
returns-clause-longer c =
    let l : Layout = layout c.args.self.now in
    let m : ℕ = record_length l in
    let records : List ℕ = c.args.records.now in
    let size_is : c.record_length-size.result ≡ m = c.record_length-size.ensures ∙ ap (λ (f : Format). record_length (layout f)) c.self.view_is in
    let layout_is : layout_in c.self.inside.items ≡ l = c.self.invariant.0 ∙ ap layout c.self.view_is in
    let layout_now : layout_in c.start_record.new.items ≡ l = c.start_record.ensures.layout ∙ layout_is in
    let front_is = c.split_at.ensures.front ∙ ap (λ (n : ℕ). take n records) size_is in
    let back_is = c.split_at.ensures.back ∙ ap (λ (n : ℕ). drop n records) size_is in
    let long = ap length front_is ∙ (length-take-le m records c.requires.some ∙ sym size_is) in
    let written_first : take c.record_length-size.result c.replace.result.items ≡ take m records =
    rw c.replace.ensures.value (ap (λ (n : ℕ). take n c.put_first.new.out.items) (sym long) ∙ (c.put_first.ensures.front ∙ front_is)) in
    let begun : Started l (take m records) c.start_record.new.items = started _ l _ (take m records) c.start_record.new.items layout_is front_is c.start_record.ensures.stands in
    let put : Put l (length records / c.record_length-size.result - 1) c.start_record.new.items c.split_at.result.1.now c.within-encoder.result c.put_records.new.encoder =
    subst (λ (k : Layout). Put k (length records / c.record_length-size.result - 1) c.start_record.new.items c.split_at.result.1.now c.within-encoder.result c.put_records.new.encoder) layout_now c.put_records.ensures.codes in
    let puts : Put l (count_of l records - 1) c.start_record.new.items c.split_at.result.1.now c.within-encoder.result c.put_records.new.encoder =
    subst (λ (n : ℕ). Put l (length records / n - 1) c.start_record.new.items c.split_at.result.1.now c.within-encoder.result c.put_records.new.encoder) size_is put in
    let codes = packed-stream l records c.split_at.result.1.now c.start_record.new.items c.within-encoder.result c.put_records.new.encoder c.requires.some (λ i. (c.type_inv.records i).fits) back_is begun puts in
    let before_is : c.put_records.new.encoder.before ≡ take m records = codes.before ∙ (c.within-encoder.ensures.before ∙ written_first) in
    let before_long : length c.put_records.new.encoder.before ≡ c.record_length-size.result = ap length before_is ∙ (length-take-le m records c.requires.some ∙ sym size_is) in
    let same : length c.replace.result.items ≡ length c.lengthen.new.bytes.items = rw c.replace.ensures.value c.put_first.ensures.room in
    let shifts = ap (λ (s : Span). s.shifts) c.within-encoder.ensures.span in
    omega (arith, c.finish-room.ensures.length, c.finish-room.ensures.count, same, before_long, shifts, codes.room, codes.more, c.within-encoder.ensures.left, c.within-encoder.ensures.more, c.lengthen.ensures.longer)

pub returns-clause-within : goal.returns-clause-within
returns-clause-within c =
    let l : Layout = layout c.args.self.now in
    let m : ℕ = record_length l in
    let records : List ℕ = c.args.records.now in
    let size_is : c.record_length-size.result ≡ m = c.record_length-size.ensures ∙ ap (λ (f : Format). record_length (layout f)) c.self.view_is in
    let layout_is : layout_in c.self.inside.items ≡ l = c.self.invariant.0 ∙ ap layout c.self.view_is in
    let layout_now : layout_in c.start_record.new.items ≡ l = c.start_record.ensures.layout ∙ layout_is in
    let front_is = c.split_at.ensures.front ∙ ap (λ (n : ℕ). take n records) size_is in
    let back_is = c.split_at.ensures.back ∙ ap (λ (n : ℕ). drop n records) size_is in
    let long = ap length front_is ∙ (length-take-le m records c.requires.some ∙ sym size_is) in
    let written_first : take c.record_length-size.result c.replace.result.items ≡ take m records =
    rw c.replace.ensures.value (ap (λ (n : ℕ). take n c.put_first.new.out.items) (sym long) ∙ (c.put_first.ensures.front ∙ front_is)) in
    let begun : Started l (take m records) c.start_record.new.items = started _ l _ (take m records) c.start_record.new.items layout_is front_is c.start_record.ensures.stands in
    let put : Put l (length records / c.record_length-size.result - 1) c.start_record.new.items c.split_at.result.1.now c.within-encoder.result c.put_records.new.encoder =
    subst (λ (k : Layout). Put k (length records / c.record_length-size.result - 1) c.start_record.new.items c.split_at.result.1.now c.within-encoder.result c.put_records.new.encoder) layout_now c.put_records.ensures.codes in
    let puts : Put l (count_of l records - 1) c.start_record.new.items c.split_at.result.1.now c.within-encoder.result c.put_records.new.encoder =
    subst (λ (n : ℕ). Put l (length records / n - 1) c.start_record.new.items c.split_at.result.1.now c.within-encoder.result c.put_records.new.encoder) size_is put in
    let codes = packed-stream l records c.split_at.result.1.now c.start_record.new.items c.within-encoder.result c.put_records.new.encoder c.requires.some (λ i. (c.type_inv.records i).fits) back_is begun puts in
    let before_is : c.put_records.new.encoder.before ≡ take m records = codes.before ∙ (c.within-encoder.ensures.before ∙ written_first) in
    let before_long : length c.put_records.new.encoder.before ≡ c.record_length-size.result = ap length before_is ∙ (length-take-le m records c.requires.some ∙ sym size_is) in
    let same : length c.replace.result.items ≡ length c.lengthen.new.bytes.items = rw c.replace.ensures.value c.put_first.ensures.room in
    let shifts = ap (λ (s : Span). s.shifts) c.within-encoder.ensures.span in
    omega (arith, c.finish-room.ensures.length, c.finish-room.ensures.count, same, before_long, shifts, codes.room, codes.more, c.within-encoder.ensures.left, c.within-encoder.ensures.more)

pub returns-clause-capacity : goal.returns-clause-capacity
returns-clause-capacity c =
    let l : Layout = layout c.args.self.now in
    let m : ℕ = record_length l in
    let records : List ℕ = c.args.records.now in
    let size_is : c.record_length-size.result ≡ m = c.record_length-size.ensures ∙ ap (λ (f : Format). record_length (layout f)) c.self.view_is in
    let layout_is : layout_in c.self.inside.items ≡ l = c.self.invariant.0 ∙ ap layout c.self.view_is in
    let layout_now : layout_in c.start_record.new.items ≡ l = c.start_record.ensures.layout ∙ layout_is in
    let front_is = c.split_at.ensures.front ∙ ap (λ (n : ℕ). take n records) size_is in
    let back_is = c.split_at.ensures.back ∙ ap (λ (n : ℕ). drop n records) size_is in
    let long = ap length front_is ∙ (length-take-le m records c.requires.some ∙ sym size_is) in
    let written_first : take c.record_length-size.result c.replace.result.items ≡ take m records =
    rw c.replace.ensures.value (ap (λ (n : ℕ). take n c.put_first.new.out.items) (sym long) ∙ (c.put_first.ensures.front ∙ front_is)) in
    let begun : Started l (take m records) c.start_record.new.items = started _ l _ (take m records) c.start_record.new.items layout_is front_is c.start_record.ensures.stands in
    let put : Put l (length records / c.record_length-size.result - 1) c.start_record.new.items c.split_at.result.1.now c.within-encoder.result c.put_records.new.encoder =
    subst (λ (k : Layout). Put k (length records / c.record_length-size.result - 1) c.start_record.new.items c.split_at.result.1.now c.within-encoder.result c.put_records.new.encoder) layout_now c.put_records.ensures.codes in
    let puts : Put l (count_of l records - 1) c.start_record.new.items c.split_at.result.1.now c.within-encoder.result c.put_records.new.encoder =
    subst (λ (n : ℕ). Put l (length records / n - 1) c.start_record.new.items c.split_at.result.1.now c.within-encoder.result c.put_records.new.encoder) size_is put in
    let codes = packed-stream l records c.split_at.result.1.now c.start_record.new.items c.within-encoder.result c.put_records.new.encoder c.requires.some (λ i. (c.type_inv.records i).fits) back_is begun puts in
    let before_is : c.put_records.new.encoder.before ≡ take m records = codes.before ∙ (c.within-encoder.ensures.before ∙ written_first) in
    let before_long : length c.put_records.new.encoder.before ≡ c.record_length-size.result = ap length before_is ∙ (length-take-le m records c.requires.some ∙ sym size_is) in
    let same : length c.replace.result.items ≡ length c.lengthen.new.bytes.items = rw c.replace.ensures.value c.put_first.ensures.room in
    let shifts = ap (λ (s : Span). s.shifts) c.within-encoder.ensures.span in
    omega (arith, c.finish-room.ensures.length, c.finish-room.ensures.count, same, before_long, shifts, codes.room, codes.more, c.within-encoder.ensures.left, c.within-encoder.ensures.more, c.finish-room.ensures.capacity)

pub put_records-requires-clause-most : goal.put_records-requires-clause-most
put_records-requires-clause-most c =
    let l : Layout = layout c.args.self.now in
    let layout_is : layout_in c.self.inside.items ≡ l = c.self.invariant.0 ∙ ap layout c.self.view_is in
    let layout_now : layout_in c.start_record.new.items ≡ l = c.start_record.ensures.layout ∙ layout_is in
    omega (arith, ap most_events layout_now, ap (λ (f : Format). f.extra) c.self.view_is)

pub put_records-requires-clause-stands : goal.put_records-requires-clause-stands
put_records-requires-clause-stands c =
    let l : Layout = layout c.args.self.now in
    let m : ℕ = record_length l in
    let records : List ℕ = c.args.records.now in
    let size_is : c.record_length-size.result ≡ m = c.record_length-size.ensures ∙ ap (λ (f : Format). record_length (layout f)) c.self.view_is in
    let layout_is : layout_in c.self.inside.items ≡ l = c.self.invariant.0 ∙ ap layout c.self.view_is in
    let layout_now : layout_in c.start_record.new.items ≡ l = c.start_record.ensures.layout ∙ layout_is in
    let front_is = c.split_at.ensures.front ∙ ap (λ (n : ℕ). take n records) size_is in
    let begun : Started l (take m records) c.start_record.new.items = started _ l _ (take m records) c.start_record.new.items layout_is front_is c.start_record.ensures.stands in
    started-sometime l (take m records) c.start_record.new.items layout_now (length-take-le m records c.requires.some) (IsBytes-take m records (λ i. (c.type_inv.records i).fits)) begun
