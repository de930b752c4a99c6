use Rattle.laz_reader.proofs.Exits.{at_exit, reads-refl}
use Rattle.std.proofs.Common.{◌≡◌, ◌<◌, ◌≤◌, ◌*◌, ◌+◌, ◌-◌, ◌^◌, ◌∙◌, min, false, refl, sym, ap, subst, ℕ, List, [], length, take, drop, get_or, Option, Err, arith}
use Rattle.std.proofs.lemmas.Result.{IfOk-from_err}
use mir.Syntax.{w32}
use mir.Val.{Fits}
use Rattle.std.specs.Prelude.{IsSome, nat_lt, sum}
use Rattle.std.proofs.lemmas.Bool.{ltb-true}
use Rattle.std.proofs.lemmas.Grind.{common_steps}
use Rattle.std.proofs.lemmas.List.{length-take}
use Rattle.las_header.specs.declared.refusal.Refusal.TheVariants.{BadChunk}
use Rattle.las_header.specs.Fields.{record_length_of}
use Rattle.las_header.specs.Heads.{IsHead}
use Rattle.laz_chunk.specs.Layouts.{Format, layout, record_length}
use Rattle.laz_workers.specs.Rooms.{lengths_of, rooms_of}
use Rattle.laz_forms.specs.declared.fault.Fault.{Fault}
use Rattle.laz_forms.specs.Packing.{format_in, record_layout}
use Rattle.laz_forms.specs.Pieces.{Piece}
use Rattle.laz_reader.specs.Keeping.{cuts_from}
use Rattle.laz_reader.specs.Reading.{AreCutFrom, AreWholeBlocks, HaveRoom, Position, ReaderSeen, StandsFor, pieces_left}
use Rattle.laz_reader.specs.Reading.{EndsReading}
use Rattle.laz_forms.specs.Records.{HoldOnly, IsBadPiece}
use Rattle.laz_reader.specs.Asking.{sizes_asked}
use Rattle.laz_reader.proofs.Asking.{asked_all, asked_batch, asked_since}
use Rattle.laz_forms.proofs.Public.{known_as, known_both, known_then, ok_no_fault}
use Rattle.laz_reader.proofs.Heads.{residual_is, same_cause}
use Rattle.laz_reader.proofs.Batches.{as_many, bad_left, batch_bad, batch_blocks, batch_count, batch_cuts, batch_end, batch_few, batch_hold, batch_length, batch_lie, batch_most, batch_rooms, batch_whole, crew_later, front_cuts, IsListed, length_slice, listed, packed_step, placed_later, positive, slice_part}
use Rattle.laz_reader.proofs.reader.Reader.next_packed.Given.{Over}
use Rattle.laz_reader.proofs.reader.Reader.next_packed.Goals.{After-min-most}
use Rattle.laz_reader.proofs.reader.Reader.next_packed.Goals as goal

-- facts on numbers, stated where no other fact is in scope, as `omega` would read all of them
under : (n m k : ℕ) → n ≤ min m k → n ≤ k
under n m k within = omega arith

under_lt : (n m k : ℕ) → n < min m k → n < k
under_lt n m k few = omega arith

as_few : (a n k : ℕ) → a ≡ n → n ≤ k → a ≤ k
as_few a n k same within = omega arith

as_long : (n k j : ℕ) → n ≤ k → k ≡ j → n ≤ j
as_long n k j within same = omega arith

below : (j a n : ℕ) → j < a → a ≡ n → j < n
below j a n lt same = omega arith

front_of : (n k m j : ℕ) → n ≤ k → k ≡ min m j → n ≤ m
front_of n k m j within short = omega arith

fewer : (n r m k j : ℕ) → n < r → r ≡ min m k → j ≡ k → n < min m j
fewer n r m k j few is same = omega arith

none_below : (n k : ℕ) → k ≡ 0 → n < k → ⊥
none_below n k none lt = omega arith

moved_on : (a n b m : ℕ) → a + b ≡ m → a + n + b ≡ m + n
moved_on a n b m is = omega arith

near_by : (a s t r : ℕ) → a + s + r < 2 ^ 64 → t ≡ s → a + t < 2 ^ 64
near_by a s t r near same = omega arith

on_to : (n count next last : ℕ) → n ≤ count → count ≡ last - next → next ≤ last → next + n ≤ last
on_to n count next last within long order = omega arith

on_below : (n count next last : ℕ) → n < count → count ≡ last - next → next + n < last
on_below n count next last lt long = omega arith

number_fits : (n count next last points blocks records : ℕ) → n ≤ count → count ≡ last - next → next ≤ last
    → last ≤ points → points + blocks + records < 2 ^ 32 → Fits w32 (next + n)
number_fits n count next last points blocks records within long order few fits = omega arith

count_fits : (n count next last points blocks records : ℕ) → n ≤ count → count ≡ last - next
    → last ≤ points → points + blocks + records < 2 ^ 32 → Fits w32 n
count_fits n count next last points blocks records within long few fits = omega arith

cut_to : (n k j : ℕ) (xs : List ℕ) → n ≤ k → k ≡ j → j ≡ length xs → length (take n xs) ≡ n
cut_to n k j xs within same long = omega (arith, length-take n xs)

-- what stands before the chunks are read
module _ (g : Over) (c : After-min-most g) where
  abbrev now : ReaderSeen
  now = c.args.self.now

  abbrev place : Position
  place =
      let r = c.self.inside in
      record {
        at = r.place;
        blocks = r.blocks;
        records = r.records;
        ends = r.ends;
        next = r.next;
        batch = r.batch;
        bad = r.bad;
      }

  -- the chunks that are left
  abbrev counts : List ℕ
  counts = take (place.ends.last - place.next) (drop place.next c.deref-2.result.now)

  abbrev sizes : List ℕ
  sizes = take (place.ends.last - place.next) (drop place.next c.deref-3.result.now)

  counts_are : counts ≡ take (place.ends.last - place.next) (drop place.next c.self.inside.points.items)
  counts_are = slice_part _ _ place.next place.ends.last c.deref-2.ensures.value

  sizes_are : sizes ≡ take (place.ends.last - place.next) (drop place.next c.self.inside.bytes.items)
  sizes_are = slice_part _ _ place.next place.ends.last c.deref-3.ensures.value

  long : length counts ≡ place.ends.last - place.next
  long =
      let stands = c.self.invariant.1 in
      ap (λ (l : List ℕ). length l) counts_are
      ∙ length_slice (place.ends.last - place.next) place.next c.self.inside.points.items
      (omega (arith, stands.next, stands.last))

  format : c.new-job.result ≡ format_in now.head.bytes
  format =
      let here : ◌≡◌ {A = Format} (record { format = c.format.result; extra = c.extra.result })
      (format_in c.self.inside.head.bytes) =
      λ i. record { format = c.format.ensures.field i; extra = c.extra.ensures.field i } in
      c.new-job.ensures ∙ here ∙ ap (λ (s : ReaderSeen). format_in s.head.bytes) c.self.view_is

  lists : IsListed now c.new-job.result place.ends place.next place.at counts sizes
  lists =
      let r = c.self.inside in
      let v = c.self.view_is in
      listed now c.new-job.result r.chunk (record_length_of r.head.bytes) place r.points.items r.bytes.items
      c.deref-2.result.now c.deref-3.result.now (ap (λ (s : ReaderSeen). s.left) v)
      (ap (λ (s : ReaderSeen). s.chunk) v) c.requires.packed c.self.invariant.0.same c.self.invariant.1
      c.deref-2.ensures.value c.deref-3.ensures.value format

  name : c.deref.result.now ≡ now.name
  name = c.deref.ensures ∙ ap (λ (s : ReaderSeen). s.name) c.self.view_is

  -- how many bytes are asked for each
  abbrev asked_sizes : List ℕ
  asked_sizes = sizes_asked (record_layout now.head.bytes) counts sizes

  layout_asked : (old later most : ℕ)
      → later ≤ old + sum (take most (sizes_asked (layout c.new-job.result) counts sizes))
      → later ≤ old + sum (take most asked_sizes)
  layout_asked old later most asked =
      subst (λ (f : Format). later ≤ old + sum (take most (sizes_asked (layout f) counts sizes))) format asked

  fine : now.bad ≡ false
  fine = sym (ap (λ (s : ReaderSeen). s.bad) c.self.view_is) ∙ c.if-self.false

  most_is : c.min-most.result ≡ min (2 * length c.args.crew.now) (length counts)
  most_is =
      let buffers : length c.self.inside.inputs.items ≡ 2 * length c.args.crew.now =
      ap (λ (s : ReaderSeen). s.buffers) c.self.view_is ∙ c.requires.crew.buffers in
      omega (arith, c.min-most.ensures, c.len.ensures, c.self.inside.inputs.ok.0, buffers)

  -- where the reader stands when n of them were unpacked, which have t bytes
  abbrev later : (n t : ℕ) → Position
  later n t = record place {
    at = place.at + t;
    next = place.next + n;
    batch = place.next;
    bad = nat_lt n c.min-most.result;
  }

  left_later : (n t : ℕ) → n ≤ length counts → t ≡ sum (take n sizes)
      → pieces_left c.self.inside.chunk (record_length_of c.self.inside.head.bytes) (later n t)
      c.self.inside.points.items c.self.inside.bytes.items ≡ drop n now.left
  left_later n t within is =
      let v = c.self.view_is in
      let stands = c.self.invariant.1 in
      let some = subst (λ (o : Option ℕ). IsSome o) (sym (ap (λ (s : ReaderSeen). s.chunk) v)) c.requires.packed in
      let total = is ∙ ap (λ (l : List ℕ). sum (take n l)) sizes_are in
      packed_step c.self.inside.chunk _ n t place (later n t) _ _ some c.self.invariant.0.same stands
      (omega (arith, within, long, stands.next)) total refl refl refl ∙ ap (λ (s : ReaderSeen). drop n s.left) v

pub next_chunks-requires-clause-run : goal.next_chunks-requires-clause-run
next_chunks-requires-clause-run g c κs within =
    let k = (goal.at.next_chunks-requires-clause-run g c).After-min-most in
    record {
      same = (lists g k).same;
      near = near_by _ _ _ _ c.self.invariant.1.near (ap (λ (l : List ℕ). sum l) (sizes_are g k));
      lie = known_as _ _ _ _ (sym (name g k))
          (known_then _ _ _ _ (λ file s. batch_lie (lists g k) file s.lie) c.requires.stands);
    }

pub next_chunks-requires-clause-crew : goal.next_chunks-requires-clause-crew
next_chunks-requires-clause-crew g c κs within =
    let k = (goal.at.next_chunks-requires-clause-crew g c).After-min-most in
    let r = c.self.inside in
    let now = c.args.self.now in
    record {
      hands = c.requires.crew.hands;
      spaces = λ j d lt. c.requires.crew.spaces j d lt ∙ sym (format g k);
      rooms =
          let lengths = lengths_of (rooms_of c.args.crew.now) in
          let long = record_length (record_layout now.head.bytes) in
          batch_rooms (lists g k) (length r.head.bytes + 8) (r.ends.last - r.next) r.next r.points.items
          r.bytes.items lengths c.self.invariant.0.same (counts_are g k)
          (subst (λ (ps : List Piece). HaveRoom long ps lengths)
          (sym (ap (λ (s : ReaderSeen). s.pieces) c.self.view_is)) c.requires.crew.rooms);
    }

pub total-requires : goal.total-requires
total-requires g c = grind (arith, common_steps)

pub overflow_add-self : goal.overflow_add-self
overflow_add-self g c = grind (arith, common_steps)

pub returns-clause-bad_next : goal.returns-clause-bad_next
returns-clause-bad_next g c = λ is.
    let k = (goal.at.returns-clause-bad_next g c).After-min-most in
    let few : c.in_ok-good.good < c.min-most.result = ltb-true c.in_ok-good.good c.min-most.result is in
    fewer _ _ _ _ _ few (most_is g k) (batch_length (lists g k))

pub invariant_of-self-2 : goal.invariant_of-self-2
invariant_of-self-2 g c =
    let k = (goal.at.invariant_of-self-2 g c).After-min-most in
    let r = c.self.inside in
    let stands = c.self.invariant.1 in
    let n = c.in_ok-good.good in
    let within : n ≤ length (counts g k) = under n _ _ c.in_ok-good.ensures.within in
    let total = c.total.ensures ∙ ap (λ (l : List ℕ). sum (take n l)) (sizes_are g k) in (
      c.self.invariant.0,
      placed_later _ n c.total.result _ (place g k) r.points.items r.bytes.items c.self.invariant.0.same stands
          (on_to n _ _ _ within (long g k) stands.next) total
          (λ is.
          let few : n < c.min-most.result = ltb-true n c.min-most.result is in
          let lt : n < length (counts g k) = omega (arith, few, c.min-most.ensures) in
          let some : 0 < n = positive n (λ none. none_below n _ (c.in_ok-good.ensures.end none) lt) in
          (some, on_below n _ _ _ lt (long g k))),
    )

pub returns-clause-blocks : goal.returns-clause-blocks
returns-clause-blocks g c =
    let k = (goal.at.returns-clause-blocks g c).After-min-most in
    let r = c.self.inside in
    let now = c.args.self.now in
    let m = r.ends.last - r.next in
    let h = lists g k in
    let n = c.in_ok-good.good in
    let within : n ≤ length (counts g k) = under n _ _ c.in_ok-good.ensures.within in
    let b = c.in_ok-good.ensures.blocks in
    let blocks = batch_blocks h b.blocks in
    let few : length b.blocks ≤ length (counts g k) = as_few _ n _ b.count within in
    let head = subst (λ (s : ReaderSeen). IsHead s.head.bytes) c.self.view_is c.bytes.ensures.head in
    let long : (j : ℕ) → j < length b.blocks → length (get_or b.blocks j [])
    ≡ record_length (layout c.new-job.result) * get_or (counts g k) j 0 =
    λ j lt. b.lengths j (below j _ _ lt b.count) in (
      blocks,
      batch_count h b.blocks few ∙ b.count,
      (
        b.blocks,
        b.in_rooms,
        subst (λ (l : List (ℕ × ℕ)). AreCutFrom (record_length_of now.head.bytes) l b.blocks blocks)
            (front_cuts r.ends r.next m n c.deref-2.result.now r.points.items (length b.blocks) c.deref-2.ensures.value
            b.count (front_of n _ m _ within (length-take m (drop r.next c.deref-2.result.now))))
            (batch_cuts h b.blocks few head long),
      ),
      subst (λ (j : ℕ). AreWholeBlocks (record_length_of now.head.bytes) (take j now.left) blocks) b.count
          (batch_whole h b.blocks few head long),
      known_both _ _ _ _ _ (λ file s each. subst (λ (j : ℕ). HoldOnly file (take j now.left) blocks) b.count
          (batch_hold h file s b.blocks few (λ j d lt. each j d (below j _ _ lt b.count)))) c.requires.stands
          (known_as _ _ _ _ (name g k) b.only),
    )

pub returns-clause-end : goal.returns-clause-end
returns-clause-end g c =
    let k = (goal.at.returns-clause-end g c).After-min-most in
    batch_end (lists g k) c.in_ok-good.good c.in_ok-good.ensures.end

pub returns-clause-most : goal.returns-clause-most
returns-clause-most g c =
    let k = (goal.at.returns-clause-most g c).After-min-most in
    batch_most (lists g k) c.in_ok-good.good (2 * length c.args.crew.now) c.in_ok-good.ensures.within

pub returns-clause-cut : goal.returns-clause-cut
returns-clause-cut g c = λ lt.
    let k = (goal.at.returns-clause-cut g c).After-min-most in
    let n = c.in_ok-good.good in
    let few = batch_few (lists g k) n (2 * length c.args.crew.now) lt in
    known_both _ _ _ _ _ (λ file s none. batch_bad (lists g k) file s n (under_lt n _ _ few) none) c.requires.stands
    (known_as _ _ _ _ (name g k) (c.in_ok-good.ensures.cut few))

pub returns-clause-moved : goal.returns-clause-moved
returns-clause-moved g c =
    let k = (goal.at.returns-clause-moved g c).After-min-most in
    let r = c.self.inside in
    let v = c.self.view_is in
    let n = c.in_ok-good.good in
    let left = left_later g k n c.total.result (under n _ _ c.in_ok-good.ensures.within) c.total.ensures in
    let number = ap (λ (s : ReaderSeen). s.next) v in
    let next : r.next + n + r.blocks ≡ c.args.self.now.next + n = moved_on _ n _ _ number in
    let kept = c.next_chunks.auto.inputs ∙ ap (λ l. length l) c.deref_mut.ensures.value in
    let buffers = as_many r.inputs.len c.next_chunks.new.inputs r.inputs.items r.inputs.ok.0 kept
    ∙ ap (λ (s : ReaderSeen). s.buffers) v in
    λ i. record (v i) {
      next = next i;
      left = left i;
      bad = nat_lt n c.min-most.result;
      buffers = buffers i;
      cuts = cuts_from r.ends r.next (take (r.next + n - r.next) (drop r.next r.points.items));
    }

pub returns-clause-crew : goal.returns-clause-crew
returns-clause-crew g c =
    let k = (goal.at.returns-clause-crew g c).After-min-most in
    let now = c.args.self.now in
    let e = c.in_ok-good.ensures in
    crew_later now _ c.in_ok-good.good _ _ now.lent c.args.crew.now c.next_chunks.new.crew (returns-clause-moved g c)
    c.requires.crew e.hands (λ j d lt. e.spaces j d lt ∙ format g k) e.rooms

pub returns-clause-asked : goal.returns-clause-asked
returns-clause-asked g c =
    let k = (goal.at.returns-clause-asked g c).After-min-most in
    let old = (g.F.Files.seen c.args.files.now).asked in
    let new = (g.F.Files.seen c.next_chunks.new.files).asked in
    let n = c.in_ok-good.good in
    let most = c.min-most.result in
    let asked : new ≤ old + sum (take most (asked_sizes g k)) =
    subst (λ (j : ℕ). new ≤ old + sum (take j (asked_sizes g k))) (sym (most_is g k))
    (layout_asked g k old new _ c.next_chunks.ensures.reads.asked) in
    let left = left_later g k n c.total.result (under n _ _ c.in_ok-good.ensures.within) c.total.ensures in
    let r = c.self.inside in
    asked_since _ (now g k) (nat_lt n most)
    (pieces_left r.chunk (record_length_of r.head.bytes) (later g k n c.total.result) r.points.items r.bytes.items) new _
    c.self.view_is
    (asked_batch (now g k) _ _ _ _ _ n most (lists g k).some (lists g k).same (lists g k).left (fine g k) _ old new asked left
    (as_long n _ most c.in_ok-good.ensures.within (sym (most_is g k))))

pub returns-clause-reads : goal.returns-clause-reads
returns-clause-reads g c = record {
  only = c.next_chunks.ensures.reads.only;
  asked = omega (arith, returns-clause-asked g c);
}

pub slice_bounds-total-end : goal.slice_bounds-total-end
slice_bounds-total-end g c =
    let k = (goal.at.slice_bounds-total-end g c).After-min-most in
    sym (cut_to _ _ _ (sizes g k) (under _ _ _ c.in_ok-good.ensures.within) (lists g k).same refl)

pub overflow_cast-self : goal.overflow_cast-self
overflow_cast-self g c =
    let k = (goal.at.overflow_cast-self g c).After-min-most in
    let stands = c.self.invariant.1 in
    count_fits _ _ _ _ _ _ _ (under _ _ _ c.in_ok-good.ensures.within) (long g k) stands.last stands.number

pub overflow_cast-result : goal.overflow_cast-result
overflow_cast-result g c =
    let k = (goal.at.overflow_cast-result g c).After-min-most in
    let stands = c.self.invariant.1 in
    count_fits _ _ _ _ _ _ _ (under _ _ _ c.in_ok-good.ensures.within) (long g k) stands.last stands.number

pub overflow_add-self-2 : goal.overflow_add-self-2
overflow_add-self-2 g c =
    let k = (goal.at.overflow_add-self-2 g c).After-min-most in
    let stands = c.self.invariant.1 in
    number_fits _ _ _ _ _ _ _ (under _ _ _ c.in_ok-good.ensures.within) (long g k) stands.next stands.last
    stands.number

pub returns-clause-calm : goal.returns-clause-calm
returns-clause-calm g c = c.in_ok-good.ensures.calm

pub returns-clause-hands : goal.returns-clause-hands
returns-clause-hands g c = c.in_ok-good.ensures.hands

pub returns-clause-ends : goal.returns-clause-ends
returns-clause-ends g c = tt

pub returns-clause-bad : goal.returns-clause-bad
returns-clause-bad g c = λ cause is. ok_no_fault _ _ is

pub returns-then-self : goal.returns-then-self
returns-then-self g c =
    record {
      blocks = tt;
      end = tt;
      most = tt;
      cut = tt;
      bad_next = tt;
      moved = tt;
      crew = tt;
      hands = refl;
      bad = λ cause is.
          let r = c.self.inside in
          let now = c.args.self.now in
          let v = c.self.view_is in
          let some = subst (λ (o : Option ℕ). IsSome o) (sym (ap (λ (s : ReaderSeen). s.chunk) v)) c.requires.packed in
          let left = bad_left r.chunk _ _ _ _ some c.self.invariant.0.same c.self.invariant.1 c.if-self.true in (
            sym (same_cause (BadChunk (r.next + r.blocks)) cause is) ∙ ap (λ (s : ReaderSeen). BadChunk s.next) v,
            omega (arith, left, ap (λ (s : ReaderSeen). length s.left) v),
            known_then (g.F.Files.seen c.args.files.now).held now.name (StandsFor now)
                (λ file. IsBadPiece file now.left 0)
                (λ file s. s.bad (sym (ap (λ (x : ReaderSeen). x.bad) v) ∙ c.if-self.true)) c.requires.stands,
          );
      reads = reads-refl _ (g.F.Files.seen c.args.files.now);
      calm = tt;
      ends = refl;
      asked = tt;
    }

pub returns-in_err-good : goal.returns-in_err-good
returns-in_err-good g c =
    record {
      blocks = IfOk-from_err c.from_residual.result _ c.from_residual.ensures.0;
      end = IfOk-from_err c.from_residual.result _ c.from_residual.ensures.0;
      most = IfOk-from_err c.from_residual.result _ c.from_residual.ensures.0;
      cut = IfOk-from_err c.from_residual.result _ c.from_residual.ensures.0;
      bad_next = IfOk-from_err c.from_residual.result _ c.from_residual.ensures.0;
      moved = IfOk-from_err c.from_residual.result _ c.from_residual.ensures.0;
      crew = IfOk-from_err c.from_residual.result _ c.from_residual.ensures.0;
      hands = c.in_err-good.ensures.hands;
      bad = λ cause is.
          let k = (goal.at.returns-in_err-good g c).After-min-most in
          let same = residual_is c.from_residual.result c.in_err-good.field-0.0 cause c.from_residual.ensures.1 is in
          let b = c.in_err-good.ensures.bad cause (ap (λ (x : Fault). Err x) same) in (
            b.0 ∙ ap (λ (s : ReaderSeen). BadChunk s.next) c.self.view_is,
            below 0 _ _ b.1 (sym (batch_length (lists g k))),
            known_both _ _ _ _ _ (λ file s none. batch_bad (lists g k) file s 0 b.1 none) c.requires.stands
                (known_as _ _ _ _ (name g k) b.2),
          );
      reads = let k = (goal.at.returns-in_err-good g c).After-min-most in
          let most = min (2 * length c.args.crew.now) (length (counts g k)) in
          let old = (g.F.Files.seen c.args.files.now).asked in
          let later = (g.F.Files.seen c.next_chunks.new.files).asked in
          let reads = c.next_chunks.ensures.reads in
          record {
            only = reads.only;
            asked =
                asked_all (now g k) _ _ _ _ _ 0 most (lists g k).some (lists g k).same (lists g k).left (fine g k) old later
                (layout_asked g k old later most reads.asked);
          };
      calm = IfOk-from_err c.from_residual.result _ c.from_residual.ensures.0;
      ends = let old = g.F.Files.seen c.args.files.now in
          let new = g.F.Files.seen c.next_chunks.new.files in
          at_exit c.from_residual.result c.in_err-good.field-0.0 (EndsReading ⊥ old new) c.from_residual.ensures.1
          c.in_err-good.ensures.ends;
      asked = IfOk-from_err c.from_residual.result _ c.from_residual.ensures.0;
    }
