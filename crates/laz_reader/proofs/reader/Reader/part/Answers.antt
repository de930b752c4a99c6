use Rattle.std.proofs.Common.{◌≡◌, ◌<◌, ◌≤◌, ◌+◌, ◌-◌, ◌*◌, ◌∙◌, ℕ, length, take, drop, get_or, sym, ap, subst, arith}
use Rattle.std.proofs.lemmas.List.{get_or_default}
use Rattle.las_header.specs.Fields.{record_length_of}
use Rattle.laz_reader.specs.Keeping.{cuts_from, skip_at, taken_at}
use Rattle.laz_reader.specs.Reading.{ReaderSeen}
use Rattle.laz_reader.proofs.Batches.{part_at}
use Rattle.laz_reader.proofs.Kept.{cut_below, cuts_at}
use Rattle.laz_reader.proofs.reader.Reader.part.Goals.{After-from, After-self}
use Rattle.laz_reader.proofs.reader.Reader.part.Goals as goal

-- the chunk is one of the last batch
module _ (c : After-self) where
  below : (c.args.i < c.self.inside.next - c.self.inside.batch)
      × (c.self.inside.batch + c.args.i < length c.self.inside.points.items)
      × (c.args.i < length (take (c.self.inside.next - c.self.inside.batch)
      (drop c.self.inside.batch c.self.inside.points.items)))
  below =
      let r = c.self.inside in
      let lt : c.args.i < length (cuts_from r.ends r.batch (take (r.next - r.batch) (drop r.batch r.points.items))) =
      omega (arith, c.requires.within, ap (λ (s : ReaderSeen). length s.cuts) c.self.view_is) in
      cut_below r.ends r.batch r.next c.args.i r.points.items lt

pub overflow_add-number : goal.overflow_add-number
overflow_add-number c =
    let here = below (goal.at.overflow_add-number c).After-self in
    record { fits = omega (arith, here.1, c.self.invariant.0.few) }

pub index-requires : goal.index-requires
index-requires c =
    let here = below (goal.at.index-requires c).After-self in
    omega (arith, here.1, c.self.inside.points.ok.0)

pub cut_at-skip-requires : goal.cut_at-skip-requires
cut_at-skip-requires c =
    let here = below (goal.at.cut_at-skip-requires c).After-self in
    omega (arith, here.1, c.self.invariant.0.few)

-- what is cut from its block
module _ (c : After-from) where
  size_is : c.from.result ≡ record_length_of c.args.self.now.head.bytes
  size_is = c.from.ensures ∙ c.record_length.ensures.field
      ∙ ap (λ (s : ReaderSeen). record_length_of s.head.bytes) c.self.view_is

  cut_is : (c.args.i < c.self.inside.next - c.self.inside.batch)
      × (c.self.inside.batch + c.args.i < length c.self.inside.points.items)
      × (c.args.i < length (take (c.self.inside.next - c.self.inside.batch)
      (drop c.self.inside.batch c.self.inside.points.items)))
      → (d : ℕ × ℕ) → get_or c.args.self.now.cuts c.args.i d ≡ c.cut_at-skip.result
  cut_is here d =
      let r = c.self.inside in
      let i = c.args.i in
      let number = r.batch + i in
      let counts = take (r.next - r.batch) (drop r.batch r.points.items) in
      let count : get_or counts i 0 ≡ c.index.result.now =
      part_at (r.next - r.batch) r.batch i r.points.items here.0
      ∙ get_or_default r.points.items number 0 c.index.result.now here.1 ∙ sym c.index.ensures in
      sym (ap (λ (s : ReaderSeen). get_or s.cuts i d) c.self.view_is) ∙ cuts_at r.ends r.batch counts i d here.2
      ∙ ap (λ (n : ℕ). (skip_at r.ends number, taken_at r.ends number n)) count ∙ sym c.cut_at-skip.ensures

pub part_of-requires-clause-within : goal.part_of-requires-clause-within
part_of-requires-clause-within c =
    let at = goal.at.part_of-requires-clause-within c in
    let now = c.args.self.now in
    let long = length c.args.block.now in
    subst (λ (p : ℕ × ℕ). c.from.result * (p.0 + p.1) ≤ long) (cut_is at.After-from (below at.After-self) (0, 0))
    (subst (λ (n : ℕ). n * ((get_or now.cuts c.args.i (0, 0)).0 + (get_or now.cuts c.args.i (0, 0)).1) ≤ long)
    (sym (size_is at.After-from)) (c.requires.long (0, 0)))

pub returns : goal.returns
returns c = λ d.
    let at = goal.at.returns c in
    let size = record_length_of c.args.self.now.head.bytes in
    let block = c.args.block.now in
    c.part_of.ensures
    ∙ ap (λ (n : ℕ). take (n * c.cut_at-skip.result.1) (drop (n * c.cut_at-skip.result.0) block)) (size_is at.After-from)
    ∙ ap (λ (p : ℕ × ℕ). take (size * p.1) (drop (size * p.0) block))
    (sym (cut_is at.After-from (below at.After-self) d))
