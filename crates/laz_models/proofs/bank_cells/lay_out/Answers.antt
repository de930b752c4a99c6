use Rattle.std.proofs.Common.{◌≡◌, ℕ, ◌+◌, ◌-◌, ◌∷◌, ◌++◌, ◌≤◌, List, [], get_or, length, take, refl, ap, sym, subst, ◌∙◌, arith}
use Rattle.std.proofs.lemmas.List.{append-nil, take_all, take_more}
use Rattle.std.proofs.lemmas.List.Elements.{All-get_or}
use Rattle.std.proofs.lemmas.Slice.{pushed}
use Rattle.laz_models.specs.Place.{AreFirst, dist_extent, extent}
use Rattle.laz_models.proofs.Layouts.{AreFirst-push, layout-push}
use Rattle.laz_models.proofs.Models.{extent-few}
use Rattle.laz_models.proofs.bank_cells.lay_out.Goals as goal

pub first_of-requires-clause-within : goal.first_of-requires-clause-within
first_of-requires-clause-within c = rw c.deref.ensures.value c.loop-size.invariant.layout.within

pub first_of-requires-clause-short : goal.first_of-requires-clause-short
first_of-requires-clause-short c = c.loop-size.invariant.short

pub first_of-requires-clause-near : goal.first_of-requires-clause-near
first_of-requires-clause-near c = omega (arith, c.loop-size.invariant.room, c.requires.few)

pub first_place-place-requires-clause-room : goal.first_place-place-requires-clause-room
first_place-place-requires-clause-room c =
    let i = c.loop-size.size-index in
    let n = get_or c.args.sizes.now i 0 in
    let range = All-get_or (λ (n : ℕ). (2 ≤ n) × (n ≤ 2048)) c.args.sizes.now i 0 (omega arith) c.requires.range in
    omega (arith, c.len.ensures, c.max.ensures, c.in_ok-first.ensures.few_more, c.loop-size.invariant.room, extent-few n range.1, c.requires.few)

pub loop-size-preserved : goal.loop-size-preserved
loop-size-preserved c =
    let sizes = c.args.sizes.now in
    let i = c.loop-size.size-index in
    let p = c.first_place-place.result in
    let new = c.first_place-place.ensures in
    let cells = c.first_of.new.cells.items in
    let places : c.push.new.self.items ≡ c.loop-size.places.items ++ p ∷ [] = pushed (p ∷ []) refl c.in_ok-push.was c.push.ensures.items in
    let front : take (i + 1) sizes ≡ take i sizes ++ get_or sizes i 0 ∷ [] = take_more sizes i 0 (omega arith) in
    let few : extent p.size ≤ 6146 = extent-few p.size new.shape.few in
    let more : length cells ≤ c.loop-size.end + dist_extent p.size = rw new.size c.in_ok-first.ensures.few_more in
    let behind : length cells ≤ p.start = omega (arith, new.start, c.len.ensures, c.max.ensures) in
    let after : c.loop-size.end ≤ p.start = omega (arith, new.start, c.max.ensures) in
    let firsts : AreFirst (c.loop-size.places.items ++ p ∷ []) (cells ++ []) =
    AreFirst-push c.loop-size.places.items p cells [] (rw c.deref.ensures.value at c.in_ok-first.ensures.firsts) (rw (new.size, new.first) c.in_ok-first.ensures.first) (rw (new.size, new.first) (rw c.deref.ensures.value at c.in_ok-first.ensures.apart)) behind in
    record {
      layout = rw (places, front)
          (layout-push c.loop-size.places.items (take i sizes) c.loop-size.end (get_or sizes i 0) p c.loop-size.invariant.layout
          (record { shape = new.shape; size = new.size; first = new.remaining; dist = rw new.first new.dist; even = new.even })
          after);
      firsts = rw places (rw (append-nil cells) at firsts);
      short = omega (arith, new.shape.extent, behind);
      room = omega (arith, new.shape.extent, new.start, c.len.ensures, c.max.ensures, more, few, c.loop-size.invariant.room);
    }

pub overflow_sub-more : goal.overflow_sub-more
overflow_sub-more c = omega (arith, c.loop-size.invariant.short)
