-- The cells of one model among those of all.
use Rattle.std.proofs.Common.{◌≡◌, true, false, ℕ, ◌+◌, ◌-◌, ◌<◌, ◌≤◌, List, length, take, drop, set, get_or, sym, ap, ◌∙◌, arith, ⊎_elim}
use Rattle.std.specs.Prelude.{slice_range}
use Rattle.std.proofs.lemmas.Bool.{cases_Bool, cond-false}
use Rattle.std.proofs.lemmas.List.{length-drop, length-set, drop-drop, drop-set-add, get_or-drop, get_or-take}
use Rattle.std.proofs.lemmas.Slice.{between_is}
use Rattle.laz_models.specs.Counting.{after_symbol}
use Rattle.laz_models.specs.Place.{cells_of, counting_in, counting_of, dist_extent, dist_in, first_in, starts_in, IsDist, IsFirst, IsPlaced, IsShaped, IsTable}
use Rattle.laz_models.specs.declared.place.Place.{Place}
use Rattle.laz_models.proofs.Models.{adds, one_fewer, count-fits, counting_of-laid, dist-first, own-laid, starts-even, starts-own, take-set-below}

-- a write to a model's own cells
pub cells_of-set : (p : Place) (cells : List ℕ) (s x : ℕ) → s < p.end - p.start → p.end ≤ length cells → cells_of p (set cells (p.start + s) x) ≡ set (cells_of p cells) s x
cells_of-set p cells s x below within =
    ap (take (p.end - p.start)) (drop-set-add p.start cells s x)
    ∙ take-set-below (p.end - p.start) (drop p.start cells) s x below (omega (arith, length-drop p.start cells))

-- a read of them
pub cells_of-get : (p : Place) (cells : List ℕ) (s : ℕ) → s < p.end - p.start → get_or (cells_of p cells) s 0 ≡ get_or cells (p.start + s) 0
cells_of-get p cells s below = get_or-take (p.end - p.start) (drop p.start cells) s 0 below ∙ get_or-drop p.start cells s 0

-- a symbol more, not the last one of the cycle, at its place
pub record AddsAt (p : Place) (old new : List ℕ) (s : ℕ) : Type 0 where
  pub placed : IsPlaced (one_fewer p) new
  pub after_symbol : counting_of (one_fewer p) (cells_of (one_fewer p) new) ≡ after_symbol (counting_of p (cells_of p old)) s

pub adds_at : (p : Place) (cells : List ℕ) (s x : ℕ) → IsPlaced p cells → s < p.size → 2 ≤ p.remaining → x ≡ get_or cells (p.start + s) 0 → AddsAt p cells (set cells (p.start + s) (x + 1)) s
adds_at p cells s x placed below more read =
    let shape = placed.model.shape in
    let laid = placed.model.laid (omega arith) in
    let inside : s < p.end - p.start = omega (arith, shape.extent) in
    let some : 0 < p.remaining = omega arith in
    let size : p.size ≤ length (cells_of p cells) = omega (arith, placed.model.length some) in
    let same : cells_of p (set cells (p.start + s) (x + 1)) ≡ set (cells_of p cells) s (get_or (cells_of p cells) s 0 + 1) =
    cells_of-set p cells s (x + 1) inside (placed.within some) ∙ ap (λ y. set (cells_of p cells) s (y + 1)) (read ∙ sym (cells_of-get p cells s inside)) in
    let a = adds p (cells_of p cells) s laid size below more in
    record {
      placed = record {
        model = record {
          shape = record { many = shape.many; few = shape.few; shift = shape.shift; extent = shape.extent };
          length = λ _. ap length same ∙ (length-set (cells_of p cells) s (get_or (cells_of p cells) s 0 + 1) ∙ placed.model.length some);
          even = λ e. absurd (omega (arith, e, more));
          dist = λ e. absurd (omega (arith, e, more));
          laid = λ _. rw same a.laid;
        };
        within = λ _. omega (arith, length-set cells (p.start + s) (x + 1), placed.within some);
      };
      after_symbol = rw (same, counting_of-laid p (cells_of p cells) (omega arith)) (counting_of-laid (one_fewer p) (set (cells_of p cells) s (get_or (cells_of p cells) s 0 + 1)) (omega arith) ∙ a.after_symbol);
    }

pub count-fits-at : (p : Place) (cells : List ℕ) (s x : ℕ) → IsPlaced p cells → s < p.size → 0 < p.remaining → x ≡ get_or cells (p.start + s) 0 → x + 1 < 65536
count-fits-at p cells s x placed below laid read =
    let inside : s < p.end - p.start = omega (arith, placed.model.shape.extent) in
    omega (arith, read, cells_of-get p cells s inside, count-fits p (cells_of p cells) s (placed.model.laid laid) placed.model.shape.few (omega (arith, placed.model.length laid)) below)

-- ---- where a model's distribution lies
-- after its counts, if it is not in its first cycle
dist_in-own : (p : Place) (cells : List ℕ) → IsShaped p → p.dist ≡ p.start + p.size → slice_range cells p.dist (p.dist + dist_extent p.size) ≡ dist_in p.size (cells_of p cells)
dist_in-own p cells shape after =
    let end : p.dist + dist_extent p.size ≡ p.end = omega (arith, shape.extent, after) in
    ap (λ j. slice_range cells p.dist j) end ∙ (between_is cells p.dist p.end
    ∙ (ap (λ i. drop i (take p.end cells)) after ∙ (sym (drop-drop p.size p.start (take p.end cells)) ∙ ap (drop p.size) (sym (between_is cells p.start p.end)))))

pub record HasDist (p : Place) (cells dist : List ℕ) : Type 0 where
  pub within : p.dist + dist_extent p.size ≤ length cells
  pub is : IsDist p.size dist
  pub starts : starts_in p.size dist ≡ (counting_in cells p).starts
  pub table : p.indexed ≡ true → IsTable p.size p.shift dist

pub has_dist : (p : Place) (cells : List ℕ) → IsPlaced p cells → IsFirst p.size p.first cells → HasDist p cells (slice_range cells p.dist (p.dist + dist_extent p.size))
has_dist p cells placed first =
    let own = cells_of p cells in
    let model = placed.model in
    ⊎_elim {C = HasDist p cells (slice_range cells p.dist (p.dist + dist_extent p.size))}
    (λ (even : p.even ≡ true).
    let there : p.dist ≡ p.first = dist-first p own model even in
    let same : slice_range cells p.dist (p.dist + dist_extent p.size) ≡ first_in p.size p.first cells = ap (λ i. slice_range cells i (i + dist_extent p.size)) there in
    rw same
    (record {
      within = omega (arith, first.within, there);
      is = first.even.whole;
      starts = first.even.starts ∙ sym (starts-even p own even);
      table = λ _. rw model.shape.shift first.even.table;
    }))
    (λ (later : p.even ≡ false).
    let some = own-laid p own model later in
    let laid = model.laid some in
    let there : p.dist ≡ p.start + p.size = laid.dist ∙ cond-false _ _ _ later in
    rw (dist_in-own p cells model.shape there)
    (record {
      within = omega (arith, there, model.shape.extent, placed.within some);
      is = laid.own later;
      starts = sym (starts-own p own some later);
      table = λ indexed. laid.table indexed later;
    }))
    (cases_Bool p.even)
