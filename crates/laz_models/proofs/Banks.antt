-- The models of a bank, one of which changes. Cited by crates above.
use Rattle.std.proofs.Common.{◌≡◌, true, false, ◌⊎◌, ℕ, ◌+◌, ◌-◌, ◌<◌, ◌≤◌, List, [], ◌∷◌, ◌++◌, length, map, set, drop, get_or, refl, sym, ap, ◌∙◌, arith, ⊎_elim, inl, inr}
use Rattle.std.proofs.lemmas.Bool.{cases_eq, cases_lt}
use Rattle.std.proofs.lemmas.List.{length-append, length-map, length-set, length-take-le, length-replicate, take-append-le, get_or-map, get_or-set_same, get_or-set_other, get_or_default, set-get_or, map-set, same_lists}
use Rattle.std.proofs.lemmas.List.Edits.{length-between, get_or-between}
use Rattle.std.proofs.lemmas.Slice.{between_is}
use Rattle.laz_models.specs.Bank.{model_at, alphabet_sizes}
use Rattle.laz_models.specs.Counting.{Counting, AreStarts, after_symbol, new_model, new_cycle, counts_with}
use Rattle.laz_models.specs.Dist.{alphabet_size, StandsFor}
use Rattle.laz_models.specs.Place.{cells_of, counting_in, counting_of, dist_extent, first_in, EndWithin, IsShaped, IsModel, IsPlaced, AreFirst, IsBank, SamePlace, SameOutside}
use Rattle.laz_models.specs.declared.place.Place.{Place}
use Rattle.laz_models.proofs.Models.{new_model-starts, first-AreStarts, counting_of-first, counting_of-laid}
use Rattle.laz_models.proofs.Parts.{after_symbol-last, after_symbol-more}
use Rattle.laz_models.proofs.Stand.{Stands-push, Stands-new_model, length-small_counts}

-- ---- what a model's size is
pub size-new_model : (n : ℕ) → alphabet_size (new_model n) ≡ n
unfolding new_model
size-new_model n = length-replicate n 1

pub size-new_cycle : (counts : List ℕ) (cycle : ℕ) → alphabet_size (new_cycle counts cycle) ≡ length counts
unfolding new_cycle
size-new_cycle counts cycle = length-small_counts counts

pub size-after_symbol : (m : Counting) (s : ℕ) → alphabet_size (after_symbol m s) ≡ alphabet_size m
size-after_symbol m s =
    ⊎_elim
    (λ (last : m.remaining ≡ 1). ap alphabet_size (after_symbol-last m s last) ∙ (size-new_cycle (counts_with m.counts s) m.cycle ∙ length-set m.counts s (get_or m.counts s 0 + 1)))
    (λ (more : m.remaining ≡ 1 → ⊥). ap alphabet_size (after_symbol-more m s more) ∙ length-set m.counts s (get_or m.counts s 0 + 1))
    (cases_eq m.remaining 1)

-- what a model says of its parts and its size
pub record FitsPlace (p : Place) (m : Counting) : Type 0 where
  pub size : alphabet_size m ≡ p.size
  pub starts : AreStarts p.size m.starts

pub fits-place : (p : Place) (cells : List ℕ) → IsModel p cells → FitsPlace p (counting_of p cells)
fits-place p cells model =
    ⊎_elim {C = FitsPlace p (counting_of p cells)}
    (λ (first : p.remaining ≡ 0).
    rw (counting_of-first p cells first)
    (record { size = size-new_model p.size; starts = rw (new_model-starts p.size) (first-AreStarts p.size model.shape.many model.shape.few) }))
    (λ (laid : p.remaining ≡ 0 → ⊥).
    let some : 0 < p.remaining = omega (arith, laid) in
    rw (counting_of-laid p cells some)
    (record { size = length-take-le p.size cells (omega (arith, model.length some)); starts = (model.laid some).starts }))
    (cases_eq p.remaining 0)

-- ---- one model of a bank
pub record IsAt (bank : List Counting) (m : ℕ) (p : Place) (cells : List ℕ) : Type 0 where
  pub is : model_at bank m ≡ counting_of p (cells_of p cells)
  pub placed : IsPlaced p cells
  pub size : alphabet_size (model_at bank m) ≡ p.size
  pub state_parts : AreStarts p.size (counting_of p (cells_of p cells)).starts
  pub starts : AreStarts (alphabet_size (model_at bank m)) (model_at bank m).starts

pub at : (bank : List Counting) (places : List Place) (cells : List ℕ) (m : ℕ) (p : Place) → map (counting_in cells) places ≡ bank → IsBank places cells
    → m < length bank → p ≡ get_or places m p → IsAt bank m p cells
at bank places cells m p view invariant below read =
    let count : length places ≡ length bank = sym (length-map places (counting_in cells)) ∙ ap length view in
    let here : m < length places = omega arith in
    let placed : IsPlaced p cells = rw (← read) at (invariant.placed m p here) in
    let is : model_at bank m ≡ counting_of p (cells_of p cells) =
    ap (λ b. model_at b m) (sym view) ∙ (get_or-map (counting_in cells) places m p (new_model 2) here ∙ ap (counting_in cells) (sym read)) in
    let s = fits-place p (cells_of p cells) placed.model in
    record {
      is = is;
      placed = placed;
      size = ap alphabet_size is ∙ s.size;
      state_parts = s.starts;
      starts = rw (is, s.size) s.starts;
    }

pub many-at : (bank : List Counting) (places : List Place) (cells : List ℕ) (m : ℕ) → map (counting_in cells) places ≡ bank → IsBank places cells → m < length bank → 2 ≤ alphabet_size (model_at bank m)
many-at bank places cells m view invariant below =
    let p : Place = get_or places m (record { start = 0; end = 0; first = 0; dist = 0; size = 0; shift = 0; total = 0; cycle = 0; indexed = false; even = true; remaining = 0 }) in
    let here : m < length places = omega (arith, length-map places (counting_in cells), ap length view) in
    let a = at bank places cells m p view invariant below (get_or_default places m (record { start = 0; end = 0; first = 0; dist = 0; size = 0; shift = 0; total = 0; cycle = 0; indexed = false; even = true; remaining = 0 }) p here) in
    omega (arith, a.size, a.placed.model.shape.many)

-- ---- one model of a bank changes
-- a model that lies apart keeps its cells
pub cells_of-apart : (p q : Place) (old new : List ℕ) → SameOutside p.start p.end old new → q.start ≤ q.end → q.end ≤ length old → (q.end ≤ p.start) ⊎ (p.end ≤ q.start) → cells_of q new ≡ cells_of q old
cells_of-apart p q old new same order within apart =
    let size : length (cells_of q old) ≡ q.end - q.start = length-between old q.start q.end within in
    let size_new : length (cells_of q new) ≡ q.end - q.start = length-between new q.start q.end (omega (arith, same.longer)) in
    same_lists (cells_of q new) (cells_of q old) (size_new ∙ sym size)
    (λ k d below.
    let inside : q.start + k < q.end = omega arith in
    let at_old : get_or (cells_of q old) k 0 ≡ get_or old (q.start + k) 0 = get_or-between old q.start q.end k 0 inside in
    let at_new : get_or (cells_of q new) k 0 ≡ get_or new (q.start + k) 0 = get_or-between new q.start q.end k 0 inside in
    let kept : get_or new (q.start + k) 0 ≡ get_or old (q.start + k) 0 =
    ⊎_elim
    (λ (before : q.end ≤ p.start). same.before (q.start + k) (omega arith) (omega arith))
    (λ (behind : p.end ≤ q.start). same.after (q.start + k) (omega arith) (omega arith))
    apart in
    get_or_default (cells_of q new) k d 0 below ∙ (at_new ∙ (kept ∙ (sym at_old ∙ get_or_default (cells_of q old) k 0 d (omega arith)))))

-- a changed place keeps its ends
pub place-set : (places : List Place) (m : ℕ) (p new d : Place) (k : ℕ) → m < length places → p ≡ get_or places m p → SamePlace p new → SamePlace (get_or places k d) (get_or (set places m new) k d)
place-set places m p new d k here read same =
    ⊎_elim {C = SamePlace (get_or places k d) (get_or (set places m new) k d)}
    (λ (e : k ≡ m).
    let old : get_or places k d ≡ p = ap (λ i. get_or places i d) e ∙ (get_or_default places m d p here ∙ sym read) in
    let now : get_or (set places m new) k d ≡ new = ap (λ i. get_or (set places m new) i d) e ∙ get_or-set_same places m new d here in
    rw (old, now) same)
    (λ (ne : k ≡ m → ⊥). rw (get_or-set_other places m k new d ne) (record { start = refl; end = refl; first = refl; size = refl; shift = refl }))
    (cases_eq k m)

-- another model's place
pub others-apart : (places : List Place) (cells : List ℕ) (m k : ℕ) (p d : Place) → IsBank places cells → m < length places → k < length places → p ≡ get_or places m p → (k ≡ m → ⊥)
    → ((get_or places k d).end ≤ p.start) ⊎ (p.end ≤ (get_or places k d).start)
others-apart places cells m k p d invariant here there read ne =
    let now : get_or places m d ≡ p = get_or_default places m d p here ∙ sym read in
    ⊎_elim {C = ((get_or places k d).end ≤ p.start) ⊎ (p.end ≤ (get_or places k d).start)}
    (λ (before : k < m). inl (rw now at (invariant.apart k m d before here)))
    (λ (behind : m ≤ k). inr (rw now at (invariant.apart m k d (omega (arith, ne)) there)))
    (cases_lt k m)

-- a place's cells lie in order
pub in-order : (q : Place) → IsShaped q → q.start ≤ q.end
in-order q shape = omega (arith, shape.extent)

-- a new model needs no cells
pub new-placed : (q : Place) (old new : List ℕ) → IsPlaced q old → q.remaining ≡ 0 → IsPlaced q new
new-placed q old new placed first =
    record {
      model = record {
        shape = placed.model.shape;
        length = λ some. absurd (omega (arith, some, first));
        even = placed.model.even;
        dist = placed.model.dist;
        laid = λ some. absurd (omega (arith, some, first));
      };
      within = λ some. absurd (omega (arith, some, first));
    }

-- a model whose cells stay, if they are there, stays
pub record StaysAt (q : Place) (old new : List ℕ) : Type 0 where
  pub placed : IsPlaced q new
  pub counting : counting_in new q ≡ counting_in old q

pub stays-at : (q : Place) (old new : List ℕ) → IsPlaced q old → length old ≤ length new → (q.end ≤ length old → cells_of q new ≡ cells_of q old) → StaysAt q old new
stays-at q old new placed longer keep =
    ⊎_elim {C = StaysAt q old new}
    (λ (first : q.remaining ≡ 0).
    record {
      placed = new-placed q old new placed first;
      counting = counting_of-first q (cells_of q new) first ∙ sym (counting_of-first q (cells_of q old) first);
    })
    (λ (laid : q.remaining ≡ 0 → ⊥).
    let some : 0 < q.remaining = omega (arith, laid) in
    let within : q.end ≤ length old = placed.within some in
    let kept : cells_of q new ≡ cells_of q old = keep within in
    record {
      placed = record { model = rw kept placed.model; within = λ _. omega (arith, within, longer) };
      counting = ap (counting_of q) kept;
    })
    (cases_eq q.remaining 0)

-- another model stays
pub others-keep : (places : List Place) (old new : List ℕ) (m k : ℕ) (p d : Place) → IsBank places old → m < length places → k < length places → p ≡ get_or places m p → (k ≡ m → ⊥)
    → SameOutside p.start p.end old new → StaysAt (get_or places k d) old new
others-keep places old new m k p d invariant here there read ne same =
    let placed : IsPlaced (get_or places k d) old = invariant.placed k d there in
    stays-at (get_or places k d) old new placed same.longer
    (λ within. cells_of-apart p (get_or places k d) old new same (in-order (get_or places k d) placed.model.shape) within (others-apart places old m k p d invariant here there read ne))

-- the bank after one model has changed
pub IsBank-set : (places : List Place) (old new : List ℕ) (m : ℕ) (p q : Place) → IsBank places old → m < length places → p ≡ get_or places m p → SamePlace p q → IsPlaced q new
    → SameOutside p.start p.end old new → IsBank (set places m q) new
IsBank-set places old new m p q invariant here read same good outside =
    let count : length (set places m q) ≡ length places = length-set places m q in
    record {
      placed = λ k d below.
          ⊎_elim {C = IsPlaced (get_or (set places m q) k d) new}
          (λ (e : k ≡ m). rw (e, get_or-set_same places m q d here) good)
          (λ (ne : k ≡ m → ⊥).
          let kept = others-keep places old new m k p d invariant here (omega arith) read ne outside in
          rw (get_or-set_other places m k q d ne) kept.placed)
          (cases_eq k m);
      apart = λ i j d order below.
          let a = place-set places m p q d i here read same in
          let b = place-set places m p q d j here read same in
          omega (arith, a.end, b.start, invariant.apart i j d order (omega arith));
    }

pub view-set : (places : List Place) (old new : List ℕ) (m : ℕ) (p q : Place) → IsBank places old → m < length places → p ≡ get_or places m p
    → SameOutside p.start p.end old new → map (counting_in new) (set places m q) ≡ set (map (counting_in old) places) m (counting_of q (cells_of q new))
view-set places old new m p q invariant here read outside =
    let count : length (map (counting_in new) (set places m q)) ≡ length places = length-map (set places m q) (counting_in new) ∙ length-set places m q in
    let count_old : length (set (map (counting_in old) places) m (counting_of q (cells_of q new))) ≡ length places = length-set (map (counting_in old) places) m (counting_of q (cells_of q new)) ∙ length-map places (counting_in old) in
    same_lists (map (counting_in new) (set places m q)) (set (map (counting_in old) places) m (counting_of q (cells_of q new))) (count ∙ sym count_old)
    (λ k d below.
    let there : k < length places = omega arith in
    let read_new : get_or (map (counting_in new) (set places m q)) k d ≡ counting_in new (get_or (set places m q) k p) = get_or-map (counting_in new) (set places m q) k p d (omega (arith, length-set places m q)) in
    ⊎_elim {C = get_or (map (counting_in new) (set places m q)) k d ≡ get_or (set (map (counting_in old) places) m (counting_of q (cells_of q new))) k d}
    (λ (e : k ≡ m).
    read_new ∙ rw (e, get_or-set_same places m q p here, get_or-set_same (map (counting_in old) places) m (counting_of q (cells_of q new)) d (omega (arith, length-map places (counting_in old)))) refl)
    (λ (ne : k ≡ m → ⊥).
    let kept = others-keep places old new m k p p invariant here there read ne outside in
    read_new
    ∙ (ap (counting_in new) (get_or-set_other places m k q p ne)
    ∙ (kept.counting
    ∙ (sym (get_or-map (counting_in old) places k p d there)
    ∙ sym (get_or-set_other (map (counting_in old) places) m k (counting_of q (cells_of q new)) d ne)))))
    (cases_eq k m))

-- the distribution of a new model stays, since it lies apart from the model that changes
first_in-apart : (p : Place) (n first : ℕ) (old new : List ℕ) → SameOutside p.start p.end old new → first + dist_extent n ≤ length old → (first + dist_extent n ≤ p.start) ⊎ (p.end ≤ first)
    → first_in n first new ≡ first_in n first old
first_in-apart p n first old new same within apart = cells_of-apart p (record p { start = first; end = first + dist_extent n }) old new same (omega arith) within apart

pub AreFirst-set : (places : List Place) (old new : List ℕ) (m : ℕ) (p q : Place) → AreFirst places old → m < length places → p ≡ get_or places m p → SamePlace p q
    → SameOutside p.start p.end old new → AreFirst (set places m q) new
AreFirst-set places old new m p q are here read same outside =
    let count : length (set places m q) ≡ length places = length-set places m q in
    record {
      there = λ k d below.
          let inside : k < length places = omega arith in
          let kept = place-set places m p q d k here read same in
          let is = are.there k d inside in
          let now : get_or places m d ≡ p = get_or_default places m d p here ∙ sym read in
          let cells = first_in-apart p (get_or places k d).size (get_or places k d).first old new outside is.within (rw now at (are.apart k d inside m d here)) in
          rw (kept.size, kept.first) (record { within = omega (arith, is.within, outside.longer); even = rw cells is.even });
      apart = λ k d below i e among.
          let a = place-set places m p q d k here read same in
          let b = place-set places m p q e i here read same in
          rw (a.size, a.first, b.start, b.end) (are.apart k d (omega arith) i e (omega arith));
    }

-- the places end where they did
pub EndWithin-set : (places : List Place) (m end more : ℕ) (p q : Place) → EndWithin places end → end ≤ more → m < length places → p ≡ get_or places m p → SamePlace p q → EndWithin (set places m q) more
EndWithin-set places m end more p q within longer here read same = λ k d below.
    let kept = place-set places m p q d k here read same in
    omega (arith, kept.end, longer, within k d (omega (arith, below, length-set places m q)))

-- ---- more cells behind those that are there
pub append-stays : (p : Place) (cells more : List ℕ) → IsPlaced p cells → StaysAt p cells (cells ++ more)
append-stays p cells more placed =
    stays-at p cells (cells ++ more) placed (omega (arith, length-append cells more))
    (λ within. between_is (cells ++ more) p.start p.end ∙ (ap (drop p.start) (take-append-le p.end cells more within) ∙ sym (between_is cells p.start p.end)))

-- ---- what the longer list gives
pub StandsFor-push : (h : List ℕ) (s : ℕ) (m : Counting) → 2 ≤ alphabet_size m → s < alphabet_size m → StandsFor h m → StandsFor (h ++ s ∷ []) (after_symbol m s)
StandsFor-push h s m many below stands = rw (size-after_symbol m s) (Stands-push (alphabet_size m) h s m many below stands)

pub StandsFor-new_model : (n : ℕ) → 2 ≤ n → StandsFor [] (new_model n)
StandsFor-new_model n many = rw (size-new_model n) (Stands-new_model n many)

-- the sizes stay
pub sizes-set : (bank : List Counting) (m s : ℕ) → m < length bank → alphabet_sizes (set bank m (after_symbol (model_at bank m) s)) ≡ alphabet_sizes bank
sizes-set bank m s below =
    let same : alphabet_size (after_symbol (model_at bank m) s) ≡ get_or (map alphabet_size bank) m 0 = size-after_symbol (model_at bank m) s ∙ sym (get_or-map alphabet_size bank m (new_model 2) 0 below) in
    map-set alphabet_size bank m (after_symbol (model_at bank m) s) ∙ (ap (set (map alphabet_size bank) m) same ∙ set-get_or (map alphabet_size bank) m 0)

-- a model's place among the sizes
pub size-at : (bank : List Counting) (m : ℕ) → m < length (alphabet_sizes bank) → (m < length bank) × (alphabet_size (model_at bank m) ≡ get_or (alphabet_sizes bank) m 0)
size-at bank m below =
    let here : m < length bank = omega (arith, length-map bank alphabet_size) in
    (here, sym (get_or-map alphabet_size bank m (new_model 2) 0 here))
