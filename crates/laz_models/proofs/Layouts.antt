-- The places of new models.
use Rattle.std.proofs.Common.{◌≡◌, true, false, ℕ, ◌+◌, ◌-◌, ◌<◌, ◌≤◌, List, [], ◌∷◌, ◌++◌, length, map, drop, get_or, refl, sym, ap, ◌∙◌, arith, ◌⊎◌, ⊎_elim, inl}
use Rattle.std.proofs.lemmas.Bool.{cases_lt}
use Rattle.std.proofs.lemmas.List.{length-append, length-map, length_push, take-append-le, get_or-map, get_or_push, get_or_append_left, get_or_default, same_lists}
use Rattle.std.proofs.lemmas.Slice.{between_is}
use Rattle.laz_models.specs.Bank.{alphabet_sizes}
use Rattle.laz_models.specs.Counting.{Counting, new_model}
use Rattle.laz_models.specs.Dist.{alphabet_size}
use Rattle.laz_models.specs.Place.{cells_of, counting_in, as_new, dist_extent, first_in, AreFirst, EndWithin, IsApart, IsFirst, IsShaped, IsPlaced, IsBank, IsLayout}
use Rattle.laz_models.specs.declared.place.Place.{Place}
use Rattle.laz_models.proofs.Banks.{size-new_model, fits-place}
use Rattle.laz_models.proofs.Models.{counting_of-first}

-- ---- a layout grows
-- what holds of each of a list and of one more holds of each of the longer list
each_push : (P : ℕ → Place → Type 0) (places : List Place) (p : Place) → ((m : ℕ) (d : Place) → m < length places → P m (get_or places m d)) → P (length places) p
    → (m : ℕ) (d : Place) → m < length (places ++ p ∷ []) → P m (get_or (places ++ p ∷ []) m d)
each_push P places p each here m d below =
    ⊎_elim {C = P m (get_or (places ++ p ∷ []) m d)}
    (λ (before : m < length places). rw (get_or_append_left places (p ∷ []) d m before) (each m d before))
    (λ (behind : length places ≤ m).
    let last : length places ≡ m = omega (arith, length_push places p) in
    let same : P m p = rw last at here in
    rw (get_or_push places p d m last) same)
    (cases_lt m (length places))

-- what a new model's place is
pub record IsNew (n : ℕ) (p : Place) : Type 0 where
  pub shape : IsShaped p
  pub size : p.size ≡ n
  pub first : p.remaining ≡ 0
  pub dist : p.dist ≡ p.first
  pub even : p.even ≡ true

pub layout-push : (places : List Place) (sizes : List ℕ) (end n : ℕ) (p : Place) → IsLayout places sizes end → IsNew n p → end ≤ p.start → IsLayout (places ++ p ∷ []) (sizes ++ n ∷ []) p.end
layout-push places sizes end n p layout new start =
    let more : length (places ++ p ∷ []) ≡ length places + 1 = length_push places p in
    let grows : end ≤ p.end = omega (arith, new.shape.extent) in
    record {
      count = more ∙ (ap (λ k. k + 1) layout.count ∙ sym (length_push sizes n));
      shape = each_push (λ m q. IsShaped q) places p layout.shape new.shape;
      size = each_push (λ m q. q.size ≡ get_or (sizes ++ n ∷ []) m 0) places p
          (λ m d below. layout.size m d below ∙ sym (get_or_append_left sizes (n ∷ []) 0 m (omega (arith, layout.count))))
          (new.size ∙ sym (get_or_push sizes n 0 (length places) (sym layout.count)));
      first = each_push (λ m q. q.remaining ≡ 0) places p layout.first new.first;
      even = each_push (λ m q. q.even ≡ true) places p layout.even new.even;
      dist = each_push (λ m q. q.dist ≡ q.first) places p layout.dist new.dist;
      within = each_push (λ m q. q.end ≤ p.end) places p (λ m d below. omega (arith, layout.within m d below)) (omega arith);
      apart = λ i j d order below.
          each_push (λ k q. i < k → (get_or (places ++ p ∷ []) i d).end ≤ q.start) places p
          (λ k e inside earlier.
          let remaining : get_or (places ++ p ∷ []) i d ≡ get_or places i e = get_or_append_left places (p ∷ []) d i (omega arith) ∙ get_or_default places i d e (omega arith) in
          rw remaining (layout.apart i k e earlier inside))
          (λ earlier. rw (get_or_append_left places (p ∷ []) d i earlier) (omega (arith, layout.within i d earlier)))
          j d below order;
    }

-- ---- the distributions of new models
-- more of them after those that are there
pub IsFirst-append : (n first : ℕ) (firsts more : List ℕ) → IsFirst n first firsts → IsFirst n first (firsts ++ more)
IsFirst-append n first firsts more is =
    let within : first + dist_extent n ≤ length firsts = is.within in
    let same : first_in n first (firsts ++ more) ≡ first_in n first firsts =
    between_is (firsts ++ more) first (first + dist_extent n) ∙ (ap (drop first) (take-append-le (first + dist_extent n) firsts more within) ∙ sym (between_is firsts first (first + dist_extent n))) in
    record { within = omega (arith, length-append firsts more); even = rw same is.even }

-- one model more, whose own cells lie after all others
pub AreFirst-push : (places : List Place) (p : Place) (cells more : List ℕ) → AreFirst places cells → IsFirst p.size p.first cells → IsApart p.size p.first places → length cells ≤ p.start
    → AreFirst (places ++ p ∷ []) (cells ++ more)
AreFirst-push places p cells more are is apart after =
    record {
      there = each_push (λ _ q. IsFirst q.size q.first (cells ++ more)) places p
          (λ m d below. IsFirst-append (get_or places m d).size (get_or places m d).first cells more (are.there m d below))
          (IsFirst-append p.size p.first cells more is);
      apart = each_push (λ _ q. IsApart q.size q.first (places ++ p ∷ [])) places p
          (λ m d below.
          each_push (λ _ r. ((get_or places m d).first + dist_extent (get_or places m d).size ≤ r.start) ⊎ (r.end ≤ (get_or places m d).first)) places p
          (are.apart m d below)
          (inl (omega (arith, (are.there m d below).within, after))))
          (each_push (λ _ r. (p.first + dist_extent p.size ≤ r.start) ⊎ (r.end ≤ p.first)) places p apart (inl (omega (arith, is.within, after))));
    }

pub AreFirst-new : (places : List Place) (cells : List ℕ) → AreFirst places cells → AreFirst (map as_new places) cells
AreFirst-new places cells are =
    record {
      there = λ m d below.
          let here : m < length places = omega (arith, length-map places as_new) in
          rw (get_or-map as_new places m d d here) (are.there m d here);
      apart = λ m d below k e among.
          let here : m < length places = omega (arith, length-map places as_new) in
          let there : k < length places = omega (arith, length-map places as_new) in
          rw (get_or-map as_new places m d d here, get_or-map as_new places k e e there) (are.apart m d here k e there);
    }

pub EndWithin-new : (places : List Place) (end : ℕ) → EndWithin places end → EndWithin (map as_new places) end
EndWithin-new places end within = λ m d below.
    let here : m < length places = omega (arith, length-map places as_new) in
    rw (get_or-map as_new places m d d here) (within m d here)

-- ---- the bank of a layout
pub layout-view : (places : List Place) (sizes cells : List ℕ) (end : ℕ) → IsLayout places sizes end → map (counting_in cells) places ≡ map new_model sizes
layout-view places sizes cells end layout =
    same_lists (map (counting_in cells) places) (map new_model sizes) (length-map places (counting_in cells) ∙ (layout.count ∙ sym (length-map sizes new_model)))
    (λ k d below.
    let here : k < length places = omega (arith, length-map places (counting_in cells)) in
    let p0 : Place = record { start = 0; end = 0; first = 0; dist = 0; size = 0; shift = 0; total = 0; cycle = 0; indexed = false; even = true; remaining = 0 } in
    get_or-map (counting_in cells) places k p0 d here
    ∙ (counting_of-first (get_or places k p0) (cells_of (get_or places k p0) cells) (layout.first k p0 here)
    ∙ (ap new_model (layout.size k p0 here)
    ∙ sym (get_or-map new_model sizes k 0 d (omega (arith, layout.count))))))

-- ---- the bank as new
pub first-IsBank : (places : List Place) (cells : List ℕ) → IsBank places cells → IsBank (map as_new places) cells
first-IsBank places cells bank =
    let count : length (map as_new places) ≡ length places = length-map places as_new in
    record {
      placed = λ m d below.
          let here : m < length places = omega arith in
          let placed : IsPlaced (get_or places m d) cells = bank.placed m d here in
          let shape = placed.model.shape in
          rw (get_or-map as_new places m d d here)
          (record {
            model = record {
              shape = record { many = shape.many; few = shape.few; shift = shape.shift; extent = shape.extent };
              length = λ some. absurd (omega arith);
              even = λ _. refl;
              dist = λ _. refl;
              laid = λ some. absurd (omega arith);
            };
            within = λ some. absurd (omega arith);
          });
      apart = λ i j d order below.
          let there : j < length places = omega arith in
          let before : i < length places = omega arith in
          rw (get_or-map as_new places i d d before, get_or-map as_new places j d d there) (bank.apart i j d order there);
    }

pub first-view : (places : List Place) (cells : List ℕ) → IsBank places cells → map (counting_in cells) (map as_new places) ≡ map (λ m. new_model (alphabet_size m)) (map (counting_in cells) places)
first-view places cells bank =
    let count : length (map (counting_in cells) (map as_new places)) ≡ length places = length-map (map as_new places) (counting_in cells) ∙ length-map places as_new in
    let count_old : length (map (λ (m : Counting). new_model (alphabet_size m)) (map (counting_in cells) places)) ≡ length places = length-map (map (counting_in cells) places) (λ m. new_model (alphabet_size m)) ∙ length-map places (counting_in cells) in
    same_lists (map (counting_in cells) (map as_new places)) (map (λ m. new_model (alphabet_size m)) (map (counting_in cells) places)) (count ∙ sym count_old)
    (λ k d below.
    let here : k < length places = omega arith in
    let p0 : Place = record { start = 0; end = 0; first = 0; dist = 0; size = 0; shift = 0; total = 0; cycle = 0; indexed = false; even = true; remaining = 0 } in
    let p : Place = get_or places k p0 in
    let s = fits-place p (cells_of p cells) (bank.placed k p0 here).model in
    get_or-map (counting_in cells) (map as_new places) k (as_new p0) d (omega (arith, length-map places as_new))
    ∙ (ap (counting_in cells) (get_or-map as_new places k p0 (as_new p0) here)
    ∙ (counting_of-first (as_new p) (cells_of p cells) refl
    ∙ (ap new_model (sym s.size)
    ∙ (ap (λ m. new_model (alphabet_size m)) (sym (get_or-map (counting_in cells) places k p0 d here))
    ∙ sym (get_or-map (λ m. new_model (alphabet_size m)) (map (counting_in cells) places) k d d (omega (arith, length-map places (counting_in cells)))))))))

-- ---- sizes
pub sizes-new_model : (sizes : List ℕ) → alphabet_sizes (map new_model sizes) ≡ sizes
sizes-new_model [] = refl
sizes-new_model (n ∷ ns) = rw (size-new_model n, sizes-new_model ns) refl

pub sizes-reset : (bank : List Counting) → alphabet_sizes (map (λ (m : Counting). new_model (alphabet_size m)) bank) ≡ alphabet_sizes bank
sizes-reset [] = refl
sizes-reset (m ∷ ms) = rw (size-new_model (alphabet_size m), sizes-reset ms) refl
