-- The cells of a model, and one more symbol.
use Rattle.std.proofs.Common.{◌≡◌, true, false, ℕ, zero, suc, ◌+◌, ◌-◌, ◌*◌, ◌^◌, ◌<◌, ◌≤◌, min, List, [], ◌∷◌, length, take, drop, sum, replicate, get_or, refl, sym, ap, ◌∙◌, arith, ⊎_elim, ◌++◌, set}
use Rattle.std.proofs.lemmas.List.Sums.{sum_by-set, get_or-le-sum_by}
use Rattle.std.proofs.lemmas.Bool.{cases_eq, cases_lt, cond-true, cond-false, eq-eqb, ne_eqb}
use Rattle.std.proofs.lemmas.List.{take_at, take-append-drop, set-append_left, length-set, get_or-set_same, get_or-set_other, drop-set-lt, length-replicate, length-take-le, length-drop, get_or-drop, get_or-take, get_or_default, get_or_past}
use Rattle.laz_models.specs.Counting.{Counting, AreCounts, AreStarts, counts_with, after_symbol, starts_of, part_end, new_model}
use Rattle.laz_models.specs.Lookup.{IsLastAt, search_bits, start_or_guard}
use Rattle.laz_models.specs.Place.{counts_in, dist_in, starts_in, guards_in, table_in, laid_state, counting_of, dist_extent, even_starts, extent, IsDist, IsLaid, IsModel, IsTable}
use Rattle.laz_models.specs.Near.{IsNear}
use Rattle.laz_models.specs.declared.near.Near.{Near}
use Rattle.laz_models.specs.declared.place.Place.{Place}
use Rattle.laz_models.proofs.Lookups.{search-few}
use Rattle.laz_models.proofs.Parts.{after_symbol-more, starts_of-AreStarts, AreCounts-ones, sum-ones}

-- ---- a model that is new, or laid out
pub counting_of-first : (p : Place) (cells : List ℕ) → p.remaining ≡ 0 → counting_of p cells ≡ new_model p.size
unfolding counting_of
counting_of-first p cells h = cond-true _ _ _ (eq-eqb p.remaining 0 h)

pub counting_of-laid : (p : Place) (cells : List ℕ) → 0 < p.remaining → counting_of p cells ≡ laid_state p cells
unfolding counting_of
counting_of-laid p cells h = cond-false _ _ _ (ne_eqb p.remaining 0 (λ e. omega (arith, e)))

pub new_model-starts : (n : ℕ) → (new_model n).starts ≡ starts_of (replicate n 1)
unfolding new_model
new_model-starts n = refl

pub first-AreStarts : (n : ℕ) → 2 ≤ n → n ≤ 2048 → AreStarts n (starts_of (replicate n 1))
first-AreStarts n many few =
    let total : sum (replicate n 1) ≡ n = sum-ones n in
    let good : AreStarts (length (replicate {A = ℕ} n 1)) (starts_of (replicate n 1)) = starts_of-AreStarts (replicate n 1) (AreCounts-ones n many few) (omega arith) in
    rw (length-replicate {A = ℕ} n 1) at good

-- ---- the starts of a model, in its first cycle and after it
pub starts-even : (p : Place) (cells : List ℕ) → p.even ≡ true → (counting_of p cells).starts ≡ even_starts p.size
starts-even p cells even =
    ⊎_elim {C = (counting_of p cells).starts ≡ even_starts p.size}
    (λ (first : p.remaining ≡ 0). ap (λ (m : Counting). m.starts) (counting_of-first p cells first) ∙ new_model-starts p.size)
    (λ (laid : p.remaining ≡ 0 → ⊥). ap (λ (m : Counting). m.starts) (counting_of-laid p cells (omega (arith, laid))) ∙ cond-true _ _ _ even)
    (cases_eq p.remaining 0)

pub starts-own : (p : Place) (cells : List ℕ) → 0 < p.remaining → p.even ≡ false → (counting_of p cells).starts ≡ starts_in p.size (dist_in p.size cells)
starts-own p cells some own = ap (λ (m : Counting). m.starts) (counting_of-laid p cells some) ∙ cond-false _ _ _ own

-- a model that is not in its first cycle has its counts laid out
pub own-laid : (p : Place) (cells : List ℕ) → IsModel p cells → p.even ≡ false → 0 < p.remaining
own-laid p cells model own =
    ⊎_elim {C = 0 < p.remaining}
    (λ (first : p.remaining ≡ 0). absurd (cc (model.even first, own)))
    (λ (laid : p.remaining ≡ 0 → ⊥). omega (arith, laid))
    (cases_eq p.remaining 0)

-- ---- the end of a part
pub part_end-last : (starts : List ℕ) (n s : ℕ) → length starts ≡ n → s + 1 ≡ n → part_end starts s ≡ 32768
part_end-last starts n s size last = cond-true _ _ _ (eq-eqb (s + 1) (length starts) (last ∙ sym size))

pub part_end-inner : (starts : List ℕ) (n s : ℕ) → length starts ≡ n → (s + 1 ≡ n → ⊥) → part_end starts s ≡ get_or starts (s + 1) 0
part_end-inner starts n s size inner = cond-false _ _ _ (ne_eqb (s + 1) (length starts) (λ e. inner (e ∙ size)))

-- no part is empty, and the last ends at 2 ^ 15
pub part_end-above : (n : ℕ) (starts : List ℕ) (s : ℕ) → AreStarts n starts → s < n → (get_or starts s 0 < part_end starts s) × (part_end starts s ≤ 32768)
part_end-above n starts s h below =
    ⊎_elim {C = (get_or starts s 0 < part_end starts s) × (part_end starts s ≤ 32768)}
    (λ (last : s + 1 ≡ n). rw (part_end-last starts n s h.length last) (h.within s below, omega arith))
    (λ (inner : s + 1 ≡ n → ⊥). rw (part_end-inner starts n s h.length inner) (h.rising s (omega (arith, inner)), omega (arith, h.within (s + 1) (omega (arith, inner)))))
    (cases_eq (s + 1) n)

-- ---- the cells of a distribution
pub length-starts_in : (n : ℕ) (dist : List ℕ) → length dist ≡ dist_extent n → length (starts_in n dist) ≡ n
length-starts_in n dist h = length-take-le n dist (omega arith)

-- how many cells there are at most
pub extent-few : (n : ℕ) → n ≤ 2048 → extent n ≤ 6146
extent-few n few = omega (arith, search-few n)

guard_at : (i g : ℕ) → i < 2 → get_or (g ∷ g ∷ []) i 0 ≡ g
guard_at zero g h = refl
guard_at (suc zero) g h = refl
guard_at (suc (suc i)) g h = absurd (omega arith)

-- the start of a part, by its place among the cells
pub part_at : (n s : ℕ) (dist : List ℕ) → s < n → get_or (starts_in n dist) s 0 ≡ get_or dist s 0
part_at n s dist h = get_or-take n dist s 0 h

-- the start of a part or a guard, by its place among the cells
pub start_or_guard-at : (n k : ℕ) (dist : List ℕ) → IsDist n dist → k < n + 2 → start_or_guard (starts_in n dist) k ≡ get_or dist k 0
start_or_guard-at n k dist is below =
    let count : length (starts_in n dist) ≡ n = length-starts_in n dist is.length in
    ⊎_elim
    (λ (inner : k < n). get_or_default (starts_in n dist) k 65535 0 (omega arith) ∙ part_at n k dist inner)
    (λ (past : n ≤ k).
    let i : ℕ = k - n in
    let few : i < 2 = omega arith in
    let whole : n + i ≡ k = omega arith in
    let there : get_or (guards_in n dist) i 0 ≡ get_or dist (n + i) 0 = get_or-take 2 (drop n dist) i 0 few ∙ get_or-drop n dist i 0 in
    let guard : get_or (guards_in n dist) i 0 ≡ 65535 = rw is.guards (guard_at i 65535 few) in
    get_or_past (starts_in n dist) k 65535 (omega arith) ∙ (sym guard ∙ (there ∙ ap (λ j. get_or dist j 0) whole)))
    (cases_lt k n)

-- an entry of the table, by its place among the cells
pub record AreEntries (n shift : ℕ) (dist : List ℕ) (t : ℕ) : Type 0 where
  pub within : n + 2 + t < length dist
  pub last : IsLastAt (starts_in n dist) (t * 2 ^ shift) (get_or dist (n + 2 + t) 0)

pub entry_at : (n shift : ℕ) (dist : List ℕ) (t : ℕ) → IsDist n dist → IsTable n shift dist → t < 2 ^ search_bits n → AreEntries n shift dist t
entry_at n shift dist t is table below =
    let size : length dist ≡ dist_extent n = is.length in
    let inside : t < length (table_in n dist) = omega (arith, length-drop n dist, length-drop 2 (drop n dist)) in
    let at : get_or (table_in n dist) t 0 ≡ get_or dist (n + 2 + t) 0 =
    get_or-drop 2 (drop n dist) t 0 ∙ (get_or-drop n dist (2 + t) 0 ∙ ap (λ i. get_or dist i 0) (omega arith)) in
    record {
      within = omega arith;
      last = rw at at (table t inside);
    }

-- a symbol and the starts that are read beside it
pub near-is : (n v s : ℕ) (dist : List ℕ) (near : Near) → IsDist n dist → IsLastAt (starts_in n dist) v s → near.symbol ≡ s → near.start ≡ get_or dist s 0
    → near.next ≡ get_or dist (s + 1) 0 → near.after ≡ get_or dist (s + 2) 0 → IsNear (starts_in n dist) v near
near-is n v s dist near is last symbol start next after =
    let count : length (starts_in n dist) ≡ n = length-starts_in n dist is.length in
    let below : s < n = omega (arith, last.symbol) in
    record {
      symbol = rw symbol last;
      start = rw symbol (start ∙ sym (part_at n s dist below));
      next = rw symbol (next ∙ sym (start_or_guard-at n (s + 1) dist is (omega arith)));
      after = rw symbol (after ∙ sym (start_or_guard-at n (s + 2) dist is (omega arith)));
    }

-- ---- one symbol more
-- a write below n
pub take-set-below : (n : ℕ) (cells : List ℕ) (s x : ℕ) → s < n → n ≤ length cells → take n (set cells s x) ≡ set (take n cells) s x
take-set-below n cells s x below within =
    let front : length (take n cells) ≡ n = length-take-le n cells within in
    let whole : set (take n cells ++ drop n cells) s x ≡ set (take n cells) s x ++ drop n cells = set-append_left (take n cells) (drop n cells) s x (omega arith) in
    let same : take n cells ++ drop n cells ≡ cells = take-append-drop n cells in
    let written : set cells s x ≡ set (take n cells) s x ++ drop n cells = rw same at whole in
    rw written (take_at (set (take n cells) s x) (drop n cells) n (length-set (take n cells) s x ∙ front))

pub AreCounts-counts_with : (counts : List ℕ) (s : ℕ) → AreCounts counts → s < length counts → AreCounts (counts_with counts s)
AreCounts-counts_with counts s h below =
    let size : length (counts_with counts s) ≡ length counts = length-set counts s (get_or counts s 0 + 1) in
    record {
      many = omega (arith, h.many);
      few = omega (arith, h.few);
      some = λ k within.
          ⊎_elim {C = 1 ≤ get_or (counts_with counts s) k 0}
          (λ (e : k ≡ s). rw (e, get_or-set_same counts s (get_or counts s 0 + 1) 0 below) (omega arith))
          (λ (ne : k ≡ s → ⊥). rw (get_or-set_other counts s k (get_or counts s 0 + 1) 0 ne) (h.some k (omega arith)))
          (cases_eq k s);
    }

pub sum-counts_with : (counts : List ℕ) (s : ℕ) → s < length counts → sum (counts_with counts s) ≡ sum counts + 1
sum-counts_with counts s below = omega (arith, sum_by-set (λ (x : ℕ). x) counts s (get_or counts s 0 + 1) 0 below)

-- what a symbol more leaves of the cells of a model that is laid out
pub record Bumps (n : ℕ) (old new : List ℕ) (s : ℕ) : Type 0 where
  pub counts : counts_in n new ≡ counts_with (counts_in n old) s
  pub dist : dist_in n new ≡ dist_in n old
  pub good : AreCounts (counts_in n old) → AreCounts (counts_in n new)
  pub sum : sum (counts_in n new) ≡ sum (counts_in n old) + 1

pub bumps : (n s : ℕ) (cells : List ℕ) → s < n → n ≤ length cells → Bumps n cells (set cells s (get_or cells s 0 + 1)) s
bumps n s cells below within =
    let front : length (take n cells) ≡ n = length-take-le n cells within in
    let at : get_or (take n cells) s 0 ≡ get_or cells s 0 = get_or-take n cells s 0 below in
    let counts : take n (set cells s (get_or cells s 0 + 1)) ≡ counts_with (take n cells) s =
    take-set-below n cells s (get_or cells s 0 + 1) below within ∙ ap (λ x. set (take n cells) s (x + 1)) (sym at) in
    let rest : drop n (set cells s (get_or cells s 0 + 1)) ≡ drop n cells = drop-set-lt n cells s (get_or cells s 0 + 1) below in
    record {
      counts = counts;
      dist = rest;
      good = λ h. rw counts (AreCounts-counts_with (take n cells) s h (omega arith));
      sum = ap sum counts ∙ sum-counts_with (take n cells) s (omega arith);
    }

-- a symbol more, not the last one of the cycle
abbrev pub one_fewer : Place → Place
one_fewer p = record p { remaining = p.remaining - 1 }

pub record Adds (p : Place) (old new : List ℕ) (s : ℕ) : Type 0 where
  pub laid : IsLaid (one_fewer p) new
  pub after_symbol : laid_state (one_fewer p) new ≡ after_symbol (laid_state p old) s

pub adds : (p : Place) (cells : List ℕ) (s : ℕ) → IsLaid p cells → p.size ≤ length cells → s < p.size → 2 ≤ p.remaining → Adds p cells (set cells s (get_or cells s 0 + 1)) s
adds p cells s laid within below more =
    let b = bumps p.size s cells below within in
    record {
      laid = record {
        counts = b.good laid.counts;
        starts = rw b.dist laid.starts;
        own = λ e. rw b.dist (laid.own e);
        dist = laid.dist;
        table = λ e own. rw b.dist (laid.table e own);
        total = laid.total;
        sum = omega (arith, laid.sum, b.sum);
        remaining = omega arith;
        within = omega (arith, laid.within);
        four = laid.four;
        cycle = laid.cycle;
      };
      after_symbol = rw (b.counts, b.dist) (sym (after_symbol-more (laid_state p cells) s (λ e. omega (arith, e))));
    }

-- a count of a model that is laid out is far below 2 ^ 32
pub count-fits : (p : Place) (cells : List ℕ) (s : ℕ) → IsLaid p cells → p.size ≤ 2048 → p.size ≤ length cells → s < p.size → get_or cells s 0 + 1 < 65536
count-fits p cells s laid few within below =
    let front : length (counts_in p.size cells) ≡ p.size = length-take-le p.size cells within in
    let part : get_or (counts_in p.size cells) s 0 ≤ sum (counts_in p.size cells) = get_or-le-sum_by (λ (x : ℕ). x) (counts_in p.size cells) s 0 (omega arith) in
    omega (arith, get_or-take p.size cells s 0 below, laid.sum, laid.total, laid.cycle)

-- ---- where a distribution begins
-- a model in its first cycle has that of a new one
pub dist-first : (p : Place) (cells : List ℕ) → IsModel p cells → p.even ≡ true → p.dist ≡ p.first
dist-first p cells model even =
    ⊎_elim {C = p.dist ≡ p.first}
    (λ (first : p.remaining ≡ 0). model.dist first)
    (λ (laid : p.remaining ≡ 0 → ⊥). (model.laid (omega (arith, laid))).dist ∙ cond-true _ _ _ even)
    (cases_eq p.remaining 0)

-- ---- the end of a part, by the start after it
pub part_end-guard : (n s : ℕ) (starts : List ℕ) → AreStarts n starts → s < n → part_end starts s ≡ min (start_or_guard starts (s + 1)) 32768
part_end-guard n s starts is below =
    ⊎_elim {C = part_end starts s ≡ min (start_or_guard starts (s + 1)) 32768}
    (λ (last : s + 1 ≡ n).
    let guard : start_or_guard starts (s + 1) ≡ 65535 = get_or_past starts (s + 1) 65535 (omega (arith, is.length)) in
    part_end-last starts n s is.length last ∙ omega (arith, guard))
    (λ (inner : s + 1 ≡ n → ⊥).
    let same : start_or_guard starts (s + 1) ≡ get_or starts (s + 1) 0 = get_or_default starts (s + 1) 65535 0 (omega (arith, is.length, inner)) in
    part_end-inner starts n s is.length inner ∙ omega (arith, same, is.within (s + 1) (omega (arith, inner))))
    (cases_eq (s + 1) n)

-- the bounds of a part: its start, and the next start or the guard
pub record AreBounds (starts : List ℕ) (s start next : ℕ) : Type 0 where
  pub end : min next 32768 ≡ part_end starts s
  pub first : start < 32768
  pub some : start < next
  pub guard : 32768 ≤ next → 65535 ≤ next

pub bounds-of : (n s : ℕ) (starts : List ℕ) (start next : ℕ) → AreStarts n starts → s < n → start ≡ get_or starts s 0 → next ≡ start_or_guard starts (s + 1) → AreBounds starts s start next
bounds-of n s starts start next is below at after =
    let end : min next 32768 ≡ part_end starts s = ap (λ x. min x 32768) after ∙ sym (part_end-guard n s starts is below) in
    let first : start < 32768 = omega (arith, at, is.within s below) in
    ⊎_elim {C = AreBounds starts s start next}
    (λ (last : s + 1 ≡ n).
    let guard : start_or_guard starts (s + 1) ≡ 65535 = get_or_past starts (s + 1) 65535 (omega (arith, is.length)) in
    record { end = end; first = first; some = omega (arith, after, guard, first); guard = λ _. omega (arith, after, guard) })
    (λ (inner : s + 1 ≡ n → ⊥).
    let more : s + 1 < n = omega (arith, inner) in
    let same : start_or_guard starts (s + 1) ≡ get_or starts (s + 1) 0 = get_or_default starts (s + 1) 65535 0 (omega (arith, is.length, more)) in
    record { end = end; first = first; some = omega (arith, at, after, same, is.rising s more); guard = λ h. absurd (omega (arith, h, after, same, is.within (s + 1) more)) })
    (cases_eq (s + 1) n)
