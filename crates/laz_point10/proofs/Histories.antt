-- A history that stands for points stands for them and one more.
use Rattle.std.proofs.Common.{◌≡◌, ℕ, ℤ, pos, ◌<◌, ◌≤◌, eqb, List, [], ◌∷◌, map, length, replicate, get_or, set, refl, sym, ap, subst, ◌∙◌, arith, ⊎_elim, length-set, lit≤}
use Rattle.std.specs.Int.{w32, int_wrapping_sub}
use Rattle.std.proofs.lemmas.Bool.{cases_eq, cases_lt, cond-true, cond-false, eq-eqb, ne_eqb}
use Rattle.std.proofs.lemmas.List.{get_or-set_same, get_or-set_other, get_or-replicate, get_or_past}
use Rattle.laz_point10.specs.declared.point.Point.{Point}
use Rattle.laz_point10.specs.declared.median.Median.{Median}
use Rattle.laz_point10.specs.declared.history.History.{History}
use Rattle.laz_point10.specs.declared.history.Predictions.{Predictions}
use Rattle.laz_point10.specs.Medians.{IsSorted, median_of, middle, no_values, with_value}
use Rattle.laz_point10.specs.Points.{last_height, last_intensity, latest_or, latest_point, predictions_of, return_level, return_map, steps_at, x_steps, y_steps}
use Rattle.laz_point10.specs.Coded.{AreSorted, HistoryStands, predicted, with_point}
use Rattle.laz_point10.proofs.Maps.{level-small, map-small}
use Rattle.laz_point10.proofs.Medians.{sorted-median}

abbrev pub Step : Type 0
Step = Point × Point

-- the steps to points of this key, with one point more: it is the latest of them if it has the key
steps-same : (key : ℕ → ℕ) (ps : List Point) (p : Point) (n : ℕ) → 1 ≤ length ps → key p.flags ≡ n → steps_at key n (p ∷ ps) ≡ (p, latest_point ps) ∷ steps_at key n ps
steps-same key [] p n some e = absurd (omega arith)
steps-same key (q ∷ ps) p n some e = cond-true (eqb (key p.flags) n) _ _ (eq-eqb (key p.flags) n e)

steps-other : (key : ℕ → ℕ) (ps : List Point) (p : Point) (n : ℕ) → 1 ≤ length ps → (key p.flags ≡ n → ⊥) → steps_at key n (p ∷ ps) ≡ steps_at key n ps
steps-other key [] p n some ne = absurd (omega arith)
steps-other key (q ∷ ps) p n some ne = cond-false (eqb (key p.flags) n) _ _ (ne_eqb (key p.flags) n ne)

-- what a look-up over the steps finds then
same : {X : Type 0} (look : List Step → X) (key : ℕ → ℕ) (ps : List Point) (p : Point) (n : ℕ) → 1 ≤ length ps → key p.flags ≡ n → look ((p, latest_point ps) ∷ steps_at key n ps) ≡ look (steps_at key n (p ∷ ps))
same look key ps p n some e = ap look (sym (steps-same key ps p n some e))

other : {X : Type 0} (look : List Step → X) (key : ℕ → ℕ) (ps : List Point) (p : Point) (n : ℕ) → 1 ≤ length ps → (key p.flags ≡ n → ⊥) → look (steps_at key n ps) ≡ look (steps_at key n (p ∷ ps))
other look key ps p n some ne = ap look (sym (steps-other key ps p n some ne))

-- one place of a list, written or left
place-is : {X : Type 0} (xs : List X) (i k : ℕ) (v d new : X) → i < length xs → (i ≡ k → v ≡ new) → ((i ≡ k → ⊥) → get_or xs k d ≡ new) → get_or (set xs i v) k d ≡ new
place-is {X} xs i k v d new within here there =
    ⊎_elim
    (λ (same : k ≡ i). subst (λ (j : ℕ). get_or (set xs i v) j d ≡ new) (sym same) (get_or-set_same xs i v d within ∙ here (sym same)))
    (λ (ne : k ≡ i → ⊥). get_or-set_other xs i k v d ne ∙ there (λ e. ne (sym e)))
    (cases_eq k i)

-- the four look-ups
abbrev intensity_in : List Step → ℕ
intensity_in steps = latest_or 0 (map (λ s. s.0.intensity) steps)

abbrev height_in : List Step → ℤ
height_in steps = latest_or (pos 0) (map (λ s. s.0.z) steps)

abbrev x_median : List Step → Median
x_median steps = median_of (map (λ s. int_wrapping_sub w32 s.0.x s.1.x) steps)

abbrev y_median : List Step → Median
y_median steps = median_of (map (λ s. int_wrapping_sub w32 s.0.y s.1.y) steps)

pub HistoryStands-push : (ps : List Point) (p : Point) (h : History) → HistoryStands ps h → HistoryStands (p ∷ ps) (with_point h p)
HistoryStands-push ps p h is =
    let m = return_map p.flags in
    let level = return_level p.flags in
    let small = map-small p.flags in
    record {
      some = omega arith;
      last = refl;
      intensities = length-set h.intensities m p.intensity ∙ is.intensities;
      heights = length-set h.heights level p.z ∙ is.heights;
      dx_count = length-set h.dx m _ ∙ is.dx_count;
      dy_count = length-set h.dy m _ ∙ is.dy_count;
      intensity = λ k within.
          place-is h.intensities m k p.intensity 0 (last_intensity (p ∷ ps) k) (omega (arith, small, is.intensities))
          (λ e. same intensity_in return_map ps p k is.some e)
          (λ ne. is.intensity k within ∙ other intensity_in return_map ps p k is.some ne);
      height = λ l within.
          place-is h.heights level l p.z (pos 0) (last_height (p ∷ ps) l) (omega (arith, level-small p.flags, is.heights))
          (λ e. same height_in return_level ps p l is.some e)
          (λ ne. is.height l within ∙ other height_in return_level ps p l is.some ne);
      dx = λ k within.
          place-is h.dx m k (with_value (get_or h.dx m no_values) (int_wrapping_sub w32 p.x h.last.x)) no_values (median_of (x_steps (p ∷ ps) k)) (omega (arith, small, is.dx_count))
          (λ e.
          ap (λ n. with_value n (int_wrapping_sub w32 p.x h.last.x)) (ap (λ j. get_or h.dx j no_values) e ∙ is.dx k within)
          ∙ (ap (λ (q : Point). with_value (median_of (x_steps ps k)) (int_wrapping_sub w32 p.x q.x)) is.last ∙ same x_median return_map ps p k is.some e))
          (λ ne. is.dx k within ∙ other x_median return_map ps p k is.some ne);
      dy = λ k within.
          place-is h.dy m k (with_value (get_or h.dy m no_values) (int_wrapping_sub w32 p.y h.last.y)) no_values (median_of (y_steps (p ∷ ps) k)) (omega (arith, small, is.dy_count))
          (λ e.
          ap (λ n. with_value n (int_wrapping_sub w32 p.y h.last.y)) (ap (λ j. get_or h.dy j no_values) e ∙ is.dy k within)
          ∙ (ap (λ (q : Point). with_value (median_of (y_steps ps k)) (int_wrapping_sub w32 p.y q.y)) is.last ∙ same y_median return_map ps p k is.some e))
          (λ ne. is.dy k within ∙ other y_median return_map ps p k is.some ne);
    }

-- medians that stand for lists are sorted
sorted-at : (medians : List Median) (lists : ℕ → List ℤ) → length medians ≡ 16 → ((k : ℕ) → k < 16 → get_or medians k no_values ≡ median_of (lists k)) → AreSorted medians
sorted-at medians lists count h k =
    ⊎_elim
    (λ (less : k < 16). subst (λ (n : Median). IsSorted n.values) (sym (h k less)) (sorted-median (lists k)))
    (λ (more : 16 ≤ k). subst (λ (n : Median). IsSorted n.values) (sym (get_or_past medians k no_values (omega (arith, count, more)))) (sorted-median []))
    (cases_lt k 16)

pub sorted-history : (ps : List Point) (h : History) → HistoryStands ps h → AreSorted h.dx × AreSorted h.dy
sorted-history ps h is = (sorted-at h.dx (x_steps ps) is.dx_count is.dx, sorted-at h.dy (y_steps ps) is.dy_count is.dy)

-- it predicts what the points do
pub same-predictions : (p q : Point) (i j : ℕ) (a b c d e f : ℤ) → p ≡ q → i ≡ j → a ≡ b → c ≡ d → e ≡ f
    → (let x : Predictions = record { previous = p; intensity = i; dx = a; dy = c; z = e } in x) ≡ record { previous = q; intensity = j; dx = b; dy = d; z = f }
same-predictions p q i j a b c d e f h1 h2 h3 h4 h5 = cc

pub predicted-is : (ps : List Point) (h : History) (flags : ℕ) → HistoryStands ps h → predicted h flags ≡ predictions_of ps flags
predicted-is ps h flags is =
    let small = map-small flags in
    same-predictions _ _ _ _ _ _ _ _ _ _ is.last (is.intensity (return_map flags) small) (ap middle (is.dx (return_map flags) small)) (ap middle (is.dy (return_map flags) small)) (is.height (return_level flags) (level-small flags))

-- the history of one point
pub HistoryStands-first : (p : Point) → HistoryStands (p ∷ []) (record { last = p; intensities = replicate 16 0; heights = replicate 8 (pos 0); dx = replicate 16 no_values; dy = replicate 16 no_values })
HistoryStands-first p =
    record {
      some = lit≤ tt;
      last = refl;
      intensities = refl;
      heights = refl;
      dx_count = refl;
      dy_count = refl;
      intensity = λ k within. get_or-replicate 16 k 0 0 within;
      height = λ l within. get_or-replicate 8 l (pos 0) (pos 0) within;
      dx = λ k within. get_or-replicate 16 k no_values no_values within;
      dy = λ k within. get_or-replicate 16 k no_values no_values within;
    }
