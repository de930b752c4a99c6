use Rattle.std.proofs.Common.{◌≡◌, ℕ, zero, suc, ◌+◌, ◌-◌, ◌<◌, ◌≤◌, List, [], ◌∷◌, length, take, get_or, leb, true, false, refl, sym, ap, ◌∙◌, arith, subst, ⊎_elim}
use Rattle.std.specs.List.{count_by}
use Rattle.std.proofs.lemmas.Bool.{cases_lt, cases_eq, le-leb, lt-leb}
use Rattle.std.proofs.lemmas.List.Sums.{count_by_more_no, count_by_more_yes}
use Rattle.std.proofs.Math.Seq.{take-length}
use Rattle.laz_range.specs.Cut.{Part, AreCuts, IsLike, IsDistribution, one_event, symbol}
use Rattle.laz_range.specs.Decoding.{Decoding, Takes, TakesNone, ReadsOn, NoneBegins}
use Rattle.laz_range.proofs.Public.{IsLike-symbols, IsCut-symbol, Takes-pull, TakesNone-pull, Takes-ReadsOn, TakesNone-NoneBegins}
use Rattle.laz_models.specs.Counting.{Counting, AreStarts}
use Rattle.laz_models.specs.Dist.{StandsFor, dist, alphabet_size}
use Rattle.laz_models.specs.Lookup.{IsLastAt}
use Rattle.laz_integer.specs.Integer.{symbol_at}

rising : (n : ℕ) (starts : List ℕ) (s gap : ℕ) → AreStarts n starts → s + 1 + gap < n → get_or starts s 0 < get_or starts (s + 1 + gap) 0
rising n starts s zero h within = let e : s + 1 + 0 ≡ s + 1 = omega arith in rw e (h.rising s (omega arith))
rising n starts s (suc gap) h within =
    let e : s + 1 + suc gap ≡ s + 1 + gap + 1 = omega arith in
    rw e (omega (arith, rising n starts s gap h (omega arith), h.rising (s + 1 + gap) (omega arith)))

-- the parts of a model are a distribution
pub IsDistribution-starts : (n : ℕ) (starts : List ℕ) → AreStarts n starts → IsDistribution starts
IsDistribution-starts n starts h =
    record {
      first = h.first;
      grows = λ s t less within.
          let e : s + 1 + (t - s - 1) ≡ t = omega (arith, less) in
          let below = rising n starts s (t - s - 1) h (omega (arith, e, within, h.length)) in
          rw e at below;
      below = λ s within. h.within s (omega (arith, within, h.length));
    }

same_start : (lo hi low high : ℕ) → Part lo hi ≡ Part low high → lo ≡ low
same_start lo hi low high e = cc

pub symbol_back : (starts : List ℕ) (s t : ℕ) → IsDistribution starts → s < length starts → t < length starts → symbol starts t ≡ symbol starts s → t ≡ s
symbol_back starts s t h within inside e =
    let same : get_or starts t 0 ≡ get_or starts s 0 = same_start _ _ _ _ e in
    ⊎_elim
    (λ (less : s < t). absurd (omega (arith, same, h.grows s t less inside)))
    (λ (not_less : t ≤ s).
    ⊎_elim
    (λ (equal : t ≡ s). equal)
    (λ (ne : t ≡ s → ⊥). let more : t < s = omega (arith, ne, not_less) in absurd (omega (arith, same, h.grows t s more within)))
    (cases_eq t s))
    (cases_lt s t)

-- ---- a symbol of a model, from an event of its kind
pub symbol-takes : (n : ℕ) (starts : List ℕ) (d e : Decoding) (s : ℕ) → AreStarts n starts → s < n → Takes (IsLike (symbol starts s)) one_event d e (symbol starts s) → Takes (λ y. y < n) (λ y. symbol starts y ∷ []) d e s
symbol-takes n starts d e s h within takes =
    let is = IsDistribution-starts n starts h in
    let inside : s < length starts = omega (arith, h.length, within) in
    Takes-pull (symbol starts) (IsLike (symbol starts s)) (λ y. y < n) one_event d e s takes within
    (λ z q. IsLike-symbols starts s z is inside (omega (arith, h.length, q)))
    (λ z q same. symbol_back starts s z is inside (omega (arith, h.length, q)) same)

pub symbol-none : (n : ℕ) (starts : List ℕ) (d e : Decoding) (s : ℕ) → AreStarts n starts → s < n → TakesNone (IsLike (symbol starts s)) one_event d e → TakesNone (λ y. y < n) (λ y. symbol starts y ∷ []) d e
symbol-none n starts d e s h within none =
    let is = IsDistribution-starts n starts h in
    let inside : s < length starts = omega (arith, h.length, within) in
    TakesNone-pull (symbol starts) (IsLike (symbol starts s)) (λ y. y < n) one_event d e none (λ z q. IsLike-symbols starts s z is inside (omega (arith, h.length, q)))

pub AreCuts-symbol : (n : ℕ) (starts : List ℕ) (s : ℕ) → AreStarts n starts → s < n → AreCuts (symbol starts s ∷ [])
AreCuts-symbol n starts s h within = (IsCut-symbol starts s (IsDistribution-starts n starts h) (omega (arith, h.length, within)), tt)

-- ---- the same in the words of the earlier symbols
pub symbol-read : (m : Counting) (d e : Decoding) (s : ℕ) (h : List ℕ) → AreStarts (alphabet_size m) m.starts → StandsFor h m
    → Takes (λ y. y < alphabet_size m) (λ y. symbol m.starts y ∷ []) d e s → ReadsOn (symbol (dist (alphabet_size m) h) s ∷ []) d e
symbol-read m d e s h starts stands takes =
    rw (← stands.starts) (Takes-ReadsOn (λ y. y < alphabet_size m) (λ y. symbol m.starts y ∷ []) d e s (AreCuts-symbol (alphabet_size m) m.starts s starts takes.choice.asked) takes)

pub symbol-nothing : (m : Counting) (d e : Decoding) (h : List ℕ) → AreStarts (alphabet_size m) m.starts → StandsFor h m
    → TakesNone (λ y. y < alphabet_size m) (λ y. symbol m.starts y ∷ []) d e → NoneBegins (λ y. y < alphabet_size m) (λ y. symbol (dist (alphabet_size m) h) y ∷ []) d
symbol-nothing m d e h starts stands none =
    rw (← stands.starts) (TakesNone-NoneBegins (λ y. y < alphabet_size m) (λ y. symbol m.starts y ∷ []) d e (λ y q. AreCuts-symbol (alphabet_size m) m.starts y starts q) none)

-- a model of n symbols
pub sized-takes : (m : Counting) (s n : ℕ) (a b : Decoding) → alphabet_size m ≡ n → Takes (λ y. y < alphabet_size m) (λ y. symbol m.starts y ∷ []) a b s → Takes (λ y. y < n) (λ y. symbol m.starts y ∷ []) a b s
sized-takes m s n a b e h = subst (λ (k : ℕ). Takes (λ y. y < k) (λ y. symbol m.starts y ∷ []) a b s) e h

-- ---- the symbol at a place
starts-here : (starts : List ℕ) (place s i : ℕ) → IsDistribution starts → IsLastAt starts place s → i ≤ s → leb (get_or starts i 0) place ≡ true
starts-here starts place s i h last within =
    ⊎_elim
    (λ (less : i < s). le-leb (get_or starts i 0) place (omega (arith, h.grows i s less last.symbol, last.start)))
    (λ (more : s ≤ i). let same : i ≡ s = omega (arith, more, within) in rw same (le-leb (get_or starts s 0) place last.start))
    (cases_lt i s)

starts-after : (starts : List ℕ) (place s i : ℕ) → IsLastAt starts place s → s < i → i < length starts → leb (get_or starts i 0) place ≡ false
starts-after starts place s i last more within =
    ⊎_elim
    (λ (less : place < get_or starts i 0). lt-leb (get_or starts i 0) place less)
    (λ (fine : get_or starts i 0 ≤ place). absurd (omega (arith, last.greatest i within fine, more)))
    (cases_lt place (get_or starts i 0))

count-here : (starts : List ℕ) (place s i : ℕ) → IsDistribution starts → IsLastAt starts place s → i ≤ s + 1 → count_by (λ start. leb start place) (take i starts) ≡ i
count-here starts place s zero h last within = refl
count-here starts place s (suc i) h last within =
    let next : i + 1 ≡ suc i = omega arith in
    subst (λ (k : ℕ). count_by (λ start. leb start place) (take k starts) ≡ k) next
    (omega (arith, count_by_more_yes (λ start. leb start place) starts i 0 (omega (arith, within, last.symbol)) (starts-here starts place s i h last (omega (arith, within))), count-here starts place s i h last (omega (arith, within))))

count-after : (starts : List ℕ) (place s gap : ℕ) → IsDistribution starts → IsLastAt starts place s → s + 1 + gap ≤ length starts → count_by (λ start. leb start place) (take (s + 1 + gap) starts) ≡ s + 1
count-after starts place s zero h last within = count-here starts place s (s + 1 + 0) h last (omega arith) ∙ omega arith
count-after starts place s (suc gap) h last within =
    let next : s + 1 + gap + 1 ≡ s + 1 + suc gap = omega arith in
    subst (λ (k : ℕ). count_by (λ start. leb start place) (take k starts) ≡ s + 1) next
    (count_by_more_no (λ start. leb start place) starts (s + 1 + gap) 0 (omega (arith, within)) (starts-after starts place s (s + 1 + gap) last (omega arith) (omega (arith, within)))
    ∙ count-after starts place s gap h last (omega (arith, within)))

pub symbol_at-last : (n : ℕ) (starts : List ℕ) (place s : ℕ) → AreStarts n starts → IsLastAt starts place s → symbol_at starts place ≡ s
symbol_at-last n starts place s are last =
    let gap : ℕ = length starts - (s + 1) in
    let whole : s + 1 + gap ≡ length starts = omega (arith, last.symbol) in
    let all : take (s + 1 + gap) starts ≡ starts = ap (λ k. take k starts) whole ∙ take-length starts in
    let count : count_by (λ start. leb start place) starts ≡ s + 1 = ap (count_by (λ start. leb start place)) (sym all) ∙ count-after starts place s gap (IsDistribution-starts n starts are) last (omega (arith, whole)) in
    omega (arith, count)
