-- A symbol that is one of the two at which a decoder's search begins.
use Rattle.std.proofs.Common.{◌≡◌, ℕ, ◌+◌, ◌<◌, ◌≤◌, min, Bool, true, false, leb, List, get_or, sym, ap, ◌∙◌, subst, arith, ⊎_elim}
use Rattle.std.proofs.lemmas.Bool.{cases_lt, le-leb, lt-leb}
use Rattle.std.proofs.lemmas.List.{get_or_default, get_or_past}
use mir.Val.{bool_byte}
use Rattle.laz_range.specs.Cut.{Cut, Part, symbol}
use Rattle.laz_range.specs.Search.{AreTwo, part_of_two}
use Rattle.laz_range.proofs.Public.{end-last, end-more, symbol-le}
use Rattle.laz_integer.proofs.SymbolParts.{IsDistribution-starts}
use Rattle.laz_models.specs.Counting.{AreStarts}
use Rattle.laz_models.specs.Lookup.{IsLastAt, start_or_guard}
use Rattle.laz_models.specs.Near.{IsNear}
use Rattle.laz_models.specs.declared.near.Near.{Near}
use Rattle.laz_models.proofs.Public.{last_at}

inner : (n : ℕ) (starts : List ℕ) (k : ℕ) → AreStarts n starts → k < n → start_or_guard starts k ≡ get_or starts k 0
inner n starts k are below = get_or_default starts k 65535 0 (omega (arith, are.length))

past : (n : ℕ) (starts : List ℕ) (k : ℕ) → AreStarts n starts → n ≤ k → start_or_guard starts k ≡ 65535
past n starts k are above = get_or_past starts k 65535 (omega (arith, are.length))

same_part : (lo hi k : ℕ) → hi ≡ k → Part lo hi ≡ Part lo k
same_part lo hi k e = cc

part-of : (n : ℕ) (starts : List ℕ) (k : ℕ) → AreStarts n starts → k < n → Part (get_or starts k 0) (min (start_or_guard starts (k + 1)) 32768) ≡ symbol starts k
part-of n starts k are below =
    ⊎_elim
    (λ (more : k + 1 < n).
    same_part _ _ _ (let small : min (start_or_guard starts (k + 1)) 32768 ≡ get_or starts (k + 1) 0 = omega (arith, inner n starts (k + 1) are more, are.within (k + 1) more) in
    small ∙ sym (end-more starts k (omega (arith, are.length)))))
    (λ (last : n ≤ k + 1).
    same_part _ _ _ (let whole : min (start_or_guard starts (k + 1)) 32768 ≡ 32768 = omega (arith, past n starts (k + 1) are last) in
    whole ∙ sym (end-last starts k (omega (arith, are.length)))))
    (cases_lt (k + 1) n)

two-last : (n : ℕ) (starts : List ℕ) (e : ℕ) (near : Near) → AreStarts n starts → IsNear starts e near → n ≤ near.symbol + 1 → AreTwo near.start near.next near.after
two-last n starts e near are is last =
    let s : ℕ = near.symbol in
    let first : get_or starts s 0 < 32768 = are.within s (omega (arith, is.symbol.symbol, are.length)) in
    let next : near.next ≡ 65535 = is.next ∙ past n starts (s + 1) are last in
    let after : near.after ≡ 65535 = is.after ∙ past n starts (s + 2) are (omega (arith, last)) in
    record {
      first = omega (arith, is.start, first);
      order = omega (arith, is.start, first, next);
      guard = λ _. (omega (arith, next), omega (arith, after));
      second = λ h. absurd (omega (arith, next, h));
      last = λ _. omega (arith, after);
    }

two-before : (n : ℕ) (starts : List ℕ) (e : ℕ) (near : Near) → AreStarts n starts → IsNear starts e near → near.symbol + 1 < n → (near.next < near.after) × (32768 ≤ near.after → 65535 ≤ near.after) → AreTwo near.start near.next near.after
two-before n starts e near are is more after =
    let s : ℕ = near.symbol in
    let first : get_or starts s 0 < 32768 = are.within s (omega (arith, more)) in
    let next : near.next ≡ get_or starts (s + 1) 0 = is.next ∙ inner n starts (s + 1) are more in
    let small : get_or starts (s + 1) 0 < 32768 = are.within (s + 1) more in
    record {
      first = omega (arith, is.start, first);
      order = omega (arith, is.start, next, are.rising s more);
      guard = λ h. absurd (omega (arith, next, small, h));
      second = λ _. after.0;
      last = after.1;
    }

after-next : (n : ℕ) (starts : List ℕ) (e : ℕ) (near : Near) → AreStarts n starts → IsNear starts e near → near.symbol + 1 < n → (near.next < near.after) × (32768 ≤ near.after → 65535 ≤ near.after)
after-next n starts e near are is more =
    let s : ℕ = near.symbol in
    let next : near.next ≡ get_or starts (s + 1) 0 = is.next ∙ inner n starts (s + 1) are more in
    let small : get_or starts (s + 1) 0 < 32768 = are.within (s + 1) more in
    ⊎_elim {C = (near.next < near.after) × (32768 ≤ near.after → 65535 ≤ near.after)}
    (λ (two : s + 2 < n).
    let after : near.after ≡ get_or starts (s + 2) 0 = is.after ∙ inner n starts (s + 2) are two in
    let one : s + 1 + 1 ≡ s + 2 = omega arith in
    let up : get_or starts (s + 1) 0 < get_or starts (s + 2) 0 = omega (arith, are.rising (s + 1) (omega (arith, two)), ap (λ k. get_or starts k 0) one) in
    let low : get_or starts (s + 2) 0 < 32768 = are.within (s + 2) two in
    (omega (arith, next, after, up), λ h. absurd (omega (arith, after, low, h))))
    (λ (end : n ≤ s + 2).
    let after : near.after ≡ 65535 = is.after ∙ past n starts (s + 2) are end in
    (omega (arith, next, small, after), λ _. omega (arith, after)))
    (cases_lt (s + 2) n)

pub AreTwo-near : (n : ℕ) (starts : List ℕ) (e : ℕ) (near : Near) → AreStarts n starts → IsNear starts e near → AreTwo near.start near.next near.after
AreTwo-near n starts e near are is =
    ⊎_elim
    (λ (more : near.symbol + 1 < n). two-before n starts e near are is more (after-next n starts e near are is more))
    (λ (last : n ≤ near.symbol + 1). two-last n starts e near are is last)
    (cases_lt (near.symbol + 1) n)

-- the symbol after it is a small number
pub near-small : (n : ℕ) (starts : List ℕ) (e : ℕ) (near : Near) (second : Bool) → AreStarts n starts → IsNear starts e near → near.symbol + bool_byte second < 4294967296
near-small n starts e near true are is = omega (arith, symbol-le starts near.symbol (IsDistribution-starts n starts are) is.symbol.symbol, are.within near.symbol (omega (arith, is.symbol.symbol, are.length)))
near-small n starts e near false are is = omega (arith, symbol-le starts near.symbol (IsDistribution-starts n starts are) is.symbol.symbol, are.within near.symbol (omega (arith, is.symbol.symbol, are.length)))

-- which of the two it is
pub record Chosen (n : ℕ) (starts : List ℕ) (place s : ℕ) (c : Cut) : Type 0 where
  pub within : s < n
  pub last : IsLastAt starts place s
  pub part : c ≡ symbol starts s

pub chosen-first : (n : ℕ) (starts : List ℕ) (e place : ℕ) (near : Near) → AreStarts n starts → IsNear starts e near → near.start ≤ place → place < near.next
    → Chosen n starts place near.symbol (part_of_two near.start near.next near.after false)
chosen-first n starts e place near are is low below =
    let s : ℕ = near.symbol in
    let here : s < n = omega (arith, is.symbol.symbol, are.length) in
    record {
      within = here;
      last = last_at n starts place s are here (omega (arith, is.start, low)) (λ more. omega (arith, inner n starts (s + 1) are more, is.next, below));
      part = rw (is.start, is.next) (part-of n starts s are here);
    }

pub chosen-second : (n : ℕ) (starts : List ℕ) (e place : ℕ) (near : Near) → AreStarts n starts → IsNear starts e near → near.next ≤ place → place < near.after
    → Chosen n starts place (near.symbol + 1) (part_of_two near.start near.next near.after true)
chosen-second n starts e place near are is above below =
    let s : ℕ = near.symbol in
    let more : s + 1 < n =
    ⊎_elim
    (λ (more : s + 1 < n). more)
    (λ (last : n ≤ s + 1). absurd (omega (arith, past n starts (s + 1) are last, is.next, past n starts (s + 2) are (omega (arith, last)), is.after, above, below)))
    (cases_lt (s + 1) n) in
    let next : near.next ≡ get_or starts (s + 1) 0 = is.next ∙ inner n starts (s + 1) are more in
    let two : s + 1 + 1 ≡ s + 2 = omega arith in
    let after : near.after ≡ start_or_guard starts (s + 1 + 1) = is.after ∙ ap (start_or_guard starts) (sym two) in
    record {
      within = more;
      last = last_at n starts place (s + 1) are more (omega (arith, next, above)) (λ further. omega (arith, inner n starts (s + 1 + 1) are further, after, below));
      part = rw (next, after) (part-of n starts (s + 1) are more);
    }

pub chosen : (n : ℕ) (starts : List ℕ) (e place : ℕ) (near : Near) (second : Bool) → AreStarts n starts → IsNear starts e near → e ≤ place → place < near.after → leb near.next place ≡ second
    → Chosen n starts place (near.symbol + bool_byte second) (part_of_two near.start near.next near.after second)
chosen n starts e place near true are is low below said =
    ⊎_elim
    (λ (less : place < near.next). let no : false ≡ true = sym (lt-leb near.next place less) ∙ said in cc)
    (λ (above : near.next ≤ place). chosen-second n starts e place near are is above below)
    (cases_lt place near.next)
chosen n starts e place near false are is low below said =
    ⊎_elim
    (λ (less : place < near.next). let same : near.symbol + 0 ≡ near.symbol = omega arith in rw same (chosen-first n starts e place near are is (omega (arith, is.start, is.symbol.start, low)) less))
    (λ (above : near.next ≤ place). let no : true ≡ false = sym (le-leb near.next place above) ∙ said in cc)
    (cases_lt place near.next)

-- ---- a search from symbol to symbol
-- a symbol whose part begins at a place or below, with the starts after it
pub record IsReached (starts : List ℕ) (place : ℕ) (near : Near) : Type 0 where
  pub is : IsNear starts near.start near
  pub low : near.start ≤ place

-- where a search begins
pub reached-first : (n : ℕ) (starts : List ℕ) (e place : ℕ) (near : Near) → AreStarts n starts → IsNear starts e near → e ≤ place → IsReached starts place near
reached-first n starts e place near are is low =
    let s : ℕ = near.symbol in
    let here : s < n = omega (arith, is.symbol.symbol, are.length) in
    record {
      is = record {
        symbol = last_at n starts near.start s are here (omega (arith, is.start)) (λ more. omega (arith, is.start, are.rising s more));
        start = is.start;
        next = is.next;
        after = is.after;
      };
      low = omega (arith, is.start, is.symbol.start, low);
    }

-- a symbol after it, if the place lies past the next part
pub reached-more : (n : ℕ) (starts : List ℕ) (place : ℕ) (near : Near) → AreStarts n starts → IsReached starts place near → near.after ≤ place → place < 65535 → near.symbol + 2 < n
reached-more n starts place near are reached above small =
    ⊎_elim
    (λ (more : near.symbol + 2 < n). more)
    (λ (end : n ≤ near.symbol + 2). absurd (omega (arith, reached.is.after, past n starts (near.symbol + 2) are end, above, small)))
    (cases_lt (near.symbol + 2) n)

pub reached-next : (n : ℕ) (starts : List ℕ) (place : ℕ) (near next : Near) → AreStarts n starts → IsReached starts place near → near.after ≤ place → place < 65535
    → next.symbol ≡ near.symbol + 1 → IsNear starts (get_or starts (near.symbol + 1) 0) next → IsReached starts place next
reached-next n starts place near next are reached above small symbol is =
    let more : near.symbol + 1 < n = omega (arith, reached-more n starts place near are reached above small) in
    let at : near.next ≡ get_or starts (near.symbol + 1) 0 = reached.is.next ∙ inner n starts (near.symbol + 1) are more in
    let start : next.start ≡ get_or starts (near.symbol + 1) 0 = is.start ∙ ap (λ k. get_or starts k 0) symbol in
    record {
      is = subst (λ (v : ℕ). IsNear starts v next) (sym start) is;
      low = omega (arith, start, at, (after-next n starts near.start near are reached.is more).0, above);
    }
