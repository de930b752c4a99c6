-- Pieces that meet a range, piece by piece.
use Rattle.std.proofs.Common.{◌≡◌, inl, inr, ℕ, zero, suc, ◌+◌, ◌-◌, ◌<◌, ◌≤◌, Bool, cond, List, [], ◌∷◌, length, map, take, drop, get_or, refl, sym, ◌∙◌, ap, subst, arith, eq-eqb}
use Rattle.std.specs.Prelude.{All, max, sum}
use Rattle.std.proofs.lemmas.List.Elements.{All-cons, All-head, All-nil, All-tail, recursion_from_All}
use Rattle.std.specs.List.{AllByRecursion}
use Rattle.std.proofs.lemmas.Bool.{cases_lt, le-leb, lt-leb, ne_eqb}
use Rattle.std.proofs.lemmas.List.{length-drop}
use Rattle.std.proofs.lemmas.List.Sums.{sum_by-append, sum_by-take-drop}
use Rattle.std.proofs.Math.Seq.{drop-cons, take-add}
use Rattle.laz_reader.specs.declared.seeking.Ends.{Ends}
use Rattle.laz_forms.specs.Pieces.{Piece, pieces_from, whole_piece}
use Rattle.laz_forms.specs.Ranges.{Range, first_in, part_in, parts_in, taken_of}
use Rattle.laz_reader.specs.Keeping.{IsSought, pieces_kept, skip_at, tail_at}
use Rattle.laz_models.proofs.Public.{sum-cons}

module _ (range : Range) where
  -- a piece that meets the range, and one that does not
  meets : (at : ℕ) (p : Piece) (ps : List Piece) → 0 < taken_of range at p.count → parts_in range at (p ∷ ps) ≡ part_in range at p ∷ parts_in range (at + p.count) ps
  meets at p ps some = ap (λ (b : Bool). cond b (part_in range at p ∷ parts_in range (at + p.count) ps) (parts_in range (at + p.count) ps)) (le-leb 1 (taken_of range at p.count) (omega (arith, some)))

  misses : (at : ℕ) (p : Piece) (ps : List Piece) → taken_of range at p.count ≡ 0 → parts_in range at (p ∷ ps) ≡ parts_in range (at + p.count) ps
  misses at p ps none = ap (λ (b : Bool). cond b (part_in range at p ∷ parts_in range (at + p.count) ps) (parts_in range (at + p.count) ps)) (lt-leb 1 (taken_of range at p.count) (omega (arith, none)))

  first-here : (at : ℕ) (p : Piece) (ps : List Piece) → 0 < taken_of range at p.count → first_in range at (p ∷ ps) ≡ 0
  first-here at p ps some = ap (λ (b : Bool). cond b 0 (1 + first_in range (at + p.count) ps)) (le-leb 1 (taken_of range at p.count) (omega (arith, some)))

  first-later : (at : ℕ) (p : Piece) (ps : List Piece) → taken_of range at p.count ≡ 0 → first_in range at (p ∷ ps) ≡ 1 + first_in range (at + p.count) ps
  first-later at p ps none = ap (λ (b : Bool). cond b 0 (1 + first_in range (at + p.count) ps)) (lt-leb 1 (taken_of range at p.count) (omega (arith, none)))

  -- no piece meets an empty range
  pub none_in : (at place : ℕ) (counts sizes : List ℕ) → range.stop ≤ range.start → parts_in range at (pieces_from place counts sizes) ≡ []
  none_in at place [] sizes empty = refl
  none_in at place (n ∷ counts) [] empty = refl
  none_in at place (n ∷ counts) (s ∷ sizes) empty =
      misses at (whole_piece place s n) (pieces_from (place + s) counts sizes) (omega (arith, empty))
      ∙ none_in (at + n) (place + s) counts sizes empty

  -- and so no piece is the first
  first_none : (at place : ℕ) (counts sizes : List ℕ) → length counts ≡ length sizes → range.stop ≤ range.start → first_in range at (pieces_from place counts sizes) ≡ length counts
  first_none at place [] sizes same empty = refl
  first_none at place (n ∷ counts) [] same empty = absurd (omega (arith, same))
  first_none at place (n ∷ counts) (s ∷ sizes) same empty =
      first-later at (whole_piece place s n) (pieces_from (place + s) counts sizes) (omega (arith, empty))
      ∙ omega (arith, first_none (at + n) (place + s) counts sizes (omega (arith, same)) empty)

  -- and none after its end
  none_after : (at place : ℕ) (counts sizes : List ℕ) → range.stop ≤ at → parts_in range at (pieces_from place counts sizes) ≡ []
  none_after at place [] sizes past = refl
  none_after at place (n ∷ counts) [] past = refl
  none_after at place (n ∷ counts) (s ∷ sizes) past =
      misses at (whole_piece place s n) (pieces_from (place + s) counts sizes) (omega (arith, past))
      ∙ none_after (at + n) (place + s) counts sizes (omega (arith, past))

  -- the first ones, which end before its start
  skipped : (k at place : ℕ) (counts sizes : List ℕ) → length counts ≡ length sizes → k ≤ length counts → at + sum (take k counts) ≤ range.start
      → parts_in range at (pieces_from place counts sizes) ≡ parts_in range (at + sum (take k counts)) (pieces_from (place + sum (take k sizes)) (drop k counts) (drop k sizes))
  skipped zero at place counts sizes same within before =
      let a : at ≡ at + sum (take 0 counts) = omega arith in
      let b : place ≡ place + sum (take 0 sizes) = omega arith in
      ap (λ (n : ℕ). parts_in range n (pieces_from place counts sizes)) a ∙ ap (λ (n : ℕ). parts_in range (at + sum (take 0 counts)) (pieces_from n counts sizes)) b
  skipped (suc k) at place [] sizes same within before = absurd (omega (arith, within))
  skipped (suc k) at place (n ∷ counts) [] same within before = absurd (omega (arith, same))
  skipped (suc k) at place (n ∷ counts) (s ∷ sizes) same within before =
      let a = sum-cons n (take k counts) in
      let b = sum-cons s (take k sizes) in
      let there : at + n + sum (take k counts) ≡ at + sum (n ∷ take k counts) = omega (arith, a) in
      let here : place + s + sum (take k sizes) ≡ place + sum (s ∷ take k sizes) = omega (arith, b) in
      misses at (whole_piece place s n) (pieces_from (place + s) counts sizes) (omega (arith, before, a))
      ∙ skipped k (at + n) (place + s) counts sizes (omega (arith, same)) (omega (arith, within)) (omega (arith, before, a))
      ∙ ap (λ (m : ℕ). parts_in range m (pieces_from (place + s + sum (take k sizes)) (drop k counts) (drop k sizes))) there
      ∙ ap (λ (m : ℕ). parts_in range (at + sum (n ∷ take k counts)) (pieces_from m (drop k counts) (drop k sizes))) here

  first-skipped : (k at place : ℕ) (counts sizes : List ℕ) → length counts ≡ length sizes → k ≤ length counts → at + sum (take k counts) ≤ range.start
      → first_in range at (pieces_from place counts sizes) ≡ k + first_in range (at + sum (take k counts)) (pieces_from (place + sum (take k sizes)) (drop k counts) (drop k sizes))
  first-skipped zero at place counts sizes same within before =
      let a : at ≡ at + sum (take 0 counts) = omega arith in
      let b : place ≡ place + sum (take 0 sizes) = omega arith in
      ap (λ (n : ℕ). first_in range n (pieces_from place counts sizes)) a ∙ ap (λ (n : ℕ). first_in range (at + sum (take 0 counts)) (pieces_from n counts sizes)) b ∙ omega arith
  first-skipped (suc k) at place [] sizes same within before = absurd (omega (arith, within))
  first-skipped (suc k) at place (n ∷ counts) [] same within before = absurd (omega (arith, same))
  first-skipped (suc k) at place (n ∷ counts) (s ∷ sizes) same within before =
      let a = sum-cons n (take k counts) in
      let b = sum-cons s (take k sizes) in
      let there : at + n + sum (take k counts) ≡ at + sum (n ∷ take k counts) = omega (arith, a) in
      let here : place + s + sum (take k sizes) ≡ place + sum (s ∷ take k sizes) = omega (arith, b) in
      let rest = first-skipped k (at + n) (place + s) counts sizes (omega (arith, same)) (omega (arith, within)) (omega (arith, before, a)) in
      let moved : first_in range (at + n + sum (take k counts)) (pieces_from (place + s + sum (take k sizes)) (drop k counts) (drop k sizes)) ≡ first_in range (at + sum (n ∷ take k counts)) (pieces_from (place + sum (s ∷ take k sizes)) (drop k counts) (drop k sizes)) =
      ap (λ (m : ℕ). first_in range m (pieces_from (place + s + sum (take k sizes)) (drop k counts) (drop k sizes))) there
      ∙ ap (λ (m : ℕ). first_in range (at + sum (n ∷ take k counts)) (pieces_from m (drop k counts) (drop k sizes))) here in
      first-later at (whole_piece place s n) (pieces_from (place + s) counts sizes) (omega (arith, before, a))
      ∙ omega (arith, rest, moved)

pub empty_parts : (range : Range) (at : ℕ) (pieces : List Piece) → range.stop ≤ range.start → parts_in range at pieces ≡ []
empty_parts range at [] empty = refl
empty_parts range at (p ∷ pieces) empty = misses range at p pieces (omega (arith, empty)) ∙ empty_parts range (at + p.count) pieces empty

-- ---- the pieces that are kept are those of the range
-- what is known from a chunk of a number on, before whose first record there are `at` records: m more are kept
pub record IsKept (range : Range) (ends : Ends) (m number at : ℕ) (counts sizes : List ℕ) : Type 0 where
  pub same : length counts ≡ length sizes
  pub last : ends.last ≡ number + m
  pub within : m ≤ length counts
  pub some : AllByRecursion (λ n. 0 < n) counts
  pub reached : range.stop + ends.tail ≡ at + sum (take m counts)
  pub least : 0 < m → at + sum (take (m - 1) counts) < range.stop

module _ (range : Range) (ends : Ends) where
  tail-here : (number : ℕ) → ends.last ≡ number + 1 → tail_at ends number ≡ ends.tail
  tail-here number is = ap (λ (b : Bool). cond b ends.tail 0) (eq-eqb (number + 1) ends.last (sym is))

  tail-later : (number k : ℕ) → ends.last ≡ number + suc (suc k) → tail_at ends number ≡ 0
  tail-later number k is = ap (λ (b : Bool). cond b ends.tail 0) (ne_eqb (number + 1) ends.last (λ e. absurd (omega (arith, e, is))))

  skip-here : (number : ℕ) → number ≡ ends.first → skip_at ends number ≡ ends.skip
  skip-here number is = ap (λ (b : Bool). cond b ends.skip 0) (eq-eqb number ends.first is)

  skip-later : (number : ℕ) → ends.first < number → skip_at ends number ≡ 0
  skip-later number after = ap (λ (b : Bool). cond b ends.skip 0) (ne_eqb number ends.first (λ e. absurd (omega (arith, e, after))))

  -- how many records of the next chunk are taken
  taken-is : (m number at n skip : ℕ) (counts : List ℕ) → ends.last ≡ number + suc m → range.stop + ends.tail ≡ at + sum (take (suc m) (n ∷ counts)) → at + sum (take m (n ∷ counts)) < range.stop
      → skip ≡ range.start - at → n - skip - tail_at ends number ≡ taken_of range at n
  taken-is zero number at n skip counts last reached least is =
      let tail = tail-here number (omega (arith, last)) in
      let all = sum-cons n [] in
      omega (arith, tail, reached, least, is, all)
  taken-is (suc m) number at n skip counts last reached least is =
      let tail = tail-later number m (omega (arith, last)) in
      let more = sum-cons n (take m counts) in
      omega (arith, tail, least, is, more)

  later_kept : (m number at place : ℕ) (counts sizes : List ℕ) → ends.first < number → range.start ≤ at → IsKept range ends m number at counts sizes
      → pieces_kept ends number place (take m counts) (take m sizes) ≡ parts_in range at (pieces_from place counts sizes)
  later_kept zero number at place counts sizes after start k =
      sym (none_after range at place counts sizes (omega (arith, k.reached)))
  later_kept (suc m) number at place [] sizes after start k = absurd (let within = k.within in omega (arith, within))
  later_kept (suc m) number at place (n ∷ counts) [] after start k = absurd (let same = k.same in omega (arith, same))
  later_kept (suc m) number at place (n ∷ counts) (s ∷ sizes) after start k =
      let one : suc m - 1 ≡ m = omega arith in
      let least : at + sum (take m (n ∷ counts)) < range.stop = omega (arith, k.least (omega arith), ap (λ (j : ℕ). sum (take j (n ∷ counts))) one) in
      let skip : skip_at ends number ≡ range.start - at = skip-later number after ∙ omega (arith, start) in
      let taken = taken-is m number at n (skip_at ends number) counts k.last k.reached least skip in
      let all = sum-cons n (take m counts) in
      let meet : 0 < taken_of range at n = omega (arith, k.some.0, least, start) in
      let rest = later_kept m (number + 1) (at + n) (place + s) counts sizes (omega (arith, after)) (omega (arith, start)) (record {
        same = omega (arith, k.same);
        last = omega (arith, k.last);
        within = omega (arith, k.within);
        some = k.some.1;
        reached = omega (arith, k.reached, all);
        least = λ more. least_next m more least;
      }) in
      (λ i. record { start = place; size = s; count = n; skip = skip i; taken = taken i } ∷ rest i)
      ∙ sym (meets range at (whole_piece place s n) (pieces_from (place + s) counts sizes) meet)
    where
      least_next : (j : ℕ) → 0 < j → at + sum (take j (n ∷ counts)) < range.stop → at + n + sum (take (j - 1) counts) < range.stop
      least_next zero more less = absurd (omega (arith, more))
      least_next (suc j) more less = let e : suc j - 1 ≡ j = omega arith in omega (arith, less, sum-cons n (take j counts), ap (λ (k : ℕ). sum (take k counts)) e)

  first_kept : (m at place : ℕ) (counts sizes : List ℕ) → at ≤ range.start → ends.skip ≡ range.start - at → range.start < range.stop → (0 < length counts → (n : ℕ) → n ≡ sum (take 1 counts) → range.start < at + n) → IsKept range ends m ends.first at counts sizes → 0 < m
      → (pieces_kept ends ends.first place (take m counts) (take m sizes) ≡ parts_in range at (pieces_from place counts sizes)) × (first_in range at (pieces_from place counts sizes) ≡ 0)
  first_kept zero at place counts sizes early skip_is some here k more = absurd (omega (arith, more))
  first_kept (suc m) at place [] sizes early skip_is some here k more = absurd (let within = k.within in omega (arith, within))
  first_kept (suc m) at place (n ∷ counts) [] early skip_is some here k more = absurd (let same = k.same in omega (arith, same))
  first_kept (suc m) at place (n ∷ counts) (s ∷ sizes) early skip_is some here k more =
      let one : suc m - 1 ≡ m = omega arith in
      let least : at + sum (take m (n ∷ counts)) < range.stop = omega (arith, k.least (omega arith), ap (λ (j : ℕ). sum (take j (n ∷ counts))) one) in
      let skip : skip_at ends ends.first ≡ range.start - at = skip-here ends.first refl ∙ skip_is in
      let taken = taken-is m ends.first at n (skip_at ends ends.first) counts k.last k.reached least skip in
      let all = sum-cons n (take m counts) in
      let ends_after : range.start < at + n = here (omega arith) n (sym (sum-cons n [] ∙ omega arith)) in
      let meet : 0 < taken_of range at n = omega (arith, ends_after, some, least) in
      let rest = later_kept m (ends.first + 1) (at + n) (place + s) counts sizes (omega arith) (omega (arith, ends_after)) (record {
        same = omega (arith, k.same);
        last = omega (arith, k.last);
        within = omega (arith, k.within);
        some = k.some.1;
        reached = omega (arith, k.reached, all);
        least = λ more. least_next m more least;
      }) in
      let p : Piece = whole_piece place s n in (
        (λ i. record { start = place; size = s; count = n; skip = skip i; taken = taken i } ∷ rest i)
            ∙ sym (meets range at (whole_piece place s n) (pieces_from (place + s) counts sizes) meet),
        first-here range at p (pieces_from (place + s) counts sizes) meet,
      )
    where
      least_next : (j : ℕ) → 0 < j → at + sum (take j (n ∷ counts)) < range.stop → at + n + sum (take (j - 1) counts) < range.stop
      least_next zero more less = absurd (omega (arith, more))
      least_next (suc j) more less = let e : suc j - 1 ≡ j = omega arith in omega (arith, less, sum-cons n (take j counts), ap (λ (k : ℕ). sum (take k counts)) e)

-- ---- what seeking finds
some_after : (k : ℕ) (ns : List ℕ) → AllByRecursion (λ n. 0 < n) ns → AllByRecursion (λ n. 0 < n) (drop k ns)
some_after zero ns h = h
some_after (suc k) [] h = h
some_after (suc k) (n ∷ ns) h = some_after k ns h.1

sum_more : (k m : ℕ) (ns : List ℕ) → sum (take (k + m) ns) ≡ sum (take k ns) + sum (take m (drop k ns))
sum_more k m ns = ap sum (take-add k m ns) ∙ sum_by-append (λ x. x) (take k ns) (take m (drop k ns))

sum_one : (k : ℕ) (ns : List ℕ) → k < length ns → sum (take 1 (drop k ns)) ≡ get_or ns k 0
sum_one k ns lt = ap (λ (t : List ℕ). sum (take 1 t)) (drop-cons ns k 0 lt) ∙ sum-cons (get_or ns k 0) [] ∙ omega arith

-- what is known of the ends
pub record AreEnds (range : Range) (ends : Ends) (before reached : ℕ) (counts sizes : List ℕ) : Type 0 where
  pub same : length counts ≡ length sizes
  pub some : AllByRecursion (λ n. 0 < n) counts
  pub order : ends.first < ends.last
  pub within : ends.last ≤ length counts
  pub before_is : before ≡ sum (take ends.first counts)
  pub early : before ≤ range.start
  pub here : range.start < before + get_or counts ends.first 0
  pub reached_is : reached ≡ sum (take ends.last counts)
  pub least : sum (take (ends.last - 1) counts) < range.stop
  pub skip : ends.skip ≡ range.start - before
  pub tail : range.stop + ends.tail ≡ reached
  pub any : range.start < range.stop

pub sought : (range : Range) (ends : Ends) (place before reached : ℕ) (counts sizes : List ℕ) → AreEnds range ends before reached counts sizes → IsSought range place counts sizes ends (place + sum (take ends.first sizes))
sought range ends place before reached counts sizes a =
    let first = ends.first in
    let cs = drop first counts in
    let ss = drop first sizes in
    let m = ends.last - first in
    let at = place + sum (take first sizes) in
    let last_is : first + m ≡ ends.last = omega (arith, a.order) in
    let less_is : first + (m - 1) ≡ ends.last - 1 = omega (arith, a.order) in
    let all = sum_more first m counts in
    let less = sum_more first (m - 1) counts in
    let start : 0 + sum (take first counts) ≡ before = omega (arith, a.before_is) in
    let move = skipped range first 0 place counts sizes a.same (omega (arith, a.order, a.within)) (omega (arith, a.before_is, a.early)) in
    let number = first-skipped range first 0 place counts sizes a.same (omega (arith, a.order, a.within)) (omega (arith, a.before_is, a.early)) in
    let kept = first_kept range ends m before at cs ss a.early a.skip a.any
    (λ more n is. omega (arith, a.here, is, sum_one first counts (omega (arith, a.order, a.within))))
    (record {
      same = omega (arith, length-drop first counts, length-drop first sizes, a.same);
      last = omega (arith, last_is);
      within = omega (arith, length-drop first counts, a.within);
      some = some_after first counts a.some;
      reached = omega (arith, a.tail, a.reached_is, all, ap (λ (k : ℕ). sum (take k counts)) last_is, a.before_is);
      least = λ more. omega (arith, a.least, less, ap (λ (k : ℕ). sum (take k counts)) less_is, a.before_is);
    }) (omega (arith, a.order)) in
    record {
      order = omega (arith, a.order);
      within = a.within;
      front = omega (arith, a.skip, a.here);
      near = omega (arith, sum_more first m sizes, sum_by-take-drop (λ x. x) sizes (first + m));
      left = kept.0 ∙ ap (λ (n : ℕ). parts_in range n (pieces_from at cs ss)) (sym start) ∙ sym move;
      number = omega (arith, number, ap (λ (n : ℕ). first_in range n (pieces_from at cs ss)) start, kept.1);
    }

-- and if the range is empty
pub sought_none : (range : Range) (ends : Ends) (place : ℕ) (counts sizes : List ℕ) → range.start ≡ range.stop → length counts ≡ length sizes → ends.first ≡ length counts → ends.last ≡ length counts → ends.skip ≡ 0 → IsSought range place counts sizes ends place
sought_none range ends place counts sizes empty same first last skip =
    let none : ends.last - ends.first ≡ 0 = omega (arith, first, last) in
    record {
      order = omega (arith, first, last);
      within = omega (arith, last);
      front = omega (arith, skip);
      near = omega (arith, ap (λ (k : ℕ). sum (take k (drop ends.first sizes))) none);
      left = ap (λ (k : ℕ). pieces_kept ends ends.first place (take k (drop ends.first counts)) (take k (drop ends.first sizes))) none
          ∙ sym (none_in range 0 place counts sizes (omega (arith, empty)));
      number = first ∙ sym (first_none range 0 place counts sizes same (omega (arith, empty)));
    }

-- ---- all records of a file
-- each piece is taken whole
module _ (range : Range) (all : range.start ≡ 0) where
  whole_part : (at place n s : ℕ) → at + n ≤ range.stop → part_in range at (whole_piece place s n) ≡ whole_piece place s n
  whole_part at place n s within =
      let skip : range.start - at ≡ 0 = omega (arith, all) in
      let taken : taken_of range at n ≡ n = omega (arith, all, within) in
      λ i. record { start = place; size = s; count = n; skip = skip i; taken = taken i }

  whole_parts : (at place : ℕ) (counts sizes : List ℕ) → AllByRecursion (λ n. 0 < n) counts → at + sum counts ≤ range.stop → parts_in range at (pieces_from place counts sizes) ≡ pieces_from place counts sizes
  whole_parts at place [] sizes some within = refl
  whole_parts at place (n ∷ counts) [] some within = refl
  whole_parts at place (n ∷ counts) (s ∷ sizes) some within =
      let first = sum-cons n counts in
      let here : at + n ≤ range.stop = omega (arith, within, first) in
      let rest = whole_parts (at + n) (place + s) counts sizes some.1 (omega (arith, within, first)) in
      meets range at (whole_piece place s n) (pieces_from (place + s) counts sizes) (omega (arith, all, here, some.0))
      ∙ ap (λ (p : Piece). p ∷ parts_in range (at + n) (pieces_from (place + s) counts sizes)) (whole_part at place n s here)
      ∙ ap (λ (ps : List Piece). whole_piece place s n ∷ ps) rest

  whole_first : (place : ℕ) (counts sizes : List ℕ) → AllByRecursion (λ n. 0 < n) counts → sum counts ≤ range.stop → first_in range 0 (pieces_from place counts sizes) ≡ 0
  whole_first place [] sizes some within = refl
  whole_first place (n ∷ counts) [] some within = refl
  whole_first place (n ∷ counts) (s ∷ sizes) some within =
      first-here range 0 (whole_piece place s n) (pieces_from (place + s) counts sizes) (omega (arith, all, within, sum-cons n counts, some.0))

-- all pieces of a packed file
pub all_parts : (range : Range) (place : ℕ) (counts sizes : List ℕ) → range.start ≡ 0 → All (λ n. 0 < n) counts → sum counts ≤ range.stop → parts_in range 0 (pieces_from place counts sizes) ≡ pieces_from place counts sizes
all_parts range place counts sizes all some within = whole_parts range all 0 place counts sizes (recursion_from_All (λ n. 0 < n) counts some) (omega (arith, within))

pub all_first : (range : Range) (place : ℕ) (counts sizes : List ℕ) → range.start ≡ 0 → All (λ n. 0 < n) counts → sum counts ≤ range.stop → first_in range 0 (pieces_from place counts sizes) ≡ 0
all_first range place counts sizes all some within = whole_first range all place counts sizes (recursion_from_All (λ n. 0 < n) counts some) within

-- ---- how many records a range has
pub taken_in : (range : Range) (at place : ℕ) (counts sizes : List ℕ) → length counts ≡ length sizes → range.stop ≤ at + sum counts → sum (map (λ (p : Piece). p.taken) (parts_in range at (pieces_from place counts sizes))) ≡ range.stop - max at range.start
taken_in range at place [] sizes same within = omega (arith, within)
taken_in range at place (n ∷ counts) [] same within = absurd (omega (arith, same))
taken_in range at place (n ∷ counts) (s ∷ sizes) same within =
    let rest = taken_in range (at + n) (place + s) counts sizes (omega (arith, same)) (omega (arith, within, sum-cons n counts)) in
    let p = whole_piece place s n in
    let more = parts_in range (at + n) (pieces_from (place + s) counts sizes) in
    elim (cases_lt 0 (taken_of range at n)) [
      | inl some ↦
          ap (λ (ps : List Piece). sum (map (λ (q : Piece). q.taken) ps)) (meets range at p (pieces_from (place + s) counts sizes) some)
          ∙ omega (arith, sum-cons (taken_of range at n) (map (λ (q : Piece). q.taken) more), rest)
      | inr none ↦
          ap (λ (ps : List Piece). sum (map (λ (q : Piece). q.taken) ps)) (misses range at p (pieces_from (place + s) counts sizes) (omega (arith, none)))
          ∙ omega (arith, rest, none)
    ]

-- ---- the pieces of a range lie where those of the file do
pub parts_lie : (P : Piece → Type 0) (range : Range) (at : ℕ) (pieces : List Piece) → ((p : Piece) (skip taken : ℕ) → P p → P (record p { skip = skip; taken = taken })) → All P pieces → All P (parts_in range at pieces)
parts_lie P range at [] keeps all = All-nil P
parts_lie P range at (p ∷ pieces) keeps all = elim (cases_lt 0 (taken_of range at p.count)) [
  | inl some ↦
      subst (λ (ps : List Piece). All P ps) (sym (meets range at p pieces some))
      (All-cons P (part_in range at p) (parts_in range (at + p.count) pieces) (keeps p (range.start - at) (taken_of range at p.count) (All-head P p pieces all)) (parts_lie P range (at + p.count) pieces keeps (All-tail P p pieces all)))
  | inr none ↦
      subst (λ (ps : List Piece). All P ps) (sym (misses range at p pieces (omega (arith, none))))
      (parts_lie P range (at + p.count) pieces keeps (All-tail P p pieces all))
]
