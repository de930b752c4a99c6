-- Whether bytes hold a chunk table, and what is to be said of it, is decided: by a search for its lists and their
-- spellings.
use Rattle.std.proofs.Common.{◌≡◌, ◌≢◌, inl, inr, ℕ, ℤ, suc, ◌^◌, ◌<◌, ◌≤◌, min, Bool, true, false, cond, List, [], ◌∷◌, ◌++◌, length, map, sum, drop, arith, refl, sym, ◌∙◌, ap, subst}
use Rattle.std.specs.Prelude.{All}
use Rattle.std.proofs.lemmas.List.Elements.{All-cons, All-nil}
use Rattle.las_header.specs.Numbers.{number_at}
use Rattle.laz_range.specs.Span.{Begins, span}
use Rattle.laz_integer.specs.Events.{Event, cuts_of}
use Rattle.laz_integer.specs.Integer.{IntSpell}
use Rattle.laz_table.specs.declared.chunks.Blocks.{Blocks}
use Rattle.laz_table.specs.declared.chunks.Blocks.TheVariants.{Fixed, Counted}
use Rattle.las_header.specs.declared.limits.TheConstants.{MAX_CHUNK_POINTS}
use Rattle.laz_table.specs.declared.limits.TheConstants.{MAX_CHUNKS, TABLE_START}
use Rattle.laz_table.specs.Chunks.{AreSizes, BeginsTable, HasOtherBytes, HasOtherPoints, HasTable, IsChunkCount, IsCountedSize, LacksTable, are_counted}
use Rattle.laz_table.specs.Entries.{Entry, Latest, SpellsEntries, SpellsEntry, after_entry, bytes_entry, context_of, entries_of, no_entry, prediction, signed, table_use}
use Rattle.laz_table.specs.Table.{HoldsEntries}
use Rattle.laz_table.specs.VlrCauses.{chunk_count}
use Rattle.laz_forms.proofs.Searching.{Decided, IsSearched, decided_both, decided_if, decided_not, searched_among, searched_as, searched_made, searched_none, searched_one, searched_pairs}
use Rattle.laz_forms.proofs.SearchedFields.{IsInteger, is_at_most, is_below, same_integer, same_list, same_number, searched_integer}
use Rattle.laz_forms.proofs.SearchedChunks.{AreBelow, AreNumbers, begins_decided, searched_numbers}

-- ---- the spellings of entries

module _ (l : Latest) (e : Entry) where
  abbrev IsOf : List Event × (ℤ × ℕ) → Type 0
  IsOf y = IsInteger table_use 32 (context_of e.counts_points) (signed (prediction e.counts_points l)) y × (y.1.0 ≡ signed e.number)

  small_entry : e.number < 2 ^ 32 → IsSearched (λ events. SpellsEntry l events e)
  small_entry small =
      searched_made IsOf (λ y. y.0) (λ events. SpellsEntry l events e)
      (searched_among (IsInteger table_use 32 (context_of e.counts_points) (signed (prediction e.counts_points l))) (λ y. y.1.0 ≡ signed e.number)
      (searched_integer table_use 32 (context_of e.counts_points) (signed (prediction e.counts_points l))) (λ y is. same_integer y.1.0 (signed e.number)))
      (λ y is. record {
        width = y.1.1;
        fits = small;
        spells = subst (λ (z : ℤ). IntSpell table_use 32 (context_of e.counts_points) (signed (prediction e.counts_points l)) y.0 z y.1.1) is.1 is.0;
      })
      (λ events s. ((events, (signed e.number, s.width)), (s.spells, refl), refl))

  searched_entry : IsSearched (λ events. SpellsEntry l events e)
  searched_entry = elim (is_below e.number (2 ^ 32)) [
    | inl small ↦ small_entry small
    | inr large ↦ searched_none (λ events. SpellsEntry l events e) (λ events s. large s.fits)
  ]

searched_entries : (l : Latest) (es : List Entry) → IsSearched (λ events. SpellsEntries l events es)
searched_entries l [] = searched_one []
searched_entries l (e ∷ es) =
    searched_made (λ (y : List Event × List Event). SpellsEntry l y.0 e × SpellsEntries (after_entry l e) y.1 es) (λ y. y.0 ++ y.1) (λ events. SpellsEntries l events (e ∷ es))
    (searched_pairs (λ (first : List Event). SpellsEntry l first e) (λ first rest. SpellsEntries (after_entry l e) rest es) (searched_entry l e) (λ first is. searched_entries (after_entry l e) es))
    (λ y is. (y.0, y.1, refl, is.0, is.1)) (λ events s. ((s.0, s.1), (s.3, s.4), sym s.2))

entries_decided : (bytes : List ℕ) (es : List Entry) → Decided (HoldsEntries bytes es)
entries_decided bytes [] = inl tt
entries_decided bytes (e ∷ es) = searched_entries no_entry (e ∷ es) (λ events. Begins (span (cuts_of events)) bytes) (λ events s. begins_decided (span (cuts_of events)) bytes)

-- ---- the numbers of a table are below 2^32

abbrev AreSmall : List Entry → Type 0
AreSmall [] = Unit {0}
AreSmall (e ∷ es) = (e.number < 2 ^ 32) × AreSmall es

small_spelled : (l : Latest) (events : List Event) (es : List Entry) → SpellsEntries l events es → AreSmall es
small_spelled l events [] s = tt
small_spelled l events (e ∷ es) s = (s.3.fits, small_spelled (after_entry l e) s.1 es s.4)

small_held : (bytes : List ℕ) (es : List Entry) → HoldsEntries bytes es → AreSmall es
small_held bytes [] h = tt
small_held bytes (e ∷ es) h = small_spelled no_entry h.0 (e ∷ es) h.1

small_counts : (counts : List ℕ) → AreSmall (map bytes_entry counts) → AreBelow (2 ^ 32) counts
small_counts [] h = tt
small_counts (c ∷ counts) h = (h.0, small_counts counts h.1)

small_lists : (sizes counts : List ℕ) → length sizes ≡ length counts → AreSmall (entries_of sizes counts) → AreBelow (2 ^ 32) sizes × AreBelow (2 ^ 32) counts
small_lists [] counts same h = (tt, small_counts counts h)
small_lists (s ∷ sizes) [] same h = absurd (omega (arith, same))
small_lists (s ∷ sizes) (c ∷ counts) same h = let rest = small_lists sizes counts (omega (arith, same)) h.1.1 in ((h.0, rest.0), (h.1.0, rest.1))

no_sizes : (sizes : List ℕ) → length sizes ≡ 0 → sizes ≡ []
no_sizes [] none = refl
no_sizes (s ∷ sizes) none = absurd (omega (arith, none))

-- how many numbers of points a table of n chunks has
abbrev sizes_in : (counted : Bool) → ℕ → ℕ
sizes_in counted n = cond counted n 0

small_table : (counted : Bool) (bytes : List ℕ) (sizes counts : List ℕ) → length sizes ≡ sizes_in counted (length counts) → HoldsEntries bytes (entries_of sizes counts)
    → AreBelow (2 ^ 32) sizes × AreBelow (2 ^ 32) counts
small_table true bytes sizes counts same h = small_lists sizes counts same (small_held bytes (entries_of sizes counts) h)
small_table false bytes sizes counts none h =
    let empty = no_sizes sizes none in (
      subst (λ (xs : List ℕ). AreBelow (2 ^ 32) xs) (sym empty) tt,
      small_counts counts (small_held bytes (map bytes_entry counts) (subst (λ (xs : List ℕ). HoldsEntries bytes (entries_of xs counts)) empty h)),
    )

-- ---- tables

count_decided : (blocks : Blocks) (n : ℕ) → Decided (IsChunkCount blocks n)
count_decided (Fixed chunk points) n = same_number n (chunk_count points chunk)
count_decided (Counted points) n = is_at_most n (min points MAX_CHUNKS)

module _ (bytes : List ℕ) (blocks : Blocks) where
  abbrev Lists : Type 0
  Lists = List ℕ × List ℕ

  abbrev IsBegun : Lists → Type 0
  IsBegun x = BeginsTable bytes blocks x.0 x.1

  abbrev IsTable : Lists → Type 0
  IsTable x = HasTable bytes blocks x.0 x.1

  begun_decided : (sizes counts : List ℕ) → Decided (BeginsTable bytes blocks sizes counts)
  begun_decided sizes counts =
      let counted = are_counted blocks in
      decided_if
      {A = IsChunkCount blocks (length counts) × ((TABLE_START ≤ length bytes) × ((number_at 4 0 bytes ≡ 0) × ((number_at 4 4 bytes ≡ length counts)
      × ((length sizes ≡ sizes_in counted (length counts)) × HoldsEntries (drop TABLE_START bytes) (entries_of sizes counts)))))}
      {B = BeginsTable bytes blocks sizes counts}
      (λ h. record { count = h.0; holds = record { long = h.1.0; version = h.1.1.0; number = h.1.1.1.0; byte_counts = refl; point_counts = h.1.1.1.1.0; coded = h.1.1.1.1.1 } })
      (λ h. (h.count, (h.holds.long, (h.holds.version, (h.holds.number, (h.holds.point_counts, h.holds.coded))))))
      (decided_both (count_decided blocks (length counts))
      (λ _. decided_both (is_at_most TABLE_START (length bytes))
      (λ _. decided_both (same_number (number_at 4 0 bytes) 0)
      (λ _. decided_both (same_number (number_at 4 4 bytes) (length counts))
      (λ _. decided_both (same_number (length sizes) (sizes_in counted (length counts)))
      (λ _. entries_decided (drop TABLE_START bytes) (entries_of sizes counts)))))))

  abbrev AreLists : Lists → Type 0
  AreLists x = AreNumbers (2 ^ 32) (sizes_in (are_counted blocks) (number_at 4 4 bytes)) x.0 × AreNumbers (2 ^ 32) (number_at 4 4 bytes) x.1

  of_table : (x : Lists) → IsBegun x → AreLists x
  of_table x h =
      let small = small_table (are_counted blocks) (drop TABLE_START bytes) x.0 x.1 h.holds.point_counts h.holds.coded in
      let number = sym h.holds.number in
      ((h.holds.point_counts ∙ ap (sizes_in (are_counted blocks)) number, small.0), (number, small.1))

  searched_begun : IsSearched IsBegun
  searched_begun =
      searched_as (λ (x : Lists). AreLists x × IsBegun x) IsBegun
      (searched_among AreLists IsBegun
      (searched_pairs (AreNumbers (2 ^ 32) (sizes_in (are_counted blocks) (number_at 4 4 bytes))) (λ sizes. AreNumbers (2 ^ 32) (number_at 4 4 bytes))
      (searched_numbers (2 ^ 32) (sizes_in (are_counted blocks) (number_at 4 4 bytes))) (λ sizes are. searched_numbers (2 ^ 32) (number_at 4 4 bytes)))
      (λ x are. begun_decided x.0 x.1))
      (λ x is. is.1) (λ x is. (of_table x is, is))

  -- ---- there is no other table

  abbrev IsSame : Lists → Lists → Type 0
  IsSame x y = (y.0 ≡ x.0) × (y.1 ≡ x.1)

  abbrev HasOther : Lists → Type 0
  HasOther x = (y : Lists) × IsBegun y × (¬ IsSame x y)

  same_decided : (x y : Lists) → Decided (IsSame x y)
  same_decided x y = decided_both (same_list same_number y.0 x.0) (λ _. same_list same_number y.1 x.1)

  other_decided : (x : Lists) → Decided (HasOther x)
  other_decided x = searched_begun (λ y. ¬ IsSame x y) (λ y is. decided_not (same_decided x y))

  alone : (x : Lists) → ¬ HasOther x → (others more : List ℕ) → BeginsTable bytes blocks others more → (others ≡ x.0) × (more ≡ x.1)
  alone x none others more begins = elim (same_decided x (others, more)) [
    | inl same ↦ same
    | inr differs ↦ absurd (none ((others, more), begins, differs))
  ]

  pub searched_table : IsSearched IsTable
  searched_table =
      searched_as (λ (x : Lists). IsBegun x × (¬ HasOther x)) IsTable
      (searched_among IsBegun (λ x. ¬ HasOther x) searched_begun (λ x is. decided_not (other_decided x)))
      (λ x is. record { begins = is.0; only = alone x is.1 })
      (λ x is. (is.begins, λ other. other.2 (is.only other.0.0 other.0.1 other.1)))

  -- ---- the causes of a table

  abbrev SomeTable : Type 0
  SomeTable = (x : Lists) × IsTable x × Unit {0}

  pub some_table : Decided SomeTable
  some_table = searched_table (λ x. Unit {0}) (λ x is. inl tt)

  pub lack_decided : Decided (LacksTable bytes blocks)
  lack_decided =
      decided_if {A = ¬ SomeTable} {B = LacksTable bytes blocks} (λ none sizes counts h. none ((sizes, counts), h, tt)) (λ lacks h. lacks h.0.0 h.0.1 h.1) (decided_not some_table)

  pub bytes_decided : (total : ℕ) → Decided (HasOtherBytes bytes blocks total)
  bytes_decided total =
      decided_if {A = (x : Lists) × IsTable x × (sum x.1 ≢ total)} {B = HasOtherBytes bytes blocks total}
      (λ h. (h.0.0, h.0.1, h.1, h.2)) (λ h. ((h.0, h.1), h.2, h.3))
      (searched_table (λ x. sum x.1 ≢ total) (λ x is. decided_not (same_number (sum x.1) total)))

all_sizes : (sizes : List ℕ) → Decided (All IsCountedSize sizes)
all_sizes [] = inl (All-nil IsCountedSize)
all_sizes (s ∷ sizes) =
    decided_if {A = IsCountedSize s × All IsCountedSize sizes} {B = All IsCountedSize (s ∷ sizes)}
    (λ h. All-cons IsCountedSize s sizes h.0 h.1)
    (λ h. (h 0 0 (omega arith), λ k d lt. h (suc k) d (omega (arith, lt))))
    (decided_both (decided_both (is_below 0 s) (λ _. is_at_most s MAX_CHUNK_POINTS)) (λ _. all_sizes sizes))

sizes_decided : (points : ℕ) (sizes : List ℕ) → Decided (AreSizes points sizes)
sizes_decided points sizes = decided_both (all_sizes sizes) (λ _. same_number (sum sizes) points)

pub points_decided : (bytes : List ℕ) (blocks : Blocks) → Decided (HasOtherPoints bytes blocks)
points_decided bytes (Fixed chunk points) = inr (λ h. h)
points_decided bytes (Counted points) =
    decided_if {A = (x : List ℕ × List ℕ) × HasTable bytes (Counted points) x.0 x.1 × (¬ AreSizes points x.0)} {B = HasOtherPoints bytes (Counted points)}
    (λ h. (h.0.0, h.0.1, h.1, h.2)) (λ h. ((h.0, h.1), h.2, h.3))
    (searched_table bytes (Counted points) (λ x. ¬ AreSizes points x.0) (λ x is. decided_not (sizes_decided points x.0)))
