-- The table of counted chunks is accepted; and what an accepted table says of the chunks of a file.
use Rattle.std.proofs.Common.{◌≡◌, inl, inr, ℕ, zero, suc, ◌+◌, ◌*◌, ◌-◌, ◌<◌, ◌≤◌, min, sum, Bool, true, false, List, [], ◌∷◌, ◌++◌, length, map, None, refl, sym, ap, subst, ◌∙◌, arith}
use Rattle.std.specs.Prelude.{◌⊎◌}
use Rattle.std.specs.List.{AllByRecursion, range_with_len}
use Rattle.std.proofs.lemmas.Bool.{cases_lt}
use Rattle.std.proofs.lemmas.List.Elements.{All-from_recursion, recursion_from_All}
use Rattle.byteorder.specs.Endian.{little_bytes}
use Rattle.las_header.specs.Conditions.{IsFirst}
use Rattle.laz_range.specs.Span.{IsBytes}
use Rattle.laz_integer.specs.Events.{Event}
use Rattle.laz_table.specs.declared.chunks.Blocks.{Blocks}
use Rattle.laz_table.specs.declared.chunks.Blocks.TheVariants.{Fixed, Counted}
use Rattle.laz_table.specs.Chunks.{AreSizes, BeginsTable, HasTable, IsAccepted, IsCountedSize, table_causes}
use Rattle.laz_table.specs.Entries.{Entry, Latest, SpellsEntries, after_entry, entries_of, no_entry}
use Rattle.laz_table.specs.Laws.{AreWords}
use Rattle.laz_table.specs.Table.{HoldsEntries, TableHolds, stream_of, table_bytes}
use Rattle.laz_table.specs.VlrCauses.{chunk_count}
use Rattle.laz_table.proofs.Public.{IsBytes-append, IsBytes-little, AreEntries, holds-counted, one-held}
use Rattle.laz_table.proofs.Public.{counted-entries, stream-bytes}
use Rattle.laz_forms.proofs.Public.{count-few}
use Rattle.laz_reader.proofs.Public.{points_summed}
use Rattle.laz_models.proofs.Public.{sum-cons}

-- ---- a table that is written has bytes

counted-bytes : (sizes counts : List ℕ) → length sizes ≡ length counts → AreWords sizes → AreWords counts → IsBytes (table_bytes sizes counts)
counted-bytes sizes counts same h k =
    IsBytes-append (little_bytes 4 0 ++ little_bytes 4 (length counts)) (stream_of (entries_of sizes counts))
    (IsBytes-append (little_bytes 4 0) (little_bytes 4 (length counts)) (IsBytes-little 4 0) (IsBytes-little 4 (length counts)))
    (stream-bytes (entries_of sizes counts) (counted-entries sizes counts same h k))

-- ---- numbers of points in range

pub sizes-words : (sizes : List ℕ) → AllByRecursion IsCountedSize sizes → AreWords sizes
sizes-words [] h = tt
sizes-words (s ∷ sizes) h = (omega (arith, h.0.1), sizes-words sizes h.1)

-- there are no more chunks than points
pub few-sizes : (sizes : List ℕ) → AllByRecursion IsCountedSize sizes → length sizes ≤ sum sizes
few-sizes [] h = omega arith
few-sizes (s ∷ sizes) h = omega (arith, h.0.0, few-sizes sizes h.1, sum-cons s sizes)

-- ---- the table of counted chunks
module _ (points : ℕ) (sizes counts : List ℕ) (same : length sizes ≡ length counts) (few : length counts ≤ 16777216) (words : AreWords counts) (range : AllByRecursion IsCountedSize sizes) (whole : sum sizes ≡ points) where
  table : List ℕ
  table = table_bytes sizes counts

  held : TableHolds table (length counts) true sizes counts
  unfolding table
  held = holds-counted sizes counts same (omega (arith, few)) (sizes-words sizes range) words

  begins : BeginsTable table (Counted points) sizes counts
  begins = record { count = omega (arith, few, few-sizes sizes range, whole, same); holds = held }

  only : (others more : List ℕ) → BeginsTable table (Counted points) others more → (others ≡ sizes) × (more ≡ counts)
  unfolding table
  only others more other =
      let long : length more ≡ length counts = sym other.holds.number ∙ held.number in
      let one = one-held table (length counts) true sizes counts others more (counted-bytes sizes counts same (sizes-words sizes range) words) held (subst (λ (n : ℕ). TableHolds table n true others more) long other.holds) in
      (sym one.0, sym one.1)

  are : AreSizes points sizes
  are = (All-from_recursion IsCountedSize sizes range, whole)

  has : HasTable table (Counted points) sizes counts
  has = record { begins = begins; only = only }

  no_cause : IsFirst (table_causes table (Counted points) (sum counts)) None
  no_cause = inr (
    λ lacks. lacks sizes counts has,
    inr (
      λ other. other.3 (ap sum (only other.0 other.1 other.2.begins).1),
      inr (λ other. other.3 (subst (AreSizes points) (sym (only other.0 other.1 other.2.begins).0) are), refl),
    ),
  )

  pub counted_accepted : IsAccepted (table_bytes sizes counts) (Counted points) (sum counts) sizes counts
  unfolding table
  counted_accepted = record {
    coded = sizes;
    table = has;
    sizes_are = refl;
    fine = no_cause;
  }

-- ---- the numbers that a table holds have 32 bits
spelled-words : (l : Latest) (events : List Event) (entries : List Entry) → SpellsEntries l events entries → AreEntries entries
spelled-words l events [] h = tt
spelled-words l events (e ∷ entries) h = (omega (arith, h.3.fits), spelled-words (after_entry l e) h.1 entries h.4)

held-words : (bytes : List ℕ) (entries : List Entry) → HoldsEntries bytes entries → AreEntries entries
held-words bytes [] h = tt
held-words bytes (e ∷ entries) h = spelled-words no_entry h.0 (e ∷ entries) h.1

fixed-words : (counts : List ℕ) → AreEntries (entries_of [] counts) → AreWords counts
fixed-words [] h = tt
fixed-words (c ∷ counts) h = (omega (arith, h.0), fixed-words counts h.1)

counted-words : (sizes counts : List ℕ) → length sizes ≡ length counts → AreEntries (entries_of sizes counts) → AreWords counts
counted-words [] [] e h = tt
counted-words [] (c ∷ counts) e h = absurd (omega (arith, e))
counted-words (s ∷ sizes) [] e h = tt
counted-words (s ∷ sizes) (c ∷ counts) e h = (omega (arith, h.1.0), counted-words sizes counts (omega (arith, e)) h.1.1)

no-sizes : (sizes : List ℕ) → length sizes ≡ 0 → sizes ≡ []
no-sizes [] e = refl
no-sizes (s ∷ sizes) e = absurd (omega (arith, e))

pub table_words : (bytes : List ℕ) (n : ℕ) (counted : Bool) (sizes counts : List ℕ) → TableHolds bytes n counted sizes counts → AreWords counts
table_words bytes n true sizes counts h = counted-words sizes counts (h.point_counts ∙ sym h.byte_counts) (held-words _ (entries_of sizes counts) h.coded)
table_words bytes n false sizes counts h =
    fixed-words counts (subst (λ (ss : List ℕ). AreEntries (entries_of ss counts)) (no-sizes sizes h.point_counts) (held-words _ (entries_of sizes counts) h.coded))

-- ---- the numbers of points of an accepted table are in range
in_range? : (n : ℕ) → IsCountedSize n ⊎ (IsCountedSize n → ⊥)
in_range? n = elim (cases_lt 0 n) [
  | inl some ↦ elim (cases_lt 250000 n) [
    | inl many ↦ inr (λ h. absurd (omega (arith, many, h.1)))
    | inr few ↦ inl (some, few)
  ]
  | inr none ↦ inr (λ h. absurd (omega (arith, none, h.0)))
]

all_in_range? : (ns : List ℕ) → AllByRecursion IsCountedSize ns ⊎ (AllByRecursion IsCountedSize ns → ⊥)
all_in_range? [] = inl tt
all_in_range? (n ∷ ns) = elim (in_range? n) [
  | inl one ↦ elim (all_in_range? ns) [
    | inl more ↦ inl (one, more)
    | inr none ↦ inr (λ h. none h.1)
  ]
  | inr none ↦ inr (λ h. none h.0)
]

-- those of fixed chunks
fixed-range : (chunk points k n : ℕ) → 0 < chunk → min chunk points ≤ 250000 → chunk * (k + n) < points + chunk
    → AllByRecursion IsCountedSize (map (λ i. min chunk (points - chunk * i)) (range_with_len k n))
fixed-range chunk points k zero some few within = tt
fixed-range chunk points k (suc n) some few within =
    let more : chunk * k + chunk * n < points = omega (arith, within) in
    let next : chunk * (k + 1 + n) < points + chunk = omega (arith, within) in (
      (omega (arith, some, more), omega (arith, few)),
      fixed-range chunk points (k + 1) n some few next,
    )

-- a fixed chunk size that is not too large
abbrev pub IsChunkSizeOf : Blocks → Type 0
IsChunkSizeOf (Fixed chunk points) = (0 < chunk) × (min chunk points ≤ 250000)
IsChunkSizeOf (Counted points) = Unit {0}

pub accepted_range : (bytes : List ℕ) (blocks : Blocks) (total : ℕ) (sizes counts : List ℕ) → IsChunkSizeOf blocks → IsAccepted bytes blocks total sizes counts → AllByRecursion IsCountedSize sizes
accepted_range bytes (Fixed chunk points) total sizes counts some a =
    subst (AllByRecursion IsCountedSize) (sym a.sizes_are)
    (fixed-range chunk points 0 (chunk_count points chunk) some.0 some.1 (omega (arith, count-few points chunk (omega (arith, some.0)))))
accepted_range bytes (Counted points) total sizes counts some a = elim (all_in_range? a.coded) [
  | inl all ↦ subst (AllByRecursion IsCountedSize) (sym a.sizes_are) all
  | inr none ↦ absurd (points_summed bytes (Counted points) total a.fine (a.coded, counts, a.table, λ are. none (recursion_from_All IsCountedSize a.coded are.0)))
]
