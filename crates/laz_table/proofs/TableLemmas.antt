-- Whole tables: the lists that were read are the only ones, and what a table is refused for.
use Rattle.std.proofs.Common.{◌≡◌, ℕ, ◌+◌, ◌-◌, ◌*◌, ◌<◌, inl, inr, min, Bool, true, false, if◌then◌else◌, List, [], ◌∷◌, ◌++◌, length, drop, map, Some, None, Result, Ok, Err, refl, sym, ap, subst, ◌∙◌, arith}
use Rattle.std.specs.Prelude.{sum, IfOk, IfErr, MatchResult}
use Rattle.std.specs.List.{range_with_len}
use Rattle.std.proofs.lemmas.List.FromFn.{map-range_with_len_more}
use Rattle.std.proofs.lemmas.List.{nil_from_length}
use Rattle.las_header.specs.declared.refusal.Refusal.TheVariants as cause
use Rattle.las_header.specs.Conditions.{IsFirst}
use Rattle.laz_range.specs.Cut.{Cut, AreCuts}
use Rattle.laz_range.specs.Span.{Begins, span}
use Rattle.laz_range.specs.Decoding.{Decoding, HasRead}
use Rattle.laz_integer.specs.Integer.{IntStands, IntState, IsInts}
use Rattle.laz_table.specs.declared.chunks.Blocks.{Blocks}
use Rattle.laz_table.specs.declared.chunks.Blocks.TheVariants.{Fixed, Counted}
use Rattle.laz_table.specs.declared.chunks.TableFault.{TableFault}
use Rattle.laz_table.specs.declared.chunks.TableFault.TheVariants.{Memory}
use Rattle.laz_table.specs.Entries.{entries_of, table_use}
use Rattle.laz_table.specs.Chunks.{AllowsSizes, AreSizes, BeginsTable, HasOtherBytes, HasOtherPoints, HasTable, IsAccepted, IsChunkCount, IsFirstFault, LacksTable, are_counted, sizes_of, table_causes}
use Rattle.laz_table.specs.Steps.{AreLists, IsFault, IsTableStart, NoEntries, NoTable, OneTable, ReadsEntries, table_start}
use Rattle.laz_table.proofs.Bridge.{AreInTurn, counted-counts, counted-length, counted-sizes, counted-turn, counts_in, fixed-counts, fixed-length, fixed-turn, none-opened, none-read, one-read, read-held, sizes_in}
use Rattle.laz_table.proofs.ReadingLemmas.{fault-then}

-- ---- lists of chunks of a kind

same_length : (n : ℕ) (sizes counts : List ℕ) → AreLists true n sizes counts → length sizes ≡ length counts
same_length n sizes counts h = h.point_counts ∙ sym h.byte_counts

pub lists-turn : (counted : Bool) (n : ℕ) (sizes counts : List ℕ) → AreLists counted n sizes counts → AreInTurn counted counted (entries_of sizes counts)
lists-turn true n sizes counts h = counted-turn sizes counts (same_length n sizes counts h)
lists-turn false n sizes counts h = subst (λ (l : List ℕ). AreInTurn false false (entries_of l counts)) (sym (nil_from_length sizes h.point_counts)) (fixed-turn counts)

-- how many entries a table has
abbrev pub entry_count : Bool → ℕ → ℕ
entry_count true n = 2 * n
entry_count false n = n

pub lists-length : (counted : Bool) (n : ℕ) (sizes counts : List ℕ) → AreLists counted n sizes counts → length (entries_of sizes counts) ≡ entry_count counted n
lists-length true n sizes counts h = counted-length sizes counts (same_length n sizes counts h) ∙ ap (λ k. 2 * k) h.byte_counts
lists-length false n sizes counts h = ap (λ l. length (entries_of l counts)) (nil_from_length sizes h.point_counts) ∙ (fixed-length counts ∙ h.byte_counts)

some-entries : (counted : Bool) (n : ℕ) → 0 < n → 0 < entry_count counted n
some-entries true n h = omega (arith, h)
some-entries false n h = h

pub lists-back : (counted : Bool) (n : ℕ) (s c t d : List ℕ) → AreLists counted n s c → AreLists counted n t d → entries_of s c ≡ entries_of t d → (s ≡ t) × (c ≡ d)
lists-back true n s c t d h k e =
    (sym (counted-sizes s c (same_length n s c h)) ∙ (ap sizes_in e ∙ counted-sizes t d (same_length n t d k)), sym (counted-counts s c (same_length n s c h)) ∙ (ap counts_in e ∙ counted-counts t d (same_length n t d k)))
lists-back false n s c t d h k e =
    let none = nil_from_length s h.point_counts in
    let other = nil_from_length t k.point_counts in
    let entries : entries_of [] c ≡ entries_of [] d = sym (ap (λ l. entries_of l c) none) ∙ (e ∙ ap (λ l. entries_of l d) other) in
    (none ∙ sym other, sym (fixed-counts c) ∙ (ap counts_in entries ∙ fixed-counts d))

-- ---- what was read of a stream
module _ (models : IntState) (counted : Bool) (is : IsInts 32 2 models) (h : IntStands table_use [] models) (n : ℕ) (some : 0 < n) where
  pub unopened : (bytes : List ℕ) → ((events : List Cut) → AreCuts events → Begins (span events) bytes → ⊥) → NoTable bytes n counted
  unopened bytes none sizes counts lists holds =
      none-opened models counted is h bytes (entries_of sizes counts) none (omega (arith, lists-length counted n sizes counts lists, some-entries counted n some)) (lists-turn counted n sizes counts lists) holds

  pub unread : (d e : Decoding) → HasRead [] d → NoEntries (table_start models counted) (entry_count counted n) d e → NoTable d.bytes n counted
  unread d e read none sizes counts lists holds =
      none-read models counted is h d e (entry_count counted n) (entries_of sizes counts) read none (lists-length counted n sizes counts lists) (some-entries counted n some) (lists-turn counted n sizes counts lists) holds

  pub table-read : (d e : Decoding) (sizes counts : List ℕ) → HasRead [] d → AreLists counted n sizes counts → ReadsEntries (table_start models counted) (entry_count counted n) d e (entries_of sizes counts) → OneTable d.bytes n counted sizes counts
  table-read d e sizes counts read lists r =
      record {
        lists = lists;
        holds = read-held models counted is h d e (entry_count counted n) (entries_of sizes counts) read r;
        only = λ others more are holds.
            lists-back counted n others more sizes counts are lists
            (one-read models counted is h d e (entry_count counted n) (entries_of sizes counts) (entries_of others more) read r (lists-length counted n others more are) (some-entries counted n some) (lists-turn counted n others more are) holds);
      }

-- the answer of a reader of chunks with numbers of points of their own
pub chunks-read : {T : Type 0} (sizes counts : T → List ℕ) (r : Result T TableFault) (models : IntState) (n : ℕ) (d e : Decoding) → IsInts 32 2 models → IntStands table_use [] models → 0 < n → HasRead [] d
    → IfOk r (λ list. length (counts list) ≡ n) → IfOk r (λ list. length (sizes list) ≡ n)
    → MatchResult r (λ list. ReadsEntries (table_start models true) (2 * n) d e (entries_of (sizes list) (counts list))) (λ fault. IsFault fault (NoEntries (table_start models true) (2 * n) d e))
    → MatchResult r (λ list. OneTable d.bytes n true (sizes list) (counts list)) (λ fault. IsFault fault (NoTable d.bytes n true))
chunks-read sizes counts (Ok list) models n d e is h some read few same reads =
    table-read models true is h n some d e (sizes list) (counts list) read (record { point_counts = same; byte_counts = few }) reads
chunks-read sizes counts (Err fault) models n d e is h some read few same reads = fault-then fault _ (NoTable d.bytes n true) (λ none. unread models true is h n some d e read none) reads

-- ---- the table of the stream
module _ (bytes : List ℕ) (blocks : Blocks) (n : ℕ) (sizes counts : List ℕ) (start : IsTableStart bytes blocks n) (one : OneTable (drop 8 bytes) n (are_counted blocks) sizes counts) where
  begins : BeginsTable bytes blocks sizes counts
  begins =
      let long = one.lists.byte_counts in
      record {
        count = subst (λ (k : ℕ). IsChunkCount blocks k) (sym long) start.count;
        holds = record {
          long = start.long;
          version = start.version;
          number = start.number ∙ sym long;
          byte_counts = refl;
          point_counts = one.lists.point_counts ∙ ap (λ k. if are_counted blocks then k else 0) (sym long);
          coded = one.holds;
        };
      }

  pub one-table : (s c : List ℕ) → BeginsTable bytes blocks s c → (s ≡ sizes) × (c ≡ counts)
  one-table s c has =
      let long : length c ≡ n = sym has.holds.number ∙ start.number in
      one.only s c (record { point_counts = has.holds.point_counts ∙ ap (λ k. if are_counted blocks then k else 0) long; byte_counts = long }) has.holds.coded

  pub has-table : HasTable bytes blocks sizes counts
  has-table = record { begins = begins; only = one-table }

  pub no-lack : LacksTable bytes blocks → ⊥
  no-lack lacks = lacks sizes counts has-table

  pub right-bytes : (total : ℕ) → sum counts ≡ total → HasOtherBytes bytes blocks total → ⊥
  right-bytes total e other = other.3 (ap sum (one-table other.0 other.1 other.2.begins).1 ∙ e)

other-points : (bytes : List ℕ) (blocks : Blocks) (sizes counts : List ℕ) → HasTable bytes blocks sizes counts → ¬ AllowsSizes blocks sizes → HasOtherPoints bytes blocks
other-points bytes (Fixed chunk points) sizes counts has bad = bad tt
other-points bytes (Counted points) sizes counts has bad = (sizes, counts, has, bad)

right-points : (bytes : List ℕ) (blocks : Blocks) (sizes counts : List ℕ) → ((s c : List ℕ) → BeginsTable bytes blocks s c → (s ≡ sizes) × (c ≡ counts)) → AllowsSizes blocks sizes → HasOtherPoints bytes blocks → ⊥
right-points bytes (Fixed chunk points) sizes counts only allows other = other
right-points bytes (Counted points) sizes counts only allows other = other.3 (subst (λ (l : List ℕ). AreSizes points l) (sym (only other.0 other.1 other.2.begins).0) allows)

-- ---- the first cause
module _ (bytes : List ℕ) (blocks : Blocks) (n total : ℕ) (sizes counts : List ℕ) (start : IsTableStart bytes blocks n) (one : OneTable (drop 8 bytes) n (are_counted blocks) sizes counts) where
  pub first-points : sum counts ≡ total → ¬ AllowsSizes blocks sizes → IsFirst (table_causes bytes blocks total) (Some cause.PointSum)
  first-points e bad =
      inr (no-lack bytes blocks n sizes counts start one, inr (right-bytes bytes blocks n sizes counts start one total e, inl (other-points bytes blocks sizes counts (has-table bytes blocks n sizes counts start one) bad, refl)))

  pub first-none : sum counts ≡ total → AllowsSizes blocks sizes → IsFirst (table_causes bytes blocks total) None
  first-none e allows =
      inr (no-lack bytes blocks n sizes counts start one, inr (right-bytes bytes blocks n sizes counts start one total e, inr (right-points bytes blocks sizes counts (one-table bytes blocks n sizes counts start one) allows, refl)))

  -- the answer with the numbers of points
  pub accepted : {T : Type 0} (points numbers : T → List ℕ) (r : Result T TableFault) → sum counts ≡ total → AllowsSizes blocks sizes
      → IfOk r (λ list. points list ≡ sizes_of blocks sizes) → IfOk r (λ list. numbers list ≡ counts) → IfErr r (λ fault. fault ≡ Memory)
      → MatchResult r (λ list. IsAccepted bytes blocks total (points list) (numbers list)) (λ fault. IsFirstFault bytes blocks total fault)
  accepted points numbers (Ok list) e allows f g m =
      record {
        coded = sizes;
        table = subst (λ (l : List ℕ). HasTable bytes blocks sizes l) (sym g) (has-table bytes blocks n sizes counts start one);
        sizes_are = f;
        fine = first-none e allows;
      }
  accepted points numbers (Err fault) e allows f g m = subst (λ (x : TableFault). IsFirstFault bytes blocks total x) (sym m) tt

-- ---- one more number of points
pub sizes-more : (chunk points left i size : ℕ) (items more : List ℕ) → left ≡ points - chunk * i → size ≡ min chunk left → more ≡ items ++ size ∷ [] → items ≡ map (λ k. min chunk (points - chunk * k)) (range_with_len 0 i)
    → (left - size ≡ points - chunk * (i + 1)) × (more ≡ map (λ k. min chunk (points - chunk * k)) (range_with_len 0 (i + 1)))
sizes-more chunk points left i size items more e s m is =
    let place : 0 + i ≡ i = omega arith in
    let here : size ≡ min chunk (points - chunk * i) = s ∙ ap (λ k. min chunk k) e in
    let step : chunk * (i + 1) ≡ chunk * i + chunk = omega arith in
    (omega (arith, e, s, step), m ∙ (ap (λ l. l ++ size ∷ []) is ∙ (ap (λ k. map (λ k. min chunk (points - chunk * k)) (range_with_len 0 i) ++ k ∷ []) here ∙ sym (map-range_with_len_more (λ k. min chunk (points - chunk * k)) 0 i i place))))
