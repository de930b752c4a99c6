-- Laws of chunk tables: what is written is held, and is short.
use Rattle.std.proofs.Common.{◌≡◌, ℕ, ◌+◌, ◌*◌, ◌^◌, ◌<◌, ◌≤◌, min, Bool, true, false, if◌then◌else◌, List, [], ◌∷◌, ◌++◌, length, take, drop, refl, sym, ap, subst, ◌∙◌, arith, lit≤, lit<, length-append}
use Rattle.std.proofs.lemmas.List.{drop-take, length-take, take-take}
use Rattle.std.specs.Int.{w32}
use Rattle.std.proofs.Math.Facts.{sfits_to_z}
use mir.Val.{SFits, Fits}
use Rattle.byteorder.specs.Endian.{little_bytes}
use Rattle.las_header.proofs.Public.{number_at-drop, number_at-take, reads_back}
use Rattle.laz_range.specs.Cut.{AreCuts}
use Rattle.laz_range.specs.Span.{Begins, IsBytes, Span, bytes_of, final_number, initial_span, number, span}
use Rattle.laz_range.proofs.Public.{after-IsSpan, bytes-fit, initial_span-IsSpan, length-digits, Fits-Begins, IsBytes-drop, after-few}
use Rattle.laz_integer.specs.Events.{Event, Name, Role, Own, Width, ZeroOrOne, High, cuts_of}
use Rattle.laz_integer.specs.Integer.{int_width}
use Rattle.laz_integer.specs.Ranged.{AreRanged, HasIntSizes}
use Rattle.laz_integer.proofs.Public.{corrector-few, int-few, length-cuts, AreCuts-ranged, AreRanged-append, int-ranged, IsCorrector-written, spells-written}
use Rattle.laz_integer.specs.Fields.{int_corrector}
use Rattle.laz_table.specs.Entries.{Entry, Latest, SpellsEntries, SpellsEntry, after_entry, context_of, entries_of, entry_events, events_of, no_entry, prediction, signed, table_use}
use Rattle.laz_table.specs.Table.{HoldsEntries, TableHolds, stream_of, table_bytes}
use Rattle.laz_table.specs.Laws.{AreWords, FrontHolds, HoldsCounted, HoldsFixed, IsOnlyOne, IsShort}
use Rattle.laz_table.specs.Steps.{AreLists}
use Rattle.laz_table.proofs.Bridge.{AreInTurn}
use Rattle.laz_table.proofs.OneSpelling.{one-table}
use Rattle.laz_table.proofs.TableLemmas.{lists-back, lists-length, lists-turn}
use Rattle.laz_table.proofs.WritingLemmas.{signed-bits}

-- ---- a writer's events spell the entries
signed-word : (n : ℕ) → n < 4294967296 → SFits w32 (signed n)
signed-word n h = let word : Fits w32 n = record { fits = h } in sfits_to_z {w = w32} {n = n} word

abbrev pub AreEntries : List Entry → Type 0
AreEntries [] = Unit {0}
AreEntries (e ∷ entries) = (e.number < 4294967296) × AreEntries entries

abbrev pub IsLatest : Latest → Type 0
IsLatest l = (l.points < 4294967296) × (l.bytes < 4294967296)

latest-small : (b : Bool) (l : Latest) → IsLatest l → prediction b l < 4294967296
latest-small true l h = h.0
latest-small false l h = h.1

latest-next : (b : Bool) (n : ℕ) (l : Latest) → IsLatest l → n < 4294967296 → IsLatest (after_entry l (record { counts_points = b; number = n }))
latest-next true n l h small = (small, h.1)
latest-next false n l h small = (h.0, small)

entry-spelled : (l : Latest) (e : Entry) → IsLatest l → e.number < 4294967296 → SpellsEntry l (entry_events l e) e
entry-spelled l e h small =
    let before = prediction e.counts_points l in
    record {
      width = int_width 32 (signed before) (signed e.number);
      fits = small;
      spells = spells-written table_use 32 (context_of e.counts_points) (signed before) (signed e.number) (lit≤ tt) (lit≤ tt) (signed-word before (latest-small e.counts_points l h)) (signed-word e.number small) (signed-bits e.number small);
    }

pub entries-spelled : (l : Latest) (entries : List Entry) → IsLatest l → AreEntries entries → SpellsEntries l (events_of l entries) entries
entries-spelled l [] h all = refl
entries-spelled l (e ∷ entries) h all =
    (entry_events l e, events_of (after_entry l e) entries, refl, entry-spelled l e h all.0, entries-spelled (after_entry l e) entries (latest-next e.counts_points e.number l h all.0) all.1)

-- ---- events that spell entries are lawful, and few
role-size : Role → ℕ → ℕ
role-size Own k = 2
role-size Width k = 33
role-size ZeroOrOne k = 2
role-size High k = 2 ^ min k 8

pub sizes : Name → ℕ
sizes name = role-size name.role name.which

sizes-are : HasIntSizes sizes table_use 32
unfolding sizes role-size
sizes-are = record { widths = λ ctx. refl; highs = λ k. refl }

pub entries-ranged : (l : Latest) (events : List Event) (entries : List Entry) → SpellsEntries l events entries → AreRanged sizes events
entries-ranged l events [] h = subst (AreRanged sizes) (sym h) tt
entries-ranged l events (e ∷ entries) h =
    let one = int-ranged sizes table_use 32 (context_of e.counts_points) _ _ h.3.width h.0 sizes-are (lit≤ tt) (lit≤ tt) h.3.spells in
    subst (AreRanged sizes) (sym h.2) (AreRanged-append sizes h.0 h.1 one (entries-ranged (after_entry l e) h.1 entries h.4))

entries-few : (l : Latest) (events : List Event) (entries : List Entry) → SpellsEntries l events entries → length events ≤ 4 * length entries
entries-few l events [] h = omega (arith, ap length h)
entries-few l events (e ∷ entries) h =
    omega (arith, ap length h.2, length-append h.0 h.1, int-few table_use 32 (context_of e.counts_points) _ _ h.0 h.3.width (lit≤ tt) h.3.spells, entries-few (after_entry l e) h.1 entries h.4)

pub cuts-lawful : (events : List Event) → AreRanged sizes events → AreCuts (cuts_of events)
cuts-lawful events h = AreCuts-ranged sizes [] events tt h

shifts-few : (events : List Event) → (span (cuts_of events)).shifts ≤ 3 * length events
shifts-few events = omega (arith, after-few initial_span (cuts_of events), length-cuts [] events)

-- ---- the stream that is written is held
stream-held : (entries : List Entry) → AreEntries entries → HoldsEntries (stream_of entries) entries
stream-held [] all = tt
stream-held (e ∷ entries) all =
    let events = events_of no_entry (e ∷ entries) in
    let spells : SpellsEntries no_entry events (e ∷ entries) = entries-spelled no_entry (e ∷ entries) (lit< tt, lit< tt) all in
    let cuts = cuts-lawful events (entries-ranged no_entry events (e ∷ entries) spells) in
    let fits = bytes-fit (span (cuts_of events)) (after-IsSpan initial_span (cuts_of events) initial_span-IsSpan cuts) in
    (events, spells, Fits-Begins (span (cuts_of events)) (bytes_of (span (cuts_of events))) fits)

table-length : (sizes counts : List ℕ) → length (table_bytes sizes counts) ≡ 8 + length (stream_of (entries_of sizes counts))
table-length sizes counts = length-append (little_bytes 4 0 ++ little_bytes 4 (length counts)) (stream_of (entries_of sizes counts))

table-held : (counted : Bool) (sizes counts : List ℕ) → length counts < 4294967296 → AreEntries (entries_of sizes counts) → length sizes ≡ (if counted then length counts else 0)
    → TableHolds (table_bytes sizes counts) (length counts) counted sizes counts
table-held counted sizes counts few all same =
    let t = table_bytes sizes counts in
    let stream = stream_of (entries_of sizes counts) in
    record {
      long = omega (arith, table-length sizes counts);
      version = reads_back 4 0 (little_bytes 4 (length counts) ++ stream) (lit< tt);
      number = number_at-drop 4 4 t ∙ reads_back 4 (length counts) stream (omega (arith, few));
      byte_counts = refl;
      point_counts = same;
      coded = stream-held (entries_of sizes counts) all;
    }

pub fixed-entries : (counts : List ℕ) → AreWords counts → AreEntries (entries_of [] counts)
fixed-entries [] h = tt
fixed-entries (c ∷ counts) h = (omega (arith, h.0), fixed-entries counts h.1)

pub counted-entries : (sizes counts : List ℕ) → length sizes ≡ length counts → AreWords sizes → AreWords counts → AreEntries (entries_of sizes counts)
counted-entries [] [] e h k = tt
counted-entries [] (c ∷ counts) e h k = absurd (omega (arith, e))
counted-entries (s ∷ sizes) [] e h k = tt
counted-entries (s ∷ sizes) (c ∷ counts) e h k = (omega (arith, h.0), (omega (arith, k.0), counted-entries sizes counts (omega (arith, e)) h.1 k.1))

pub holds-fixed : HoldsFixed
holds-fixed counts few h = table-held false [] counts (omega (arith, few)) (fixed-entries counts h) refl

pub holds-counted : HoldsCounted
holds-counted sizes counts same few h k = table-held true sizes counts (omega (arith, few)) (counted-entries sizes counts same h k) same

-- ---- tables are short
entries-count : (sizes counts : List ℕ) → length (entries_of sizes counts) ≤ 2 * length counts
entries-count [] [] = lit≤ tt
entries-count [] (c ∷ counts) = omega (arith, entries-count [] counts)
entries-count (s ∷ sizes) [] = lit≤ tt
entries-count (s ∷ sizes) (c ∷ counts) = omega (arith, entries-count sizes counts)

-- a written entry has four events at most
written-few : (l : Latest) (entries : List Entry) → length (events_of l entries) ≤ 4 * length entries
written-few l [] = lit≤ tt
written-few l (e ∷ entries) =
    let before = signed (prediction e.counts_points l) in
    let k = IsCorrector-written 32 before (signed e.number) (lit≤ tt) (lit≤ tt) in
    let one : length (entry_events l e) ≤ 4 = corrector-few table_use 32 (context_of e.counts_points) (int_corrector 32 before (signed e.number)).0 (int_corrector 32 before (signed e.number)).1 k.0 in
    omega (arith, length-append (entry_events l e) (events_of (after_entry l e) entries), one, written-few (after_entry l e) entries)

stream-short : (entries : List Entry) → length (stream_of entries) ≤ 4 + 12 * length entries
stream-short [] = lit≤ tt
stream-short (e ∷ entries) =
    let events = events_of no_entry (e ∷ entries) in
    let s = span (cuts_of events) in
    omega (arith, length-digits (s.shifts + 4) (final_number s), shifts-few events, written-few no_entry (e ∷ entries))

pub short : IsShort
short sizes counts = omega (arith, table-length sizes counts, stream-short (entries_of sizes counts), entries-count sizes counts)

-- ---- so many bytes decide what is held
begins-front : (s : Span) (n : ℕ) (bytes : List ℕ) → s.shifts + 4 ≤ n → Begins s bytes → Begins s (take n bytes)
begins-front s n bytes few h =
    let same : take (s.shifts + 4) (take n bytes) ≡ take (s.shifts + 4) bytes = take-take (s.shifts + 4) n bytes few in
    record {
      enough = omega (arith, length-take n bytes, few, h.enough);
      low = subst (λ (l : List ℕ). s.low ≤ number l) (sym same) h.low;
      high = subst (λ (l : List ℕ). number l < s.low + s.len) (sym same) h.high;
    }

begins-whole : (s : Span) (n : ℕ) (bytes : List ℕ) → s.shifts + 4 ≤ n → Begins s (take n bytes) → Begins s bytes
begins-whole s n bytes few h =
    let same : take (s.shifts + 4) (take n bytes) ≡ take (s.shifts + 4) bytes = take-take (s.shifts + 4) n bytes few in
    record {
      enough = omega (arith, length-take n bytes, h.enough);
      low = subst (λ (l : List ℕ). s.low ≤ number l) same h.low;
      high = subst (λ (l : List ℕ). number l < s.low + s.len) same h.high;
    }

spelled-short : (events : List Event) (entries : List Entry) (n : ℕ) → SpellsEntries no_entry events entries → length entries ≤ 2 * n → (span (cuts_of events)).shifts + 4 ≤ 4 + 24 * n
spelled-short events entries n spells few = omega (arith, shifts-few events, entries-few no_entry events entries spells, few)

entries-front : (entries : List Entry) (n : ℕ) (bytes : List ℕ) → length entries ≤ 2 * n → HoldsEntries bytes entries → HoldsEntries (take (4 + 24 * n) bytes) entries
entries-front [] n bytes few h = tt
entries-front (e ∷ entries) n bytes few h = (h.0, h.1, begins-front (span (cuts_of h.0)) (4 + 24 * n) bytes (spelled-short h.0 (e ∷ entries) n h.1 few) h.2)

entries-whole : (entries : List Entry) (n : ℕ) (bytes : List ℕ) → length entries ≤ 2 * n → HoldsEntries (take (4 + 24 * n) bytes) entries → HoldsEntries bytes entries
entries-whole [] n bytes few h = tt
entries-whole (e ∷ entries) n bytes few h = (h.0, h.1, begins-whole (span (cuts_of h.0)) (4 + 24 * n) bytes (spelled-short h.0 (e ∷ entries) n h.1 few) h.2)

pub front-holds : FrontHolds
front-holds bytes n counted sizes counts =
    let few = λ (long : length counts ≡ n). let h : length (entries_of sizes counts) ≤ 2 * n = omega (arith, entries-count sizes counts, long) in h in
    let all : 12 + 24 * n ≡ 8 + (4 + 24 * n) = omega arith in
    let rest : drop 8 (take (12 + 24 * n) bytes) ≡ take (4 + 24 * n) (drop 8 bytes) = ap (λ k. drop 8 (take k bytes)) all ∙ drop-take 8 (4 + 24 * n) bytes in
    let at = λ (k : ℕ) (h : k + 4 ≤ 8). number_at-take 4 k (12 + 24 * n) bytes (omega (arith, h)) in (
      λ h. record {
        long = omega (arith, length-take (12 + 24 * n) bytes, h.long);
        version = at 0 (lit≤ tt) ∙ h.version;
        number = at 4 (lit≤ tt) ∙ h.number;
        byte_counts = h.byte_counts;
        point_counts = h.point_counts;
        coded = subst (λ (bs : List ℕ). HoldsEntries bs (entries_of sizes counts)) (sym rest) (entries-front (entries_of sizes counts) n (drop 8 bytes) (few h.byte_counts) h.coded);
      },
      λ h. record {
        long = omega (arith, length-take (12 + 24 * n) bytes, h.long);
        version = sym (at 0 (lit≤ tt)) ∙ h.version;
        number = sym (at 4 (lit≤ tt)) ∙ h.number;
        byte_counts = h.byte_counts;
        point_counts = h.point_counts;
        coded = entries-whole (entries_of sizes counts) n (drop 8 bytes) (few h.byte_counts) (subst (λ (bs : List ℕ). HoldsEntries bs (entries_of sizes counts)) rest h.coded);
      },
    )

-- ---- at most one pair of lists is held
entry-lawful : (l : Latest) (events : List Event) (e : Entry) → SpellsEntry l events e → AreRanged sizes events
entry-lawful l events e h = int-ranged sizes table_use 32 (context_of e.counts_points) _ _ h.width events sizes-are (lit≤ tt) (lit≤ tt) h.spells

one-entries : (counted : Bool) (bytes : List ℕ) (ds es : List Entry) → IsBytes bytes → AreInTurn counted counted ds → AreInTurn counted counted es → length ds ≡ length es → HoldsEntries bytes ds → HoldsEntries bytes es → ds ≡ es
one-entries counted bytes [] [] are t u long h k = refl
one-entries counted bytes [] (e ∷ es) are t u long h k = absurd (omega (arith, long))
one-entries counted bytes (d ∷ ds) [] are t u long h k = absurd (omega (arith, long))
one-entries counted bytes (d ∷ ds) (e ∷ es) are t u long h k =
    one-table sizes bytes are entry-lawful entries-ranged counted counted no_entry [] h.0 k.0 (d ∷ ds) (e ∷ es) t u long tt h.1 k.1 h.2 k.2

pub one-held : IsOnlyOne
one-held bytes n counted s c t d are h k =
    let f : AreLists counted n s c = record { point_counts = h.point_counts; byte_counts = h.byte_counts } in
    let g : AreLists counted n t d = record { point_counts = k.point_counts; byte_counts = k.byte_counts } in
    lists-back counted n s c t d f g
    (one-entries counted (drop 8 bytes) (entries_of s c) (entries_of t d) (IsBytes-drop 8 bytes are) (lists-turn counted n s c f) (lists-turn counted n t d g) (lists-length counted n s c f ∙ sym (lists-length counted n t d g)) h.coded k.coded)
