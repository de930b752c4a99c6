-- The laws of chunks.
use Rattle.std.proofs.Common.{◌≡◌, ℕ, zero, suc, ◌+◌, ◌*◌, ◌-◌, ◌≤◌, List, [], ◌∷◌, ◌++◌, length, take, drop, sym, ap, subst, ◌∙◌, arith, length-append, Bool, if◌then◌else◌}
use Rattle.std.proofs.lemmas.Bool.{ne_eqb}
use Rattle.std.proofs.lemmas.List.{drop_at, length-drop, length-take-le, take_at}
use Rattle.laz_range.specs.Cut.{AreCuts}
use Rattle.laz_range.specs.Span.{Fits, bytes_of, initial_span, span}
use Rattle.laz_range.specs.Choice.{AllAsked}
use Rattle.laz_range.proofs.Public.{after-IsSpan, bytes-fit, initial_span-IsSpan, IsBytes-drop, IsBytes-take, after-few}
use Rattle.laz_integer.specs.Events.{cuts_of}
use Rattle.laz_integer.proofs.Public.{length-cuts, next_suc}
use Rattle.laz_rgb.specs.Items.{latest_extra}
use Rattle.laz_chunk.specs.Layouts.{Layout, most_events, record_length, room_for}
use Rattle.laz_chunk.specs.Records.{Record, extras_of, records_in}
use Rattle.laz_chunk.specs.Chunks.{AreRecords, History, Holds, IsSpelled, Spelling, chunk_bytes, count_of, first_of, further, grown, initial_history, joined, spelled_records, written}
use Rattle.laz_chunk.proofs.Ends.{count-is, length-records, length-spelled, less-one}
use Rattle.laz_chunk.proofs.Fields.{part-lengths}
use Rattle.laz_chunk.proofs.Lawful.{AreCuts-asked, cuts-joined, record-few}
use Rattle.laz_chunk.proofs.Written.{points-first, written-records, written-spelled}

pub chunk-holds : (l : Layout) (count : ℕ) (records : List ℕ) → 1 ≤ count → AreRecords l count records → Holds l (chunk_bytes l records) records
chunk-holds l count records some are =
    let m : ℕ = record_length l in
    let step = less-one m count some in
    let h : History = initial_history (first_of l records) in
    let n : count_of l records ≡ count = count-is l count records are.length in
    let xs : List Spelling = written l h (further l records) in
    let own = length-take-le m records (omega (arith, are.length, step)) in
    let fit = points-first l (take m records) own (IsBytes-take m records are.bytes) in
    let rest : length (drop m records) ≡ m * (count_of l records - 1) = omega (arith, length-drop m records, are.length, step) ∙ ap (λ (k : ℕ). m * (k - 1)) (sym n) in
    let spell = written-spelled l h (count_of l records - 1) (drop m records) fit rest (IsBytes-drop m records are.bytes) in
    let cuts : AreCuts (cuts_of (joined xs)) = subst AreCuts (cuts-joined h xs) (AreCuts-asked l h xs tt spell) in
    let fits : Fits (span (cuts_of (joined xs))) (bytes_of (span (cuts_of (joined xs)))) = bytes-fit (span (cuts_of (joined xs))) (after-IsSpan initial_span (cuts_of (joined xs)) initial_span-IsSpan cuts) in
    let stream : List ℕ = bytes_of (span (cuts_of (joined xs))) in
    let front : take m (take m records ++ stream) ≡ take m records = take_at (take m records) stream m own in
    let back : drop m (take m records ++ stream) ≡ stream = drop_at (take m records) stream m own in
    record {
      enough = omega (arith, length-append (take m records) stream, own);
      first = front;
      spellings = xs;
      spell = spell;
      are = written-records l h (further l records);
      fits = subst (Fits (span (cuts_of (joined xs)))) (sym back) fits;
    }

pub chunk-least : (l : Layout) (bytes records : List ℕ) → Holds l bytes records → record_length l + 4 ≤ length bytes
chunk-least l bytes records h = omega (arith, h.enough, h.fits.length, length-drop (record_length l) bytes)

-- Each record has the layout's number of extra bytes.
abbrev AreLong : Layout → List Record → Type 0
AreLong l [] = Unit {0}
AreLong l (r ∷ rs) = (length r.extra ≡ l.extra) × AreLong l rs

records-long : (l : Layout) (n : ℕ) (a : List ℕ) → length a ≡ record_length l * n → AreLong l (records_in l n a)
records-long l zero a size = tt
records-long l (suc n) a size =
    let m : ℕ = record_length l in
    let step = next_suc n m in
    ((part-lengths l (take m a) (length-take-le m a (omega (arith, size, step)))).extra, records-long l n (drop m a) (omega (arith, size, step, length-drop m a)))

spelled-few : (l : Layout) (h : History) (xs : List Spelling) → length (latest_extra (extras_of h.1)) ≡ l.extra → AreLong l (spelled_records xs) → AllAsked grown (IsSpelled l) h xs → length (joined xs) ≤ most_events l * length xs
spelled-few l h [] size long all = omega arith
spelled-few l h (x ∷ xs) size long all =
    omega (
      arith,
      record-few l h.1 x.0 x.1 size all.0,
      spelled-few l (grown h x) xs long.0 long.1 all.1,
      length-append x.0 (joined xs),
      next_suc (length xs) (most_events l),
    )

pub chunk-most : (l : Layout) (count : ℕ) (bytes records : List ℕ) → 1 ≤ count → length records ≡ record_length l * count → Holds l bytes records → length bytes ≤ room_for l count
chunk-most l count bytes records some size h =
    let m : ℕ = record_length l in
    let step = less-one m count some in
    let n : count_of l records ≡ count = count-is l count records size in
    let first = (part-lengths l (take m records) (length-take-le m records (omega (arith, size, step)))).extra in
    let same : further l records ≡ records_in l (count - 1) (drop m records) = ap (λ (k : ℕ). records_in l (k - 1) (drop m records)) n in
    let long : AreLong l (spelled_records h.spellings) = subst (AreLong l) (sym (h.are ∙ same)) (records-long l (count - 1) (drop m records) (omega (arith, length-drop m records, size, step))) in
    let few = spelled-few l (initial_history (first_of l records)) h.spellings first long h.spell in
    let many : length h.spellings ≡ count - 1 = sym (length-spelled h.spellings) ∙ (ap length (h.are ∙ same) ∙ length-records l (count - 1) (drop m records)) in
    let fewer : length (joined h.spellings) ≤ most_events l * (count - 1) = subst (λ (k : ℕ). length (joined h.spellings) ≤ most_events l * k) many few in
    let shifts = after-few initial_span (cuts_of (joined h.spellings)) in
    let cuts = length-cuts [] (joined h.spellings) in
    let bound : length bytes ≤ record_length l + 4 + 3 * most_events l * (count - 1) = omega (arith, h.enough, h.fits.length, length-drop m bytes, shifts, cuts, fewer) in
    rw (ne_eqb count 0 (λ e. absurd (omega (arith, e, some)))) bound

-- the room for one or more records
pub room_is : (l : Layout) (n : ℕ) → 1 ≤ n → room_for l n ≡ record_length l + 4 + 3 * most_events l * (n - 1)
room_is l n some =
    ap (λ (b : Bool). if b then 0 else record_length l + 4 + 3 * most_events l * (n - 1)) (ne_eqb n 0 (λ e. absurd (omega (arith, e, some))))
