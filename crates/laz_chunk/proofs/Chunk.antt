-- A whole chunk, as it is packed and unpacked.
use Rattle.std.proofs.Common.{◌≡◌, ℕ, ◌+◌, ◌*◌, ◌-◌, ◌≤◌, List, [], ◌++◌, length, take, drop, sym, ap, subst, ◌∙◌}
use Rattle.std.proofs.lemmas.List.{length-take-le}
use Rattle.laz_range.specs.Coding.{Coding, CodesInSteps}
use Rattle.laz_range.specs.Choice.{AreAsked, all_cuts}
use Rattle.laz_range.specs.Decoding.{Decoding, HasRead, Refuses, Takes}
use Rattle.laz_range.specs.Span.{Begins, IsBytes, Span, after, bytes_of, span}
use Rattle.laz_range.specs.Cut.{Cut, AreCuts}
use Rattle.laz_range.proofs.Public.{IsBytes-take}
use Rattle.laz_integer.specs.Events.{cuts_of}
use Rattle.laz_chunk.specs.declared.items.Items.{Items}
use Rattle.laz_chunk.specs.Layouts.{Layout, record_length}
use Rattle.laz_chunk.specs.Records.{record_at, records_in}
use Rattle.laz_chunk.specs.Stands.{AreChunkPoints, ItemsStand, StandSometime, layout_in}
use Rattle.laz_chunk.specs.Chunks.{AreRecords, History, Holds, IsSpelled, Spelling, chunk_bytes, count_of, first_of, further, grown, initial_history, joined, record_cuts, spelled_records, written}
use Rattle.laz_chunk.proofs.Ends.{Streamed, holds-made, none-opened, none-read, one-read, only-made, read-streamed, streamed}
use Rattle.laz_chunk.proofs.Lawful.{cuts-joined}
use Rattle.laz_chunk.proofs.Written.{points-first}
use Rattle.laz_integer.proofs.Public.{two_lists}

-- The items stand for a first record.
abbrev pub Started : Layout → List ℕ → Items → Type 0
Started l bytes items = let h = initial_history (record_at l bytes) in ItemsStand h.0 h.1 items

pub started : (k l : Layout) (a b : List ℕ) (items : Items) → k ≡ l → a ≡ b → Started k a items → Started l b items
started k l a b items e f h = subst (λ (b : List ℕ). Started l b items) f (subst (λ (l : Layout). Started l a items) e h)

-- ---- unpacking
-- What the loop over records answers, if it reads.
abbrev pub Took : Layout → ℕ → Items → List ℕ → Decoding → Decoding → Type 0
Took l n items rest a b =
    (h : History) → ItemsStand h.0 h.1 items → (xs : List Spelling) × Takes (AreAsked grown (IsSpelled l) h n) (all_cuts grown record_cuts h) a b xs × (spelled_records xs ≡ records_in l n rest)

abbrev pub Refused : Layout → ℕ → Items → Decoding → Decoding → Type 0
Refused l n items a b = (h : History) → ItemsStand h.0 h.1 items → Refuses (AreAsked grown (IsSpelled l) h n) (all_cuts grown record_cuts h) a b

stream-of : (l : Layout) (count : ℕ) (bytes records stream : List ℕ) → stream ≡ drop (record_length l) bytes → AreRecords l count records → Holds l bytes records → Streamed l (first_of l bytes) (count - 1) stream (drop (record_length l) records)
stream-of l count bytes records stream e are h = subst (λ (b : List ℕ). Streamed l (first_of l bytes) (count - 1) b (drop (record_length l) records)) (sym e) (streamed l count bytes records are h)

pub opening-bad : (l : Layout) (count : ℕ) (bytes records stream : List ℕ) → stream ≡ drop (record_length l) bytes → ((events : List Cut) → AreCuts events → Begins (span events) stream → ⊥) → AreRecords l count records → Holds l bytes records → ⊥
opening-bad l count bytes records stream e none are h = none-opened l (first_of l bytes) (count - 1) stream (drop (record_length l) records) none (stream-of l count bytes records stream e are h)

pub reading-bad : (l : Layout) (count : ℕ) (bytes records : List ℕ) (items : Items) (a b : Decoding) → a.bytes ≡ drop (record_length l) bytes → HasRead [] a → Started l (take (record_length l) bytes) items → Refused l (count - 1) items a b
    → AreRecords l count records → Holds l bytes records → ⊥
reading-bad l count bytes records items a b e read s none are h =
    none-read l (first_of l bytes) (count - 1) a b (drop (record_length l) records) read (none (initial_history (first_of l bytes)) s) (stream-of l count bytes records a.bytes e are h)

pub ending-bad : (l : Layout) (count : ℕ) (bytes records rest : List ℕ) (items : Items) (a b : Decoding) → a.bytes ≡ drop (record_length l) bytes → HasRead [] a → Started l (take (record_length l) bytes) items → Took l (count - 1) items rest a b
    → AreRecords l count records → Holds l bytes records → b.taken ≡ length b.bytes
ending-bad l count bytes records rest items a b e read s took are h =
    let t = took (initial_history (first_of l bytes)) s in
    (one-read l (first_of l bytes) (count - 1) a b t.0 (drop (record_length l) records) read t.1 (stream-of l count bytes records a.bytes e are h)).1

pub unpacked-holds : (l : Layout) (count : ℕ) (bytes front rest : List ℕ) (items : Items) (a b : Decoding) → 1 ≤ count → record_length l ≤ length bytes → front ≡ take (record_length l) bytes → length (front ++ rest) ≡ record_length l * count
    → a.bytes ≡ drop (record_length l) bytes → HasRead [] a → Started l (take (record_length l) bytes) items → Took l (count - 1) items rest a b → b.taken ≡ length b.bytes → Holds l bytes (front ++ rest)
unpacked-holds l count bytes front rest items a b some enough is all e read s took ends =
    let t = took (initial_history (first_of l bytes)) s in
    holds-made l count bytes front rest some enough is all
    (subst (λ (c : List ℕ). Streamed l (first_of l bytes) (count - 1) c rest) e (read-streamed l (first_of l bytes) (count - 1) a b t.0 rest read t.1 t.2 ends))

pub unpacked-only : (l : Layout) (count : ℕ) (bytes records front rest : List ℕ) (items : Items) (a b : Decoding) → 1 ≤ count → record_length l ≤ length bytes → front ≡ take (record_length l) bytes → length (front ++ rest) ≡ record_length l * count
    → IsBytes (front ++ rest) → a.bytes ≡ drop (record_length l) bytes → HasRead [] a → Started l (take (record_length l) bytes) items → Took l (count - 1) items rest a b → AreRecords l count records → Holds l bytes records → records ≡ front ++ rest
unpacked-only l count bytes records front rest items a b some enough is all small e read s took are h =
    let t = took (initial_history (first_of l bytes)) s in
    let one = one-read l (first_of l bytes) (count - 1) a b t.0 (drop (record_length l) records) read t.1 (stream-of l count bytes records a.bytes e are h) in
    only-made l count bytes records front rest some are enough is h.first all small (one.0 ∙ t.2)

-- ---- packing
pub started-sometime : (l : Layout) (bytes : List ℕ) (items : Items) → layout_in items ≡ l → length bytes ≡ record_length l → IsBytes bytes → Started l bytes items → StandSometime items
started-sometime l bytes items e long small s =
    let h : History = initial_history (record_at l bytes) in
    record { history = h; points = subst (λ (k : Layout). AreChunkPoints k.extra h.1) (sym e) (points-first l bytes long small); stand = s }

abbrev pub Put : Layout → ℕ → Items → List ℕ → Coding → Coding → Type 0
Put l n items rest a b = (h : History) → AreChunkPoints l.extra h.1 → ItemsStand h.0 h.1 items → CodesInSteps a b (all_cuts grown record_cuts h (written l h (records_in l n rest)))

pub packed-stream : (l : Layout) (records rest : List ℕ) (items : Items) (a b : Coding) → record_length l ≤ length records → IsBytes records → rest ≡ drop (record_length l) records → Started l (take (record_length l) records) items
    → Put l (count_of l records - 1) items rest a b → CodesInSteps a b (cuts_of (joined (written l (initial_history (first_of l records)) (further l records))))
packed-stream l records rest items a b some small e s put =
    let m : ℕ = record_length l in
    let h : History = initial_history (first_of l records) in
    let fit = points-first l (take m records) (length-take-le m records some) (IsBytes-take m records small) in
    let codes = subst (λ (r : List ℕ). CodesInSteps a b (all_cuts grown record_cuts h (written l h (records_in l (count_of l records - 1) r)))) e (put h fit s) in
    subst (λ (cs : List Cut). CodesInSteps a b cs) (cuts-joined h (written l h (further l records))) codes

pub packed-is : (l : Layout) (records before out : List ℕ) (n size : ℕ) (a b : Coding) → size ≡ record_length l → record_length l ≤ length records → before ≡ take (record_length l) records → take (length before + n) out ≡ before ++ bytes_of b.span
    → a.span ≡ span [] → CodesInSteps a b (cuts_of (joined (written l (initial_history (first_of l records)) (further l records)))) → take (size + n) out ≡ chunk_bytes l records
packed-is l records before out n size a b e some is front initial codes =
    let long : length before ≡ size = ap length is ∙ (length-take-le (record_length l) records some ∙ sym e) in
    let spans : b.span ≡ span (cuts_of (joined (written l (initial_history (first_of l records)) (further l records)))) =
    codes.span ∙ ap (λ (s : Span). after s (cuts_of (joined (written l (initial_history (first_of l records)) (further l records))))) initial in
    ap (λ (k : ℕ). take (k + n) out) (sym long) ∙ (front ∙ two_lists _ _ _ _ is (ap bytes_of spans))
