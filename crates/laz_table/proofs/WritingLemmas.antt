-- Tables written entry by entry.
use Rattle.std.proofs.Common.{◌≡◌, ℕ, ℤ, ◌+◌, ◌<◌, ◌≤◌, Bool, true, false, List, [], ◌∷◌, ◌++◌, length, take, get_or, refl, sym, ap, subst, ◌∙◌, arith, append_assoc, add-one, eqb}
use Rattle.std.proofs.lemmas.List.{append-nil, length-take-le, take_all, take-append-le}
use Rattle.std.proofs.Math.Seq.{take-suc}
use Rattle.std.specs.Int.{w32, cast_signed, cast_unsigned}
use Rattle.std.proofs.lemmas.Int.{of_z-to_z}
use Rattle.laz_range.specs.Cut.{Cut}
use Rattle.byteorder.specs.Endian.{little_bytes}
use Rattle.laz_range.specs.Coding.{Coding, Codes}
use Rattle.laz_range.specs.Span.{after, bytes_of, initial_span, span}
use Rattle.laz_range.proofs.Public.{Codes-append}
use Rattle.laz_integer.specs.Corrector.{HasBits}
use Rattle.laz_integer.specs.Events.{Event, cuts_after, cuts_of}
use Rattle.laz_integer.specs.Integer.{IntEvents, IntStands, IntState}
use Rattle.laz_integer.proofs.Public.{cuts_after-append}
use Rattle.laz_table.specs.Entries.{Entry, Latest, after_entry, bytes_entry, context_of, points_entry, entries_of, entry_events, events_of, no_entry, number_events, signed, table_use}
use Rattle.laz_table.specs.Table.{stream_of, table_bytes}
use Rattle.laz_table.specs.Steps.{Written, latest_after}

-- ---- lists with one more entry
pub events_of-push : (l : Latest) (entries : List Entry) (e : Entry) → events_of l (entries ++ e ∷ []) ≡ events_of l entries ++ entry_events (latest_after l entries) e
events_of-push l [] e = append-nil (entry_events l e)
events_of-push l (x ∷ entries) e =
    ap (λ es. entry_events l x ++ es) (events_of-push (after_entry l x) entries e)
    ∙ sym (append_assoc (entry_events l x) (events_of (after_entry l x) entries) (entry_events (latest_after (after_entry l x) entries) e))

pub latest_after-push : (l : Latest) (entries : List Entry) (e : Entry) → latest_after l (entries ++ e ∷ []) ≡ after_entry (latest_after l entries) e
latest_after-push l [] e = refl
latest_after-push l (x ∷ entries) e = latest_after-push (after_entry l x) entries e

pub fixed-push : (counts : List ℕ) (c : ℕ) → entries_of [] (counts ++ c ∷ []) ≡ entries_of [] counts ++ bytes_entry c ∷ []
fixed-push [] c = refl
fixed-push (x ∷ counts) c = ap (λ es. bytes_entry x ∷ es) (fixed-push counts c)

pub counted-push : (sizes counts : List ℕ) (s c : ℕ) → length sizes ≡ length counts → entries_of (sizes ++ s ∷ []) (counts ++ c ∷ []) ≡ (entries_of sizes counts ++ points_entry s ∷ []) ++ bytes_entry c ∷ []
counted-push [] [] s c e = refl
counted-push [] (y ∷ counts) s c e = absurd (omega (arith, e))
counted-push (x ∷ sizes) [] s c e = absurd (omega (arith, e))
counted-push (x ∷ sizes) (y ∷ counts) s c e = ap (λ es. points_entry x ∷ bytes_entry y ∷ es) (counted-push sizes counts s c (omega (arith, e)))

-- ---- one more entry was written

pub Written-push : (start a b : Coding) (st next : IntState) (l : Latest) (entries : List Entry) (e : Entry) → Written start a st l entries
    → ((earlier : List Event) → IntStands table_use earlier st → Codes a b (cuts_after earlier (entry_events l e)))
    → ((earlier : List Event) → IntStands table_use earlier st → IntStands table_use (earlier ++ entry_events l e) next)
    → Written start b next (after_entry l e) (entries ++ e ∷ [])
Written-push start a b st next l entries e w codes stands =
    let earlier = events_of no_entry entries in
    let all : events_of no_entry (entries ++ e ∷ []) ≡ earlier ++ entry_events l e = events_of-push no_entry entries e ∙ ap (λ n. earlier ++ entry_events n e) (sym w.numbers) in
    let cuts : cuts_of (events_of no_entry (entries ++ e ∷ [])) ≡ cuts_of earlier ++ cuts_after earlier (entry_events l e) = ap cuts_of all ∙ cuts_after-append [] earlier (entry_events l e) in
    record {
      codes = subst (λ (cs : List Cut). Codes start b cs) (sym cuts) (Codes-append start a b (cuts_of earlier) (cuts_after earlier (entry_events l e)) w.codes (codes earlier w.stands));
      stands = subst (λ (es : List Event). IntStands table_use es next) (sym all) (stands earlier w.stands);
      numbers = ap (λ n. after_entry n e) w.numbers ∙ sym (latest_after-push no_entry entries e);
    }

-- ---- numbers of 32 bits as integers
pub signed-bits : (n : ℕ) → n < 4294967296 → HasBits 32 (signed n)
signed-bits n h = omega (arith, of_z-to_z w32 n h)

pub same-events : (bits ctx : ℕ) (p r : ℤ) (b : Bool) (before number : ℕ) → bits ≡ 32 → ctx ≡ context_of b → p ≡ signed before → r ≡ signed number → IntEvents table_use bits ctx p r ≡ number_events b before number
same-events bits ctx p r b before number e f g h =
    ap (λ n. IntEvents table_use n ctx p r) e
    ∙ (ap (λ n. IntEvents table_use 32 n p r) f ∙ (ap (λ z. IntEvents table_use 32 (context_of b) z r) g ∙ ap (λ z. IntEvents table_use 32 (context_of b) (signed before) z) h))

-- ---- one more number of a list
pub take-more : (xs : List ℕ) (i : ℕ) → i < length xs → take (i + 1) xs ≡ take i xs ++ get_or xs i 0 ∷ []
take-more xs i h = subst (λ (k : ℕ). take k xs ≡ take i xs ++ get_or xs i 0 ∷ []) (sym (add-one i)) (take-suc xs i 0 h)

pub fixed-more : (counts : List ℕ) (i : ℕ) → i < length counts → entries_of [] (take i counts) ++ bytes_entry (get_or counts i 0) ∷ [] ≡ entries_of [] (take (i + 1) counts)
fixed-more counts i h = sym (ap (λ l. entries_of [] l) (take-more counts i h) ∙ fixed-push (take i counts) (get_or counts i 0))

pub counted-more : (sizes counts : List ℕ) (i : ℕ) → length sizes ≡ length counts → i < length counts
    → (entries_of (take i sizes) (take i counts) ++ points_entry (get_or sizes i 0) ∷ []) ++ bytes_entry (get_or counts i 0) ∷ [] ≡ entries_of (take (i + 1) sizes) (take (i + 1) counts)
counted-more sizes counts i same h =
    let within : i < length sizes = omega (arith, same, h) in
    let long : length (take i sizes) ≡ length (take i counts) = length-take-le i sizes (omega (arith, within)) ∙ sym (length-take-le i counts (omega (arith, h))) in
    sym (ap (λ l. entries_of l (take (i + 1) counts)) (take-more sizes i within) ∙ ap (λ l. entries_of (take i sizes ++ get_or sizes i 0 ∷ []) l) (take-more counts i h)
    ∙ counted-push (take i sizes) (take i counts) (get_or sizes i 0) (get_or counts i 0) long)

-- ---- a whole table
pub fixed-some : (counts : List ℕ) → 0 < length counts → 0 < length (entries_of [] counts)
fixed-some [] h = h
fixed-some (c ∷ counts) h = omega arith

pub counted-some : (sizes counts : List ℕ) → length sizes ≡ length counts → 0 < length counts → 0 < length (entries_of sizes counts)
counted-some [] counts e h = absurd (omega (arith, e, h))
counted-some (s ∷ sizes) [] e h = h
counted-some (s ∷ sizes) (c ∷ counts) e h = omega arith

stream-some : (entries : List Entry) → 0 < length entries → stream_of entries ≡ bytes_of (span (cuts_of (events_of no_entry entries)))
stream-some [] h = absurd (omega (arith, h))
stream-some (e ∷ entries) h = refl

pub table-written : (sizes counts start table : List ℕ) (a b : Coding) → 0 < length (entries_of sizes counts) → start ≡ little_bytes 4 0 ++ little_bytes 4 (length counts) → a.before ≡ start → a.span ≡ initial_span
    → Codes a b (cuts_of (events_of no_entry (entries_of sizes counts))) → table ≡ b.before ++ bytes_of b.span → table ≡ table_bytes sizes counts
table-written sizes counts start table a b some is before at codes made =
    let cuts = cuts_of (events_of no_entry (entries_of sizes counts)) in
    let front : b.before ≡ little_bytes 4 0 ++ little_bytes 4 (length counts) = codes.before ∙ before ∙ is in
    let stream : bytes_of b.span ≡ stream_of (entries_of sizes counts) = ap bytes_of (codes.span ∙ ap (λ s. after s cuts) at) ∙ sym (stream-some (entries_of sizes counts) some) in
    made ∙ (ap (λ l. l ++ bytes_of b.span) front ∙ ap (λ l. (little_bytes 4 0 ++ little_bytes 4 (length counts)) ++ l) stream)

pub before-is : (start room rest before : List ℕ) (n : ℕ) → length start ≡ 8 → 8 ≤ n → room ≡ take n start ++ rest → before ≡ take 8 room → before ≡ start
before-is start room rest before n long more is front =
    let whole : take n start ≡ start = take_all n start (omega (arith, long, more)) in
    let all : room ≡ start ++ rest = is ∙ ap (λ l. l ++ rest) whole in
    front ∙ (ap (λ l. take 8 l) all ∙ (take-append-le 8 start rest (omega (arith, long)) ∙ take_all 8 start (omega (arith, long))))

-- an integer that was passed on
pub passed-is : (z : ℤ) (n : ℕ) → n < 4294967296 → z ≡ signed n → cast_signed w32 (cast_unsigned w32 z) ≡ signed n
passed-is z n h e = ap (λ x. cast_signed w32 (cast_unsigned w32 x)) e ∙ ap (cast_signed w32) (of_z-to_z w32 n h)

pub not-empty : (xs : List ℕ) → eqb (length xs) 0 ≡ false → 0 < length xs
not-empty [] e = absurd (let f : true ≡ false = e in cc)
not-empty (x ∷ xs) e = omega arith
