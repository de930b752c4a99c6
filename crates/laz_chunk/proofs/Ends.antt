-- Records that bytes hold, as what is read.
use Rattle.std.proofs.Common.{◌≡◌, ℕ, zero, suc, ◌+◌, ◌*◌, ◌-◌, ◌/◌, ◌%◌, ◌≤◌, List, [], ◌∷◌, ◌++◌, length, take, drop, refl, sym, ap, subst, ◌∙◌, arith, length-append}
use Rattle.std.proofs.lemmas.List.{drop_at, length-drop, length-take-le, take_at}
use Rattle.std.proofs.Math.Nat.{div-add-mod}
use Rattle.std.proofs.lemmas.Nat.{div-mul-add}
use Rattle.laz_range.specs.Cut.{Cut, AreCuts}
use Rattle.laz_range.specs.Span.{Begins, Fits, IsBytes, span}
use Rattle.laz_range.specs.Choice.{AllAsked, AreAsked, all_cuts}
use Rattle.laz_range.specs.Decoding.{Decoding, HasRead, Refuses, Takes}
use Rattle.laz_range.proofs.Public.{IsBytes-drop, none-fits, one-fits, read-fits, unopened-fits}
use Rattle.laz_chunk.specs.Layouts.{Layout, record_length}
use Rattle.laz_chunk.specs.Records.{Record, record_at, records_in}
use Rattle.laz_chunk.specs.Chunks.{AreRecords, Holds, IsSpelled, Spelling, count_of, first_of, further, grown, initial_history, record_cuts, spelled_records}
use Rattle.laz_chunk.proofs.Fields.{records-one}
use Rattle.laz_integer.proofs.Public.{by-parts}
use Rattle.laz_chunk.proofs.Lawful.{AreCuts-asked, cuts-joined}

pub count-is : (l : Layout) (count : ℕ) (records : List ℕ) → length records ≡ record_length l * count → count_of l records ≡ count
count-is l count records e =
    let m : ℕ = record_length l in
    let same : length records ≡ count * m + 0 = omega (arith, e) in
    ap (λ (n : ℕ). n / m) same ∙ div-mul-add count m 0 (omega arith)

pub length-records : (l : Layout) (n : ℕ) (a : List ℕ) → length (records_in l n a) ≡ n
length-records l zero a = refl
length-records l (suc n) a = omega (arith, length-records l n (drop (record_length l) a))

pub length-spelled : (xs : List Spelling) → length (spelled_records xs) ≡ length xs
length-spelled [] = refl
length-spelled (x ∷ xs) = omega (arith, length-spelled xs)

-- ---- the stream of a chunk
pub record Streamed (l : Layout) (first : Record) (n : ℕ) (bytes rest : List ℕ) : Type 0 where
  pub xs : List Spelling
  pub asked : AreAsked grown (IsSpelled l) (initial_history first) n xs
  pub are : spelled_records xs ≡ records_in l n rest
  pub fits : Fits (span (all_cuts grown record_cuts (initial_history first) xs)) bytes

pub streamed : (l : Layout) (count : ℕ) (bytes records : List ℕ) → AreRecords l count records → Holds l bytes records → Streamed l (first_of l bytes) (count - 1) (drop (record_length l) bytes) (drop (record_length l) records)
streamed l count bytes records are h =
    let m : ℕ = record_length l in
    let firsts : first_of l records ≡ first_of l bytes = ap (record_at l) (sym h.first) in
    let points : further l records ≡ records_in l (count - 1) (drop m records) = ap (λ (n : ℕ). records_in l (n - 1) (drop m records)) (count-is l count records are.length) in
    let same : spelled_records h.spellings ≡ records_in l (count - 1) (drop m records) = h.are ∙ points in
    let long : length h.spellings ≡ count - 1 = sym (length-spelled h.spellings) ∙ (ap length same ∙ length-records l (count - 1) (drop m records)) in
    record {
      xs = h.spellings;
      asked = (long, subst (λ (r : Record). AllAsked grown (IsSpelled l) (initial_history r) h.spellings) firsts h.spell);
      are = same;
      fits = subst (λ (cs : List Cut). Fits (span cs) (drop m bytes)) (sym (cuts-joined (initial_history (first_of l bytes)) h.spellings)) h.fits;
    }

all-cut : (l : Layout) (first : Record) (n : ℕ) (ys : List Spelling) → AreAsked grown (IsSpelled l) (initial_history first) n ys → AreCuts (all_cuts grown record_cuts (initial_history first) ys)
all-cut l first n ys asked = AreCuts-asked l (initial_history first) ys tt asked.1

-- no decoder
pub none-opened : (l : Layout) (first : Record) (n : ℕ) (bytes rest : List ℕ) → ((events : List Cut) → AreCuts events → Begins (span events) bytes → ⊥) → Streamed l first n bytes rest → ⊥
none-opened l first n bytes rest none s = unopened-fits bytes (all_cuts grown record_cuts (initial_history first) s.xs) none (all-cut l first n s.xs s.asked) s.fits

-- none read
pub none-read : (l : Layout) (first : Record) (n : ℕ) (d e : Decoding) (rest : List ℕ) → HasRead [] d
    → Refuses (AreAsked grown (IsSpelled l) (initial_history first) n) (all_cuts grown record_cuts (initial_history first)) d e → Streamed l first n d.bytes rest → ⊥
none-read l first n d e rest read none s = none-fits (AreAsked grown (IsSpelled l) (initial_history first) n) (all_cuts grown record_cuts (initial_history first)) d e (all-cut l first n) read none s.xs s.asked s.fits

-- those that were read
pub one-read : (l : Layout) (first : Record) (n : ℕ) (d e : Decoding) (xs : List Spelling) (rest : List ℕ) → HasRead [] d
    → Takes (AreAsked grown (IsSpelled l) (initial_history first) n) (all_cuts grown record_cuts (initial_history first)) d e xs → Streamed l first n d.bytes rest
    → (records_in l n rest ≡ spelled_records xs) × (e.taken ≡ length e.bytes)
one-read l first n d e xs rest read takes s =
    let one = one-fits (AreAsked grown (IsSpelled l) (initial_history first) n) (all_cuts grown record_cuts (initial_history first)) d e xs (all-cut l first n) read takes s.xs s.asked s.fits in
    (sym s.are ∙ ap spelled_records one.0, one.1)

pub read-streamed : (l : Layout) (first : Record) (n : ℕ) (d e : Decoding) (xs : List Spelling) (rest : List ℕ) → HasRead [] d
    → Takes (AreAsked grown (IsSpelled l) (initial_history first) n) (all_cuts grown record_cuts (initial_history first)) d e xs → spelled_records xs ≡ records_in l n rest → e.taken ≡ length e.bytes → Streamed l first n d.bytes rest
read-streamed l first n d e xs rest read takes are ends =
    record {
      xs = xs;
      asked = takes.choice.asked;
      are = are;
      fits = read-fits (AreAsked grown (IsSpelled l) (initial_history first) n) (all_cuts grown record_cuts (initial_history first)) d e xs (all-cut l first n) read takes ends;
    }

-- ---- the whole chunk
pub holds-made : (l : Layout) (count : ℕ) (bytes front rest : List ℕ) → 1 ≤ count → record_length l ≤ length bytes → front ≡ take (record_length l) bytes → length (front ++ rest) ≡ record_length l * count
    → Streamed l (first_of l bytes) (count - 1) (drop (record_length l) bytes) rest → Holds l bytes (front ++ rest)
holds-made l count bytes front rest some enough is all s =
    let m : ℕ = record_length l in
    let size : length front ≡ m = ap length is ∙ length-take-le m bytes enough in
    let first : take m (front ++ rest) ≡ take m bytes = take_at front rest m size ∙ is in
    let others : drop m (front ++ rest) ≡ rest = drop_at front rest m size in
    let points : further l (front ++ rest) ≡ records_in l (count - 1) rest = ap (λ (n : ℕ). records_in l (n - 1) (drop m (front ++ rest))) (count-is l count (front ++ rest) all) ∙ ap (records_in l (count - 1)) others in
    record {
      enough = enough;
      first = sym first;
      spellings = s.xs;
      spell = subst (λ (r : Record). AllAsked grown (IsSpelled l) (initial_history r) s.xs) (ap (record_at l) (sym first)) s.asked.1;
      are = s.are ∙ sym points;
      fits = subst (λ (cs : List Cut). Fits (span cs) (drop m bytes)) (cuts-joined (initial_history (first_of l bytes)) s.xs) s.fits;
    }

pub less-one : (m count : ℕ) → 1 ≤ count → m * count ≡ m + m * (count - 1)
less-one m zero some = absurd (omega (arith, some))
less-one m (suc count) some = let e : suc count - 1 ≡ count = omega arith in rw e (omega arith)

pub only-made : (l : Layout) (count : ℕ) (bytes records front rest : List ℕ) → 1 ≤ count → AreRecords l count records → record_length l ≤ length bytes → front ≡ take (record_length l) bytes → take (record_length l) bytes ≡ take (record_length l) records
    → length (front ++ rest) ≡ record_length l * count → IsBytes (front ++ rest) → records_in l (count - 1) (drop (record_length l) records) ≡ records_in l (count - 1) rest → records ≡ front ++ rest
only-made l count bytes records front rest some are enough is first all small same =
    let m : ℕ = record_length l in
    let step = less-one m count some in
    let size : length front ≡ m = ap length is ∙ length-take-le m bytes enough in
    let others : drop m (front ++ rest) ≡ rest = drop_at front rest m size in
    let here : take m (front ++ rest) ≡ take m bytes = take_at front rest m size ∙ is in
    let small_rest : IsBytes rest = subst IsBytes others (IsBytes-drop m (front ++ rest) small) in
    let rests : drop m records ≡ rest = records-one l (count - 1) (drop m records) rest (omega (arith, length-drop m records, are.length, step)) (omega (arith, length-append front rest, size, all, step)) (IsBytes-drop m records are.bytes) small_rest same in
    by-parts m records (front ++ rest) (sym first ∙ sym here) (rests ∙ sym others)

-- whole records, one at least
some-count : (m q n : ℕ) → 1 ≤ m → m ≤ n → n ≡ m * q → 1 ≤ q
some-count m zero n some few e = absurd (omega (arith, some, few, e))
some-count m (suc q) n some few e = omega arith

pub record WholeRecords (l : Layout) (records : List ℕ) : Type 0 where
  pub all : length records ≡ record_length l * count_of l records
  pub some : 1 ≤ count_of l records
  pub further : length records - record_length l ≡ record_length l * (count_of l records - 1)

pub whole-records : (l : Layout) (records : List ℕ) → record_length l ≤ length records → length records % record_length l ≡ 0 → WholeRecords l records
whole-records l records least whole =
    let m : ℕ = record_length l in
    let q : ℕ = count_of l records in
    let all : length records ≡ m * q = omega (arith, div-add-mod (length records) m, whole) in
    let some : 1 ≤ q = some-count m q (length records) (omega arith) least all in
    record { all = all; some = some; further = omega (arith, all, less-one m q some) }
