-- Taps that see records, some after others.
use Rattle.std.proofs.Common.{◌≡◌, ℕ, ◌+◌, ◌/◌, ◌%◌, ◌^◌, ◌<◌, ◌≤◌, List, [], ◌∷◌, ◌++◌, length, map, sym, ◌∙◌, ap, subst, arith}
use Rattle.std.specs.Prelude.{All}
use Rattle.std.proofs.lemmas.List.Elements.{All-head, All-tail, All-cons, All-nil}
use Rattle.las_header.specs.Plain.{cut_all}
use Rattle.las_header.proofs.Public.{cut_none, cut_length}
use Rattle.las_info.specs.Tallies.{TapSeen, count_at, shown_all}
use Rattle.las_info.proofs.Public.{shown-few, all_seen, mapped, none_taps, taps-both}
use Rattle.laz_writer.proofs.Public.{cut-append}
use Rattle.las_convert.specs.Adding.{HaveCounted}

-- taps that saw the records of these bytes
abbrev pub seen_by : (size : ℕ) → (bytes : List ℕ) → List TapSeen → List TapSeen
seen_by size bytes taps = map (λ tap. shown_all tap (cut_all size bytes)) taps

pub shown_none : (size : ℕ) (taps : List TapSeen) → 0 < size → taps ≡ seen_by size [] taps
shown_none size taps some = none_taps taps ∙ ap (λ (rs : List (List ℕ)). map (λ tap. shown_all tap rs) taps) (sym (cut_none size some))

pub shown_then : (size : ℕ) (xs ys : List ℕ) (taps seen last : List TapSeen) → 0 < size → length xs % size ≡ 0 → seen ≡ seen_by size xs taps → last ≡ seen_by size ys seen → last ≡ seen_by size (xs ++ ys) taps
shown_then size xs ys taps seen last some even one two =
    two
    ∙ ap (seen_by size ys) one
    ∙ taps-both taps (cut_all size xs) (cut_all size ys)
    ∙ ap (λ (rs : List (List ℕ)). map (λ tap. shown_all tap rs) taps) (sym (cut-append size xs ys some even))

-- taps as a function sees them
pub shown_as : {X : Type 0} (f : X → TapSeen) (size : ℕ) (bytes : List ℕ) (xs : List X) (seen : List TapSeen) → seen ≡ map (λ x. shown_all (f x) (cut_all size bytes)) xs → seen ≡ seen_by size bytes (map f xs)
shown_as f size bytes xs seen is = is ∙ mapped f (cut_all size bytes) xs

-- ---- how many were counted

few_seen : (n m : ℕ) (records : List (List ℕ)) (taps : List TapSeen) → n + length records ≤ m → HaveCounted n taps → HaveCounted m (map (λ tap. shown_all tap records) taps)
few_seen n m records [] less few = All-nil (λ (tap : TapSeen). (bin : ℕ) → count_at tap.tally bin ≤ 2 ^ 63 + m)
few_seen n m records (t ∷ taps) less few =
    All-cons (λ (tap : TapSeen). (bin : ℕ) → count_at tap.tally bin ≤ 2 ^ 63 + m) (shown_all t records) (map (λ tap. shown_all tap records) taps)
    (λ bin. omega (arith, less, shown-few t records bin (2 ^ 63 + n) (All-head (λ (tap : TapSeen). (bin : ℕ) → count_at tap.tally bin ≤ 2 ^ 63 + n) t taps few)))
    (few_seen n m records taps less (All-tail (λ (tap : TapSeen). (bin : ℕ) → count_at tap.tally bin ≤ 2 ^ 63 + n) t taps few))

pub counted_more : (n m size : ℕ) (bytes : List ℕ) (taps seen : List TapSeen) → n + length bytes / size ≤ m → seen ≡ seen_by size bytes taps → HaveCounted n taps → HaveCounted m seen
counted_more n m size bytes taps seen less is few =
    subst (HaveCounted m) (sym is) (few_seen n m (cut_all size bytes) taps (omega (arith, less, cut_length size (length bytes / size) bytes)) few)

more_room : (n k : ℕ) (taps : List TapSeen) → n + k < 2 ^ 63 → HaveCounted n taps → All (λ tap. (bin : ℕ) → count_at tap.tally bin + k < 2 ^ 64) taps
more_room n k [] less few = All-nil (λ (tap : TapSeen). (bin : ℕ) → count_at tap.tally bin + k < 2 ^ 64)
more_room n k (t ∷ taps) less few =
    All-cons (λ (tap : TapSeen). (bin : ℕ) → count_at tap.tally bin + k < 2 ^ 64) t taps
    (λ bin. omega (arith, less, All-head (λ (tap : TapSeen). (bin : ℕ) → count_at tap.tally bin ≤ 2 ^ 63 + n) t taps few bin))
    (more_room n k taps less (All-tail (λ (tap : TapSeen). (bin : ℕ) → count_at tap.tally bin ≤ 2 ^ 63 + n) t taps few))

pub room_seen : {X : Type 0} (f : X → TapSeen) (xs : List X) (n k : ℕ) → n + k < 2 ^ 63 → HaveCounted n (map f xs) → All (λ x. (bin : ℕ) → count_at (f x).tally bin + k < 2 ^ 64) xs
room_seen f xs n k less few = all_seen f (λ (tap : TapSeen). (bin : ℕ) → count_at tap.tally bin + k < 2 ^ 64) xs (more_room n k (map f xs) less few)

pub none_counted : {X : Type 0} (f : X → TapSeen) (xs : List X) → All (λ x. (bin : ℕ) → count_at (f x).tally bin ≤ 2 ^ 63) xs → HaveCounted 0 (map f xs)
none_counted f [] all = All-nil (λ (tap : TapSeen). (bin : ℕ) → count_at tap.tally bin ≤ 2 ^ 63 + 0)
none_counted f (x ∷ xs) all =
    All-cons (λ (tap : TapSeen). (bin : ℕ) → count_at tap.tally bin ≤ 2 ^ 63 + 0) (f x) (map f xs)
    (λ bin. omega (arith, All-head (λ x. (bin : ℕ) → count_at (f x).tally bin ≤ 2 ^ 63) x xs all bin))
    (none_counted f xs (All-tail (λ x. (bin : ℕ) → count_at (f x).tally bin ≤ 2 ^ 63) x xs all))
