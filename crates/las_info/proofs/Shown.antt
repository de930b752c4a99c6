-- Records that are shown to a survey, block by block.
use Rattle.std.proofs.Common.{◌≡◌, ℕ, ◌+◌, ◌-◌, ◌^◌, ◌<◌, ◌≤◌, List, [], ◌∷◌, ◌++◌, length, map, refl, sym, ◌∙◌, ap, subst, arith}
use Rattle.std.specs.Prelude.{All}
use Rattle.std.proofs.lemmas.List.Elements.{All-head, All-tail, All-cons, All-nil}
use Rattle.las_info.specs.Summaries.{SummarySeen, summary_of}
use Rattle.std.proofs.lemmas.List.{take_all}
use Rattle.las_info.specs.Tallies.{IsShownSome, TapSeen, Tally, count_at, shown_one, shown_all, tally_after, with_one}
use Rattle.las_info.proofs.Counting.{shown-few, shown-more}
use Rattle.las_info.specs.Surveys.{IsShown, SurveySeen}

-- a tap that was shown no record, or all of them
pub shown_none : (records : List (List ℕ)) (tap : TapSeen) → IsShownSome records tap tap
shown_none records tap = (0, refl)

pub shown_whole : (records : List (List ℕ)) (tap : TapSeen) → IsShownSome records tap (shown_all tap records)
shown_whole records tap = (length records, ap (shown_all tap) (sym (take_all (length records) records (omega arith))))

-- a survey that was shown nothing
pub none_taps : (taps : List TapSeen) → taps ≡ map (λ tap. shown_all tap []) taps
none_taps [] = refl
none_taps (t ∷ taps) = ap (λ (xs : List TapSeen). t ∷ xs) (none_taps taps)

pub none_shown : (taps : List TapSeen) (survey : SurveySeen) → survey.summary ≡ summary_of [] → survey.taps ≡ taps → IsShown taps [] survey
none_shown taps survey none same = record { summary = none; taps_are = same ∙ none_taps taps }

-- what holds of all things as a function sees them
pub all_seen : {X Y : Type 0} (f : X → Y) (P : Y → Type 0) (xs : List X) → All P (map f xs) → All (λ x. P (f x)) xs
all_seen f P [] all = All-nil (λ x. P (f x))
all_seen f P (x ∷ xs) all = All-cons (λ x. P (f x)) x xs (All-head P (f x) (map f xs) all) (all_seen f P xs (All-tail P (f x) (map f xs) all))

-- a tap that was shown some records, and then others
pub tally-both : (bin_of : List ℕ → ℕ) (tally : Tally) (some more : List (List ℕ)) → tally_after bin_of (tally_after bin_of tally some) more ≡ tally_after bin_of tally (some ++ more)
tally-both bin_of tally [] more = refl
tally-both bin_of tally (r ∷ some) more = tally-both bin_of (with_one tally (bin_of r)) some more

shown-both : (tap : TapSeen) (some more : List (List ℕ)) → shown_all (shown_all tap some) more ≡ shown_all tap (some ++ more)
shown-both tap some more = ap (λ (t : Tally). record { name = tap.name; bin = tap.bin; tally = t }) (tally-both tap.bin tap.tally some more)

pub taps-both : (taps : List TapSeen) (some more : List (List ℕ)) → map (λ tap. shown_all tap more) (map (λ tap. shown_all tap some) taps) ≡ map (λ tap. shown_all tap (some ++ more)) taps
taps-both [] some more = refl
taps-both (t ∷ taps) some more =
    ap (λ (x : TapSeen). x ∷ map (λ tap. shown_all tap more) (map (λ tap. shown_all tap some) taps)) (shown-both t some more)
    ∙ ap (λ (xs : List TapSeen). shown_all t (some ++ more) ∷ xs) (taps-both taps some more)

-- taps as a function sees them
pub mapped : {X : Type 0} (f : X → TapSeen) (records : List (List ℕ)) (xs : List X) → map (λ x. shown_all (f x) records) xs ≡ map (λ tap. shown_all tap records) (map f xs)
mapped f records [] = refl
mapped f records (x ∷ xs) = ap (λ (ts : List TapSeen). shown_all (f x) records ∷ ts) (mapped f records xs)

-- a survey that was shown the records of a block more
pub block_shown : {X : Type 0} (f : X → TapSeen) (xs : List X) (taps seen : List TapSeen) (before records : List (List ℕ)) (old new : SummarySeen)
    → IsShown taps before (record { summary = old; taps = map f xs })
    → ((rs : List (List ℕ)) → old ≡ summary_of rs → new ≡ summary_of (rs ++ records))
    → seen ≡ map (λ x. shown_all (f x) records) xs → IsShown taps (before ++ records) (record { summary = new; taps = seen })
block_shown f xs taps seen before records old new is counted are = record {
  summary = counted before is.summary;
  taps_are = are ∙ mapped f records xs ∙ ap (map (λ tap. shown_all tap records)) is.taps_are ∙ taps-both taps before records;
}

-- there is room for some records more in each tap
room_in : (taps : List TapSeen) (records : List (List ℕ)) (n : ℕ) → All (λ tap. (bin : ℕ) → count_at tap.tally bin ≤ 2 ^ 63) taps → length records + n < 2 ^ 32
    → All (λ tap. (bin : ℕ) → count_at tap.tally bin + n < 2 ^ 64) (map (λ tap. shown_all tap records) taps)
room_in [] records n few less = All-nil (λ (tap : TapSeen). (bin : ℕ) → count_at tap.tally bin + n < 2 ^ 64)
room_in (t ∷ taps) records n few less =
    All-cons (λ (tap : TapSeen). (bin : ℕ) → count_at tap.tally bin + n < 2 ^ 64) (shown_all t records) (map (λ tap. shown_all tap records) taps)
    (λ bin. omega (arith, less, shown-few t records bin (2 ^ 63) (All-head (λ (tap : TapSeen). (bin : ℕ) → count_at tap.tally bin ≤ 2 ^ 63) t taps few)))
    (room_in taps records n (All-tail (λ (tap : TapSeen). (bin : ℕ) → count_at tap.tally bin ≤ 2 ^ 63) t taps few) less)

pub room_block : {X : Type 0} (f : X → TapSeen) (xs : List X) (taps : List TapSeen) (records : List (List ℕ)) (summary : SummarySeen) (n : ℕ)
    → IsShown taps records (record { summary = summary; taps = map f xs }) → All (λ tap. (bin : ℕ) → count_at tap.tally bin ≤ 2 ^ 63) taps
    → length records + n < 2 ^ 32 → All (λ x. (bin : ℕ) → count_at (f x).tally bin + n < 2 ^ 64) xs
room_block f xs taps records summary n s few less =
    all_seen f (λ (tap : TapSeen). (bin : ℕ) → count_at tap.tally bin + n < 2 ^ 64) xs
    (subst (λ (ts : List TapSeen). All (λ tap. (bin : ℕ) → count_at tap.tally bin + n < 2 ^ 64) ts) (sym s.taps_are) (room_in taps records n few less))

-- there is room for the next of some records in a tap
pub room_next : (old now : TapSeen) (done : List (List ℕ)) (n t : ℕ) (point : List ℕ) → ((bin : ℕ) → count_at old.tally bin + n < 2 ^ 64)
    → now ≡ shown_all old done → length done ≡ t → t < n → count_at now.tally (now.bin point) < 2 ^ 64 - 1
room_next old now done n t point room is count more =
    let all : (bin : ℕ) → count_at (shown_all old done).tally bin < 2 ^ 64 - 1 =
    λ bin. omega (arith, count, more, shown-few old done bin (2 ^ 64 - 1 - n) (λ b. omega (arith, room b)), room 0) in
    subst (λ (tap : TapSeen). count_at tap.tally (tap.bin point) < 2 ^ 64 - 1) (sym is) (all (old.bin point))

-- the next record is shown
pub next_shown : (old now new : TapSeen) (done : List (List ℕ)) (point : List ℕ) → now ≡ shown_all old done → new ≡ shown_one now point
    → new ≡ shown_all old (done ++ point ∷ [])
next_shown old now new done point is next = next ∙ ap (λ (tap : TapSeen). shown_one tap point) is ∙ shown-more old done point

-- how many were counted
pub points_counted : (taps : List TapSeen) (records : List (List ℕ)) (survey : SurveySeen) → IsShown taps records survey → survey.summary.counts.points ≡ length records
points_counted taps records survey is = ap (λ (s : SummarySeen). s.counts.points) is.summary
