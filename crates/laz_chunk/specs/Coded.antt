-- What coding and reading records promises of their items, whatever history they stand for.
use Rattle.std.specs.Prelude.{◌≡◌, ℕ, List, MatchResult, Result}
use Rattle.laz_range.specs.Coding.{Codes, CodesInSteps, Coding}
use Rattle.laz_range.specs.Choice.{AreAsked, all_cuts}
use Rattle.laz_range.specs.Decoding.{Decoding, Refuses, Takes}
use Rattle.laz_chunk.specs.declared.items.Items.{Items}
use Rattle.laz_chunk.specs.Records.{record_at, records_in}
use Rattle.laz_chunk.specs.Stands.{AreChunkPoints, ItemsStand, ReadsPartOrNone, layout_in}
use Rattle.laz_chunk.specs.Chunks.{History, IsSpelled, Spelling, grown, record_cuts, spelled_records, writing, written}

-- The items stay those of their layout.
abbrev pub KeepLayout : (old new : Items) → Type 0
KeepLayout old new = layout_in new ≡ layout_in old

-- The events of a record are coded.
abbrev pub CodesRecord : Items → (bytes : List ℕ) → Coding → Coding → Type 0
CodesRecord items bytes old new =
    (h : History) → AreChunkPoints (layout_in items).extra h.1 → ItemsStand h.0 h.1 items
    → Codes old new (record_cuts h (writing (layout_in items) h (record_at (layout_in items) bytes)))

-- The items then stand for the record, too.
abbrev pub StandWithRecord : (old : Items) → (bytes : List ℕ) → (new : Items) → Type 0
StandWithRecord old bytes new =
    (h : History) → AreChunkPoints (layout_in old).extra h.1 → ItemsStand h.0 h.1 old
    → let after = grown h (writing (layout_in old) h (record_at (layout_in old) bytes)) in
    ItemsStand after.0 after.1 new

-- A record is read by the one spelling that begins the rest of the bytes, or none of a record does.
abbrev pub ReadsRecord : {E : Type 0} → Result (Unit {0}) E → (old : Items) → (bytes : List ℕ) → Decoding → Decoding
    → (new : Items) → Type 0
ReadsRecord result items bytes old new next =
    (h : History) → ItemsStand h.0 h.1 items
    → let l = layout_in items in let now = record_at l bytes
    in ReadsPartOrNone result (IsSpelled l h) h.0 now old new
    (λ events. let after = grown h (events, now) in ItemsStand after.0 after.1 next)

-- The events of this many records are coded, each record's in room that was kept for it.
abbrev pub CodesRecords : Items → (count : ℕ) → (records : List ℕ) → Coding → Coding → Type 0
CodesRecords items count records old new =
    (h : History) → AreChunkPoints (layout_in items).extra h.1 → ItemsStand h.0 h.1 items
    → let l = layout_in items in
    CodesInSteps old new (all_cuts grown record_cuts h (written l h (records_in l count records)))

-- This many records are read by the one list of spellings that begins the rest of the bytes, or none does.
abbrev pub ReadsRecords : {E : Type 0} → Result (Unit {0}) E → Items → (count : ℕ) → (records : List ℕ) → Decoding
    → Decoding → Type 0
ReadsRecords result items count records old new =
    (h : History) → ItemsStand h.0 h.1 items
    → let l = layout_in items
    in MatchResult result
    (λ _. (xs : List Spelling) × Takes (AreAsked grown (IsSpelled l) h count) (all_cuts grown record_cuts h) old new xs
    × (spelled_records xs ≡ records_in l count records))
    (λ _. Refuses (AreAsked grown (IsSpelled l) h count) (all_cuts grown record_cuts h) old new)
