-- What an item has read, as what a part that may be absent has.
use Rattle.std.proofs.Common.{◌≡◌, ℕ, ◌≤◌, true, List, ◌∷◌, ◌++◌, Option, Some, Result, Ok, Err, MatchResult, length, sym, subst}
use Rattle.laz_range.specs.Decoding.{Decoding, Refuses}
use Rattle.laz_integer.specs.Events.{Event}
use Rattle.laz_gpstime.specs.Sequences as sequences
use Rattle.laz_gpstime.specs.Items.{IsSpelledTime, ReadsTime, TimeStands, point_with}
use Rattle.laz_gpstime.specs.Slots.{TimeState}
use Rattle.laz_gpstime.specs.Times.{time_at}
use Rattle.laz_rgb.specs.declared.colour.Colour.{Colour}
use Rattle.laz_rgb.specs.Colours.{colour_at}
use Rattle.laz_rgb.specs.Extra.{SpellsExtra}
use Rattle.laz_rgb.specs.Items.{ExtraStands, ExtraState, IsSpelledColour, IsSpelledExtra, ReadsColour, ReadsExtra, RgbStands, RgbState, latest_extra}
use Rattle.laz_chunk.specs.Records.{SpellsColourIf, SpellsTimeIf, colour_in, time_in}
use Rattle.laz_chunk.specs.Stands.{ColoursStand, ExtrasStand, ReadsPart, TimesStand, has}
use Rattle.laz_integer.specs.Spelled.{spelled_cuts}

abbrev TimeRead : {A E : Type 0} → Result A E → Option TimeState → Option TimeState → List ℕ → Decoding → Decoding → Type 0
TimeRead result o n part old new =
    (earlier : List Event) (points : List sequences.Point) → TimesStand earlier points o → old.taken ≤ length old.bytes
    → MatchResult result (λ _. ReadsPart (λ x. SpellsTimeIf (has o) points x.0 x.1) earlier (time_in (has o) part) old new (λ events. TimesStand (earlier ++ events) (point_with (time_in (has o) part) events ∷ points) n))
    (λ _. Refuses {X = List Event × ℕ} (λ x. SpellsTimeIf (has o) points x.0 x.1) (spelled_cuts earlier) old new)

time-one : {A E : Type 0} (result : Result A E) (earlier : List Event) (points : List sequences.Point) (t : ℕ) (old new : Decoding) (st : TimeState)
    → MatchResult result (λ _. ReadsTime earlier points t old new st) (λ _. Refuses (IsSpelledTime points) (spelled_cuts earlier) old new)
    → MatchResult result (λ _. ReadsPart (λ x. SpellsTimeIf true points x.0 x.1) earlier t old new (λ events. TimesStand (earlier ++ events) (point_with t events ∷ points) (Some st)))
    (λ _. Refuses {X = List Event × ℕ} (λ x. SpellsTimeIf true points x.0 x.1) (spelled_cuts earlier) old new)
time-one (Ok a) earlier points t old new st h = record { events = h.events; takes = h.takes; stands = h.stands }
time-one (Err e) earlier points t old new st h = h

pub time-read : {A E : Type 0} (result : Result A E) (o : Option TimeState) (st st' : TimeState) (part : List ℕ) (old new : Decoding) → o ≡ Some st
    → ((earlier : List Event) (points : List sequences.Point) → TimeStands earlier points st → MatchResult result (λ _. ReadsTime earlier points (time_at part) old new st') (λ _. Refuses (IsSpelledTime points) (spelled_cuts earlier) old new))
    → TimeRead result o (Some st') part old new
time-read result o st st' part old new is h =
    subst (λ (o : Option TimeState). TimeRead result o (Some st') part old new) (sym is) (λ earlier points stands within. time-one result earlier points (time_at part) old new st' (h earlier points stands))

abbrev ColourRead : {A E : Type 0} → Result A E → Option RgbState → Option RgbState → List ℕ → Decoding → Decoding → Type 0
ColourRead result o n part old new =
    (earlier : List Event) (colours : List Colour) → ColoursStand earlier colours o → old.taken ≤ length old.bytes
    → MatchResult result (λ _. ReadsPart (λ x. SpellsColourIf (has o) colours x.0 x.1) earlier (colour_in (has o) part) old new (λ events. ColoursStand (earlier ++ events) (colour_in (has o) part ∷ colours) n))
    (λ _. Refuses {X = List Event × Colour} (λ x. SpellsColourIf (has o) colours x.0 x.1) (spelled_cuts earlier) old new)

colour-one : {A E : Type 0} (result : Result A E) (earlier : List Event) (colours : List Colour) (t : Colour) (old new : Decoding) (st : RgbState)
    → MatchResult result (λ _. ReadsColour earlier colours t old new st) (λ _. Refuses (IsSpelledColour colours) (spelled_cuts earlier) old new)
    → MatchResult result (λ _. ReadsPart (λ x. SpellsColourIf true colours x.0 x.1) earlier t old new (λ events. ColoursStand (earlier ++ events) (t ∷ colours) (Some st)))
    (λ _. Refuses {X = List Event × Colour} (λ x. SpellsColourIf true colours x.0 x.1) (spelled_cuts earlier) old new)
colour-one (Ok a) earlier colours t old new st h = record { events = h.events; takes = h.takes; stands = h.stands }
colour-one (Err e) earlier colours t old new st h = h

pub colour-read : {A E : Type 0} (result : Result A E) (o : Option RgbState) (st st' : RgbState) (part : List ℕ) (old new : Decoding) → o ≡ Some st
    → ((earlier : List Event) (colours : List Colour) → RgbStands earlier colours st → MatchResult result (λ _. ReadsColour earlier colours (colour_at part) old new st') (λ _. Refuses (IsSpelledColour colours) (spelled_cuts earlier) old new))
    → ColourRead result o (Some st') part old new
colour-read result o st st' part old new is h =
    subst (λ (o : Option RgbState). ColourRead result o (Some st') part old new) (sym is) (λ earlier colours stands within. colour-one result earlier colours (colour_at part) old new st' (h earlier colours stands))

abbrev ExtraRead : {A E : Type 0} → Result A E → Option ExtraState → Option ExtraState → List ℕ → Decoding → Decoding → Type 0
ExtraRead result o n part old new =
    (earlier : List Event) (extras : List (List ℕ)) → ExtrasStand earlier extras o → old.taken ≤ length old.bytes
    → MatchResult result (λ _. ReadsPart (λ x. SpellsExtra (latest_extra extras) x.0 x.1) earlier part old new (λ events. ExtrasStand (earlier ++ events) (part ∷ extras) n))
    (λ _. Refuses {X = List Event × List ℕ} (λ x. SpellsExtra (latest_extra extras) x.0 x.1) (spelled_cuts earlier) old new)

extra-one : {A E : Type 0} (result : Result A E) (earlier : List Event) (extras : List (List ℕ)) (t : List ℕ) (old new : Decoding) (st : ExtraState)
    → MatchResult result (λ _. ReadsExtra earlier extras t old new st) (λ _. Refuses (IsSpelledExtra extras) (spelled_cuts earlier) old new)
    → MatchResult result (λ _. ReadsPart (λ x. SpellsExtra (latest_extra extras) x.0 x.1) earlier t old new (λ events. ExtrasStand (earlier ++ events) (t ∷ extras) (Some st)))
    (λ _. Refuses {X = List Event × List ℕ} (λ x. SpellsExtra (latest_extra extras) x.0 x.1) (spelled_cuts earlier) old new)
extra-one (Ok a) earlier extras t old new st h = record { events = h.events; takes = h.takes; stands = h.stands }
extra-one (Err e) earlier extras t old new st h = h

pub extra-read : {A E : Type 0} (result : Result A E) (o : Option ExtraState) (st st' : ExtraState) (part : List ℕ) (old new : Decoding) → o ≡ Some st
    → ((earlier : List Event) (extras : List (List ℕ)) → ExtraStands earlier extras st → MatchResult result (λ _. ReadsExtra earlier extras part old new st') (λ _. Refuses (IsSpelledExtra extras) (spelled_cuts earlier) old new))
    → ExtraRead result o (Some st') part old new
extra-read result o st st' part old new is h =
    subst (λ (o : Option ExtraState). ExtraRead result o (Some st') part old new) (sym is) (λ earlier extras stands within. extra-one result earlier extras part old new st' (h earlier extras stands))
