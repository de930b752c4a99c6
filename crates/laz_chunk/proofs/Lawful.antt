-- The events that spell records are lawful and few.
use Rattle.std.proofs.Common.{◌≡◌, ℕ, ◌^◌, ◌≤◌, if◌then◌else◌, eqb, min, Bool, true, false, List, [], ◌∷◌, ◌++◌, length, refl, sym, ap, subst, ◌∙◌, arith, length-append}
use Rattle.std.proofs.lemmas.Bool.{ne_eqb}
use Rattle.laz_range.specs.Cut.{AreCuts}
use Rattle.laz_range.specs.Choice.{AllAsked, all_cuts}
use Rattle.laz_range.proofs.Public.{AreCuts-append}
use Rattle.laz_integer.specs.Events.{Event, Name, Role, Own, Width, ZeroOrOne, High, cuts_after, same_text}
use Rattle.laz_integer.specs.Ranged.{AreRanged}
use Rattle.laz_integer.proofs.Public.{cuts_after-append, AreCuts-ranged, AreRanged-append}
use Rattle.laz_point10.specs.PointEvents.{changes_kind, intensity_kind, point_source_kind}
use Rattle.laz_point10.specs.Items.{HasPointSizes}
use Rattle.laz_point10.proofs.Public.{points-lawful}
use Rattle.laz_gpstime.specs.Sequences as sequences
use Rattle.laz_gpstime.specs.Meanings.{time_kind}
use Rattle.laz_gpstime.specs.Items.{HasTimeSizes}
use Rattle.laz_gpstime.proofs.Public.{times-lawful}
use Rattle.laz_rgb.specs.declared.colour.Colour.{Colour}
use Rattle.laz_rgb.specs.Colours.{rgb_kind}
use Rattle.laz_rgb.specs.Items.{HasExtraSizes, HasRgbSizes, latest_colour, latest_extra}
use Rattle.laz_rgb.proofs.Public.{colours-lawful, extras-lawful}
use Rattle.laz_chunk.specs.Layouts.{Layout, most_events}
use Rattle.laz_chunk.specs.Records.{ChunkPoint, Record, SpellsColourIf, SpellsRecord, SpellsTimeIf, extras_of}
use Rattle.laz_chunk.specs.Chunks.{History, IsSpelled, Spelling, grown, joined, record_cuts}

-- ---- the numbers of symbols of all models
sizes_in : Role → List ℕ → ℕ → ℕ
sizes_in Own kind which =
    if same_text kind changes_kind then 64 else if same_text kind time_kind then (if eqb which 0 then 6 else 516) else if same_text kind rgb_kind then (if eqb which 0 then 128 else 256) else 256
sizes_in Width kind which = if same_text kind intensity_kind then 17 else if same_text kind point_source_kind then 17 else 33
sizes_in ZeroOrOne kind which = 2
sizes_in High kind which = 2 ^ min which 8

pub sizes : Name → ℕ
sizes name = sizes_in name.role name.kind name.which

point-sizes : HasPointSizes sizes
unfolding sizes sizes_in
point-sizes =
    record {
      changes = refl;
      flags = λ m. refl;
      intensity = record { widths = λ c. refl; highs = λ k. refl };
      classification = λ m. refl;
      scan_angle = λ m. refl;
      user_data = λ m. refl;
      point_source = record { widths = λ c. refl; highs = λ k. refl };
      dx = record { widths = λ c. refl; highs = λ k. refl };
      dy = record { widths = λ c. refl; highs = λ k. refl };
      z = record { widths = λ c. refl; highs = λ k. refl };
    }

time-sizes : HasTimeSizes sizes
unfolding sizes sizes_in
time-sizes = record { six = refl; many = refl; integers = record { widths = λ c. refl; highs = λ k. refl } }

rgb-sizes : HasRgbSizes sizes
unfolding sizes sizes_in
rgb-sizes = record { changes = refl; bytes = λ j some few. rw (ne_eqb j 0 (λ e. absurd (omega (arith, e, some)))) refl }

extra-sizes : (n : ℕ) → HasExtraSizes sizes n
unfolding sizes sizes_in
extra-sizes n j few = refl

-- ---- a record
time-ranged_if : (t : Bool) (points : List sequences.Point) (events : List Event) (time : ℕ) → SpellsTimeIf t points events time → AreRanged sizes events
time-ranged_if true points events time h = times-lawful.ranged sizes points events time time-sizes h
time-ranged_if false points events time h = subst (AreRanged sizes) (sym h.0) tt

colour-ranged_if : (t : Bool) (colours : List Colour) (events : List Event) (colour : Colour) → SpellsColourIf t colours events colour → AreRanged sizes events
colour-ranged_if true colours events colour h = colours-lawful.ranged sizes (latest_colour colours) events colour rgb-sizes h
colour-ranged_if false colours events colour h = subst (AreRanged sizes) (sym h.0) tt

pub record-ranged : (l : Layout) (points : List ChunkPoint) (events : List Event) (now : Record) → SpellsRecord l points events now → AreRanged sizes events
record-ranged l points events now s =
    let join : (xs ys : List Event) → AreRanged sizes xs → AreRanged sizes ys → AreRanged sizes (xs ++ ys) = AreRanged-append sizes in
    subst (AreRanged sizes) (sym s.are)
    (join s.point_events (s.time_events ++ (s.colour_events ++ s.extra_events)) (points-lawful.ranged sizes _ s.point_events now.point point-sizes s.point)
    (join s.time_events (s.colour_events ++ s.extra_events) (time-ranged_if l.times _ s.time_events now.time s.time)
    (join s.colour_events s.extra_events (colour-ranged_if l.colours _ s.colour_events now.colour s.colour) (extras-lawful.ranged sizes (latest_extra (extras_of points)) s.extra_events now.extra (extra-sizes (length (latest_extra (extras_of points)))) s.extra))))

time-few_if : (t : Bool) (points : List sequences.Point) (events : List Event) (time : ℕ) → SpellsTimeIf t points events time → length events ≤ 8
time-few_if true points events time h = times-lawful.few points events time h
time-few_if false points events time h = omega (arith, ap length h.0)

colour-few_if : (t : Bool) (colours : List Colour) (events : List Event) (colour : Colour) → SpellsColourIf t colours events colour → length events ≤ 7
colour-few_if true colours events colour h = colours-lawful.few (latest_colour colours) events colour h
colour-few_if false colours events colour h = omega (arith, ap length h.0)

pub record-few : (l : Layout) (points : List ChunkPoint) (events : List Event) (now : Record) → length (latest_extra (extras_of points)) ≡ l.extra → SpellsRecord l points events now → length events ≤ most_events l
record-few l points events now size s =
    omega (
      arith,
      ap length s.are,
      length-append s.point_events (s.time_events ++ (s.colour_events ++ s.extra_events)),
      length-append s.time_events (s.colour_events ++ s.extra_events),
      length-append s.colour_events s.extra_events,
      points-lawful.few _ s.point_events now.point s.point,
      time-few_if l.times _ s.time_events now.time s.time,
      colour-few_if l.colours _ s.colour_events now.colour s.colour,
      extras-lawful.few _ s.extra_events now.extra s.extra,
      size,
    )

-- ---- all further records
pub AreCuts-asked : (l : Layout) (h : History) (xs : List Spelling) → AreRanged sizes h.0 → AllAsked grown (IsSpelled l) h xs → AreCuts (all_cuts grown record_cuts h xs)
AreCuts-asked l h [] before all = tt
AreCuts-asked l h (x ∷ xs) before all =
    let own = record-ranged l h.1 x.0 x.1 all.0 in
    AreCuts-append (cuts_after h.0 x.0) (all_cuts grown record_cuts (grown h x) xs) (AreCuts-ranged sizes h.0 x.0 before own) (AreCuts-asked l (grown h x) xs (AreRanged-append sizes h.0 x.0 before own) all.1)

pub cuts-joined : (h : History) (xs : List Spelling) → all_cuts grown record_cuts h xs ≡ cuts_after h.0 (joined xs)
cuts-joined h [] = refl
cuts-joined h (x ∷ xs) = ap (λ cs. cuts_after h.0 x.0 ++ cs) (cuts-joined (grown h x) xs) ∙ sym (cuts_after-append h.0 x.0 (joined xs))
