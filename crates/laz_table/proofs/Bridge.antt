-- From correctors under the models of a table to events that spell its entries, and back.
use Rattle.std.proofs.Common.{◌≡◌, ℕ, ◌*◌, ◌<◌, Bool, true, false, if◌then◌else◌, List, [], ◌∷◌, ◌++◌, length, refl, sym, ap, subst, ◌∙◌, arith, lit≤, lit<}
use Rattle.std.specs.Int.{w32, cast_unsigned}
use Rattle.std.proofs.lemmas.Int.{of_z-to_z}
use Rattle.laz_range.specs.Cut.{Cut, AreCuts}
use Rattle.laz_range.specs.Span.{Begins, span}
use Rattle.laz_range.specs.Choice.{AllAsked, AreAsked, all_cuts}
use Rattle.laz_range.specs.Decoding.{Decoding, HasRead}
use Rattle.laz_range.proofs.Public.{AreCuts-append, Takes-ReadsOn, Takes-begins, TakesNone-NoneBegins}
use Rattle.laz_integer.specs.Corrector.{corrected}
use Rattle.laz_integer.specs.Events.{Event, cuts_after, cuts_of}
use Rattle.laz_integer.specs.Integer.{IntStands, IntState, IsCorrector, IsInts, corrector_events, event_next, events_next, int_next}
use Rattle.laz_integer.proofs.Public.{AreIntEvents, IsInts-event, corrector-events, cuts_after-append, Piece-int, AreCuts-int, two_lists}
use Rattle.laz_table.specs.Entries.{Entry, SpellsEntries, SpellsEntry, after_entry, context_of, entries_of, no_entry, prediction, signed, table_use}
use Rattle.laz_table.specs.Table.{HoldsEntries}
use Rattle.laz_table.specs.Steps.{IsEntry, NoEntries, ReadsEntries, TableState, entries_made, entry_cuts, entry_made, entry_next, next_counts_points, number_made, table_start}
use Rattle.laz_table.proofs.ReadingLemmas.{made-below, made-signed}

-- ---- the models stay models of 32 bits with two contexts
ints-events : (kind : List ℕ) (st : IntState) (bits contexts : ℕ) (events : List Event) → IsInts bits contexts st → AreIntEvents kind bits contexts events → IsInts bits contexts (events_next st events)
ints-events kind st bits contexts [] is asked = is
ints-events kind st bits contexts (e ∷ events) is asked = ints-events kind (event_next st e) bits contexts events (IsInts-event kind st bits contexts e is asked.0) asked.1

pub ints-next : (st : IntState) (ctx : ℕ) (x : ℕ × ℕ) → IsInts 32 2 st → ctx < 2 → IsCorrector 32 x → IsInts 32 2 (int_next st ctx x.0 x.1)
ints-next st ctx x is within asked =
    let events : AreIntEvents [] 32 2 (corrector_events [] st.bits ctx x.0 x.1) =
    subst (λ (b : ℕ). AreIntEvents [] 32 2 (corrector_events [] b ctx x.0 x.1)) (sym is.bits) (corrector-events [] 32 2 ctx x.0 x.1 (lit≤ tt) within asked.0 asked.1) in
    ints-events [] st 32 2 (corrector_events [] st.bits ctx x.0 x.1) is events

context-few : (b : Bool) → context_of b < 2
context-few true = lit< tt
context-few false = lit< tt

-- ---- one entry
abbrev pub corrector_of : TableState → ℕ × ℕ → List Event
corrector_of st x = corrector_events table_use 32 (context_of st.counts_points) x.0 x.1

pub record Step (earlier : List Event) (st : TableState) (x : ℕ × ℕ) : Type 0 where
  pub cut : cuts_after earlier (corrector_of st x) ≡ entry_cuts st x
  pub stands : IntStands table_use (earlier ++ corrector_of st x) (entry_next st x).models
  pub ints : IsInts 32 2 (entry_next st x).models

pub step : (earlier : List Event) (st : TableState) (x : ℕ × ℕ) → IsInts 32 2 st.models → IntStands table_use earlier st.models → IsCorrector 32 x → Step earlier st x
step earlier st x is h asked =
    let ctx = context_of st.counts_points in
    let few = context-few st.counts_points in
    let piece = Piece-int table_use st.models 32 ctx x.0 x.1 is.state is.bits (omega (arith, is.contexts, few)) asked in
    record { cut = piece.cut earlier h; stands = piece.stands earlier h; ints = ints-next st.models ctx x is few asked }

-- the parts of each choice are parts
pub cuts-all : (st : TableState) (xs : List (ℕ × ℕ)) → IsInts 32 2 st.models → AllAsked entry_next IsEntry st xs → AreCuts (all_cuts entry_next entry_cuts st xs)
cuts-all st [] is h = tt
cuts-all st (x ∷ xs) is h =
    let few = context-few st.counts_points in
    AreCuts-append (entry_cuts st x) (all_cuts entry_next entry_cuts (entry_next st x) xs)
    (AreCuts-int st.models (context_of st.counts_points) x is.state (omega (arith, is.contexts, few)) (subst (λ (b : ℕ). IsCorrector b x) (sym is.bits) h.0))
    (cuts-all (entry_next st x) xs (ints-next st.models (context_of st.counts_points) x is few h.0) h.1)

-- ---- correctors spell the entries that they make
pub record Spelled (earlier : List Event) (st : TableState) (xs : List (ℕ × ℕ)) : Type 0 where
  pub events : List Event
  pub spells : SpellsEntries st.latest events (entries_made st xs)
  pub cut : cuts_after earlier events ≡ all_cuts entry_next entry_cuts st xs

pub spelled : (earlier : List Event) (st : TableState) (xs : List (ℕ × ℕ)) → IsInts 32 2 st.models → IntStands table_use earlier st.models → AllAsked entry_next IsEntry st xs → Spelled earlier st xs
spelled earlier st [] is h all = record { events = []; spells = refl; cut = refl }
spelled earlier st (x ∷ xs) is h all =
    let one = step earlier st x is h all.0 in
    let more = spelled (earlier ++ corrector_of st x) (entry_next st x) xs one.ints one.stands all.1 in
    let before = prediction st.counts_points st.latest in
    let spells : SpellsEntry st.latest (corrector_of st x) (entry_made st x) =
    record {
      width = x.0;
      fits = made-below before x;
      spells = record { v = x.1; width = all.0.0; within = all.0.1; is = refl; makes = made-signed before x };
    } in
    record {
      events = corrector_of st x ++ more.events;
      spells = (corrector_of st x, more.events, refl, spells, more.spells);
      cut = cuts_after-append earlier (corrector_of st x) more.events ∙ two_lists _ _ _ _ one.cut more.cut;
    }

-- ---- and each spelling is by correctors
-- the kinds of entries are those of a table of this kind
abbrev pub AreInTurn : (counted counts_points : Bool) → List Entry → Type 0
AreInTurn counted b [] = Unit {0}
AreInTurn counted b (e ∷ entries) = (e.counts_points ≡ b) × AreInTurn counted (next_counts_points counted b) entries

pub record Chosen (earlier events : List Event) (st : TableState) (entries : List Entry) : Type 0 where
  pub xs : List (ℕ × ℕ)
  pub asked : AreAsked entry_next IsEntry st (length entries) xs
  pub cut : cuts_after earlier events ≡ all_cuts entry_next entry_cuts st xs
  pub makes : entries_made st xs ≡ entries

pub cons_entry : (d e : Entry) (ds es : List Entry) → d ≡ e → ds ≡ es → d ∷ ds ≡ e ∷ es
cons_entry d e ds es f g = cc

-- the entry that a spelling's corrector makes
entry-back : (st : TableState) (first : List Event) (e : Entry) (h : SpellsEntry st.latest first e) → e.counts_points ≡ st.counts_points
    → (first ≡ corrector_of st (h.width, h.spells.v)) × (entry_made st (h.width, h.spells.v) ≡ e)
entry-back st first e h turn =
    let x : ℕ × ℕ = (h.width, h.spells.v) in
    let before = prediction st.counts_points st.latest in
    let events : first ≡ corrector_of st x = h.spells.is ∙ ap (λ b. corrector_events table_use 32 (context_of b) x.0 x.1) turn in
    let number : number_made before x ≡ e.number =
    sym (ap (cast_unsigned w32) (h.spells.makes ∙ ap (λ b. corrected 32 (signed (prediction b st.latest)) x.0 x.1) turn)) ∙ of_z-to_z w32 e.number h.fits in
    let kind : st.counts_points ≡ e.counts_points = sym turn in
    let made : entry_made st x ≡ e =
    ap (λ n. (let d : Entry = record { counts_points = st.counts_points; number = n } in d)) number ∙ ap (λ b. (let d : Entry = record { counts_points = b; number = e.number } in d)) kind in
    (events, made)

pub chosen : (earlier events : List Event) (st : TableState) (entries : List Entry) → IsInts 32 2 st.models → IntStands table_use earlier st.models → SpellsEntries st.latest events entries → AreInTurn st.counted st.counts_points entries
    → Chosen earlier events st entries
chosen earlier events st [] is h spells turn = record { xs = []; asked = (refl, tt); cut = ap (cuts_after earlier) spells; makes = refl }
chosen earlier events st (e ∷ entries) is h spells turn =
    let first = spells.0 in
    let rest = spells.1 in
    let one = spells.3 in
    let x : ℕ × ℕ = (one.width, one.spells.v) in
    let asked : IsCorrector 32 x = (one.spells.width, one.spells.within) in
    let back = entry-back st first e one turn.0 in
    let now = step earlier st x is h asked in
    let later : SpellsEntries (entry_next st x).latest rest entries = subst (λ (d : Entry). SpellsEntries (after_entry st.latest d) rest entries) (sym back.1) spells.4 in
    let more = chosen (earlier ++ corrector_of st x) rest (entry_next st x) entries now.ints now.stands later turn.1 in
    record {
      xs = x ∷ more.xs;
      asked = (omega (arith, more.asked.0), (asked, more.asked.1));
      cut = ap (cuts_after earlier) (spells.2 ∙ ap (λ l. l ++ rest) back.0) ∙ (cuts_after-append earlier (corrector_of st x) rest ∙ two_lists _ _ _ _ now.cut more.cut);
      makes = cons_entry (entry_made st x) e (entries_made (entry_next st x) more.xs) entries back.1 more.makes;
    }

-- ---- the entries of a table are in turn, and the lists can be found in them
pub fixed-turn : (counts : List ℕ) → AreInTurn false false (entries_of [] counts)
fixed-turn [] = tt
fixed-turn (c ∷ counts) = (refl, fixed-turn counts)

pub counted-turn : (sizes counts : List ℕ) → length sizes ≡ length counts → AreInTurn true true (entries_of sizes counts)
counted-turn [] [] e = tt
counted-turn [] (c ∷ counts) e = absurd (omega (arith, e))
counted-turn (s ∷ sizes) [] e = tt
counted-turn (s ∷ sizes) (c ∷ counts) e = (refl, (refl, counted-turn sizes counts (omega (arith, e))))

pub fixed-length : (counts : List ℕ) → length (entries_of [] counts) ≡ length counts
fixed-length [] = refl
fixed-length (c ∷ counts) = omega (arith, fixed-length counts)

pub counted-length : (sizes counts : List ℕ) → length sizes ≡ length counts → length (entries_of sizes counts) ≡ 2 * length counts
counted-length [] [] e = refl
counted-length [] (c ∷ counts) e = absurd (omega (arith, e))
counted-length (s ∷ sizes) [] e = absurd (omega (arith, e))
counted-length (s ∷ sizes) (c ∷ counts) e = omega (arith, counted-length sizes counts (omega (arith, e)))

-- the numbers of points, and those of bytes, among entries
abbrev pub sizes_in : List Entry → List ℕ
sizes_in [] = []
sizes_in (e ∷ entries) = if e.counts_points then e.number ∷ sizes_in entries else sizes_in entries

abbrev pub counts_in : List Entry → List ℕ
counts_in [] = []
counts_in (e ∷ entries) = if e.counts_points then counts_in entries else e.number ∷ counts_in entries

pub fixed-counts : (counts : List ℕ) → counts_in (entries_of [] counts) ≡ counts
fixed-counts [] = refl
fixed-counts (c ∷ counts) = ap (λ l. c ∷ l) (fixed-counts counts)

pub counted-sizes : (sizes counts : List ℕ) → length sizes ≡ length counts → sizes_in (entries_of sizes counts) ≡ sizes
counted-sizes [] [] e = refl
counted-sizes [] (c ∷ counts) e = absurd (omega (arith, e))
counted-sizes (s ∷ sizes) [] e = absurd (omega (arith, e))
counted-sizes (s ∷ sizes) (c ∷ counts) e = ap (λ l. s ∷ l) (counted-sizes sizes counts (omega (arith, e)))

pub counted-counts : (sizes counts : List ℕ) → length sizes ≡ length counts → counts_in (entries_of sizes counts) ≡ counts
counted-counts [] [] e = refl
counted-counts [] (c ∷ counts) e = absurd (omega (arith, e))
counted-counts (s ∷ sizes) [] e = absurd (omega (arith, e))
counted-counts (s ∷ sizes) (c ∷ counts) e = ap (λ l. c ∷ l) (counted-counts sizes counts (omega (arith, e)))

-- ---- whole tables, under new models
module _ (models : IntState) (counted : Bool) (is : IsInts 32 2 models) (h : IntStands table_use [] models) where
  abbrev st : TableState
  st = table_start models counted

  pub record Held (bytes : List ℕ) (entries : List Entry) : Type 0 where
    pub xs : List (ℕ × ℕ)
    pub asked : AreAsked entry_next IsEntry st (length entries) xs
    pub begins : Begins (span (all_cuts entry_next entry_cuts st xs)) bytes
    pub makes : entries_made st xs ≡ entries

  held : (bytes : List ℕ) (entries : List Entry) → 0 < length entries → AreInTurn counted counted entries → HoldsEntries bytes entries → Held bytes entries
  held bytes [] some turn holds = absurd (omega (arith, some))
  held bytes (e ∷ entries) some turn holds =
      let by = chosen [] holds.0 st (e ∷ entries) is h holds.1 turn in
      record { xs = by.xs; asked = by.asked; begins = subst (λ (cs : List Cut). Begins (span cs) bytes) by.cut holds.2; makes = by.makes }

  -- no decoder
  pub none-opened : (bytes : List ℕ) (entries : List Entry) → ((events : List Cut) → AreCuts events → Begins (span events) bytes → ⊥) → 0 < length entries → AreInTurn counted counted entries → HoldsEntries bytes entries → ⊥
  none-opened bytes entries none some turn holds =
      let b = held bytes entries some turn holds in none (all_cuts entry_next entry_cuts st b.xs) (cuts-all st b.xs is b.asked.1) b.begins

  -- no entries
  pub none-read : (d n : Decoding) (count : ℕ) (entries : List Entry) → HasRead [] d → NoEntries st count d n → length entries ≡ count → 0 < count → AreInTurn counted counted entries → HoldsEntries d.bytes entries → ⊥
  none-read d n count entries read none long some turn holds =
      let b = held d.bytes entries (omega (arith, long, some)) turn holds in
      TakesNone-NoneBegins (AreAsked entry_next IsEntry st count) (all_cuts entry_next entry_cuts st) d n (λ ys asked. cuts-all st ys is asked.1) none [] read b.xs (b.asked.0 ∙ long, b.asked.1) b.begins

  -- the entries that were read are the only ones
  pub one-read : (d n : Decoding) (count : ℕ) (found entries : List Entry) → HasRead [] d → ReadsEntries st count d n found → length entries ≡ count → 0 < count → AreInTurn counted counted entries → HoldsEntries d.bytes entries → entries ≡ found
  one-read d n count found entries read r long some turn holds =
      let b = held d.bytes entries (omega (arith, long, some)) turn holds in
      let same = Takes-begins (AreAsked entry_next IsEntry st count) (all_cuts entry_next entry_cuts st) d n r.correctors (λ ys asked. cuts-all st ys is asked.1) r.takes [] read b.xs (b.asked.0 ∙ long, b.asked.1) b.begins in
      sym b.makes ∙ (ap (entries_made st) same ∙ r.makes)

  hold : (bytes : List ℕ) (events : List Event) (entries : List Entry) → SpellsEntries no_entry events entries → Begins (span (cuts_of events)) bytes → HoldsEntries bytes entries
  hold bytes events [] spells begins = tt
  hold bytes events (e ∷ entries) spells begins = (events, spells, begins)

  -- and the bytes hold them
  pub read-held : (d n : Decoding) (count : ℕ) (found : List Entry) → HasRead [] d → ReadsEntries st count d n found → HoldsEntries d.bytes found
  read-held d n count found read r =
      let now = Takes-ReadsOn (AreAsked entry_next IsEntry st count) (all_cuts entry_next entry_cuts st) d n r.correctors (cuts-all st r.correctors is r.takes.choice.asked.1) r.takes [] read in
      let by = spelled [] st r.correctors is h r.takes.choice.asked.1 in
      let begins : Begins (span (cuts_of by.events)) d.bytes =
      subst (λ (bs : List ℕ). Begins (span (cuts_of by.events)) bs) r.takes.bytes (subst (λ (cs : List Cut). Begins (span cs) n.bytes) (sym by.cut) now.begins) in
      hold d.bytes by.events found (subst (λ (es : List Entry). SpellsEntries no_entry by.events es) r.makes by.spells) begins
