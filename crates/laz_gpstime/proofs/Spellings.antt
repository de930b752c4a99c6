-- From what is read of a time to the events that spell it, and back.
use Rattle.std.proofs.Common.{◌≡◌, ℕ, ◌+◌, ◌<◌, ◌≤◌, List, [], ◌∷◌, ◌++◌, refl, sym, ap, subst, ◌∙◌, arith, ⊎_elim, lit<, append_assoc}
use Rattle.std.proofs.lemmas.Bool.{cases_eq, cond-false, cond-true, eq-eqb, ne_eqb}
use Rattle.laz_range.specs.Cut.{AreCuts, Cut, raw_cuts}
use Rattle.laz_range.specs.Decoding.{Decoding, NoneBegins, Refuses, Takes}
use Rattle.laz_range.proofs.Public.{Takes-through, Takes-ReadsOn, Takes-begins, Refuses-NoneBegins, Refuses-through}
use Rattle.laz_models.proofs.Public.{sizes-set}
use Rattle.laz_integer.specs.Events.{Event, Name, raw_events}
use Rattle.laz_integer.specs.Integer.{corrector_events, int_cuts, int_next}
use Rattle.laz_integer.specs.Ranged.{AreRanged}
use Rattle.laz_integer.proofs.Public.{Piece, Piece-none, Piece-then, AreCuts-ranged}
use Rattle.laz_gpstime.specs.Choices.{Choice, IsChoice, IsRest, Rest, choice_cuts, choice_next, choice_time, rest_cuts, rest_next, state_on, switch_cuts, switch_next, symbol_next, time_symbol_cuts}
use Rattle.laz_gpstime.specs.Items.{HasTimeSizes, IsSpelledTime, ReadsTime, TimeStands, point_with}
use Rattle.laz_integer.specs.Spelled.{OneBegins, spelled_cuts}
use Rattle.laz_gpstime.specs.Meanings.{Meaning, meaning, time_kind}
use Rattle.laz_gpstime.specs.Sequences.{Point, extremes, point_meaning, point_switch}
use Rattle.laz_gpstime.specs.Slots.{AreSlots, IsTimeState, ModelsStand, TimeState, after_point, after_switch, difference_of, slot_at, slot_of, symbols_after}
use Rattle.laz_gpstime.specs.Spelling.{SpellsTime}
use Rattle.laz_gpstime.specs.Times.{context, difference_on, model_of, new_symbol, same_symbol, sequence_on, switch_events, time_on, time_symbol}
use Rattle.laz_gpstime.specs.declared.sequences.Sequences.{Sequences}
use Rattle.laz_gpstime.specs.declared.sequences.Slot.{Slot}
use Rattle.laz_gpstime.proofs.Coded.{stand-still}
use Rattle.laz_gpstime.proofs.Fronts.{switched-some, symbols-are}
use Rattle.laz_gpstime.proofs.Lawful.{time-ranged}
use Rattle.laz_gpstime.proofs.Meanings.{says}
use Rattle.laz_gpstime.proofs.Models.{after_word, context-few, frame-models, model-two, models-count, raw-piece, symbol-piece, symbol-state, word-piece}
use Rattle.laz_gpstime.proofs.Points.{switch-state}
use Rattle.laz_gpstime.proofs.Rests.{is-near, near-asked, near-cuts, new-asked, new-cuts, new-new, new-same}
use Rattle.laz_gpstime.proofs.Slots.{AreSlots-push}
use Rattle.laz_gpstime.proofs.SpelledRests.{Chosen, Spells, chosen-rest, near-rest, new-rest, quiet-rest_events, rest-width, rest_events, spelled-rest}
use Rattle.laz_gpstime.proofs.Written.{slot-here, slot-moved}

-- The events of a choice.
abbrev pub choice_events : TimeState → Choice → List Event
choice_events st x =
    let d = difference_of (state_on st x.0.0) in
    switch_events (difference_of st) x.0.0 ++ (time_symbol d x.0.1 ∷ rest_events d x.0.1 x.1)

-- ---- pieces of a time's events
abbrev pub TimePiece : List Event → List Cut → TimeState → TimeState → Type 0
TimePiece events cuts st next = Piece (time_kind ∷ []) events cuts (λ l. ModelsStand l st) (λ l. ModelsStand l next)

-- of equal events and cuts, and of models that are equal, whatever the slots are
along : (xs ys : List Event) (cs ds : List Cut) (st mid next : TimeState) → xs ≡ ys → cs ≡ ds → next.symbols ≡ mid.symbols → next.integers ≡ mid.integers → TimePiece ys ds st mid → TimePiece xs cs st next
along xs ys cs ds st mid next e f p q h =
    let here : TimePiece ys ds st next = record {
      own = h.own;
      cut = h.cut;
      stands = λ earlier before. stand-still (earlier ++ ys) mid next p q (h.stands earlier before);
      before = h.before;
      after = frame-models next;
    } in
    subst (λ (l : List Event). TimePiece l cs st next) (sym e) (subst (λ (l : List Cut). TimePiece ys l st next) (sym f) here)

none-piece : (st : TimeState) → TimePiece [] [] st st
none-piece st = Piece-none (time_kind ∷ []) (λ l. ModelsStand l st) (frame-models st)

then-piece : (xs ys : List Event) (cs ds : List Cut) (st mid next : TimeState) → TimePiece xs cs st mid → TimePiece ys ds mid next → TimePiece (xs ++ ys) (cs ++ ds) st next
then-piece xs ys cs ds st mid next f g = Piece-then (time_kind ∷ []) xs ys cs ds (λ l. ModelsStand l st) (λ l. ModelsStand l mid) (λ l. ModelsStand l next) f g

-- ---- states between them
state-symbol : (st : TimeState) (s : ℕ) → IsTimeState st → IsTimeState (symbol_next st s)
state-symbol st s is = symbol-state st (symbols_after st s) is (sizes-set st.symbols (model_of (difference_of st)) s (omega (arith, models-count st is, model-two (difference_of st))))

state-switched : (st : TimeState) (i : ℕ) → IsTimeState st → IsTimeState (state_on st i)
state-switched st i is =
    ⊎_elim
    (λ (none : i ≡ 0). subst IsTimeState (sym (cond-true _ _ _ (eq-eqb i 0 none))) is)
    (λ (some : i ≡ 0 → ⊥). subst IsTimeState (sym (switched-some st i some)) (switch-state (symbol_next st (new_symbol (difference_of st) + i)) (switch_next st i) i (state-symbol st (new_symbol (difference_of st) + i) is) refl refl refl))
    (cases_eq i 0)

-- ---- a switch
switch-piece : (st : TimeState) (i : ℕ) → IsTimeState st → i < 4 → TimePiece (switch_events (difference_of st) i) (switch_cuts st i) st (state_on st i)
switch-piece st i is few =
    ⊎_elim
    (λ (none : i ≡ 0).
    let b = eq-eqb i 0 none in
    let same : state_on st i ≡ st = cond-true _ _ _ b in
    along _ [] _ [] st st (state_on st i) (cond-true _ _ _ b) (cond-true _ _ _ b) (ap (λ (t : TimeState). t.symbols) same) (ap (λ (t : TimeState). t.integers) same) (none-piece st))
    (λ (some : i ≡ 0 → ⊥).
    let b = ne_eqb i 0 some in
    let s : ℕ = new_symbol (difference_of st) + i in
    let same = switched-some st i some in
    along _ (time_symbol (difference_of st) s ∷ []) _ (time_symbol_cuts st s) st (symbol_next st s) (state_on st i) (cond-false _ _ _ b) (cond-false _ _ _ b) (ap (λ (t : TimeState). t.symbols) same) (ap (λ (t : TimeState). t.integers) same)
    (symbol-piece st s is (omega (arith, few, symbols-are (difference_of st)))))
    (cases_eq i 0)

-- ---- what follows a symbol
rest-piece : (st : TimeState) (s : ℕ) (y : Rest) → IsTimeState st → s ≤ new_symbol (difference_of st) → IsRest (difference_of st) s y → TimePiece (rest_events (difference_of st) s y) (rest_cuts st s y) st (rest_next st s y)
rest-piece st s y is range asked =
    let d = difference_of st in
    ⊎_elim
    (λ (same : s ≡ same_symbol d).
    let b = eq-eqb s (same_symbol d) same in
    along _ [] _ [] st st (rest_next st s y) (cond-true _ _ _ b) (cond-true _ _ _ b) refl (cond-true _ _ _ b) (none-piece st))
    (λ (differs : s ≡ same_symbol d → ⊥).
    ⊎_elim
    (λ (new : s ≡ new_symbol d).
    let all = new-asked d y (subst (λ n. IsRest d n y) new asked) in
    let events = corrector_events time_kind 32 8 y.0.0 y.0.1 in
    let cuts = int_cuts st.integers 8 y.0.0 y.0.1 in
    let after = after_word st 8 y.0.0 y.0.1 in
    let at : (rest_next st (new_symbol d) y).integers ≡ int_next st.integers 8 y.0.0 y.0.1 = cond-false _ _ _ (new-same d) ∙ ap (λ n. int_next st.integers n y.0.0 y.0.1) (cond-true _ _ _ (new-new d)) in
    let both = then-piece events (raw_events 32 y.1) cuts (raw_cuts 32 y.1) st after after (word-piece st 8 y.0.0 y.0.1 is (lit< tt) all.0) (raw-piece after 32 y.1) in
    subst (λ n. TimePiece (rest_events d n y) (rest_cuts st n y) st (rest_next st n y)) (sym new)
    (along _ (events ++ raw_events 32 y.1) _ (cuts ++ raw_cuts 32 y.1) st after (rest_next st (new_symbol d) y) (new-rest d y) (new-cuts st y) refl at both))
    (λ (old : s ≡ new_symbol d → ⊥).
    let near = is-near d s (omega (arith, range, old)) differs in
    let all = near-asked d s y near asked in
    let ctx : ℕ = context d s in
    let at : (rest_next st s y).integers ≡ int_next st.integers ctx y.0.0 y.0.1 = cond-false _ _ _ near.same ∙ ap (λ n. int_next st.integers n y.0.0 y.0.1) (cond-false _ _ _ near.new) in
    along _ (corrector_events time_kind 32 ctx y.0.0 y.0.1) _ (int_cuts st.integers ctx y.0.0 y.0.1) st (after_word st ctx y.0.0 y.0.1) (rest_next st s y) (near-rest d s y near) (near-cuts st s ctx y near refl) refl at
    (word-piece st ctx y.0.0 y.0.1 is (context-few d s) all.0))
    (cases_eq s (new_symbol d)))
    (cases_eq s (same_symbol d))

-- ---- all of a time
pub choice-piece : (st : TimeState) (x : Choice) → IsTimeState st → IsChoice st x → TimePiece (choice_events st x) (choice_cuts st x) st (choice_next st x)
choice-piece st x is asked =
    let i : ℕ = x.0.0 in
    let s : ℕ = x.0.1 in
    let on = state_on st i in
    let d = difference_of on in
    let there = state-switched st i is in
    let second = symbol-piece on s there (omega (arith, asked.0.1, symbols-are d)) in
    let third = rest-piece (symbol_next on s) s x.1 (state-symbol on s there) asked.0.1 asked.1 in
    let more = then-piece (time_symbol d s ∷ []) (rest_events d s x.1) (time_symbol_cuts on s) (rest_cuts (symbol_next on s) s x.1) on (symbol_next on s) (choice_next st x) second third in
    let all = then-piece (switch_events (difference_of st) i) (time_symbol d s ∷ rest_events d s x.1) (switch_cuts st i) (time_symbol_cuts on s ++ rest_cuts (symbol_next on s) s x.1) st on (choice_next st x) (switch-piece st i is asked.0.0) more in
    subst (λ (cs : List Cut). TimePiece (choice_events st x) cs st (choice_next st x)) (sym (append_assoc (switch_cuts st i) (time_symbol_cuts on s) (rest_cuts (symbol_next on s) s x.1))) all

-- ---- the slots
switched-sequences : (st : TimeState) (i : ℕ) → (state_on st i).sequences ≡ after_switch st.sequences i
switched-sequences st i =
    ⊎_elim
    (λ (none : i ≡ 0). let b = eq-eqb i 0 none in ap (λ (t : TimeState). t.sequences) (cond-true _ _ _ b) ∙ sym (cond-true _ _ _ b))
    (λ (some : i ≡ 0 → ⊥). ap (λ (t : TimeState). t.sequences) (switched-some st i some))
    (cases_eq i 0)

slot-switched : (points : List Point) (st : TimeState) (i : ℕ) → AreSlots points st.sequences
    → slot_of (state_on st i) ≡ record { time = time_on points i; difference = difference_on points i; extremes = extremes points (sequence_on points i) }
slot-switched points st i h = ap (λ (q : Sequences). slot_at q q.last) (switched-sequences st i) ∙ slot-moved points st.sequences i h

choice-slots : (points : List Point) (st : TimeState) (x : Choice) → AreSlots points st.sequences → IsChoice st x → AreSlots (point_with (choice_time st x) (choice_events st x) ∷ points) (choice_next st x).sequences
choice-slots points st x h asked =
    let i : ℕ = x.0.0 in
    let s : ℕ = x.0.1 in
    let d = difference_of (state_on st i) in
    let time = choice_time st x in
    let p : Point = point_with time (choice_events st x) in
    let is = says (difference_of st) d i s (rest_events d s x.1) asked.0.0 asked.0.1 (quiet-rest_events d s x.1 (rest-width d s x.1 asked.1)) in
    let to : after_point (after_switch st.sequences (point_switch p)) (point_meaning p) time ≡ (choice_next st x).sequences =
    ap (λ n. after_point (after_switch st.sequences n) (point_meaning p) time) is.point_switch ∙ (ap (λ (m : Meaning). after_point (after_switch st.sequences i) m time) is.point_meaning ∙ ap (λ (q : Sequences). after_point q (meaning (model_of d) s) time) (sym (switched-sequences st i))) in
    subst (λ (q : Sequences). AreSlots (p ∷ points) q) to (AreSlots-push points p st.sequences h)

-- ---- choices and spellings
abbrev pub spelled : TimeState → Choice → List Event × ℕ
spelled st x = (choice_events st x, choice_time st x)

choice-spells : (points : List Point) (st : TimeState) (x : Choice) → AreSlots points st.sequences → IsChoice st x → SpellsTime points (choice_events st x) (choice_time st x)
choice-spells points st x h asked =
    let i : ℕ = x.0.0 in
    let s : ℕ = x.0.1 in
    let slot = slot_of (state_on st i) in
    let at = slot-switched points st i h in
    let d : slot.difference ≡ difference_on points i = ap (λ (k : Slot). k.difference) at in
    let from : slot.time ≡ time_on points i = ap (λ (k : Slot). k.time) at in
    let first : difference_of st ≡ difference_on points 0 = ap (λ (k : Slot). k.difference) (slot-here points st.sequences h) in
    let events : List Event = time_symbol slot.difference s ∷ rest_events slot.difference s x.1 in
    let time : ℕ = choice_time st x in
    let spells : Spells slot.difference slot.time events time = spelled-rest slot.difference slot.time s x.1 asked.0.1 asked.1 in
    record {
      i = i;
      few = asked.0.0;
      rest = time_symbol slot.difference s ∷ rest_events slot.difference s x.1;
      is = ap (λ n. switch_events n i ++ (time_symbol slot.difference s ∷ rest_events slot.difference s x.1)) first;
      spells = subst (λ n. Spells n (time_on points i) events time) d (subst (λ n. Spells slot.difference n events time) from spells);
    }

same_spelled : (xs ys : List Event) (m n : ℕ) → xs ≡ ys → m ≡ n → ◌≡◌ {A = List Event × ℕ} (xs, m) (ys, n)
same_spelled xs ys m n e f = cc

spells-choice : (points : List Point) (st : TimeState) (z : List Event × ℕ) → AreSlots points st.sequences → SpellsTime points z.0 z.1 → (x : Choice) × IsChoice st x × (spelled st x ≡ z)
spells-choice points st z h spelling =
    let i : ℕ = spelling.i in
    let slot = slot_of (state_on st i) in
    let at = slot-switched points st i h in
    let d : difference_on points i ≡ slot.difference = ap (λ (k : Slot). k.difference) (sym at) in
    let from : time_on points i ≡ slot.time = ap (λ (k : Slot). k.time) (sym at) in
    let first : difference_on points 0 ≡ difference_of st = ap (λ (k : Slot). k.difference) (sym (slot-here points st.sequences h)) in
    let c = chosen-rest (difference_on points i) (time_on points i) spelling.rest z.1 spelling.spells in
    let e : Chosen slot.difference slot.time spelling.rest z.1 = subst (λ n. Chosen slot.difference n spelling.rest z.1) from (subst (λ n. Chosen n (time_on points i) spelling.rest z.1) d c) in
    let x : Choice = ((i, e.s), e.y) in
    let is : z.0 ≡ choice_events st x = spelling.is ∙ (ap (λ n. switch_events n i ++ spelling.rest) first ∙ ap (λ l. switch_events (difference_of st) i ++ l) e.is) in
    (x, ((spelling.few, e.range), e.asked), same_spelled (choice_events st x) z.0 (choice_time st x) z.1 (sym is) (sym e.makes))

-- ---- from the models to the events, for an item that stands for earlier events and points
module _ (earlier : List Event) (points : List Point) (st : TimeState) (is : IsTimeState st) (h : TimeStands earlier points st) where
  events-cut : (x : Choice) → IsChoice st x → spelled_cuts earlier (spelled st x) ≡ choice_cuts st x
  events-cut x asked = (choice-piece st x is asked).cut earlier h.models

  pub takes-time : (a b : Decoding) (x : Choice) → Takes (IsChoice st) (choice_cuts st) a b x → Takes (IsSpelledTime points) (spelled_cuts earlier) a b (spelled st x)
  takes-time a b x f =
      Takes-through (spelled st) (IsChoice st) (IsSpelledTime points) (choice_cuts st) (spelled_cuts earlier) a b x
      (λ y asked. choice-spells points st y h.slots asked) (λ z spelling. spells-choice points st z h.slots spelling) events-cut f

  pub refuses-time : (a b : Decoding) → Refuses (IsChoice st) (choice_cuts st) a b → Refuses (IsSpelledTime points) (spelled_cuts earlier) a b
  refuses-time a b f =
      Refuses-through (spelled st) (IsChoice st) (IsSpelledTime points) (choice_cuts st) (spelled_cuts earlier) a b (λ z spelling. spells-choice points st z h.slots spelling) events-cut f

  -- what was read is what was spelled
  pub reads-time : (a b : Decoding) (x : Choice) (time : ℕ) (new : TimeState) → Takes (IsChoice st) (choice_cuts st) a b x → time ≡ choice_time st x → new ≡ choice_next st x → ReadsTime earlier points time a b new
  reads-time a b x time new f e n =
      let here : Takes (IsSpelledTime points) (spelled_cuts earlier) a b (choice_events st x, time) = subst (λ (t : ℕ). Takes (IsSpelledTime points) (spelled_cuts earlier) a b (choice_events st x, t)) (sym e) (takes-time a b x f) in
      let asked = f.choice.asked in
      let stood : TimeStands (earlier ++ choice_events st x) (point_with (choice_time st x) (choice_events st x) ∷ points) (choice_next st x) =
      record { models = (choice-piece st x is asked).stands earlier h.models; slots = choice-slots points st x h.slots asked } in
      record {
        events = choice_events st x;
        takes = here;
        reads = λ sizes has before.
            Takes-ReadsOn (IsSpelledTime points) (spelled_cuts earlier) a b (choice_events st x, time)
            (AreCuts-ranged sizes earlier (choice_events st x) before (time-ranged sizes points (choice_events st x) time has here.choice.asked)) here;
        stands =
            subst (λ (s : TimeState). TimeStands (earlier ++ choice_events st x) (point_with time (choice_events st x) ∷ points) s) (sym n)
            (subst (λ (t : ℕ). TimeStands (earlier ++ choice_events st x) (point_with t (choice_events st x) ∷ points) (choice_next st x)) (sym e) stood);
      }

-- ---- in the words of what begins the bytes, after lawful events
module _ (sizes : Name → ℕ) (has : HasTimeSizes sizes) (earlier : List Event) (before : AreRanged sizes earlier) (points : List Point) where
  spelled-lawful : (z : List Event × ℕ) → IsSpelledTime points z → AreCuts (spelled_cuts earlier z)
  spelled-lawful z asked = AreCuts-ranged sizes earlier z.0 before (time-ranged sizes points z.0 z.1 has asked)

  pub none-time : (a b : Decoding) → Refuses (IsSpelledTime points) (spelled_cuts earlier) a b → NoneBegins (IsSpelledTime points) (spelled_cuts earlier) a
  none-time a b f = Refuses-NoneBegins (IsSpelledTime points) (spelled_cuts earlier) a b spelled-lawful f

  pub one-time : (a b : Decoding) (z : List Event × ℕ) → Takes (IsSpelledTime points) (spelled_cuts earlier) a b z → OneBegins (IsSpelledTime points) earlier a z.1
  one-time a b z f read had y asked begins = ap (λ (w : List Event × ℕ). w.1) (Takes-begins (IsSpelledTime points) (spelled_cuts earlier) a b z spelled-lawful f read had y asked begins)
