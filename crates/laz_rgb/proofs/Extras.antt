-- Extra bytes: their symbols walked one at a time, and the events that spell them.
use Rattle.std.proofs.Common.{◌≡◌, ℕ, zero, suc, ◌+◌, ◌-◌, ◌<◌, Bool, true, false, List, [], ◌∷◌, ◌++◌, length, take, drop, get_or, set, refl, sym, ap, subst, ◌∙◌, arith}
use Rattle.std.proofs.lemmas.List.{length-replicate}
use Rattle.std.proofs.Math.Nat.{mod-lt}
use Rattle.laz_range.specs.Cut.{Cut, AreCuts}
use Rattle.laz_range.specs.Reading.{Reading}
use Rattle.laz_range.specs.Choice.{AllAsked, AreAsked, Only, all_cuts, state_after}
use Rattle.laz_range.specs.Coding.{Coding, Codes}
use Rattle.laz_range.specs.Decoding.{Decoding, NoneBegins, Refuses, Takes, TakesNone, reading_of}
use Rattle.laz_range.proofs.Public.{Nothing-more, Nothing-push, Only-push, all_cuts-push, state_after-push, Takes-step, Takes-through, Takes-ReadsOn, Takes-begins, Refuses-NoneBegins, Refuses-none, Refuses-step, Refuses-through, Codes-append}
use Rattle.laz_models.specs.Counting.{Counting}
use Rattle.laz_models.specs.Dist.{alphabet_size}
use Rattle.laz_models.specs.Bank.{model_at, alphabet_sizes}
use Rattle.laz_integer.specs.Events.{Event, Name, cuts_after}
use Rattle.laz_integer.specs.Ranged.{AreRanged}
use Rattle.laz_integer.specs.Fields.{BankStands, IsByte, byte_cuts, byte_next}
use Rattle.laz_integer.specs.Uses.{own_name}
use Rattle.laz_integer.proofs.Public.{AreCuts-ranged, Piece}
use Rattle.laz_rgb.specs.Rows.{AreRowModels, IsNextByte, IsRow, Row, byte_of, first_mark, next_cuts, next_row, row_at, row_events}
use Rattle.laz_integer.specs.Bytes.{byte_difference}
use Rattle.laz_rgb.specs.Extra.{SpellsExtra, all_marked, byte_kind, extra_events, extra_made, extra_symbols}
use Rattle.laz_rgb.specs.Items.{ExtraStands, ExtraState, HasExtraSizes, IsExtraState, IsSpelledExtra, ReadsExtra, latest_extra}
use Rattle.laz_integer.specs.Spelled.{OneBegins, spelled_cuts}
use Rattle.laz_rgb.proofs.Walks.{mark-after, model-after, row-models, sized-rows}
use Rattle.laz_rgb.proofs.Rowed.{RowSizes, row-piece, row-ranged}

-- ---- lists of symbols and of bytes, by place
pub length-symbols : (last now : List ℕ) → length now ≡ length last → length (extra_symbols last now) ≡ length last
length-symbols [] now e = refl
length-symbols (b ∷ last) [] e = absurd (omega (arith, e))
length-symbols (b ∷ last) (c ∷ now) e = ap suc (length-symbols last now (omega (arith, e)))

pub symbol-at : (last now : List ℕ) (i : ℕ) → length now ≡ length last → i < length last → get_or (extra_symbols last now) i 0 ≡ byte_difference (get_or last i 0) (get_or now i 0)
symbol-at [] now i e lt = absurd (omega (arith, lt))
symbol-at (b ∷ last) [] i e lt = absurd (omega (arith, e))
symbol-at (b ∷ last) (c ∷ now) zero e lt = refl
symbol-at (b ∷ last) (c ∷ now) (suc i) e lt = symbol-at last now i (omega (arith, e)) (omega (arith, lt))

-- bytes made one at a time: the first i are made, and the others still stand
pub made-step : (last xs part : List ℕ) (i s : ℕ) → length xs ≡ i → i < length last → length part ≡ length last → take i part ≡ extra_made last xs
    → take (suc i) (set part i (byte_of true (get_or last i 0) (get_or last i 0) s)) ≡ extra_made last (xs ++ s ∷ [])
made-step [] xs part i s n lt e h = absurd (omega (arith, lt))
made-step (b ∷ last) xs [] i s n lt e h = absurd (omega (arith, e))
made-step (b ∷ last) [] (p ∷ part) zero s n lt e h = made-none last (byte_of true b b s)
  where
    made-none : (last : List ℕ) (x : ℕ) → x ∷ [] ≡ x ∷ extra_made last []
    made-none [] x = refl
    made-none (b ∷ last) x = refl
made-step (b ∷ last) [] (p ∷ part) (suc i) s n lt e h = absurd (omega (arith, n))
made-step (b ∷ last) (x ∷ xs) (p ∷ part) zero s n lt e h = absurd (omega (arith, n))
made-step (b ∷ last) (x ∷ xs) (p ∷ part) (suc i) s n lt e h =
    let head : p ≡ byte_of true b b x = ap (λ l. get_or l 0 0) h in
    let tail : take i part ≡ extra_made last xs = ap (drop 1) h in
    let rest = made-step last xs part i s (omega (arith, n)) (omega (arith, lt)) (omega (arith, e)) tail in
    λ j. head j ∷ rest j

-- ---- a row whose bytes are all marked
pub all-at : (n i : ℕ) → i < n → get_or (all_marked n) i false ≡ true
all-at zero i lt = absurd (omega (arith, lt))
all-at (suc n) zero lt = refl
all-at (suc n) (suc i) lt = all-at n i (omega (arith, lt))

pub row-of : (row : Row) (xs : List ℕ) → AllAsked next_row IsNextByte row xs → length xs ≡ length row.marks → IsRow row.marks xs
row-of row xs h e = walk row.marks row.model row.bank xs h e
  where
    walk : (marks : List Bool) (m : ℕ) (bank : List Counting) (xs : List ℕ) → AllAsked next_row IsNextByte (row_at marks m bank) xs → length xs ≡ length marks → IsRow marks xs
    walk [] m bank [] h e = tt
    walk [] m bank (x ∷ xs) h e = absurd (omega (arith, e))
    walk (t ∷ marks) m bank [] h e = absurd (omega (arith, e))
    walk (t ∷ marks) m bank (x ∷ xs) h e = (h.0, walk marks (m + 1) (byte_next t bank m x) xs h.1 (omega (arith, e)))

pub asked-of : (marks : List Bool) (m : ℕ) (bank : List Counting) (xs : List ℕ) → IsRow marks xs → AreAsked next_row IsNextByte (row_at marks m bank) (length marks) xs
asked-of [] m bank [] h = (refl, tt)
asked-of [] m bank (x ∷ xs) h = absurd h
asked-of (t ∷ marks) m bank [] h = absurd h
asked-of (t ∷ marks) m bank (x ∷ xs) h = let rest = asked-of marks (m + 1) (byte_next t bank m x) xs h.1 in (ap suc rest.0, (h.0, rest.1))

module _ (n : ℕ) (bank : List Counting) where
  abbrev extra_row : Row
  extra_row = row_at (all_marked n) 0 bank

  -- the next byte of such a row, in the words of a call on one byte
  next-at : (xs : List ℕ) (i : ℕ) (now : List Counting) → length xs ≡ i → i < n → now ≡ (state_after next_row extra_row xs).bank
      → (first_mark (state_after next_row extra_row xs).marks ≡ true) × ((state_after next_row extra_row xs).model ≡ i) × ((state_after next_row extra_row xs).bank ≡ now)
  next-at xs i now e lt is = (mark-after extra_row xs ∙ (ap (λ k. get_or (all_marked n) k false) e ∙ all-at n i lt), model-after extra_row xs ∙ omega (arith, e), sym is)

  pub next-takes : (xs : List ℕ) (i s : ℕ) (now : List Counting) (a b : Decoding) → length xs ≡ i → i < n → now ≡ (state_after next_row extra_row xs).bank
      → Takes (IsByte true 0) (byte_cuts true now i) a b s → Takes (IsNextByte (state_after next_row extra_row xs)) (next_cuts (state_after next_row extra_row xs)) a b s
  next-takes xs i s now a b e lt is f =
      let at = next-at xs i now e lt is in
      let F : Bool × ℕ × List Counting → Type 0 = λ p. Takes {X = ℕ} (λ z. IsByte p.0 0 z) (λ z. byte_cuts p.0 p.2 p.1 z) a b s in
      subst F (λ j. (sym at.0 j, sym at.1 j, sym at.2 j)) f

  pub next-none : (xs : List ℕ) (i : ℕ) (now : List Counting) (a b : Decoding) → length xs ≡ i → i < n → now ≡ (state_after next_row extra_row xs).bank
      → TakesNone (IsByte true 0) (byte_cuts true now i) a b → TakesNone (IsNextByte (state_after next_row extra_row xs)) (next_cuts (state_after next_row extra_row xs)) a b
  next-none xs i now a b e lt is f =
      let at = next-at xs i now e lt is in
      let F : Bool × ℕ × List Counting → Type 0 = λ p. TakesNone {X = ℕ} (λ z. IsByte p.0 0 z) (λ z. byte_cuts p.0 p.2 p.1 z) a b in
      subst F (λ j. (sym at.0 j, sym at.1 j, sym at.2 j)) f

  pub next-codes : (xs : List ℕ) (i s : ℕ) (now : List Counting) (a b : Coding) → length xs ≡ i → i < n → now ≡ (state_after next_row extra_row xs).bank
      → Codes a b (byte_cuts true now i s) → Codes a b (next_cuts (state_after next_row extra_row xs) s)
  next-codes xs i s now a b e lt is f =
      let at = next-at xs i now e lt is in
      let F : Bool × ℕ × List Counting → Type 0 = λ p. Codes a b (byte_cuts p.0 p.2 p.1 s) in
      subst F (λ j. (sym at.0 j, sym at.1 j, sym at.2 j)) f

  pub next-bank : (xs : List ℕ) (i s : ℕ) (now new : List Counting) → length xs ≡ i → i < n → now ≡ (state_after next_row extra_row xs).bank
      → new ≡ byte_next true now i s → new ≡ (state_after next_row extra_row (xs ++ s ∷ [])).bank
  next-bank xs i s now new e lt is f =
      let at = next-at xs i now e lt is in
      let F : Bool × ℕ × List Counting → Type 0 = λ p. new ≡ byte_next p.0 p.2 p.1 s in
      subst F (λ j. (sym at.0 j, sym at.1 j, sym at.2 j)) f ∙ ap (λ (r : Row). r.bank) (sym (state_after-push next_row extra_row xs s))

  -- the first byte
  only-none : (r : Reading) → Only (AreAsked next_row IsNextByte extra_row 0) (all_cuts next_row next_cuts extra_row) r [] r
  only-none r = record { asked = (refl, tt); reads = refl; only = λ ys s asked e. empty ys asked.0 }
    where
      empty : (ys : List ℕ) → length ys ≡ 0 → ys ≡ []
      empty [] e = refl
      empty (y ∷ ys) e = absurd (omega (arith, e))

  pub first-takes : (s : ℕ) (a b : Decoding) → 0 < n → Takes (IsByte true 0) (byte_cuts true bank 0) a b s → Takes (AreAsked next_row IsNextByte extra_row 1) (all_cuts next_row next_cuts extra_row) a b (s ∷ [])
  first-takes s a b some f =
      let here = next-takes [] 0 s bank a b refl some refl f in
      record {
        choice = Only-push next_row IsNextByte next_cuts extra_row 0 (reading_of a) (reading_of a) (reading_of b) [] s (only-none (reading_of a)) here.choice;
        bytes = f.bytes;
        within = f.within;
        good = f.good;
      }

  pub first-none : (a b : Decoding) → 0 < n → TakesNone (IsByte true 0) (byte_cuts true bank 0) a b → Refuses (AreAsked next_row IsNextByte extra_row n) (all_cuts next_row next_cuts extra_row) a b
  first-none a b some f =
      let here = next-none [] 0 bank a b refl some refl f in
      record {
        nothing = Nothing-more next_row IsNextByte next_cuts extra_row 1 n (reading_of a) (omega (arith, some)) (Nothing-push next_row IsNextByte next_cuts extra_row 0 (reading_of a) (reading_of a) [] (only-none (reading_of a)) here.nothing);
        bytes = f.bytes;
      }

-- models of the same sizes, by their own numbers
pub extra-model : (n : ℕ) (bank new : List Counting) (i : ℕ) → alphabet_sizes new ≡ alphabet_sizes bank → AreRowModels n 0 bank → i < n → (i < length new) × (alphabet_size (model_at new i) ≡ 256)
extra-model n bank new i e models lt =
    let found = row-models n 0 bank new e models i lt in
    let same : 0 + i ≡ i = omega arith in
    subst (λ (k : ℕ). (k < length new) × (alphabet_size (model_at new k) ≡ 256)) same found

-- one byte more was coded
pub extra-step : (n : ℕ) (bank : List Counting) (xs : List ℕ) (i s : ℕ) (now new : List Counting) (a b c : Coding) → length xs ≡ i → i < n → now ≡ (state_after next_row (extra_row n bank) xs).bank
    → Codes a b (all_cuts next_row next_cuts (extra_row n bank) xs) → Codes b c (byte_cuts true now i s) → new ≡ byte_next true now i s
    → Codes a c (all_cuts next_row next_cuts (extra_row n bank) (xs ++ s ∷ [])) × (new ≡ (state_after next_row (extra_row n bank) (xs ++ s ∷ [])).bank)
extra-step n bank xs i s now new a b c e lt is f g made =
    let row = extra_row n bank in
    let last = next-codes n bank xs i s now b c e lt is g in
    let both = Codes-append a b c (all_cuts next_row next_cuts row xs) (next_cuts (state_after next_row row xs) s) f last in (
      subst (λ (cs : List Cut). Codes a c cs) (sym (all_cuts-push next_row next_cuts row xs s)) both,
      next-bank n bank xs i s now new e lt is made,
    )

-- one byte more was read
pub extra-more : (n : ℕ) (bank : List Counting) (xs : List ℕ) (i s : ℕ) (now : List Counting) (a b c : Decoding) → i < n → now ≡ (state_after next_row (extra_row n bank) xs).bank
    → Takes (AreAsked next_row IsNextByte (extra_row n bank) i) (all_cuts next_row next_cuts (extra_row n bank)) a b xs → Takes (IsByte true 0) (byte_cuts true now i) b c s
    → Takes (AreAsked next_row IsNextByte (extra_row n bank) (i + 1)) (all_cuts next_row next_cuts (extra_row n bank)) a c (xs ++ s ∷ [])
extra-more n bank xs i s now a b c lt is f g =
    Takes-step next_row IsNextByte next_cuts (extra_row n bank) (state_after next_row (extra_row n bank) xs) i a b c xs s refl f (next-takes n bank xs i s now b c f.choice.asked.0 lt is g)

pub extra-none : (n : ℕ) (bank : List Counting) (xs : List ℕ) (i : ℕ) (now : List Counting) (a b c : Decoding) → i < n → now ≡ (state_after next_row (extra_row n bank) xs).bank
    → Takes (AreAsked next_row IsNextByte (extra_row n bank) i) (all_cuts next_row next_cuts (extra_row n bank)) a b xs → TakesNone (IsByte true 0) (byte_cuts true now i) b c
    → Refuses (AreAsked next_row IsNextByte (extra_row n bank) n) (all_cuts next_row next_cuts (extra_row n bank)) a c
extra-none n bank xs i now a b c lt is f g =
    let here = Refuses-none (IsNextByte (state_after next_row (extra_row n bank) xs)) (next_cuts (state_after next_row (extra_row n bank) xs)) b c (next-none n bank xs i now b c f.choice.asked.0 lt is g) in
    Refuses-step next_row IsNextByte next_cuts (extra_row n bank) (state_after next_row (extra_row n bank) xs) i n a b c xs refl lt f here

-- ---- a writer's row, and the events of extra bytes
pub symbols-row : (last now : List ℕ) → length now ≡ length last → IsRow (all_marked (length last)) (extra_symbols last now)
symbols-row [] now e = tt
symbols-row (b ∷ last) [] e = absurd (omega (arith, e))
symbols-row (b ∷ last) (c ∷ now) e = (mod-lt (c + (256 - b)) (omega arith), symbols-row last now (omega (arith, e)))

pub row-length : (marks : List Bool) (xs : List ℕ) → IsRow marks xs → length xs ≡ length marks
row-length [] [] h = refl
row-length [] (x ∷ xs) h = absurd h
row-length (t ∷ marks) [] h = absurd h
row-length (t ∷ marks) (x ∷ xs) h = ap suc (row-length marks xs h.1)

pub extra-ranged : (sizes : Name → ℕ) (last : List ℕ) (events : List Event) (now : List ℕ) → HasExtraSizes sizes (length last) → SpellsExtra last events now → AreRanged sizes events
extra-ranged sizes last events now has h =
    let long : length h.symbols ≡ length last = row-length (all_marked (length last)) h.symbols h.row ∙ length-replicate {A = Bool} (length last) true in
    let rows : RowSizes sizes byte_kind 0 (length h.symbols) = λ j lt. let same : j ≡ 0 + j = omega arith in subst (λ (k : ℕ). sizes (own_name byte_kind k) ≡ 256) same (has j (omega (arith, lt, long))) in
    let all = row-ranged sizes byte_kind (all_marked (length last)) 0 h.symbols rows h.row in
    subst (λ (es : List Event). AreRanged sizes es) (sym h.is) all

-- ---- from the models to the events, for an item that stands for earlier events and bytes
module _ (earlier : List Event) (extras : List (List ℕ)) (st : ExtraState) (is : IsExtraState st) (h : ExtraStands earlier extras st) where
  abbrev n : ℕ
  n = length st.last

  abbrev row : Row
  row = extra_row n st.bank

  pub extra-models : AreRowModels n 0 st.bank
  extra-models = sized-rows n 0 st.bank [] is.sizes refl

  extra-piece : (xs : List ℕ) → IsRow (all_marked n) xs → Piece (byte_kind ∷ []) (row_events byte_kind (all_marked n) 0 xs) (all_cuts next_row next_cuts row xs) (λ l. BankStands byte_kind l st.bank) (λ l. BankStands byte_kind l (state_after next_row row xs).bank)
  extra-piece xs asked =
      let long : n ≡ length xs = sym (row-length (all_marked n) xs asked ∙ length-replicate {A = Bool} n true) in
      row-piece byte_kind (all_marked n) 0 st.bank xs (subst (λ (k : ℕ). AreRowModels k 0 st.bank) long extra-models) asked

  abbrev spelled_extra : List ℕ → List Event × List ℕ
  spelled_extra xs = (row_events byte_kind (all_marked n) 0 xs, extra_made st.last xs)

  asked-row : (xs : List ℕ) → AreAsked next_row IsNextByte row n xs → IsRow (all_marked n) xs
  asked-row xs asked = row-of row xs asked.1 (asked.0 ∙ sym (length-replicate {A = Bool} n true))

  to-extra : (xs : List ℕ) → AreAsked next_row IsNextByte row n xs → IsSpelledExtra extras (spelled_extra xs)
  to-extra xs asked = subst (λ (l : List ℕ). SpellsExtra l (row_events byte_kind (all_marked n) 0 xs) (extra_made st.last xs)) h.last (record { symbols = xs; row = asked-row xs asked; is = refl; makes = refl })

  from-extra : (z : List Event × List ℕ) → IsSpelledExtra extras z → (xs : List ℕ) × AreAsked next_row IsNextByte row n xs × (spelled_extra xs ≡ z)
  from-extra z asked =
      let here : SpellsExtra st.last z.0 z.1 = subst (λ (l : List ℕ). SpellsExtra l z.0 z.1) (sym h.last) asked in
      let found = asked-of (all_marked n) 0 st.bank here.symbols here.row in
      (here.symbols, subst (λ (k : ℕ). AreAsked next_row IsNextByte row k here.symbols) (length-replicate {A = Bool} n true) found, (λ i. (sym here.is i, sym here.makes i)))

  events-cut : (xs : List ℕ) → AreAsked next_row IsNextByte row n xs → spelled_cuts earlier (spelled_extra xs) ≡ all_cuts next_row next_cuts row xs
  events-cut xs asked = (extra-piece xs (asked-row xs asked)).cut earlier h.models

  pub takes-extra : (a b : Decoding) (xs : List ℕ) → Takes (AreAsked next_row IsNextByte row n) (all_cuts next_row next_cuts row) a b xs → Takes (IsSpelledExtra extras) (spelled_cuts earlier) a b (spelled_extra xs)
  takes-extra a b xs f = Takes-through spelled_extra (AreAsked next_row IsNextByte row n) (IsSpelledExtra extras) (all_cuts next_row next_cuts row) (spelled_cuts earlier) a b xs to-extra from-extra events-cut f

  pub refuses-extra : (a b : Decoding) → Refuses (AreAsked next_row IsNextByte row n) (all_cuts next_row next_cuts row) a b → Refuses (IsSpelledExtra extras) (spelled_cuts earlier) a b
  refuses-extra a b f = Refuses-through spelled_extra (AreAsked next_row IsNextByte row n) (IsSpelledExtra extras) (all_cuts next_row next_cuts row) (spelled_cuts earlier) a b from-extra events-cut f

  pub reads-extra : (a b : Decoding) (xs bytes : List ℕ) (new : List Counting) → Takes (AreAsked next_row IsNextByte row n) (all_cuts next_row next_cuts row) a b xs → bytes ≡ extra_made st.last xs → length bytes ≡ n
      → new ≡ (state_after next_row row xs).bank → ReadsExtra earlier extras bytes a b (record { bank = new; last = bytes })
  reads-extra a b xs bytes new f e long is' =
      let takes = takes-extra a b xs f in
      let events = row_events byte_kind (all_marked n) 0 xs in
      let here : Takes (IsSpelledExtra extras) (spelled_cuts earlier) a b (events, bytes) = subst (λ (l : List ℕ). Takes (IsSpelledExtra extras) (spelled_cuts earlier) a b (events, l)) (sym e) takes in
      let models = (extra-piece xs (asked-row xs f.choice.asked)).stands earlier h.models in
      record {
        events = events;
        takes = here;
        reads = λ sizes has before.
            let fits : HasExtraSizes sizes (length (latest_extra extras)) = subst (λ (k : ℕ). HasExtraSizes sizes k) (long ∙ ap length h.last) has in
            Takes-ReadsOn (IsSpelledExtra extras) (spelled_cuts earlier) a b (events, bytes) (AreCuts-ranged sizes earlier events before (extra-ranged sizes (latest_extra extras) events bytes fits here.choice.asked)) here;
        stands = record { models = subst (λ (l : List Counting). BankStands byte_kind (earlier ++ events) l) (sym is') models; last = refl };
      }

  pub codes-extra : (now : List ℕ) (a b : Coding) → length now ≡ n → Codes a b (all_cuts next_row next_cuts row (extra_symbols st.last now)) → Codes a b (cuts_after earlier (extra_events (latest_extra extras) now))
  codes-extra now a b long f =
      let here : Codes a b (cuts_after earlier (extra_events st.last now)) = subst (λ (cs : List Cut). Codes a b cs) (sym ((extra-piece (extra_symbols st.last now) (symbols-row st.last now long)).cut earlier h.models)) f in
      subst (λ (l : List ℕ). Codes a b (cuts_after earlier (extra_events l now))) h.last here

  pub stands-extra : (now : List ℕ) (new : List Counting) → length now ≡ n → new ≡ (state_after next_row row (extra_symbols st.last now)).bank
      → ExtraStands (earlier ++ extra_events (latest_extra extras) now) (now ∷ extras) (record { bank = new; last = now })
  stands-extra now new long e =
      let models = (extra-piece (extra_symbols st.last now) (symbols-row st.last now long)).stands earlier h.models in
      let here : BankStands byte_kind (earlier ++ extra_events st.last now) new = subst (λ (l : List Counting). BankStands byte_kind (earlier ++ extra_events st.last now) l) (sym e) models in
      record { models = subst (λ (l : List ℕ). BankStands byte_kind (earlier ++ extra_events l now) new) h.last here; last = refl }

-- ---- in the words of what begins the bytes, after lawful events
module _ (sizes : Name → ℕ) (earlier : List Event) (before : AreRanged sizes earlier) (extras : List (List ℕ)) (has : HasExtraSizes sizes (length (latest_extra extras))) where
  spelled-lawful : (z : List Event × List ℕ) → IsSpelledExtra extras z → AreCuts (spelled_cuts earlier z)
  spelled-lawful z asked = AreCuts-ranged sizes earlier z.0 before (extra-ranged sizes (latest_extra extras) z.0 z.1 has asked)

  pub none-extra : (a b : Decoding) → Refuses (IsSpelledExtra extras) (spelled_cuts earlier) a b → NoneBegins (IsSpelledExtra extras) (spelled_cuts earlier) a
  none-extra a b f = Refuses-NoneBegins (IsSpelledExtra extras) (spelled_cuts earlier) a b spelled-lawful f

  pub one-extra : (a b : Decoding) (z : List Event × List ℕ) → Takes (IsSpelledExtra extras) (spelled_cuts earlier) a b z → OneBegins (IsSpelledExtra extras) earlier a z.1
  one-extra a b z f read had y asked begins = ap (λ (w : List Event × List ℕ). w.1) (Takes-begins (IsSpelledExtra extras) (spelled_cuts earlier) a b z spelled-lawful f read had y asked begins)

-- without symbols nothing is made
pub none-made : (last : List ℕ) → extra_made last [] ≡ []
none-made [] = refl
none-made (b ∷ last) = refl
