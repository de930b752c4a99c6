-- At most one list of entries is spelled by events that begin some bytes.
use Rattle.std.proofs.Common.{◌≡◌, ℕ, ℤ, ◌+◌, ◌-◌, ◌*◌, ◌/◌, ◌%◌, ◌^◌, ◌<◌, ◌≤◌, eqb, Bool, if◌then◌else◌, List, [], ◌∷◌, ◌++◌, length, drop, refl, sym, ap, subst, ◌∙◌, arith, ⊎_elim, append_assoc}
use Rattle.std.proofs.lemmas.Bool.{cases_eq, cases_lt, eq-eqb, ne_eqb}
use Rattle.std.proofs.lemmas.Nat.{shr_split}
use Rattle.std.specs.Int.{w32, cast_unsigned}
use Rattle.std.proofs.lemmas.Int.{of_z-to_z}
use Rattle.laz_range.specs.Span.{Begins, IsBytes, initial_span, span}
use Rattle.laz_range.specs.Cut.{Cut, AreCuts}
use Rattle.laz_range.proofs.Public.{initial_span-IsSpan, fronts, one}
use Rattle.laz_integer.specs.Corrector.{choices, corrected}
use Rattle.laz_integer.specs.Events.{Event, Symbol, Flag, Bits, Name, cut_after, cuts_after, cuts_of, raw_events}
use Rattle.laz_integer.specs.Integer.{IntSpell, bit_name, corrector_events, high_name, rest_events, width_name}
use Rattle.laz_integer.specs.Ranged.{AreOneKind, AreRanged, IsRanged}
use Rattle.laz_integer.proofs.Public.{by-width, cuts_after-append, raw-short, raw-wide, AreAlike-ranged, AreCuts-ranged, AreRanged-append, Begins-more, IsCut-ranged, event-from_cut, cons_same}
use Rattle.laz_table.specs.Entries.{Entry, Latest, SpellsEntries, SpellsEntry, after_entry, context_of, prediction, signed, table_use}
use Rattle.laz_table.specs.Steps.{next_counts_points}
use Rattle.laz_table.proofs.Bridge.{AreInTurn, cons_entry}

-- ---- lists of events, each of one kind as long as the events before them are equal
abbrev pub SameKinds : List Event → List Event → Type 0
SameKinds [] [] = Unit {0}
SameKinds [] (e ∷ es) = ⊥
SameKinds (d ∷ ds) [] = ⊥
SameKinds (d ∷ ds) (e ∷ es) = AreOneKind d e × (d ≡ e → SameKinds ds es)

module _ (sizes : Name → ℕ) (bytes : List ℕ) (are : IsBytes bytes) where
  -- the front of a list that begins the bytes begins them
  pub front-begins : (front rest : List Event) → AreRanged sizes (front ++ rest) → Begins (span (cuts_of (front ++ rest))) bytes → Begins (span (cuts_of front)) bytes
  front-begins front rest all h =
      let both = cuts_after-append [] front rest in
      fronts initial_span (cuts_of front) (cuts_after front rest) bytes initial_span-IsSpan (subst (λ (cs : List Cut). AreCuts cs) both (AreCuts-ranged sizes [] (front ++ rest) tt all)) are
      (subst (λ (cs : List Cut). Begins (span cs) bytes) both h)

  one-event : (front : List Event) (d e : Event) → AreRanged sizes front → IsRanged sizes d → IsRanged sizes e → AreOneKind d e
      → Begins (span (cuts_of (front ++ d ∷ []))) bytes → Begins (span (cuts_of (front ++ e ∷ []))) bytes → d ≡ e
  one-event front d e before f g same h k =
      event-from_cut sizes front d e before f g same
      (one (cuts_of front) (cut_after front d) (cut_after front e) bytes are (IsCut-ranged sizes front d before f) (IsCut-ranged sizes front e before g) (AreAlike-ranged sizes front d e before f g same) (Begins-more front d bytes h) (Begins-more front e bytes k))

  next-begins : (front : List Event) (e : Event) (es : List Event) → AreRanged sizes front → AreRanged sizes (e ∷ es) → Begins (span (cuts_of (front ++ e ∷ es))) bytes
      → Begins (span (cuts_of ((front ++ e ∷ []) ++ es))) bytes × Begins (span (cuts_of (front ++ e ∷ []))) bytes
  next-begins front e es before all h =
      let split : front ++ e ∷ es ≡ (front ++ e ∷ []) ++ es = sym (append_assoc front (e ∷ []) es) in
      let whole : Begins (span (cuts_of ((front ++ e ∷ []) ++ es))) bytes = subst (λ (l : List Event). Begins (span (cuts_of l)) bytes) split h in
      let lawful : AreRanged sizes ((front ++ e ∷ []) ++ es) = AreRanged-append sizes (front ++ e ∷ []) es (AreRanged-append sizes front (e ∷ []) before (all.0, tt)) all.1 in
      (whole, front-begins (front ++ e ∷ []) es lawful whole)

  pub one-list : (front ds es : List Event) → AreRanged sizes front → AreRanged sizes ds → AreRanged sizes es → SameKinds ds es → Begins (span (cuts_of (front ++ ds))) bytes → Begins (span (cuts_of (front ++ es))) bytes → ds ≡ es
  one-list front [] [] before f g same h k = refl
  one-list front [] (e ∷ es) before f g same h k = absurd same
  one-list front (d ∷ ds) [] before f g same h k = absurd same
  one-list front (d ∷ ds) (e ∷ es) before f g same h k =
      let first = next-begins front d ds before f h in
      let second = next-begins front e es before g k in
      let eq : d ≡ e = one-event front d e before f.0 g.0 same.0 first.1 second.1 in
      let there : Begins (span (cuts_of ((front ++ d ∷ []) ++ es))) bytes = subst (λ (x : Event). Begins (span (cuts_of ((front ++ x ∷ []) ++ es))) bytes) (sym eq) second.0 in
      cons_same d e ds es eq (one-list (front ++ d ∷ []) ds es (AreRanged-append sizes front (d ∷ []) before (f.0, tt)) f.1 g.1 (same.1 eq) first.0 there)

-- ---- two correctors
raw-kinds : (b v w : ℕ) → SameKinds (raw_events b v) (raw_events b w)
raw-kinds b v w =
    ⊎_elim
    (λ (wide : 19 < b). rw (raw-wide b v wide, raw-wide b w wide) (refl, λ same. (refl, λ other. tt)))
    (λ (short : b ≤ 19). rw (raw-short b v short, raw-short b w short) (refl, λ same. tt))
    (cases_lt 19 b)

rest-kinds : (kind : List ℕ) (k v w : ℕ) → k ≤ 32 → SameKinds (rest_events kind k v) (rest_events kind k w)
rest-kinds kind k v w few =
    by-width (λ es. SameKinds es (rest_events kind k w)) kind k v few
    (λ zero_is. by-width (λ es. SameKinds (Flag (bit_name kind) (eqb v 1) ∷ []) es) kind k w few
    (λ e. (refl, λ same. tt)) (λ most. absurd (omega (arith, zero_is, most))) (λ some narrow. absurd (omega (arith, zero_is, some))) (λ wide small. absurd (omega (arith, zero_is, wide))))
    (λ most. by-width (λ es. SameKinds [] es) kind k w few
    (λ e. absurd (omega (arith, e, most))) (λ e. tt) (λ some narrow. absurd (omega (arith, most, narrow))) (λ wide small. absurd (omega (arith, most, small))))
    (λ some narrow. by-width (λ es. SameKinds (Symbol (high_name kind k) (2 ^ k) v ∷ []) es) kind k w few
    (λ e. absurd (omega (arith, e, some))) (λ most. absurd (omega (arith, most, narrow))) (λ many few. (refl, λ same. tt)) (λ wide small. absurd (omega (arith, narrow, wide))))
    (λ wide small. by-width (λ es. SameKinds (Symbol (high_name kind k) 256 (v / 2 ^ (k - 8)) ∷ raw_events (k - 8) (v % 2 ^ (k - 8))) es) kind k w few
    (λ e. absurd (omega (arith, e, wide))) (λ most. absurd (omega (arith, most, small))) (λ some narrow. absurd (omega (arith, narrow, wide))) (λ more less. (refl, λ same. raw-kinds (k - 8) (v % 2 ^ (k - 8)) (w % 2 ^ (k - 8)))))

symbol_same : (a b : Name) (n m s t : ℕ) → Symbol a n s ≡ Symbol b m t → s ≡ t
symbol_same a b n m s t e = cc

pub corrector-kinds : (kind : List ℕ) (ctx k v j w : ℕ) → k ≤ 32 → SameKinds (corrector_events kind 32 ctx k v) (corrector_events kind 32 ctx j w)
corrector-kinds kind ctx k v j w few =
    (refl, λ same. subst (λ (i : ℕ). SameKinds (rest_events kind k v) (rest_events kind i w)) (symbol_same (width_name kind ctx) (width_name kind ctx) 33 33 k j same) (rest-kinds kind k v w few))

-- the index that a corrector's events have after its width
abbrev raw_in : List Event → ℕ
raw_in [] = 0
raw_in (Symbol name n s ∷ es) = 0
raw_in (Flag name bit ∷ es) = 0
raw_in (Bits b v ∷ []) = v
raw_in (Bits b v ∷ Bits c w ∷ es) = v + 65536 * w
raw_in (Bits b v ∷ Symbol name n s ∷ es) = 0
raw_in (Bits b v ∷ Flag name bit ∷ es) = 0

abbrev index_in : ℕ → List Event → ℕ
index_in k [] = 0
index_in k (Flag name bit ∷ es) = if bit then 1 else 0
index_in k (Symbol name n s ∷ es) = s * 2 ^ (k - 8) + raw_in es
index_in k (Bits b v ∷ es) = 0

raw-back : (b v : ℕ) → raw_in (raw_events b v) ≡ v
raw-back b v =
    ⊎_elim
    (λ (wide : 19 < b). ap raw_in (raw-wide b v wide) ∙ (let whole : v % 65536 + 65536 * (v / 65536) ≡ v = omega arith in whole))
    (λ (short : b ≤ 19). ap raw_in (raw-short b v short))
    (cases_lt 19 b)

choices-zero : choices 0 ≡ 2
unfolding choices
choices-zero = refl

choices-most : choices 32 ≡ 1
unfolding choices
choices-most = refl

index-back : (kind : List ℕ) (k v : ℕ) → k ≤ 32 → v < choices k → index_in k (rest_events kind k v) ≡ v
index-back kind k v few small =
    by-width (λ es. index_in k es ≡ v) kind k v few
    (λ zero_is.
    let two : v < 2 = omega (arith, small, ap choices zero_is, choices-zero) in
    ⊎_elim
    (λ (is : v ≡ 1). ap (λ b. if b then 1 else 0) (eq-eqb v 1 is) ∙ sym is)
    (λ (ne : v ≡ 1 → ⊥). ap (λ b. if b then 1 else 0) (ne_eqb v 1 ne) ∙ omega (arith, ne, two))
    (cases_eq v 1))
    (λ most. omega (arith, small, ap choices most, choices-most))
    (λ some narrow.
    let none : k - 8 ≡ 0 = omega (arith, narrow) in
    let unit : 2 ^ (k - 8) ≡ 1 = ap (λ n. 2 ^ n) none in
    ap (λ n. v * n + 0) unit ∙ omega arith)
    (λ wide less. ap (λ n. v / 2 ^ (k - 8) * 2 ^ (k - 8) + n) (raw-back (k - 8) (v % 2 ^ (k - 8))) ∙ shr_split v (k - 8))

width_in : List Event → ℕ
width_in [] = 0
width_in (Symbol name n s ∷ es) = s
width_in (Flag name bit ∷ es) = 0
width_in (Bits b v ∷ es) = 0

width-back : (kind : List ℕ) (ctx k v : ℕ) → width_in (corrector_events kind 32 ctx k v) ≡ k
unfolding width_in
width-back kind ctx k v = refl

pub corrector-back : (kind : List ℕ) (ctx k v j w : ℕ) → k ≤ 32 → j ≤ 32 → v < choices k → w < choices j → corrector_events kind 32 ctx k v ≡ corrector_events kind 32 ctx j w → (k ≡ j) × (v ≡ w)
corrector-back kind ctx k v j w few less small little e =
    let widths : k ≡ j = sym (width-back kind ctx k v) ∙ (ap width_in e ∙ width-back kind ctx j w) in
    let rest : rest_events kind k v ≡ rest_events kind j w = ap (λ l. drop 1 l) e in
    (widths, sym (index-back kind k v few small) ∙ (ap (index_in k) rest ∙ (ap (λ n. index_in n (rest_events kind j w)) widths ∙ index-back kind j w less little)))

-- ---- two spellings of an integer with one prediction
pub one-int : (sizes : Name → ℕ) (bytes : List ℕ) → IsBytes bytes → (front first other : List Event) (ctx : ℕ) (pred value result : ℤ) (k j : ℕ) → AreRanged sizes front → AreRanged sizes first → AreRanged sizes other
    → IntSpell table_use 32 ctx pred first value k → IntSpell table_use 32 ctx pred other result j → Begins (span (cuts_of (front ++ first))) bytes → Begins (span (cuts_of (front ++ other))) bytes → (first ≡ other) × (value ≡ result)
one-int sizes bytes are front first other ctx pred value result k j before f g h m begins begun =
    let kinds : SameKinds first other = subst (λ (l : List Event). SameKinds l other) (sym h.is) (subst (λ (l : List Event). SameKinds (corrector_events table_use 32 ctx k h.v) l) (sym m.is) (corrector-kinds table_use ctx k h.v j m.v h.width)) in
    let same : first ≡ other = one-list sizes bytes are front first other before f g kinds begins begun in
    let back = corrector-back table_use ctx k h.v j m.v h.width m.width h.within m.within (sym h.is ∙ (same ∙ m.is)) in
    (same, h.makes ∙ (ap (λ n. corrected 32 pred n h.v) back.0 ∙ (ap (λ n. corrected 32 pred j n) back.1 ∙ sym m.makes)))

-- ---- two lists of entries

same_fields : (b c : Bool) (n m : ℕ) → b ≡ c → n ≡ m → (let e : Entry = record { counts_points = b; number = n } in e) ≡ record { counts_points = c; number = m }
same_fields b c n m e f = cc

module _ (sizes : Name → ℕ) (bytes : List ℕ) (are : IsBytes bytes) (lawful : (l : Latest) (events : List Event) (e : Entry) → SpellsEntry l events e → AreRanged sizes events)
    (all-lawful : (l : Latest) (events : List Event) (entries : List Entry) → SpellsEntries l events entries → AreRanged sizes events) where
  pub one-entry : (front first other : List Event) (l : Latest) (d e : Entry) → d.counts_points ≡ e.counts_points → AreRanged sizes front → SpellsEntry l first d → SpellsEntry l other e
      → Begins (span (cuts_of (front ++ first))) bytes → Begins (span (cuts_of (front ++ other))) bytes → (first ≡ other) × (d ≡ e)
  one-entry front first other l d e kind before h k begins begun =
      let spells : IntSpell table_use 32 (context_of d.counts_points) (signed (prediction d.counts_points l)) other (signed e.number) k.width =
      subst (λ (b : Bool). IntSpell table_use 32 (context_of b) (signed (prediction b l)) other (signed e.number) k.width) (sym kind) k.spells in
      let both = one-int sizes bytes are front first other (context_of d.counts_points) (signed (prediction d.counts_points l)) (signed d.number) (signed e.number) h.width k.width before (lawful l first d h) (lawful l other e k) h.spells spells begins begun in
      let number : d.number ≡ e.number = sym (of_z-to_z w32 d.number h.fits) ∙ (ap (cast_unsigned w32) both.1 ∙ of_z-to_z w32 e.number k.fits) in
      (both.0, same_fields d.counts_points e.counts_points d.number e.number kind number)

  first-begins : (front events first rest : List Event) → events ≡ first ++ rest → AreRanged sizes front → AreRanged sizes first → AreRanged sizes rest → Begins (span (cuts_of (front ++ events))) bytes
      → Begins (span (cuts_of ((front ++ first) ++ rest))) bytes × Begins (span (cuts_of (front ++ first))) bytes
  first-begins front events first rest is before f g h =
      let split : front ++ events ≡ (front ++ first) ++ rest = ap (λ l. front ++ l) is ∙ sym (append_assoc front first rest) in
      let whole : Begins (span (cuts_of ((front ++ first) ++ rest))) bytes = subst (λ (l : List Event). Begins (span (cuts_of l)) bytes) split h in
      let all : AreRanged sizes ((front ++ first) ++ rest) = AreRanged-append sizes (front ++ first) rest (AreRanged-append sizes front first before f) g in
      (whole, front-begins sizes bytes are (front ++ first) rest all whole)

  pub one-table : (counted b : Bool) (l : Latest) (front events others : List Event) (ds es : List Entry) → AreInTurn counted b ds → AreInTurn counted b es → length ds ≡ length es → AreRanged sizes front
      → SpellsEntries l events ds → SpellsEntries l others es → Begins (span (cuts_of (front ++ events))) bytes → Begins (span (cuts_of (front ++ others))) bytes → ds ≡ es
  one-table counted b l front events others [] [] t u long before h k begins begun = refl
  one-table counted b l front events others [] (e ∷ es) t u long before h k begins begun = absurd (omega (arith, long))
  one-table counted b l front events others (d ∷ ds) [] t u long before h k begins begun = absurd (omega (arith, long))
  one-table counted b l front events others (d ∷ ds) (e ∷ es) t u long before h k begins begun =
      let f = lawful l h.0 d h.3 in
      let g = lawful l k.0 e k.3 in
      let first = first-begins front events h.0 h.1 h.2 before f (all-lawful (after_entry l d) h.1 ds h.4) begins in
      let second = first-begins front others k.0 k.1 k.2 before g (all-lawful (after_entry l e) k.1 es k.4) begun in
      let same = one-entry front h.0 k.0 l d e (t.0 ∙ sym u.0) before h.3 k.3 first.1 second.1 in
      let later : SpellsEntries (after_entry l d) k.1 es = subst (λ (x : Entry). SpellsEntries (after_entry l x) k.1 es) (sym same.1) k.4 in
      let there : Begins (span (cuts_of ((front ++ h.0) ++ k.1))) bytes = subst (λ (x : List Event). Begins (span (cuts_of ((front ++ x) ++ k.1))) bytes) (sym same.0) second.0 in
      cons_entry d e ds es same.1
      (one-table counted (next_counts_points counted b) (after_entry l d) (front ++ h.0) h.1 k.1 ds es t.1 u.1 (omega (arith, long)) (AreRanged-append sizes front h.0 before f) h.4 later first.0 there)
