use Rattle.std.proofs.Common.{◌≡◌, ℕ, ◌-◌, ◌/◌, ◌%◌, ◌<◌, ◌≤◌, eqb, ltb, Bool, true, false, List, [], ◌∷◌, ◌++◌, refl, sym, ap, ◌∙◌, ⊎_elim, append_assoc}
use Rattle.std.proofs.lemmas.Bool.{cases_lt, cond-true, cond-false, eq-eqb, ne_eqb, and_from, and_left, lt-ltb, le-ltb}
use Rattle.std.proofs.lemmas.List.{append-nil}
use Rattle.laz_range.specs.Cut.{raw_cuts}
use Rattle.laz_integer.specs.Events.{Event, Symbol, Flag, Bits, Name, same_text, same_name, symbols_under, bits_under, cut_after, cuts_after, raw_events}
use Rattle.laz_integer.specs.Integer.{IntState, width_name, bit_name, high_name, events_cuts, events_next}
use Rattle.laz_integer.proofs.Lists.{cond-append}

-- ---- names
pub same_text-refl : (xs : List ℕ) → same_text xs xs ≡ true
same_text-refl [] = refl
same_text-refl (x ∷ xs) = and_from (eqb x x) (same_text xs xs) (eq-eqb x x refl) (same_text-refl xs)

pub same-width : (kind : List ℕ) (c : ℕ) → same_name (width_name kind c) (width_name kind c) ≡ true
same-width kind c = and_from (eqb c c) (same_text kind kind) (eq-eqb c c refl) (same_text-refl kind)

pub same-high : (kind : List ℕ) (c : ℕ) → same_name (high_name kind c) (high_name kind c) ≡ true
same-high kind c = and_from (eqb c c) (same_text kind kind) (eq-eqb c c refl) (same_text-refl kind)

pub same-bit : (kind : List ℕ) → same_name (bit_name kind) (bit_name kind) ≡ true
same-bit kind = same_text-refl kind

pub other-width : (kind : List ℕ) (c d : ℕ) → (c ≡ d → ⊥) → same_name (width_name kind c) (width_name kind d) ≡ false
other-width kind c d ne = and_left (eqb c d) (same_text kind kind) (ne_eqb c d ne)

pub other-high : (kind : List ℕ) (c d : ℕ) → (c ≡ d → ⊥) → same_name (high_name kind c) (high_name kind d) ≡ false
other-high kind c d ne = and_left (eqb c d) (same_text kind kind) (ne_eqb c d ne)

-- ---- events after others
pub symbols_under-append : (name : Name) (xs ys : List Event) → symbols_under name (xs ++ ys) ≡ symbols_under name xs ++ symbols_under name ys
symbols_under-append name [] ys = refl
symbols_under-append name (Symbol other n s ∷ xs) ys = cond-append (same_name name other) s _ (symbols_under name xs) (symbols_under name ys) (symbols_under-append name xs ys)
symbols_under-append name (Flag other bit ∷ xs) ys = symbols_under-append name xs ys
symbols_under-append name (Bits b v ∷ xs) ys = symbols_under-append name xs ys

pub bits_under-append : (name : Name) (xs ys : List Event) → bits_under name (xs ++ ys) ≡ bits_under name xs ++ bits_under name ys
bits_under-append name [] ys = refl
bits_under-append name (Symbol other n s ∷ xs) ys = bits_under-append name xs ys
bits_under-append name (Flag other bit ∷ xs) ys = cond-append (same_name name other) bit _ (bits_under name xs) (bits_under name ys) (bits_under-append name xs ys)
bits_under-append name (Bits b v ∷ xs) ys = bits_under-append name xs ys

-- one symbol more under a name, or under another one
pub symbols-with : (name other : Name) (n s : ℕ) (xs : List Event) → same_name name other ≡ true → symbols_under name (xs ++ Symbol other n s ∷ []) ≡ symbols_under name xs ++ s ∷ []
symbols-with name other n s xs e = symbols_under-append name xs (Symbol other n s ∷ []) ∙ ap (λ l. symbols_under name xs ++ l) (cond-true (same_name name other) (s ∷ []) [] e)

pub symbols-without : (name other : Name) (n s : ℕ) (xs : List Event) → same_name name other ≡ false → symbols_under name (xs ++ Symbol other n s ∷ []) ≡ symbols_under name xs
symbols-without name other n s xs e =
    symbols_under-append name xs (Symbol other n s ∷ []) ∙ (ap (λ l. symbols_under name xs ++ l) (cond-false (same_name name other) (s ∷ []) [] e) ∙ append-nil (symbols_under name xs))

pub bits-with : (name other : Name) (bit : Bool) (xs : List Event) → same_name name other ≡ true → bits_under name (xs ++ Flag other bit ∷ []) ≡ bits_under name xs ++ bit ∷ []
bits-with name other bit xs e = bits_under-append name xs (Flag other bit ∷ []) ∙ ap (λ l. bits_under name xs ++ l) (cond-true (same_name name other) (bit ∷ []) [] e)

pub symbols-flag : (name other : Name) (bit : Bool) (xs : List Event) → symbols_under name (xs ++ Flag other bit ∷ []) ≡ symbols_under name xs
symbols-flag name other bit xs = symbols_under-append name xs (Flag other bit ∷ []) ∙ append-nil (symbols_under name xs)

pub bits-symbol : (name other : Name) (n s : ℕ) (xs : List Event) → bits_under name (xs ++ Symbol other n s ∷ []) ≡ bits_under name xs
bits-symbol name other n s xs = bits_under-append name xs (Symbol other n s ∷ []) ∙ append-nil (bits_under name xs)

-- ---- raw values
pub raw-wide : (b v : ℕ) → 19 < b → raw_events b v ≡ Bits 16 (v % 65536) ∷ Bits (b - 16) (v / 65536) ∷ []
raw-wide b v h = cond-true (ltb 19 b) _ _ (lt-ltb 19 b h)

pub raw-short : (b v : ℕ) → b ≤ 19 → raw_events b v ≡ Bits b v ∷ []
raw-short b v h = cond-false (ltb 19 b) _ _ (le-ltb 19 b h)

pub cuts-raw : (earlier : List Event) (b v : ℕ) → cuts_after earlier (raw_events b v) ≡ raw_cuts b v
cuts-raw earlier b v =
    ⊎_elim
    (λ (wide : 19 < b). ap (cuts_after earlier) (raw-wide b v wide) ∙ sym (cond-true (ltb 19 b) _ _ (lt-ltb 19 b wide)))
    (λ (short : b ≤ 19). ap (cuts_after earlier) (raw-short b v short) ∙ sym (cond-false (ltb 19 b) _ _ (le-ltb 19 b short)))
    (cases_lt 19 b)

pub events_cuts-raw : (st : IntState) (b v : ℕ) → events_cuts st (raw_events b v) ≡ raw_cuts b v
events_cuts-raw st b v =
    ⊎_elim
    (λ (wide : 19 < b). ap (events_cuts st) (raw-wide b v wide) ∙ sym (cond-true (ltb 19 b) _ _ (lt-ltb 19 b wide)))
    (λ (short : b ≤ 19). ap (events_cuts st) (raw-short b v short) ∙ sym (cond-false (ltb 19 b) _ _ (le-ltb 19 b short)))
    (cases_lt 19 b)

pub events_next-raw : (st : IntState) (b v : ℕ) → events_next st (raw_events b v) ≡ st
events_next-raw st b v =
    ⊎_elim
    (λ (wide : 19 < b). ap (events_next st) (raw-wide b v wide))
    (λ (short : b ≤ 19). ap (events_next st) (raw-short b v short))
    (cases_lt 19 b)

-- the parts of one list of events and then another
pub cuts_after-append : (earlier xs ys : List Event) → cuts_after earlier (xs ++ ys) ≡ cuts_after earlier xs ++ cuts_after (earlier ++ xs) ys
cuts_after-append earlier [] ys = ap (λ l. cuts_after l ys) (sym (append-nil earlier))
cuts_after-append earlier (e ∷ xs) ys =
    ap (λ l. cut_after earlier e ∷ l)
    (cuts_after-append (earlier ++ e ∷ []) xs ys ∙ ap (λ l. cuts_after (earlier ++ e ∷ []) xs ++ cuts_after l ys) (append_assoc earlier (e ∷ []) xs))
