-- Events that stand one after another, each under models of its own: which part each cuts out, and what the models
-- stand for. Meant for the crates of items, too.
use Rattle.std.proofs.Common.{◌≡◌, ℕ, ◌<◌, ◌≤◌, Bool, true, false, List, [], ◌∷◌, ◌++◌, length, set, refl, sym, ap, subst, ◌∙◌, arith, ⊎_elim, eqb, append_assoc}
use Rattle.std.proofs.lemmas.Bool.{cases_eq, and_from, and_left, eq-eqb, ne_eqb}
use Rattle.std.proofs.lemmas.List.{append-nil, get_or-set_same, get_or-set_other, length-set}
use Rattle.laz_range.specs.Cut.{Cut}
use Rattle.laz_models.specs.Counting.{Counting, after_symbol, new_model}
use Rattle.laz_models.specs.Dist.{alphabet_size}
use Rattle.laz_models.specs.Bank.{model_at}
use Rattle.laz_models.proofs.Public.{StandsFor-push}
use Rattle.laz_integer.specs.Events.{Event, Symbol, same_text, same_name, symbols_under, cuts_after}
use Rattle.laz_integer.specs.Integer.{IsInts, IntState, IsIntState, IntStands, IsCorrector, corrector_events, int_cuts, int_next, symbol_cut}
use Rattle.laz_integer.specs.Uses.{own_name, Silent, AllSilent, absent, apart}
use Rattle.laz_integer.specs.Fields.{if_marked, byte_events, BankStands, byte_cuts, byte_next, IsByte, word_cuts, word_next, IsWord}
use Rattle.laz_integer.proofs.Named.{same_text-refl, symbols-with, symbols-without, cuts_after-append}
use Rattle.laz_integer.proofs.Stood.{Comes, comes, symbol-cut}
use Rattle.laz_integer.proofs.Uses.{Silent-none, Silent-append, Silent-other, Silent-corrector, other_than, absent-split, AllSilent-split, all-silent, bank-silent, int-silent}
use Rattle.laz_integer.proofs.Lists.{two_lists}

-- Events of these uses, which cut these parts if the models before them stand for the earlier events. The models after
-- them then stand for both.
pub record Piece (kinds : List (List ℕ)) (events : List Event) (cuts : List Cut) (Before After : List Event → Type 0) : Type 0 where
  pub own : (kind : List ℕ) → absent kind kinds ≡ true → Silent kind events
  pub cut : (earlier : List Event) → Before earlier → cuts_after earlier events ≡ cuts
  pub stands : (earlier : List Event) → Before earlier → After (earlier ++ events)
  pub before : (earlier others : List Event) → AllSilent kinds others → Before earlier → Before (earlier ++ others)
  pub after : (earlier others : List Event) → AllSilent kinds others → After earlier → After (earlier ++ others)

-- one piece after another of other uses
pub Piece-both : (kinds more : List (List ℕ)) (es fs : List Event) (cs ds : List Cut) (B A C D : List Event → Type 0) → apart kinds more ≡ true → apart more kinds ≡ true
    → Piece kinds es cs B A → Piece more fs ds C D → Piece (kinds ++ more) (es ++ fs) (cs ++ ds) (λ l. B l × C l) (λ l. A l × D l)
Piece-both kinds more es fs cs ds B A C D one other f g =
    let here = all-silent more kinds es other f.own in
    let there = all-silent kinds more fs one g.own in
    record {
      own = λ kind e. let parts = absent-split kind kinds more e in Silent-append kind es fs (f.own kind parts.0) (g.own kind parts.1);
      cut = λ earlier h. cuts_after-append earlier es fs ∙ two_lists _ _ _ _ (f.cut earlier h.0) (g.cut (earlier ++ es) (g.before earlier es here h.1));
      stands = λ earlier h.
          let first : A ((earlier ++ es) ++ fs) = f.after (earlier ++ es) fs there (f.stands earlier h.0) in
          let second : D ((earlier ++ es) ++ fs) = g.stands (earlier ++ es) (g.before earlier es here h.1) in
          (subst A (append_assoc earlier es fs) first, subst D (append_assoc earlier es fs) second);
      before = λ earlier others silent h. let parts = AllSilent-split kinds more others silent in (f.before earlier others parts.0 h.0, g.before earlier others parts.1 h.1);
      after = λ earlier others silent h. let parts = AllSilent-split kinds more others silent in (f.after earlier others parts.0 h.0, g.after earlier others parts.1 h.1);
    }

-- one piece after another of the same uses, under the models that the first one leaves
pub Piece-then : (kinds : List (List ℕ)) (es fs : List Event) (cs ds : List Cut) (B M A : List Event → Type 0)
    → Piece kinds es cs B M → Piece kinds fs ds M A → Piece kinds (es ++ fs) (cs ++ ds) B A
Piece-then kinds es fs cs ds B M A f g =
    record {
      own = λ kind e. Silent-append kind es fs (f.own kind e) (g.own kind e);
      cut = λ earlier h. cuts_after-append earlier es fs ∙ two_lists _ _ _ _ (f.cut earlier h) (g.cut (earlier ++ es) (f.stands earlier h));
      stands = λ earlier h. subst A (append_assoc earlier es fs) (g.stands (earlier ++ es) (f.stands earlier h));
      before = f.before;
      after = g.after;
    }

-- no event
pub Piece-none : (kinds : List (List ℕ)) (B : List Event → Type 0) → ((earlier others : List Event) → AllSilent kinds others → B earlier → B (earlier ++ others)) → Piece kinds [] [] B B
Piece-none kinds B frame =
    record {
      own = λ kind e. Silent-none kind;
      cut = λ earlier h. refl;
      stands = λ earlier h. subst B (sym (append-nil earlier)) h;
      before = frame;
      after = frame;
    }

-- ---- one symbol of a bank
same_own : (kind : List ℕ) (m : ℕ) → same_name (own_name kind m) (own_name kind m) ≡ true
same_own kind m = and_from (eqb m m) (same_text kind kind) (eq-eqb m m refl) (same_text-refl kind)

other_own : (kind : List ℕ) (i m : ℕ) → (i ≡ m → ⊥) → same_name (own_name kind i) (own_name kind m) ≡ false
other_own kind i m ne = and_left (eqb i m) (same_text kind kind) (ne_eqb i m ne)

pub frame-bank : (kind : List ℕ) (bank : List Counting) (earlier others : List Event) → AllSilent (kind ∷ []) others → BankStands kind earlier bank → BankStands kind (earlier ++ others) bank
frame-bank kind bank earlier others silent h = bank-silent kind bank earlier others silent.0 h

pub frame-int : (kind : List ℕ) (st : IntState) (earlier others : List Event) → AllSilent (kind ∷ []) others → IntStands kind earlier st → IntStands kind (earlier ++ others) st
frame-int kind st earlier others silent h = int-silent kind st earlier others silent.0 h

pub Piece-symbol : (kind : List ℕ) (bank : List Counting) (m n s : ℕ) → m < length bank → alphabet_size (model_at bank m) ≡ n → 2 ≤ n → s < n
    → Piece (kind ∷ []) (Symbol (own_name kind m) n s ∷ []) (symbol_cut (model_at bank m) s ∷ []) (λ l. BankStands kind l bank) (λ l. BankStands kind l (set bank m (after_symbol (model_at bank m) s)))
Piece-symbol kind bank m n s within size many small =
    record {
      own = λ other e. Silent-other other kind (Symbol (own_name kind m) n s ∷ []) (other_than other kind e) (refl, tt);
      cut = λ earlier h. ap (λ c. c ∷ []) (symbol-cut earlier (own_name kind m) (model_at bank m) n s size (h m within));
      stands = λ earlier h j inside.
          ⊎_elim
          (λ (same : j ≡ m).
          rw (same, symbols-with (own_name kind m) (own_name kind m) n s earlier (same_own kind m), get_or-set_same bank m (after_symbol (model_at bank m) s) (new_model 2) within)
          (StandsFor-push (symbols_under (own_name kind m) earlier) s (model_at bank m) (omega (arith, size, many)) (omega (arith, size, small)) (h m within)))
          (λ (ne : j ≡ m → ⊥).
          rw (symbols-without (own_name kind j) (own_name kind m) n s earlier (other_own kind j m ne), get_or-set_other bank m j (after_symbol (model_at bank m) s) (new_model 2) ne)
          (h j (omega (arith, inside, length-set bank m (after_symbol (model_at bank m) s)))))
          (cases_eq j m);
      before = frame-bank kind bank;
      after = frame-bank kind (set bank m (after_symbol (model_at bank m) s));
    }

-- ---- an integer
pub Piece-int : (kind : List ℕ) (st : IntState) (n ctx k v : ℕ) → IsIntState st → st.bits ≡ n → ctx < st.contexts → IsCorrector n (k, v)
    → Piece (kind ∷ []) (corrector_events kind n ctx k v) (int_cuts st ctx k v) (λ l. IntStands kind l st) (λ l. IntStands kind l (int_next st ctx k v))
Piece-int kind st n ctx k v is bits within asked =
    let range : k ≤ st.bits = omega (arith, asked.0, bits) in
    let come : (earlier : List Event) → IntStands kind earlier st → Comes kind earlier (corrector_events kind n ctx k v) st (int_next st ctx k v) (int_cuts st ctx k v) =
    λ earlier h. subst (λ (b : ℕ). Comes kind earlier (corrector_events kind b ctx k v) st (int_next st ctx k v) (int_cuts st ctx k v)) bits (comes kind earlier st ctx k v is within range asked.1 h) in
    record {
      own = λ other e. Silent-corrector other kind n ctx k v (other_than other kind e) (omega (arith, is.few, bits)) asked.0 asked.1;
      cut = λ earlier h. (come earlier h).cuts;
      stands = λ earlier h. (come earlier h).stands;
      before = frame-int kind st;
      after = frame-int kind (int_next st ctx k v);
    }

-- ---- a byte, if it is marked
pub Piece-byte : (marked : Bool) (kind : List ℕ) (bank : List Counting) (m expected s : ℕ) → m < length bank → alphabet_size (model_at bank m) ≡ 256 → IsByte marked expected s
    → Piece (kind ∷ []) (if_marked marked (byte_events kind m s)) (byte_cuts marked bank m s) (λ l. BankStands kind l bank) (λ l. BankStands kind l (byte_next marked bank m s))
Piece-byte true kind bank m expected s within size asked = Piece-symbol kind bank m 256 s within size (omega arith) asked
Piece-byte false kind bank m expected s within size asked = Piece-none (kind ∷ []) (λ l. BankStands kind l bank) (frame-bank kind bank)

-- ---- a number of 16 bits, if it is marked
pub Piece-word : (marked : Bool) (kind : List ℕ) (st : IntState) (n ctx : ℕ) (x : ℕ × ℕ) → IsInts 16 n st → ctx < n → IsWord marked x
    → Piece (kind ∷ []) (if_marked marked (corrector_events kind 16 ctx x.0 x.1)) (word_cuts marked st ctx x) (λ l. IntStands kind l st) (λ l. IntStands kind l (word_next marked st ctx x))
Piece-word true kind st n ctx x is within asked = Piece-int kind st 16 ctx x.0 x.1 is.state is.bits (omega (arith, is.contexts, within)) asked
Piece-word false kind st n ctx x is within asked = Piece-none (kind ∷ []) (λ l. IntStands kind l st) (frame-int kind st)
