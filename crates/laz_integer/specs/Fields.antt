-- Fields of a record that are coded only if they are marked as changed: bytes under models of 256 symbols, and numbers
-- of 16 bits as integers.
use Rattle.std.specs.Prelude.{◌≡◌, ℕ, ℤ, pos, nat_abs, ◌<◌, Bool, true, false, List, [], ◌∷◌, length, slice_set}
use Rattle.laz_range.specs.Cut.{Cut}
use Rattle.laz_range.specs.Decoding.{Decoding, Takes}
use Rattle.laz_models.specs.Counting.{Counting, after_symbol}
use Rattle.laz_models.specs.Dist.{StandsFor}
use Rattle.laz_models.specs.Bank.{model_at}
use Rattle.laz_integer.specs.Corrector.{corrected, difference, corrector_index}
use Rattle.laz_integer.specs.Events.{Event, Symbol, symbols_under}
use Rattle.laz_integer.specs.Integer.{IntState, IntEvents, IntSpell, IsCorrector, symbol_cut, int_cuts, int_next}
use Rattle.laz_integer.specs.Integer.{int_width}
use Rattle.laz_integer.specs.Uses.{own_name}

-- ---- events

-- The events of a field, if it is marked; else none.
abbrev pub if_marked : Bool → List Event → List Event
if_marked true events = events
if_marked false events = []

-- The event of a byte under model m of a use.
abbrev pub byte_events : (kind : List ℕ) → (model symbol : ℕ) → List Event
byte_events kind m s = Symbol (own_name kind m) 256 s ∷ []

-- The events that a writer makes of a number of 16 bits.
abbrev pub word_events : (kind : List ℕ) → (context pred real : ℕ) → List Event
word_events kind ctx pred real = IntEvents kind 16 ctx (pos pred) (pos real)

-- Events that spell a byte: a symbol under model m if the byte is marked; else none, and the byte is the expected one.
abbrev pub SpellsByte : (marked : Bool) → (kind : List ℕ) → (model expected : ℕ) → List Event → (symbol : ℕ) → Type 0
SpellsByte true kind m expected events s = (s < 256) × (events ≡ byte_events kind m s)
SpellsByte false kind m expected events s = (events ≡ []) × (s ≡ expected)

-- Events that spell a number of 16 bits: those of any corrector that makes it of its prediction if the number is
-- marked; else none, and the number is the prediction.
abbrev pub SpellsWord : (marked : Bool) → (kind : List ℕ) → (context pred : ℕ) → List Event → (value : ℕ) → Type 0
SpellsWord true kind ctx pred events value = (k : ℕ) × IntSpell kind 16 ctx (pos pred) events (pos value) k
SpellsWord false kind ctx pred events value = (events ≡ []) × (value ≡ pred)

-- ---- states of models

-- Each model of a bank stands for the symbols under its name of a use.
abbrev pub BankStands : List ℕ → List Event → List Counting → Type 0
BankStands kind events bank = (m : ℕ) → m < length bank
    → StandsFor (symbols_under (own_name kind m) events) (model_at bank m)

-- The parts of a byte under model m of a bank.
abbrev pub byte_cuts : (marked : Bool) → (bank : List Counting) → (model symbol : ℕ) → List Cut
byte_cuts true bank m s = symbol_cut (model_at bank m) s ∷ []
byte_cuts false bank m s = []

-- The bank after them.
abbrev pub byte_next : (marked : Bool) → (bank : List Counting) → (model symbol : ℕ) → List Counting
byte_next true bank m s = slice_set bank m (after_symbol (model_at bank m) s)
byte_next false bank m s = bank

-- A byte that may be read: any if it is marked, else the expected one.
abbrev pub IsByte : (marked : Bool) → (expected symbol : ℕ) → Type 0
IsByte true expected s = s < 256
IsByte false expected s = s ≡ expected

-- The corrector that a writer chooses, as width and index.
abbrev pub int_corrector : (bits : ℕ) → (pred real : ℤ) → ℕ × ℕ
int_corrector bits pred real =
    let k = int_width bits pred real in (k, corrector_index bits (difference bits pred real) k)

-- The same of a number of 16 bits.
abbrev pub word_corrector : (pred real : ℕ) → ℕ × ℕ
word_corrector pred real = int_corrector 16 (pos pred) (pos real)

-- The parts of a corrector of a number of 16 bits.
abbrev pub word_cuts : (marked : Bool) → IntState → (context : ℕ) → (corrector : ℕ × ℕ) → List Cut
word_cuts true st ctx x = int_cuts st ctx x.0 x.1
word_cuts false st ctx x = []

-- The state after them.
abbrev pub word_next : (marked : Bool) → IntState → (context : ℕ) → (corrector : ℕ × ℕ) → IntState
word_next true st ctx x = int_next st ctx x.0 x.1
word_next false st ctx x = st

-- A corrector that may be read: any if the number is marked, else (0, 0), which then stands for no corrector.
abbrev pub IsWord : (marked : Bool) → (corrector : ℕ × ℕ) → Type 0
IsWord true x = IsCorrector 16 x
IsWord false x = x ≡ (0, 0)

-- The number that a corrector makes of its prediction.
abbrev pub word_value : (marked : Bool) → (pred : ℕ) → (corrector : ℕ × ℕ) → ℕ
word_value true pred x = nat_abs (corrected 16 (pos pred) x.0 x.1)
word_value false pred x = pred

-- The decoder has read some corrector, which makes the number, and the models have counted it.
pub record ReadsWord (marked : Bool) (st : IntState) (ctx pred value : ℕ) (old new : Decoding) (next : IntState)
    : Type 0 where
  pub corrector : ℕ × ℕ
  pub takes : Takes (IsWord marked) (word_cuts marked st ctx) old new corrector
  pub makes : value ≡ word_value marked pred corrector
  pub counts : next ≡ word_next marked st ctx corrector
