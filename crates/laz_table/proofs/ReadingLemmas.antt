-- Tables read entry by entry.
use Rattle.std.proofs.Common.{◌≡◌, ℕ, ℤ, ◌+◌, ◌%◌, ◌<◌, ◌≤◌, Bool, false, List, [], ◌∷◌, ◌++◌, length, refl, sym, ap, subst, ◌∙◌, arith}
use Rattle.std.specs.Int.{w32, cast_signed, cast_unsigned}
use Rattle.std.proofs.lemmas.Int.{of_z-to_z}
use Rattle.laz_range.specs.Choice.{state_after}
use Rattle.laz_range.specs.Decoding.{Decoding, Takes, TakesNone}
use Rattle.laz_range.proofs.Public.{Takes-start, Takes-step, TakesNone-step, state_after-push}
use Rattle.laz_integer.specs.Corrector.{corrected, corrector}
use Rattle.laz_integer.specs.Integer.{IntState, IsCorrector, ReadsCorrector, int_cuts, int_next}
use Rattle.laz_table.specs.declared.chunks.TableFault.{TableFault}
use Rattle.laz_table.specs.declared.chunks.TableFault.TheVariants.{Table, ChunkSum, PointSum, Memory}
use Rattle.laz_table.specs.Entries.{Entry, Latest, after_entry, context_of, prediction, signed}
use Rattle.laz_table.specs.Steps.{IsEntry, IsFault, NoEntries, ReadsEntries, ReadsNumber, TableState, entries_made, entry_cuts, entry_made, entry_next, next_counts_points, number_made}

-- ---- the number that a corrector makes
pub made-below : (before : ℕ) (x : ℕ × ℕ) → number_made before x < 4294967296
made-below before x =
    let n : ℕ = (cast_unsigned w32 (signed before) + corrector 32 x.0 x.1) % 4294967296 in
    let small : n < 4294967296 = omega arith in
    omega (arith, of_z-to_z w32 n small, small)

pub made-signed : (before : ℕ) (x : ℕ × ℕ) → signed (number_made before x) ≡ corrected 32 (signed before) x.0 x.1
made-signed before x =
    let n : ℕ = (cast_unsigned w32 (signed before) + corrector 32 x.0 x.1) % 4294967296 in
    let small : n < 4294967296 = omega arith in
    ap (cast_signed w32) (of_z-to_z w32 n small)

-- ---- lists with one more entry
pub made-push : (st : TableState) (xs : List (ℕ × ℕ)) (x : ℕ × ℕ) → entries_made st (xs ++ x ∷ []) ≡ entries_made st xs ++ entry_made (state_after entry_next st xs) x ∷ []
made-push st [] x = refl
made-push st (y ∷ xs) x = ap (λ es. entry_made st y ∷ es) (made-push (entry_next st y) xs x)

same_entry : (b : Bool) (n m : ℕ) → n ≡ m → (let e : Entry = record { counts_points = b; number = n } in e) ≡ record { counts_points = b; number = m }
same_entry b n m e = cc

same_next : (m n : IntState) (l : Latest) (b c d : Bool) (p q : ℕ) → m ≡ n → p ≡ q
    → (let s : TableState = record { models = m; latest = after_entry l (record { counts_points = b; number = p }); counted = c; counts_points = d } in s)
    ≡ record { models = n; latest = after_entry l (record { counts_points = b; number = q }); counted = c; counts_points = d }
same_next m n l b c d p q e f =
    ap (λ k. (let s : TableState = record { models = k; latest = after_entry l (record { counts_points = b; number = p }); counted = c; counts_points = d } in s)) e
    ∙ ap (λ k. (let s : TableState = record { models = n; latest = after_entry l (record { counts_points = b; number = k }); counted = c; counts_points = d } in s)) f

-- what a decoder has read, and the state after it
abbrev pub HasReadEntries : (st : TableState) (n : ℕ) (a b : Decoding) (entries : List Entry) (now : TableState) → Type 0
HasReadEntries st n a b entries now = (r : ReadsEntries st n a b entries) × (now ≡ state_after entry_next st r.correctors)

pub reads-none : (st : TableState) (d : Decoding) → d.taken ≤ length d.bytes → d.failed ≡ false → HasReadEntries st 0 d d [] st
reads-none st d within good = (record { correctors = []; takes = Takes-start entry_next IsEntry entry_cuts st d within good; makes = refl }, refl)

-- the entry that a number is, and the state after it
abbrev pub entry_with : TableState → ℕ → Entry
entry_with now number = record { counts_points = now.counts_points; number = number }

abbrev pub state_with : TableState → IntState → ℕ → TableState
state_with now models number =
    record { models = models; latest = after_entry now.latest (entry_with now number); counted = now.counted; counts_points = next_counts_points now.counted now.counts_points }

pub reads-push : (st now : TableState) (n : ℕ) (a b c : Decoding) (entries : List Entry) (number : ℕ) (models : IntState) → HasReadEntries st n a b entries now
    → ReadsNumber now.counts_points (prediction now.counts_points now.latest) number now.models models b c
    → HasReadEntries st (n + 1) a c (entries ++ entry_with now number ∷ []) (state_with now models number)
reads-push st now n a b c entries number models r f =
    let xs = r.0.correctors in
    let x = f.corrector in
    let made : entry_made (state_after entry_next st xs) x ≡ entry_with now number = ap (λ s. entry_made s x) (sym r.1) ∙ same_entry now.counts_points _ number (sym f.makes) in
    let next : state_with now models number ≡ entry_next now x =
    same_next models (int_next now.models (context_of now.counts_points) x.0 x.1) now.latest now.counts_points now.counted (next_counts_points now.counted now.counts_points) number (number_made (prediction now.counts_points now.latest) x) f.counts f.makes in (
      record {
        correctors = xs ++ x ∷ [];
        takes = Takes-step entry_next IsEntry entry_cuts st now n a b c xs x r.1 r.0.takes f.takes;
        makes = made-push st xs x ∙ (ap (λ es. es ++ entry_made (state_after entry_next st xs) x ∷ []) r.0.makes ∙ ap (λ e. entries ++ e ∷ []) made);
      },
      next ∙ (ap (λ s. entry_next s x) r.1 ∙ sym (state_after-push entry_next st xs x)),
    )

-- no number was read
pub reads-stop : (st now : TableState) (i n : ℕ) (a b c : Decoding) (entries : List Entry) → HasReadEntries st i a b entries now → i < n
    → TakesNone (IsCorrector 32) (entry_cuts now) b c → NoEntries st n a c
reads-stop st now i n a b c entries r within f = TakesNone-step entry_next IsEntry entry_cuts st now i n a b c r.0.correctors r.1 within r.0.takes f

-- a corrector that was read is a number that was read
pub reads-number : (b : Bool) (before number ctx k : ℕ) (pred value : ℤ) (st next : IntState) (a c : Decoding) → pred ≡ signed before → ctx ≡ context_of b
    → number ≡ cast_unsigned w32 (cast_signed w32 (cast_unsigned w32 value)) → ReadsCorrector 32 st ctx pred value k a c next → ReadsNumber b before number st next a c
reads-number b before number ctx k pred value st next a c at in_context is r =
    let x : ℕ × ℕ = (k, r.v) in
    let made : cast_unsigned w32 value ≡ number_made before x = ap (cast_unsigned w32) r.makes ∙ ap (λ p. cast_unsigned w32 (corrected 32 p k r.v)) at in
    let small : cast_unsigned w32 value < 4294967296 = omega (arith, made, made-below before x) in
    record {
      corrector = x;
      takes = subst (λ (n : ℕ). Takes {X = ℕ × ℕ} (IsCorrector 32) (λ y. int_cuts st n y.0 y.1) a c x) in_context r.takes;
      makes = is ∙ (of_z-to_z w32 (cast_unsigned w32 value) small ∙ made);
      counts = r.counts ∙ ap (λ n. int_next st n k r.v) in_context;
    }

-- what holds if a fault is Table
pub fault-then : (fault : TableFault) (P Q : Type 0) → (P → Q) → IsFault fault P → IsFault fault Q
fault-then Table P Q f h = f h
fault-then ChunkSum P Q f h = h
fault-then PointSum P Q f h = h
fault-then Memory P Q f h = h
