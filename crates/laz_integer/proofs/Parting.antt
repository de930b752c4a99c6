-- Spellings that part at one event: at most one of them can begin the same bytes.
use Rattle.std.proofs.Common.{◌≡◌, ℕ, ℤ, pos, ◌+◌, ◌-◌, ◌*◌, ◌/◌, ◌%◌, ◌^◌, ◌<◌, ◌≤◌, ◌⊎◌, inl, inr, eqb, Bool, true, false, List, [], ◌∷◌, ◌++◌, refl, sym, ap, subst, ◌∙◌, arith, ⊎_elim, append_assoc, lit≤}
use Rattle.std.proofs.lemmas.Bool.{cases_lt, cases_eq, eq-eqb, eqb-true}
use Rattle.std.proofs.lemmas.Nat.{div-add-mod'}
use Rattle.laz_integer.specs.Corrector.{choices, corrected}
use Rattle.laz_integer.specs.Events.{Event, Symbol, Flag, Bits, Name, raw_events}
use Rattle.laz_integer.specs.Fields.{SpellsByte, SpellsWord, byte_events}
use Rattle.laz_integer.specs.Integer.{IntSpell, bit_name, corrector_events, high_name, rest_events, width_name}
use Rattle.laz_integer.specs.Ranged.{AreOneKind}
use Rattle.laz_integer.specs.Uses.{own_name}
use Rattle.laz_integer.proofs.Cases.{events-most, events-narrow, events-wide, events-zero}
use Rattle.laz_integer.proofs.Named.{raw-short, raw-wide}

-- Two lists of events are the same up to an event, at which they have two of one kind.
pub record Part (xs ys : List Event) : Type 0 where
  pub front : List Event
  pub one : Event
  pub other : Event
  pub rest : List Event
  pub others : List Event
  pub is : xs ≡ front ++ one ∷ rest
  pub also : ys ≡ front ++ other ∷ others
  pub kind : AreOneKind one other
  pub differ : one ≡ other → ⊥

-- Two spellings are the same, and spell the same, or they part.
abbrev pub One : {V : Type 0} → (xs ys : List Event) → (v w : V) → Type 0
One xs ys v w = ((xs ≡ ys) × (v ≡ w)) ⊎ Part xs ys

-- ---- one after another
part-before : (front xs ys : List Event) → Part xs ys → Part (front ++ xs) (front ++ ys)
part-before front xs ys p =
    record {
      front = front ++ p.front;
      one = p.one;
      other = p.other;
      rest = p.rest;
      others = p.others;
      is = ap (λ l. front ++ l) p.is ∙ sym (append_assoc front p.front (p.one ∷ p.rest));
      also = ap (λ l. front ++ l) p.also ∙ sym (append_assoc front p.front (p.other ∷ p.others));
      kind = p.kind;
      differ = p.differ;
    }

part-after : (xs ys more others : List Event) → Part xs ys → Part (xs ++ more) (ys ++ others)
part-after xs ys more others p =
    record {
      front = p.front;
      one = p.one;
      other = p.other;
      rest = p.rest ++ more;
      others = p.others ++ others;
      is = ap (λ l. l ++ more) p.is ∙ append_assoc p.front (p.one ∷ p.rest) more;
      also = ap (λ l. l ++ others) p.also ∙ append_assoc p.front (p.other ∷ p.others) others;
      kind = p.kind;
      differ = p.differ;
    }

same_append : (x1 y1 x2 y2 : List Event) → x1 ≡ y1 → x2 ≡ y2 → x1 ++ x2 ≡ y1 ++ y2
same_append x1 y1 x2 y2 e f = cc

then-same : {W : Type 0} (x1 y1 x2 y2 : List Event) (a b : W) → x1 ≡ y1 → One x2 y2 a b → One (x1 ++ x2) (y1 ++ y2) a b
then-same x1 y1 x2 y2 a b e (inl more) = inl (same_append x1 y1 x2 y2 e more.0, more.1)
then-same x1 y1 x2 y2 a b e (inr part) = inr (subst (λ (l : List Event). Part (x1 ++ x2) (l ++ y2)) e (part-before x1 x2 y2 part))

pub then : {V W : Type 0} (x1 y1 x2 y2 : List Event) (v w : V) (a b : W) → One x1 y1 v w → (v ≡ w → One x2 y2 a b) → One (x1 ++ x2) (y1 ++ y2) a b
then {V} {W} x1 y1 x2 y2 v w a b (inl same) more = then-same x1 y1 x2 y2 a b same.0 (more same.1)
then {V} {W} x1 y1 x2 y2 v w a b (inr part) more = inr (part-after x1 y1 x2 y2 part)

-- the same of what the values make
pub made-one : {V W : Type 0} (xs ys : List Event) (v w : V) (a b : W) → (v ≡ w → a ≡ b) → One xs ys v w → One xs ys a b
made-one xs ys v w a b f (inl same) = inl (same.0, f same.1)
made-one xs ys v w a b f (inr part) = inr part

-- the same of lists that are equal
pub as-one : {V : Type 0} (x1 y1 xs ys : List Event) (v w : V) → xs ≡ x1 → ys ≡ y1 → One x1 y1 v w → One xs ys v w
as-one {V} x1 y1 xs ys v w e f h = subst (λ (l : List Event). One l ys v w) (sym e) (subst (λ (l : List Event). One x1 l v w) (sym f) h)

pub none-one : {V : Type 0} (xs ys : List Event) (v w : V) → xs ≡ [] → ys ≡ [] → v ≡ w → One xs ys v w
none-one xs ys v w e f g = inl (e ∙ sym f, g)

-- ---- one event
part-at : (d e : Event) → AreOneKind d e → (d ≡ e → ⊥) → Part (d ∷ []) (e ∷ [])
part-at d e kind ne =
    record { front = []; one = d; other = e; rest = []; others = []; is = refl; also = refl; kind = kind; differ = ne }

symbol-is : (name : Name) (n a b : ℕ) → Symbol name n a ≡ Symbol name n b → a ≡ b
symbol-is name n a b e = cc

flag-is : (name : Name) (a b : Bool) → Flag name a ≡ Flag name b → a ≡ b
flag-is name a b e = cc

bits-are : (n a b : ℕ) → Bits n a ≡ Bits n b → a ≡ b
bits-are n a b e = cc

pub symbol-one : (name : Name) (n a b : ℕ) → One (Symbol name n a ∷ []) (Symbol name n b ∷ []) a b
symbol-one name n a b =
    ⊎_elim
    (λ (e : a ≡ b). inl (ap (λ s. Symbol name n s ∷ []) e, e))
    (λ (ne : a ≡ b → ⊥). inr (part-at (Symbol name n a) (Symbol name n b) refl (λ e. ne (symbol-is name n a b e))))
    (cases_eq a b)

-- two symbols that differ, and events after each
pub symbols-apart : {V : Type 0} (name : Name) (n a b : ℕ) (more others : List Event) (v w : V) → (a ≡ b → ⊥) → One (Symbol name n a ∷ more) (Symbol name n b ∷ others) v w
symbols-apart name n a b more others v w ne =
    inr (part-after (Symbol name n a ∷ []) (Symbol name n b ∷ []) more others (part-at (Symbol name n a) (Symbol name n b) refl (λ e. ne (symbol-is name n a b e))))

bits-one : (n a b : ℕ) → One (Bits n a ∷ []) (Bits n b ∷ []) a b
bits-one n a b =
    ⊎_elim
    (λ (e : a ≡ b). inl (ap (λ s. Bits n s ∷ []) e, e))
    (λ (ne : a ≡ b → ⊥). inr (part-at (Bits n a) (Bits n b) refl (λ e. ne (bits-are n a b e))))
    (cases_eq a b)

bit-is : (v w : ℕ) → v < 2 → w < 2 → eqb v 1 ≡ eqb w 1 → v ≡ w
bit-is v w small less e =
    ⊎_elim
    (λ (one : v ≡ 1). one ∙ sym (eqb-true w 1 (sym e ∙ eq-eqb v 1 one)))
    (λ (no : v ≡ 1 → ⊥).
    ⊎_elim
    (λ (one : w ≡ 1). absurd (no (eqb-true v 1 (e ∙ eq-eqb w 1 one))))
    (λ (nor : w ≡ 1 → ⊥). omega (arith, small, less, no, nor))
    (cases_eq w 1))
    (cases_eq v 1)

flag-one : (name : Name) (v w : ℕ) → v < 2 → w < 2 → One (Flag name (eqb v 1) ∷ []) (Flag name (eqb w 1) ∷ []) v w
flag-one name v w small less =
    ⊎_elim
    (λ (e : v ≡ w). inl (ap (λ s. Flag name (eqb s 1) ∷ []) e, e))
    (λ (ne : v ≡ w → ⊥). inr (part-at (Flag name (eqb v 1)) (Flag name (eqb w 1)) refl (λ e. ne (bit-is v w small less (flag-is name (eqb v 1) (eqb w 1) e)))))
    (cases_eq v w)

-- ---- raw values
same_number : (n v w : ℕ) → v % n ≡ w % n → v / n ≡ w / n → v ≡ w
same_number n v w low high = sym (div-add-mod' v n) ∙ (ap (λ q. q * n + v % n) high ∙ (ap (λ r. w / n * n + r) low ∙ div-add-mod' w n))

pub raw-one : (b v w : ℕ) → One (raw_events b v) (raw_events b w) v w
raw-one b v w =
    ⊎_elim
    (λ (wide : 19 < b).
    as-one (Bits 16 (v % 65536) ∷ Bits (b - 16) (v / 65536) ∷ []) (Bits 16 (w % 65536) ∷ Bits (b - 16) (w / 65536) ∷ []) (raw_events b v) (raw_events b w) v w (raw-wide b v wide) (raw-wide b w wide)
    (then (Bits 16 (v % 65536) ∷ []) (Bits 16 (w % 65536) ∷ []) (Bits (b - 16) (v / 65536) ∷ []) (Bits (b - 16) (w / 65536) ∷ []) (v % 65536) (w % 65536) v w (bits-one 16 (v % 65536) (w % 65536))
    (λ low. made-one (Bits (b - 16) (v / 65536) ∷ []) (Bits (b - 16) (w / 65536) ∷ []) (v / 65536) (w / 65536) v w (λ high. same_number 65536 v w low high) (bits-one (b - 16) (v / 65536) (w / 65536)))))
    (λ (short : b ≤ 19). as-one (Bits b v ∷ []) (Bits b w ∷ []) (raw_events b v) (raw_events b w) v w (raw-short b v short) (raw-short b w short) (bits-one b v w))
    (cases_lt 19 b)

-- ---- correctors
rest-zero : (kind : List ℕ) (v w : ℕ) → v < choices 0 → w < choices 0 → One (rest_events kind 0 v) (rest_events kind 0 w) v w
unfolding choices
rest-zero kind v w within inside =
    as-one (Flag (bit_name kind) (eqb v 1) ∷ []) (Flag (bit_name kind) (eqb w 1) ∷ []) (rest_events kind 0 v) (rest_events kind 0 w) v w (events-zero kind v) (events-zero kind w) (flag-one (bit_name kind) v w within inside)

rest-most : (kind : List ℕ) (v w : ℕ) → v < choices 32 → w < choices 32 → One (rest_events kind 32 v) (rest_events kind 32 w) v w
unfolding choices
rest-most kind v w within inside = none-one (rest_events kind 32 v) (rest_events kind 32 w) v w (events-most kind v) (events-most kind w) (omega (arith, within, inside))

rest-narrow : (kind : List ℕ) (k v w : ℕ) → 0 < k → k ≤ 8 → One (rest_events kind k v) (rest_events kind k w) v w
rest-narrow kind k v w some narrow =
    as-one (Symbol (high_name kind k) (2 ^ k) v ∷ []) (Symbol (high_name kind k) (2 ^ k) w ∷ []) (rest_events kind k v) (rest_events kind k w) v w (events-narrow kind k v some narrow) (events-narrow kind k w some narrow)
    (symbol-one (high_name kind k) (2 ^ k) v w)

rest-wide : (kind : List ℕ) (k v w : ℕ) → 8 < k → k < 32 → One (rest_events kind k v) (rest_events kind k w) v w
rest-wide kind k v w wide small =
    let n : ℕ = 2 ^ (k - 8) in
    let name : Name = high_name kind k in
    as-one (Symbol name 256 (v / n) ∷ raw_events (k - 8) (v % n)) (Symbol name 256 (w / n) ∷ raw_events (k - 8) (w % n)) (rest_events kind k v) (rest_events kind k w) v w (events-wide kind k v wide small) (events-wide kind k w wide small)
    (then (Symbol name 256 (v / n) ∷ []) (Symbol name 256 (w / n) ∷ []) (raw_events (k - 8) (v % n)) (raw_events (k - 8) (w % n)) (v / n) (w / n) v w (symbol-one name 256 (v / n) (w / n))
    (λ high. made-one (raw_events (k - 8) (v % n)) (raw_events (k - 8) (w % n)) (v % n) (w % n) v w (λ low. same_number n v w low high) (raw-one (k - 8) (v % n) (w % n))))

rest-one : (kind : List ℕ) (k v w : ℕ) → k ≤ 32 → v < choices k → w < choices k → One (rest_events kind k v) (rest_events kind k w) v w
rest-one kind k v w few within inside =
    ⊎_elim
    (λ (e : k ≡ 0).
    subst (λ (j : ℕ). One (rest_events kind j v) (rest_events kind j w) v w) (sym e) (rest-zero kind v w (subst (λ (j : ℕ). v < choices j) e within) (subst (λ (j : ℕ). w < choices j) e inside)))
    (λ (more : k ≡ 0 → ⊥).
    ⊎_elim
    (λ (e : k ≡ 32).
    subst (λ (j : ℕ). One (rest_events kind j v) (rest_events kind j w) v w) (sym e) (rest-most kind v w (subst (λ (j : ℕ). v < choices j) e within) (subst (λ (j : ℕ). w < choices j) e inside)))
    (λ (fewer : k ≡ 32 → ⊥).
    ⊎_elim
    (λ (wide : 8 < k). rest-wide kind k v w wide (omega (arith, fewer, few)))
    (λ (narrow : k ≤ 8). rest-narrow kind k v w (omega (arith, more)) narrow)
    (cases_lt 8 k))
    (cases_eq k 32))
    (cases_eq k 0)

pub same_pair : {A B : Type 0} (a c : A) (b d : B) → a ≡ c → b ≡ d → ◌≡◌ {A = A × B} (a, b) (c, d)
same_pair a c b d e f = cc

corrector-one : (kind : List ℕ) (bits ctx k v j w : ℕ) → bits ≤ 32 → k ≤ bits → v < choices k → w < choices j → One {V = ℕ × ℕ} (corrector_events kind bits ctx k v) (corrector_events kind bits ctx j w) (k, v) (j, w)
corrector-one kind bits ctx k v j w most few within inside =
    then {W = ℕ × ℕ} (Symbol (width_name kind ctx) (bits + 1) k ∷ []) (Symbol (width_name kind ctx) (bits + 1) j ∷ []) (rest_events kind k v) (rest_events kind j w) k j (k, v) (j, w) (symbol-one (width_name kind ctx) (bits + 1) k j)
    (λ (e : k ≡ j).
    subst (λ (i : ℕ). One {V = ℕ × ℕ} (rest_events kind k v) (rest_events kind i w) (k, v) (i, w)) e
    (made-one {W = ℕ × ℕ} (rest_events kind k v) (rest_events kind k w) v w (k, v) (k, w) (λ f. same_pair k k v w refl f)
    (rest-one kind k v w (omega (arith, most, few)) within (subst (λ (i : ℕ). w < choices i) (sym e) inside))))

-- ---- integers and fields
pub int-one : (kind : List ℕ) (bits ctx : ℕ) (pred : ℤ) (xs ys : List Event) (x y : ℤ) (k j : ℕ) → bits ≤ 32
    → IntSpell kind bits ctx pred xs x k → IntSpell kind bits ctx pred ys y j → One {V = ℤ × ℕ} xs ys (x, k) (y, j)
int-one kind bits ctx pred xs ys x y k j most s t =
    as-one {V = ℤ × ℕ} (corrector_events kind bits ctx k s.v) (corrector_events kind bits ctx j t.v) xs ys (x, k) (y, j) s.is t.is
    (made-one {W = ℤ × ℕ} (corrector_events kind bits ctx k s.v) (corrector_events kind bits ctx j t.v) (k, s.v) (j, t.v) (x, k) (y, j)
    (λ e. same_pair x y k j (s.makes ∙ (ap (λ (c : ℕ × ℕ). corrected bits pred c.0 c.1) e ∙ sym t.makes)) (ap (λ (c : ℕ × ℕ). c.0) e))
    (corrector-one kind bits ctx k s.v j t.v most s.width s.within t.within))

pub byte-one : (t : Bool) (kind : List ℕ) (m expected : ℕ) (xs ys : List Event) (v w : ℕ) → SpellsByte t kind m expected xs v → SpellsByte t kind m expected ys w → One xs ys v w
byte-one true kind m expected xs ys v w s t = as-one (byte_events kind m v) (byte_events kind m w) xs ys v w s.1 t.1 (symbol-one (own_name kind m) 256 v w)
byte-one false kind m expected xs ys v w s t = none-one xs ys v w s.0 t.0 (s.1 ∙ sym t.1)

pos-is : (v w : ℕ) → pos v ≡ pos w → v ≡ w
pos-is v w e = cc

pub word-one : (t : Bool) (kind : List ℕ) (ctx pred : ℕ) (xs ys : List Event) (v w : ℕ) → SpellsWord t kind ctx pred xs v → SpellsWord t kind ctx pred ys w → One xs ys v w
word-one true kind ctx pred xs ys v w s t =
    made-one {V = ℤ × ℕ} xs ys (pos v, s.0) (pos w, t.0) v w (λ e. pos-is v w (ap (λ (c : ℤ × ℕ). c.0) e)) (int-one kind 16 ctx (pos pred) xs ys (pos v) (pos w) s.0 t.0 (lit≤ tt) s.1 t.1)
word-one false kind ctx pred xs ys v w s t = none-one xs ys v w s.0 t.0 (s.1 ∙ sym t.1)
