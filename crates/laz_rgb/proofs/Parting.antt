-- Spellings of a colour, and of extra bytes, part at one event.
use Rattle.std.proofs.Common.{◌≡◌, ℕ, ◌+◌, Bool, true, false, List, [], ◌∷◌, length, refl, sym, ap, subst, ◌∙◌}
use Rattle.laz_integer.specs.Events.{Event}
use Rattle.laz_integer.specs.Fields.{IsByte, byte_events, if_marked}
use Rattle.laz_integer.specs.Uses.{own_name}
use Rattle.laz_integer.proofs.Public.{One, as-one, made-one, none-one, symbol-one, then, cons_same}
use Rattle.laz_rgb.specs.declared.colour.Colour.{Colour}
use Rattle.laz_rgb.specs.Colours.{SpellsColour, changes_event, colour_made, colour_marks, rgb_kind}
use Rattle.laz_rgb.specs.Extra.{SpellsExtra, all_marked, byte_kind, extra_made}
use Rattle.laz_rgb.specs.Rows.{IsRow, row_events}

-- ---- rows
marked-one : (t : Bool) (kind : List ℕ) (m a b : ℕ) → IsByte t 0 a → IsByte t 0 b → One (if_marked t (byte_events kind m a)) (if_marked t (byte_events kind m b)) a b
marked-one true kind m a b h k = symbol-one (own_name kind m) 256 a b
marked-one false kind m a b h k = none-one [] [] a b refl refl (h ∙ sym k)

row-one : (kind : List ℕ) (marks : List Bool) (m : ℕ) (xs ys : List ℕ) → IsRow marks xs → IsRow marks ys → One (row_events kind marks m xs) (row_events kind marks m ys) xs ys
row-one kind [] m [] [] h k = none-one {V = List ℕ} [] [] [] [] refl refl refl
row-one kind [] m [] (y ∷ ys) h k = absurd k
row-one kind [] m (x ∷ xs) ys h k = absurd h
row-one kind (t ∷ marks) m [] ys h k = absurd h
row-one kind (t ∷ marks) m (x ∷ xs) [] h k = absurd k
row-one kind (t ∷ marks) m (x ∷ xs) (y ∷ ys) h k =
    then {W = List ℕ} (if_marked t (byte_events kind m x)) (if_marked t (byte_events kind m y)) (row_events kind marks (m + 1) xs) (row_events kind marks (m + 1) ys) x y (x ∷ xs) (y ∷ ys) (marked-one t kind m x y h.0 k.0)
    (λ (e : x ≡ y). made-one {V = List ℕ} {W = List ℕ} (row_events kind marks (m + 1) xs) (row_events kind marks (m + 1) ys) xs ys (x ∷ xs) (y ∷ ys) (λ f. cons_same x y xs ys e f) (row-one kind marks (m + 1) xs ys h.1 k.1))

-- ---- colours and extra bytes
pub colour-one : (last : Colour) (xs ys : List Event) (v w : Colour) → SpellsColour last xs v → SpellsColour last ys w → One xs ys v w
colour-one last xs ys v w s t =
    let one : List Event = row_events rgb_kind (colour_marks s.changes) 1 s.symbols in
    let other : List Event = row_events rgb_kind (colour_marks t.changes) 1 t.symbols in
    as-one (changes_event s.changes ∷ one) (changes_event t.changes ∷ other) xs ys v w s.is t.is
    (then {W = Colour} (changes_event s.changes ∷ []) (changes_event t.changes ∷ []) one other s.changes t.changes v w (symbol-one (own_name rgb_kind 0) 128 s.changes t.changes)
    (λ (e : s.changes ≡ t.changes).
    subst (λ (c : ℕ). One one (row_events rgb_kind (colour_marks c) 1 t.symbols) v w) e
    (made-one {V = List ℕ} {W = Colour} one (row_events rgb_kind (colour_marks s.changes) 1 t.symbols) s.symbols t.symbols v w
    (λ f. s.makes ∙ (ap (λ l. colour_made s.changes last l) f ∙ (ap (λ c. colour_made c last t.symbols) e ∙ sym t.makes)))
    (row-one rgb_kind (colour_marks s.changes) 1 s.symbols t.symbols s.row (subst (λ (c : ℕ). IsRow (colour_marks c) t.symbols) (sym e) t.row)))))

pub extra-one : (last : List ℕ) (xs ys : List Event) (v w : List ℕ) → SpellsExtra last xs v → SpellsExtra last ys w → One xs ys v w
extra-one last xs ys v w s t =
    let marks = all_marked (length last) in
    as-one (row_events byte_kind marks 0 s.symbols) (row_events byte_kind marks 0 t.symbols) xs ys v w s.is t.is
    (made-one {V = List ℕ} {W = List ℕ} (row_events byte_kind marks 0 s.symbols) (row_events byte_kind marks 0 t.symbols) s.symbols t.symbols v w (λ f. s.makes ∙ (ap (λ l. extra_made last l) f ∙ sym t.makes))
    (row-one byte_kind marks 0 s.symbols t.symbols s.row t.row))
