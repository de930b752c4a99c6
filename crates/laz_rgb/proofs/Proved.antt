-- The laws of the items.
use Rattle.std.proofs.Common.{◌≡◌, ℕ, suc, ◌+◌, ◌<◌, ◌&&◌, cond, Bool, true, false, List, [], ◌∷◌, length, refl, sym, ap, ◌∙◌, arith}
use Rattle.std.specs.Prelude.{◌==◌, not}
use Rattle.std.proofs.lemmas.List.{length-replicate}
use Rattle.laz_integer.specs.Events.{same_text}
use Rattle.laz_integer.specs.Uses.{Silent}
use Rattle.laz_integer.specs.Fields.{byte_events, if_marked}
use Rattle.laz_integer.proofs.Public.{Silent-append, Silent-none, Silent-other, bank-silent, difference-back}
use Rattle.laz_rgb.specs.declared.colour.Colour.{Colour}
use Rattle.laz_rgb.specs.Rows.{byte_of, row_events}
use Rattle.laz_integer.specs.Bytes.{byte_difference, byte_plus}
use Rattle.laz_rgb.specs.Colours.{changes, changes_event, colour_bytes, colour_made, colour_marks, colour_symbols, is_grey, predicted_blue, predicted_green, rgb_kind, symbol_if}
use Rattle.laz_integer.specs.Bytes.{has_bit}
use Rattle.laz_rgb.specs.Extra.{all_marked, byte_kind, extra_made, extra_symbols}
use Rattle.laz_range.specs.Span.{IsBytes}
use Rattle.laz_rgb.specs.Laws.{ColoursAreLawful, ColoursAreSpelled, ExtrasAreLawful, ExtrasAreSpelled, OthersLeaveColours, OthersLeaveExtras}
use Rattle.laz_rgb.proofs.Rowed.{row-few}
use Rattle.laz_rgb.proofs.Spelled.{colour-ranged, row-six, writer-row}
use Rattle.laz_rgb.proofs.Extras.{extra-ranged, row-length, symbols-row}
use Rattle.std.proofs.lemmas.Bool.Decides.{nat_tests}
use Rattle.laz_rgb.proofs.Written.{Bits, bit-most, bits-of, byte-back, half-small, moved-small}

-- ---- events of one use
byte-silent : (other kind : List ℕ) (t : Bool) (m s : ℕ) → same_text other kind ≡ false → Silent other (if_marked t (byte_events kind m s))
byte-silent other kind true m s e = Silent-other other kind (byte_events kind m s) e (refl, tt)
byte-silent other kind false m s e = Silent-none other

row-silent : (other kind : List ℕ) (marks : List Bool) (m : ℕ) (xs : List ℕ) → same_text other kind ≡ false → Silent other (row_events kind marks m xs)
row-silent other kind [] m xs e = Silent-none other
row-silent other kind (t ∷ marks) m [] e = Silent-none other
row-silent other kind (t ∷ marks) m (s ∷ xs) e =
    Silent-append other (if_marked t (byte_events kind m s)) (row_events kind marks (m + 1) xs) (byte-silent other kind t m s e) (row-silent other kind marks (m + 1) xs e)

pub colours-lawful : ColoursAreLawful
colours-lawful =
    record {
      ranged = colour-ranged;
      few = λ last events now h. rw h.is (omega (arith, row-few rgb_kind (colour_marks h.changes) 1 h.symbols, row-six h.changes h.symbols h.row));
      silent = λ other last events now e h.
          rw h.is
          (Silent-append other (changes_event h.changes ∷ []) (row_events rgb_kind (colour_marks h.changes) 1 h.symbols)
          (Silent-other other rgb_kind (changes_event h.changes ∷ []) e (refl, tt)) (row-silent other rgb_kind (colour_marks h.changes) 1 h.symbols e));
    }

pub others-leave_colours : OthersLeaveColours
others-leave_colours earlier others colours st silent h = record { models = bank-silent rgb_kind st.bank earlier others silent h.models; last = h.last }

pub extras-lawful : ExtrasAreLawful
extras-lawful =
    record {
      ranged = extra-ranged;
      few = λ last events now h.
          rw h.is (omega (arith, row-few byte_kind (all_marked (length last)) 0 h.symbols, row-length (all_marked (length last)) h.symbols h.row, length-replicate {A = Bool} (length last) true));
      silent = λ other last events now e h. rw h.is (row-silent other byte_kind (all_marked (length last)) 0 h.symbols e);
    }

pub others-leave_extras : OthersLeaveExtras
others-leave_extras earlier others extras st silent h = record { models = bank-silent byte_kind st.bank earlier others silent h.models; last = h.last }

-- ---- what is written is read back
made-back : (last now : List ℕ) → IsBytes last → IsBytes now → length now ≡ length last → now ≡ extra_made last (extra_symbols last now)
made-back [] [] p q e = refl
made-back [] (c ∷ now) p q e = absurd (omega (arith, e))
made-back (b ∷ last) [] p q e = absurd (omega (arith, e))
made-back (b ∷ last) (c ∷ now) p q e =
    let here : c ≡ byte_plus b (byte_difference b c) = sym (difference-back b c (p 0) (q 0)) in
    let rest = made-back last now (λ k. p (suc k)) (λ k. q (suc k)) (omega (arith, e)) in
    λ i. here i ∷ rest i

pub extras-spelled : ExtrasAreSpelled
extras-spelled last now p q e = record { symbols = extra_symbols last now; row = symbols-row last now e; is = refl; makes = made-back last now p q e }

-- a mark that says "differs"
unmarked : (t : Bool) (a b : ℕ) → t ≡ not (a == b) → t ≡ false → a ≡ b
unmarked t a b is e =
    let same : (a == b) ≡ true = turned (a == b) (sym is ∙ e) in grind (arith, nat_tests)
  where
    turned : (t : Bool) → not t ≡ false → t ≡ true
    turned true e = refl
    turned false e = absurd (cc)

-- a colour that is grey
grey-is : (c : Colour) → is_grey c ≡ true → (c.green_low ≡ c.red_low) × (c.green_high ≡ c.red_high) × (c.blue_low ≡ c.red_low) × (c.blue_high ≡ c.red_high)
grey-is c e = grind (arith, nat_tests)

not-false : (u t : Bool) → u ≡ not t → u ≡ false → t ≡ true
not-false u true is e = refl
not-false u false is e = absurd (cc)

-- a byte of green, and one of blue
green-back : (u t : Bool) (p previous g r : ℕ) → p < 256 → g < 256 → (t ≡ false → g ≡ previous) → (u ≡ false → g ≡ r) → cond u (byte_of t p previous (symbol_if (u && t) p g)) r ≡ g
green-back true t p previous g r small byte same grey = byte-back t p previous g small byte same
green-back false t p previous g r small byte same grey = sym (grey refl)

blue-back : (u t v : Bool) (from to green_from blue_from g b r : ℕ) → g < 256 → b < 256 → (t ≡ false → g ≡ green_from) → (v ≡ false → b ≡ blue_from) → (u ≡ false → b ≡ r)
    → cond u (byte_of v (predicted_blue from to green_from (byte_of t (predicted_green from to green_from) green_from (symbol_if (u && t) (predicted_green from to green_from) g)) blue_from) blue_from
    (symbol_if (u && v) (predicted_blue from to green_from g blue_from) b)) r ≡ b
blue-back true t v from to green_from blue_from g b r green blue same same' grey =
    let back = byte-back t (predicted_green from to green_from) green_from g (moved-small from to green_from) green same in
    let s = symbol_if v (predicted_blue from to green_from g blue_from) b in
    ap (λ n. byte_of v (predicted_blue from to green_from n blue_from) blue_from s) back
    ∙ byte-back v (predicted_blue from to green_from g blue_from) blue_from b (half-small (from + green_from) (to + g) blue_from) blue same'
blue-back false t v from to green_from blue_from g b r green blue same same' grey = sym (grey refl)

module _ (last now : Colour) (p : IsBytes (colour_bytes last)) (q : IsBytes (colour_bytes now)) where
  abbrev sym_of : ℕ
  sym_of = changes last now

  bits : Bits (not (now.red_low == last.red_low)) (not (now.red_high == last.red_high)) (not (now.green_low == last.green_low)) (not (now.green_high == last.green_high)) (not (now.blue_low == last.blue_low)) (not (now.blue_high == last.blue_high)) (not (is_grey now)) sym_of
  bits = bits-of (not (now.red_low == last.red_low)) (not (now.red_high == last.red_high)) (not (now.green_low == last.green_low)) (not (now.green_high == last.green_high)) (not (now.blue_low == last.blue_low)) (not (now.blue_high == last.blue_high)) (not (is_grey now))

  grey : has_bit 64 sym_of ≡ false → (now.green_low ≡ now.red_low) × (now.green_high ≡ now.red_high) × (now.blue_low ≡ now.red_low) × (now.blue_high ≡ now.red_high)
  grey e = grey-is now (not-false (has_bit 64 sym_of) (is_grey now) bits.colours e)

  -- the colour made, with the bytes of red at hand
  abbrev with_red : ℕ → ℕ → Colour
  with_red red_low red_high =
      let u = has_bit 64 sym_of in
      let green_low = byte_of (has_bit 4 sym_of) (predicted_green last.red_low red_low last.green_low) last.green_low (symbol_if (u && has_bit 4 sym_of) (predicted_green last.red_low now.red_low last.green_low) now.green_low) in
      let blue_low = byte_of (has_bit 16 sym_of) (predicted_blue last.red_low red_low last.green_low green_low last.blue_low) last.blue_low (symbol_if (u && has_bit 16 sym_of) (predicted_blue last.red_low now.red_low last.green_low now.green_low last.blue_low) now.blue_low) in
      let green_high = byte_of (has_bit 8 sym_of) (predicted_green last.red_high red_high last.green_high) last.green_high (symbol_if (u && has_bit 8 sym_of) (predicted_green last.red_high now.red_high last.green_high) now.green_high) in
      let blue_high = byte_of (has_bit 32 sym_of) (predicted_blue last.red_high red_high last.green_high green_high last.blue_high) last.blue_high (symbol_if (u && has_bit 32 sym_of) (predicted_blue last.red_high now.red_high last.green_high now.green_high last.blue_high) now.blue_high) in
      record {
        red_low = red_low;
        red_high = red_high;
        green_low = cond u green_low red_low;
        green_high = cond u green_high red_high;
        blue_low = cond u blue_low red_low;
        blue_high = cond u blue_high red_high;
      }

  made-colour : colour_made sym_of last (colour_symbols sym_of last now) ≡ now
  made-colour =
      let u = has_bit 64 sym_of in
      let r0 = byte-back (has_bit 1 sym_of) last.red_low last.red_low now.red_low (p 0) (q 0) (unmarked (has_bit 1 sym_of) now.red_low last.red_low bits.red_low) in
      let r1 = byte-back (has_bit 2 sym_of) last.red_high last.red_high now.red_high (p 1) (q 1) (unmarked (has_bit 2 sym_of) now.red_high last.red_high bits.red_high) in
      let g0 = unmarked (has_bit 4 sym_of) now.green_low last.green_low bits.green_low in
      let g1 = unmarked (has_bit 8 sym_of) now.green_high last.green_high bits.green_high in
      let gl = green-back u (has_bit 4 sym_of) (predicted_green last.red_low now.red_low last.green_low) last.green_low now.green_low now.red_low (moved-small last.red_low now.red_low last.green_low) (q 2) g0 (λ e. (grey e).0) in
      let gh = green-back u (has_bit 8 sym_of) (predicted_green last.red_high now.red_high last.green_high) last.green_high now.green_high now.red_high (moved-small last.red_high now.red_high last.green_high) (q 3) g1 (λ e. (grey e).1) in
      let bl = blue-back u (has_bit 4 sym_of) (has_bit 16 sym_of) last.red_low now.red_low last.green_low last.blue_low now.green_low now.blue_low now.red_low (q 2) (q 4) g0 (unmarked (has_bit 16 sym_of) now.blue_low last.blue_low bits.blue_low) (λ e. (grey e).2) in
      let bh = blue-back u (has_bit 8 sym_of) (has_bit 32 sym_of) last.red_high now.red_high last.green_high last.blue_high now.green_high now.blue_high now.red_high (q 3) (q 5) g1 (unmarked (has_bit 32 sym_of) now.blue_high last.blue_high bits.blue_high) (λ e. (grey e).3) in
      let first : colour_made sym_of last (colour_symbols sym_of last now) ≡ with_red now.red_low now.red_high = λ i. with_red (r0 i) (r1 i) in
      first ∙ (λ i. record { red_low = now.red_low; red_high = now.red_high; green_low = gl i; green_high = gh i; blue_low = bl i; blue_high = bh i })

changes-few : (last now : Colour) → changes last now < 128
changes-few last now =
    omega (arith, bit-most (not (now.red_low == last.red_low)) 1, bit-most (not (now.red_high == last.red_high)) 2, bit-most (not (now.green_low == last.green_low)) 4, bit-most (not (now.green_high == last.green_high)) 8, bit-most (not (now.blue_low == last.blue_low)) 16, bit-most (not (now.blue_high == last.blue_high)) 32, bit-most (not (is_grey now)) 64)

pub colours-spelled : ColoursAreSpelled
colours-spelled last now p q =
    record { changes = changes last now; few = changes-few last now; symbols = colour_symbols (changes last now) last now; row = writer-row (changes last now) last now; is = refl; makes = sym (made-colour last now p q) }
