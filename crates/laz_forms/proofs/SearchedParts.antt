-- Spellings of times, colours and extra bytes can be searched.
use Rattle.std.proofs.Common.{◌≡◌, ◌≢◌, ◌⊎◌, ℕ, ℤ, ◌+◌, ◌*◌, ◌/◌, ◌<◌, List, [], ◌∷◌, ◌++◌, length, refl, sym, ap}
use Rattle.std.specs.Int.{w32, cast_signed, cast_unsigned}
use Rattle.laz_integer.specs.Events.{Event, raw_events}
use Rattle.laz_integer.proofs.Public.{same_pair}
use Rattle.laz_gpstime.specs.Meanings.{time_kind}
use Rattle.laz_gpstime.specs.Sequences.{Point}
use Rattle.laz_gpstime.specs.Spelling.{SpellsNear, SpellsNew, SpellsSame, SpellsTime, time_plus}
use Rattle.laz_gpstime.specs.Times.{context, difference_on, new_symbol, predicted, same_symbol, switch_events, time_on, time_symbol}
use Rattle.laz_rgb.specs.declared.colour.Colour.{Colour}
use Rattle.laz_rgb.specs.Colours.{SpellsColour, changes_event, colour_made, colour_marks, rgb_kind}
use Rattle.laz_rgb.specs.Extra.{SpellsExtra, all_marked, byte_kind, extra_made}
use Rattle.laz_rgb.specs.Rows.{IsRow, row_events}
use Rattle.laz_forms.proofs.Searching.{IsSearched, decided_not, searched_among, searched_as, searched_below, searched_made, searched_one, searched_or, searched_pairs}
use Rattle.laz_forms.proofs.SearchedFields.{IsInteger, same_number, searched_integer, searched_row}

abbrev Timed : Type 0
Timed = List Event × ℕ

-- ---- times

module _ (d from : ℕ) where
  searched_same : IsSearched (λ (x : Timed). SpellsSame d from x.0 x.1)
  searched_same =
      searched_as (λ (x : Timed). x ≡ (time_symbol d (same_symbol d) ∷ [], from)) (λ (x : Timed). SpellsSame d from x.0 x.1) (searched_one (time_symbol d (same_symbol d) ∷ [], from))
      (λ x e. record { is = ap (λ (y : Timed). y.0) e; makes = ap (λ (y : Timed). y.1) e })
      (λ x spell. same_pair x.0 (time_symbol d (same_symbol d) ∷ []) x.1 from spell.is spell.makes)

  -- a symbol of a difference, and the integer after it
  abbrev IsNearPart : ℕ × (List Event × (ℤ × ℕ)) → Type 0
  IsNearPart y = ((y.0 < new_symbol d) × (y.0 ≢ same_symbol d)) × IsInteger time_kind 32 (context d y.0) (cast_signed w32 (predicted d y.0)) y.1

  searched_near : IsSearched (λ (x : Timed). SpellsNear d from x.0 x.1)
  searched_near =
      searched_made IsNearPart (λ y. (time_symbol d y.0 ∷ y.1.0, time_plus from (cast_unsigned w32 y.1.1.0))) (λ (x : Timed). SpellsNear d from x.0 x.1)
      (searched_pairs (λ (m : ℕ). (m < new_symbol d) × (m ≢ same_symbol d)) (λ m. IsInteger time_kind 32 (context d m) (cast_signed w32 (predicted d m)))
      (searched_among (λ (m : ℕ). m < new_symbol d) (λ m. m ≢ same_symbol d) (searched_below (new_symbol d)) (λ m lt. decided_not (same_number m (same_symbol d))))
      (λ m is. searched_integer time_kind 32 (context d m) (cast_signed w32 (predicted d m))))
      (λ y is. record { m = y.0; below = is.0.0; differs = is.0.1; rest = y.1.0; is = refl; x = y.1.1.0; k = y.1.1.1; value = is.1; makes = refl })
      (λ x s. (
        (s.m, (s.rest, (s.x, s.k))),
        ((s.below, s.differs), s.value),
        same_pair (time_symbol d s.m ∷ s.rest) x.0 (time_plus from (cast_unsigned w32 s.x)) x.1 (sym s.is) (sym s.makes),
      ))

  abbrev IsNewPart : ℕ × (List Event × (ℤ × ℕ)) → Type 0
  IsNewPart y = (y.0 < 4294967296) × IsInteger time_kind 32 8 (cast_signed w32 (from / 4294967296)) y.1

  searched_new : IsSearched (λ (x : Timed). SpellsNew d from x.0 x.1)
  searched_new =
      searched_made IsNewPart (λ y. (time_symbol d (new_symbol d) ∷ y.1.0 ++ raw_events 32 y.0, cast_unsigned w32 y.1.1.0 * 4294967296 + y.0)) (λ (x : Timed). SpellsNew d from x.0 x.1)
      (searched_pairs (λ (low : ℕ). low < 4294967296) (λ low. IsInteger time_kind 32 8 (cast_signed w32 (from / 4294967296)))
      (searched_below 4294967296) (λ low lt. searched_integer time_kind 32 8 (cast_signed w32 (from / 4294967296))))
      (λ y is. record { rest = y.1.0; low = y.0; small = is.0; is = refl; high = y.1.1.0; k = y.1.1.1; value = is.1; makes = refl })
      (λ x s. (
        (s.low, (s.rest, (s.high, s.k))),
        (s.small, s.value),
        same_pair (time_symbol d (new_symbol d) ∷ s.rest ++ raw_events 32 s.low) x.0 (cast_unsigned w32 s.high * 4294967296 + s.low) x.1 (sym s.is) (sym s.makes),
      ))

module _ (earlier : List Point) where
  abbrev IsIn : ℕ → Timed → Type 0
  IsIn i x = SpellsSame (difference_on earlier i) (time_on earlier i) x.0 x.1
      ⊎ (SpellsNear (difference_on earlier i) (time_on earlier i) x.0 x.1 ⊎ SpellsNew (difference_on earlier i) (time_on earlier i) x.0 x.1)

  searched_in : (i : ℕ) → IsSearched (IsIn i)
  searched_in i =
      let d = difference_on earlier i in
      let from = time_on earlier i in
      searched_or (λ (x : Timed). SpellsSame d from x.0 x.1) (λ x. SpellsNear d from x.0 x.1 ⊎ SpellsNew d from x.0 x.1) (searched_same d from)
      (searched_or (λ (x : Timed). SpellsNear d from x.0 x.1) (λ x. SpellsNew d from x.0 x.1) (searched_near d from) (searched_new d from))

  pub searched_time : IsSearched (λ (x : Timed). SpellsTime earlier x.0 x.1)
  searched_time =
      searched_made (λ (y : ℕ × Timed). (y.0 < 4) × IsIn y.0 y.1) (λ y. (switch_events (difference_on earlier 0) y.0 ++ y.1.0, y.1.1)) (λ (x : Timed). SpellsTime earlier x.0 x.1)
      (searched_pairs (λ (i : ℕ). i < 4) IsIn (searched_below 4) (λ i lt. searched_in i))
      (λ y is. record { i = y.0; few = is.0; rest = y.1.0; is = refl; spells = is.1 })
      (λ x s. ((s.i, (s.rest, x.1)), (s.few, s.spells), same_pair (switch_events (difference_on earlier 0) s.i ++ s.rest) x.0 x.1 x.1 (sym s.is) refl))

-- ---- colours and extra bytes

pub searched_colour : (last : Colour) → IsSearched (λ (x : List Event × Colour). SpellsColour last x.0 x.1)
searched_colour last =
    searched_made (λ (y : ℕ × List ℕ). (y.0 < 128) × IsRow (colour_marks y.0) y.1)
    (λ y. (changes_event y.0 ∷ row_events rgb_kind (colour_marks y.0) 1 y.1, colour_made y.0 last y.1)) (λ (x : List Event × Colour). SpellsColour last x.0 x.1)
    (searched_pairs (λ (c : ℕ). c < 128) (λ c. IsRow (colour_marks c)) (searched_below 128) (λ c lt. searched_row (colour_marks c)))
    (λ y is. record { changes = y.0; few = is.0; symbols = y.1; row = is.1; is = refl; makes = refl })
    (λ x s. (
      (s.changes, s.symbols),
      (s.few, s.row),
      same_pair (changes_event s.changes ∷ row_events rgb_kind (colour_marks s.changes) 1 s.symbols) x.0 (colour_made s.changes last s.symbols) x.1 (sym s.is) (sym s.makes),
    ))

pub searched_extra : (last : List ℕ) → IsSearched (λ (x : List Event × List ℕ). SpellsExtra last x.0 x.1)
searched_extra last =
    let marks = all_marked (length last) in
    searched_made (IsRow marks) (λ y. (row_events byte_kind marks 0 y, extra_made last y)) (λ (x : List Event × List ℕ). SpellsExtra last x.0 x.1) (searched_row marks)
    (λ y is. record { symbols = y; row = is; is = refl; makes = refl })
    (λ x s. (s.symbols, s.row, same_pair (row_events byte_kind marks 0 s.symbols) x.0 (extra_made last s.symbols) x.1 (sym s.is) (sym s.makes)))
