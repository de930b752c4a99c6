-- The sieve that words ask for: its cells have a side of its range, and there are some unless the first stays.
use Rattle.std.proofs.Common.{◌≡◌, ℕ, ◌≤◌, Bool, true, false, cond, List, Option, Some, None, is_some, codes, lit≤, arith, refl, sym}
use Rattle.std.specs.Option.{option_or}
use Rattle.std.specs.Str.Parse.{digits_value}
use Rattle.std.proofs.lemmas.Option.{none-some}
use Rattle.las_thin.specs.declared.pick.Pick.TheVariants as pick
use Rattle.las_thin.specs.Sieving.{HasItsStep, IsStep}
use Rattle.las_words.specs.declared.table.Flag.TheVariants.{ThinRaw}
use Rattle.las_words.specs.declared.pieces.Piece.{Piece}
use Rattle.las_words.specs.Asked.{IsSieve}
use Rattle.las_words.specs.Numbers.{is_number}
use Rattle.las_words.specs.Settings.{is_given, number_given, pick_alone, place_of, sieve_of, text_given}
use Rattle.las_words.proofs.Ranges.{range}

step_range : (words : List (List ℕ)) (pieces : List Piece) → (1 ≤ number_given words ThinRaw 1 pieces) × (number_given words ThinRaw 1 pieces ≤ 2147483647)
step_range words pieces =
    let text = text_given words (codes "-thin_raw") pieces in
    range 1 2147483647 (digits_value 10 text) 1 (is_number text) (lit≤ tt) (lit≤ tt)

-- by what is given
side_by : (thin : Bool) (number : ℕ) → (1 ≤ number) × (number ≤ 2147483647) → IsStep (cond thin (Some number) None)
side_by true number range = (omega (arith, range.0), omega (arith, range.1))
side_by false number range = tt

cells_by : (thin : Bool) (number : ℕ) (lowest highest : Option ℕ) → cond thin None (option_or lowest highest) ≡ None
    → HasItsStep (cond thin (Some number) None) (cond (is_some lowest) pick.Lowest (cond (is_some highest) pick.Highest pick.First))
cells_by true number (Some at) highest is = refl
cells_by true number None (Some at) is = refl
cells_by true number None None is = tt
cells_by false number (Some at) highest is = absurd (none-some at (sym is))
cells_by false number None (Some at) is = absurd (none-some at (sym is))
cells_by false number None None is = tt

pub sieve_is : (words : List (List ℕ)) (pieces : List Piece) → pick_alone words pieces ≡ None → IsSieve (sieve_of words pieces)
sieve_is words pieces alone = record {
  side = side_by (is_given words (codes "-thin_raw") pieces) (number_given words ThinRaw 1 pieces) (step_range words pieces);
  cells =
      cells_by (is_given words (codes "-thin_raw") pieces) (number_given words ThinRaw 1 pieces) (place_of words (codes "-lowest") pieces)
      (place_of words (codes "-highest") pieces) alone;
}
