-- The ranges of what options say.
use Rattle.std.proofs.Common.{◌≡◌, ℕ, ◌+◌, ◌<◌, ◌≤◌, ◌^◌, Bool, true, false, cond, List, [], ◌∷◌, Option, Some, None, unwrap_or, codes, nat_le, ◌&&◌, ◌*◌, lit≤, arith, drop}
use Rattle.std.specs.Prelude.{All, bit_or, fold}
use Rattle.std.specs.List.{cons_option}
use Rattle.std.specs.Str.Parse.{digits_value}
use Rattle.std.proofs.Math.Nat.{pow-le-pow_right}
use Rattle.std.proofs.lemmas.Grind.{pow_more}
use Rattle.std.proofs.lemmas.List.Elements.{All-nil, All-cons}
use Rattle.std.proofs.lemmas.Bool.Decides.{nat_tests}
use Rattle.std.proofs.lemmas.Nat.{or_lt, pow_pos}
use Rattle.las_filter.specs.declared.change.Change.{Change}
use Rattle.las_filter.specs.Changes.{HasClass}
use Rattle.las_words.specs.declared.table.Flag.{Flag}
use Rattle.las_words.specs.declared.table.Flag.TheVariants.{SetClassification, Split, Points, Seed}
use Rattle.las_filter.specs.declared.rule.Rule.TheVariants.{Every, Class, Source, Return}
use Rattle.las_filter.specs.Parts.{IsRule}
use Rattle.las_words.specs.declared.pieces.Piece.{Piece}
use Rattle.las_words.specs.Numbers.{is_number, number_or_zero}
use Rattle.las_words.specs.Plans.{changes_given, change_in}
use Rattle.las_words.specs.Texts.{word_at}
use Rattle.las_words.specs.Settings.{text_given, number_given, chunk_given, workers_of, format_given, extra_given, rule_of}

-- a number of a range, or a default of that range
pub range : (low high number default : ℕ) (b : Bool) → low ≤ default → default ≤ high
    → (low ≤ unwrap_or (cond (b && (nat_le low number && nat_le number high)) (Some number) None) default)
    × (unwrap_or (cond (b && (nat_le low number && nat_le number high)) (Some number) None) default ≤ high)
range low high number default b least most = (grind (arith, nat_tests), grind (arith, nat_tests))

pub number_range : (most : ℕ) (word : List ℕ) → number_or_zero most word ≤ most
number_range most word = (range 0 most (digits_value 10 word) 0 (is_number word) (omega arith) (omega arith)).1

bit_range : (most number : ℕ) → number ≤ most → 2 ^ number < 2 ^ (most + 1)
bit_range most number le =
    let two : 0 < 2 = omega arith in
    let below : 2 ^ number ≤ 2 ^ most = pow-le-pow_right two le in
    let some : 0 < 2 ^ number = pow_pos number in
    let twice : 2 ^ (most + 1) ≡ 2 ^ most * 2 = pow_more 2 most in
    omega arith

pub masks_range : (most mask : ℕ) (words : List (List ℕ)) → mask < 2 ^ (most + 1) → fold (λ mask word. bit_or mask (2 ^ number_or_zero most word)) mask words < 2 ^ (most + 1)
masks_range most mask [] small = small
masks_range most mask (word ∷ words) small =
    masks_range most (bit_or mask (2 ^ number_or_zero most word)) words (or_lt (most + 1) mask (2 ^ number_or_zero most word) small (bit_range most (number_or_zero most word) (number_range most word)))

pub chunk_range : (words : List (List ℕ)) (pieces : List Piece) → (256 ≤ chunk_given words pieces) × (chunk_given words pieces ≤ 250000)
chunk_range words pieces =
    let text = text_given words (codes "-chunk_size") pieces in
    range 256 250000 (digits_value 10 text) 50000 (is_number text) (lit≤ tt) (lit≤ tt)

pub workers_range : (words : List (List ℕ)) (pieces : List Piece) → (1 ≤ workers_of words pieces) × (workers_of words pieces ≤ 8)
workers_range words pieces =
    let text = text_given words (codes "-cores") pieces in
    range 1 8 (digits_value 10 text) 1 (is_number text) (lit≤ tt) (lit≤ tt)

pub points_range : (words : List (List ℕ)) (pieces : List Piece) → number_given words Points 0 pieces ≤ 10000000
points_range words pieces = number_range 10000000 (text_given words (codes "-points") pieces)

pub seed_range : (words : List (List ℕ)) (pieces : List Piece) → number_given words Seed 0 pieces < 2 ^ 32
seed_range words pieces = let h = number_range 4294967295 (text_given words (codes "-seed") pieces) in omega arith

pub format_range : (words : List (List ℕ)) (pieces : List Piece) → format_given words pieces ≤ 3
format_range words pieces = number_range 3 (text_given words (codes "-format") pieces)

pub extra_range : (words : List (List ℕ)) (pieces : List Piece) → extra_given words pieces ≤ 192
extra_range words pieces = number_range 192 (text_given words (codes "-extra") pieces)

split_range : (words : List (List ℕ)) (pieces : List Piece) → 1 ≤ number_given words Split 1 pieces
split_range words pieces =
    let text = text_given words (codes "-split") pieces in
    (range 1 4294967295 (digits_value 10 text) 1 (is_number text) (lit≤ tt) (lit≤ tt)).0

rule_by : (class source return : Bool) (n : ℕ) → 1 ≤ n → IsRule (cond class Class (cond source Source (cond return Return (Every n))))
rule_by true source return n some = tt
rule_by false true return n some = tt
rule_by false false true n some = tt
rule_by false false false n some = some

pub rule_is : (words : List (List ℕ)) (pieces : List Piece) → IsRule (rule_of words pieces)
rule_is words pieces = rule_by _ _ _ (number_given words Split 1 pieces) (split_range words pieces)

-- a change that an option means has a class, if it sets one
abbrev HasClassIfAny : Option Change → Type 0
HasClassIfAny None = Unit {0}
HasClassIfAny (Some change) = HasClass change

class_in : (flag : Option Flag) (after : List (List ℕ)) → HasClassIfAny (change_in flag after)
class_in None after = tt
class_in (Some SetClassification) after = number_range 31 (word_at after 0)
class_in (Some _) after = tt

and_class : (change : Option Change) (changes : List Change) → HasClassIfAny change → All HasClass changes → All HasClass (cons_option change changes)
and_class None changes class all = all
and_class (Some change) changes class all = All-cons HasClass change changes class all

pub changes_have_classes : (words : List (List ℕ)) (pieces : List Piece) → All HasClass (changes_given words pieces)
changes_have_classes words [] = All-nil HasClass
changes_have_classes words (piece ∷ pieces) =
    and_class (change_in piece.flag (drop (piece.at + 1) words)) (changes_given words pieces) (class_in piece.flag (drop (piece.at + 1) words)) (changes_have_classes words pieces)
