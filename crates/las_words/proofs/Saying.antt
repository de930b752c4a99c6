-- What words say, by their first word and the first that is wrong.
use Rattle.std.proofs.Common.{◌≡◌, ◌≢◌, ℕ, ◌+◌, ◌^◌, ◌<◌, Bool, true, false, cond, ◌||◌, ◌&&◌, List, [], drop, length, Option, Some, None, is_some, codes, refl, sym, ◌∙◌, ap, subst}
use Rattle.std.specs.Prelude.{All}
use Rattle.std.specs.Option.{option_map}
use Rattle.std.specs.List.{list_any}
use Rattle.std.specs.Str.{bytes_eq}
use Rattle.std.proofs.lemmas.Bool.{or_parts, and_parts}
use Rattle.las_filter.specs.Parts.{part_name}
use Rattle.las_header.specs.Limits.{IsChunkSize}
use Rattle.las_outside.specs.Limits.{AreWorkers}
use Rattle.las_words.specs.declared.table.Tool.{Tool}
use Rattle.las_words.specs.declared.table.Tool.TheVariants.{Laszip, Las2las, Lasinfo, Lassplit, Lasmerge, Make}
use Rattle.las_words.specs.declared.pieces.Piece.{Piece}
use Rattle.las_words.specs.Texts.{word_at, is_packed_name}
use Rattle.las_words.specs.Table.{tool_named}
use Rattle.las_words.specs.Pieces.{cut_words}
use Rattle.las_words.specs.Faults.{first_fault}
use Rattle.las_words.specs.Settings.{place_of, is_given, text_given, texts_of, chunk_given, pick_alone, workers_of}
use Rattle.las_words.specs.Names.{extension_of, stem_of, is_part_name, plain_copy, overwritten_name, unfit_parts, same_output, wrong_name}
use Rattle.las_words.specs.Asked.{AreInputs, Asked, IsSoundAsked, IsSoundWork}
use Rattle.las_words.specs.Says.{asks, usage, says, said_to, said_unless, wrong_word, missing_option, asked_of, work_of}
use Rattle.las_words.proofs.Chosen.{or_none, tallies_distinct, tallies_there}
use Rattle.las_words.proofs.Inputs.{IsNamed, cut_named, few_inputs, first_text, none_is, some_text, unequal}
use Rattle.las_words.proofs.PartNames.{no_part}
use Rattle.las_words.proofs.Places.{in_order}
use Rattle.las_words.proofs.Sieves.{sieve_is}
use Rattle.las_words.proofs.Ranges.{chunk_range, workers_range, points_range, seed_range, format_range, extra_range, rule_is, changes_have_classes}

pub no_tool : (names words : List (List ℕ)) → tool_named (word_at words 0) ≡ None → says words names ≡ usage 0
unfolding says
no_tool names words is = ap (λ (t : Option Tool). said_to names t words) is

says_of : (names words : List (List ℕ)) (tool : Tool) (pieces : List Piece) (fault : Option ℕ) → tool_named (word_at words 0) ≡ Some tool → pieces ≡ cut_words tool 1 0 (drop 1 words)
    → wrong_word names tool words pieces ≡ fault → says words names ≡ said_unless fault (asked_of tool words pieces)
unfolding says
says_of names words tool pieces fault named are is =
    ap (λ (t : Option Tool). said_to names t words) named
    ∙ ap (λ (ps : List Piece). said_unless (wrong_word names tool words ps) (asked_of tool words ps)) (sym are)
    ∙ ap (λ (f : Option ℕ). said_unless f (asked_of tool words pieces)) is

pub wrong : (names words : List (List ℕ)) (tool : Tool) (pieces : List Piece) (index : ℕ) → tool_named (word_at words 0) ≡ Some tool → pieces ≡ cut_words tool 1 0 (drop 1 words)
    → wrong_word names tool words pieces ≡ Some index → says words names ≡ usage index
wrong names words tool pieces index named are is = says_of names words tool pieces (Some index) named are is

pub accepted : (names words : List (List ℕ)) (tool : Tool) (pieces : List Piece) (asked : Asked) → tool_named (word_at words 0) ≡ Some tool → pieces ≡ cut_words tool 1 0 (drop 1 words)
    → wrong_word names tool words pieces ≡ None → asked ≡ asked_of tool words pieces → says words names ≡ asks asked
accepted names words tool pieces asked named are is same = says_of names words tool pieces None named are is ∙ ap asks (sym same)

-- no option is missing
not_missing : (given : Bool) (count : ℕ) → cond given None (Some count) ≡ None → given ≡ true
not_missing true count is = refl
not_missing false count is = cc

or_none_else : (a : Bool) → (a || false) ≡ true → a ≡ true
or_none_else true is = refl
or_none_else false is = cc

-- of two options that are required, each under one name, both are given
both_given : (first second rest : Bool) (count : ℕ) → cond ((first || false) && ((second || false) && rest)) None (Some count) ≡ None → (first ≡ true) × (second ≡ true)
both_given first second rest count is =
    let all = and_parts (first || false) ((second || false) && rest) (not_missing _ count is) in
    (or_none_else first all.0, or_none_else second (and_parts (second || false) rest all.1).0)

-- no name is wrong, so the test of names found none
other_name : (same : Bool) (place : Option ℕ) → is_some place ≡ true → cond same (option_map (λ at. at + 1) place) None ≡ None → same ≡ false
other_name false place given is = refl
other_name true None given is = cc
other_name true (Some at) given is = cc

-- an input and an output are given, and the output is none of the inputs
record AreNamed (words : List (List ℕ)) (pieces : List Piece) : Type 0 where
  input : is_given words (codes "-i") pieces ≡ true
  output : is_given words (codes "-o") pieces ≡ true
  other : list_any (bytes_eq (text_given words (codes "-o") pieces)) (texts_of words (codes "-i") pieces) ≡ false

are_named : (words : List (List ℕ)) (pieces : List Piece) (rest : Bool) → cond ((is_given words (codes "-i") pieces || false) && ((is_given words (codes "-o") pieces || false) && rest)) None (Some (length words)) ≡ None
    → overwritten_name words pieces ≡ None → AreNamed words pieces
are_named words pieces rest missing name =
    let both = both_given (is_given words (codes "-i") pieces) (is_given words (codes "-o") pieces) rest (length words) missing in record {
      input = both.0;
      output = both.1;
      other = other_name (list_any (bytes_eq (text_given words (codes "-o") pieces)) (texts_of words (codes "-i") pieces)) (place_of words (codes "-o") pieces) both.1 name;
    }

-- the output has another name than the first input
names_differ : (words : List (List ℕ)) (pieces : List Piece) → AreNamed words pieces → bytes_eq (text_given words (codes "-o") pieces) (text_given words (codes "-i") pieces) ≡ false
names_differ words pieces named = first_text words (codes "-i") pieces (bytes_eq (text_given words (codes "-o") pieces)) named.input named.other

-- no word is wrong
record Right (names words : List (List ℕ)) (tool : Tool) (pieces : List Piece) : Type 0 where
  faults : first_fault names words [] pieces ≡ None
  missing : missing_option tool words pieces ≡ None
  name : wrong_name tool words pieces ≡ None
  cells : pick_alone words pieces ≡ None

right : (names words : List (List ℕ)) (tool : Tool) (pieces : List Piece) → wrong_word names tool words pieces ≡ None → Right names words tool pieces
right names words tool pieces is =
    let after = or_none (first_fault names words [] pieces) _ is in
    let last = or_none (missing_option tool words pieces) _ after.1 in
    let names = or_none (wrong_name tool words pieces) (pick_alone words pieces) last.1 in
    record { faults = after.0; missing = last.0; name = names.0; cells = names.1 }

chunk_size : (words : List (List ℕ)) (pieces : List Piece) → IsChunkSize (chunk_given words pieces)
chunk_size words pieces = chunk_range words pieces

workers : (words : List (List ℕ)) (pieces : List Piece) → AreWorkers (workers_of words pieces)
workers words pieces = workers_range words pieces

-- no part has the input's name
no_part_is_the_input : (words : List (List ℕ)) (pieces : List Piece) → AreNamed words pieces → unfit_parts words pieces ≡ None
    → (number : ℕ) → number < 2 ^ 32 → part_name (stem_of (text_given words (codes "-o") pieces)) (extension_of (text_given words (codes "-o") pieces)) number ≢ text_given words (codes "-i") pieces
no_part_is_the_input words pieces named fit =
    let output = text_given words (codes "-o") pieces in
    let input = text_given words (codes "-i") pieces in
    let tests = other_name (is_packed_name output || is_part_name (stem_of output) (extension_of output) input) (place_of words (codes "-o") pieces) named.output fit in
    no_part (stem_of output) (extension_of output) input (or_parts (is_packed_name output) (is_part_name (stem_of output) (extension_of output) input) tests).1

inputs_are : (names words : List (List ℕ)) (pieces : List Piece) → All (IsNamed Lasmerge words) pieces → first_fault names words [] pieces ≡ None → AreNamed words pieces
    → AreInputs (texts_of words (codes "-i") pieces) (text_given words (codes "-o") pieces)
inputs_are names words pieces flags faults named = record {
  some = some_text words (codes "-i") pieces named.input;
  few = few_inputs names words pieces flags faults;
  others = none_is (text_given words (codes "-o") pieces) (texts_of words (codes "-i") pieces) named.other;
}

outputs_differ : (words : List (List ℕ)) (pieces : List Piece) → missing_option Make words pieces ≡ None → same_output words pieces ≡ None → text_given words (codes "-o") pieces ≢ text_given words (codes "-z") pieces
outputs_differ words pieces missing name =
    let both = both_given (is_given words (codes "-o") pieces) (is_given words (codes "-z") pieces) _ (length words) missing in
    let output = text_given words (codes "-o") pieces in
    let packed = text_given words (codes "-z") pieces in
    unequal packed output (other_name (bytes_eq packed output) (place_of words (codes "-z") pieces) both.1 name)

sound_of : (names words : List (List ℕ)) (tool : Tool) (pieces : List Piece) → All (IsNamed tool words) pieces → Right names words tool pieces → IsSoundWork names (work_of tool words pieces)
sound_of names words Laszip pieces flags r = (names_differ words pieces (are_named words pieces true r.missing r.name), chunk_size words pieces)
sound_of names words Las2las pieces flags r = (
  names_differ words pieces (are_named words pieces true r.missing r.name),
  chunk_size words pieces,
  changes_have_classes words pieces,
  in_order names words pieces flags r.faults,
  sieve_is words pieces r.cells,
  record { there = tallies_there names words pieces r.faults; distinct = tallies_distinct names words pieces r.faults },
)
sound_of names words Lasinfo pieces flags r =
    record { there = tallies_there names words pieces r.faults; distinct = tallies_distinct names words pieces r.faults }
sound_of names words Lassplit pieces flags r =
    let both = or_none (overwritten_name words pieces) (unfit_parts words pieces) r.name in
    (rule_is words pieces, no_part_is_the_input words pieces (are_named words pieces _ r.missing both.0) both.1)
sound_of names words Lasmerge pieces flags r =
    let both = or_none (overwritten_name words pieces) (plain_copy words pieces) r.name in
    (inputs_are names words pieces flags r.faults (are_named words pieces true r.missing both.0), chunk_size words pieces)
sound_of names words Make pieces flags r = (
  outputs_differ words pieces r.missing r.name,
  record { few = points_range words pieces; short = seed_range words pieces; known = format_range words pieces; small = extra_range words pieces },
  chunk_size words pieces,
)

pub sound : (names words : List (List ℕ)) (tool : Tool) (pieces : List Piece) (asked : Asked) → pieces ≡ cut_words tool 1 0 (drop 1 words) → wrong_word names tool words pieces ≡ None → asked ≡ asked_of tool words pieces → IsSoundAsked names asked
sound names words tool pieces asked are is same =
    let flags = subst (λ (ps : List Piece). All (IsNamed tool words) ps) (sym are) (cut_named tool words 1 0 (drop 1 words) refl) in
    subst (IsSoundAsked names) (sym same) (sound_of names words tool pieces flags (right names words tool pieces is), workers words pieces)
