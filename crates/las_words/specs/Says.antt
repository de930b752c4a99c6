-- What the words of the command line say: a command with its options, or which word is the first that is wrong.
use Rattle.std.specs.Prelude.{ℕ, Bool, not, ◌&&◌, ◌||◌, if◌then◌else◌, List, [], codes, drop, length}
use Rattle.std.specs.Prelude.{Option, Some, None}
use Rattle.std.specs.Option.{option_or}
use Rattle.std.specs.List.{list_all, list_any}
use Rattle.las_words.specs.declared.table.Tool.{Tool}
use Rattle.las_words.specs.declared.table.Tool.TheVariants.{Laszip, Las2las, Lasinfo, Lassplit, Lasmerge, Make}
use Rattle.las_words.specs.declared.table.Flag.TheVariants.{Points, Seed}
use Rattle.las_words.specs.declared.pieces.Piece.{Piece}
use Rattle.las_words.specs.Asked.{Asked, Work, laszip, las2las, lasinfo, lassplit, lasmerge, make, reads}
use Rattle.las_words.specs.Texts.{word_at, is_packed_name}
use Rattle.las_words.specs.Table.{command_row, tool_named}
use Rattle.las_words.specs.Pieces.{cut_words}
use Rattle.las_words.specs.Faults.{first_fault}
use Rattle.las_words.specs.Settings.{is_given, text_given, texts_of, number_given}
use Rattle.las_words.specs.Settings.{chunk_given, workers_of, start_of, stop_given, format_given, extra_given, rule_of}
use Rattle.las_words.specs.Settings.{pick_alone, sieve_of}
use Rattle.las_words.specs.Names.{extension_of, stem_of, wrong_name}
use Rattle.las_words.specs.Tallies.{tallies_of}
use Rattle.las_words.specs.Plans.{plan_of}

-- what words say: a command, or the index of the first word that is wrong
pub data Said : Type 0 where
  asks : Asked → Said
  usage : ℕ → Said

-- the number of words, if a required option is missing
abbrev pub missing_option : Tool → List (List ℕ) → List Piece → Option ℕ
missing_option tool words pieces =
    if list_all (λ names. list_any (λ name. is_given words name pieces) names) (command_row tool).required
    then None
    else Some (length words)

-- the index of the first word that is wrong: by the options and their values, then a missing option, then the names,
-- then a pick without cells
abbrev pub wrong_word : (names : List (List ℕ)) → Tool → List (List ℕ) → List Piece → Option ℕ
wrong_word names tool words pieces =
    option_or (first_fault names words [] pieces)
    (option_or (missing_option tool words pieces)
    (option_or (wrong_name tool words pieces) (pick_alone words pieces)))

-- the output of `las2las` and `lasmerge` is packed with -olaz, plain with -olas, and else by its name
abbrev pub packs_output : List (List ℕ) → List Piece → Bool
packs_output words pieces =
    is_given words (codes "-olaz") pieces
    || (not (is_given words (codes "-olas") pieces) && is_packed_name (text_given words (codes "-o") pieces))

-- what a command with these options does
abbrev pub work_of : Tool → List (List ℕ) → List Piece → Work
work_of Laszip words pieces =
    reads (text_given words (codes "-i") pieces)
    (laszip (record { output = text_given words (codes "-o") pieces; chunk = chunk_given words pieces }))
work_of Las2las words pieces =
    reads (text_given words (codes "-i") pieces) (las2las (record {
      output = text_given words (codes "-o") pieces;
      plan = plan_of words pieces;
      packed = packs_output words pieces;
      chunk = chunk_given words pieces;
      start = start_of words pieces;
      stop = stop_given words pieces;
      sieve = sieve_of words pieces;
      tallies = tallies_of words pieces;
    }))
work_of Lasinfo words pieces =
    reads (text_given words (codes "-i") pieces) (lasinfo (record { tallies = tallies_of words pieces }))
work_of Lassplit words pieces =
    let output = text_given words (codes "-o") pieces in
    reads (text_given words (codes "-i") pieces)
    (lassplit (record { stem = stem_of output; end = extension_of output; rule = rule_of words pieces }))
work_of Lasmerge words pieces =
    lasmerge (record {
      inputs = texts_of words (codes "-i") pieces;
      output = text_given words (codes "-o") pieces;
      packed = packs_output words pieces;
      chunk = chunk_given words pieces;
      copy = is_given words (codes "-copy_chunks") pieces;
    })
work_of Make words pieces =
    make (record {
      output = text_given words (codes "-o") pieces;
      packed = text_given words (codes "-z") pieces;
      points = number_given words Points 0 pieces;
      seed = number_given words Seed 0 pieces;
      format = format_given words pieces;
      extra = extra_given words pieces;
      chunk = chunk_given words pieces;
    })

-- a command with these options
abbrev pub asked_of : Tool → List (List ℕ) → List Piece → Asked
asked_of tool words pieces = record { work = work_of tool words pieces; workers = workers_of words pieces }

-- a command, unless a word is wrong
abbrev pub said_unless : Option ℕ → Asked → Said
said_unless (Some index) asked = usage index
said_unless None asked = asks asked

-- what the words after the command say
abbrev pub said_to : (names : List (List ℕ)) → Option Tool → List (List ℕ) → Said
said_to names None words = usage 0
said_to names (Some tool) words =
    let pieces = cut_words tool 1 0 (drop 1 words) in
    said_unless (wrong_word names tool words pieces) (asked_of tool words pieces)

-- what words say, if the taps have these names; without any word, the first is no command
unfoldable pub says : (words names : List (List ℕ)) → Said
says words names = said_to names (tool_named (word_at words 0)) words
