-- The commands that tools have: each is what is asked of its tool, if its fields are what the words say.
use Rattle.std.proofs.Common.{◌≡◌, ℕ, Bool, List, Option, codes, String, Global, Vec}
use Rattle.std.specs.Prelude.{string_bytes}
use Rattle.las_filter.specs.Kept.{steps_of}
use Rattle.las_filter.specs.declared.plan.Plan.{Plan}
use Rattle.las_filter.specs.declared.rule.Rule.{Rule}
use Rattle.las_thin.specs.declared.pick.Pick.{Pick}
use Rattle.las_words.specs.declared.command.Packing.{Packing}
use Rattle.las_words.specs.declared.command.Command.TheVariants as command
use Rattle.las_words.specs.declared.pieces.Piece.{Piece}
use Rattle.las_words.specs.declared.table.Flag.TheVariants.{Points, Seed}
use Rattle.las_words.specs.declared.table.Tool.TheVariants.{Laszip, Las2las, Lasinfo, Lassplit, Lasmerge, Make}
use Rattle.las_words.specs.Asked.{asked_by}
use Rattle.las_words.specs.Names.{extension_of, stem_of}
use Rattle.las_words.specs.Plans.{plan_of}
use Rattle.las_words.specs.Says.{asked_of, packs_output}
use Rattle.las_words.specs.Settings.{chunk_given, extra_given, format_given, is_given, number_given, pick_of, rule_of, start_of}
use Rattle.las_words.specs.Settings.{step_of, stop_given, text_given, texts_of, workers_of}
use Rattle.las_words.specs.Tallies.{tallies_of}
use Rattle.las_words.specs.Texts.{texts}

pub packs : (words : List (List ℕ)) (pieces : List Piece) (input output : String Global) (chunk workers : ℕ)
    → string_bytes input ≡ text_given words (codes "-i") pieces
    → string_bytes output ≡ text_given words (codes "-o") pieces
    → chunk ≡ chunk_given words pieces
    → workers ≡ workers_of words pieces
    → asked_by (command.Laszip input output chunk workers) ≡ asked_of Laszip words pieces
packs words pieces input output chunk workers a b c d = cc

pub converts :
    (words : List (List ℕ)) (pieces : List Piece) (input output : String Global) (plan : Plan) (packing : Packing)
    (workers start stop : ℕ) (step : Option ℕ) (pick : Pick) (unique : Bool) (tallies : Vec (String Global) Global)
    → string_bytes input ≡ text_given words (codes "-i") pieces
    → string_bytes output ≡ text_given words (codes "-o") pieces
    → steps_of plan ≡ plan_of words pieces
    → packing.packed ≡ packs_output words pieces
    → packing.chunk ≡ chunk_given words pieces
    → workers ≡ workers_of words pieces
    → start ≡ start_of words pieces
    → stop ≡ stop_given words pieces
    → step ≡ step_of words pieces
    → pick ≡ pick_of words pieces
    → unique ≡ is_given words (codes "-drop_repeated") pieces
    → texts tallies.items ≡ tallies_of words pieces
    → asked_by (command.Las2las input output plan packing workers start stop step pick unique tallies) ≡ asked_of
    Las2las words pieces
converts words pieces input output plan packing workers start stop step pick unique tallies a b c d e f g h i j k l = cc

pub reports :
    (words : List (List ℕ)) (pieces : List Piece) (input : String Global) (tallies : Vec (String Global) Global)
    (workers : ℕ)
    → string_bytes input ≡ text_given words (codes "-i") pieces
    → texts tallies.items ≡ tallies_of words pieces
    → workers ≡ workers_of words pieces
    → asked_by (command.Lasinfo input tallies workers) ≡ asked_of Lasinfo words pieces
reports words pieces input tallies workers a b c = cc

pub splits : (words : List (List ℕ)) (pieces : List Piece) (input stem end : String Global) (rule : Rule) (workers : ℕ)
    → string_bytes input ≡ text_given words (codes "-i") pieces
    → string_bytes stem ≡ stem_of (text_given words (codes "-o") pieces)
    → string_bytes end ≡ extension_of (text_given words (codes "-o") pieces)
    → rule ≡ rule_of words pieces
    → workers ≡ workers_of words pieces
    → asked_by (command.Lassplit input stem end rule workers) ≡ asked_of Lassplit words pieces
splits words pieces input stem end rule workers a b c d e = cc

pub merges :
    (words : List (List ℕ)) (pieces : List Piece) (inputs : Vec (String Global) Global) (output : String Global)
    (packing : Packing) (workers : ℕ) (copy : Bool)
    → texts inputs.items ≡ texts_of words (codes "-i") pieces
    → string_bytes output ≡ text_given words (codes "-o") pieces
    → packing.packed ≡ packs_output words pieces
    → packing.chunk ≡ chunk_given words pieces
    → workers ≡ workers_of words pieces
    → copy ≡ is_given words (codes "-copy_chunks") pieces
    → asked_by (command.Lasmerge inputs output packing workers copy) ≡ asked_of Lasmerge words pieces
merges words pieces inputs output packing workers copy a b c d e f = cc

pub makes :
    (words : List (List ℕ)) (pieces : List Piece) (output packed : String Global)
    (points seed format extra chunk workers : ℕ)
    → string_bytes output ≡ text_given words (codes "-o") pieces
    → string_bytes packed ≡ text_given words (codes "-z") pieces
    → points ≡ number_given words Points 0 pieces
    → seed ≡ number_given words Seed 0 pieces
    → format ≡ format_given words pieces
    → extra ≡ extra_given words pieces
    → chunk ≡ chunk_given words pieces
    → workers ≡ workers_of words pieces
    → asked_by (command.Make output packed points seed format extra chunk workers) ≡ asked_of Make words pieces
makes words pieces output packed points seed format extra chunk workers a b c d e f g h = cc
