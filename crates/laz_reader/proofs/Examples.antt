-- Values that compute: a reader of three chunks, the range of it from place 5 on, what it is after a piece of that, and
-- what is known of a file.
use Rattle.std.proofs.Common.{◌≡◌, List, [], ◌∷◌, codes, nat_cmp, Some, None, false, ap, refl}
use Rattle.std.specs.Cmp.Lexicographic.{slice_cmp}
use Rattle.std.specs.FinMap as map
use Rattle.std.specs.FinMap.{get-empty}
use Rattle.laz_forms.specs.Pieces.{Piece, pieces_from}
use Rattle.laz_forms.specs.Ranges.{Range}
use Rattle.laz_reader.specs.declared.turn.Turn.{Turn}
use Rattle.laz_reader.specs.Reading.{ReaderSeen, moved_by, with_range}
use Rattle.laz_reader.specs.Turns.{blocks_left, file_at}

-- chunks of 4, 3 and 2 points, from byte 100 on
abbrev chunks : List Piece
chunks = pieces_from 100 (4 ∷ 3 ∷ 2 ∷ []) (40 ∷ 30 ∷ 20 ∷ [])

abbrev reader : ReaderSeen
reader = record {
  name = codes "a";
  head = record { bytes = []; size = 190 };
  chunk = Some 4;
  pieces = chunks;
  range = record { start = 0; stop = 9 };
  first = 0;
  next = 0;
  left = chunks;
  bad = false;
  failed = false;
  buffers = 0;
  cuts = [];
  lent = [];
}

-- the places 5 to 7
abbrev places : Range
places = record { start = 5; stop = 8 }

-- the last two points of the second chunk, and the first of the third
abbrev second_part : Piece
second_part = record { start = 140; size = 30; count = 3; skip = 1; taken = 2 }

abbrev third_part : Piece
third_part = record { start = 170; size = 20; count = 2; skip = 0; taken = 1 }

sought : ((with_range reader places).first ≡ 1) × ((with_range reader places).next ≡ 1)
    × ((with_range reader places).left ≡ second_part ∷ third_part ∷ [])
sought = (refl, refl, refl)

moved : ((moved_by (with_range reader places) 1 reader).next ≡ 2)
    × ((moved_by (with_range reader places) 1 reader).left ≡ third_part ∷ [])
moved = (refl, refl)

-- a batch of three blocks of which one was reached, before three more
abbrev turn : Turn
turn = record { next = 1; count = 3 }

left_of_both : blocks_left reader turn ≡ 5
left_of_both = refl

known : (file_at None (codes "a") ≡ None) × (file_at (Some map.empty) (codes "a") ≡ Some None)
known = (refl, ap Some (get-empty (slice_cmp nat_cmp) (codes "a")))
