-- A new reader stands for its file.
use Rattle.std.proofs.Common.{◌≡◌, ℕ, ◌+◌, ◌-◌, List, [], length, false, Option, None, sym, ◌∙◌, ap, arith}
use Rattle.las_header.specs.Fields.{points_of}
use Rattle.las_header.specs.Heads.{HeadView}
use Rattle.laz_forms.specs.Pieces.{pieces_from}
use Rattle.laz_forms.specs.Ranges.{Range, first_of, parts_of, whole_range}
use Rattle.laz_reader.specs.Reading.{AgreesWithHead, IsHeadOf, ListsPieces, ReaderSeen, ReadsAll, StandsFor, chunk_of, pieces_listed, records_in}
use Rattle.laz_reader.proofs.AllParts.{all_of}
use Rattle.laz_reader.proofs.PieceLists.{chunks_are}

pub new_stands : (file name : List ℕ) (head : HeadView) (chunk : Option ℕ) (counts sizes : List ℕ) → IsHeadOf file head → chunk ≡ chunk_of head.bytes → ListsPieces file chunk head.bytes counts sizes → (chunk ≡ None → counts ≡ [])
    → StandsFor (record { name = name; head = head; chunk = chunk; pieces = pieces_from (length head.bytes + 8) counts sizes; range = whole_range head.bytes; first = 0; next = 0; left = pieces_listed chunk head.bytes counts sizes; bad = false; failed = false; buffers = 0; cuts = []; lent = [] }) file
new_stands file name head chunk counts sizes h chunk_is lists none =
    let pieces = pieces_listed chunk head.bytes counts sizes in
    let all = all_of file pieces lists.are in
    record {
      accepted = lists.accepted;
      head = λ i. record { bytes = h.bytes i; size = h.size i };
      chunk = chunk_is ∙ ap chunk_of h.bytes;
      pieces = pieces;
      are = lists.are;
      chunks = chunks_are chunk head.bytes counts sizes none;
      all_lie = lists.lie;
      begun = omega arith;
      first = sym (ap (λ (b : List ℕ). first_of file (whole_range b) pieces) h.bytes ∙ all.1);
      left = sym (ap (λ (b : List ℕ). parts_of file (whole_range b) pieces) h.bytes ∙ all.0);
      lie = lists.lie;
      bad = λ is. absurd (cc);
    }

-- and has as many records as its head counts
pub all_points : (reader : ReaderSeen) → ReadsAll reader → AgreesWithHead reader → records_in reader.left ≡ points_of reader.head.bytes
all_points reader new whole =
    let none : points_of reader.head.bytes - 0 ≡ points_of reader.head.bytes = omega arith in
    whole.records ∙ ap (λ (r : Range). r.stop - r.start) new.all ∙ none
