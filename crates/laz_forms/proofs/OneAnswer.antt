-- A file is refused for at most one cause, and has at most one list of pieces.
use Rattle.std.proofs.Common.{◌≡◌, ℕ, Bool, true, false, List, ◌++◌, sym, ap, ◌∙◌}
use Rattle.las_header.specs.Conditions.{conditions}
use Rattle.las_header.specs.Fields.{head_of, is_packed}
use Rattle.las_header.proofs.Public.{IsFirst-one}
use Rattle.laz_table.specs.Chunks.{sizes_of}
use Rattle.laz_forms.specs.Laws.{HasOnePieces, IsRefusedOnce}
use Rattle.laz_forms.specs.Pieces.{ArePiecesIf, Piece, pieces_from}
use Rattle.laz_forms.specs.Refusing.{blocks_in, chunk_causes, chunks_place, tested_causes}

pub refused_once : IsRefusedOnce
refused_once file one other is was =
    IsFirst-one (conditions (tested_causes file) ++ chunk_causes (is_packed (head_of file)) file) one other is was

one_if : (packed : Bool) (file : List ℕ) (one other : List Piece) → ArePiecesIf packed file one → ArePiecesIf packed file other → one ≡ other
one_if false file one other is was = is ∙ sym was
one_if true file one other is was =
    let same = is.2.table.only was.2.coded was.1 was.2.table.begins in
    let counts : is.0 ≡ was.0 = is.2.sizes_are ∙ ap (sizes_of (blocks_in (head_of file))) (sym same.0) ∙ sym was.2.sizes_are in
    is.3
    ∙ ap (λ (ns : List ℕ). pieces_from (chunks_place file) ns is.1) counts
    ∙ ap (pieces_from (chunks_place file) was.0) (sym same.1)
    ∙ sym was.3

pub one_pieces : HasOnePieces
one_pieces file one other is was = one_if (is_packed (head_of file)) file one other is was
