use Rattle.std.proofs.Common.{◌≡◌, ℕ, List, length, take}
use Rattle.laz_range.specs.Choice.{AreAsked, all_cuts, state_after}
use Rattle.laz_range.specs.Decoding.{Takes}
use Rattle.laz_models.specs.Bank.{alphabet_sizes}
use Rattle.laz_rgb.specs.Rows.{IsNextByte, next_cuts, next_row, row_at}
use Rattle.laz_rgb.specs.Extra.{all_marked, extra_made}
use Rattle.laz_rgb.proofs.bytes.take_bytes.Given as goal

abbrev pub invariant-loop-i : goal.invariant-loop-i
invariant-loop-i l =
    let row = row_at (all_marked (length l.last)) 0 l.fn.bank in
    record {
      reads : (xs : List ℕ) × Takes (AreAsked next_row IsNextByte row l.i) (all_cuts next_row next_cuts row) l.fn.decoder l.decoder xs × (take l.i l.part ≡ extra_made l.last xs) × (l.bank ≡ (state_after next_row row xs).bank);
      part : length l.part ≡ length l.last;
      sizes : alphabet_sizes l.bank ≡ alphabet_sizes l.fn.bank;
    }
