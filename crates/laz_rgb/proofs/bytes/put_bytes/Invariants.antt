use Rattle.std.proofs.Common.{◌≡◌, ◌+◌, ◌*◌, ◌≤◌, length, take}
use Rattle.laz_range.specs.Choice.{all_cuts, state_after}
use Rattle.laz_range.specs.Coding.{Codes}
use Rattle.laz_models.specs.Bank.{alphabet_sizes}
use Rattle.laz_rgb.specs.Rows.{next_cuts, next_row, row_at}
use Rattle.laz_rgb.specs.Extra.{all_marked, extra_symbols}
use Rattle.laz_rgb.proofs.bytes.put_bytes.Given as goal

abbrev pub invariant-loop-i : goal.invariant-loop-i
invariant-loop-i l = record {
  codes : Codes l.initial.encoder l.encoder (all_cuts next_row next_cuts (row_at (all_marked (length l.last)) 0 l.initial.bank) (take l.i (extra_symbols l.last l.part)));
  next : l.bank ≡ (state_after next_row (row_at (all_marked (length l.last)) 0 l.initial.bank) (take l.i (extra_symbols l.last l.part))).bank;
  sizes : alphabet_sizes l.bank ≡ alphabet_sizes l.initial.bank;
  used : l.initial.encoder.left ≤ l.encoder.left + 3 * l.i;
}
