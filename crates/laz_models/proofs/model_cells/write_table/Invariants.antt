use Rattle.std.proofs.Common.{◌≡◌, ℕ, ◌*◌, ◌^◌, ◌<◌, ◌≤◌, get_or, length}
use Rattle.laz_models.specs.Lookup.{AreMarked, HaveBegun, IsLastAt, first_entry}
use Rattle.laz_models.proofs.model_cells.write_table.Given as goal

-- The entries before t are written, those from t on are as they were marked, and `last` is the greatest symbol that was
-- marked before t.
abbrev pub invariant-loop-t : goal.invariant-loop-t
invariant-loop-t l =
    record {
      begun : HaveBegun l.starts l.shift l.initial.table;
      marked : AreMarked (length l.starts) l.starts l.shift l.initial.table;
      symbol : l.last < length l.starts;
      start : get_or l.starts l.last 0 ≤ l.t * 2 ^ l.shift;
      greatest : (k : ℕ) → k < length l.starts → first_entry (get_or l.starts k 0) l.shift < l.t → k ≤ l.last;
      rest : (i : ℕ) → l.t ≤ i → get_or l.table i 0 ≡ get_or l.initial.table i 0;
      entries : (i : ℕ) → i < l.t → IsLastAt l.starts (i * 2 ^ l.shift) (get_or l.table i 0);
    }
