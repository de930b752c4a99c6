use Rattle.std.proofs.Common.{◌≡◌, ◌-◌, ◌*◌, min, map}
use Rattle.std.specs.List.{range_with_len}
use Rattle.laz_table.proofs.table.fixed_sizes.Given as goal

abbrev pub invariant-loop-chunk : goal.invariant-loop-chunk
invariant-loop-chunk l =
    record {
      left : l.left ≡ l.points - l.chunk * l._chunk;
      sizes : l.sizes.items ≡ map (λ i. min l.chunk (l.points - l.chunk * i)) (range_with_len 0 l._chunk);
    }
