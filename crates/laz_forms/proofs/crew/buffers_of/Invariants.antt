use Rattle.std.proofs.Common.{◌≡◌, ◌≤◌, [], vec_len}
use Rattle.std.specs.Prelude.{All, vec_capacity}
use Rattle.laz_forms.proofs.crew.buffers_of.Given as goal

abbrev pub invariant-loop-buffer : goal.invariant-loop-buffer
invariant-loop-buffer l = record {
  count : vec_len l.buffers ≡ l._buffer;
  empty : All (λ buffer. buffer.items ≡ []) l.buffers.items;
  room : All (λ buffer. l.room ≤ vec_capacity buffer) l.buffers.items;
}
