use Rattle.std.proofs.Common.{◌≡◌, ◌+◌, ◌≤◌, vec_len, vec_capacity}
use Rattle.std.specs.Prelude.{All}
use Rattle.laz_workers.specs.Seen.{PassSeen, opening_pass, split_pass}
use Rattle.laz_workers.proofs.claims.Claims.deal.Given as goal

abbrev pub invariant-loop : goal.invariant-loop
invariant-loop l = record {
  opening : l.opening ≡ record (opening_pass l.self) { rest = l.opening.rest; out = l.opening.out };
  out : l.opening.out ≡ vec_len l.passes;
  count : vec_len l.passes ≡ l.counter;
  rest : l.opening.rest + l.counter + 1 ≡ l.self.workers;
  end : l.end + 1 ≡ l.self.workers;
  split : All (λ (p : PassSeen). p ≡ split_pass (opening_pass l.self)) l.passes.items;
  capacity : l.self.workers ≤ vec_capacity l.passes;
  kept : vec_capacity l.initial.passes ≤ vec_capacity l.passes;
}
