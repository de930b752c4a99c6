use Rattle.std.proofs.Common.{◌≡◌, ◌*◌, drop, take}
use Rattle.std.specs.Prelude.{All}
use Rattle.las_split.specs.Parts.{numbers_from}
use Rattle.las_split.proofs.running.each_has.Given as goal
use Rattle.las_header.specs.Plain.{cut_all}

abbrev pub invariant-loop-turn : goal.invariant-loop-turn
invariant-loop-turn l = record {
  rest : l.rest ≡ drop (l.size * l.turn) l.group;
  all : All (λ n. n ≡ l.number) (numbers_from l.rule l.index (take l.turn (cut_all l.size l.group)));
}
