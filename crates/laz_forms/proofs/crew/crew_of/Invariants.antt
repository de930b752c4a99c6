use Rattle.std.proofs.Common.{◌≡◌, length}
use Rattle.std.specs.Prelude.{All}
use Rattle.laz_chunk.specs.Layouts.{Format}
use Rattle.laz_workers.specs.Rooms.{HandSeen, lengths_of, rooms_of}
use Rattle.laz_forms.proofs.crew.crew_of.Given as goal

abbrev pub invariant-loop-hand : goal.invariant-loop-hand
invariant-loop-hand l = record {
  hands : length l.crew ≡ l._hand;
  spaces : All (λ (hand : HandSeen Format). hand.space ≡ record { format = l.format; extra = l.extra }) l.crew;
  rooms : All (λ n. n ≡ l.room) (lengths_of (rooms_of l.crew));
}
