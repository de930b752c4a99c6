use Rattle.std.proofs.Common.{◌≡◌, ◌∙◌, ℕ, length, List, [], ◌∷◌, ◌++◌, refl, ap, arith, length-append}
use Rattle.std.proofs.lemmas.List.Elements.{All-append, All-cons, All-nil, All-same}
use Rattle.laz_chunk.specs.Layouts.{Format}
use Rattle.laz_workers.specs.Rooms.{HandSeen, lengths_of, rooms_of}
use Rattle.laz_forms.proofs.crew.crew_of.Goals as goal

pub loop-hand-preserved : goal.loop-hand-preserved
loop-hand-preserved c =
    let ok = c.in-Ok.ensures.ok in
    let old = c.loop-hand.crew in
    let hand = ok.0 in
    let inv = c.loop-hand.invariant in
    let room = c.args.room in
    let P : HandSeen Format → Type 0 = λ h. h.space ≡ record { format = c.args.format; extra = c.args.extra } in
    let Q : ℕ → Type 0 = λ n. n ≡ room in
    record {
      hands = omega (arith, ap (λ (l : List (HandSeen Format)). length l) ok.1, length-append old (hand ∷ []), inv.hands);
      spaces = All-same P c.add.new.self (old ++ hand ∷ []) ok.1 (All-append P old (hand ∷ []) inv.spaces (All-cons P hand [] (ok.2.0 ∙ c.in_ok-space.ensures) (All-nil P)));
      rooms = All-same Q (lengths_of (rooms_of c.add.new.self)) (lengths_of (rooms_of old) ++ room ∷ room ∷ []) c.in-Ok.ensures.lengths (All-append Q (lengths_of (rooms_of old)) (room ∷ room ∷ []) inv.rooms (All-cons Q room (room ∷ []) refl (All-cons Q room [] refl (All-nil Q))));
    }
