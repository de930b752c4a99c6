use Rattle.std.proofs.Common.{rules, ◌^◌, ◌≤◌, ℕ, refl}
use Rattle.las_info.specs.Tallies.{TapSeen, count_at}
use denote.Param.Object.{read_made}
use Rattle.las_info.specs.declared.tap.Tap.{Ghosts}
use Rattle.las_info.proofs.Public.{tap_room}
use Rattle.las.proofs.main.OwnLists.{own-1, at-1-1, at-1-2, at-1-3, at-1-4}
use Rattle.las.proofs.Rooms.{all_of_four}
use Rattle.las.proofs.main.Goals as goal

pub obey-requires-clause-room : goal.obey-requires-clause-room
obey-requires-clause-room g c κs =
    all_of_four (λ tap. (bin : ℕ) → count_at ((own-1.entry tap.vtable).1.tap_seen tap.value).tally bin ≤ 2 ^ 63)
    c.in-Ok-vec.taps.items c.into_dyn_box-class.result c.into_dyn_box-source.result
    c.into_dyn_box-returned.result c.into_dyn_box-intensity.result c.in-Ok-vec.ensures.items
    (λ bin. tap_room _ _ bin
    (read_made {G = λ X. Ghosts X} own-1 (own-1.entry at-1-1) at-1-1 refl TapSeen (λ j y. j.1.tap_seen y)
    _ _ _ c.into_dyn_box-class.ensures.1)
    (search rules))
    (λ bin. tap_room _ _ bin
    (read_made {G = λ X. Ghosts X} own-1 (own-1.entry at-1-2) at-1-2 refl TapSeen (λ j y. j.1.tap_seen y)
    _ _ _ c.into_dyn_box-source.ensures.1)
    (search rules))
    (λ bin. tap_room _ _ bin
    (read_made {G = λ X. Ghosts X} own-1 (own-1.entry at-1-3) at-1-3 refl TapSeen (λ j y. j.1.tap_seen y)
    _ _ _ c.into_dyn_box-returned.ensures.1)
    (search rules))
    (λ bin. tap_room _ _ bin
    (read_made {G = λ X. Ghosts X} own-1 (own-1.entry at-1-4) at-1-4 refl TapSeen (λ j y. j.1.tap_seen y)
    _ _ _ c.into_dyn_box-intensity.ensures.1)
    (search rules))
