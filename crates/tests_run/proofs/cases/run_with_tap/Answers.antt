use Rattle.std.proofs.Common.{rules, ◌^◌, ◌≤◌, ℕ, refl, ◌∙◌}
use Rattle.las_info.specs.Tallies.{TapSeen, count_at}
use denote.Param.Object.{read_made}
use Rattle.las_info.specs.declared.tap.Tap.{Ghosts}
use Rattle.las_info.proofs.Public.{tap_room}
use Rattle.tests_run.proofs.cases.run_with_tap.OwnLists.{own-1, at-1-1}
use Rattle.tests_run.proofs.Rooms.{all_of_one}
use Rattle.tests_run.proofs.cases.run_with_tap.Goals as goal

pub run-requires : goal.run-requires
run-requires g c = (
  search rules,
  (
    search rules,
    all_of_one (λ tap. (bin : ℕ) → count_at ((own-1.entry tap.vtable).1.tap_seen tap.value).tally bin ≤ 2 ^ 63) c.in_ok-taps.taps.items
        c.into_dyn_box.result c.in_ok-taps.ensures.items
        (λ bin. tap_room _ _ bin (read_made {G = λ X. Ghosts X} own-1 (own-1.entry at-1-1) at-1-1 refl TapSeen (λ j y. j.1.tap_seen y) _ _ _ c.into_dyn_box.ensures.1)
        (c.in_ok-new.ensures.ok ∙ c.class_tap.ensures)),
  ),
)
