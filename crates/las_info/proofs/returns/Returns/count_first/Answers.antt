use Rattle.std.proofs.Common.{◌≡◌, ◌+◌, ◌-◌, ◌^◌, ◌<◌, ℕ, List, All, length, ◌∙◌, sym, subst, arith, slice_index, slice_set}
use Rattle.las_points.specs.Record.{return_number_of}
use Rattle.las_info.proofs.Parts.{first_counted, parts_below}
use Rattle.las_info.proofs.returns.Returns.count_first.Goals as goal

pub overflow_add-self : goal.overflow_add-self
overflow_add-self c =
    let first = c.self.inside.first in
    let second = c.self.inside.second in
    let same : length first ≡ length second = omega arith in
    let room = subst (λ (s : List ℕ). All (λ n. n < 2 ^ 32 - 1) s) (sym c.self.view_is) c.requires.room in
    let below = (parts_below first second c.from.result (2 ^ 32 - 1) same (omega arith) room).0 in
    record { fits = omega (arith, below) }

pub returns : goal.returns
returns c =
    let same : length c.self.inside.first ≡ length c.self.inside.second = omega arith in
    let number : c.from.result ≡ return_number_of c.args.point.now = c.from.ensures ∙ c.return_number.ensures in
    first_counted c.self.inside.first c.self.inside.second c.from.result same
    ∙ (λ i. slice_set (c.self.view_is i) (number i) (slice_index (c.self.view_is i) (number i) + 1))
