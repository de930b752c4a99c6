use Rattle.std.proofs.Common.{◌≡◌, true, false, sym, ap, ◌∙◌, refl, arith}
use Rattle.laz_workers.specs.Claims.{is_split}
use Rattle.laz_workers.proofs.Steps.{joins_hold, look_allowed}
use Rattle.laz_workers.proofs.claims.Claims.join.Goals as goal

pub join_seat-requires : goal.join_seat-requires
join_seat-requires c =
    let p = c.pass.inside in
    let o = c.other.inside in
    let t = c.self.inside.table.shared in
    let shut : o.seat.me.0.opens ≡ false = ap (λ x. x.opens) c.other.view_is ∙ c.requires.split in
    let split : is_split o.seat.me.0 ≡ true = rw (shut, c.other.invariant.1.here) refl in (
      ap (λ x. x.claims.word) c.pass.view_is ∙ (ap (λ x. x.word) c.requires.own.0 ∙ sym (ap (λ x. x.word) c.self.view_is)),
      ap (λ x. x.claims.word) c.other.view_is ∙ (ap (λ x. x.word) c.requires.own.1 ∙ sym (ap (λ x. x.word) c.self.view_is)),
      c.other.invariant.0,
      omega (arith, c.self.invariant.0),
      joins_hold t.key p.seat.id p.seat.me.0 o.seat.id o.seat.me.0 (ap (λ x. x.opens) c.pass.view_is ∙ c.requires.opening) split,
    )

pub load-requires : goal.load-requires
load-requires c =
    let s = c.join_seat.new.seat in
    let t = c.self.inside.table.shared in (
      c.join_seat.ensures.0 ∙ (ap (λ x. x.claims.word) c.pass.view_is ∙ (ap (λ x. x.word) c.requires.own.0 ∙ sym (ap (λ x. x.word) c.self.view_is))),
      omega (arith, c.self.invariant.0),
      look_allowed t.key t.table_id.slots s.id s.me,
    )
