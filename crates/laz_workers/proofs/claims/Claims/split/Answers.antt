use Rattle.std.proofs.Common.{◌≡◌, ◌<◌, true, false, sym, ap, ◌∙◌, ⊎_elim, arith}
use Rattle.std.proofs.lemmas.Bool.{cases_Bool}
use Rattle.laz_workers.proofs.Steps.{splits_hold}
use Rattle.laz_workers.proofs.claims.Claims.split.Goals as goal

pub split_seat-seat-requires : goal.split_seat-seat-requires
split_seat-seat-requires c =
    let p = c.pass.inside in
    let v = p.seat.me.0 in
    let t = c.self.inside.table.shared in
    let some_rest : 0 < v.rest = omega (arith, ap (λ x. x.rest) c.pass.view_is, c.requires.rest) in
    let opens : v.opens ≡ true = ⊎_elim (λ e. e) (λ (e : v.opens ≡ false). absurd (omega (arith, (c.pass.invariant.1.split e).0))) (cases_Bool v.opens) in (
      ap (λ x. x.claims.word) c.pass.view_is ∙ (ap (λ x. x.word) c.requires.own ∙ sym (ap (λ x. x.word) c.self.view_is)),
      omega (arith, c.self.invariant.0),
      splits_hold t.key p.seat.id v opens some_rest,
    )
