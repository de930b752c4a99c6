use Rattle.std.proofs.Common.{sym, ap, ◌∙◌, arith}
use Rattle.laz_workers.proofs.Steps.{draw_allowed}
use Rattle.laz_workers.proofs.claims.Claims.claim.Goals as goal

pub fetch_add-number-requires : goal.fetch_add-number-requires
fetch_add-number-requires c =
    let p = c.pass.inside in
    let t = c.self.inside.table.shared in (
      ap (λ x. x.claims.word) c.pass.view_is ∙ (ap (λ x. x.word) c.requires.own ∙ sym (ap (λ x. x.word) c.self.view_is)),
      omega (arith, c.self.invariant.0),
      draw_allowed t.key t.table_id.slots p.seat.id p.seat.me c.pass.invariant.1.here (ap (λ x. x.spent) c.pass.view_is ∙ c.requires.unspent),
    )
