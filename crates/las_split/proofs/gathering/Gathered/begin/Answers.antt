use Rattle.std.proofs.Common.{◌≡◌, ℕ, ◌<◌, ◌≤◌, [], length, replicate, take, ap, subst, ◌∙◌, arith}
use Rattle.std.proofs.lemmas.Result.{IfOk-from_err}
use Rattle.las_split.proofs.Buffers.{emptied, opened, texts}
use Rattle.las_split.proofs.gathering.Gathered.begin.Goals.{then-place-len, else-place-len+in_ok-push}
use Rattle.las_split.proofs.gathering.Gathered.begin.Goals as goal

pub loop-place-preserved : goal.loop-place-preserved
loop-place-preserved c =
    let vs = c.loop-place.self-inside.texts.items in
    let place = c.loop-place.place in
    let long = c.loop-place.self-inside.texts.ok.0 in
    elim c.if-place-len.branch [
      | then-place-len w ↦
          let few : place < length vs = omega (arith, w.if-place-len.true, c.len.ensures, long) in
          let e =
          emptied vs _ place w.renew.new.text (ap (λ s. s.texts.items) w.self-inside-is) few w.renew.ensures
          c.loop-place.invariant.empty in
          record { long = e.0; empty = e.1 }
      | else-place-len+in_ok-push w ↦
          let all : length vs ≤ place = omega (arith, w.if-place-len.false, c.len.ensures, long) in
          let e =
          opened vs _ place w.new.result (ap (λ s. s.texts.items) w.self-inside-is ∙
          w.in_ok-push.ensures.items) c.loop-place.invariant.long all w.new.ensures.items
          c.loop-place.invariant.empty in
          record { long = e.0; empty = e.1 }
    ]

pub returns-in_err-push : goal.returns-in_err-push
returns-in_err-push c = IfOk-from_err c.from_residual.result _ c.from_residual.ensures.0

pub returns : goal.returns
returns c =
    let vs = c.loop-place.self-inside.texts.items in
    let all : c.loop-place.place ≡ c.args.parts = omega (arith, c.loop-place-test.false, c.loop-place.auto.place-end) in
    ap texts c.truncate.ensures.items ∙ subst (λ (n : ℕ). texts (take n vs) ≡ replicate n []) all
    c.loop-place.invariant.empty
