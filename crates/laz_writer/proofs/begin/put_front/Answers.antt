use Rattle.std.proofs.Common.{◌≡◌, ◌+◌, inl, inr, Bool, ℕ, List, [], ◌++◌, length, take, sym, ◌∙◌, ap, subst}
use Rattle.std.proofs.Math.Seq.{take-append-add}
use Rattle.std.proofs.lemmas.Result.{IfErr-weaker}
use Rattle.byteorder.specs.Endian.{little_bytes}
use Rattle.las_outside.specs.Outside.{with_bytes}
use Rattle.laz_writer.specs.Writing.{Stops, pointer_part}
use Rattle.laz_forms.proofs.Public.{if_err, prefix_append}
use Rattle.laz_writer.proofs.begin.put_front.Goals as goal

pub returns-in-Err-clause-stopped : goal.returns-in-Err-clause-stopped
returns-in-Err-clause-stopped g c = elim c.in-Err.ensures.err [ inl as_before ↦ inl as_before | inr created ↦ inr (0, created) ]

pub put-requires : goal.put-requires
put-requires g c = record { held = (g.F.Files.seen c.args.files.now, [], c.in-Ok.ensures.ok) }

pub returns-in_err-put-clause-stopped : goal.returns-in_err-put-clause-stopped
returns-in_err-put-clause-stopped g c =
    let old = g.F.Files.seen c.args.files.now in
    let head = c.args.head.now in
    let left = c.in_err-put.ensures.stopped old [] c.in-Ok.ensures.ok in
    let m = prefix_append head (pointer_part c.args.packed head) left.0 in
    if_err _ c.from_residual.result _ c.from_residual.ensures.1 (inr (m.0, subst (λ (t : List ℕ). Stops c.in_err-put.field-0.0 (with_bytes old c.args.name.now t) (g.F.Files.seen c.put.new.files)) m.1 left.1))

pub put-requires-then-packed : goal.put-requires-then-packed
put-requires-then-packed g c =
    let old = g.F.Files.seen c.args.files.now in
    record { held = (old, c.args.head.now, c.in_ok-put.ensures.added old [] c.in-Ok.ensures.ok) }

pub returns-then-packed-clause-stopped : goal.returns-then-packed-clause-stopped
returns-then-packed-clause-stopped g c =
    let old = g.F.Files.seen c.args.files.now in
    let name = c.args.name.now in
    let head = c.args.head.now in
    let now = g.F.Files.seen c.put-then-packed.new.files in
    let pointer = little_bytes 8 (length head) in
    let all : pointer_part c.args.packed head ≡ pointer = ap (λ (b : Bool). pointer_part b head) c.if-packed.true in
    IfErr-weaker c.put-then-packed.result _ _ (λ e left. inr (
      length head + left.0,
      subst (λ (t : List ℕ). Stops e (with_bytes old name t) now)
          (ap (λ (t : List ℕ). head ++ take left.0 t) c.pointer_bytes-pointer.ensures.bytes ∙ sym (take-append-add head pointer left.0) ∙ ap (λ (t : List ℕ). take (length head + left.0) (head ++ t)) (sym all)) left.1,
    ))
    (c.put-then-packed.ensures.stopped old head (c.in_ok-put.ensures.added old [] c.in-Ok.ensures.ok))
