use Rattle.std.proofs.Common.{◌<◌, length, take, sym, ◌∙◌, ap, subst, arith}
use Rattle.std.proofs.lemmas.List.Elements.{All-take}
use Rattle.std.proofs.lemmas.Result.{IfOk-from_err}
use Rattle.las_outside.specs.Drafts.{IsPatchedInPart, Patch, with_patches}
use Rattle.las_outside.specs.Files.{with_patch}
use Rattle.las_outside.specs.Outside.{with_bytes}
use Rattle.las_outside.proofs.Public.{only_writes-trans}
use Rattle.laz_forms.proofs.Public.{LiesIn, length-with_patches, patched_part, with_patches-more}
use Rattle.laz_forms.proofs.Public.{if_err}
use Rattle.laz_writer.proofs.Stopping.{either}
use Rattle.laz_writer.proofs.patch.patch_all.Goals as goal

pub put_patch-requires : goal.put_patch-requires
put_patch-requires g c =
    let h = c.requires.held in
    let ps = c.args.patches.now in
    let i = c.loop-patch.patch-index in
    let p : Patch = c.patch-item.result in
    let within : i < length ps = c.loop-patch-test.true in
    let one : LiesIn h.1 p = subst (LiesIn h.1) (sym c.patch-item.is) (h.3 i p within) in
    let sized = length-with_patches h.1 (take i ps) (All-take (LiesIn h.1) i ps h.3) in
    record { held = (h.0, with_patches h.1 (take i ps), c.loop-patch.invariant.patched h.0 h.1 h.2, omega (arith, one, sized)) }

pub returns-in_err-put_patch-clause-patched : goal.returns-in_err-put_patch-clause-patched
returns-in_err-put_patch-clause-patched g c before text was all =
    let ps = c.args.patches.now in
    let i = c.loop-patch.patch-index in
    let p : Patch = c.patch-item.result in
    let within : i < length ps = c.loop-patch-test.true in
    let done = with_patches text (take i ps) in
    let left = c.in_err-put_patch.ensures.patched before done (c.loop-patch.invariant.patched before text was) in
    let P : Patch → Type 0 = λ x. IsPatchedInPart text ps (with_patch done x.0 (take left.0 x.1)) in
    either _ _ c.from_residual.result (IfOk-from_err c.from_residual.result _ c.from_residual.ensures.0) (if_err _ c.from_residual.result _ c.from_residual.ensures.1 (with_patch done p.0 (take left.0 p.1), subst P (sym c.patch-item.is) (patched_part text ps i left.0 p within), left.1))

pub loop-patch-preserved : goal.loop-patch-preserved
loop-patch-preserved g c =
    let ps = c.args.patches.now in
    let i = c.loop-patch.patch-index in
    let p : Patch = c.patch-item.result in
    let within : i < length ps = c.loop-patch-test.true in
    record {
      patched = λ before text was.
          c.in_ok-put_patch.ensures.patched before (with_patches text (take i ps)) (c.loop-patch.invariant.patched before text was)
          ∙ ap (λ (x : Patch). with_bytes before c.args.name.now (with_patch (with_patches text (take i ps)) x.0 x.1)) c.patch-item.is
          ∙ ap (with_bytes before c.args.name.now) (sym (with_patches-more text ps i p within));
      writes = only_writes-trans _ _ _ c.loop-patch.invariant.writes c.in_ok-put_patch.ensures.writes;
    }
