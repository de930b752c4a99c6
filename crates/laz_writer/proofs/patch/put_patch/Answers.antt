use Rattle.std.proofs.Common.{◌≡◌, ℕ, ◌+◌, ◌≤◌, List, length, take, sym, ◌∙◌, ap, subst}
use Rattle.las_outside.specs.Drafts.{Patch}
use Rattle.las_outside.specs.Files.{with_patch}
use Rattle.las_outside.specs.Outside.{with_bytes, with_write_fault}
use Rattle.las_outside.proofs.Public.{changed_after, failed_after, known_of}
use Rattle.laz_writer.proofs.patch.put_patch.Goals as goal

-- the patch as it is passed on
passed : (p q : Patch) (bytes : List ℕ) → p ≡ q → bytes ≡ p.1 → (p.0 ≡ q.0) × (bytes ≡ q.1)
passed p q bytes same is = (ap (λ (x : Patch). x.0) same, is ∙ ap (λ (x : Patch). x.1) same)

pub patch-requires : goal.patch-requires
patch-requires g c =
    let h = c.requires.held in
    let P : List ℕ → Type 0 = λ b. c.patch.inside.at + length c.as_slice.result.now ≤ length b in
    let s = passed _ c.args.patch.now c.as_slice.result.now c.patch.view_is c.as_slice.ensures.value in
    let fits : P h.1 = subst (λ (n : ℕ). n + length c.as_slice.result.now ≤ length h.1) (sym s.0) (subst (λ (b : List ℕ). c.args.patch.now.0 + length b ≤ length h.1) (sym s.1) h.3) in
    known_of h.0 c.args.name.now h.1 P _ h.2 fits

pub returns-in-Ok-clause-patched : goal.returns-in-Ok-clause-patched
returns-in-Ok-clause-patched g c before text was =
    let s = passed _ c.args.patch.now c.as_slice.result.now c.patch.view_is c.as_slice.ensures.value in
    changed_after before c.args.name.now text (λ b. with_patch b c.patch.inside.at c.as_slice.result.now) _ _ was c.in-Ok.ensures.ok
    ∙ ap (λ (n : ℕ). with_bytes before c.args.name.now (with_patch text n c.as_slice.result.now)) s.0
    ∙ ap (λ (b : List ℕ). with_bytes before c.args.name.now (with_patch text c.args.patch.now.0 b)) s.1

pub returns-in-Err-clause-patched : goal.returns-in-Err-clause-patched
returns-in-Err-clause-patched g c before text was =
    let s = passed _ c.args.patch.now c.as_slice.result.now c.patch.view_is c.as_slice.ensures.value in
    let h = c.in-Err.ensures.err in (
      h.0,
      failed_after before c.args.name.now text (λ b. with_patch b c.patch.inside.at (take h.0 c.as_slice.result.now)) _ _ was h.1
          ∙ ap (λ (n : ℕ). with_write_fault (with_bytes before c.args.name.now (with_patch text n (take h.0 c.as_slice.result.now)))) s.0
          ∙ ap (λ (b : List ℕ). with_write_fault (with_bytes before c.args.name.now (with_patch text c.args.patch.now.0 (take h.0 b)))) s.1,
    )
