use Rattle.std.proofs.Common.{inr, ℕ, List, sym, ◌∙◌, ap, subst}
use Rattle.std.specs.Prelude.{All}
use Rattle.las_outside.specs.Drafts.{IsPatchedInPart, Patch, with_patches}
use Rattle.las_outside.specs.Outside.{Outside, with_bytes}
use Rattle.laz_forms.specs.Outputs.{draft_of, patches_of}
use Rattle.laz_forms.specs.declared.fault.Fault.TheVariants.{Memory}
use Rattle.laz_writer.specs.Writing.{Stops, WriterSeen}
use Rattle.laz_writer.proofs.Arms.{held_text}
use Rattle.laz_writer.proofs.Faults.{calm_text, err_of, stops_kind, stops_rose}
use Rattle.laz_writer.proofs.Finishing.{finished_size, list_is, patches_fit}
use Rattle.laz_forms.proofs.Public.{LiesIn, unpatched}
use Rattle.laz_forms.proofs.Public.{if_err}
use Rattle.laz_writer.proofs.writer.Writer.finish_all.Goals as goal

pub returns-in_err-patches-clause-stopped : goal.returns-in_err-patches-clause-stopped
returns-in_err-patches-clause-stopped g c before out records s =
    if_err _ c.from_residual-in_err-patches.result Memory c.from_residual-in_err-patches.ensures.1
    (draft_of out records, inr (unpatched (draft_of out records) (patches_of out records)), c.in_ok-pointer.ensures.appended before out records s)

pub patch_all-requires : goal.patch_all-requires
patch_all-requires g c =
    let h = c.requires.stands in
    let draft = draft_of h.1 h.2 in
    let list = c.as_slice.ensures.value ∙ list_is h.0 _ c.args.self.now c.append_draft.new.self h.1 h.2 _ c.in_ok-pointer.pointer h.3 c.append_draft.ensures.same c.in_ok-patches.ensures (c.in_ok-pointer.ensures.pointer h.0 h.1 h.2 h.3) in
    let named = c.as_str.ensures.value ∙ ap (λ (v : WriterSeen). v.name) c.self.view_is ∙ ap (λ (v : WriterSeen). v.name) c.append_draft.ensures.same ∙ h.3.named in
    record {
      held = (
        h.0,
        draft,
        c.in_ok-pointer.ensures.appended h.0 h.1 h.2 h.3 ∙ ap (λ (n : List ℕ). with_bytes h.0 n draft) (sym named),
        subst (All (LiesIn draft)) (sym list) (patches_fit h.1 h.2 h.3.head),
      );
    }

pub returns-in_err-patch_all-clause-stopped : goal.returns-in_err-patch_all-clause-stopped
returns-in_err-patch_all-clause-stopped g c before out records s =
    let draft = draft_of out records in
    let list = c.as_slice.ensures.value ∙ list_is before _ c.args.self.now c.append_draft.new.self out records _ c.in_ok-pointer.pointer s c.append_draft.ensures.same c.in_ok-patches.ensures (c.in_ok-pointer.ensures.pointer before out records s) in
    let named = c.as_str.ensures.value ∙ ap (λ (v : WriterSeen). v.name) c.self.view_is ∙ ap (λ (v : WriterSeen). v.name) c.append_draft.ensures.same ∙ s.named in
    let held = c.in_ok-pointer.ensures.appended before out records s ∙ ap (λ (n : List ℕ). with_bytes before n draft) (sym named) in
    let fits = subst (All (LiesIn draft)) (sym list) (patches_fit out records s.head) in
    let left = c.in_err-patch_all.ensures.patched before draft held fits in
    if_err _ c.from_residual-in_err-patch_all.result _ c.from_residual-in_err-patch_all.ensures.1
    (left.0, inr (subst (λ (ps : List Patch). IsPatchedInPart draft ps left.0) list left.1), subst (λ (n : List ℕ). Stops c.in_err-patch_all.field-0.0 (with_bytes before n left.0) (g.F.Files.seen c.patch_all.new.files)) named left.2)

pub returns-clause-finished : goal.returns-clause-finished
returns-clause-finished g c before out records s =
    let draft = draft_of out records in
    let list = c.as_slice.ensures.value ∙ list_is before _ c.args.self.now c.append_draft.new.self out records _ c.in_ok-pointer.pointer s c.append_draft.ensures.same c.in_ok-patches.ensures (c.in_ok-pointer.ensures.pointer before out records s) in
    let named = c.as_str.ensures.value ∙ ap (λ (v : WriterSeen). v.name) c.self.view_is ∙ ap (λ (v : WriterSeen). v.name) c.append_draft.ensures.same ∙ s.named in
    let held = c.in_ok-pointer.ensures.appended before out records s ∙ ap (λ (n : List ℕ). with_bytes before n draft) (sym named) in
    let fits = subst (All (LiesIn draft)) (sym list) (patches_fit out records s.head) in
    c.in_ok-patch_all.ensures.patched before draft held fits
    ∙ ap (λ (n : List ℕ). with_bytes before n (with_patches draft c.as_slice.result.now)) named ∙ ap (λ (ps : List Patch). with_bytes before out.name (with_patches draft ps)) list

pub returns-clause-length : goal.returns-clause-length
returns-clause-length g c before out records s = c.in_ok-pointer.ensures.end before out records s ∙ sym (finished_size out records s.head)

pub returns-in_err-patch_all-clause-fault : goal.returns-in_err-patch_all-clause-fault
returns-in_err-patch_all-clause-fault g c =
    let h = c.requires.stands in
    let draft = draft_of h.1 h.2 in
    let list = c.as_slice.ensures.value ∙ list_is h.0 _ c.args.self.now c.append_draft.new.self h.1 h.2 _ c.in_ok-pointer.pointer h.3 c.append_draft.ensures.same c.in_ok-patches.ensures (c.in_ok-pointer.ensures.pointer h.0 h.1 h.2 h.3) in
    let named = c.as_str.ensures.value ∙ ap (λ (v : WriterSeen). v.name) c.self.view_is ∙ ap (λ (v : WriterSeen). v.name) c.append_draft.ensures.same ∙ h.3.named in
    let held = c.in_ok-pointer.ensures.appended h.0 h.1 h.2 h.3 ∙ ap (λ (n : List ℕ). with_bytes h.0 n draft) (sym named) in
    let left = c.in_err-patch_all.ensures.patched h.0 draft held (subst (All (LiesIn draft)) (sym list) (patches_fit h.1 h.2 h.3.head)) in
    if_err _ c.from_residual-in_err-patch_all.result _ c.from_residual-in_err-patch_all.ensures.1 (stops_kind c.in_err-patch_all.field-0.0 _ _ left.2)

pub returns-in_err-patch_all-clause-write : goal.returns-in_err-patch_all-clause-write
returns-in_err-patch_all-clause-write g c of =
    let h = c.requires.stands in
    let draft = draft_of h.1 h.2 in
    let list = c.as_slice.ensures.value ∙ list_is h.0 _ c.args.self.now c.append_draft.new.self h.1 h.2 _ c.in_ok-pointer.pointer h.3 c.append_draft.ensures.same c.in_ok-patches.ensures (c.in_ok-pointer.ensures.pointer h.0 h.1 h.2 h.3) in
    let named = c.as_str.ensures.value ∙ ap (λ (v : WriterSeen). v.name) c.self.view_is ∙ ap (λ (v : WriterSeen). v.name) c.append_draft.ensures.same ∙ h.3.named in
    let held = c.in_ok-pointer.ensures.appended h.0 h.1 h.2 h.3 ∙ ap (λ (n : List ℕ). with_bytes h.0 n draft) (sym named) in
    let left = c.in_err-patch_all.ensures.patched h.0 draft held (subst (All (LiesIn draft)) (sym list) (patches_fit h.1 h.2 h.3.head)) in
    let text = held_text h.0 _ c.args.self.now h.1 h.2 h.3 in
    stops_rose (g.F.Files.seen c.args.files.now) _ (g.F.Files.seen c.patch_all.new.files) c.in_err-patch_all.field-0.0 (sym (ap (λ (o : Outside). o.write_faults) text.1)) left.2 (err_of c.from_residual-in_err-patch_all.result _ _ c.from_residual-in_err-patch_all.ensures.1 of)

pub returns-clause-calm : goal.returns-clause-calm
returns-clause-calm g c =
    let h = c.requires.stands in
    let held = held_text h.0 _ c.args.self.now h.1 h.2 h.3 in
    calm_text h.0 _ _ h.1.name held.0 _ held.1 (returns-clause-finished g c h.0 h.1 h.2 h.3)

pub returns-in_err-pointer-clause-write : goal.returns-in_err-pointer-clause-write
returns-in_err-pointer-clause-write g c of =
    let h = c.requires.stands in
    let left = c.in_err-pointer.ensures.stopped h.0 h.1 h.2 h.3 in
    let text = held_text h.0 _ c.args.self.now h.1 h.2 h.3 in
    stops_rose (g.F.Files.seen c.args.files.now) _ (g.F.Files.seen c.append_draft.new.files) c.in_err-pointer.field-0.0 (sym (ap (λ (o : Outside). o.write_faults) text.1)) left.1 (err_of c.from_residual.result _ _ c.from_residual.ensures.1 of)
