use Rattle.std.proofs.Common.{◌≡◌, ℕ, Some, None, List, ◌++◌, take, sym, ◌∙◌, ap, subst, arith}
use Rattle.las_outside.specs.Outside.{Outside, with_bytes}
use Rattle.laz_forms.specs.Outputs.{front}
use Rattle.laz_writer.specs.Writing.{Stops, WriterSeen, all_chunks}
use Rattle.laz_writer.proofs.Arms.{held_text, kept_part, kept_text, packed_form, plain_stopped}
use Rattle.laz_writer.proofs.Faults.{calm_text, err_of, stops_kind, stops_rose}
use Rattle.laz_forms.proofs.Public.{if_err}
use Rattle.laz_writer.proofs.Standing.{kept_blocks}
use Rattle.laz_writer.proofs.writer.Writer.append_full.Goals as goal

pub returns-in_default-clause-appended : goal.returns-in_default-clause-appended
returns-in_default-clause-appended g c before out records s =
    let none : c.args.self.now.packing ≡ None = sym (ap (λ (v : WriterSeen). v.packing) c.self.view_is) ∙ c.in_default.is in
    plain_stopped before _ c.args.self.now out records s none

pub append_kept-requires-clause-blocks : goal.append_kept-requires-clause-blocks
append_kept-requires-clause-blocks g c κs within =
    let h = c.requires.stands in
    let p = c.in-Some.packing in
    let some : c.args.self.now.packing ≡ Some p = sym (ap (λ (v : WriterSeen). v.packing) c.self.view_is) ∙ c.in-Some.is in
    kept_blocks h.0 _ h.1.name (front h.1) p h.2 (packed_form h.0 _ c.args.self.now h.1 h.2 p h.3 some).2.stands

pub append_kept-requires-clause-few : goal.append_kept-requires-clause-few
append_kept-requires-clause-few g c κs within =
    let h = c.requires.stands in
    let p = c.in-Some.packing in
    let some : c.args.self.now.packing ≡ Some p = sym (ap (λ (v : WriterSeen). v.packing) c.self.view_is) ∙ c.in-Some.is in
    let few = (packed_form h.0 _ c.args.self.now h.1 h.2 p h.3 some).2.few in
    omega (arith, few)

pub append_kept-requires-clause-held : goal.append_kept-requires-clause-held
append_kept-requires-clause-held g c κs within =
    let h = c.requires.stands in
    let p = c.in-Some.packing in
    let some : c.args.self.now.packing ≡ Some p = sym (ap (λ (v : WriterSeen). v.packing) c.self.view_is) ∙ c.in-Some.is in
    let named = c.as_str-name.ensures.value ∙ ap (λ (v : WriterSeen). v.name) c.self.view_is ∙ h.3.named in
    let st = (packed_form h.0 _ c.args.self.now h.1 h.2 p h.3 some).2.stands in
    let text = front h.1 ++ all_chunks p.plan.format st.done in
    (h.0, text, st.file ∙ ap (λ (n : List ℕ). with_bytes h.0 n text) (sym named))

pub returns-in_err-append_kept-clause-stopped : goal.returns-in_err-append_kept-clause-stopped
returns-in_err-append_kept-clause-stopped g c before out records s =
    let w = c.args.self.now in
    let p = c.in-Some.packing in
    let some : w.packing ≡ Some p = sym (ap (λ (v : WriterSeen). v.packing) c.self.view_is) ∙ c.in-Some.is in
    let named = c.as_str-name.ensures.value ∙ ap (λ (v : WriterSeen). v.name) c.self.view_is ∙ s.named in
    let st = (packed_form before _ w out records p s some).2.stands in
    let text = front out ++ all_chunks p.plan.format st.done in
    let left = c.in_err-append_kept.ensures.stopped before text (st.file ∙ ap (λ (n : List ℕ). with_bytes before n text) (sym named)) in
    let m = kept_part before _ w out records p s some left.0 in
    let made = ap (λ (n : List ℕ). with_bytes before n (text ++ take left.0 (all_chunks p.plan.format p.kept))) named ∙ ap (with_bytes before out.name) m.1 in
    if_err _ c.from_residual.result _ c.from_residual.ensures.1 (m.0, subst (λ (o : Outside). Stops c.in_err-append_kept.field-0.0 o (g.F.Files.seen c.append_kept.new.files)) made left.1)

pub returns-clause-appended : goal.returns-clause-appended
returns-clause-appended g c before out records s =
    let w = c.args.self.now in
    let p = c.in-Some.packing in
    let some : w.packing ≡ Some p = sym (ap (λ (v : WriterSeen). v.packing) c.self.view_is) ∙ c.in-Some.is in
    let named = c.as_str-name.ensures.value ∙ ap (λ (v : WriterSeen). v.name) c.self.view_is ∙ s.named in
    let st = (packed_form before _ w out records p s some).2.stands in
    let text = front out ++ all_chunks p.plan.format st.done in
    c.in_ok-append_kept.ensures.added before text (st.file ∙ ap (λ (n : List ℕ). with_bytes before n text) (sym named))
    ∙ ap (λ (n : List ℕ). with_bytes before n (text ++ all_chunks p.plan.format p.kept)) named ∙ ap (with_bytes before out.name) (kept_text before _ w out records p s some)

pub returns-in_err-append_kept-clause-fault : goal.returns-in_err-append_kept-clause-fault
returns-in_err-append_kept-clause-fault g c =
    let h = c.requires.stands in
    let p = c.in-Some.packing in
    let some : c.args.self.now.packing ≡ Some p = sym (ap (λ (v : WriterSeen). v.packing) c.self.view_is) ∙ c.in-Some.is in
    let named = c.as_str-name.ensures.value ∙ ap (λ (v : WriterSeen). v.name) c.self.view_is ∙ h.3.named in
    let st = (packed_form h.0 _ c.args.self.now h.1 h.2 p h.3 some).2.stands in
    let text = front h.1 ++ all_chunks p.plan.format st.done in
    let left = c.in_err-append_kept.ensures.stopped h.0 text (st.file ∙ ap (λ (n : List ℕ). with_bytes h.0 n text) (sym named)) in
    if_err _ c.from_residual.result _ c.from_residual.ensures.1 (stops_kind c.in_err-append_kept.field-0.0 _ _ left.1)

pub returns-in_err-append_kept-clause-write : goal.returns-in_err-append_kept-clause-write
returns-in_err-append_kept-clause-write g c of =
    let h = c.requires.stands in
    let p = c.in-Some.packing in
    let some : c.args.self.now.packing ≡ Some p = sym (ap (λ (v : WriterSeen). v.packing) c.self.view_is) ∙ c.in-Some.is in
    let named = c.as_str-name.ensures.value ∙ ap (λ (v : WriterSeen). v.name) c.self.view_is ∙ h.3.named in
    let st = (packed_form h.0 _ c.args.self.now h.1 h.2 p h.3 some).2.stands in
    let text = front h.1 ++ all_chunks p.plan.format st.done in
    let left = c.in_err-append_kept.ensures.stopped h.0 text (st.file ∙ ap (λ (n : List ℕ). with_bytes h.0 n text) (sym named)) in
    stops_rose (g.F.Files.seen c.args.files.now) _ (g.F.Files.seen c.append_kept.new.files) c.in_err-append_kept.field-0.0 (sym (ap (λ (o : Outside). o.write_faults) st.file)) left.1 (err_of c.from_residual.result _ _ c.from_residual.ensures.1 of)

pub returns-clause-calm : goal.returns-clause-calm
returns-clause-calm g c =
    let h = c.requires.stands in
    let held = held_text h.0 _ c.args.self.now h.1 h.2 h.3 in
    calm_text h.0 _ _ h.1.name held.0 _ held.1 (returns-clause-appended g c h.0 h.1 h.2 h.3)
