use Rattle.std.proofs.Common.{◌≡◌, ◌+◌, ℕ, Some, None, List, ◌++◌, length, take, refl, sym, ◌∙◌, ap, subst}
use Rattle.std.proofs.lemmas.Result.{IfErr-weaker, IfOk-from_err, on_ok_weaker}
use Rattle.las_outside.specs.Outside.{Outside, with_bytes}
use Rattle.laz_forms.specs.Outputs.{front}
use Rattle.laz_writer.specs.Writing.{PackedStands, Stops, WriterSeen, full_chunks}
use Rattle.laz_writer.proofs.Arms.{packed_form, packed_more, packed_room, packed_stopped, plain_more, plain_part, plain_text}
use Rattle.laz_forms.proofs.Public.{if_err}
use Rattle.laz_writer.proofs.Stopping.{either}
use Rattle.laz_writer.proofs.writer.Writer.append_points.Goals as goal

pub put-requires : goal.put-requires
put-requires g c =
    let h = c.requires.points in
    let w = c.args.self.now in
    let none : w.packing ≡ None = sym (ap (λ (v : WriterSeen). v.packing) c.self.view_is) ∙ c.in_default.is in
    let named = c.as_str-name.ensures.value ∙ ap (λ (v : WriterSeen). v.name) c.self.view_is ∙ h.3.named in
    record { held = (h.0, front h.1 ++ h.2, plain_text h.0 _ w h.1 h.2 h.3 none ∙ ap (λ (n : List ℕ). with_bytes h.0 n (front h.1 ++ h.2)) (sym named)) }

pub add-requires-clause-few : goal.add-requires-clause-few
add-requires-clause-few g c κs within =
    let h = c.requires.points in
    let some : c.args.self.now.packing ≡ Some c.in-Some.packing = sym (ap (λ (v : WriterSeen). v.packing) c.self.view_is) ∙ c.in-Some.is in
    (packed_form h.0 _ c.args.self.now h.1 h.2 c.in-Some.packing h.3 some).2.few

pub add-requires-clause-stands : goal.add-requires-clause-stands
add-requires-clause-stands g c κs within =
    let h = c.requires.points in
    let w = c.args.self.now in
    let p = c.in-Some.packing in
    let some : w.packing ≡ Some p = sym (ap (λ (v : WriterSeen). v.packing) c.self.view_is) ∙ c.in-Some.is in
    let named = c.as_str-name.ensures.value ∙ ap (λ (v : WriterSeen). v.name) c.self.view_is ∙ h.3.named in
    let form = packed_form h.0 _ w h.1 h.2 p h.3 some in
    (h.0, front h.1, h.2, subst (λ (n : List ℕ). PackedStands h.0 (g.F.Files.seen c.args.files.now) n (front h.1) p h.2) (sym named) form.2.stands, packed_room h.0 _ w h.1 h.2 p h.3 some (length h.2 + length c.args.records.now) h.4)

pub returns-clause-adds : goal.returns-clause-adds
returns-clause-adds g c before out bytes s room =
    let w = c.args.self.now in
    let p = c.in-Some.packing in
    let records = c.args.records.now in
    let some : w.packing ≡ Some p = sym (ap (λ (v : WriterSeen). v.packing) c.self.view_is) ∙ c.in-Some.is in
    let named = c.as_str-name.ensures.value ∙ ap (λ (v : WriterSeen). v.name) c.self.view_is ∙ s.named in
    let form = packed_form before _ w out bytes p s some in
    let stands = subst (λ (n : List ℕ). PackedStands before (g.F.Files.seen c.args.files.now) n (front out) p bytes) (sym named) form.2.stands in
    let more = c.in_ok-add.ensures.adds before (front out) bytes stands (packed_room before _ w out bytes p s some (length bytes + length records) room) in
    packed_more before _ w out bytes p s some _ (Some c.add.new.self) c.add.new.self records refl c.add.ensures.plan c.in_ok-add.ensures.few
    (subst (λ (n : List ℕ). PackedStands before (g.F.Files.seen c.add.new.files) n (front out) c.add.new.self (bytes ++ records)) named more)

pub returns-in_default-clause-adds : goal.returns-in_default-clause-adds
returns-in_default-clause-adds g c before out bytes s room =
    let w = c.args.self.now in
    let none : w.packing ≡ None = sym (ap (λ (v : WriterSeen). v.packing) c.self.view_is) ∙ c.in_default.is in
    let named = c.as_str-name.ensures.value ∙ ap (λ (v : WriterSeen). v.name) c.self.view_is ∙ s.named in
    let text = front out ++ bytes in
    let held = plain_text before _ w out bytes s none ∙ ap (λ (n : List ℕ). with_bytes before n text) (sym named) in
    let now = g.F.Files.seen c.put.new.files in
    either _ _ c.put.result
    (on_ok_weaker c.put.result (λ is. plain_more before _ w out bytes s none _ _ c.args.records.now c.in_default.is (is ∙ ap (λ (n : List ℕ). with_bytes before n (text ++ c.args.records.now)) named)) (c.put.ensures.added before text held))
    (IfErr-weaker c.put.result _ _ (λ e left.
    let m = plain_part before _ w out bytes s none c.args.records.now left.0 in
    (m.0, subst (λ (o : Outside). Stops e o now) (ap (λ (n : List ℕ). with_bytes before n (text ++ take left.0 c.args.records.now)) named ∙ ap (with_bytes before out.name) m.1) left.1)) (c.put.ensures.stopped before text held))

pub returns-in_err-add-clause-adds : goal.returns-in_err-add-clause-adds
returns-in_err-add-clause-adds g c before out bytes s room =
    let w = c.args.self.now in
    let p = c.in-Some.packing in
    let records = c.args.records.now in
    let some : w.packing ≡ Some p = sym (ap (λ (v : WriterSeen). v.packing) c.self.view_is) ∙ c.in-Some.is in
    let named = c.as_str-name.ensures.value ∙ ap (λ (v : WriterSeen). v.name) c.self.view_is ∙ s.named in
    let form = packed_form before _ w out bytes p s some in
    let stands = subst (λ (n : List ℕ). PackedStands before (g.F.Files.seen c.args.files.now) n (front out) p bytes) (sym named) form.2.stands in
    let left = c.in_err-add.ensures.adds before (front out) bytes stands (packed_room before _ w out bytes p s some (length bytes + length records) room) in
    let made = ap (λ (n : List ℕ). with_bytes before n (take left.0 (front out ++ full_chunks p.plan (bytes ++ records)))) named ∙ ap (λ (t : List ℕ). with_bytes before out.name (take left.0 t)) (packed_stopped before _ w out bytes p s some (bytes ++ records)) in
    either _ _ c.from_residual.result (IfOk-from_err c.from_residual.result _ c.from_residual.ensures.0) (if_err _ c.from_residual.result _ c.from_residual.ensures.1 (left.0, subst (λ (o : Outside). Stops c.in_err-add.field-0.0 o (g.F.Files.seen c.add.new.files)) made left.1))
