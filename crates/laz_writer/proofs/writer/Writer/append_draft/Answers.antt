use Rattle.las_outside.proofs.Public.{only_writes-refl}
use Rattle.std.proofs.lemmas.Result.{IfOk-from_err}
use Rattle.std.proofs.Common.{rules, ◌≡◌, ℕ, Option, Some, None, List, ◌++◌, length, take, sym, ◌∙◌, ap, subst, arith}
use Rattle.std.proofs.Common.{length-append}
use Rattle.las_outside.specs.Outside.{Outside, with_bytes}
use Rattle.laz_forms.specs.Outputs.{front, pointer_patches}
use Rattle.laz_writer.specs.Writing.{PackedStands, Stops, WriterSeen, packed_text}
use Rattle.laz_writer.proofs.Arms.{packed_draft, packed_even, packed_form, plain_draft, plain_form, plain_text}
use Rattle.laz_writer.proofs.Finishing.{front_packed, front_plain, pointer_is}
use Rattle.laz_forms.proofs.Public.{if_err}
use Rattle.laz_writer.proofs.writer.Writer.append_draft.Goals as goal

pub append_all-requires-clause-few : goal.append_all-requires-clause-few
append_all-requires-clause-few g c κs within =
    let h = c.requires.stands in
    let p = c.in-Some.packing in
    let some : c.args.self.now.packing ≡ Some p = sym (ap (λ (v : WriterSeen). v.packing) c.self.view_is) ∙ c.in-Some.is in
    (packed_form h.0 _ c.args.self.now h.1 h.2 p h.3 some).2.few

pub append_all-requires-clause-stands : goal.append_all-requires-clause-stands
append_all-requires-clause-stands g c κs within =
    let h = c.requires.stands in
    let w = c.args.self.now in
    let p = c.in-Some.packing in
    let some : w.packing ≡ Some p = sym (ap (λ (v : WriterSeen). v.packing) c.self.view_is) ∙ c.in-Some.is in
    let named = c.as_str-name.ensures.value ∙ ap (λ (v : WriterSeen). v.name) c.self.view_is ∙ h.3.named in
    (h.0, front h.1, h.2, subst (λ (n : List ℕ). PackedStands h.0 (g.F.Files.seen c.args.files.now) n (front h.1) p h.2) (sym named) (packed_form h.0 _ w h.1 h.2 p h.3 some).2.stands, packed_even h.0 _ w h.1 h.2 p h.3 some)

pub returns-in_default : goal.returns-in_default
returns-in_default g c =
    record {
      appended =
          λ before out records s. let none : c.args.self.now.packing ≡ None =
          sym (ap (λ (v : WriterSeen). v.packing) c.self.view_is) ∙ c.in_default.is in
          plain_text before _ c.args.self.now out records s none ∙
          ap (with_bytes before out.name) (plain_draft before _ c.args.self.now out records s none);
      pointer =
          λ before out records s. let none : c.args.self.now.packing ≡ None =
          sym (ap (λ (v : WriterSeen). v.packing) c.self.view_is) ∙ c.in_default.is in
          ap (λ (k : Option ℕ). pointer_patches k out.head records)
          (sym (plain_form before _ c.args.self.now out records s none));
      end = λ before out records s. let w = c.args.self.now in
          let none : w.packing ≡ None = sym (ap (λ (v : WriterSeen). v.packing) c.self.view_is) ∙ c.in_default.is in
          let draft = ap (λ (t : List ℕ). length t) (plain_draft before _ w out records s none) in
          let size = front_plain out s.head (plain_form before _ w out records s none) in
          omega (
            arith,
            ap (λ (v : WriterSeen). v.start) c.self.view_is,
            ap (λ (v : WriterSeen). v.taken) c.self.view_is,
            s.start,
            s.taken,
            draft,
            length-append (front out) records,
            size,
          );
      stopped = λ before text records stands. tt;
      same = search rules;
      writes = only_writes-refl (g.F.Files.seen c.args.files.now);
    }

pub returns-in_err-table : goal.returns-in_err-table
returns-in_err-table g c =
    record {
      appended = λ before text records stands. IfOk-from_err c.from_residual.result _ c.from_residual.ensures.0;
      pointer = λ before text records stands. IfOk-from_err c.from_residual.result _ c.from_residual.ensures.0;
      end = λ before text records stands. IfOk-from_err c.from_residual.result _ c.from_residual.ensures.0;
      stopped = λ before out records s. let w = c.args.self.now in
          let p = c.in-Some.packing in
          let some : w.packing ≡ Some p = sym (ap (λ (v : WriterSeen). v.packing) c.self.view_is) ∙ c.in-Some.is in
          let named = c.as_str-name.ensures.value ∙ ap (λ (v : WriterSeen). v.name) c.self.view_is ∙ s.named in
          let stands =
          subst (λ (n : List ℕ). PackedStands before (g.F.Files.seen c.args.files.now) n (front out) p records)
          (sym named) (packed_form before _ w out records p s some).2.stands in
          let left = c.in_err-table.ensures.stopped before (front out) records stands in
          let made =
          ap (λ (n : List ℕ). with_bytes before n (take left.0 (front out ++ packed_text p.plan records))) named ∙
          ap (λ (t : List ℕ). with_bytes before out.name (take left.0 t))
          (packed_draft before _ w out records p s some) in
          if_err _ c.from_residual.result _ c.from_residual.ensures.1 (
            left.0,
            subst (λ (o : Outside). Stops c.in_err-table.field-0.0 o (g.F.Files.seen c.append_all.new.files)) made
                left.1,
          );
      same = search rules;
      writes = c.append_all.ensures.writes;
    }

pub returns : goal.returns
returns g c =
    record {
      appended = λ before out records s. let w = c.args.self.now in
          let p = c.in-Some.packing in
          let some : w.packing ≡ Some p = sym (ap (λ (v : WriterSeen). v.packing) c.self.view_is) ∙ c.in-Some.is in
          let named = c.as_str-name.ensures.value ∙ ap (λ (v : WriterSeen). v.name) c.self.view_is ∙ s.named in
          let stands =
          subst (λ (n : List ℕ). PackedStands before (g.F.Files.seen c.args.files.now) n (front out) p records)
          (sym named) (packed_form before _ w out records p s some).2.stands in
          c.in_ok-table.ensures.appended before (front out) records stands
          ∙ ap (λ (n : List ℕ). with_bytes before n (front out ++ packed_text p.plan records)) named ∙
          ap (with_bytes before out.name) (packed_draft before _ w out records p s some);
      pointer = λ before out records s. let w = c.args.self.now in
          let p = c.in-Some.packing in
          let some : w.packing ≡ Some p = sym (ap (λ (v : WriterSeen). v.packing) c.self.view_is) ∙ c.in-Some.is in
          let named = c.as_str-name.ensures.value ∙ ap (λ (v : WriterSeen). v.name) c.self.view_is ∙ s.named in
          let form = packed_form before _ w out records p s some in
          let stands =
          subst (λ (n : List ℕ). PackedStands before (g.F.Files.seen c.args.files.now) n (front out) p records)
          (sym named) form.2.stands in
          pointer_is out.head form.0 w.most p.plan records _ _ s.head form.2.plan c.pointer-at.ensures
          (c.in_ok-table.ensures.place before (front out) records stands)
          ∙ ap (λ (k : Option ℕ). pointer_patches k out.head records) (sym form.1);
      end = λ before out records s. let w = c.args.self.now in
          let p = c.in-Some.packing in
          let some : w.packing ≡ Some p = sym (ap (λ (v : WriterSeen). v.packing) c.self.view_is) ∙ c.in-Some.is in
          let named = c.as_str-name.ensures.value ∙ ap (λ (v : WriterSeen). v.name) c.self.view_is ∙ s.named in
          let form = packed_form before _ w out records p s some in
          let stands =
          subst (λ (n : List ℕ). PackedStands before (g.F.Files.seen c.args.files.now) n (front out) p records)
          (sym named) form.2.stands in
          let draft = ap (λ (t : List ℕ). length t) (packed_draft before _ w out records p s some) in
          let size = front_packed out form.0 s.head form.1 in
          omega (
            arith,
            c.in_ok-table.ensures.end before (front out) records stands,
            draft,
            size,
            form.2.plan.pointer,
            length-append (front out) (packed_text p.plan records),
          );
      stopped = λ before text records stands. tt;
      same = search rules;
      writes = c.append_all.ensures.writes;
    }
