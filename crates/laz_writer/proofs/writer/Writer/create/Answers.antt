use Rattle.laz_forms.specs.declared.fault.Fault.TheVariants.{Memory}
use Rattle.las_outside.proofs.Public.{only_writes-refl}
use Rattle.laz_writer.proofs.Faults.{stops_rose, memory_only, write_only}
use Rattle.std.proofs.lemmas.Result.{IfOk-from_err}
use Rattle.std.proofs.Common.{◌≡◌, ◌<◌, ◌==◌, inl, inr, Bool, ℕ, List, ◌++◌, length, take, refl, sym, ◌∙◌, ap, subst, arith}
use Rattle.las_header.specs.Fields.{record_length_of}
use Rattle.las_outside.specs.Outside.{Outside, with_bytes}
use Rattle.laz_forms.specs.Outputs.{Output, unfinished_head, front}
use Rattle.laz_writer.specs.Writing.{IsTally, Stops, pointer_part, written_head}
use Rattle.laz_writer.proofs.Finishing.{begins, no_records}
use Rattle.laz_writer.proofs.Pushing.{front_is}
use Rattle.laz_forms.proofs.Public.{record_least, ok_no_fault}
use Rattle.laz_forms.proofs.Public.{if_err}
use Rattle.laz_writer.proofs.writer.Writer.create.Goals as goal

pub returns-in_err-first : goal.returns-in_err-first
returns-in_err-first g c =
    record {
      stands = IfOk-from_err c.from_residual.result _ c.from_residual.ensures.0;
      most = IfOk-from_err c.from_residual.result _ c.from_residual.ensures.0;
      «open» = IfOk-from_err c.from_residual.result _ c.from_residual.ensures.0;
      stopped = if_err _ c.from_residual.result Memory c.from_residual.ensures.1 (inl refl);
      memory = λ is. refl;
      fault = if_err _ c.from_residual.result Memory c.from_residual.ensures.1 (inl refl);
      write = λ is. memory_only c.from_residual.result c.from_residual.ensures.1 is;
      calm = IfOk-from_err c.from_residual.result _ c.from_residual.ensures.0;
      writes = only_writes-refl (g.F.Files.seen c.args.files.now);
    }

pub returns-in_err-packing : goal.returns-in_err-packing
returns-in_err-packing g c =
    record {
      stands = IfOk-from_err c.from_residual-in_err-packing.result _ c.from_residual-in_err-packing.ensures.0;
      most = IfOk-from_err c.from_residual-in_err-packing.result _ c.from_residual-in_err-packing.ensures.0;
      «open» = IfOk-from_err c.from_residual-in_err-packing.result _ c.from_residual-in_err-packing.ensures.0;
      stopped =
          if_err _ c.from_residual-in_err-packing.result Memory c.from_residual-in_err-packing.ensures.1 (inl refl);
      memory = λ is. refl;
      fault = if_err _ c.from_residual-in_err-packing.result Memory c.from_residual-in_err-packing.ensures.1 (inl refl);
      write = λ is. memory_only c.from_residual-in_err-packing.result c.from_residual-in_err-packing.ensures.1 is;
      calm = IfOk-from_err c.from_residual-in_err-packing.result _ c.from_residual-in_err-packing.ensures.0;
      writes = only_writes-refl (g.F.Files.seen c.args.files.now);
    }

pub returns-in_err-owned : goal.returns-in_err-owned
returns-in_err-owned g c =
    record {
      stands = IfOk-from_err c.from_residual-in_err-owned.result _ c.from_residual-in_err-owned.ensures.0;
      most = IfOk-from_err c.from_residual-in_err-owned.result _ c.from_residual-in_err-owned.ensures.0;
      «open» = IfOk-from_err c.from_residual-in_err-owned.result _ c.from_residual-in_err-owned.ensures.0;
      stopped = if_err _ c.from_residual-in_err-owned.result Memory c.from_residual-in_err-owned.ensures.1 (inl refl);
      memory = λ is. refl;
      fault = if_err _ c.from_residual-in_err-owned.result Memory c.from_residual-in_err-owned.ensures.1 (inl refl);
      write = λ is. memory_only c.from_residual-in_err-owned.result c.from_residual-in_err-owned.ensures.1 is;
      calm = IfOk-from_err c.from_residual-in_err-owned.result _ c.from_residual-in_err-owned.ensures.0;
      writes = only_writes-refl (g.F.Files.seen c.args.files.now);
    }

pub returns-in_err-put_front : goal.returns-in_err-put_front
returns-in_err-put_front g c =
    record {
      stands = IfOk-from_err c.from_residual-in_err-put_front.result _ c.from_residual-in_err-put_front.ensures.0;
      most = IfOk-from_err c.from_residual-in_err-put_front.result _ c.from_residual-in_err-put_front.ensures.0;
      «open» = IfOk-from_err c.from_residual-in_err-put_front.result _ c.from_residual-in_err-put_front.ensures.0;
      stopped =
          let out : Output =
          record {
            name = c.args.name.now;
            head = c.args.head.now.bytes;
            chunk = c.args.chunk;
            counted = c.args.counted;
          } in
          let old = g.F.Files.seen c.args.files.now in
          let new = g.F.Files.seen c.put_front.new.files in
          let bytes = c.bytes-2.ensures.bytes ∙ c.in_ok-first.ensures in
          let text : c.bytes-2.result.now ++ pointer_part c.is_some-packed.result c.bytes-2.result.now ≡ front out =
          ap (λ (b : List ℕ). b ++ pointer_part c.is_some-packed.result b) bytes ∙
          ap (λ (b : Bool). written_head out.chunk (unfinished_head out) ++
          pointer_part b (written_head out.chunk (unfinished_head out))) c.is_some-packed.ensures
          ∙ sym (front_is out.chunk (unfinished_head out)) in
          let fault = c.in_err-put_front.field-0.0 in
          if_err _ c.from_residual-in_err-put_front.result fault c.from_residual-in_err-put_front.ensures.1
          (elim c.in_err-put_front.ensures.stopped [
            | inl as_before ↦ inl as_before
            | inr left ↦ inr (
              left.0,
              subst (λ (t : List ℕ). Stops fault (with_bytes old c.args.name.now (take left.0
                  t)) new) text left.1,
            )
          ]);
      memory =
          λ is. write_only c.from_residual-in_err-put_front.result c.in_err-put_front.field-0.0
          c.from_residual-in_err-put_front.ensures.1 c.in_err-put_front.ensures.fault is;
      fault =
          if_err _ c.from_residual-in_err-put_front.result c.in_err-put_front.field-0.0
          c.from_residual-in_err-put_front.ensures.1 (inr c.in_err-put_front.ensures.fault);
      write = λ of.
          let old = g.F.Files.seen c.args.files.now in
          let new = g.F.Files.seen c.put_front.new.files in
          let fault = c.in_err-put_front.field-0.0 in
          let is = c.in_err-put_front.ensures.fault in
          elim c.in_err-put_front.ensures.stopped [
            | inl as_before ↦ stops_rose old old new fault refl as_before is
            | inr left ↦ stops_rose old _ new fault refl left.1 is
          ];
      calm = IfOk-from_err c.from_residual-in_err-put_front.result _ c.from_residual-in_err-put_front.ensures.0;
      writes = c.put_front.ensures.writes;
    }

pub returns : goal.returns
returns g c =
    record {
      stands = let head = c.args.head.now.bytes in
          let out : Output =
          record { name = c.args.name.now; head = head; chunk = c.args.chunk; counted = c.args.counted } in
          let is = c.bytes.ensures.head in
          let old = g.F.Files.seen c.args.files.now in
          let bytes = c.bytes-2.ensures.bytes ∙ c.in_ok-first.ensures in
          let text : c.bytes-2.result.now ++ pointer_part c.is_some-packed.result c.bytes-2.result.now ≡ front out =
          ap (λ (b : List ℕ). b ++ pointer_part c.is_some-packed.result b) bytes ∙
          ap (λ (b : Bool). written_head out.chunk (unfinished_head out) ++
          pointer_part b (written_head out.chunk (unfinished_head out))) c.is_some-packed.ensures
          ∙ sym (front_is out.chunk (unfinished_head out)) in
          let some : 0 < record_length_of head = omega (arith, record_least head is) in
          record {
            head = is;
            named = c.in_ok-owned.ensures.ok;
            start = c.from.ensures ∙ c.offset-start.ensures.whole;
            size = c.from-2.ensures ∙ c.record_length-size.ensures.field;
            few = omega (arith, c.ranges.most.fits);
            taken = refl;
            whole = omega (arith, some);
            within = omega arith;
            long = ap (λ (m : ℕ). m == 4) c.minor-minor.ensures;
            tally =
                subst (IsTally c.args.counted c.no_tally-counts.result) (sym (no_records (record_length_of head) some))
                c.no_tally-counts.ensures;
            points =
                begins old _ out c.args.most c.offset-place.result c.args.workers _ is
                (c.in_ok-put_front.ensures.begun ∙ ap (with_bytes old c.args.name.now) text) c.in_ok-packing.ensures
                (c.offset-place.ensures.whole ∙ ap (λ (b : List ℕ). length b) c.in_ok-first.ensures) c.requires.chunk
                (omega (arith, c.ranges.most.fits)) (omega arith) c.requires.workers.0;
          };
      most = refl;
      «open» = refl;
      stopped = tt;
      memory = λ is. ok_no_fault _ _ is;
      fault = tt;
      write = λ is. ok_no_fault _ _ is;
      calm =
          let begun = c.in_ok-put_front.ensures.begun in
          record {
            reads = ap (λ (o : Outside). o.read_faults) begun;
            writes = ap (λ (o : Outside). o.write_faults) begun;
          };
      writes = c.put_front.ensures.writes;
    }
