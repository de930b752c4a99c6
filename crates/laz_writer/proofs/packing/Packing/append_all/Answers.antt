use Rattle.las_outside.proofs.Public.{only_writes-trans}
use Rattle.std.proofs.lemmas.Result.{IfOk-from_err}
use Rattle.std.proofs.Common.{◌≡◌, ◌≤◌, ◌^◌, ℕ, List, [], ◌++◌, length, map, sum, take, sym, ◌∙◌, ap, subst, length-append, arith}
use Rattle.las_outside.specs.Outside.{Outside, with_bytes}
use Rattle.laz_table.specs.Table.{table_bytes}
use Rattle.laz_forms.specs.Packing.{blocks_of}
use Rattle.laz_forms.specs.declared.fault.Fault.TheVariants.{Memory}
use Rattle.laz_writer.specs.Writing.{Plan, Stops, block_size, chunks, every_chunk}
use Rattle.laz_writer.proofs.Ending.{all_chunks_within, chunks_within, few_chunks, length_chunks, table_within, text_is}
use Rattle.laz_forms.proofs.Public.{if_err}
use Rattle.laz_writer.proofs.packing.Packing.append_all.Goals as goal

pub append_rest-requires-clause-stands : goal.append_rest-requires-clause-stands
append_rest-requires-clause-stands g c κs within = c.requires.stands

pub table_place-place-requires : goal.table_place-place-requires
table_place-place-requires g c =
    let h = c.requires.stands in
    let is = c.in_ok-append_rest.ensures.lengths h.0 h.1 h.2 h.3 in
    record { few = subst (λ (ns : List ℕ). length ns ≤ 2 ^ 24) (sym is) (few_chunks h.0 _ c.args.name.now h.1 c.args.self.now h.2 h.3) }

pub table-requires : goal.table-requires
table-requires g c =
    let h = c.requires.stands in
    let is = c.in_ok-append_rest.ensures.lengths h.0 h.1 h.2 h.3 in
    record { few = subst (λ (ns : List ℕ). length ns ≤ 2 ^ 24) (sym is) (few_chunks h.0 _ c.args.name.now h.1 c.args.self.now h.2 h.3) }

pub put-requires : goal.put-requires
put-requires g c =
    let h = c.requires.stands in
    record { held = (h.0, h.1 ++ every_chunk c.args.self.now.plan h.2, c.in_ok-append_rest.ensures.appended h.0 h.1 h.2 h.3) }

pub overflow_add-result : goal.overflow_add-result
overflow_add-result g c = omega (arith, c.table_place-place.ensures.bound, c.as_slice.type_inv, c.as_slice.ensures.len, c.len.ensures)

pub returns-in_err-append_rest : goal.returns-in_err-append_rest
returns-in_err-append_rest g c =
    record {
      appended = λ before text records stands. IfOk-from_err c.from_residual.result _ c.from_residual.ensures.0;
      place = λ before text records stands. IfOk-from_err c.from_residual.result _ c.from_residual.ensures.0;
      end = λ before text records stands. IfOk-from_err c.from_residual.result _ c.from_residual.ensures.0;
      stopped = λ before front records s. let left = c.in_err-append_rest.ensures.stopped before front records s in
          let m = chunks_within c.args.self.now.plan front records left.0 in
          if_err _ c.from_residual.result _ c.from_residual.ensures.1 (
            m.0,
            subst (λ (t : List ℕ). Stops c.in_err-append_rest.field-0.0 (with_bytes before c.args.name.now t)
                (g.F.Files.seen c.append_rest.new.files)) m.1 left.1,
          );
      writes = c.append_rest.ensures.writes;
    }

pub returns-in_err-table : goal.returns-in_err-table
returns-in_err-table g c =
    record {
      appended =
          λ before text records stands. IfOk-from_err c.from_residual-in_err-table.result _
          c.from_residual-in_err-table.ensures.0;
      place =
          λ before text records stands. IfOk-from_err c.from_residual-in_err-table.result _
          c.from_residual-in_err-table.ensures.0;
      end =
          λ before text records stands. IfOk-from_err c.from_residual-in_err-table.result _
          c.from_residual-in_err-table.ensures.0;
      stopped = λ before front records s. let m = all_chunks_within c.args.self.now.plan front records in
          if_err _ c.from_residual-in_err-table.result Memory c.from_residual-in_err-table.ensures.1 (
            m.0,
            c.in_ok-append_rest.ensures.appended before front records s ∙ ap (with_bytes before c.args.name.now) m.1,
          );
      writes = c.append_rest.ensures.writes;
    }

pub returns-in_err-put : goal.returns-in_err-put
returns-in_err-put g c =
    record {
      appended =
          λ before text records stands. IfOk-from_err c.from_residual-in_err-put.result _
          c.from_residual-in_err-put.ensures.0;
      place =
          λ before text records stands. IfOk-from_err c.from_residual-in_err-put.result _
          c.from_residual-in_err-put.ensures.0;
      end =
          λ before text records stands. IfOk-from_err c.from_residual-in_err-put.result _
          c.from_residual-in_err-put.ensures.0;
      stopped = λ before front records s. let plan = c.args.self.now.plan in
          let name = c.args.name.now in
          let text = front ++ every_chunk plan records in
          let is =
          c.as_slice.ensures.value ∙ c.in_ok-table.ensures ∙
          ap (table_bytes []) (c.in_ok-append_rest.ensures.lengths before front records s) in
          let left =
          c.in_err-put.ensures.stopped before text (c.in_ok-append_rest.ensures.appended before front records s) in
          let m = table_within plan front records left.0 in
          let made =
          ap (λ (t : List ℕ). with_bytes before name (text ++ take left.0 t)) is ∙
          ap (with_bytes before name) m.1 in
          if_err _ c.from_residual-in_err-put.result _ c.from_residual-in_err-put.ensures.1 (
            m.0,
            subst (λ (o : Outside). Stops c.in_err-put.field-0.0 o (g.F.Files.seen c.put.new.files)) made left.1,
          );
      writes = only_writes-trans _ _ _ c.append_rest.ensures.writes c.put.ensures.writes;
    }

pub returns : goal.returns
returns g c =
    record {
      appended = λ before front records s. let plan = c.args.self.now.plan in
          let name = c.args.name.now in
          let text = front ++ every_chunk plan records in
          let is =
          c.as_slice.ensures.value ∙ c.in_ok-table.ensures ∙
          ap (table_bytes []) (c.in_ok-append_rest.ensures.lengths before front records s) in
          c.in_ok-put.ensures.added before text (c.in_ok-append_rest.ensures.appended before front records s)
          ∙ ap (λ (t : List ℕ). with_bytes before name (text ++ t)) is ∙
          ap (with_bytes before name) (text_is plan front records);
      place = λ before front records s. let plan = c.args.self.now.plan in
          let blocks = blocks_of (block_size plan) records in
          let is = c.in_ok-append_rest.ensures.lengths before front records s in
          let added = ap (λ (ns : List ℕ). sum ns) is ∙ sym (length_chunks plan.format blocks) in
          omega (
            arith,
            c.table_place-place.ensures.place,
            ap (λ (x : Plan). x.pointer) c.append_rest.ensures.plan,
            added,
          );
      end = λ before front records s. let plan = c.args.self.now.plan in
          let blocks = blocks_of (block_size plan) records in
          let sizes = map (λ (t : List ℕ). length t) (chunks plan.format blocks) in
          let is = c.in_ok-append_rest.ensures.lengths before front records s in
          let added = ap (λ (ns : List ℕ). sum ns) is ∙ sym (length_chunks plan.format blocks) in
          let table : c.in_ok-table.table.items ≡ table_bytes [] sizes =
          c.in_ok-table.ensures ∙ ap (table_bytes []) is in
          omega (
            arith,
            c.table_place-place.ensures.place,
            ap (λ (x : Plan). x.pointer) c.append_rest.ensures.plan,
            added,
            length-append (every_chunk plan records) (table_bytes [] sizes),
            ap (λ (t : List ℕ). length t) table,
            c.len.ensures,
          );
      stopped = λ before text records stands. tt;
      writes = only_writes-trans _ _ _ c.append_rest.ensures.writes c.put.ensures.writes;
    }
