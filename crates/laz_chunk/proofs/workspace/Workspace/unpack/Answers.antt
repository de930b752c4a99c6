use Rattle.std.proofs.Common.{◌≡◌, ◌++◌, ℕ, ◌*◌, ◌-◌, ◌≤◌, List, length, take, drop, ap, sym, subst, ◌∙◌, refl, false, true, arith, length-append}
use Rattle.std.proofs.lemmas.List.{length-take-le}
use Rattle.std.proofs.lemmas.Result.{IfOk-from_err, err_from_is_err_and}
use Rattle.laz_chunk.specs.Layouts.{Format, Layout, layout, record_length}
use Rattle.laz_chunk.specs.Stands.{layout_in}
use Rattle.laz_chunk.proofs.Chunk.{Refused, Started, Took, ending-bad, opening-bad, reading-bad, started, unpacked-holds, unpacked-only}
use Rattle.laz_chunk.proofs.Ends.{less-one}
use Rattle.laz_chunk.proofs.workspace.Workspace.unpack.Goals as goal

false_true : false ≡ true → ⊥
false_true e = cc

pub split_at_mut-front-requires : goal.split_at_mut-front-requires
split_at_mut-front-requires c =
    let l : Layout = layout c.args.self.now in
    let m : ℕ = record_length l in
    let bytes : List ℕ = c.args.bytes.now in
    let size_is : c.record_length-size.result ≡ m = c.record_length-size.ensures ∙ ap (λ (f : Format). record_length (layout f)) c.self.view_is in
    omega (arith, size_is, c.requires.out, less-one m c.args.count c.requires.some)

pub returns-in_err-decoder-clause-bad : goal.returns-in_err-decoder-clause-bad
returns-in_err-decoder-clause-bad c =
    let l : Layout = layout c.args.self.now in
    let m : ℕ = record_length l in
    let bytes : List ℕ = c.args.bytes.now in
    let size_is : c.record_length-size.result ≡ m = c.record_length-size.ensures ∙ ap (λ (f : Format). record_length (layout f)) c.self.view_is in
    let back_is = c.split_at.ensures.back ∙ ap (λ (n : ℕ). drop n bytes) size_is in
    let p = err_from_is_err_and c.from_residual.result c.from_residual.ensures.1 in
    rw p.1 (λ records are holds. opening-bad l c.args.count bytes records _ back_is c.in_err-decoder.ensures.none are holds)

pub take_records-requires-clause-records : goal.take_records-requires-clause-records
take_records-requires-clause-records c =
    let l : Layout = layout c.args.self.now in
    let m : ℕ = record_length l in
    let bytes : List ℕ = c.args.bytes.now in
    let size_is : c.record_length-size.result ≡ m = c.record_length-size.ensures ∙ ap (λ (f : Format). record_length (layout f)) c.self.view_is in
    let layout_now : layout_in c.start_record.new.items ≡ l = c.start_record.ensures.layout ∙ (c.self.invariant.0 ∙ ap layout c.self.view_is) in
    let further : length c.split_at_mut-front.result.1.now ≡ m * (c.args.count - 1) = omega (arith, c.split_at_mut-front.ensures.back_len, c.requires.out, size_is, less-one m c.args.count c.requires.some) in
    further ∙ ap (λ (k : Layout). record_length k * (c.args.count - 1)) (sym layout_now)

pub returns-in_err-take_records-clause-bad : goal.returns-in_err-take_records-clause-bad
returns-in_err-take_records-clause-bad c =
    let l : Layout = layout c.args.self.now in
    let m : ℕ = record_length l in
    let bytes : List ℕ = c.args.bytes.now in
    let size_is : c.record_length-size.result ≡ m = c.record_length-size.ensures ∙ ap (λ (f : Format). record_length (layout f)) c.self.view_is in
    let layout_is : layout_in c.self.inside.items ≡ l = c.self.invariant.0 ∙ ap layout c.self.view_is in
    let layout_now : layout_in c.start_record.new.items ≡ l = c.start_record.ensures.layout ∙ layout_is in
    let front_is = c.split_at.ensures.front ∙ ap (λ (n : ℕ). take n bytes) size_is in
    let back_is = c.split_at.ensures.back ∙ ap (λ (n : ℕ). drop n bytes) size_is in
    let begun : Started l (take m bytes) c.start_record.new.items = started _ l _ (take m bytes) c.start_record.new.items layout_is front_is c.start_record.ensures.stands in
    let none : Refused l (c.args.count - 1) c.start_record.new.items c.in_ok-decoder.decoder c.take_records.new.decoder =
    subst (λ (k : Layout). Refused k (c.args.count - 1) c.start_record.new.items c.in_ok-decoder.decoder c.take_records.new.decoder) layout_now c.in_err-take_records.ensures.reads in
    let p = err_from_is_err_and c.from_residual-in_err-take_records.result c.from_residual-in_err-take_records.ensures.1 in
    rw p.1
    (λ records are holds.
    reading-bad l c.args.count bytes records c.start_record.new.items c.in_ok-decoder.decoder c.take_records.new.decoder (c.in_ok-decoder.ensures.bytes ∙ back_is) c.in_ok-decoder.ensures.read begun none are holds)

pub returns-then-at_end-clause-holds : goal.returns-then-at_end-clause-holds
returns-then-at_end-clause-holds c =
    let l : Layout = layout c.args.self.now in
    let m : ℕ = record_length l in
    let bytes : List ℕ = c.args.bytes.now in
    let size_is : c.record_length-size.result ≡ m = c.record_length-size.ensures ∙ ap (λ (f : Format). record_length (layout f)) c.self.view_is in
    let layout_is : layout_in c.self.inside.items ≡ l = c.self.invariant.0 ∙ ap layout c.self.view_is in
    let layout_now : layout_in c.start_record.new.items ≡ l = c.start_record.ensures.layout ∙ layout_is in
    let front_is = c.split_at.ensures.front ∙ ap (λ (n : ℕ). take n bytes) size_is in
    let back_is = c.split_at.ensures.back ∙ ap (λ (n : ℕ). drop n bytes) size_is in
    let begun : Started l (take m bytes) c.start_record.new.items = started _ l _ (take m bytes) c.start_record.new.items layout_is front_is c.start_record.ensures.stands in
    let took : Took l (c.args.count - 1) c.start_record.new.items c.take_records.new.records c.in_ok-decoder.decoder c.take_records.new.decoder =
    subst (λ (k : Layout). Took k (c.args.count - 1) c.start_record.new.items c.take_records.new.records c.in_ok-decoder.decoder c.take_records.new.decoder) layout_now c.in_ok-take_records.ensures.reads in
    let enough : m ≤ length bytes = omega (arith, c.if-bytes-size.false, size_is) in
    let front = c.copy_from_slice.ensures.after ∙ front_is in
    let first : length c.copy_from_slice.new.self ≡ m = ap length front ∙ length-take-le m bytes enough in
    let further : length c.split_at_mut-front.result.1.now ≡ m * (c.args.count - 1) = omega (arith, c.split_at_mut-front.ensures.back_len, c.requires.out, size_is, less-one m c.args.count c.requires.some) in
    let all : length (c.copy_from_slice.new.self ++ c.take_records.new.records) ≡ m * c.args.count = omega (arith, length-append c.copy_from_slice.new.self c.take_records.new.records, first, c.in_ok-take_records.ensures.records, further, less-one m c.args.count c.requires.some) in
    unpacked-holds l c.args.count bytes c.copy_from_slice.new.self c.take_records.new.records c.start_record.new.items c.in_ok-decoder.decoder c.take_records.new.decoder c.requires.some enough front all (c.in_ok-decoder.ensures.bytes ∙ back_is)
    c.in_ok-decoder.ensures.read begun took (c.if-at_end.ensures.0 refl)

pub returns-then-at_end-clause-only : goal.returns-then-at_end-clause-only
returns-then-at_end-clause-only c records are holds =
    let l : Layout = layout c.args.self.now in
    let m : ℕ = record_length l in
    let bytes : List ℕ = c.args.bytes.now in
    let size_is : c.record_length-size.result ≡ m = c.record_length-size.ensures ∙ ap (λ (f : Format). record_length (layout f)) c.self.view_is in
    let layout_is : layout_in c.self.inside.items ≡ l = c.self.invariant.0 ∙ ap layout c.self.view_is in
    let layout_now : layout_in c.start_record.new.items ≡ l = c.start_record.ensures.layout ∙ layout_is in
    let front_is = c.split_at.ensures.front ∙ ap (λ (n : ℕ). take n bytes) size_is in
    let back_is = c.split_at.ensures.back ∙ ap (λ (n : ℕ). drop n bytes) size_is in
    let begun : Started l (take m bytes) c.start_record.new.items = started _ l _ (take m bytes) c.start_record.new.items layout_is front_is c.start_record.ensures.stands in
    let took : Took l (c.args.count - 1) c.start_record.new.items c.take_records.new.records c.in_ok-decoder.decoder c.take_records.new.decoder =
    subst (λ (k : Layout). Took k (c.args.count - 1) c.start_record.new.items c.take_records.new.records c.in_ok-decoder.decoder c.take_records.new.decoder) layout_now c.in_ok-take_records.ensures.reads in
    let enough : m ≤ length bytes = omega (arith, c.if-bytes-size.false, size_is) in
    let front = c.copy_from_slice.ensures.after ∙ front_is in
    let first : length c.copy_from_slice.new.self ≡ m = ap length front ∙ length-take-le m bytes enough in
    let further : length c.split_at_mut-front.result.1.now ≡ m * (c.args.count - 1) = omega (arith, c.split_at_mut-front.ensures.back_len, c.requires.out, size_is, less-one m c.args.count c.requires.some) in
    let all : length (c.copy_from_slice.new.self ++ c.take_records.new.records) ≡ m * c.args.count = omega (arith, length-append c.copy_from_slice.new.self c.take_records.new.records, first, c.in_ok-take_records.ensures.records, further, less-one m c.args.count c.requires.some) in
    unpacked-only l c.args.count bytes records c.copy_from_slice.new.self c.take_records.new.records c.start_record.new.items c.in_ok-decoder.decoder c.take_records.new.decoder c.requires.some enough front all (λ i. (c.type_inv.out i).fits)
    (c.in_ok-decoder.ensures.bytes ∙ back_is) c.in_ok-decoder.ensures.read begun took are holds

pub returns-clause-bad : goal.returns-clause-bad
returns-clause-bad c records are holds =
    let l : Layout = layout c.args.self.now in
    let m : ℕ = record_length l in
    let bytes : List ℕ = c.args.bytes.now in
    let size_is : c.record_length-size.result ≡ m = c.record_length-size.ensures ∙ ap (λ (f : Format). record_length (layout f)) c.self.view_is in
    let layout_is : layout_in c.self.inside.items ≡ l = c.self.invariant.0 ∙ ap layout c.self.view_is in
    let layout_now : layout_in c.start_record.new.items ≡ l = c.start_record.ensures.layout ∙ layout_is in
    let front_is = c.split_at.ensures.front ∙ ap (λ (n : ℕ). take n bytes) size_is in
    let back_is = c.split_at.ensures.back ∙ ap (λ (n : ℕ). drop n bytes) size_is in
    let begun : Started l (take m bytes) c.start_record.new.items = started _ l _ (take m bytes) c.start_record.new.items layout_is front_is c.start_record.ensures.stands in
    let took : Took l (c.args.count - 1) c.start_record.new.items c.take_records.new.records c.in_ok-decoder.decoder c.take_records.new.decoder =
    subst (λ (k : Layout). Took k (c.args.count - 1) c.start_record.new.items c.take_records.new.records c.in_ok-decoder.decoder c.take_records.new.decoder) layout_now c.in_ok-take_records.ensures.reads in
    false_true
    (c.if-at_end.ensures.1
    (ending-bad l c.args.count bytes records c.take_records.new.records c.start_record.new.items c.in_ok-decoder.decoder c.take_records.new.decoder (c.in_ok-decoder.ensures.bytes ∙ back_is) c.in_ok-decoder.ensures.read begun took are holds))

pub returns-in_err-decoder-clause-holds : goal.returns-in_err-decoder-clause-holds
returns-in_err-decoder-clause-holds c = IfOk-from_err c.from_residual.result _ c.from_residual.ensures.0

pub returns-in_err-decoder-clause-only : goal.returns-in_err-decoder-clause-only
returns-in_err-decoder-clause-only c = IfOk-from_err c.from_residual.result _ c.from_residual.ensures.0

pub returns-in_err-take_records-clause-holds : goal.returns-in_err-take_records-clause-holds
returns-in_err-take_records-clause-holds c =
    IfOk-from_err c.from_residual-in_err-take_records.result _ c.from_residual-in_err-take_records.ensures.0

pub returns-in_err-take_records-clause-only : goal.returns-in_err-take_records-clause-only
returns-in_err-take_records-clause-only c =
    IfOk-from_err c.from_residual-in_err-take_records.result _ c.from_residual-in_err-take_records.ensures.0
