use Rattle.std.proofs.lemmas.Result.{IfOk-from_err}
use Rattle.std.proofs.Common.{◌≡◌, ◌+◌, ◌-◌, ◌≤◌, ℕ, length, take, drop, sym, ◌∙◌, ap, arith}
use Rattle.std.proofs.lemmas.List.{take_at, take_all}
use Rattle.laz_forms.proofs.Public.{known_then, on_ok_both}
use Rattle.laz_forms.proofs.Public.{read_more}
use Rattle.laz_reader.proofs.reading.read_on.Goals as goal

pub returns-clause-bytes : goal.returns-clause-bytes
returns-clause-bytes g c =
    let old = c.args.bytes.now.items in
    let start = c.len-start.result in
    let total = c.args.total in
    let buffer = c.deref_mut.result.now in
    let all = c.fill_from.new.bytes in
    let r = c.in_ok-resize.ensures in
    let start_is : start ≡ length old = omega (arith, c.len-start.ensures, c.args.bytes.now.ok.0) in
    let le : start ≤ total = omega (arith, c.requires.more, c.len-start.ensures) in
    let size : length buffer ≡ total = c.deref_mut.ensures.len ∙ r.len in
    let long : length all ≡ total = c.fill_from.auto.bytes ∙ size in
    let kept : take start buffer ≡ old = ap (take start) (c.deref_mut.ensures.value ∙ r.items) ∙ take_at (take total old) _ start (ap length (take_all total old (omega (arith, start_is, le))) ∙ sym start_is) ∙ take_all total old (omega (arith, start_is, le)) in
    on_ok_both c.fill_from.result (λ front bytes. known_then _ _ _ _ (λ file rest was. read_more old all _ buffer file c.args.from start total c.resize.new.self.len long r.len le front kept (rest ∙ ap (λ (n : ℕ). take (n - start) (drop (c.args.from + start) file)) size) (was ∙ ap (λ (n : ℕ). take n (drop c.args.from file)) (sym c.len-start.ensures))) bytes) c.fill_from.ensures.front c.fill_from.ensures.bytes

pub returns-in_err-resize-clause-len : goal.returns-in_err-resize-clause-len
returns-in_err-resize-clause-len g c = IfOk-from_err c.from_residual.result _ c.from_residual.ensures.0

pub returns-in_err-resize-clause-front : goal.returns-in_err-resize-clause-front
returns-in_err-resize-clause-front g c = IfOk-from_err c.from_residual.result _ c.from_residual.ensures.0

pub returns-in_err-resize-clause-bytes : goal.returns-in_err-resize-clause-bytes
returns-in_err-resize-clause-bytes g c = IfOk-from_err c.from_residual.result _ c.from_residual.ensures.0

pub returns-in_err-resize-clause-calm : goal.returns-in_err-resize-clause-calm
returns-in_err-resize-clause-calm g c = IfOk-from_err c.from_residual.result _ c.from_residual.ensures.0
