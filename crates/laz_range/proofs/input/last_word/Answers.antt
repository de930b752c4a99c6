use Rattle.std.proofs.Common.{◌≡◌, ◌-◌, ◌∙◌, List, ℕ, drop, length, take, ap, refl, arith, length-drop}
use Rattle.std.proofs.lemmas.List.{take_all}
use Rattle.laz_range.specs.Span.{number, IsBytes}
use Rattle.laz_range.proofs.Streams.{IsBytes-drop}
use Rattle.laz_range.proofs.LastWords.{last-small, last-first}
use Rattle.laz_range.proofs.input.last_word.Goals as goal

pub overflow_cast-result-4 : goal.overflow_cast-result-4
overflow_cast-result-4 c =
    let bytes = c.args.bytes.now in
    let ys : List ℕ = drop c.args.at bytes in
    let same : take (length bytes - c.args.at) ys ≡ ys = take_all (length bytes - c.args.at) ys (omega (arith, length-drop c.args.at bytes)) in
    let all : IsBytes ys = IsBytes-drop c.args.at bytes (λ i. omega (arith, c.type_inv.bytes i)) in
    let small = last-small ys c.number_of.result (length ys) all refl (omega (arith, c.requires.few, length-drop c.args.at bytes)) (c.number_of.ensures ∙ ap number same) in
    rw same (omega (arith, small))

pub returns : goal.returns
returns c n within =
    let bytes = c.args.bytes.now in
    let ys : List ℕ = drop c.args.at bytes in
    let same : take (length bytes - c.args.at) ys ≡ ys = take_all (length bytes - c.args.at) ys (omega (arith, length-drop c.args.at bytes)) in
    let all : IsBytes ys = IsBytes-drop c.args.at bytes (λ i. omega (arith, c.type_inv.bytes i)) in
    rw same
    (last-first ys c.number_of.result (length ys) n all refl (omega (arith, c.requires.few, length-drop c.args.at bytes)) (omega (arith, within, length-drop c.args.at bytes)) (c.number_of.ensures ∙ ap number same))
