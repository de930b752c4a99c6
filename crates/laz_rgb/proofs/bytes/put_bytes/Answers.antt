use Rattle.std.proofs.Common.{◌≡◌, ◌+◌, ◌<◌, ℕ, List, ◌∷◌, ◌++◌, [], length, take, get_or, sym, ap, subst, ◌∙◌, add-one, arith}
use Rattle.std.proofs.Math.Seq.{take-suc}
use Rattle.std.proofs.lemmas.List.{length-take-le, take_all}
use Rattle.laz_range.specs.Choice.{all_cuts, state_after}
use Rattle.laz_range.specs.Coding.{Codes}
use Rattle.laz_rgb.specs.Rows.{next_cuts, next_row, row_at}
use Rattle.laz_rgb.specs.Extra.{all_marked, extra_symbols}
use Rattle.laz_rgb.proofs.Extras.{extra-model, extra-step, length-symbols, symbol-at}
use Rattle.laz_rgb.proofs.bytes.put_bytes.Goals as goal

pub put_byte-requires-clause-size : goal.put_byte-requires-clause-size
put_byte-requires-clause-size c = (extra-model (length c.args.last.now) c.args.bank.now c.loop-i.bank c.loop-i.i c.loop-i.invariant.sizes c.requires.models (omega (arith, c.loop-i-test.true, c.requires.part))).1

pub loop-i-preserved : goal.loop-i-preserved
loop-i-preserved c =
    let last = c.args.last.now in
    let part = c.args.part.now in
    let symbols = extra_symbols last part in
    let i = c.loop-i.i in
    let lt : i < length last = omega (arith, c.loop-i-test.true, c.requires.part) in
    let inside : i < length symbols = omega (arith, lt, length-symbols last part c.requires.part) in
    let xs = take i symbols in
    let s = c.byte_difference.result in
    let is : s ≡ get_or symbols i 0 = c.byte_difference.ensures ∙ sym (symbol-at last part i c.requires.part lt) in
    let more : take (i + 1) symbols ≡ xs ++ s ∷ [] =
    subst (λ (k : ℕ). take k symbols ≡ xs ++ s ∷ []) (sym (add-one i)) (take-suc symbols i 0 inside ∙ ap (λ z. xs ++ z ∷ []) (sym is)) in
    let step = extra-step (length last) c.args.bank.now xs i s c.loop-i.bank c.put_byte.new.bank c.args.encoder.now c.loop-i.encoder c.put_byte.new.encoder
    (length-take-le i symbols (omega (arith, inside))) lt c.loop-i.invariant.next c.loop-i.invariant.codes c.put_byte.ensures.codes c.put_byte.ensures.next in
    rw more (record {
      codes = step.0;
      next = step.1;
      sizes = c.put_byte.ensures.sizes ∙ c.loop-i.invariant.sizes;
      used = omega (arith, c.put_byte.ensures.used, c.loop-i.invariant.used);
    })

pub returns-clause-codes : goal.returns-clause-codes
returns-clause-codes c =
    let symbols = extra_symbols c.args.last.now c.args.part.now in
    let all : take c.loop-i.i symbols ≡ symbols = take_all c.loop-i.i symbols (omega (arith, c.loop-i-test.false, length-symbols c.args.last.now c.args.part.now c.requires.part, c.requires.part)) in
    subst (λ (l : List ℕ). Codes c.args.encoder.now c.loop-i.encoder (all_cuts next_row next_cuts (row_at (all_marked (length c.args.last.now)) 0 c.args.bank.now) l)) all c.loop-i.invariant.codes

pub returns-clause-next : goal.returns-clause-next
returns-clause-next c =
    let symbols = extra_symbols c.args.last.now c.args.part.now in
    let all : take c.loop-i.i symbols ≡ symbols = take_all c.loop-i.i symbols (omega (arith, c.loop-i-test.false, length-symbols c.args.last.now c.args.part.now c.requires.part, c.requires.part)) in
    subst (λ (l : List ℕ). c.loop-i.bank ≡ (state_after next_row (row_at (all_marked (length c.args.last.now)) 0 c.args.bank.now) l).bank) all c.loop-i.invariant.next
