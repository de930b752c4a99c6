use Rattle.std.proofs.Common.{◌≡◌, ◌+◌, ℕ, ◌∷◌, ◌++◌, [], take, get_or, sym, subst, ◌∙◌, add-one, arith}
use Rattle.std.proofs.Math.Seq.{take-suc}
use Rattle.std.proofs.lemmas.List.{length-take-le}
use Rattle.laz_rgb.specs.Rows.{row_at}
use Rattle.laz_rgb.proofs.Walks.{put-step, row-models}
use Rattle.laz_rgb.proofs.writing.put_row.Goals as goal

pub put_byte-requires-clause-size : goal.put_byte-requires-clause-size
put_byte-requires-clause-size c = (row-models _ c.args.m c.args.bank.now c.loop-i.bank c.loop-i.invariant.sizes c.requires.models c.loop-i.i c.loop-i-test.true).1

pub loop-i-preserved : goal.loop-i-preserved
loop-i-preserved c =
    let row = row_at c.args.marks.now c.args.m c.args.bank.now in
    let symbols = c.args.symbols.now in
    let i = c.loop-i.i in
    let xs = take i symbols in
    let more : take (i + 1) symbols ≡ xs ++ get_or symbols i 0 ∷ [] = subst (λ (k : ℕ). take k symbols ≡ xs ++ get_or symbols i 0 ∷ []) (sym (add-one i)) (take-suc symbols i 0 c.loop-i-test.true) in
    let step = put-step row xs i (get_or symbols i 0) c.loop-i.bank c.put_byte.new.bank c.args.encoder.now c.loop-i.encoder c.put_byte.new.encoder
    (length-take-le i symbols (omega (arith, c.loop-i-test.true))) c.loop-i.invariant.next c.loop-i.invariant.codes c.put_byte.ensures.codes c.put_byte.ensures.next in
    rw more (record {
      codes = step.0;
      next = step.1;
      sizes = c.put_byte.ensures.sizes ∙ c.loop-i.invariant.sizes;
      used = omega (arith, c.put_byte.ensures.used, c.loop-i.invariant.used);
    })
