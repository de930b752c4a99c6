use Rattle.std.proofs.Common.{◌≡◌, ◌+◌, ◌<◌, ℕ, suc, ◌∷◌, ◌++◌, [], length, take, set, refl, sym, ap, subst, ◌∙◌, add-one, arith}
use Rattle.std.proofs.lemmas.List.{length-set, take_all}
use Rattle.std.proofs.lemmas.Result.{err_from_is_err_and}
use Rattle.laz_range.specs.Choice.{AreAsked, all_cuts}
use Rattle.laz_range.specs.Decoding.{Takes}
use Rattle.laz_models.specs.Bank.{model_at}
use Rattle.laz_integer.proofs.Public.{sized-takes, sized-none}
use Rattle.laz_rgb.specs.Rows.{IsNextByte, next_cuts, next_row, row_at}
use Rattle.laz_rgb.specs.Extra.{all_marked, extra_made}
use Rattle.laz_rgb.proofs.Extras.{extra-model, extra-more, extra-none, first-none, first-takes, made-step, next-bank, none-made}
use Rattle.laz_rgb.proofs.bytes.take_bytes.Goals as goal

pub returns-in_err-first-clause-reads : goal.returns-in_err-first-clause-reads
returns-in_err-first-clause-reads c =
    let p = err_from_is_err_and c.from_residual.result c.from_residual.ensures.1 in
    let bank = c.args.bank.now in
    let size = (extra-model (length c.args.last.now) bank bank 0 refl c.requires.models c.requires.some).1 in
    rw p.1 (first-none (length c.args.last.now) bank c.args.decoder.now c.take_symbol_of.new.decoder c.requires.some (sized-none (model_at bank 0) 256 _ _ size c.in_err-first.ensures.reads))

pub overflow_cast-first : goal.overflow_cast-first
overflow_cast-first c =
    let bank = c.args.bank.now in
    let size = (extra-model (length c.args.last.now) bank bank 0 refl c.requires.models c.requires.some).1 in
    omega (arith, size, c.in_ok-first.ensures.reads.choice.asked)

pub loop-i-init : goal.loop-i-init
loop-i-init c =
    let last = c.args.last.now in
    let bank = c.args.bank.now in
    let part = c.args.part.now in
    let s = c.in_ok-first.first in
    let size = (extra-model (length last) bank bank 0 refl c.requires.models c.requires.some).1 in
    let f = sized-takes (model_at bank 0) s 256 _ _ size c.in_ok-first.ensures.reads in
    let made : take 1 (set part 0 c.byte_of.result) ≡ extra_made last (s ∷ []) =
    ap (λ b. take 1 (set part 0 b)) c.byte_of.ensures ∙ made-step last [] part 0 s refl c.requires.some c.requires.part (sym (none-made last)) in
    record {
      reads = (
        s ∷ [],
        first-takes (length last) bank s c.args.decoder.now c.take_symbol_of.new.decoder c.requires.some f,
        made,
        next-bank (length last) bank [] 0 s bank c.take_symbol_of.new.bank refl c.requires.some refl c.in_ok-first.ensures.after_symbol,
      );
      part = length-set part 0 c.byte_of.result ∙ c.requires.part;
      sizes = c.take_symbol_of.ensures.sizes;
    }

pub take_byte-requires-clause-model : goal.take_byte-requires-clause-model
take_byte-requires-clause-model c =
    (extra-model (length c.args.last.now) c.args.bank.now c.loop-i.bank c.loop-i.i c.loop-i.invariant.sizes c.requires.models (omega (arith, c.loop-i-test.true, c.loop-i.invariant.part, c.requires.part, length-set c.args.part.now 0 c.byte_of.result))).0

pub take_byte-requires-clause-size : goal.take_byte-requires-clause-size
take_byte-requires-clause-size c =
    (extra-model (length c.args.last.now) c.args.bank.now c.loop-i.bank c.loop-i.i c.loop-i.invariant.sizes c.requires.models (omega (arith, c.loop-i-test.true, c.loop-i.invariant.part, c.requires.part, length-set c.args.part.now 0 c.byte_of.result))).1

pub returns-in_err-symbol-clause-reads : goal.returns-in_err-symbol-clause-reads
returns-in_err-symbol-clause-reads c =
    let p = err_from_is_err_and c.from_residual-in_err-symbol.result c.from_residual-in_err-symbol.ensures.1 in
    let r = c.loop-i.invariant.reads in
    let lt : c.loop-i.i < length c.args.last.now = omega (arith, c.loop-i-test.true, c.loop-i.invariant.part, c.requires.part, length-set c.args.part.now 0 c.byte_of.result) in
    rw p.1 (extra-none (length c.args.last.now) c.args.bank.now r.0 c.loop-i.i c.loop-i.bank c.args.decoder.now c.loop-i.decoder c.take_byte.new.decoder lt r.3 r.1 c.in_err-symbol.ensures.reads)

pub loop-i-preserved : goal.loop-i-preserved
loop-i-preserved c =
    let last = c.args.last.now in
    let bank = c.args.bank.now in
    let r = c.loop-i.invariant.reads in
    let i = c.loop-i.i in
    let s = c.in_ok-symbol.symbol in
    let lt : i < length last = omega (arith, c.loop-i-test.true, c.loop-i.invariant.part, c.requires.part, length-set c.args.part.now 0 c.byte_of.result) in
    let new = set c.loop-i.part i c.byte_of-in-loop-i.result in
    let made : take (i + 1) new ≡ extra_made last (r.0 ++ s ∷ []) =
    subst (λ (k : ℕ). take k new ≡ extra_made last (r.0 ++ s ∷ [])) (sym (add-one i))
    (ap (λ b. take (suc i) (set c.loop-i.part i b)) c.byte_of-in-loop-i.ensures ∙ made-step last r.0 c.loop-i.part i s r.1.choice.asked.0 lt c.loop-i.invariant.part r.2) in
    record {
      reads = (
        r.0 ++ s ∷ [],
        extra-more (length last) bank r.0 i s c.loop-i.bank c.args.decoder.now c.loop-i.decoder c.take_byte.new.decoder lt r.3 r.1 c.in_ok-symbol.ensures.reads,
        made,
        next-bank (length last) bank r.0 i s c.loop-i.bank c.take_byte.new.bank r.1.choice.asked.0 lt r.3 c.in_ok-symbol.ensures.next,
      );
      part = length-set c.loop-i.part i c.byte_of-in-loop-i.result ∙ c.loop-i.invariant.part;
      sizes = c.take_byte.ensures.sizes ∙ c.loop-i.invariant.sizes;
    }

pub returns-clause-reads : goal.returns-clause-reads
returns-clause-reads c =
    let r = c.loop-i.invariant.reads in
    let n = length c.args.last.now in
    let all : c.loop-i.i ≡ n = omega (arith, c.loop-i-test.false, c.loop-i.auto.i-end, c.loop-i.invariant.part, c.requires.part, c.requires.some, length-set c.args.part.now 0 c.byte_of.result) in
    let row = row_at (all_marked n) 0 c.args.bank.now in
    let whole : take c.loop-i.i c.loop-i.part ≡ c.loop-i.part = take_all c.loop-i.i c.loop-i.part (omega (arith, all, c.loop-i.invariant.part)) in
    (r.0, subst (λ (k : ℕ). Takes (AreAsked next_row IsNextByte row k) (all_cuts next_row next_cuts row) c.args.decoder.now c.loop-i.decoder r.0) all r.1, sym whole ∙ r.2, r.3)
