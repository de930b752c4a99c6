use Rattle.std.proofs.Common.{◌≡◌, ℕ, ◌+◌, ◌-◌, ◌*◌, ◌%◌, ◌/◌, ◌∙◌, sym, take, refl, arith}
use Rattle.std.proofs.lemmas.Bool.{cond_below, cond_above}
use Rattle.laz_range.specs.Span.{number, final_number}
use Rattle.laz_range.specs.Output.{low_of}
use Rattle.laz_range.proofs.Fronts.{spells, sum_parts}
use Rattle.laz_range.proofs.Windows.{last_long, last_short}
use Rattle.laz_range.proofs.output.write_last.Goals as goal

pub returns-then-len-gt33554432-clause-spells : goal.returns-then-len-gt33554432-clause-spells
returns-then-len-gt33554432-clause-spells c =
    let old = c.args.bytes.now in
    let at = c.args.at in
    let next = c.args.next in
    let low : ℕ = low_of at next c.args.low old in
    let is : (low + 16777216) / 16777216 * 16777216 ≡ final_number (record { low = low; len = c.args.len; shifts = next - at }) = cond_below 33554432 c.args.len _ _ c.if-len-gt33554432.true in
    rw (sym is)
    (spells at next ((low + 16777216) / 16777216 * 16777216) old c.put_window.new.bytes c.requires.bytes c.put_window.ensures.bytes c.requires.order c.requires.within
    (c.put_window.auto.bytes ∙ c.add-sum.auto.bytes) (omega (arith, c.requires.fits, c.if-len-gt33554432.true))
    (c.put_window.ensures.number
    ∙ last_long _ c.add-sum.result (number (take at old)) at next (low + 16777216) (omega arith)
    (c.add-sum.ensures.sum ∙ sum_parts at next (c.args.low % 4294967296) 16777216 old c.requires.order (omega (arith, c.requires.within)))))

pub returns-clause-spells : goal.returns-clause-spells
returns-clause-spells c =
    let old = c.args.bytes.now in
    let at = c.args.at in
    let next = c.args.next in
    let low : ℕ = low_of at next c.args.low old in
    let is : (low + 8388608) / 65536 * 65536 ≡ final_number (record { low = low; len = c.args.len; shifts = next - at }) = cond_above 33554432 c.args.len _ _ _ c.if-len-gt33554432.false refl in
    rw (sym is)
    (spells at next ((low + 8388608) / 65536 * 65536) old c.put_window-2.new.bytes c.requires.bytes c.put_window-2.ensures.bytes c.requires.order c.requires.within
    (c.put_window-2.auto.bytes ∙ c.add-sum-2.auto.bytes) (omega (arith, c.requires.fits, c.requires.long))
    (c.put_window-2.ensures.number
    ∙ last_short _ c.add-sum-2.result (number (take at old)) at next (low + 8388608) (omega arith)
    (c.add-sum-2.ensures.sum ∙ sum_parts at next (c.args.low % 4294967296) 8388608 old c.requires.order (omega (arith, c.requires.within)))))
