use Rattle.std.proofs.Common.{◌≡◌, ◌∙◌, ◌+◌, ℕ, List, Bool, true, false, cond, sym, ap}
use Rattle.std.specs.List.{splice}
use Rattle.las_header.specs.Fields.{has_long_counts}
use Rattle.las_header.proofs.head.put_sums.Goals as goal

pub returns-then-has_long : goal.returns-then-has_long
returns-then-has_long c =
    let head = c.args.head.now.items in
    let short = c.args.short.now in
    let long = c.args.long.now in
    let once = splice head 107 131 short in
    let which : has_long_counts head ≡ true =
    sym (c.has_long_counts-has_long.ensures ∙ ap has_long_counts c.deref.ensures.value) ∙ c.if-has_long.true in
    let first : c.put.new.head.items ≡ once = c.put.ensures.bytes ∙ ap (λ (n : ℕ). splice head 107 (107 + n) short) c.requires.short_size in
    c.put-then-has_long.ensures.bytes ∙ ap (λ (n : ℕ). splice c.put.new.head.items 247 (247 + n) long) c.requires.long_size
    ∙ ap (λ (h : List ℕ). splice h 247 375 long) first ∙ ap (λ (b : Bool). cond b (splice once 247 375 long) once) (sym which)

pub returns-else-has_long : goal.returns-else-has_long
returns-else-has_long c =
    let head = c.args.head.now.items in
    let short = c.args.short.now in
    let once = splice head 107 131 short in
    let which : has_long_counts head ≡ false =
    sym (c.has_long_counts-has_long.ensures ∙ ap has_long_counts c.deref.ensures.value) ∙ c.if-has_long.false in
    c.put.ensures.bytes ∙ ap (λ (n : ℕ). splice head 107 (107 + n) short) c.requires.short_size
    ∙ ap (λ (b : Bool). cond b (splice once 247 375 c.args.long.now) once) (sym which)
