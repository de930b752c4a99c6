use Rattle.std.proofs.Common.{◌≡◌, ℕ, List, Bool, true, false, drop, sym, ap, subst, ◌∙◌, IsTrue}
use Rattle.std.specs.Prelude.{sum}
use Rattle.laz_table.specs.Chunks.{AllowsSizes}
use Rattle.laz_table.specs.Steps.{OneTable}
use Rattle.laz_table.proofs.TableLemmas.{accepted, first-points}
use Rattle.laz_table.proofs.table.read_table.Goals as goal

not_true : (b : Bool) → b ≡ false → IsTrue b → ⊥
not_true b e t = absurd (let f : b ≡ true = t in let g : false ≡ true = sym e ∙ f in cc)

pub returns-then-not-allow : goal.returns-then-not-allow
returns-then-not-allow c =
    let sizes = c.in_ok-coded.coded.sizes.items in
    let counts = c.in_ok-coded.coded.counts.items in
    let n = c.in-Some.chunks in
    let one = subst (λ (b : Bool). OneTable (drop 8 c.args.bytes.now) n b sizes counts) c.are_counted.ensures (subst (λ (bs : List ℕ). OneTable bs n c.are_counted.result sizes counts) c.split_at.ensures.back c.in_ok-coded.ensures.reads) in
    let total : sum counts ≡ c.args.total = ap sum (sym c.deref.ensures.value) ∙ (sym c.sum_of.ensures ∙ c.if-sum_of-total.false) in
    first-points c.args.bytes.now c.args.blocks n c.args.total sizes counts c.in-Some.ensures.start one total
    (λ allows. not_true c.allow.result c.if-not-allow.true (c.allow.ensures.1 (subst (λ (l : List ℕ). AllowsSizes c.args.blocks l) (sym c.deref-2.ensures.value) allows)))

pub returns : goal.returns
returns c =
    let sizes = c.in_ok-coded.coded.sizes.items in
    let counts = c.in_ok-coded.coded.counts.items in
    let n = c.in-Some.chunks in
    let one = subst (λ (b : Bool). OneTable (drop 8 c.args.bytes.now) n b sizes counts) c.are_counted.ensures (subst (λ (bs : List ℕ). OneTable bs n c.are_counted.result sizes counts) c.split_at.ensures.back c.in_ok-coded.ensures.reads) in
    let total : sum counts ≡ c.args.total = ap sum (sym c.deref.ensures.value) ∙ (sym c.sum_of.ensures ∙ c.if-sum_of-total.false) in
    accepted c.args.bytes.now c.args.blocks n c.args.total sizes counts c.in-Some.ensures.start one (λ list. list.sizes.items) (λ list. list.counts.items) c.with_sizes.result total
    (subst (λ (l : List ℕ). AllowsSizes c.args.blocks l) c.deref-2.ensures.value (c.allow.ensures.0 c.if-not-allow.false)) c.with_sizes.ensures.sizes c.with_sizes.ensures.counts c.with_sizes.ensures.memory
