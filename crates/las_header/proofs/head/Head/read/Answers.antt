use Rattle.std.proofs.Common.{◌≡◌, ℕ, ◌<◌, ◌^◌, List, sym, ap, ◌∙◌, subst, arith, None}
use Rattle.las_header.specs.Fields.{points_of}
use Rattle.las_header.specs.Refusals.{first_cause, head_causes}
use Rattle.las_header.proofs.CauseLemmas.{HasBlocks, has_blocks, is_head}
use Rattle.las_header.proofs.head.Head.read.Goals as goal

pub head_cause-requires : goal.head_cause-requires
head_cause-requires c =
    let blocks : HasBlocks c.deref.result.now c.args.size =
    subst (λ (b : List ℕ). HasBlocks b c.args.size) (sym c.deref.ensures.value)
    (has_blocks c.args.bytes.items c.args.size c.requires.accepted c.requires.whole) in
    record {
      block = blocks.block;
      long = blocks.long;
      header = blocks.header;
      whole = blocks.whole;
      within = blocks.within;
      near = omega (arith, blocks.near);
    }

pub invariant_of-result : goal.invariant_of-result
invariant_of-result c =
    let head = c.args.bytes.items in
    let same = c.deref.ensures.value in
    let cause : first_cause (head_causes head c.args.size) ≡ None =
    sym (ap (λ (b : List ℕ). first_cause (head_causes b c.args.size)) same) ∙ sym c.head_cause.ensures.cause ∙ c.in-None.is in
    let points : points_of head < 2 ^ 32 = subst (λ (b : List ℕ). points_of b < 2 ^ 32) same (c.head_cause.ensures.points c.in-None.is) in
    is_head head c.args.size points c.requires.accepted c.requires.whole cause
