use Rattle.std.proofs.Common.{◌≡◌, ◌+◌, ◌/◌, ◌++◌, false, true, length, refl, sym, ◌∙◌}
use Rattle.std.proofs.lemmas.Result.{IfOk-weaker}
use Rattle.las_filter.specs.Kept.{kept, steps_of}
use Rattle.las_thin.specs.Kept.{passing}
use Rattle.las_thin.specs.Sieving.{HasSifted, all_pass}
use Rattle.las_convert.specs.Adding.{IsAfter, kept_by}
use Rattle.las_convert.proofs.Adding.{adds_same}
use Rattle.las_convert.proofs.Cuts.{reached}
use Rattle.las_convert.proofs.Passing.{kept_as_plan}
use Rattle.las_convert.proofs.keeping.keep_records.Goals as goal
use Rattle.las_header.specs.Plain.{cut_all}

pub returns-then-passes_all-clause-kept : goal.returns-then-passes_all-clause-kept
returns-then-passes_all-clause-kept c looked before is =
    let plan = steps_of c.args.plan.now in
    let settings = c.args.sieve.now.settings in
    let k = c.keep_plain.ensures.kept in
    let all : settings ≡ all_pass = c.passes_all.ensures.0 c.if-passes_all.true in
    (k.0, k.1, k.2, adds_same (kept plan) (kept_by settings looked plan) (λ records. kept_as_plan settings looked plan records all) before (cut_all c.args.size c.args.block.now) k.0 c.keep_plain.result.refused (k.3 before))

pub returns-then-passes_all-clause-after : goal.returns-then-passes_all-clause-after
returns-then-passes_all-clause-after c looked before is fine = record {
  read_is = reached before c.args.size (length c.args.block.now / c.args.size) c.args.block.now c.args.read (c.args.read + length c.args.block.now / c.args.size) is.read_is refl;
  stands = λ other. absurd (other (c.passes_all.ensures.0 c.if-passes_all.true));
}

pub returns-clause-after : goal.returns-clause-after
returns-clause-after c looked before is =
    let plan = steps_of c.args.plan.now in
    let other : c.args.sieve.now.settings ≡ all_pass → ⊥ = λ all. let clash : false ≡ true = sym c.if-passes_all.false ∙ c.passes_all.ensures.1 all in cc in
    IfOk-weaker c.keep_sifted.result (λ part. part.refused ≡ false
    → HasSifted looked (passing plan (before ++ cut_all c.args.size c.args.block.now)) c.keep_sifted.new.sieve) (λ part. part.refused ≡ false → IsAfter plan looked (before ++ cut_all c.args.size c.args.block.now) c.keep_sifted.new.sieve (c.args.read + length c.args.block.now / c.args.size))
    (λ part stands fine. record {
      read_is = reached before c.args.size (length c.args.block.now / c.args.size) c.args.block.now c.args.read (c.args.read + length c.args.block.now / c.args.size) is.read_is refl;
      stands = λ differs. stands fine;
    })
    (c.keep_sifted.ensures.stands looked before is.read_is (is.stands other))
