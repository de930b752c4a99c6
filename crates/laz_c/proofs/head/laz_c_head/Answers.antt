use Rattle.std.specs.Prelude.{◌≡◌, ℕ, List, None, IsSomeAnd}
use Rattle.std.proofs.Common.{subst}
use Rattle.laz_c.specs.Heads.{head_cause, numbers_of, refused_as}
use Rattle.laz_c.proofs.head.laz_c_head.Goals as goal

pub returns-in-Ok-clause-done : goal.returns-in-Ok-clause-done
returns-in-Ok-clause-done c = λ is.
    subst (λ (b : List ℕ). (head_cause b c.args.size ≡ None) × (c.read.new.out ≡ numbers_of b)) c.in-Ok.ensures (c.read.ensures.done is)

pub returns-in-Ok-clause-refused : goal.returns-in-Ok-clause-refused
returns-in-Ok-clause-refused c = λ is.
    subst (λ (b : List ℕ). IsSomeAnd (head_cause b c.args.size) (λ cause. c.read.new.out ≡ refused_as cause)) c.in-Ok.ensures (c.read.ensures.refused is)
