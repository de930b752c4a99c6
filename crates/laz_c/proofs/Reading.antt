-- What a head is refused for, by the two steps in which it is read.
use Rattle.std.specs.Prelude.{◌≡◌, ℕ, List, Option, None, IsSomeAnd}
use Rattle.std.proofs.Common.{sym, subst, ap, ◌∙◌}
use Rattle.las_header.specs.declared.refusal.Refusal.{Refusal}
use Rattle.las_header.specs.Heads.{HeadView}
use Rattle.las_header.specs.Refusals.{first_cause, head_causes}
use Rattle.laz_c.specs.declared.head.LazHead.{LazHead}
use Rattle.laz_c.specs.Heads.{head_cause, laszip_cause, numbers_of, refused_as}
use Rattle.laz_c.proofs.Causes.{or_else-none}

pub read_done : (bytes : List ℕ) (size : ℕ) (head : HeadView) (out : LazHead) → first_cause (head_causes bytes size) ≡ None → head ≡ record { bytes = bytes; size = size }
    → (laszip_cause head.bytes ≡ None) × (out ≡ numbers_of head.bytes) → (head_cause bytes size ≡ None) × (out ≡ numbers_of bytes)
read_done bytes size head out none is done =
    let same : head.bytes ≡ bytes = ap (λ (v : HeadView). v.bytes) is in (
      or_else-none (first_cause (head_causes bytes size)) (laszip_cause bytes) none ∙ subst (λ (b : List ℕ). laszip_cause b ≡ None) same done.0,
      subst (λ (b : List ℕ). out ≡ numbers_of b) same done.1,
    )

pub read_refused : (bytes : List ℕ) (size : ℕ) (head : HeadView) (out : LazHead) → first_cause (head_causes bytes size) ≡ None → head ≡ record { bytes = bytes; size = size }
    → IsSomeAnd (laszip_cause head.bytes) (λ cause. out ≡ refused_as cause) → IsSomeAnd (head_cause bytes size) (λ cause. out ≡ refused_as cause)
read_refused bytes size head out none is refused =
    let same : head.bytes ≡ bytes = ap (λ (v : HeadView). v.bytes) is in
    subst (λ (o : Option Refusal). IsSomeAnd o (λ cause. out ≡ refused_as cause)) (sym (or_else-none (first_cause (head_causes bytes size)) (laszip_cause bytes) none))
    (subst (λ (b : List ℕ). IsSomeAnd (laszip_cause b) (λ cause. out ≡ refused_as cause)) same refused)
