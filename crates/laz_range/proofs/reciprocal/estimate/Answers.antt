use Rattle.std.proofs.Common.{ℕ, ◌-◌, ◌*◌, ◌/◌, ◌^◌, ◌≤◌, ◌∙◌, ap, arith}
use Rattle.std.proofs.Math.Nat.{div-mul-le_self}
use Rattle.std.proofs.lemmas.Nat.{mul-le}
use lib.Count.{count_leading_zeros}
use Rattle.laz_range.specs.Search.{reciprocal}
use Rattle.laz_range.proofs.Reciprocals.{coarse-of, top-of, top-bounds, estimated}
use Rattle.laz_range.proofs.reciprocal.estimate.Goals as goal

pub reciprocal-requires : goal.reciprocal-requires
reciprocal-requires c =
    let bounds = top-bounds c.args.len _ (top-of c.args.len c.requires.long (omega arith)) in
    rw c.requires.top (record { low = bounds.0; high = bounds.1 })

pub returns-clause-is : goal.returns-clause-is
returns-clause-is c =
    coarse-of (c.args.value * c.reciprocal.result) (32 - count_leading_zeros 32 c.args.len) c.args.bits
    ∙ ap (λ r. c.args.value * r / 2 ^ (32 - count_leading_zeros 32 c.args.len) / 2 ^ c.args.bits) (c.reciprocal.ensures ∙ ap reciprocal c.requires.top)

pub returns-clause-place : goal.returns-clause-place
returns-clause-place c =
    let e = estimated c.args.value c.args.len _ c.reciprocal.result (top-of c.args.len c.requires.long (omega arith)) c.requires.below (c.reciprocal.ensures ∙ ap reciprocal c.requires.top) in
    let unit : ℕ = c.args.len / 32768 in
    let place : ℕ = c.args.value * c.reciprocal.result / 2 ^ (32 - count_leading_zeros 32 c.args.len) in
    let less : place / 2 ^ c.args.bits * 2 ^ c.args.bits * unit ≤ place * unit = mul-le (place / 2 ^ c.args.bits * 2 ^ c.args.bits) unit place unit (div-mul-le_self place (2 ^ c.args.bits)) (omega arith) in
    rw (coarse-of (c.args.value * c.reciprocal.result) (32 - count_leading_zeros 32 c.args.len) c.args.bits) (omega (arith, e.place, less))

pub returns-clause-within : goal.returns-clause-within
returns-clause-within c =
    let e = estimated c.args.value c.args.len _ c.reciprocal.result (top-of c.args.len c.requires.long (omega arith)) c.requires.below (c.reciprocal.ensures ∙ ap reciprocal c.requires.top) in
    let place : ℕ = c.args.value * c.reciprocal.result / 2 ^ (32 - count_leading_zeros 32 c.args.len) in
    rw (coarse-of (c.args.value * c.reciprocal.result) (32 - count_leading_zeros 32 c.args.len) c.args.bits) (omega (arith, e.within, div-mul-le_self place (2 ^ c.args.bits)))
