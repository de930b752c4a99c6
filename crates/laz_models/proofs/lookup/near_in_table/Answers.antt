use Rattle.std.proofs.Common.{◌≡◌, ℕ, ◌+◌, ◌-◌, ◌*◌, ◌^◌, ◌∙◌, length, take, drop, get_or, ap, sym, subst, arith}
use Rattle.std.proofs.lemmas.List.{get_or-drop}
use Rattle.std.proofs.lemmas.Slice.{between_to_end}
use Rattle.laz_models.specs.Lookup.{IsLastAt}
use Rattle.laz_models.specs.Place.{starts_in}
use Rattle.laz_models.proofs.Models.{entry_at, length-starts_in, near-is}
use Rattle.laz_models.proofs.lookup.near_in_table.Goals as goal

pub near_of-requires : goal.near_of-requires
near_of-requires c =
    let dist = c.args.dist.now in
    let n = c.args.size in
    let e = entry_at n c.args.shift dist c.args.entry c.requires.dist c.requires.table c.requires.entry in
    let rest : take (length dist - (n + 2)) (drop (n + 2) dist) ≡ drop (n + 2) dist = between_to_end dist (n + 2) (length dist) (omega arith) in
    let read : get_or (take (length dist - (n + 2)) (drop (n + 2) dist)) c.args.entry 0 ≡ get_or dist (n + 2 + c.args.entry) 0 = ap (λ xs. get_or xs c.args.entry 0) rest ∙ get_or-drop (n + 2) dist c.args.entry 0 in
    omega (arith, read, e.last.symbol, length-starts_in n dist c.requires.dist.length, c.requires.dist.length)

pub returns : goal.returns
returns c =
    let dist = c.args.dist.now in
    let n = c.args.size in
    let e = entry_at n c.args.shift dist c.args.entry c.requires.dist c.requires.table c.requires.entry in
    let rest : take (length dist - (n + 2)) (drop (n + 2) dist) ≡ drop (n + 2) dist = between_to_end dist (n + 2) (length dist) (omega arith) in
    let read : get_or (take (length dist - (n + 2)) (drop (n + 2) dist)) c.args.entry 0 ≡ get_or dist (n + 2 + c.args.entry) 0 = ap (λ xs. get_or xs c.args.entry 0) rest ∙ get_or-drop (n + 2) dist c.args.entry 0 in
    let last = subst (λ (s : ℕ). IsLastAt (starts_in n dist) (c.args.entry * 2 ^ c.args.shift) s) (sym read) e.last in
    near-is n _ _ dist c.near_of.result c.requires.dist last c.near_of.ensures.symbol c.near_of.ensures.start c.near_of.ensures.next c.near_of.ensures.after
