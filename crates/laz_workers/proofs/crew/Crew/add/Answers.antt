use Rattle.std.proofs.Common.{◌≡◌, ℕ, ◌++◌, ◌∷◌, [], List, None, length, map, sym, refl, ap, ◌∙◌, arith}
use Rattle.std.proofs.lemmas.List.{map-append, length-map, length_push}
use Rattle.laz_workers.specs.declared.hand.Hand.{Hand}
use Rattle.laz_workers.specs.Rooms.{HandSeen, rooms_of, lengths_of}
use Rattle.laz_workers.specs.Shown.{shown}
use Rattle.laz_workers.proofs.crew.Crew.add.Goals as goal

-- the lengths of the rooms with those of one hand more
lengths_push : {S : Type 0} (hands : List (HandSeen S)) (hand : HandSeen S) (n : ℕ) → length hand.first.bytes ≡ n → length hand.second.bytes ≡ n → lengths_of (rooms_of (hands ++ hand ∷ [])) ≡ lengths_of (rooms_of hands) ++ n ∷ n ∷ []
lengths_push [] hand n first second = λ i. first i ∷ second i ∷ []
lengths_push (x ∷ xs) hand n first second = ap (λ l. length x.first.bytes ∷ length x.second.bytes ∷ l) (lengths_push xs hand n first second)

pub invariant_of-self-2 : goal.invariant_of-self-2
invariant_of-self-2 g c =
    let old = c.self.inside.hands.items in
    let whole : Hand g.row.S.Denot = record { space = c.args.space; first = c.in-Ok.first; second = c.in-Ok.second; pass = None } in
    let before = sym (length-map old shown) ∙ ap length c.self.view_is in
    let reserved = ap length c.reserve.ensures.items ∙ before in
    let pushed = ap length c.push_reserved.ensures.items ∙ length_push c.reserve.new.self.items whole in
    omega (arith, c.requires, reserved, pushed)

pub returns-clause-ok : goal.returns-clause-ok
returns-clause-ok g c =
    let whole : Hand g.row.S.Denot = record { space = c.args.space; first = c.in-Ok.first; second = c.in-Ok.second; pass = None } in
    let add = λ (l : List (HandSeen g.row.S.Denot)). l ++ shown whole ∷ [] in (
      shown whole,
      ap (map shown) c.push_reserved.ensures.items ∙ (map-append shown c.reserve.new.self.items (whole ∷ []) ∙ ap add (ap (map shown) c.reserve.ensures.items ∙ c.self.view_is)),
      (refl, c.in-Ok.ensures.0, c.in-Ok.ensures.1),
    )

pub returns-clause-lengths : goal.returns-clause-lengths
returns-clause-lengths g c =
    let whole : Hand g.row.S.Denot = record { space = c.args.space; first = c.in-Ok.first; second = c.in-Ok.second; pass = None } in
    let add = λ (l : List (HandSeen g.row.S.Denot)). l ++ shown whole ∷ [] in
    let all : map shown c.push_reserved.new.self.items ≡ c.args.self.now ++ shown whole ∷ [] = ap (map shown) c.push_reserved.ensures.items ∙ (map-append shown c.reserve.new.self.items (whole ∷ []) ∙ ap add (ap (map shown) c.reserve.ensures.items ∙ c.self.view_is)) in
    let f : List (HandSeen g.row.S.Denot) → List ℕ = λ l. lengths_of (rooms_of l) in
    ap f all ∙ lengths_push c.args.self.now (shown whole) c.args.room c.in-Ok.ensures.0.0 c.in-Ok.ensures.1.0
