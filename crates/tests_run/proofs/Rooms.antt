-- What holds of one thing holds of its list.
use Rattle.std.proofs.Common.{◌≡◌, List, [], ◌∷◌, sym, subst}
use Rattle.std.specs.Prelude.{All}
use Rattle.std.proofs.lemmas.List.Elements.{All-cons, All-nil}

pub all_of_one : {X : Type 0} (P : X → Type 0) (xs : List X) (a : X) → xs ≡ a ∷ [] → P a → All P xs
all_of_one P xs a are pa = subst (All P) (sym are) (All-cons P a [] pa (All-nil P))
