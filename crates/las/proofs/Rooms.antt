-- What holds of each of four things holds of their list.
use Rattle.std.proofs.Common.{◌≡◌, List, [], ◌∷◌, sym, subst}
use Rattle.std.specs.Prelude.{All}
use Rattle.std.proofs.lemmas.List.Elements.{All-cons, All-nil}

pub all_of_four : {X : Type 0} (P : X → Type 0) (xs : List X) (a b c d : X) → xs ≡ a ∷ b ∷ c ∷ d ∷ [] → P a → P b → P c → P d → All P xs
all_of_four P xs a b c d are pa pb pc pd =
    subst (All P) (sym are) (All-cons P a (b ∷ c ∷ d ∷ []) pa (All-cons P b (c ∷ d ∷ []) pb (All-cons P c (d ∷ []) pc (All-cons P d [] pd (All-nil P)))))
