-- Texts that are joined piece by piece.
use Rattle.std.proofs.Common.{◌≡◌, ℕ, ◌+◌, ◌<◌, ◌∙◌, List, [], ◌∷◌, ◌++◌, length, take, map, ap, sym, refl, get_or}
use Rattle.std.proofs.Common.{append-nil}
use Rattle.std.proofs.lemmas.Grind.{flat_map-append}
use Rattle.std.proofs.lemmas.List.{append_assoc, take_more}
use Rattle.std.specs.List.{flat_map}

module _ {X : Type 0} where
  -- the texts of the first values and of one more
  pub joined : (f : X → List ℕ) (xs : List X) (i : ℕ) (d : X) → i < length xs
      → flat_map f (take (i + 1) xs) ≡ flat_map f (take i xs) ++ f (get_or xs i d)
  joined f xs i d lt =
      ap (flat_map f) (take_more xs i d lt) ∙ flat_map-append f (take i xs) (get_or xs i d ∷ [])
      ∙ ap (λ t. flat_map f (take i xs) ++ t) (append-nil (f (get_or xs i d)))

  -- a text with that of one more value at its end
  pub longer : (f : X → List ℕ) (start text next : List ℕ) (xs : List X) (i : ℕ) (d : X) → i < length xs
      → text ≡ start ++ flat_map f (take i xs) → next ≡ text ++ f (get_or xs i d)
      → next ≡ start ++ flat_map f (take (i + 1) xs)
  longer f start text next xs i d lt was is =
      is ∙ ap (λ t. t ++ f (get_or xs i d)) was
      ∙ append_assoc start (flat_map f (take i xs)) (f (get_or xs i d))
      ∙ ap (λ t. start ++ t) (sym (joined f xs i d lt))

  -- the texts of what values are mapped to
  pub through : {Y : Type 0} (f : Y → List ℕ) (g : X → Y) (xs : List X) → flat_map f (map g xs) ≡ flat_map (λ x. f (g x)) xs
  through f g [] = refl
  through f g (x ∷ xs) = ap (λ t. f (g x) ++ t) (through f g xs)

-- a line that is added in three pieces
pub three : (start word values end a b c : List ℕ) → a ≡ start ++ word → b ≡ a ++ values → c ≡ b ++ end
    → c ≡ start ++ (word ++ values ++ end)
three start word values end a b c first second third =
    third ∙ ap (λ t. t ++ end) (second ∙ ap (λ t. t ++ values) first ∙ append_assoc start word values)
    ∙ append_assoc start (word ++ values) end

-- two texts that are added one after the other
pub two : (start one other a b : List ℕ) → a ≡ start ++ one → b ≡ a ++ other → b ≡ start ++ (one ++ other)
two start one other a b first second = second ∙ ap (λ t. t ++ other) first ∙ append_assoc start one other

-- five texts
pub five : (start v w x y z a b c d e : List ℕ) → a ≡ start ++ v → b ≡ a ++ w → c ≡ b ++ x → d ≡ c ++ y → e ≡ d ++ z
    → e ≡ start ++ (v ++ w ++ x ++ y ++ z)
five start v w x y z a b c d e first second third fourth fifth =
    two start (v ++ w ++ x ++ y) z d e
    (two start (v ++ w ++ x) y c d (two start (v ++ w) x b c (two start v w a b first second) third) fourth) fifth
