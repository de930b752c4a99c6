-- Two lists that are related place by place, while one of them is changed from its front on.
use Rattle.std.proofs.Common.{◌≡◌, ℕ, zero, suc, ◌+◌, ◌<◌, ◌∙◌, List, [], ◌∷◌, ◌++◌, length, take, drop, ap, sym, subst, arith}
use Rattle.std.proofs.Common.{get_or, map, set}
use Rattle.std.proofs.lemmas.List.{drop-drop, drop-set-lt, get_or-drop, take_more, take_more_set, map-append}
use Rattle.std.proofs.lemmas.List.Elements.{All-get_or}
use Rattle.std.specs.List.{All, AllZip}

module _ {X : Type 0} where
  -- what stands at a place from which on two lists are the same
  pub first_left : (xs ys : List X) (i : ℕ) (d : X) → drop i xs ≡ drop i ys → get_or xs i d ≡ get_or ys i d
  first_left xs ys i d e =
      let zero_more : i + 0 ≡ i = omega arith in
      ap (λ k. get_or xs k d) (sym zero_more) ∙ sym (get_or-drop i xs 0 d) ∙ ap (λ t. get_or t 0 d) e
      ∙ get_or-drop i ys 0 d ∙ ap (λ k. get_or ys k d) zero_more

  pub holds_left : (P : X → Type 0) (start now : List X) (i : ℕ) (d : X) → i < length start → drop i now ≡ drop i start
      → All P start → P (get_or now i d)
  holds_left P start now i d lt left all =
      subst P (sym (first_left now start i d left)) (All-get_or P start i d lt all)

  later : (start now : List X) (i : ℕ) → drop i now ≡ drop i start → drop (i + 1) now ≡ drop (i + 1) start
  later start now i e = sym (drop-drop 1 i now) ∙ ap (λ xs. drop 1 xs) e ∙ drop-drop 1 i start

-- one place more is changed, as far as a function sees it
module _ {X Y : Type 0} (f : X → Y) (change : Y → Y) where
  pub one_mapped : (start now : List X) (i : ℕ) (d y : X) → i < length now → length now ≡ length start
      → drop i now ≡ drop i start → map f (take i now) ≡ map (λ x. change (f x)) (take i start)
      → f y ≡ change (f (get_or now i d))
      → (drop (i + 1) (set now i y) ≡ drop (i + 1) start)
      × (map f (take (i + 1) (set now i y)) ≡ map (λ x. change (f x)) (take (i + 1) start))
  one_mapped start now i d y lt same left so_far is =
      let below : i < i + 1 = omega arith in
      let within : i < length start = omega (arith, same) in (
        drop-set-lt (i + 1) now i y below ∙ later start now i left,
        ap (map f) (take_more_set now i y lt)
            ∙ map-append f (take i now) (y ∷ [])
            ∙ ap (λ (ys : List Y). ys ++ f y ∷ []) so_far
            ∙ ap (λ (z : Y). map (λ x. change (f x)) (take i start) ++ z ∷ []) (is ∙ ap (λ (x : X). change (f x)) (first_left now start i d left))
            ∙ sym (map-append (λ x. change (f x)) (take i start) (get_or start i d ∷ []))
            ∙ ap (map (λ x. change (f x))) (sym (take_more start i d within)),
      )

-- related place by place, as far as a function sees them: the first ones, one that is changed, and the others to
-- themselves
module _ {X Y : Type 0} (f : X → Y) (R : Y → Y → Type 0) (itself : (y : Y) → R y y) where
  all_same : (xs : List X) → AllZip R (map f xs) (map f xs)
  all_same [] = tt
  all_same (x ∷ xs) = (itself (f x), all_same xs)

  pub related : (start now : List X) (i : ℕ) (d y : X) → i < length now → drop i now ≡ drop i start → AllZip R (map f (take i start)) (map f (take i now))
      → R (f (get_or now i d)) (f y) → AllZip R (map f start) (map f (set now i y))
  related start [] i d y lt left first r = absurd (omega (arith, lt))
  related start (x ∷ now) zero d y lt left first r =
      subst (λ (xs : List X). AllZip R (map f xs) (f y ∷ map f now)) left (r, all_same now)
  related [] (x ∷ now) (suc i) d y lt left first r = absurd first
  related (s ∷ start) (x ∷ now) (suc i) d y lt left first r =
      (first.0, related start now i d y (omega (arith, lt)) left first.1 r)

  -- the first ones, each changed alike
  pub changed_alike : (change : Y → Y) → ((y : Y) → R y (change y)) → (xs : List X) (zs : List Y) → zs ≡ map (λ x. change (f x)) xs → AllZip R (map f xs) zs
  changed_alike change all xs zs is = subst (AllZip R (map f xs)) (sym is) (by xs)
    where
      by : (xs : List X) → AllZip R (map f xs) (map (λ x. change (f x)) xs)
      by [] = tt
      by (x ∷ xs) = (all (f x), by xs)

module _ {X Y : Type 0} (R : X → Y → Type 0) where
  pushed : (xs : List X) (ys : List Y) (x : X) (y : Y) → AllZip R xs ys → R x y → AllZip R (xs ++ x ∷ []) (ys ++ y ∷ [])
  pushed [] [] x y zip r = (r, tt)
  pushed [] (b ∷ ys) x y zip r = absurd zip
  pushed (a ∷ xs) [] x y zip r = absurd zip
  pushed (a ∷ xs) (b ∷ ys) x y zip r = (zip.0, pushed xs ys x y zip.1 r)

  -- the first elements of a list are related to others, and one more to one more
  pub one_longer : (xs : List X) (ys : List Y) (i : ℕ) (d : X) (y : Y) → i < length xs → AllZip R (take i xs) ys
      → R (get_or xs i d) y → AllZip R (take (i + 1) xs) (ys ++ y ∷ [])
  one_longer xs ys i d y lt zip r =
      subst (λ first. AllZip R first (ys ++ y ∷ [])) (sym (take_more xs i d lt)) (pushed (take i xs) ys (get_or xs i d) y zip r)
