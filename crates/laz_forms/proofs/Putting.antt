-- Chunks that are put one after another.
use Rattle.std.proofs.Common.{◌≡◌, ℕ, zero, suc, ◌+◌, ◌<◌, ◌≤◌, min, List, [], ◌∷◌, ◌++◌, length, get_or, take, drop, map, Option, Some, None, Result, Ok, Err, IfErr, option_copied, Bor, refl, sym, ◌∙◌, ap, subst, append_assoc, arith}
use Rattle.std.specs.List.{concat}
use Rattle.std.proofs.lemmas.List.{append-nil, length-take, take_min, take-append-le, take_more}
use Rattle.std.proofs.lemmas.List.Elements.{All-contains}
use Rattle.std.specs.Prelude.{All, IsErrAnd, ◌^◌}
use Rattle.laz_workers.specs.declared.held.Held.{Held}
use Rattle.laz_workers.specs.declared.held.Held.TheVariants.{Empty, Full, Refused}
use Rattle.laz_workers.specs.Rooms.{RoomSeen, StandsIn, answer_in, lengths_of}
use Rattle.las_outside.proofs.Public.{prefix_of}

-- what holds of an error holds of a result that is this error
pub if_err : {T E : Type 0} (P : E → Type 0) (r : Result T E) (e : E) → IsErrAnd r (λ x. x ≡ e) → P e → IfErr r P
if_err P (Ok x) e is p = tt
if_err P (Err x) e is p = subst P (sym is) p

pub All-unmap : {X Y : Type 0} (P : X → Type 0) (f : Y → X) (ys : List Y) → All P (map f ys) → All (λ y. P (f y)) ys
All-unmap P f [] h k d lt = absurd (omega (arith, lt))
All-unmap P f (y ∷ ys) h zero d lt = h 0 (f d) (omega arith)
All-unmap P f (y ∷ ys) h (suc k) d lt = All-unmap P f ys (λ i e below. h (suc i) e (omega (arith, below))) k d (omega (arith, lt))

pub concat-append : (xs ys : List (List ℕ)) → concat (xs ++ ys) ≡ concat xs ++ concat ys
concat-append [] ys = refl
concat-append (x ∷ xs) ys = ap (λ (t : List ℕ). x ++ t) (concat-append xs ys) ∙ sym (append_assoc x (concat xs) (concat ys))

-- The pieces that a function makes of inputs, one after another.
module _ (f : List ℕ → List ℕ) where
  pub joined-append : (xs ys : List (List ℕ)) → concat (map f (xs ++ ys)) ≡ concat (map f xs) ++ concat (map f ys)
  joined-append [] ys = refl
  joined-append (x ∷ xs) ys = ap (λ (t : List ℕ). f x ++ t) (joined-append xs ys) ∙ sym (append_assoc (f x) (concat (map f xs)) (concat (map f ys)))

  pub sizes-append : (xs ys : List (List ℕ)) → map (λ (c : List ℕ). length c) (map f (xs ++ ys)) ≡ map (λ (c : List ℕ). length c) (map f xs) ++ map (λ (c : List ℕ). length c) (map f ys)
  sizes-append [] ys = refl
  sizes-append (x ∷ xs) ys = ap (λ (t : List ℕ). length (f x) ∷ t) (sizes-append xs ys)

  -- one piece more
  pub joined_more : (inputs : List (List ℕ)) (i : ℕ) (d : List ℕ) → i < length inputs → concat (map f (take (i + 1) inputs)) ≡ concat (map f (take i inputs)) ++ f (get_or inputs i d)
  joined_more inputs i d within =
      ap (λ (t : List (List ℕ)). concat (map f t)) (take_more inputs i d within) ∙ joined-append (take i inputs) (get_or inputs i d ∷ []) ∙ ap (λ (t : List ℕ). concat (map f (take i inputs)) ++ t) (append-nil (f (get_or inputs i d)))

  pub sizes_more : (inputs : List (List ℕ)) (i : ℕ) (d : List ℕ) → i < length inputs → map (λ (c : List ℕ). length c) (map f (take (i + 1) inputs)) ≡ map (λ (c : List ℕ). length c) (map f (take i inputs)) ++ length (f (get_or inputs i d)) ∷ []
  sizes_more inputs i d within =
      ap (λ (t : List (List ℕ)). map (λ (c : List ℕ). length c) (map f t)) (take_more inputs i d within) ∙ sizes-append (take i inputs) (get_or inputs i d ∷ [])

  joined_split : (inputs : List (List ℕ)) (i : ℕ) (d : List ℕ) → i < length inputs → concat (map f inputs) ≡ concat (map f (take i inputs)) ++ (f (get_or inputs i d) ++ concat (map f (drop (suc i) inputs)))
  joined_split [] i d within = absurd (omega arith)
  joined_split (x ∷ xs) zero d within = refl
  joined_split (x ∷ xs) (suc i) d within =
      ap (λ (t : List ℕ). f x ++ t) (joined_split xs i d (omega (arith, within))) ∙ sym (append_assoc (f x) (concat (map f (take i xs))) (f (get_or xs i d) ++ concat (map f (drop (suc i) xs))))

-- pieces that end within one of them are a prefix of all
pub in_part : (f : List ℕ → List ℕ) (inputs : List (List ℕ)) (i n : ℕ) (d : List ℕ) → i < length inputs → (m : ℕ) × (concat (map f (take i inputs)) ++ take n (f (get_or inputs i d)) ≡ take m (concat (map f inputs)))
in_part f inputs i n d within =
    let done = concat (map f (take i inputs)) in
    let piece = f (get_or inputs i d) in
    let rest = concat (map f (drop (suc i) inputs)) in
    (length done + min n (length piece), prefix_of done piece rest n ∙ ap (take (length done + min n (length piece))) (sym (joined_split f inputs i d within)))

-- an answer that a crew lends
pub lent_is : (o : Option (Bor (List ℕ))) (a : Option (List ℕ)) (x : Bor (List ℕ)) (chunk : List ℕ) → option_copied o ≡ a → a ≡ Some chunk → o ≡ Some x → x.now ≡ chunk
lent_is o a x chunk copied answer is =
    let same : Some x.now ≡ Some chunk = sym (ap option_copied is) ∙ copied ∙ answer in cc

pub is_lent : (o : Option (Bor (List ℕ))) (a : Option (List ℕ)) (chunk : List ℕ) → option_copied o ≡ a → a ≡ Some chunk → o ≡ None → ⊥
is_lent o a chunk copied answer is =
    let same : None ≡ Some chunk = sym (ap option_copied is) ∙ copied ∙ answer in cc

-- an answer in a room that is small is small
pub lent_small : (rooms : List RoomSeen) (number : ℕ) (room : RoomSeen) (o : Option (Bor (List ℕ))) (x : Bor (List ℕ)) → StandsIn rooms number room → All (λ (n : ℕ). n < 2 ^ 32) (lengths_of rooms) → option_copied o ≡ answer_in room.bytes room.held → o ≡ Some x → length x.now < 2 ^ 32
lent_small rooms number room o x stands small copied is =
    let fits = All-contains (λ (r : RoomSeen). length r.bytes < 2 ^ 32) rooms room (All-unmap (λ (n : ℕ). n < 2 ^ 32) (λ (r : RoomSeen). length r.bytes) rooms small) stands.0 in
    in_room room.bytes room.held x.now fits (sym copied ∙ ap option_copied is)
  where
    in_room : (bytes : List ℕ) (held : Held) (xs : List ℕ) → length bytes < 2 ^ 32 → answer_in bytes held ≡ Some xs → length xs < 2 ^ 32
    in_room bytes Empty xs fits same = absurd (let clash : None ≡ Some xs = same in cc)
    in_room bytes (Full number n) xs fits same =
        let is_front : take n bytes ≡ xs = cc in
        omega (arith, fits, ap (λ (t : List ℕ). length t) is_front, length-take n bytes)
    in_room bytes (Refused number) xs fits same = absurd (let clash : None ≡ Some xs = same in cc)

-- a prefix of a list is one of a longer list
pub prefix_append : (xs more : List ℕ) (n : ℕ) → (m : ℕ) × (take n xs ≡ take m (xs ++ more))
prefix_append xs more n =
    let m = min n (length xs) in
    let short : m ≤ length xs = omega arith in
    (m, sym (take_min n xs) ∙ sym (take-append-le m xs more short))
