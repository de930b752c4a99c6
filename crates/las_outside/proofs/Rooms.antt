-- The room for one name.
use Rattle.std.proofs.Common.{◌≡◌, ℕ, ◌-◌, min, Bool, true, false, if◌then◌else◌, List, [], ◌++◌, length, take, Option, Some, None, IsSome, IsSomeAnd, Result, Ok, Err, OnErr, unwrap_or, refl, sym, ◌∙◌, ap, subst}
use Rattle.std.proofs.lemmas.List.{take_min}

-- as many bytes as fit after the old ones
pub bytes_after_append : (held : Bool) (old new bytes : List ℕ) (seen : Option (List ℕ)) (room : ℕ) → (if held then Some old else None) ≡ seen → IsSome seen → new ≡ old ++ take (min (room - length old) (length bytes)) bytes
    → (if held then Some new else None) ≡ Some (unwrap_or seen [] ++ take (room - length (unwrap_or seen [])) bytes)
bytes_after_append true old new bytes seen room is some made =
    ap (λ (t : List ℕ). Some t) (made ∙ ap (λ (t : List ℕ). old ++ t) (take_min (room - length old) bytes)) ∙ ap (λ (o : Option (List ℕ)). Some (unwrap_or o [] ++ take (room - length (unwrap_or o [])) bytes)) is
bytes_after_append false old new bytes seen room is some made = let none : false ≡ true = subst (λ (o : Option (List ℕ)). IsSome o) (sym is) some in cc

held_itself : (o : Option (List ℕ)) (P : List ℕ → Type 0) → IsSomeAnd o P → IsSome o × P (unwrap_or o [])
held_itself None P h = absurd h
held_itself (Some bytes) P h = (refl, h)

-- what a condition says of a file, said of its room
pub held_with : (o seen : Option (List ℕ)) (P : List ℕ → Type 0) → o ≡ seen → IsSomeAnd o P → IsSome seen × P (unwrap_or seen [])
held_with o seen P is h = subst (λ (s : Option (List ℕ)). IsSome s × P (unwrap_or s [])) is (held_itself o P h)

pub not_missing : (o : Option (List ℕ)) (P : List ℕ → Type 0) → o ≡ None → IsSomeAnd o P → ⊥
not_missing o P is h = subst (λ (s : Option (List ℕ)). IsSomeAnd s P) is h

pub on_err : {T E P : Type 0} (r : Result T E) → P → OnErr r P
on_err (Ok x) p = tt
on_err (Err e) p = p
