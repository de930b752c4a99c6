-- What an output holds after the calls that write it.
use Rattle.std.proofs.Common.{◌≡◌, inl, inr, ℕ, List, [], cond, Option, Some, None, IsSomeAnd, unwrap_or, refl, sym, ◌∙◌, ap, subst}
use Rattle.std.specs.FinMap as map
use Rattle.las_outside.specs.Files.{FileMap, WhereKnown, bytes_of, with_file}
use Rattle.las_outside.specs.Outside.{Outside, with_bytes, with_write_fault}
use Rattle.las_outside.proofs.ByName.{get-insert_same, same_named, get-with_value, same_or_not, same}

-- what is put under a name twice
insert-insert : (files : FileMap) (name xs ys : List ℕ) → map.insert (map.insert files name xs) name ys ≡ map.insert files name ys
insert-insert files name xs ys = same_named _ _ (λ q.
    get-with_value (map.insert files name xs) name (Some ys) q
    ∙ elim (same_or_not q name) as (λ _. cond (same q name) (Some ys) (map.get (map.insert files name xs) q) ≡ cond (same q name) (Some ys) (map.get files q)) [
      | inl at_name ↦ rw at_name.0 refl
      | inr other ↦ rw other.0 (get-with_value files name (Some xs) q ∙ rw other.0 refl)
    ]
    ∙ sym (get-with_value files name (Some ys) q))

pub with_file-twice : (held : Option FileMap) (name xs ys : List ℕ) → with_file (with_file held name xs) name ys ≡ with_file held name ys
with_file-twice None name xs ys = refl
with_file-twice (Some files) name xs ys = ap (λ (m : FileMap). Some m) (insert-insert files name xs ys)

pub is_known : (held : Option FileMap) (name bytes : List ℕ) (P : List ℕ → Type 0) → P bytes → WhereKnown (with_file held name bytes) name P
is_known None name bytes P holds = tt
is_known (Some files) name bytes P holds = subst (λ (o : Option (List ℕ)). IsSomeAnd o P) (sym (get-insert_same files name bytes)) holds

-- a change of what was just put under the name
pub with_file_changed : (held : Option FileMap) (name bytes : List ℕ) (change : List ℕ → List ℕ) → with_file (with_file held name bytes) name (change (bytes_of (with_file held name bytes) name)) ≡ with_file held name (change bytes)
with_file_changed None name bytes change = refl
with_file_changed (Some files) name bytes change =
    ap (λ (o : Option (List ℕ)). Some (map.insert (map.insert files name bytes) name (change (unwrap_or o [])))) (get-insert_same files name bytes) ∙ ap (λ (m : FileMap). Some m) (insert-insert files name bytes (change bytes))

-- a change of what stands under the name, one after another
pub after : (held : Option FileMap) (name bytes : List ℕ) (change : List ℕ → List ℕ) (so_far now : Option FileMap) → so_far ≡ with_file held name bytes → now ≡ with_file so_far name (change (bytes_of so_far name)) → now ≡ with_file held name (change bytes)
after held name bytes change so_far now was is =
    is ∙ ap (λ (h : Option FileMap). with_file h name (change (bytes_of h name))) was ∙ with_file_changed held name bytes change

-- what is known of the bytes that stand under the name
pub known_after : (held : Option FileMap) (name bytes : List ℕ) (P : List ℕ → Type 0) (so_far : Option FileMap) → so_far ≡ with_file held name bytes → P bytes → WhereKnown so_far name P
known_after held name bytes P so_far was holds = subst (λ (h : Option FileMap). WhereKnown h name P) (sym was) (is_known held name bytes P holds)

-- What is seen of files after calls that write one output.
module _ (old : Outside) (name : List ℕ) where
  -- a change of what was put under the name
  pub changed_after : (bytes : List ℕ) (change : List ℕ → List ℕ) (so_far now : Outside) → so_far ≡ with_bytes old name bytes → now ≡ with_bytes so_far name (change (bytes_of so_far.held name)) → now ≡ with_bytes old name (change bytes)
  changed_after bytes change so_far now was is =
      is ∙ ap (λ (o : Outside). with_bytes o name (change (bytes_of o.held name))) was
      ∙ ap (λ (h : Option FileMap). let o : Outside = record old { held = h } in o) (with_file_changed old.held name bytes change)

  -- the same of a change that failed
  pub failed_after : (bytes : List ℕ) (change : List ℕ → List ℕ) (so_far now : Outside) → so_far ≡ with_bytes old name bytes → now ≡ with_write_fault (with_bytes so_far name (change (bytes_of so_far.held name))) → now ≡ with_write_fault (with_bytes old name (change bytes))
  failed_after bytes change so_far now was is = is ∙ ap with_write_fault (changed_after bytes change so_far (with_bytes so_far name (change (bytes_of so_far.held name))) was refl)

  -- what is known of the bytes that stand under the name
  pub known_of : (bytes : List ℕ) (P : List ℕ → Type 0) (so_far : Outside) → so_far ≡ with_bytes old name bytes → P bytes → WhereKnown so_far.held name P
  known_of bytes P so_far was holds = known_after old.held name bytes P so_far.held (ap (λ (o : Outside). o.held) was) holds
