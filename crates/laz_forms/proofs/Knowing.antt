-- What follows of the bytes of a file, if the files are known.
use Rattle.std.proofs.Common.{◌≡◌, ℕ, List, Option, Some, None, IsSomeAnd, Result, Ok, Err, OnOk, IfOk, subst, refl}
use Rattle.std.specs.FinMap as map
use Rattle.las_outside.specs.Files.{FileMap, WhereKnown, IsMissing}
use Rattle.laz_forms.specs.declared.fault.Fault.{Fault}

some_then : (o : Option (List ℕ)) (P Q : List ℕ → Type 0) → ((file : List ℕ) → P file → Q file) → IsSomeAnd o P → IsSomeAnd o Q
some_then None P Q to p = p
some_then (Some file) P Q to p = to file p

pub known_then : (held : Option FileMap) (name : List ℕ) (P Q : List ℕ → Type 0) → ((file : List ℕ) → P file → Q file) → WhereKnown held name P → WhereKnown held name Q
known_then None name P Q to p = tt
known_then (Some files) name P Q to p = some_then (map.get files name) P Q to p

some_both : (o : Option (List ℕ)) (P Q R : List ℕ → Type 0) → ((file : List ℕ) → P file → Q file → R file) → IsSomeAnd o P → IsSomeAnd o Q → IsSomeAnd o R
some_both None P Q R to p q = p
some_both (Some file) P Q R to p q = to file p q

pub known_both : (held : Option FileMap) (name : List ℕ) (P Q R : List ℕ → Type 0) → ((file : List ℕ) → P file → Q file → R file) → WhereKnown held name P → WhereKnown held name Q → WhereKnown held name R
known_both None name P Q R to p q = tt
known_both (Some files) name P Q R to p q = some_both (map.get files name) P Q R to p q

-- what follows of both facts, if a call has answered Ok
pub on_ok_both : {T E P Q R : Type 0} (r : Result T E) → (P → Q → R) → OnOk r P → OnOk r Q → OnOk r R
on_ok_both (Ok x) to p q = to p q
on_ok_both (Err e) to p q = tt

-- the same of files that hold the same
pub known_at : (held before : Option FileMap) (name : List ℕ) (P : List ℕ → Type 0) → held ≡ before → WhereKnown held name P → WhereKnown before name P
known_at held before name P same p = subst (λ (h : Option FileMap). WhereKnown h name P) same p

pub known_three : (held : Option FileMap) (name : List ℕ) (P Q R S : List ℕ → Type 0) → ((file : List ℕ) → P file → Q file → R file → S file) → WhereKnown held name P → WhereKnown held name Q → WhereKnown held name R → WhereKnown held name S
known_three held name P Q R S to p q r = known_both held name (λ file. P file × Q file) R S (λ file pq r. to file pq.0 pq.1 r) (known_both held name P Q (λ file. P file × Q file) (λ file p q. (p, q)) p q) r

pub on_ok : {T E P : Type 0} (r : Result T E) → P → OnOk r P
on_ok (Ok x) p = p
on_ok (Err e) p = tt

pub if_ok : {T E P : Type 0} (r : Result T E) → P → IfOk r (λ _. P)
if_ok (Ok x) p = p
if_ok (Err e) p = tt

-- the same of a name that is written otherwise
pub known_as : (held : Option FileMap) (name other : List ℕ) (P : List ℕ → Type 0) → name ≡ other → WhereKnown held name P → WhereKnown held other P
known_as held name other P same p = subst (λ (n : List ℕ). WhereKnown held n P) same p

-- a file of which something is known is not missing
pub not_missing : (held : Option FileMap) (name : List ℕ) (P : List ℕ → Type 0) → WhereKnown held name P → IsMissing held name → ⊥
not_missing None name P known missing = missing
not_missing (Some files) name P known missing = by (map.get files name) known missing
  where
    by : (o : Option (List ℕ)) → IsSomeAnd o P → o ≡ None → ⊥
    by None p none = p
    by (Some file) p none = absurd (cc)

-- if two things are known that exclude each other, the files are not known
pub not_both : (held : Option FileMap) (name : List ℕ) (P Q : List ℕ → Type 0) → ((file : List ℕ) → P file → Q file → ⊥) → WhereKnown held name P → WhereKnown held name Q → held ≡ None
not_both None name P Q never p q = refl
not_both (Some files) name P Q never p q = absurd (by (map.get files name) p q)
  where
    by : (o : Option (List ℕ)) → IsSomeAnd o P → IsSomeAnd o Q → ⊥
    by None a b = a
    by (Some file) a b = never file a b

pub ok_no_fault : {T X : Type 0} (value : T) (fault : Fault) → ◌≡◌ {A = Result T Fault} (Ok value) (Err fault) → X
ok_no_fault value fault is = absurd (cc)
