-- Several names with bytes in files, and a change of one of them.
use Rattle.std.proofs.Common.{◌≡◌, ◌≢◌, inl, inr, ℕ, Bool, true, false, cond, List, [], ◌∷◌, ◌++◌, Option, Some, None, refl, sym, ◌∙◌, ap}
use Rattle.std.specs.FinMap as maps
use Rattle.las_outside.specs.Files.{FileMap, with_file}
use Rattle.las_outside.proofs.Public.{get-with_value, same, same_named, same_or_not, same_other, with_file-twice}
use Rattle.las_split.specs.Files.{with_files}

-- no pair has this name
abbrev pub IsAbsent : List ℕ → List (List ℕ × List ℕ) → Type 0
IsAbsent name [] = Unit {0}
IsAbsent name (p ∷ ps) = (p.0 ≢ name) × IsAbsent name ps

-- no two pairs have one name
abbrev pub AreDistinct : List (List ℕ × List ℕ) → Type 0
AreDistinct [] = Unit {0}
AreDistinct (p ∷ ps) = IsAbsent p.0 ps × AreDistinct ps

either : (a b : Bool) (x y o : Option (List ℕ)) → ((a ≡ true) → b ≡ false) → cond a x (cond b y o) ≡ cond b y (cond a x o)
either true true x y o apart = let f : true ≡ false = apart refl in absurd (cc)
either true false x y o apart = refl
either false true x y o apart = refl
either false false x y o apart = refl

insert_swap : (files : FileMap) (a b xs ys : List ℕ) → a ≢ b → maps.insert (maps.insert files b ys) a xs ≡ maps.insert (maps.insert files a xs) b ys
insert_swap files a b xs ys apart = same_named _ _ (λ q.
    get-with_value (maps.insert files b ys) a (Some xs) q
    ∙ ap (λ (o : Option (List ℕ)). cond (same q a) (Some xs) o) (get-with_value files b (Some ys) q)
    ∙ either (same q a) (same q b) (Some xs) (Some ys) (maps.get files q) (λ at_a. elim (same_or_not q a) [
      | inl is ↦ same_other q b (λ qb. apart (sym is.1 ∙ qb))
      | inr isnt ↦ let f : true ≡ false = sym at_a ∙ isnt.0 in absurd (cc)
    ])
    ∙ ap (λ (o : Option (List ℕ)). cond (same q b) (Some ys) o) (sym (get-with_value files a (Some xs) q))
    ∙ sym (get-with_value (maps.insert files a xs) b (Some ys) q))

with_file-swap : (held : Option FileMap) (a b xs ys : List ℕ) → a ≢ b → with_file (with_file held b ys) a xs ≡ with_file (with_file held a xs) b ys
with_file-swap None a b xs ys apart = refl
with_file-swap (Some files) a b xs ys apart = ap (λ (m : FileMap). Some m) (insert_swap files a b xs ys apart)

-- a name that none of the pairs has
put_before_others : (held : Option FileMap) (name text : List ℕ) (ps : List (List ℕ × List ℕ)) → IsAbsent name ps → with_files (with_file held name text) ps ≡ with_file (with_files held ps) name text
put_before_others held name text [] absent = refl
put_before_others held name text (p ∷ ps) absent =
    ap (λ (h : Option FileMap). with_files h ps) (with_file-swap held p.0 name p.1 text absent.0) ∙ put_before_others (with_file held p.0 p.1) name text ps absent.1

pub with_files-append : (held : Option FileMap) (ps qs : List (List ℕ × List ℕ)) → with_files held (ps ++ qs) ≡ with_files (with_files held ps) qs
with_files-append held [] qs = refl
with_files-append held (p ∷ ps) qs = with_files-append (with_file held p.0 p.1) ps qs

-- other bytes under one of the names
pub one_changes : (held : Option FileMap) (ps qs : List (List ℕ × List ℕ)) (name old new : List ℕ) → AreDistinct (ps ++ (name, old) ∷ qs) → with_file (with_files held (ps ++ (name, old) ∷ qs)) name new ≡ with_files held (ps ++ (name, new) ∷ qs)
one_changes held [] qs name old new distinct =
    ap (λ (h : Option FileMap). with_file h name new) (put_before_others held name old qs distinct.0)
    ∙ with_file-twice (with_files held qs) name old new
    ∙ sym (put_before_others held name new qs distinct.0)
one_changes held (p ∷ ps) qs name old new distinct = one_changes (with_file held p.0 p.1) ps qs name old new distinct.1

-- the bytes that stand under one of the names
pub one_stands : (held : Option FileMap) (ps qs : List (List ℕ × List ℕ)) (name text : List ℕ) → AreDistinct (ps ++ (name, text) ∷ qs) → with_files held (ps ++ (name, text) ∷ qs) ≡ with_file (with_files held (ps ++ (name, text) ∷ qs)) name text
one_stands held ps qs name text distinct = sym (one_changes held ps qs name text text distinct)
