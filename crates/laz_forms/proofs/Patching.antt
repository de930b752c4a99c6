-- Patches of an output, one after another.
use Rattle.std.proofs.Common.{◌≡◌, inl, inr, ℕ, zero, suc, ◌+◌, ◌<◌, ◌≤◌, List, [], ◌∷◌, ◌++◌, length, take, drop, get_or, refl, sym, ◌∙◌, ap, arith, length-append}
use Rattle.std.specs.Prelude.{All}
use Rattle.std.proofs.lemmas.List.{append-nil, length-take, length-drop, take-append-drop, take_more}
use Rattle.las_outside.specs.Drafts.{Patch, IsPatchedInPart, with_patches}
use Rattle.las_outside.specs.Files.{with_patch}

-- the patch lies within a text
abbrev pub LiesIn : (text : List ℕ) → Patch → Type 0
LiesIn text patch = patch.0 + length patch.1 ≤ length text

pub length-with_patch : (text bytes : List ℕ) (at : ℕ) → at + length bytes ≤ length text → length (with_patch text at bytes) ≡ length text
length-with_patch text bytes at h =
    omega (arith, length-append (take at text ++ bytes) (drop (at + length bytes) text), length-append (take at text) bytes, length-take at text, length-drop (at + length bytes) text)

-- patches keep the length of a text
pub length-with_patches : (text : List ℕ) (ps : List Patch) → All (LiesIn text) ps → length (with_patches text ps) ≡ length text
length-with_patches text [] all = refl
length-with_patches text (p ∷ ps) all =
    let one = length-with_patch text p.1 p.0 (all 0 p (omega arith)) in
    length-with_patches (with_patch text p.0 p.1) ps (λ k d lt. let h = all (suc k) d (omega (arith, lt)) in omega (arith, h, one)) ∙ one

pub with_patches-more : (text : List ℕ) (ps : List Patch) (i : ℕ) (d : Patch) → i < length ps → with_patches text (take (i + 1) ps) ≡ with_patch (with_patches text (take i ps)) (get_or ps i d).0 (get_or ps i d).1
with_patches-more text ps i d within = ap (with_patches text) (take_more ps i d within) ∙ both text (take i ps)
  where
    both : (t : List ℕ) (qs : List Patch) → with_patches t (qs ++ get_or ps i d ∷ []) ≡ with_patch (with_patches t qs) (get_or ps i d).0 (get_or ps i d).1
    both t [] = refl
    both t (q ∷ qs) = both (with_patch t q.0 q.1) qs

-- the text after some patches and a part of the next
pub patched_part : (text : List ℕ) (ps : List Patch) (i n : ℕ) (d : Patch) → i < length ps → IsPatchedInPart text ps (with_patch (with_patches text (take i ps)) (get_or ps i d).0 (take n (get_or ps i d).1))
patched_part text [] i n d within = absurd (omega arith)
patched_part text (p ∷ ps) zero n d within = inl (n, refl)
patched_part text (p ∷ ps) (suc i) n d within = inr (patched_part (with_patch text p.0 p.1) ps i n d (omega (arith, within)))

-- no bytes replace none
patched_none : (text : List ℕ) (at : ℕ) → with_patch text at [] ≡ text
patched_none text at =
    let same : at + 0 ≡ at = omega arith in
    ap (λ (t : List ℕ). t ++ drop (at + 0) text) (append-nil (take at text)) ∙ ap (λ (n : ℕ). take at text ++ drop n text) same ∙ take-append-drop at text

-- a text before any patch
pub unpatched : (text : List ℕ) (ps : List Patch) → IsPatchedInPart text ps text
unpatched text [] = refl
unpatched text (p ∷ ps) = inl (0, sym (patched_none text p.0))

-- a text after all patches
pub all_patched : (text : List ℕ) (ps : List Patch) → IsPatchedInPart text ps (with_patches text ps)
all_patched text [] = refl
all_patched text (p ∷ ps) = inr (all_patched (with_patch text p.0 p.1) ps)
