-- The outputs of parts in files, and a change of one of them after another.
use Rattle.std.proofs.Common.{◌≡◌, ℕ, suc, ◌+◌, ◌<◌, ◌^◌, ◌==◌, not, ◌||◌, Bool, true, false, cond, filter, map, List, [], ◌∷◌, ◌++◌, length, take, drop, get_or, Option, refl, sym, ◌∙◌, ap, subst, append_assoc, eq-eqb, arith}
use Rattle.std.specs.Prelude.{All}
use Rattle.std.proofs.lemmas.List.{take-append-drop, take_more}
use Rattle.std.proofs.Math.Seq.{drop-cons}
use Rattle.las_outside.specs.Files.{FileMap, with_file}
use Rattle.las_split.specs.Files.{with_files}
use Rattle.las_split.specs.Parts.{firsts}
use Rattle.las_split.specs.Sorting.{SplitTask, is_among, output_at}
use Rattle.las_split.proofs.PartNaming.{one_number}
use Rattle.las_split.proofs.PuttingFiles.{AreDistinct, IsAbsent, one_changes, one_stands}

-- no number is there twice
abbrev pub AreOnce : List ℕ → Type 0
AreOnce [] = Unit {0}
AreOnce (n ∷ ns) = (is_among n ns ≡ false) × AreOnce ns

absent_without : (m n : ℕ) (ns : List ℕ) → is_among m ns ≡ false → is_among m (filter (λ k. not (k == n)) ns) ≡ false
absent_without m n [] e = refl
absent_without m n (k ∷ ns) e = by (k == n) (k == m) refl (is_among m ns) e (absent_without m n ns)
  where
    by : (b c : Bool) → (k == m) ≡ c → (d : Bool) → (c || d) ≡ false → (d ≡ false → is_among m (filter (λ j. not (j == n)) ns) ≡ false) → is_among m (cond (not b) (k ∷ filter (λ j. not (j == n)) ns) (filter (λ j. not (j == n)) ns)) ≡ false
    by b true is d e rest = absurd (cc)
    by true false is d e rest = rest e
    by false false is d e rest = ap (λ (c : Bool). c || is_among m (filter (λ j. not (j == n)) ns)) is ∙ rest e

pub firsts_once : (ns : List ℕ) → AreOnce (firsts ns)
firsts_once [] = tt
firsts_once (n ∷ ns) = (gone n (firsts ns), kept n (firsts ns) (firsts_once ns))
  where
    gone : (n : ℕ) (ms : List ℕ) → is_among n (filter (λ k. not (k == n)) ms) ≡ false
    gone n [] = refl
    gone n (m ∷ ms) = by (m == n) refl (gone n ms)
      where
        by : (b : Bool) → (m == n) ≡ b → is_among n (filter (λ k. not (k == n)) ms) ≡ false → is_among n (cond (not b) (m ∷ filter (λ k. not (k == n)) ms) (filter (λ k. not (k == n)) ms)) ≡ false
        by true e rest = rest
        by false e rest = ap (λ (c : Bool). c || is_among n (filter (λ k. not (k == n)) ms)) e ∙ rest

    kept : (n : ℕ) (ms : List ℕ) → AreOnce ms → AreOnce (filter (λ k. not (k == n)) ms)
    kept n [] once = tt
    kept n (m ∷ ms) once = by (m == n) (kept n ms once.1)
      where
        by : (b : Bool) → AreOnce (filter (λ k. not (k == n)) ms) → AreOnce (cond (not b) (m ∷ filter (λ k. not (k == n)) ms) (filter (λ k. not (k == n)) ms))
        by true rest = rest
        by false rest = (absent_without m n ms once.0, rest)

-- the names of parts with texts
abbrev pub texts : SplitTask → (text : ℕ → List ℕ) → List ℕ → List (List ℕ × List ℕ)
texts task text numbers = map (λ n. ((output_at task n).name, text n)) numbers

-- no two parts have one name
module _ (task : SplitTask) where
  not_named : (n : ℕ) (ns : List ℕ) (ps : List (List ℕ × List ℕ)) → n < 2 ^ 32 → All (λ k. k < 2 ^ 32) ns → is_among n ns ≡ false → map (λ p. p.0) ps ≡ map (λ k. (output_at task k).name) ns → IsAbsent (output_at task n).name ps
  not_named n [] [] small few none names = tt
  not_named n [] (p ∷ ps) small few none names = absurd (cc)
  not_named n (k ∷ ns) [] small few none names = absurd (cc)
  not_named n (k ∷ ns) (p ∷ ps) small few none names =
      let first : p.0 ≡ (output_at task k).name = cc in
      let others : map (λ q. q.0) ps ≡ map (λ j. (output_at task j).name) ns = cc in
      let low : k < 2 ^ 32 = few 0 0 (omega arith) in
      let apart = or_none (k == n) (is_among n ns) none in (
        λ e. (let same : k ≡ n = one_number task.stem task.end k n (omega (arith, low)) (omega (arith, small)) (sym first ∙ e) in let t : true ≡ false = sym (eq-eqb k n same) ∙ apart.0 in cc),
        not_named n ns ps small (λ j d lt. few (suc j) d (omega (arith, lt))) apart.1 others,
      )
    where
      or_none : (a b : Bool) → (a || b) ≡ false → (a ≡ false) × (b ≡ false)
      or_none true b e = absurd (cc)
      or_none false b e = (refl, e)

  pub distinct : (ns : List ℕ) (ps : List (List ℕ × List ℕ)) → All (λ k. k < 2 ^ 32) ns → AreOnce ns → map (λ p. p.0) ps ≡ map (λ k. (output_at task k).name) ns → AreDistinct ps
  distinct [] [] few once names = tt
  distinct [] (p ∷ ps) few once names = absurd (cc)
  distinct (n ∷ ns) [] few once names = absurd (cc)
  distinct (n ∷ ns) (p ∷ ps) few once names =
      let first : p.0 ≡ (output_at task n).name = cc in
      let others : map (λ q. q.0) ps ≡ map (λ j. (output_at task j).name) ns = cc in
      let rest : All (λ k. k < 2 ^ 32) ns = λ j d lt. few (suc j) d (omega (arith, lt)) in
      let low : n < 2 ^ 32 = few 0 0 (omega arith) in
      (subst (λ (name : List ℕ). IsAbsent name ps) (sym first) (not_named n ns ps low rest once.0 others), distinct ns ps rest once.1 others)

  names_of : (text : ℕ → List ℕ) (ns : List ℕ) → map (λ p. p.0) (texts task text ns) ≡ map (λ k. (output_at task k).name) ns
  names_of text [] = refl
  names_of text (n ∷ ns) = ap (λ (t : List (List ℕ)). (output_at task n).name ∷ t) (names_of text ns)

  names_parts : (f : List ℕ × List ℕ → List ℕ) (ps qs : List (List ℕ × List ℕ)) → map f (ps ++ qs) ≡ map f ps ++ map f qs
  names_parts f [] qs = refl
  names_parts f (p ∷ ps) qs = ap (λ (t : List (List ℕ)). f p ∷ t) (names_parts f ps qs)

  names_both : (f : ℕ → List ℕ) (ns ms : List ℕ) → map f (ns ++ ms) ≡ map f ns ++ map f ms
  names_both f [] ms = refl
  names_both f (n ∷ ns) ms = ap (λ (t : List (List ℕ)). f n ∷ t) (names_both f ns ms)

  -- Some parts hold one text each, and those after them another.
  module _ (done left : ℕ → List ℕ) (ns : List ℕ) (few : All (λ k. k < 2 ^ 32) ns) (once : AreOnce ns) (i : ℕ) (within : i < length ns) where
    name : List ℕ
    name = (output_at task (get_or ns i 0)).name

    split_left : texts task left (drop i ns) ≡ (name, left (get_or ns i 0)) ∷ texts task left (drop (suc i) ns)
    unfolding name
    split_left = ap (texts task left) (drop-cons ns i 0 within)

    split_done : texts task done (take (i + 1) ns) ≡ texts task done (take i ns) ++ (name, done (get_or ns i 0)) ∷ []
    unfolding name
    split_done = ap (texts task done) (take_more ns i 0 within) ∙ both (take i ns) (get_or ns i 0)
      where
        both : (ms : List ℕ) (n : ℕ) → texts task done (ms ++ n ∷ []) ≡ texts task done ms ++ ((output_at task n).name, done n) ∷ []
        both [] n = refl
        both (m ∷ ms) n = ap (λ (t : List (List ℕ × List ℕ)). ((output_at task m).name, done m) ∷ t) (both ms n)

    apart : (text : List ℕ) → AreDistinct (texts task done (take i ns) ++ (name, text) ∷ texts task left (drop (suc i) ns))
    unfolding name
    apart text = distinct ns (texts task done (take i ns) ++ (name, text) ∷ texts task left (drop (suc i) ns)) few once (
        names_parts (λ p. p.0) (texts task done (take i ns)) ((name, text) ∷ texts task left (drop (suc i) ns))
        ∙ ap (λ (t : List (List ℕ)). t ++ (name ∷ map (λ p. p.0) (texts task left (drop (suc i) ns)))) (names_of done (take i ns))
        ∙ ap (λ (t : List (List ℕ)). map (λ k. (output_at task k).name) (take i ns) ++ (name ∷ t)) (names_of left (drop (suc i) ns))
        ∙ ap (λ (t : List ℕ). map (λ k. (output_at task k).name) (take i ns) ++ map (λ k. (output_at task k).name) t) (sym (drop-cons ns i 0 within))
        ∙ sym (names_both (λ k. (output_at task k).name) (take i ns) (drop i ns))
        ∙ ap (map (λ k. (output_at task k).name)) (take-append-drop i ns)
        )

    module _ (was now : Option FileMap) (held : now ≡ with_files was (texts task done (take i ns) ++ texts task left (drop i ns))) where
      here : now ≡ with_files was (texts task done (take i ns) ++ (name, left (get_or ns i 0)) ∷ texts task left (drop (suc i) ns))
      here = held ∙ ap (λ (t : List (List ℕ × List ℕ)). with_files was (texts task done (take i ns) ++ t)) split_left

      -- the next part holds its text
      pub next_stands : now ≡ with_file now (output_at task (get_or ns i 0)).name (left (get_or ns i 0))
      unfolding name
      next_stands =
          here ∙ one_stands was (texts task done (take i ns)) (texts task left (drop (suc i) ns)) name (left (get_or ns i 0)) (apart (left (get_or ns i 0)))
          ∙ ap (λ (h : Option FileMap). with_file h name (left (get_or ns i 0))) (sym here)

      -- it holds another text
      pub next_part : (new : Option FileMap) (text : List ℕ) → new ≡ with_file now (output_at task (get_or ns i 0)).name text → new ≡ with_files was (texts task done (take i ns) ++ ((output_at task (get_or ns i 0)).name, text) ∷ texts task left (drop (suc i) ns))
      unfolding name
      next_part new text is =
          is ∙ ap (λ (h : Option FileMap). with_file h name text) here
          ∙ one_changes was (texts task done (take i ns)) (texts task left (drop (suc i) ns)) name (left (get_or ns i 0)) text (apart (left (get_or ns i 0)))

      -- it is done
      pub next_done : (new : Option FileMap) → new ≡ with_file now (output_at task (get_or ns i 0)).name (done (get_or ns i 0)) → new ≡ with_files was (texts task done (take (i + 1) ns) ++ texts task left (drop (i + 1) ns))
      unfolding name
      next_done new is =
          let one : i + 1 ≡ suc i = omega arith in
          next_part new (done (get_or ns i 0)) is
          ∙ ap (with_files was) (sym (append_assoc (texts task done (take i ns)) ((name, done (get_or ns i 0)) ∷ []) (texts task left (drop (suc i) ns))))
          ∙ ap (λ (t : List (List ℕ × List ℕ)). with_files was (t ++ texts task left (drop (suc i) ns))) (sym split_done)
          ∙ ap (λ (k : ℕ). with_files was (texts task done (take (i + 1) ns) ++ texts task left (drop k ns))) (sym one)
