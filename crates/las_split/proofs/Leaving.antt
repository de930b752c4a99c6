-- What is left of parts, for all that a file may give.
use Rattle.std.proofs.Common.{◌≡◌, inl, ℕ, map, List, [], ◌∷◌, ◌++◌, length, take, Option, refl, sym, ◌∙◌, ap, subst, append_assoc}
use Rattle.std.specs.List.{concat}
use Rattle.las_outside.specs.Files.{FileMap}
use Rattle.laz_forms.specs.Outputs.{finished, stopped}
use Rattle.las_split.specs.Files.{with_files}
use Rattle.laz_file.specs.Endings.{AreBegun, OutputFile, named, output_file}
use Rattle.las_split.specs.Outputs.{LeavesParts, all_finished, all_stopped, part_output_under, outputs_under}
use Rattle.las_split.specs.Parts.{numbers_of_parts, part}
use Rattle.las_split.specs.Sorting.{ArePrefixes, LeavesPrefixes, SplitTask, bytes_at, output_at}
use Rattle.las_split.proofs.PartLists.{parts_begin}
use Rattle.las_split.proofs.Placing.{prefix_more}

-- an output of a part, and its records
abbrev pub file_at : SplitTask → (records : List (List ℕ)) → ℕ → OutputFile
file_at task records n = output_file (part_output_under task.stem task.end task.head n) (concat (part task.rule records n))

take_map : (f : ℕ → OutputFile) (ns ms : List ℕ) → take (length ns) (map f (ns ++ ms)) ≡ map f ns
take_map f [] ms = refl
take_map f (n ∷ ns) ms = ap (λ (t : List OutputFile). f n ∷ t) (take_map f ns ms)

texts_of : List (List ℕ × List ℕ) → List (List ℕ)
texts_of ps = map (λ p. p.1) ps

-- prefixes of what parts hold are prefixes of their drafts, whatever records come after
begun : (task : SplitTask) (xs more : List (List ℕ)) (ns : List ℕ) (ps : List (List ℕ × List ℕ)) → ArePrefixes task (bytes_at task xs) ns ps
    → AreBegun (map (file_at task (xs ++ more)) ns) (texts_of ps) × (named (map (file_at task (xs ++ more)) ns) (texts_of ps) ≡ ps)
unfolding texts_of
begun task xs more [] [] are = (tt, refl)
begun task xs more [] (p ∷ ps) are = absurd are
begun task xs more (n ∷ ns) [] are = absurd are
begun task xs more (n ∷ ns) (p ∷ ps) are =
    let rest = begun task xs more ns ps are.1 in
    let m = prefix_more task xs more n are.0.1.0 in
    let pair : List ℕ × List ℕ = ((output_at task n).name, p.1) in (
      ((m.0, are.0.1.1 ∙ m.1), rest.0),
      ap (λ (t : List (List ℕ × List ℕ)). pair ∷ t) rest.1 ∙ ap (λ (name : List ℕ). let q : List ℕ × List ℕ = (name, p.1) in q ∷ ps) (sym are.0.0),
    )

pub leaves_parts : (task : SplitTask) (was now : Option FileMap) (xs more : List (List ℕ)) → LeavesPrefixes task was now xs → LeavesParts (outputs_under task.stem task.end task.head task.rule (xs ++ more)) was now
leaves_parts task was now xs more l =
    let b = parts_begin task.rule xs more in
    let all : numbers_of_parts task.rule (xs ++ more) ≡ l.numbers ++ (l.others ++ b.0) = b.1 ∙ ap (λ (t : List ℕ). t ++ b.0) l.split ∙ append_assoc l.numbers l.others b.0 in
    let f = file_at task (xs ++ more) in
    let first : take (length l.numbers) (map f (numbers_of_parts task.rule (xs ++ more))) ≡ map f l.numbers = ap (λ (t : List ℕ). take (length l.numbers) (map f t)) all ∙ take_map f l.numbers (l.others ++ b.0) in
    let u = begun task xs more l.numbers l.texts l.are in (
      length l.numbers,
      texts_of l.texts,
      inl (subst (λ (ps : List OutputFile). AreBegun ps (texts_of l.texts)) (sym first) u.0),
      l.held ∙ ap (with_files was) (sym u.1) ∙ ap (λ (ps : List OutputFile). with_files was (named ps (texts_of l.texts))) (sym first),
    )

-- what parts hold when they are finished, and when they are stopped
pub finished_texts : (task : SplitTask) (records : List (List ℕ)) (ns : List ℕ) → all_finished (map (file_at task records) ns) ≡ map (λ n. ((output_at task n).name, finished (output_at task n) (bytes_at task records n))) ns
finished_texts task records [] = refl
finished_texts task records (n ∷ ns) = ap (λ (t : List (List ℕ × List ℕ)). let q : List ℕ × List ℕ = ((output_at task n).name, finished (output_at task n) (bytes_at task records n)) in q ∷ t) (finished_texts task records ns)

pub stopped_texts : (task : SplitTask) (records : List (List ℕ)) (ns : List ℕ) → all_stopped (map (file_at task records) ns) ≡ map (λ n. ((output_at task n).name, stopped (output_at task n) (bytes_at task records n))) ns
stopped_texts task records [] = refl
stopped_texts task records (n ∷ ns) = ap (λ (t : List (List ℕ × List ℕ)). let q : List ℕ × List ℕ = ((output_at task n).name, stopped (output_at task n) (bytes_at task records n)) in q ∷ t) (stopped_texts task records ns)
