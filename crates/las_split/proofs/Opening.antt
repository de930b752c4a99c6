-- A part that is opened, and numbers that are looked for.
use Rattle.std.proofs.Common.{◌≡◌, ◌≢◌, ◌⊎◌, inl, inr, ℕ, ◌+◌, ◌<◌, ◌||◌, ◌==◌, Bool, true, false, List, [], ◌∷◌, ◌++◌, length, take, get_or, None, refl, sym, ◌∙◌, ap, subst, arith}
use borrow.Author.Tests.{eqb-true}
use Rattle.std.proofs.lemmas.List.{append-nil, take_all, take_more}
use Rattle.las_outside.specs.Files.{with_file}
use Rattle.las_outside.specs.Outside.{Outside, with_bytes}
use Rattle.laz_forms.specs.declared.fault.Fault.{Fault}
use Rattle.laz_forms.specs.Outputs.{Output, front}
use Rattle.laz_writer.specs.Writing.{Stands, Stops, WriterSeen}
use Rattle.laz_file.proofs.Public.{held_after}
use Rattle.las_filter.specs.declared.rule.Rule.TheVariants.{Class}
use Rattle.las_filter.specs.Parts.{part_name}
use Rattle.las_split.specs.Outputs.{part_output_under}
use Rattle.las_split.specs.Sorting.{SplitTask, is_among, output_at}
use Rattle.las_split.proofs.Standing.{text_is}
use Rattle.las_split.proofs.PartLists.{has-append}

-- an output that could not be created
pub left_created : (old new : Outside) (out : Output) (fault : Fault) → Stops fault old new ⊎ ((n : ℕ) × Stops fault (with_bytes old out.name (take n (front out))) new) → (new.held ≡ old.held) ⊎ ((n : ℕ) × (new.held ≡ with_file old.held out.name (take n (front out))))
left_created old new out fault (inl stops) = inl (held_after fault old new stops)
left_created old new out fault (inr s) = inr (s.0, held_after fault (with_bytes old out.name (take s.0 (front out))) new s.1)

-- and one that was created
pub left_whole : (old new : Outside) (stem end head : List ℕ) (number : ℕ) (w : WriterSeen) (name : List ℕ) → name ≡ part_name stem end number → (let out : Output = record { name = name; head = head; chunk = None; counted = true } in Stands old new w out [])
    → (n : ℕ) × (new.held ≡ with_file old.held (part_name stem end number) (take n (front (part_output_under stem end head number))))
left_whole old new stem end head number w name same s =
    let task : SplitTask = record { stem = stem; end = end; head = head; rule = Class } in
    let here : Stands old new w (output_at task number) [] = subst (λ (t : List ℕ). let out : Output = record { name = t; head = head; chunk = None; counted = true } in Stands old new w out []) same s in
    let text = front (output_at task number) in
    let whole : text ++ [] ≡ take (length text) text = append-nil text ∙ sym (take_all (length text) text (omega arith)) in
    (length text, ap (λ (o : Outside). o.held) (text_is task number old new w [] here) ∙ ap (with_file old.held (part_name stem end number)) whole)

pub not_there : (k n : ℕ) → n ≢ k → (n == k) ≡ false
not_there k n ne = by (n == k) refl
  where
    by : (b : Bool) → (n == k) ≡ b → (n == k) ≡ false
    by true e = absurd (ne (eqb-true n k e))
    by false e = e

-- one number more that is another
pub has_more : (k : ℕ) (ns : List ℕ) (i : ℕ) → i < length ns → get_or ns i 0 ≢ k → is_among k (take i ns) ≡ false → is_among k (take (i + 1) ns) ≡ false
has_more k ns i within ne none =
    ap (is_among k) (take_more ns i 0 within) ∙ has-append k (take i ns) (get_or ns i 0 ∷ [])
    ∙ ap (λ (b : Bool). b || ((get_or ns i 0 == k) || false)) none ∙ ap (λ (b : Bool). b || false) (not_there k (get_or ns i 0) ne)
