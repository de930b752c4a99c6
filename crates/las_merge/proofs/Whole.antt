-- Whole files that were merged, or not.
use Rattle.std.proofs.Common.{◌≡◌, ◌≢◌, ◌⊎◌, inl, inr, ℕ, suc, ◌^◌, ◌<◌, ◌≤◌, List, [], ◌∷◌, length, get_or, Option, Some, None, sym, ◌∙◌, ap, subst, arith}
use Rattle.std.specs.Prelude.{All, String, string_bytes}
use Rattle.std.specs.declared.alloc.Global.{Global}
use Rattle.std.proofs.lemmas.List.{get_or-map, take_all}
use Rattle.std.proofs.lemmas.List.Elements.{All-cons}
use Rattle.las_header.specs.declared.refusal.Refusal.{Refusal}
use Rattle.las_header.specs.declared.refusal.Refusal.TheVariants.{BadChunk}
use Rattle.las_outside.specs.Files.{FileMap, WhereKnown, with_file}
use Rattle.las_outside.specs.Outside.{Outside}
use Rattle.laz_forms.specs.declared.fault.Fault.{Fault}
use Rattle.laz_forms.specs.declared.fault.Fault.TheVariants as fault
use Rattle.laz_file.specs.Copying.{LeavesUnfinished}
use Rattle.laz_forms.specs.Outputs.{Output, finished, stopped}
use Rattle.laz_writer.specs.Writing.{Stands, WriterSeen}
use Rattle.laz_writer.proofs.Public.{held_text}
use Rattle.laz_file.proofs.Public.{leaves_part, known_after}
use Rattle.las_merge.specs.declared.fault.MergeFault.{MergeFault}
use Rattle.las_merge.specs.declared.fault.MergeFault.TheVariants.{At, Unequal, TooManyPoints, TooManyChunks, Write, Memory}
use Rattle.las_merge.specs.Copying.{CopiesAll, CopiesInto, CopiesTo, EndsMerging, FailsBeginning, LeavesMid, output_of_merge}
use Rattle.laz_copied.specs.Copied.{first_head}
use Rattle.las_merge.specs.Inputs.{CanMerge, item_at, names_of}
use Rattle.las_merge.specs.Merging.{LeavesMerged, OnlyMerges, merged_output}
use Rattle.las_merge.specs.Opening.{AreOpen, InputSeen, IsItsFile, IsOpen, first_read, input_names, points_read}
use Rattle.las_merge.proofs.Ends.{AreOther, all_before, bad_of, can_by, first_head_by, into_before, leaves_of, merges_of, mid_before, to_before}
use Rattle.las_merge.proofs.Filled.{into_part}
use Rattle.las_merge.proofs.Known.{files_of}

-- the output's name is another than each input's
pub other_names : (inputs : List (String Global)) (name : List ℕ) → All (λ input. string_bytes input ≢ name) inputs → AreOther (names_of inputs) name
other_names [] name other = λ k d lt. absurd (omega (arith, lt))
other_names (x ∷ xs) name other = All-cons (λ (n : List ℕ). n ≢ name) (string_bytes x) (names_of xs) (other 0 x (omega arith)) (other_names xs name (λ k d lt. other (suc k) d (omega (arith, lt))))

module _ (held : Option FileMap) (names : List (List ℕ)) (readers : List InputSeen) (opened : AreOpen held names readers) (all : length readers ≡ length names) where
  pub names_are : input_names readers ≡ names
  names_are = opened.named ∙ take_all (length readers) names (omega (arith, all))

  module _ (name head : List ℕ) (chunk : Option ℕ) (some : 1 ≤ length names) (head_is : head ≡ first_read readers) (other : AreOther names name) where
    reader_other : (k : ℕ) (d : InputSeen) → k < length readers → (get_or readers k d).name ≢ name
    reader_other k d lt e =
        let at : item_at names k ≡ (get_or readers k d).name = ap (λ (ns : List (List ℕ)). item_at ns k) (sym names_are) ∙ get_or-map (λ (r : InputSeen). r.name) readers k d [] lt in
        other k [] (omega (arith, lt, all)) (at ∙ e)

    pub readers_other : (writer : List ℕ) → writer ≡ name → All (λ r. r.name ≢ writer) readers
    readers_other writer same k d lt e = reader_other k d lt (e ∙ same)

    module _ (before now : Outside) (w : WriterSeen) (same : before.held ≡ held) (s : Stands before now w (output_of_merge name head chunk) []) where
      text : List ℕ
      text = (held_text before now w (output_of_merge name head chunk) [] s).0

      written : now.held ≡ with_file held name text
      unfolding text
      written =
          ap (λ (o : Outside). o.held) (held_text before now w (output_of_merge name head chunk) [] s).1
          ∙ ap (λ (h : Option FileMap). with_file h name (held_text before now w (output_of_merge name head chunk) [] s).0) same

      pub readers_open : All (IsOpen now.held) readers
      readers_open k d lt =
          let r = get_or readers k d in
          let o = opened.opened k d lt in
          record {
            one = o.one;
            none = o.none;
            stands = subst (λ (h : Option FileMap). WhereKnown h r.name (IsItsFile r)) (sym written) (known_after held name text r.name (IsItsFile r) (reader_other k d lt) o.stands);
          }

      module _ (known : FileMap) (is : held ≡ Some known) (few : points_read readers < 2 ^ 32) where
        pub can_merge : CanMerge known names (files_of known names)
        can_merge = subst (λ (ns : List (List ℕ)). CanMerge known names (files_of known ns)) names_are (can_by held known is names readers opened all few)

        output_is : output_of_merge name head chunk ≡ merged_output name (files_of known names) chunk
        output_is =
            ap (λ (h : List ℕ). output_of_merge name h chunk)
            (head_is ∙ first_head_by held known is names readers opened (omega (arith, some, all)) ∙ ap (λ (ns : List (List ℕ)). first_head (files_of known ns)) names_are)

        -- all was merged
        pub merged_all : (records : List ℕ) (new : Option FileMap) → CopiesAll now.held (input_names readers) records → new ≡ with_file before.held name (finished (output_of_merge name head chunk) records)
            → (merged : List (List ℕ)) × (records : List ℕ) × CanMerge known names merged × OnlyMerges merged records None × (new ≡ with_file held name (finished (merged_output name merged chunk) records))
        merged_all records new copied now_is =
            let here = subst (λ (ns : List (List ℕ)). CopiesAll now.held ns records) names_are copied in
            let there = all_before held name text names records other (subst (λ (h : Option FileMap). CopiesAll h names records) written here) in (
              files_of known names,
              records,
              can_merge,
              merges_of known names records (subst (λ (h : Option FileMap). CopiesAll h names records) is there),
              now_is ∙ ap (λ (h : Option FileMap). with_file h name (finished (output_of_merge name head chunk) records)) same ∙ ap (λ (o : Output). with_file held name (finished o records)) output_is,
            )

        -- the records before a bad chunk were merged
        pub merged_bad : (number : ℕ) (cause : Refusal) (records : List ℕ) (new : Option FileMap) → CopiesInto now.held (input_names readers) number records (λ name part. CopiesTo now.held name part (Some cause)) → new ≡ with_file before.held name (stopped (output_of_merge name head chunk) records)
            → (merged : List (List ℕ)) × (records : List ℕ) × (bad : ℕ) × (cause ≡ BadChunk bad) × CanMerge known names merged × OnlyMerges merged records (Some (record { file = number; chunk = bad })) × (new ≡ with_file held name (stopped (merged_output name merged chunk) records))
        merged_bad number cause records new copied now_is =
            let here = subst (λ (ns : List (List ℕ)). CopiesInto now.held ns number records (λ name part. CopiesTo now.held name part (Some cause))) names_are copied in
            let moved = subst (λ (h : Option FileMap). CopiesInto h names number records (λ name part. CopiesTo h name part (Some cause))) written here in
            let there = into_before held name text names number records (λ n part. CopiesTo (with_file held name text) n part (Some cause)) (λ n part. CopiesTo held n part (Some cause)) other (λ n part ne k. to_before held name text n part (Some cause) ne k) moved in
            let b = bad_of known names number records cause (subst (λ (h : Option FileMap). CopiesInto h names number records (λ name part. CopiesTo h name part (Some cause))) is there) in (
              files_of known names,
              records,
              b.0,
              b.1,
              can_merge,
              b.2,
              now_is ∙ ap (λ (h : Option FileMap). with_file h name (stopped (output_of_merge name head chunk) records)) same ∙ ap (λ (o : Output). with_file held name (stopped o records)) output_is,
            )

        -- something was left
        pub merged_left : (new : Option FileMap) → LeavesMid now.held before.held new (input_names readers) (output_of_merge name head chunk)
            → (new ≡ held) ⊎ ((merged : List (List ℕ)) × CanMerge known names merged × LeavesMerged (merged_output name merged chunk) merged held new)
        merged_left new left =
            let out = output_of_merge name head chunk in
            let here = subst (λ (ns : List (List ℕ)). LeavesMid now.held before.held new ns out) names_are left in
            let at_held = subst (λ (h : Option FileMap). LeavesMid now.held h new names out) same here in
            let there = mid_before held name text names out held new other (subst (λ (h : Option FileMap). LeavesMid h held new names out) written at_held) in
            inr (
              files_of known names,
              can_merge,
              subst (λ (o : Output). LeavesMerged o (files_of known names) held new) output_is
                  (leaves_of known names out held new (subst (λ (h : Option FileMap). LeavesMid h held new names out) is there)),
            )

-- ---- faults

pub head_first : (readers : List InputSeen) (reader : InputSeen) → 1 ≤ length readers → reader ≡ get_or readers 0 reader → reader.head.bytes ≡ first_read readers
head_first [] reader some is = absurd (omega (arith, some))
head_first (r ∷ rs) reader some is = ap (λ (x : InputSeen). x.head.bytes) is

pub begin_left : (old new : Outside) (out : Output) (cause : MergeFault) → FailsBeginning old new out cause → (records : List ℕ) → LeavesUnfinished out records old.held new.held
begin_left old new out (At number cause) f = absurd f
begin_left old new out (Unequal number field) f = absurd f
begin_left old new out TooManyPoints f = absurd f
begin_left old new out TooManyChunks f = absurd f
begin_left old new out Write f = f.1
begin_left old new out Memory f = f

pub at_number : (known was : Option FileMap) (old now : Outside) (names : List (List ℕ)) (out : Output) (number : ℕ) (cause : Fault) → EndsMerging known was old now names out (At number cause) → number < length names
at_number known was old now names out number (fault.Refused refusal) (inl e) = e.1.within
at_number known was old now names out number (fault.Refused refusal) (inr e) = e.0
at_number known was old now names out number fault.Read e = e.0
at_number known was old now names out number fault.Write e = absurd e
at_number known was old now names out number fault.Memory e = e.0

pub ends_mid : (before old new : Outside) (names : List (List ℕ)) (w : WriterSeen) (out : Output) → Stands before old w out [] → (cause : MergeFault) → EndsMerging old.held before.held old new names out cause → LeavesMid old.held before.held new.held names out
ends_mid before old new names w out s (At number (fault.Refused refusal)) (inr e) = e.2
ends_mid before old new names w out s (At number (fault.Refused refusal)) (inl e) =
    let text = stopped out e.0 in
    inl (
      number,
      e.0,
      into_part old.held names number e.0 refusal e.1,
      λ more. leaves_part before old w out [] s e.0 more new.held (length text) (e.2 ∙ ap (with_file before.held out.name) (sym (take_all (length text) text (omega arith)))),
    )
ends_mid before old new names w out s (At number fault.Read) e = e.2
ends_mid before old new names w out s (At number fault.Write) e = absurd e
ends_mid before old new names w out s (At number fault.Memory) e = e.1
ends_mid before old new names w out s (Unequal number field) e = e.2
ends_mid before old new names w out s TooManyPoints e = absurd e
ends_mid before old new names w out s TooManyChunks e = absurd e
ends_mid before old new names w out s Write e = e.1
ends_mid before old new names w out s Memory e = e

-- the output could not be begun
pub left_begun : (held : Option FileMap) (names : List (List ℕ)) (readers : List InputSeen) (opened : AreOpen held names readers) (all : length readers ≡ length names) (name head : List ℕ) (chunk : Option ℕ) → 1 ≤ length names → head ≡ first_read readers → (known : FileMap) → held ≡ Some known → points_read readers < 2 ^ 32
    → (before new : Outside) (cause : MergeFault) → before.held ≡ held → FailsBeginning before new (output_of_merge name head chunk) cause → (new.held ≡ held) ⊎ ((merged : List (List ℕ)) × CanMerge known names merged × LeavesMerged (merged_output name merged chunk) merged held new.held)
left_begun held names readers opened all name head chunk some head_is known is few before new cause same fails =
    let files = files_of known (input_names readers) in
    let out_is : output_of_merge name head chunk ≡ merged_output name files chunk = ap (λ (h : List ℕ). output_of_merge name h chunk) (head_is ∙ first_head_by held known is names readers opened (omega (arith, some, all))) in
    inr (
      files,
      can_by held known is names readers opened all few,
      λ records bad m. subst (λ (o : Output). LeavesUnfinished o records held new.held) out_is (subst (λ (h : Option FileMap). LeavesUnfinished (output_of_merge name head chunk) records h new.held) same (begin_left before new (output_of_merge name head chunk) cause fails records)),
    )
