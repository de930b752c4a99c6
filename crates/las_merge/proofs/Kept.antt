-- What keeps inputs from being merged is one cause.
use Rattle.std.proofs.Common.{◌≡◌, ℕ, ◌<◌, ◌≤◌, List, [], length, Some, None, sym, ◌∙◌, ap, subst, arith}
use Rattle.std.specs.FinMap as finmap
use Rattle.std.proofs.lemmas.List.{ext_get_or}
use Rattle.std.proofs.lemmas.Option.{none-some}
use Rattle.las_header.specs.declared.refusal.Refusal.{Refusal}
use Rattle.las_header.specs.Fields.{head_of}
use Rattle.las_outside.specs.Files.{FileMap}
use Rattle.laz_forms.specs.declared.fault.Fault.{Fault}
use Rattle.laz_forms.specs.declared.fault.Fault.TheVariants as fault
use Rattle.laz_forms.specs.Refusing.{IsRefusal}
use Rattle.laz_forms.proofs.Public.{refused_once, some_same}
use Rattle.las_merge.specs.declared.field.Field.{Field}
use Rattle.las_merge.specs.declared.fault.MergeFault.{MergeFault}
use Rattle.las_merge.specs.declared.fault.MergeFault.TheVariants.{At, Unequal, TooManyPoints, TooManyChunks, Write, Memory}
use Rattle.las_merge.specs.Fields.{first_difference}
use Rattle.laz_copied.specs.Copied.{first_head, points_of_files}
use Rattle.las_merge.specs.Inputs.{AreFirstInputs, CanMerge, IsKeptBy, item_at}
use Rattle.las_merge.specs.Laws.{AreMergedOnce, IsKeptByOne, IsKeptOrMerged}
use Rattle.las_merge.proofs.OneCause.{Excludes, Halts, by_one, not_both, number_of}

module _ (known : FileMap) (names : List (List ℕ)) where
  -- two lists of first inputs are the same as far as both reach
  same_at : (one other : List (List ℕ)) → AreFirstInputs known names one → AreFirstInputs known names other → (k : ℕ) → k < length one → k < length other → item_at one k ≡ item_at other k
  same_at one other f s k l m = some_same (item_at one k) (item_at other k) (sym (f.held k l) ∙ s.held k m)

  pub same_files : (one other : List (List ℕ)) → AreFirstInputs known names one → AreFirstInputs known names other → length one ≡ length other → one ≡ other
  same_files one other f s same = ext_get_or [] one other same (λ k l. same_at one other f s k l (omega (arith, same, l)))

  pub same_head : (one other : List (List ℕ)) → AreFirstInputs known names one → AreFirstInputs known names other → 0 < length one → 0 < length other → first_head one ≡ first_head other
  same_head one other f s l m = ap head_of (same_at one other f s 0 l m)

  pub file_same : (number : ℕ) (file text : List ℕ) → finmap.get known (item_at names number) ≡ Some file
      → finmap.get known (item_at names number) ≡ Some text → text ≡ file
  file_same number file text f s = some_same text file (sym s ∙ f)

  -- ---- no list of first inputs reaches past one that is missing, or differs from the first

  pub past_missing : (number : ℕ) (other : List (List ℕ)) → finmap.get known (item_at names number) ≡ None
      → AreFirstInputs known names other → number < length other → ⊥
  past_missing number other none s below = none-some (item_at other number) (sym none ∙ s.held number below)

  pub past_unequal : (number : ℕ) (field : Field) (files other : List (List ℕ)) (file : List ℕ)
      → AreFirstInputs known names files → length files ≡ number → 1 ≤ number
      → finmap.get known (item_at names number) ≡ Some file
      → first_difference (first_head files) (head_of file) ≡ Some field
      → AreFirstInputs known names other → number < length other → ⊥
  past_unequal number field files other file f long some at differs s below =
      let same : item_at other number ≡ file = some_same (item_at other number) file (sym (s.held number below) ∙ at) in
      let head : first_head files ≡ first_head other =
      same_head files other f s (omega (arith, some, long)) (omega (arith, below)) in
      none-some field (sym (s.alike number [] below)
      ∙ ap (λ (file : List ℕ). first_difference (first_head other) (head_of file)) same
      ∙ ap (λ (h : List ℕ). first_difference h (head_of file)) (sym head) ∙ differs)

  -- one input differs in one field
  pub one_field : (number : ℕ) (field worse : Field) (files others : List (List ℕ)) (file other : List ℕ)
      → AreFirstInputs known names files → AreFirstInputs known names others → length files ≡ number → length others ≡ number
      → 1 ≤ number → finmap.get known (item_at names number) ≡ Some file
      → finmap.get known (item_at names number) ≡ Some other
      → first_difference (first_head files) (head_of file) ≡ Some field
      → first_difference (first_head others) (head_of other) ≡ Some worse → worse ≡ field
  one_field number field worse files others file other f s long longs some at ats differs differ =
      let head = same_head files others f s (omega (arith, some, long)) (omega (arith, some, longs)) in
      some_same worse field (
      sym differ ∙ ap (λ (h : List ℕ). first_difference h (head_of other)) (sym head)
      ∙ ap (λ (file : List ℕ). first_difference (first_head files) (head_of file))
      (file_same number file other at ats) ∙ differs
      )

  -- ---- what keeps inputs from being merged

  pub not_refused : (file : List ℕ) (cause : Refusal) → IsRefusal file (Some cause) → IsRefusal file None → ⊥
  not_refused file cause is none = none-some cause (refused_once file None (Some cause) none is)

  halts : (cause : MergeFault) → IsKeptBy known names cause
      → Halts (AreFirstInputs known names) (number_of (length names) cause)
  halts (At number (fault.Refused cause)) k = record {
    files = k.0;
    first = k.2.first;
    number_is = k.2.number_is;
    past = λ other s below.
        let same : item_at other number ≡ k.1 = some_same (item_at other number) k.1
        (sym (s.held number below) ∙ k.3) in
        not_refused k.1 cause k.4
        (subst (λ (file : List ℕ). IsRefusal file None) same (s.accepted number [] below));
  }
  halts (At number fault.Read) k = record {
    files = k.0;
    first = k.1.first;
    number_is = k.1.number_is;
    past = λ other s below. past_missing number other k.2 s below;
  }
  halts (At number fault.Write) k = absurd k
  halts (At number fault.Memory) k = absurd k
  halts (Unequal number field) k = record {
    files = k.0;
    first = k.2.first;
    number_is = k.2.number_is;
    past = λ other s below.
        past_unequal number field k.0 other k.1 k.2.first k.2.number_is k.3 k.4 k.6 s below;
  }
  halts TooManyPoints k = record {
    files = k.0;
    first = k.1;
    number_is = k.2;
    past = λ other s below. absurd (omega (arith, below, s.within));
  }
  halts TooManyChunks k = absurd k
  halts Write k = absurd k
  halts Memory k = absurd k

  at_within : (number : ℕ) (cause : Fault) → IsKeptBy known names (At number cause) → number < length names
  at_within number (fault.Refused cause) k = k.2.within
  at_within number fault.Read k = k.1.within
  at_within number fault.Write k = absurd k
  at_within number fault.Memory k = absurd k

  excludes : Excludes (length names) (AreFirstInputs known names) (IsKeptBy known names)
  excludes = record {
    halts = halts;
    at_within = at_within;
    unequal_within = λ number field k. k.2.within;
    both_refused = λ number cause worse k l.
        let here = subst (λ (file : List ℕ). IsRefusal file (Some worse)) (file_same number k.1 l.1 k.3 l.3) l.4 in
        some_same worse cause (refused_once k.1 (Some worse) (Some cause) here k.4);
    both_unequal = λ number field worse k l.
        one_field number field worse k.0 l.0 k.1 l.1 k.2.first l.2.first k.2.number_is l.2.number_is k.3 k.4 l.4 k.6
        l.6;
    refused_missing = λ number cause k l. none-some k.1 (sym l.2 ∙ k.3);
    refused_unequal = λ number cause field k l.
        not_refused k.1 cause k.4
        (subst (λ (file : List ℕ). IsRefusal file None) (file_same number k.1 l.1 k.3 l.4) l.5);
    missing_unequal = λ number field k l. none-some l.1 (sym k.2 ∙ l.4);
    points_chunks = λ k l. l;
    not_writing = λ number k. k;
    not_memory = λ number k. k;
    not_write = λ k. k;
    not_short = λ k. k;
  }

  too_many : (files : List (List ℕ)) → CanMerge known names files → IsKeptBy known names TooManyPoints → ⊥
  too_many files can k =
      let same = same_files files k.0 can.first k.1 (omega (arith, k.2, can.all)) in
      absurd (omega (arith, ap points_of_files same, can.few, k.3))

pub kept_by_one : IsKeptByOne
kept_by_one known names one other k l = by_one _ _ _ (excludes known names) one other k l

pub kept_or_merged : IsKeptOrMerged
kept_or_merged known names files cause k can =
    not_both _ _ _ (excludes known names) files can.first can.all (too_many known names files can) (λ many. many) cause k

pub merged_once : AreMergedOnce
merged_once known names one other f s = same_files known names other one s.first f.first (omega (arith, f.all, s.all))
