-- What keeps packed inputs from being copied is one cause, and else they are copied as one list of files and chunks.
use Rattle.std.proofs.Common.{◌≡◌, inl, inr, ℕ, ◌<◌, Bool, true, false, List, [], ◌∷◌, length, map, Some, None, refl, sym, ◌∙◌, ap, subst, arith}
use Rattle.std.proofs.lemmas.Option.{none-some}
use Rattle.std.proofs.lemmas.Bool.{true≢false}
use Rattle.las_header.specs.declared.refusal.Refusal.{Refusal}
use Rattle.las_header.specs.Fields.{head_of, is_packed}
use Rattle.las_outside.specs.Files.{FileMap}
use Rattle.laz_forms.specs.declared.fault.Fault.{Fault}
use Rattle.laz_forms.specs.declared.fault.Fault.TheVariants as fault
use Rattle.laz_forms.specs.Pieces.{Piece}
use Rattle.laz_forms.specs.Refusing.{IsAcceptedFile}
use Rattle.laz_forms.proofs.Public.{one_pieces, refused_once, some_same}
use Rattle.laz_copied.specs.Copied.{AreChunks, Chunk, HaveChunks, all_of, chunk_at, points_of_files}
use Rattle.las_merge.specs.declared.fault.MergeFault.{MergeFault}
use Rattle.las_merge.specs.declared.fault.MergeFault.TheVariants.{At, Unequal, TooManyPoints, TooManyChunks, Write, Memory}
use Rattle.las_merge.specs.CopiedLaws.{AreCopiedOnce, IsKeptFromCopyingByOne, IsKeptOrCopied}
use Rattle.las_merge.specs.Inputs.{item_at}
use Rattle.las_merge.specs.Packed.{AreFirstPacked, CanCopyFrom, IsKeptFromCopying, IsPacked, IsRefusedToCopy}
use Rattle.las_merge.proofs.Kept.{file_same, one_field, past_missing, past_unequal, same_files}
use Rattle.las_merge.proofs.OneCause.{Excludes, Halts, by_one, not_both, number_of}

-- a file that can be among those that are copied is not refused
not_refused_here : (file : List ℕ) (cause : Refusal) → IsRefusedToCopy file cause → IsAcceptedFile file → IsPacked file → ⊥
not_refused_here file cause (inl plain) accepted packed = true≢false (sym packed ∙ plain.2)
not_refused_here file cause (inr refused) accepted packed = none-some cause (refused_once file None (Some cause) accepted refused)

one_refusal : (file : List ℕ) (cause worse : Refusal) → IsRefusedToCopy file cause → IsRefusedToCopy file worse → worse ≡ cause
one_refusal file cause worse (inl k) (inl l) = l.0 ∙ sym k.0
one_refusal file cause worse (inl k) (inr l) = absurd (none-some worse (refused_once file None (Some worse) k.1 l))
one_refusal file cause worse (inr k) (inl l) = absurd (none-some cause (refused_once file None (Some cause) l.1 k))
one_refusal file cause worse (inr k) (inr l) = some_same worse cause (refused_once file (Some worse) (Some cause) l k)

-- chunks of files
one_list : (file : List ℕ) (chunks others : List Chunk) → AreChunks file chunks → AreChunks file others → others ≡ chunks
one_list file chunks others k l = l.2 ∙ ap (λ (ps : List Piece). map (chunk_at file) ps) (one_pieces file l.0 k.0 l.1 k.1) ∙ sym k.2

chunks_once : (files : List (List ℕ)) (parts others : List (List Chunk)) → HaveChunks files parts → HaveChunks files others → others ≡ parts
chunks_once [] [] [] k l = refl
chunks_once [] [] (o ∷ os) k l = absurd l
chunks_once [] (p ∷ ps) others k l = absurd k
chunks_once (f ∷ fs) [] others k l = absurd k
chunks_once (f ∷ fs) (p ∷ ps) [] k l = absurd l
chunks_once (f ∷ fs) (p ∷ ps) (o ∷ os) k l =
    let one = one_list f p o k.0 l.0 in
    let more = chunks_once fs ps os k.1 l.1 in
    λ i. one i ∷ more i

module _ (known : FileMap) (names : List (List ℕ)) where
  all_halt : (files : List (List ℕ)) → AreFirstPacked known names files → length files ≡ length names
      → Halts (AreFirstPacked known names) (length names)
  all_halt files first all = record {
    files = files;
    first = first;
    number_is = all;
    past = λ other s below. absurd (omega (arith, below, s.first.within));
  }

  halts : (cause : MergeFault) → IsKeptFromCopying known names cause
      → Halts (AreFirstPacked known names) (number_of (length names) cause)
  halts (At number (fault.Refused cause)) k = record {
    files = k.0;
    first = k.2.first;
    number_is = k.2.number_is;
    past = λ other s below.
        let same : item_at other number ≡ k.1 = some_same (item_at other number) k.1
        (sym (s.first.held number below) ∙ k.3) in
        not_refused_here k.1 cause k.4 (subst IsAcceptedFile same (s.first.accepted number [] below))
        (subst IsPacked same (s.packed number [] below));
  }
  halts (At number fault.Read) k = record {
    files = k.0;
    first = k.1.first;
    number_is = k.1.number_is;
    past = λ other s below. past_missing known names number other k.2 s.first below;
  }
  halts (At number fault.Write) k = absurd k
  halts (At number fault.Memory) k = absurd k
  halts (Unequal number field) k = record {
    files = k.0;
    first = k.2.first;
    number_is = k.2.number_is;
    past = λ other s below.
        past_unequal known names number field k.0 other k.1 k.2.first.first k.2.number_is k.3 k.4 k.7 s.first below;
  }
  halts TooManyPoints k = all_halt k.0 k.1 k.2
  halts TooManyChunks k = all_halt k.0 k.2 k.3
  halts Write k = absurd k
  halts Memory k = absurd k

  at_within : (number : ℕ) (cause : Fault) → IsKeptFromCopying known names (At number cause) → number < length names
  at_within number (fault.Refused cause) k = k.2.within
  at_within number fault.Read k = k.1.within
  at_within number fault.Write k = absurd k
  at_within number fault.Memory k = absurd k

  -- two lists of all inputs are one
  all_same : (files others : List (List ℕ)) → AreFirstPacked known names files → AreFirstPacked known names others
      → length files ≡ length names → length others ≡ length names → files ≡ others
  all_same files others f s all both =
      same_files known names files others f.first s.first (omega (arith, all, both))

  excludes : Excludes (length names) (AreFirstPacked known names) (IsKeptFromCopying known names)
  excludes = record {
    halts = halts;
    at_within = at_within;
    unequal_within = λ number field k. k.2.within;
    both_refused = λ number cause worse k l.
        one_refusal k.1 cause worse k.4 (subst (λ (file : List ℕ). IsRefusedToCopy file worse)
        (file_same known names number k.1 l.1 k.3 l.3) l.4);
    both_unequal = λ number field worse k l.
        one_field known names number field worse k.0 l.0 k.1 l.1 k.2.first.first l.2.first.first k.2.number_is
        l.2.number_is k.3 k.4 l.4 k.7 l.7;
    refused_missing = λ number cause k l. none-some k.1 (sym l.2 ∙ k.3);
    refused_unequal = λ number cause field k l.
        let same = file_same known names number k.1 l.1 k.3 l.4 in
        not_refused_here k.1 cause k.4 (subst IsAcceptedFile same l.5) (subst IsPacked same l.6);
    missing_unequal = λ number field k l. none-some l.1 (sym k.2 ∙ l.4);
    points_chunks = λ k l.
        absurd (omega (arith, ap points_of_files (all_same k.0 l.0 k.1 l.2 k.2 l.3), k.3, l.4));
    not_writing = λ number k. k;
    not_memory = λ number k. k;
    not_write = λ k. k;
    not_short = λ k. k;
  }

  module _ (files : List (List ℕ)) (parts : List (List Chunk)) (can : CanCopyFrom known names files parts) where
    too_many_points : IsKeptFromCopying known names TooManyPoints → ⊥
    too_many_points k =
        absurd (omega (arith, ap points_of_files (all_same files k.0 can.first k.1 can.all k.2), can.few, k.3))

    too_many_chunks : IsKeptFromCopying known names TooManyChunks → ⊥
    too_many_chunks k =
        let same = all_same files k.0 can.first k.2 can.all k.3 in
        let chunks = chunks_once k.0 k.1 parts k.5
        (subst (λ (fs : List (List ℕ)). HaveChunks fs parts) same can.have) in
        absurd (omega (arith, ap (λ (ps : List (List Chunk)). length (all_of ps)) chunks, can.chunks, k.6))

pub copied_by_one : IsKeptFromCopyingByOne
copied_by_one known names one other k l = by_one _ _ _ (excludes known names) one other k l

pub kept_or_copied : IsKeptOrCopied
kept_or_copied known names files parts cause k can =
    not_both _ _ _ (excludes known names) files can.first can.all (too_many_points known names files parts can)
    (too_many_chunks known names files parts can) cause k

pub copied_once : AreCopiedOnce
copied_once known names one other parts others k l =
    let same = all_same known names other one l.first k.first l.all k.all in
    (same, chunks_once one parts others k.have (subst (λ (fs : List (List ℕ)). HaveChunks fs others) same l.have))
