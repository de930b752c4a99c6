-- The parts of a split are merged to the whole again.
use Rattle.std.proofs.Common.{◌≡◌, inr, ℕ, ◌+◌, ◌*◌, ◌^◌, ◌<◌, ◌≤◌, true, List, [], ◌∷◌, length, map, Option, Some, None, refl, sym, ◌∙◌, ap, subst, arith}
use Rattle.std.specs.FinMap as finmap
use Rattle.std.specs.List.{concat}
use Rattle.std.proofs.lemmas.List.{get_or-map, length-map}
use Rattle.std.proofs.Math.Nat.{mul-le-mul_left}
use Rattle.las_filter.specs.declared.rule.Rule.TheVariants.{Every}
use Rattle.las_filter.specs.Parts.{part_name}
use Rattle.las_header.specs.Fields.{record_length_of}
use Rattle.las_header.specs.Plain.{plain_head}
use Rattle.las_header.proofs.Public.{length_whole}
use Rattle.las_outside.specs.Files.{FileMap}
use Rattle.laz_forms.specs.Outputs as points
use Rattle.las_merge.specs.Copying.{output_with}
use Rattle.las_merge.specs.Inputs.{item_at}
use Rattle.las_merge.specs.Parts as merging
use Rattle.las_merge.proofs.Public.{parts_merge}
use Rattle.las_split.specs.Outputs.{part_output_under, part_files}
use Rattle.las_split.specs.Parts.{firsts, numbers_from, part}
use Rattle.las_split.specs.Sorting as sorting
use Rattle.las_split.proofs.Public.{head_some, distinct, firsts_once, AreDistinct}
use Rattle.laz_file.specs.Endings.{at_end, output_file, with_all, Product}
use Rattle.las_run.specs.Endings.{Done, Ending, files_of}
use Rattle.las_run.specs.EndingLaws.{AreWhole, MergesWhole, PartsOfSplitMerge, split_ending, whole_output}
use Rattle.las_run.specs.Tools.{MergesIn, merges}
use Rattle.las_run.proofs.Parting.{bytes_joined, join, parts_are, parts_below, stands}

module _ (known : FileMap) (stem end output file : List ℕ) (n : ℕ) (size : Option ℕ) (records : List (List ℕ)) (some : 0 < n) (one : 1 ≤ length records) (whole : AreWhole (plain_head file) records) where
  abbrev head : List ℕ
  head = plain_head file

  -- a merge of these names over these files makes the whole
  abbrev MergesWholeAt : List (List ℕ) → FileMap → Type 0
  MergesWholeAt ns files =
      (merge : Ending) × MergesIn size ns output files merge × (merge.cause ≡ Done)
      × (files_of merge files ≡ finmap.insert files output (whole_output output head size records))

  abbrev numbers : List ℕ
  numbers = firsts (numbers_from (Every n) 0 records)

  abbrev bytes_of : ℕ → List ℕ
  bytes_of k = concat (part (Every n) records k)

  abbrev parts : List ℕ → List (List ℕ)
  parts ns = map bytes_of ns

  -- a part's name, and its file
  abbrev placed : ℕ → List ℕ × List ℕ
  placed k = (part_name stem end k, merging.part_file head (bytes_of k))

  abbrev pairs : List ℕ → List (List ℕ × List ℕ)
  pairs ns = map placed ns

  texts_are : (ns : List ℕ) → map (λ p. p.1) (pairs ns) ≡ map (merging.part_file head) (parts ns)
  texts_are [] = refl
  texts_are (k ∷ ns) = ap (λ (t : List (List ℕ)). merging.part_file head (bytes_of k) ∷ t) (texts_are ns)

  names_are : (ns : List ℕ) → map (λ p. p.0) (pairs ns) ≡ map (λ k. part_name stem end k) ns
  names_are [] = refl
  names_are (k ∷ ns) = ap (λ (t : List (List ℕ)). part_name stem end k ∷ t) (names_are ns)

  -- what the split leaves, and under which names
  left_are : (ns : List ℕ) → map (at_end true) (map (λ k. output_file (part_output_under stem end head k) (bytes_of k)) ns) ≡ pairs ns
  left_are [] = refl
  left_are (k ∷ ns) = ap (λ (t : List (List ℕ × List ℕ)). placed k ∷ t) (left_are ns)

  made_are : (ns : List ℕ) → map (λ o. o.name) (map (λ k. output_file (part_output_under stem end head k) (bytes_of k)) ns) ≡ map (λ p. p.0) (pairs ns)
  made_are [] = refl
  made_are (k ∷ ns) = ap (λ (t : List (List ℕ)). part_name stem end k ∷ t) (made_are ns)

  abbrev task : sorting.SplitTask
  task = record { stem = stem; end = end; head = head; rule = Every n }

  apart : AreDistinct (pairs numbers)
  apart = distinct task numbers (pairs numbers) (parts_below (2 ^ 32) n records (omega (arith, whole.few))) (firsts_once (numbers_from (Every n) 0 records)) (names_are numbers)

  -- the files at the end of the split, and the names of the parts
  abbrev after : FileMap
  after = with_all known (pairs numbers)

  abbrev names : List (List ℕ)
  names = map (λ p. p.0) (pairs numbers)

  stand : merging.StandUnder after names head (parts numbers)
  stand k within =
      stands known (pairs numbers) apart k (omega (arith, within, length-map numbers bytes_of, length-map numbers placed))
      ∙ ap (λ (t : List ℕ). Some t) (ap (λ (ts : List (List ℕ)). item_at ts k) (texts_are numbers) ∙ get_or-map (merging.part_file head) (parts numbers) k [] [] within)

  all_bytes : concat (parts numbers) ≡ concat records
  all_bytes = bytes_joined (part (Every n) records) numbers ∙ ap (λ (rs : List (List ℕ)). concat rs) (join n 0 records some)

  few : length (concat (parts numbers)) < record_length_of head * 2 ^ 32
  few =
      let count = length records in
      let size_is : length (concat records) ≡ record_length_of head * count = length_whole (record_length_of head) records whole.each in
      let same : length (concat (parts numbers)) ≡ length (concat records) = ap (λ (t : List ℕ). length t) all_bytes in
      let most : record_length_of head * (count + 1) ≤ record_length_of head * 2 ^ 32 = mul-le-mul_left (record_length_of head) (let e : count + 1 ≤ 2 ^ 32 = omega (arith, whole.few) in e) in
      let next : record_length_of head * (count + 1) ≡ record_length_of head * count + record_length_of head = omega arith in
      omega (arith, size_is, same, most, next, head_some head whole.head_is)

  are_parts : merging.AreParts head (parts numbers)
  are_parts = record {
    head_is = whole.head_is;
    plain = whole.plain;
    none = whole.none;
    near = whole.near;
    head_bytes = whole.head_bytes;
    each = parts_are (Every n) head records numbers whole.each whole.bytes;
    few = few;
  }

  some_numbers : (rs : List (List ℕ)) → 1 ≤ length rs → 1 ≤ length (firsts (numbers_from (Every n) 0 rs))
  some_numbers [] more = absurd (omega (arith, more))
  some_numbers (r ∷ rs) more = omega arith

  merged : merging.PartsMerge → MergesWholeAt names after
  merged law =
      let merge_is = law after names head (parts numbers) are_parts
      (omega (arith, some_numbers records one, length-map numbers bytes_of))
      (length-map numbers bytes_of ∙ sym (length-map numbers placed) ∙ sym (length-map (pairs numbers) (λ p. p.0)))
      stand in
      let files = merging.part_packed_files head (parts numbers) in (
        merges names output size files (concat (parts numbers)) None,
        inr (files, concat (parts numbers), None, merge_is.0, merge_is.1, refl),
        refl,
        ap (λ (t : List ℕ). finmap.insert after output t) (merge_is.2 output size ∙ ap (λ (t : List ℕ). points.finished (output_with output head size) t) all_bytes),
      )

  pub merges_whole : MergesWhole known output file size records (split_ending stem end (Every n) file records)
  merges_whole =
      subst (λ (ns : List (List ℕ)). MergesWholeAt ns (files_of (split_ending stem end (Every n) file records) known)) (sym (made_are numbers))
      (subst (λ (m : FileMap). MergesWholeAt names m) (sym (ap (with_all known) (left_are numbers))) (merged parts_merge))

pub parts_of_split_merge : PartsOfSplitMerge
parts_of_split_merge known input stem end output file n size records some one whole splits =
    let product : Product = record { files = part_files stem end (Every n) file records; refusal = None } in
    ((product, (records, None, splits, refl), refl), merges_whole known stem end output file n size records some one whole)
