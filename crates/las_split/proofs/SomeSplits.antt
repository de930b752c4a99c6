-- Of the records of a file something is split.
use Rattle.std.proofs.Common.{◌≡◌, inl, inr, ℕ, ◌+◌, ◌<◌, ◌≤◌, List, [], ◌∷◌, ◌++◌, length, take, Option, Some, None, refl, sym, ◌∙◌, ap, subst, append_assoc, length-append, arith}
use Rattle.std.proofs.lemmas.Bool.{cases_lt}
use Rattle.std.proofs.lemmas.List.{append-nil, take_all}
use Rattle.las_filter.specs.declared.rule.Rule.{Rule}
use Rattle.las_header.specs.declared.refusal.Refusal.{Refusal}
use Rattle.las_header.specs.declared.refusal.Refusal.TheVariants.{BadChunk, TooManyParts}
use Rattle.laz_forms.specs.Existing.{HasSomeRecords}
use Rattle.laz_forms.specs.Pieces.{Piece}
use Rattle.laz_forms.specs.Records.{AreRead, AreRecordsOf, HoldBlocks}
use Rattle.las_split.specs.Laws.{SplitsToSomething}
use Rattle.las_split.specs.declared.limits.TheConstants.{MAX_PARTS}
use Rattle.las_split.specs.Parts.{number_by, numbers_of_parts}
use Rattle.las_split.specs.Splitting.{HaveParts, OpensTooMany, SplitsTo, records_in_blocks}
use Rattle.las_split.proofs.PartLists.{has_or_not, parts_new, parts_old}

-- a record opens one part at most
one_part_more : (rule : Rule) (xs : List (List ℕ)) (point : List ℕ) → length (numbers_of_parts rule (xs ++ point ∷ [])) ≤ length (numbers_of_parts rule xs) + 1
one_part_more rule xs point = elim (has_or_not (number_by rule (length xs) point) (numbers_of_parts rule xs)) [
  | inl there ↦ omega (arith, ap (λ (t : List ℕ). length t) (parts_old rule xs point there))
  | inr none ↦ omega (arith, ap (λ (t : List ℕ). length t) (parts_new rule xs point none), length-append (numbers_of_parts rule xs) (number_by rule (length xs) point ∷ []))
]

-- among records with more parts than there may be, after some that have no more, one opens the part that is too many
first_too_many : (rule : Rule) (before after : List (List ℕ)) → length (numbers_of_parts rule before) ≤ MAX_PARTS → MAX_PARTS < length (numbers_of_parts rule (before ++ after))
    → (records : List (List ℕ)) × (point : List ℕ) × (rest : List (List ℕ)) × (before ++ after ≡ records ++ point ∷ rest) × OpensTooMany rule records point
first_too_many rule before [] few many = absurd (omega (arith, few, many, ap (λ (t : List (List ℕ)). length (numbers_of_parts rule t)) (append-nil before)))
first_too_many rule before (point ∷ after) few many = elim (cases_lt MAX_PARTS (length (numbers_of_parts rule (before ++ point ∷ [])))) [
  | inl more ↦ (before, point, after, refl, record { full = omega (arith, few, more, one_part_more rule before point); more = omega (arith, few, more, one_part_more rule before point) })
  | inr fewer ↦
      let joined = append_assoc before (point ∷ []) after in
      let h = first_too_many rule (before ++ point ∷ []) after (omega (arith, fewer)) (omega (arith, many, ap (λ (t : List (List ℕ)). length (numbers_of_parts rule t)) joined)) in
      (h.0, h.1, h.2, sym joined ∙ h.3, h.4)
]

-- the blocks that were read are those of the first pieces
first_read : (file : List ℕ) (pieces : List Piece) (blocks : List (List ℕ)) (bad : Option ℕ) → AreRead file pieces blocks bad → (number : ℕ) × HoldBlocks file (take number pieces) blocks
first_read file pieces blocks None read = (length pieces, subst (λ (ps : List Piece). HoldBlocks file ps blocks) (sym (take_all (length pieces) pieces (omega arith))) read)
first_read file pieces blocks (Some i) read = (i, read.0)

-- all parts are there
all_parts : (rule : Rule) (file : List ℕ) (blocks : List (List ℕ)) (bad : Option ℕ) → AreRecordsOf file blocks bad → HaveParts rule file blocks (records_in_blocks file blocks) → (records : List (List ℕ)) × (refusal : Option Refusal) × SplitsTo rule file records refusal
all_parts rule file blocks None are have = (records_in_blocks file blocks, None, (blocks, are, have))
all_parts rule file blocks (Some i) are have = (records_in_blocks file blocks, Some (BadChunk i), (blocks, are, have))

pub splits_some : (rule : Rule) (file : List ℕ) (blocks : List (List ℕ)) (bad : Option ℕ) → AreRecordsOf file blocks bad → (records : List (List ℕ)) × (refusal : Option Refusal) × SplitsTo rule file records refusal
splits_some rule file blocks bad are =
    let records = records_in_blocks file blocks in
    elim (cases_lt MAX_PARTS (length (numbers_of_parts rule records))) [
      | inl many ↦
          let h = first_too_many rule [] records (omega arith) many in
          let read = first_read file are.0 blocks bad are.2 in (
            h.0,
            Some TooManyParts,
            record {
              pieces = are.0;
              are = are.1;
              number = read.0;
              blocks = blocks;
              hold = read.1;
              point = h.1;
              rest = h.2;
              records_are = h.3;
              opens = h.4;
            },
          )
      | inr few ↦ all_parts rule file blocks bad are (record { records_are = refl; few = omega (arith, few) })
    ]

pub splits_to_something : HasSomeRecords → SplitsToSomething
splits_to_something has rule file accepted = let r = has file accepted in splits_some rule file r.0 r.1 r.2
