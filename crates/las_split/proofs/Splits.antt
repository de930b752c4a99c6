-- What splitting a file gives is the only thing that it can give.
use Rattle.std.proofs.Common.{◌≡◌, inl, inr, ℕ, zero, suc, ◌%◌, ◌<◌, ◌≤◌, List, [], ◌∷◌, ◌++◌, length, take, drop, Option, Some, None, refl, sym, ◌∙◌, ap, subst, append_assoc, length-append, arith}
use Rattle.std.specs.Prelude.{All}
use Rattle.std.specs.List.{concat}
use Rattle.std.proofs.lemmas.Bool.{cases_lt}
use Rattle.std.proofs.lemmas.List.{length-take-le, take-append-drop, take-append-le, take_all}
use Rattle.std.proofs.Math.Seq.{take-append_seam}
use Rattle.las_filter.specs.declared.rule.Rule.{Rule}
use Rattle.las_header.specs.declared.refusal.Refusal.{Refusal}
use Rattle.las_header.specs.declared.refusal.Refusal.TheVariants.{BadChunk, TooManyParts}
use Rattle.las_header.specs.Fields.{head_of, record_length_of}
use Rattle.las_header.specs.Heads.{HeadView}
use Rattle.las_header.specs.Plain.{cut_all}
use Rattle.laz_file.specs.Copying.{AreOnlyRecords}
use Rattle.laz_forms.specs.Pieces.{ArePieces, Piece}
use Rattle.laz_reader.specs.Reading.{AreWholeBlocks, ReaderSeen, ReadsAll, StandsFor}
use Rattle.laz_forms.specs.Records.{AreRead, HoldBlocks, HoldOnly, IsBadPiece}
use Rattle.laz_forms.proofs.Public.{one_pieces, concat-append, not_bad_before, even_all}
use Rattle.laz_reader.proofs.Public.{fewer_first, hold_length, inside, more_first, no_length}
use Rattle.laz_writer.proofs.Public.{cut-append}
use Rattle.laz_file.proofs.Public.{even_whole, all_records, left_is as whole_left, records_before}
use Rattle.las_split.specs.declared.limits.TheConstants.{MAX_PARTS}
use Rattle.las_split.specs.Parts.{numbers_of_parts}
use Rattle.las_split.specs.Splitting.{EndsTooMany, HaveParts, OnlySplits, OpensTooMany, SplitsTo, records_in_blocks}
use Rattle.las_split.proofs.PartLists.{parts_fewer}

-- ---- records that open one part too many

-- not within records that have no more parts than there may be
pub not_too_many : (rule : Rule) (records rest all : List (List ℕ)) (point : List ℕ) → OpensTooMany rule records point → all ≡ records ++ point ∷ rest → length (numbers_of_parts rule all) ≤ MAX_PARTS → ⊥
not_too_many rule records rest all point opens is few =
    let longer : length (numbers_of_parts rule (records ++ point ∷ [])) ≤ length (numbers_of_parts rule ((records ++ point ∷ []) ++ rest)) = parts_fewer rule (records ++ point ∷ []) rest in
    let same : length (numbers_of_parts rule ((records ++ point ∷ []) ++ rest)) ≡ length (numbers_of_parts rule all) = ap (λ (t : List (List ℕ)). length (numbers_of_parts rule t)) (append_assoc records (point ∷ []) rest ∙ sym is) in
    absurd (omega (arith, longer, same, few, opens.more))

-- of two records that each open one part too many, none comes before the other
later : (rule : Rule) (xs ys rest others : List (List ℕ)) (p q : List ℕ) → OpensTooMany rule xs p → OpensTooMany rule ys q → xs ++ p ∷ rest ≡ ys ++ q ∷ others → length xs < length ys → ⊥
later rule xs ys rest others p q one two same less =
    let k = length (xs ++ p ∷ []) in
    let short : k ≤ length ys = omega (arith, less, length-append xs (p ∷ [])) in
    let front : take k ys ≡ xs ++ p ∷ [] =
    sym (take-append-le k ys (q ∷ others) short) ∙ ap (take k) (sym same ∙ sym (append_assoc xs (p ∷ []) rest)) ∙ take-append_seam (xs ++ p ∷ []) rest in
    let split : ys ≡ xs ++ p ∷ drop k ys = sym (take-append-drop k ys) ∙ ap (λ (t : List (List ℕ)). t ++ drop k ys) front ∙ append_assoc xs (p ∷ []) (drop k ys) in
    not_too_many rule xs (drop k ys) ys p one split (omega (arith, two.full))

-- the same records come before it
pub same_records : (rule : Rule) (xs ys rest others : List (List ℕ)) (p q : List ℕ) → OpensTooMany rule xs p → OpensTooMany rule ys q → xs ++ p ∷ rest ≡ ys ++ q ∷ others → xs ≡ ys
same_records rule xs ys rest others p q one two same = elim (cases_lt (length xs) (length ys)) [
  | inl less ↦ absurd (later rule xs ys rest others p q one two same less)
  | inr more ↦ elim (cases_lt (length ys) (length xs)) [
    | inl fewer ↦ absurd (later rule ys xs others rest q p two one (sym same) fewer)
    | inr least ↦
        let long : length xs ≡ length ys = omega (arith, more, least) in
        sym (take-append_seam xs (p ∷ rest)) ∙ ap (λ (k : ℕ). take k (xs ++ p ∷ rest)) long ∙ ap (take (length ys)) same ∙ take-append_seam ys (q ∷ others)
  ]
]

-- fine records are a front of those before one too many
pub front_of_many : (rule : Rule) (first tail others tail2 : List (List ℕ)) (point : List ℕ) → first ++ tail ≡ others ++ point ∷ tail2 → length (numbers_of_parts rule first) ≤ MAX_PARTS → OpensTooMany rule others point → (more : List (List ℕ)) × (others ≡ first ++ more)
front_of_many rule first tail others tail2 point same fine opens = elim (cases_lt (length others) (length first)) [
  | inl less ↦
      let k = length (others ++ point ∷ []) in
      let short : k ≤ length first = omega (arith, less, length-append others (point ∷ [])) in
      let front : take k first ≡ others ++ point ∷ [] = sym (take-append-le k first tail short) ∙ ap (take k) (same ∙ sym (append_assoc others (point ∷ []) tail2)) ∙ take-append_seam (others ++ point ∷ []) tail2 in
      let split : first ≡ others ++ point ∷ drop k first = sym (take-append-drop k first) ∙ ap (λ (t : List (List ℕ)). t ++ drop k first) front ∙ append_assoc others (point ∷ []) (drop k first) in
      absurd (not_too_many rule others (drop k first) first point opens split fine)
  | inr more ↦
      let k = length first in
      let front : take k others ≡ first = sym (take-append-le k others (point ∷ tail2) (omega (arith, more))) ∙ ap (take k) (sym same) ∙ take-append_seam first tail in
      (drop k others, sym (take-append-drop k others) ∙ ap (λ (t : List (List ℕ)). t ++ drop k others) front)
]

-- the records of blocks, and of more blocks
pub more_records : (file : List ℕ) → 0 < record_length_of (head_of file) → (ys more : List (List ℕ)) → All (λ block. length block % record_length_of (head_of file) ≡ 0) ys → records_in_blocks file (ys ++ more) ≡ records_in_blocks file ys ++ records_in_blocks file more
more_records file positive ys more all = ap (cut_all (record_length_of (head_of file))) (concat-append ys more) ∙ cut-append (record_length_of (head_of file)) (concat ys) (concat more) positive (even_all (record_length_of (head_of file)) ys all)

module _ (rule : Rule) (first : ReaderSeen) (file : List ℕ) (st : StandsFor first file) (new : ReadsAll first) (some : 0 < record_length_of first.head.bytes) (n : ℕ) (xs : List (List ℕ)) (within : n ≤ length first.left) (whole : AreWholeBlocks (record_length_of first.head.bytes) (take n first.left) xs) (hold : HoldOnly file (take n first.left) xs) where
  bytes_is : first.head.bytes ≡ head_of file
  bytes_is = ap (λ (h : HeadView). h.bytes) st.head

  left_is : first.left ≡ st.pieces
  left_is = whole_left first file st new

  mine : HoldOnly file (take n st.pieces) xs
  mine = subst (λ (ps : List Piece). HoldOnly file (take n ps) xs) left_is hold

  few : n ≤ length st.pieces
  few = subst (λ (ps : List Piece). n ≤ length ps) left_is within

  positive : 0 < record_length_of (head_of file)
  positive = subst (λ (t : List ℕ). 0 < record_length_of t) bytes_is some

  even : All (λ block. length block % record_length_of (head_of file) ≡ 0) xs
  even = subst (λ (t : List ℕ). All (λ block. length block % record_length_of t ≡ 0) xs) bytes_is (even_whole (record_length_of first.head.bytes) (take n first.left) xs whole)

  records_more : (ys more : List (List ℕ)) → All (λ block. length block % record_length_of (head_of file) ≡ 0) ys → records_in_blocks file (ys ++ more) ≡ records_in_blocks file ys ++ records_in_blocks file more
  records_more ys more all = more_records file positive ys more all

  even_front : (ys more : List (List ℕ)) → All (λ block. length block % record_length_of (head_of file) ≡ 0) (ys ++ more) → All (λ block. length block % record_length_of (head_of file) ≡ 0) ys
  even_front [] more all k d lt = absurd (omega arith)
  even_front (y ∷ ys) more all zero d lt = all 0 d (omega (arith, lt))
  even_front (y ∷ ys) more all (suc k) d lt = even_front ys more (λ j e below. all (suc j) e (omega (arith, below))) k d (omega (arith, lt))

  -- blocks that are read to the end or to a bad chunk begin with those that were read
  begins_with : (others : List (List ℕ)) (bad : Option ℕ) → AreRead file st.pieces others bad → (zs : List (List ℕ)) × (others ≡ xs ++ zs) × (n ≡ length st.pieces → zs ≡ [])
  begins_with others None read =
      let p = more_first file st.pieces n (length st.pieces) xs others mine (subst (λ (ps : List Piece). HoldBlocks file ps others) (sym (take_all (length st.pieces) st.pieces (omega arith))) read) few in
      (p.0, p.1, λ all. no_length p.0 (omega (arith, all, hold_length file st.pieces others read, hold_length file (take n st.pieces) xs mine.hold, length-take-le n st.pieces few, ap (λ (t : List (List ℕ)). length t) p.1, length-append xs p.0)))
  begins_with others (Some i) read = elim (cases_lt i n) [
    | inl less ↦ absurd (not_bad_before file st.pieces xs i n less mine.hold read.1)
    | inr more ↦
        let p = more_first file st.pieces n i xs others mine read.0 more in
        let near = inside st.pieces i read.1.0 read.1.1 in
        (p.0, p.1, λ all. absurd (omega (arith, all, near, more)))
  ]

  read_here : (pieces : List Piece) (others : List (List ℕ)) (bad : Option ℕ) → ArePieces file pieces → AreRead file pieces others bad → AreRead file st.pieces others bad
  read_here pieces others bad are read = subst (λ (ps : List Piece). AreRead file ps others bad) (one_pieces file pieces st.pieces are st.are) read

  held_here : (records : List (List ℕ)) (e : EndsTooMany rule file records) → HoldBlocks file (take e.number st.pieces) e.blocks
  held_here records e = subst (λ (ps : List Piece). HoldBlocks file (take e.number ps) e.blocks) (one_pieces file e.pieces st.pieces e.are st.are) e.hold

  mine_are : records_in_blocks file xs ≡ cut_all (record_length_of first.head.bytes) (concat xs)
  mine_are = ap (λ (t : List ℕ). cut_all (record_length_of t) (concat xs)) (sym bytes_is)

  -- no record of the blocks opens one part too many, in blocks that end before
  never_before : length (numbers_of_parts rule (cut_all (record_length_of first.head.bytes) (concat xs))) ≤ MAX_PARTS → (records : List (List ℕ)) (e : EndsTooMany rule file records) → e.number ≤ n → ⊥
  never_before fine records e less =
      let p = fewer_first file st.pieces n e.number xs e.blocks mine (held_here records e) less in
      let front = even_front e.blocks p.0 (subst (λ (bs : List (List ℕ)). All (λ block. length block % record_length_of (head_of file) ≡ 0) bs) p.1 even) in
      let all : records_in_blocks file xs ≡ records ++ e.point ∷ (e.rest ++ records_in_blocks file p.0) =
      ap (records_in_blocks file) p.1 ∙ records_more e.blocks p.0 front ∙ ap (λ (t : List (List ℕ)). t ++ records_in_blocks file p.0) e.records_are ∙ append_assoc records (e.point ∷ e.rest) (records_in_blocks file p.0) in
      not_too_many rule records (e.rest ++ records_in_blocks file p.0) (records_in_blocks file xs) e.point e.opens all (subst (λ (t : List (List ℕ)). length (numbers_of_parts rule t) ≤ MAX_PARTS) (sym mine_are) fine)

  pub splits_all : length (numbers_of_parts rule (cut_all (record_length_of first.head.bytes) (concat xs))) ≤ MAX_PARTS → n ≡ length first.left → OnlySplits rule file (cut_all (record_length_of first.head.bytes) (concat xs)) None
  splits_all fine all =
      let here : HoldOnly file (take (length first.left) first.left) xs = subst (λ (k : ℕ). HoldOnly file (take k first.left) xs) all hold in
      let rs : AreOnlyRecords file xs None = all_records first file st new xs here in
      let end : n ≡ length st.pieces = all ∙ ap (λ (ps : List Piece). length ps) left_is in
      record { are = (xs, rs.are, record { records_are = mine_are; few = fine }); only = only rs end }
    where
      only : AreOnlyRecords file xs None → n ≡ length st.pieces → (others : List (List ℕ)) (other : Option Refusal) → SplitsTo rule file others other → (others ≡ cut_all (record_length_of first.head.bytes) (concat xs)) × (other ≡ None)
      only rs end others None s = (sym s.2.records_are ∙ ap (records_in_blocks file) (rs.only s.0 None s.1).0 ∙ mine_are, refl)
      only rs end others (Some (BadChunk i)) s = absurd (let clash : Some i ≡ None = (rs.only s.0 (Some i) s.1).1 in cc)
      only rs end others (Some TooManyParts) e = absurd (elim (cases_lt e.number n) [
        | inl less ↦ never_before fine others e (omega (arith, less))
        | inr more ↦
            let every : take e.number st.pieces ≡ take n st.pieces = take_all e.number st.pieces (omega (arith, end, more)) ∙ sym (take_all n st.pieces (omega (arith, end))) in
            let same : EndsTooMany rule file others = record {
              pieces = e.pieces;
              are = e.are;
              number = n;
              blocks = e.blocks;
              hold = subst (λ (ps : List Piece). HoldBlocks file (take n ps) e.blocks) (sym (one_pieces file e.pieces st.pieces e.are st.are)) (subst (λ (ps : List Piece). HoldBlocks file ps e.blocks) every (held_here others e));
              point = e.point;
              rest = e.rest;
              records_are = e.records_are;
              opens = e.opens;
            } in
            never_before fine others same (omega arith)
      ])
      only rs end others (Some _) s = absurd s

  pub splits_bad : length (numbers_of_parts rule (cut_all (record_length_of first.head.bytes) (concat xs))) ≤ MAX_PARTS → (cause : Refusal) → cause ≡ BadChunk n → IsBadPiece file first.left n → OnlySplits rule file (cut_all (record_length_of first.head.bytes) (concat xs)) (Some cause)
  splits_bad fine cause is bad =
      let rs : AreOnlyRecords file xs (Some n) = records_before first file st new n xs hold bad in
      let there : IsBadPiece file st.pieces n = subst (λ (ps : List Piece). IsBadPiece file ps n) left_is bad in
      subst (λ (x : Refusal). OnlySplits rule file (cut_all (record_length_of first.head.bytes) (concat xs)) (Some x)) (sym is) (record { are = (xs, rs.are, record { records_are = mine_are; few = fine }); only = only rs there })
    where
      only : AreOnlyRecords file xs (Some n) → IsBadPiece file st.pieces n → (others : List (List ℕ)) (other : Option Refusal) → SplitsTo rule file others other → (others ≡ cut_all (record_length_of first.head.bytes) (concat xs)) × (other ≡ Some (BadChunk n))
      only rs there others None s = absurd (let clash : None ≡ Some n = (rs.only s.0 None s.1).1 in cc)
      only rs there others (Some (BadChunk i)) s =
          let e = rs.only s.0 (Some i) s.1 in
          let same : i ≡ n = (let eq : Some i ≡ Some n = e.1 in cc) in
          (sym s.2.records_are ∙ ap (records_in_blocks file) e.0 ∙ mine_are, ap (λ (k : ℕ). Some (BadChunk k)) same)
      only rs there others (Some TooManyParts) e = absurd (elim (cases_lt n e.number) [
        | inl more ↦ not_bad_before file st.pieces e.blocks n e.number more (held_here others e) there
        | inr less ↦ never_before fine others e less
      ])
      only rs there others (Some _) s = absurd s

  read_begin : (front rest : List (List ℕ)) → cut_all (record_length_of first.head.bytes) (concat xs) ≡ front ++ rest → (ys : List (List ℕ)) (bad : Option ℕ) (records : List (List ℕ)) → AreRead file st.pieces ys bad → HaveParts rule file ys records → (more : List (List ℕ)) × (records ≡ front ++ more)
  read_begin front rest split ys bad records read have =
      let b = begins_with ys bad read in (
        rest ++ records_in_blocks file b.0,
        sym have.records_are ∙ ap (records_in_blocks file) b.1 ∙ records_more xs b.0 even ∙ ap (λ (t : List (List ℕ)). t ++ records_in_blocks file b.0) (mine_are ∙ split) ∙ append_assoc front rest (records_in_blocks file b.0),
      )

  -- one part too many, among the records of these blocks
  module _ (records rest : List (List ℕ)) (point : List ℕ) (split : cut_all (record_length_of first.head.bytes) (concat xs) ≡ records ++ point ∷ rest) (opens : OpensTooMany rule records point) where
    mine_ends : EndsTooMany rule file records
    mine_ends = record { pieces = st.pieces; are = st.are; number = n; blocks = xs; hold = mine.hold; point = point; rest = rest; records_are = mine_are ∙ split; opens = opens }

    never_fine : (ys : List (List ℕ)) (bad : Option ℕ) (others : List (List ℕ)) → AreRead file st.pieces ys bad → HaveParts rule file ys others → ⊥
    never_fine ys bad others read have =
        let b = begins_with ys bad read in
        let all : others ≡ records ++ point ∷ (rest ++ records_in_blocks file b.0) =
        sym have.records_are ∙ ap (records_in_blocks file) b.1 ∙ records_more xs b.0 even ∙ ap (λ (t : List (List ℕ)). t ++ records_in_blocks file b.0) (mine_are ∙ split) ∙ append_assoc records (point ∷ rest) (records_in_blocks file b.0) in
        not_too_many rule records (rest ++ records_in_blocks file b.0) others point opens all have.few

    same_end : (others : List (List ℕ)) (e : EndsTooMany rule file others) → others ≡ records
    same_end others e = elim (cases_lt e.number n) [
      | inl less ↦
          let p = fewer_first file st.pieces n e.number xs e.blocks mine (held_here others e) (omega (arith, less)) in
          let front = even_front e.blocks p.0 (subst (λ (bs : List (List ℕ)). All (λ block. length block % record_length_of (head_of file) ≡ 0) bs) p.1 even) in
          let all : others ++ e.point ∷ (e.rest ++ records_in_blocks file p.0) ≡ records ++ point ∷ rest =
          sym (append_assoc others (e.point ∷ e.rest) (records_in_blocks file p.0)) ∙ ap (λ (t : List (List ℕ)). t ++ records_in_blocks file p.0) (sym e.records_are) ∙ sym (records_more e.blocks p.0 front) ∙ ap (records_in_blocks file) (sym p.1) ∙ mine_are ∙ split in
          same_records rule others records (e.rest ++ records_in_blocks file p.0) rest e.point point e.opens opens all
      | inr more ↦
          let p = more_first file st.pieces n e.number xs e.blocks mine (held_here others e) more in
          let all : others ++ e.point ∷ e.rest ≡ records ++ point ∷ (rest ++ records_in_blocks file p.0) =
          sym e.records_are ∙ ap (records_in_blocks file) p.1 ∙ records_more xs p.0 even ∙ ap (λ (t : List (List ℕ)). t ++ records_in_blocks file p.0) (mine_are ∙ split) ∙ append_assoc records (point ∷ rest) (records_in_blocks file p.0) in
          same_records rule others records e.rest (rest ++ records_in_blocks file p.0) e.point point e.opens opens all
    ]

    pub splits_many : OnlySplits rule file records (Some TooManyParts)
    splits_many = record { are = mine_ends; only = only }
      where
        only : (others : List (List ℕ)) (other : Option Refusal) → SplitsTo rule file others other → (others ≡ records) × (other ≡ Some TooManyParts)
        only others None s = absurd (never_fine s.0 None others (read_here s.1.0 s.0 None s.1.1 s.1.2) s.2)
        only others (Some (BadChunk i)) s = absurd (never_fine s.0 (Some i) others (read_here s.1.0 s.0 (Some i) s.1.1 s.1.2) s.2)
        only others (Some TooManyParts) e = (same_end others e, refl)
        only others (Some _) s = absurd s

  -- records that are fine begin what the file gives
  pub splits_begin : (front rest : List (List ℕ)) → cut_all (record_length_of first.head.bytes) (concat xs) ≡ front ++ rest → length (numbers_of_parts rule front) ≤ MAX_PARTS → (records : List (List ℕ)) (refusal : Option Refusal) → SplitsTo rule file records refusal
      → (more : List (List ℕ)) × (records ≡ front ++ more)
  splits_begin front rest split fine records None s = read_begin front rest split s.0 None records (read_here s.1.0 s.0 None s.1.1 s.1.2) s.2
  splits_begin front rest split fine records (Some (BadChunk i)) s = read_begin front rest split s.0 (Some i) records (read_here s.1.0 s.0 (Some i) s.1.1 s.1.2) s.2
  splits_begin front rest split fine records (Some TooManyParts) e = elim (cases_lt e.number n) [
    | inl less ↦
        let p = fewer_first file st.pieces n e.number xs e.blocks mine (held_here records e) (omega (arith, less)) in
        let even_part = even_front e.blocks p.0 (subst (λ (bs : List (List ℕ)). All (λ block. length block % record_length_of (head_of file) ≡ 0) bs) p.1 even) in
        let all : front ++ rest ≡ records ++ e.point ∷ (e.rest ++ records_in_blocks file p.0) =
        sym split ∙ sym mine_are ∙ ap (records_in_blocks file) p.1 ∙ records_more e.blocks p.0 even_part ∙ ap (λ (t : List (List ℕ)). t ++ records_in_blocks file p.0) e.records_are ∙ append_assoc records (e.point ∷ e.rest) (records_in_blocks file p.0) in
        front_of_many rule front rest records (e.rest ++ records_in_blocks file p.0) e.point all fine e.opens
    | inr more ↦
        let p = more_first file st.pieces n e.number xs e.blocks mine (held_here records e) more in
        let all : front ++ (rest ++ records_in_blocks file p.0) ≡ records ++ e.point ∷ e.rest =
        sym (append_assoc front rest (records_in_blocks file p.0)) ∙ ap (λ (t : List (List ℕ)). t ++ records_in_blocks file p.0) (sym split ∙ sym mine_are) ∙ sym (records_more xs p.0 even) ∙ ap (records_in_blocks file) (sym p.1) ∙ e.records_are in
        front_of_many rule front (rest ++ records_in_blocks file p.0) records e.rest e.point all fine e.opens
  ]
  splits_begin front rest split fine records (Some _) s = absurd s
