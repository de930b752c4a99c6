-- What converting a range of a file gives that is read once, or twice.
use Rattle.std.proofs.Common.{◌≡◌, inl, inr, ℕ, ◌+◌, ◌-◌, ◌%◌, ◌<◌, ◌≤◌, Bool, true, false, List, [], ◌++◌, length, take, drop, Option, Some, None, refl, sym, ◌∙◌, ap, subst, length-append, arith}
use Rattle.std.specs.Prelude.{All}
use Rattle.std.specs.List.{concat}
use Rattle.std.proofs.lemmas.Bool.{cases_lt}
use Rattle.std.proofs.lemmas.List.{append-nil, length-take, length-take-le, take_all}
use Rattle.las_header.specs.declared.refusal.Refusal.{Refusal}
use Rattle.las_header.specs.declared.refusal.Refusal.TheVariants.{BadChunk, RawRange}
use Rattle.las_header.specs.Fields.{head_of, record_length_of}
use Rattle.las_header.specs.Heads.{HeadView}
use Rattle.las_header.specs.Plain.{cut_all}
use Rattle.las_filter.specs.Kept.{Kept}
use Rattle.las_outside.specs.Files.{FileMap}
use Rattle.laz_file.specs.Copying.{AreOnlyRecordsIn, LeavesUnfinished}
use Rattle.laz_forms.specs.Outputs.{Output}
use Rattle.laz_forms.specs.Pieces.{ArePieces, Piece}
use Rattle.laz_reader.specs.Reading.{AreWholeBlocks, ReaderSeen, StandsFor}
use Rattle.laz_forms.specs.Ranges.{Range, first_of, parts_of}
use Rattle.laz_forms.specs.Records.{AreRead, AreRecordsIn, HoldBlocks, HoldOnly, IsBadPiece, moved}
use Rattle.laz_forms.proofs.Public.{one_pieces, concat-append, not_bad_before}
use Rattle.laz_reader.proofs.Public.{fewer_first, hold_length, inside, more_first, no_length}
use Rattle.laz_file.proofs.Public.{even_whole}
use Rattle.las_convert.specs.Adding.{Adds, Keeping}
use Rattle.las_convert.specs.Converting.{ConvertsOnce, ConvertsTwice, Keeps, kept_in}
use Rattle.las_convert.specs.Laws.{raw_record}
use Rattle.las_convert.proofs.Adding.{IsKeeping, adds_all, kept_from, refused_at}
use Rattle.las_convert.proofs.Only.{HasRecords, early_refused, even_front, first_kept, raw_clash, same_refused, stays_in}

-- what is converted once, and nothing else
pub record OnlyOnce (keeping : Keeping) (file : List ℕ) (range : Range) (records : List ℕ) (refusal : Option Refusal) : Type 0 where
  pub are : ConvertsOnce keeping file range records refusal
  pub only : (others : List ℕ) (other : Option Refusal) → ConvertsOnce keeping file range others other → (others ≡ records) × (other ≡ refusal)

-- what is converted of a range that is read twice, and nothing else
pub record OnlyTwice (keeping : Keeping) (file : List ℕ) (range : Range) (records : List ℕ) (refusal : Option Refusal) : Type 0 where
  pub are : ConvertsTwice keeping file range records refusal
  pub only : (others : List ℕ) (other : Option Refusal) → ConvertsTwice keeping file range others other → (others ≡ records) × (other ≡ refusal)

module _ (keeping : Keeping) (keeps : IsKeeping keeping) (first : ReaderSeen) (file : List ℕ) (st : StandsFor first file) (new : first.next ≡ first.first) (some : 0 < record_length_of first.head.bytes) (n : ℕ) (xs : List (List ℕ)) (within : n ≤ length first.left) (whole : AreWholeBlocks (record_length_of first.head.bytes) (take n first.left) xs) (hold : HoldOnly file (take n first.left) xs) where
  bytes_is : first.head.bytes ≡ head_of file
  bytes_is = ap (λ (h : HeadView). h.bytes) st.head

  -- the pieces that meet the range are all left
  abbrev parts : List Piece
  parts = parts_of file first.range st.pieces

  left_is : first.left ≡ parts_of file first.range st.pieces
  left_is = let none : first.next - first.first ≡ 0 = omega (arith, new) in st.left ∙ ap (λ (k : ℕ). drop k parts) none

  has : HasRecords file
  has = record { some = subst (λ (t : List ℕ). 0 < record_length_of t) bytes_is some }

  mine : HoldOnly file (take n parts) xs
  mine = subst (λ (ps : List Piece). HoldOnly file (take n ps) xs) left_is hold

  few : n ≤ length parts
  few = subst (λ (ps : List Piece). n ≤ length ps) left_is within

  even : All (λ block. length block % record_length_of (head_of file) ≡ 0) xs
  even = subst (λ (t : List ℕ). All (λ block. length block % record_length_of t ≡ 0) xs) bytes_is (even_whole (record_length_of first.head.bytes) (take n first.left) xs whole)

  kept_is : (ones : List (List ℕ)) (refused : Bool) → Adds keeping [] (cut_all (record_length_of first.head.bytes) (concat xs)) ones refused → kept_in keeping file xs ≡ kept_from ones (refused_at refused ones)
  kept_is ones refused adds =
      adds_all keeping keeps (cut_all (record_length_of (head_of file)) (concat xs)) ones refused (subst (λ (t : List ℕ). Adds keeping [] (cut_all (record_length_of t) (concat xs)) ones refused) bytes_is adds)

  -- blocks that are read to the end or to a bad chunk begin with those that were read
  begins_with : (others : List (List ℕ)) (bad : Option ℕ) → AreRead file parts others bad → (zs : List (List ℕ)) × (others ≡ xs ++ zs) × (n ≡ length parts → zs ≡ [])
  begins_with others None read =
      let p = more_first file parts n (length parts) xs others mine (subst (λ (ps : List Piece). HoldBlocks file ps others) (sym (take_all (length parts) parts (omega arith))) read) few in
      (p.0, p.1, λ all. no_length p.0 (omega (arith, all, hold_length file parts others read, hold_length file (take n parts) xs mine.hold, length-take-le n parts few, ap (λ (t : List (List ℕ)). length t) p.1, length-append xs p.0)))
  begins_with others (Some i) read = elim (cases_lt i n) [
    | inl less ↦ absurd (not_bad_before file parts xs i n less mine.hold read.1)
    | inr more ↦
        let p = more_first file parts n i xs others mine read.0 more in
        let near = inside parts i read.1.0 read.1.1 in
        (p.0, p.1, λ all. absurd (omega (arith, all, near, more)))
  ]

  same_pieces : (pieces : List Piece) → ArePieces file pieces → pieces ≡ st.pieces
  same_pieces pieces are = one_pieces file pieces st.pieces are st.are

  same_parts : (pieces : List Piece) → ArePieces file pieces → parts_of file first.range pieces ≡ parts
  same_parts pieces are = ap (parts_of file first.range) (same_pieces pieces are)

  -- what is read of the range is read of the same parts
  read_here : (others : List (List ℕ)) (bad : Option ℕ) → AreRecordsIn file first.range others bad
      → (found : Option ℕ) × AreRead file parts others found × (bad ≡ moved (first_of file first.range st.pieces) found)
  read_here others bad are = (
    are.1,
    subst (λ (ps : List Piece). AreRead file ps others are.1) (same_parts are.0 are.2) are.3,
    are.4 ∙ ap (λ (ps : List Piece). moved (first_of file first.range ps) are.1) (same_pieces are.0 are.2),
  )

  -- all parts were read, or all before a bad one: nothing else can be read of them
  whole_parts : n ≡ length parts → take n parts ≡ parts
  whole_parts all = take_all n parts (omega (arith, all))

  all_only : n ≡ length parts → (others : List (List ℕ)) (found : Option ℕ) → AreRead file parts others found → (others ≡ xs) × (found ≡ None)
  all_only all others None read = (mine.only others (subst (λ (ps : List Piece). HoldBlocks file ps others) (sym (whole_parts all)) read), refl)
  all_only all others (Some i) read =
      let near = inside parts i read.1.0 read.1.1 in
      absurd (not_bad_before file parts xs i n (omega (arith, all, near)) mine.hold read.1)

  bad_only : IsBadPiece file parts n → (others : List (List ℕ)) (found : Option ℕ) → AreRead file parts others found → (others ≡ xs) × (found ≡ Some n)
  bad_only bad others None read =
      let near = inside parts n bad.0 bad.1 in
      let all = subst (λ (ps : List Piece). HoldBlocks file ps others) (sym (take_all (length parts) parts (omega arith))) read in
      absurd (not_bad_before file parts others n (length parts) near all bad)
  bad_only bad others (Some j) read = elim (cases_lt j n) [
    | inl less ↦ absurd (not_bad_before file parts xs j n less mine.hold read.1)
    | inr more ↦ elim (cases_lt n j) [
      | inl less ↦ absurd (not_bad_before file parts others n j less read.0 bad)
      | inr few ↦
          let same : j ≡ n = omega (arith, more, few) in
          (mine.only others (subst (λ (k : ℕ). HoldBlocks file (take k parts) others) same read.0), ap (λ (k : ℕ). Some k) same)
    ]
  ]

  moved_none : (k : ℕ) (found : Option ℕ) → found ≡ None → moved k found ≡ None
  moved_none k found none = ap (moved k) none

  moved_some : (k j : ℕ) (found : Option ℕ) → found ≡ Some j → moved k found ≡ Some (k + j)
  moved_some k j found is = ap (moved k) is

  raw_is : (ones : List (List ℕ)) (refused : Bool) → Adds keeping [] (cut_all (record_length_of first.head.bytes) (concat xs)) ones refused → (kept_in keeping file xs).raw_range ≡ refused_at refused ones
  raw_is ones refused adds = ap (λ (k : Kept). k.raw_range) (kept_is ones refused adds)

  ones_are : (ones : List (List ℕ)) (refused : Bool) → Adds keeping [] (cut_all (record_length_of first.head.bytes) (concat xs)) ones refused → concat (kept_in keeping file xs).records ≡ concat ones
  ones_are ones refused adds = ap (λ (k : Kept). concat k.records) (kept_is ones refused adds)

  keeps_here : (ones : List (List ℕ)) (refused : Bool) → Adds keeping [] (cut_all (record_length_of first.head.bytes) (concat xs)) ones refused → Keeps keeping file xs (concat ones) (refused_at refused ones)
  keeps_here ones refused adds = record { records_are = ones_are ones refused adds; raw_range_is = raw_is ones refused adds }

  theirs_are : (ones : List (List ℕ)) (refused : Bool) → Adds keeping [] (cut_all (record_length_of first.head.bytes) (concat xs)) ones refused → (ys : List (List ℕ)) (others : List ℕ) (raw : Option ℕ) → Keeps keeping file ys others raw → ys ≡ xs → others ≡ concat ones
  theirs_are ones refused adds ys others raw k same = sym k.records_are ∙ ap (λ (bs : List (List ℕ)). concat (kept_in keeping file bs).records) same ∙ ones_are ones refused adds

  -- no record is refused in blocks that end before
  never_raw : (ones : List (List ℕ)) → Adds keeping [] (cut_all (record_length_of first.head.bytes) (concat xs)) ones false → (m : ℕ) (ys : List (List ℕ)) (k : ℕ) → HoldBlocks file (take m parts) ys → m ≤ n → (kept_in keeping file ys).raw_range ≡ Some k → ⊥
  never_raw ones adds m ys k held less raw =
      raw_clash k (kept_in keeping file xs).raw_range (early_refused keeping keeps file has parts n m xs ys k mine even held less raw) (raw_is ones false adds)

  pub converts_all : (ones : List (List ℕ)) → Adds keeping [] (cut_all (record_length_of first.head.bytes) (concat xs)) ones false → n ≡ length first.left → OnlyOnce keeping file first.range (concat ones) None
  converts_all ones adds all =
      let end : n ≡ length parts = all ∙ ap (λ (ps : List Piece). length ps) left_is in
      let read : HoldBlocks file parts xs = subst (λ (ps : List Piece). HoldBlocks file ps xs) (whole_parts end) mine.hold in
      record { are = (xs, (st.pieces, None, st.are, read, refl), keeps_here ones false adds); only = only end }
    where
      only : n ≡ length parts → (others : List ℕ) (other : Option Refusal) → ConvertsOnce keeping file first.range others other → (others ≡ concat ones) × (other ≡ None)
      only end others None c =
          let r = read_here c.0 None c.1 in
          (theirs_are ones false adds c.0 others None c.2 (all_only end c.0 r.0 r.1).0, refl)
      only end others (Some (BadChunk i)) c =
          let r = read_here c.0 (Some i) c.1 in
          let clash : Some i ≡ None = r.2 ∙ moved_none (first_of file first.range st.pieces) r.0 (all_only end c.0 r.0 r.1).1 in
          absurd cc
      only end others (Some (RawRange k)) c =
          let f = c.1 in
          let held = subst (λ (ps : List Piece). HoldBlocks file (take f.number ps) c.0) (same_parts f.pieces f.are) f.hold in
          absurd (elim (cases_lt f.number n) [
            | inl less ↦ never_raw ones adds f.number c.0 k held (omega (arith, less)) c.2.raw_range_is
            | inr more ↦
                let every : take f.number parts ≡ take n parts = take_all f.number parts (omega (arith, end, more)) ∙ sym (take_all n parts (omega (arith, end))) in
                never_raw ones adds n c.0 k (subst (λ (ps : List Piece). HoldBlocks file ps c.0) every held) (omega arith) c.2.raw_range_is
          ])
      only end others (Some _) c = absurd c

  pub converts_bad : (ones : List (List ℕ)) → Adds keeping [] (cut_all (record_length_of first.head.bytes) (concat xs)) ones false → (cause : Refusal) → cause ≡ BadChunk (first.first + n) → IsBadPiece file first.left n → OnlyOnce keeping file first.range (concat ones) (Some cause)
  converts_bad ones adds cause is bad =
      let there : IsBadPiece file parts n = subst (λ (ps : List Piece). IsBadPiece file ps n) left_is bad in
      let number : cause ≡ BadChunk (first_of file first.range st.pieces + n) = is ∙ ap (λ (k : ℕ). BadChunk (k + n)) st.first in
      subst (λ (x : Refusal). OnlyOnce keeping file first.range (concat ones) (Some x)) (sym number)
      (record { are = (xs, (st.pieces, Some n, st.are, (mine.hold, there), refl), keeps_here ones false adds); only = only there })
    where
      only : IsBadPiece file parts n → (others : List ℕ) (other : Option Refusal) → ConvertsOnce keeping file first.range others other
          → (others ≡ concat ones) × (other ≡ Some (BadChunk (first_of file first.range st.pieces + n)))
      only there others None c =
          let r = read_here c.0 None c.1 in
          let clash : None ≡ Some (first_of file first.range st.pieces + n) = r.2 ∙ moved_some (first_of file first.range st.pieces) n r.0 (bad_only there c.0 r.0 r.1).1 in
          absurd cc
      only there others (Some (BadChunk i)) c =
          let r = read_here c.0 (Some i) c.1 in
          let e = bad_only there c.0 r.0 r.1 in
          let eq : Some i ≡ Some (first_of file first.range st.pieces + n) = r.2 ∙ moved_some (first_of file first.range st.pieces) n r.0 e.1 in
          let same : i ≡ first_of file first.range st.pieces + n = cc in
          (theirs_are ones false adds c.0 others None c.2 e.0, ap (λ (k : ℕ). Some (BadChunk k)) same)
      only there others (Some (RawRange k)) c =
          let f = c.1 in
          let held = subst (λ (ps : List Piece). HoldBlocks file (take f.number ps) c.0) (same_parts f.pieces f.are) f.hold in
          absurd (elim (cases_lt n f.number) [
            | inl more ↦ not_bad_before file parts c.0 n f.number more held there
            | inr less ↦ never_raw ones adds f.number c.0 k held less c.2.raw_range_is
          ])
      only there others (Some _) c = absurd c

  pub converts_raw : (ones : List (List ℕ)) → Adds keeping [] (cut_all (record_length_of first.head.bytes) (concat xs)) ones true → (cause : Refusal) → cause ≡ RawRange (length ones) → OnlyOnce keeping file first.range (concat ones) (Some cause)
  converts_raw ones adds cause is =
      subst (λ (x : Refusal). OnlyOnce keeping file first.range (concat ones) (Some x)) (sym is)
      (record { are = (xs, record { pieces = st.pieces; are = st.are; number = n; hold = mine.hold }, keeps_here ones true adds); only = only })
    where
      never_read : (ys : List (List ℕ)) (bad : Option ℕ) → AreRecordsIn file first.range ys bad → (kept_in keeping file ys).raw_range ≡ None → ⊥
      never_read ys bad are none =
          let r = read_here ys bad are in
          let b = begins_with ys r.0 r.1 in
          let raw : (kept_in keeping file ys).raw_range ≡ Some (length ones) = ap (λ (k : Kept). k.raw_range) (ap (kept_in keeping file) b.1 ∙ stays_in keeping keeps file has xs b.0 (length ones) even (raw_is ones true adds)) ∙ raw_is ones true adds in
          raw_clash (length ones) (kept_in keeping file ys).raw_range raw none

      only : (others : List ℕ) (other : Option Refusal) → ConvertsOnce keeping file first.range others other → (others ≡ concat ones) × (other ≡ Some (RawRange (length ones)))
      only others None c = absurd (never_read c.0 None c.1 c.2.raw_range_is)
      only others (Some (BadChunk i)) c = absurd (never_read c.0 (Some i) c.1 c.2.raw_range_is)
      only others (Some (RawRange k)) c =
          let f = c.1 in
          let held = subst (λ (ps : List Piece). HoldBlocks file (take f.number ps) c.0) (same_parts f.pieces f.are) f.hold in
          let same = same_refused keeping keeps file has parts n f.number xs c.0 (length ones) k mine even held (raw_is ones true adds) c.2.raw_range_is in
          let number : Some k ≡ Some (length ones) = sym c.2.raw_range_is ∙ ap (λ (x : Kept). x.raw_range) same ∙ raw_is ones true adds in
          let k_is : k ≡ length ones = cc in
          (sym c.2.records_are ∙ ap (λ (x : Kept). concat x.records) same ∙ ones_are ones true adds, ap (λ (j : ℕ). Some (RawRange j)) k_is)
      only others (Some _) c = absurd c

  -- ---- what a fault leaves, for all that the file may give
  module _ (ones_first rest ones : List (List ℕ)) (refused : Bool) (split : cut_all (record_length_of first.head.bytes) (concat xs) ≡ ones_first ++ rest) (adds : Adds keeping [] ones_first ones refused) (out : Output) (was now : Option FileMap) (left : (more : List ℕ) → (n ≡ length first.left → rest ≡ [] → more ≡ []) → LeavesUnfinished out (concat ones ++ more) was now) where
    split_here : cut_all (record_length_of (head_of file)) (concat xs) ≡ ones_first ++ rest
    split_here = subst (λ (t : List ℕ). cut_all (record_length_of t) (concat xs) ≡ ones_first ++ rest) bytes_is split

    from_more : (zs : List (List ℕ)) (records : List ℕ) → concat (kept_in keeping file (xs ++ zs)).records ≡ records → (n ≡ length parts → zs ≡ []) → LeavesUnfinished out records was now
    from_more zs records is none =
        let f = first_kept keeping keeps file has xs zs ones_first rest ones refused even split_here adds in
        let whole_is : concat ones ++ concat f.0 ≡ records = sym (concat-append ones f.0) ∙ ap concat (sym f.1) ∙ is in
        subst (λ (t : List ℕ). LeavesUnfinished out t was now) whole_is
        (left (concat f.0) (λ all empty. ap concat (f.2 (none (all ∙ ap (λ (ps : List Piece). length ps) left_is)) empty)))

    from_read : (ys : List (List ℕ)) (bad : Option ℕ) (records : List ℕ) → AreRecordsIn file first.range ys bad → concat (kept_in keeping file ys).records ≡ records → LeavesUnfinished out records was now
    from_read ys bad records are is =
        let r = read_here ys bad are in
        let b = begins_with ys r.0 r.1 in
        from_more b.0 records (ap (λ (bs : List (List ℕ)). concat (kept_in keeping file bs).records) (sym b.1) ∙ is) b.2

    pub converts_left : (records : List ℕ) (refusal : Option Refusal) → ConvertsOnce keeping file first.range records refusal → LeavesUnfinished out records was now
    converts_left records None c = from_read c.0 None records c.1 c.2.records_are
    converts_left records (Some (BadChunk i)) c = from_read c.0 (Some i) records c.1 c.2.records_are
    converts_left records (Some (RawRange k)) c =
        let f = c.1 in
        let held = subst (λ (ps : List Piece). HoldBlocks file (take f.number ps) c.0) (same_parts f.pieces f.are) f.hold in
        elim (cases_lt f.number n) [
          | inl less ↦
              let p = fewer_first file parts n f.number xs c.0 mine held (omega (arith, less)) in
              let front = even_front (record_length_of (head_of file)) c.0 p.0 (subst (λ (bs : List (List ℕ)). All (λ block. length block % record_length_of (head_of file) ≡ 0) bs) p.1 even) in
              let same : kept_in keeping file xs ≡ kept_in keeping file c.0 = ap (kept_in keeping file) p.1 ∙ stays_in keeping keeps file has c.0 p.0 k front c.2.raw_range_is in
              from_more [] records (ap (λ (bs : List (List ℕ)). concat (kept_in keeping file bs).records) (append-nil xs) ∙ ap (λ (x : Kept). concat x.records) same ∙ c.2.records_are) (λ all. refl)
          | inr more ↦
              let p = more_first file parts n f.number xs c.0 mine held more in
              let none : n ≡ length parts → p.0 ≡ [] = λ all. no_length p.0 (omega (arith, all, more, hold_length file (take f.number parts) c.0 held, length-take f.number parts, hold_length file (take n parts) xs mine.hold, length-take n parts, ap (λ (t : List (List ℕ)). length t) p.1, length-append xs p.0)) in
              from_more p.0 records (ap (λ (bs : List (List ℕ)). concat (kept_in keeping file bs).records) (sym p.1) ∙ c.2.records_are) none
        ]
    converts_left records (Some _) c = absurd c

  -- ---- a range that is read twice: all of its records are these
  module _ (behind : Keeping) (blocks : List (List ℕ)) (all : AreOnlyRecordsIn file first.range blocks None) (same : kept_in keeping file blocks ≡ kept_in behind file blocks) where
    all_begin : (zs : List (List ℕ)) × (blocks ≡ xs ++ zs) × (n ≡ length parts → zs ≡ [])
    all_begin = let r = read_here blocks None all.are in begins_with blocks r.0 r.1

    twice_only : (records : List (List ℕ)) (raw_range : Option ℕ) → kept_in behind file blocks ≡ kept_from records raw_range → OnlyTwice behind file first.range (concat records) (raw_record raw_range)
    twice_only records raw_range is = record { are = are raw_range is; only = only raw_range is }
      where
        are : (raw : Option ℕ) → kept_in behind file blocks ≡ kept_from records raw → ConvertsTwice behind file first.range (concat records) (raw_record raw)
        are None e = (blocks, all.are, record { records_are = ap (λ (k : Kept). concat k.records) e; raw_range_is = ap (λ (k : Kept). k.raw_range) e })
        are (Some k) e = (blocks, all.are, record { records_are = ap (λ (x : Kept). concat x.records) e; raw_range_is = ap (λ (x : Kept). x.raw_range) e })

        here : (raw : Option ℕ) → kept_in behind file blocks ≡ kept_from records raw → (ys : List (List ℕ)) → ys ≡ blocks → kept_in behind file ys ≡ kept_from records raw
        here raw e ys eq = ap (kept_in behind file) eq ∙ e

        only : (raw : Option ℕ) → kept_in behind file blocks ≡ kept_from records raw → (others : List ℕ) (other : Option Refusal) → ConvertsTwice behind file first.range others other → (others ≡ concat records) × (other ≡ raw_record raw)
        only None e others None c = (sym c.2.records_are ∙ ap (λ (k : Kept). concat k.records) (here None e c.0 (all.only c.0 None c.1).0), refl)
        only None e others (Some (RawRange k)) c = absurd (raw_clash k (kept_in behind file c.0).raw_range c.2.raw_range_is (ap (λ (x : Kept). x.raw_range) (here None e c.0 (all.only c.0 None c.1).0)))
        only (Some j) e others None c = absurd (raw_clash j (kept_in behind file c.0).raw_range (ap (λ (x : Kept). x.raw_range) (here (Some j) e c.0 (all.only c.0 None c.1).0)) c.2.raw_range_is)
        only (Some j) e others (Some (RawRange k)) c =
            let h = here (Some j) e c.0 (all.only c.0 None c.1).0 in
            let number : Some k ≡ Some j = sym c.2.raw_range_is ∙ ap (λ (x : Kept). x.raw_range) h in
            let k_is : k ≡ j = cc in
            (sym c.2.records_are ∙ ap (λ (x : Kept). concat x.records) h, ap (λ (i : ℕ). Some (RawRange i)) k_is)
        only raw e others (Some (BadChunk i)) c = let clash : Some i ≡ None = (all.only c.0 (Some i) c.1).1 in absurd cc
        only raw e others (Some _) c = absurd c

    pub twice_all : (ones : List (List ℕ)) → Adds keeping [] (cut_all (record_length_of first.head.bytes) (concat xs)) ones false → n ≡ length first.left → OnlyTwice behind file first.range (concat ones) None
    twice_all ones adds done =
        let end : n ≡ length parts = done ∙ ap (λ (ps : List Piece). length ps) left_is in
        let b = all_begin in
        let is : blocks ≡ xs = b.1 ∙ ap (λ (zs : List (List ℕ)). xs ++ zs) (b.2 end) ∙ append-nil xs in
        twice_only ones None (sym same ∙ ap (kept_in keeping file) is ∙ kept_is ones false adds)

    pub twice_raw : (ones : List (List ℕ)) → Adds keeping [] (cut_all (record_length_of first.head.bytes) (concat xs)) ones true → (cause : Refusal) → cause ≡ RawRange (length ones) → OnlyTwice behind file first.range (concat ones) (Some cause)
    twice_raw ones adds cause is =
        let b = all_begin in
        let raw : (kept_in keeping file xs).raw_range ≡ Some (length ones) = ap (λ (k : Kept). k.raw_range) (kept_is ones true adds) in
        subst (λ (x : Refusal). OnlyTwice behind file first.range (concat ones) (Some x)) (sym is)
        (twice_only ones (Some (length ones)) (sym same ∙ ap (kept_in keeping file) b.1 ∙ stays_in keeping keeps file has xs b.0 (length ones) even raw ∙ kept_is ones true adds))

    pub twice_good : IsBadPiece file first.left n → ⊥
    twice_good bad =
        let there : IsBadPiece file parts n = subst (λ (ps : List Piece). IsBadPiece file ps n) left_is bad in
        let r = read_here blocks None all.are in
        let clash : None ≡ Some (first_of file first.range st.pieces + n) = r.2 ∙ moved_some (first_of file first.range st.pieces) n r.0 (bad_only there blocks r.0 r.1).1 in
        cc

    module _ (ones_first rest ones : List (List ℕ)) (refused : Bool) (split : cut_all (record_length_of first.head.bytes) (concat xs) ≡ ones_first ++ rest) (adds : Adds keeping [] ones_first ones refused) (out : Output) (was now : Option FileMap) (left : (more : List ℕ) → (n ≡ length first.left → rest ≡ [] → more ≡ []) → LeavesUnfinished out (concat ones ++ more) was now) where
      from_all : (records : List ℕ) (ys : List (List ℕ)) → ys ≡ blocks → concat (kept_in behind file ys).records ≡ records → LeavesUnfinished out records was now
      from_all records ys eq is =
          from_read ones_first rest ones refused split adds out was now left blocks None records all.are
          (ap (λ (k : Kept). concat k.records) (same ∙ ap (kept_in behind file) (sym eq)) ∙ is)

      pub twice_left : (records : List ℕ) (refusal : Option Refusal) → ConvertsTwice behind file first.range records refusal → LeavesUnfinished out records was now
      twice_left records None c = from_all records c.0 (all.only c.0 None c.1).0 c.2.records_are
      twice_left records (Some (BadChunk i)) c = let clash : Some i ≡ None = (all.only c.0 (Some i) c.1).1 in absurd cc
      twice_left records (Some (RawRange k)) c = from_all records c.0 (all.only c.0 None c.1).0 c.2.records_are
      twice_left records (Some _) c = absurd c
