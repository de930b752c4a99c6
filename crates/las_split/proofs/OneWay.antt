-- Whatever the bytes of an accepted file are, splitting it gives one thing alone.
use Rattle.std.proofs.Common.{◌≡◌, inl, inr, ℕ, ◌<◌, ◌≤◌, List, ◌∷◌, ◌++◌, take, Option, Some, None, refl, sym, ◌∙◌, ap, subst, append_assoc, arith}
use Rattle.std.proofs.lemmas.Bool.{cases_lt}
use Rattle.std.proofs.lemmas.Option.{none-some}
use Rattle.las_filter.specs.declared.rule.Rule.{Rule}
use Rattle.las_header.specs.declared.refusal.Refusal.{Refusal}
use Rattle.las_header.specs.declared.refusal.Refusal.TheVariants.{BadChunk, TooManyParts}
use Rattle.las_header.specs.Fields.{head_of, record_length_of}
use Rattle.laz_range.specs.Span.{IsBytes}
use Rattle.laz_forms.specs.Laws.{HasOneBlock, HasOneRecords}
use Rattle.laz_forms.specs.Pieces.{Piece}
use Rattle.laz_forms.specs.Records.{AreRead, AreRecordsOf, HoldBlocks}
use Rattle.laz_forms.specs.Refusing.{IsAcceptedFile}
use Rattle.laz_forms.proofs.Public.{accepted_is_head, one_pieces, some_same}
use Rattle.laz_reader.proofs.Public.{more_first}
use Rattle.laz_file.proofs.Public.{even_of, begins-with, only-blocks}
use Rattle.las_split.specs.Laws.{SplitsInOneWay}
use Rattle.las_split.specs.Splitting.{EndsTooMany, HaveParts, SplitsTo, records_in_blocks}
use Rattle.las_split.proofs.BatchesTaken.{head_some}
use Rattle.las_split.proofs.Splits.{more_records, not_too_many, same_records}

module _ (rule : Rule) (file : List ℕ) (accepted : IsAcceptedFile file) (small : IsBytes file) (held : HasOneBlock) (one : HasOneRecords) where
  positive : 0 < record_length_of (head_of file)
  positive = head_some (head_of file) (accepted_is_head file accepted small)

  -- records that open one part too many do so in all that begins with their blocks
  goes_on : (records : List (List ℕ)) (e : EndsTooMany rule file records) (ys zs : List (List ℕ)) → ys ≡ e.blocks ++ zs → records_in_blocks file ys ≡ records ++ e.point ∷ (e.rest ++ records_in_blocks file zs)
  goes_on records e ys zs is =
      ap (records_in_blocks file) is
      ∙ more_records file positive e.blocks zs (even_of file accepted small e.pieces e.are e.number e.blocks e.hold)
      ∙ ap (λ (t : List (List ℕ)). t ++ records_in_blocks file zs) e.records_are
      ∙ append_assoc records (e.point ∷ e.rest) (records_in_blocks file zs)

  -- so no reading to the end or to a bad chunk has no more parts than there may be
  never_both : (records others : List (List ℕ)) (ys : List (List ℕ)) (bad : Option ℕ) → EndsTooMany rule file records → AreRecordsOf file ys bad → HaveParts rule file ys others → ⊥
  never_both records others ys bad e are have =
      let read = subst (λ (ps : List Piece). AreRead file ps ys bad) (one_pieces file are.0 e.pieces are.1 e.are) are.2 in
      let b = begins-with file (λ p a b h k. held file p a b small h k) e.pieces e.number e.blocks ys bad e.hold read in
      not_too_many rule records (e.rest ++ records_in_blocks file b.0) others e.point e.opens (sym have.records_are ∙ goes_on records e ys b.0 b.1) have.few

  first_end : (records others : List (List ℕ)) (e : EndsTooMany rule file records) (o : EndsTooMany rule file others) → e.number ≤ o.number → others ≡ records
  first_end records others e o less =
      let there = subst (λ (ps : List Piece). HoldBlocks file (take o.number ps) o.blocks) (one_pieces file o.pieces e.pieces o.are e.are) o.hold in
      let only = only-blocks file (λ p a b h k. held file p a b small h k) (take e.number e.pieces) e.blocks e.hold in
      let p = more_first file e.pieces e.number o.number e.blocks o.blocks only there less in
      same_records rule others records o.rest (e.rest ++ records_in_blocks file p.0) o.point e.point o.opens e.opens (sym o.records_are ∙ goes_on records e o.blocks p.0 p.1)

  same_end : (records others : List (List ℕ)) → EndsTooMany rule file records → EndsTooMany rule file others → others ≡ records
  same_end records others e o = elim (cases_lt e.number o.number) [
    | inl less ↦ first_end records others e o (omega (arith, less))
    | inr more ↦ sym (first_end others records o e more)
  ]

  same_read : (xs ys records others : List (List ℕ)) (bad worse : Option ℕ) → AreRecordsOf file xs bad → AreRecordsOf file ys worse → HaveParts rule file xs records → HaveParts rule file ys others → (others ≡ records) × (worse ≡ bad)
  same_read xs ys records others bad worse read again mine theirs =
      let e = one file xs ys bad worse small read again in
      (sym theirs.records_are ∙ ap (records_in_blocks file) e.0 ∙ mine.records_are, e.1)

  once : (records others : List (List ℕ)) (refusal other : Option Refusal) → SplitsTo rule file records refusal → SplitsTo rule file others other → (others ≡ records) × (other ≡ refusal)
  once records others None None a b = ((same_read a.0 b.0 records others None None a.1 b.1 a.2 b.2).0, refl)
  once records others None (Some (BadChunk j)) a b = absurd (none-some j (sym (same_read a.0 b.0 records others None (Some j) a.1 b.1 a.2 b.2).1))
  once records others None (Some TooManyParts) a b = absurd (never_both others records a.0 None b a.1 a.2)
  once records others None (Some _) a b = absurd b
  once records others (Some (BadChunk i)) None a b = absurd (none-some i (same_read a.0 b.0 records others (Some i) None a.1 b.1 a.2 b.2).1)
  once records others (Some (BadChunk i)) (Some (BadChunk j)) a b =
      let e = same_read a.0 b.0 records others (Some i) (Some j) a.1 b.1 a.2 b.2 in
      (e.0, ap (λ (n : ℕ). Some (BadChunk n)) (some_same j i e.1))
  once records others (Some (BadChunk i)) (Some TooManyParts) a b = absurd (never_both others records a.0 (Some i) b a.1 a.2)
  once records others (Some (BadChunk i)) (Some _) a b = absurd b
  once records others (Some TooManyParts) None a b = absurd (never_both records others b.0 None a b.1 b.2)
  once records others (Some TooManyParts) (Some (BadChunk j)) a b = absurd (never_both records others b.0 (Some j) a b.1 b.2)
  once records others (Some TooManyParts) (Some TooManyParts) a b = (same_end records others a b, refl)
  once records others (Some TooManyParts) (Some _) a b = absurd b
  once records others (Some _) other a b = absurd a

pub splits_in_one_way : HasOneBlock → HasOneRecords → SplitsInOneWay
splits_in_one_way held one rule file records refusal accepted small splits =
    record { are = splits; only = λ others other again. once rule file accepted small held one records others refusal other splits again }
