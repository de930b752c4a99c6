-- What a sieve has looked at after the first of two readings.
use Rattle.std.proofs.Common.{◌≡◌, ℕ, ◌+◌, List, [], length, take, Option, Some, None, refl, sym, ◌∙◌, ap, subst}
use Rattle.std.specs.List.{concat}
use Rattle.las_header.specs.declared.refusal.Refusal.{Refusal}
use Rattle.las_header.specs.declared.refusal.Refusal.TheVariants.{BadChunk, RawRange}
use Rattle.las_header.specs.Fields.{head_of}
use Rattle.las_header.specs.Heads.{HeadView}
use Rattle.las_filter.specs.Kept.{Steps}
use Rattle.las_outside.specs.Files.{FileMap, WhereKnown}
use Rattle.las_thin.specs.declared.pick.Pick.{Pick}
use Rattle.las_thin.specs.declared.pick.Pick.TheVariants.{First, Lowest, Highest}
use Rattle.las_thin.specs.Kept.{kept_behind, passing}
use Rattle.las_thin.specs.Placed.{Placed}
use Rattle.las_thin.specs.Sieving.{PicksFirst, Settings, Sieving}
use Rattle.las_thin.specs.Sieving as sieve
use Rattle.laz_file.specs.Copying.{AreOnlyRecordsIn, EndsAfter, HoldFirst}
use Rattle.laz_forms.specs.Outputs.{records_after}
use Rattle.laz_forms.specs.Ranges.{Range}
use Rattle.laz_reader.specs.Reading.{ReaderSeen, StandsFor}
use Rattle.laz_forms.specs.Records.{HoldOnly, IsBadPiece}
use Rattle.laz_forms.proofs.Public.{known_both}
use Rattle.laz_file.proofs.Public.{all_records_in, records_in_before, stands_ready}
use Rattle.las_convert.specs.Adding.{Keeping}
use Rattle.las_convert.specs.Converting.{AreLooked, ConvertsTwice, IsReady, OnlyConverts}
use Rattle.las_convert.proofs.Converts.{OnlyTwice}
use Rattle.las_convert.proofs.Readings.{OnlyBy, only_by}

looked_by : (pick : Pick) (plan : Steps) (file : List ℕ) (range : Range) (looked : List Placed) (blocks : List (List ℕ)) → AreOnlyRecordsIn file range blocks None → looked ≡ passing plan (records_after (head_of file) (concat blocks)) → AreLooked pick plan file range looked
looked_by First plan file range looked blocks only is = tt
looked_by Lowest plan file range looked blocks only is = (blocks, only, is)
looked_by Highest plan file range looked blocks only is = (blocks, only, is)

-- a bad chunk, and nothing else
bad_twice : (keeping : Keeping) (file : List ℕ) (range : Range) (blocks : List (List ℕ)) (i : ℕ) → AreOnlyRecordsIn file range blocks (Some i) → OnlyTwice keeping file range [] (Some (BadChunk i))
bad_twice keeping file range blocks i all = record { are = (blocks, all.are, refl); only = only }
  where
    only : (others : List ℕ) (other : Option Refusal) → ConvertsTwice keeping file range others other → (others ≡ []) × (other ≡ Some (BadChunk i))
    only others None c = let clash : None ≡ Some i = (all.only c.0 None c.1).1 in absurd cc
    only others (Some (BadChunk j)) c =
        let number : Some j ≡ Some i = (all.only c.0 (Some j) c.1).1 in
        let same : j ≡ i = cc in
        (c.2, ap (λ (k : ℕ). Some (BadChunk k)) same)
    only others (Some (RawRange k)) c = let clash : None ≡ Some i = (all.only c.0 None c.1).1 in absurd cc
    only others (Some _) c = absurd c

bad_by : (plan : Steps) (settings : Settings) (file : List ℕ) (range : Range) (blocks : List (List ℕ)) (i : ℕ) (cause : Refusal) → (PicksFirst settings.pick → ⊥) → cause ≡ BadChunk i → AreOnlyRecordsIn file range blocks (Some i) → OnlyConverts plan settings file range [] (Some cause)
bad_by plan settings file range blocks i cause other is all =
    subst (λ (x : Refusal). OnlyConverts plan settings file range [] (Some x)) (sym is) (only_by plan settings file range [] (Some (BadChunk i)) (by settings.pick other))
  where
    by : (pick : Pick) → (PicksFirst pick → ⊥) → OnlyBy pick (kept_behind plan settings) file range [] (Some (BadChunk i))
    by First f = absurd (f tt)
    by Lowest f = let o = bad_twice (kept_behind plan settings) file range blocks i all in record { are = o.are; only = o.only }
    by Highest f = let o = bad_twice (kept_behind plan settings) file range blocks i all in record { are = o.are; only = o.only }

module _ (held : Option FileMap) (plan : Steps) (first ready : ReaderSeen) (buffers : ℕ) (is : ready ≡ record first { buffers = buffers }) (unread : first.next ≡ first.first) (stands : WhereKnown held first.name (StandsFor first)) where
  named : ready.name ≡ first.name
  named = ap (λ (r : ReaderSeen). r.name) is

  unread_still : ready.next ≡ ready.first
  unread_still = ap (λ (r : ReaderSeen). r.next) is ∙ unread ∙ sym (ap (λ (r : ReaderSeen). r.first) is)

  range_is : ready.range ≡ first.range
  range_is = ap (λ (r : ReaderSeen). r.range) is

  pub ready_here : (blocks : List (List ℕ)) (sieving : Sieving) → HoldFirst held ready (length ready.left) blocks → sieve.HasSifted (passing plan (records_after ready.head.bytes (concat blocks))) [] sieving → IsReady held first.name plan first.range sieving
  ready_here blocks sieving hold looked =
      let records = passing plan (records_after ready.head.bytes (concat blocks)) in
      let here = subst (λ (n : List ℕ). WhereKnown held n (λ file. HoldOnly file (take (length ready.left) ready.left) blocks)) named hold.hold in (
        records,
        looked,
        known_both held first.name (StandsFor first) (λ file. HoldOnly file (take (length ready.left) ready.left) blocks) (λ file. AreLooked sieving.settings.pick plan file first.range records)
            (λ file s h.
            let r = stands_ready first ready buffers file is s in
            let all = subst (λ (range : Range). AreOnlyRecordsIn file range blocks None) range_is (all_records_in ready file r unread_still blocks h) in
            looked_by sieving.settings.pick plan file first.range records blocks all (ap (λ (v : HeadView). passing plan (records_after v.bytes (concat blocks))) r.head))
            stands here,
      )

  pub refused_here : (settings : Settings) (n : ℕ) (blocks : List (List ℕ)) (cause : Refusal) → (PicksFirst settings.pick → ⊥) → HoldFirst held ready n blocks → EndsAfter held ready n (Some cause) → WhereKnown held first.name (λ file. OnlyConverts plan settings file first.range [] (Some cause))
  refused_here settings n blocks cause other hold ends =
      let here = subst (λ (m : List ℕ). WhereKnown held m (λ file. HoldOnly file (take n ready.left) blocks)) named hold.hold in
      let bad = subst (λ (m : List ℕ). WhereKnown held m (λ file. IsBadPiece file ready.left n)) named ends.2 in
      let both = known_both held first.name (λ file. HoldOnly file (take n ready.left) blocks) (λ file. IsBadPiece file ready.left n) (λ file. HoldOnly file (take n ready.left) blocks × IsBadPiece file ready.left n) (λ file h b. (h, b)) here bad in
      let number : ready.next + n ≡ ready.first + n = ap (λ (k : ℕ). k + n) unread_still in
      known_both held first.name (StandsFor first) (λ file. HoldOnly file (take n ready.left) blocks × IsBadPiece file ready.left n) (λ file. OnlyConverts plan settings file first.range [] (Some cause))
      (λ file s h.
      let all = records_in_before ready file (stands_ready first ready buffers file is s) unread_still n blocks h.0 h.1 in
      bad_by plan settings file first.range blocks (ready.first + n) cause other (ends.0 ∙ ap BadChunk number) (subst (λ (range : Range). AreOnlyRecordsIn file range blocks (Some (ready.first + n))) range_is all))
      stands both
