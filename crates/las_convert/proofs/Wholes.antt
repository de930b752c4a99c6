-- An output that was begun, and then filled with what a plan keeps of the records of a fresh reader.
use Rattle.std.proofs.Common.{◌≡◌, ◌≢◌, ◌⊎◌, inl, inr, ℕ, ◌+◌, ◌<◌, Bool, true, false, List, [], ◌++◌, length, map, take, Option, Some, None, sym, ◌∙◌, ap, subst, arith}
use Rattle.std.specs.List.{concat}
use Rattle.las_header.specs.declared.refusal.Refusal.{Refusal}
use Rattle.las_header.specs.declared.refusal.Refusal.TheVariants.{BadChunk, RawRange}
use Rattle.las_header.specs.Fields.{head_of, record_length_of}
use Rattle.las_header.specs.Heads.{HeadView}
use Rattle.las_header.specs.Plain.{plain_of, cut_all}
use Rattle.las_filter.specs.Kept.{Steps}
use Rattle.las_info.specs.Tallies.{TapSeen, shown_all}
use Rattle.las_thin.specs.Placed.{Placed}
use Rattle.las_thin.specs.Sieving.{PicksFirst, Settings}
use Rattle.las_outside.specs.Files.{FileMap, WhereKnown, with_file}
use Rattle.las_outside.specs.Outside.{Outside}
use Rattle.laz_file.specs.Copying.{HoldFirst, LeavesUnfinished}
use Rattle.laz_forms.specs.Outputs.{Output, finished, records_after, stopped}
use Rattle.laz_forms.specs.Pieces.{Piece}
use Rattle.laz_reader.specs.Reading.{ReaderSeen, StandsFor}
use Rattle.laz_forms.specs.Records.{HoldOnly, IsBadPiece}
use Rattle.laz_writer.specs.Writing.{Stands, WriterSeen}
use Rattle.laz_forms.proofs.Public.{known_both, record_least}
use Rattle.laz_writer.proofs.Public.{held_text}
use Rattle.laz_file.proofs.Public.{known_after, known_before, hold_ready}
use Rattle.las_convert.specs.Adding.{Adds, EndsKeeping, Keeping, kept_by}
use Rattle.las_convert.specs.Converting.{AreLooked, ConvertsTo, FinishesKept, LeavesConverting, OnlyConverts, RefusesKept, converted_output, output_of}
use Rattle.las_convert.proofs.Readings.{bad_once, settled_all, settled_bad, settled_left, settled_raw}

pub converted_out : (first reader : ReaderSeen) (file name : List ℕ) (chunk : Option ℕ) → StandsFor first file → reader.head ≡ first.head → output_of reader name chunk ≡ converted_output name file chunk
converted_out first reader file name chunk st same =
    ap (λ (h : HeadView). let out : Output = record { name = name; head = plain_of h.bytes; chunk = chunk; counted = true } in out) (same ∙ st.head)

some_same : (x y : Refusal) → Some x ≡ Some y → x ≡ y
some_same x y e = cc

pub refused_kind : (known was now : Option FileMap) (keeping : Keeping) (reader : ReaderSeen) (out : Output) (bytes : List ℕ) (cause : Refusal) → RefusesKept known was now keeping reader out bytes cause → ((i : ℕ) × (cause ≡ BadChunk i)) ⊎ ((k : ℕ) × (cause ≡ RawRange k))
refused_kind known was now keeping reader out bytes cause r = by r.refused r.ends
  where
    by : (b : Bool) → EndsKeeping known reader r.n (length r.ones) b (Some cause) → ((i : ℕ) × (cause ≡ BadChunk i)) ⊎ ((k : ℕ) × (cause ≡ RawRange k))
    by true e = inr (length r.ones, some_same cause (RawRange (length r.ones)) e)
    by false e = inl (reader.next + r.n, e.0)

-- The output was begun for a fresh reader, with a sieve that has these settings and is ready.
pub record IsBegunFor (old mid : Outside) (plan : Steps) (settings : Settings) (looked : List Placed) (first reader : ReaderSeen) (w : WriterSeen) (output : List ℕ) (chunk : Option ℕ) (now : Settings) : Type 0 where
  pub buffers : ℕ
  pub ready : reader ≡ record first { buffers = buffers }
  pub unread : first.next ≡ first.first
  pub wide : w.size ≡ record_length_of reader.head.bytes
  pub begun : Stands old mid w (output_of reader output chunk) []
  pub apart : output ≢ first.name
  pub stands : WhereKnown old.held first.name (StandsFor first)
  pub are_looked : WhereKnown old.held first.name (λ file. AreLooked settings.pick plan file first.range looked)
  pub same : now ≡ settings

module _ {old mid : Outside} {plan : Steps} {settings : Settings} {looked : List Placed} {first reader : ReaderSeen} {w : WriterSeen} {output : List ℕ} {chunk : Option ℕ} {now : Settings} (new : Outside) (start : IsBegunFor old mid plan settings looked first reader w output chunk now) where
  abbrev out : Output
  out = output_of reader output chunk

  ne : first.name ≢ output
  ne same = start.apart (sym same)

  abbrev keeping : Keeping
  keeping = kept_by settings looked plan

  both : WhereKnown old.held first.name (λ file. StandsFor first file × AreLooked settings.pick plan file first.range looked)
  both = known_both old.held first.name (StandsFor first) (λ file. AreLooked settings.pick plan file first.range looked)
      (λ file. StandsFor first file × AreLooked settings.pick plan file first.range looked) (λ file st r. (st, r))
      start.stands start.are_looked

  text : List ℕ
  text = (held_text old mid w out [] start.begun).0

  written : mid.held ≡ with_file old.held out.name text
  unfolding text
  written = ap (λ (o : Outside). o.held) (held_text old mid w out [] start.begun).1

  -- what is known of the file stays known while the output is written
  pub known_here : (P : List ℕ → Type 0) → WhereKnown old.held first.name P → WhereKnown mid.held reader.name P
  known_here P k =
      subst (λ (name : List ℕ). WhereKnown mid.held name P) (sym (ap (λ (r : ReaderSeen). r.name) start.ready))
      (subst (λ (h : Option FileMap). WhereKnown h first.name P) (sym written) (known_after old.held out.name text first.name P ne k))

  same_head : reader.head ≡ first.head
  same_head = ap (λ (r : ReaderSeen). r.head) start.ready

  same_left : reader.left ≡ first.left
  same_left = ap (λ (r : ReaderSeen). r.left) start.ready

  some : 0 < record_length_of first.head.bytes
  some = subst (λ (h : HeadView). 0 < record_length_of h.bytes) same_head
      (omega (arith, start.wide, start.begun.size, record_least out.head start.begun.head))

  first_hold : (n : ℕ) (blocks : List (List ℕ)) → HoldFirst mid.held reader n blocks → HoldFirst old.held first n blocks
  first_hold n blocks h = hold_ready mid.held old.held first reader start.buffers out.name text n blocks start.ready
      written ne h

  first_adds : (blocks ones : List (List ℕ)) (refused : Bool) → Adds keeping [] (cut_all (record_length_of reader.head.bytes) (concat blocks)) ones refused → Adds keeping [] (cut_all (record_length_of first.head.bytes) (concat blocks)) ones refused
  first_adds blocks ones refused adds = subst (λ (h : HeadView). Adds keeping [] (cut_all (record_length_of h.bytes) (concat blocks)) ones refused) same_head adds

  pub finishes : {taps seen : List TapSeen} → FinishesKept mid.held old.held new.held keeping reader out [] taps seen
      → WhereKnown old.held first.name
      (λ file. (records : List ℕ) × OnlyConverts plan settings file first.range records None
      × (new.held ≡ with_file old.held output (finished out records))
      × (seen ≡ map (λ tap. shown_all tap (records_after (head_of file) records)) taps))
  finishes {taps} {seen} f =
      let n = length reader.left in
      let h = first_hold n f.blocks f.hold in
      known_both old.held first.name (λ file. StandsFor first file × AreLooked settings.pick plan file first.range looked) (λ file. HoldOnly file (take n first.left) f.blocks)
      (λ file. (records : List ℕ) × OnlyConverts plan settings file first.range records None
      × (new.held ≡ with_file old.held output (finished out records))
      × (seen ≡ map (λ tap. shown_all tap (records_after (head_of file) records)) taps))
      (λ file st ho. (
        concat f.ones,
        settled_all plan settings looked first file st.0 start.unread some n f.blocks h.within h.whole ho st.1 f.ones
            (first_adds f.blocks f.ones false f.adds) (ap (λ (ps : List Piece). length ps) same_left),
        f.now_is,
        f.shown ∙ ap (λ (v : HeadView). map (λ tap. shown_all tap (cut_all (record_length_of v.bytes) (concat f.ones))) taps) (same_head ∙ st.0.head),
      )) both h.hold

  pub refuses : (cause : Refusal) → RefusesKept mid.held old.held new.held keeping reader out [] cause
      → WhereKnown old.held first.name
      (λ file. (records : List ℕ) × OnlyConverts plan settings file first.range records (Some cause)
      × (new.held ≡ with_file old.held output (stopped out records)))
  refuses cause r = by r.refused r.ends r.adds
    where
      by : (b : Bool) → EndsKeeping mid.held reader r.n (length r.ones) b (Some cause)
          → Adds keeping [] (cut_all (record_length_of reader.head.bytes) (concat r.blocks)) r.ones b
          → WhereKnown old.held first.name
          (λ file. (records : List ℕ) × OnlyConverts plan settings file first.range records (Some cause)
          × (new.held ≡ with_file old.held output (stopped out records)))
      by true e adds =
          let h = first_hold r.n r.blocks r.hold in
          known_both old.held first.name (λ file. StandsFor first file
          × AreLooked settings.pick plan file first.range looked)
          (λ file. HoldOnly file (take r.n first.left) r.blocks)
          (λ file. (records : List ℕ) × OnlyConverts plan settings file first.range records (Some cause)
          × (new.held ≡ with_file old.held output (stopped out records)))
          (λ file st ho. (
            concat r.ones,
            settled_raw plan settings looked first file st.0 start.unread some r.n r.blocks
                h.within h.whole ho st.1 r.ones (first_adds r.blocks r.ones true adds) cause
                (some_same cause (RawRange (length r.ones)) e),
            r.now_is,
          )) both h.hold
      by false e adds =
          let h = first_hold r.n r.blocks r.hold in
          let bad : WhereKnown old.held first.name (λ file. IsBadPiece file first.left r.n) =
          known_before old.held out.name text first.name (λ file. IsBadPiece file first.left r.n) ne
          (subst (λ (k : Option FileMap). WhereKnown k first.name (λ file. IsBadPiece file first.left r.n)) written
          (subst (λ (x : ReaderSeen). WhereKnown mid.held x.name (λ file. IsBadPiece file x.left r.n)) start.ready e.2))
          in
          let number : reader.next + r.n ≡ first.first + r.n = omega
          (arith, ap (λ (x : ReaderSeen). x.next) start.ready, start.unread) in
          known_both old.held first.name (λ file.
          (StandsFor first file × AreLooked settings.pick plan file first.range looked)
          × HoldOnly file (take r.n first.left) r.blocks) (λ file. IsBadPiece file first.left r.n)
          (λ file. (records : List ℕ) × OnlyConverts plan settings file first.range records (Some cause)
          × (new.held ≡ with_file old.held output (stopped out records)))
          (λ file a b. (
            concat r.ones,
            settled_bad plan settings looked first file a.0.0 start.unread some r.n r.blocks
                h.within h.whole a.1 a.0.1 r.ones (first_adds r.blocks r.ones false adds) cause (e.0 ∙ ap BadChunk number)
                b,
            r.now_is,
          ))
          (known_both old.held first.name (λ file. StandsFor first file × AreLooked settings.pick plan file first.range looked) (λ file. HoldOnly file (take r.n first.left) r.blocks) (λ file. (StandsFor first file × AreLooked settings.pick plan file first.range looked) × HoldOnly file (take r.n first.left) r.blocks) (λ file st ho. (st, ho)) both h.hold) bad

  -- a bad chunk comes in the only reading
  pub once : (i : ℕ) → RefusesKept mid.held old.held new.held keeping reader out [] (BadChunk i) → WhereKnown old.held first.name (λ file. PicksFirst settings.pick)
  once i r = by r.refused r.ends
    where
      by : (b : Bool) → EndsKeeping mid.held reader r.n (length r.ones) b (Some (BadChunk i)) → WhereKnown old.held first.name (λ file. PicksFirst settings.pick)
      by true e = absurd (let clash : BadChunk i ≡ RawRange (length r.ones) = some_same (BadChunk i) (RawRange (length r.ones)) e in cc)
      by false e =
          let h = first_hold r.n r.blocks r.hold in
          let bad : WhereKnown old.held first.name (λ file. IsBadPiece file first.left r.n) =
          known_before old.held out.name text first.name (λ file. IsBadPiece file first.left r.n) ne
          (subst (λ (k : Option FileMap). WhereKnown k first.name (λ file. IsBadPiece file first.left r.n)) written
          (subst (λ (x : ReaderSeen). WhereKnown mid.held x.name (λ file. IsBadPiece file x.left r.n)) start.ready e.2))
          in
          known_both old.held first.name (λ file. (StandsFor first file × AreLooked settings.pick plan file first.range looked) × HoldOnly file (take r.n first.left) r.blocks) (λ file. IsBadPiece file first.left r.n) (λ file. PicksFirst settings.pick)
          (λ file a b. bad_once plan settings looked first file a.0.0 start.unread some r.n r.blocks h.within h.whole
          a.1 a.0.1 b)
          (known_both old.held first.name (λ file. StandsFor first file × AreLooked settings.pick plan file first.range looked) (λ file. HoldOnly file (take r.n first.left) r.blocks) (λ file. (StandsFor first file × AreLooked settings.pick plan file first.range looked) × HoldOnly file (take r.n first.left) r.blocks) (λ file st ho. (st, ho)) both h.hold) bad

  pub leaves : LeavesConverting mid.held old.held new.held keeping reader out [] → WhereKnown old.held first.name (λ file. (records : List ℕ) (refusal : Option Refusal) → ConvertsTo plan settings file first.range records refusal → LeavesUnfinished out records old.held new.held)
  leaves l =
      let h = first_hold l.n l.blocks l.hold in
      let split = subst (λ (v : HeadView). cut_all (record_length_of v.bytes) (concat l.blocks) ≡ l.first ++ l.rest) same_head l.split in
      known_both old.held first.name (λ file. StandsFor first file × AreLooked settings.pick plan file first.range looked) (λ file. HoldOnly file (take l.n first.left) l.blocks) (λ file. (records : List ℕ) (refusal : Option Refusal) → ConvertsTo plan settings file first.range records refusal → LeavesUnfinished out records old.held new.held)
      (λ file st ho. settled_left plan settings looked first file st.0 start.unread some l.n l.blocks h.within h.whole
      ho st.1 l.first l.rest l.ones l.refused split l.adds out old.held new.held
      (λ more none. l.left more (λ all empty. none (all ∙ ap (λ (ps : List Piece). length ps) same_left) empty)))
      both h.hold
