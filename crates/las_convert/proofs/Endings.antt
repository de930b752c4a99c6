-- How an output ends that records are converted into.
use Rattle.std.proofs.Common.{◌≡◌, ◌⊎◌, ℕ, Bool, true, false, List, [], ◌++◌, length, take, Option, Some, None}
use Rattle.std.proofs.Common.{Result, IfErr, OnErr, refl, sym, ◌∙◌, ap, subst}
use Rattle.std.specs.List.{concat}
use Rattle.std.proofs.lemmas.List.{append-nil, take_all}
use Rattle.std.proofs.lemmas.Result.{IfErr-weaker}
use Rattle.std.proofs.Common.{arith}
use Rattle.las_header.specs.declared.refusal.Refusal.{Refusal}
use Rattle.las_header.specs.declared.refusal.Refusal.TheVariants.{RawRange}
use Rattle.las_header.specs.Fields.{record_length_of}
use Rattle.las_header.specs.Plain.{plain_of, cut_all}
use Rattle.las_info.specs.Tallies.{TapSeen}
use Rattle.las_outside.specs.Drafts.{IsUnfinished}
use Rattle.las_outside.specs.Files.{FileMap, with_file}
use Rattle.las_outside.specs.Outside.{Outside, with_bytes}
use Rattle.laz_forms.specs.declared.fault.Fault.{Fault}
use Rattle.laz_forms.specs.declared.fault.Fault.TheVariants.{Refused, Read, Write, Memory}
use Rattle.laz_file.specs.Copying.{HoldFirst, LeavesUnfinished, with_reads}
use Rattle.laz_forms.specs.FileFaults.{HasCause}
use Rattle.laz_forms.specs.Outputs.{Output, draft_of, finished, front, patches_of, stopped}
use Rattle.laz_reader.specs.Reading.{ReaderSeen}
use Rattle.laz_writer.specs.Writing.{Stands, Stops, WriterSeen}
use Rattle.laz_file.proofs.Public.{leaves_end, leaves_part, held_after, create_left}
use Rattle.las_convert.specs.Adding.{Adds, EndsKeeping, Goes, Keeping, LeavesKept}
use Rattle.las_convert.specs.Converting.{EndsConverting, FinishesKept, LeavesConverting, RefusesKept, output_of}
use Rattle.las_convert.proofs.Shown.{seen_by}

-- an output that could not be created
pub begin_left : {T : Type 0} (r : Result T Fault) (old new : Outside) (reader : ReaderSeen) (name head : List ℕ)
    (chunk : Option ℕ) → head ≡ plain_of reader.head.bytes
    → IfErr r (λ fault. Stops fault old new ⊎ ((n : ℕ) × Stops fault
    (with_bytes old name (take n (front (record { name = name; head = head; chunk = chunk; counted = true }))))
    new))
    → OnErr r ((records : List ℕ) → LeavesUnfinished (output_of reader name chunk) records old.held new.held)
begin_left r old new reader name head chunk is =
    let out : Output = record { name = name; head = head; chunk = chunk; counted = true } in
    let same : out ≡ output_of reader name chunk =
    ap (λ (h : List ℕ). let o : Output = record { name = name; head = h; chunk = chunk; counted = true } in o) is in
    IfErr-weaker r (λ fault. Stops fault old new ⊎
    ((n : ℕ) × Stops fault (with_bytes old name (take n (front out))) new))
    _
    (λ fault stops records. subst (λ (o : Output). LeavesUnfinished o records old.held new.held) same
    (create_left old new out fault records stops))

-- the length of a record, by the reader and by the writer
pub adds_wide : (keeping : Keeping) (reader : ReaderSeen) (w : WriterSeen) (blocks ones : List (List ℕ))
    (refused : Bool) → w.size ≡ record_length_of reader.head.bytes
    → Adds keeping [] (cut_all w.size (concat blocks)) ones refused
    → Adds keeping [] (cut_all (record_length_of reader.head.bytes) (concat blocks)) ones refused
adds_wide keeping reader w blocks ones refused same adds =
    subst (λ (n : ℕ). Adds keeping [] (cut_all n (concat blocks)) ones refused) same adds

-- a fault with its cause, and what it leaves
pub ends_with : (known was : Option FileMap) (old now : Outside) (keeping : Keeping) (reader : ReaderSeen)
    (out : Output) (bytes : List ℕ) (fault : Fault) → HasCause old now fault
    → LeavesConverting known was now.held keeping reader out bytes
    → EndsConverting known was old now keeping reader out bytes fault
ends_with known was old now keeping reader out bytes (Refused cause) has left = absurd has
ends_with known was old now keeping reader out bytes Read has left = (has, left)
ends_with known was old now keeping reader out bytes Write has left = (has, left)
ends_with known was old now keeping reader out bytes Memory has left = left

-- what is left when all that is kept of some blocks went into the output
left_of : (known was now : Option FileMap) (keeping : Keeping) (reader : ReaderSeen) (out : Output) (bytes : List ℕ)
    (n : ℕ) (blocks ones : List (List ℕ)) (refused : Bool) → HoldFirst known reader n blocks
    → Adds keeping [] (cut_all (record_length_of reader.head.bytes) (concat blocks)) ones refused
    → ((more : List ℕ) → (n ≡ length reader.left → more ≡ [])
    → LeavesUnfinished out (bytes ++ (concat ones ++ more)) was now)
    → LeavesConverting known was now keeping reader out bytes
left_of known was now keeping reader out bytes n blocks ones refused hold adds left = record {
  n = n;
  blocks = blocks;
  first = cut_all (record_length_of reader.head.bytes) (concat blocks);
  rest = [];
  ones = ones;
  refused = refused;
  hold = hold;
  split = sym (append-nil (cut_all (record_length_of reader.head.bytes) (concat blocks)));
  adds = adds;
  left = λ more none. left more (λ all. none all refl);
}

module _ (old : Outside) (keeping : Keeping) (reader : ReaderSeen) (w : WriterSeen)
    (wide : w.size ≡ record_length_of reader.head.bytes) (n : ℕ) (blocks : List (List ℕ))
    (hold : HoldFirst old.held reader n blocks) (before : Outside) (out : Output) (bytes : List ℕ)
    (s : Stands before old w out bytes) where
  -- converting failed
  pub left_part : (new : Outside) → LeavesKept keeping [] w.size (concat blocks) old new w
      → LeavesConverting old.held before.held new.held keeping reader out bytes
  left_part new l =
      let p = l.part before out bytes s in
      record {
        n = n;
        blocks = blocks;
        first = l.first;
        rest = l.rest;
        ones = l.ones;
        refused = l.refused;
        hold = hold;
        split = ap (λ (k : ℕ). cut_all k (concat blocks)) (sym wide) ∙ l.split;
        adds = l.adds;
        left = λ more none. leaves_part before old w out bytes s (concat l.ones) more new.held p.0 p.1;
      }

  module _ (mid : Outside) (v : WriterSeen) (taps seen : List TapSeen) (count : ℕ) (refused : Bool)
      (g : Goes keeping [] w.size (concat blocks) old mid w v taps seen count refused) where
    adds_here : Adds keeping [] (cut_all (record_length_of reader.head.bytes) (concat blocks)) g.ones refused
    adds_here = adds_wide keeping reader w blocks g.ones refused wide g.adds

    -- finishing failed
    pub left_finish : (new : Outside) (fault : Fault) (left : List ℕ) → n ≡ length reader.left
        → IsUnfinished (draft_of out (bytes ++ concat g.ones)) (patches_of out (bytes ++ concat g.ones)) left
        → Stops fault (with_bytes (with_reads before mid) out.name left) new
        → LeavesConverting old.held before.held new.held keeping reader out bytes
    left_finish new fault left all is stops =
        left_of old.held before.held new.held keeping reader out bytes n blocks g.ones refused hold adds_here
        (λ more none. leaves_end before out bytes (concat g.ones) more new.held left (none all) is
        (held_after fault (with_bytes (with_reads before mid) out.name left) new stops))

    -- stopping failed
    pub left_stop : (new : Outside) (fault : Fault) (k : ℕ)
        → Stops fault (with_bytes (with_reads before mid) out.name (take k (stopped out (bytes ++ concat g.ones)))) new
        → LeavesConverting old.held before.held new.held keeping reader out bytes
    left_stop new fault k stops =
        let text = take k (stopped out (bytes ++ concat g.ones)) in
        left_of old.held before.held new.held keeping reader out bytes n blocks g.ones refused hold adds_here
        (λ more none. leaves_part before old w out bytes s (concat g.ones) more new.held k
        (held_after fault (with_bytes (with_reads before mid) out.name text) new stops))

    pub finished_all : (now : Option FileMap) → EndsKeeping old.held reader n count refused None
        → now ≡ with_file before.held out.name (finished out (bytes ++ concat g.ones))
        → FinishesKept old.held before.held now keeping reader out bytes taps seen
    finished_all now ends is = by refused ends adds_here
      where
        by : (r : Bool) → EndsKeeping old.held reader n count r None
            → Adds keeping [] (cut_all (record_length_of reader.head.bytes) (concat blocks)) g.ones r
            → FinishesKept old.held before.held now keeping reader out bytes taps seen
        by true e adds = absurd (let clash : None ≡ Some (RawRange count) = e in cc)
        by false e adds = record {
          blocks = blocks;
          ones = g.ones;
          hold = subst (λ (k : ℕ). HoldFirst old.held reader k blocks) e hold;
          adds = adds;
          now_is = is;
          shown = subst (λ (n : ℕ). seen ≡ seen_by n (concat g.ones) taps) wide g.shown;
        }

    pub ends_all : EndsKeeping old.held reader n count refused None → n ≡ length reader.left
    ends_all ends = by refused ends
      where
        by : (r : Bool) → EndsKeeping old.held reader n count r None → n ≡ length reader.left
        by true e = absurd (let clash : None ≡ Some (RawRange count) = e in cc)
        by false e = e

    pub refused_here : (cause : Refusal) (now : Option FileMap)
        → EndsKeeping old.held reader n count refused (Some cause)
        → now ≡ with_file before.held out.name (stopped out (bytes ++ concat g.ones))
        → RefusesKept old.held before.held now keeping reader out bytes cause
    refused_here cause now ends is = record {
      n = n;
      blocks = blocks;
      ones = g.ones;
      refused = refused;
      hold = hold;
      adds = adds_here;
      ends = subst (λ (k : ℕ). EndsKeeping old.held reader n k refused (Some cause)) g.count_is ends;
      now_is = is;
    }

-- what a fault leaves, a refusal too
pub ends_left : (known : Option FileMap) (before old new : Outside) (keeping : Keeping) (reader : ReaderSeen)
    (w : WriterSeen) (out : Output) (bytes : List ℕ) (fault : Fault) → Stands before old w out bytes
    → EndsConverting known before.held old new keeping reader out bytes fault
    → LeavesConverting known before.held new.held keeping reader out bytes
ends_left known before old new keeping reader w out bytes (Refused cause) s e =
    let text = stopped out (bytes ++ concat e.ones) in
    left_of known before.held new.held keeping reader out bytes e.n e.blocks e.ones e.refused e.hold e.adds
    (λ more none. leaves_part before old w out bytes s (concat e.ones) more new.held (length text)
    (e.now_is ∙ ap (with_file before.held out.name) (sym (take_all (length text) text (omega arith)))))
ends_left known before old new keeping reader w out bytes Read s e = e.1
ends_left known before old new keeping reader w out bytes Write s e = e.1
ends_left known before old new keeping reader w out bytes Memory s e = e
