-- How converting a file ends, as a call that makes files.
use Rattle.std.proofs.Common.{◌≡◌, ◌⊎◌, inl, inr, ℕ, Bool, true, false, if◌then◌else◌, List, [], ◌∷◌, map, Option}
use Rattle.std.proofs.Common.{Some, None, is_none, Result, Ok, Err, IfErr, OnOk, refl, sym, ◌∙◌, ap, subst}
use Rattle.std.specs.Prelude.{IsErrAnd}
use Rattle.std.specs.FinMap as finmap
use Rattle.std.proofs.lemmas.Result.{on_ok_weaker}
use Rattle.std.proofs.lemmas.Option.{none-some}
use Rattle.las_filter.specs.Kept.{Steps}
use Rattle.las_header.specs.declared.refusal.Refusal.{Refusal}
use Rattle.las_header.specs.declared.refusal.Refusal.TheVariants.{BadChunk, RawRange}
use Rattle.las_header.specs.Fields.{head_of}
use Rattle.las_info.specs.Tallies.{TapSeen, shown_all}
use Rattle.las_info.proofs.Public.{mapped}
use Rattle.las_outside.specs.Faults.{Rose}
use Rattle.las_outside.specs.Files.{FileMap, WhereKnown, with_file}
use Rattle.las_outside.specs.Frames.{IsCalm}
use Rattle.las_outside.specs.Outside.{Outside}
use Rattle.las_thin.specs.declared.pick.Pick.{Pick}
use Rattle.las_thin.specs.declared.pick.Pick.TheVariants.{First, Lowest, Highest}
use Rattle.las_thin.specs.Kept.{kept_behind}
use Rattle.las_thin.specs.Placed.{Placed}
use Rattle.las_thin.specs.Sieving.{PicksFirst, Settings}
use Rattle.laz_forms.specs.declared.fault.Fault.{Fault}
use Rattle.laz_forms.specs.declared.fault.Fault.TheVariants.{Refused, Read, Write, Memory}
use Rattle.laz_forms.specs.FileFaults.{HasCause}
use Rattle.laz_forms.specs.Outputs.{Output, finished, records_after, stopped}
use Rattle.laz_forms.specs.Ranges.{Range}
use Rattle.laz_forms.proofs.Public.{known_both, known_then}
use Rattle.laz_file.specs.Copying.{LeavesUnfinished}
use Rattle.laz_file.specs.Endings.{EndsMaking, IsOnlyProduct, LeavesFiles, LeavesOf, MakesAs, MakesOutput, OutputFile}
use Rattle.laz_file.specs.Endings.{Product, at_end, files_after, output_file, writes}
use Rattle.laz_file.proofs.Public.{ends_err, err_at, left_before, left_done, left_one, some_files}
use Rattle.laz_reader.specs.Reading.{EndsReading, ReaderSeen, StandsFor}
use Rattle.laz_writer.specs.Writing.{WriterSeen}
use Rattle.las_convert.specs.Adding.{kept_by}
use Rattle.las_convert.specs.Converting.{AreLooked, Converts, ConvertsBy, EndsConverting, FinishesKept, Gives}
use Rattle.las_convert.specs.Converting.{GivesOnly, OnlyConverts, RefusesKept, StopsLooking, Wanted, converted_output}
use Rattle.las_convert.specs.Converting.{has_output, output_of, wanted_of, writes_kept}
use Rattle.las_convert.proofs.Endings.{ends_left}
use Rattle.las_convert.proofs.Wholes.{IsBegunFor, converted_out, finishes, leaves, once, refused_kind, refuses}

-- what ends with a fault ends with no other one
pub is_fault : (r : Result (Unit {0}) Fault) (e other : Fault) → IsErrAnd r (λ x. x ≡ e) → r ≡ Err other → e ≡ other
is_fault (Ok x) e other is err = absurd is
is_fault (Err x) e other is err = cc

-- a read that ended after others that went well
pub ends_since :
    (old mid new : Outside) (e : Fault) → mid.read_faults ≡ old.read_faults → EndsReading ⊥ mid new e →
    EndsReading ⊥ old new e
ends_since old mid new (Refused cause) same ends = ends ∙ same
ends_since old mid new Read same (inl none) = absurd none
ends_since old mid new Read same (inr rose) = inr (subst (λ (n : ℕ). Rose n new.read_faults) same rose)
ends_since old mid new Write same ends = ends
ends_since old mid new Memory same ends = ends ∙ same

-- ---- whether there is an output

-- records that were looked at hold no bad chunk
if_looked : (pick : Pick) (plan : Steps) (settings : Settings) (file : List ℕ) (range : Range) (records : List ℕ)
    (refusal : Option Refusal) (placed : List Placed) → AreLooked pick plan file range placed
    → ConvertsBy pick (kept_behind plan settings) file range records refusal
    → has_output pick refusal ≡ true
if_looked First plan settings file range records refusal placed looked converts = refl
if_looked Lowest plan settings file range records None placed looked converts = refl
if_looked Lowest plan settings file range records (Some (BadChunk i)) placed looked converts = absurd
    (none-some i (sym (looked.1.only converts.0 (Some i) converts.1).1))
if_looked Lowest plan settings file range records (Some cause) placed looked converts = refl
if_looked Highest plan settings file range records None placed looked converts = refl
if_looked Highest plan settings file range records (Some (BadChunk i)) placed looked converts = absurd
    (none-some i (sym (looked.1.only converts.0 (Some i) converts.1).1))
if_looked Highest plan settings file range records (Some cause) placed looked converts = refl

-- ---- outputs
name_at : (done : Bool) (file : OutputFile) → (at_end done file).0 ≡ file.name
name_at true file = refl
name_at false file = refl

-- ---- what converting makes of a file
module _ (wanted : Wanted) (output : List ℕ) (chunk : Option ℕ) (name : List ℕ) (old new : Outside) where
  abbrev Makes : (file : List ℕ) → Product → Type 0
  Makes file product = Converts wanted output chunk file product

  abbrev out : (file : List ℕ) → Output
  out file = converted_output output file chunk

  -- the product, by whether there is an output
  abbrev product_if : Bool → (file records : List ℕ) → Option Refusal → Product
  product_if some file records refusal = record
      { files = if some then output_file (out file) records ∷ [] else []; refusal = refusal }

  abbrev pub HasOutputs : (file : List ℕ) → Type 0
  HasOutputs file = (records : List ℕ) (refusal : Option Refusal) → Gives wanted file records refusal
      → has_output wanted.settings.pick refusal ≡ true

  product_is : (file : List ℕ) → HasOutputs file → (product : Product) (makes : Makes file product)
      → product ≡ writes (out file) makes.0 makes.1
  product_is file has product makes = makes.3
      ∙ ap (λ (b : Bool). product_if b file makes.0 makes.1) (has makes.0 makes.1 makes.2)

  -- what is given alone is one product
  only_product : (file records : List ℕ) (refusal : Option Refusal) → GivesOnly wanted file records refusal
      → IsOnlyProduct (Makes file) (writes_kept wanted.settings.pick (out file) records refusal)
  only_product file records refusal only = record {
    makes = (records, refusal, only.are, refl);
    only = λ other makes.
        let same = only.only makes.0 makes.1 makes.2 in
        makes.3
        ∙ ap (λ (rs : List ℕ). writes_kept wanted.settings.pick (out file) rs makes.1) same.0
        ∙ ap (writes_kept wanted.settings.pick (out file) records) same.1;
  }

  -- all is done, or a refusal has ended it
  abbrev pub IsMade : Option Refusal → (file : List ℕ) → Type 0
  IsMade refusal file = (records : List ℕ) × GivesOnly wanted file records refusal
      × (new.held ≡ with_file old.held output (at_end (is_none refusal) (output_file (out file) records)).1)

  held_after : (refusal : Option Refusal) (file : List ℕ) → HasOutputs file
      → (made : IsMade refusal file) (files : FileMap) → old.held ≡ Some files
      → new.held ≡ Some (files_after (writes_kept wanted.settings.pick (out file) made.0 refusal) files)
  held_after refusal file has made files known =
      let done = is_none refusal in
      let one = output_file (out file) made.0 in
      made.2
      ∙ ap (λ (o : Option FileMap). with_file o output (at_end done one).1) known
      ∙ ap (λ (n : List ℕ). Some (finmap.insert files n (at_end done one).1)) (sym (name_at done one))
      ∙ ap (λ (b : Bool). Some (files_after (product_if b file made.0 refusal) files))
      (sym (has made.0 refusal made.1.are))

  makes_as : (refusal : Option Refusal) → WhereKnown old.held name HasOutputs
      → WhereKnown old.held name (IsMade refusal) → MakesAs Makes name old new refusal
  makes_as refusal outputs made = known_both old.held name HasOutputs (IsMade refusal) _
      (λ file has m. (
        writes_kept wanted.settings.pick (out file) m.0 refusal,
        only_product file m.0 refusal m.1,
        refl,
        held_after refusal file has m,
      )) outputs made

  -- what is left
  abbrev pub Leaves : (file : List ℕ) → Type 0
  Leaves file = (records : List ℕ) (refusal : Option Refusal) → Gives wanted file records refusal
      → LeavesUnfinished (out file) records old.held new.held

  left_of : WhereKnown old.held name HasOutputs → WhereKnown old.held name Leaves → LeavesOf Makes name old new
  left_of outputs leaves = known_both old.held name HasOutputs Leaves _
      (λ file has l files product known makes.
      let h = left_one (out file) makes.0 old.held new.held files (l makes.0 makes.1 makes.2) known in
      (h.0, h.1, subst (λ (p : Product). LeavesFiles p.files files h.0) (sym (product_is file has product makes)) h.2))
      outputs leaves

  some_output : WhereKnown old.held name HasOutputs → MakesOutput Makes name old
  some_output outputs = known_then old.held name HasOutputs _
      (λ file has product makes. some_files product.files _ _
      (ap (λ (p : Product). p.files) (product_is file has product makes))) outputs

  pub ends_fault : (T : Type 0) (fault : Fault) → HasCause old new fault → WhereKnown old.held name HasOutputs
      → WhereKnown old.held name Leaves → EndsMaking {T = T} Makes name old new (Err fault)
  ends_fault T (Refused cause) has outputs leaves = absurd has
  ends_fault T Read has outputs leaves = (has, left_of outputs leaves)
  ends_fault T Write has outputs leaves = (has, some_output outputs, left_of outputs leaves)
  ends_fault T Memory has outputs leaves = left_of outputs leaves

  ends_refused : (T : Type 0) (cause : Refusal) → WhereKnown old.held name HasOutputs
      → WhereKnown old.held name (IsMade (Some cause)) → WhereKnown old.held name Leaves
      → EndsMaking {T = T} Makes name old new (Err (Refused cause))
  ends_refused T cause outputs made leaves = (makes_as (Some cause) outputs made, left_of outputs leaves)

  ends_done : (T : Type 0) (x : T) → WhereKnown old.held name HasOutputs → WhereKnown old.held name (IsMade None)
      → IsCalm old new → EndsMaking Makes name old new (Ok x)
  ends_done T x outputs made calm = let all = makes_as None outputs made in (all, left_done Makes name old new all, calm)

-- ---- the first of two readings stops
-- a bad chunk that it found leaves no output
no_output : (pick : Pick) (i : ℕ) → (PicksFirst pick → ⊥) → has_output pick (Some (BadChunk i)) ≡ false
no_output First i twice = absurd (twice tt)
no_output Lowest i twice = refl
no_output Highest i twice = refl

module _ (plan : Steps) (settings : Settings) (range : Range) (name : List ℕ) (P : List ℕ → Type 0) (old new : Outside) (stands : WhereKnown old.held name P) (same : new.held ≡ old.held) where
  abbrev asked : Wanted
  asked = wanted_of plan settings range

  abbrev Converted : List ℕ → Option ℕ → (file : List ℕ) → Product → Type 0
  Converted output chunk file product = Converts asked output chunk file product

  unchanged : (output : List ℕ) (chunk : Option ℕ) → LeavesOf (Converted output chunk) name old new
  unchanged output chunk = left_before (Converted output chunk) name old new P stands same

  pub stops_short : StopsLooking asked name old new Memory
  stops_short output chunk = unchanged output chunk

  stops : (PicksFirst settings.pick → ⊥) → (fault : Fault)
      → ((cause : Refusal) → fault ≡ Refused cause
      → WhereKnown old.held name (λ file. OnlyConverts plan settings file range [] (Some cause)))
      → ((cause : Refusal) → fault ≡ Refused cause → (i : ℕ) × (cause ≡ BadChunk i)) → EndsReading ⊥ old new fault
      → StopsLooking asked name old new fault
  stops twice (Refused cause) refused bad ends output chunk =
      let b = bad cause refl in
      let none : has_output settings.pick (Some cause) ≡ false = ap (λ (c : Refusal). has_output settings.pick (Some c))
      b.1 ∙ no_output settings.pick b.0 twice in (
        known_then old.held name (λ file. OnlyConverts plan settings file range [] (Some cause)) _
            (λ file only. (
              writes_kept settings.pick (converted_output output file chunk) [] (Some cause),
              only_product asked output chunk name old new file [] (Some cause) only,
              refl,
              λ files known. same ∙ known ∙ ap
                  (λ (b : Bool). Some (files_after (product_if asked output chunk name old new b file [] (Some cause))
                  files)) (sym none),
            )) (refused cause refl),
        unchanged output chunk,
      )
  stops twice Read refused bad ends output chunk =
      (elim ends [ inl none ↦ absurd none | inr rose ↦ rose ], unchanged output chunk)
  stops twice Write refused bad ends output chunk = absurd ends
  stops twice Memory refused bad ends output chunk = unchanged output chunk

  pub stops_looking : {T : Type 0} → (PicksFirst settings.pick → ⊥) → (outcome : Result T Fault)
      → ((cause : Refusal) → outcome ≡ Err (Refused cause)
      → WhereKnown old.held name (λ file. OnlyConverts plan settings file range [] (Some cause)))
      → ((cause : Refusal) → outcome ≡ Err (Refused cause) → (i : ℕ) × (cause ≡ BadChunk i))
      → IfErr outcome (EndsReading ⊥ old new) → IfErr outcome (StopsLooking asked name old new)
  stops_looking twice (Ok x) refused bad ends = tt
  stops_looking twice (Err fault) refused bad ends = stops twice fault (λ cause is. refused cause (ap Err is))
      (λ cause is. bad cause (ap Err is)) ends

-- ---- the output of a fresh reader
-- a sieve that is ready makes an output
outputs_of : (held : Option FileMap) (name : List ℕ) (plan : Steps) (settings : Settings) (range : Range)
    (looked : List Placed) (old new : Outside) (output : List ℕ) (chunk : Option ℕ)
    → WhereKnown held name (λ file. AreLooked settings.pick plan file range looked)
    → WhereKnown held name (HasOutputs (wanted_of plan settings range) output chunk name old new)
outputs_of held name plan settings range looked old new output chunk are = known_then held name
    (λ file. AreLooked settings.pick plan file range looked) _
    (λ file l records refusal gives. if_looked settings.pick plan settings file range records refusal looked l gives)
    are

-- What holds of a reader's output holds of that of its file.
of_file : (held : Option FileMap) (first reader : ReaderSeen) (output : List ℕ) (chunk : Option ℕ)
    → reader.head ≡ first.head → WhereKnown held first.name (StandsFor first) → (P : Output → List ℕ → Type 0)
    → WhereKnown held first.name (P (output_of reader output chunk))
    → WhereKnown held first.name (λ file. P (converted_output output file chunk) file)
of_file held first reader output chunk same stands P p = known_both held first.name (StandsFor first)
    (P (output_of reader output chunk)) (λ file. P (converted_output output file chunk) file)
    (λ file st h. subst (λ (o : Output). P o file) (converted_out first reader file output chunk st same) h) stands p

abbrev LeavesOutput : (wanted : Wanted) → (held now : Option FileMap) → Output → (file : List ℕ) → Type 0
LeavesOutput wanted held now o file = (records : List ℕ) (refusal : Option Refusal) → Gives wanted file records refusal
    → LeavesUnfinished o records held now

-- it could not be begun
pub ends_begun : (old new : Outside) (plan : Steps) (settings : Settings) (looked : List Placed)
    (first reader : ReaderSeen) (output : List ℕ) (chunk : Option ℕ) → reader.head ≡ first.head
    → WhereKnown old.held first.name (StandsFor first)
    → WhereKnown old.held first.name (λ file. AreLooked settings.pick plan file first.range looked)
    → (T : Type 0) (outcome : Result T Fault) (fault : Fault) → IsErrAnd outcome (λ e. e ≡ fault)
    → HasCause old new fault
    → ((records : List ℕ) → LeavesUnfinished (output_of reader output chunk) records old.held new.held)
    → EndsMaking (Converts (wanted_of plan settings first.range) output chunk) first.name old new outcome
ends_begun old new plan settings looked first reader output chunk same stands are T outcome fault is has left =
    let wanted = wanted_of plan settings first.range in
    ends_err (Converts wanted output chunk) first.name old new T outcome fault is
    (ends_fault wanted output chunk first.name old new T fault has
    (outputs_of old.held first.name plan settings first.range looked old new output chunk are)
    (of_file old.held first reader output chunk same stands (LeavesOutput wanted old.held new.held)
    (known_then old.held first.name (StandsFor first) _ (λ file st records refusal gives. left records) stands)))

-- ---- the output was begun, and then filled
module _ {old mid : Outside} {plan : Steps} {settings : Settings} {looked : List Placed} {first reader : ReaderSeen} {w : WriterSeen} {output : List ℕ} {chunk : Option ℕ} {now : Settings} (new : Outside) (start : IsBegunFor old mid plan settings looked first reader w output chunk now) where
  abbrev here : Wanted
  here = wanted_of plan settings first.range

  abbrev one : Output
  one = output_of reader output chunk

  abbrev Finishes : Settings → (taps seen : List TapSeen) → Type 0
  Finishes s taps seen = FinishesKept mid.held old.held new.held (kept_by s looked plan) reader one [] taps seen

  abbrev EndsBy : Settings → Fault → Type 0
  EndsBy s fault = EndsConverting mid.held old.held mid new (kept_by s looked plan) reader one [] fault

  turned : (P : Output → List ℕ → Type 0) → WhereKnown old.held first.name (P one)
      → WhereKnown old.held first.name (λ file. P (converted_output output file chunk) file)
  turned P p = of_file old.held first reader output chunk (ap (λ (r : ReaderSeen). r.head) start.ready) start.stands P p

  all_made : {taps seen : List TapSeen} → Finishes settings taps seen
      → WhereKnown old.held first.name (IsMade here output chunk first.name old new None)
  all_made f = turned (λ o file. (records : List ℕ) × OnlyConverts plan settings file first.range records None
      × (new.held ≡ with_file old.held output (finished o records)))
      (known_then old.held first.name _ _ (λ file k. (k.0, k.1, k.2)) (finishes new start f))

  part_made : (cause : Refusal) → EndsBy settings (Refused cause)
      → WhereKnown old.held first.name (IsMade here output chunk first.name old new (Some cause))
  part_made cause r = turned (λ o file. (records : List ℕ)
      × OnlyConverts plan settings file first.range records (Some cause)
      × (new.held ≡ with_file old.held output (stopped o records))) (refuses new start cause r)

  some : WhereKnown old.held first.name (HasOutputs here output chunk first.name old new)
  some = outputs_of old.held first.name plan settings first.range looked old new output chunk start.are_looked

  left_filling : (fault : Fault) → EndsBy settings fault
      → WhereKnown old.held first.name (Leaves here output chunk first.name old new)
  left_filling fault ends = turned (LeavesOutput here old.held new.held)
      (leaves new start (ends_left mid.held old mid new (kept_by settings looked plan) reader w one [] fault start.begun
      ends))

  filled : {T : Type 0} (taps seen : List TapSeen) (outcome : Result T Fault)
      → OnOk outcome (Finishes settings taps seen) → IfErr outcome (EndsBy settings) → IsCalm old mid
      → OnOk outcome (IsCalm mid new) → EndsMaking (Converts here output chunk) first.name old new outcome
  filled {T} taps seen (Ok x) done ends created calm =
      ends_done here output chunk first.name old new T x some (all_made done)
      (record { reads = calm.reads ∙ created.reads; writes = calm.writes ∙ created.writes })
  filled {T} taps seen (Err (Refused cause)) done ends created calm = ends_refused here output chunk first.name old new
      T cause some (part_made cause ends) (left_filling (Refused cause) ends)
  filled {T} taps seen (Err Read) done ends created calm = ends_fault here output chunk first.name old new T Read
      (subst (λ (n : ℕ). Rose n new.read_faults) created.reads ends.0) some (left_filling Read ends)
  filled {T} taps seen (Err Write) done ends created calm = ends_fault here output chunk first.name old new T Write
      (subst (λ (n : ℕ). Rose n new.write_faults) created.writes ends.0) some (left_filling Write ends)
  filled {T} taps seen (Err Memory) done ends created calm = ends_fault here output chunk first.name old new T Memory tt
      some (left_filling Memory ends)

  -- what is said of the outcome
  module _ {T : Type 0} (outcome : Result T Fault) where
    pub ends_filled : (taps seen : List TapSeen) → OnOk outcome (Finishes now taps seen) → IfErr outcome (EndsBy now)
        → IsCalm old mid → OnOk outcome (IsCalm mid new)
        → EndsMaking (Converts here output chunk) first.name old new outcome
    ends_filled taps seen done ends created calm =
        filled taps seen outcome (subst (λ (s : Settings). OnOk outcome (Finishes s taps seen)) start.same done)
        (subst (λ (s : Settings). IfErr outcome (EndsBy s)) start.same ends) created calm

    pub tallied_by : {X : Type 0} (seen : X → TapSeen) (grown taps told : List X) → grown ≡ taps
        → OnOk outcome (Finishes now (map seen grown) (map seen told))
        → OnOk outcome (WhereKnown old.held first.name
        (λ file. (records : List ℕ) × GivesOnly here file records None
        × (map seen told ≡ map (λ x. shown_all (seen x) (records_after (head_of file) records)) taps)))
    tallied_by seen grown taps told same done =
        on_ok_weaker outcome
        (λ f. known_then old.held first.name _ _
        (λ file k. (k.0, k.1, k.3 ∙ sym (mapped seen (records_after (head_of file) k.0) taps)))
        (finishes new start f))
        (subst (λ xs. OnOk outcome (Finishes settings (map seen xs) (map seen told))) same
        (subst (λ (s : Settings). OnOk outcome (Finishes s (map seen grown) (map seen told))) start.same done))

    module _ (ends : IfErr outcome (EndsBy now)) where
      refused_as : (cause : Refusal) → outcome ≡ Err (Refused cause)
          → RefusesKept mid.held old.held new.held (kept_by settings looked plan) reader one [] cause
      refused_as cause is = err_at (EndsBy settings) outcome (Refused cause)
          (subst (λ (s : Settings). IfErr outcome (EndsBy s)) start.same ends) is

      pub given_by : (cause : Refusal) → outcome ≡ Err (Refused cause)
          → WhereKnown old.held first.name (λ file. (records : List ℕ) × GivesOnly here file records (Some cause))
      given_by cause is = known_then old.held first.name _ _ (λ file k. (k.0, k.1))
          (refuses new start cause (refused_as cause is))

      pub bad_by : (cause : Refusal) → outcome ≡ Err (Refused cause)
          → ((i : ℕ) × (cause ≡ BadChunk i)) ⊎ ((k : ℕ) × (cause ≡ RawRange k))
      bad_by cause is = refused_kind mid.held old.held new.held (kept_by settings looked plan) reader one [] cause
          (refused_as cause is)

      pub looked_by : (i : ℕ) → outcome ≡ Err (Refused (BadChunk i))
          → WhereKnown old.held first.name (λ file. PicksFirst settings.pick)
      looked_by i is = once new start i (refused_as (BadChunk i) is)
