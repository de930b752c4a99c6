-- Records that are sorted one after another.
use Rattle.std.proofs.Common.{◌≡◌, ◌≢◌, ℕ, zero, suc, ◌+◌, ◌*◌, ◌/◌, ◌%◌, ◌<◌, ◌≤◌, ◌^◌, ◌==◌, ◌||◌, Bool, true, false, cond, map, List, [], ◌∷◌, ◌++◌, length, take, drop, get_or, set, slice_get, replicate, Option, Some, refl, sym, ◌∙◌, ap, subst, append_assoc, length-append, eq-eqb, arith}
use Rattle.std.proofs.lemmas.List.{append-nil, drop-drop, take_more}
use Rattle.std.proofs.Math.Nat.{div-add-mod, le_of_mul-le-mul_left}
use Rattle.std.specs.List.{concat}
use Rattle.laz_forms.proofs.Public.{concat-append, block_fits}
use Rattle.las_header.specs.Plain.{cut_records, cut_all}
use Rattle.las_outside.specs.Files.{FileMap}
use Rattle.laz_writer.specs.Writing.{WriterSeen}
use Rattle.las_header.specs.Fields.{points_of}
use Rattle.las_header.proofs.Public.{cut_length}
use Rattle.las_split.proofs.Standing.{writers_length}
use Rattle.las_split.specs.Sorting.{bytes_at}
use Rattle.las_split.specs.Parts.{number_by, numbers_from, numbers_of_parts, part, part_from}
use Rattle.las_split.specs.Sorting.{AreGathered, PartsHaveRoom, InParts, LeavesBlock, LeavesPrefixes, SortsPoint, SplitTask, is_among, part_bytes_of}
use Rattle.las_split.specs.Splitting.{OpensTooMany}
use Rattle.las_split.proofs.Changing.{AreOnce, firsts_once}
use Rattle.las_split.proofs.Opening.{not_there}
use Rattle.las_split.proofs.PartLists.{no_part, part-append}
use Rattle.las_split.proofs.Placing.{has_at, leaves_here}

-- ---- the texts of parts

-- the records of a block after some records, and one more
pub text_more : (task : SplitTask) (records block : List (List ℕ)) (point : List ℕ) (n : ℕ) → part_bytes_of task records (block ++ point ∷ []) n
    ≡ part_bytes_of task records block n ++ concat (cond (number_by task.rule (length records + length block) point == n) (point ∷ []) [])
text_more task records block point n =
    ap concat (part-append task.rule (length records) block (point ∷ []) n)
    ∙ concat-append (part_from task.rule (length records) block n) (part_from task.rule (length records + length block) (point ∷ []) n)

-- a number that no part has is that of no record
pub no_text : (task : SplitTask) (records block : List (List ℕ)) (n : ℕ) → is_among n (numbers_of_parts task.rule (records ++ block)) ≡ false → part_bytes_of task records block n ≡ []
no_text task records block n none =
    let far : 0 + length records ≡ length records = omega arith in
    nothing (part task.rule records n) (part_from task.rule (length records) block n)
    (ap (λ (k : ℕ). part task.rule records n ++ part_from task.rule k block n) (sym far) ∙ sym (part-append task.rule 0 records block n) ∙ no_part task.rule (records ++ block) n none)
  where
    nothing : (xs ys : List (List ℕ)) → xs ++ ys ≡ [] → concat ys ≡ []
    nothing [] ys e = ap concat e
    nothing (x ∷ xs) ys e = absurd (cc)

-- a record was added to the text of its part
module _ (f g : ℕ → List ℕ) (number : ℕ) (point : List ℕ) (here : g number ≡ f number ++ point) (other : (n : ℕ) → n ≢ number → g n ≡ f n) where
  others : (ns : List ℕ) → is_among number ns ≡ false → map f ns ≡ map g ns
  others [] none = refl
  others (n ∷ ns) none = by (n == number) refl (is_among number ns) none (others ns)
    where
      by : (b : Bool) → (n == number) ≡ b → (c : Bool) → (b || c) ≡ false → (c ≡ false → map f ns ≡ map g ns) → f n ∷ map f ns ≡ g n ∷ map g ns
      by true e c none rest = absurd (cc)
      by false e c none rest =
          let ne : n ≢ number = λ same. (let t : true ≡ false = sym (eq-eqb n number same) ∙ e in cc) in
          ap (λ (t : List ℕ). t ∷ map f ns) (sym (other n ne)) ∙ ap (λ (ts : List (List ℕ)). g n ∷ ts) (rest none)

  pub text_added : (ns : List ℕ) (place : ℕ) → AreOnce ns → slice_get ns place ≡ Some number → set (map f ns) place (get_or (map f ns) place [] ++ point) ≡ map g ns
  text_added [] place once there = absurd (cc)
  text_added (n ∷ ns) zero once there =
      let same : n ≡ number = cc in
      let none : is_among number ns ≡ false = ap (λ (k : ℕ). is_among k ns) (sym same) ∙ once.0 in
      let now : f n ++ point ≡ g n = ap (λ (k : ℕ). f k ++ point) same ∙ sym here ∙ ap g (sym same) in
      ap (λ (t : List ℕ). t ∷ map f ns) now ∙ ap (λ (ts : List (List ℕ)). g n ∷ ts) (others ns none)
  text_added (n ∷ ns) (suc place) once there =
      let ne : n ≢ number = λ e. (let t : true ≡ false = sym (has_at number ns place there) ∙ ap (λ (k : ℕ). is_among k ns) (sym e) ∙ once.0 in cc) in
      ap (λ (t : List ℕ). t ∷ set (map f ns) place (get_or (map f ns) place [] ++ point)) (sym (other n ne)) ∙ ap (λ (ts : List (List ℕ)). g n ∷ ts) (text_added ns place once.1 there)

pub place_within : (texts : List (List ℕ)) (f : ℕ → List ℕ) (numbers : List ℕ) (place number : ℕ) → texts ≡ map f numbers → slice_get numbers place ≡ Some number → place < length texts
place_within texts f numbers place number is there = omega (arith, ap (λ (t : List (List ℕ)). length t) is, by numbers place there)
  where
    by : (ns : List ℕ) (j : ℕ) → slice_get ns j ≡ Some number → j < length (map f ns)
    by [] j e = absurd (cc)
    by (n ∷ ns) zero e = omega arith
    by (n ∷ ns) (suc j) e = omega (arith, by ns j e)

-- ---- one record more

module _ (task : SplitTask) (was now : Option FileMap) (numbers : List ℕ) (writers : List WriterSeen) (texts records block : List (List ℕ)) (i : InParts task was now numbers writers (records ++ block) records) (s : AreGathered task numbers texts records block) where
  -- a number that no part has is that of no record
  pub no_record : (k : ℕ) → is_among k numbers ≡ false → part_bytes_of task records block k ≡ []
  no_record k none = no_text task records block k (ap (is_among k) (sym i.numbers_are) ∙ none)

  pub number_here : (index : ℕ) (point : List ℕ) (number : ℕ) → index ≡ length records + length block → number ≡ number_by task.rule index point → number ≡ number_by task.rule (length (records ++ block)) point
  number_here index point number at is = is ∙ ap (λ (n : ℕ). number_by task.rule n point) (at ∙ sym (length-append records block))

  module _ (index : ℕ) (point : List ℕ) (number : ℕ) (at : index ≡ length records + length block) (is : number ≡ number_by task.rule index point) (later : Option FileMap) (ns : List ℕ) (ws : List WriterSeen) where
    -- it is one too many
    pub sorts_none : (after : List (List ℕ)) → InParts task was later ns ws (records ++ block) records → OpensTooMany task.rule (records ++ block) point → after ≡ texts → ns ≡ numbers → SortsPoint task was later ns ws after records block point false
    sorts_none after j opens same names = (j, same ∙ s ∙ ap (map (part_bytes_of task records block)) (sym names), opens)

    number_is : number_by task.rule (length records + length block) point ≡ number
    number_is = ap (λ (n : ℕ). number_by task.rule n point) (sym at) ∙ sym is

    text_here : part_bytes_of task records (block ++ point ∷ []) number ≡ part_bytes_of task records block number ++ point
    text_here =
        text_more task records block point number
        ∙ ap (λ (b : Bool). part_bytes_of task records block number ++ concat (cond b (point ∷ []) [])) (eq-eqb (number_by task.rule (length records + length block) point) number number_is)
        ∙ ap (λ (t : List ℕ). part_bytes_of task records block number ++ t) (append-nil point)

    text_other : (n : ℕ) → n ≢ number → part_bytes_of task records (block ++ point ∷ []) n ≡ part_bytes_of task records block n
    text_other n ne =
        text_more task records block point n
        ∙ ap (λ (b : Bool). part_bytes_of task records block n ++ concat (cond b (point ∷ []) [])) (not_there n (number_by task.rule (length records + length block) point) (λ e. ne (sym e ∙ number_is)))
        ∙ append-nil (part_bytes_of task records block n)

    -- it was sorted
    pub sorts_one : (after : List (List ℕ)) (place : ℕ) → InParts task was later ns ws ((records ++ block) ++ point ∷ []) records → slice_get ns place ≡ Some number → after ≡ map (part_bytes_of task records block) ns
        → SortsPoint task was later ns ws (set after place (get_or after place [] ++ point)) records block point true
    sorts_one after place j there are =
        let once : AreOnce ns = subst AreOnce (sym j.numbers_are) (firsts_once (numbers_from task.rule 0 ((records ++ block) ++ point ∷ []))) in (
          subst (λ (t : List (List ℕ)). InParts task was later ns ws t records) (append_assoc records block (point ∷ [])) j,
          ap (λ (t : List (List ℕ)). set t place (get_or t place [] ++ point)) are
              ∙ text_added (part_bytes_of task records block) (part_bytes_of task records (block ++ point ∷ [])) number point text_here text_other ns place once there,
        )

-- ---- the records of a block

-- one record of a block
pub cut_at : (size n t : ℕ) (bytes : List ℕ) → t < n → get_or (cut_records size n bytes) t [] ≡ take size (drop (size * t) bytes)
cut_at size zero t bytes within = absurd (omega (arith, within))
cut_at size (suc n) zero bytes within =
    let none : size * 0 ≡ 0 = omega arith in
    ap (λ (k : ℕ). take size (drop k bytes)) (sym none)
cut_at size (suc n) (suc t) bytes within =
    let far : size + size * t ≡ size * suc t = omega arith in
    cut_at size n t (drop size bytes) (omega (arith, within)) ∙ ap (take size) (drop-drop (size * t) size bytes) ∙ ap (λ (k : ℕ). take size (drop k bytes)) far

pub all_bytes : (size : ℕ) (block : List ℕ) → length block % size ≡ 0 → size * (length block / size) ≡ length block
all_bytes size block whole = omega (arith, div-add-mod (length block) size, whole)

-- a record has a place of 32 bits
pub index_fits : (task : SplitTask) (size index t : ℕ) (block : List ℕ) → PartsHaveRoom task size index (length block) → length block % size ≡ 0 → t < length block / size → index + t < 2 ^ 32
index_fits task size index t block room whole more =
    let both : size * (index + (t + 1)) ≡ size * index + (size * t + size) = omega arith in
    let less : size * (index + (t + 1)) ≤ size * points_of task.head = omega (arith, both, room.room, block_fits size t block whole more) in
    let some : 0 < size = omega (arith, room.some) in
    omega (arith, le_of_mul-le-mul_left less some, room.few)

-- what was sorted of a block so far
pub record SortedSo (task : SplitTask) (was now : Option FileMap) (numbers : List ℕ) (writers : List WriterSeen) (texts records block : List (List ℕ)) : Type 0 where
  pub parts : InParts task was now numbers writers (records ++ block) records
  pub gathered : AreGathered task numbers texts records block

pub sorted_none : (task : SplitTask) (was now : Option FileMap) (numbers : List ℕ) (writers : List WriterSeen) (texts : List (List ℕ)) (count : ℕ) (records block : List (List ℕ)) → InParts task was now numbers writers records records → count ≡ length writers → texts ≡ replicate count []
    → SortedSo task was now numbers writers texts records (take 0 block)
sorted_none task was now numbers writers texts count records block i all none = record {
  parts = subst (λ (t : List (List ℕ)). InParts task was now numbers writers t records) (sym (append-nil records)) i;
  gathered = none ∙ ap (λ (n : ℕ). replicate n []) (all ∙ writers_length task (bytes_at task records) numbers writers i.writers_are) ∙ empties numbers;
}
  where
    empties : (ns : List ℕ) → replicate (length ns) [] ≡ map (part_bytes_of task records []) ns
    empties [] = refl
    empties (n ∷ ns) = ap (λ (t : List (List ℕ)). [] ∷ t) (empties ns)

module _ (task : SplitTask) (was : Option FileMap) (records : List (List ℕ)) (size t : ℕ) (bytes point rest : List ℕ) (more : t < length bytes / size) (left : rest ≡ drop (size * t) bytes) (first : point ≡ take size rest) where
  pub point_is : point ≡ get_or (cut_all size bytes) t []
  point_is = first ∙ ap (take size) left ∙ sym (cut_at size (length bytes / size) t bytes more)

  pub one_more : take (t + 1) (cut_all size bytes) ≡ take t (cut_all size bytes) ++ point ∷ []
  one_more =
      let within : t < length (cut_all size bytes) = omega (arith, more, cut_length size (length bytes / size) bytes) in
      take_more (cut_all size bytes) t [] within ∙ ap (λ (p : List ℕ). take t (cut_all size bytes) ++ p ∷ []) (sym point_is)

pub left_none : (task : SplitTask) (was now : Option FileMap) (numbers : List ℕ) (writers : List WriterSeen) (records block : List (List ℕ)) → InParts task was now numbers writers records records → LeavesBlock task was now records block
left_none task was now numbers writers records block i = (
  [],
  block,
  refl,
  subst (LeavesPrefixes task was now) (sym (append-nil records)) (leaves_here task was now numbers writers records records i [] (sym (append-nil records)) now refl),
)
