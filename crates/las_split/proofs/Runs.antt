-- Records of one part, one after another, and groups of records.
use Rattle.std.proofs.Common.{◌≡◌, inl, inr, ℕ, zero, suc, ◌+◌, ◌*◌, ◌/◌, ◌%◌, ◌<◌, ◌≤◌, true, false, List, [], ◌∷◌, ◌++◌, length, map, get_or, set, slice_get, take, drop, Option, Some, refl, sym, ◌∙◌, ap, subst, append_assoc, length-append, arith}
use Rattle.std.specs.Prelude.{All}
use Rattle.std.specs.List.{concat}
use Rattle.std.proofs.lemmas.List.{append-nil, get_or-set_same, length-take-le, set-get_or, take-append-drop, take_all, take_more}
use Rattle.std.proofs.lemmas.List.Elements.{All-cons, All-nil, All-push}
use Rattle.std.proofs.lemmas.Nat.{div-add-mod', div-mul-add}
use Rattle.std.proofs.Math.Nat.{add-mul-mod_self_left, mul-mod_right}
use Rattle.las_filter.specs.declared.rule.Rule.{Rule}
use Rattle.las_filter.specs.declared.rule.Rule.TheVariants.{Every}
use Rattle.las_split.proofs.PartLists.{numbers-append}
use Rattle.las_outside.specs.Files.{FileMap}
use Rattle.laz_writer.specs.Writing.{WriterSeen}
use Rattle.laz_forms.proofs.Public.{cut-joined}
use Rattle.laz_writer.proofs.Public.{cut-append}
use Rattle.las_split.specs.declared.parts.Parts.{Parts}
use Rattle.las_split.specs.Parts.{number_by, numbers_from}
use Rattle.las_split.specs.Sorting.{AreGathered, PartsHaveRoom, InParts, LeavesBlock, LeavesPrefixes, SortsBlock, SortsPoint, SplitTask, part_bytes_of}
use Rattle.las_split.specs.Splitting.{OpensTooMany}
use Rattle.las_split.specs.Steps.{HaveTheirParts, LeavesMore, LeavesRecord, SortsMore}
use Rattle.las_split.proofs.Placing.{in_old, leaves_here}
use Rattle.las_split.proofs.SortingPoints.{all_bytes, cut_at, number_here, one_more, place_within, point_is, sorts_one}
use Rattle.las_header.specs.Plain.{cut_all}
use Rattle.las_header.proofs.Public.{cut_length}

set-twice : (xs : List (List ℕ)) (i : ℕ) (a b : List ℕ) → set (set xs i a) i b ≡ set xs i b
set-twice [] i a b = refl
set-twice (x ∷ xs) zero a b = refl
set-twice (x ∷ xs) (suc i) a b = ap (λ (t : List (List ℕ)). x ∷ t) (set-twice xs i a b)

-- a text that grew by one record, and then by others
grown : (texts : List (List ℕ)) (place : ℕ) (point others : List ℕ) → place < length texts
    → set (set texts place (get_or texts place [] ++ point)) place (get_or (set texts place (get_or texts place [] ++ point)) place [] ++ others)
    ≡ set texts place (get_or texts place [] ++ (point ++ others))
grown texts place point others within =
    let text = get_or texts place [] in
    set-twice texts place (text ++ point) (get_or (set texts place (text ++ point)) place [] ++ others)
    ∙ ap (λ (t : List ℕ). set texts place (t ++ others)) (get_or-set_same texts place (text ++ point) [] within)
    ∙ ap (set texts place) (append_assoc text point others)

module _ (task : SplitTask) (was now : Option FileMap) (numbers : List ℕ) (writers : List WriterSeen) (records : List (List ℕ)) (number place : ℕ) (there : slice_get numbers place ≡ Some number) where
  -- records of a part that is there are added to its text at once
  pub run_sorted : (run block texts : List (List ℕ)) → InParts task was now numbers writers (records ++ block) records → AreGathered task numbers texts records block
      → All (λ n. n ≡ number) (numbers_from task.rule (length records + length block) run)
      → InParts task was now numbers writers (records ++ (block ++ run)) records
      × AreGathered task numbers (set texts place (get_or texts place [] ++ concat run)) records (block ++ run)
  run_sorted [] block texts i s all = (
    subst (λ (b : List (List ℕ)). InParts task was now numbers writers (records ++ b) records) (sym (append-nil block)) i,
    ap (set texts place) (append-nil (get_or texts place [])) ∙ set-get_or texts place [] ∙ s ∙ ap (λ (b : List (List ℕ)). map (part_bytes_of task records b) numbers) (sym (append-nil block)),
  )
  run_sorted (p ∷ run) block texts i s all =
      let at = length records + length block in
      let first : number ≡ number_by task.rule at p = sym (all 0 0 (omega arith)) in
      let here = number_here task was now numbers writers texts records block i s at p number refl first in
      let j = in_old task was now numbers writers (records ++ block) records i block refl p number here place there in
      let one = sorts_one task was now numbers writers texts records block i s at p number refl first now numbers writers texts place j there s in
      let next : at + 1 ≡ length records + length (block ++ p ∷ []) = omega (arith, length-append block (p ∷ [])) in
      let others : All (λ n. n ≡ number) (numbers_from task.rule (length records + length (block ++ p ∷ [])) run) =
      subst (λ (k : ℕ). All (λ n. n ≡ number) (numbers_from task.rule k run)) next (λ k d lt. all (suc k) d (omega (arith, lt))) in
      let rest = run_sorted run (block ++ p ∷ []) (set texts place (get_or texts place [] ++ p)) one.0 one.1 others in
      let all_of : (block ++ p ∷ []) ++ run ≡ block ++ p ∷ run = append_assoc block (p ∷ []) run in (
        subst (λ (b : List (List ℕ)). InParts task was now numbers writers (records ++ b) records) all_of rest.0,
        sym (grown texts place p (concat run) (place_within texts (part_bytes_of task records block) numbers place number s there)) ∙ rest.1
            ∙ ap (λ (b : List (List ℕ)). map (part_bytes_of task records b) numbers) all_of,
      )

-- ---- parts of a number of records each

-- places that lie in one part
pub in_one : (n index count number k : ℕ) → index / n ≡ number → index % n + count ≤ n → k < count → (index + k) / n ≡ number
in_one n index count number k is within lt =
    let here : index + k ≡ index / n * n + (index % n + k) = omega (arith, div-add-mod' index n) in
    ap (λ (m : ℕ). m / n) here ∙ div-mul-add (index / n) n (index % n + k) (omega (arith, within, lt)) ∙ is

-- records at places that lie in one part
pub every_all : (n index number : ℕ) (records : List (List ℕ)) → ((k : ℕ) → k < length records → (index + k) / n ≡ number)
    → All (λ m. m ≡ number) (numbers_from (Every n) index records)
every_all n index number [] all = All-nil (λ (m : ℕ). m ≡ number)
every_all n index number (p ∷ records) all =
    let here : index ≡ index + 0 = omega arith in
    All-cons (λ (m : ℕ). m ≡ number) (index / n) (numbers_from (Every n) (index + 1) records)
    (ap (λ (m : ℕ). m / n) here ∙ all 0 (omega arith))
    (every_all n (index + 1) number records (λ k lt.
    (let next : index + 1 + k ≡ index + suc k = omega arith in ap (λ (m : ℕ). m / n) next ∙ all (suc k) (omega (arith, lt)))))

-- ---- lists of records, some done, some of a group, and others

pub take_in : (xs ys zs : List (List ℕ)) (m : ℕ) → m ≤ length ys → take (length xs + m) (xs ++ (ys ++ zs)) ≡ xs ++ take m ys
take_in [] [] zs zero le = refl
take_in [] [] zs (suc m) le = absurd (omega (arith, le))
take_in [] (y ∷ ys) zs zero le = refl
take_in [] (y ∷ ys) zs (suc m) le =
    let e : 0 + suc m ≡ suc (0 + m) = omega arith in
    ap (λ (k : ℕ). take k (y ∷ (ys ++ zs))) e ∙ ap (λ (t : List (List ℕ)). y ∷ t) (take_in [] ys zs m (omega (arith, le)))
take_in (x ∷ xs) ys zs m le =
    let e : length (x ∷ xs) + m ≡ suc (length xs + m) = omega arith in
    ap (λ (k : ℕ). take k (x ∷ (xs ++ (ys ++ zs)))) e ∙ ap (λ (t : List (List ℕ)). x ∷ t) (take_in xs ys zs m le)

pub get_in : (xs ys zs : List (List ℕ)) (m : ℕ) → m < length ys → get_or (xs ++ (ys ++ zs)) (length xs + m) [] ≡ get_or ys m []
get_in [] [] zs m lt = absurd (omega (arith, lt))
get_in [] (y ∷ ys) zs zero lt = refl
get_in [] (y ∷ ys) zs (suc m) lt =
    let e : 0 + suc m ≡ suc (0 + m) = omega arith in
    ap (λ (k : ℕ). get_or (y ∷ (ys ++ zs)) k []) e ∙ get_in [] ys zs m (omega (arith, lt))
get_in (x ∷ xs) ys zs m lt =
    let e : length (x ∷ xs) + m ≡ suc (length xs + m) = omega arith in
    ap (λ (k : ℕ). get_or (x ∷ (xs ++ (ys ++ zs))) k []) e ∙ get_in xs ys zs m lt

-- ---- records of a group, one after another, after a block

module _ (task : SplitTask) (was : Option FileMap) (records block : List (List ℕ)) (size t : ℕ) (bytes point rest : List ℕ) (more : t < length bytes / size) (left : rest ≡ drop (size * t) bytes) (first : point ≡ take size rest) where
  joined : (block ++ take t (cut_all size bytes)) ++ point ∷ [] ≡ block ++ take (t + 1) (cut_all size bytes)
  joined = append_assoc block (take t (cut_all size bytes)) (point ∷ []) ∙ ap (λ (b : List (List ℕ)). block ++ b) (sym (one_more task was records size t bytes point rest more left first))

  pub each_more : (now : Option FileMap) (parts : Parts) → SortsPoint task was now parts.numbers parts.writers.items parts.gathered records (block ++ take t (cut_all size bytes)) point true
      → HaveTheirParts task was now parts records (block ++ take (t + 1) (cut_all size bytes))
  each_more now parts s = subst (λ (b : List (List ℕ)). HaveTheirParts task was now parts records b) joined s

  pub each_less : (now : Option FileMap) (parts : Parts) → SortsPoint task was now parts.numbers parts.writers.items parts.gathered records (block ++ take t (cut_all size bytes)) point false
      → SortsMore task was now parts records block (cut_all size bytes) t
  each_less now parts s = record {
    within = omega (arith, more, cut_length size (length bytes / size) bytes);
    sorted = (s.0, s.1);
    ends = λ less. subst (OpensTooMany task.rule (records ++ (block ++ take t (cut_all size bytes)))) (point_is task was records size t bytes point rest more left first) s.2;
  }

  pub each_left : (now : Option FileMap) → LeavesRecord task was now (records ++ (block ++ take t (cut_all size bytes))) point → LeavesMore task was now records block (cut_all size bytes)
  each_left now (inl l) = (take t (cut_all size bytes), drop t (cut_all size bytes), sym (take-append-drop t (cut_all size bytes)), l)
  each_left now (inr l) = (
    take (t + 1) (cut_all size bytes),
    drop (t + 1) (cut_all size bytes),
    sym (take-append-drop (t + 1) (cut_all size bytes)),
    subst (LeavesPrefixes task was now) (append_assoc records (block ++ take t (cut_all size bytes)) (point ∷ []) ∙ ap (λ (b : List (List ℕ)). records ++ b) joined) l,
  )

-- the place of a record
pub each_place : (size t index : ℕ) (bytes : List ℕ) (records block : List (List ℕ)) → t < length bytes / size → index ≡ length records + length block
    → index + t ≡ length records + length (block ++ take t (cut_all size bytes))
each_place size t index bytes records block more at =
    let long : length (take t (cut_all size bytes)) ≡ t = length-take-le t (cut_all size bytes) (omega (arith, more, cut_length size (length bytes / size) bytes)) in
    omega (arith, at, long, length-append block (take t (cut_all size bytes)))

pub each_none : (task : SplitTask) (was now : Option FileMap) (parts : Parts) (records block more : List (List ℕ)) → HaveTheirParts task was now parts records block → HaveTheirParts task was now parts records (block ++ take 0 more)
each_none task was now parts records block more s = subst (λ (b : List (List ℕ)). HaveTheirParts task was now parts records b) (sym (append-nil block)) s

pub each_all : (task : SplitTask) (was now : Option FileMap) (parts : Parts) (records block : List (List ℕ)) (size t : ℕ) (bytes : List ℕ) → length bytes / size ≤ t → t ≤ length bytes / size
    → HaveTheirParts task was now parts records (block ++ take t (cut_all size bytes)) → SortsMore task was now parts records block (cut_all size bytes) t
each_all task was now parts records block size t bytes end within s =
    let long = cut_length size (length bytes / size) bytes in
    record { within = omega (arith, within, long); sorted = s; ends = λ less. absurd (omega (arith, less, end, long)) }

-- ---- records of a group at once

pub run_taken : (task : SplitTask) (was now : Option FileMap) (parts : Parts) (gathered : List (List ℕ)) (records block : List (List ℕ)) (size number place index : ℕ) (bytes : List ℕ)
    → length bytes % size ≡ 0 → slice_get parts.numbers place ≡ Some number → index ≡ length records + length block
    → All (λ n. n ≡ number) (numbers_from task.rule index (cut_all size bytes)) → HaveTheirParts task was now parts records block
    → gathered ≡ set parts.gathered place (get_or parts.gathered place [] ++ bytes)
    → SortsMore task was now (record { numbers = parts.numbers; writers = parts.writers; gathered = gathered }) records block (cut_all size bytes) (length bytes / size)
run_taken task was now parts gathered records block size number place index bytes whole there at all s added =
    let count = length bytes / size in
    let run = cut_all size bytes in
    let long : length run ≡ count = cut_length size count bytes in
    let every : take count run ≡ run = take_all count run (omega (arith, long)) in
    let text : concat run ≡ bytes = cut-joined size count bytes (omega (arith, all_bytes size bytes whole)) in
    let here : All (λ n. n ≡ number) (numbers_from task.rule (length records + length block) run) = subst (λ (k : ℕ). All (λ n. n ≡ number) (numbers_from task.rule k run)) at all in
    let r = run_sorted task was now parts.numbers parts.writers.items records number place there run block parts.gathered s.0 s.1 here in
    let texts : gathered ≡ set parts.gathered place (get_or parts.gathered place [] ++ concat run) = added ∙ ap (λ (b : List ℕ). set parts.gathered place (get_or parts.gathered place [] ++ b)) (sym text) in
    record {
      within = omega (arith, long);
      sorted = (
        subst (λ (b : List (List ℕ)). InParts task was now parts.numbers parts.writers.items (records ++ (block ++ b)) records) (sym every) r.0,
        subst (λ (b : List (List ℕ)). AreGathered task parts.numbers gathered records (block ++ b)) (sym every) (texts ∙ r.1),
      );
      ends = λ less. absurd (omega (arith, less, long));
    }

-- what is left if a group could not be gathered
pub group_unsorted : (task : SplitTask) (was now : Option FileMap) (parts : Parts) (records block more : List (List ℕ)) → HaveTheirParts task was now parts records block → LeavesMore task was now records block more
group_unsorted task was now parts records block more s = (
  [],
  more,
  refl,
  subst (λ (b : List (List ℕ)). LeavesPrefixes task was now (records ++ b)) (sym (append-nil block)) (leaves_here task was now parts.numbers parts.writers.items (records ++ block) records s.0 block refl now refl),
)

-- ---- group after group

module _ (size : ℕ) (some : 0 < size) (block done group further : List ℕ) (are : block ≡ done ++ (group ++ further)) (first : length done % size ≡ 0) (second : length group % size ≡ 0) where
  pub cut_three : cut_all size block ≡ cut_all size done ++ (cut_all size group ++ cut_all size further)
  cut_three =
      ap (cut_all size) are ∙ cut-append size done (group ++ further) some first
      ∙ ap (λ (b : List (List ℕ)). cut_all size done ++ b) (cut-append size group further some second)

  module _ (task : SplitTask) (was now : Option FileMap) (parts : Parts) (records : List (List ℕ)) (taken : ℕ) (is : taken ≡ length (cut_all size done)) where
    pub group_less : (m : ℕ) → m < length (cut_all size group) → SortsMore task was now parts records (cut_all size done) (cut_all size group) m
        → SortsBlock task was now parts.numbers parts.writers.items parts.gathered records (cut_all size block) (taken + m)
    group_less m less s =
        let xs = cut_all size done in
        let ys = cut_all size group in
        let zs = cut_all size further in
        let here : take (taken + m) (cut_all size block) ≡ xs ++ take m ys = ap (λ (k : ℕ). take (k + m) (cut_all size block)) is ∙ ap (take (length xs + m)) cut_three ∙ take_in xs ys zs m (omega (arith, less)) in
        let next : get_or (cut_all size block) (taken + m) [] ≡ get_or ys m [] = ap (λ (k : ℕ). get_or (cut_all size block) (k + m) []) is ∙ ap (λ (b : List (List ℕ)). get_or b (length xs + m) []) cut_three ∙ get_in xs ys zs m less in
        let long : length (cut_all size block) ≡ length xs + length (ys ++ zs) = ap (λ (b : List (List ℕ)). length b) cut_three ∙ length-append xs (ys ++ zs) in
        record {
          within = omega (arith, long, length-append ys zs, is, less);
          parts = subst (λ (b : List (List ℕ)). InParts task was now parts.numbers parts.writers.items (records ++ b) records) (sym here) s.sorted.0;
          gathered = subst (λ (b : List (List ℕ)). AreGathered task parts.numbers parts.gathered records b) (sym here) s.sorted.1;
          ends = λ lt. subst (λ (b : List (List ℕ)). OpensTooMany task.rule (records ++ b) (get_or (cut_all size block) (taken + m) [])) (sym here)
              (subst (OpensTooMany task.rule (records ++ (xs ++ take m ys))) (sym next) (s.ends less));
        }

  pub group_left : (task : SplitTask) (was now : Option FileMap) (records : List (List ℕ)) → LeavesMore task was now records (cut_all size done) (cut_all size group) → LeavesBlock task was now records (cut_all size block)
  group_left task was now records l = (
    cut_all size done ++ l.0,
    l.1 ++ cut_all size further,
    cut_three ∙ ap (λ (b : List (List ℕ)). cut_all size done ++ (b ++ cut_all size further)) l.2
        ∙ ap (λ (b : List (List ℕ)). cut_all size done ++ b) (append_assoc l.0 l.1 (cut_all size further))
        ∙ sym (append_assoc (cut_all size done) l.0 (l.1 ++ cut_all size further)),
    l.3,
  )

-- all records of a group were taken
pub group_done : (task : SplitTask) (was now : Option FileMap) (parts : Parts) (records : List (List ℕ)) (size : ℕ) (some : 0 < size) (done group : List ℕ) (m : ℕ) → length done % size ≡ 0 → length group / size ≤ m
    → SortsMore task was now parts records (cut_all size done) (cut_all size group) m → HaveTheirParts task was now parts records (cut_all size (done ++ group))
group_done task was now parts records size some done group m first end s =
    let every : take m (cut_all size group) ≡ cut_all size group = take_all m (cut_all size group) (omega (arith, end, cut_length size (length group / size) group)) in
    subst (λ (b : List (List ℕ)). HaveTheirParts task was now parts records b) (sym (cut-append size done group some first))
    (subst (λ (b : List (List ℕ)). HaveTheirParts task was now parts records (cut_all size done ++ b)) every s.sorted)

-- and all of a block
pub block_done : (task : SplitTask) (was now : Option FileMap) (parts : Parts) (records : List (List ℕ)) (size taken : ℕ) (block done : List ℕ) → block ≡ done → taken ≡ length (cut_all size done)
    → HaveTheirParts task was now parts records (cut_all size done) → SortsBlock task was now parts.numbers parts.writers.items parts.gathered records (cut_all size block) taken
block_done task was now parts records size taken block done are is s =
    let every : take taken (cut_all size block) ≡ cut_all size done = ap (λ (b : List ℕ). take taken (cut_all size b)) are ∙ take_all taken (cut_all size done) (omega (arith, is)) in
    let long : length (cut_all size block) ≡ length (cut_all size done) = ap (λ (b : List ℕ). length (cut_all size b)) are in
    record {
      within = omega (arith, is, long);
      parts = subst (λ (b : List (List ℕ)). InParts task was now parts.numbers parts.writers.items (records ++ b) records) (sym every) s.0;
      gathered = subst (λ (b : List (List ℕ)). AreGathered task parts.numbers parts.gathered records b) (sym every) s.1;
      ends = λ less. absurd (omega (arith, less, is, long));
    }

-- there is room for a group
pub group_room : (task : SplitTask) (size index taken : ℕ) (block done group further : List ℕ) → PartsHaveRoom task size index (length block) → block ≡ done ++ (group ++ further) → length done % size ≡ 0 → taken ≡ length (cut_all size done)
    → PartsHaveRoom task size (index + taken) (length group)
group_room task size index taken block done group further room are first is =
    let count = length done / size in
    let all : size * count ≡ length done = all_bytes size done first in
    let long : taken ≡ count = is ∙ cut_length size count done in
    let both : size * (index + taken) ≡ size * index + size * taken = omega arith in
    let same : size * taken ≡ size * count = ap (λ (k : ℕ). size * k) long in
    record {
      size_is = room.size_is;
      some = room.some;
      room = omega (arith, room.room, both, same, all, ap (λ (b : List ℕ). length b) are, length-append done (group ++ further), length-append group further);
      few = room.few;
    }

-- what is left of whole records after some of them
pub whole_further : (size : ℕ) (group further rest : List ℕ) → rest ≡ group ++ further → length rest % size ≡ 0 → length group % size ≡ 0 → length further % size ≡ 0
whole_further size group further rest are whole first =
    let b = length group / size in
    let all : size * b ≡ length group = all_bytes size group first in
    let count : length rest ≡ length further + size * b = omega (arith, ap (λ (t : List ℕ). length t) are, length-append group further, all) in
    sym (add-mul-mod_self_left (length further) size b) ∙ ap (λ (n : ℕ). n % size) (sym count) ∙ whole

-- the first records of a group that are looked at
pub group_joined : (n : ℕ) (rest group further : List ℕ) → group ≡ take n rest → further ≡ drop n rest → rest ≡ group ++ further
group_joined n rest group further front back = sym (take-append-drop n rest) ∙ (λ i. sym front i ++ sym back i)

pub group_whole : (size k : ℕ) (group : List ℕ) → length group ≡ k * size → length group % size ≡ 0
group_whole size k group long =
    let turned : k * size ≡ size * k = omega arith in
    ap (λ (n : ℕ). n % size) (long ∙ turned) ∙ mul-mod_right size k

pub none_whole : (size : ℕ) → 0 % size ≡ 0
none_whole size = ap (λ (n : ℕ). n % size) (let e : 0 ≡ size * 0 = omega arith in e) ∙ mul-mod_right size 0

-- ---- whether records have a number

pub number_more : (rule : Rule) (index size t : ℕ) (bytes point rest : List ℕ) (number : ℕ) → t < length bytes / size → rest ≡ drop (size * t) bytes → point ≡ take size rest
    → number_by rule (index + t) point ≡ number → All (λ n. n ≡ number) (numbers_from rule index (take t (cut_all size bytes)))
    → All (λ n. n ≡ number) (numbers_from rule index (take (t + 1) (cut_all size bytes)))
number_more rule index size t bytes point rest number more left first is all =
    let cut = cut_all size bytes in
    let long = cut_length size (length bytes / size) bytes in
    let within : t < length cut = omega (arith, more, long) in
    let here : point ≡ get_or cut t [] = first ∙ ap (take size) left ∙ sym (cut_at size (length bytes / size) t bytes more) in
    let next : take (t + 1) cut ≡ take t cut ++ point ∷ [] = take_more cut t [] within ∙ ap (λ (p : List ℕ). take t cut ++ p ∷ []) (sym here) in
    let place : index + length (take t cut) ≡ index + t = omega (arith, length-take-le t cut (omega (arith, within))) in
    subst (λ (b : List (List ℕ)). All (λ n. n ≡ number) (numbers_from rule index b)) (sym next)
    (subst (λ (ns : List ℕ). All (λ n. n ≡ number) ns) (sym (numbers-append rule index (take t cut) (point ∷ [])))
    (All-push (λ (n : ℕ). n ≡ number) (numbers_from rule index (take t cut)) (number_by rule (index + length (take t cut)) point) all (ap (λ (k : ℕ). number_by rule k point) place ∙ is)))

pub number_all : (rule : Rule) (index size t : ℕ) (bytes : List ℕ) (number : ℕ) → length bytes / size ≤ t → All (λ n. n ≡ number) (numbers_from rule index (take t (cut_all size bytes)))
    → All (λ n. n ≡ number) (numbers_from rule index (cut_all size bytes))
number_all rule index size t bytes number end all =
    subst (λ (b : List (List ℕ)). All (λ n. n ≡ number) (numbers_from rule index b)) (take_all t (cut_all size bytes) (omega (arith, end, cut_length size (length bytes / size) bytes))) all
