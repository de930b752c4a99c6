-- Records of blocks, one block after another.
use Rattle.std.proofs.Common.{◌≡◌, ℕ, suc, ◌+◌, ◌*◌, ◌/◌, ◌<◌, ◌≤◌, ◌^◌, Bool, true, false, List, [], ◌∷◌, ◌++◌, length, take, drop, get_or, Option, sym, ◌∙◌, ap, subst, append_assoc, arith}
use Rattle.std.specs.Prelude.{All}
use Rattle.std.proofs.lemmas.List.{length-take-le, take-append-drop, take_all}
use Rattle.std.proofs.lemmas.List.Elements.{All-take}
use Rattle.std.proofs.Math.Nat.{le_of_mul-le-mul_left, mul-div-le}
use Rattle.std.proofs.Math.Seq.{drop-cons}
use Rattle.las_header.specs.Fields.{points_of}
use Rattle.las_header.specs.Plain.{cut_all}
use Rattle.las_header.proofs.Public.{cut_length, cut_whole}
use Rattle.las_outside.specs.Files.{FileMap}
use Rattle.laz_writer.specs.Writing.{WriterSeen}
use Rattle.las_split.specs.Sorting.{FitAfter, PartsHaveRoom, InParts, LeavesBlock, LeavesPrefixes, SortsBlock, TakesBlock, SplitTask}
use Rattle.las_split.specs.Splitting.{OpensTooMany}

-- ---- whole records

-- ---- a block that was sorted

module _ (task : SplitTask) (was now : Option FileMap) (numbers : List ℕ) (writers : List WriterSeen) (texts : List (List ℕ)) (records : List (List ℕ)) (size taken : ℕ) (bytes : List ℕ) (s : SortsBlock task was now numbers writers texts records (cut_all size bytes) taken) where
  -- they fit into the parts
  pub fit_here : (index : ℕ) → index ≡ length records → PartsHaveRoom task size index (length bytes) → FitAfter task records (take taken (cut_all size bytes))
  fit_here index at room =
      let count = length bytes / size in
      let all : size * count ≤ length bytes = omega (arith, mul-div-le (length bytes) size) in
      let few : length (take taken (cut_all size bytes)) ≤ count = omega (arith, length-take-le taken (cut_all size bytes) s.within, s.within, cut_length size count bytes) in
      let some : 0 < size = omega (arith, room.some) in
      let both : size * (length records + count) ≡ size * length records + size * count = omega arith in
      let less : size * (length records + count) ≤ size * points_of task.head = omega (arith, both, all, room.room, ap (λ (n : ℕ). size * n) at) in
      let most : length records + count ≤ points_of task.head = le_of_mul-le-mul_left less some in
      record {
        whole = subst (λ (n : ℕ). All (λ x. length x ≡ n) (take taken (cut_all size bytes))) room.size_is (All-take (λ (x : List ℕ). length x ≡ size) taken (cut_all size bytes) (cut_whole size count bytes all));
        room = omega (arith, few, most);
      }

  -- what is left, if a call fails
  pub left_first : (later : Option FileMap) → LeavesPrefixes task was later (records ++ take taken (cut_all size bytes)) → LeavesBlock task was later records (cut_all size bytes)
  left_first later l = (take taken (cut_all size bytes), drop taken (cut_all size bytes), sym (take-append-drop taken (cut_all size bytes)), l)

  module _ (later : Option FileMap) (ns : List ℕ) (ws : List WriterSeen) (i : InParts task was later ns ws (records ++ take taken (cut_all size bytes)) (records ++ take taken (cut_all size bytes))) where
    pub takes_all : length bytes / size ≤ taken → TakesBlock task was later ns ws records (cut_all size bytes) true
    takes_all end =
        let whole : take taken (cut_all size bytes) ≡ cut_all size bytes = take_all taken (cut_all size bytes) (omega (arith, end, cut_length size (length bytes / size) bytes)) in
        subst (λ (b : List (List ℕ)). InParts task was later ns ws (records ++ b) (records ++ b)) whole i

    pub takes_some : taken < length bytes / size → TakesBlock task was later ns ws records (cut_all size bytes) false
    takes_some less =
        let within : taken < length (cut_all size bytes) = omega (arith, less, cut_length size (length bytes / size) bytes) in
        let split : cut_all size bytes ≡ take taken (cut_all size bytes) ++ get_or (cut_all size bytes) taken [] ∷ drop (suc taken) (cut_all size bytes) =
        sym (take-append-drop taken (cut_all size bytes)) ∙ ap (λ (t : List (List ℕ)). take taken (cut_all size bytes) ++ t) (drop-cons (cut_all size bytes) taken [] within) in
        (take taken (cut_all size bytes), get_or (cut_all size bytes) taken [], drop (suc taken) (cut_all size bytes), split, i, s.ends within)

-- ---- blocks after blocks

-- blocks that were taken, and one more
pub takes_then : (task : SplitTask) (was now : Option FileMap) (ns : List ℕ) (ws : List WriterSeen) (records xs ys : List (List ℕ)) (all : Bool) → TakesBlock task was now ns ws (records ++ xs) ys all → TakesBlock task was now ns ws records (xs ++ ys) all
takes_then task was now ns ws records xs ys true t = subst (λ (b : List (List ℕ)). InParts task was now ns ws b b) (append_assoc records xs ys) t
takes_then task was now ns ws records xs ys false t = (
  xs ++ t.0,
  t.1,
  t.2,
  ap (λ (b : List (List ℕ)). xs ++ b) t.3 ∙ sym (append_assoc xs t.0 (t.1 ∷ t.2)),
  subst (λ (b : List (List ℕ)). InParts task was now ns ws b b) (append_assoc records xs t.0) t.4,
  subst (λ (b : List (List ℕ)). OpensTooMany task.rule b t.1) (append_assoc records xs t.0) t.5,
)

pub left_then : (task : SplitTask) (was now : Option FileMap) (records xs ys : List (List ℕ)) → LeavesBlock task was now (records ++ xs) ys → LeavesBlock task was now records (xs ++ ys)
left_then task was now records xs ys l = (
  xs ++ l.0,
  l.1,
  ap (λ (b : List (List ℕ)). xs ++ b) l.2 ∙ sym (append_assoc xs l.0 l.1),
  subst (LeavesPrefixes task was now) (append_assoc records xs l.0) l.3,
)

-- the place of the next record
pub next_fits : (task : SplitTask) (size next : ℕ) (block : List ℕ) → PartsHaveRoom task size next (length block) → next + length block / size < 2 ^ 32
next_fits task size next block room =
    let some : 0 < size = omega (arith, room.some) in
    let both : size * (next + length block / size) ≡ size * next + size * (length block / size) = omega arith in
    let less : size * (next + length block / size) ≤ size * points_of task.head = omega (arith, both, room.room, mul-div-le (length block) size) in
    omega (arith, le_of_mul-le-mul_left less some, room.few)
