-- How an output ends that records are copied into.
use Rattle.std.proofs.Common.{◌≡◌, ◌⊎◌, inl, inr, ℕ, ◌<◌, List, [], ◌++◌, length, take, Option, Some, None, refl, sym, ◌∙◌, ap, subst, append_assoc, arith}
use Rattle.std.specs.Option.{ForSome}
use Rattle.std.specs.List.{concat}
use Rattle.std.proofs.lemmas.List.{append-nil}
use Rattle.las_outside.specs.Drafts.{IsUnfinished}
use Rattle.las_outside.specs.Files.{FileMap, with_file}
use Rattle.las_outside.specs.Outside.{Outside, with_bytes}
use Rattle.laz_forms.specs.declared.fault.Fault.{Fault}
use Rattle.laz_forms.specs.declared.fault.Fault.TheVariants.{Refused, Read, Write, Memory}
use Rattle.laz_file.specs.Copying.{EndsCopying, HoldFirst, LeavesFirst, LeavesInPart, LeavesPart, LeavesUnfinished, with_reads}
use Rattle.laz_forms.specs.FileFaults.{HasCause}
use Rattle.laz_forms.specs.Outputs.{Output, draft_of, patches_of, stopped}
use Rattle.laz_reader.specs.Reading.{ReaderSeen}
use Rattle.laz_writer.specs.Writing.{PackingSeen, PointsStand, Stands, Stops, WriterSeen}
use Rattle.laz_writer.proofs.Public.{stopped_short, stopped_unfinished}
use Rattle.laz_file.proofs.Taking.{held_after}

-- a packed output has chunks of some points
pub some_chunk : (before now : Outside) (w : WriterSeen) (out : Output) (bytes : List ℕ) → Stands before now w out bytes → ForSome out.chunk (λ chunk. 0 < chunk)
some_chunk before now w out bytes s = by out.chunk w.packing s.points
  where
    by : (c : Option ℕ) (p : Option PackingSeen) → PointsStand c before now out w.most p bytes → ForSome c (λ chunk. 0 < chunk)
    by None p points = λ k e. absurd (let clash : None ≡ Some k = e in cc)
    by (Some c) None points = absurd points
    by (Some c) (Some p) points = λ k e. let same : c ≡ k = cc in omega (arith, same, points.stands.numbers.size.0, points.plan.chunk_is)

-- a prefix of what stands if an output is stopped is unfinished, whatever records come after
pub leaves_part : (before old : Outside) (w : WriterSeen) (out : Output) (bytes : List ℕ) → Stands before old w out bytes → (records more : List ℕ) (held : Option FileMap) (n : ℕ) → held ≡ with_file before.held out.name (take n (stopped out (bytes ++ records)))
    → LeavesUnfinished out (bytes ++ (records ++ more)) before.held held
leaves_part before old w out bytes s records more held n is =
    let left = take n (stopped out (bytes ++ records)) in
    inr (
      left,
      subst (λ (t : List ℕ). IsUnfinished (draft_of out t) (patches_of out t) left) (append_assoc bytes records more)
          (stopped_unfinished out (bytes ++ records) more n s.head (some_chunk before old w out bytes s)),
      is,
    )

-- an output that could not be finished
pub leaves_end : (before : Outside) (out : Output) (bytes records more : List ℕ) (held : Option FileMap) (left : List ℕ) → more ≡ [] → IsUnfinished (draft_of out (bytes ++ records)) (patches_of out (bytes ++ records)) left → held ≡ with_file before.held out.name left
    → LeavesUnfinished out (bytes ++ (records ++ more)) before.held held
leaves_end before out bytes records more held left none is to =
    subst (λ (t : List ℕ). LeavesUnfinished out (bytes ++ t) before.held held) (sym (append-nil records) ∙ ap (λ (t : List ℕ). records ++ t) (sym none)) (inr (left, is, to))

no_read : {P : Type 0} → (Read ≡ Memory) ⊎ (Read ≡ Write) → P
no_read (inl e) = absurd (let clash : Read ≡ Memory = e in cc)
no_read (inr e) = absurd (let clash : Read ≡ Write = e in cc)

-- a fault of a call that writes, with its cause, and what it leaves
pub ends_with : (known was : Option FileMap) (old now : Outside) (reader : ReaderSeen) (out : Output) (bytes : List ℕ) (fault : Fault) → (fault ≡ Memory) ⊎ (fault ≡ Write) → HasCause old now fault → LeavesFirst known was now.held reader out bytes
    → EndsCopying known was old now reader out bytes fault
ends_with known was old now reader out bytes (Refused cause) kind has left = absurd has
ends_with known was old now reader out bytes Read kind has left = no_read kind
ends_with known was old now reader out bytes Write kind has left = (has, left)
ends_with known was old now reader out bytes Memory kind has left = left

-- part of a draft that has more after it
pub short_part : (before old : Outside) (w : WriterSeen) (out : Output) (bytes : List ℕ) → Stands before old w out bytes → (chunk : ℕ) → out.chunk ≡ Some chunk → (records more : List ℕ) (held : Option FileMap) (n : ℕ) → held ≡ with_file before.held out.name (take n (stopped out records))
    → LeavesInPart out (records ++ more) before.held held
short_part before old w out bytes s chunk packed records more held n is =
    let p = stopped_short out chunk records more n s.head (some_chunk before old w out bytes s chunk packed) packed in
    inr (p.0, p.1, is ∙ ap (with_file before.held out.name) p.2)

pub part_unfinished : (out : Output) (records : List ℕ) (old new : Option FileMap) → LeavesInPart out records old new → LeavesUnfinished out records old new
part_unfinished out records old new (inl same) = inl same
part_unfinished out records old new (inr left) = inr (take left.0 (draft_of out records), inl (left.0, refl), left.2)

-- copying failed, for all records that may come after
first_part : (old new : Outside) (reader : ReaderSeen) (w : WriterSeen) (n : ℕ) (blocks : List (List ℕ)) (before : Outside) (out : Output) (bytes : List ℕ) → HoldFirst old.held reader n blocks → LeavesPart old new w (concat blocks) → Stands before old w out bytes
    → LeavesFirst old.held before.held new.held reader out bytes
first_part old new reader w n blocks before out bytes hold part s =
    let p = part before out bytes s in
    (n, blocks, hold, λ more none. leaves_part before old w out bytes s (concat blocks) more new.held p.0 p.1)

-- copying failed: its fault and what it leaves
pub ends_part : (old new : Outside) (reader : ReaderSeen) (w : WriterSeen) (n : ℕ) (blocks : List (List ℕ)) (before : Outside) (out : Output) (bytes : List ℕ) (fault : Fault) → HasCause old new fault → HoldFirst old.held reader n blocks → LeavesPart old new w (concat blocks) → Stands before old w out bytes
    → EndsCopying old.held before.held old new reader out bytes fault
ends_part old new reader w n blocks before out bytes (Refused cause) has hold part s = absurd has
ends_part old new reader w n blocks before out bytes Read has hold part s = (has, (n, blocks, hold, part before out bytes s))
ends_part old new reader w n blocks before out bytes Write has hold part s = (has, first_part old new reader w n blocks before out bytes hold part s)
ends_part old new reader w n blocks before out bytes Memory has hold part s = first_part old new reader w n blocks before out bytes hold part s

-- finishing failed
pub first_finish : (old new : Outside) (reader : ReaderSeen) (n : ℕ) (blocks : List (List ℕ)) (before : Outside) (out : Output) (bytes : List ℕ) (fault : Fault) (left : List ℕ) → HoldFirst old.held reader n blocks → n ≡ length reader.left
    → IsUnfinished (draft_of out (bytes ++ concat blocks)) (patches_of out (bytes ++ concat blocks)) left → Stops fault (with_bytes before out.name left) new → LeavesFirst old.held before.held new.held reader out bytes
first_finish old new reader n blocks before out bytes fault left hold all is stops =
    (n, blocks, hold, λ more none. leaves_end before out bytes (concat blocks) more new.held left (none all) is (held_after fault (with_bytes before out.name left) new stops))

-- stopping failed
pub first_stop : (old new : Outside) (reader : ReaderSeen) (w : WriterSeen) (n : ℕ) (blocks : List (List ℕ)) (before mid : Outside) (out : Output) (bytes : List ℕ) (fault : Fault) (k : ℕ) → HoldFirst old.held reader n blocks → Stands before old w out bytes
    → Stops fault (with_bytes (with_reads before mid) out.name (take k (stopped out (bytes ++ concat blocks)))) new → LeavesFirst old.held before.held new.held reader out bytes
first_stop old new reader w n blocks before mid out bytes fault k hold s stops = (
  n,
  blocks,
  hold,
  λ more none. leaves_part before old w out bytes s (concat blocks) more new.held k (held_after fault (with_bytes (with_reads before mid) out.name (take k (stopped out (bytes ++ concat blocks)))) new stops),
)

-- all pieces, if these are all
pub hold_all : (held : Option FileMap) (reader : ReaderSeen) (n : ℕ) (blocks : List (List ℕ)) → HoldFirst held reader n blocks → n ≡ length reader.left → HoldFirst held reader (length reader.left) blocks
hold_all held reader n blocks hold all = subst (λ (k : ℕ). HoldFirst held reader k blocks) all hold
