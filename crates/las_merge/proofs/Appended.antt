-- What an output holds after parts of other files were appended to it.
use Rattle.std.proofs.Common.{◌≡◌, ◌≢◌, inl, inr, ℕ, zero, suc, ◌+◌, ◌-◌, ◌<◌, ◌≤◌, min, Bool, cond, List, [], ◌∷◌}
use Rattle.std.proofs.Common.{◌++◌, length, map, get_or, take, drop, Option, Some, None, IsSomeAnd, unwrap_or, refl}
use Rattle.std.proofs.Common.{sym, ◌∙◌, ap, subst, append_assoc, arith}
use Rattle.std.specs.FinMap as map
use Rattle.std.proofs.lemmas.List.Sums.{sum_by-append, sum_by-cons}
use Rattle.std.specs.Prelude.{All, sum_by}
use Rattle.std.proofs.lemmas.List.{append-nil, drop-drop, length-take, take_more, take-append-drop, take-take, take_all}
use Rattle.std.proofs.lemmas.Bool.{cases_lt}
use Rattle.std.proofs.Math.Nat.{min-eq_left, min-eq_right}
use Rattle.std.proofs.Math.Seq.{take-add}
use Rattle.std.specs.List.{concat}
use Rattle.las_outside.specs.Faults.{Rose}
use Rattle.las_outside.specs.Files.{FileMap, WhereKnown, bytes_of, with_file}
use Rattle.las_outside.specs.Frames.{OnlyWrites}
use Rattle.las_outside.specs.Outside.{Later, Outside, with_asked, with_bytes, with_write_fault}
use Rattle.las_outside.proofs.Public.{get-with_value, same_other, after, changed_after, prefix_of}
use Rattle.laz_forms.specs.declared.fault.Fault.TheVariants as fault
use Rattle.laz_file.specs.Copying.{with_reads, LeavesPrefix}
use Rattle.las_merge.specs.declared.fault.MergeFault.{MergeFault}
use Rattle.las_merge.specs.declared.fault.MergeFault.TheVariants.{At, Unequal, TooManyPoints, TooManyChunks, Write}
use Rattle.las_merge.specs.declared.fault.MergeFault.TheVariants.{Memory}
use Rattle.las_merge.specs.Appending.{IsCopyFault, SourceSeen, source_bytes, part_of}

-- bytes that were read are the part, if the files are known
some_bytes : (o : Option (List ℕ)) (P : List ℕ → Type 0) → IsSomeAnd o P → P (unwrap_or o [])
some_bytes None P h = absurd h
some_bytes (Some file) P h = h

pub read_part : (held : Option FileMap) (name buf : List ℕ) (at n : ℕ) (put : List ℕ → Option FileMap) → WhereKnown held name (λ file. buf ≡ take n (drop at file)) → (held ≡ None → (x y : List ℕ) → put x ≡ put y) → put buf ≡ put (source_bytes held name at n)
read_part None name buf at n put known none = none refl buf (source_bytes None name at n)
read_part (Some files) name buf at n put known none = ap put (some_bytes (map.get files name) (λ file. buf ≡ take n (drop at file)) known)

none_put : (before : Option FileMap) (name text : List ℕ) → with_file before name text ≡ None → (x y : List ℕ) → with_file before name x ≡ with_file before name y
none_put None name text e x y = refl
none_put (Some files) name text e x y = absurd (cc)

-- one part more
pub part_more : (held : Option FileMap) (name : List ℕ) (place done size : ℕ) → source_bytes held name place done ++ source_bytes held name (place + done) size ≡ source_bytes held name place (done + size)
part_more held name place done size =
    let rest = drop place (bytes_of held name) in
    ap (λ (t : List ℕ). take done rest ++ take size t) (sym (drop-drop done place (bytes_of held name))) ∙ sym (take-add done size rest)

pub part_prefix : (held : Option FileMap) (name : List ℕ) (place done piece size k : ℕ) → done + piece ≤ size
    → (n : ℕ) × (source_bytes held name place done ++ take k (source_bytes held name (place + done) piece) ≡ take n (source_bytes held name place size))
part_prefix held name place done piece size k within =
    let one = source_bytes held name place done in
    let two = source_bytes held name (place + done) piece in
    let rest = source_bytes held name (place + done + piece) (size - done - piece) in
    let all : done + (piece + (size - done - piece)) ≡ size = omega (arith, within) in
    let whole : one ++ (two ++ rest) ≡ source_bytes held name place size =
    ap (λ (t : List ℕ). one ++ t) (part_more held name (place + done) piece (size - done - piece))
    ∙ part_more held name place done (piece + (size - done - piece)) ∙ ap (λ (m : ℕ). source_bytes held name place m) all in
    (length one + min k (length two), prefix_of one two rest k ∙ ap (take (length one + min k (length two))) whole)

-- ---- the outside
-- what is written is seen, whatever was read before
pub reads_now : (before w now : Outside) (name text : List ℕ) → now ≡ with_bytes w name text → w.held ≡ before.held → w.write_faults ≡ before.write_faults → now ≡ with_bytes (with_reads before now) name text
reads_now before w now name text is held writes =
    let h : now.held ≡ with_file before.held name text = ap (λ (o : Outside). o.held) is ∙ ap (λ (m : Option FileMap). with_file m name text) held in
    let f : now.write_faults ≡ before.write_faults = ap (λ (o : Outside). o.write_faults) is ∙ writes in
    λ i. record { held = h i; read_faults = now.read_faults; write_faults = f i; asked = now.asked }

-- nothing else changes
pub writes_by : (old now : Outside) (name text : List ℕ) → now ≡ with_bytes old name text → Later old now
    → OnlyWrites old now
writes_by old now name text is later = record {
  asked = ap (λ (o : Outside). o.asked) is;
  reads = ap (λ (o : Outside). o.read_faults) is;
  later = later;
}

-- the other text gives the same
text_now : (before now : Outside) (name text other : List ℕ) → now ≡ with_bytes (with_reads before now) name text → with_file before.held name text ≡ with_file before.held name other → now ≡ with_bytes (with_reads before now) name other
text_now before now name text other is same =
    let h : now.held ≡ with_file before.held name other = ap (λ (o : Outside). o.held) is ∙ same in
    let f : now.write_faults ≡ before.write_faults = ap (λ (o : Outside). o.write_faults) is in
    λ i. record { held = h i; read_faults = now.read_faults; write_faults = f i; asked = now.asked }

module _ (before old cur : Outside) (input output text buf : List ℕ) (place n : ℕ) (was : old ≡ with_bytes before output text) (read : cur ≡ with_asked old n) (known : WhereKnown old.held input (λ file. buf ≡ take n (drop place file))) where
  cur_is : cur ≡ with_bytes (with_asked before n) output text
  cur_is = read ∙ ap (λ (o : Outside). with_asked o n) was

  -- what was read is the part, as far as the files tell
  as_part : (f : List ℕ → List ℕ) → with_file before.held output (f buf) ≡ with_file before.held output (f (source_bytes old.held input place n))
  as_part f =
      read_part old.held input buf place n (λ x. with_file before.held output (f x)) known
      (λ none x y. none_put before.held output text (sym (ap (λ (o : Outside). o.held) was) ∙ none) (f x) (f y))

  pub piece_copied : (now : Outside) → now ≡ with_bytes cur output (bytes_of cur.held output ++ buf) → now ≡ with_bytes (with_reads before now) output (text ++ source_bytes old.held input place n)
  piece_copied now is =
      let put = changed_after (with_asked before n) output text (λ b. b ++ buf) cur now cur_is is in
      text_now before now output (text ++ buf) (text ++ source_bytes old.held input place n) (reads_now before (with_asked before n) now output (text ++ buf) put refl refl) (as_part (λ x. text ++ x))

  pub piece_left : (now : Outside) (k : ℕ) → now ≡ with_write_fault (with_bytes cur output (bytes_of cur.held output ++ take k buf)) → now.held ≡ with_file before.held output (text ++ take k (source_bytes old.held input place n))
  piece_left now k is =
      after before.held output text (λ b. b ++ take k buf) cur.held now.held (ap (λ (o : Outside). o.held) cur_is) (ap (λ (o : Outside). o.held) is)
      ∙ as_part (λ x. text ++ take k x)

-- ---- the input stays while the output is written
other_get : (files : FileMap) (name other bytes : List ℕ) → other ≢ name → map.get (map.insert files name bytes) other ≡ map.get files other
other_get files name other bytes ne = get-with_value files name (Some bytes) other ∙ ap (λ (b : Bool). cond b (Some bytes) (map.get files other)) (same_other other name ne)

other_same : (held : Option FileMap) (name other xs ys : List ℕ) (P : List ℕ → Type 0) → other ≢ name → WhereKnown (with_file held name xs) other P → WhereKnown (with_file held name ys) other P
other_same None name other xs ys P ne known = known
other_same (Some files) name other xs ys P ne known = subst (λ (o : Option (List ℕ)). IsSomeAnd o P) (other_get files name other xs ne ∙ sym (other_get files name other ys ne)) known

other_bytes : (held : Option FileMap) (name other xs ys : List ℕ) → other ≢ name → bytes_of (with_file held name xs) other ≡ bytes_of (with_file held name ys) other
other_bytes None name other xs ys ne = refl
other_bytes (Some files) name other xs ys ne = ap (λ (o : Option (List ℕ)). unwrap_or o []) (other_get files name other xs ne ∙ sym (other_get files name other ys ne))

pub still_known : (before old cur : Option FileMap) (name other xs ys : List ℕ) (P : List ℕ → Type 0) → other ≢ name → old ≡ with_file before name xs → cur ≡ with_file before name ys → WhereKnown old other P → WhereKnown cur other P
still_known before old cur name other xs ys P ne was is known =
    subst (λ (h : Option FileMap). WhereKnown h other P) (sym is) (other_same before name other xs ys P ne (subst (λ (h : Option FileMap). WhereKnown h other P) was known))

pub still_part : (before old cur : Option FileMap) (name other xs ys : List ℕ) (place size : ℕ) → other ≢ name → old ≡ with_file before name xs → cur ≡ with_file before name ys → source_bytes cur other place size ≡ source_bytes old other place size
still_part before old cur name other xs ys place size ne was is =
    ap (λ (b : List ℕ). take size (drop place b))
    (ap (λ (h : Option FileMap). bytes_of h other) is ∙ other_bytes before name other ys xs ne ∙ ap (λ (h : Option FileMap). bytes_of h other) (sym was))

-- ---- bytes that are appended in pieces
take_less : (k s : ℕ) (xs : List ℕ) → take k (take s xs) ≡ take (min k s) xs
take_less k s xs = elim (cases_lt k s) [
  | inl less ↦ let le : k ≤ s = omega (arith, less) in take-take k s xs le ∙ ap (λ (n : ℕ). take n xs) (sym (min-eq_left le))
  | inr more ↦ take_all k (take s xs) (omega (arith, length-take s xs, more)) ∙ ap (λ (n : ℕ). take n xs) (sym (min-eq_right more))
]

pub slice_more : (bytes : List ℕ) (done size : ℕ) → take done bytes ++ take (done + size - done) (drop done bytes) ≡ take (done + size) bytes
slice_more bytes done size =
    let same : done + size - done ≡ size = omega arith in
    ap (λ (n : ℕ). take done bytes ++ take n (drop done bytes)) same ∙ sym (take-add done size bytes)

pub slice_part : (bytes : List ℕ) (done size k : ℕ) → take done bytes ++ take k (take (done + size - done) (drop done bytes)) ≡ take (done + min k (done + size - done)) bytes
slice_part bytes done size k =
    ap (λ (t : List ℕ). take done bytes ++ t) (take_less k (done + size - done) (drop done bytes)) ∙ sym (take-add done (min k (done + size - done)) bytes)

-- ---- parts one after another
module _ {X : Type 0} (f : X → List ℕ) where
  joined-append : (xs ys : List X) → concat (map f (xs ++ ys)) ≡ concat (map f xs) ++ concat (map f ys)
  joined-append [] ys = refl
  joined-append (x ∷ xs) ys = ap (λ (t : List ℕ). f x ++ t) (joined-append xs ys) ∙ sym (append_assoc (f x) (concat (map f xs)) (concat (map f ys)))

  pub joined_more : (xs : List X) (i : ℕ) (d : X) → i < length xs → concat (map f (take (i + 1) xs)) ≡ concat (map f (take i xs)) ++ f (get_or xs i d)
  joined_more xs i d within =
      ap (λ (t : List X). concat (map f t)) (take_more xs i d within) ∙ joined-append (take i xs) (get_or xs i d ∷ []) ∙ ap (λ (t : List ℕ). concat (map f (take i xs)) ++ t) (append-nil (f (get_or xs i d)))

  joined_split : (xs : List X) (i : ℕ) (d : X) → i < length xs → concat (map f xs) ≡ concat (map f (take i xs)) ++ (f (get_or xs i d) ++ concat (map f (drop (suc i) xs)))
  joined_split [] i d within = absurd (omega (arith, within))
  joined_split (x ∷ xs) zero d within = refl
  joined_split (x ∷ xs) (suc i) d within =
      ap (λ (t : List ℕ). f x ++ t) (joined_split xs i d (omega (arith, within))) ∙ sym (append_assoc (f x) (concat (map f (take i xs))) (f (get_or xs i d) ++ concat (map f (drop (suc i) xs))))

  pub in_part : (xs : List X) (i k : ℕ) (d : X) → i < length xs → (n : ℕ) × (concat (map f (take i xs)) ++ take k (f (get_or xs i d)) ≡ take n (concat (map f xs)))
  in_part xs i k d within =
      let done = concat (map f (take i xs)) in
      let piece = f (get_or xs i d) in
      let rest = concat (map f (drop (suc i) xs)) in
      (length done + min k (length piece), prefix_of done piece rest k ∙ ap (take (length done + min k (length piece))) (sym (joined_split xs i d within)))

-- ---- sums
pub sum_more : {X : Type 0} (f : X → ℕ) (xs : List X) (i : ℕ) (d : X) → i < length xs → sum_by f (take (i + 1) xs) ≡ sum_by f (take i xs) + f (get_or xs i d)
sum_more f xs i d within =
    ap (sum_by f) (take_more xs i d within) ∙ sum_by-append f (take i xs) (get_or xs i d ∷ [])
    ∙ (let one : sum_by f (take i xs) + sum_by f (get_or xs i d ∷ []) ≡ sum_by f (take i xs) + f (get_or xs i d) = omega (arith, sum_by-cons f (get_or xs i d) []) in one)

pub sum_within : {X : Type 0} (f : X → ℕ) (xs : List X) (i : ℕ) → sum_by f (take i xs) ≤ sum_by f xs
sum_within f xs i = omega (arith, ap (sum_by f) (take-append-drop i xs), sum_by-append f (take i xs) (drop i xs))

-- ---- a fault since the first part
pub copy_fault_since : (P Q : ℕ → Type 0) (old cur now : Outside) → cur.read_faults ≡ old.read_faults → cur.write_faults ≡ old.write_faults → ((n : ℕ) → P n → Q n) → (f : MergeFault) → IsCopyFault P cur now f → IsCopyFault Q old now f
copy_fault_since P Q old cur now reads writes to (At number (fault.Refused cause)) h = absurd h
copy_fault_since P Q old cur now reads writes to (At number fault.Read) h = (to number h.0, subst (λ (n : ℕ). Rose n now.read_faults) reads h.1)
copy_fault_since P Q old cur now reads writes to (At number fault.Write) h = absurd h
copy_fault_since P Q old cur now reads writes to (At number fault.Memory) h = absurd h
copy_fault_since P Q old cur now reads writes to (Unequal number field) h = absurd h
copy_fault_since P Q old cur now reads writes to TooManyPoints h = absurd h
copy_fault_since P Q old cur now reads writes to TooManyChunks h = absurd h
copy_fault_since P Q old cur now reads writes to Write h = subst (λ (n : ℕ). Rose n now.write_faults) writes h
copy_fault_since P Q old cur now reads writes to Memory h = absurd h

-- ---- what is left of a text
pub leaves_more : (was now : Option FileMap) (name text more : List ℕ) → LeavesPrefix was now name text → LeavesPrefix was now name (text ++ more)
leaves_more was now name text more (inl same) = inl same
leaves_more was now name text more (inr left) =
    inr (0 + min left.0 (length text), left.1 ∙ ap (λ (t : List ℕ). with_file was name t) (prefix_of [] text more left.0))

-- parts of other files, after an output was begun
part_after : (held : Option FileMap) (name text : List ℕ) (s : SourceSeen) → s.name ≢ name → part_of (with_file held name text) s ≡ part_of held s
part_after None name text s ne = refl
part_after (Some files) name text s ne = ap (λ (o : Option (List ℕ)). take s.size (drop s.place (unwrap_or o []))) (other_get files name s.name text ne)

pub parts_after : (held : Option FileMap) (name text : List ℕ) (sources : List SourceSeen) → All (λ s. s.name ≢ name) sources → concat (map (part_of (with_file held name text)) sources) ≡ concat (map (part_of held) sources)
parts_after held name text [] other = refl
parts_after held name text (s ∷ ss) other =
    let one = part_after held name text s (other 0 s (omega arith)) in
    let more = parts_after held name text ss (λ k d lt. other (suc k) d (omega (arith, lt))) in
    λ i. one i ++ more i
