-- Blocks of records that are copied, one after another.
use Rattle.std.proofs.Common.{◌≡◌, inl, inr, ℕ, ◌+◌, ◌*◌, ◌/◌, ◌%◌, ◌^◌, ◌<◌, ◌≤◌, List, [], ◌∷◌, ◌++◌, length, take, Option, Some, Result, IfOk, IfErr, OnOk, refl, sym, ◌∙◌, ap, subst, arith}
use Rattle.std.specs.Prelude.{All}
use Rattle.std.specs.List.{concat}
use Rattle.std.proofs.lemmas.Bool.{cases_lt}
use Rattle.std.proofs.Math.Nat.{div-add-mod, mul-le-mul_left}
use Rattle.las_header.specs.declared.refusal.Refusal.{Refusal}
use Rattle.las_header.specs.Fields.{record_length_of}
use Rattle.las_header.specs.Plain.{cut_records}
use Rattle.las_header.proofs.Public.{cut_length}
use Rattle.las_outside.specs.Faults.{Rose}
use Rattle.las_outside.specs.Outside.{Outside}
use Rattle.laz_forms.specs.declared.fault.Fault.{Fault}
use Rattle.laz_forms.specs.declared.fault.Fault.TheVariants.{Refused, Read, Write, Memory}
use Rattle.laz_forms.specs.FileFaults.{HasCause, end_of}
use Rattle.laz_file.specs.Copying.{CanTake}
use Rattle.laz_reader.specs.Reading.{AreWholeBlocks, EndsReading, ReaderSeen, records_in}
use Rattle.laz_reader.specs.Turns.{MayCome}
use Rattle.laz_writer.specs.Writing.{WriterSeen}
use Rattle.laz_reader.proofs.Public.{concat_last, even_whole}
use Rattle.laz_writer.proofs.Public.{cut-append}

-- ---- some blocks

pub even_for : (reader : ReaderSeen) (v : WriterSeen) (m : ℕ) (ys : List (List ℕ)) → CanTake reader v → AreWholeBlocks (record_length_of reader.head.bytes) (take m reader.left) ys → All (λ block. length block % v.size ≡ 0) ys
even_for reader v m ys can whole =
    subst (λ (n : ℕ). All (λ block. length block % n ≡ 0) ys) (sym can.size) (even_whole (record_length_of reader.head.bytes) (take m reader.left) ys whole)

-- ---- the records of the blocks that come

-- whole numbers of times that a size fits into parts fit into the whole
two_fit : (size a b k : ℕ) → 0 < size → a + b ≤ size * k → a / size + b / size ≤ k
two_fit size a b k some all = elim (cases_lt k (a / size + b / size)) [
  | inr fits ↦ fits
  | inl past ↦
      let more : k + 1 ≤ a / size + b / size = omega (arith, past) in
      absurd (omega (arith, mul-le-mul_left size more, div-add-mod a size, div-add-mod b size))
]

-- how many records there are with a block more: no more than the reader has
pub few_come : (reader : ReaderSeen) (size : ℕ) (records block : List ℕ) → 0 < size → size ≡ record_length_of reader.head.bytes → MayCome reader records block → records_in reader.left < 2 ^ 32 → length (cut_records size (length records / size) records) + length block / size < 2 ^ 32
few_come reader size records block some is come few =
    let all = subst (λ (k : ℕ). length records + length block ≤ k * records_in reader.left) (sym is) come.within in
    omega (arith, two_fit size (length records) (length block) (records_in reader.left) some all, cut_length size (length records / size) records, few)

-- the records with those of a block more
pub records_come : (reader : ReaderSeen) (size : ℕ) (xs : List (List ℕ)) (block : List ℕ) → 0 < size → size ≡ record_length_of reader.head.bytes → MayCome reader (concat xs) block
    → cut_records size (length (concat (xs ++ block ∷ [])) / size) (concat (xs ++ block ∷ [])) ≡ cut_records size (length (concat xs) / size) (concat xs) ++ cut_records size (length block / size) block
records_come reader size xs block some is come =
    let even = subst (λ (k : ℕ). length (concat xs) % k ≡ 0) (sym is) come.before in
    ap (λ (t : List ℕ). cut_records size (length t / size) t) (concat_last xs block) ∙ cut-append size (concat xs) block some even

-- how copying ends if a reader does
pub end_ok : (fault : Fault) (r : Result (Option Refusal) Fault) (P : Option Refusal → Type 0) → r ≡ end_of fault → ((cause : Refusal) → fault ≡ Refused cause → P (Some cause)) → IfOk r P
end_ok fault r P is to = subst (λ (x : Result (Option Refusal) Fault). IfOk x P) (sym is) (by fault to)
  where
    by : (f : Fault) → ((cause : Refusal) → f ≡ Refused cause → P (Some cause)) → IfOk (end_of f) P
    by (Refused cause) h = h cause refl
    by Read h = tt
    by Write h = tt
    by Memory h = tt

pub end_err : (fault : Fault) (r : Result (Option Refusal) Fault) (old mid new : Outside) → r ≡ end_of fault → EndsReading ⊥ mid new fault → mid.read_faults ≡ old.read_faults → IfErr r (HasCause old new)
end_err fault r old mid new is ends same = subst (λ (x : Result (Option Refusal) Fault). IfErr x (HasCause old new)) (sym is) (by fault ends)
  where
    by : (f : Fault) → EndsReading ⊥ mid new f → IfErr (end_of f) (HasCause old new)
    by (Refused cause) e = tt
    by Read (inl missing) = absurd missing
    by Read (inr rose) = subst (λ (n : ℕ). Rose n new.read_faults) same rose
    by Write e = absurd e
    by Memory e = tt

pub calm_ok : (fault : Fault) (r : Result (Option Refusal) Fault) (old mid new : Outside) → r ≡ end_of fault → EndsReading ⊥ mid new fault → mid.read_faults ≡ old.read_faults → OnOk r (new.read_faults ≡ old.read_faults)
calm_ok fault r old mid new is ends same = subst (λ (x : Result (Option Refusal) Fault). OnOk x (new.read_faults ≡ old.read_faults)) (sym is) (by fault ends)
  where
    by : (f : Fault) → EndsReading ⊥ mid new f → OnOk (end_of f) (new.read_faults ≡ old.read_faults)
    by (Refused cause) e = e ∙ same
    by Read e = tt
    by Write e = tt
    by Memory e = tt
