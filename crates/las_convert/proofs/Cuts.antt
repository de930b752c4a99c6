-- Records that are cut off one after another.
use Rattle.std.proofs.Common.{◌≡◌, ℕ, zero, suc, Bool, true, false, Option, Some, None, ◌+◌, ◌*◌, ◌-◌, ◌<◌, ◌≤◌, List, [], ◌∷◌, ◌++◌, length, take, drop, refl, sym, ◌∙◌, ap, subst, append_assoc, length-append, arith}
use Rattle.std.specs.List.{concat}
use Rattle.std.proofs.lemmas.List.{append-nil, drop-drop}
use Rattle.las_header.specs.Plain.{cut_records}
use Rattle.las_header.proofs.Public.{cut_length}
use borrow.Rule.Slice.PartMut.{put_mid}
use Rattle.std.proofs.lemmas.Slice.{take-put_mid, take-put_mid_below}
use Rattle.las_convert.specs.Adding.{Adds, Keeping}
use Rattle.las_convert.proofs.Adding.{GrowsBy, IsKeeping, adds_dropped, adds_kept, adds_more, adds_refused, adds_then}
use Rattle.laz_reader.proofs.Public.{concat_last}

-- one record more
pub cut_more : (size t : ℕ) (bytes : List ℕ) → cut_records size (t + 1) bytes ≡ cut_records size t bytes ++ take size (drop (size * t) bytes) ∷ []
cut_more size zero bytes =
    let none : size * 0 ≡ 0 = omega arith in
    ap (λ (k : ℕ). take size (drop k bytes) ∷ []) (sym none)
cut_more size (suc t) bytes =
    let far : size + size * t ≡ size * suc t = omega arith in
    let more : suc t + 1 ≡ suc (t + 1) = omega arith in
    ap (λ (k : ℕ). cut_records size k bytes) more
    ∙ ap (λ (rs : List (List ℕ)). take size bytes ∷ rs) (cut_more size t (drop size bytes))
    ∙ ap (λ (xs : List ℕ). take size bytes ∷ (cut_records size t (drop size bytes) ++ take size xs ∷ [])) (drop-drop (size * t) size bytes)
    ∙ ap (λ (k : ℕ). take size bytes ∷ (cut_records size t (drop size bytes) ++ take size (drop k bytes) ∷ [])) far

-- the records after some of them
pub cut_rest : (size t n : ℕ) (bytes : List ℕ) → cut_records size (t + n) bytes ≡ cut_records size t bytes ++ cut_records size n (drop (size * t) bytes)
cut_rest size zero n bytes =
    let none : size * 0 ≡ 0 = omega arith in
    let same : 0 + n ≡ n = omega arith in
    ap (λ (k : ℕ). cut_records size k bytes) same ∙ ap (λ (k : ℕ). cut_records size n (drop k bytes)) (sym none)
cut_rest size (suc t) n bytes =
    let far : size + size * t ≡ size * suc t = omega arith in
    let more : suc t + n ≡ suc (t + n) = omega arith in
    ap (λ (k : ℕ). cut_records size k bytes) more
    ∙ ap (λ (rs : List (List ℕ)). take size bytes ∷ rs) (cut_rest size t n (drop size bytes))
    ∙ ap (λ (xs : List ℕ). take size bytes ∷ (cut_records size t (drop size bytes) ++ cut_records size n xs)) (drop-drop (size * t) size bytes)
    ∙ ap (λ (k : ℕ). take size bytes ∷ (cut_records size t (drop size bytes) ++ cut_records size n (drop k bytes))) far

-- ---- one record of a block more

-- how many records there are with those of a block so far
pub reached : (before : List (List ℕ)) (size t : ℕ) (block : List ℕ) (read place : ℕ) → length before ≡ read → place ≡ read + t → length (before ++ cut_records size t block) ≡ place
reached before size t block read place one two = omega (arith, length-append before (cut_records size t block), cut_length size t block, one, two)

pub next_cut : (size t : ℕ) (block rest point : List ℕ) → rest ≡ drop (size * t) block → point ≡ take size rest → cut_records size (t + 1) block ≡ cut_records size t block ++ point ∷ []
next_cut size t block rest point left first = cut_more size t block ∙ ap (λ (xs : List ℕ). cut_records size t block ++ xs ∷ []) (ap (take size) (sym left) ∙ sym first)

module _ (keeping : Keeping) (before : List (List ℕ)) (size t : ℕ) (block rest point : List ℕ) (left : rest ≡ drop (size * t) block) (first : point ≡ take size rest) (passes : Bool) (out : Option (List ℕ)) (grow : GrowsBy keeping (before ++ cut_records size t block) point passes out) (ones : List (List ℕ)) (adds : Adds keeping before (cut_records size t block) ones false) where
  next : cut_records size (t + 1) block ≡ cut_records size t block ++ point ∷ []
  next = next_cut size t block rest point left first

  pub next_dropped : passes ≡ false → Adds keeping before (cut_records size (t + 1) block) ones false
  next_dropped drops =
      let both = adds_then keeping before (cut_records size t block) (point ∷ []) ones [] false adds (adds_dropped keeping (before ++ cut_records size t block) point passes out grow drops) in
      subst (λ (rs : List (List ℕ)). Adds keeping before rs ones false) (sym next) (subst (λ (os : List (List ℕ)). Adds keeping before (cut_records size t block ++ point ∷ []) os false) (append-nil ones) both)

  pub next_kept : (new : List ℕ) → passes ≡ true → out ≡ Some new → Adds keeping before (cut_records size (t + 1) block) (ones ++ new ∷ []) false
  next_kept new pass made =
      let both = adds_then keeping before (cut_records size t block) (point ∷ []) ones (new ∷ []) false adds (adds_kept keeping (before ++ cut_records size t block) point new passes out grow pass made) in
      subst (λ (rs : List (List ℕ)). Adds keeping before rs (ones ++ new ∷ []) false) (sym next) both

  pub next_refused : IsKeeping keeping → (n : ℕ) → passes ≡ true → out ≡ None → t < n → Adds keeping before (cut_records size n block) ones true
  next_refused keeps n pass refused more =
      let both = adds_then keeping before (cut_records size t block) (point ∷ []) ones [] true adds (adds_refused keeping (before ++ cut_records size t block) point passes out grow pass refused) in
      let here = subst (λ (rs : List (List ℕ)). Adds keeping before rs ones true) (sym next) (subst (λ (os : List (List ℕ)). Adds keeping before (cut_records size t block ++ point ∷ []) os true) (append-nil ones) both) in
      let all : (t + 1) + (n - (t + 1)) ≡ n = omega arith in
      let others = cut_records size (n - (t + 1)) (drop (size * (t + 1)) block) in
      let whole : cut_records size (t + 1) block ++ others ≡ cut_records size n block = sym (cut_rest size (t + 1) (n - (t + 1)) block) ∙ ap (λ (m : ℕ). cut_records size m block) all in
      subst (λ (rs : List (List ℕ)). Adds keeping before rs ones true) whole (adds_more keeping keeps before (cut_records size (t + 1) block) others ones here)

pub after_next : (before : List (List ℕ)) (size t : ℕ) (block rest point : List ℕ) → rest ≡ drop (size * t) block → point ≡ take size rest → (before ++ cut_records size t block) ++ point ∷ [] ≡ before ++ cut_records size (t + 1) block
after_next before size t block rest point left first =
    append_assoc before (cut_records size t block) (point ∷ []) ∙ ap (λ (xs : List (List ℕ)). before ++ xs) (sym (next_cut size t block rest point left first))

-- ---- the records of a block that are kept so far, at the front of a buffer

-- of some records these are kept, and then one is refused, or none
abbrev pub Adding : Type 1
Adding = (records ones : List (List ℕ)) → (refused : Bool) → Type 0

pub record KeptSo (Adds : Adding) (size t at : ℕ) (block buffer : List ℕ) : Type 0 where
  pub ones : List (List ℕ)
  pub bytes : take at buffer ≡ concat ones
  pub size_is : at ≡ size * length ones
  pub adds : Adds (cut_records size t block) ones false

pub kept_first : (Adds : Adding) (size : ℕ) (block buffer : List ℕ) → Adds [] [] false → KeptSo Adds size 0 0 block buffer
kept_first Adds size block buffer none = record { ones = []; bytes = refl; size_is = omega arith; adds = none }

module _ (Adds : Adding) (size t at : ℕ) (block buffer : List ℕ) (so : KeptSo Adds size t at block buffer) where
  pub kept_dropped : {n : ℕ} {now : List ℕ} → n ≡ at → now ≡ buffer
      → ((ones : List (List ℕ)) → Adds (cut_records size t block) ones false
      → Adds (cut_records size (t + 1) block) ones false) → KeptSo Adds size (t + 1) n block now
  kept_dropped {n} {now} n_is now_is go = record {
    ones = so.ones;
    bytes = ap (λ (m : ℕ). take m now) n_is ∙ ap (take at) now_is ∙ so.bytes;
    size_is = n_is ∙ so.size_is;
    adds = go so.ones so.adds;
  }

  pub kept_more : {n : ℕ} {now : List ℕ} (k : ℕ) (new : List ℕ) → n ≡ at + size → now ≡ put_mid at k buffer new
      → ((ones : List (List ℕ)) → Adds (cut_records size t block) ones false
      → Adds (cut_records size (t + 1) block) (ones ++ new ∷ []) false) → length new ≡ size → at ≤ length buffer
      → KeptSo Adds size (t + 1) n block now
  kept_more {n} {now} k new n_is now_is go long within =
      let here : at + size ≡ at + length new = omega (arith, long) in
      let more : size * length (so.ones ++ new ∷ []) ≡ size * (length so.ones + 1) = ap (λ (n : ℕ). size * n) (length-append so.ones (new ∷ [])) in
      record {
        ones = so.ones ++ new ∷ [];
        bytes = ap (λ (m : ℕ). take m now) n_is ∙ ap (take (at + size)) now_is
            ∙ take-put_mid at k buffer new (at + size) here within ∙ ap (λ (xs : List ℕ). xs ++ new) so.bytes
            ∙ sym (concat_last so.ones new);
        size_is = omega (arith, n_is, so.size_is, more);
        adds = go so.ones so.adds;
      }

  pub kept_refused : (k n : ℕ) (new : List ℕ) → ((ones : List (List ℕ)) → Adds (cut_records size t block) ones false → Adds (cut_records size n block) ones true) → at ≤ length buffer
      → (ones : List (List ℕ)) × (take at (put_mid at k buffer new) ≡ concat ones) × (at ≡ size * length ones) × Adds (cut_records size n block) ones true
  kept_refused k n new go within = (so.ones, take-put_mid_below at k buffer new at (omega arith) within ∙ so.bytes, so.size_is, go so.ones so.adds)

-- what is left of a block of which no record was cut yet
pub none_yet : (size : ℕ) (block : List ℕ) → block ≡ drop (size * 0) block
none_yet size block = let none : 0 ≡ size * 0 = omega arith in ap (λ (k : ℕ). drop k block) none
