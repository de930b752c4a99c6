-- Bytes that are put one after another into a place.
use Rattle.std.proofs.Common.{◌≡◌, ℕ, ◌+◌, ◌%◌, ◌<◌, List, [], ◌∷◌, ◌++◌, length, take, slice_set, sym, ◌∙◌, ap, append_assoc, arith}
use Rattle.std.proofs.lemmas.List.{take_more_set}
use Rattle.std.proofs.lemmas.List.FromFn.{map-range_with_len_more}
use Rattle.las_make.specs.Records.{extra_bytes}

-- the place holds these bytes up to here, and then others after them
pub put_next : (at next : ℕ) (old new bytes done field : List ℕ) → take at old ≡ done → bytes ≡ field → at + length field ≡ next → take (at + length bytes) new ≡ take at old ++ bytes → take next new ≡ done ++ field
put_next at next old new bytes done field before is end put =
    ap (λ (n : ℕ). take n new) (sym end ∙ ap (λ (b : List ℕ). at + length b) (sym is)) ∙ put ∙ ap (λ (b : List ℕ). take at old ++ b) is ∙ ap (λ (d : List ℕ). d ++ field) before

-- one extra byte more
pub extra_next : (at j k : ℕ) (first now : List ℕ) → at + j < length now → take (at + j) now ≡ take at first ++ extra_bytes j k → take (at + (j + 1)) (slice_set now (at + j) ((k + j) % 256)) ≡ take at first ++ extra_bytes (j + 1) k
extra_next at j k first now within is =
    let byte = λ (i : ℕ). (k + i) % 256 in
    let end : at + (j + 1) ≡ at + j + 1 = omega arith in
    ap (λ (n : ℕ). take n (slice_set now (at + j) (byte j))) end ∙ take_more_set now (at + j) (byte j) within ∙ ap (λ (xs : List ℕ). xs ++ byte j ∷ []) is ∙ append_assoc (take at first) (extra_bytes j k) (byte j ∷ [])
    ∙ ap (λ (xs : List ℕ). take at first ++ xs) (sym (map-range_with_len_more byte 0 j j (omega arith)))

-- some bytes were appended
pub appended : (old new bytes done field : List ℕ) → old ≡ done → bytes ≡ field → new ≡ old ++ bytes → new ≡ done ++ field
appended old new bytes done field before is put = put ∙ ap (λ (b : List ℕ). old ++ b) is ∙ ap (λ (d : List ℕ). d ++ field) before
