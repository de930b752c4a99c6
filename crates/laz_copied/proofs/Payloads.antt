-- A laszip payload for counted chunks is refused for no cause, and every payload that is not refused is as long as one
-- that is written for its records.
use Rattle.std.proofs.Common.{◌≡◌, ℕ, ◌+◌, ◌*◌, nat_eq, true, false, List, [], ◌∷◌, ◌++◌, length, take, drop, None, refl, sym, ap, ◌∙◌, arith}
use Rattle.std.proofs.lemmas.Bool.{eqb-true, or_parts, not-false, and_parts}
use Rattle.std.proofs.lemmas.List.{take-append-drop}
use Rattle.std.specs.Cmp.Lexicographic.{pointwise}
use Rattle.std.specs.List.{starts_with}
use Rattle.las_header.specs.declared.refusal.Refusal.TheVariants as cause
use Rattle.las_header.specs.Numbers.{number_at}
use Rattle.las_header.specs.Refusals.{first_cause}
use Rattle.las_header.proofs.Public.{none_first, number_at-drop, reads_back}
use Rattle.laz_table.specs.Payload.{all_item_bytes, items_of, items_part, laszip_payload}
use Rattle.laz_table.specs.VlrCauses.{chunk_size_in, has_other_compressor, has_other_items, has_other_shape, is_bad_chunk_size, makes_many_chunks, payload_causes}
use Rattle.laz_forms.proofs.Public.{payload-by, payload-chunk, few-items, length-payload}

-- what begins with a list is that list and a rest
pointwise-is : (xs ys : List ℕ) → pointwise nat_eq xs ys ≡ true → xs ≡ ys
pointwise-is [] [] e = refl
pointwise-is [] (y ∷ ys) e = absurd (cc)
pointwise-is (x ∷ xs) [] e = absurd (cc)
pointwise-is (x ∷ xs) (y ∷ ys) e =
    let both = and_parts (nat_eq x y) (pointwise nat_eq xs ys) e in
    ap (λ (n : ℕ). n ∷ xs) (eqb-true x y both.0) ∙ ap (λ (l : List ℕ). y ∷ l) (pointwise-is xs ys both.1)

begins-is : (xs ys : List ℕ) → starts_with nat_eq xs ys ≡ true → xs ≡ ys ++ drop (length ys) xs
begins-is xs ys e = sym (take-append-drop (length ys) xs) ∙ ap (λ (t : List ℕ). t ++ drop (length ys) xs) (sym (pointwise-is ys (take (length ys) xs) e))

-- ---- a payload of counted chunks
pub counted-fine : (format extra points : ℕ) → first_cause (payload_causes format extra points (laszip_payload format extra 4294967295)) ≡ None
counted-fine format extra points = payload-by format extra points 4294967295 (omega arith) refl refl

pub counted-chunk : (format extra : ℕ) → chunk_size_in (laszip_payload format extra 4294967295) ≡ 4294967295
counted-chunk format extra = payload-chunk format extra 4294967295 (omega arith)

-- ---- payloads that are not refused

-- what is known of one
pub record IsPayload (format extra points : ℕ) (payload : List ℕ) : Type 0 where
  pub size : (chunk : ℕ) → length payload ≡ length (laszip_payload format extra chunk)
  pub chunk : is_bad_chunk_size points (chunk_size_in payload) ≡ false
  pub many : makes_many_chunks points (chunk_size_in payload) ≡ false

pub payload_known : (format extra points : ℕ) (bytes : List ℕ) → first_cause (payload_causes format extra points bytes) ≡ None → IsPayload format extra points bytes
payload_known format extra points bytes none =
    let many_causes = (makes_many_chunks points (chunk_size_in bytes), cause.TooManyChunks) ∷ [] in
    let size_causes = (is_bad_chunk_size points (chunk_size_in bytes), cause.ChunkSize) ∷ many_causes in
    let item_causes = (has_other_items format extra bytes, cause.Items) ∷ size_causes in
    let shape_is = none_first (has_other_shape bytes) cause.VlrShape ((has_other_compressor bytes, cause.Compressor) ∷ item_causes) none in
    let compressor_is = none_first (has_other_compressor bytes) cause.Compressor item_causes shape_is.1 in
    let items_is = none_first (has_other_items format extra bytes) cause.Items size_causes compressor_is.1 in
    let chunk_is = none_first (is_bad_chunk_size points (chunk_size_in bytes)) cause.ChunkSize many_causes items_is.1 in
    let many_is = none_first (makes_many_chunks points (chunk_size_in bytes)) cause.TooManyChunks [] chunk_is.1 in
    let list = items_of format extra in
    let there = begins-is (drop 32 bytes) (items_part list) (not-false _ items_is.0) in
    let long : length bytes ≡ 34 + 6 * number_at 2 32 bytes = eqb-true _ _ (not-false _ (or_parts _ _ shape_is.0).1) in
    let count : number_at 2 32 bytes ≡ length list =
    number_at-drop 2 32 bytes ∙ ap (number_at 2 0) there
    ∙ reads_back 2 (length list) (all_item_bytes list ++ drop (length (items_part list)) (drop 32 bytes)) (omega (arith, few-items format extra)) in
    record {
      size = λ chunk. omega (arith, long, count, length-payload format extra chunk);
      chunk = chunk_is.0;
      many = many_is.0;
    }
