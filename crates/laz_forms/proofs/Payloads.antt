-- A laszip payload as it is written is refused for no cause.
use Rattle.std.proofs.Common.{◌≡◌, ℕ, suc, ◌+◌, ◌*◌, ◌-◌, ◌/◌, ◌%◌, ◌<◌, ◌≤◌, ◌==◌, ◌&&◌, ◌||◌, min, not, nat_eq, nat_lt, Bool, true, false, List, [], ◌∷◌, ◌++◌, length, replicate, None, refl, ap, ◌∙◌, arith, eq-eqb, length-append}
use Rattle.std.proofs.lemmas.Bool.{lt-leb, ne_eqb}
use Rattle.std.proofs.lemmas.List.{take_all}
use Rattle.std.proofs.Math.Nat.{div-lt_iff_lt-mul, min-le_left, mul-le-mul_left}
use Rattle.std.specs.Cmp.Lexicographic.{pointwise}
use Rattle.std.specs.List.{starts_with}
use Rattle.byteorder.specs.Endian.{little_bytes}
use Rattle.las_header.specs.declared.refusal.Refusal.TheVariants as cause
use Rattle.las_header.specs.Numbers.{number_at}
use Rattle.las_header.specs.Refusals.{first_cause}
use Rattle.las_header.proofs.Public.{number_at-drop, reads_back, first_none}
use Rattle.las_header.specs.Fields.{has_colours, has_time}
use Rattle.laz_table.specs.Payload.{Item, all_item_bytes, item_bytes, item_if, items_of, items_part, laszip_payload, payload_start}
use Rattle.laz_table.specs.VlrCauses.{chunk_count, chunk_size_in, has_other_compressor, has_other_items, has_other_shape, is_bad_chunk_size, is_counted, makes_many_chunks, payload_causes}

-- ---- items
pub length-items : (items : List Item) → length (all_item_bytes items) ≡ 6 * length items
length-items [] = refl
length-items (i ∷ items) = omega (arith, length-append (item_bytes i) (all_item_bytes items), length-items items)

few-if : (a b c d : Bool) (k l m n x y z w : ℕ) → length (item_if a k x ++ (item_if b l y ++ (item_if c m z ++ item_if d n w))) ≤ 4
few-if false false false false k l m n x y z w = omega arith
few-if false false false true k l m n x y z w = omega arith
few-if false false true false k l m n x y z w = omega arith
few-if false false true true k l m n x y z w = omega arith
few-if false true false false k l m n x y z w = omega arith
few-if false true false true k l m n x y z w = omega arith
few-if false true true false k l m n x y z w = omega arith
few-if false true true true k l m n x y z w = omega arith
few-if true false false false k l m n x y z w = omega arith
few-if true false false true k l m n x y z w = omega arith
few-if true false true false k l m n x y z w = omega arith
few-if true false true true k l m n x y z w = omega arith
few-if true true false false k l m n x y z w = omega arith
few-if true true false true k l m n x y z w = omega arith
few-if true true true false k l m n x y z w = omega arith
few-if true true true true k l m n x y z w = omega arith

pub few-items : (format extra : ℕ) → length (items_of format extra) ≤ 4
few-items format extra = few-if true (has_time format) (has_colours format) (nat_lt 0 extra) 6 7 8 0 20 8 6 extra

pub pointwise-same : (xs : List ℕ) → pointwise nat_eq xs xs ≡ true
pointwise-same [] = refl
pointwise-same (x ∷ xs) = ap (λ (b : Bool). b && pointwise nat_eq xs xs) (eq-eqb x x refl) ∙ pointwise-same xs

pub starts-same : (xs : List ℕ) → starts_with nat_eq xs xs ≡ true
starts-same xs = ap (pointwise nat_eq xs) (take_all (length xs) xs (omega arith)) ∙ pointwise-same xs

-- ---- payloads
module _ (format extra chunk : ℕ) where
  payload : List ℕ
  payload = laszip_payload format extra chunk

  pub length-payload : length (laszip_payload format extra chunk) ≡ 34 + 6 * length (items_of format extra)
  unfolding payload
  length-payload = omega (arith, length-append (payload_start chunk) (items_part (items_of format extra)), length-append (little_bytes 2 (length (items_of format extra))) (all_item_bytes (items_of format extra)), length-items (items_of format extra))

  count-in : number_at 2 32 payload ≡ length (items_of format extra)
  unfolding payload
  count-in = number_at-drop 2 32 (laszip_payload format extra chunk) ∙ reads_back 2 (length (items_of format extra)) (all_item_bytes (items_of format extra)) (omega (arith, few-items format extra))

  shape : has_other_shape payload ≡ false
  unfolding payload
  shape =
      let long = lt-leb (suc (length payload)) 34 (omega (arith, length-payload)) in
      ap (λ (b : Bool). b || not (length payload == 34 + 6 * number_at 2 32 payload)) long
      ∙ ap not (eq-eqb (length payload) (34 + 6 * number_at 2 32 payload) (omega (arith, length-payload, count-in)))

  compressor : has_other_compressor payload ≡ false
  unfolding payload number_at
  compressor = refl

  items : has_other_items format extra payload ≡ false
  unfolding payload
  items = ap not (starts-same (items_part (items_of format extra)))

  chunk-in : chunk < 4294967296 → chunk_size_in payload ≡ chunk
  unfolding payload
  chunk-in fits = number_at-drop 4 12 (laszip_payload format extra chunk) ∙ reads_back 4 chunk (replicate 16 255 ++ items_part (items_of format extra)) (omega (arith, fits))

-- ---- chunk sizes
pub fixed-size : (chunk : ℕ) → chunk ≤ 250000 → is_counted chunk ≡ false
fixed-size chunk few = ne_eqb chunk 4294967295 (λ e. absurd (omega (arith, few, e)))

good-size : (points chunk : ℕ) → 256 ≤ chunk → chunk ≤ 250000 → is_bad_chunk_size points chunk ≡ false
good-size points chunk least few =
    let short : min chunk points ≤ 250000 = omega (arith, min-le_left chunk points, few) in
    ap (λ (b : Bool). b || (not (is_counted chunk) && nat_lt 250000 (min chunk points))) (ne_eqb chunk 0 (λ e. absurd (omega (arith, least, e))))
    ∙ ap (λ (b : Bool). not b && nat_lt 250000 (min chunk points)) (fixed-size chunk few)
    ∙ lt-leb 250001 (min chunk points) (omega (arith, short))

pub few-chunks : (points chunk : ℕ) → points < 4294967296 → 256 ≤ chunk → chunk_count points chunk ≤ 16777216
few-chunks points chunk fits least =
    let enough = mul-le-mul_left 16777216 least in
    let below : chunk_count points chunk < 16777217 = (div-lt_iff_lt-mul {k = chunk} {x = points + chunk - 1} {y = 16777217} (omega (arith, least))).1 (omega (arith, enough, fits, least)) in
    omega (arith, below)

not-many : (points chunk : ℕ) → points < 4294967296 → 256 ≤ chunk → chunk ≤ 250000 → makes_many_chunks points chunk ≡ false
not-many points chunk fits least few =
    ap (λ (b : Bool). not b && nat_lt 16777216 (chunk_count points chunk)) (fixed-size chunk few)
    ∙ lt-leb 16777217 (chunk_count points chunk) (omega (arith, few-chunks points chunk fits least))

-- no condition of a payload holds, if its chunk size is good and makes few chunks
pub payload-by : (format extra points chunk : ℕ) → chunk < 4294967296 → is_bad_chunk_size points chunk ≡ false → makes_many_chunks points chunk ≡ false
    → first_cause (payload_causes format extra points (laszip_payload format extra chunk)) ≡ None
unfolding payload
payload-by format extra points chunk fits good few =
    let bytes = laszip_payload format extra chunk in
    let size = chunk-in format extra chunk fits in
    let many = (makes_many_chunks points (chunk_size_in bytes), cause.TooManyChunks) ∷ [] in
    let sizes = (is_bad_chunk_size points (chunk_size_in bytes), cause.ChunkSize) ∷ many in
    let others = (has_other_items format extra bytes, cause.Items) ∷ sizes in
    let compressors = (has_other_compressor bytes, cause.Compressor) ∷ others in
    first_none (has_other_shape bytes) cause.VlrShape compressors (shape format extra chunk)
    (first_none (has_other_compressor bytes) cause.Compressor others (compressor format extra chunk)
    (first_none (has_other_items format extra bytes) cause.Items sizes (items format extra chunk)
    (first_none (is_bad_chunk_size points (chunk_size_in bytes)) cause.ChunkSize many (ap (is_bad_chunk_size points) size ∙ good)
    (first_none (makes_many_chunks points (chunk_size_in bytes)) cause.TooManyChunks [] (ap (makes_many_chunks points) size ∙ few) refl))))

pub payload-fine : (format extra points chunk : ℕ) → points < 4294967296 → 256 ≤ chunk → chunk ≤ 250000
    → first_cause (payload_causes format extra points (laszip_payload format extra chunk)) ≡ None
payload-fine format extra points chunk fits least few =
    payload-by format extra points chunk (omega (arith, few)) (good-size points chunk least few) (not-many points chunk fits least few)

-- a payload is as short as one that is written may be
pub payload-short : (format extra chunk : ℕ) → length (laszip_payload format extra chunk) ≤ 58
unfolding payload
payload-short format extra chunk = omega (arith, length-payload format extra chunk, few-items format extra)

pub payload-chunk : (format extra chunk : ℕ) → chunk < 4294967296 → chunk_size_in (laszip_payload format extra chunk) ≡ chunk
unfolding payload
payload-chunk format extra chunk fits = chunk-in format extra chunk fits
