-- What stands of an output that is stopped is a prefix of its draft.
use Rattle.std.proofs.Common.{◌≡◌, inl, ℕ, ◌+◌, ◌*◌, ◌<◌, ◌≤◌, min, List, [], ◌++◌, length, take, map, Option, Some, None, refl, sym, ◌∙◌, ap, append_assoc, length-append, arith}
use Rattle.std.proofs.lemmas.List.{take_min, take-append-le}
use Rattle.byteorder.specs.Endian.{little_bytes}
use Rattle.std.specs.List.{concat}
use Rattle.std.specs.Prelude.{Err, IfErr, IfOk, MatchResult, Ok, Result}
use Rattle.std.specs.Option.{ForSome}
use Rattle.std.proofs.Math.Nat.{one-le-mul}
use Rattle.las_header.specs.Fields.{record_length_of}
use Rattle.las_header.specs.Heads.{IsHead}
use Rattle.laz_chunk.specs.Chunks.{chunk_bytes}
use Rattle.laz_table.specs.Entries.{entries_of}
use Rattle.laz_table.specs.Table.{stream_of, table_bytes}
use Rattle.laz_forms.specs.Outputs.{Output, draft_of, front, full_points, points_written, stopped}
use Rattle.laz_forms.specs.Packing.{blocks_of, chunks_of, record_layout}
use Rattle.laz_writer.specs.Stopping.{IsFrontUnfinished, IsStoppedUnfinished}
use Rattle.laz_writer.specs.Writing.{full_blocks}
use Rattle.laz_writer.proofs.Cutting.{blocks_are, full_blocks_more, rest_of, splits}
use Rattle.laz_forms.proofs.Public.{joined-append, prefix_append}
use Rattle.laz_forms.proofs.Public.{record_least}

pub front_unfinished : IsFrontUnfinished
front_unfinished out records n = inl (prefix_append (front out) (points_written out.chunk out.head records) n)

-- the full chunks of some records begin all that is written of more
full_begins : (head : List ℕ) (chunk : ℕ) (records more : List ℕ) → 0 < record_length_of head * chunk → (later : List ℕ) × (points_written (Some chunk) head (records ++ more) ≡ full_points (Some chunk) head records ++ later) × (0 < length later)
full_begins head chunk records more some =
    let size = record_length_of head * chunk in
    let f = λ (b : List ℕ). chunk_bytes (record_layout head) b in
    let all = records ++ more in
    let full = full_blocks size records in
    let others = full_blocks size (rest_of size records ++ more) in
    let last = blocks_of size (rest_of size all) in
    let table = table_bytes [] (map (λ (c : List ℕ). length c) (chunks_of head (blocks_of size all))) in
    let blocks : blocks_of size all ≡ full ++ (others ++ last) =
    blocks_are size all (full_blocks size all) (rest_of size all) (splits size all some) ∙ ap (λ (bs : List (List ℕ)). bs ++ last) (full_blocks_more size records more some) ∙ append_assoc full others last in
    let chunks : concat (chunks_of head (blocks_of size all)) ≡ concat (chunks_of head full) ++ concat (chunks_of head (others ++ last)) =
    ap (λ (bs : List (List ℕ)). concat (chunks_of head bs)) blocks ∙ joined-append f full (others ++ last) in
    let sizes = map (λ (c : List ℕ). length c) (chunks_of head (blocks_of size all)) in
    let long : length table ≡ 8 + length (stream_of (entries_of [] sizes)) = length-append (little_bytes 4 0 ++ little_bytes 4 (length sizes)) (stream_of (entries_of [] sizes)) in (
      concat (chunks_of head (others ++ last)) ++ table,
      ap (λ (t : List ℕ). t ++ table) chunks ∙ append_assoc (concat (chunks_of head full)) (concat (chunks_of head (others ++ last))) table,
      omega (arith, length-append (concat (chunks_of head (others ++ last))) table, long),
    )

-- by the form of the output
begins_by : (chunk : Option ℕ) (head front records more : List ℕ) → IsHead head → ForSome chunk (λ c. 0 < c) → (later : List ℕ) × (front ++ points_written chunk head (records ++ more) ≡ (front ++ full_points chunk head records) ++ later)
begins_by None head front records more is some = (more, sym (append_assoc front records more))
begins_by (Some chunk) head front records more is some =
    let long : 1 ≤ record_length_of head * chunk = one-le-mul (omega (arith, record_least head is)) (some chunk refl) in
    let b = full_begins head chunk records more (omega (arith, long)) in
    (b.0, ap (λ (t : List ℕ). front ++ t) b.1 ∙ sym (append_assoc front (full_points (Some chunk) head records) b.0))

pub stopped_unfinished : IsStoppedUnfinished
stopped_unfinished out records more n is some =
    let b = begins_by out.chunk out.head (front out) records more is some in
    let m = prefix_append (stopped out records) b.0 n in
    inl (m.0, m.1 ∙ ap (take m.0) (sym b.1))

-- Of a packed output it is not all of its draft: the chunk table comes after it.
pub stopped_short : (out : Output) (chunk : ℕ) (records more : List ℕ) (n : ℕ) → IsHead out.head → 0 < chunk → out.chunk ≡ Some chunk
    → (m : ℕ) × (m < length (draft_of out (records ++ more))) × (take n (stopped out records) ≡ take m (draft_of out (records ++ more)))
stopped_short out chunk records more n is some packed =
    let long : 1 ≤ record_length_of out.head * chunk = one-le-mul (omega (arith, record_least out.head is)) some in
    let b = full_begins out.head chunk records more (omega (arith, long)) in
    let text = stopped out records in
    let draft : draft_of out (records ++ more) ≡ text ++ b.0 =
    ap (λ (k : Option ℕ). front out ++ points_written k out.head (records ++ more)) packed ∙ ap (λ (t : List ℕ). front out ++ t) b.1 ∙ sym (append_assoc (front out) (full_points (Some chunk) out.head records) b.0)
    ∙ ap (λ (k : Option ℕ). (front out ++ full_points k out.head records) ++ b.0) (sym packed) in
    let m = min n (length text) in
    let short : m ≤ length text = omega arith in
    let longer : length (draft_of out (records ++ more)) ≡ length text + length b.0 = ap (λ (t : List ℕ). length t) draft ∙ length-append text b.0 in
    (m, omega (arith, longer, b.2), sym (take_min n text) ∙ sym (take-append-le m text b.0 short) ∙ ap (take m) (sym draft))

-- what holds of a result, by its two cases
pub either : {T E : Type 0} (P : T → Type 0) (Q : E → Type 0) (r : Result T E) → IfOk r P → IfErr r Q → MatchResult r P Q
either P Q (Ok x) ok err = ok
either P Q (Err x) ok err = err
