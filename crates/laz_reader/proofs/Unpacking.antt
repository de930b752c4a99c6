-- What is unpacked to the front of a room.
use Rattle.std.proofs.Common.{◌≡◌, get_or, ⊎_elim, ℕ, ◌*◌, ◌≤◌, ◌<◌, List, ◌++◌, length, take, drop, sym, ◌∙◌, ap, subst, append_assoc, arith, length-append}
use Rattle.std.proofs.lemmas.List.{take-take, length-take, get_or-take, get_or_past}
use Rattle.std.proofs.lemmas.Bool.{cases_lt}
use Rattle.std.proofs.Math.Seq.{take-append_seam}
use Rattle.laz_range.specs.Span.{IsBytes}
use Rattle.laz_chunk.specs.Layouts.{Format, layout, record_length}
use Rattle.laz_chunk.specs.Chunks.{AreRecords, Holds}
use Rattle.laz_reader.specs.Unpacking.{HoldsOnly, chunk_in, count_before}

-- the front of a room is what was written there
pub front_kept : (n len : ℕ) (out back more : List ℕ) → length out ≡ n → n ≤ len → take n (take len (out ++ back ++ more)) ≡ out
front_kept n len out back more is le =
    take-take n len (out ++ back ++ more) le ∙ ap (take n) (append_assoc out back more)
    ∙ ap (λ (m : ℕ). take m (out ++ (back ++ more))) (sym is) ∙ take-append_seam out (back ++ more)

pub front_fits : (n len : ℕ) (out back more : List ℕ) → length out ≡ n → n ≤ len → n ≤ length (take len (out ++ back ++ more))
front_fits n len out back more is le =
    omega (arith, length-take len (out ++ back ++ more), length-append (out ++ back) more, length-append out back)

-- what a workspace unpacked is the one block that the input's chunk holds
pub unpacked : (job space : Format) (input chunk out : List ℕ) (n count size : ℕ) → space ≡ job → chunk ≡ drop 4 input → count ≡ count_before input → size ≡ record_length (layout job) → length out ≡ size * count → IsBytes out
    → Holds (layout space) chunk out → ((other : List ℕ) → AreRecords (layout space) count other → Holds (layout space) chunk other → other ≡ out)
    → HoldsOnly (layout job) (count_before input) (chunk_in input) out
unpacked job space input chunk out n count size same chunk_is count_is size_is long bytes holds only =
    let P : Format → List ℕ → ℕ → Type 0 = λ f c m. HoldsOnly (layout f) m c out in
    let Q : Format → Type 0 = λ f. P f (chunk_in input) (count_before input) in
    subst Q same (subst (λ (m : ℕ). P space (chunk_in input) m) count_is (subst (λ (c : List ℕ). P space c count) chunk_is
    (record {
      are = record { length = long ∙ ap (λ (m : ℕ). m * count) (size_is ∙ ap (λ (f : Format). record_length (layout f)) (sym same)); bytes = bytes };
      holds = holds;
      only = only;
    })))

-- the front of a list of bytes is one
pub bytes_front : (n : ℕ) (room out : List ℕ) → take n room ≡ out → ((i : ℕ) → i < length room → get_or room i 0 < 256) → IsBytes out
bytes_front n room out is all k =
    subst (λ (l : List ℕ). get_or l k 0 < 256) is
    (⊎_elim
    (λ (lt : k < length (take n room)). let within : k < n = omega (arith, length-take n room) in let long : k < length room = omega (arith, length-take n room) in subst (λ (m : ℕ). m < 256) (sym (get_or-take n room k 0 within)) (all k long))
    (λ (ge : length (take n room) ≤ k). subst (λ (m : ℕ). m < 256) (sym (get_or_past (take n room) k 0 ge)) (omega arith))
    (cases_lt k (length (take n room))))
