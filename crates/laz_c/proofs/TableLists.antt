-- How many numbers there are in the lists of a table that is read, and the cause of a fault.
use Rattle.std.proofs.Common.{◌≡◌, ℕ, ◌<◌, ◌≤◌, ◌&&◌, nat_le, nat_lt, min, Bool, true, false, cond, List, length, refl, sym, ap, subst, ◌-◌, ◌*◌, ◌∙◌, lt-ltb}
use Rattle.std.proofs.lemmas.Bool.{le-leb}
use Rattle.std.proofs.lemmas.List.FromFn.{length-map-range_with_len}
use Rattle.std.specs.Prelude.{IsSomeAnd}
use Rattle.las_header.specs.declared.refusal.Refusal.TheVariants as cause
use Rattle.las_header.specs.Causes.{cause_number}
use Rattle.las_header.specs.Numbers.{number_at}
use Rattle.laz_table.specs.declared.chunks.Blocks.{Blocks}
use Rattle.laz_table.specs.declared.chunks.Blocks.TheVariants.{Fixed, Counted}
use Rattle.laz_table.specs.declared.chunks.TableFault.{TableFault}
use Rattle.laz_table.specs.declared.chunks.TableFault.TheVariants.{Table, ChunkSum, PointSum, Memory}
use Rattle.laz_table.specs.Chunks.{IsAccepted, IsFirstFault}
use Rattle.laz_table.specs.VlrCauses.{chunk_count, is_counted}
use Rattle.laz_c.specs.Tables.{IsRefused, table_blocks, chunks_at_most, chunks_counted, fault_cause}

both_hold : (a b : Bool) (n : ℕ) → a ≡ true → b ≡ true → n ≡ cond (a && b) n 0
both_hold true true n e f = refl
both_hold false b n e f = absurd (cc)
both_hold true false n e f = absurd (cc)

holds : (b : Bool) (n : ℕ) → b ≡ true → n ≡ cond b n 0
holds true n e = refl
holds false n e = absurd (cc)

-- the chunks of a table, if they have a number of points of their own
counted_is : (bytes : List ℕ) (points n : ℕ) → 8 ≤ length bytes → number_at 4 4 bytes ≡ n → n ≤ min points 16777216 → n ≡ chunks_counted bytes points
counted_is bytes points n long number few =
    let at_most : number_at 4 4 bytes ≤ min points 16777216 = subst (λ (m : ℕ). m ≤ min points 16777216) (sym number) few in
    sym number ∙ both_hold (nat_le 8 (length bytes)) (nat_le (number_at 4 4 bytes) (min points 16777216)) (number_at 4 4 bytes) (le-leb 8 (length bytes) long) (le-leb (number_at 4 4 bytes) (min points 16777216) at_most)

counts_by : (b : Bool) (bytes : List ℕ) (chunk points total : ℕ) (sizes counts : List ℕ) → 0 < chunk → IsAccepted bytes (cond b (Counted points) (Fixed chunk points)) total sizes counts
    → length counts ≡ cond b (chunks_counted bytes points) (cond (nat_lt 0 chunk) (chunk_count points chunk) 0)
counts_by true bytes chunk points total sizes counts some is = counted_is bytes points (length counts) is.table.begins.holds.long is.table.begins.holds.number is.table.begins.count
counts_by false bytes chunk points total sizes counts some is = is.table.begins.count ∙ holds (nat_lt 0 chunk) (chunk_count points chunk) (lt-ltb 0 chunk some)

sizes_by : (b : Bool) (bytes : List ℕ) (chunk points total : ℕ) (sizes counts : List ℕ) → 0 < chunk → IsAccepted bytes (cond b (Counted points) (Fixed chunk points)) total sizes counts
    → length sizes ≡ length counts
sizes_by true bytes chunk points total sizes counts some is = ap (λ (l : List ℕ). length l) is.sizes_are ∙ is.table.begins.holds.point_counts
sizes_by false bytes chunk points total sizes counts some is =
    ap (λ (l : List ℕ). length l) is.sizes_are ∙ (length-map-range_with_len (λ i. min chunk (points - chunk * i)) 0 (chunk_count points chunk) ∙ sym is.table.begins.count)

-- there are as many numbers of bytes as the table can have chunks
pub counts_are : (bytes : List ℕ) (chunk points total : ℕ) (sizes counts : List ℕ) → 0 < chunk → IsAccepted bytes (table_blocks chunk points) total sizes counts → length counts ≡ chunks_at_most bytes chunk points
counts_are bytes chunk points total sizes counts some is = counts_by (is_counted chunk) bytes chunk points total sizes counts some is

-- and as many numbers of points
pub sizes_are : (bytes : List ℕ) (chunk points total : ℕ) (sizes counts : List ℕ) → 0 < chunk → IsAccepted bytes (table_blocks chunk points) total sizes counts → length sizes ≡ chunks_at_most bytes chunk points
sizes_are bytes chunk points total sizes counts some is =
    sizes_by (is_counted chunk) bytes chunk points total sizes counts some is ∙ counts_are bytes chunk points total sizes counts some is

-- a fault is a cause that is the first one that holds, with its number
pub refused_is : (bytes : List ℕ) (blocks : Blocks) (total number : ℕ) (fault : TableFault) → IsFirstFault bytes blocks total fault → IsSomeAnd (fault_cause fault) (λ cause. number ≡ cause_number cause)
    → IsRefused bytes blocks total number
refused_is bytes blocks total number Table is same = record { cause = cause.Table; first = is; number_is = same }
refused_is bytes blocks total number ChunkSum is same = record { cause = cause.ChunkSum; first = is; number_is = same }
refused_is bytes blocks total number PointSum is same = record { cause = cause.PointSum; first = is; number_is = same }
refused_is bytes blocks total number Memory is same = absurd same
