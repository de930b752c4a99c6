-- A table that is read from as many bytes as its number of chunks needs.
use Rattle.std.proofs.Common.{◌≡◌, inl, inr, ⊎_elim, ℕ, ◌+◌, ◌-◌, ◌*◌, ◌<◌, ◌≤◌, min, List, length, take, drop, Option, None, refl, sym, ◌∙◌, ap, subst, arith}
use Rattle.std.specs.Prelude.{sum}
use Rattle.std.proofs.lemmas.List.{take-take, length-take-le, drop-take, length-drop, take_all}
use Rattle.std.proofs.lemmas.List.FromFn.{length-map-range_with_len}
use Rattle.std.proofs.lemmas.Bool.{cases_lt, cases_eq}
use Rattle.std.proofs.lemmas.Option.{none-some}
use Rattle.las_header.specs.declared.refusal.Refusal.{Refusal}
use Rattle.las_header.specs.Conditions.{IsFirst}
use Rattle.las_header.specs.Numbers.{number_at}
use Rattle.las_header.proofs.Public.{number_at-take}
use Rattle.laz_table.specs.declared.chunks.Blocks.{Blocks}
use Rattle.laz_table.specs.declared.chunks.Blocks.TheVariants.{Fixed, Counted}
use Rattle.laz_table.specs.Chunks.{BeginsTable, HasChunkSize, HasOtherBytes, HasOtherPoints, HasTable, IsAccepted, IsChunkCount, are_counted, sizes_of, table_causes}
use Rattle.laz_table.specs.Table.{TableHolds}
use Rattle.laz_table.proofs.Public.{front-holds}
use Rattle.laz_reader.specs.Reading.{AreChunkLists, AreFewChunks, points_listed, table_size}
use Rattle.laz_forms.proofs.Public.{sum-sizes}

-- a part of a file is what stands after its start
part_is : (file : List ℕ) (start end : ℕ) → start ≤ end → drop start (take end file) ≡ take (end - start) (drop start file)
part_is file start end le = let e : end ≡ start + (end - start) = omega arith in ap (λ (n : ℕ). drop start (take n file)) e ∙ drop-take start (end - start) file

-- what its first eight bytes say of its size
pub most_of_table : (file first : List ℕ) (start end long most : ℕ) → start ≤ end → end ≤ length file → long ≡ end - start → first ≡ take (min long 8) (drop start file) → (8 ≤ length first → most ≡ table_size first) → 8 ≤ long
    → most ≡ table_size (drop start (take end file))
most_of_table file first start end long most le within long_is first_is most_is enough8 =
    let rest = drop start file in
    let part = drop start (take end file) in
    let part_at : part ≡ take long rest = part_is file start end le ∙ ap (λ (n : ℕ). take n rest) (sym long_is) in
    let enough : long ≤ length rest = omega (arith, length-drop start file) in
    let eight : min long 8 ≡ 8 = omega arith in
    let first8 : first ≡ take 8 rest = first_is ∙ ap (λ (n : ℕ). take n rest) eight in
    let first_long : length first ≡ 8 = ap length first8 ∙ length-take-le 8 rest (omega arith) in
    let number : number_at 4 4 first ≡ number_at 4 4 part = ap (number_at 4 4) first8 ∙ number_at-take 4 4 8 rest (omega arith) ∙ sym (number_at-take 4 4 long rest (omega arith)) ∙ ap (number_at 4 4) (sym part_at) in
    most_is (omega (arith, first_long)) ∙ ap (λ (n : ℕ). 12 + 24 * min n 16777216) number

-- so no more is asked for than this size
pub table_asks : (file first : List ℕ) (start end long most : ℕ) → start ≤ end → end ≤ length file → long ≡ end - start → first ≡ take (min long 8) (drop start file) → (8 ≤ length first → most ≡ table_size first)
    → min long most ≤ table_size (drop start (take end file))
table_asks file first start end long most le within long_is first_is most_is = elim (cases_lt long 8) [
  | inl short ↦ omega (arith, short)
  | inr enough8 ↦ let size = most_of_table file first start end long most le within long_is first_is most_is enough8 in omega (arith, size)
]

-- what is read of the table's part of a file, in two steps
pub front_of_table : (file first bytes : List ℕ) (start end long most : ℕ) → start ≤ end → end ≤ length file → long ≡ end - start → first ≡ take (min long 8) (drop start file) → 12 ≤ most → (8 ≤ length first → most ≡ table_size first) → bytes ≡ take (min long most) (drop start file)
    → bytes ≡ take (table_size (drop start (take end file))) (drop start (take end file))
front_of_table file first bytes start end long most le within long_is first_is least most_is bytes_are =
    let rest = drop start file in
    let part = drop start (take end file) in
    let part_at : part ≡ take long rest = part_is file start end le ∙ ap (λ (n : ℕ). take n rest) (sym long_is) in
    let enough : long ≤ length rest = omega (arith, length-drop start file) in
    let part_long : length part ≡ long = ap length part_at ∙ length-take-le long rest enough in
    bytes_are ∙ ⊎_elim
    (λ (short : long < 8).
    let a : min long most ≡ long = omega arith in
    ap (λ (n : ℕ). take n rest) a ∙ sym part_at ∙ sym (take_all (table_size part) part (omega (arith, part_long))))
    (λ (enough8 : 8 ≤ long).
    let most_at : most ≡ table_size part = most_of_table file first start end long most le within long_is first_is most_is enough8 in
    ⊎_elim
    (λ (lt : long < most). let b : min long most ≡ long = omega arith in ap (λ (n : ℕ). take n rest) b ∙ sym part_at ∙ sym (take_all (table_size part) part (omega (arith, part_long, most_at))))
    (λ (ge : most ≤ long). let b : min long most ≡ most = omega arith in ap (λ (n : ℕ). take n rest) b ∙ sym (take-take most long rest ge) ∙ ap (take most) (sym part_at) ∙ ap (λ (n : ℕ). take n part) most_at)
    (cases_lt long most))
    (cases_lt long 8)

-- what is read is no more than a table takes that begins so
pub short_front : (first bytes : List ℕ) (long most : ℕ) → length first ≡ min long 8 → length bytes ≡ min long most → take (length first) bytes ≡ first → (8 ≤ length first → most ≡ table_size first) → length bytes ≤ table_size bytes
short_front first bytes long most first_long bytes_long front most_is = elim (cases_lt long 8) [
  | inl short ↦ omega (arith, short, bytes_long)
  | inr enough ↦
      let eight : length first ≡ 8 = omega (arith, first_long, enough) in
      let same : number_at 4 4 first ≡ number_at 4 4 bytes = ap (number_at 4 4) (sym front ∙ ap (λ (n : ℕ). take n bytes) eight) ∙ number_at-take 4 4 8 bytes (omega arith) in
      let size : most ≡ table_size bytes = most_is (omega (arith, eight)) ∙ ap (λ (n : ℕ). 12 + 24 * min n 16777216) same in
      omega (arith, bytes_long, size)
]

module _ (blocks : Blocks) (few : AreFewChunks blocks) (part : List ℕ) where
  at_number : (n : ℕ) → number_at 4 4 part ≡ n → n ≤ 16777216 → table_size part ≡ 12 + 24 * n
  at_number n is le = let m : min (number_at 4 4 part) 16777216 ≡ n = omega arith in ap (λ (k : ℕ). 12 + 24 * k) m

  -- the bytes read decide which lists the part begins with
  begins_front : (sizes counts : List ℕ) → BeginsTable part blocks sizes counts → BeginsTable (take (table_size part) part) blocks sizes counts
  begins_front sizes counts h =
      let n = length counts in
      let size = at_number n h.holds.number (few n h.count) in
      let P : List ℕ → Type 0 = λ b. TableHolds b n (are_counted blocks) sizes counts in
      record { count = h.count; holds = subst (λ (k : ℕ). P (take k part)) (sym size) ((front-holds part n (are_counted blocks) sizes counts).0 h.holds) }

  begins_part : (sizes counts : List ℕ) → BeginsTable (take (table_size part) part) blocks sizes counts → BeginsTable part blocks sizes counts
  begins_part sizes counts h =
      let n = length counts in
      let number : number_at 4 4 part ≡ n = sym (number_at-take 4 4 (table_size part) part (omega arith)) ∙ h.holds.number in
      let size = at_number n number (few n h.count) in
      let P : List ℕ → Type 0 = λ b. TableHolds b n (are_counted blocks) sizes counts in
      record { count = h.count; holds = (front-holds part n (are_counted blocks) sizes counts).1 (subst (λ (k : ℕ). P (take k part)) size h.holds) }

  pub to_front : (sizes counts : List ℕ) → HasTable part blocks sizes counts → HasTable (take (table_size part) part) blocks sizes counts
  to_front sizes counts h = record { begins = begins_front sizes counts h.begins; only = λ others more other. h.only others more (begins_part others more other) }

  pub from_front : (sizes counts : List ℕ) → HasTable (take (table_size part) part) blocks sizes counts → HasTable part blocks sizes counts
  from_front sizes counts h = record { begins = begins_part sizes counts h.begins; only = λ others more other. h.only others more (begins_front others more other) }

  to_points : (b : Blocks) → b ≡ blocks → HasOtherPoints part b → HasOtherPoints (take (table_size part) part) b
  to_points (Fixed chunk points) e h = absurd h
  to_points (Counted points) e h = (h.0, h.1, subst (λ (b : Blocks). HasTable (take (table_size part) part) b h.0 h.1) (sym e) (to_front h.0 h.1 (subst (λ (b : Blocks). HasTable part b h.0 h.1) e h.2)), h.3)

  from_points : (b : Blocks) → b ≡ blocks → HasOtherPoints (take (table_size part) part) b → HasOtherPoints part b
  from_points (Fixed chunk points) e h = absurd h
  from_points (Counted points) e h = (h.0, h.1, subst (λ (b : Blocks). HasTable part b h.0 h.1) (sym e) (from_front h.0 h.1 (subst (λ (b : Blocks). HasTable (take (table_size part) part) b h.0 h.1) e h.2)), h.3)

  -- and so they decide which cause is the first
  pub first_from_front : (total : ℕ) (answer : Option Refusal) → IsFirst (table_causes (take (table_size part) part) blocks total) answer → IsFirst (table_causes part blocks total) answer
  first_from_front total answer is = elim is [
    | inl lacks ↦ inl (λ sizes counts h. lacks.0 sizes counts (to_front sizes counts h), lacks.1)
    | inr has ↦ inr (
      λ lacks. has.0 (λ sizes counts h. lacks sizes counts (from_front sizes counts h)),
      elim has.1 [
        | inl other ↦ inl ((other.0.0, other.0.1, from_front other.0.0 other.0.1 other.0.2, other.0.3), other.1)
        | inr summed ↦ inr (
          λ other. summed.0 (other.0, other.1, to_front other.0 other.1 other.2, other.3),
          elim summed.1 [
            | inl points ↦ inl (from_points blocks refl points.0, points.1)
            | inr fine ↦ inr (λ points. fine.0 (to_points blocks refl points), fine.1)
          ],
        )
      ],
    )
  ]

  pub accepted_from_front : (total : ℕ) (sizes counts : List ℕ) → IsAccepted (take (table_size part) part) blocks total sizes counts → IsAccepted part blocks total sizes counts
  accepted_from_front total sizes counts a = record {
    coded = a.coded;
    table = from_front a.coded counts a.table;
    sizes_are = a.sizes_are;
    fine = first_from_front total None a.fine;
  }

summed : (bytes : List ℕ) (blocks : Blocks) (total : ℕ) → IsFirst (table_causes bytes blocks total) None → HasOtherBytes bytes blocks total → ⊥
summed bytes blocks total is other = elim is [
  | inl lacks ↦ none-some _ lacks.1
  | inr has ↦ elim has.1 [ inl wrong ↦ none-some _ wrong.1 | inr right ↦ right.0 other ]
]

same_length : (blocks : Blocks) (coded counts sizes bytes : List ℕ) → IsChunkCount blocks (length counts) → TableHolds bytes (length counts) (are_counted blocks) coded counts → sizes ≡ sizes_of blocks coded → length sizes ≡ length counts
same_length (Fixed chunk points) coded counts sizes bytes count holds is = ap length is ∙ length-map-range_with_len (λ i. min chunk (points - chunk * i)) 0 _ ∙ sym count
same_length (Counted points) coded counts sizes bytes count holds is = ap length is ∙ holds.point_counts

pub accepted_bytes : (bytes : List ℕ) (blocks : Blocks) (total : ℕ) (sizes counts : List ℕ) → IsAccepted bytes blocks total sizes counts → sum counts ≡ total
accepted_bytes bytes blocks total sizes counts a = elim (cases_eq (sum counts) total) [
  | inl right ↦ right
  | inr wrong ↦ absurd (summed bytes blocks total a.fine (a.coded, counts, a.table, wrong))
]

pub accepted_lists : (bytes : List ℕ) (blocks : Blocks) (total : ℕ) (sizes counts : List ℕ) → AreFewChunks blocks → IsAccepted bytes blocks total sizes counts → AreChunkLists sizes counts total
accepted_lists bytes blocks total sizes counts few a =
    let same = same_length blocks a.coded counts sizes bytes a.table.begins.count a.table.begins.holds a.sizes_are in
    record {
      same = same;
      few = omega (arith, same, few (length counts) a.table.begins.count);
      whole = accepted_bytes bytes blocks total sizes counts a;
    }

-- so are the points
pub points_summed : (bytes : List ℕ) (blocks : Blocks) (total : ℕ) → IsFirst (table_causes bytes blocks total) None → HasOtherPoints bytes blocks → ⊥
points_summed bytes blocks total is other = elim is [
  | inl lacks ↦ none-some _ lacks.1
  | inr has ↦ elim has.1 [
    | inl wrong ↦ none-some _ wrong.1
    | inr right ↦ elim right.1 [ inl points ↦ none-some _ points.1 | inr fine ↦ fine.0 other ]
  ]
]

pub accepted_points : (bytes : List ℕ) (blocks : Blocks) (total : ℕ) (sizes counts : List ℕ) → HasChunkSize blocks → IsAccepted bytes blocks total sizes counts → sum sizes ≡ points_listed blocks
accepted_points bytes (Fixed chunk points) total sizes counts some a = ap sum a.sizes_are ∙ sum-sizes chunk points some
accepted_points bytes (Counted points) total sizes counts some a =
    elim (cases_eq (sum a.coded) points) [
      | inl right ↦ ap sum a.sizes_are ∙ right
      | inr wrong ↦ absurd (points_summed bytes (Counted points) total a.fine (a.coded, counts, a.table, λ are. wrong are.1))
    ]
