-- The writers of parts, and what they stand for.
use Rattle.std.proofs.Common.{◌≡◌, ℕ, zero, suc, ◌+◌, ◌<◌, List, [], ◌∷◌, ◌++◌, length, take, drop, get_or, set, Option, Some, None, refl, sym, ap, subst, arith}
use Rattle.las_outside.specs.Files.{FileMap, with_file}
use Rattle.las_outside.specs.Outside.{Outside, with_bytes}
use Rattle.laz_forms.specs.Outputs.{front}
use Rattle.laz_writer.specs.Writing.{PackingSeen, PointsStand, Stands, WriterSeen}
use Rattle.las_split.specs.Sorting.{AreWriters, IsWriter, SplitTask, output_at}

-- ---- one writer

module _ (task : SplitTask) (n : ℕ) (before now : Outside) (w : WriterSeen) (bytes : List ℕ) (s : Stands before now w (output_at task n) bytes) where
  plain : (p : Option PackingSeen) → PointsStand None before now (output_at task n) w.most p bytes
      → (now ≡ with_bytes before (output_at task n).name (front (output_at task n) ++ bytes))
      × ((x : Outside) → PointsStand None x (with_bytes x (output_at task n).name (front (output_at task n) ++ bytes)) (output_at task n) w.most p bytes)
  plain None points = (points, λ x. refl)
  plain (Some p) points = absurd points

  pub text_is : now ≡ with_bytes before (output_at task n).name (front (output_at task n) ++ bytes)
  text_is = (plain w.packing s.points).0

  pub stands_anywhere : (x : Outside) → Stands x (with_bytes x (output_at task n).name (front (output_at task n) ++ bytes)) w (output_at task n) bytes
  stands_anywhere x = record {
    head = s.head;
    named = s.named;
    start = s.start;
    size = s.size;
    few = s.few;
    taken = s.taken;
    whole = s.whole;
    within = s.within;
    long = s.long;
    tally = s.tally;
    points = (plain w.packing s.points).1 x;
  }

-- the outside, in which an output holds its text
pub outside_is : (now : Outside) (name text : List ℕ) → now.held ≡ with_file now.held name text → now ≡ with_bytes now name text
outside_is now name text is = ap (λ (h : Option FileMap). let o : Outside = record now { held = h } in o) is

pub stands_here : (task : SplitTask) (n : ℕ) (w : WriterSeen) (bytes : List ℕ) (now : Outside) → IsWriter task n w bytes → now.held ≡ with_file now.held (output_at task n).name (front (output_at task n) ++ bytes) → Stands now now w (output_at task n) bytes
stands_here task n w bytes now is here =
    subst (λ (o : Outside). Stands now o w (output_at task n) bytes) (sym (outside_is now (output_at task n).name (front (output_at task n) ++ bytes) here)) (is.stands now)

pub writer_as : (task : SplitTask) (n : ℕ) (w : WriterSeen) (xs ys : List ℕ) → xs ≡ ys → IsWriter task n w xs → IsWriter task n w ys
writer_as task n w xs ys same is = subst (IsWriter task n w) same is

-- ---- all writers

module _ (task : SplitTask) (bytes : ℕ → List ℕ) where
  pub writers-append : (ns ms : List ℕ) (ws vs : List WriterSeen) → AreWriters task bytes ns ws → AreWriters task bytes ms vs → AreWriters task bytes (ns ++ ms) (ws ++ vs)
  writers-append [] ms [] vs one two = two
  writers-append [] ms (w ∷ ws) vs one two = absurd one
  writers-append (n ∷ ns) ms [] vs one two = absurd one
  writers-append (n ∷ ns) ms (w ∷ ws) vs one two = (one.0, writers-append ns ms ws vs one.1 two)

  pub writers_length : (ns : List ℕ) (ws : List WriterSeen) → AreWriters task bytes ns ws → length ws ≡ length ns
  writers_length [] [] are = refl
  writers_length [] (w ∷ ws) are = absurd are
  writers_length (n ∷ ns) [] are = absurd are
  writers_length (n ∷ ns) (w ∷ ws) are = ap suc (writers_length ns ws are.1)

  pub writers_at : (ns : List ℕ) (ws : List WriterSeen) (i : ℕ) (d : WriterSeen) → AreWriters task bytes (drop i ns) (drop i ws) → i < length ns → length ws ≡ length ns → IsWriter task (get_or ns i 0) (get_or ws i d) (bytes (get_or ns i 0))
  writers_at [] ws i d are within same = absurd (omega (arith, within))
  writers_at (n ∷ ns) [] i d are within same = absurd (omega (arith, same))
  writers_at (n ∷ ns) (w ∷ ws) zero d are within same = are.0
  writers_at (n ∷ ns) (w ∷ ws) (suc i) d are within same = writers_at ns ws i d are (omega (arith, within)) (omega (arith, same))

  pub writers_after : (ns : List ℕ) (ws : List WriterSeen) (i : ℕ) → AreWriters task bytes (drop i ns) (drop i ws) → i < length ns → length ws ≡ length ns → AreWriters task bytes (drop (i + 1) ns) (drop (i + 1) ws)
  writers_after ns ws i are within same =
      let one : i + 1 ≡ suc i = omega arith in
      subst (λ (k : ℕ). AreWriters task bytes (drop k ns) (drop k ws)) (sym one) (by ns ws i are within same)
    where
      by : (ms : List ℕ) (vs : List WriterSeen) (j : ℕ) → AreWriters task bytes (drop j ms) (drop j vs) → j < length ms → length vs ≡ length ms → AreWriters task bytes (drop (suc j) ms) (drop (suc j) vs)
      by [] vs j are within same = absurd (omega (arith, within))
      by (m ∷ ms) [] j are within same = absurd (omega (arith, same))
      by (m ∷ ms) (v ∷ vs) zero are within same = are.1
      by (m ∷ ms) (v ∷ vs) (suc j) are within same = by ms vs j are (omega (arith, within)) (omega (arith, same))

  -- one writer more of those that are first
  pub writers_more : (ns : List ℕ) (ws : List WriterSeen) (i : ℕ) (w : WriterSeen) → AreWriters task bytes (take i ns) (take i ws) → i < length ns → length ws ≡ length ns → IsWriter task (get_or ns i 0) w (bytes (get_or ns i 0)) → AreWriters task bytes (take (i + 1) ns) (take (i + 1) (set ws i w))
  writers_more ns ws i w are within same is =
      let one : i + 1 ≡ suc i = omega arith in
      subst (λ (k : ℕ). AreWriters task bytes (take k ns) (take k (set ws i w))) (sym one) (by ns ws i are within same is)
    where
      by : (ms : List ℕ) (vs : List WriterSeen) (j : ℕ) → AreWriters task bytes (take j ms) (take j vs) → j < length ms → length vs ≡ length ms → IsWriter task (get_or ms j 0) w (bytes (get_or ms j 0)) → AreWriters task bytes (take (suc j) ms) (take (suc j) (set vs j w))
      by [] vs j are within same is = absurd (omega (arith, within))
      by (m ∷ ms) [] j are within same is = absurd (omega (arith, same))
      by (m ∷ ms) (v ∷ vs) zero are within same is = (is, tt)
      by (m ∷ ms) (v ∷ vs) (suc j) are within same is = (are.0, by ms vs j are.1 (omega (arith, within)) (omega (arith, same)) is)

-- ---- how long the records of a part are
