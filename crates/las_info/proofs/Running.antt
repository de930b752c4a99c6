-- Records of a block that are summed up one by one, in the form in which that is fast.
use Rattle.std.proofs.Common.{◌≡◌, ℕ, suc, ◌+◌, ◌/◌, ◌%◌, ◌<◌, ◌≤◌, arith, List, [], ◌∷◌, ◌++◌, Option, Some, take, drop, length, sym, ◌∙◌, ap, subst, append_assoc, slice_index, slice_set}
use Rattle.std.proofs.Math.Nat.{add-div_left, add-mod_left, div-eq_of_lt}
use Rattle.std.proofs.lemmas.List.{append-nil, length-drop}
use Rattle.las_header.specs.Plain.{cut_records}
use Rattle.las_points.specs.Record.{return_number_of}
use Rattle.las_points.specs.Tally.{counts_of}
use Rattle.las_info.specs.declared.extents.Extents.{Extents}
use Rattle.las_info.specs.Extents.{extents_of, extents_with}
use Rattle.las_info.specs.Summaries.{SummarySeen, summary_of}
use Rattle.las_info.proofs.Cuts.{Cuts, cuts_all, cuts_none, cuts_one}
use Rattle.las_info.proofs.Tallying.{returns_counted}
use Rattle.las_info.proofs.Widening.{one_more_extends}

-- the numbers of returns, of which the first is left out, and the extents of some records
pub record RunOf (records : List (List ℕ)) (returns : List ℕ) (extents : Extents) : Type 0 where
  pub counted : drop 1 returns ≡ (counts_of records).returns
  pub extended : Some extents ≡ extents_of records

-- some records were summed up before, and those of the block so far after them
pub record Running (size n t : ℕ) (block rest : List ℕ) (before : List (List ℕ)) (returns : List ℕ) (extents : Extents) : Type 0 where
  pub done : List (List ℕ)
  pub cuts : Cuts size n t block rest done
  pub are : RunOf (before ++ done) returns extents

pub running_none : (size n : ℕ) (block : List ℕ) (before : List (List ℕ)) (returns : List ℕ) (extents : Extents) → RunOf before returns extents
    → Running size n 0 block block before returns extents
running_none size n block before returns extents are = record {
  done = [];
  cuts = cuts_none size n block;
  are = subst (λ (rs : List (List ℕ)). RunOf rs returns extents) (sym (append-nil before)) are;
}

pub running_one : (size n t : ℕ) (block rest point further : List ℕ) (before : List (List ℕ)) (returns more : List ℕ) (extents wider : Extents)
    → t < n → point ≡ take size rest → further ≡ drop size rest → length returns ≡ 8 → Running size n t block rest before returns extents
    → more ≡ slice_set returns (return_number_of point) (slice_index returns (return_number_of point) + 1) → Some wider ≡ extents_with (Some extents) point
    → Running size n (t + 1) block further before more wider
running_one size n t block rest point further before returns more extents wider lt first others long s counted extended = record {
  done = s.done ++ point ∷ [];
  cuts = cuts_one size n t block rest point further s.done lt first others s.cuts;
  are = subst (λ (rs : List (List ℕ)). RunOf rs more wider) (append_assoc before s.done (point ∷ [])) (record {
    counted = ap (λ (r : List ℕ). drop 1 r) counted ∙ returns_counted returns (before ++ s.done) point long s.are.counted;
    extended = extended ∙ ap (λ (e : Option Extents). extents_with e point) s.are.extended ∙ sym (one_more_extends (before ++ s.done) point);
  });
}

pub running_all : (size n t : ℕ) (block rest : List ℕ) (before : List (List ℕ)) (returns : List ℕ) (extents : Extents) → n ≤ t
    → Running size n t block rest before returns extents → RunOf (before ++ cut_records size n block) returns extents
running_all size n t block rest before returns extents end s =
    subst (λ (rs : List (List ℕ)). RunOf (before ++ rs) returns extents) (cuts_all size n t block rest s.done end s.cuts) s.are

pub summary_of_run : (records : List (List ℕ)) (points : ℕ) (returns total : List ℕ) (extents : Extents) → RunOf records returns extents
    → points ≡ length records → total ≡ drop 1 returns
    → ◌≡◌ {A = SummarySeen} (summary_of records) (record { counts = record { points = points; returns = total }; extents = Some extents })
summary_of_run records points returns total extents run long is =
    λ i. record { counts = record { points = sym long i; returns = sym (is ∙ run.counted) i }; extents = sym run.extended i }

-- a block that is shorter than a record has none
pub none_cut : (size : ℕ) (block : List ℕ) (records : List (List ℕ)) → length block < size → records ++ cut_records size (length block / size) block ≡ records
none_cut size block records lt = ap (λ (n : ℕ). records ++ cut_records size n block) (div-eq_of_lt lt) ∙ append-nil records

-- the first record of a block, and the others
length_but_first : (size : ℕ) (block others : List ℕ) → size ≤ length block → others ≡ drop size block → length block ≡ size + length others
length_but_first size block others le is = omega (arith, ap (λ (x : List ℕ). length x) is, length-drop size block)

pub others_whole : (size : ℕ) (block others : List ℕ) → length block % size ≡ 0 → size ≤ length block → others ≡ drop size block → length others % size ≡ 0
others_whole size block others whole le is =
    sym (add-mod_left size (length others)) ∙ ap (λ (n : ℕ). n % size) (sym (length_but_first size block others le is)) ∙ whole

pub others_fewer : (size : ℕ) (block others : List ℕ) → 0 < size → size ≤ length block → others ≡ drop size block → length block / size ≡ length others / size + 1
others_fewer size block others some le is = ap (λ (n : ℕ). n / size) (length_but_first size block others le is) ∙ add-div_left (length others) some

-- the records of a block, the first and the others
pub first_cut : (size : ℕ) (block first others : List ℕ) → 0 < size → size ≤ length block → first ≡ take size block → others ≡ drop size block
    → first ∷ cut_records size (length others / size) others ≡ cut_records size (length block / size) block
first_cut size block first others some le is rest =
    let m = length others / size in
    let count : suc m ≡ length block / size = omega (arith, others_fewer size block others some le rest) in
    (λ i. is i ∷ cut_records size m (rest i)) ∙ ap (λ (n : ℕ). cut_records size n block) count
