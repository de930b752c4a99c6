-- Records that are counted one by one.
use Rattle.std.proofs.Common.{◌≡◌, ℕ, suc, ◌+◌, ◌-◌, ◌<◌, ◌≤◌, List, [], ◌∷◌, ◌++◌, take, drop, sym, ◌∙◌, ap, append_assoc, arith}
use Rattle.std.proofs.lemmas.List.{append-nil}
use Rattle.las_header.specs.declared.counts.Counts.{Counts}
use Rattle.las_header.specs.Plain.{cut_records}
use Rattle.las_points.specs.Tally.{counts_of}

-- how the counts stand after some of the records: these were counted, and the others are left
pub record Counted (size n t : ℕ) (records rest : List ℕ) (before : List (List ℕ)) (counts : Counts) : Type 0 where
  pub done : List (List ℕ)
  pub counts_are : counts ≡ counts_of (before ++ done)
  pub cut : cut_records size n records ≡ done ++ cut_records size (n - t) rest

pub none_counted : (size n : ℕ) (records : List ℕ) (before : List (List ℕ)) (counts : Counts) → counts ≡ counts_of before → Counted size n 0 records records before counts
none_counted size n records before counts is = record {
  done = [];
  counts_are = is ∙ ap counts_of (sym (append-nil before));
  cut = let all : n ≡ n - 0 = omega arith in ap (λ (k : ℕ). cut_records size k records) all;
}

pub one_counted : (size n t : ℕ) (records rest point further : List ℕ) (before : List (List ℕ)) (old new : Counts) → t < n → point ≡ take size rest → further ≡ drop size rest → Counted size n t records rest before old
    → ((xs : List (List ℕ)) → old ≡ counts_of xs → new ≡ counts_of (xs ++ point ∷ [])) → Counted size n (t + 1) records further before new
one_counted size n t records rest point further before old new more first others c list =
    let k = n - (t + 1) in
    let left : n - t ≡ suc k = omega arith in
    let next : cut_records size (n - t) rest ≡ point ∷ cut_records size k further =
    ap (λ (m : ℕ). cut_records size m rest) left ∙ ap (λ (x : List ℕ). x ∷ cut_records size k (drop size rest)) (sym first) ∙ ap (λ (r : List ℕ). point ∷ cut_records size k r) (sym others) in
    record {
      done = c.done ++ point ∷ [];
      counts_are = list (before ++ c.done) c.counts_are ∙ ap counts_of (append_assoc before c.done (point ∷ []));
      cut = c.cut ∙ ap (λ (t : List (List ℕ)). c.done ++ t) next ∙ sym (append_assoc c.done (point ∷ []) (cut_records size k further));
    }

pub all_counted : (size n t : ℕ) (records rest : List ℕ) (before : List (List ℕ)) (counts : Counts) → n ≤ t → Counted size n t records rest before counts → counts ≡ counts_of (before ++ cut_records size n records)
all_counted size n t records rest before counts end c =
    let none : n - t ≡ 0 = omega arith in
    let all : cut_records size n records ≡ c.done = c.cut ∙ ap (λ (k : ℕ). c.done ++ cut_records size k rest) none ∙ append-nil c.done in
    c.counts_are ∙ ap (λ (t : List (List ℕ)). counts_of (before ++ t)) (sym all)
