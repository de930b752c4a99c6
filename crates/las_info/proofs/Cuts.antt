-- The records of a block, one by one: these were taken, and the others are left.
use Rattle.std.proofs.Common.{◌≡◌, ℕ, suc, ◌+◌, ◌-◌, ◌<◌, ◌≤◌, List, [], ◌∷◌, ◌++◌, length, take, drop, refl, sym, ◌∙◌, ap, append_assoc, length-append, arith}
use Rattle.std.proofs.lemmas.List.{append-nil}
use Rattle.std.proofs.Math.Seq.{take-append_seam}
use Rattle.las_header.specs.Plain.{cut_records}

pub record Cuts (size n t : ℕ) (block rest : List ℕ) (done : List (List ℕ)) : Type 0 where
  pub count : length done ≡ t
  pub cut : cut_records size n block ≡ done ++ cut_records size (n - t) rest

pub cuts_none : (size n : ℕ) (block : List ℕ) → Cuts size n 0 block block []
cuts_none size n block = record {
  count = refl;
  cut = let all : n ≡ n - 0 = omega arith in ap (λ (k : ℕ). cut_records size k block) all;
}

pub cuts_one : (size n t : ℕ) (block rest point further : List ℕ) (done : List (List ℕ)) → t < n → point ≡ take size rest
    → further ≡ drop size rest → Cuts size n t block rest done → Cuts size n (t + 1) block further (done ++ point ∷ [])
cuts_one size n t block rest point further done more first others s =
    let k = n - (t + 1) in
    let left : n - t ≡ suc k = omega arith in
    let next : cut_records size (n - t) rest ≡ point ∷ cut_records size k further =
    ap (λ (m : ℕ). cut_records size m rest) left ∙ ap (λ (x : List ℕ). x ∷ cut_records size k (drop size rest)) (sym first) ∙ ap (λ (r : List ℕ). point ∷ cut_records size k r) (sym others) in
    record {
      count = omega (arith, length-append done (point ∷ []), s.count);
      cut = s.cut ∙ ap (λ (t : List (List ℕ)). done ++ t) next ∙ sym (append_assoc done (point ∷ []) (cut_records size k further));
    }

-- those that were taken are the first
pub cuts_first : (size n t : ℕ) (block rest : List ℕ) (done : List (List ℕ)) → Cuts size n t block rest done → done ≡ take t (cut_records size n block)
cuts_first size n t block rest done s =
    sym (ap (take t) s.cut ∙ ap (λ (k : ℕ). take k (done ++ cut_records size (n - t) rest)) (sym s.count) ∙ take-append_seam done (cut_records size (n - t) rest))

pub cuts_all : (size n t : ℕ) (block rest : List ℕ) (done : List (List ℕ)) → n ≤ t → Cuts size n t block rest done → done ≡ cut_records size n block
cuts_all size n t block rest done end s =
    let none : n - t ≡ 0 = omega arith in
    sym (s.cut ∙ ap (λ (k : ℕ). done ++ cut_records size k rest) none ∙ append-nil done)
