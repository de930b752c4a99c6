-- Records one after another, and a list with one more.
use Rattle.std.proofs.Common.{◌≡◌, ℕ, zero, suc, ◌+◌, ◌*◌, ◌-◌, ◌≤◌, add-one, List, [], ◌∷◌, ◌++◌, length, take, drop, refl, sym, ap, subst, ◌∙◌, arith}
use Rattle.std.proofs.lemmas.List.{drop-drop, drop-take, drop_at, length-take-le, take_at}
use borrow.Rule.Slice.PartMut.{put_mid}
use Rattle.laz_range.specs.Coding.{Coding, Codes, CodesInSteps}
use Rattle.laz_range.specs.Choice.{all_cuts, state_after}
use Rattle.laz_range.proofs.Public.{all_cuts-push, state_after-push, CodesInSteps-step}
use Rattle.laz_chunk.specs.Layouts.{Layout, record_length}
use Rattle.laz_chunk.specs.Records.{Record, record_at, records_in}
use Rattle.laz_chunk.specs.Chunks.{History, Spelling, grown, record_cuts, spelled_records, writing, written}
use Rattle.laz_integer.proofs.Public.{next_suc, cons_same, take-front, two_lists}
use Rattle.laz_chunk.proofs.Written.{written-push}

-- ---- the records in bytes
pub records-more : (l : Layout) (i : ℕ) (a : List ℕ) → records_in l (suc i) a ≡ records_in l i a ++ record_at l (take (record_length l) (drop (record_length l * i) a)) ∷ []
records-more l zero a = ap (λ (n : ℕ). record_at l (take (record_length l) (drop n a)) ∷ []) (let e : 0 ≡ record_length l * 0 = omega arith in e)
records-more l (suc i) a =
    let m : ℕ = record_length l in
    let at : m + m * i ≡ m * suc i = sym (next_suc i m) in
    ap (λ rs. record_at l (take m a) ∷ rs)
    (records-more l i (drop m a) ∙ ap (λ (b : List ℕ). records_in l i (drop m a) ++ record_at l (take m b) ∷ []) (drop-drop (m * i) m a ∙ ap (λ (k : ℕ). drop k a) at))

pub records-next : (l : Layout) (i at size : ℕ) (a : List ℕ) → size ≡ record_length l → at ≡ record_length l * i → records_in l (i + 1) a ≡ records_in l i a ++ record_at l (take (at + size - at) (drop at a)) ∷ []
records-next l i at size a same place =
    let m : ℕ = record_length l in
    let long : at + size - at ≡ m = omega (arith, same) in
    ap (λ (n : ℕ). records_in l n a) (add-one i) ∙ (records-more l i a ∙ rw (long, place) refl)

records-front : (l : Layout) (i : ℕ) (a b : List ℕ) → take (record_length l * i) a ≡ take (record_length l * i) b → records_in l i a ≡ records_in l i b
records-front l zero a b e = refl
records-front l (suc i) a b e =
    let m : ℕ = record_length l in
    let f : take (m + m * i) a ≡ take (m + m * i) b = subst (λ (n : ℕ). take n a ≡ take n b) (next_suc i m) e in
    let first = take-front m (m + m * i) a b (omega arith) f in
    let rest : take (m * i) (drop m a) ≡ take (m * i) (drop m b) = sym (drop-take m (m * i) a) ∙ (ap (λ (l : List ℕ). drop m l) f ∙ drop-take m (m * i) b) in
    cons_same _ _ _ _ (ap (record_at l) first) (records-front l i (drop m a) (drop m b) rest)

-- a record that is written behind others
pub records-set : (l : Layout) (i at k : ℕ) (xs ys : List ℕ) → length ys ≡ record_length l → at ≡ record_length l * i → at ≤ length xs → records_in l (i + 1) (put_mid at k xs ys) ≡ records_in l i xs ++ record_at l ys ∷ []
records-set l i at k xs ys size place within =
    let m : ℕ = record_length l in
    let new : List ℕ = put_mid at k xs ys in
    let front : length (take at xs) ≡ at = length-take-le at xs within in
    let same : take at new ≡ take at xs = take_at (take at xs) (ys ++ drop k (drop at xs)) at front in
    let rest : drop at new ≡ ys ++ drop k (drop at xs) = drop_at (take at xs) (ys ++ drop k (drop at xs)) at front in
    let part : take m (drop at new) ≡ ys = ap (λ (b : List ℕ). take m b) rest ∙ take_at ys (drop k (drop at xs)) m size in
    let here : take m (drop (m * i) new) ≡ ys = subst (λ (n : ℕ). take m (drop n new) ≡ ys) place part in
    let before : take (m * i) new ≡ take (m * i) xs = subst (λ (n : ℕ). take n new ≡ take n xs) place same in
    ap (λ (n : ℕ). records_in l n new) (add-one i) ∙ (records-more l i new ∙ two_lists _ _ _ _ (records-front l i new xs before) (ap (λ (b : List ℕ). record_at l b ∷ []) here))

-- ---- a record more is written
pub codes-push : (l : Layout) (h : History) (rs : List Record) (r : Record) (ss : List Record) (a b m c : Coding) → ss ≡ rs ++ r ∷ [] → CodesInSteps a b (all_cuts grown record_cuts h (written l h rs)) → CodesInSteps b m []
    → (let g = state_after grown h (written l h rs) in Codes m c (record_cuts g (writing l g r))) → CodesInSteps a c (all_cuts grown record_cuts h (written l h ss))
codes-push l h rs r ss a b m c e f w g =
    rw (e, written-push l h rs r, all_cuts-push grown record_cuts h (written l h rs) (writing l (state_after grown h (written l h rs)) r))
    (CodesInSteps-step a b m c (all_cuts grown record_cuts h (written l h rs)) (record_cuts (state_after grown h (written l h rs)) (writing l (state_after grown h (written l h rs)) r)) f w g)

pub after-push : (l : Layout) (h : History) (rs : List Record) (r : Record) (ss : List Record) → ss ≡ rs ++ r ∷ [] → state_after grown h (written l h ss) ≡ (let g = state_after grown h (written l h rs) in grown g (writing l g r))
after-push l h rs r ss e =
    ap (λ (ss : List Record). state_after grown h (written l h ss)) e
    ∙ (ap (state_after grown h) (written-push l h rs r) ∙ state_after-push grown h (written l h rs) (writing l (state_after grown h (written l h rs)) r))

-- ---- a record more is read
records-push : (xs : List Spelling) (x : Spelling) → spelled_records (xs ++ x ∷ []) ≡ spelled_records xs ++ x.1 ∷ []
records-push [] x = refl
records-push (y ∷ xs) x = ap (λ rs. y.1 ∷ rs) (records-push xs x)

pub read-push : (xs : List Spelling) (x : Spelling) (rs ss : List Record) → spelled_records xs ≡ rs → ss ≡ rs ++ x.1 ∷ [] → spelled_records (xs ++ x ∷ []) ≡ ss
read-push xs x rs ss e f = records-push xs x ∙ (ap (λ (l : List Record). l ++ x.1 ∷ []) e ∙ sym f)
