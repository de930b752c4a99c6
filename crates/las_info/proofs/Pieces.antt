-- Some records of a block at once: a piece of it.
use Rattle.std.proofs.Common.{◌≡◌, ℕ, zero, suc, ◌+◌, ◌-◌, ◌*◌, ◌/◌, ◌%◌, ◌<◌, ◌≤◌, ◌^◌, List, [], ◌∷◌, ◌++◌, All, length, take, drop, refl, sym, ◌∙◌, ap, subst, append_assoc, length-append, arith}
use Rattle.std.proofs.Math.Nat.{mul-div-le, mul-div_cancel_left, mul-le-mul_left, mul-mod_right}
use Rattle.std.proofs.Math.Seq.{take-append-add}
use Rattle.std.proofs.lemmas.List.{append-nil, drop-append-le, length-drop, length-take-le, take-append-drop, take-append-le}
use Rattle.las_header.specs.Plain.{cut_records}
use Rattle.las_header.proofs.Public.{cut_length}
use Rattle.las_info.specs.Surveys.{IsShown, SurveySeen}
use Rattle.las_info.specs.Tallies.{HasRoomToCount, TapSeen, Tally, count_at, tally_after, with_many, with_one}
use Rattle.las_info.proofs.Counting.{room_left}
use Rattle.las_info.proofs.Cuts.{Cuts}
use Rattle.las_info.proofs.Shown.{tally-both}

-- the records of a piece, and those after it
cut_both : (size k m : ℕ) (xs ys : List ℕ) → length xs ≡ size * k → cut_records size (k + m) (xs ++ ys) ≡ cut_records size k xs ++ cut_records size m ys
cut_both size zero m [] ys long = let same : 0 + m ≡ m = omega arith in ap (λ (n : ℕ). cut_records size n ys) same
cut_both size zero m (x ∷ xs) ys long = absurd (omega (arith, long))
cut_both size (suc k) m xs ys long =
    let more : suc k + m ≡ suc (k + m) = omega arith in
    let all : length xs ≡ size + size * k = long ∙ omega arith in
    let within : size ≤ length xs = omega (arith, all) in
    ap (λ (n : ℕ). cut_records size n (xs ++ ys)) more
    ∙ ap (λ (p : List ℕ). p ∷ cut_records size (k + m) (drop size (xs ++ ys))) (take-append-le size xs ys within)
    ∙ ap (λ (r : List ℕ). take size xs ∷ cut_records size (k + m) r) (drop-append-le size xs ys within)
    ∙ ap (λ (rs : List (List ℕ)). take size xs ∷ rs) (cut_both size k m (drop size xs) ys (omega (arith, length-drop size xs, all)))

-- some records more were taken
pub record Piece (size n t k : ℕ) (block piece further : List ℕ) (done : List (List ℕ)) : Type 0 where
  pub long : length piece ≡ size * k
  pub left : length further ≡ size * (n - (t + k))
  pub cuts : Cuts size n (t + k) block further (done ++ cut_records size k piece)

-- there is one more group of a size
pub groups_fit : (n k i : ℕ) → i < n / k → k * i + k ≤ n
groups_fit n k i lt =
    let next : k * i + k ≡ k * (i + 1) = omega arith in
    let more : i + 1 ≤ n / k = omega (arith, lt) in
    omega (arith, next, mul-le-mul_left k more, mul-div-le n k)

pub groups_all : (n k i : ℕ) → i ≤ n / k → k * i ≤ n
groups_all n k i le = omega (arith, mul-le-mul_left k le, mul-div-le n k)

-- they are there
pub piece_fits : (size n t k : ℕ) (rest : List ℕ) → t + k ≤ n → length rest ≡ size * (n - t) → size * k ≤ length rest
piece_fits size n t k rest more left =
    let within : k ≤ n - t = omega (arith, more) in
    omega (arith, left, mul-le-mul_left size within)

pub piece_taken : (size n t k : ℕ) (block rest piece further : List ℕ) (done : List (List ℕ)) → t + k ≤ n → length rest ≡ size * (n - t)
    → piece ≡ take (size * k) rest → further ≡ drop (size * k) rest → Cuts size n t block rest done → Piece size n t k block piece further done
piece_taken size n t k block rest piece further done more left front back s =
    let fits = piece_fits size n t k rest more left in
    let m = n - (t + k) in
    let next : n - t ≡ k + m = omega (arith, more) in
    let long : length piece ≡ size * k = ap (λ (x : List ℕ). length x) front ∙ length-take-le (size * k) rest fits in
    let parts : rest ≡ piece ++ further = sym (ap (λ (x : List ℕ). x ++ further) front ∙ ap (λ (x : List ℕ). take (size * k) rest ++ x) back ∙ take-append-drop (size * k) rest) in
    let all : size * (k + m) ≡ size * k + size * m = omega arith in
    let cut : cut_records size (n - t) rest ≡ cut_records size k piece ++ cut_records size m further =
    ap (λ (j : ℕ). cut_records size j rest) next ∙ ap (λ (r : List ℕ). cut_records size (k + m) r) parts ∙ cut_both size k m piece further long in
    record {
      long = long;
      left = omega (arith, ap (λ (x : List ℕ). length x) back, length-drop (size * k) rest, left, ap (λ (j : ℕ). size * j) next, all);
      cuts = record {
        count = omega (arith, length-append done (cut_records size k piece), s.count, cut_length size k piece);
        cut = s.cut ∙ ap (λ (r : List (List ℕ)). done ++ r) cut ∙ sym (append_assoc done (cut_records size k piece) (cut_records size m further));
      };
    }

-- whole records of a known number
pub whole_of : (size n : ℕ) (bytes : List ℕ) → 0 < size → length bytes ≡ size * n → length bytes % size ≡ 0
whole_of size n bytes some long = ap (λ (k : ℕ). k % size) long ∙ mul-mod_right size n

pub count_of : (size n : ℕ) (bytes : List ℕ) → 0 < size → length bytes ≡ size * n → length bytes / size ≡ n
count_of size n bytes some long = ap (λ (k : ℕ). k / size) long ∙ mul-div_cancel_left n some

-- ---- a tally after the records of a piece

-- there is room for a piece
pub room_for : (bin_of : List ℕ → ℕ) (old now : Tally) (done : List (List ℕ)) (n t more : ℕ) → HasRoomToCount n old → length done ≡ t → t + more ≤ n → now ≡ tally_after bin_of old done
    → HasRoomToCount more now
room_for bin_of old now done n t more room is within are = record {
  fits = λ bin. omega (arith, room_left bin_of old done n t more bin room.fits is within, ap (λ (s : Tally). count_at s bin) are);
}

module _ (bin_of : List ℕ → ℕ) (old now new : Tally) (size n t : ℕ) (block rest : List ℕ) (done : List (List ℕ)) (cuts : Cuts size n t block rest done) (is : now ≡ tally_after bin_of old done) where
  -- all of them were counted
  pub piece_counted : (records : List (List ℕ)) → new ≡ tally_after bin_of now records → new ≡ tally_after bin_of old (done ++ records)
  piece_counted records after = after ∙ ap (λ (s : Tally). tally_after bin_of s records) is ∙ tally-both bin_of old done records

  -- the last were counted
  pub rest_counted : new ≡ tally_after bin_of now (cut_records size (n - t) rest) → new ≡ tally_after bin_of old (cut_records size n block)
  rest_counted after = piece_counted (cut_records size (n - t) rest) after ∙ ap (tally_after bin_of old) (sym cuts.cut)

  -- the first of the others were counted
  pub some_counted : (m : ℕ) → new ≡ tally_after bin_of now (take m (cut_records size (n - t) rest)) → new ≡ tally_after bin_of old (take (t + m) (cut_records size n block))
  some_counted m after =
      let records = cut_records size (n - t) rest in
      let first : take (t + m) (cut_records size n block) ≡ done ++ take m records =
      ap (take (t + m)) cuts.cut ∙ ap (λ (k : ℕ). take (k + m) (done ++ records)) (sym cuts.count) ∙ take-append-add done records m in
      piece_counted (take m records) after ∙ ap (tally_after bin_of old) (sym first)

-- the first of a piece are the first of the others
pub first_of_piece : (size n t k m : ℕ) (block piece rest further : List ℕ) (done : List (List ℕ)) → Cuts size n t block rest done → Piece size n t k block piece further done
    → done ++ take m (cut_records size k piece) ≡ take (t + length (take m (cut_records size k piece))) (cut_records size n block)
first_of_piece size n t k m block piece rest further done cuts p =
    let records = cut_records size k piece in
    let others = cut_records size (n - (t + k)) further in
    let some = take m records in
    let all : cut_records size n block ≡ done ++ (some ++ (drop m records ++ others)) =
    p.cuts.cut ∙ append_assoc done records others ∙ ap (λ (r : List (List ℕ)). done ++ (r ++ others)) (sym (take-append-drop m records))
    ∙ ap (λ (r : List (List ℕ)). done ++ r) (append_assoc some (drop m records) others) in
    sym (ap (take (t + length some)) all ∙ ap (λ (k : ℕ). take (k + length some) (done ++ (some ++ (drop m records ++ others)))) (sym cuts.count)
    ∙ take-append-add done (some ++ (drop m records ++ others)) (length some)
    ∙ ap (λ (r : List (List ℕ)). done ++ r) (some_first some (drop m records ++ others)))
  where
    some_first : (xs ys : List (List ℕ)) → take (length xs) (xs ++ ys) ≡ xs
    some_first [] ys = refl
    some_first (x ∷ xs) ys = ap (λ (t : List (List ℕ)). x ∷ t) (some_first xs ys)

-- records that all have a bin
pub one_bin : (bin_of : List ℕ → ℕ) (tally : Tally) (bin : ℕ) (records : List (List ℕ)) → All (λ point. bin_of point ≡ bin) records
    → with_many tally bin (length records) ≡ tally_after bin_of tally records
one_bin bin_of tally bin [] all = refl
one_bin bin_of tally bin (r ∷ records) all =
    let here : bin_of r ≡ bin = all 0 [] (omega arith) in
    one_bin bin_of (with_one tally bin) bin records (λ k d lt. all (suc k) d (omega (arith, lt)))
    ∙ ap (λ (b : ℕ). tally_after bin_of (with_one tally b) records) (sym here)

-- ---- a survey that was shown a block in pieces

pub none_more : {survey : SurveySeen} (taps : List TapSeen) (before : List (List ℕ)) → IsShown taps before survey → IsShown taps (before ++ []) survey
none_more {survey = survey} taps before is = subst (λ (rs : List (List ℕ)). IsShown taps rs survey) (sym (append-nil before)) is

-- it was shown a piece more
pub piece_shown : {survey : SurveySeen} (taps : List TapSeen) (before done : List (List ℕ)) (size m k : ℕ) (piece : List ℕ) → m ≡ k
    → IsShown taps ((before ++ done) ++ cut_records size m piece) survey → IsShown taps (before ++ (done ++ cut_records size k piece)) survey
piece_shown {survey = survey} taps before done size m k piece number is =
    subst (λ (rs : List (List ℕ)). IsShown taps rs survey)
    (append_assoc before done (cut_records size m piece) ∙ ap (λ (j : ℕ). before ++ (done ++ cut_records size j piece)) number) is

-- it was shown the last of them
pub rest_shown : {survey : SurveySeen} (taps : List TapSeen) (before done : List (List ℕ)) (size n t m : ℕ) (block rest : List ℕ) → m ≡ n - t → Cuts size n t block rest done
    → IsShown taps ((before ++ done) ++ cut_records size m rest) survey → IsShown taps (before ++ cut_records size n block) survey
rest_shown {survey = survey} taps before done size n t m block rest number cuts is =
    subst (λ (rs : List (List ℕ)). IsShown taps (before ++ rs) survey) (sym cuts.cut) (piece_shown taps before done size m (n - t) rest number is)

-- the survey counts few enough
pub piece_room : (before done : List (List ℕ)) (n t k m : ℕ) → length before + n < 2 ^ 32 → length done ≡ t → t + k ≤ n → m ≡ k → length (before ++ done) + m < 2 ^ 32
piece_room before done n t k m few is within number = omega (arith, length-append before done, few, is, within, number)
