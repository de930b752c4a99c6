-- No two numbers below 2^64 give one name of a part.
use Rattle.std.proofs.Common.{◌≡◌, ℕ, ◌^◌, ◌<◌, List, ◌++◌, length, codes, take, drop, length-append, sym, ◌∙◌, ap, arith}
use Rattle.std.specs.Str.Parse.{digits_value}
use Rattle.std.proofs.Math.Seq.{drop-append_seam, take-append_seam}
use Rattle.las_filter.specs.Parts.{in_seven_digits, part_name}
use Rattle.las_filter.proofs.Public.{value_is}

drop_front : (xs ys zs : List ℕ) → xs ++ ys ≡ xs ++ zs → ys ≡ zs
drop_front xs ys zs e = sym (drop-append_seam xs ys) ∙ ap (drop (length xs)) e ∙ drop-append_seam xs zs

drop_end : (xs ys zs : List ℕ) → xs ++ zs ≡ ys ++ zs → xs ≡ ys
drop_end xs ys zs e =
    let long : length xs ≡ length ys = omega (arith, ap (λ (t : List ℕ). length t) e, length-append xs zs, length-append ys zs) in
    sym (take-append_seam xs zs) ∙ ap (λ (n : ℕ). take n (xs ++ zs)) long ∙ ap (take (length ys)) e ∙ take-append_seam ys zs

pub one_number : (stem end : List ℕ) (m n : ℕ) → m < 2 ^ 64 → n < 2 ^ 64 → part_name stem end m ≡ part_name stem end n → m ≡ n
one_number stem end m n few less e =
    let digits = drop_front (stem ++ codes "_") (in_seven_digits m) (in_seven_digits n) (drop_end ((stem ++ codes "_") ++ in_seven_digits m) ((stem ++ codes "_") ++ in_seven_digits n) end e) in
    sym (value_is m few) ∙ ap (digits_value 10) digits ∙ value_is n less
