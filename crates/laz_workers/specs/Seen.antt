-- What contracts see of `Claims` and of a `Pass`.
use Rattle.std.specs.Prelude.{◌≡◌, ℕ, ◌+◌, ◌-◌, ◌<◌, Bool, true, false, nat_lt, nat_le, if◌then◌else◌, Option, Some}
use Rattle.std.specs.Prelude.{None, List, [], ◌∷◌, ◌++◌, All}
use Rattle.laz_workers.specs.Numbers.{HoldsBelow}
use Rattle.atomic_table.specs.Seated.{TableId}

-- `word` says which word it is: no two claims share one
pub record ClaimsSeen : Type 0 where
  pub word : TableId
  pub total : ℕ
  pub workers : ℕ

-- the claims that it belongs to, whether it is the opening pass, the numbers that it drew, in order, whether one of its
-- own was at or past the total, how many passes may still be split from it, and how many were split from it and not
-- joined
pub record PassSeen : Type 0 where
  pub claims : ClaimsSeen
  pub opens : Bool
  pub drawn : List ℕ
  pub spent : Bool
  pub rest : ℕ
  pub out : ℕ

-- the opening pass of new claims
abbrev pub opening_pass : ClaimsSeen → PassSeen
opening_pass c = record { claims = c; opens = true; drawn = []; spent = false; rest = c.workers - 1; out = 0 }

-- a pass that was split from another and has drawn nothing
abbrev pub split_pass : PassSeen → PassSeen
split_pass p = record { claims = p.claims; opens = false; drawn = []; spent = false; rest = 0; out = 0 }

-- the answer of a claim that drew this number
abbrev pub answer_of : ℕ → ℕ → Option ℕ
answer_of total number = if nat_lt number total then Some number else None

-- The pass drew the number: it follows the others in the list and is greater than each, and the pass is spent exactly
-- if the number is at or past the total. All else stays. If the pass is the opening one and no other is out, it then
-- holds each number below the word that this step left, once, and no other
pub record Drew (old new : PassSeen) (number : ℕ) : Type 0 where
  pub pass : new ≡ record old { drawn = old.drawn ++ number ∷ []; spent = nat_le old.claims.total number }
  pub greater : All (λ x. x < number) old.drawn
  pub whole : old.opens ≡ true → old.out ≡ 0 → HoldsBelow (number + 1) new.drawn
