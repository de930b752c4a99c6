-- Counts of bins, one record after another.
use Rattle.std.proofs.Common.{◌≡◌, ℕ, ◌+◌, ◌-◌, ◌^◌, ◌<◌, ◌≤◌, ◌∙◌, Bool, true, false, cond, Option, Some, unwrap_or, List, [], ◌∷◌, ◌++◌}
use Rattle.std.proofs.Common.{ap, arith, length, subst, sym, refl}
use Rattle.std.proofs.Math.Path.{fun_ext}
use Rattle.std.specs.Cmp.{nat_cmp_total}
use Rattle.std.specs.Ordering.{eq_by_cmp, nat_cmp}
use Rattle.std.specs.FinMap as map
use Rattle.std.specs.FinMap.{get-empty, get-insert}
use Rattle.las_info.specs.Tallies.{TapSeen, Tally, count_at, shown_one, shown_all, tally_after, with_one}

-- no bin has a count above 0
pub count-none : (bin : ℕ) → count_at map.empty bin ≡ 0
count-none bin = ap (λ o. unwrap_or o 0) (get-empty nat_cmp bin)

either : (b : Bool) (n : ℕ) (o : Option ℕ) → unwrap_or (cond b (Some n) o) 0 ≡ cond b n (unwrap_or o 0)
either true n o = refl
either false n o = refl

-- the count of a bin after one record more
pub count-one : (tally : Tally) (bin other : ℕ)
    → count_at (with_one tally bin) other ≡ cond (eq_by_cmp nat_cmp other bin) (count_at tally bin + 1) (count_at tally other)
count-one tally bin other =
    ap (λ o. unwrap_or o 0) (get-insert nat_cmp_total tally bin (count_at tally bin + 1) other)
    ∙ either (eq_by_cmp nat_cmp other bin) (count_at tally bin + 1) (map.get tally other)

-- no count grows by more than one
pub count-more : (tally : Tally) (bin other most : ℕ) → count_at tally bin ≤ most → count_at tally other ≤ most
    → count_at (with_one tally bin) other ≤ most + 1
count-more tally bin other most here there =
    subst (λ n. n ≤ most + 1) (sym (count-one tally bin other))
    (by (eq_by_cmp nat_cmp other bin))
  where
    by : (b : Bool) → cond b (count_at tally bin + 1) (count_at tally other) ≤ most + 1
    by true = omega (arith, here)
    by false = omega (arith, there)

-- a tally after one record more
pub tally-grows : (bin_of : List ℕ → ℕ) (tally : Tally) (records : List (List ℕ)) (point : List ℕ)
    → tally_after bin_of tally (records ++ point ∷ []) ≡ with_one (tally_after bin_of tally records) (bin_of point)
tally-grows bin_of tally [] point = refl
tally-grows bin_of tally (r ∷ records) point = tally-grows bin_of (with_one tally (bin_of r)) records point

-- a tap whose parts are those of a tap that was shown a record
pub same_tap : (old new : TapSeen) (point : List ℕ) → new.name ≡ old.name → ((other : List ℕ) → new.bin other ≡ old.bin other)
    → new.tally ≡ with_one old.tally (old.bin point) → new ≡ shown_one old point
same_tap old new point name rule tally =
    ap (λ (n : List ℕ). record { name = n; bin = new.bin; tally = new.tally }) name
    ∙ ap (λ (b : List ℕ → ℕ). record { name = old.name; bin = b; tally = new.tally }) (fun_ext rule)
    ∙ ap (λ (t : Tally). record { name = old.name; bin = old.bin; tally = t }) tally

-- a tap that was shown some records, and one more
pub shown-more : (tap : TapSeen) (records : List (List ℕ)) (point : List ℕ)
    → shown_one (shown_all tap records) point ≡ shown_all tap (records ++ point ∷ [])
shown-more tap records point =
    ap (λ (t : Tally). record { name = tap.name; bin = tap.bin; tally = t }) (sym (tally-grows tap.bin tap.tally records point))

-- no count of it grows by more than the number of the records
pub shown-few : (tap : TapSeen) (records : List (List ℕ)) (bin most : ℕ) → ((b : ℕ) → count_at tap.tally b ≤ most)
    → count_at (shown_all tap records).tally bin ≤ most + length records
shown-few tap [] bin most few = omega (arith, few bin)
shown-few tap (r ∷ records) bin most few =
    let rest = shown-few (shown_one tap r) records bin (most + 1) (λ b. count-more tap.tally (tap.bin r) b most (few (tap.bin r)) (few b)) in
    omega (arith, rest)

-- a tap whose parts are those of another
pub same_parts : (old new : TapSeen) → new.name ≡ old.name → ((other : List ℕ) → new.bin other ≡ old.bin other) → new.tally ≡ old.tally → new ≡ old
same_parts old new name rule tally =
    ap (λ (n : List ℕ). record { name = n; bin = new.bin; tally = new.tally }) name
    ∙ ap (λ (b : List ℕ → ℕ). record { name = old.name; bin = b; tally = new.tally }) (fun_ext rule)
    ∙ ap (λ (t : Tally). record { name = old.name; bin = old.bin; tally = t }) tally

-- there is room for the next of some records in each bin
pub room_left : (bin_of : List ℕ → ℕ) (old : Tally) (done : List (List ℕ)) (n t more bin : ℕ) → ((b : ℕ) → count_at old b + n < 2 ^ 64)
    → length done ≡ t → t + more ≤ n → count_at (tally_after bin_of old done) bin + more < 2 ^ 64
room_left bin_of old done n t more bin room is within =
    let tap : TapSeen = record { name = []; bin = bin_of; tally = old } in
    omega (arith, is, within, shown-few tap done bin (2 ^ 64 - 1 - n) (λ b. omega (arith, room b)), room 0)

-- one record more is counted, and two
pub one_counted : (bin_of : List ℕ → ℕ) (old now new : Tally) (done : List (List ℕ)) (point : List ℕ) (bin : ℕ) → now ≡ tally_after bin_of old done
    → bin ≡ bin_of point → new ≡ with_one now bin → new ≡ tally_after bin_of old (done ++ point ∷ [])
one_counted bin_of old now new done point bin are is one =
    one ∙ ap (λ (t : Tally). with_one t bin) are ∙ ap (with_one (tally_after bin_of old done)) is ∙ sym (tally-grows bin_of old done point)

pub two_counted : (bin_of : List ℕ → ℕ) (old now new : Tally) (done : List (List ℕ)) (point other : List ℕ) (bin second : ℕ) → now ≡ tally_after bin_of old done
    → bin ≡ bin_of point → second ≡ bin_of other → new ≡ with_one (with_one now bin) second → new ≡ tally_after bin_of old ((done ++ point ∷ []) ++ other ∷ [])
two_counted bin_of old now new done point other bin second are first last both =
    one_counted bin_of old (with_one now bin) new (done ++ point ∷ []) other second (one_counted bin_of old now (with_one now bin) done point bin are first refl) last both

-- a tap that is seen so, with a tally of nothing, has room
pub tap_room : (seen read : TapSeen) (bin : ℕ) → seen ≡ read → read.tally ≡ map.empty → count_at seen.tally bin ≤ 2 ^ 63
tap_room seen read bin same is =
    let none : count_at read.tally bin ≡ 0 = ap (λ (t : Tally). count_at t bin) is ∙ count-none bin in
    subst (λ (t : TapSeen). count_at t.tally bin ≤ 2 ^ 63) (sym same) (omega (arith, none))
