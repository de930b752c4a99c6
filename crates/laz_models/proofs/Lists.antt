-- For crates that speak of lists of events: what every list of symbols, or of bits, gives.
use Rattle.std.proofs.Common.{◌≡◌, ℕ, ◌<◌, ◌≤◌, Bool, List, [], ◌∷◌, ◌++◌, sym, subst, ◌∙◌, arith, append_assoc}
use Rattle.std.proofs.lemmas.List.{append-nil}
use Rattle.laz_models.specs.BitCounting.{BitCounting, IsBitCounting, after_bit, new_bit_model}
use Rattle.laz_models.specs.BitDist.{BitStandsFor, p0_of}
use Rattle.laz_models.specs.Counting.{Counting, AreStarts, after_symbol, new_model}
use Rattle.laz_models.specs.Dist.{AreSymbols, Stands, alphabet_size, dist}
use Rattle.laz_models.specs.Sound.{IsSound}
use Rattle.laz_models.proofs.Banks.{size-after_symbol, size-new_model}
use Rattle.laz_models.proofs.BitStand.{BitStandsFor-push, BitStandsFor-new_bit_model}
use Rattle.laz_models.proofs.Sounds.{IsSound-new_model, IsSound-after_symbol, IsBitCounting-new_bit_model, IsBitCounting-after_bit}
use Rattle.laz_models.proofs.Stand.{Stands-push, Stands-new_model}

-- ---- a model that counts a list of symbols
abbrev pub after_symbols : Counting → List ℕ → Counting
after_symbols m [] = m
after_symbols m (s ∷ xs) = after_symbols (after_symbol m s) xs

record StandsSound (n : ℕ) (h : List ℕ) (m : Counting) : Type 0 where
  pub stands : Stands n h m
  pub sound : IsSound m
  pub size : alphabet_size m ≡ n

stands-all : (n : ℕ) (h xs : List ℕ) (m : Counting) → 2 ≤ n → StandsSound n h m → AreSymbols n xs → StandsSound n (h ++ xs) (after_symbols m xs)
stands-all n h [] m many is all = subst (λ (l : List ℕ). StandsSound n l m) (sym (append-nil h)) is
stands-all n h (s ∷ xs) m many is all =
    let next : StandsSound n (h ++ s ∷ []) (after_symbol m s) =
    record { stands = Stands-push n h s m many all.0 is.stands; sound = IsSound-after_symbol m s is.sound (omega (arith, all.0, is.size)); size = size-after_symbol m s ∙ is.size } in
    subst (λ (l : List ℕ). StandsSound n l (after_symbols (after_symbol m s) xs)) (append_assoc h (s ∷ []) xs) (stands-all n (h ++ s ∷ []) xs (after_symbol m s) many next all.1)

pub dist-AreStarts : (n : ℕ) (h : List ℕ) → 2 ≤ n → n ≤ 2048 → AreSymbols n h → AreStarts n (dist n h)
dist-AreStarts n h many few all =
    let first : StandsSound n [] (new_model n) = record { stands = Stands-new_model n many; sound = IsSound-new_model n many few; size = size-new_model n } in
    let r = stands-all n [] h (new_model n) many first all in
    subst (λ (starts : List ℕ). AreStarts n starts) r.stands.starts (subst (λ (k : ℕ). AreStarts k (after_symbols (new_model n) h).starts) r.size r.sound.starts)

-- ---- a model that counts a list of bits
abbrev pub after_bits : BitCounting → List Bool → BitCounting
after_bits m [] = m
after_bits m (b ∷ xs) = after_bits (after_bit m b) xs

record BitStandsSound (h : List Bool) (m : BitCounting) : Type 0 where
  pub stands : BitStandsFor h m
  pub sound : IsBitCounting m

bits-all : (h xs : List Bool) (m : BitCounting) → BitStandsSound h m → BitStandsSound (h ++ xs) (after_bits m xs)
bits-all h [] m is = subst (λ (l : List Bool). BitStandsSound l m) (sym (append-nil h)) is
bits-all h (b ∷ xs) m is =
    let next : BitStandsSound (h ++ b ∷ []) (after_bit m b) = record { stands = BitStandsFor-push h b m is.stands; sound = IsBitCounting-after_bit m b is.sound } in
    subst (λ (l : List Bool). BitStandsSound l (after_bits (after_bit m b) xs)) (append_assoc h (b ∷ []) xs) (bits-all (h ++ b ∷ []) xs (after_bit m b) next)

bits-counted : (h : List Bool) → BitStandsSound h (after_bits new_bit_model h)
bits-counted h = let first : BitStandsSound [] new_bit_model = record { stands = BitStandsFor-new_bit_model; sound = IsBitCounting-new_bit_model } in bits-all [] h new_bit_model first

pub p0-some : (h : List Bool) → 0 < p0_of h
p0-some h = let r = bits-counted h in omega (arith, r.stands.p0, r.sound.p0_some)

pub p0-below : (h : List Bool) → p0_of h < 8192
p0-below h = let r = bits-counted h in omega (arith, r.stands.p0, r.sound.p0_below)
