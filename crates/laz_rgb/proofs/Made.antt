-- The colour that was read is the one that its symbols make.
use Rattle.std.proofs.Common.{◌≡◌, ℕ, ◌&&◌, cond, Bool, true, false, [], ◌∷◌, refl, ap, subst, ◌∙◌}
use Rattle.laz_rgb.specs.declared.colour.Colour.{Colour}
use Rattle.laz_rgb.specs.Rows.{byte_of}
use Rattle.laz_rgb.specs.Colours.{colour_made, predicted_blue, predicted_green}
use Rattle.laz_integer.specs.Bytes.{has_bit}
use Rattle.laz_rgb.specs.Coded.{colour_with}

same-colour : (rl rh gl gh bl bh gl' gh' bl' bh' : ℕ) → gl ≡ gl' → gh ≡ gh' → bl ≡ bl' → bh ≡ bh'
    → let a : Colour = record { red_low = rl; red_high = rh; green_low = gl; green_high = gh; blue_low = bl; blue_high = bh } in
    let b : Colour = record { red_low = rl; red_high = rh; green_low = gl'; green_high = gh'; blue_low = bl'; blue_high = bh' } in a ≡ b
same-colour rl rh gl gh bl bh gl' gh' bl' bh' p q r s = λ i. record { red_low = rl; red_high = rh; green_low = p i; green_high = q i; blue_low = r i; blue_high = s i }

-- a byte of green and one of blue, chosen by bit 64
green-is : (u b : Bool) (g r p previous s : ℕ) → g ≡ byte_of (u && b) p previous s → (cond u g r) ≡ (cond u (byte_of b p previous s) r)
green-is true b g r p previous s e = e
green-is false b g r p previous s e = refl

blue-is : (u b c : Bool) (red_from red_to green_from blue_from g h r s t : ℕ) → g ≡ byte_of (u && b) (predicted_green red_from red_to green_from) green_from s → h ≡ byte_of (u && c) (predicted_blue red_from red_to green_from g blue_from) blue_from t
    → cond u h r ≡ cond u (byte_of c (predicted_blue red_from red_to green_from (byte_of b (predicted_green red_from red_to green_from) green_from s) blue_from) blue_from t) r
blue-is true b c red_from red_to green_from blue_from g h r s t e f = f ∙ ap (λ n. byte_of c (predicted_blue red_from red_to green_from n blue_from) blue_from t) e
blue-is false b c red_from red_to green_from blue_from g h r s t e f = refl

pub made-is : (s : ℕ) (last : Colour) (red low high x y z : ℕ × ℕ)
    → red.0 ≡ byte_of (has_bit 1 s) last.red_low last.red_low x.0 → red.1 ≡ byte_of (has_bit 2 s) last.red_high last.red_high x.1
    → low.0 ≡ byte_of (has_bit 64 s && has_bit 4 s) (predicted_green last.red_low red.0 last.green_low) last.green_low y.0
    → low.1 ≡ byte_of (has_bit 64 s && has_bit 16 s) (predicted_blue last.red_low red.0 last.green_low low.0 last.blue_low) last.blue_low y.1
    → high.0 ≡ byte_of (has_bit 64 s && has_bit 8 s) (predicted_green last.red_high red.1 last.green_high) last.green_high z.0
    → high.1 ≡ byte_of (has_bit 64 s && has_bit 32 s) (predicted_blue last.red_high red.1 last.green_high high.0 last.blue_high) last.blue_high z.1
    → colour_with s red low high ≡ colour_made s last (x.0 ∷ x.1 ∷ y.0 ∷ y.1 ∷ z.0 ∷ z.1 ∷ [])
made-is s last red low high x y z r0 r1 g0 b0 g1 b1 =
    let R : ℕ = byte_of (has_bit 1 s) last.red_low last.red_low x.0 in
    let S : ℕ = byte_of (has_bit 2 s) last.red_high last.red_high x.1 in
    let u = has_bit 64 s in
    let first : colour_with s red low high ≡ colour_with s (R, S) low high = ap (λ (p : ℕ × ℕ). colour_with s p low high) (λ i. (r0 i, r1 i)) in
    let gl = subst (λ (n : ℕ). low.0 ≡ byte_of (u && has_bit 4 s) (predicted_green last.red_low n last.green_low) last.green_low y.0) r0 g0 in
    let bl = subst (λ (n : ℕ). low.1 ≡ byte_of (u && has_bit 16 s) (predicted_blue last.red_low n last.green_low low.0 last.blue_low) last.blue_low y.1) r0 b0 in
    let gh = subst (λ (n : ℕ). high.0 ≡ byte_of (u && has_bit 8 s) (predicted_green last.red_high n last.green_high) last.green_high z.0) r1 g1 in
    let bh = subst (λ (n : ℕ). high.1 ≡ byte_of (u && has_bit 32 s) (predicted_blue last.red_high n last.green_high high.0 last.blue_high) last.blue_high z.1) r1 b1 in
    first ∙ same-colour R S _ _ _ _ _ _ _ _
    (green-is u (has_bit 4 s) low.0 R (predicted_green last.red_low R last.green_low) last.green_low y.0 gl)
    (green-is u (has_bit 8 s) high.0 S (predicted_green last.red_high S last.green_high) last.green_high z.0 gh)
    (blue-is u (has_bit 4 s) (has_bit 16 s) last.red_low R last.green_low last.blue_low low.0 low.1 R y.0 y.1 gl bl)
    (blue-is u (has_bit 8 s) (has_bit 32 s) last.red_high S last.green_high last.blue_high high.0 high.1 S z.0 z.1 gh bh)
