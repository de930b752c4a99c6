-- Numbers that are drawn one after another.
use Rattle.std.proofs.Common.{◌≡◌, ℕ, ◌+◌, ◌*◌, ◌/◌, ◌%◌, ◌^◌, ◌<◌, ◌≤◌, Bool, true, false, cond, sym, ◌∙◌, ap, refl, arith, add-one}
use Rattle.std.proofs.Math.Nat.{mod-add-mod}
use Rattle.std.proofs.lemmas.Bool.Decides.{nat_tests}
use Rattle.las_make.specs.declared.drawing.Draws.{Draws}
use Rattle.las_make.specs.Drawing.{DrawsNext, draw, draws_at, draws_each, next_state, state_drawn}
use Rattle.las_header.specs.Fields.{has_colours}

pub first_state : (seed : ℕ) → seed ≡ state_drawn seed 0
unfolding state_drawn
first_state seed = refl

pub advances : (state : ℕ) → let new = (state * 6364136223846793005 % 2 ^ 64 + 1442695040888963407) % 2 ^ 64 in DrawsNext state (new / 2 ^ 32) new
unfolding state_drawn draw next_state
advances state seed n is =
    let next = mod-add-mod (state * 6364136223846793005) (2 ^ 64) 1442695040888963407 ∙ ap next_state is in
    (ap (λ (s : ℕ). s / 2 ^ 32) next, next ∙ ap (state_drawn seed) (sym (add-one n)))

moved : (seed n m s : ℕ) → n ≡ m → s ≡ state_drawn seed n → s ≡ state_drawn seed m
moved seed n m s same is = is ∙ ap (state_drawn seed) same

-- after the seven numbers of every record
pub record Seven (seed n : ℕ) (d : Draws) (state : ℕ) : Type 0 where
  pub x : d.x ≡ draw seed n
  pub y : d.y ≡ draw seed (n + 1)
  pub z : d.z ≡ draw seed (n + 2)
  pub intensity : d.intensity ≡ draw seed (n + 3)
  pub returns : d.returns ≡ draw seed (n + 4)
  pub number : d.number ≡ draw seed (n + 5)
  pub class : d.class ≡ draw seed (n + 6)
  pub state_is : state ≡ state_drawn seed (n + 7)

pub seven_drawn : (seed n a b c d e f g h : ℕ) (ds : Draws) → a ≡ state_drawn seed n → DrawsNext a ds.x b → DrawsNext b ds.y c → DrawsNext c ds.z d → DrawsNext d ds.intensity e → DrawsNext e ds.returns f → DrawsNext f ds.number g → DrawsNext g ds.class h → Seven seed n ds h
seven_drawn seed n a b c d e f g h ds is x y z i r m k =
    let b_is = (x seed n is).1 in
    let c_is = moved seed (n + 1 + 1) (n + 2) c (omega arith) (y seed (n + 1) b_is).1 in
    let d_is = moved seed (n + 2 + 1) (n + 3) d (omega arith) (z seed (n + 2) c_is).1 in
    let e_is = moved seed (n + 3 + 1) (n + 4) e (omega arith) (i seed (n + 3) d_is).1 in
    let f_is = moved seed (n + 4 + 1) (n + 5) f (omega arith) (r seed (n + 4) e_is).1 in
    let g_is = moved seed (n + 5 + 1) (n + 6) g (omega arith) (m seed (n + 5) f_is).1 in
    record {
      x = (x seed n is).0;
      y = (y seed (n + 1) b_is).0;
      z = (z seed (n + 2) c_is).0;
      intensity = (i seed (n + 3) d_is).0;
      returns = (r seed (n + 4) e_is).0;
      number = (m seed (n + 5) f_is).0;
      class = (k seed (n + 6) g_is).0;
      state_is = moved seed (n + 6 + 1) (n + 7) h (omega arith) (k seed (n + 6) g_is).1;
    }

-- two lists of numbers are the same if each of them is
same_draws : (d e : Draws) → d.x ≡ e.x → d.y ≡ e.y → d.z ≡ e.z → d.intensity ≡ e.intensity → d.returns ≡ e.returns → d.number ≡ e.number → d.class ≡ e.class → d.colours ≡ e.colours → d ≡ e
same_draws d e x y z i r m c h =
    let both : ◌≡◌ {A = Draws} (record { x = d.x; y = d.y; z = d.z; intensity = d.intensity; returns = d.returns; number = d.number; class = d.class; colours = d.colours })
    (record { x = e.x; y = e.y; z = e.z; intensity = e.intensity; returns = e.returns; number = e.number; class = e.class; colours = e.colours }) = cc in both

colours_by : (b : Bool) (seed n colours : ℕ) → (b ≡ true → colours ≡ draw seed (n + 7)) → (b ≡ false → colours ≡ 0) → colours ≡ cond b (draw seed (n + 7)) 0
colours_by true seed n colours some none = some refl
colours_by false seed n colours some none = none refl

-- the numbers of a record: the last is drawn if there are colours
pub all_drawn : (format seed n state : ℕ) (d : Draws) → Seven seed n d state → (has_colours format ≡ true → d.colours ≡ draw seed (n + 7)) → (has_colours format ≡ false → d.colours ≡ 0) → d ≡ draws_at format seed n
unfolding draws_at
all_drawn format seed n state d s some none =
    same_draws d (draws_at format seed n) s.x s.y s.z s.intensity s.returns s.number s.class (colours_by (has_colours format) seed n d.colours some none)

pub few_formats : (format : ℕ) → format < 2 → has_colours format ≡ false
few_formats format few = grind (arith, nat_tests)

pub many_formats : (format : ℕ) → 2 ≤ format → has_colours format ≡ true
many_formats format many = grind (arith, nat_tests)

pub state_with : (format seed n state last : ℕ) → 2 ≤ format → (state ≡ state_drawn seed (n + 7)) → (state ≡ state_drawn seed (n + 7) → last ≡ state_drawn seed (n + 7 + 1)) → last ≡ state_drawn seed (n + draws_each format)
state_with format seed n state last many is next =
    let each : draws_each format ≡ 8 = ap (λ (b : Bool). cond b 8 7) (many_formats format many) in
    moved seed (n + 7 + 1) (n + draws_each format) last (omega (arith, each)) (next is)

pub state_without : (format seed n state : ℕ) → format < 2 → state ≡ state_drawn seed (n + 7) → state ≡ state_drawn seed (n + draws_each format)
state_without format seed n state few is =
    let each : draws_each format ≡ 7 = ap (λ (b : Bool). cond b 8 7) (few_formats format few) in
    moved seed (n + 7) (n + draws_each format) state (omega (arith, each)) is
