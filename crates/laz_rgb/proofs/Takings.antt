-- What several calls have read, one after another: the bytes of a pair, and all that is read of a colour.
use Rattle.std.proofs.Common.{◌≡◌, ℕ, ◌+◌, ◌<◌, Bool, List, [], ◌∷◌, ◌++◌, subst}
use Rattle.laz_range.specs.Cut.{Cut}
use Rattle.laz_range.specs.Decoding.{Decoding, Takes, TakesNone}
use Rattle.laz_range.proofs.Public.{Takes-then, TakesNone-first, TakesNone-second}
use Rattle.laz_models.specs.Counting.{Counting}
use Rattle.laz_models.specs.Bank.{model_at}
use Rattle.laz_integer.specs.Fields.{IsByte, byte_cuts, byte_next}
use Rattle.laz_integer.specs.Integer.{symbol_cut}
use Rattle.laz_rgb.specs.Coded.{IsColourChoice, IsTwo, after_changes, choice_cuts, mark_at, two_cuts, two_next}

-- ---- two bytes
module _ (s t : Bool) (bank mid : List Counting) (m x : ℕ) (a b c : Decoding) (f : Takes (IsByte s 0) (byte_cuts s bank m) a b x) (e : mid ≡ byte_next s bank m x) where
  pub two-takes : (y : ℕ) → Takes (IsByte t 0) (byte_cuts t mid (m + 1)) b c y → Takes (IsTwo s t) (two_cuts s t bank m) a c (x, y)
  two-takes y g =
      Takes-then {X = ℕ} {Y = ℕ} (IsByte s 0) (λ z. IsByte t 0) (byte_cuts s bank m) (λ z. byte_cuts t (byte_next s bank m z) (m + 1)) a b c x y f
      (subst (λ (l : List Counting). Takes (IsByte t 0) (byte_cuts t l (m + 1)) b c y) e g)

  pub two-second : TakesNone (IsByte t 0) (byte_cuts t mid (m + 1)) b c → TakesNone (IsTwo s t) (two_cuts s t bank m) a c
  two-second g =
      TakesNone-second {X = ℕ} {Y = ℕ} (IsByte s 0) (λ z. IsByte t 0) (byte_cuts s bank m) (λ z. byte_cuts t (byte_next s bank m z) (m + 1)) a b c x f
      (subst (λ (l : List Counting). TakesNone (IsByte t 0) (byte_cuts t l (m + 1)) b c) e g)

pub two-first : (s t : Bool) (bank : List Counting) (m : ℕ) (a b : Decoding) → TakesNone (IsByte s 0) (byte_cuts s bank m) a b → TakesNone (IsTwo s t) (two_cuts s t bank m) a b
two-first s t bank m a b f = TakesNone-first {X = ℕ} {Y = ℕ} (IsByte s 0) (λ z. IsByte t 0) (byte_cuts s bank m) (λ z. byte_cuts t (byte_next s bank m z) (m + 1)) a b f

-- ---- a colour: its symbol of changes, red, green and blue low, green and blue high
abbrev Two : Type 0
Two = ℕ × ℕ

module _ (bank : List Counting) where
  abbrev is_changes : ℕ → Type 0
  is_changes s = s < 128

  abbrev changes_cut : ℕ → List Cut
  changes_cut s = symbol_cut (model_at bank 0) s ∷ []

  abbrev is_red : ℕ → Two → Type 0
  is_red s = IsTwo (mark_at s 0) (mark_at s 1)

  abbrev red_cuts : ℕ → Two → List Cut
  red_cuts s = two_cuts (mark_at s 0) (mark_at s 1) (after_changes bank s) 1

  abbrev red_next : ℕ → Two → List Counting
  red_next s = two_next (mark_at s 0) (mark_at s 1) (after_changes bank s) 1

  abbrev is_low : ℕ → Two → Type 0
  is_low s = IsTwo (mark_at s 2) (mark_at s 3)

  abbrev low_cuts : ℕ → Two → Two → List Cut
  low_cuts s x = two_cuts (mark_at s 2) (mark_at s 3) (red_next s x) 3

  abbrev low_next : ℕ → Two → Two → List Counting
  low_next s x = two_next (mark_at s 2) (mark_at s 3) (red_next s x) 3

  abbrev is_high : ℕ → Two → Type 0
  is_high s = IsTwo (mark_at s 4) (mark_at s 5)

  abbrev high_cuts : ℕ → Two → Two → Two → List Cut
  high_cuts s x y = two_cuts (mark_at s 4) (mark_at s 5) (low_next s x y) 5

  abbrev is_colours : ℕ → Two × Two → Type 0
  is_colours s y = is_low s y.0 × is_high s y.1

  abbrev colours_cuts : ℕ → Two → Two × Two → List Cut
  colours_cuts s x y = low_cuts s x y.0 ++ high_cuts s x y.0 y.1

  abbrev is_rest : ℕ → Two × (Two × Two) → Type 0
  is_rest s x = is_red s x.0 × is_colours s x.1

  abbrev rest_cuts : ℕ → Two × (Two × Two) → List Cut
  rest_cuts s x = red_cuts s x.0 ++ colours_cuts s x.0 x.1

  pub none-changes : (a b : Decoding) → TakesNone is_changes changes_cut a b → TakesNone IsColourChoice (choice_cuts bank) a b
  none-changes a b f = TakesNone-first {X = ℕ} {Y = Two × (Two × Two)} is_changes is_rest changes_cut rest_cuts a b f

  module _ (s : ℕ) (after : List Counting) (a b : Decoding) (f : Takes is_changes changes_cut a b s) (e : after ≡ after_changes bank s) where
    some-rest : (c : Decoding) (x : Two × (Two × Two)) → Takes (is_rest s) (rest_cuts s) b c x → Takes IsColourChoice (choice_cuts bank) a c (s, x)
    some-rest c x g = Takes-then {X = ℕ} {Y = Two × (Two × Two)} is_changes is_rest changes_cut rest_cuts a b c s x f g

    none-rest : (c : Decoding) → TakesNone (is_rest s) (rest_cuts s) b c → TakesNone IsColourChoice (choice_cuts bank) a c
    none-rest c g = TakesNone-second {X = ℕ} {Y = Two × (Two × Two)} is_changes is_rest changes_cut rest_cuts a b c s f g

    pub none-red : (c : Decoding) → TakesNone (is_red s) (two_cuts (mark_at s 0) (mark_at s 1) after 1) b c → TakesNone IsColourChoice (choice_cuts bank) a c
    none-red c g =
        let here = subst (λ (l : List Counting). TakesNone (is_red s) (two_cuts (mark_at s 0) (mark_at s 1) l 1) b c) e g in
        none-rest c (TakesNone-first {X = Two} {Y = Two × Two} (is_red s) (λ z. is_colours s) (red_cuts s) (colours_cuts s) b c here)

    module _ (x : Two) (after_red : List Counting) (c : Decoding) (g : Takes (is_red s) (two_cuts (mark_at s 0) (mark_at s 1) after 1) b c x) (e' : after_red ≡ two_next (mark_at s 0) (mark_at s 1) after 1 x) where
      red-here : Takes (is_red s) (red_cuts s) b c x
      red-here = subst (λ (l : List Counting). Takes (is_red s) (two_cuts (mark_at s 0) (mark_at s 1) l 1) b c x) e g

      bank-red : after_red ≡ red_next s x
      bank-red = subst (λ (l : List Counting). after_red ≡ two_next (mark_at s 0) (mark_at s 1) l 1 x) e e'

      pub none-low : (d : Decoding) → TakesNone (is_low s) (two_cuts (mark_at s 2) (mark_at s 3) after_red 3) c d → TakesNone IsColourChoice (choice_cuts bank) a d
      none-low d h =
          let here = subst (λ (l : List Counting). TakesNone (is_low s) (two_cuts (mark_at s 2) (mark_at s 3) l 3) c d) bank-red h in
          let both = TakesNone-first {X = Two} {Y = Two} (is_low s) (λ z. is_high s) (low_cuts s x) (high_cuts s x) c d here in
          none-rest d (TakesNone-second {X = Two} {Y = Two × Two} (is_red s) (λ z. is_colours s) (red_cuts s) (colours_cuts s) b c d x red-here both)

      module _ (y : Two) (after_low : List Counting) (d : Decoding) (h : Takes (is_low s) (two_cuts (mark_at s 2) (mark_at s 3) after_red 3) c d y) (e'' : after_low ≡ two_next (mark_at s 2) (mark_at s 3) after_red 3 y) where
        low-here : Takes (is_low s) (low_cuts s x) c d y
        low-here = subst (λ (l : List Counting). Takes (is_low s) (two_cuts (mark_at s 2) (mark_at s 3) l 3) c d y) bank-red h

        bank-low : after_low ≡ low_next s x y
        bank-low = subst (λ (l : List Counting). after_low ≡ two_next (mark_at s 2) (mark_at s 3) l 3 y) bank-red e''

        pub none-high : (f : Decoding) → TakesNone (is_high s) (two_cuts (mark_at s 4) (mark_at s 5) after_low 5) d f → TakesNone IsColourChoice (choice_cuts bank) a f
        none-high f k =
            let here = subst (λ (l : List Counting). TakesNone (is_high s) (two_cuts (mark_at s 4) (mark_at s 5) l 5) d f) bank-low k in
            let both = TakesNone-second {X = Two} {Y = Two} (is_low s) (λ z. is_high s) (low_cuts s x) (high_cuts s x) c d f y low-here here in
            none-rest f (TakesNone-second {X = Two} {Y = Two × Two} (is_red s) (λ z. is_colours s) (red_cuts s) (colours_cuts s) b c f x red-here both)

        pub some-high : (f : Decoding) (z : Two) → Takes (is_high s) (two_cuts (mark_at s 4) (mark_at s 5) after_low 5) d f z → Takes IsColourChoice (choice_cuts bank) a f (s, (x, (y, z)))
        some-high f z k =
            let here = subst (λ (l : List Counting). Takes (is_high s) (two_cuts (mark_at s 4) (mark_at s 5) l 5) d f z) bank-low k in
            let both = Takes-then {X = Two} {Y = Two} (is_low s) (λ w. is_high s) (low_cuts s x) (high_cuts s x) c d f y z low-here here in
            some-rest f (x, (y, z)) (Takes-then {X = Two} {Y = Two × Two} (is_red s) (λ w. is_colours s) (red_cuts s) (colours_cuts s) b c f x (y, z) red-here both)

        pub bank-high : (after_high : List Counting) (z : Two) → after_high ≡ two_next (mark_at s 4) (mark_at s 5) after_low 5 z → after_high ≡ two_next (mark_at s 4) (mark_at s 5) (low_next s x y) 5 z
        bank-high after_high z e''' = subst (λ (l : List Counting). after_high ≡ two_next (mark_at s 4) (mark_at s 5) l 5 z) bank-low e'''
