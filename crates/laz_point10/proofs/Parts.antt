-- The 20 bytes of a point: a point that was put there is found again, and two parts of one point are one.
use Rattle.std.proofs.Common.{◌≡◌, ℕ, zero, suc, ℤ, ◌+◌, ◌*◌, ◌^◌, ◌<◌, List, [], ◌∷◌, length, get_or, refl, sym, ap, subst, ◌∙◌, arith, ⊎_elim}
use Rattle.std.specs.Prelude.{FitsSigned}
use Rattle.std.specs.Int.{w32, cast_signed, cast_unsigned, bytes_low_first}
use Rattle.std.proofs.lemmas.Int.{to_z-of_z, of_z-to_z}
use Rattle.std.proofs.lemmas.Bool.{cases_eq}
use Rattle.std.proofs.lemmas.List.{append-nil}
use Rattle.byteorder.specs.Endian.{little_from}
use Rattle.byteorder.specs.Numbers.{little_number-reads_back, little_from-lt}
use Rattle.laz_integer.proofs.Public.{word_of, cons_same}
use Rattle.las_header.specs.Numbers.{number_at}
use Rattle.laz_point10.specs.declared.point.Point.{Point}
use Rattle.laz_point10.specs.Points.{point_at}
use Rattle.laz_point10.specs.Laws.{ArePart, PartsAreOfPoints}

same-fields : (x x2 y y2 z z2 : ℤ) (a a2 b b2 c c2 d d2 e e2 f f2 : ℕ) → x ≡ x2 → y ≡ y2 → z ≡ z2 → a ≡ a2 → b ≡ b2 → c ≡ c2 → d ≡ d2 → e ≡ e2 → f ≡ f2
    → (let q : Point = record { x = x; y = y; z = z; intensity = a; flags = b; classification = c; scan_angle = d; user_data = e; point_source = f } in q)
    ≡ record { x = x2; y = y2; z = z2; intensity = a2; flags = b2; classification = c2; scan_angle = d2; user_data = e2; point_source = f2 }
same-fields x x2 y y2 z z2 a a2 b b2 c c2 d d2 e e2 f f2 h1 h2 h3 h4 h5 h6 h7 h8 h9 = cc

pub same-point : (x y z : ℤ) (intensity flags classification angle user source : ℕ) (p : Point) → x ≡ p.x → y ≡ p.y → z ≡ p.z → intensity ≡ p.intensity → flags ≡ p.flags → classification ≡ p.classification → angle ≡ p.scan_angle → user ≡ p.user_data → source ≡ p.point_source
    → (let q : Point = record { x = x; y = y; z = z; intensity = intensity; flags = flags; classification = classification; scan_angle = angle; user_data = user; point_source = source } in q) ≡ p
same-point x y z intensity flags classification angle user source p a b c d e f g h i =
    same-fields x p.x y p.y z p.z intensity p.intensity flags p.flags classification p.classification angle p.scan_angle user p.user_data source p.point_source a b c d e f g h i

-- ---- numbers of a record
from-bytes : (n m : ℕ) (r : List ℕ) → m < 256 ^ n → r ≡ bytes_low_first 0 n m → little_from 0 n r ≡ m
from-bytes n m r fits is = ap (little_from 0 n) (is ∙ sym (append-nil (bytes_low_first 0 n m))) ∙ little_number-reads_back n m [] fits

pub word-back : (z : ℤ) (r : List ℕ) → FitsSigned w32 z → r ≡ bytes_low_first 0 4 (cast_unsigned w32 (cast_signed w32 (cast_unsigned w32 z))) → cast_signed w32 (little_from 0 4 r) ≡ z
word-back z r fits is =
    let small = word_of z fits in
    let flat = is ∙ ap (λ y. bytes_low_first 0 4 (cast_unsigned w32 y)) (to_z-of_z w32 z fits) in
    ap (cast_signed w32) (from-bytes 4 (cast_unsigned w32 z) r (omega (arith, small)) flat) ∙ to_z-of_z w32 z fits

pub half-back : (n : ℕ) (r : List ℕ) → n < 65536 → r ≡ bytes_low_first 0 2 n → little_from 0 2 r ≡ n
half-back n r small is = from-bytes 2 n r (omega arith) is

-- the bytes of a point, from those of its numbers
abbrev pub joined : Point → (x y z i s : List ℕ) → List ℕ
joined p x y z i s =
    get_or x 0 0 ∷ get_or x 1 0 ∷ get_or x 2 0 ∷ get_or x 3 0 ∷ get_or y 0 0 ∷ get_or y 1 0 ∷ get_or y 2 0 ∷ get_or y 3 0 ∷ get_or z 0 0 ∷ get_or z 1 0 ∷ get_or z 2 0 ∷ get_or z 3 0
    ∷ get_or i 0 0 ∷ get_or i 1 0 ∷ p.flags ∷ p.classification ∷ p.scan_angle ∷ p.user_data ∷ get_or s 0 0 ∷ get_or s 1 0 ∷ []

pub point-joined : (p : Point) (x y z i s : List ℕ) → cast_signed w32 (little_from 0 4 x) ≡ p.x → cast_signed w32 (little_from 0 4 y) ≡ p.y → cast_signed w32 (little_from 0 4 z) ≡ p.z
    → little_from 0 2 i ≡ p.intensity → little_from 0 2 s ≡ p.point_source → point_at (joined p x y z i s) ≡ p
unfolding number_at
point-joined p x y z i s a b c d e = same-point _ _ _ _ _ _ _ _ _ p a b c d refl refl refl refl e

-- ---- two parts with one point are one
abbrev UpTo : (ℕ → Type 0) → ℕ → Type 0
UpTo P zero = Unit {0}
UpTo P (suc n) = UpTo P n × P n

up-to : (P : ℕ → Type 0) (n k : ℕ) → UpTo P n → k < n → P k
up-to P zero k h within = absurd (omega arith)
up-to P (suc n) k h within =
    ⊎_elim
    (λ (last : k ≡ n). subst P (sym last) h.1)
    (λ (ne : k ≡ n → ⊥). up-to P n k h.0 (omega (arith, ne)))
    (cases_eq k n)

ext : (xs ys : List ℕ) → length xs ≡ length ys → ((k : ℕ) → k < length xs → get_or xs k 0 ≡ get_or ys k 0) → xs ≡ ys
ext [] [] n h = refl
ext [] (y ∷ ys) n h = absurd (omega arith)
ext (x ∷ xs) [] n h = absurd (omega arith)
ext (x ∷ xs) (y ∷ ys) n h = cons_same x y xs ys (h 0 (omega arith)) (ext xs ys (omega arith) (λ k within. h (suc k) (omega arith)))

four-bytes : (a b c d e f g h : ℕ) → a < 256 → b < 256 → c < 256 → e < 256 → f < 256 → g < 256
    → a + 256 * (b + 256 * (c + 256 * (d + 256 * 0))) ≡ e + 256 * (f + 256 * (g + 256 * (h + 256 * 0))) → (a ≡ e) × (b ≡ f) × (c ≡ g) × (d ≡ h)
four-bytes a b c d e f g h i j k l m n same = (omega arith, omega arith, omega arith, omega arith)

two-bytes : (a b e f : ℕ) → a < 256 → e < 256 → a + 256 * (b + 256 * 0) ≡ e + 256 * (f + 256 * 0) → (a ≡ e) × (b ≡ f)
two-bytes a b e f i j same = (omega arith, omega arith)

words-same : (m n : ℕ) → m < 4294967296 → n < 4294967296 → cast_signed w32 m ≡ cast_signed w32 n → m ≡ n
words-same m n f g e = sym (of_z-to_z w32 m (omega (arith, f))) ∙ (ap (cast_unsigned w32) e ∙ of_z-to_z w32 n (omega (arith, g)))

word-at : (at : ℕ) (a b : List ℕ) → ArePart a → ArePart b → cast_signed w32 (little_from at 4 a) ≡ cast_signed w32 (little_from at 4 b) → little_from at 4 a ≡ little_from at 4 b
word-at at a b f g e = words-same _ _ (omega (arith, little_from-lt at 4 a f.bytes)) (omega (arith, little_from-lt at 4 b g.bytes)) e

pub parts-of-points : PartsAreOfPoints
unfolding number_at
parts-of-points a b f g e =
    let s = f.bytes in
    let t = g.bytes in
    let x = four-bytes _ _ _ _ _ _ _ _ (s 0) (s 1) (s 2) (t 0) (t 1) (t 2) (word-at 0 a b f g (ap (λ (p : Point). p.x) e)) in
    let y = four-bytes _ _ _ _ _ _ _ _ (s 4) (s 5) (s 6) (t 4) (t 5) (t 6) (word-at 4 a b f g (ap (λ (p : Point). p.y) e)) in
    let z = four-bytes _ _ _ _ _ _ _ _ (s 8) (s 9) (s 10) (t 8) (t 9) (t 10) (word-at 8 a b f g (ap (λ (p : Point). p.z) e)) in
    let i = two-bytes _ _ _ _ (s 12) (t 12) (ap (λ (p : Point). p.intensity) e) in
    let q = two-bytes _ _ _ _ (s 18) (t 18) (ap (λ (p : Point). p.point_source) e) in
    let all : UpTo (λ k. get_or a k 0 ≡ get_or b k 0) 20 = (
      (
        (
          (
            (
              (
                ((((((((((((((tt, x.0), x.1), x.2), x.3), y.0), y.1), y.2), y.3), z.0), z.1), z.2), z.3), i.0), i.1),
                ap (λ (p : Point). p.flags) e,
              ),
              ap (λ (p : Point). p.classification) e,
            ),
            ap (λ (p : Point). p.scan_angle) e,
          ),
          ap (λ (p : Point). p.user_data) e,
        ),
        q.0,
      ),
      q.1,
    ) in
    ext a b (f.length ∙ sym g.length) (λ k within. up-to (λ j. get_or a j 0 ≡ get_or b j 0) 20 k all (omega (arith, within, f.length)))
