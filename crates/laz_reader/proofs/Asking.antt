-- How many bytes a batch asks for.
use Rattle.std.proofs.Common.{◌≡◌, if◌then◌else◌, ℕ, zero, suc, ◌+◌, ◌<◌, ◌≤◌, Bool, true, false, cond, List, [], ◌∷◌, length, map, take, drop, Option, Some, None, get_or, refl, sym, ◌∙◌, ap, subst, arith}
use Rattle.std.specs.Prelude.{nat_lt, sum, IsSome}
use Rattle.std.proofs.lemmas.Bool.{ltb-false}
use Rattle.std.proofs.lemmas.List.{take-take}
use Rattle.std.proofs.lemmas.List.Sums.{sum_by-take-drop}
use Rattle.laz_reader.specs.declared.seeking.Ends.{Ends}
use Rattle.laz_chunk.specs.Layouts.{Layout}
use Rattle.laz_reader.specs.Asking.{asked_for_piece, asked_for_pieces, bytes_left, size_asked, sizes_asked}
use Rattle.laz_reader.specs.Unpacking.{may_hold}
use Rattle.laz_forms.specs.Packing.{record_layout}
use Rattle.laz_forms.specs.Pieces.{Piece}
use Rattle.laz_reader.specs.Keeping.{pieces_kept}
use Rattle.laz_reader.specs.Reading.{ReaderSeen}
use Rattle.laz_models.proofs.Public.{sum-cons}

pub sum_take : (n m : ℕ) (xs : List ℕ) → n ≤ m → sum (take n xs) ≤ sum (take m xs)
sum_take n m xs le = omega (arith, sum_by-take-drop (λ x. x) (take m xs) n, ap (λ (l : List ℕ). sum l) (take-take n m xs le))

pub sum_front : (n : ℕ) (xs : List ℕ) → sum (take n xs) ≤ sum xs
sum_front n xs = omega (arith, sum_by-take-drop (λ x. x) xs n)

-- the bytes of the pieces that are left
abbrev pub sizes_in : List Piece → List ℕ
sizes_in pieces = map (λ piece. piece.size) pieces

-- no more is asked for than a chunk has
few_if : (b : Bool) (n : ℕ) → cond b n 0 ≤ n
few_if true n = omega arith
few_if false n = omega arith

few_piece : (chunk : Option ℕ) (l : Layout) (p : Piece) → asked_for_piece chunk l p ≤ p.size
few_piece None l p = omega arith
few_piece (Some chunk) l p = few_if (may_hold l p.count p.size) p.size

pub asked_few : (chunk : Option ℕ) (l : Layout) (ps : List Piece) → asked_for_pieces chunk l ps ≤ sum (sizes_in ps)
asked_few chunk l [] = omega arith
asked_few chunk l (p ∷ ps) = omega (arith, few_piece chunk l p, asked_few chunk l ps, sum-cons p.size (sizes_in ps), sum-cons (asked_for_piece chunk l p) (map (asked_for_piece chunk l) ps))

asked_plain : (chunk : Option ℕ) (l : Layout) (ps : List Piece) → chunk ≡ None → asked_for_pieces chunk l ps ≡ sum (sizes_in ps)
asked_plain None l ps is = refl
asked_plain (Some chunk) l ps is = absurd (cc)

-- the chunks of a batch may all hold their records
size_may : (b : Bool) (n : ℕ) → b ≡ true → cond b n 0 ≡ n
size_may true n is = refl
size_may false n is = absurd (cc)

pub may_asked : (l : Layout) (n : ℕ) (cs ss : List ℕ) → n ≤ length cs → length cs ≡ length ss → ((k : ℕ) → k < n → may_hold l (get_or cs k 0) (get_or ss k 0) ≡ true) → sum (take n (sizes_asked l cs ss)) ≡ sum (take n ss)
may_asked l zero cs ss few same may = refl
may_asked l (suc n) [] ss few same may = absurd (omega arith)
may_asked l (suc n) (c ∷ cs) [] few same may = absurd (omega arith)
may_asked l (suc n) (c ∷ cs) (s ∷ ss) few same may =
    let first : size_asked l c s ≡ s = size_may (may_hold l c s) s (may 0 (omega arith)) in
    let rest = may_asked l n cs ss (omega (arith, few)) (omega (arith, same)) (λ k lt. may (suc k) (omega (arith, lt))) in
    omega (arith, first, rest, sum-cons (size_asked l c s) (take n (sizes_asked l cs ss)), sum-cons s (take n ss))

kept_asked : (chunk : Option ℕ) (l : Layout) (ends : Ends) (number at : ℕ) (cs ss : List ℕ) → IsSome chunk → length cs ≡ length ss → map (asked_for_piece chunk l) (pieces_kept ends number at cs ss) ≡ sizes_asked l cs ss
kept_asked None l ends number at cs ss some same = absurd (cc)
kept_asked (Some chunk) l ends number at [] [] some same = refl
kept_asked (Some chunk) l ends number at [] (s ∷ ss) some same = absurd (omega arith)
kept_asked (Some chunk) l ends number at (n ∷ cs) [] some same = absurd (omega arith)
kept_asked (Some chunk) l ends number at (n ∷ cs) (s ∷ ss) some same = ap (λ (t : List ℕ). size_asked l n s ∷ t) (kept_asked (Some chunk) l ends (number + 1) (at + s) cs ss some (omega arith))

map_drop : (f : Piece → ℕ) (n : ℕ) (ps : List Piece) → map f (drop n ps) ≡ drop n (map f ps)
map_drop f zero ps = refl
map_drop f (suc n) [] = refl
map_drop f (suc n) (p ∷ ps) = map_drop f n ps

-- how many bytes a reader asks for pieces, if the first of them is bad, or not
abbrev pub asked_for : ReaderSeen → (bad : Bool) → List Piece → ℕ
asked_for reader bad pieces = if bad then 0 else asked_for_pieces reader.chunk (record_layout reader.head.bytes) pieces

-- a reader that is seen so
pub asked_since : (one other : ReaderSeen) (bad : Bool) (pieces : List Piece) (now most : ℕ) → one ≡ other → now + asked_for other bad pieces ≤ most → now + asked_for one bad pieces ≤ most
asked_since one other bad pieces now most is asked = subst (λ (s : ReaderSeen). now + asked_for s bad pieces ≤ most) (sym is) asked

left_if : (reader : ReaderSeen) (b bad : Bool) (pieces : List Piece) → bad ≡ b → asked_for reader bad pieces ≡ cond b 0 (asked_for_pieces reader.chunk (record_layout reader.head.bytes) pieces)
left_if reader b bad pieces is = ap (λ (t : Bool). cond t 0 (asked_for_pieces reader.chunk (record_layout reader.head.bytes) pieces)) is

pub left_all : (reader : ReaderSeen) → reader.bad ≡ false → bytes_left reader ≡ asked_for_pieces reader.chunk (record_layout reader.head.bytes) reader.left
left_all reader is = left_if reader false reader.bad reader.left is

-- a batch of chunks, of which n hold their records
module _ (reader : ReaderSeen) (ends : Ends) (number at : ℕ) (cs ss : List ℕ) (n most : ℕ) (some : IsSome reader.chunk) (same : length cs ≡ length ss) (left : reader.left ≡ pieces_kept ends number at cs ss) (fine : reader.bad ≡ false) where
  abbrev l : Layout
  l = record_layout reader.head.bytes

  abbrev asks : List ℕ
  asks = sizes_asked l cs ss

  are : map (asked_for_piece reader.chunk l) reader.left ≡ asks
  are = ap (λ (ps : List Piece). map (asked_for_piece reader.chunk l) ps) left ∙ kept_asked reader.chunk l ends number at cs ss some same

  all : bytes_left reader ≡ sum asks
  all = left_all reader fine ∙ ap sum are

  pub asked_all : (old now : ℕ) → now ≤ old + sum (take most asks) → now ≤ old + bytes_left reader
  asked_all old now asked = omega (arith, asked, all, sum_front most asks)

  pub asked_batch : (pieces : List Piece) (old now : ℕ) → now ≤ old + sum (take most asks) → pieces ≡ drop n reader.left → n ≤ most → now + asked_for reader (nat_lt n most) pieces ≤ old + bytes_left reader
  asked_batch pieces old now asked moved within = by (nat_lt n most) refl
    where
      by : (b : Bool) → nat_lt n most ≡ b → now + asked_for reader (nat_lt n most) pieces ≤ old + bytes_left reader
      by true is = omega (arith, asked, all, sum_front most asks, left_if reader true (nat_lt n most) pieces is)
      by false is =
          let rest : asked_for_pieces reader.chunk l pieces ≡ sum (drop n asks) =
          ap (λ (ps : List Piece). asked_for_pieces reader.chunk l ps) moved ∙ ap sum (map_drop (asked_for_piece reader.chunk l) n reader.left) ∙ ap (λ (t : List ℕ). sum (drop n t)) are in
          let last : n ≡ most = omega (arith, within, ltb-false n most is) in
          omega (arith, asked, all, rest, left_if reader false (nat_lt n most) pieces is, sum_by-take-drop (λ x. x) asks n, ap (λ (k : ℕ). sum (take k asks)) last)

-- a block of a plain file
pub asked_block : (reader : ReaderSeen) (bad : Bool) (pieces : List Piece) (p : Piece) (rest : List Piece) (taken : ℕ) → reader.chunk ≡ None → reader.left ≡ p ∷ rest → p.size ≡ taken → pieces ≡ rest → reader.bad ≡ false → bad ≡ false → (old now : ℕ) → now ≤ old + taken → now + asked_for reader bad pieces ≤ old + bytes_left reader
asked_block reader bad pieces p rest taken plain left size moved fine still old now asked =
    let l = record_layout reader.head.bytes in
    omega (arith, asked, left_all reader fine, left_if reader false bad pieces still, asked_plain reader.chunk l reader.left plain, asked_plain reader.chunk l pieces plain, ap (λ (ps : List Piece). sum (sizes_in ps)) left, ap (λ (ps : List Piece). sum (sizes_in ps)) moved, sum-cons p.size (sizes_in rest), size)

pub asked_part : (reader : ReaderSeen) (p : Piece) (rest : List Piece) (taken : ℕ) → reader.chunk ≡ None → reader.left ≡ p ∷ rest → p.size ≡ taken → reader.bad ≡ false → (old now : ℕ) → now ≤ old + taken → now ≤ old + bytes_left reader
asked_part reader p rest taken plain left size fine old now asked =
    omega (arith, asked, left_all reader fine, asked_plain reader.chunk (record_layout reader.head.bytes) reader.left plain, ap (λ (ps : List Piece). sum (sizes_in ps)) left, sum-cons p.size (sizes_in rest), size)
