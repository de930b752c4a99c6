-- What a reader has read of its pieces.
use Rattle.std.proofs.Common.{◌≡◌, inl, inr, ℕ, ◌+◌, ◌*◌, ◌-◌, ◌%◌, ◌<◌, ◌≤◌, List, [], ◌∷◌, ◌++◌, length, take, drop, slice_get, Option, Some, None, refl, sym, ◌∙◌, ap, subst, length-append, arith}
use Rattle.std.specs.Prelude.{All, IsSome}
use Rattle.std.specs.List.{concat}
use Rattle.std.proofs.lemmas.List.{drop-drop, length-drop, take-append-drop}
use Rattle.std.proofs.lemmas.List.Elements.{All-cons, All-nil}
use Rattle.std.proofs.lemmas.List.Sums.{sum-map, sum_by-cons}
use Rattle.std.proofs.Math.Nat.{mul-mod_right}
use Rattle.std.proofs.Math.Seq.{take-add}
use Rattle.std.proofs.lemmas.Bool.{cases_lt}
use Rattle.las_header.specs.declared.refusal.Refusal.{Refusal}
use Rattle.las_header.specs.declared.refusal.Refusal.TheVariants.{BadChunk}
use Rattle.las_header.specs.Fields.{record_length_of}
use Rattle.las_header.specs.Heads.{HeadView}
use Rattle.las_outside.specs.Files.{FileMap, WhereKnown}
use Rattle.laz_chunk.specs.Layouts.{Format}
use Rattle.laz_workers.specs.Rooms.{HandSeen}
use Rattle.laz_forms.specs.Pieces.{Piece}
use Rattle.laz_forms.specs.Records.{AreRead, HoldBlocks, HoldOnly, IsBadPiece}
use Rattle.laz_reader.specs.Reading.{AreWholeBlocks, IsCrewOf, ReaderSeen, StandsFor, records_in}
use Rattle.laz_reader.specs.Turns.{EndsAfter, HasRead, HoldFirst}
use Rattle.laz_reader.proofs.FirstPieces.{hold_split, inside}
use Rattle.laz_reader.proofs.Joins.{hold-append, slice_get-first}
use Rattle.laz_forms.proofs.Public.{concat-append, known_both, known_then, not_bad_before}

-- ---- pieces and their blocks

pub hold_only_both : (file : List ℕ) (ps qs : List Piece) (xs ys : List (List ℕ)) → HoldOnly file ps xs → HoldOnly file qs ys → HoldOnly file (ps ++ qs) (xs ++ ys)
hold_only_both file ps qs xs ys one two = record {
  hold = hold-append file ps qs xs ys one.hold two.hold;
  only = λ others h.
      let s = hold_split file ps qs others h in
      sym (take-append-drop (length ps) others)
      ∙ ap (λ (t : List (List ℕ)). t ++ drop (length ps) others) (one.only (take (length ps) others) s.0)
      ∙ ap (λ (t : List (List ℕ)). xs ++ t) (two.only (drop (length ps) others) s.1);
}

pub hold_only_none : (file : List ℕ) → HoldOnly file [] []
hold_only_none file = record { hold = tt; only = λ others h. none others h }
  where
    none : (others : List (List ℕ)) → HoldBlocks file [] others → others ≡ []
    none [] h = refl
    none (b ∷ blocks) h = absurd h

pub whole_both : (size : ℕ) (ps qs : List Piece) (xs ys : List (List ℕ)) → AreWholeBlocks size ps xs → AreWholeBlocks size qs ys → AreWholeBlocks size (ps ++ qs) (xs ++ ys)
whole_both size [] qs [] ys one two = two
whole_both size [] qs (x ∷ xs) ys one two = absurd one
whole_both size (p ∷ ps) qs [] ys one two = absurd one
whole_both size (p ∷ ps) qs (x ∷ xs) ys one two = (one.0, whole_both size ps qs xs ys one.1 two)

pub records-cons : (p : Piece) (ps : List Piece) → records_in (p ∷ ps) ≡ p.taken + records_in ps
records-cons p ps =
    let f = λ (q : Piece). q.taken in
    sum-map f (p ∷ ps) ∙ sum_by-cons f p ps ∙ ap (λ (n : ℕ). p.taken + n) (sym (sum-map f ps))

pub records-append : (ps qs : List Piece) → records_in (ps ++ qs) ≡ records_in ps + records_in qs
records-append [] qs = omega arith
records-append (p ∷ ps) qs = omega (arith, records-cons p (ps ++ qs), records-cons p ps, records-append ps qs)

pub length_whole : (size : ℕ) (ps : List Piece) (xs : List (List ℕ)) → AreWholeBlocks size ps xs → length (concat xs) ≡ size * records_in ps
length_whole size [] [] w = omega arith
length_whole size [] (x ∷ xs) w = absurd w
length_whole size (p ∷ ps) [] w = absurd w
length_whole size (p ∷ ps) (x ∷ xs) w =
    omega (arith, length-append x (concat xs), w.0, length_whole size ps xs w.1, ap (λ (n : ℕ). size * n) (records-cons p ps))

pub even_whole : (size : ℕ) (ps : List Piece) (xs : List (List ℕ)) → AreWholeBlocks size ps xs → All (λ block. length block % size ≡ 0) xs
even_whole size [] [] w = All-nil (λ (block : List ℕ). length block % size ≡ 0)
even_whole size [] (x ∷ xs) w = absurd w
even_whole size (p ∷ ps) [] w = absurd w
even_whole size (p ∷ ps) (x ∷ xs) w =
    All-cons (λ (block : List ℕ). length block % size ≡ 0) x xs (ap (λ (n : ℕ). n % size) w.0 ∙ mul-mod_right size p.taken) (even_whole size ps xs w.1)

-- records that are read first, and all that are read of the file: these begin with those
pub read_begins : (file : List ℕ) (pieces : List Piece) (n : ℕ) (blocks others : List (List ℕ)) (bad : Option ℕ) → n ≤ length pieces → HoldOnly file (take n pieces) blocks → AreRead file pieces others bad
    → (more : List ℕ) × (concat others ≡ concat blocks ++ more) × (n ≡ length pieces → more ≡ [])
read_begins file pieces n blocks others None within first read =
    let whole = subst (λ (ps : List Piece). HoldBlocks file ps others) (sym (take-append-drop n pieces)) read in
    let s = hold_split file (take n pieces) (drop n pieces) others whole in
    let k = length (take n pieces) in
    let same : take k others ≡ blocks = first.only (take k others) s.0 in (
      concat (drop k others),
      ap concat (sym (take-append-drop k others)) ∙ concat-append (take k others) (drop k others) ∙ ap (λ (t : List (List ℕ)). concat t ++ concat (drop k others)) same,
      λ all. none (drop n pieces) (drop k others) (omega (arith, length-drop n pieces, all)) s.1,
    )
  where
    none : (qs : List Piece) (rest : List (List ℕ)) → length qs ≡ 0 → HoldBlocks file qs rest → concat rest ≡ []
    none [] [] e h = refl
    none [] (b ∷ rest) e h = absurd h
    none (q ∷ qs) rest e h = absurd (omega (arith, e))
read_begins file pieces n blocks others (Some i) within first read = elim (cases_lt i n) [
  | inl less ↦ absurd (not_bad_before file pieces blocks i n less first.hold read.1)
  | inr more ↦
      let split : take i pieces ≡ take n pieces ++ take (i - n) (drop n pieces) =
      ap (λ (k : ℕ). take k pieces) (let e : i ≡ n + (i - n) = omega (arith, more) in e) ∙ take-add n (i - n) pieces in
      let whole = subst (λ (ps : List Piece). HoldBlocks file ps others) split read.0 in
      let s = hold_split file (take n pieces) (take (i - n) (drop n pieces)) others whole in
      let k = length (take n pieces) in
      let same : take k others ≡ blocks = first.only (take k others) s.0 in
      let within_all : i < length pieces = inside pieces i read.1.0 read.1.1 in (
        concat (drop k others),
        ap concat (sym (take-append-drop k others)) ∙ concat-append (take k others) (drop k others) ∙ ap (λ (t : List (List ℕ)). concat t ++ concat (drop k others)) same,
        λ all. absurd (omega (arith, all, within_all, more)),
      )
]

-- A reader that lends another block is as before.
module _ (old new : ReaderSeen) (is : new ≡ record old { lent = new.lent }) where
  pub crew_lent : (crew : List (HandSeen Format)) → IsCrewOf old crew → IsCrewOf new crew
  crew_lent crew s =
      let other : ReaderSeen = record old { lent = new.lent } in
      let same : IsCrewOf other crew = record { hands = s.hands; buffers = s.buffers; spaces = s.spaces; rooms = s.rooms } in
      subst (λ (r : ReaderSeen). IsCrewOf r crew) (sym is) same

  pub stands_lent : (file : List ℕ) → StandsFor old file → StandsFor new file
  stands_lent file s =
      let other : ReaderSeen = record old { lent = new.lent } in
      let same : StandsFor other file = record {
        accepted = s.accepted;
        head = s.head;
        chunk = s.chunk;
        pieces = s.pieces;
        are = s.are;
        chunks = s.chunks;
        all_lie = s.all_lie;
        begun = s.begun;
        first = s.first;
        left = s.left;
        lie = s.lie;
        bad = s.bad;
      } in
      subst (λ (r : ReaderSeen). StandsFor r file) (sym is) same

-- ---- what was read so far

pub hold_none : (held : Option FileMap) (reader : ReaderSeen) (P : List ℕ → Type 0) → WhereKnown held reader.name P → HoldFirst held reader 0 []
hold_none held reader P known = record {
  within = omega arith;
  whole = tt;
  hold = known_then held reader.name P (λ file. HoldOnly file [] []) (λ file p. hold_only_none file) known;
}

pub read_none : (held : Option FileMap) (reader : ReaderSeen) (P : List ℕ → Type 0) → WhereKnown held reader.name P → HasRead held reader reader 0 []
read_none held reader P known = record {
  hold = hold_none held reader P known;
  named = refl;
  head = refl;
  chunk = refl;
  left = refl;
  next = omega arith;
}

-- what a batch reads
pub record ReadsMore (held : Option FileMap) (old new : ReaderSeen) (n : ℕ) (blocks : List (List ℕ)) : Type 0 where
  pub within : n ≤ length old.left
  pub whole : AreWholeBlocks (record_length_of old.head.bytes) (take n old.left) blocks
  pub hold : WhereKnown held old.name (λ file. HoldOnly file (take n old.left) blocks)
  pub moved : new ≡ record old { next = old.next + n; left = drop n old.left; bad = new.bad; cuts = new.cuts; lent = new.lent }

pub read_more : (held : Option FileMap) (first old new : ReaderSeen) (n m : ℕ) (xs ys : List (List ℕ)) → HasRead held first old n xs → ReadsMore held old new m ys → HasRead held first new (n + m) (xs ++ ys)
read_more held first old new n m xs ys r s =
    let both : take n first.left ++ take m (drop n first.left) ≡ take (n + m) first.left = sym (take-add n m first.left) in
    let size = record_length_of first.head.bytes in
    let whole : AreWholeBlocks size (take m (drop n first.left)) ys =
    subst (λ (h : HeadView). AreWholeBlocks (record_length_of h.bytes) (take m (drop n first.left)) ys) r.head (subst (λ (ps : List Piece). AreWholeBlocks (record_length_of old.head.bytes) (take m ps) ys) r.left s.whole) in
    let hold : WhereKnown held first.name (λ file. HoldOnly file (take m (drop n first.left)) ys) =
    subst (λ (name : List ℕ). WhereKnown held name (λ file. HoldOnly file (take m (drop n first.left)) ys)) r.named (subst (λ (ps : List Piece). WhereKnown held old.name (λ file. HoldOnly file (take m ps) ys)) r.left s.hold) in
    record {
      hold = record {
        within = omega (arith, r.hold.within, s.within, ap (λ (ps : List Piece). length ps) r.left, length-drop n first.left);
        whole = subst (λ (ps : List Piece). AreWholeBlocks size ps (xs ++ ys)) both (whole_both size (take n first.left) (take m (drop n first.left)) xs ys r.hold.whole whole);
        hold = known_both held first.name (λ file. HoldOnly file (take n first.left) xs) (λ file. HoldOnly file (take m (drop n first.left)) ys) (λ file. HoldOnly file (take (n + m) first.left) (xs ++ ys))
            (λ file a b. subst (λ (ps : List Piece). HoldOnly file ps (xs ++ ys)) both (hold_only_both file (take n first.left) (take m (drop n first.left)) xs ys a b)) r.hold.hold hold;
      };
      named = ap (λ (x : ReaderSeen). x.name) s.moved ∙ r.named;
      head = ap (λ (x : ReaderSeen). x.head) s.moved ∙ r.head;
      chunk = ap (λ (x : ReaderSeen). x.chunk) s.moved ∙ r.chunk;
      left = ap (λ (x : ReaderSeen). x.left) s.moved ∙ ap (λ (ps : List Piece). drop m ps) r.left ∙ drop-drop m n first.left;
      next = ap (λ (x : ReaderSeen). x.next) s.moved ∙ (let e : old.next + m ≡ first.next + (n + m) = omega (arith, r.next) in e);
    }

-- the records end after the pieces that were read
pub end_all : (held : Option FileMap) (first reader : ReaderSeen) (n : ℕ) (blocks : List (List ℕ)) → HasRead held first reader n blocks → reader.left ≡ [] → EndsAfter held first n None
end_all held first reader n blocks r none = omega (arith, ap (λ (ps : List Piece). length ps) (sym r.left ∙ none), length-drop n first.left, r.hold.within)

pub end_bad : (held : Option FileMap) (first reader : ReaderSeen) (n : ℕ) (blocks : List (List ℕ)) (cause : Refusal) → HasRead held first reader n blocks → cause ≡ BadChunk reader.next → IsSome reader.chunk
    → WhereKnown held reader.name (λ file. IsBadPiece file reader.left 0) → EndsAfter held first n (Some cause)
end_bad held first reader n blocks cause r is packed bad = (
  is ∙ ap BadChunk r.next,
  subst (λ (o : Option ℕ). IsSome o) r.chunk packed,
  subst (λ (name : List ℕ). WhereKnown held name (λ file. IsBadPiece file first.left n)) r.named
      (known_then held reader.name (λ file. IsBadPiece file reader.left 0) (λ file. IsBadPiece file first.left n)
      (λ file b. (b.0, sym (ap (λ (ps : List Piece). slice_get ps 0) r.left ∙ slice_get-first n first.left) ∙ b.1, b.2)) bad),
)
