-- The blocks of a reader, one after another.
use Rattle.std.proofs.Common.{◌≡◌, ℕ, zero, suc, ◌+◌, ◌*◌, ◌%◌, ◌<◌, ◌≤◌, List, [], ◌∷◌, ◌++◌, length, take, drop, get_or, min, Option, Some, None, IsSomeAnd, false, refl, sym, ◌∙◌, ap, subst, length-append, zero-add, arith}
use Rattle.std.specs.Prelude.{IsSome}
use Rattle.std.specs.List.{concat}
use Rattle.std.proofs.lemmas.List.{append-nil, length-drop, length-take-le, take-append-drop, take_all, take_more}
use Rattle.std.proofs.Math.Nat.{mul-mod_right}
use Rattle.std.proofs.Math.Seq.{drop-append_seam, take-append-add, take-append_seam}
use Rattle.las_header.specs.declared.refusal.Refusal.{Refusal}
use Rattle.las_header.specs.declared.refusal.Refusal.TheVariants.{BadChunk}
use Rattle.las_header.specs.Fields.{record_length_of}
use Rattle.las_outside.specs.Files.{FileMap, WhereKnown}
use Rattle.laz_chunk.specs.Layouts.{Format}
use Rattle.laz_workers.specs.Rooms.{HandSeen, rooms_of}
use Rattle.laz_forms.specs.Pieces.{Piece}
use Rattle.laz_forms.specs.Records.{HoldBlocks, HoldOnly, IsBadPiece}
use Rattle.laz_reader.specs.declared.turn.Turn.{Turn}
use Rattle.laz_reader.specs.Reading.{AreWholeBlocks, IsCrewOf, LendsIf, Lends, ReaderSeen, StandsFor, batch_size, records_in}
use Rattle.laz_reader.specs.Turns.{ComesTo, EndsAfter, HasComeTo, HasRead, HoldFirst, LendsAt, MayCome, file_at}
use Rattle.laz_forms.proofs.Public.{concat-append, known_then}
use Rattle.laz_reader.proofs.FirstPieces.{hold_length, hold_split}
use Rattle.laz_reader.proofs.Joins.{hold-append}
use Rattle.laz_reader.proofs.PiecesRead.{ReadsMore, crew_lent, end_all, end_bad, even_whole, length_whole, read_more, read_none, records-append, stands_lent}

-- ---- what is known of one file

pub known_same : (old new : Option FileMap) (name : List ℕ) (P : List ℕ → Type 0) → file_at new name ≡ file_at old name → WhereKnown old name P → WhereKnown new name P
known_same old new name P same k = to new (subst Known (sym same) (from old k))
  where
    Known : Option (Option (List ℕ)) → Type 0
    Known None = Unit {0}
    Known (Some o) = IsSomeAnd o P

    from : (held : Option FileMap) → WhereKnown held name P → Known (file_at held name)
    from None k = tt
    from (Some files) k = k

    to : (held : Option FileMap) → Known (file_at held name) → WhereKnown held name P
    to None k = tt
    to (Some files) k = k

-- ---- the first of some blocks

hold_first : (file : List ℕ) (ps : List Piece) (blocks : List (List ℕ)) (k : ℕ) → k ≤ length ps → HoldOnly file ps blocks → HoldOnly file (take k ps) (take k blocks)
hold_first file ps blocks k within h =
    let n : length (take k ps) ≡ k = length-take-le k ps within in
    let s = hold_split file (take k ps) (drop k ps) blocks (subst (λ (qs : List Piece). HoldBlocks file qs blocks) (sym (take-append-drop k ps)) h.hold) in
    record {
      hold = subst (λ (j : ℕ). HoldBlocks file (take k ps) (take j blocks)) n s.0;
      only = λ others o.
          let rest = subst (λ (j : ℕ). HoldBlocks file (drop k ps) (drop j blocks)) n s.1 in
          let all = subst (λ (qs : List Piece). HoldBlocks file qs (others ++ drop k blocks)) (take-append-drop k ps) (hold-append file (take k ps) (drop k ps) others (drop k blocks) o rest) in
          let many : length others ≡ k = hold_length file (take k ps) others o ∙ n in
          sym (take-append_seam others (drop k blocks)) ∙ ap (λ (j : ℕ). take j (others ++ drop k blocks)) many ∙ ap (λ (bs : List (List ℕ)). take k bs) (h.only (others ++ drop k blocks) all);
    }

whole_first : (size : ℕ) (ps : List Piece) (blocks : List (List ℕ)) (k : ℕ) → AreWholeBlocks size ps blocks → AreWholeBlocks size (take k ps) (take k blocks)
whole_first size ps blocks zero w = tt
whole_first size [] [] (suc k) w = tt
whole_first size [] (b ∷ blocks) (suc k) w = absurd w
whole_first size (p ∷ ps) [] (suc k) w = absurd w
whole_first size (p ∷ ps) (b ∷ blocks) (suc k) w = (w.0, whole_first size ps blocks k w.1)

first_of_first : (k n : ℕ) (ps : List Piece) → k ≤ n → take k (take n ps) ≡ take k ps
first_of_first zero n ps less = refl
first_of_first (suc k) zero ps less = absurd (omega (arith, less))
first_of_first (suc k) (suc n) [] less = refl
first_of_first (suc k) (suc n) (p ∷ ps) less = ap (λ (t : List Piece). p ∷ t) (first_of_first k n ps (omega (arith, less)))

first_blocks : (held : Option FileMap) (first : ReaderSeen) (n k : ℕ) (blocks : List (List ℕ)) → k ≤ n → HoldFirst held first n blocks → HoldFirst held first k (take k blocks)
first_blocks held first n k blocks less h =
    let same = first_of_first k n first.left less in
    let ps = take n first.left in
    record {
      within = omega (arith, less, h.within);
      whole = subst (λ (qs : List Piece). AreWholeBlocks (record_length_of first.head.bytes) qs (take k blocks)) same (whole_first (record_length_of first.head.bytes) ps blocks k h.whole);
      hold = subst (λ (qs : List Piece). WhereKnown held first.name (λ file. HoldOnly file qs (take k blocks))) same
          (known_then held first.name (λ file. HoldOnly file ps blocks) (λ file. HoldOnly file (take k ps) (take k blocks))
          (λ file only. hold_first file ps blocks k (omega (arith, less, length-take-le n first.left h.within)) only) h.hold);
    }

last_is : (xs : List (List ℕ)) (b : List ℕ) → get_or (xs ++ b ∷ []) (length xs) [] ≡ b
last_is [] b = refl
last_is (x ∷ xs) b = last_is xs b

at_drop : (m i : ℕ) (xs : List (List ℕ)) → get_or (drop m xs) i [] ≡ get_or xs (m + i) []
at_drop zero i xs = ap (λ (j : ℕ). get_or xs j []) (sym (zero-add i))
at_drop (suc m) i [] = refl
at_drop (suc m) i (x ∷ xs) = let e : suc (m + i) ≡ suc m + i = omega arith in at_drop m i xs ∙ ap (λ (j : ℕ). get_or (x ∷ xs) j []) e

-- ---- the blocks that were reached

pub none_come : (held : Option FileMap) (reader : ReaderSeen) (crew : List (HandSeen Format)) (turn : Turn) → turn.next ≡ 0 → turn.count ≡ 0 → reader.failed ≡ false → IsCrewOf reader crew → WhereKnown held reader.name (StandsFor reader)
    → HasComeTo held reader reader crew turn 0 []
none_come held reader crew turn next count sound crew_is stands = record {
  before = 0;
  all = [];
  here = omega (arith, next);
  within = omega (arith, next);
  read = subst (λ (n : ℕ). HasRead held reader reader n []) (let e : 0 ≡ 0 + turn.count = omega (arith, count) in e) (read_none held reader (StandsFor reader) stands);
  many = omega (arith, count);
  are = refl;
  lends = λ less. absurd (omega (arith, less, count));
  one = λ none. omega (arith, count);
  sound = sound;
  crew_is = crew_is;
  stands = stands;
}

module _ (held : Option FileMap) (first reader : ReaderSeen) (crew : List (HandSeen Format)) (turn : Turn) (n : ℕ) (xs : List (List ℕ)) (t : HasComeTo held first reader crew turn n xs) where
  pub come_first : HoldFirst held first n xs
  come_first = subst (λ (bs : List (List ℕ)). HoldFirst held first n bs) (sym t.are) (first_blocks held first (t.before + turn.count) n t.all (omega (arith, t.here, t.within)) t.read.hold)

  -- the next block of a batch
  pub next_of : turn.next < turn.count → ComesTo held first reader crew (record turn { next = turn.next + 1 }) n xs (Some turn.next)
  next_of less =
      let b = get_or t.all n [] in
      let inside : n < length t.all = omega (arith, t.here, t.many, less) in (
        b,
        (drop t.before t.all, t.lends less, omega (arith, length-drop t.before t.all, t.many, less), at_drop t.before turn.next t.all ∙ ap (λ (j : ℕ). get_or t.all j []) (sym t.here)),
        record {
          before = t.before;
          all = t.all;
          here = omega (arith, t.here);
          within = omega (arith, less);
          read = t.read;
          many = t.many;
          are = ap (λ (bs : List (List ℕ)). bs ++ b ∷ []) t.are ∙ sym (take_more t.all n [] inside);
          lends = λ more. t.lends less;
          one = t.one;
          sound = t.sound;
          crew_is = t.crew_is;
          stands = t.stands;
        },
        λ none. omega (arith, t.one none, less),
      )

  -- ---- when all blocks of a batch were reached
  module _ (done : turn.next ≡ turn.count) where
    n_is : t.before + turn.count ≡ n
    n_is = omega (arith, t.here, done)

    all_is : t.all ≡ xs
    all_is = sym (t.are ∙ take_all n t.all (omega (arith, t.many, n_is)))

    read_now : HasRead held first reader n xs
    read_now = subst (λ (bs : List (List ℕ)). HasRead held first reader n bs) all_is (subst (λ (k : ℕ). HasRead held first reader k t.all) n_is t.read)

    pub no_more : reader.left ≡ [] → EndsAfter held first n None
    no_more none = end_all held first reader n xs read_now none

    pub bad_next : (cause : Refusal) → cause ≡ BadChunk reader.next → IsSome reader.chunk → WhereKnown held reader.name (λ file. IsBadPiece file reader.left 0) → EndsAfter held first n (Some cause)
    bad_next cause is packed bad = end_bad held first reader n xs cause read_now is packed bad

    pub first_of_batch : (new : ReaderSeen) (now : List (HandSeen Format)) (k : ℕ) (b : List (List ℕ)) → ReadsMore held reader new k b → length b ≡ k → (k ≡ 0 → ⊥) → Lends new now b → (new.chunk ≡ None → k ≤ 1) → new.failed ≡ false → IsCrewOf new now
        → WhereKnown held new.name (StandsFor new) → ComesTo held first new now (record { next = 1; count = k }) n xs (Some 0)
    first_of_batch new now k b more len some lends one sound crew_is stands =
        let long : length xs ≡ n = ap (λ (bs : List (List ℕ)). length bs) (sym all_is) ∙ t.many ∙ n_is in
        let least : 0 < length b = omega (arith, len, some) in
        let block = get_or b 0 [] in
        let is : take (n + 1) (xs ++ b) ≡ xs ++ block ∷ [] =
        ap (λ (j : ℕ). take (j + 1) (xs ++ b)) (sym long) ∙ take-append-add xs b 1 ∙ ap (λ (bs : List (List ℕ)). xs ++ bs) (take_more b 0 [] least) in
        let rest : drop n (xs ++ b) ≡ b = ap (λ (j : ℕ). drop j (xs ++ b)) (sym long) ∙ drop-append_seam xs b in (
          block,
          (b, lends, least, refl),
          record {
            before = n;
            all = xs ++ b;
            here = refl;
            within = omega (arith, len, least);
            read = read_more held first reader new n k xs b read_now more;
            many = length-append xs b ∙ (let e : length xs + length b ≡ n + k = omega (arith, long, len) in e);
            are = sym is;
            lends = λ less. subst (λ (bs : List (List ℕ)). Lends new now bs) (sym rest) lends;
            one = one;
            sound = sound;
            crew_is = crew_is;
            stands = stands;
          },
          λ none. omega (arith, one none, len, least),
        )

-- a batch of a plain file is one block
pub one_block : (chunk : Option ℕ) (hands n pieces : ℕ) → chunk ≡ None → n ≤ min (batch_size chunk hands) pieces → n ≤ 1
one_block chunk hands n pieces none most =
    let few = subst (λ (c : Option ℕ). n ≤ min (batch_size c hands) pieces) none most in
    omega (arith, few)

-- ---- what a block is

even_all : (size : ℕ) (ps : List Piece) (xs : List (List ℕ)) → AreWholeBlocks size ps xs → length (concat xs) % size ≡ 0
even_all size ps xs w = ap (λ (n : ℕ). n % size) (length_whole size ps xs w) ∙ mul-mod_right size (records_in ps)

-- each block of a reader's comes after those before it
pub may_come : (held : Option FileMap) (reader : ReaderSeen) (n : ℕ) (xs : List (List ℕ)) (b : List ℕ) → HoldFirst held reader n xs → HoldFirst held reader (n + 1) (xs ++ b ∷ []) → MayCome reader (concat xs) b
may_come held reader n xs b before h =
    let size = record_length_of reader.head.bytes in
    let ps = take (n + 1) reader.left in
    let all : records_in reader.left ≡ records_in ps + records_in (drop (n + 1) reader.left) = ap records_in (sym (take-append-drop (n + 1) reader.left)) ∙ records-append ps (drop (n + 1) reader.left) in
    let last : length (concat (xs ++ b ∷ [])) ≡ length (concat xs) + length b =
    ap (λ (t : List ℕ). length t) (concat-append xs (b ∷ [])) ∙ length-append (concat xs) (concat (b ∷ [])) ∙ ap (λ (t : List ℕ). length (concat xs) + length t) (append-nil b) in
    record {
      before = even_all size (take n reader.left) xs before.whole;
      whole = ap (λ (t : List ℕ). length t % size) (sym (last_is xs b)) ∙ (even_whole size ps (xs ++ b ∷ []) h.whole) (length xs) [] (omega (arith, length-append xs (b ∷ [])));
      within = omega (arith, last, length_whole size ps (xs ++ b ∷ []) h.whole, ap (λ (k : ℕ). size * k) all);
    }

-- and so does the one that is reached next
pub next_may : (held : Option FileMap) (first reader new : ReaderSeen) (crew now : List (HandSeen Format)) (turn next : Turn) (n number : ℕ) (xs : List (List ℕ)) → HasComeTo held first reader crew turn n xs → (come : ComesTo held first new now next n xs (Some number)) → MayCome first (concat xs) come.0
next_may held first reader new crew now turn next n number xs t come =
    may_come held first n xs come.0 (come_first held first reader crew turn n xs t) (come_first held first new now next (n + 1) (xs ++ come.0 ∷ []) come.2)

pub concat_last : (xs : List (List ℕ)) (b : List ℕ) → concat (xs ++ b ∷ []) ≡ concat xs ++ b
concat_last xs b = concat-append xs (b ∷ []) ∙ ap (λ (t : List ℕ). concat xs ++ t) (append-nil b)

-- ---- a reader that lends another block

-- the block of a plain file stands in the reader
pub lent_is : (reader : ReaderSeen) (crew : List (HandSeen Format)) (number : ℕ) (block : List ℕ) → reader.chunk ≡ None → LendsAt reader crew number block → block ≡ reader.lent
lent_is reader crew number block none l = sym l.3 ∙ (subst (λ (c : Option ℕ). LendsIf c reader (rooms_of crew) l.0) none l.1) number l.2

pub lent_turn : (held : Option FileMap) (first old new : ReaderSeen) (crew : List (HandSeen Format)) (turn : Turn) (n : ℕ) (xs : List (List ℕ)) → HasComeTo held first old crew turn n xs → new ≡ record old { lent = new.lent } → (IsSome old.chunk → new ≡ old)
    → (old.chunk ≡ None → turn.next ≡ turn.count) → HasComeTo held first new crew turn n xs
lent_turn held first old new crew turn n xs t is packed plain = by old.chunk refl
  where
    by : (chunk : Option ℕ) → old.chunk ≡ chunk → HasComeTo held first new crew turn n xs
    by (Some size) some = subst (λ (r : ReaderSeen). HasComeTo held first r crew turn n xs) (sym (packed (subst (λ (c : Option ℕ). IsSome c) (sym some) refl))) t
    by None none = record {
      before = t.before;
      all = t.all;
      here = t.here;
      within = t.within;
      read = record {
        hold = t.read.hold;
        named = ap (λ (r : ReaderSeen). r.name) is ∙ t.read.named;
        head = ap (λ (r : ReaderSeen). r.head) is ∙ t.read.head;
        chunk = ap (λ (r : ReaderSeen). r.chunk) is ∙ t.read.chunk;
        left = ap (λ (r : ReaderSeen). r.left) is ∙ t.read.left;
        next = ap (λ (r : ReaderSeen). r.next) is ∙ t.read.next;
      };
      many = t.many;
      are = t.are;
      lends = λ less. absurd (omega (arith, less, plain none));
      one = λ no. t.one none;
      sound = ap (λ (r : ReaderSeen). r.failed) is ∙ t.sound;
      crew_is = crew_lent old new is crew t.crew_is;
      stands = subst (λ (name : List ℕ). WhereKnown held name (StandsFor new)) (sym (ap (λ (r : ReaderSeen). r.name) is)) (known_then held old.name (StandsFor old) (StandsFor new) (stands_lent old new is) t.stands);
    }
