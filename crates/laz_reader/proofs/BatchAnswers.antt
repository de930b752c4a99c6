-- What a crew answers for a batch of chunks, and what the chunks then hold.
use Rattle.std.proofs.Common.{◌≡◌, ℕ, zero, suc, ◌+◌, ◌*◌, ◌<◌, ◌≤◌, List, [], ◌∷◌, length, take, get_or, Option, refl, sym, ◌∙◌, ap, subst, arith}
use Rattle.std.specs.Prelude.{All, IsSome, Some, None, unwrap_or, sum}
use Rattle.std.proofs.lemmas.List.{get_or-take, get_or_default}
use Rattle.std.proofs.lemmas.List.Elements.{All-take}
use Rattle.laz_chunk.specs.Layouts.{Layout, record_length}
use Rattle.laz_workers.specs.Numbers.{HoldsBelow, one_if}
use Rattle.std.proofs.lemmas.Bool.Decides.{nat_tests}
use Rattle.std.specs.Prelude.{nat_lt}
use Rattle.std.proofs.Common.{true}
use Rattle.las_header.proofs.Public.{length_part}
use Rattle.laz_reader.proofs.InputLists.{lies_at, piece_at}
use Rattle.laz_reader.specs.Reading.{LiesIn}
use Rattle.laz_workers.specs.Rooms.{RoomSeen, StandsIn, answer_in, number_of, numbers_in}
use Rattle.laz_workers.specs.Run.{EveryInputFits}
use Rattle.laz_workers.specs.Work.{HoldsAnswer}
use Rattle.laz_workers.proofs.Public.{answer_there}
use Rattle.laz_forms.specs.Pieces.{Piece, piece_bytes, pieces_from, whole_piece}
use Rattle.laz_reader.specs.Reading.{StandInRooms}
use Rattle.laz_reader.specs.Unpacking.{FitsUnpacked, HoldsNone, HoldsOnly, IsInput, UnpackAnswer, chunk_in, count_before, unpack_input}

-- each input fits each room
pub inputs_fit : (l : Layout) (counts : List ℕ) (inputs : List (List ℕ)) (lengths : List ℕ) → length inputs ≡ length counts → ((k : ℕ) → k < length counts → IsInput (get_or counts k 0) (get_or inputs k [])) → ((k : ℕ) → k < length counts → 1 ≤ get_or counts k 0)
    → All (λ n. All (λ count. record_length l * count ≤ n) counts) lengths → EveryInputFits (FitsUnpacked l) inputs lengths
inputs_fit l counts inputs lengths same shape some rooms j e lt k d below =
    let within : k < length counts = omega (arith, same, below) in
    let is = shape k within in
    let enough = rooms j e lt k 0 within in
    let P : List ℕ → Type 0 = λ t. FitsUnpacked l t (get_or lengths j e) in
    subst P (get_or_default inputs k [] d below)
    (record {
      counted = is.0;
      some = omega (arith, is.1, some k within);
      enough = subst (λ (n : ℕ). record_length l * n ≤ get_or lengths j e) (sym is.1) enough;
    })

-- one thing for each number below n
pub collect : (n : ℕ) (P : ℕ → List ℕ → Type 0) → ((k : ℕ) → k < n → (b : List ℕ) × P k b) → (blocks : List (List ℕ)) × (length blocks ≡ n) × ((k : ℕ) → k < n → P k (get_or blocks k []))
collect zero P each = ([], refl, λ k lt. absurd (omega arith))
collect (suc n) P each =
    let first = each 0 (omega arith) in
    let rest = collect n (λ k. P (suc k)) (λ k lt. each (suc k) (omega arith)) in
    (first.0 ∷ rest.0, ap suc rest.1, at first.0 first.1 rest.0 rest.2)
  where
    at : (b : List ℕ) → P 0 b → (blocks : List (List ℕ)) → ((k : ℕ) → k < n → P (suc k) (get_or blocks k [])) → (k : ℕ) → k < suc n → P k (get_or (b ∷ blocks) k [])
    at b here blocks later zero lt = here
    at b here blocks later (suc k) lt = later k (omega arith)

some_itself : (o : Option (List ℕ)) → IsSome o → o ≡ Some (unwrap_or o [])
some_itself None h = absurd (cc)
some_itself (Some b) h = refl

-- an input has at most one answer
only_one : (l : Layout) (input b : List ℕ) (o : Option (List ℕ)) → UnpackAnswer l input (Some b) → UnpackAnswer l input o → o ≡ Some b
only_one l input b None h none = absurd (none b h.are h.holds)
only_one l input b (Some other) h is = ap (λ (x : List ℕ). Some x) (h.only other is.are is.holds)

-- what stands under a number
pub record Answered (l : Layout) (inputs : List (List ℕ)) (rooms : List RoomSeen) (k : ℕ) (b : List ℕ) : Type 0 where
  pub holds : HoldsOnly l (count_before (get_or inputs k [])) (chunk_in (get_or inputs k [])) b
  pub stands : All (λ room. number_of room.held ≡ Some k → answer_in room.bytes room.held ≡ Some b) rooms

module _ (l : Layout) (inputs : List (List ℕ)) (rooms : List RoomSeen) (answers : All (HoldsAnswer (UnpackAnswer l) inputs) rooms) where
  answered : (k : ℕ) (room : RoomSeen) → StandsIn rooms k room → IsSome (answer_in room.bytes room.held) → (b : List ℕ) × Answered l inputs rooms k b
  answered k room stands some =
      let b = unwrap_or (answer_in room.bytes room.held) [] in
      let is = some_itself (answer_in room.bytes room.held) some in
      let h = subst (λ (o : Option (List ℕ)). UnpackAnswer l (get_or inputs k []) o) is (answer_there (UnpackAnswer l) inputs rooms k room stands answers) in
      (b, record { holds = h; stands = λ j d lt same. let other = answers j d lt k same in only_one l (get_or inputs k []) b (answer_in (get_or rooms j d).bytes (get_or rooms j d).held) h other.1 })

  pub blocks_answered : (n total : ℕ) → n ≤ total → HoldsBelow total (numbers_in rooms) → ((k : ℕ) → k < n → (room : RoomSeen) × StandsIn rooms k room × IsSome (answer_in room.bytes room.held))
      → (blocks : List (List ℕ)) × (length blocks ≡ n) × StandInRooms rooms blocks × ((k : ℕ) → k < n → HoldsOnly l (count_before (get_or inputs k [])) (chunk_in (get_or inputs k [])) (get_or blocks k []))
  blocks_answered n total within numbers good =
      let all = collect n (Answered l inputs rooms) (λ k lt. let r = good k lt in answered k r.0 r.1 r.2) in (
        all.0,
        all.1,
        record {
          once = λ k lt. let below : k < total = omega (arith, all.1, within, lt) in let t : nat_lt k total ≡ true = grind (arith, nat_tests) in numbers k ∙ ap one_if t;
          answers = λ k lt. (all.2 k (omega (arith, all.1, lt))).stands;
        },
        λ k lt. (all.2 k lt).holds,
      )

  pub refused_there : (k : ℕ) (room : RoomSeen) → StandsIn rooms k room → answer_in room.bytes room.held ≡ None → HoldsNone l (count_before (get_or inputs k [])) (chunk_in (get_or inputs k []))
  refused_there k room stands none = subst (λ (o : Option (List ℕ)). UnpackAnswer l (get_or inputs k []) o) none (answer_there (UnpackAnswer l) inputs rooms k room stands answers)

-- a block that is answered has as many bytes as its records
pub length_answered : (l : Layout) (count : ℕ) (input block : List ℕ) → IsInput count input → HoldsOnly l (count_before input) (chunk_in input) block → length block ≡ record_length l * count
length_answered l count input block shape h = h.are.length ∙ ap (λ (n : ℕ). record_length l * n) shape.1

-- an input is that of its chunk
chunk_of_input : (count : ℕ) (bytes : List ℕ) → chunk_in (unpack_input count bytes) ≡ bytes
chunk_of_input count bytes = refl

pub only_in_chunk : (l : Layout) (count : ℕ) (input bytes block : List ℕ) → IsInput count input → input ≡ unpack_input count bytes → HoldsOnly l (count_before input) (chunk_in input) block → HoldsOnly l count bytes block
only_in_chunk l count input bytes block shape is h =
    subst (λ (n : ℕ). HoldsOnly l n bytes block) shape.1 (subst (λ (c : List ℕ). HoldsOnly l (count_before input) c block) (ap (λ (t : List ℕ). chunk_in t) is ∙ chunk_of_input count bytes) h)

pub none_in_chunk : (l : Layout) (count : ℕ) (input bytes : List ℕ) → IsInput count input → input ≡ unpack_input count bytes → HoldsNone l (count_before input) (chunk_in input) → HoldsNone l count bytes
none_in_chunk l count input bytes shape is h =
    subst (λ (n : ℕ). HoldsNone l n bytes) shape.1 (subst (λ (c : List ℕ). HoldsNone l (count_before input) c) (ap (λ (t : List ℕ). chunk_in t) is ∙ chunk_of_input count bytes) h)

-- the pieces of a front of the lists are the front of the pieces
pub pieces_from-take : (n at : ℕ) (counts sizes : List ℕ) → pieces_from at (take n counts) (take n sizes) ≡ take n (pieces_from at counts sizes)
pieces_from-take zero at counts sizes = refl
pieces_from-take (suc n) at [] sizes = refl
pieces_from-take (suc n) at (c ∷ counts) [] = refl
pieces_from-take (suc n) at (c ∷ counts) (s ∷ sizes) = ap (λ (t : List Piece). whole_piece at s c ∷ t) (pieces_from-take n (at + s) counts sizes)

pub front_piece : (n at : ℕ) (counts sizes : List ℕ) (k : ℕ) (d : Piece) → k < n → get_or (pieces_from at (take n counts) (take n sizes)) k d ≡ get_or (pieces_from at counts sizes) k d
front_piece n at counts sizes k d lt = ap (λ (t : List Piece). get_or t k d) (pieces_from-take n at counts sizes) ∙ get_or-take n (pieces_from at counts sizes) k d lt

-- a chunk whose length no chunk of its count can have holds nothing
pub cut_short : (l : Layout) (file : List ℕ) (at : ℕ) (counts sizes : List ℕ) (n : ℕ) → length counts ≡ length sizes → n < length counts → All (LiesIn file) (pieces_from at counts sizes) → ((bytes : List ℕ) → length bytes ≡ get_or sizes n 0 → HoldsNone l (get_or counts n 0) bytes)
    → (d : Piece) → HoldsNone l (get_or counts n 0) (piece_bytes file (get_or (pieces_from at counts sizes) n d))
cut_short l file at counts sizes n same lt lie none d =
    let p : Piece = whole_piece (at + sum (take n sizes)) (get_or sizes n 0) (get_or counts n 0) in
    subst (λ (q : Piece). HoldsNone l (get_or counts n 0) (piece_bytes file q)) (sym (piece_at at counts sizes n d same lt))
    (none (piece_bytes file p) (length_part file p.start p.size (lies_at file at counts sizes n same lt lie)))

-- the front of what lies in the file
pub front_lies : (file : List ℕ) (at : ℕ) (counts sizes : List ℕ) (n : ℕ) → All (LiesIn file) (pieces_from at counts sizes) → All (LiesIn file) (pieces_from at (take n counts) (take n sizes))
front_lies file at counts sizes n lie = subst (λ (t : List Piece). All (LiesIn file) t) (sym (pieces_from-take n at counts sizes)) (All-take (LiesIn file) n (pieces_from at counts sizes) lie)

-- what the front of the chunks holds, said of all chunks
module _ (l : Layout) (file : List ℕ) (at : ℕ) (counts sizes : List ℕ) (b : ℕ) where
  pub front_only : (k : ℕ) (d : Piece) (block : List ℕ) → k < b → HoldsOnly l (get_or (take b counts) k 0) (piece_bytes file (get_or (pieces_from at (take b counts) (take b sizes)) k d)) block → HoldsOnly l (get_or counts k 0) (piece_bytes file (get_or (pieces_from at counts sizes) k d)) block
  front_only k d block lt h =
      subst (λ (n : ℕ). HoldsOnly l n (piece_bytes file (get_or (pieces_from at counts sizes) k d)) block) (get_or-take b counts k 0 lt)
      (subst (λ (p : Piece). HoldsOnly l (get_or (take b counts) k 0) (piece_bytes file p) block) (front_piece b at counts sizes k d lt) h)

  pub front_none : (k m : ℕ) (d : Piece) → k ≡ m → k < b → HoldsNone l (get_or (take b counts) k 0) (piece_bytes file (get_or (pieces_from at (take b counts) (take b sizes)) k d)) → HoldsNone l (get_or counts m 0) (piece_bytes file (get_or (pieces_from at counts sizes) m d))
  front_none k m d same lt h =
      subst (λ (n : ℕ). HoldsNone l (get_or counts n 0) (piece_bytes file (get_or (pieces_from at counts sizes) n d))) same
      (subst (λ (n : ℕ). HoldsNone l n (piece_bytes file (get_or (pieces_from at counts sizes) k d))) (get_or-take b counts k 0 lt)
      (subst (λ (p : Piece). HoldsNone l (get_or (take b counts) k 0) (piece_bytes file p)) (front_piece b at counts sizes k d lt) h))
