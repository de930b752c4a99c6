-- The rooms of a reader's crew.
use Rattle.std.proofs.Common.{◌≡◌, ℕ, ◌+◌, ◌*◌, ◌<◌, ◌≤◌, List, [], ◌∷◌, length, get_or, true, false, ⊎_elim, Option, Some, sym, ap, subst, arith}
use Rattle.std.specs.Prelude.{All, Contains, ◌==◌}
use Rattle.std.proofs.lemmas.List.Elements.{All-contains, All-nil, All-cons, All-head, All-tail}
use Rattle.std.proofs.lemmas.List.Sums.{sum_by-cons}
use Rattle.std.proofs.lemmas.Bool.{cases_Bool}
use Rattle.std.proofs.lemmas.Bool.Decides.{nat_tests}
use Rattle.las_header.specs.Fields.{record_length_of}
use Rattle.laz_workers.specs.Numbers.{one_if, times}
use Rattle.laz_workers.specs.Rooms.{RoomSeen, StandsIn, answer_in, number_of}
use Rattle.laz_workers.proofs.Public.{contains_head, contains_tail}
use Rattle.std.proofs.Math.Nat.{mul-le-mul_left}
use Rattle.laz_forms.specs.Pieces.{Piece, pieces_from, whole_piece}
use Rattle.laz_reader.specs.Reading.{AreCutFrom, HaveRoom, LendsIf, ReaderSeen, StandInRooms}

counts_within : (most at : ℕ) (counts sizes : List ℕ) → All (λ n. n ≤ most) counts → All (λ (p : Piece). p.count ≤ most) (pieces_from at counts sizes)
counts_within most at [] sizes all = All-nil (λ (p : Piece). p.count ≤ most)
counts_within most at (n ∷ counts) [] all = All-nil (λ (p : Piece). p.count ≤ most)
counts_within most at (n ∷ counts) (s ∷ sizes) all =
    All-cons (λ (p : Piece). p.count ≤ most) (whole_piece at s n) (pieces_from (at + s) counts sizes) (All-head (λ n. n ≤ most) n counts all) (counts_within most (at + s) counts sizes (All-tail (λ n. n ≤ most) n counts all))

-- rooms for the greatest chunk are enough for each
pub have_room : (long at most room : ℕ) (counts sizes lengths : List ℕ) → All (λ n. n ≤ most) counts → room ≡ long * most → All (λ n. n ≡ room) lengths → HaveRoom long (pieces_from at counts sizes) lengths
have_room long at most room counts sizes lengths all is rooms = λ j e lt k d below.
    let p : Piece = get_or (pieces_from at counts sizes) k d in
    let within : p.count ≤ most = counts_within most at counts sizes all k d below in
    let scaled : long * p.count ≤ long * most = mul-le-mul_left long within in
    omega (arith, scaled, is, rooms j e lt)

-- a number that stands once in a list is there
pub once_there : (x : ℕ) (xs : List ℕ) → 0 < times x xs → Contains xs x
once_there x [] p = absurd (omega arith)
once_there x (y ∷ ys) p =
    ⊎_elim
    (λ (t : (y == x) ≡ true). let same : y ≡ x = grind (arith, nat_tests) in let P : ℕ → Type 0 = λ z. Contains (y ∷ ys) z in subst P same (contains_head y ys))
    (λ (t : (y == x) ≡ false). contains_tail y ys x (once_there x ys (omega (arith, sum_by-cons (λ z. one_if (z == x)) y ys, ap one_if t))))
    (cases_Bool (y == x))

-- what a reader of a packed file lends is cut from what stands in rooms
pub lent_parts : (chunk : Option ℕ) (size : ℕ) (reader : ReaderSeen) (rooms : List RoomSeen) (blocks : List (List ℕ)) → chunk ≡ Some size → LendsIf chunk reader rooms blocks
    → (wholes : List (List ℕ)) × StandInRooms rooms wholes × AreCutFrom (record_length_of reader.head.bytes) reader.cuts wholes blocks
lent_parts chunk size reader rooms blocks is h = subst (λ (o : Option ℕ). LendsIf o reader rooms blocks) is h

pub lends_parts : (chunk : Option ℕ) (size : ℕ) (reader : ReaderSeen) (rooms : List RoomSeen) (blocks : List (List ℕ)) → chunk ≡ Some size
    → (wholes : List (List ℕ)) × StandInRooms rooms wholes × AreCutFrom (record_length_of reader.head.bytes) reader.cuts wholes blocks → LendsIf chunk reader rooms blocks
lends_parts chunk size reader rooms blocks is h = subst (λ (o : Option ℕ). LendsIf o reader rooms blocks) (sym is) h

-- what stands in rooms is an answer
pub answered_there : (rooms : List RoomSeen) (blocks : List (List ℕ)) (k : ℕ) (room : RoomSeen) → StandInRooms rooms blocks → k < length blocks → StandsIn rooms k room → answer_in room.bytes room.held ≡ Some (get_or blocks k [])
answered_there rooms blocks k room stand lt there = All-contains (λ (r : RoomSeen). number_of r.held ≡ Some k → answer_in r.bytes r.held ≡ Some (get_or blocks k [])) rooms room (stand.answers k lt) there.0 there.1
