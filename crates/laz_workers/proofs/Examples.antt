-- Worked values of the claims' definition.
use Rattle.std.proofs.Common.{◌≡◌, ℕ, Bool, true, false, Some, None, List, [], ◌∷◌, refl, lit<}
use Rattle.laz_workers.specs.declared.held.Held.TheVariants.{Empty, Full, Refused}
use Rattle.laz_workers.specs.declared.view.View.{View}
use Rattle.laz_workers.specs.declared.view.Sizes.{Sizes}
use Rattle.laz_workers.specs.Numbers.{times}
use Rattle.laz_workers.specs.Rooms.{RoomSeen, answer_in, lengthened, numbers_in}
use Rattle.laz_workers.specs.Run.{under}
use Rattle.laz_workers.specs.Claims.{opened, drew, gone, past, Claiming, splits, draws, joins, closes, made, Run}

three_for_two : Sizes
three_for_two = record { total = 3; workers = 2 }

-- a number stands in a list as often as it was put there
times_in : times 2 (2 ∷ 0 ∷ 2 ∷ []) ≡ 2
times_in = refl

-- of three numbers below a total of 3, drawn by two passes in turn, one more claim finds number 3
past_three : past 3 (0 ∷ 2 ∷ 1 ∷ 3 ∷ []) ≡ 1
past_three = refl

opening_view : ℕ → ℕ → ℕ → List ℕ → View
unfolding three_for_two
opening_view rest out joined_passes drawn = record { opens = true; gone = false; drawn = drawn; spent = false; rest = rest; out = out; joins = joined_passes; total = 3; workers = 2 }

split_view : Bool → List ℕ → View
split_view spent drawn = record { opens = false; gone = false; drawn = drawn; spent = spent; rest = 0; out = 0; joins = 0; total = 3; workers = 2 }

at : ℕ → View → View → Claiming
at word v u = record { word = word; views = v ∷ u ∷ [] }

-- three numbers, two workers: the passes draw in turn 0, 1, 2 and 3, and the joined list is 0, 2, 1, 3 at a word of 4
in_turn : Run (made three_for_two) (splits 0 ∷ draws 0 ∷ draws 1 ∷ draws 0 ∷ draws 1 ∷ joins 0 1 ∷ closes 0 ∷ []) (at 4 (opening_view 0 0 1 (0 ∷ 2 ∷ 1 ∷ 3 ∷ [])) gone)
unfolding three_for_two opening_view split_view at
in_turn =
    let s1 = at 0 (opening_view 0 1 0 []) (split_view false []) in
    let s2 = at 1 (opening_view 0 1 0 (0 ∷ [])) (split_view false []) in
    let s3 = at 2 (opening_view 0 1 0 (0 ∷ [])) (split_view false (1 ∷ [])) in
    let s4 = at 3 (opening_view 0 1 0 (0 ∷ 2 ∷ [])) (split_view false (1 ∷ [])) in
    let s5 = at 4 (opening_view 0 1 0 (0 ∷ 2 ∷ [])) (split_view true (1 ∷ 3 ∷ [])) in
    let s6 = at 4 (opening_view 0 0 1 (0 ∷ 2 ∷ 1 ∷ 3 ∷ [])) gone in (
      s1,
      (opening_view 1 0 0 [], refl, refl, lit< tt, refl),
      (
        s2,
        (opening_view 0 1 0 [], refl, refl, refl, refl),
        (
          s3,
          (split_view false [], refl, refl, refl, refl),
          (
            s4,
            (opening_view 0 1 0 (0 ∷ []), refl, refl, refl, refl),
            (
              s5,
              (split_view false (1 ∷ []), refl, refl, refl, refl),
              (
                s6,
                (opening_view 0 1 0 (0 ∷ 2 ∷ []), split_view true (1 ∷ 3 ∷ []), refl, refl, refl, refl, refl),
                (
                  s6,
                  (opening_view 0 0 1 (0 ∷ 2 ∷ 1 ∷ 3 ∷ []), refl, refl, refl, refl),
                  refl,
                ),
              ),
            ),
          ),
        ),
      ),
    )

-- no number, one worker: the first claim finds number 0, which spends the pass, and the word is 1
none_for_one : Sizes
none_for_one = record { total = 0; workers = 1 }

of_none : Run (made none_for_one) (draws 0 ∷ closes 0 ∷ []) (record { word = 1; views = drew (opened none_for_one) 0 ∷ [] })
unfolding none_for_one
of_none =
    let end : Claiming = record { word = 1; views = drew (opened none_for_one) 0 ∷ [] } in
    (end, (opened none_for_one, refl, refl, refl, refl), (end, (drew (opened none_for_one) 0, refl, refl, refl, refl), refl))

of_none_spent : (drew (opened none_for_one) 0).spent ≡ true
unfolding none_for_one
of_none_spent = refl

-- a room with two of its bytes as the answer to input 3, one in which input 1 was refused, and an empty one
full : RoomSeen
full = record { bytes = 7 ∷ 8 ∷ 9 ∷ []; held = Full 3 2 }

refused : RoomSeen
refused = record { bytes = 7 ∷ 8 ∷ 9 ∷ []; held = Refused 1 }

empty : RoomSeen
empty = record { bytes = 7 ∷ 8 ∷ 9 ∷ []; held = Empty }

standing : numbers_in (full ∷ refused ∷ empty ∷ []) ≡ 3 ∷ 1 ∷ []
unfolding full refused empty
standing = refl

answer_of_full : answer_in full.bytes full.held ≡ Some (7 ∷ 8 ∷ [])
unfolding full
answer_of_full = refl

answer_of_refused : answer_in refused.bytes refused.held ≡ None
unfolding refused
answer_of_refused = refl

-- of the joined list of three numbers, those below the total
under_three : under 3 (0 ∷ 2 ∷ 1 ∷ 3 ∷ []) ≡ 0 ∷ 2 ∷ 1 ∷ []
under_three = refl

-- a room of three bytes of which none was written, and one that is full
new_room : lengthened 3 [] ≡ 0 ∷ 0 ∷ 0 ∷ []
new_room = refl

full_room : lengthened 2 (7 ∷ 9 ∷ []) ≡ 7 ∷ 9 ∷ []
full_room = refl
