-- Worked values of the definitions.
use Rattle.std.proofs.Common.{◌≡◌, [], ◌∷◌, ◌-◌, inl, inr, true, false, List, ℕ, Some, None, codes, refl, arith}
use Rattle.std.specs.Fmt.{digits}
use Rattle.las_outside.specs.Calls.{keep_of, kept_bytes}
use Rattle.las_outside.specs.DraftNames.{IsDraftPath, draft_tag, four_digits}
use Rattle.las_outside.specs.Drafting.{Drafting, all_moved, only_moved}
use Rattle.las_outside.specs.Faults.{last_count, count_after, Rose}
use Rattle.las_outside.specs.Files.{with_patch}
use Rattle.las_outside.specs.LeftDrafts.{SaysOfDrafts}
use Rattle.las_outside.specs.Sinks.{SinkView, with_more, written_after}
use Rattle.las_outside.specs.Drafts.{Patch, with_patches, IsUnfinished}

-- a count grew, or stood at its end already
grew : Rose 3 4
grew = omega arith

at_the_end : Rose last_count last_count
at_the_end = omega arith

in_the_middle : with_patch (1 ∷ 2 ∷ 3 ∷ 4 ∷ []) 1 (9 ∷ 8 ∷ []) ≡ 1 ∷ 9 ∷ 8 ∷ 4 ∷ []
in_the_middle = refl

put_on_known : written_after (Some (1 ∷ [])) (2 ∷ []) ≡ Some (1 ∷ 2 ∷ [])
put_on_known = refl

put_on_unknown : written_after None (2 ∷ []) ≡ None
put_on_unknown = refl

-- a count that stops
stops : count_after (last_count - 1) 3 ≡ last_count
stops = refl

-- the third call keeps 10 bytes, the last listed, and a call that is not listed has none to keep
listed_twice : keep_of ((3, 10) ∷ (3, 4) ∷ (5, 0) ∷ []) 3 ≡ Some 10
listed_twice = refl

not_listed : keep_of ((3, 10) ∷ (3, 4) ∷ (5, 0) ∷ []) 4 ≡ None
not_listed = refl

-- of 10 bytes that are to be kept 7 fit
kept_in_part : kept_bytes (Some 10) 7 ≡ 7
kept_in_part = refl

-- a draft of four bytes, a patch of its first two and then one of its last
draft : List ℕ
draft = 1 ∷ 2 ∷ 3 ∷ 4 ∷ []

abbrev patches : List Patch
patches = (0, 7 ∷ 8 ∷ []) ∷ (3, 9 ∷ []) ∷ []

whole : with_patches draft patches ≡ 7 ∷ 8 ∷ 3 ∷ 9 ∷ []
unfolding draft
whole = refl

a_front : IsUnfinished draft patches (1 ∷ 2 ∷ 3 ∷ [])
unfolding draft
a_front = inl (3, refl)

first_patch_in_part : IsUnfinished draft patches (7 ∷ 2 ∷ 3 ∷ 4 ∷ [])
unfolding draft
first_patch_in_part = inr (inl (1, refl))

second_patch_not_begun : IsUnfinished draft patches (7 ∷ 8 ∷ 3 ∷ 4 ∷ [])
unfolding draft
second_patch_not_begun = inr (inr (inl (0, refl)))

-- the tags of a draft: its number has four digits or more
first_tag : draft_tag 4711 0 ≡ codes "4711-0000"
unfolding digits
first_tag = refl

eleventh_tag : draft_tag 7 10 ≡ codes "7-000a"
unfolding digits
eleventh_tag = refl

five_digits : four_digits 65536 ≡ codes "10000"
unfolding digits
five_digits = refl

-- the path of a draft of a short name, which is kept whole
a_path : IsDraftPath (codes "out/") (codes "b.laz") (draft_tag 7 0) (codes "out/.b.laz.las-7-0000.part")
unfolding digits
a_path = (5, ((omega arith, λ _. refl), refl))

-- three drafts, of which two are synced and one is moved
some_drafts : Drafting
some_drafts = record { process = Some 7; begun = 3; room = 4; synced = 2; moved = 1 }

each_moved : all_moved some_drafts ≡ record some_drafts { synced = 3; moved = 3 }
unfolding some_drafts
each_moved = refl

others_gone : only_moved some_drafts ≡ record { process = Some 7; begun = 1; room = 4; synced = 1; moved = 1 }
unfolding some_drafts
others_gone = refl

-- two drafts that are kept have a line each, and two that are removed have none
a_sink : SinkView
a_sink = record { written = Some []; faults = 0 }

two_kept : SaysOfDrafts true 2 a_sink (with_more (with_more a_sink (codes "kept: a.part\n")) (codes "kept: b.part\n"))
unfolding a_sink
two_kept =
    (with_more a_sink (codes "kept: a.part\n"), ((a_sink, (refl, (codes "a.part", inl refl))), (codes "b.part", inl refl)))

two_removed : SaysOfDrafts false 2 a_sink a_sink
two_removed = (a_sink, ((a_sink, (refl, inl refl)), inl refl))
