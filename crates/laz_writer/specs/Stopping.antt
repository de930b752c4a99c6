-- What stands of an output that is not finished.
use Rattle.std.specs.Prelude.{ℕ, ◌<◌, ◌++◌, List, take}
use Rattle.std.specs.Option.{ForSome}
use Rattle.las_header.specs.Heads.{IsHead}
use Rattle.las_outside.specs.Drafts.{IsUnfinished}
use Rattle.laz_forms.specs.Outputs.{Output, draft_of, front, patches_of, stopped}

-- A prefix of the front is unfinished.
abbrev pub IsFrontUnfinished : Type 0
IsFrontUnfinished =
    (out : Output) (records : List ℕ) (n : ℕ)
    → IsUnfinished (draft_of out records) (patches_of out records) (take n (front out))

-- So is a prefix of what stands of an output that is stopped, also if more records would have come.
abbrev pub IsStoppedUnfinished : Type 0
IsStoppedUnfinished =
    (out : Output) (records more : List ℕ) (n : ℕ) → IsHead out.head → ForSome out.chunk (λ chunk. 0 < chunk)
    → IsUnfinished (draft_of out (records ++ more)) (patches_of out (records ++ more)) (take n (stopped out records))
