-- What lines on standard error say of the drafts that are left after a run that failed.
use Rattle.std.specs.Prelude.{◌≡◌, ◌⊎◌, ℕ, zero, suc, Bool, true, false, List, ◌++◌, codes}
use Rattle.las_outside.specs.Sinks.{SinkView, Puts}

-- a line that says something of a path
abbrev pub line_of_path : (said path : List ℕ) → List ℕ
line_of_path said path = said ++ path ++ codes "\n"

-- A draft that is kept has a line with the path under which it stands. One that is not kept has a line only if it can't
-- be removed.
abbrev pub SaysOfDraft : (keep : Bool) → SinkView → SinkView → Type 0
SaysOfDraft true old new = (path : List ℕ) × Puts (line_of_path (codes "kept: ") path) old new
SaysOfDraft false old new =
    (new ≡ old) ⊎ ((path : List ℕ) × Puts (line_of_path (codes "not removed: ") path) old new)

-- the same of this many drafts, one after another
abbrev pub SaysOfDrafts : (keep : Bool) (drafts : ℕ) → SinkView → SinkView → Type 0
SaysOfDrafts keep zero old new = new ≡ old
SaysOfDrafts keep (suc drafts) old new =
    (between : SinkView) × (SaysOfDrafts keep drafts old between × SaysOfDraft keep between new)
