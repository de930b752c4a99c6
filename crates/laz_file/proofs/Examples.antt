-- Worked values of the definitions.
use Rattle.std.proofs.Common.{◌≡◌, inl, inr, [], ◌∷◌, true, false, None, Some, refl}
use Rattle.std.specs.FinMap as finmap
use Rattle.las_header.specs.declared.refusal.Refusal.TheVariants.{BadChunk}
use Rattle.las_outside.specs.Files.{FileMap}
use Rattle.laz_file.specs.Endings.{AreBegun, AreDrafts, AreEnding, LeavesFiles, OutputFile, at_end, files_after, named}

-- two outputs, each with a patch
abbrev one : OutputFile
one = record { name = 1 ∷ []; draft = 10 ∷ 0 ∷ 30 ∷ []; patches = (1, 20 ∷ []) ∷ []; stopped = 10 ∷ 0 ∷ [] }

abbrev two : OutputFile
two = record { name = 2 ∷ []; draft = 0 ∷ 0 ∷ 60 ∷ []; patches = (0, 40 ∷ 50 ∷ []) ∷ []; stopped = 0 ∷ [] }

finished : at_end true one ≡ (1 ∷ [], 10 ∷ 20 ∷ 30 ∷ [])
finished = refl

stopped : at_end false one ≡ (1 ∷ [], 10 ∷ 0 ∷ [])
stopped = refl

-- the files of both, if all is done, and after a refusal
all_done : (files : FileMap) → files_after (record { files = one ∷ two ∷ []; refusal = None }) files ≡ finmap.insert (finmap.insert files (1 ∷ []) (10 ∷ 20 ∷ 30 ∷ [])) (2 ∷ []) (40 ∷ 50 ∷ 60 ∷ [])
all_done files = refl

refused : (files : FileMap) → files_after (record { files = one ∷ two ∷ []; refusal = Some (BadChunk 3) }) files ≡ finmap.insert (finmap.insert files (1 ∷ []) (10 ∷ 0 ∷ [])) (2 ∷ []) (0 ∷ [])
refused files = refl

names : named (one ∷ two ∷ []) ((10 ∷ []) ∷ [] ∷ []) ≡ (1 ∷ [], 10 ∷ []) ∷ (2 ∷ [], []) ∷ []
names = refl

-- both are begun
begun : AreBegun (one ∷ two ∷ []) ((10 ∷ 0 ∷ []) ∷ [] ∷ [])
begun = ((2, refl), ((0, refl), tt))

drafts : AreDrafts (one ∷ two ∷ []) ((10 ∷ 0 ∷ 30 ∷ []) ∷ (0 ∷ 0 ∷ 60 ∷ []) ∷ [])
drafts = (refl, (refl, tt))

-- the first is finished, and the second stands in part, or half of its patch is made
second_in_part : AreEnding (one ∷ two ∷ []) ((10 ∷ 20 ∷ 30 ∷ []) ∷ (0 ∷ []) ∷ [])
second_in_part = inl (refl, inr (inl (1, refl), tt))

second_patched : AreEnding (one ∷ two ∷ []) ((10 ∷ 20 ∷ 30 ∷ []) ∷ (40 ∷ 0 ∷ 60 ∷ []) ∷ [])
second_patched = inl (refl, inr (inr (inl (1, refl)), tt))

-- of two outputs the first alone was created
first_left : (files : FileMap) → LeavesFiles (one ∷ two ∷ []) files (finmap.insert files (1 ∷ []) (10 ∷ []))
first_left files = (1, (10 ∷ []) ∷ [], inl ((1, refl), tt), refl)
