-- A bank of models, seen as the list of what each model knows.
use Rattle.std.specs.Prelude.{ℕ, List, map, slice_index_or}
use Rattle.laz_models.specs.Counting.{Counting, new_model}
use Rattle.laz_models.specs.Dist.{alphabet_size}

-- Model m of a bank.
abbrev pub model_at : List Counting → ℕ → Counting
model_at bank m = slice_index_or bank m (new_model 2)

-- The alphabet sizes of the models of a bank.
abbrev pub alphabet_sizes : List Counting → List ℕ
alphabet_sizes bank = map alphabet_size bank
