-- What contracts see of a stream: what was put on it, known or not, and a count of faults.
use Rattle.std.specs.Prelude.{◌≡◌, ◌⊎◌, ℕ, ◌≤◌, List, ◌++◌, take, Option, Some, None, is_some, refl}
use Rattle.std.specs.Coded.{Coded, code_by, coded×, coded_ℕ, coded_list, coded_option}
use Rattle.las_outside.specs.Faults.{count_after}

-- what was put on the stream, if that is known, and how often a call has failed
pub record SinkView : Type 0 where
  pub written : Option (List ℕ)
  pub faults : ℕ

abbrev pub sink_code : Coded SinkView
sink_code =
    code_by (Option (List ℕ) × ℕ) (coded× (coded_option (coded_list coded_ℕ)) coded_ℕ)
    (λ s. (s.written, s.faults)) (λ p. record { written = p.0; faults = p.1 }) (λ _. refl)

-- the stream if it does not tell what was put on it
abbrev pub unknown : SinkView → SinkView
unknown sink = record sink { written = None }

-- what was written, with more at its end
abbrev pub written_after : Option (List ℕ) → List ℕ → Option (List ℕ)
written_after None bytes = None
written_after (Some written) bytes = Some (written ++ bytes)

-- the stream with more bytes at its end
abbrev pub with_more : SinkView → List ℕ → SinkView
with_more sink bytes = record sink { written = written_after sink.written bytes }

-- the stream with one failed call more
abbrev pub with_fault : SinkView → SinkView
with_fault sink = record sink { faults = count_after sink.faults 1 }

-- A text was put on a stream, or the stream failed once and a prefix of the text was put.
abbrev pub Puts : List ℕ → SinkView → SinkView → Type 0
Puts text old new = (new ≡ with_more old text) ⊎ ((n : ℕ) × (new ≡ with_fault (with_more old (take n text))))

-- What holds of a stream before and after any calls: the count does not fall, and known text stays known.
pub record PutLater (old new : SinkView) : Type 0 where
  pub known : is_some new.written ≡ is_some old.written
  pub faults : old.faults ≤ new.faults
