-- A stream in memory, as a value.
use Rattle.std.specs.Prelude.{ℕ, Bool, List, Some, refl}
use Rattle.std.specs.Coded.{Coded, code_by, coded×, coded_ℕ, coded_list}
use Rattle.las_outside.specs.Calls.{next_call, is_listed}
use Rattle.las_outside.specs.Faults.{faults_after}
use Rattle.las_outside.specs.Sinks.{SinkView}

-- what was put on a stream; its room in bytes; how many calls there were; the numbers of the calls that are listed to
-- fail; and how often a call has failed
pub record Stream : Type 0 where
  pub bytes : List ℕ
  pub room : ℕ
  pub calls : ℕ
  pub failing : List ℕ
  pub faults : ℕ

abbrev pub stream_code : Coded Stream
stream_code =
    code_by (List ℕ × (ℕ × (ℕ × (List ℕ × ℕ))))
    (coded× (coded_list coded_ℕ) (coded× coded_ℕ (coded× coded_ℕ (coded× (coded_list coded_ℕ) coded_ℕ))))
    (λ s. (s.bytes, (s.room, (s.calls, (s.failing, s.faults)))))
    (λ p. record { bytes = p.0; room = p.1.0; calls = p.1.1.0; failing = p.1.1.1.0; faults = p.1.1.1.1 }) (λ _. refl)

-- the next call is listed
abbrev pub next_put_fails : Stream → Bool
next_put_fails stream = is_listed stream.failing (next_call stream.calls)

-- the stream with other bytes, after a call that failed or succeeded
abbrev pub after_put : Stream → List ℕ → Bool → Stream
after_put stream bytes failed =
    record stream { bytes = bytes; calls = next_call stream.calls; faults = faults_after stream.faults failed }

-- what is seen of a stream in memory: what was put on it is known
abbrev pub sink_of : Stream → SinkView
sink_of stream = record { written = Some stream.bytes; faults = stream.faults }
