-- The calls of files or of a stream in memory: how many there were, which are listed to fail, and what is counted of
-- them.
use Rattle.std.specs.Prelude.{ℕ, ◌==◌, min, Bool, if◌then◌else◌, List, [], ◌∷◌, Option, Some, None, refl}
use Rattle.std.specs.List.{list_any}
use Rattle.std.specs.Coded.{Coded, code_by, coded×, coded_ℕ, coded_list}
use Rattle.las_outside.specs.Faults.{count_after, faults_after}

-- `reads` and `writes`: how many calls read and how many wrote so far. `failing_reads`: the numbers of the listed calls
-- that read. `failing_writes`: the numbers of the listed calls that write, each with how many of its bytes are kept,
-- the last listed first.
pub record Calls : Type 0 where
  pub reads : ℕ
  pub writes : ℕ
  pub failing_reads : List ℕ
  pub failing_writes : List (ℕ × ℕ)
  pub read_faults : ℕ
  pub write_faults : ℕ
  pub asked : ℕ

abbrev pub calls_code : Coded Calls
calls_code =
    code_by (ℕ × (ℕ × (List ℕ × (List (ℕ × ℕ) × (ℕ × (ℕ × ℕ))))))
    (coded× coded_ℕ (coded× coded_ℕ
    (coded× (coded_list coded_ℕ)
    (coded× (coded_list (coded× coded_ℕ coded_ℕ)) (coded× coded_ℕ (coded× coded_ℕ coded_ℕ))))))
    (λ c. (c.reads, (c.writes, (c.failing_reads, (c.failing_writes, (c.read_faults, (c.write_faults, c.asked)))))))
    (λ p. record {
      reads = p.0;
      writes = p.1.0;
      failing_reads = p.1.1.0;
      failing_writes = p.1.1.1.0;
      read_faults = p.1.1.1.1.0;
      write_faults = p.1.1.1.1.1.0;
      asked = p.1.1.1.1.1.1;
    }) (λ _. refl)

-- no call yet, and none listed
abbrev pub no_calls : Calls
no_calls = record {
  reads = 0;
  writes = 0;
  failing_reads = [];
  failing_writes = [];
  read_faults = 0;
  write_faults = 0;
  asked = 0;
}

-- the number of the next call, from 1
abbrev pub next_call : ℕ → ℕ
next_call calls = count_after calls 1

-- the call of this number is listed
abbrev pub is_listed : List ℕ → ℕ → Bool
is_listed numbers call = list_any (λ number. number == call) numbers

-- the next call that reads is listed
abbrev pub next_read_fails : Calls → Bool
next_read_fails calls = is_listed calls.failing_reads (next_call calls.reads)

-- how many bytes the call of this number keeps, if it is listed
abbrev pub keep_of : List (ℕ × ℕ) → ℕ → Option ℕ
keep_of [] call = None
keep_of (listed ∷ others) call = if listed.0 == call then Some listed.1 else keep_of others call

-- how many bytes the next call that writes keeps, if it is listed
abbrev pub next_keep : Calls → Option ℕ
next_keep calls = keep_of calls.failing_writes (next_call calls.writes)

-- how many bytes of a write are kept, if this many fit: all that fit, or at most those that a listed call keeps
abbrev pub kept_bytes : Option ℕ → ℕ → ℕ
kept_bytes None fits = fits
kept_bytes (Some keep) fits = min keep fits

-- after a call that read, which failed or succeeded
abbrev pub after_read : Calls → Bool → Calls
after_read calls failed =
    record calls { reads = next_call calls.reads; read_faults = faults_after calls.read_faults failed }

-- after a call that wrote, which failed or succeeded
abbrev pub after_write : Calls → Bool → Calls
after_write calls failed =
    record calls { writes = next_call calls.writes; write_faults = faults_after calls.write_faults failed }

-- after bytes were asked for
abbrev pub after_asking : Calls → ℕ → Calls
after_asking calls size = record calls { asked = count_after calls.asked size }
