-- Counts that stop at a last value: how often the outside has failed, and how many bytes were asked of it.
use Rattle.std.specs.Prelude.{ℕ, ◌+◌, ◌-◌, ◌^◌, ◌≤◌, min, Bool, if◌then◌else◌}

-- the last value of a count, at which it stops
abbrev pub last_count : ℕ
last_count = 2 ^ 64 - 1

-- a count with some more, up to its last value
abbrev pub count_after : ℕ → ℕ → ℕ
count_after count more = min (count + more) last_count

-- a count of faults after a call that failed or succeeded
abbrev pub faults_after : ℕ → Bool → ℕ
faults_after count failed = if failed then count_after count 1 else count

-- The count grew between before and now, or stands at its last value.
abbrev pub Rose : ℕ → ℕ → Type 0
Rose before now = count_after before 1 ≤ now
