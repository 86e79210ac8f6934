-- How many there may be.
use Rattle.std.specs.Prelude.{ℕ, ◌^◌}

-- jobs that are kept
abbrev pub most_kept : ℕ
most_kept = 1024

-- jobs that wait
abbrev pub most_queued : ℕ
most_queued = 64

-- jobs that one depends on
abbrev pub most_dependencies : ℕ
most_dependencies = 64

-- fewer records of one file are taken
abbrev pub record_limit : ℕ
record_limit = 2 ^ 48
