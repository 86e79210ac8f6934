-- Sources and sinks in memory.
use Rattle.std.specs.Prelude.{ℕ, List, []}
use Rattle.bl_outside.specs.Plans.{Plan}

-- The bytes that are left, how often a call failed, and which calls are to fail.
pub record SourceRecord : Type 0 where
  pub left : List ℕ
  pub faults : ℕ
  pub plan : Plan

abbrev pub source_of : List ℕ → Plan → SourceRecord
source_of bytes plan = record { left = bytes; faults = 0; plan = plan }

-- The same with the bytes that were written.
pub record SinkRecord : Type 0 where
  pub written : List ℕ
  pub faults : ℕ
  pub plan : Plan

abbrev pub empty_sink : Plan → SinkRecord
empty_sink plan = record { written = []; faults = 0; plan = plan }
