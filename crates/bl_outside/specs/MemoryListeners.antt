-- Connections and a listener in memory.
use Rattle.std.specs.Prelude.{ℕ, List, []}
use Rattle.bl_outside.specs.Listeners.{Handed}
use Rattle.bl_outside.specs.MemoryStreams.{SinkRecord, SourceRecord}
use Rattle.bl_outside.specs.declared.memory_listener.PreparedLink.{PreparedLink}

-- Both directions of a connection.
pub record LinkRecord : Type 0 where
  pub input : SourceRecord
  pub output : SinkRecord

-- What is left of one.
abbrev pub handed : LinkRecord → Handed
handed link = record {
  written = link.output.written;
  source_faults = link.input.faults;
  sink_faults = link.output.faults;
}

-- The connections that are still to come, those that were handed back, and how often it has failed.
pub record ListenerRecord : Type 0 where
  pub ready : List PreparedLink
  pub done : List LinkRecord
  pub faults : ℕ

abbrev pub no_links : ListenerRecord
no_links = record { ready = []; done = []; faults = 0 }
