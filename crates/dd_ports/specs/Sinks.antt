-- What the sinks in memory hold, and how one of them fails.
use Rattle.std.specs.Prelude.{◌≡◌, ℕ, ◌+◌, ◌-◌, ◌^◌, min, List, Bool}
use Rattle.dd_ports.specs.Schedule.{fails_of, next_of, is_due}
use Rattle.dd_ports.specs.declared.sure_sink.SureSink.{SureSink}
use Rattle.dd_ports.specs.declared.memory_sink.MemorySink.{MemorySink}

-- all bytes that it took
abbrev pub sure_sink_held : SureSink → List ℕ
sure_sink_held s = s.bytes.items

-- all bytes that it took
abbrev pub memory_sink_held : MemorySink → List ℕ
memory_sink_held s = s.bytes.items

-- the numbers of the writes that fail
abbrev pub memory_sink_fails : MemorySink → List ℕ
memory_sink_fails s = fails_of s.schedule

-- the number of the next write
abbrev pub memory_sink_next : MemorySink → ℕ
memory_sink_next s = next_of s.schedule

-- the next write is listed to fail
abbrev pub memory_sink_is_due : MemorySink → Bool
memory_sink_is_due s = is_due s.schedule

-- the most bytes that a write takes
abbrev pub memory_sink_most : MemorySink → ℕ
memory_sink_most s = s.most

-- a write was counted: the list of those that fail, and the most that one takes, stay as they were
pub record CountsWrite (old new : MemorySink) : Type 0 where
  pub next : memory_sink_next new ≡ min (memory_sink_next old + 1) (2 ^ 64 - 1)
  pub fails : memory_sink_fails new ≡ memory_sink_fails old
  pub most : memory_sink_most new ≡ memory_sink_most old
