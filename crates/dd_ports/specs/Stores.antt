-- What the stores in memory hold, and how one of them fails.
use Rattle.std.specs.Prelude.{◌≡◌, ℕ, ◌+◌, ◌-◌, ◌^◌, min, List, Option, Bool}
use Rattle.dd_ports.specs.Schedule.{fails_of, next_of, is_due}
use Rattle.dd_ports.specs.Shelf.{shelf_held}
use Rattle.dd_ports.specs.declared.sure_store.SureStore.{SureStore}
use Rattle.dd_ports.specs.declared.memory_store.MemoryStore.{MemoryStore}

-- the text under a name
abbrev pub sure_store_held : SureStore → List ℕ → Option (List ℕ)
sure_store_held s = shelf_held s.shelf

-- the text under a name
abbrev pub memory_store_held : MemoryStore → List ℕ → Option (List ℕ)
memory_store_held s = shelf_held s.shelf

-- the numbers of the calls that fail
abbrev pub memory_store_fails : MemoryStore → List ℕ
memory_store_fails s = fails_of s.schedule

-- the number of the next call
abbrev pub memory_store_next : MemoryStore → ℕ
memory_store_next s = next_of s.schedule

-- the next call is listed to fail
abbrev pub memory_store_is_due : MemoryStore → Bool
memory_store_is_due s = is_due s.schedule

-- whether a put that fails leaves the new text
abbrev pub memory_store_keeps_new : MemoryStore → Bool
memory_store_keeps_new s = s.keeps_new

-- a call was counted: the list of those that fail, and what a failed put leaves, stay as they were
pub record CountsCall (old new : MemoryStore) : Type 0 where
  pub next : memory_store_next new ≡ min (memory_store_next old + 1) (2 ^ 64 - 1)
  pub fails : memory_store_fails new ≡ memory_store_fails old
  pub keeps_new : memory_store_keeps_new new ≡ memory_store_keeps_new old
