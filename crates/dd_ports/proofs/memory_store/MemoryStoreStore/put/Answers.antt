use Rattle.std.proofs.Common.{rules}
use Rattle.dd_ports.proofs.memory_store.MemoryStoreStore.put.Goals as goal

pub returns-then-fails-clause-bytes : goal.returns-then-fails-clause-bytes
returns-then-fails-clause-bytes c = search rules

pub returns-then-fails-clause-new_left : goal.returns-then-fails-clause-new_left
returns-then-fails-clause-new_left c = search rules

pub returns-clause-bytes : goal.returns-clause-bytes
returns-clause-bytes c = search rules
