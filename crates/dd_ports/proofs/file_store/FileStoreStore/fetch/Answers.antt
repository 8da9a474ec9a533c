use Rattle.std.proofs.Common.{rules}
use Rattle.dd_ports.proofs.file_store.FileStoreStore.fetch.Goals as goal

pub returns-then-eq-clause-fills : goal.returns-then-eq-clause-fills
returns-then-eq-clause-fills g c = search rules

pub returns-else-eq-clause-fills : goal.returns-else-eq-clause-fills
returns-else-eq-clause-fills g c = search rules
