use Rattle.std.proofs.Common.{rules}
use Rattle.dd_ports.proofs.ReadBytes.{longer_read}
use Rattle.dd_ports.proofs.file_store.read_some.Goals as goal

pub returns-then-count-room-clause-bytes : goal.returns-then-count-room-clause-bytes
returns-then-count-room-clause-bytes g c = search (rules, longer_read)
