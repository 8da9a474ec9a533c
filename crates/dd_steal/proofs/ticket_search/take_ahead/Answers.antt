use Rattle.std.proofs.Common.{rules}
use Rattle.dd_steal.proofs.ticket_search.take_ahead.Goals as goal

pub returns-in-Job-clause-tickets : goal.returns-in-Job-clause-tickets
returns-in-Job-clause-tickets g c = search rules
