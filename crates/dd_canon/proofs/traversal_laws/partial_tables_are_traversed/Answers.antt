use Rattle.dd_canon.proofs.PartialTraversals.{begin_partial, advance_partial}
use Rattle.dd_canon.proofs.traversal_laws.partial_tables_are_traversed.Goals as goal

pub returns : goal.returns
returns c = record { begins = begin_partial; goes_on = advance_partial }
