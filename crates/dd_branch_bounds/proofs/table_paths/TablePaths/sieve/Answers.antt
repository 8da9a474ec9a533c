use Rattle.dd_branch_tables.specs.Rows.{partial_of}
use Rattle.dd_branch_bounds.proofs.KeptBounds.{bounds_kept}
use Rattle.dd_branch_bounds.proofs.table_paths.TablePaths.sieve.Goals as goal

pub sieve_by-requires-clause-bounds : goal.sieve_by-requires-clause-bounds
sieve_by-requires-clause-bounds c = bounds_kept c.args.classes.now (partial_of c.args.table.now) c.args.self.now c.requires.kept
