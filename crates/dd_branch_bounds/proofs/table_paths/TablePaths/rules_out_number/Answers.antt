use Rattle.dd_branch_tables.specs.Rows.{partial_of}
use Rattle.dd_branch_bounds.proofs.KeptBounds.{bounds_kept}
use Rattle.dd_branch_bounds.proofs.table_paths.TablePaths.rules_out_number.Goals as goal

pub is_ruled_out-requires-clause-bounds : goal.is_ruled_out-requires-clause-bounds
is_ruled_out-requires-clause-bounds c = bounds_kept c.args.classes.now (partial_of c.args.table.now) c.args.self.now c.requires.kept
