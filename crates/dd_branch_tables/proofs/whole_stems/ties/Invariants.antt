use Rattle.dd_branch_tables.specs.Rows.{partial_of}
use Rattle.dd_branch_tables.specs.Stem.{prefix_of}
use Rattle.dd_branch_tables.proofs.WholeStems.{AreOpenTo}
use Rattle.dd_branch_tables.proofs.whole_stems.ties.Given as goal

abbrev pub invariant-loop-k : goal.invariant-loop-k
invariant-loop-k l = AreOpenTo (partial_of l.stem.rows) (prefix_of l.stem) l.k l.ties.items
