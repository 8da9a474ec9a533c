use Rattle.std.proofs.Common.{subst}
use Rattle.dd_branch_tables.specs.Rows.{partial_of}
use Rattle.dd_branch_tables.specs.Beaten.{IsBeaten}
use Rattle.dd_branch_tables.specs.Stem.{Any, prefix_of, size_of}
use Rattle.dd_branch_tables.proofs.Leastness.{none_under_beaten}
use Rattle.dd_branch_tables.proofs.stem.Stem.standing.Goals as goal

pub returns : goal.returns
returns c smaller =
    let stem = c.args.self.now in
    none_under_beaten Any (size_of stem) (prefix_of stem) (partial_of stem.rows) c.requires.follows c.requires.short
    (subst (IsBeaten (partial_of stem.rows)) c.as_slice.ensures (c.stand.ensures.beaten smaller))
