use Rattle.std.proofs.Common.{subst}
use Rattle.std.specs.List.{Contains}
use Rattle.dd_branch_degrees.proofs.ties.Ties.of.Goals as goal

pub automorphisms_to-requires-clause-starts : goal.automorphisms_to-requires-clause-starts
automorphisms_to-requires-clause-starts c d there = c.requires.starts d (subst (λ xs. Contains xs d) c.as_slice.ensures.value there)
