use Rattle.std.proofs.Common.{◌+◌, subst, arith}
use Rattle.dd_branch_tables.specs.Beaten.{IsBeaten}
use Rattle.dd_branch_tables.specs.Open.{IsOpen}
use Rattle.dd_branch_tables.specs.Passed.{IsPassed}
use Rattle.dd_branch_tables.specs.Rows.{partial_of}
use Rattle.dd_branch_tables.specs.Stem.{Any, prefix_of, size_of}
use Rattle.dd_branch_tables.proofs.Leastness.{none_under_beaten}
use Rattle.dd_branch_tables.proofs.LeastStems.{AreNotSmallerTo, start_more, least_of_stem}
use Rattle.dd_branch_tables.proofs.WholeStems.{of_stem, none_without_growth, none_unmet_before}
use Rattle.dd_branch_tables.proofs.whole_stems.is_least.Goals as goal
use Rattle.dd_branch_tables.proofs.whole_stems.is_least.Goals.{then-not-grows-via-then-not-grows, then-not-grows-via-else-not-grows+then-not-meets_all}

pub returns-then-not-grows-clause-none : goal.returns-then-not-grows-clause-none
returns-then-not-grows-clause-none c = elim c.then-not-grows.branch [
  | then-not-grows-via-then-not-grows w ↦
      none_without_growth c.args.stem.now c.requires.whole (λ grows. let test = c.grows.ensures.1 grows in let fails = w.if-not-grows.true in cc)
  | then-not-grows-via-else-not-grows+then-not-meets_all w ↦
      none_unmet_before c.args.stem.now c.requires.whole (λ met. let test = w.meets_all.ensures.1 met in let fails = w.if-not-meets_all.true in cc)
]

pub returns-in-Smaller-clause-none : goal.returns-in-Smaller-clause-none
returns-in-Smaller-clause-none c =
    let stem = c.args.stem.now in
    none_under_beaten Any (size_of stem) (prefix_of stem) (partial_of stem.rows) c.requires.stem.follows c.requires.stem.short
    (of_stem (λ r xs. IsBeaten (partial_of r) xs) stem c.rows.result.now c.prefix.result.now c.rows.ensures c.prefix.ensures (c.stand-standing.ensures.beaten c.in-Smaller.is))

pub loop-k-preserved : goal.loop-k-preserved
loop-k-preserved c =
    let stem = c.args.stem.now in
    let size = c.size-k-end.ensures in
    let test = c.loop-k-test.true in
    let met = c.meets_all.ensures.0 c.if-not-meets_all.false in
    start_more stem c.loop-k.k c.stand-standing.result c.requires.stem c.requires.whole met c.in_default.not-Smaller
    (λ larger. of_stem (λ r xs. IsPassed (partial_of r) xs (c.loop-k.k + 1)) stem c.rows.result.now c.prefix.result.now c.rows.ensures c.prefix.ensures (c.stand-standing.ensures.larger larger))
    (λ place at. of_stem (λ r xs. IsOpen (partial_of r) xs (c.loop-k.k + 1)) stem c.rows.result.now c.prefix.result.now c.rows.ensures c.prefix.ensures (c.stand-standing.ensures.open place at))
    (omega (arith, size, test)) c.loop-k.invariant

pub returns-clause-least : goal.returns-clause-least
returns-clause-least c =
    let stem = c.args.stem.now in
    let positive = c.requires.stem.ready.positive in
    let size = c.size-k-end.ensures in
    let test = c.loop-k-test.false in
    let end = c.loop-k.auto.k-end in
    let grows = c.grows.ensures.0 c.if-not-grows.false in
    let met = c.meets_all.ensures.0 c.if-not-meets_all.false in
    least_of_stem stem c.requires.stem c.requires.whole grows met (subst (AreNotSmallerTo stem) (omega (arith, positive, size, test, end)) c.loop-k.invariant)
