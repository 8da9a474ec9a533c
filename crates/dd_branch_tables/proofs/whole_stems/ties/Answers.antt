use Rattle.std.proofs.Common.{◌≡◌, ◌+◌, ◌∷◌, ◌++◌, [], sym, ap, ◌∙◌, subst, arith}
use Rattle.dd_branch_tables.specs.Beaten.{IsBeaten}
use Rattle.dd_branch_tables.specs.Passed.{IsPassed}
use Rattle.dd_branch_tables.specs.Rows.{partial_of}
use Rattle.dd_branch_tables.specs.Stem.{Any, prefix_of, size_of}
use Rattle.dd_branch_tables.proofs.Leastness.{none_under_beaten}
use Rattle.dd_branch_tables.proofs.WholeStems.{AreOpenTo, of_stem, none_without_growth, none_unmet_before, open_passed, open_more, ties_of_open}
use Rattle.dd_branch_tables.proofs.whole_stems.ties.Goals as goal
use Rattle.dd_branch_tables.proofs.whole_stems.ties.Goals.{then-not-grows-via-then-not-grows, then-not-grows-via-else-not-grows+then-not-meets_all, in-Larger, in-Open+in_ok-push-in-Open}

pub returns-then-not-grows : goal.returns-then-not-grows
returns-then-not-grows c = elim c.then-not-grows.branch [
  | then-not-grows-via-then-not-grows w ↦
      none_without_growth c.args.stem.now c.requires.whole (λ grows. let test = c.grows.ensures.1 grows in let fails = w.if-not-grows.true in cc)
  | then-not-grows-via-else-not-grows+then-not-meets_all w ↦
      none_unmet_before c.args.stem.now c.requires.whole (λ met. let test = w.meets_all.ensures.1 met in let fails = w.if-not-meets_all.true in cc)
]

pub returns-in-Smaller : goal.returns-in-Smaller
returns-in-Smaller c =
    let stem = c.args.stem.now in
    none_under_beaten Any (size_of stem) (prefix_of stem) (partial_of stem.rows) c.requires.stem.follows c.requires.stem.short
    (of_stem (λ r xs. IsBeaten (partial_of r) xs) stem c.rows.result.now c.prefix.result.now c.rows.ensures c.prefix.ensures (c.stand.ensures.beaten c.in-Smaller.is))

pub loop-k-preserved : goal.loop-k-preserved
loop-k-preserved c =
    let stem = c.args.stem.now in
    let P = partial_of stem.rows in
    let k = c.loop-k.k in
    let old = c.loop-k.invariant in
    elim c.match-stand.branch [
      | in-Larger w ↦
          let passed = of_stem (λ r xs. IsPassed (partial_of r) xs (k + 1)) stem c.rows.result.now c.prefix.result.now c.rows.ensures c.prefix.ensures (c.stand.ensures.larger w.in-Larger.is) in
          subst (λ v. AreOpenTo P (prefix_of stem) (k + 1) v.items) (sym w.ties-is) (open_passed P (prefix_of stem) c.loop-k.ties.items k old passed)
      | in-Open+in_ok-push-in-Open w ↦
          let longer : c.match-stand.ties.items ≡ c.loop-k.ties.items ++ (k + 1) ∷ [] = ap (λ v. v.items) w.ties-is ∙ w.in_ok-push-in-Open.ensures.items in
          let size = c.size-k-end.ensures in
          let test = c.loop-k-test.true in
          open_more P (prefix_of stem) c.loop-k.ties.items c.match-stand.ties.items k old (omega arith) longer
    ]

pub returns : goal.returns
returns c =
    let stem = c.args.stem.now in
    let positive = c.requires.stem.ready.positive in
    let size = c.size-k-end.ensures in
    let test = c.loop-k-test.false in
    let end = c.loop-k.auto.k-end in
    let grows = c.grows.ensures.0 c.if-not-grows.false in
    let met = c.meets_all.ensures.0 c.if-not-meets_all.false in
    ties_of_open stem c.loop-k.ties.items c.requires.stem c.requires.whole grows met (subst (λ k. AreOpenTo (partial_of stem.rows) (prefix_of stem) k c.loop-k.ties.items) (omega arith) c.loop-k.invariant)
