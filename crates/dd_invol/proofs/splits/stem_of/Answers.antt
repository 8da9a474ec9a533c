use Rattle.std.proofs.Common.{◌≡◌, ◌+◌, ◌++◌, ◌∷◌, [], get_or, take, sym, ap, ◌∙◌, subst, arith}
use Rattle.std.proofs.lemmas.List.{take_more}
use Rattle.dd_branch_tables.specs.Stem.{Any, prefix_of}
use Rattle.dd_front_jobs.specs.Under.{HasNothingUnder}
use Rattle.dd_branch_tables.proofs.Extensions.{none_under_front}
use Rattle.dd_invol.proofs.splits.stem_of.Goals as goal

pub returns-then-not-enter : goal.returns-then-not-enter
returns-then-not-enter c =
    let n = c.args.job.now.size in
    let i = c.loop-number.number-index in
    let stem = c.loop-number.stem in
    let xs = c.as_slice-prefix.result.now in
    let x = get_or xs i 0 in
    let one : HasNothingUnder Any n (prefix_of stem ++ x ∷ []) = subst (λ m. HasNothingUnder Any m (prefix_of stem ++ x ∷ [])) c.loop-number.invariant.size c.if-not-enter.ensures.dead in
    let grown : prefix_of stem ++ x ∷ [] ≡ take (i + 1) c.args.job.now.prefix =
    ap (λ ys. ys ++ x ∷ []) c.loop-number.invariant.prefix ∙ sym (take_more xs i 0 (omega arith)) ∙ ap (take (i + 1)) c.as_slice-prefix.ensures in
    none_under_front n (i + 1) c.args.job.now.prefix (subst (HasNothingUnder Any n) grown one)
