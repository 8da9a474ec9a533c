use Rattle.std.proofs.Common.{◌≡◌, refl, subst, ⊎_elim, arith}
use Rattle.std.proofs.lemmas.Bool.{cases_lt}
use Rattle.dd_model.specs.Isomorphic.{IsIsomorphism}
use Rattle.dd_plain.specs.Choices.{choices, chamber_table}
use Rattle.dd_plain.proofs.LeastLemmas.{least_from_numbers}
use Rattle.dd_plain.proofs.leastness.is_least.Goals as goal

pub loop-number-preserved : goal.loop-number-preserved
loop-number-preserved c k below t it iso =
    ⊎_elim
    (λ before. c.loop-number.invariant k before t it iso)
    (λ last. let here : k ≡ c.loop-number.number = omega arith in
    let this = rw c.if-branch.false at c.in_ok-is_beaten_by.ensures.unbeaten in
    this t it (subst (λ j. IsIsomorphism c.args.symbol.now t (choices chamber_table c.args.symbol.now.size j)) here iso))
    (cases_lt k c.loop-number.number)

pub returns : goal.returns
returns c = ((λ _. least_from_numbers c.args.symbol.now c.requires (λ k h. c.loop-number.invariant k (omega arith))), (λ _. refl))
