use Rattle.std.proofs.Common.{get_or, ap, ◌∙◌, arith}
use Rattle.dd_branch_bounds.proofs.ClassLemmas.{weight_small}
use Rattle.dd_branch_bounds.proofs.class_shares.ClassShares.weight.Goals as goal

pub returns-clause-told : goal.returns-clause-told
returns-clause-told c =
    let t = c.args.self.now in
    let low = c.args.class.small in
    ap (λ k. get_or t.weights k 0) c.place.ensures.place ∙ (t.are_told.each c.args.class.number (omega (arith, low))).whole

pub returns-clause-small : goal.returns-clause-small
returns-clause-small c =
    let t = c.args.self.now in
    let k = c.place.result in
    let low = c.place.ensures.inside in
    weight_small t.request t.pair t.size k 64 (get_or t.weights k 0) (omega arith) (t.are_told.each k (omega (arith, low)))
