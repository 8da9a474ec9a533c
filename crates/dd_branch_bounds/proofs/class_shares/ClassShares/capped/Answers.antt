use Rattle.std.proofs.Common.{◌≡◌, ◌+◌, ◌%◌, get_or, ap, ◌∙◌, arith}
use Rattle.dd_branch_bounds.specs.Classes.{share_in}
use Rattle.dd_branch_bounds.proofs.ClassLemmas.{capped_share, weight_at, weight_small}
use Rattle.dd_branch_bounds.proofs.class_shares.ClassShares.capped.Goals as goal

pub returns-clause-told : goal.returns-clause-told
returns-clause-told c =
    let t = c.args.self.now in
    let a = c.args.class.number in
    let low = c.args.class.small in
    let same : (a + 64) % 64 ≡ a % 64 = omega arith in
    record {
      share = share_in t.weights (a + 64);
      right = capped_share t a low;
      all = ap (λ k. get_or t.weights (k + 64) 0) c.place.ensures.place ∙ weight_at t (a + 64) (a % 64) (omega (arith, low)) same;
    }

pub returns-clause-small : goal.returns-clause-small
returns-clause-small c =
    let t = c.args.self.now in
    let k = c.place.result + 64 in
    let low = c.place.ensures.inside in
    weight_small t.request t.pair t.size k 64 (get_or t.weights k 0) (omega arith) (t.are_told.each k (omega (arith, low)))
