use Rattle.std.proofs.Common.{◌≡◌, ◌+◌, ◌%◌, get_or, ap, ◌∙◌, arith}
use Rattle.dd_branch_bounds.specs.Classes.{share_in}
use Rattle.dd_branch_bounds.proofs.ClassLemmas.{joined_share, weight_at, weight_small}
use Rattle.dd_branch_bounds.proofs.class_shares.ClassShares.joined.Goals as goal

pub returns-clause-told : goal.returns-clause-told
returns-clause-told c =
    let t = c.args.self.now in
    let a = c.args.one.number in
    let b = c.args.other.number in
    let few = c.requires.few in
    let first = c.args.one.small in
    let second = c.args.other.small in
    let same : (a + b) % 64 ≡ a % 64 + b % 64 = omega (arith, few) in
    record {
      share = share_in t.weights (a + b);
      right = joined_share t a b first second few;
      all = ap (λ k. get_or t.weights (k + c.place-2.result) 0) c.place.ensures.place ∙ ap (λ k. get_or t.weights (a + k) 0) c.place-2.ensures.place
          ∙ weight_at t (a + b) (a % 64 + b % 64) (omega (arith, few, first, second)) same;
    }

pub returns-clause-small : goal.returns-clause-small
returns-clause-small c =
    let t = c.args.self.now in
    let few = c.requires.few in
    let one = c.place.ensures.place in
    let other = c.place-2.ensures.place in
    let first = c.args.one.small in
    let second = c.args.other.small in
    let k = c.place.result + c.place-2.result in
    weight_small t.request t.pair t.size k 64 (get_or t.weights k 0) (omega arith) (t.are_told.each k (omega (arith, few, one, other, first, second)))
