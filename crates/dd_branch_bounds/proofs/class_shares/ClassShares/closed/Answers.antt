use Rattle.std.proofs.Common.{◌≡◌, ◌+◌, ◌*◌, ◌/◌, ◌%◌, ◌<◌, get_or, ap, ◌∙◌, arith}
use Rattle.dd_branch_bounds.specs.Classes.{share_in}
use Rattle.dd_branch_bounds.proofs.ClassLemmas.{chain_share, cycle_share, weight_at}
use Rattle.dd_branch_bounds.proofs.class_shares.ClassShares.closed.Goals as goal

pub returns-then-place-ge64-clause-told : goal.returns-then-place-ge64-clause-told
returns-then-place-ge64-clause-told c =
    let t = c.args.self.now in
    let a = c.args.class.number in
    let low = c.args.class.small in
    let place = c.place-place.ensures.place in
    let over = c.if-place-ge64.true in
    record {
      share = share_in t.weights (a + 64);
      right = chain_share t a (omega (arith, place, over)) low;
      all = ap (λ k. get_or t.weights (k + 64) 0) place ∙ weight_at t (a + 64) (a % 64) (omega (arith, low)) (omega arith);
    }

pub returns-clause-told : goal.returns-clause-told
returns-clause-told c =
    let t = c.args.self.now in
    let a = c.args.class.number in
    let place = c.place-place.ensures.place in
    let over = c.if-place-ge64.false in
    let odd = c.if-place-eq1.false in
    let low : a < 64 = omega (arith, place, over) in
    let even : a % 2 ≡ 0 = omega (arith, place, odd) in
    let v = share_in t.weights (128 + a / 2) in
    let half : get_or t.weights (128 + c.place-place.result / 2) 0 ≡ a / 2 * v =
    ap (λ k. get_or t.weights (128 + k / 2) 0) place ∙ weight_at t (128 + a / 2) (a / 2) (omega (arith, low)) (omega (arith, low)) in
    let twice : 2 * (a / 2 * v) ≡ a % 64 * v = (let two : 2 * (a / 2) ≡ a % 64 = omega (arith, low, even) in omega arith ∙ ap (λ n. n * v) two) in
    record {
      share = v;
      right = cycle_share t a low even;
      all = ap (λ w. 2 * w) half ∙ twice;
    }
