use Rattle.std.proofs.Common.{rules, ◌≡◌, length, set, sym, subst, arith}
use Rattle.dd_branch_bounds.specs.Classes.{IsClassWeight, AreClassWeights}
use Rattle.dd_branch_bounds.proofs.ClassLemmas.{weights_for_size}
use Rattle.dd_branch_bounds.proofs.class_shares.ClassShares.for_size.Goals as goal

pub invariant_of-result-clause-are_told : goal.invariant_of-result-clause-are_told
invariant_of-result-clause-are_told c =
    let t = c.args.self.now in
    let n = c.from.result in
    let m = c.from-2.result in
    let size = c.args.size in
    let long : length t.weights ≡ 192 = search rules in
    let first = c.from.ensures in
    let second = c.from-2.ensures in
    let few = t.few in
    let asked = c.requires in
    let a = c.weight_of_class.result in
    let b = c.weight_of_class-2.result in
    subst (λ k. AreClassWeights t.request t.pair k (set (set t.weights n a) m b)) second
    (weights_for_size t.request t.pair n m a b t.weights
    (subst (λ k. AreClassWeights t.request t.pair k t.weights) (sym first) t.are_told)
    (omega (arith, long, first, few)) (omega (arith, long, second, asked))
    (subst (λ k. IsClassWeight t.request t.pair m k a) (sym first) (subst (λ k. IsClassWeight t.request t.pair k t.size a) (sym second) c.weight_of_class.ensures))
    (subst (λ k. IsClassWeight t.request t.pair k k b) (sym second) c.weight_of_class-2.ensures))
