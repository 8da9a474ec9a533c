use Rattle.std.proofs.Common.{◌≡◌, ◌*◌, length-set, set, true, refl, sym, ap, ◌∙◌, subst, ⊎_elim, arith}
use Rattle.dd_branch_bounds.specs.Changes.{IsShareFrom}
use Rattle.dd_branch_bounds.specs.Classes.{share_in, turns_of}
use Rattle.dd_branch_bounds.proofs.ClassLemmas.{turns_open}
use Rattle.dd_branch_bounds.specs.Counted.{IsAtEnd, IsLoose}
use Rattle.dd_branch_bounds.specs.Passing.{AreEndsOf}
use Rattle.dd_branch_bounds.specs.Sides.{class_weight}
use Rattle.dd_branch_bounds.proofs.CountedLemmas.{counted_none}
use Rattle.dd_branch_bounds.proofs.PassingTables.{chambers_alone}
use Rattle.dd_branch_bounds.proofs.StartLemmas.{IsOwn, alone_of_own, others_of_own, own_more, own_none}
use Rattle.dd_branch_bounds.proofs.WriteLemmas.{view}
use Rattle.dd_branch_bounds.proofs.pair_paths.PairPaths.start.Goals as goal

pub loop-k-init : goal.loop-k-init
loop-k-init c = record { whole = refl; own = own_none c.args.shares.now c.none-ends.result 74 c.none-ends.ensures }

pub loop-k-preserved : goal.loop-k-preserved
loop-k-preserved c =
    let xs = c.loop-k.ends in
    let i = c.loop-k.invariant in
    let test = c.loop-k-test.true in
    let few = c.args.shares.now.few in
    let first = c.from.ensures in
    let second = c.from-in-loop-k.ensures in record {
      whole = length-set (set xs c.from.result _) c.from-in-loop-k.result _ ∙ length-set xs c.from.result _ ∙ i.whole;
      own = own_more c.args.shares.now xs c.loop-k.k c.from.result c.from-in-loop-k.result _ _ i.whole (omega (arith, test, few)) first second
          (sym second) c.of-class.ensures (sym first) c.of-class.ensures i.own;
    }

pub returns : goal.returns
returns c P same =
    let t = c.args.shares.now in
    let v = share_in t.weights 1 in
    let done = c.loop-k-test.false in
    let end = c.loop-k.auto.k-end in
    let all : c.loop-k.k ≡ P.size = omega (arith, done, end, same) in
    let ends = view t c.loop-k.ends in
    let weight : c.weight.result ≡ class_weight t 1 = c.weight.ensures.told ∙ ap (class_weight t) c.of-class.ensures in
    let one : class_weight t 1 ≡ v = omega arith in
    let turns : turns_of t.size 1 ≡ 1 = ⊎_elim (λ half. omega (arith, half)) (λ whole. whole.1.1) (turns_open t.size 1 (omega arith)) in
    let total : c.from-2.result * c.weight.result ≡ P.size * v = ap (λ n. n * c.weight.result) (c.from-2.ensures ∙ sym same) ∙ ap (λ w. P.size * w) (weight ∙ one) in
    record {
      sized = sym same;
      others = λ x live. others_of_own t c.loop-k.k ends x (c.loop-k.invariant.own x live);
      counted = λ s _ _. counted_none s t.pair (IsAtEnd ends) (IsLoose ends) c.none.result c.none.ensures;
      ends = subst (AreEndsOf t.request P (λ _. true) t.pair ends) (sym total)
          (chambers_alone t.request P (λ _. true) t.pair ends v (subst (λ k. IsShareFrom t.request t.pair k v) turns ((t.are_told.each 1 (omega arith)).told.with_ends (omega arith) (omega arith)))
          (λ x live. alone_of_own t P.size ends x (subst (λ k. IsOwn t k ends x) all (c.loop-k.invariant.own x live))));
    }
