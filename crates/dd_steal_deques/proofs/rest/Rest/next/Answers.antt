use Rattle.std.proofs.Common.{◌<◌, ◌∙◌, ap, arith, length}
use Rattle.std.proofs.lemmas.List.{length-set}
use Rattle.std.proofs.lemmas.List.Elements.{All-set, All-get_or}
use Rattle.dd_model.proofs.Lists.{map_set_same}
use Rattle.dd_steal_deques.specs.Hands.{hand_pushed, hand_popped, hand_passes, HasNoPasses}
use Rattle.dd_steal_deques.proofs.Changed.{same_sum, sum_set}
use Rattle.dd_steal_deques.proofs.Emptied.{not_empty, emptied_on, all_emptied, all_sums}
use Rattle.dd_steal_deques.proofs.rest.Rest.next.Goals as goal

pub returns-in-Some-clause-pushed : goal.returns-in-Some-clause-pushed
returns-in-Some-clause-pushed g c = same_sum hand_pushed _ _ (map_set_same hand_pushed _ _ _ _ c.index_mut.ensures.value c.pop.ensures.pushed ∙ c.loop-index.invariant.1)

pub returns-in-Some-clause-taken : goal.returns-in-Some-clause-taken
returns-in-Some-clause-taken g c =
    let inv = c.loop-index.invariant in
    let lt : c.loop-index.index < length c.loop-index.self.hands.items = omega (arith, c.loop-index-test.true, c.len-index-end.ensures, inv.0) in
    let sum = sum_set hand_popped c.loop-index.self.hands.items c.loop-index.index _ c.pop.new.self lt c.index_mut.ensures.value in
    omega (arith, sum, same_sum hand_popped _ _ inv.2, c.in-Some.ensures.popped)

pub returns-in-Some-clause-rest : goal.returns-in-Some-clause-rest
returns-in-Some-clause-rest g c =
    let inv = c.loop-index.invariant in
    let lt : c.loop-index.index < length c.loop-index.self.hands.items = omega (arith, c.loop-index-test.true, c.len-index-end.ensures, inv.0) in
    not_empty c.loop-index.self.hands.items c.args.self.now.hands.items c.loop-index.index _ lt inv.1 inv.2 c.index_mut.ensures.value c.in-Some.ensures.within

pub loop-index-preserved : goal.loop-index-preserved
loop-index-preserved g c =
    let inv = c.loop-index.invariant in
    let hands = c.loop-index.self.hands.items in
    let lt : c.loop-index.index < length hands = omega (arith, c.loop-index-test.true, c.len-index-end.ensures, inv.0) in
    let value = c.index_mut.ensures.value in
    let none : HasNoPasses c.index_mut.result.now = ap (λ h. hand_passes h) value ∙ All-get_or HasNoPasses hands c.loop-index.index _ lt inv.3 in (
      length-set hands c.loop-index.index c.pop.new.self ∙ inv.0,
      map_set_same hand_pushed _ _ _ _ value c.pop.ensures.pushed ∙ inv.1,
      map_set_same hand_popped _ _ _ _ value c.in-None.ensures.popped ∙ inv.2,
      All-set HasNoPasses hands c.loop-index.index c.pop.new.self (ap (λ p. p.passes) c.pop.ensures.place ∙ none) inv.3,
      emptied_on hands c.loop-index.index _ c.pop.new.self lt value c.in-None.ensures.popped c.pop.ensures.pushed (c.in-None.ensures.within none) inv.4,
    )

pub returns-clause-pushed : goal.returns-clause-pushed
returns-clause-pushed g c = same_sum hand_pushed _ _ c.loop-index.invariant.1

pub returns-clause-taken : goal.returns-clause-taken
returns-clause-taken g c = same_sum hand_popped _ _ c.loop-index.invariant.2

pub returns-clause-rest : goal.returns-clause-rest
returns-clause-rest g c =
    let inv = c.loop-index.invariant in
    all_emptied c.loop-index.self.hands.items c.args.self.now.hands.items inv.1 inv.2 (λ k lt. inv.4 k (omega (arith, lt, c.loop-index-test.false, c.len-index-end.ensures)))

pub returns-clause-all : goal.returns-clause-all
returns-clause-all g c =
    let inv = c.loop-index.invariant in
    all_sums c.args.self.now.hands.items (all_emptied c.loop-index.self.hands.items c.args.self.now.hands.items inv.1 inv.2 (λ k lt. inv.4 k (omega (arith, lt, c.loop-index-test.false, c.len-index-end.ensures))))
