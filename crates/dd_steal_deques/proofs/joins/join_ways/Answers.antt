use Rattle.std.proofs.Common.{◌≡◌, ◌+◌, ℕ, List, ◌∷◌, All, map, subst, sym, ◌∙◌, ap, arith, sum_by}
use Rattle.std.proofs.lemmas.List.{nil_from_length}
use Rattle.std.proofs.lemmas.List.Sums.{sum_by-cons}
use Rattle.dd_steal_deques.specs.Hands.{hand_deck, way_end}
use Rattle.dd_steal_deques.specs.Ends.{way_taken}
use Rattle.dd_steal_deques.specs.Numbers.{times}
use Rattle.dd_front.specs.declared.naming.Naming.{Ghosts}
use Rattle.dd_steal_deques.specs.declared.way.Way.{Way}
use Rattle.dd_steal_deques.specs.Places.{LeadsInto}
use Rattle.dd_steal_deques.proofs.Changed.{all_head, all_tail}
use Rattle.dd_steal_deques.proofs.joins.join_ways.Goals as goal

abbrev froms_times : {N : Type 0} {names : Ghosts N} → ℕ → List (Way N names) → ℕ
froms_times k ways = times k (map (λ e. e.from) (map way_end ways))

pub join_way-requires : goal.join_way-requires
join_way-requires g c =
    let inv = c.loop-way.invariant in
    let left = subst (λ ws. All (LeadsInto (map hand_deck c.args.hands.now.items)) (map way_end ws)) c.in-Some.ensures.steps.0 inv.5 in
    subst (λ ds. LeadsInto ds (way_end c.in-Some.way)) (sym inv.0) (all_head (LeadsInto (map hand_deck c.args.hands.now.items)) (way_end c.in-Some.way) (map way_end c.next.new.self.rest.items) left)

pub loop-way-preserved : goal.loop-way-preserved
loop-way-preserved g c =
    let inv = c.loop-way.invariant in
    let steps = c.in-Some.ensures.steps.0 in
    let rest = c.next.new.self.rest.items in
    let left = subst (λ ws. All (LeadsInto (map hand_deck c.args.hands.now.items)) (map way_end ws)) steps inv.5 in
    let sum : sum_by way_taken c.loop-way.way-iterator.rest.items ≡ way_taken c.in-Some.way + sum_by way_taken rest = ap (sum_by way_taken) steps ∙ sum_by-cons way_taken c.in-Some.way rest in (
      c.join_way.ensures.decks ∙ inv.0,
      c.join_way.ensures.ways ∙ inv.1,
      c.join_way.ensures.pushed ∙ inv.2,
      omega (arith, c.join_way.ensures.popped, inv.3, sum),
      λ k.
          let all : froms_times (k + 1) c.loop-way.way-iterator.rest.items ≡ froms_times (k + 1) (c.in-Some.way ∷ rest) = ap (froms_times (k + 1)) steps in
          omega (arith, all, c.join_way.ensures.passes k, inv.4 k),
      all_tail (LeadsInto (map hand_deck c.args.hands.now.items)) (way_end c.in-Some.way) (map way_end rest) left,
    )

pub returns-clause-passes : goal.returns-clause-passes
returns-clause-passes g c = λ k.
    let nothing = nil_from_length c.loop-way.way-iterator.rest.items (sym c.loop-way.way-iterator.rest.ok.0 ∙ c.in-None.ensures.steps.0) in
    let none : froms_times (k + 1) c.loop-way.way-iterator.rest.items ≡ 0 = ap (froms_times (k + 1)) nothing in
    omega (arith, none, c.loop-way.invariant.4 k)
