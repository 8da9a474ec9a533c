use Rattle.std.proofs.Common.{◌≡◌, ◌+◌, ◌-◌, ◌<◌, ◌++◌, ◌∷◌, [], All, length, map, subst, sym, ◌∙◌, ap, arith, sum_by, Some, slice_get}
use Rattle.std.proofs.lemmas.List.{map-append}
use Rattle.std.proofs.lemmas.List.Sums.{sum_by_push}
use Rattle.dd_model.proofs.Lists.{map_set_same}
use Rattle.dd_steal_deques.specs.Ends.{way_taken}
use Rattle.dd_steal_deques.specs.Hands.{hand_deck, hand_core, hand_passes, way_end}
use Rattle.dd_steal_deques.specs.Places.{LeadsInto, others}
use Rattle.dd_steal_deques.proofs.Changed.{same_length, more_at, map_through, map_get, all_snoc}
use Rattle.dd_steal_deques.proofs.Others.{others_more, times_more}
use Rattle.dd_steal_deques.proofs.links.ways_for.Goals as goal

pub returns-in_err-way-clause-same : goal.returns-in_err-way-clause-same
returns-in_err-way-clause-same g c = map_set_same hand_core _ _ _ _ c.index_mut.ensures.value c.way.ensures.same ∙ c.loop-other.invariant.0

pub returns-in_err-push-clause-same : goal.returns-in_err-push-clause-same
returns-in_err-push-clause-same g c = map_set_same hand_core _ _ _ _ c.index_mut.ensures.value c.way.ensures.same ∙ c.loop-other.invariant.0

pub loop-other-preserved : goal.loop-other-preserved
loop-other-preserved g c =
    let inv = c.loop-other.invariant in
    let hands = c.loop-other.hands.items in
    let other = c.loop-other.other in
    let way = c.in_ok-way.way in
    let value = c.index_mut.ensures.value in
    let lt : other < length hands = omega (arith, c.loop-other-test.true, c.len-other-end.ensures, same_length hand_core hands c.args.hands.now.items inv.0) in
    let apart = λ (is : other + 1 ≡ c.args.index + 1). c.if-other-index.false (omega (arith, is)) in
    let items = c.in_ok-push.ensures.items in
    let decks = map_through (λ core. core.0) hand_core hands c.args.hands.now.items inv.0 in
    let into : slice_get (map hand_deck c.args.hands.now.items) (way.from - 1) ≡ Some (way_end way).deck =
    let place : way.from - 1 ≡ other = omega (arith, c.in_ok-way.ensures.from) in
    ap (slice_get (map hand_deck c.args.hands.now.items)) place ∙ ap (λ ds. slice_get ds other) (sym decks) ∙ map_get hand_deck hands other _ lt value ∙ ap Some (sym c.in_ok-way.ensures.deck) in
    let ends = ap (map way_end) items ∙ map-append way_end c.loop-other.ways.items (way ∷ []) in (
      map_set_same hand_core _ _ _ _ value c.way.ensures.same ∙ inv.0,
      λ k within. omega (arith, more_at hand_passes hands other _ c.way.new.self lt value c.in_ok-way.ensures.passes k, inv.1 k within, times_more (k + 1) (c.args.index + 1) other apart),
      ap (map (λ e. e.from)) ends ∙ map-append (λ e. e.from) (map way_end c.loop-other.ways.items) (way_end way ∷ []) ∙ ap (λ ns. ns ++ way.from ∷ []) inv.2
          ∙ ap (λ n. others (c.args.index + 1) other ++ n ∷ []) c.in_ok-way.ensures.from ∙ sym (others_more (c.args.index + 1) other apart),
      subst (All (LeadsInto (map hand_deck c.args.hands.now.items))) (sym ends) (all_snoc (LeadsInto (map hand_deck c.args.hands.now.items)) (map way_end c.loop-other.ways.items) (way_end way) inv.3 (record { counted = omega (arith, c.in_ok-way.ensures.from); into = into })),
      omega (arith, ap (sum_by way_taken) items, sum_by_push way_taken c.loop-other.ways.items way, inv.4, c.in_ok-way.ensures.none),
    )
