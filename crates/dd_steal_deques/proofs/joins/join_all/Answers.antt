use Rattle.std.proofs.Common.{◌≡◌, ◌≢◌, ◌+◌, ◌<◌, ℕ, length, map, drop, All, slice_index_or, subst, refl, sym, ◌∙◌, ap, arith, ⊎_elim}
use Rattle.std.proofs.lemmas.Bool.{cases_eq}
use Rattle.std.proofs.lemmas.List.{get_or-map, length-map}
use Rattle.dd_model.proofs.Lists.{map_set_same}
use Rattle.dd_steal_deques.specs.Ends.{owner_deque, owner_passes, owner_taken}
use Rattle.dd_steal_deques.specs.Hands.{hand_deck, hand_ways, hand_pushed, hand_popped, hand_passes, way_end}
use Rattle.dd_steal_deques.specs.Numbers.{times}
use Rattle.dd_steal_deques.specs.Places.{LeadsInto, others}
use Rattle.dd_steal_deques.proofs.Changed.{same_length, same_sum, map_at, item_at}
use Rattle.dd_steal_deques.proofs.Linked.{ways_in_rack}
use Rattle.dd_steal_deques.proofs.Joined.{same_next, drop_set, next_row, row_ways, row_sum}
use Rattle.dd_steal_deques.proofs.Others.{times_other}
use Rattle.dd_steal_deques.proofs.joins.join_all.Goals as goal

pub loop-index-init : goal.loop-index-init
loop-index-init g c = (
  refl,
  refl,
  refl,
  refl,
  λ k below lt. absurd (omega (arith, below)),
  λ k from lt.
      let h = item_at c.args.hands.now.items k lt in
      let whole = (ways_in_rack c.args.hands.now.items c.requires k h.0 lt h.1).1 in
      omega (arith, whole, map_at hand_passes c.args.hands.now.items k h.0 0 lt h.1),
)

pub join_ways-requires : goal.join_ways-requires
join_ways-requires g c =
    let inv = c.loop-index.invariant in
    let before = c.args.hands.now.items in
    let hands = c.loop-index.hands.items in
    let i = c.loop-index.index in
    let lt : i < length before = omega (arith, c.loop-index-test.true, c.len-index-end.ensures) in
    let within : i < length hands = omega (arith, lt, same_length hand_deck hands before inv.0) in
    let row = next_row hands before i _ c.take_ways-ways.result.items lt within c.index_mut.ensures.value c.take_ways-ways.ensures.ways inv.2 in
    let decks = map_set_same hand_deck hands i _ c.take_ways-ways.new.self c.index_mut.ensures.value (ap owner_deque c.take_ways-ways.ensures.owner) ∙ inv.0 in
    subst (λ ds. All (LeadsInto ds) (map way_end c.take_ways-ways.result.items)) (sym decks) (row_ways before i c.take_ways-ways.result.items c.requires lt row).into

pub loop-index-preserved : goal.loop-index-preserved
loop-index-preserved g c =
    let inv = c.loop-index.invariant in
    let before = c.args.hands.now.items in
    let hands = c.loop-index.hands.items in
    let i = c.loop-index.index in
    let ws = c.take_ways-ways.result.items in
    let n = length before in
    let lt : i < length before = omega (arith, c.loop-index-test.true, c.len-index-end.ensures) in
    let within : i < length hands = omega (arith, lt, same_length hand_deck hands before inv.0) in
    let value = c.index_mut.ensures.value in
    let owner = c.take_ways-ways.ensures.owner in
    let row = next_row hands before i _ ws lt within value c.take_ways-ways.ensures.ways inv.2 in
    let decks = map_set_same hand_deck hands i _ c.take_ways-ways.new.self value (ap owner_deque owner) ∙ inv.0 in
    let pushed = map_set_same hand_pushed hands i _ c.take_ways-ways.new.self value (ap (λ o. o.pushed) owner) ∙ inv.1 in
    let popped = same_sum hand_popped _ _ (map_set_same hand_popped hands i _ c.take_ways-ways.new.self value (ap owner_taken owner)) in
    let passes = map_set_same hand_passes hands i _ c.take_ways-ways.new.self value (ap owner_passes owner) in
    let mine = (row_ways before i ws c.requires lt row).others in
    let kept = λ (k : ℕ). ap (λ ps. slice_index_or ps k 0) passes in
    let less = λ (k : ℕ) (below : k < n) (apart : k + 1 ≢ i + 1).
    ap (times (k + 1)) mine ∙ ap (λ m. times (k + 1) (others (i + 1) m)) (length-map before hand_deck) ∙ times_other k (i + 1) n below apart in (
      c.join_ways.ensures.decks ∙ decks,
      c.join_ways.ensures.pushed ∙ pushed,
      ap (drop (i + 1)) c.join_ways.ensures.ways ∙ drop_set hand_ways hands i c.take_ways-ways.new.self ∙ same_next (map hand_ways hands) (map hand_ways before) i inv.2,
      omega (arith, c.join_ways.ensures.popped, popped, row_sum before i ws lt row, inv.3),
      λ k below klt.
          ⊎_elim
          (λ (here : k ≡ i). omega (arith, here, c.join_ways.ensures.passes k, kept k, inv.5 k (omega (arith, here)) klt))
          (λ (apart : k ≡ i → ⊥). omega (arith, c.join_ways.ensures.passes k, kept k, less k klt (λ is. apart (omega (arith, is))), inv.4 k (omega (arith, below, apart)) klt, lt))
          (cases_eq k i),
      λ k from klt. omega (arith, c.join_ways.ensures.passes k, kept k, less k klt (λ is. absurd (omega (arith, is, from))), inv.5 k (omega (arith, from)) klt, from, klt),
    )

pub returns-clause-passes : goal.returns-clause-passes
returns-clause-passes g c = λ k d lt.
    let inv = c.loop-index.invariant in
    let same = same_length hand_deck c.loop-index.hands.items c.args.hands.now.items inv.0 in
    let none = inv.4 k (omega (arith, lt, same, c.loop-index-test.false, c.len-index-end.ensures)) (omega (arith, lt, same)) in
    omega (arith, none, get_or-map hand_passes c.loop-index.hands.items k d 0 lt, c.loop-index-test.false, c.len-index-end.ensures)
