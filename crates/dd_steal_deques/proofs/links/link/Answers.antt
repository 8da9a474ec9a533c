use Rattle.std.proofs.Common.{◌≡◌, ◌+◌, ◌<◌, ℕ, [], length, map, All, sum_by, slice_set, slice_index_or, subst, refl, sym, ◌∙◌, ap, arith, ⊎_elim}
use Rattle.std.proofs.lemmas.Bool.{cases_eq}
use Rattle.std.proofs.lemmas.List.{length-map}
use Rattle.std.proofs.lemmas.List.Elements.{All-set, All-get_or}
use Rattle.dd_model.proofs.Lists.{map_set_same}
use Rattle.dd_steal_deques.specs.Ends.{owner_deque, owner_passes, owner_taken, way_taken}
use Rattle.dd_steal_deques.specs.Hands.{hand_deck, hand_core, hand_ends, hand_passes, way_end, IsNew}
use Rattle.dd_steal_deques.specs.Numbers.{times}
use Rattle.dd_steal_deques.specs.Places.{LeadsInto, others}
use Rattle.dd_steal_deques.proofs.Changed.{map_set_at, map_set_else, map_through, same_length, map_at, item_at}
use Rattle.dd_steal_deques.proofs.Linked.{AreWays, linked, all_new}
use Rattle.dd_steal_deques.proofs.Others.{times_other, times_itself}
use Rattle.dd_steal_deques.proofs.links.link.Goals as goal

pub loop-index-init : goal.loop-index-init
loop-index-init g c = (
  refl,
  λ room new. new,
  λ k below lt. absurd (omega (arith, below)),
  λ k from lt.
      let h = item_at c.args.hands.now.items k lt in
      map_at hand_passes c.args.hands.now.items k h.0 0 lt h.1 ∙ ap hand_passes h.1 ∙ c.requires.alone k h.0 lt,
  λ k below. absurd (omega (arith, below)),
)

pub index_mut-requires : goal.index_mut-requires
index_mut-requires g c =
    let same = same_length hand_core c.ways_for.new.hands.items c.loop-index.hands.items c.ways_for.ensures.same in
    let first = same_length hand_deck c.loop-index.hands.items c.args.hands.now.items c.loop-index.invariant.0 in
    omega (arith, same, first, c.loop-index-test.true, c.len-index-end.ensures, c.ways_for.new.hands.ok.0)

pub loop-index-preserved : goal.loop-index-preserved
loop-index-preserved g c =
    let inv = c.loop-index.invariant in
    let before = c.args.hands.now.items in
    let hands = c.loop-index.hands.items in
    let made = c.ways_for.new.hands.items in
    let i = c.loop-index.index in
    let y = c.give_ways.new.self in
    let same = same_length hand_core made hands c.ways_for.ensures.same in
    let first = same_length hand_deck hands before inv.0 in
    let within : i < length made = omega (arith, same, first, c.loop-index-test.true, c.len-index-end.ensures) in
    let value = c.index_mut.ensures.value in
    let owner = c.give_ways.ensures.owner in
    let decks = map_through (λ core. core.0) hand_core made hands c.ways_for.ensures.same ∙ inv.0 in
    let ends = map_through (λ core. map way_end core.4) hand_core made hands c.ways_for.ensures.same in
    let passes = map_set_same hand_passes made i _ y value (ap owner_passes owner) in
    let kept = λ (k : ℕ). ap (λ ps. slice_index_or ps k 0) passes in
    let count : length before ≡ length hands = sym first in (
      map_set_same hand_deck made i _ y value (ap owner_deque owner) ∙ decks,
      λ room new.
          let old = all_new room made hands c.ways_for.ensures.same (inv.1 room new) in
          let x = All-get_or (IsNew room) made i _ within old in
          let mine : IsNew room c.index_mut.result.now = subst (IsNew room) (sym value) x in
          let fresh : IsNew room y = record {
            has_room = ap (λ o. o.room) owner ∙ mine.has_room;
            pushed = ap (λ o. o.pushed) owner ∙ mine.pushed;
            popped = ap owner_taken owner ∙ mine.popped;
            stolen = ap (λ w. sum_by way_taken w.items) c.give_ways.ensures.ways ∙ c.in_ok-ways.ensures.none;
          } in
          All-set (IsNew room) made i y fresh old,
      λ k below klt.
          ⊎_elim
          (λ (here : k ≡ i).
          let none : times (k + 1) (others (i + 1) (length hands)) ≡ 0 = ap (λ j. times (j + 1) (others (i + 1) (length hands))) here ∙ times_itself (i + 1) (length hands) in
          omega (arith, here, kept k, c.in_ok-ways.ensures.passes k (omega (arith, klt, first)), none, inv.3 k (omega (arith, here)) klt))
          (λ (apart : k ≡ i → ⊥).
          let one = times_other k (i + 1) (length hands) (omega (arith, klt, first)) (λ is. apart (omega (arith, is))) in
          omega (arith, kept k, c.in_ok-ways.ensures.passes k (omega (arith, klt, first)), one, inv.2 k (omega (arith, below, apart)) klt))
          (cases_eq k i),
      λ k from klt.
          let one = times_other k (i + 1) (length hands) (omega (arith, klt, first)) (λ is. absurd (omega (arith, is, from))) in
          omega (arith, kept k, c.in_ok-ways.ensures.passes k (omega (arith, klt, first)), one, inv.3 k (omega (arith, from)) klt),
      λ k below.
          ⊎_elim
          (λ (here : k ≡ i).
          let row : slice_index_or (map hand_ends (slice_set made i y)) k [] ≡ map way_end c.in_ok-ways.ways.items =
          ap (λ j. slice_index_or (map hand_ends (slice_set made i y)) j []) here ∙ map_set_at hand_ends made i y [] within ∙ ap (λ w. map way_end w.items) c.give_ways.ensures.ways in
          let mine : AreWays (map hand_deck before) (i + 1) (map way_end c.in_ok-ways.ways.items) = record {
            others = c.in_ok-ways.ensures.froms ∙ ap (λ m. others (i + 1) m) (first ∙ sym (length-map before hand_deck));
            into = subst (λ ds. All (LeadsInto ds) (map way_end c.in_ok-ways.ways.items)) inv.0 c.in_ok-ways.ensures.into;
          } in
          subst (AreWays (map hand_deck before) (k + 1)) (sym row) (subst (λ j. AreWays (map hand_deck before) (j + 1) (map way_end c.in_ok-ways.ways.items)) (sym here) mine))
          (λ (apart : k ≡ i → ⊥).
          let row : slice_index_or (map hand_ends (slice_set made i y)) k [] ≡ slice_index_or (map hand_ends hands) k [] = map_set_else hand_ends made i y k [] apart ∙ ap (λ es. slice_index_or es k []) ends in
          subst (AreWays (map hand_deck before) (k + 1)) (sym row) (inv.4 k (omega (arith, below, apart))))
          (cases_eq k i),
    )

pub returns-clause-rack : goal.returns-clause-rack
returns-clause-rack g c =
    let inv = c.loop-index.invariant in
    let hands = c.loop-index.hands.items in
    let first = same_length hand_deck hands c.args.hands.now.items inv.0 in
    let n = c.loop-index.index in
    linked hands n (omega (arith, c.loop-index-test.false, c.len-index-end.ensures, first, c.loop-index.auto.index-end))
    (λ k lt. inv.2 k lt (omega (arith, lt, c.loop-index.auto.index-end, c.len-index-end.ensures)))
    (λ k lt. subst (λ ds. AreWays ds (k + 1) (slice_index_or (map hand_ends hands) k [])) (sym inv.0) (inv.4 k lt))
