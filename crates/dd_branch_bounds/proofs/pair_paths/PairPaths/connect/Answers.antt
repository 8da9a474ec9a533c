use Rattle.std.proofs.Common.{rules, ◌≡◌, ℕ, ◌+◌, ◌/◌, ◌%◌, ◌≤◌, List, Some, length, slice_get, true, refl, sym, ap, ◌∙◌, arith}
use Rattle.dd_branch_bounds.specs.PathEnd.{PathEnd}
use Rattle.dd_branch_bounds.specs.Sides.{end_of}
use Rattle.dd_branch_bounds.specs.declared.class_shares.ClassShares.{ClassShares}
use Rattle.dd_branch_bounds.specs.declared.end.End.{End}
use Rattle.dd_branch_bounds.proofs.KeptLemmas.{live_end, connected_kept, connected_rest}
use Rattle.dd_branch_bounds.proofs.SideLemmas.{AreTwoEnds, right_connected}
use Rattle.dd_branch_bounds.proofs.SumLemmas.{total_small, weights_within, few_chambers, none_with_weight}
use Rattle.dd_branch_bounds.proofs.WriteLemmas.{view}
use Rattle.dd_branch_bounds.proofs.pair_paths.PairPaths.connect.Goals as goal

two_live : (t : ClassShares) (xs : List End) (x y : ℕ) (one other : End) → slice_get xs x ≡ Some one → slice_get xs y ≡ Some other → 1 ≤ (view t xs x).chambers → 1 ≤ (view t xs y).chambers
    → (y ≡ x → ⊥) → (y ≡ (view t xs x).other → ⊥) → AreTwoEnds t (view t xs) x one.other one.class.number y other.other other.class.number
two_live t xs x y one other first second live living apart no_other = record {
  one = live_end t xs x one first live;
  other = live_end t xs y other second living;
  apart = apart;
  no_other = λ same. no_other (same ∙ ap (λ (e : PathEnd). e.other) (sym (ap (end_of t) first)));
}

pub joined-class-requires : goal.joined-class-requires
joined-class-requires c =
    let has = c.requires.some in
    let t = c.args.shares.now in
    let r = c.requires in
    let two = two_live t c.args.self.now.ends c.args.x.number c.args.y.number c.end-one.result c.end-other.result c.end-one.ensures c.end-other.ensures r.first_end r.second_end r.apart r.no_other in
    let few = few_chambers t has.partial c.args.self.now has.kept two in
    omega (arith, few)

pub joined-together-requires : goal.joined-together-requires
joined-together-requires c =
    let has = c.requires.some in
    let t = c.args.shares.now in
    let r = c.requires in
    let two = two_live t c.args.self.now.ends c.args.x.number c.args.y.number c.end-one.result c.end-other.result c.end-one.ensures c.end-other.ensures r.first_end r.second_end r.apart r.no_other in
    let few = few_chambers t has.partial c.args.self.now has.kept two in
    record { few = omega (arith, few) }

pub add_joined-requires-clause-few : goal.add_joined-requires-clause-few
add_joined-requires-clause-few c =
    let has = c.requires.some in
    let t = c.args.shares.now in
    let r = c.requires in
    let two = two_live t c.args.self.now.ends c.args.x.number c.args.y.number c.end-one.result c.end-other.result c.end-one.ensures c.end-other.ensures r.first_end r.second_end r.apart r.no_other in
    let few = few_chambers t has.partial c.args.self.now has.kept two in
    omega (arith, few)

pub overflow_add-had : goal.overflow_add-had
overflow_add-had c =
    let has = c.requires.some in
    let t = c.args.shares.now in
    let r = c.requires in
    let two = two_live t c.args.self.now.ends c.args.x.number c.args.y.number c.end-one.result c.end-other.result c.end-one.ensures c.end-other.ensures r.first_end r.second_end r.apart r.no_other in
    let within = weights_within t has.partial c.args.self.now has.kept two in
    let total = total_small t has.partial c.args.self.now has.kept in
    let one = c.weight.ensures.told in
    let other = c.weight-2.ensures.told in
    omega (arith, within, total, one, other)

pub total_after-self-requires-clause-total : goal.total_after-self-requires-clause-total
total_after-self-requires-clause-total c = let has = c.requires.some in total_small c.args.shares.now has.partial c.args.self.now has.kept

pub total_after-self-requires-clause-had : goal.total_after-self-requires-clause-had
total_after-self-requires-clause-had c =
    let has = c.requires.some in
    let t = c.args.shares.now in
    let r = c.requires in
    let two = two_live t c.args.self.now.ends c.args.x.number c.args.y.number c.end-one.result c.end-other.result c.end-one.ensures c.end-other.ensures r.first_end r.second_end r.apart r.no_other in
    let within = weights_within t has.partial c.args.self.now has.kept two in
    let one = c.weight.ensures.told in
    let other = c.weight-2.ensures.told in
    omega (arith, within, one, other)

pub returns-clause-side : goal.returns-clause-side
returns-clause-side c P join kept =
    let has = c.requires.some in
    let t = c.args.shares.now in
    let xs = c.args.self.now.ends in
    let r = c.requires in
    let one = c.end-one.result in
    let other = c.end-other.result in
    let v = c.joined-together.ensures.told.share in
    let two = two_live t xs c.args.x.number c.args.y.number one other c.end-one.ensures c.end-other.ensures r.first_end r.second_end r.apart r.no_other in
    let few = few_chambers t has.partial c.args.self.now has.kept two in
    let long : length xs ≡ 74 = search rules in
    let class = c.joined-class.ensures in
    let all = c.joined-together.ensures.told.all in
    let sum = c.total_after-self.ensures in
    let first = c.weight.ensures.told in
    let second = c.weight-2.ensures.told in
    let rest = connected_rest t P (λ _. true) xs c.args.self.now.total kept.ends kept.others long c.args.x.number one c.args.x.small
    c.args.self.now.census c.add_joined.new.self v c.joined-together.result c.args.y.number other two kept.sized c.args.y.small few
    c.from.result c.from-2.result c.from-3.result c.from-4.result c.none.result c.none-2.result c.beyond.result c.beyond-2.result
    c.from.ensures c.from-2.ensures c.from-3.ensures c.from-4.ensures c.none.ensures c.none-2.ensures
    (record { fixed = c.beyond.ensures.fixed; other = c.beyond.ensures.other; class = λ low. c.beyond.ensures.class low ∙ class })
    (record { fixed = c.beyond-2.ensures.fixed; other = c.beyond-2.ensures.other; class = λ low. c.beyond-2.ensures.class low ∙ class })
    join c.joined-together.ensures.told.right all c.add_joined.ensures in
    record {
      sized = kept.sized;
      others = rest.others;
      counted = λ s wanted full. rest.counted s wanted (record { completes = full; passed = refl }) (kept.counted s wanted full);
      ends = connected_kept t P (λ _. true) xs c.args.self.now.total c.total_after-self.result kept.ends long c.args.x.number one c.args.x.small c.args.y.number other two kept.sized c.args.y.small few v
          c.from.result c.from-2.result c.from-3.result c.from-4.result c.none.result c.none-2.result c.beyond.result c.beyond-2.result
          c.from.ensures c.from-2.ensures c.from-3.ensures c.from-4.ensures c.none.ensures c.none-2.ensures
          (record { fixed = c.beyond.ensures.fixed; other = c.beyond.ensures.other; class = λ low. c.beyond.ensures.class low ∙ class })
          (record { fixed = c.beyond-2.ensures.fixed; other = c.beyond-2.ensures.other; class = λ low. c.beyond-2.ensures.class low ∙ class })
          join c.joined-together.ensures.told.right (omega (arith, sum, first, second, all));
    }

pub returns-clause-dead : goal.returns-clause-dead
returns-clause-dead c none P join kept s sought =
    let has = c.requires.some in
    let t = c.args.shares.now in
    let r = c.requires in
    let side = c.args.self.now in
    let one = c.end-one.result.class.number in
    let other = c.end-other.result.class.number in
    let two = two_live t side.ends c.args.x.number c.args.y.number c.end-one.result c.end-other.result c.end-one.ensures c.end-other.ensures r.first_end r.second_end r.apart r.no_other in
    let told = c.joined-together.ensures.told in
    let some = two.one.some in
    none_with_weight t.request P t.pair (c.args.x.number / 2) (one % 64 + other % 64) told.share c.joined-together.result (omega (arith, some)) told.all none
    (λ s sought. right_connected t P (λ _. true) (view t side.ends) side.total side.total kept.ends two kept.sized (few_chambers t has.partial side has.kept two) join
    told.share told.right s sought.wanted (record { completes = sought.completes; passed = refl }))
    s sought
