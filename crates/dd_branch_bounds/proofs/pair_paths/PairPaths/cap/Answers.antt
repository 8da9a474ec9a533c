use Rattle.std.proofs.Common.{rules, ◌≡◌, ◌/◌, ◌%◌, ◌≤◌, length, true, refl, sym, ◌∙◌, subst, arith}
use Rattle.dd_branch_bounds.proofs.KeptLemmas.{live_end, capped_kept, capped_rest}
use Rattle.dd_branch_bounds.proofs.SideLemmas.{right_capped}
use Rattle.dd_branch_bounds.proofs.SumLemmas.{total_small, weight_within, few_in_path, none_with_weight}
use Rattle.dd_branch_bounds.proofs.WriteLemmas.{view}
use Rattle.dd_branch_bounds.proofs.pair_paths.PairPaths.cap.Goals as goal

pub total_after-self-requires-clause-total : goal.total_after-self-requires-clause-total
total_after-self-requires-clause-total c = let has = c.requires.some in total_small c.args.shares.now has.partial c.args.self.now has.kept

pub total_after-self-requires-clause-had : goal.total_after-self-requires-clause-had
total_after-self-requires-clause-had c =
    let has = c.requires.some in
    let t = c.args.shares.now in
    subst (λ w. w ≤ c.args.self.now.total) (sym c.weight.ensures.told)
    (weight_within t has.partial c.args.self.now has.kept (live_end t c.args.self.now.ends c.args.x.number c.end-end.result c.end-end.ensures c.requires.live))

pub returns-clause-side : goal.returns-clause-side
returns-clause-side c P join kept =
    let has = c.requires.some in
    let t = c.args.shares.now in
    let xs = c.args.self.now.ends in
    let v = c.capped-fixed.ensures.told.share in
    let long : length xs ≡ 74 = search rules in
    let end = live_end t xs c.args.x.number c.end-end.result c.end-end.ensures c.requires.live in
    let few = few_in_path t has.partial c.args.self.now has.kept end in
    let sum = c.total_after-self.ensures in
    let had = c.weight.ensures.told in
    let all = c.capped-fixed.ensures.told.all in
    let rest = capped_rest t P (λ _. true) xs c.args.self.now.total kept.ends kept.others long c.args.x.number c.end-end.result c.args.x.small
    c.args.self.now.census c.add_fixed_end.new.self v c.capped-fixed.result end few c.from.result c.from-2.result c.none.result c.beyond.result c.from.ensures c.from-2.ensures c.none.ensures
    (record { fixed = c.beyond.ensures.fixed; other = c.beyond.ensures.other; class = λ low. c.beyond.ensures.class low ∙ c.capped.ensures })
    join c.capped-fixed.ensures.told.right all c.add_fixed_end.ensures in
    record {
      sized = kept.sized;
      others = rest.others;
      counted = λ s wanted full. rest.counted s wanted (record { completes = full; passed = refl }) (kept.counted s wanted full);
      ends = capped_kept t P (λ _. true) xs c.args.self.now.total c.total_after-self.result kept.ends long c.args.x.number c.end-end.result c.args.x.small end few
          v c.from.result c.from-2.result c.none.result c.beyond.result c.from.ensures c.from-2.ensures c.none.ensures
          (record { fixed = c.beyond.ensures.fixed; other = c.beyond.ensures.other; class = λ low. c.beyond.ensures.class low ∙ c.capped.ensures })
          join c.capped-fixed.ensures.told.right (omega (arith, sum, had, all));
    }

pub returns-clause-dead : goal.returns-clause-dead
returns-clause-dead c none P join kept s sought =
    let has = c.requires.some in
    let t = c.args.shares.now in
    let side = c.args.self.now in
    let end = live_end t side.ends c.args.x.number c.end-end.result c.end-end.ensures c.requires.live in
    let told = c.capped-fixed.ensures.told in
    none_with_weight t.request P t.pair (c.args.x.number / 2) (c.end-end.result.class.number % 64) told.share c.capped-fixed.result end.some told.all none
    (λ s sought. right_capped t P (λ _. true) (view t side.ends) side.total side.total kept.ends end join told.share told.right
    (few_in_path t has.partial side has.kept end) s sought.wanted (record { completes = sought.completes; passed = refl }))
    s sought
