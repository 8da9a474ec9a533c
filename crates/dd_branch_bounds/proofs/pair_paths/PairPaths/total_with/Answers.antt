use Rattle.std.proofs.Common.{◌≡◌, ℕ, ◌+◌, ◌*◌, ◌%◌, ◌≤◌, List, Some, slice_get, false, sym, subst, arith}
use Rattle.dd_branch_bounds.specs.Passing.{Passes}
use Rattle.dd_branch_bounds.specs.Sides.{IsJoin, class_weight}
use Rattle.dd_branch_bounds.specs.declared.class_shares.ClassShares.{ClassShares}
use Rattle.dd_branch_bounds.specs.declared.end.End.{End}
use Rattle.dd_branch_bounds.proofs.KeptLemmas.{listed_end, two_ends}
use Rattle.dd_branch_bounds.proofs.SideLemmas.{IsAnEnd}
use Rattle.dd_branch_bounds.proofs.SumLemmas.{sum_as_kept, size_small, sum_small, sum_capped, sum_closed, sum_connected, total_small, weight_within, weights_within, few_in_path, few_chambers, join_of_none}
use Rattle.dd_branch_bounds.proofs.WriteLemmas.{view}
use Rattle.dd_branch_bounds.proofs.pair_paths.PairPaths.total_with.Goals as goal

one_counted : (t : ClassShares) (xs : List End) (x : ℕ) (e : End) {n : ℕ} → slice_get xs x ≡ Some e → n ≡ e.class.number % 64 → (n ≡ 0 → ⊥) → IsAnEnd t (view t xs) x e.other e.class.number
one_counted t xs x e listed count some = listed_end t xs x e listed (omega (arith, count, some))

-- a sum by what a class has
summed : (t : ClassShares) (a had has v result total : ℕ) → had ≡ class_weight t a → has ≡ a % 64 * v → result + had ≡ total + has → result + class_weight t a ≡ total + a % 64 * v
summed t a had has v result total was is sum = omega (arith, was, is, sum)

summed_both : (t : ClassShares) (a b had too has v result total : ℕ) → had ≡ class_weight t a → too ≡ class_weight t b → has ≡ (a % 64 + b % 64) * v
    → result + (had + too) ≡ total + has → result + (class_weight t a + class_weight t b) ≡ total + (a % 64 + b % 64) * v
summed_both t a b had too has v result total was also is sum = omega (arith, was, also, is, sum)

pub returns-then-chambers-eq0-clause-total : goal.returns-then-chambers-eq0-clause-total
returns-then-chambers-eq0-clause-total c P test join kept = sum_as_kept c.args.shares.now P c.args.self.now kept test

pub returns-then-chambers-eq0-clause-small : goal.returns-then-chambers-eq0-clause-small
returns-then-chambers-eq0-clause-small c = let has = c.requires.some in total_small c.args.shares.now has.partial c.args.self.now has.kept

pub total_after-requires-clause-total : goal.total_after-requires-clause-total
total_after-requires-clause-total c = let has = c.requires.some in total_small c.args.shares.now has.partial c.args.self.now has.kept

pub total_after-requires-clause-had : goal.total_after-requires-clause-had
total_after-requires-clause-had c =
    let has = c.requires.some in
    let t = c.args.shares.now in
    let end = one_counted t c.args.self.now.ends c.args.x.number c.end-end.result c.end-end.ensures c.chambers.ensures c.if-chambers-eq0.false in
    subst (λ w. w ≤ c.args.self.now.total) (sym c.weight-had.ensures.told) (weight_within t has.partial c.args.self.now has.kept end)

pub returns-then-x-y-clause-total : goal.returns-then-x-y-clause-total
returns-then-x-y-clause-total c P test join kept =
    let has = c.requires.some in
    let t = c.args.shares.now in
    let side = c.args.self.now in
    let end = one_counted t side.ends c.args.x.number c.end-end.result c.end-end.ensures c.chambers.ensures c.if-chambers-eq0.false in
    sum_capped t P side kept end (few_in_path t has.partial side has.kept end) c.capped.ensures.told.share c.capped.ensures.told.right test c.total_after.result
    (subst (IsJoin (Passes P test) t.pair c.args.x.number) (sym c.if-x-y.true) join)
    (summed t c.end-end.result.class.number _ _ c.capped.ensures.told.share c.total_after.result side.total c.weight-had.ensures.told c.capped.ensures.told.all c.total_after.ensures)

pub returns-then-x-y-clause-small : goal.returns-then-x-y-clause-small
returns-then-x-y-clause-small c =
    let has = c.requires.some in
    let t = c.args.shares.now in
    let side = c.args.self.now in
    let end = one_counted t side.ends c.args.x.number c.end-end.result c.end-end.ensures c.chambers.ensures c.if-chambers-eq0.false in
    sum_small t has.partial (λ _. false) c.total_after.result (size_small t has.partial side has.kept)
    (sum_capped t has.partial side has.kept end (few_in_path t has.partial side has.kept end) c.capped.ensures.told.share c.capped.ensures.told.right (λ _. false) c.total_after.result
    (join_of_none has.partial t.pair c.args.x.number c.args.x.number)
    (summed t c.end-end.result.class.number _ _ c.capped.ensures.told.share c.total_after.result side.total c.weight-had.ensures.told c.capped.ensures.told.all c.total_after.ensures))

pub total_after-requires-then-end-y-clause-total : goal.total_after-requires-then-end-y-clause-total
total_after-requires-then-end-y-clause-total c = let has = c.requires.some in total_small c.args.shares.now has.partial c.args.self.now has.kept

pub total_after-requires-then-end-y-clause-had : goal.total_after-requires-then-end-y-clause-had
total_after-requires-then-end-y-clause-had c =
    let has = c.requires.some in
    let t = c.args.shares.now in
    let end = one_counted t c.args.self.now.ends c.args.x.number c.end-end.result c.end-end.ensures c.chambers.ensures c.if-chambers-eq0.false in
    subst (λ w. w ≤ c.args.self.now.total) (sym c.weight-had.ensures.told) (weight_within t has.partial c.args.self.now has.kept end)

pub returns-then-end-y-clause-total : goal.returns-then-end-y-clause-total
returns-then-end-y-clause-total c P test join kept =
    let has = c.requires.some in
    let t = c.args.shares.now in
    let side = c.args.self.now in
    let end = one_counted t side.ends c.args.x.number c.end-end.result c.end-end.ensures c.chambers.ensures c.if-chambers-eq0.false in
    sum_closed t P side kept end (few_in_path t has.partial side has.kept end) c.args.y.number c.if-end-y.true (λ same. c.if-x-y.false (sym same))
    c.closed.ensures.told.share c.closed.ensures.told.right test c.total_after-then-end-y.result join
    (summed t c.end-end.result.class.number _ _ c.closed.ensures.told.share c.total_after-then-end-y.result side.total c.weight-had.ensures.told c.closed.ensures.told.all c.total_after-then-end-y.ensures)

pub returns-then-end-y-clause-small : goal.returns-then-end-y-clause-small
returns-then-end-y-clause-small c =
    let has = c.requires.some in
    let t = c.args.shares.now in
    let side = c.args.self.now in
    let end = one_counted t side.ends c.args.x.number c.end-end.result c.end-end.ensures c.chambers.ensures c.if-chambers-eq0.false in
    sum_small t has.partial (λ _. false) c.total_after-then-end-y.result (size_small t has.partial side has.kept)
    (sum_closed t has.partial side has.kept end (few_in_path t has.partial side has.kept end) c.args.y.number c.if-end-y.true (λ same. c.if-x-y.false (sym same))
    c.closed.ensures.told.share c.closed.ensures.told.right (λ _. false) c.total_after-then-end-y.result (join_of_none has.partial t.pair c.args.x.number c.args.y.number)
    (summed t c.end-end.result.class.number _ _ c.closed.ensures.told.share c.total_after-then-end-y.result side.total c.weight-had.ensures.told c.closed.ensures.told.all c.total_after-then-end-y.ensures))

pub returns-then-chambers-eq0-2-clause-total : goal.returns-then-chambers-eq0-2-clause-total
returns-then-chambers-eq0-2-clause-total c P test join kept = sum_as_kept c.args.shares.now P c.args.self.now kept test

pub returns-then-chambers-eq0-2-clause-small : goal.returns-then-chambers-eq0-2-clause-small
returns-then-chambers-eq0-2-clause-small c = let has = c.requires.some in total_small c.args.shares.now has.partial c.args.self.now has.kept

pub joined-requires : goal.joined-requires
joined-requires c =
    let has = c.requires.some in
    let t = c.args.shares.now in
    let two = two_ends t c.args.self.now.ends c.args.x.number c.args.y.number c.end-end.result c.end.result c.end-end.ensures c.end.ensures c.chambers.ensures c.chambers-2.ensures
    c.if-chambers-eq0.false c.if-chambers-eq0-2.false c.if-x-y.false c.if-end-y.false in
    let few = few_chambers t has.partial c.args.self.now has.kept two in
    record { few = omega (arith, few) }

pub overflow_add-had : goal.overflow_add-had
overflow_add-had c =
    let has = c.requires.some in
    let t = c.args.shares.now in
    let two = two_ends t c.args.self.now.ends c.args.x.number c.args.y.number c.end-end.result c.end.result c.end-end.ensures c.end.ensures c.chambers.ensures c.chambers-2.ensures
    c.if-chambers-eq0.false c.if-chambers-eq0-2.false c.if-x-y.false c.if-end-y.false in
    let within = weights_within t has.partial c.args.self.now has.kept two in
    let total = total_small t has.partial c.args.self.now has.kept in
    let one = c.weight-had.ensures.told in
    let other = c.weight.ensures.told in
    omega (arith, within, total, one, other)

pub total_after-requires-2-clause-total : goal.total_after-requires-2-clause-total
total_after-requires-2-clause-total c = let has = c.requires.some in total_small c.args.shares.now has.partial c.args.self.now has.kept

pub total_after-requires-2-clause-had : goal.total_after-requires-2-clause-had
total_after-requires-2-clause-had c =
    let has = c.requires.some in
    let t = c.args.shares.now in
    let two = two_ends t c.args.self.now.ends c.args.x.number c.args.y.number c.end-end.result c.end.result c.end-end.ensures c.end.ensures c.chambers.ensures c.chambers-2.ensures
    c.if-chambers-eq0.false c.if-chambers-eq0-2.false c.if-x-y.false c.if-end-y.false in
    let within = weights_within t has.partial c.args.self.now has.kept two in
    let one = c.weight-had.ensures.told in
    let other = c.weight.ensures.told in
    omega (arith, within, one, other)

pub returns-clause-total : goal.returns-clause-total
returns-clause-total c P test join kept =
    let has = c.requires.some in
    let t = c.args.shares.now in
    let side = c.args.self.now in
    let two = two_ends t side.ends c.args.x.number c.args.y.number c.end-end.result c.end.result c.end-end.ensures c.end.ensures c.chambers.ensures c.chambers-2.ensures
    c.if-chambers-eq0.false c.if-chambers-eq0-2.false c.if-x-y.false c.if-end-y.false in
    sum_connected t P side kept two (few_chambers t has.partial side has.kept two) c.joined.ensures.told.share c.joined.ensures.told.right test c.total_after-2.result join
    (summed_both t c.end-end.result.class.number c.end.result.class.number _ _ _ c.joined.ensures.told.share c.total_after-2.result side.total
    c.weight-had.ensures.told c.weight.ensures.told c.joined.ensures.told.all c.total_after-2.ensures)

pub returns-clause-small : goal.returns-clause-small
returns-clause-small c =
    let has = c.requires.some in
    let t = c.args.shares.now in
    let side = c.args.self.now in
    let two = two_ends t side.ends c.args.x.number c.args.y.number c.end-end.result c.end.result c.end-end.ensures c.end.ensures c.chambers.ensures c.chambers-2.ensures
    c.if-chambers-eq0.false c.if-chambers-eq0-2.false c.if-x-y.false c.if-end-y.false in
    sum_small t has.partial (λ _. false) c.total_after-2.result (size_small t has.partial side has.kept)
    (sum_connected t has.partial side has.kept two (few_chambers t has.partial side has.kept two) c.joined.ensures.told.share c.joined.ensures.told.right (λ _. false) c.total_after-2.result
    (join_of_none has.partial t.pair c.args.x.number c.args.y.number)
    (summed_both t c.end-end.result.class.number c.end.result.class.number _ _ _ c.joined.ensures.told.share c.total_after-2.result side.total
    c.weight-had.ensures.told c.weight.ensures.told c.joined.ensures.told.all c.total_after-2.ensures))
