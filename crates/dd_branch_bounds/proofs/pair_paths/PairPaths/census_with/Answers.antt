use Rattle.std.proofs.Common.{◌≡◌, ℕ, ◌%◌, List, Some, slice_get, sym, subst, arith}
use Rattle.dd_branch_bounds.specs.Passing.{Passes}
use Rattle.dd_branch_bounds.specs.Sides.{IsJoin}
use Rattle.dd_branch_bounds.specs.declared.class_shares.ClassShares.{ClassShares}
use Rattle.dd_branch_bounds.specs.declared.end.End.{End}
use Rattle.dd_branch_bounds.proofs.KeptLemmas.{listed_end, two_ends}
use Rattle.dd_branch_bounds.proofs.SideLemmas.{IsAnEnd}
use Rattle.dd_branch_bounds.proofs.SumLemmas.{census_as_kept, census_capped, census_closed, census_connected, few_in_path, few_chambers}
use Rattle.dd_branch_bounds.proofs.WriteLemmas.{view}
use Rattle.dd_branch_bounds.proofs.pair_paths.PairPaths.census_with.Goals as goal

one_counted : (t : ClassShares) (xs : List End) (x : ℕ) (e : End) {n : ℕ} → slice_get xs x ≡ Some e → n ≡ e.class.number % 64 → (n ≡ 0 → ⊥) → IsAnEnd t (view t xs) x e.other e.class.number
one_counted t xs x e listed count some = listed_end t xs x e listed (omega (arith, count, some))

pub returns-then-chambers-eq0 : goal.returns-then-chambers-eq0
returns-then-chambers-eq0 c P test join kept = census_as_kept c.args.shares.now P c.args.self.now kept test

pub returns-then-x-y : goal.returns-then-x-y
returns-then-x-y c P test join kept =
    let has = c.requires.some in
    let t = c.args.shares.now in
    let side = c.args.self.now in
    let end = one_counted t side.ends c.args.x.number c.end-end.result c.end-end.ensures c.chambers.ensures c.if-chambers-eq0.false in
    census_capped t P side kept end (few_in_path t has.partial side has.kept end) c.capped.ensures.told.share c.capped.result
    c.capped.ensures.told.right c.capped.ensures.told.all test (subst (IsJoin (Passes P test) t.pair c.args.x.number) (sym c.if-x-y.true) join)
    c.add_fixed_end.new.self c.add_fixed_end.ensures

pub returns-then-end-y : goal.returns-then-end-y
returns-then-end-y c P test join kept =
    let has = c.requires.some in
    let t = c.args.shares.now in
    let side = c.args.self.now in
    let end = one_counted t side.ends c.args.x.number c.end-end.result c.end-end.ensures c.chambers.ensures c.if-chambers-eq0.false in
    census_closed t P side kept end (few_in_path t has.partial side has.kept end) c.args.y.number c.if-end-y.true (λ same. c.if-x-y.false (sym same))
    c.closed.ensures.told.share c.closed.result c.closed.ensures.told.right c.closed.ensures.told.all test join c.add_cell.new.self c.add_cell.ensures

pub returns-then-chambers-eq0-2 : goal.returns-then-chambers-eq0-2
returns-then-chambers-eq0-2 c P test join kept = census_as_kept c.args.shares.now P c.args.self.now kept test

pub joined-requires : goal.joined-requires
joined-requires c =
    let has = c.requires.some in
    let t = c.args.shares.now in
    let two = two_ends t c.args.self.now.ends c.args.x.number c.args.y.number c.end-end.result c.end.result c.end-end.ensures c.end.ensures c.chambers.ensures c.chambers-2.ensures
    c.if-chambers-eq0.false c.if-chambers-eq0-2.false c.if-x-y.false c.if-end-y.false in
    let few = few_chambers t has.partial c.args.self.now has.kept two in
    record { few = omega (arith, few) }

pub add_joined-requires-clause-few : goal.add_joined-requires-clause-few
add_joined-requires-clause-few c =
    let has = c.requires.some in
    let t = c.args.shares.now in
    let two = two_ends t c.args.self.now.ends c.args.x.number c.args.y.number c.end-end.result c.end.result c.end-end.ensures c.end.ensures c.chambers.ensures c.chambers-2.ensures
    c.if-chambers-eq0.false c.if-chambers-eq0-2.false c.if-x-y.false c.if-end-y.false in
    let few = few_chambers t has.partial c.args.self.now has.kept two in
    omega (arith, few)

pub returns : goal.returns
returns c P test join kept =
    let has = c.requires.some in
    let t = c.args.shares.now in
    let side = c.args.self.now in
    let two = two_ends t side.ends c.args.x.number c.args.y.number c.end-end.result c.end.result c.end-end.ensures c.end.ensures c.chambers.ensures c.chambers-2.ensures
    c.if-chambers-eq0.false c.if-chambers-eq0-2.false c.if-x-y.false c.if-end-y.false in
    census_connected t P side kept two (few_chambers t has.partial side has.kept two) c.joined.ensures.told.share c.joined.result
    c.joined.ensures.told.right c.joined.ensures.told.all test join c.add_joined.new.self c.add_joined.ensures
