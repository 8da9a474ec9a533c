use Rattle.std.proofs.Common.{sym, subst, arith}
use Rattle.dd_model.specs.declared.pair.Pair.TheVariants.{Tile, Vertex}
use Rattle.dd_model.specs.Wanted.{Wanted}
use Rattle.dd_branch_bounds.specs.Passing.{Passes}
use Rattle.dd_branch_bounds.proofs.LinkLemmas.{join_of_image}
use Rattle.dd_branch_bounds.proofs.table_paths.TablePaths.limited_with.Goals as goal

pub returns-in_default-clause-none : goal.returns-in_default-clause-none
returns-in_default-clause-none c P test kept image s wanted is =
    let t = c.args.classes.now in
    let link = c.args.link.now in
    c.in_default.ensures.none P test
    (join_of_image (Passes P test) Tile link.index c.flags-first.result.0.number c.flags-first.result.1.number link.chamber link.image 0
    c.in-Zero.is (omega arith) c.flags-first.ensures.first c.flags-first.ensures.second image)
    kept.tiles s (subst (λ q. Wanted q s) (sym t.tiles_asked) wanted) is

pub returns-in-Some-clause-tiles : goal.returns-in-Some-clause-tiles
returns-in-Some-clause-tiles c P test kept image s wanted is bound =
    let t = c.args.classes.now in
    let link = c.args.link.now in
    c.in-Some.ensures.bound P test
    (join_of_image (Passes P test) Tile link.index c.flags-first.result.0.number c.flags-first.result.1.number link.chamber link.image 0
    c.in-Zero.is (omega arith) c.flags-first.ensures.first c.flags-first.ensures.second image)
    kept.tiles s (subst (λ q. Wanted q s) (sym t.tiles_asked) wanted) is bound

pub returns-in_default-limited_with-clause-none : goal.returns-in_default-limited_with-clause-none
returns-in_default-limited_with-clause-none c P test kept image s wanted is =
    let t = c.args.classes.now in
    let link = c.args.link.now in
    c.in_default-limited_with.ensures.none P test
    (join_of_image (Passes P test) Tile link.index c.flags-second.result.0.number c.flags-second.result.1.number link.chamber link.image 1
    c.in-One.is (omega arith) c.flags-second.ensures.first c.flags-second.ensures.second image)
    kept.tiles s (subst (λ q. Wanted q s) (sym t.tiles_asked) wanted) is

pub returns-in_default-limited_with-2-clause-none : goal.returns-in_default-limited_with-2-clause-none
returns-in_default-limited_with-2-clause-none c P test kept image s wanted is =
    let t = c.args.classes.now in
    let link = c.args.link.now in
    c.in_default-limited_with-2.ensures.none P test
    (join_of_image (Passes P test) Vertex link.index c.flags-first.result.0.number c.flags-first.result.1.number link.chamber link.image 0
    c.in-One.is (omega arith) c.flags-first.ensures.first c.flags-first.ensures.second image)
    kept.vertices s (subst (λ q. Wanted q s) (sym t.vertices_asked) wanted) is

pub returns-in-Some-limited_with-2-clause-tiles : goal.returns-in-Some-limited_with-2-clause-tiles
returns-in-Some-limited_with-2-clause-tiles c P test kept image s wanted is bound =
    let t = c.args.classes.now in
    let link = c.args.link.now in
    c.in-Some-limited_with.ensures.bound P test
    (join_of_image (Passes P test) Tile link.index c.flags-second.result.0.number c.flags-second.result.1.number link.chamber link.image 1
    c.in-One.is (omega arith) c.flags-second.ensures.first c.flags-second.ensures.second image)
    kept.tiles s (subst (λ q. Wanted q s) (sym t.tiles_asked) wanted) is bound

pub returns-in-Some-limited_with-2-clause-vertices : goal.returns-in-Some-limited_with-2-clause-vertices
returns-in-Some-limited_with-2-clause-vertices c P test kept image s wanted is bound =
    let t = c.args.classes.now in
    let link = c.args.link.now in
    c.in-Some-limited_with-2.ensures.bound P test
    (join_of_image (Passes P test) Vertex link.index c.flags-first.result.0.number c.flags-first.result.1.number link.chamber link.image 0
    c.in-One.is (omega arith) c.flags-first.ensures.first c.flags-first.ensures.second image)
    kept.vertices s (subst (λ q. Wanted q s) (sym t.vertices_asked) wanted) is bound

pub returns-in_default-limited_with-3-clause-none : goal.returns-in_default-limited_with-3-clause-none
returns-in_default-limited_with-3-clause-none c P test kept image s wanted is =
    let t = c.args.classes.now in
    let link = c.args.link.now in
    c.in_default-limited_with-3.ensures.none P test
    (join_of_image (Passes P test) Vertex link.index c.flags-second.result.0.number c.flags-second.result.1.number link.chamber link.image 1
    c.in-Two.is (omega arith) c.flags-second.ensures.first c.flags-second.ensures.second image)
    kept.vertices s (subst (λ q. Wanted q s) (sym t.vertices_asked) wanted) is

pub returns-in-Some-limited_with-3-clause-vertices : goal.returns-in-Some-limited_with-3-clause-vertices
returns-in-Some-limited_with-3-clause-vertices c P test kept image s wanted is bound =
    let t = c.args.classes.now in
    let link = c.args.link.now in
    c.in-Some-limited_with-3.ensures.bound P test
    (join_of_image (Passes P test) Vertex link.index c.flags-second.result.0.number c.flags-second.result.1.number link.chamber link.image 1
    c.in-Two.is (omega arith) c.flags-second.ensures.first c.flags-second.ensures.second image)
    kept.vertices s (subst (λ q. Wanted q s) (sym t.vertices_asked) wanted) is bound
