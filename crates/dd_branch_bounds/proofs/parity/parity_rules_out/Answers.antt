use Rattle.std.proofs.Common.{◌≡◌, ◌≢◌, ◌%◌, ◌<◌, ap, ◌∙◌, arith}
use Rattle.dd_model.specs.declared.index.Index.TheVariants.{Zero}
use Rattle.dd_model.specs.Symbol.{op}
use Rattle.dd_branch_tables.specs.Rows.{partial_of}
use Rattle.dd_branch_bounds.proofs.OddSizes.{odd_first}
use Rattle.dd_branch_bounds.proofs.parity.parity_rules_out.Goals as goal

pub returns-then-size-eq1 : goal.returns-then-size-eq1
returns-then-size-eq1 c more s full least =
    let P = partial_of c.args.table.now in
    let image = c.known.ensures.image in
    let above : 1 < c.known.result = grind (arith, more) in
    let some : op P Zero 1 ≢ 0 = λ none. absurd (omega (arith, image, above, none)) in
    let same = full.images Zero 1 some in
    let sizes = full.size in
    let size = c.size.ensures.size in
    let odd : s.size % 2 ≡ 1 = ap (λ n. n % 2) (omega (arith, sizes, size)) ∙ c.if-size-eq1.true in
    odd_first s full.table full.connected least odd (omega (arith, same, image, above))
