use Rattle.std.proofs.Common.{◌-◌, ◌*◌, ◌/◌, ◌≤◌, refl, arith}
use Rattle.dd_branch_degrees.proofs.Beginnings.{few_turns_of}
use Rattle.dd_branch_degrees.proofs.Choices.{share_at_most, share_exists, share_told}
use Rattle.dd_branch_degrees.proofs.places.place_of.Goals as goal
use Rattle.dd_branch_degrees.proofs.places.place_of.Goals.{After-cell-shape}

few : (c : After-cell-shape) → c.cell-shape.result.r ≤ 36
few c = few_turns_of c.args.table.now c.requires.three.involutions c.args.pair c.args.chamber c.cell-shape.result c.requires.chamber c.requires.small c.cell-shape.ensures

pub overflow_cast-turns : goal.overflow_cast-turns
overflow_cast-turns c = let low = few c in omega (arith, low)

pub shares_of-shares-requires-clause-turns : goal.shares_of-shares-requires-clause-turns
shares_of-shares-requires-clause-turns c =
    few_turns_of c.args.table.now c.requires.three.involutions c.args.pair c.args.chamber c.cell-shape.result c.requires.chamber c.requires.small c.cell-shape.ensures

pub most_part-requires-clause-shares : goal.most_part-requires-clause-shares
most_part-requires-clause-shares c e told = share_at_most c.sides_of-sides.result e (c.shares_of-shares.ensures.told e told).branching

pub returns : goal.returns
returns c =
    let shape = c.cell-shape.ensures in
    let low = shape.least.is_least.0.0 in
    let sides = c.sides_of-sides.ensures.small in
    record {
      shape = c.cell-shape.result;
      is_shape = shape;
      root = omega (arith, low);
      turns = refl;
      few = few_turns_of c.args.table.now c.requires.three.involutions c.args.pair c.args.chamber c.cell-shape.result c.requires.chamber c.requires.small shape;
      sides = c.sides_of-sides.ensures.sides;
      shares = λ some. c.shares_of-shares.ensures;
      bounds = record {
        most = λ m choice.
            let sides' = c.sides_of-sides.result in
            let share = sides' * (12 / choice.value) - 2 * sides' in
            let beyond = share_exists sides' choice.value choice.crystallographic in
            let up = c.most_part.ensures.most share (share_told c.args.set.now c.cell-shape.result.r sides' c.shares_of-shares.result m share c.shares_of-shares.ensures choice beyond) in
            omega (arith, up, beyond);
        sides = sides;
        most_small = c.most_part.ensures.small;
      };
    }
