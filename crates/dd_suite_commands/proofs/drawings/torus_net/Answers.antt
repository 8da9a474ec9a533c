use Rattle.std.proofs.Common.{◌≤◌, inl, inr, arith}
use Rattle.dd_suite_commands.proofs.TorusForms.{torus_along, many_vertices}
use Rattle.dd_suite_commands.proofs.drawings.torus_net.Goals as goal

pub returns-then-count-gt-MOST_VERTICES-clause-why : goal.returns-then-count-gt-MOST_VERTICES-clause-why
returns-then-count-gt-MOST_VERTICES-clause-why c =
    let cells = c.count-count.ensures.exist in
    inr
    (inl
    (record {
      flat = c.in_ok-cover.ensures.flat;
      cover = c.in_ok-cover.cover.symbol;
      below = c.in_ok-cover.cover.below;
      is_cover = c.in_ok-cover.ensures.cover;
      vertices = cells.0;
      are_vertices = cells.1;
      many = c.count-count.ensures.cells cells.0 cells.1;
      over = omega (arith, c.if-count-gt-MOST_VERTICES.true);
    }))

pub returns-clause-least : goal.returns-clause-least
returns-clause-least c = record {
  flat = c.in_ok-cover.ensures.flat;
  cover = c.in_ok-cover.cover.symbol;
  below = c.in_ok-cover.cover.below;
  is_cover = c.in_ok-cover.ensures.cover;
  least = c.in_ok-torus.ensures;
}

pub shifts-requires : goal.shifts-requires
shifts-requires c = torus_along c.in_ok-cover.cover.symbol c.in_ok-torus.torus c.in_ok-cover.ensures.torus c.in_ok-torus.ensures

pub returns-clause-drawable : goal.returns-clause-drawable
returns-clause-drawable c =
    let cells = c.count-count.ensures.exist in
    let count = c.count-count.ensures.cells cells.0 cells.1 in
    let torus = torus_along c.in_ok-cover.cover.symbol c.in_ok-torus.torus c.in_ok-cover.ensures.torus c.in_ok-torus.ensures in
    let few : c.count-count.result ≤ 96 = omega (arith, c.if-count-gt-MOST_VERTICES.false) in
    let many = many_vertices c.in_ok-cover.cover.symbol c.in_ok-torus.torus c.in_ok-net.net cells.0 c.in_ok-cover.ensures.torus c.in_ok-torus.ensures c.in_ok-net.ensures.net cells.1 in
    record { torus = torus; net = c.in_ok-net.ensures.net; few = omega (arith, many, count, few) }
