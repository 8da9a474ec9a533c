use Rattle.std.proofs.Common.{length, take, drop, sym, ap, ◌∙◌, subst, arith}
use Rattle.dd_model.specs.declared.pair.Pair.TheVariants.{Tile, Vertex}
use Rattle.dd_model.specs.Involutions.{HaveSameInvolutions}
use Rattle.dd_symbol.specs.Cells.{ArePeriods}
use Rattle.dd_symbol.proofs.TableLemmas.{with_same}
use Rattle.dd_branch_degrees.specs.Place.{ArePlaces, AreTurns}
use Rattle.dd_branch_degrees.proofs.PlaceTurns.{places_with, tile_turns, vertex_turns}
use Rattle.dd_branch_degrees.proofs.members.with_places.Goals as goal

pub all_places-places-requires : goal.all_places-places-requires
all_places-places-requires c = let small = c.requires.small in let size = c.requires.same.size in omega (arith, small, size)

pub split_at-requires : goal.split_at-requires
split_at-requires c =
    let size = c.size.ensures.size in
    let own = ap length c.as_slice.ensures.value in
    let of : AreTurns c.all_places-places.result.items c.turns_of-turns.result.items = c.turns_of-turns.ensures in
    let count = of.count in
    let all = c.all_places-places.ensures.count in
    omega (arith, size, own, count, all)

pub known-requires-clause-tiles : goal.known-requires-clause-tiles
known-requires-clause-tiles c =
    let it = c.args.involutions in
    let of = c.turns_of-turns.ensures in
    subst (ArePeriods it Tile) (sym (c.split_at.ensures.front ∙ ap (take c.size.result) c.as_slice.ensures.value ∙ ap (λ n. take n c.turns_of-turns.result.items) c.size.ensures.size))
    (tile_turns c.args.q.now it c.all_places-places.result.items c.turns_of-turns.result.items c.size.ensures.three.involutions c.all_places-places.ensures of)

pub known-requires-clause-vertices : goal.known-requires-clause-vertices
known-requires-clause-vertices c =
    let it = c.args.involutions in
    let of = c.turns_of-turns.ensures in
    subst (ArePeriods it Vertex) (sym (c.split_at.ensures.back ∙ ap (drop c.size.result) c.as_slice.ensures.value ∙ ap (λ n. drop n c.turns_of-turns.result.items) c.size.ensures.size))
    (vertex_turns c.args.q.now it c.all_places-places.result.items c.turns_of-turns.result.items c.size.ensures.three.involutions c.all_places-places.ensures of)

pub returns-clause-same : goal.returns-clause-same
returns-clause-same c =
    subst (HaveSameInvolutions c.args.involutions) (sym c.in_ok-table.ensures.same)
    (with_same c.args.involutions c.split_at.result.0.now c.split_at.result.1.now)

pub returns-clause-places : goal.returns-clause-places
returns-clause-places c =
    subst (λ t. ArePlaces c.args.q.now t c.all_places-places.result.items) (sym c.in_ok-table.ensures.same)
    (places_with c.args.q.now c.args.involutions c.split_at.result.0.now c.split_at.result.1.now c.all_places-places.result.items c.all_places-places.ensures)
