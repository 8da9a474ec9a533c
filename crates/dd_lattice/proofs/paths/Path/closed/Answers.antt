use Rattle.std.proofs.Common.{◌≡◌, ℕ, zero, suc, ◌+◌, ◌-◌, ◌<◌, true, false, length, set, get_or, replicate, refl, sym, ap, ◌∙◌, subst, arith}
use Rattle.std.proofs.lemmas.List.{get_or_read, length-replicate}
use Rattle.dd_model.specs.declared.index.Index.TheVariants.{Zero}
use Rattle.dd_model.specs.declared.pair.Pair.TheVariants.{Tile, Edge}
use Rattle.dd_model.specs.Symbol.{op}
use Rattle.dd_model.proofs.CellLists.{cells_exist}
use Rattle.dd_cells.proofs.CellSums.{has_roots}
use Rattle.dd_cells.specs.Orientation.{color}
use Rattle.dd_lattice.specs.Steps.{flag, across}
use Rattle.dd_lattice.proofs.ClosedPaths.{way_start, are_shifts}
use Rattle.dd_lattice.proofs.KindsExist.{kinds_exist}
use Rattle.dd_lattice.proofs.PathLemmas.{IsOnWay, way_back}
use Rattle.dd_lattice.proofs.Reaching.{reaches}
use Rattle.dd_lattice.proofs.paths.Path.closed.Goals as goal

none_set : (n i : ℕ) → get_or (replicate n false) i false ≡ false
none_set zero i = refl
none_set (suc n) zero = refl
none_set (suc n) (suc i) = none_set n i

pub loop-k-init : goal.loop-k-init
loop-k-init c inv m many =
    let t = c.args.crossing.now.symbol.now in
    let first = c.args.first in
    let steps = c.in_ok-steps.steps.items in
    let roots = has_roots t inv Tile in
    let cells = cells_exist t inv Edge in
    let kinds = kinds_exist t inv cells.0 cells.1 in
    let items = c.in_ok-exits.ensures.items_if_clones_equal (λ y e. e) in
    let whole : length c.in_ok-exits.exits.items ≡ t.size = ap length items ∙ length-replicate c.size.result false ∙ c.size.ensures.size in
    let place : c.op-place.result ≡ across t first = c.op-place.ensures.image ∙ ap (op t Zero) c.op.ensures.image in
    let all : m ≡ length steps = omega arith in
    subst (λ n. IsOnWay t first steps roots.root n (set c.in_ok-exits.exits.items (first - 1) true) c.op-place.result) (sym all)
    (subst (IsOnWay t first steps roots.root (length steps) (set c.in_ok-exits.exits.items (first - 1) true)) (sym place)
    (way_start t c.requires.torus roots.root roots.are first steps c.in_ok-steps.ensures.tree c.in_ok-exits.exits.items whole (λ d. ap (λ xs. flag xs d) items ∙ none_set _ (d - 1))
    (reaches t c.requires.torus first steps c.in_ok-steps.ensures cells.0 cells.1 kinds.0 kinds.1)))

pub back-place-requires-clause-low : goal.back-place-requires-clause-low
back-place-requires-clause-low c =
    let less = c.loop-k-test.true in
    let way = c.loop-k.invariant c.requires.torus.symbol.table.involutions (length c.in_ok-steps.steps.items - c.loop-k.k) (omega arith) in
    way.chamber.0

pub back-place-requires-clause-high : goal.back-place-requires-clause-high
back-place-requires-clause-high c =
    let less = c.loop-k-test.true in
    let way = c.loop-k.invariant c.requires.torus.symbol.table.involutions (length c.in_ok-steps.steps.items - c.loop-k.k) (omega arith) in
    let h = way.chamber.1 in
    let whole = way.whole in
    omega arith

pub loop-k-preserved : goal.loop-k-preserved
loop-k-preserved c inv m many =
    let t = c.args.crossing.now.symbol.now in
    let roots = has_roots t inv Tile in
    let way = c.loop-k.invariant inv (m + 1) (omega arith) in
    let steps = c.in_ok-steps.steps.items in
    let x = c.index.result.now in
    let long = c.len.ensures in
    let size = c.in_ok-steps.steps.ok in
    let inside : m < length steps = omega arith in
    let place : c.len.result - 1 - c.loop-k.k ≡ m = omega (arith, size) in
    let at : get_or steps m x ≡ x = ap (λ n. get_or steps n x) (sym place) ∙ sym (get_or_read steps (c.len.result - 1 - c.loop-k.k) x (omega (arith, size)) c.index.ensures x) in
    way_back t c.requires.torus.symbol (color c.requires.torus.oriented.colors) c.requires.torus.oriented.exchanged roots.root roots.are c.args.first steps c.in_ok-steps.ensures.tree m inside c.loop-k.exits.items c.loop-k.place way
    x at c.back-place.new.exits.items c.back-place.result c.back-place.ensures

pub returns-clause-shifts : goal.returns-clause-shifts
returns-clause-shifts c =
    let t = c.args.crossing.now.symbol.now in
    let inv = c.requires.torus.symbol.table.involutions in
    let roots = has_roots t inv Tile in
    let end = c.loop-k-test.false in
    let low = c.loop-k.auto.k-end in
    are_shifts t c.requires.torus roots.root roots.are c.args.first c.in_ok-steps.steps.items c.in_ok-steps.ensures.tree c.requires.left c.loop-k.exits.items c.loop-k.place (c.loop-k.invariant inv 0 (omega arith))

pub returns-clause-whole : goal.returns-clause-whole
returns-clause-whole c =
    let end = c.loop-k-test.false in
    let low = c.loop-k.auto.k-end in
    (c.loop-k.invariant c.requires.torus.symbol.table.involutions 0 (omega arith)).whole
