use Rattle.std.proofs.Common.{◌≡◌, ℕ, ◌+◌, ◌/◌, ◌%◌, Bool, sym, ap, ◌∙◌}
use Rattle.std.proofs.lemmas.Bool.{eq-eqb, eqb-true}
use Rattle.std.specs.Prelude.{nat_eq}
use Rattle.dd_model.specs.Partial.{Completes}
use Rattle.dd_model.specs.Symbol.{Symbol, op}
use Rattle.dd_branch_tables.specs.Rows.{partial_of, HasNumberAt}
use Rattle.dd_branch_bounds.specs.Kept.{IsImage}
use Rattle.dd_branch_bounds.specs.Passing.{Passes}
use Rattle.dd_branch_bounds.specs.declared.link.Link.{Link}
use Rattle.dd_branch_bounds.proofs.KeptBounds.{none_of_bounds}
use Rattle.dd_branch_bounds.proofs.table_paths.TablePaths.is_ruled_out.Goals as goal
use Rattle.dd_model.specs.Indices.{index_at}

-- whether a table has a number at a place
abbrev has_number : ℕ → ℕ → Symbol → Bool
has_number place number z = nat_eq (op z (index_at (place % 3)) (1 + place / 3)) number

image_of : (P : Symbol) (place number : ℕ) (link : Link) → link.index ≡ index_at (place % 3) → link.chamber ≡ 1 + place / 3 → link.image ≡ number → IsImage (Passes P (has_number place number)) link
image_of P place number link index chamber image z is =
    ap (λ i. op z i link.chamber) index ∙ ap (op z (index_at (place % 3))) chamber
    ∙ eqb-true (op z (index_at (place % 3)) (1 + place / 3)) number is.passed ∙ sym image

-- a wanted completion with the number passes
completing : (P : Symbol) (place number : ℕ) (s : Symbol) → Completes P s → HasNumberAt place number s → Passes P (has_number place number) s
completing P place number s completes has = record { completes = completes; passed = eq-eqb (op s (index_at (place % 3)) (1 + place / 3)) number has }

pub totals_with-tiles-requires-clause-tiles : goal.totals_with-tiles-requires-clause-tiles
totals_with-tiles-requires-clause-tiles c = c.requires.bounds.few_tiles

pub totals_with-tiles-requires-clause-vertices : goal.totals_with-tiles-requires-clause-vertices
totals_with-tiles-requires-clause-vertices c = c.requires.bounds.few_vertices

pub returns-then-is_too_small : goal.returns-then-is_too_small
returns-then-is_too_small c _ s sought has =
    let P = partial_of c.args.table.now in
    let test = has_number c.args.place c.args.number in
    let told = c.told-link.ensures in
    let image = image_of P c.args.place c.args.number c.told-link.result told.index told.chamber told.image in
    let sums = c.totals_with-tiles in
    let is = completing P c.args.place c.args.number s sought.completes has in
    none_of_bounds c.args.classes.now.request s c.size.result sums.result.0 sums.result.1 sought.wanted (sought.completes.size ∙ sym c.size.ensures.size)
    (sums.ensures.tiles P test c.requires.kept image s sought.wanted is (c.requires.bounds.tiles_within s sought))
    (sums.ensures.vertices P test c.requires.kept image s sought.wanted is (c.requires.bounds.vertices_within s sought))
    (c.is_too_small.ensures c.if-is_too_small.true)

pub returns-in_default : goal.returns-in_default
returns-in_default c _ s sought has =
    let P = partial_of c.args.table.now in
    let test = has_number c.args.place c.args.number in
    let told = c.told-link.ensures in
    let image = image_of P c.args.place c.args.number c.told-link.result told.index told.chamber told.image in
    c.in_default.ensures.none P test c.requires.kept image s sought.wanted (completing P c.args.place c.args.number s sought.completes has)

pub returns : goal.returns
returns c small s sought has =
    let P = partial_of c.args.table.now in
    let test = has_number c.args.place c.args.number in
    let told = c.told-link.ensures in
    let image = image_of P c.args.place c.args.number c.told-link.result told.index told.chamber told.image in
    let sums = c.totals_with-tiles in
    let kept = c.requires.kept in
    let is = completing P c.args.place c.args.number s sought.completes has in
    none_of_bounds c.args.classes.now.request s c.size-2.result c.in-Some.cells c.in-Some.corners sought.wanted (sought.completes.size ∙ sym c.size-2.ensures.size)
    (c.in-Some.ensures.tiles P test kept image s sought.wanted is (sums.ensures.tiles P test kept image s sought.wanted is (c.requires.bounds.tiles_within s sought)))
    (c.in-Some.ensures.vertices P test kept image s sought.wanted is (sums.ensures.vertices P test kept image s sought.wanted is (c.requires.bounds.vertices_within s sought)))
    (c.is_too_small-2.ensures small)
