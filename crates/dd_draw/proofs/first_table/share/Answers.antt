use Rattle.std.proofs.Common.{◌+◌, ◌-ℤ◌, pos, to_z, of_z, ap, ◌∙◌, ◌≡◌, rules, arith}
use Rattle.std.specs.Int.{w64}
use Rattle.std.proofs.lemmas.Int.{to_z-of_z}
use Rattle.dd_draw.specs.Placement.{if_same}
use Rattle.dd_draw.proofs.FirstSums.{share_read, turned_fits, turned_read, turned_small, looped, along, across, own, joined}
use Rattle.dd_draw.proofs.first_table.share.Goals as goal

pub returns-then-edge-clause-value : goal.returns-then-edge-clause-value
returns-then-edge-clause-value c = looped c.args.vertices c.args.row c.args.column c.args.edge c.if-edge.true

pub returns-then-column-vertices-clause-value : goal.returns-then-column-vertices-clause-value
returns-then-column-vertices-clause-value c =
    let e = c.args.edge in
    let x : to_z w64 (of_z w64 e.x) ≡ e.x = to_z-of_z w64 e.x (search rules) in
    share_read c.shift_seen.result c.shift_seen.ensures.small ∙ c.shift_seen.ensures.value
    ∙ ap (λ z. if_same e.from (c.args.row + 1) z -ℤ if_same e.to (c.args.row + 1) z) x
    ∙ along c.args.vertices c.args.row c.args.column e c.if-edge.false c.if-column-vertices.true

pub returns-then-column-vertices-2-clause-value : goal.returns-then-column-vertices-2-clause-value
returns-then-column-vertices-2-clause-value c =
    let e = c.args.edge in
    let seen = c.shift_seen-then-column-vertices-2 in
    let y : to_z w64 (of_z w64 e.y) ≡ e.y = to_z-of_z w64 e.y (search rules) in
    share_read seen.result seen.ensures.small ∙ seen.ensures.value
    ∙ ap (λ z. if_same e.from (c.args.row + 1) z -ℤ if_same e.to (c.args.row + 1) z) y
    ∙ across c.args.vertices c.args.row c.args.column e c.if-edge.false c.if-column-vertices.false (omega (arith, c.requires.column, c.if-column-vertices-2.true))

pub returns-then-row-column-clause-value : goal.returns-then-row-column-clause-value
returns-then-row-column-clause-value c =
    share_read c.end_count.result c.end_count.ensures.small ∙ c.end_count.ensures.value
    ∙ own c.args.vertices c.args.row c.args.column c.args.edge c.if-edge.false c.if-column-vertices.false (λ same. absurd (omega (arith, c.if-column-vertices-2.false))) c.if-row-column.true

pub overflow_sub-result : goal.overflow_sub-result
overflow_sub-result c = turned_fits c.join_count.result c.join_count.ensures.small

pub returns-clause-value : goal.returns-clause-value
returns-clause-value c =
    turned_read c.join_count.result c.join_count.ensures.small ∙ ap (λ z. pos 0 -ℤ z) c.join_count.ensures.value
    ∙ joined c.args.vertices c.args.row c.args.column c.args.edge c.if-edge.false c.if-column-vertices.false (λ same. absurd (omega (arith, c.if-column-vertices-2.false))) c.if-row-column.false

pub returns-clause-small : goal.returns-clause-small
returns-clause-small c = turned_small c.join_count.result c.join_count.ensures.small
