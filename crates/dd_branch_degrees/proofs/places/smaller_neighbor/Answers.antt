use Rattle.std.proofs.Common.{ap, ◌∙◌, subst, sym}
use Rattle.dd_model.specs.Symbol.{op}
use Rattle.dd_model.specs.Cell.{InCell}
use Rattle.dd_model.proofs.CellWalks.{in_cell-refl, in_cell-first, in_cell-second}
use Rattle.dd_branch_degrees.proofs.places.smaller_neighbor.Goals as goal

pub returns-then-first-chamber : goal.returns-then-first-chamber
returns-then-first-chamber c =
    let s = c.args.table.now in
    let p = c.args.pair in
    let d = c.args.chamber in
    record {
      smaller = c.if-first-chamber.true;
      in_cell = subst (InCell s p d) (sym (c.op-first.ensures.image ∙ ap (λ i. op s i d) c.first.ensures)) (in_cell-first s p d d (in_cell-refl s p d));
    }

pub returns-then-second-chamber : goal.returns-then-second-chamber
returns-then-second-chamber c =
    let s = c.args.table.now in
    let p = c.args.pair in
    let d = c.args.chamber in
    record {
      smaller = c.if-second-chamber.true;
      in_cell = subst (InCell s p d) (sym (c.op-second.ensures.image ∙ ap (λ i. op s i d) c.second.ensures)) (in_cell-second s p d d (in_cell-refl s p d));
    }
