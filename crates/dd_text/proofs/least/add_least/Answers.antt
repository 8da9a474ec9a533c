use Rattle.std.proofs.Common.{inr, refl, sym, subst, ◌≤◌, arith}
use Rattle.dd_model.specs.Symbol.{op, first, second}
use Rattle.dd_model.proofs.CellWalks.{in_cell-refl, in_cell-first, in_cell-second}
use Rattle.dd_text.proofs.least.add_least.Goals as goal

pub returns-then-first-chamber : goal.returns-then-first-chamber
returns-then-first-chamber c =
    let s = c.args.symbol.now in
    let p = c.args.pair in
    let d = c.args.chamber in
    inr ((λ least. let low = subst (λ e. d ≤ e) (sym c.requires.first) (least.1 (op s (first p) d) (in_cell-first s p d d (in_cell-refl s p d))) in let smaller = c.if-first-chamber.true in omega arith), refl)

pub returns-then-second-chamber : goal.returns-then-second-chamber
returns-then-second-chamber c =
    let s = c.args.symbol.now in
    let p = c.args.pair in
    let d = c.args.chamber in
    inr ((λ least. let low = subst (λ e. d ≤ e) (sym c.requires.second) (least.1 (op s (second p) d) (in_cell-second s p d d (in_cell-refl s p d))) in let smaller = c.if-second-chamber.true in omega arith), refl)
