use Rattle.std.proofs.Common.{◌≤◌, ◌-◌, sym, subst}
use Rattle.dd_model.specs.Cell.{IsBranching}
use Rattle.dd_covers.specs.Wanting.{IsGreatestTo}
use Rattle.dd_covers.proofs.WantLemmas.{raised, seen_before, own_low}
use Rattle.dd_covers.proofs.wanted_values.greater_at.Goals as goal

pub returns-then-neighbor-chamber-clause-own : goal.returns-then-neighbor-chamber-clause-own
returns-then-neighbor-chamber-clause-own c v b =
    seen_before c.args.s.now c.symbol-symbol.ensures.symbol.symbol c.args.pair c.args.chamber c.args.neighbor c.args.so_far v
    c.requires.chamber c.requires.so_far c.requires.neighbor c.if-neighbor-chamber.true b

pub returns-clause-so_far : goal.returns-clause-so_far
returns-clause-so_far c =
    let s = c.args.s.now in
    let own = subst (λ t. IsBranching t c.args.pair c.args.chamber c.branching.result) c.symbol-symbol.ensures.same c.branching.ensures in
    subst (IsGreatestTo s (c.args.chamber - 1)) (sym c.max.ensures)
    (raised s (c.args.chamber - 1) c.args.so_far c.requires.so_far c.args.pair c.args.chamber c.branching.result c.requires.chamber own)

pub returns-clause-own : goal.returns-clause-own
returns-clause-own c v b =
    let s = c.args.s.now in
    let own = subst (λ t. IsBranching t c.args.pair c.args.chamber c.branching.result) c.symbol-symbol.ensures.same c.branching.ensures in
    subst (λ n. v ≤ n) (sym c.max.ensures) (own_low s c.args.pair c.args.chamber c.args.so_far c.branching.result own v b)
