use Rattle.std.proofs.Common.{sym, subst}
use Rattle.dd_model.specs.Symbol.{IsChamber}
use Rattle.dd_symbol.specs.Table.{symbol_of}
use Rattle.dd_symbol.proofs.DegreeLemmas.{multiple-from_turns}
use Rattle.dd_symbol.proofs.symbol.Symbol.branching.Goals as goal

pub branching-requires-clause-multiple : goal.branching-requires-clause-multiple
branching-requires-clause-multiple c =
    let s = symbol_of c.self.inside.table in
    let h : IsChamber s c.args.chamber = subst (λ u. IsChamber u c.args.chamber) (sym c.self.view_is) c.requires in
    multiple-from_turns s c.self.invariant.symbol.table.involutions c.args.pair c.args.chamber h
    ((c.self.invariant.symbol.degrees c.args.pair c.args.chamber h).turns)
