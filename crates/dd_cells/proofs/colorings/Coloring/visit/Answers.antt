use Rattle.std.proofs.lemmas.Result.{on_ok_weaker}
use Rattle.dd_symbol.specs.Walk.{Grows}
use Rattle.dd_symbol.proofs.WalkLemmas.{Grows-trans}
use Rattle.dd_model.specs.Symbol.{op}
use Rattle.dd_model.specs.declared.index.Index.TheVariants.{Zero, One}
use Rattle.dd_cells.proofs.colorings.Coloring.visit.Goals as goal

pub returns-clause-grows : goal.returns-clause-grows
returns-clause-grows c =
    on_ok_weaker _ (λ (last : Grows _ _ _ _). Grows-trans _ _ _ _ _ _ c.in_ok-spread.ensures.grows (Grows-trans _ _ _ _ _ _ c.in_ok-spread-2.ensures.grows last)) c.spread-3.ensures.grows

pub returns-clause-zero : goal.returns-clause-zero
returns-clause-zero c =
    let d = op c.args.symbol.now Zero c.args.chamber in
    on_ok_weaker _ (λ (last : Grows _ _ _ _). last.marks d (c.in_ok-spread-2.ensures.grows.marks d c.in_ok-spread.ensures.marked)) c.spread-3.ensures.grows

pub returns-clause-one : goal.returns-clause-one
returns-clause-one c =
    on_ok_weaker _ (λ (last : Grows _ _ _ _). last.marks (op c.args.symbol.now One c.args.chamber) c.in_ok-spread-2.ensures.marked) c.spread-3.ensures.grows
