use Rattle.std.proofs.Common.{◌∙◌, sym, subst}
use Rattle.dd_model.specs.Symbol.{Symbol, IsChamber}
use Rattle.dd_test_search.proofs.tie_rows.ties_of.Goals as goal

pub of-requires-clause-starts : goal.of-requires-clause-starts
of-requires-clause-starts g c d there =
    let found = rw c.expect-starts.ensures at c.tied_starts.ensures in
    let ties = rw c.expect-starts-2.ensures at found in
    let same = c.symbol.ensures.same ∙ sym c.symbol-2.ensures.same ∙ sym c.symbol-3.ensures.same in
    subst (λ (s : Symbol). IsChamber s d) same (ties.chambers d there)
