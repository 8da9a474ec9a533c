use Rattle.std.proofs.Common.{◌≡◌, Bool, true, false, List, sym, subst}
use Rattle.dd_cells.specs.Orientation.{AreWeakColors, HasWeakColors}
use Rattle.dd_cells.proofs.ColoringLemmas.{forced_is_exchanged, weak_of_oriented}
use Rattle.dd_cells.proofs.colorings.orientation.Goals as goal

pub returns-then-not-exchange : goal.returns-then-not-exchange
returns-then-not-exchange c =
    let s = c.args.s.now in
    let colors = c.in_ok-colors.colors.items in
    let none : HasWeakColors s → ⊥ = λ some.
    let weak : AreWeakColors s colors = forced_is_exchanged s colors c.symbol-symbol.ensures.symbol.symbol.table.involutions c.in_ok-colors.ensures some in
    let same : AreWeakColors c.symbol-symbol.result.now colors = subst (λ t. AreWeakColors t colors) (sym c.symbol-symbol.ensures.same) weak in
    let read : AreWeakColors c.symbol-symbol.result.now c.deref.result.now = subst (λ (xs : List Bool). AreWeakColors c.symbol-symbol.result.now xs) (sym c.deref.ensures.value) same in
    let e : false ≡ true = c.if-not-exchange.ensures.1 read in
    absurd (cc) in
    ((λ oriented. none (weak_of_oriented s oriented)), none)
