use Rattle.std.proofs.Common.{ℕ, subst}
use Rattle.std.specs.Bool.{OnTrue, OnFalse}
use Rattle.dd_model.specs.Symbol.{Symbol, op}
use Rattle.dd_symbol.specs.Cells.{IsLeastFor}
use Rattle.dd_union_find.specs.Parts.{AreInOnePart, AreJoinedAt}
use Rattle.dd_lattice.proofs.KindLemmas.{one_pair}
use Rattle.dd_lattice.proofs.kinds.join_cells.Goals as goal

pub returns-clause-joined : goal.returns-clause-joined
returns-clause-joined c =
    let s = c.symbol-symbol.result.now in
    let same = c.symbol-symbol.ensures.same in
    subst (λ (t : Symbol). (a b : ℕ) → IsLeastFor t c.args.pair c.args.chamber a → IsLeastFor t c.args.pair (op t c.args.i c.args.chamber) b → AreJoinedAt c.args.above.now a b c.join.new.self) same
    (λ a b least_a least_b. one_pair s (rw same c.symbol-symbol.ensures.symbol.symbol.table.involutions) c.args.pair c.args.chamber (op s c.args.i c.args.chamber) (rw same c.requires.chamber) c.op.ensures.image c.op.ensures.chamber
    (λ x y. AreJoinedAt c.args.above.now x y c.join.new.self) _ _ a b
    c.cell-one.ensures.least (subst (λ d. IsLeastFor s c.args.pair d c.cell-other.result.least) c.op.ensures.image c.cell-other.ensures.least) least_a least_b c.join.ensures.joined)

pub returns-clause-two : goal.returns-clause-two
returns-clause-two c =
    let s = c.symbol-symbol.result.now in
    let same = c.symbol-symbol.ensures.same in
    subst (λ (t : Symbol). (a b : ℕ) → IsLeastFor t c.args.pair c.args.chamber a → IsLeastFor t c.args.pair (op t c.args.i c.args.chamber) b → OnTrue c.join.result (AreInOnePart c.args.above.now a b → ⊥)) same
    (λ a b least_a least_b. one_pair s (rw same c.symbol-symbol.ensures.symbol.symbol.table.involutions) c.args.pair c.args.chamber (op s c.args.i c.args.chamber) (rw same c.requires.chamber) c.op.ensures.image c.op.ensures.chamber
    (λ x y. OnTrue c.join.result (AreInOnePart c.args.above.now x y → ⊥)) _ _ a b
    c.cell-one.ensures.least (subst (λ d. IsLeastFor s c.args.pair d c.cell-other.result.least) c.op.ensures.image c.cell-other.ensures.least) least_a least_b c.join.ensures.two)

pub returns-clause-one_part : goal.returns-clause-one_part
returns-clause-one_part c =
    let s = c.symbol-symbol.result.now in
    let same = c.symbol-symbol.ensures.same in
    subst (λ (t : Symbol). (a b : ℕ) → IsLeastFor t c.args.pair c.args.chamber a → IsLeastFor t c.args.pair (op t c.args.i c.args.chamber) b → OnFalse c.join.result (AreInOnePart c.args.above.now a b)) same
    (λ a b least_a least_b. one_pair s (rw same c.symbol-symbol.ensures.symbol.symbol.table.involutions) c.args.pair c.args.chamber (op s c.args.i c.args.chamber) (rw same c.requires.chamber) c.op.ensures.image c.op.ensures.chamber
    (λ x y. OnFalse c.join.result (AreInOnePart c.args.above.now x y)) _ _ a b
    c.cell-one.ensures.least (subst (λ d. IsLeastFor s c.args.pair d c.cell-other.result.least) c.op.ensures.image c.cell-other.ensures.least) least_a least_b c.join.ensures.one_part)
