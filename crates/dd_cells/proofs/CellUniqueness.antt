-- What is told of the cells of a pair is determined.
use Rattle.std.proofs.Common.{◌≡◌, ℕ, List, [], ◌∷◌, length, map, drop, slice_index, refl, sym, ap, ◌∙◌, subst, arith}
use Rattle.std.specs.List.{AllByRecursion}
use Rattle.dd_model.specs.declared.pair.Pair.{Pair}
use Rattle.dd_model.specs.Symbol.{Symbol}
use Rattle.dd_model.specs.Cell.{IsLeastTurns, IsBranching}
use Rattle.dd_model.proofs.Turns.{least_turns_unique}
use Rattle.dd_model.proofs.Branching.{branching_unique}
use Rattle.dd_model.proofs.CellLists.{cells_unique, increasing_unique}
use Rattle.dd_symbol.specs.declared.kind.Kind.{Kind}
use Rattle.dd_symbol.specs.declared.kind.Kind.TheVariants.{Cycle, Chain}
use Rattle.dd_cells.specs.declared.cell.Cell.{Cell}
use Rattle.dd_cells.specs.Cells.{AreMembers, IsCellOf, AreCellsOf}
use Rattle.dd_symbol.specs.Cells.{IsKindOf}

kinds_agree : (s : Symbol) (p : Pair) (d : ℕ) (k l : Kind) → IsKindOf s p d k → IsKindOf s p d l → k ≡ l
kinds_agree s p d Cycle Cycle a b = refl
kinds_agree s p d Cycle Chain a b = absurd (a b)
kinds_agree s p d Chain Cycle a b = absurd (b a)
kinds_agree s p d Chain Chain a b = refl

members_agree : (s : Symbol) (p : Pair) (d : ℕ) (xs ys : List ℕ) → AreMembers s p d xs → AreMembers s p d ys → xs ≡ ys
members_agree s p d xs ys a b =
    increasing_unique xs ys a.ascending b.ascending (λ z h. (b.each z).1 ((a.each z).0 h)) (λ z h. (a.each z).1 ((b.each z).0 h))

abbrev told : ℕ → Kind → ℕ → ℕ → List ℕ → Cell
told l k r v ds = record { least = l; kind = k; r = r; v = v; members = ds }

-- two tellings of one cell
same_cell : (s : Symbol) (p : Pair) (a b : Cell) → a.least ≡ b.least → IsCellOf s p a → IsCellOf s p b → a ≡ b
same_cell s p a b e x y =
    let k = kinds_agree s p a.least a.kind b.kind x.kind (subst (λ d. IsKindOf s p d b.kind) (sym e) y.kind) in
    let r = least_turns_unique s p a.least a.r b.r x.turns (subst (λ d. IsLeastTurns s p d b.r) (sym e) y.turns) in
    let v = branching_unique s p a.least a.v b.v x.branching (subst (λ d. IsBranching s p d b.v) (sym e) y.branching) in
    let m = members_agree s p a.least a.members b.members x.members (subst (λ d. AreMembers s p d b.members) (sym e) y.members) in
    ap (λ l. told l a.kind a.r a.v a.members) e
    ∙ ap (λ n. told b.least n a.r a.v a.members) k
    ∙ ap (λ n. told b.least b.kind n a.v a.members) r
    ∙ ap (λ n. told b.least b.kind b.r n a.members) v
    ∙ ap (λ n. told b.least b.kind b.r b.v n) m

same_cells : (s : Symbol) (p : Pair) (cs ds : List Cell) → map (λ (c : Cell). c.least) cs ≡ map (λ (c : Cell). c.least) ds
    → AllByRecursion (IsCellOf s p) cs → AllByRecursion (IsCellOf s p) ds → cs ≡ ds
same_cells s p [] [] e x y = refl
same_cells s p [] (b ∷ ds) e x y = let w = ap length e in absurd (omega (arith, w))
same_cells s p (a ∷ cs) [] e x y = let w = ap length e in absurd (omega (arith, w))
same_cells s p (a ∷ cs) (b ∷ ds) e x y =
    ap (λ x. x ∷ cs) (same_cell s p a b (ap (λ ns. slice_index ns 0) e) x.0 y.0)
    ∙ ap (λ xs. b ∷ xs) (same_cells s p cs ds (ap (drop 1) e) x.1 y.1)

pub told_cells_unique : (s : Symbol) (p : Pair) (cs ds : List Cell) → AreCellsOf s p cs → AreCellsOf s p ds → cs ≡ ds
told_cells_unique s p cs ds a b = same_cells s p cs ds (cells_unique s p _ _ a.least_chambers b.least_chambers) a.each b.each
