-- Cells as numbers.
use Rattle.std.proofs.Common.{◌≡◌, ℕ, ◌+◌, ◌-◌, ◌*◌, cond, leb, ap, ◌∙◌, arith}
use Rattle.std.proofs.lemmas.Bool.{le-leb, lt-leb}
use Rattle.dd_model.specs.declared.index.Index.{Index}
use Rattle.dd_model.specs.declared.pair.Pair.{Pair}
use Rattle.dd_model.specs.declared.pair.Pair.TheVariants.{Tile, Vertex, Edge}
use Rattle.dd_model.specs.Symbol.{Symbol, AreInvolutions, IsChamber, op}
use Rattle.dd_model.proofs.CellWalks.{in_cell-refl, in_cell-sym, in_cell-trans, in_cell-letter}
use Rattle.dd_model.proofs.CellSearch.{least_of_cell_unique}
use Rattle.dd_cells.proofs.CellSums.{AreRoots}
use Rattle.dd_covers.specs.Ends.{Holds}
use Rattle.dd_covers.specs.CellNumbers.{numbered}

-- neighbors in a cell have one root
pub root_beside : (s : Symbol) → AreInvolutions s → (p : Pair) (root : ℕ → ℕ) → AreRoots s p root → (i : Index) (d : ℕ) → IsChamber s d → Holds p i → root (op s i d) ≡ root d
root_beside s inv p root roots i d h holds =
    let there = (inv i).within d h in
    let step = in_cell-letter s p d d i holds (in_cell-refl s p d) in
    let up = in_cell-trans s p d (op s i d) (root (op s i d)) step (roots.in_cell (op s i d) there) in
    let down = in_cell-sym s inv p d (root d) h (roots.in_cell d h) in
    least_of_cell_unique s inv p (root (op s i d)) (root d) (roots.least (op s i d) there) (roots.least d h)
    (in_cell-sym s inv p (root d) (root (op s i d)) (roots.least d h).0 (in_cell-trans s p (root d) d (root (op s i d)) down up))

-- the value of the cell with a number
abbrev pub decoded : Symbol → (Pair → ℕ → ℕ) → ℕ → ℕ
decoded s g n = cond (leb n s.size) (g Tile n) (cond (leb n (2 * s.size + 1)) (g Vertex (n - (s.size + 1))) (g Edge (n - 2 * (s.size + 1))))

pub decoded_at : (s : Symbol) (g : Pair → ℕ → ℕ) (p : Pair) (l : ℕ) → IsChamber s l → decoded s g (numbered s p l) ≡ g p l
decoded_at s g Tile l h =
    let e : 0 + l ≡ l = omega arith in
    ap (λ n. decoded s g n) e ∙ ap (λ b. cond b (g Tile l) (cond (leb l (2 * s.size + 1)) (g Vertex (l - (s.size + 1))) (g Edge (l - 2 * (s.size + 1))))) (le-leb l s.size h.1)
decoded_at s g Vertex l h =
    let n = s.size + 1 + l in
    let e : n - (s.size + 1) ≡ l = omega arith in
    ap (λ b. cond b (g Tile n) (cond (leb n (2 * s.size + 1)) (g Vertex (n - (s.size + 1))) (g Edge (n - 2 * (s.size + 1))))) (lt-leb n s.size (omega (arith, h.0)))
    ∙ ap (λ b. cond b (g Vertex (n - (s.size + 1))) (g Edge (n - 2 * (s.size + 1)))) (le-leb n (2 * s.size + 1) (omega (arith, h.1))) ∙ ap (g Vertex) e
decoded_at s g Edge l h =
    let n = 2 * (s.size + 1) + l in
    let e : n - 2 * (s.size + 1) ≡ l = omega arith in
    ap (λ b. cond b (g Tile n) (cond (leb n (2 * s.size + 1)) (g Vertex (n - (s.size + 1))) (g Edge (n - 2 * (s.size + 1))))) (lt-leb n s.size (omega (arith, h.0)))
    ∙ ap (λ b. cond b (g Vertex (n - (s.size + 1))) (g Edge (n - 2 * (s.size + 1)))) (lt-leb n (2 * s.size + 1) (omega (arith, h.0))) ∙ ap (g Edge) e
