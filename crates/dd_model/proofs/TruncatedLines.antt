-- The cells and the line of the tiling by squares and octagons.
use Rattle.std.proofs.Common.{◌≡◌, ◌⊎◌, ℕ, zero, suc, ◌≤◌, [], ◌∷◌, refl, sym, subst, inl, inr, ⊎_elim, arith}
use Rattle.std.specs.List.{Contains}
use Rattle.std.specs.List.Sorted.{IsStrictlyIncreasing}
use Rattle.std.specs.Prelude.{codes}
use Rattle.std.specs.Fmt.{digits}
use Rattle.dd_model.specs.declared.index.Index.TheVariants.{Zero, One, Two}
use Rattle.dd_model.specs.declared.pair.Pair.{Pair}
use Rattle.dd_model.specs.declared.pair.Pair.TheVariants.{Tile, Vertex}
use Rattle.dd_model.specs.Symbol.{Symbol, Word, first, second, op, act}
use Rattle.dd_model.specs.Cell.{IsWordOf, IsLeastOfCell, AreCells}
use Rattle.dd_model.specs.Line.{IsLine}
use Rattle.dd_model.specs.Worked.{truncated_squares}
use Rattle.dd_model.proofs.Truncated.{one, two, is_table}
use Rattle.dd_model.proofs.Numbers.{by_three}
use Rattle.dd_model.proofs.Words.{act_within}

-- what the two involutions keep holds over the whole cell
kept_by_word : (s : Symbol) (p : Pair) (P : ℕ → Type 0) → ((d : ℕ) → P d → P (op s (first p) d) × P (op s (second p) d)) → (w : Word) → IsWordOf p w → (d : ℕ) → P d → P (act s w d)
kept_by_word s p P keep [] letters d here = here
kept_by_word s p P keep (i ∷ w) letters d here =
    kept_by_word s p P keep w letters.1 (op s i d)
    (⊎_elim (λ e. subst (λ j. P (op s j d)) (sym e) (keep d here).0) (λ e. subst (λ j. P (op s j d)) (sym e) (keep d here).1) letters.0)

-- the two chambers of the octagons
abbrev IsOfOctagon : ℕ → Type 0
IsOfOctagon d = (2 ≡ d) ⊎ (3 ≡ d)

octagon_kept : (d : ℕ) → IsOfOctagon d → IsOfOctagon (op truncated_squares Zero d) × IsOfOctagon (op truncated_squares One d)
octagon_kept d (inl e) = subst (λ x. IsOfOctagon (op truncated_squares Zero x) × IsOfOctagon (op truncated_squares One x)) e (inl refl, inr refl)
octagon_kept d (inr e) = subst (λ x. IsOfOctagon (op truncated_squares Zero x) × IsOfOctagon (op truncated_squares One x)) e (inr refl, inl refl)

least_of_all : (p : Pair) → IsLeastOfCell truncated_squares p 1
least_of_all p = (one, λ e h. subst (λ x. 1 ≤ x) h.leads (act_within truncated_squares is_table.involutions h.word 1 one).0)

least_of_octagon : IsLeastOfCell truncated_squares Tile 2
least_of_octagon = (
  two,
  λ e h.
      ⊎_elim (λ x. omega (arith, x)) (λ x. omega (arith, x))
      (subst IsOfOctagon h.leads (kept_by_word truncated_squares Tile IsOfOctagon octagon_kept h.word h.letters 2 (inl refl))),
)

three_not_least_of_tile : IsLeastOfCell truncated_squares Tile 3 → ⊥
three_not_least_of_tile h = let x = h.1 2 (record { word = One ∷ []; letters = (inr refl, tt); leads = refl }) in omega (arith, x)

two_not_least_of_vertex : IsLeastOfCell truncated_squares Vertex 2 → ⊥
two_not_least_of_vertex h = let x = h.1 1 (record { word = Two ∷ []; letters = (inr refl, tt); leads = refl }) in omega (arith, x)

three_not_least_of_vertex : IsLeastOfCell truncated_squares Vertex 3 → ⊥
three_not_least_of_vertex h = let x = h.1 1 (record { word = One ∷ Two ∷ []; letters = (inl refl, (inr refl, tt)); leads = refl }) in omega (arith, x)

tiles : AreCells truncated_squares Tile (1 ∷ 2 ∷ [])
tiles = record { ascending = rising; members = λ d. (from d, λ h. to d h) } where
  rising : IsStrictlyIncreasing (1 ∷ 2 ∷ [])
  rising zero h = omega arith
  rising (suc k) h = absurd (omega (arith, h))

  from : (d : ℕ) → Contains (1 ∷ 2 ∷ []) d → IsLeastOfCell truncated_squares Tile d
  from d (zero, h, e) = subst (IsLeastOfCell truncated_squares Tile) e (least_of_all Tile)
  from d (suc zero, h, e) = subst (IsLeastOfCell truncated_squares Tile) e least_of_octagon
  from d (suc (suc k), h, e) = absurd (omega (arith, h))

  to : (d : ℕ) → IsLeastOfCell truncated_squares Tile d → Contains (1 ∷ 2 ∷ []) d
  to d h = by_three (λ x. IsLeastOfCell truncated_squares Tile x → Contains (1 ∷ 2 ∷ []) x)
      (λ l. (0, omega arith, refl)) (λ l. (1, omega arith, refl)) (λ l. absurd (three_not_least_of_tile l)) d h.0.0 h.0.1 h

vertices : AreCells truncated_squares Vertex (1 ∷ [])
vertices = record { ascending = λ k h. absurd (omega (arith, h)); members = λ d. (from d, λ h. to d h) } where
  from : (d : ℕ) → Contains (1 ∷ []) d → IsLeastOfCell truncated_squares Vertex d
  from d (zero, h, e) = subst (IsLeastOfCell truncated_squares Vertex) e (least_of_all Vertex)
  from d (suc k, h, e) = absurd (omega (arith, h))

  to : (d : ℕ) → IsLeastOfCell truncated_squares Vertex d → Contains (1 ∷ []) d
  to d h = by_three (λ x. IsLeastOfCell truncated_squares Vertex x → Contains (1 ∷ []) x)
      (λ l. (0, omega arith, refl)) (λ l. absurd (two_not_least_of_vertex l)) (λ l. absurd (three_not_least_of_vertex l)) d h.0.0 h.0.1 h

pub line : IsLine 1 truncated_squares (codes "<1.1:3:1 2 3,1 3,2 3:4 8,3>\n")
unfolding digits
line = record { tiles = 1 ∷ 2 ∷ []; vertices = 1 ∷ []; are_tiles = tiles; are_vertices = vertices; text = refl }
