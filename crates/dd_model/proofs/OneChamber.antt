-- The symbols of one chamber.
use Rattle.std.proofs.Common.{◌≡◌, ◌≢◌, ℕ, zero, suc, ◌≤◌, List, [], ◌∷◌, length, refl, sym, ◌∙◌, subst, arith}
use Rattle.std.proofs.lemmas.Cmp.{tied_itself}
use Rattle.std.specs.List.{Contains}
use Rattle.std.specs.declared.cmp.Ordering.TheVariants.{Greater}
use Rattle.dd_model.specs.declared.index.Index.{Index}
use Rattle.dd_model.specs.declared.index.Index.TheVariants.{Zero, One, Two}
use Rattle.dd_model.specs.declared.pair.Pair.{Pair}
use Rattle.dd_model.specs.declared.pair.Pair.TheVariants.{Tile, Vertex, Edge}
use Rattle.dd_model.specs.Symbol.{Symbol, IsTable, IsSymbol, IsInvolution, HasDegree, IsChamber, Word, op, operation, act, power, turn}
use Rattle.dd_model.specs.Connected.{Connected, IsReached}
use Rattle.dd_model.specs.Isomorphic.{Isomorphic}
use Rattle.dd_model.specs.Code.{code_cmp, Least}
use Rattle.dd_model.specs.Cell.{IsLeastTurns, IsLeastOfCell, AreCells}
use Rattle.dd_model.specs.Minimal.{Minimal}
use Rattle.dd_model.specs.Line.{IsLine, text_of}
use Rattle.dd_model.specs.Worked.{single}
use Rattle.dd_model.proofs.Codes.{code_cmp_total}
use Rattle.dd_model.proofs.FixedMaps.{same_by_fixed_map}

-- no word leads away from the one chamber
pub stays : (a b : ℕ) (w : Word) → act (single a b) w 1 ≡ 1
stays a b [] = refl
stays a b (Zero ∷ w) = stays a b w
stays a b (One ∷ w) = stays a b w
stays a b (Two ∷ w) = stays a b w

pub turns : (a b : ℕ) (p : Pair) → IsLeastTurns (single a b) p 1 1
turns a b p = record { positive = omega arith; chamber = 1; in_cell = record { word = []; letters = tt; leads = refl }; fixed = stays a b (power (turn p) 1); least = λ k e x y z. x }

-- what holds at 1 holds at each chamber
pub at_one : (a b : ℕ) (P : ℕ → Type 0) → P 1 → (d : ℕ) → IsChamber (single a b) d → P d
at_one a b P h zero c = absurd (omega (arith, c.0))
at_one a b P h (suc zero) c = h
at_one a b P h (suc (suc d)) c = absurd (omega (arith, c.1))

involution : (a b : ℕ) (i : Index) → IsInvolution (single a b) i
involution a b i = record {
  within = at_one a b (λ d. IsChamber (single a b) (op (single a b) i d)) (elim i as (λ j. IsChamber (single a b) (op (single a b) j 1)) [ Zero ↦ (omega arith, omega arith) | One ↦ (omega arith, omega arith) | Two ↦ (omega arith, omega arith) ]);
  involutive = at_one a b (λ d. op (single a b) i (op (single a b) i d) ≡ d) (elim i as (λ j. op (single a b) j (op (single a b) j 1) ≡ 1) [ Zero ↦ refl | One ↦ refl | Two ↦ refl ]);
}

lengths : (a b : ℕ) (i : Index) → length (operation (single a b) i) ≡ 1
lengths a b Zero = refl
lengths a b One = refl
lengths a b Two = refl

has_degree : (a b : ℕ) → 1 ≤ a → 1 ≤ b → (p : Pair) → HasDegree (single a b) p 1
has_degree a b h k Tile = record { positive = h; along_first = refl; along_second = refl; turns = stays a b (power (turn Tile) a) }
has_degree a b h k Vertex = record { positive = k; along_first = refl; along_second = refl; turns = stays a b (power (turn Vertex) b) }
has_degree a b h k Edge = record { positive = omega arith; along_first = refl; along_second = refl; turns = stays a b (power (turn Edge) 2) }

pub table : (a b : ℕ) → IsTable (single a b)
table a b = record { chambers = omega arith; lengths = lengths a b; m01_length = refl; m12_length = refl; involutions = involution a b }

pub symbol : (a b : ℕ) → 1 ≤ a → 1 ≤ b → IsSymbol (single a b)
symbol a b h k = record { table = table a b; degrees = λ p d c. at_one a b (λ d. HasDegree (single a b) p d) (has_degree a b h k p) d c }

pub connected : (a b : ℕ) → Connected (single a b)
connected a b = at_one a b (IsReached (single a b)) (record { word = []; leads = refl })

-- a symbol that is isomorphic to one of a single chamber is equal to it
alone : (a b : ℕ) (t : Symbol) → IsSymbol t → Isomorphic (single a b) t → single a b ≡ t
alone a b t it (f, iso) =
    same_by_fixed_map (single a b) t f (table a b) it.table iso (λ d h.
    let w = iso.morphism.within d h in
    let size : t.size ≡ 1 = iso.size in
    omega (arith, w.0, w.1, size, h.0, h.1))

pub least : (a b : ℕ) → Least (single a b)
least a b t it iso = subst (λ u. code_cmp (single a b) u ≢ Greater) (alone a b t it iso) (λ e. let tied = tied_itself code_cmp_total (single a b) in (cc))

pub minimal : (a b : ℕ) → Minimal (single a b)
minimal a b d e hd he alike = at_one a b (λ x. x ≡ e) (at_one a b (λ y. 1 ≡ y) refl e he) d hd

only_member : (d : ℕ) → Contains (1 ∷ []) d → 1 ≡ d
only_member d (zero, h, e) = e
only_member d (suc k, h, e) = absurd (omega (arith, h))

one_cell : (a b : ℕ) (p : Pair) → AreCells (single a b) p (1 ∷ [])
one_cell a b p = record { ascending = λ k h. omega (arith, h); members = λ d. (λ h. subst (λ e. IsLeastOfCell (single a b) p e) (only_member d h) least_one, λ h. at_one a b (λ d. Contains (1 ∷ []) d) (0, omega arith, refl) d h.0) } where
  least_one : IsLeastOfCell (single a b) p 1
  least_one = ((omega arith, omega arith), λ e h. let x = sym h.leads ∙ stays a b h.word in omega (arith, x))

pub line : (k a b : ℕ) (bytes : List ℕ) → bytes ≡ text_of k (single a b) (1 ∷ []) (1 ∷ []) → IsLine k (single a b) bytes
line k a b bytes e = record { tiles = 1 ∷ []; vertices = 1 ∷ []; are_tiles = one_cell a b Tile; are_vertices = one_cell a b Vertex; text = e }
