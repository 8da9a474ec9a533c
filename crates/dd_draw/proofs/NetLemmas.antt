-- Nets that are connected: numbers at the vertices that are balanced without shifts are 0.
use Rattle.std.proofs.Common.{◌≡◌, ℕ, zero, suc, ◌<◌, ◌≤◌, ◌⊎◌, ℤ, pos, nat_abs, List, [], ◌∷◌, length, get_or, ap, ◌∙◌, arith}
use Rattle.std.specs.List.{AllByRecursion}
use Rattle.dd_cells.proofs.CurvatureLemmas.{size_zero}
use Rattle.dd_lattice.specs.Nets.{IsConnectedNet}
use Rattle.dd_lattice.specs.declared.net.Net.{Net}
use Rattle.dd_lattice.specs.declared.net_edge.NetEdge.{NetEdge}
use Rattle.dd_draw.proofs.Pulls.{IsInside, IsLevel, level}
use Rattle.dd_draw.specs.Placement.{pull}

pub all_from_places : (P : NetEdge → Type 0) (es : List NetEdge) → ((k : ℕ) (e : NetEdge) → k < length es → P (get_or es k e)) → AllByRecursion P es
all_from_places P [] h = tt
all_from_places P (x ∷ es) h = (h zero x (omega arith), all_from_places P es (λ k e l. h (suc k) e (omega arith)))

pub place_of_all : (P : NetEdge → Type 0) (es : List NetEdge) → AllByRecursion P es → (k : ℕ) (e : NetEdge) → k < length es → P (get_or es k e)
place_of_all P [] all k e l = absurd (omega arith)
place_of_all P (x ∷ es) all zero e l = all.0
place_of_all P (x ∷ es) all (suc k) e l = place_of_all P es all.1 k e (omega arith)

pub edges_inside : (net : Net) → IsConnectedNet net → AllByRecursion (IsInside net.vertices) net.edges.items
edges_inside net c = all_from_places (IsInside net.vertices) net.edges.items
    (λ k e l. record { from_low = (c.from k e l).0; from = (c.from k e l).1; to_low = (c.to k e l).0; to = (c.to k e l).1 })

-- numbers at the vertices that have one value at the ends of each edge, and are 0 at the first vertex
pub zero_from_level : (net : Net) (h : ℕ → ℤ) → IsConnectedNet net → AllByRecursion (IsLevel h) net.edges.items → h 1 ≡ pos 0
    → (v : ℕ) → 1 ≤ v → v ≤ net.vertices → h v ≡ pos 0
zero_from_level net h c all first v low high =
    size_zero (h v) (c.joined (λ w. nat_abs (h w)) (λ k e l. ap nat_abs (place_of_all (IsLevel h) net.edges.items all k e l)) v (low, high) ∙ ap nat_abs first)

pub zero_everywhere : (net : Net) (shift : NetEdge → ℤ) (h : ℕ → ℤ) → IsConnectedNet net → h 1 ≡ pos 0
    → ((k : ℕ) → k < net.vertices → (h (suc k) ≡ pos 0) ⊎ (pull shift (pos 0) h net.edges.items (suc k) ≡ pos 0))
    → (v : ℕ) → 1 ≤ v → v ≤ net.vertices → h v ≡ pos 0
zero_everywhere net shift h c first balanced =
    zero_from_level net h c (level shift h net.edges.items net.vertices (edges_inside net c) balanced) first
