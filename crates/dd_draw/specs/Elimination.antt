-- The tables of the elimination, in exact fractions, and the first of their numbers that is too wide.
use Rattle.std.specs.Prelude.{ℕ, zero, suc, ◌+◌, ℤ, pos, ◌+ℤ◌, ◌-ℤ◌, ◌*ℤ◌, cond, nat_eq, List, [], ◌∷◌}
use Rattle.dd_lattice.specs.declared.net.Net.{Net}
use Rattle.dd_lattice.specs.declared.net_edge.NetEdge.{NetEdge}
use Rattle.dd_draw.specs.Placement.{if_same}

-- A quotient of whole numbers, in any terms.
pub record Ratio : Type 0 where
  pub over : ℤ
  pub under : ℤ

abbrev pub whole : ℤ → Ratio
whole z = record { over = z; under = pos 1 }

abbrev pub quotient : Ratio → Ratio → Ratio
quotient r s = record { over = r.over *ℤ s.under; under = r.under *ℤ s.over }

abbrev pub product : Ratio → Ratio → Ratio
product r s = record { over = r.over *ℤ s.over; under = r.under *ℤ s.under }

abbrev pub difference : Ratio → Ratio → Ratio
difference r s = record { over = (r.over *ℤ s.under) -ℤ (s.over *ℤ r.under); under = r.under *ℤ s.under }

-- what a number is over the edges that are no loops
abbrev pub sum_unlooped : (NetEdge → ℤ) → List NetEdge → ℤ
sum_unlooped f [] = pos 0
sum_unlooped f (e ∷ es) = cond (nat_eq e.from e.to) (pos 0) (f e) +ℤ sum_unlooped f es

-- how many ends an edge has at a vertex
abbrev pub ends_at : ℕ → NetEdge → ℤ
ends_at v e = if_same e.from v (pos 1) +ℤ if_same e.to v (pos 1)

-- 1 where an edge joins two vertices, and else 0
abbrev pub joins : ℕ → ℕ → NetEdge → ℤ
joins v w e = if_same e.from v (if_same e.to w (pos 1)) +ℤ if_same e.to v (if_same e.from w (pos 1))

-- the shift of an edge as seen from a vertex
abbrev pub seen_from : (NetEdge → ℤ) → ℕ → NetEdge → ℤ
seen_from shift v e = if_same e.from v (shift e) -ℤ if_same e.to v (shift e)

-- The first table. Unknown i is vertex i + 1; rows are of unknowns, and so are the columns below the number of vertices. The two
-- columns after them are of the shifts.
abbrev pub first_entry : Net → ℕ → ℕ → ℤ
first_entry net i j =
    cond (nat_eq j net.vertices) (sum_unlooped (seen_from (λ e. e.x) (i + 1)) net.edges.items)
    (cond (nat_eq j (net.vertices + 1)) (sum_unlooped (seen_from (λ e. e.y) (i + 1)) net.edges.items)
    (cond (nat_eq i j) (sum_unlooped (ends_at (i + 1)) net.edges.items)
    (pos 0 -ℤ sum_unlooped (joins (i + 1) (j + 1)) net.edges.items)))

-- The tables by step, row and column. At step k row k is divided by its entry in column k, and then from each other row the product
-- of its entry in column k and the new row k is taken away.
unfoldable pub entry : Net → ℕ → ℕ → ℕ → Ratio
entry net zero i j = whole (first_entry net i j)
entry net (suc k) i j = cond (nat_eq i (suc k))
    (quotient (entry net k (suc k) j) (entry net k (suc k) (suc k)))
    (difference (entry net k i j)
    (product (entry net k i (suc k)) (quotient (entry net k (suc k) j) (entry net k (suc k) (suc k)))))

-- the product that is taken away at step k
abbrev pub taken : Net → ℕ → ℕ → ℕ → Ratio
taken net zero i j = whole (pos 0)
taken net (suc k) i j = product (entry net k i (suc k)) (entry net (suc k) (suc k) j)
