-- What single edges give to the entries of the first table.
use Rattle.std.specs.Prelude.{ℕ, ◌+◌, ℤ, pos, ◌-ℤ◌, cond, nat_eq}
use Rattle.dd_lattice.specs.declared.net_edge.NetEdge.{NetEdge}
use Rattle.dd_draw.specs.Elimination.{ends_at, joins, seen_from}

-- what an edge that is no loop gives to row i and column j, for n vertices
abbrev pub unlooped_share : ℕ → ℕ → ℕ → NetEdge → ℤ
unlooped_share n i j e =
    cond (nat_eq j n) (seen_from (λ d. d.x) (i + 1) e)
    (cond (nat_eq j (n + 1)) (seen_from (λ d. d.y) (i + 1) e)
    (cond (nat_eq i j) (ends_at (i + 1) e) (pos 0 -ℤ joins (i + 1) (j + 1) e)))

-- what an edge gives there
abbrev pub share_of : ℕ → ℕ → ℕ → NetEdge → ℤ
share_of n i j e = cond (nat_eq e.from e.to) (pos 0) (unlooped_share n i j e)
