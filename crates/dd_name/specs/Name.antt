-- The name of an orbifold, after Conway.
use Rattle.std.specs.Prelude.{ℕ, List, [], ◌∷◌, ◌++◌, replicate, nat_le, cond, codes, decimal}
use Rattle.std.specs.List.{flat_map}
use Rattle.dd_name.specs.declared.orbifolds.Orbifold.{Orbifold}

-- an order, in round brackets where it is above 9
abbrev pub order_text : ℕ → List ℕ
order_text v = cond (nat_le v 9) (decimal v) (codes "(" ++ decimal v ++ codes ")")

-- orders one after the other
abbrev pub orders_text : List ℕ → List ℕ
orders_text = flat_map order_text

-- a star and the corners
abbrev pub boundary_text : List ℕ → List ℕ
boundary_text corners = codes "*" ++ orders_text corners

-- an o for each handle, the cones, the boundaries, and an x for each crosscap
abbrev pub parts_text : Orbifold → List ℕ
parts_text o = replicate o.handles 111 ++ orders_text o.cones ++ flat_map boundary_text o.boundaries ++ replicate o.crosscaps 120

-- 1 where nothing is there
abbrev pub or_one : List ℕ → List ℕ
or_one [] = codes "1"
or_one (b ∷ bs) = b ∷ bs

-- the name of an orbifold
abbrev pub name_text : Orbifold → List ℕ
name_text o = or_one (parts_text o)
