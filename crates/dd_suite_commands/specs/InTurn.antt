-- Lists whose members at each place stand in a relation.
use Rattle.std.specs.Prelude.{List, [], ◌∷◌}
use Rattle.dd_model.specs.Symbol.{Symbol}
use Rattle.dd_model.specs.Isomorphic.{Isomorphic}

-- two lists of one length whose members at each place are related
abbrev pub AreInTurn : (Symbol → Symbol → Type 0) → List Symbol → List Symbol → Type 0
AreInTurn R [] [] = Unit {0}
AreInTurn R [] (t ∷ ts) = ⊥
AreInTurn R (s ∷ ss) [] = ⊥
AreInTurn R (s ∷ ss) (t ∷ ts) = R s t × AreInTurn R ss ts

-- two lists of one length with isomorphic members at each place
abbrev pub AreIsomorphicInTurn : List Symbol → List Symbol → Type 0
AreIsomorphicInTurn = AreInTurn Isomorphic
