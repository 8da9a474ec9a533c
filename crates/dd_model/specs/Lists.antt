-- Words on lists of numbers, and on lists without some of their members.
use Rattle.std.specs.Prelude.{◌≡◌, ◌⊎◌, ℕ, ◌<◌, List, [], ◌∷◌}

-- ys begins with xs
abbrev pub Begins : List ℕ → List ℕ → Type 0
Begins [] ys = Unit {0}
Begins (x ∷ xs) [] = ⊥
Begins (x ∷ xs) (y ∷ ys) = (x ≡ y) × Begins xs ys

-- xs is smaller at the first place that both lists have and where they differ
abbrev pub IsSmallerWhereTheyDiffer : List ℕ → List ℕ → Type 0
IsSmallerWhereTheyDiffer [] ys = ⊥
IsSmallerWhereTheyDiffer (x ∷ xs) [] = ⊥
IsSmallerWhereTheyDiffer (x ∷ xs) (y ∷ ys) = (x < y) ⊎ ((x ≡ y) × IsSmallerWhereTheyDiffer xs ys)

-- ys is xs without the members at which P holds, in the same order
abbrev pub IsWithout : {A : Type 0} → (A → Type 0) → List A → List A → Type 0
IsWithout P [] [] = Unit {0}
IsWithout P [] (y ∷ ys) = ⊥
IsWithout P (x ∷ xs) [] = P x × IsWithout P xs []
IsWithout P (x ∷ xs) (y ∷ ys) = (P x × IsWithout P xs (y ∷ ys)) ⊎ ((¬ P x) × (x ≡ y) × IsWithout P xs ys)
