-- Lists of items of a table, numbered by their digits.
use Rattle.std.specs.Prelude.{ℕ, zero, suc, ◌/◌, ◌%◌, List, [], ◌∷◌, length, slice_index}

-- n items of a table: the last digit of k, in the base of the table's length, tells the first item
abbrev pub choices : List ℕ → ℕ → ℕ → List ℕ
choices table zero k = []
choices table (suc n) k = slice_index table (k % length table) ∷ choices table n (k / length table)

-- the chambers of a symbol of three chambers
abbrev pub chamber_table : List ℕ
chamber_table = 1 ∷ 2 ∷ 3 ∷ []

-- the products of a branching value 1, 2, 3, 4 or 6 and one, two or three turns
abbrev pub degree_table : List ℕ
degree_table = 1 ∷ 2 ∷ 3 ∷ 4 ∷ 6 ∷ 8 ∷ 9 ∷ 12 ∷ 18 ∷ []
