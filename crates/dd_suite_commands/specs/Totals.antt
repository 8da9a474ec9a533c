-- How often each name comes.
use Rattle.std.specs.Prelude.{ℕ, ◌+◌, Bool, true, false, cond, List, [], ◌∷◌, ◌++◌, map, codes, decimal}
use Rattle.std.specs.List.{flat_map}
use Rattle.std.specs.Str.{bytes_eq}
use Rattle.dd_suite_commands.specs.declared.totals.Totals.{Totals}

-- how often a name stands in a list
abbrev pub times : List ℕ → List (List ℕ) → ℕ
times g [] = 0
times g (h ∷ hs) = cond (bytes_eq g h) 1 0 + times g hs

-- the name stands in the list
abbrev pub is_among : List ℕ → List (List ℕ) → Bool
is_among g [] = false
is_among g (h ∷ hs) = cond (bytes_eq g h) true (is_among g hs)

-- the names of a list, in order, without those that stand before their place, in the list or among the names given
abbrev pub first_seen : List (List ℕ) → List (List ℕ) → List (List ℕ)
first_seen before [] = []
first_seen before (g ∷ gs) = cond (is_among g before) (first_seen (g ∷ before) gs) (g ∷ first_seen (g ∷ before) gs)

-- each name in the order first seen, and how often it comes
abbrev pub totals_of : List (List ℕ) → List (List ℕ × ℕ)
totals_of names = map (λ g. (g, times g names)) (first_seen [] names)

-- the line of a name and its number, which begins with a word
abbrev pub total_text : List ℕ → List ℕ × ℕ → List ℕ
total_text word e = word ++ (codes " " ++ (e.0 ++ (codes " " ++ (decimal e.1 ++ codes "\n"))))

-- the lines of all names
abbrev pub totals_text : List (List ℕ) → List ℕ
totals_text names = flat_map (total_text (codes "total")) (totals_of names)

-- the names that are counted, and their numbers
abbrev pub counted_in : Totals → List (List ℕ × ℕ)
counted_in t = map (λ e. (e.0.items, e.1)) t.counts.entries

-- one more of a name: it keeps its place, and a new one goes last
abbrev pub counted : List (List ℕ × ℕ) → List ℕ → List (List ℕ × ℕ)
counted [] g = (g, 1) ∷ []
counted (e ∷ es) g = cond (bytes_eq g e.0) ((e.0, e.1 + 1) ∷ es) (e ∷ counted es g)
