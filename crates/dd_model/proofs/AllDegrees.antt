-- The product of all degrees of a symbol is positive.
use Rattle.std.proofs.Common.{◌≡◌, ℕ, ◌+◌, ◌-◌, ◌≤◌, List, [], ◌∷◌, length, get_or, ap, ◌∙◌, subst, arith}
use Rattle.std.proofs.lemmas.List.{get_or_default}
use Rattle.std.specs.List.{Contains}
use Rattle.dd_model.specs.declared.pair.Pair.TheVariants.{Tile, Vertex}
use Rattle.dd_model.specs.Symbol.{Symbol, IsSymbol, item}
use Rattle.dd_model.specs.Flat.{product, all_degrees}
use Rattle.dd_model.proofs.Lists.{Contains-head, Contains-later}
use Rattle.dd_model.proofs.Numbers.{positive_product}

-- each member is the item of a chamber
pub listed_item : (xs : List ℕ) (n x : ℕ) → length xs ≡ n → Contains xs x → (d : ℕ) × (1 ≤ d) × (d ≤ n) × (item xs d ≡ x)
listed_item xs n x size (k, below, e) =
    let back : k + 1 - 1 ≡ k = omega arith in
    (k + 1, omega arith, omega arith, ap (λ j. get_or xs j 0) back ∙ get_or_default xs k 0 x below ∙ e)

pub product_positive : (xs : List ℕ) → ((x : ℕ) → Contains xs x → 1 ≤ x) → 1 ≤ product xs
product_positive [] some = omega arith
product_positive (x ∷ xs) some =
    positive_product x (product xs) (some x (Contains-head x xs)) (product_positive xs (λ y later. some y (Contains-later x y xs later)))

items_positive : (xs : List ℕ) (n : ℕ) → length xs ≡ n → ((d : ℕ) → 1 ≤ d → d ≤ n → 1 ≤ item xs d) → 1 ≤ product xs
items_positive xs n size some = product_positive xs (λ x listed. let at = listed_item xs n x size listed in subst (λ m. 1 ≤ m) at.3 (some at.0 at.1 at.2))

pub all_degrees_positive : (s : Symbol) → IsSymbol s → 1 ≤ all_degrees s
all_degrees_positive s is =
    positive_product (product s.m01) (product s.m12)
    (items_positive s.m01 s.size is.table.m01_length (λ d low high. (is.degrees Tile d (low, high)).positive))
    (items_positive s.m12 s.size is.table.m12_length (λ d low high. (is.degrees Vertex d (low, high)).positive))
