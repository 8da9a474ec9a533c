-- Lists that follow each other.
use Rattle.std.specs.Prelude.{◌≡◌, ℕ, ◌+◌, ◌<◌, ◌≤◌, List, [], length, get_or, take}
use Rattle.std.specs.List.{flat_map}
use Rattle.dd_model.specs.Symbol.{Symbol}

-- what spans have that follow each other
abbrev pub joined_spans : List (List Symbol) → List Symbol
joined_spans = flat_map (λ span. span)

-- The first `count` members are those of the first k spans, and `rest` more of the next one, which has more than these.
pub record IsCut (spans : List (List Symbol)) (count k rest : ℕ) : Type 0 where
  pub within : k ≤ length spans
  pub count_is : count ≡ length (joined_spans (take k spans)) + rest
  pub inside : k < length spans → rest < length (get_or spans k [])
  pub end : k ≡ length spans → rest ≡ 0
