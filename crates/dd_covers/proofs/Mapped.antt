-- What stands in a list that a function makes of another.
use Rattle.std.proofs.Common.{◌≡◌, ⊎_elim, List, [], ◌∷◌, map}
use Rattle.std.specs.List.{Contains}
use Rattle.dd_model.proofs.Lists.{Contains-none, Contains-head, Contains-later, Contains-cases}

pub Contains-from_map : {A B : Type 0} (f : A → B) (xs : List A) (y : B) → Contains (map f xs) y → (x : A) × Contains xs x × (f x ≡ y)
Contains-from_map f [] y there = absurd (Contains-none y there)
Contains-from_map f (x ∷ xs) y there =
    ⊎_elim
    (λ first. (x, Contains-head x xs, first))
    (λ later. let r = Contains-from_map f xs y later in (r.0, Contains-later x r.0 xs r.1, r.2))
    (Contains-cases (f x) y (map f xs) there)
