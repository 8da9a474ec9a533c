-- How a search goes from a prefix to a longer one.
use Rattle.std.specs.Prelude.{◌≡◌, ◌↔◌, ℕ, ◌<◌, ◌≤◌, List, [], ◌∷◌, ◌++◌, length}
use Rattle.dd_model.specs.Symbol.{Symbol}
use Rattle.dd_model.specs.declared.requests.Request.{Request}
use Rattle.dd_front_jobs.specs.Under.{IsUnder}

-- a longer prefix under which the same is
pub record HasSameUnder (W : Symbol → Type 0) (n : ℕ) (prefix longer : List ℕ) : Type 0 where
  pub same : (s : Symbol) → IsUnder W n longer s ↔ IsUnder W n prefix s

-- What a search says of its states: what is asked for, the prefix, how long a whole one of a size is, how much is to be undone, the state with no more than so much, and what is kept true.
pub record SearchLaws (S : Type 0) : Type 1 where
  pub request : S → Request
  pub wanted : Request → Symbol → Type 0
  pub size : S → ℕ
  pub prefix : S → List ℕ
  pub end : ℕ → ℕ
  pub depth : S → ℕ
  pub undone : S → ℕ → S
  pub valid : S → Type 0

-- The new state is for the same request and size. Its prefix is the number and more, but for no more than follows from it.
pub record GoesOn {S : Type 0} (laws : SearchLaws S) (number : ℕ) (old new : S) : Type 0 where
  pub same_request : laws.request new ≡ laws.request old
  pub same_size : laws.size new ≡ laws.size old
  pub longer : length (laws.prefix old) < length (laws.prefix new)
  pub short : length (laws.prefix new) ≤ laws.end (laws.size old)
  pub same : HasSameUnder (laws.wanted (laws.request old)) (laws.size old) (laws.prefix old ++ number ∷ []) (laws.prefix new)
