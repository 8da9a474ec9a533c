-- What `build` takes.
use Rattle.std.specs.Prelude.{◌≡◌, ℕ, ◌≤◌, List, [], length, map, slice_index_or}
use Rattle.std.specs.Prelude.{Vec}
use Rattle.std.specs.Global.{Global}
use Rattle.dd_model.specs.Symbol.{Symbol}
use Rattle.dd_model.specs.Connected.{Connected}
use Rattle.dd_model.specs.Small.{IsSmallSymbol}

-- the symbol with these five lists, of as many chambers as the first has numbers
abbrev pub listed : List ℕ → List ℕ → List ℕ → List ℕ → List ℕ → Symbol
listed s0 s1 s2 m01 m12 = record { size = length s0; s0 = s0; s1 = s1; s2 = s2; m01 = m01; m12 = m12 }

-- a list of three lists of numbers
abbrev pub lists : List (Vec ℕ Global) → List (List ℕ)
lists = map (λ v. v.items)

-- the symbol with these lists
abbrev pub given : List (Vec ℕ Global) → List ℕ → List ℕ → Symbol
given ops m01 m12 =
    listed (slice_index_or (lists ops) 0 []) (slice_index_or (lists ops) 1 []) (slice_index_or (lists ops) 2 []) m01 m12

-- the three lists and the degrees have one length
pub record HaveOneLength (s : Symbol) : Type 0 where
  pub s1 : length s.s1 ≡ s.size
  pub s2 : length s.s2 ≡ s.size
  pub m01 : length s.m01 ≡ s.size
  pub m12 : length s.m12 ≡ s.size

-- a connected symbol with branching values of at most 30
pub record IsConnectedSymbol (s : Symbol) : Type 0 where
  pub symbol : IsSmallSymbol s
  pub connected : Connected s

-- the symbol of these lists, which is connected
pub record IsBuilt (lists s : Symbol) : Type 0 where
  pub same : s ≡ lists
  pub connected : IsConnectedSymbol lists

-- a connected symbol within the limit
pub record IsAccepted (limit : ℕ) (s : Symbol) : Type 0 where
  pub symbol : IsSmallSymbol s
  pub connected : Connected s
  pub within : s.size ≤ limit
