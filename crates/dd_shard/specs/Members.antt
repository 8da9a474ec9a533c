-- Members of lists with their places.
use Rattle.std.specs.Prelude.{◌≡◌, ℕ, ◌+◌, ◌<◌, ◌^◌, List, [], ◌∷◌, ◌++◌, Bool, length, map, take}
use Rattle.std.specs.Global.{Global}
use Rattle.std.specs.declared.vec.Vec.{Vec}
use Rattle.std.specs.List.Sorted.{IsPermutation, IsStableBy}
use Rattle.std.specs.Ordering.{is_lt}
use Rattle.dd_model.specs.Symbol.{Symbol}
use Rattle.dd_model.specs.Code.{code_cmp, IsBelow}
use Rattle.dd_model.specs.Wanted.{IsAscending}
use Rattle.dd_shard.specs.Merging.{IsNth}
use Rattle.dd_shard.specs.declared.member.Member.{Member}

-- the lists in vectors
abbrev pub lists_of : List (Vec Symbol Global) → List (List Symbol)
lists_of = map (λ (list : Vec Symbol Global). list.items)

-- the numbers of the symbols are below two to the 32nd
abbrev pub IsShort : List Symbol → Type 0
IsShort list = length list < 2 ^ 32

-- the symbols of a list from a number on
abbrev pub numbered : ℕ → ℕ → List Symbol → List Member
numbered file n [] = []
numbered file n (s ∷ ss) = record { symbol = s; file = file; number = n } ∷ numbered file (n + 1) ss

-- the symbols of lists, the first of which has this number
abbrev pub tagged : ℕ → List (List Symbol) → List Member
tagged file [] = []
tagged file (list ∷ lists) = numbered file 1 list ++ tagged (file + 1) lists

-- the order of codes
abbrev pub by_code : Member → Member → Bool
by_code a b = is_lt (code_cmp a.symbol b.symbol)

-- members in another order, in which those with one code stay in theirs
pub record IsReordered (old new : List Member) : Type 0 where
  pub permutation : IsPermutation old new
  pub stable : IsStableBy by_code old new

-- the first symbol that is not after the one before it, by its number
pub record IsFirstFall (list : List Symbol) (n : ℕ) : Type 0 where
  pub before : ℕ
  pub next : n ≡ before + 1
  pub one : Symbol
  pub is_one : IsNth list before one
  pub other : Symbol
  pub is_other : IsNth list n other
  pub not_after : IsBelow one other → ⊥
  pub ascending : IsAscending (take before list)
