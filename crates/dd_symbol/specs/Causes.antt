-- Why five lists are refused. Each cause comes with what holds of the lists before it.
use Rattle.std.specs.Prelude.{◌≡◌, ◌≢◌, ℕ, ◌<◌, ◌≤◌, ◌%◌}
use Rattle.dd_model.specs.Symbol.{Symbol, IsChamber, AreInvolutions, op, degree}
use Rattle.dd_model.specs.Connected.{IsReached}
use Rattle.dd_model.specs.Cell.{turned, IsLeastTurns, IsBranching}
use Rattle.dd_model.specs.declared.index.Index.{Index}
use Rattle.dd_model.specs.declared.index.Index.TheVariants.{Zero, One, Two}
use Rattle.dd_model.specs.declared.pair.Pair.{Pair}
use Rattle.dd_model.specs.declared.pair.Pair.TheVariants.{Tile, Vertex, Edge}
use Rattle.dd_symbol.specs.Conditions.{IsWithin, IsInvolutive, Commutes, HasDegreeOfCell, HasOtherDegree, IsMultiple, IsSmall, AtAll, OfBoth, AreConnected, ArePositive, AreConstant, AreMultiples, AreSmall}

-- ## Which comes first

-- d is the first chamber at which P fails
pub record IsFirst (s : Symbol) (P Fails : ℕ → Type 0) (d : ℕ) : Type 0 where
  pub chamber : IsChamber s d
  pub fails : Fails d
  pub before : (e : ℕ) → IsChamber s e → e < d → P e

-- a property of the involutions before one
abbrev pub IndexBefore : (Index → Type 0) → Index → Type 0
IndexBefore P Zero = Unit {0}
IndexBefore P One = P Zero
IndexBefore P Two = P Zero × P One

-- A property of the pairs before one, tiles coming before vertices. No degree of an edge is refused.
abbrev pub PairBefore : (Pair → Type 0) → Pair → Type 0
PairBefore P Tile = Unit {0}
PairBefore P Vertex = P Tile
PairBefore P Edge = ⊥

-- ## The causes, in their order

-- an image is no chamber
pub record IsOutOfRange (s : Symbol) (i : Index) (d : ℕ) : Type 0 where
  pub before : IndexBefore (IsWithin s) i
  pub first : IsFirst s (λ e. IsChamber s (op s i e)) (λ e. IsChamber s (op s i e) → ⊥) d

-- the image of an image is another chamber
pub record IsNoInvolution (s : Symbol) (i : Index) (d : ℕ) : Type 0 where
  pub within : (j : Index) → IsWithin s j
  pub before : IndexBefore (IsInvolutive s) i
  pub first : IsFirst s (λ e. op s i (op s i e) ≡ e) (λ e. op s i (op s i e) ≢ e) d

-- s0 s2 s0 s2 moves a chamber
pub record DoesNotCommute (s : Symbol) (d : ℕ) : Type 0 where
  pub involutions : AreInvolutions s
  pub first : IsFirst s (Commutes s) (λ e. turned s Edge 2 e ≢ e) d

-- no word leads from chamber 1 to a chamber
pub record IsNotReached (s : Symbol) (d : ℕ) : Type 0 where
  pub involutions : AreInvolutions s
  pub commuting : AtAll s (Commutes s)
  pub first : IsFirst s (IsReached s) (λ e. IsReached s e → ⊥) d

-- a degree is 0
pub record HasNoDegree (s : Symbol) (p : Pair) (d : ℕ) : Type 0 where
  pub table : AreConnected s
  pub before : PairBefore (ArePositive s) p
  pub first : IsFirst s (λ e. 1 ≤ degree s p e) (λ e. degree s p e ≡ 0) d

-- a degree is not that of the least chamber of its cell
pub record DegreeChanges (s : Symbol) (p : Pair) (d : ℕ) : Type 0 where
  pub table : AreConnected s
  pub positive : OfBoth (ArePositive s)
  pub before : PairBefore (AreConstant s) p
  pub first : IsFirst s (HasDegreeOfCell s p) (HasOtherDegree s p) d

-- a degree m is no multiple of the r of its cell
pub record IsNoMultiple (s : Symbol) (p : Pair) (d r m : ℕ) : Type 0 where
  pub table : AreConnected s
  pub positive : OfBoth (ArePositive s)
  pub constant : OfBoth (AreConstant s)
  pub before : PairBefore (AreMultiples s) p
  pub degree : m ≡ degree s p d
  pub turns : IsLeastTurns s p d r
  pub first : IsFirst s (IsMultiple s p) (λ _. m % r ≢ 0) d

-- a branching value v is over 30
pub record IsTooLarge (s : Symbol) (p : Pair) (d v : ℕ) : Type 0 where
  pub table : AreConnected s
  pub positive : OfBoth (ArePositive s)
  pub constant : OfBoth (AreConstant s)
  pub multiples : OfBoth (AreMultiples s)
  pub before : PairBefore (AreSmall s) p
  pub value : IsBranching s p d v
  pub first : IsFirst s (IsSmall s p) (λ _. 30 < v) d
