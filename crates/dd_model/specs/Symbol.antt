-- Delaney-Dress symbols of tilings, after Dress.
use Rattle.std.specs.Prelude.{◌≡◌, ℕ, zero, suc, ◌-◌, ◌≤◌, List, [], ◌∷◌, ◌++◌, length, slice_index}
use Rattle.dd_model.specs.declared.pair.Pair.{Pair}
use Rattle.dd_model.specs.declared.pair.Pair.TheVariants.{Tile, Vertex, Edge}
use Rattle.dd_model.specs.declared.index.Index.{Index}
use Rattle.dd_model.specs.declared.index.Index.TheVariants.{Zero, One, Two}

-- what is known of a tiling: a number of chambers, three lists of chambers, and two lists of degrees
pub record Symbol : Type 0 where
  pub size : ℕ
  pub s0 : List ℕ
  pub s1 : List ℕ
  pub s2 : List ℕ
  pub m01 : List ℕ
  pub m12 : List ℕ

-- the item of a list that belongs to a chamber, chambers being counted from 1
abbrev pub item : List ℕ → ℕ → ℕ
item xs d = slice_index xs (d - 1)

-- chambers are counted from 1
abbrev pub IsChamber : Symbol → ℕ → Type 0
IsChamber s d = (1 ≤ d) × (d ≤ s.size)

-- the list of an involution
abbrev pub operation : Symbol → Index → List ℕ
operation s Zero = s.s0
operation s One = s.s1
operation s Two = s.s2

-- the chamber to which an involution takes a chamber
abbrev pub op : Symbol → Index → ℕ → ℕ
op s i d = item (operation s i) d

-- Words. The first letter acts first.
abbrev pub Word : Type 0
Word = List Index

-- where a word leads
abbrev pub act : Symbol → Word → ℕ → ℕ
act s [] d = d
act s (i ∷ w) d = act s w (op s i d)

-- a word k times over
abbrev pub power : Word → ℕ → Word
power w zero = []
power w (suc k) = w ++ power w k

-- it leads from chambers to chambers, and twice back to the same
pub record IsInvolution (s : Symbol) (i : Index) : Type 0 where
  pub within : (d : ℕ) → IsChamber s d → IsChamber s (op s i d)
  pub involutive : (d : ℕ) → IsChamber s d → op s i (op s i d) ≡ d

-- all three are involutions
abbrev pub AreInvolutions : Symbol → Type 0
AreInvolutions s = (i : Index) → IsInvolution s i

-- Tiles are the orbits of s0 and s1, vertices those of s1 and s2, edges those of s0 and s2.
abbrev pub first : Pair → Index
first Tile = Zero
first Vertex = One
first Edge = Zero

-- the second involution of a pair
abbrev pub second : Pair → Index
second Tile = One
second Vertex = Two
second Edge = Two

-- one turn: the two involutions of the pair, one after the other
abbrev pub turn : Pair → Word
turn p = first p ∷ second p ∷ []

-- the degree of a pair at a chamber, which for edges is 2
abbrev pub degree : Symbol → Pair → ℕ → ℕ
degree s Tile d = item s.m01 d
degree s Vertex d = item s.m12 d
degree s Edge d = 2

-- The degree is positive and constant on the orbit, and so many turns fix the chamber.
pub record HasDegree (s : Symbol) (p : Pair) (d : ℕ) : Type 0 where
  pub positive : 1 ≤ degree s p d
  pub along_first : degree s p (op s (first p) d) ≡ degree s p d
  pub along_second : degree s p (op s (second p) d) ≡ degree s p d
  pub turns : act s (power (turn p) (degree s p d)) d ≡ d

-- Five lists of one length, one item for each chamber, of which three are involutions. Nothing is
-- said of the degrees: codes, renumberings and traversals need no more than this.
pub record IsTable (s : Symbol) : Type 0 where
  pub chambers : 1 ≤ s.size
  pub lengths : (i : Index) → length (operation s i) ≡ s.size
  pub m01_length : length s.m01 ≡ s.size
  pub m12_length : length s.m12 ≡ s.size
  pub involutions : AreInvolutions s

-- A table with the degrees of all pairs. The degree 2 of edges says that s0 s2 s0 s2 moves no chamber.
pub record IsSymbol (s : Symbol) : Type 0 where
  pub table : IsTable s
  pub degrees : (p : Pair) (d : ℕ) → IsChamber s d → HasDegree s p d
