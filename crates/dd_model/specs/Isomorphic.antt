use Rattle.std.specs.Prelude.{◌≡◌, ℕ, ◌≤◌, List, length}
use Rattle.dd_model.specs.Symbol.{Symbol, IsChamber, item, operation, op}
use Rattle.dd_model.specs.declared.index.Index.{Index}

-- f sends each of 1 to n to one of 1 to n, and g undoes it
pub record Undoes (n : ℕ) (g f : List ℕ) : Type 0 where
  pub within : (d : ℕ) → 1 ≤ d → d ≤ n → (1 ≤ item f d) × (item f d ≤ n)
  pub undone : (d : ℕ) → 1 ≤ d → d ≤ n → item g (item f d) ≡ d

-- a list of n chambers that some list undoes on both sides
pub record IsBijection (n : ℕ) (f : List ℕ) : Type 0 where
  pub images : length f ≡ n
  pub inverse : List ℕ
  pub inverse_images : length inverse ≡ n
  pub left : Undoes n inverse f
  pub right : Undoes n f inverse

-- f takes each involution of s to that of t, and keeps the degrees
pub record IsMorphism (s t : Symbol) (f : List ℕ) : Type 0 where
  pub images : length f ≡ s.size
  pub within : (d : ℕ) → IsChamber s d → IsChamber t (item f d)
  pub op : (i : Index) (d : ℕ) → IsChamber s d → item f (op s i d) ≡ op t i (item f d)
  pub m01 : (d : ℕ) → IsChamber s d → item t.m01 (item f d) ≡ item s.m01 d
  pub m12 : (d : ℕ) → IsChamber s d → item t.m12 (item f d) ≡ item s.m12 d

-- a bijection that is a morphism
pub record IsIsomorphism (s t : Symbol) (f : List ℕ) : Type 0 where
  pub size : t.size ≡ s.size
  pub bijection : IsBijection s.size f
  pub morphism : IsMorphism s t f

-- some bijection is a morphism
abbrev pub Isomorphic : Symbol → Symbol → Type 0
Isomorphic s t = (f : List ℕ) × IsIsomorphism s t f

-- five lists of one length; a copy of a symbol is a symbol where its lists have one
pub record HaveLengths (t : Symbol) : Type 0 where
  pub lengths : (i : Index) → length (operation t i) ≡ t.size
  pub m01_length : length t.m01 ≡ t.size
  pub m12_length : length t.m12 ≡ t.size
