-- The form of a torus: the sum, over its symmetries, of the transposed matrix times the matrix.
use Rattle.std.specs.Prelude.{◌≡◌, ◌≢◌, ◌↔◌, ◌≤◌, ◌*◌, ◌^◌, ◌+ℤ◌, ◌*ℤ◌, ℕ, nat_abs, pos, List, [], ◌∷◌}
use Rattle.std.specs.List.{AllByRecursion, Contains}
use Rattle.dd_model.specs.Symbol.{Symbol, item}
use Rattle.dd_model.specs.Isomorphic.{IsIsomorphism}
use Rattle.dd_model.specs.Small.{IsSmallSymbol}
use Rattle.dd_covers.specs.Torus.{IsTorus}
use Rattle.dd_lattice.specs.NetOf.{IsNet}
use Rattle.dd_lattice.specs.declared.net.Net.{Net}
use Rattle.dd_gram.specs.Action.{IsAction}
use Rattle.dd_gram.specs.declared.forms.Gram.{Gram}
use Rattle.dd_gram.specs.declared.forms.Matrix.{Matrix}

-- no two members are equal
abbrev pub AreDistinct : {A : Type 0} → List A → Type 0
AreDistinct [] = Unit {0}
AreDistinct (f ∷ fs) = AllByRecursion (λ g. f ≢ g) fs × AreDistinct fs

-- all isomorphisms of t onto t, each once
pub record AreSymmetries (t : Symbol) (fs : List (List ℕ)) : Type 0 where
  pub distinct : AreDistinct fs
  pub members : (f : List ℕ) → Contains fs f ↔ IsIsomorphism t t f

-- their matrices, in the same order
abbrev pub AreActions : Symbol → List (List ℕ) → List Matrix → Type 0
AreActions t [] [] = Unit {0}
AreActions t [] (m ∷ ms) = ⊥
AreActions t (f ∷ fs) [] = ⊥
AreActions t (f ∷ fs) (m ∷ ms) = IsAction t f m × AreActions t fs ms

-- a form is a symmetric matrix (a, b; b, c): the transposed matrix times the matrix
abbrev pub square : Matrix → Gram
square m = record {
  a = m.xx *ℤ m.xx +ℤ m.yx *ℤ m.yx;
  b = m.xx *ℤ m.xy +ℤ m.yx *ℤ m.yy;
  c = m.xy *ℤ m.xy +ℤ m.yy *ℤ m.yy;
}

abbrev pub none : Gram
none = record { a = pos 0; b = pos 0; c = pos 0 }

abbrev pub plus : Gram → Gram → Gram
plus g h = record { a = g.a +ℤ h.a; b = g.b +ℤ h.b; c = g.c +ℤ h.c }

-- the sum of the squares of some matrices
abbrev pub sum_of : List Matrix → Gram
sum_of [] = none
sum_of (m ∷ ms) = plus (square m) (sum_of ms)

-- the form of a torus
pub record IsGram (t : Symbol) (g : Gram) : Type 0 where
  pub symmetries : List (List ℕ)
  pub are_symmetries : AreSymmetries t symmetries
  pub matrices : List Matrix
  pub are_actions : AreActions t symmetries matrices
  pub sum : g ≡ sum_of matrices

-- the transposed matrix times the form times the matrix
abbrev pub carried : Matrix → Gram → Gram
carried m g = record {
  a = m.xx *ℤ (g.a *ℤ m.xx +ℤ g.b *ℤ m.yx) +ℤ m.yx *ℤ (g.b *ℤ m.xx +ℤ g.c *ℤ m.yx);
  b = m.xx *ℤ (g.a *ℤ m.xy +ℤ g.b *ℤ m.yy) +ℤ m.yx *ℤ (g.b *ℤ m.xy +ℤ g.c *ℤ m.yy);
  c = m.xy *ℤ (g.a *ℤ m.xy +ℤ g.b *ℤ m.yy) +ℤ m.yy *ℤ (g.b *ℤ m.xy +ℤ g.c *ℤ m.yy);
}

-- g is the form of some torus that has a net
pub record IsGramOfSome (g : Gram) : Type 0 where
  pub t : Symbol
  pub small : IsSmallSymbol t
  pub torus : IsTorus t
  pub net : Net
  pub is_net : IsNet t net
  pub is_gram : IsGram t g

-- ## As it is found

-- the symmetries that take chamber 1 to one of the first k chambers, and the sum of the squares of their matrices
pub record IsGramTo (t : Symbol) (k : ℕ) (g : Gram) : Type 0 where
  pub symmetries : List (List ℕ)
  pub distinct : AreDistinct symmetries
  pub members : (f : List ℕ) → Contains symmetries f ↔ (IsIsomorphism t t f × (item f 1 ≤ k))
  pub matrices : List Matrix
  pub are_actions : AreActions t symmetries matrices
  pub sum : g ≡ sum_of matrices
  pub small_a : nat_abs g.a ≤ k * 536870912
  pub small_b : nat_abs g.b ≤ k * 536870912
  pub small_c : nat_abs g.c ≤ k * 536870912

-- the product of two matrices
abbrev pub times : Matrix → Matrix → Matrix
times m n = record {
  xx = m.xx *ℤ n.xx +ℤ m.xy *ℤ n.yx;
  xy = m.xx *ℤ n.xy +ℤ m.xy *ℤ n.yy;
  yx = m.yx *ℤ n.xx +ℤ m.yy *ℤ n.yx;
  yy = m.yx *ℤ n.xy +ℤ m.yy *ℤ n.yy;
}

-- numbers that leave room for a sum
pub record IsSmallForm (g : Gram) : Type 0 where
  pub a : nat_abs g.a ≤ 2 ^ 44
  pub b : nat_abs g.b ≤ 2 ^ 44
  pub c : nat_abs g.c ≤ 2 ^ 44
