-- Numbers of the edges that add to nothing round each tile.
use Rattle.std.proofs.Common.{◌≡◌, ℕ, zero, suc, List, ℤ, pos, ◌+ℤ◌, ◌-ℤ◌, ◌*ℤ◌, refl, sym, ap, ◌∙◌, inl, inr, arith}
use Rattle.std.proofs.lemmas.Int.{ints}
use Rattle.dd_model.specs.declared.index.Index.{Index}
use Rattle.dd_model.specs.declared.index.Index.TheVariants.{Zero, One, Two}
use Rattle.dd_model.specs.declared.pair.Pair.TheVariants.{Tile, Vertex}
use Rattle.dd_model.specs.Symbol.{Symbol, AreInvolutions, IsChamber, IsSymbol, item, op, power, turn}
use Rattle.dd_model.specs.Cell.{IsLeastTurns, turned}
use Rattle.dd_model.specs.Isomorphic.{IsIsomorphism}
use Rattle.dd_model.proofs.CellWalks.{has_period}
use Rattle.dd_model.proofs.Isomorphisms.{IsIsomorphism-inverse}
use Rattle.dd_model.proofs.Transport.{act-along, least_turns-along}
use Rattle.dd_model.proofs.Turns.{turned_within, turned-last, IsLeastTurns-from_period, least_turns_unique}
use Rattle.dd_covers.specs.Ends.{Holds}
use Rattle.dd_lattice.specs.Shifts.{AreShifts, sum_round}
use Rattle.dd_lattice.proofs.Around.{commute}
use Rattle.dd_lattice.proofs.Rings.{at, equal, ◌⊞◌, ◌⊟◌, ◌⊠◌}
use Rattle.dd_gram.proofs.WalkLemmas.{times_zero}

-- what shifts are, whatever they are on trees and on the edges that are left
pub record IsBalanced (t : Symbol) (z : ℕ → ℤ) : Type 0 where
  pub back : (d : ℕ) → IsChamber t d → z (op t Zero d) ≡ pos 0 -ℤ z d
  pub across : (d : ℕ) → IsChamber t d → z (op t Two d) ≡ z d
  pub rounds : (d r : ℕ) → IsChamber t d → IsLeastTurns t Tile d r → sum_round t z d r ≡ pos 0

pub balanced_shifts : (t : Symbol) (one : ℕ) (x : ℕ → ℤ) → AreShifts t one x → IsBalanced t x
balanced_shifts t one x are = record { back = are.back; across = are.across; rounds = are.rounds }

-- ## Under a symmetry

round_along : (t : Symbol) (f : List ℕ) → AreInvolutions t → IsIsomorphism t t f → (z : ℕ → ℤ) (d n : ℕ) → IsChamber t d → sum_round t (λ c. z (item f c)) d n ≡ sum_round t z (item f d) n
round_along t f inv iso z d zero h = refl
round_along t f inv iso z d (suc n) h =
    let rest = round_along t f inv iso z d n h in
    let here = ap z (act-along t t f inv iso.morphism (power (turn Tile) n) d h) in
    omega (arith, ints)

pub balanced_along : (t : Symbol) (f : List ℕ) → AreInvolutions t → IsIsomorphism t t f → (z : ℕ → ℤ) → IsBalanced t z → IsBalanced t (λ d. z (item f d))
balanced_along t f inv iso z is =
    let m = iso.morphism in
    record {
      back = λ d h. ap z (m.op Zero d h) ∙ is.back (item f d) (m.within d h);
      across = λ d h. ap z (m.op Two d h) ∙ is.across (item f d) (m.within d h);
      rounds = λ d r h turns.
          round_along t f inv iso z d r h
          ∙ is.rounds (item f d) r (m.within d h)
          (least_turns-along t t f iso.bijection.inverse inv inv m (IsIsomorphism-inverse t t f inv iso).morphism (λ e he. iso.bijection.left.undone e he.0 he.1) Tile d r h turns);
    }

-- ## Less the differences of a function of vertices

pub turned_back : (t : Symbol) → AreInvolutions t → (d r : ℕ) → IsChamber t d → IsLeastTurns t Tile d r → turned t Tile r d ≡ d
turned_back t inv d r h turns =
    let has = has_period t inv Tile d h in
    let same = least_turns_unique t Tile d r has.r turns (IsLeastTurns-from_period t inv Tile d has.r h has.period) in
    ap (λ n. turned t Tile n d) same ∙ has.period.fixed

module _ (t : Symbol) (symbol : IsSymbol t) (h : ℕ → ℤ) (cells : (i : Index) (d : ℕ) → IsChamber t d → Holds Vertex i → h (op t i d) ≡ h d) (z : ℕ → ℤ) (is : IsBalanced t z) where
  abbrev inv : AreInvolutions t
  inv = symbol.table.involutions

  abbrev pub less : ℕ → ℤ
  less d = (z d +ℤ h d) -ℤ h (op t Zero d)

  round_less : (d n : ℕ) → IsChamber t d → sum_round t less d n +ℤ h (turned t Tile n d) ≡ sum_round t z d n +ℤ h d
  round_less d zero own = omega (arith, ints)
  round_less d (suc n) own =
      let rest = round_less d n own in
      let place = turned t Tile n d in
      let there = turned_within t inv Tile n d own in
      let next : h (turned t Tile (suc n) d) ≡ h (op t Zero place) = ap h (turned-last t Tile n d) ∙ cells One (op t Zero place) ((inv Zero).within place there) (inl refl) in
      omega (arith, ints)

  pub balanced_less : IsBalanced t less
  balanced_less = record {
    back = λ d own.
        let a = is.back d own in
        let b = ap h ((inv Zero).involutive d own) in
        omega (arith, ints);
    across = λ d own.
        let a = is.across d own in
        let b = cells Two d own (inr refl) in
        let c : h (op t Zero (op t Two d)) ≡ h (op t Zero d) = ap h (sym (commute t symbol d own)) ∙ cells Two (op t Zero d) ((inv Zero).within d own) (inr refl) in
        omega (arith, ints);
    rounds = λ d r own turns.
        let a = round_less d r own in
        let b = ap h (turned_back t inv d r own turns) in
        let c = is.rounds d r own turns in
        omega (arith, ints);
  }

-- ## Less multiples of two others

opposite : (a x : ℤ) → a *ℤ (pos 0 -ℤ x) ≡ pos 0 -ℤ a *ℤ x
opposite a x = omega_opposite where
  omega_opposite : a *ℤ (pos 0 -ℤ x) ≡ pos 0 -ℤ a *ℤ x
  omega_opposite = equal (at a ⊠ (at (pos 0) ⊟ at x)) (at (pos 0) ⊟ (at a ⊠ at x)) (omega arith)

spread : (a u v : ℤ) → a *ℤ (u +ℤ v) ≡ a *ℤ u +ℤ a *ℤ v
spread a u v = equal (at a ⊠ (at u ⊞ at v)) ((at a ⊠ at u) ⊞ (at a ⊠ at v)) (omega arith)

module _ (t : Symbol) (a b : ℤ) (x y w : ℕ → ℤ) (ix : IsBalanced t x) (iy : IsBalanced t y) (iw : IsBalanced t w) where
  -- x, and what is left of w
  abbrev pub left : ℕ → ℤ
  left d = (x d +ℤ w d) -ℤ (a *ℤ x d +ℤ b *ℤ y d)

  round_left : (d n : ℕ) → sum_round t left d n ≡ (sum_round t x d n +ℤ sum_round t w d n) -ℤ (a *ℤ sum_round t x d n +ℤ b *ℤ sum_round t y d n)
  round_left d zero = let e = times_zero a in let f = times_zero b in omega (arith, ints)
  round_left d (suc n) =
      let rest = round_left d n in
      let place = turned t Tile n d in
      let e = spread a (sum_round t x d n) (x place) in
      let f = spread b (sum_round t y d n) (y place) in
      omega (arith, ints)

  pub balanced_left : IsBalanced t left
  balanced_left = record {
    back = λ d own.
        let p = ix.back d own in
        let q = iy.back d own in
        let r = iw.back d own in
        let e = ap (λ z. a *ℤ z) p ∙ opposite a (x d) in
        let f = ap (λ z. b *ℤ z) q ∙ opposite b (y d) in
        omega (arith, ints);
    across = λ d own.
        let p = ix.across d own in
        let q = iy.across d own in
        let r = iw.across d own in
        let e = ap (λ z. a *ℤ z) p in
        let f = ap (λ z. b *ℤ z) q in
        omega (arith, ints);
    rounds = λ d r own turns.
        let p = ix.rounds d r own turns in
        let q = iy.rounds d r own turns in
        let s = iw.rounds d r own turns in
        let e = ap (λ z. a *ℤ z) p ∙ times_zero a in
        let f = ap (λ z. b *ℤ z) q ∙ times_zero b in
        let g = round_left d r in
        omega (arith, ints);
  }
