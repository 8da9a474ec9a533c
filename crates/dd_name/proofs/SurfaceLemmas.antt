-- The room on a surface, and what takes it.
use Rattle.std.proofs.Common.{◌≡◌, ℕ, ◌+◌, ◌⊎◌, ℤ, pos, ◌-ℤ◌, ◌<ℤ◌, length, sym, ap, ◌∙◌, subst, ⊎_elim, arith}
use Rattle.std.proofs.lemmas.Int.{ints}
use Rattle.dd_model.specs.declared.index.Index.TheVariants.{Zero, One, Two}
use Rattle.dd_model.specs.declared.pair.Pair.TheVariants.{Tile, Vertex, Edge}
use Rattle.dd_model.specs.Symbol.{Symbol}
use Rattle.dd_model.proofs.CellLists.{cells_unique}
use Rattle.dd_cells.specs.Euler.{orbits, IsEuler}
use Rattle.dd_name.specs.Surface.{IsRoom, IsHalf, AreHandlesAndCrosscaps}

pub euler_unique : (s : Symbol) (e f : ℤ) → IsEuler s e → IsEuler s f → e ≡ f
euler_unique s e f a b =
    let sides = pos (orbits s Zero + orbits s One + orbits s Two) in
    let tiles = ap length (cells_unique s Tile a.tiles b.tiles a.are_tiles b.are_tiles) in
    let vertices = ap length (cells_unique s Vertex a.vertices b.vertices a.are_vertices b.are_vertices) in
    let edges = ap length (cells_unique s Edge a.edges b.edges a.are_edges b.are_edges) in
    let all : length a.tiles + length a.vertices + length a.edges + s.size ≡ length b.tiles + length b.vertices + length b.edges + s.size =
    omega (arith, tiles, vertices, edges) in
    a.sum ∙ ap (λ (n : ℕ). pos n -ℤ sides) all ∙ sym b.sum

room_alone : (x : ℤ) (r q : ℕ) → (x ≡ pos r) ⊎ ((x <ℤ pos 0) × (r ≡ 0)) → (x ≡ pos q) ⊎ ((x <ℤ pos 0) × (q ≡ 0)) → r ≡ q
room_alone x r q a b =
    ⊎_elim
    (λ e. ⊎_elim (λ f. omega (arith, ints, e, f)) (λ f. let low = f.0 in omega (arith, ints, e, low)) b)
    (λ e. let low = e.0 in let none = e.1 in ⊎_elim (λ f. omega (arith, ints, low, f)) (λ f. none ∙ sym f.1) b)
    a

pub room_unique : (s : Symbol) (b r q : ℕ) → IsRoom s b r → IsRoom s b q → r ≡ q
room_unique s b r q x y =
    let rest = subst (λ (e : ℤ). ((pos 2 -ℤ pos b -ℤ e) ≡ pos r) ⊎ (((pos 2 -ℤ pos b -ℤ e) <ℤ pos 0) × (r ≡ 0))) (euler_unique s x.euler y.euler x.is_euler y.is_euler) x.rest in
    room_alone (pos 2 -ℤ pos b -ℤ y.euler) r q rest y.rest

pub half_unique : (n h k : ℕ) → IsHalf n h → IsHalf n k → h ≡ k
half_unique n h k a b = let low = a.greatest k b.below in let high = b.greatest h a.below in omega arith

-- handles and crosscaps
pub record SameKind (h k x y : ℕ) : Type 0 where
  pub handles : h ≡ k
  pub crosscaps : x ≡ y

pub surface_unique : (s : Symbol) (b h x k y : ℕ) → AreHandlesAndCrosscaps s b h x → AreHandlesAndCrosscaps s b k y → SameKind h k x y
surface_unique s b h x k y p q =
    let room = room_unique s b p.room q.room p.is_room q.is_room in
    ⊎_elim
    (λ u. ⊎_elim
    (λ v. record { handles = half_unique q.room h k (subst (λ n. IsHalf n h) room u.half) v.half; crosscaps = u.none ∙ sym v.none })
    (λ v. absurd (v.not_orientable u.orientable))
    q.kind)
    (λ u. ⊎_elim
    (λ v. absurd (u.not_orientable v.orientable))
    (λ v. record { handles = u.none ∙ sym v.none; crosscaps = u.whole ∙ room ∙ sym v.whole })
    q.kind)
    p.kind
