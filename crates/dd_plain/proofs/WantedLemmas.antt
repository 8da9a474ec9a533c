-- What the tests of a symbol say of it.
use Rattle.std.proofs.Common.{◌≡◌, ℕ, ◌+◌, ◌≤◌, IsTrue, subst, ⊎_elim, arith}
use Rattle.std.proofs.lemmas.Bool.{cases_lt}
use Rattle.dd_model.specs.declared.pair.Pair.{Pair}
use Rattle.dd_model.specs.Symbol.{Symbol}
use Rattle.dd_model.specs.Cell.{IsBranching}
use Rattle.dd_model.specs.declared.requests.Request.{Request}
use Rattle.dd_model.specs.Minimal.{Minimal}
use Rattle.dd_model.specs.Wanted.{Wanted, IsCrystallographic}
use Rattle.dd_plain.specs.Passes.{Passes}
use Rattle.dd_model.proofs.Branching.{branching_unique}

-- one chamber more
pub crystallographic-more : (s : Symbol) (p : Pair) (k v : ℕ) → ((d w : ℕ) → 1 ≤ d → d ≤ k → IsBranching s p d w → IsCrystallographic w)
    → IsBranching s p (k + 1) v → IsCrystallographic v → (d w : ℕ) → 1 ≤ d → d ≤ k + 1 → IsBranching s p d w → IsCrystallographic w
crystallographic-more s p k v before b here d w low high there =
    ⊎_elim
    (λ early. before d w low (omega arith) there)
    (λ late. let last : d ≡ k + 1 = omega arith in
    subst IsCrystallographic (branching_unique s p (k + 1) v w b (subst (λ e. IsBranching s p e w) last there)) here)
    (cases_lt d (k + 1))

-- a symbol that passes the tests is wanted where it is minimal or that is not asked for
pub passes-wanted : (q : Request) (s : Symbol) → Passes q s → (IsTrue q.minimal → Minimal s) → Wanted q s
passes-wanted q s p minimal = record {
  symbol = p.symbol;
  connected = p.connected;
  chambers = p.chambers;
  tiles = p.tiles;
  vertices = p.vertices;
  faces = p.faces;
  degrees = p.degrees;
  face_branching = p.face_branching;
  vertex_branching = p.vertex_branching;
  flat = p.flat;
  minimal = minimal;
}
