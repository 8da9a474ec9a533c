-- Where what is known of s0 and s2 commutes.
use Rattle.std.specs.Prelude.{◌≡◌, ◌≢◌, ℕ, ◌≤◌}
use Rattle.dd_model.specs.declared.index.Index.{Index}
use Rattle.dd_model.specs.declared.index.Index.TheVariants.{Zero, Two}
use Rattle.dd_model.specs.Symbol.{Symbol, op}

-- Where both images of a chamber are known, either way round leads to one chamber, or to none that is known.
abbrev pub CommuteAt : Symbol → Index → Index → ℕ → Type 0
CommuteAt s i j d = op s i d ≢ 0 → op s j d ≢ 0 → op s j (op s i d) ≡ op s i (op s j d)

-- the same of s0 and s2
abbrev pub CommutesAt : Symbol → ℕ → Type 0
CommutesAt s d = CommuteAt s Zero Two d

-- what is known of s0 and s2 commutes
pub record IsCommuting (s : Symbol) : Type 0 where
  pub at : (d : ℕ) → 1 ≤ d → CommutesAt s d

-- where one commutes, so does the other
pub record KeepsCommuting (old new : Symbol) : Type 0 where
  pub at : (d : ℕ) → 1 ≤ d → CommutesAt old d → CommutesAt new d

-- All images are the same, but for those of two chambers under one involution.
pub record KeepsOthers (i : Index) (c k : ℕ) (old new : Symbol) : Type 0 where
  pub same : (j : Index) (d : ℕ) → 1 ≤ d → (j ≡ i → d ≢ c) → (j ≡ i → d ≢ k) → op new j d ≡ op old j d
