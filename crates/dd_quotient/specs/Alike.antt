-- Classes of alike chambers, and the steps in which they are found.
use Rattle.std.specs.Prelude.{◌≡◌, ◌⊎◌, ◌↔◌, ℕ, ◌≤◌, List, [], ◌∷◌, length, Option, Some}
use Rattle.std.specs.Ordering.{nat_cmp}
use Rattle.std.specs.Cmp.Lexicographic.{slice_cmp}
use Rattle.std.specs.BTreeMap.{BTreeMap, get}
use Rattle.dd_model.specs.Symbol.{Symbol, IsChamber, item, op}
use Rattle.dd_model.specs.declared.index.Index.TheVariants.{Zero, One, Two}
use Rattle.dd_model.specs.Minimal.{Alike}

-- each chamber has the least of the chambers that are alike with it
pub record AreAlikeClasses (s : Symbol) (classes : List ℕ) : Type 0 where
  pub images : length classes ≡ s.size
  pub within : (d : ℕ) → IsChamber s d → IsChamber s (item classes d)
  pub member : (d : ℕ) → IsChamber s d → Alike s (item classes d) d
  pub least : (d e : ℕ) → IsChamber s d → IsChamber s e → Alike s d e → item classes d ≤ e
  pub alike : (d e : ℕ) → IsChamber s d → IsChamber s e → (item classes d ≡ item classes e) ↔ Alike s d e

-- what tells a chamber from others at once: its degrees, its class and those of its three neighbors
abbrev pub signature : Symbol → List ℕ → ℕ → List ℕ
signature s classes d =
    item s.m01 d ∷ item s.m12 d ∷ item classes d ∷ item classes (op s Zero d) ∷ item classes (op s One d) ∷ item classes (op s Two d) ∷ []

-- each chamber has the least chamber with its signature
pub record IsRefined (s : Symbol) (classes finer : List ℕ) : Type 0 where
  pub images : length finer ≡ s.size
  pub within : (d : ℕ) → IsChamber s d → IsChamber s (item finer d)
  pub low : (d : ℕ) → IsChamber s d → item finer d ≤ d
  pub member : (d : ℕ) → IsChamber s d → signature s classes (item finer d) ≡ signature s classes d
  pub same : (d e : ℕ) → IsChamber s d → IsChamber s e → signature s classes d ≡ signature s classes e → item finer d ≡ item finer e

-- the chamber that is kept for a signature
abbrev pub first_of : BTreeMap (List ℕ) ℕ → List ℕ → Option ℕ
first_of firsts q = get (slice_cmp nat_cmp) firsts q

-- the first chamber with a signature is looked up, and a chamber is kept where there was none
pub record IsMet (old new : BTreeMap (List ℕ) ℕ) (own : List ℕ) (d first : ℕ) : Type 0 where
  pub here : first_of new own ≡ Some first
  pub found : (q : List ℕ) (e : ℕ) → first_of new q ≡ Some e → (first_of old q ≡ Some e) ⊎ ((q ≡ own) × (e ≡ d))
  pub kept : (q : List ℕ) (e : ℕ) → first_of old q ≡ Some e → first_of new q ≡ Some e
