-- When two tables may be composed.
use Rattle.std.specs.Prelude.{ℕ, ◌*◌, ◌≤◌}
use Rattle.dd_model.specs.declared.pair.Pair.{Pair}
use Rattle.dd_template.specs.declared.tables.Degree.{Degree}
use Rattle.dd_template.specs.declared.tables.Degree.TheVariants.{OfTile, OfVertex, Fixed}
use Rattle.dd_template.specs.Table.{Table, IsPart, entry}
use Rattle.dd_template.specs.Entries.{entries}
use Rattle.dd_template.specs.Lawful.{IsLawful}
use Rattle.dd_opword.specs.Composed.{composed_degree}

-- a degree that is fixed is at most n
abbrev pub IsFixedUpTo : ℕ → Degree → Type 0
IsFixedUpTo n (OfTile c) = Unit {0}
IsFixedUpTo n (OfVertex c) = Unit {0}
IsFixedUpTo n (Fixed m) = m ≤ n

-- all degrees that are fixed are at most n
abbrev pub AreFixedUpTo : ℕ → Table → Type 0
AreFixedUpTo n t = (p : Pair) (x : ℕ) → IsPart t x → IsFixedUpTo n (entry (entries t p) x)

-- no product of an outer factor with a fixed degree that it meets is over 30
abbrev pub HaveSmallProducts : Table → Table → Type 0
HaveSmallProducts outer inner = (p : Pair) (y x : ℕ) → IsPart inner y → IsPart outer x
    → IsFixedUpTo 30 (composed_degree inner y (entry (entries outer p) x))

-- two lawful tables with at most 64 parts together, whose products are small
pub record GoTogether (outer inner : Table) : Type 0 where
  pub outer_lawful : IsLawful outer
  pub inner_lawful : IsLawful inner
  pub few : inner.parts * outer.parts ≤ 64
  pub small : HaveSmallProducts outer inner

-- a lawful table of at most 16 parts that each letter may follow: products with factors up to 2 are small
pub record MayGoFirst (t : Table) : Type 0 where
  pub lawful : IsLawful t
  pub few : t.parts ≤ 16
  pub fixed : AreFixedUpTo 12 t

-- the numbers of an entry are small
abbrev pub IsSmallEntry : Degree → Type 0
IsSmallEntry (OfTile c) = c ≤ 64
IsSmallEntry (OfVertex c) = c ≤ 64
IsSmallEntry (Fixed m) = m ≤ 30
