-- A prefix of the codes of tables, with the partial table that follows from it.
use Rattle.std.specs.Prelude.{◌≡◌, ℕ, ◌-◌, ◌*◌, ◌<◌, ◌≤◌, List, length, take, slice_index}
use Rattle.dd_model.specs.Symbol.{Symbol}
use Rattle.dd_model.specs.Lists.{Begins}
use Rattle.dd_model.specs.Code.{code}
use Rattle.dd_branch_tables.specs.Rows.{partial_of, unwound, IsReady, HasNumberAt}
use Rattle.dd_branch_tables.specs.Commuting.{IsCommuting}
use Rattle.dd_front_jobs.specs.Under.{IsUnder, Follows}
use Rattle.dd_branch_tables.specs.declared.stem.Stem.{Stem}

-- any orderly table
abbrev pub Any : Symbol → Type 0
Any s = Unit {0}

-- the numbers of the prefix
abbrev pub prefix_of : Stem → List ℕ
prefix_of stem = stem.prefix

-- the number of chambers
abbrev pub size_of : Stem → ℕ
size_of stem = stem.rows.size

-- the stem with no more than so many numbers, and with no more than so much put into the table
abbrev pub cut_to : Stem → ℕ → ℕ → Stem
cut_to stem count mark = record { rows = unwound stem.rows mark; prefix = take count stem.prefix }

-- the stem without its last number, and with no more than so much put into the table
abbrev pub shortened : Stem → ℕ → Stem
shortened stem mark = cut_to stem (length stem.prefix - 1) mark

-- Each orderly table whose code begins with the prefix completes the table, and the numbers of the prefix are images in it. What
-- is known of s0 and s2 commutes.
pub record IsStem (stem : Stem) : Type 0 where
  pub ready : IsReady stem.rows
  pub commuting : IsCommuting (partial_of stem.rows)
  pub short : length (prefix_of stem) ≤ 3 * size_of stem
  pub follows : Follows Any (size_of stem) (prefix_of stem) (partial_of stem.rows)
  pub told : (k : ℕ) → k < length (prefix_of stem) → HasNumberAt k (slice_index (prefix_of stem) k) (partial_of stem.rows)
  pub positive : (k : ℕ) → k < length (prefix_of stem) → 1 ≤ slice_index (prefix_of stem) k

-- The prefix has grown by numbers that follow from it.
pub record HasAbsorbed (old new : Stem) : Type 0 where
  pub rows : new.rows ≡ old.rows
  pub longer : length (prefix_of old) ≤ length (prefix_of new)
  pub front : take (length (prefix_of old)) (prefix_of new) ≡ prefix_of old
  pub begins : (s : Symbol) → IsUnder Any (size_of old) (prefix_of old) s → Begins (prefix_of new) (code s)
