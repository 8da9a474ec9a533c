-- The search of a walk: how far it has come, and the listed tables that are left.
use Rattle.std.specs.Prelude.{◌≡◌, ◌⊎◌, ℕ, List}
use Rattle.dd_model.specs.Symbol.{Symbol}
use Rattle.dd_model.specs.declared.requests.Request.{Request}
use Rattle.dd_model.specs.declared.jobs.Job.{Job}
use Rattle.dd_branch_tables.specs.Levels.{IsAt, IsLeftAt}
use Rattle.dd_front_jobs.specs.Under.{IsUnder}
use Rattle.dd_branch_tables.specs.declared.level.Level.{Level}
use Rattle.dd_invol.specs.Growth.{Growing, size_at, table_laws}
use Rattle.dd_branch_tables.specs.Stem.{Any, IsStem}
use Rattle.dd_invol.specs.NextTable.{IsAhead}
use Rattle.dd_branch_tables.specs.Walk.{IsListed, IsPast, IsWalk}
use Rattle.dd_invol.specs.declared.table_search.TableSearch.{TableSearch}

-- a search for tables stands at the last of its levels
abbrev pub IsAtLevel : Growing → List Level → Type 0
IsAtLevel t levels = IsAt table_laws t levels

-- what is left to a search for tables at its levels
abbrev pub IsLeftTo : Growing → List Level → Symbol → Type 0
IsLeftTo t levels s = IsLeftAt table_laws Any (size_at t) t levels s

-- The search goes over what is under a job. All listed tables past the images that it has seen are left, and nothing that is not past them.
pub record IsComing (q : Request) (job : Job) (search : TableSearch) : Type 0 where
  pub stem : IsStem search.tables.stem
  pub at : IsAtLevel search.tables search.levels
  pub request : search.tables.request ≡ q
  pub size : size_at search.tables ≡ job.size
  pub listed : (s : Symbol) → IsListed q job s → IsPast search.seen.items s → IsLeftTo search.tables search.levels s
  pub under : (s : Symbol) → IsLeftTo search.tables search.levels s → IsUnder Any job.size job.prefix s
  pub past : (s : Symbol) → IsLeftTo search.tables search.levels s → IsPast search.seen.items s

-- A walk with its search, which has come to the table where the walk stands, or to the next one.
pub record IsSearched (q : Request) (job : Job) (last : List ℕ) (search : TableSearch) : Type 0 where
  pub walk : IsWalk q job last
  pub coming : IsComing q job search
  pub seen : (search.seen.items ≡ last) ⊎ IsAhead q job last search.seen.items
