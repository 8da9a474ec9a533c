-- A search that goes down from a prefix to longer ones.
use Rattle.std.specs.Prelude.{◌≡◌, ℕ, zero, suc, ◌-◌, ◌*◌, ◌<◌, ◌≤◌, List, [], ◌∷◌, ◌++◌, length, take}
use Rattle.std.specs.List.{slice_get}
use Rattle.std.specs.declared.option.Option.{Option}
use Rattle.std.specs.declared.option.Option.TheVariants.{None, Some}
use Rattle.dd_model.specs.Request.{IsValid}
use Rattle.dd_model.specs.Wanted.{IsMember}
use Rattle.dd_model.specs.declared.requests.Request.{Request}
use Rattle.dd_branch_tables.specs.Rows.{partial_of}
use Rattle.dd_branch_tables.specs.Search.{SearchLaws, GoesOn}
use Rattle.dd_branch_tables.specs.Stem.{IsStem, prefix_of, size_of, cut_to}
use Rattle.dd_branch_tables.specs.declared.stem.Stem.{Stem}
use Rattle.dd_branch_bounds.specs.Kept.{Shares, AreKept, with_sides}
use Rattle.dd_branch_bounds.specs.declared.path_shares.PathShares.{PathShares}
use Rattle.dd_branch_bounds.specs.declared.table_paths.TablePaths.{TablePaths}
use Rattle.dd_branch.specs.Levels.{Leveled}
use Rattle.dd_branch.specs.declared.undo_point.UndoPoint.{UndoPoint}

-- what is asked, how far the search has come, the shares of its table, and what each number put in
pub record Descending : Type 0 where
  pub request : Request
  pub stem : Stem
  pub shares : Shares
  pub levels : List UndoPoint

-- what is asked, a prefix with its table, and the levels with the paths of the table
abbrev pub descending : Request → Stem → PathShares → Leveled → Descending
descending request stem classes levels = record {
  request = request;
  stem = stem;
  shares = record { classes = classes; sides = levels.sides };
  levels = levels.before;
}

-- the search with a level more
abbrev pub with_level : Descending → UndoPoint → Descending
with_level d level = record d { levels = d.levels ++ level ∷ [] }

-- the search with other paths of its table
abbrev pub with_paths : Descending → TablePaths → Descending
with_paths d sides = record { request = d.request; stem = d.stem; shares = with_sides d.shares sides; levels = d.levels }

-- the search as it was before its last number
abbrev pub without_last : Option UndoPoint → Descending → Descending
without_last None d = d
without_last (Some level) d = record {
  request = d.request;
  stem = cut_to d.stem level.numbers level.rows;
  shares = with_sides d.shares level.sides;
  levels = take (length d.levels - 1) d.levels;
}

abbrev pub shorter : Descending → Descending
shorter d = without_last (slice_get d.levels (length d.levels - 1)) d

-- The table follows from the prefix, the shares are shares of its chambers, and there is room for a level for each number.
pub record IsDescent (d : Descending) : Type 0 where
  pub valid : IsValid d.request
  pub stem : IsStem d.stem
  pub kept : AreKept (partial_of d.stem.rows) d.shares
  pub same_request : d.shares.classes.request ≡ d.request
  pub room : length d.levels ≤ length (prefix_of d.stem)

-- the search as it was before its last so many numbers
abbrev pub gone_back : ℕ → Descending → Descending
gone_back zero d = d
gone_back (suc k) d = gone_back k (shorter d)

-- It is a search, and so it is at each level that it has on the way back. At the first one its prefix is empty.
pub record GoesBack (d : Descending) : Type 0 where
  pub is : IsDescent d
  pub levels : (k : ℕ) → k < length d.levels → IsDescent (gone_back k (shorter d))
  pub empty : prefix_of (gone_back (length d.levels) d).stem ≡ []

-- what the search says of its states
abbrev pub descent_laws : SearchLaws Descending
descent_laws = record {
  request = λ d. d.request;
  wanted = λ q s. IsMember q s;
  size = λ d. size_of d.stem;
  prefix = λ d. prefix_of d.stem;
  end = λ n. 3 * n;
  depth = λ d. length d.levels;
  undone = λ d _. shorter d;
  valid = λ _. Unit {0};
}

-- the search with a number more at the end of its prefix, and with what follows from it
abbrev pub HasDescended : ℕ → Descending → Descending → Type 0
HasDescended number old new = GoesOn descent_laws number old new
