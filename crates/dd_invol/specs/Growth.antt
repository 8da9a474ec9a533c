-- A search for tables.
use Rattle.std.specs.Prelude.{ℕ, ◌*◌, List}
use Rattle.dd_model.specs.declared.requests.Request.{Request}
use Rattle.dd_branch_tables.specs.Search.{SearchLaws}
use Rattle.dd_branch_tables.specs.Rows.{depth_of}
use Rattle.dd_branch_tables.specs.Stem.{Any, IsStem, prefix_of, size_of, shortened}
use Rattle.dd_branch_tables.specs.declared.stem.Stem.{Stem}

-- what is asked, and how far the search has come
pub record Growing : Type 0 where
  pub request : Request
  pub stem : Stem

abbrev pub asked_of : Growing → Request
asked_of t = t.request

abbrev pub size_at : Growing → ℕ
size_at t = size_of t.stem

abbrev pub prefix_at : Growing → List ℕ
prefix_at t = prefix_of t.stem

-- the search without the last number, and with no more than so much put into its table
abbrev pub taken_back : Growing → ℕ → Growing
taken_back t mark = record { request = t.request; stem = shortened t.stem mark }

-- what a search for tables says of its states
abbrev pub table_laws : SearchLaws Growing
table_laws = record {
  request = asked_of;
  wanted = λ q s. Any s;
  size = size_at;
  prefix = prefix_at;
  end = λ n. 3 * n;
  depth = λ t. depth_of t.stem.rows;
  undone = taken_back;
  valid = λ t. IsStem t.stem;
}
