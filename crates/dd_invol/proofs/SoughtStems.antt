-- Whole prefixes whose tables are sought, and those whose tables are not.
use Rattle.std.proofs.Common.{◌≡◌, ◌↔◌, ◌*◌, Bool, IsTrue, ℕ, List, [], length, sym, ap, ◌∙◌}
use Rattle.std.specs.Bool.{OnTrue, OnFalse}
use Rattle.std.proofs.lemmas.Bool.{OnTrue_from, OnFalse_from}
use Rattle.std.specs.Ordering.{nat_cmp}
use Rattle.std.specs.Cmp.Lexicographic.{slice_cmp}
use Rattle.std.specs.declared.cmp.Ordering.TheVariants.{Less}
use Rattle.dd_model.specs.declared.jobs.Job.{Job}
use Rattle.dd_model.specs.declared.pair.Pair.TheVariants.{Tile, Vertex}
use Rattle.dd_model.specs.declared.requests.Request.{Request}
use Rattle.dd_model.specs.Involutions.{HaveSameInvolutions}
use Rattle.dd_model.specs.Symbol.{Symbol, AreInvolutions}
use Rattle.dd_model.specs.Wanted.{AtMost}
use Rattle.dd_model.proofs.SameInvolutions.{same-sym, involutions-same}
use Rattle.dd_symbol.specs.Images.{of_rows}
use Rattle.dd_branch_tables.specs.Table.{IsTableOf, HasLeastTable}
use Rattle.dd_branch_tables.specs.Walk.{HasNoneLeft}
use Rattle.dd_invol.specs.NextTable.{HasSought, IsAhead}
use Rattle.dd_branch_tables.proofs.BareTables.{at_most_alike}
use Rattle.dd_branch_tables.proofs.TableFronts.{told_same}
use Rattle.dd_branch_tables.proofs.WalkLemmas.{front_is, next_read, none_sought}

module _ (n : ℕ) (numbers : List ℕ) (whole : length numbers ≡ 3 * n) where
  -- the numbers are the images of the table
  alike : (t : Symbol) → IsTableOf n numbers t → HaveSameInvolutions t (of_rows n numbers)
  alike t of = told_same t n numbers [] [] of.bare.symbol.table of.size whole of.begins

  pub involutions_of_least : HasLeastTable n numbers → AreInvolutions (of_rows n numbers)
  involutions_of_least has = involutions-same has.table (of_rows n numbers) (alike has.table has.of) has.of.bare.symbol.table.involutions

  -- the least table is sought where it has no more cells than asked for
  module _ (q : Request) (has : HasLeastTable n numbers) (within : Bool)
      (told : IsTrue within ↔ (AtMost (of_rows n numbers) Tile q.tiles × AtMost (of_rows n numbers) Vertex q.vertices)) where
    job : Job
    job = record { size = n; prefix = numbers }

    same : HaveSameInvolutions has.table (of_rows n numbers)
    same = alike has.table has.of

    pub sought_of_least : OnTrue within (HasSought q (record { size = n; prefix = numbers }))
    sought_of_least = OnTrue_from within (HasSought q (record { size = n; prefix = numbers })) (λ yes.
        let both = told.0 yes in
        let back = same-sym has.table (of_rows n numbers) same in
        record {
          table = has.table;
          of = has.of;
          sought = record {
            least = has.least;
            tiles = at_most_alike (of_rows n numbers) has.table back Tile q.tiles both.0;
            vertices = at_most_alike (of_rows n numbers) has.table back Vertex q.vertices both.1;
          };
        })

    pub none_of_least : OnFalse within ((bound : List ℕ) → HasNoneLeft q (record { size = n; prefix = numbers }) bound)
    none_of_least = OnFalse_from within ((bound : List ℕ) → HasNoneLeft q (record { size = n; prefix = numbers }) bound) (λ no bound.
        none_sought q (record { size = n; prefix = numbers }) bound has.table (record { whole = whole; table = has.of }) (λ sought.
        let yes = told.1 (at_most_alike has.table (of_rows n numbers) same Tile q.tiles sought.tiles, at_most_alike has.table (of_rows n numbers) same Vertex q.vertices sought.vertices) in
        cc))

-- its images are next where they come after a bound
pub ahead_here : (q : Request) (job : Job) (bound images : List ℕ) → length job.prefix ≡ 3 * job.size → HasSought q job → slice_cmp nat_cmp bound job.prefix ≡ Less → images ≡ job.prefix
    → IsAhead q job bound images
ahead_here q job bound images whole has past same = record {
  table = has.table;
  next = next_read q job bound has.table (record { whole = whole; table = has.of }) has.sought past;
  images_are = front_is has.table job.prefix (whole ∙ ap (λ n. 3 * n) (sym has.of.size)) has.of.begins ∙ sym same;
}
