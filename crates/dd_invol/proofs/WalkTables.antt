-- The table where a walk stands, told by its images.
use Rattle.std.proofs.Common.{◌≡◌, ◌≢◌, ℕ, ◌*◌, List, [], length, sym, ap, ◌∙◌, subst, arith}
use Rattle.dd_model.specs.declared.jobs.Job.{Job}
use Rattle.dd_model.specs.declared.pair.Pair.TheVariants.{Edge}
use Rattle.dd_model.specs.declared.requests.Request.{Request}
use Rattle.dd_model.specs.Code.{code, all_images}
use Rattle.dd_model.specs.Lists.{Begins}
use Rattle.dd_model.specs.Symbol.{Symbol, IsSymbol}
use Rattle.dd_model.proofs.Codes.{length-flat_images}
use Rattle.dd_branch_tables.specs.Table.{IsUnbranched, IsTableOf, HasNoTable}
use Rattle.dd_branch_tables.specs.Walk.{IsListed, IsNext, IsReached}
use Rattle.dd_invol.specs.NextTable.{IsAhead}
use Rattle.dd_branch_tables.proofs.TableFronts.{front_same}
use Rattle.dd_branch_tables.proofs.Unbranched.{unbranched_unique}
use Rattle.dd_branch_tables.proofs.WalkOrder.{own_begins}

-- tables of branching values 1 with the same images are one
one_by_images : (s t : Symbol) (images : List ℕ) → IsSymbol s → IsSymbol t → IsUnbranched s → IsUnbranched t → s.size ≡ t.size → length images ≡ 3 * t.size → Begins images (code s) → Begins images (code t)
    → s ≡ t
one_by_images s t images is it us ut size whole bs bt = unbranched_unique s t is it us ut (front_same t s images it.table is.table (sym size) (whole ∙ ap (λ n. 3 * n) (sym size)) bs bt)

pub listed_whole : (q : Request) (job : Job) (t : Symbol) → IsListed q job t → length (all_images t) ≡ 3 * job.size
listed_whole q job t is = length-flat_images t 1 t.size ∙ ap (λ n. 3 * n) is.size

pub reached_whole : (q : Request) (job : Job) (images : List ℕ) → IsReached q job images → length images ≡ 3 * job.size
reached_whole q job images is = ap length (sym is.images_are) ∙ listed_whole q job is.table is.listed

pub ahead_some : (q : Request) (job : Job) (numbers images : List ℕ) → IsAhead q job numbers images → images ≢ []
ahead_some q job numbers images is none =
    let listed = is.next.listed in
    let long = listed_whole q job is.table listed in
    let some = listed.symbol.table.chambers in
    let size = listed.size in
    let nothing : length (all_images is.table) ≡ 0 = ap length (is.images_are ∙ none) in
    omega (arith, long, some, size, nothing)

-- the code of the table where it stands begins with the images
begins_reached : (t : Symbol) (images : List ℕ) → all_images t ≡ images → Begins images (code t)
begins_reached t images same = subst (λ xs. Begins xs (code t)) same (own_begins t)

-- what is read from the images is that table
pub read_reached : (q : Request) (job : Job) (images : List ℕ) (t : Symbol) → (is : IsReached q job images) → IsTableOf job.size images t → is.table ≡ t
read_reached q job images t is of =
    let listed = is.listed in
    one_by_images is.table t images listed.symbol of.bare.symbol listed.unbranched of.bare.unbranched (listed.size ∙ sym of.size) (reached_whole q job images is ∙ ap (λ n. 3 * n) (sym of.size))
    (begins_reached is.table images is.images_are) of.begins

pub some_reached : (q : Request) (job : Job) (images : List ℕ) → IsReached q job images → HasNoTable job.size images → ⊥
some_reached q job images is none =
    let listed = is.listed in
    none is.table listed.symbol.table listed.connected (λ d h. listed.symbol.degrees Edge d h) listed.size (begins_reached is.table images is.images_are)

-- a listed table with the images of the next one is the next one
pub next_of_images : (q : Request) (job : Job) (numbers images : List ℕ) (t : Symbol) → IsAhead q job numbers images → IsListed q job t → all_images t ≡ images → IsNext q job numbers t
next_of_images q job numbers images t is listed same =
    let own = is.next.listed in
    subst (IsNext q job numbers)
    (one_by_images is.table t images own.symbol listed.symbol own.unbranched listed.unbranched (own.size ∙ sym listed.size) (ap length (sym same) ∙ listed_whole q job t listed ∙ ap (λ n. 3 * n) (sym listed.size))
    (begins_reached is.table images is.images_are) (begins_reached t images same))
    is.next
