-- How a search for the degrees of a table begins, and what it has found at its end.
use Rattle.std.proofs.Common.{IfSome, ◌≡◌, ℕ, ◌+◌, ◌*◌, ◌≤◌, List, [], ◌++◌, length, get_or, take, sym, ap, ◌∙◌, subst, arith}
use Rattle.std.proofs.lemmas.List.{append-nil}
use Rattle.dd_model.specs.declared.pair.Pair.{Pair}
use Rattle.dd_model.specs.declared.pair.Pair.TheVariants.{Tile, Vertex}
use Rattle.dd_model.specs.declared.requests.Request.{Request}
use Rattle.dd_model.specs.Symbol.{Symbol, AreInvolutions, IsChamber}
use Rattle.dd_model.specs.Lists.{Begins}
use Rattle.dd_model.specs.Code.{code, Least}
use Rattle.dd_model.specs.Wanted.{IsMember}
use Rattle.dd_model.specs.Involutions.{HaveSameInvolutions}
use Rattle.dd_model.proofs.Codes.{length-code}
use Rattle.dd_model.proofs.Turns.{period_bound}
use Rattle.dd_symbol.specs.Cells.{IsShapeOf}
use Rattle.dd_symbol.specs.declared.shapes.CellShape.{CellShape}
use Rattle.dd_cells.proofs.MemberLemmas.{period_from_turns}
use Rattle.dd_canon.specs.Ties.{AreTies}
use Rattle.dd_branch_tables.specs.Table.{IsBareTable}
use Rattle.dd_front_jobs.specs.Under.{Appends, AreUnder}
use Rattle.dd_branch_tables.proofs.Follows.{member_orderly}
use Rattle.dd_branch_tables.proofs.Prefixes.{appends_none}
use Rattle.dd_branch_tables.proofs.TiedTables.{table_of_least}
use Rattle.dd_model.proofs.SameInvolutions.{same-sym}
use Rattle.dd_branch_tables.proofs.TableFronts.{front_begins, begins_with_take}
use Rattle.dd_branch_degrees.specs.Automorphism.{AreAutomorphisms}
use Rattle.dd_branch_degrees.specs.Assignment.{Assigned, HasLimits, IsAssignment, IsAtRoot, IsMemberUnder, prefix_of, told}
use Rattle.dd_branch_degrees.specs.Budget.{no_place}
use Rattle.dd_branch_degrees.specs.Members.{AreMembersWith}
use Rattle.dd_branch_degrees.specs.Place.{ArePlaces, HasPlaces, IsPlaceOf}
use Rattle.dd_branch_degrees.specs.LaterBudgets.{AreLaterBudgets}
use Rattle.dd_branch_degrees.specs.declared.places.DegreeSlot.{DegreeSlot}
use Rattle.dd_branch_degrees.proofs.Advancing.{sound_next}
use Rattle.dd_branch_degrees.proofs.Assigned.{length-front, same_of_under}
use Rattle.dd_branch_degrees.proofs.Chosen.{limits_of_wanted}

-- ## Places

-- the cell of a chamber of a small table has few turns
pub few_turns_of : (s : Symbol) → AreInvolutions s → (p : Pair) (d : ℕ) (c : CellShape) → IsChamber s d → s.size ≤ 36 → IsShapeOf s p d c → c.r ≤ 36
few_turns_of s inv p d c h small shape =
    let period = period_from_turns s inv p d c.r h shape.turns in
    let few = period_bound s inv p d c.r h (λ k pos low fixed. let least = period.least k pos fixed in absurd (omega (arith, least, low))) in
    omega (arith, few, small)

-- the places of the tiles, and then those of the vertices
pub both_places : (q : Request) (t : Symbol) (none mid new : List DegreeSlot) → none ≡ [] → HasPlaces t q.faces Tile none t.size mid → HasPlaces t q.degrees Vertex mid t.size new → ArePlaces q t new
both_places q t none mid new empty tiles vertices =
    let long = tiles.longer in
    let both = vertices.longer in
    let zero_ : length none ≡ 0 = ap length empty in
    let first : length mid ≡ t.size = omega (arith, long, zero_) in
    record {
      count = omega (arith, first, both);
      tiles = λ k x low.
          let at : length none + k ≡ k = omega (arith, zero_) in
          subst (IsPlaceOf t q.faces Tile 0 (k + 1)) (sym (vertices.kept k x (omega (arith, first, low))))
          (subst (λ f. IsPlaceOf t q.faces Tile f (k + 1) (get_or mid k x)) zero_
          (subst (λ j. IsPlaceOf t q.faces Tile (length none) (k + 1) (get_or mid j x)) at (tiles.each k x low)));
      vertices = λ k x low. subst (λ f. IsPlaceOf t q.degrees Vertex f (k + 1) (get_or new (f + k) x)) first (vertices.each k x low);
    }

-- ## The beginning

pub begun : (a : Assigned) → IsBareTable a.table → HasLimits a.request a.table → AreTies a.table a.ties.starts.items → IfSome a.ties.automorphisms (λ all. AreAutomorphisms a.table a.ties.starts.items all.items) → ArePlaces a.request a.table a.places.items → AreLaterBudgets a.places.items a.budgets → a.degrees.items ≡ [] → IsAssignment a
begun a table limits ties automorphisms places budgets empty =
    let none : told a ≡ 0 = ap length empty in
    record {
      table = table;
      limits = limits;
      ties = ties;
      automorphisms = automorphisms;
      places = places;
      budgets = budgets;
      short = omega (arith, none);
      each = λ j x low. absurd (omega (arith, none, low));
    }

-- the first degree is that of the least chamber of a cell
pub at_root_first : (a : Assigned) → IsAssignment a → a.degrees.items ≡ [] → IsAtRoot a
at_root_first a is empty room =
    let none : told a ≡ 0 = ap length empty in
    let earlier = (sound_next a is (told a) no_place room).earlier in
    omega (arith, none, earlier)

-- ## The end

-- What is under the images of a table are the members with its involutions.
pub members_with : (q : Request) (t : Symbol) (a : Assigned) → IsBareTable a.table → a.request ≡ q → a.table ≡ t → a.degrees.items ≡ [] → (old new : List Symbol) → Appends (AreUnder (IsMember a.request) a.table.size (prefix_of a)) old new
    → Appends (AreMembersWith q t) old new
members_with q t a bare request table empty old new more =
    subst (λ r. Appends (AreMembersWith r t) old new) request (subst (λ u. Appends (AreMembersWith a.request u) old new) table (record {
      list = more.list;
      grown = more.grown;
      holds = record {
        ascending = more.holds.ascending;
        members = λ s. (
          (λ there. let under = (more.holds.members s).0 there in (under.wanted, same_of_under a bare.symbol.table s under)),
          (λ both. (more.holds.members s).1 (under_of s both.0 both.1)),
        );
      };
    }))
  where
    front : List ℕ
    front = take (3 * a.table.size) (code a.table)

    under_of : (s : Symbol) → IsMember a.request s → HaveSameInvolutions a.table s → IsMemberUnder a (prefix_of a) s
    under_of s member same =
        let orderly = member_orderly a.request s member in
        let whole = length-code a.table bare.symbol.table in
        let only : prefix_of a ≡ front = ap (λ xs. front ++ xs) empty ∙ append-nil front in
        record {
          wanted = member;
          orderly = orderly;
          size = same.size;
          begins = subst (λ xs. Begins xs (code s)) (sym only)
              (front_begins s a.table front orderly.table (length-front a.table bare.symbol.table) (begins_with_take (3 * a.table.size) (code a.table) (omega (arith, whole))) same);
        }

-- where a table has not the limits there is no member
pub none_without_limits : (q : Request) (t : Symbol) (old : List Symbol) → (HasLimits q t → ⊥) → Appends (AreMembersWith q t) old old
none_without_limits q t old none = appends_none (AreMembersWith q t) old (record {
  ascending = tt;
  members = λ s. (
    (λ there. absurd (let below = there.1 in omega (arith, below))),
    (λ both. absurd (none (limits_of_wanted q t s both.1 both.0.wanted))),
  );
})

-- where a table is not least there is none either
pub none_without_ties : (q : Request) (t : Symbol) (old : List Symbol) → IsBareTable t → (Least t → ⊥) → Appends (AreMembersWith q t) old old
none_without_ties q t old bare none = appends_none (AreMembersWith q t) old (record {
  ascending = tt;
  members = λ s. (
    (λ there. absurd (let below = there.1 in omega (arith, below))),
    (λ both. absurd (none (table_of_least q s t both.0 (record { symbol = bare.symbol; connected = bare.connected; unbranched = bare.unbranched; same = same-sym t s both.1 })))),
  );
})
