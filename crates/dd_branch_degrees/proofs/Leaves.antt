-- The symbol of a table of which all degrees are told.
use Rattle.std.proofs.Common.{◌≡◌, ℕ, ◌+◌, ◌-◌, ◌*◌, IsTrue, List, [], ◌∷◌, ◌++◌, length, get_or, take, drop, refl, sym, ap, ◌∙◌, subst, arith}
use Rattle.std.proofs.Math.Seq.{take-append_seam}
use Rattle.std.proofs.lemmas.List.{append_assoc, ext_get_or, get_or_append_left, get_or-append_right, get_or-drop, get_or-take, length-drop, length-take-le, take-append-drop}
use Rattle.dd_model.specs.declared.pair.Pair.TheVariants.{Tile, Vertex}
use Rattle.dd_model.specs.Symbol.{Symbol, IsTable}
use Rattle.std.specs.List.{Contains}
use Rattle.dd_model.specs.Lists.{Begins}
use Rattle.dd_model.proofs.Lists.{Contains-one}
use Rattle.dd_front_jobs.specs.Under.{Appends, AreUnder}
use Rattle.dd_model.specs.Code.{code, all_images, Least}
use Rattle.dd_model.specs.Minimal.{Minimal}
use Rattle.dd_model.specs.Small.{IsSmallSymbol}
use Rattle.dd_model.specs.Wanted.{IsMember}
use Rattle.dd_model.proofs.Ascending.{begins_itself}
use Rattle.dd_model.proofs.Codes.{length-flat_images}
use Rattle.dd_model.proofs.SameInvolutions.{connected-same, involutions-same, same-sym}
use Rattle.dd_symbol.specs.Images.{with_degrees}
use Rattle.dd_symbol.proofs.TableLemmas.{with_same}
use Rattle.dd_canon.specs.Ties.{IsLeastFrom}
use Rattle.dd_branch_tables.proofs.TiedTables.{least_of_ties}
use Rattle.dd_branch_tables.proofs.Follows.{member_orderly}
use Rattle.dd_branch_degrees.specs.Assignment.{Assigned, IsAssignment, IsMemberUnder, degree_at, prefix_of, spent_by, told}
use Rattle.dd_branch_degrees.specs.Budget.{no_place, spent}
use Rattle.dd_branch_degrees.proofs.Assigned.{same_of_under, told_degree}
use Rattle.dd_branch_degrees.proofs.Budgets.{flat_if_spent}
use Rattle.dd_branch_degrees.proofs.Chosen.{AreDegrees, ArePlacesOf, AreToldOf, choice_everywhere, small_of_degrees, tile_at, tile_place, vertex_at, vertex_place, wanted_of_degrees}

-- the symbol
abbrev pub leaf : Assigned → Symbol
leaf a = with_degrees a.table (take a.table.size a.degrees.items) (drop a.table.size a.degrees.items)

-- the degrees, one list after the other
degrees_are : (a : Assigned) → (leaf a).m01 ++ (leaf a).m12 ≡ a.degrees.items
degrees_are a = take-append-drop a.table.size a.degrees.items

leaf_table : (a : Assigned) → IsAssignment a → told a ≡ 2 * a.table.size → IsTable (leaf a)
leaf_table a is whole =
    let table = is.table.symbol.table in
    record {
      chambers = table.chambers;
      lengths = table.lengths;
      m01_length = length-take-le a.table.size a.degrees.items (omega (arith, whole));
      m12_length = let rest = length-drop a.table.size a.degrees.items in omega (arith, rest, whole);
      involutions = involutions-same a.table (leaf a) (with_same a.table (leaf a).m01 (leaf a).m12) table.involutions;
    }

pub leaf_degrees : (a : Assigned) → IsAssignment a → told a ≡ 2 * a.table.size → AreDegrees a.request a.table (leaf a) a.places.items
leaf_degrees a is whole =
    let n = a.table.size in
    let ds = a.degrees.items in
    let places = a.places.items in
    let table = leaf_table a is whole in
    let inv = is.table.symbol.table.involutions in
    let joined = degrees_are a in
    let tiles : AreToldOf a.request.faces 0 n places (degree_at (leaf a)) =
    subst (λ xs. AreToldOf a.request.faces 0 n places (λ j. get_or xs j 0)) (sym joined) (record {
      same = λ k j at low. (is.each j no_place (omega (arith, at, low, whole))).same;
      choice = λ k j at low own. (is.each j no_place (omega (arith, at, low, whole))).tile own (omega (arith, at, low));
    }) in
    let vertices : AreToldOf a.request.degrees n n places (degree_at (leaf a)) =
    subst (λ xs. AreToldOf a.request.degrees n n places (λ j. get_or xs j 0)) (sym joined) (record {
      same = λ k j at low. (is.each j no_place (omega (arith, at, low, whole))).same;
      choice = λ k j at low own. (is.each j no_place (omega (arith, at, low, whole))).vertex own (omega (arith, at));
    }) in
    let tile_places : ArePlacesOf a.table a.request.faces Tile 0 n places = λ k j at low. tile_place a.request a.table places is.places n k j refl at low in
    let vertex_places : ArePlacesOf a.table a.request.degrees Vertex n n places = λ k j at low. vertex_place a.request a.table places is.places n k j refl at low in
    record {
      lengths = record { lengths = table.lengths; m01_length = table.m01_length; m12_length = table.m12_length };
      same = with_same a.table (take n ds) (drop n ds);
      chosen = record {
        tiles = record {
          place = tile_places;
          choice = choice_everywhere a.table inv Tile a.request.faces 0 places (degree_at (leaf a)) tile_places tiles;
          degree = λ k j at low. tile_at (leaf a) table k j at low;
        };
        vertices = record {
          place = vertex_places;
          choice = choice_everywhere a.table inv Vertex a.request.degrees n places (degree_at (leaf a)) vertex_places vertices;
          degree = λ k j at low. vertex_at (leaf a) table k j at;
        };
      };
      tiles = tiles;
      vertices = vertices;
    }

pub leaf_small : (a : Assigned) → IsAssignment a → told a ≡ 2 * a.table.size → IsSmallSymbol (leaf a)
leaf_small a is whole = small_of_degrees a.request a.table (leaf a) a.places.items is.table (leaf_degrees a is whole)

-- the code of the leaf is the whole prefix
code_of_leaf : (a : Assigned) → IsAssignment a → told a ≡ 2 * a.table.size → code (leaf a) ≡ prefix_of a
code_of_leaf a is whole =
    let t = a.table in
    let front : take (3 * t.size) (code t) ≡ all_images t =
    ap (λ n. take n (code t)) (sym (length-flat_images t 1 t.size)) ∙ ap (take (length (all_images t))) (append_assoc (all_images t) t.m01 t.m12) ∙ take-append_seam (all_images t) (t.m01 ++ t.m12) in
    append_assoc (all_images t) (leaf a).m01 (leaf a).m12 ∙ ap (λ xs. all_images t ++ xs) (degrees_are a) ∙ ap (λ xs. xs ++ a.degrees.items) (sym front)

-- the leaf is the member under the prefix, if it is minimal where that is asked for, and least
pub leaf_is_member : (a : Assigned) → IsAssignment a → told a ≡ 2 * a.table.size → spent_by a ≡ 6 * a.table.size → (IsTrue a.request.minimal → Minimal (leaf a)) → Least (leaf a) → IsMemberUnder a (prefix_of a) (leaf a)
leaf_is_member a is whole flat minimal least =
    let n = a.table.size in
    let places = a.places.items in
    let are = leaf_degrees a is whole in
    let spends : spent places (degree_at (leaf a)) 0 (2 * n) ≡ 6 * n =
    ap (λ xs. spent places (λ j. get_or xs j 0) 0 (2 * n)) (degrees_are a) ∙ ap (spent places (λ j. get_or a.degrees.items j 0) 0) (sym whole) ∙ flat in
    let wanted = wanted_of_degrees a.request a.table (leaf a) places is.table is.limits are ((flat_if_spent a.request a.table (leaf a) places (small_of_degrees a.request a.table (leaf a) places is.table are).symbol are.same are.chosen).0 spends) minimal in
    let member : IsMember a.request (leaf a) = record { wanted = wanted; least = least } in
    record {
      wanted = member;
      orderly = member_orderly a.request (leaf a) member;
      size = refl;
      begins = subst (Begins (prefix_of a)) (sym (code_of_leaf a is whole)) (begins_itself (prefix_of a));
    }

-- and there is no other
pub under_leaf : (a : Assigned) → IsAssignment a → told a ≡ 2 * a.table.size → (s : Symbol) → IsMemberUnder a (prefix_of a) s → s ≡ leaf a
under_leaf a is whole s under =
    let n = a.table.size in
    let ds = a.degrees.items in
    let same = same_of_under a is.table.symbol.table s under in
    let table = under.orderly.table in
    let size = under.size in
    let long01 = table.m01_length in
    let long12 = table.m12_length in
    let own01 = length-take-le n ds (omega (arith, whole)) in
    let own12 = length-drop n ds in
    let m01 : s.m01 ≡ take n ds = ext_get_or 0 s.m01 (take n ds) (omega (arith, long01, own01, size)) (λ k low.
    sym (get_or_append_left s.m01 s.m12 0 k low) ∙ told_degree a is s under k (omega (arith, low, long01, size, whole)) ∙ sym (get_or-take n ds k 0 (omega (arith, low, long01, size)))) in
    let m12 : s.m12 ≡ drop n ds = ext_get_or 0 s.m12 (drop n ds) (omega (arith, long12, own12, size, whole)) (λ k low.
    let back : n + k - n ≡ k = omega arith in
    sym (get_or-append_right s.m01 s.m12 n (n + k) 0 (long01 ∙ size) (omega arith) ∙ ap (λ j. get_or s.m12 j 0) back)
    ∙ told_degree a is s under (n + k) (omega (arith, low, long12, size, whole)) ∙ sym (get_or-drop n ds k 0)) in
    λ i. record { size = same.size i; s0 = same.s0 i; s1 = same.s1 i; s2 = same.s2 i; m01 = m01 i; m12 = m12 i }

-- the symbol of the two parts of the degrees
pub leaf_is : {f a : Assigned} (all m01 m12 : List ℕ) (n : ℕ) → f ≡ a → all ≡ f.degrees.items → n ≡ a.table.size → m01 ≡ take n all → m12 ≡ drop n all → with_degrees a.table m01 m12 ≡ leaf a
leaf_is {a = a} all m01 m12 n same items size tiles vertices =
    let own = items ∙ ap (λ (x : Assigned). x.degrees.items) same in
    ap (λ xs. with_degrees a.table xs m12) (tiles ∙ ap (take n) own ∙ ap (λ k. take k a.degrees.items) size)
    ∙ ap (with_degrees a.table (take a.table.size a.degrees.items)) (vertices ∙ ap (drop n) own ∙ ap (λ k. drop k a.degrees.items) size)

-- the member under a whole prefix is the only one
pub appends_leaf : (a : Assigned) → IsAssignment a → told a ≡ 2 * a.table.size → (old new : List Symbol) (c : Symbol) → IsMemberUnder a (prefix_of a) c → new ≡ old ++ c ∷ [] → Appends (AreUnder (IsMember a.request) a.table.size (prefix_of a)) old new
appends_leaf a is whole old new c under longer = record {
  list = c ∷ [];
  grown = longer;
  holds = record {
    ascending = (tt, tt);
    members = λ s. (
      (λ there. subst (IsMemberUnder a (prefix_of a)) (Contains-one c s there) under),
      (λ other.
          let same : c ≡ s = under_leaf a is whole c under ∙ sym (under_leaf a is whole s other) in
          subst (Contains (c ∷ [])) same (0, omega arith, refl)),
    );
  };
}

-- the leaf is least where no numbering from a tie of the table is smaller
pub leaf_least : (a : Assigned) → IsAssignment a → told a ≡ 2 * a.table.size → IsLeastFrom (leaf a) a.ties.starts.items → Least (leaf a)
leaf_least a is whole least =
    let bare = is.table in
    let same = with_same a.table (leaf a).m01 (leaf a).m12 in
    least_of_ties (leaf a) a.table a.ties.starts.items (leaf_small a is whole).symbol (connected-same a.table (leaf a) same bare.connected)
    (record { symbol = bare.symbol; connected = bare.connected; unbranched = bare.unbranched; same = same-sym a.table (leaf a) same }) is.ties least
