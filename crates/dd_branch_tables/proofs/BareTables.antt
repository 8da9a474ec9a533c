-- Each orderly table has one symbol with its involutions of which all branching values are 1, and that is least too.
use Rattle.std.proofs.Common.{◌≡◌, ℕ, zero, suc, ◌-◌, ◌*◌, ◌≤◌, List, [], ◌∷◌, ◌++◌, length, refl, sym, ap, ◌∙◌, subst, inl, inr, ⊎_elim, arith}
use Rattle.std.proofs.lemmas.Bool.{cases_lt}
use Rattle.std.proofs.lemmas.List.{ext_get_or, get_or_append_left, get_or_push, length_push, length-map}
use Rattle.std.specs.Ordering.{nat_cmp}
use Rattle.std.specs.Cmp.Lexicographic.{slice_cmp}
use Rattle.std.specs.declared.cmp.Ordering.TheVariants.{Less}
use Rattle.std.proofs.lemmas.Map.Lookups.{exact_bytes}
use Rattle.dd_model.specs.declared.index.Index.TheVariants.{Zero, One, Two}
use Rattle.dd_model.specs.declared.pair.Pair.{Pair}
use Rattle.dd_model.specs.declared.pair.Pair.TheVariants.{Tile, Vertex, Edge}
use Rattle.dd_model.specs.Symbol.{Symbol, IsTable, IsSymbol, IsChamber, item, operation, HasDegree}
use Rattle.dd_model.specs.Connected.{Connected}
use Rattle.dd_model.specs.Cell.{IsPeriod}
use Rattle.dd_model.specs.Lists.{Begins}
use Rattle.dd_model.specs.Isomorphic.{IsIsomorphism, IsBijection}
use Rattle.dd_model.specs.Code.{code, all_images}
use Rattle.dd_model.specs.FirstVisit.{LeastTable}
use Rattle.dd_model.specs.Wanted.{AtMost}
use Rattle.dd_model.specs.Jobs.{IsMemberUnder}
use Rattle.dd_model.specs.declared.jobs.Job.{Job}
use Rattle.dd_model.specs.declared.requests.Request.{Request}
use Rattle.dd_model.proofs.Bijections.{after, item-after}
use Rattle.dd_model.proofs.Isomorphisms.{inverse_isomorphism}
use Rattle.dd_model.proofs.Carried.{branching-along}
use Rattle.dd_model.proofs.CellWalks.{has_period}
use Rattle.dd_model.proofs.LeastForms.{below_back, not_above, copy_is_symbol}
use Rattle.dd_front_jobs.specs.Orderly.{IsOrderly}
use Rattle.dd_branch_tables.specs.Table.{AreOfTable, IsBareTable, IsUnbranched}
use Rattle.dd_model.specs.Involutions.{HaveSameInvolutions}
use Rattle.dd_branch_tables.specs.Walk.{IsListed, HasTable}
use Rattle.dd_model.proofs.Ascending.{begins_at, begins_from}
use Rattle.dd_model.proofs.Codes.{length-code}
use Rattle.dd_branch_tables.proofs.Follows.{member_orderly}
use Rattle.dd_model.proofs.SameInvolutions.{op-same, same-sym, chamber-same, involutions-same, connected-same, period-same}
use Rattle.dd_symbol.specs.Building.{IsConnectedSymbol}
use Rattle.dd_symbol.specs.Cells.{ArePeriods}
use Rattle.dd_symbol.proofs.SameCells.{are_cells-same}
use Rattle.dd_branch_tables.proofs.TableFronts.{agreeing_from_same, front_same}
use Rattle.dd_branch_tables.proofs.TableLemmas.{commuting-same}
use Rattle.dd_branch_tables.proofs.Unbranched.{HasPeriods, small_of_periods, symbol_of_periods, unbranched_of_periods, unbranched_unique}
use Rattle.dd_branch_tables.proofs.WalkLemmas.{front_at}
use Rattle.dd_branch_tables.proofs.WalkOrder.{three, turned_round, below_by_images, length-front, own_begins}

-- a number with a property for each chamber
record AreChosen (n : ℕ) (P : ℕ → ℕ → Type 0) : Type 0 where
  list : List ℕ
  whole : length list ≡ n
  each : (d : ℕ) → 1 ≤ d → d ≤ n → P d (item list d)

choose : (n : ℕ) (P : ℕ → ℕ → Type 0) → ((d : ℕ) → 1 ≤ d → d ≤ n → (r : ℕ) × P d r) → AreChosen n P
choose zero P some = record { list = []; whole = refl; each = λ d low high. absurd (omega arith) }
choose (suc n) P some =
    let front = choose n P (λ d low high. some d low (omega arith)) in
    let last = some (suc n) (omega arith) (omega arith) in
    let size = front.whole in
    let longer = length_push front.list last.0 in
    record {
      list = front.list ++ last.0 ∷ [];
      whole = omega arith;
      each = λ d low high. ⊎_elim
          (λ early. subst (P d) (sym (get_or_append_left front.list (last.0 ∷ []) 0 (d - 1) (omega arith))) (front.each d low (omega arith)))
          (λ late.
          let here : suc n ≡ d = omega arith in
          let place : d - 1 ≡ length front.list = omega arith in
          let value : item (front.list ++ last.0 ∷ []) d ≡ last.0 = get_or_push front.list last.0 0 (d - 1) (sym place) in
          subst (P d) (sym value) (subst (λ e. P e last.0) here last.1))
          (cases_lt d (suc n));
    }

periods_of : (s : Symbol) → IsTable s → (p : Pair) → AreChosen s.size (λ d r. IsPeriod s p d r)
periods_of s is p = choose s.size (λ d r. IsPeriod s p d r) (λ d low high. let h = has_period s is.involutions p d (low, high) in (h.r, h.period))

-- the involutions with other degrees
abbrev with_degrees : Symbol → List ℕ → List ℕ → Symbol
with_degrees s m01 m12 = record { size = s.size; s0 = s.s0; s1 = s.s1; s2 = s.s2; m01 = m01; m12 = m12 }

table_with : (s : Symbol) (m01 m12 : List ℕ) → IsTable s → length m01 ≡ s.size → length m12 ≡ s.size → HaveSameInvolutions s (with_degrees s m01 m12) → IsTable (with_degrees s m01 m12)
table_with s m01 m12 is l01 l12 same = record {
  chambers = is.chambers;
  lengths = λ i. elim i as (λ j. length (operation (with_degrees s m01 m12) j) ≡ s.size) [ Zero ↦ is.lengths Zero | One ↦ is.lengths One | Two ↦ is.lengths Two ];
  m01_length = l01;
  m12_length = l12;
  involutions = involutions-same s (with_degrees s m01 m12) same is.involutions;
}

-- the same table with branching values 1
pub record IsBare (s t : Symbol) : Type 0 where
  pub symbol : IsSymbol t
  pub connected : Connected t
  pub unbranched : IsUnbranched t
  pub same : HaveSameInvolutions s t

pub record HasBare (s : Symbol) : Type 0 where
  pub table : Symbol
  pub bare : IsBare s table

pub bare_of_table : (s : Symbol) → IsTable s → Connected s → ((d : ℕ) → IsChamber s d → HasDegree s Edge d) → HasBare s
bare_of_table s is connected commuting =
    let tiles = periods_of s is Tile in
    let vertices = periods_of s is Vertex in
    let t = with_degrees s tiles.list vertices.list in
    let same : HaveSameInvolutions s t = record { size = refl; s0 = refl; s1 = refl; s2 = refl } in
    let table = table_with s tiles.list vertices.list is tiles.whole vertices.whole same in
    let faces : HasPeriods t Tile = record { each = λ d h. period-same s t same Tile d (item tiles.list d) (tiles.each d h.0 h.1) } in
    let degrees : HasPeriods t Vertex = record { each = λ d h. period-same s t same Vertex d (item vertices.list d) (vertices.each d h.0 h.1) } in
    record {
      table = t;
      bare = record {
        symbol = symbol_of_periods t table (commuting-same s t same commuting) faces degrees;
        connected = connected-same s t same connected;
        unbranched = unbranched_of_periods t table.involutions faces degrees;
        same = same;
      };
    }

pub bare_exists : (s : Symbol) → IsOrderly s → HasBare s
bare_exists s is = bare_of_table s is.table is.connected is.commuting

-- The involutions of a table, followed by the least numbers of turns.
pub record IsBuiltBare (t : Symbol) : Type 0 where
  pub built : IsConnectedSymbol t
  pub bare : IsBareTable t

pub known_bare : (s : Symbol) (m01 m12 : List ℕ) → AreOfTable s → ArePeriods s Tile m01 → ArePeriods s Vertex m12 → IsBuiltBare (with_degrees s m01 m12)
known_bare s m01 m12 of tiles vertices =
    let own = of.same in
    let t = with_degrees of.table m01 m12 in
    let same : HaveSameInvolutions of.table t = record { size = refl; s0 = refl; s1 = refl; s2 = refl } in
    let back : HaveSameInvolutions s t = record { size = sym own.size; s0 = sym own.s0; s1 = sym own.s1; s2 = sym own.s2 } in
    let table = table_with of.table m01 m12 of.is_table (tiles.whole ∙ own.size) (vertices.whole ∙ own.size) same in
    let faces : HasPeriods t Tile = record { each = λ d h. period-same s t back Tile d (item m01 d) (tiles.each d (chamber-same s t back d h)) } in
    let degrees : HasPeriods t Vertex = record { each = λ d h. period-same s t back Vertex d (item m12 d) (vertices.each d (chamber-same s t back d h)) } in
    let small = of.small in
    let symbol = small_of_periods t table (commuting-same of.table t same of.commuting) faces degrees (omega (arith, small)) in
    let connected = connected-same of.table t same of.connected in
    let path : t ≡ with_degrees s m01 m12 = λ i. record { size = sym own.size i; s0 = sym own.s0 i; s1 = sym own.s1 i; s2 = sym own.s2 i; m01 = m01; m12 = m12 } in
    subst IsBuiltBare path (record {
      built = record { symbol = symbol; connected = connected };
      bare = record { symbol = symbol.symbol; connected = connected; unbranched = unbranched_of_periods t table.involutions faces degrees; small = small };
    })

-- ## It is least where the table is

pub images_alike : (s t : Symbol) → HaveSameInvolutions s t → all_images t ≡ all_images s
images_alike s t same =
    let size = same.size in
    let ls = length-front s in
    let lt = length-front t in
    let agree = agreeing_from_same t s same in
    ext_get_or 0 (all_images t) (all_images s) (omega arith) (λ u low.
    sym (front_at t u (omega arith)) ∙ sym (agree.same u (omega arith)) ∙ front_at s u (omega arith))

length-after : (g f : List ℕ) → length (after g f) ≡ length f
length-after g f = length-map f (item g)

-- A renumbering of one of two tables with the same involutions renumbers the other.
pub record IsCarried (s u : Symbol) (f : List ℕ) (other : Symbol) : Type 0 where
  pub table : IsTable other
  pub renumbering : IsIsomorphism s other f
  pub same : HaveSameInvolutions u other

pub carried : (s t u : Symbol) (f : List ℕ) → IsTable s → HaveSameInvolutions s t → IsTable u → IsIsomorphism t u f → (other : Symbol) × IsCarried s u f other
carried s t u f is same iu iso =
    let b = iso.bijection in
    let g = b.inverse in
    let size : u.size ≡ s.size = iso.size ∙ same.size in
    let count : length g ≡ u.size = b.inverse_images ∙ sym iso.size in
    let other = with_degrees u (after s.m01 g) (after s.m12 g) in
    let alike : HaveSameInvolutions u other = record { size = refl; s0 = refl; s1 = refl; s2 = refl } in
    let back : (d : ℕ) → IsChamber s d → IsChamber t d = λ d h. chamber-same t s (same-sym s t same) d h in
    let inside : (d : ℕ) → IsChamber s d → (1 ≤ item f d) × (item f d ≤ u.size) = λ d h. iso.morphism.within d (back d h) in
    let undone : (d : ℕ) → IsChamber s d → item g (item f d) ≡ d = λ d h. b.left.undone d (back d h).0 (back d h).1 in (
      other,
      record {
        table = table_with u (after s.m01 g) (after s.m12 g) iu (length-after s.m01 g ∙ count) (length-after s.m12 g ∙ count) alike;
        renumbering = record {
          size = size;
          bijection = subst (λ n. IsBijection n f) same.size b;
          morphism = record {
            images = iso.morphism.images ∙ same.size;
            within = inside;
            op = λ i d h. ap (item f) (sym (op-same s t same i d)) ∙ iso.morphism.op i d (back d h) ∙ sym (op-same u other alike i (item f d));
            m01 = λ d h. item-after s.m01 g u.size (item f d) count (inside d h).0 (inside d h).1 ∙ ap (item s.m01) (undone d h);
            m12 = λ d h. item-after s.m12 g u.size (item f d) count (inside d h).0 (inside d h).1 ∙ ap (item s.m12) (undone d h);
          };
        };
        same = alike;
      },
    )

-- a renumbering of a table of branching values 1 has them too
pub unbranched_along : (t u : Symbol) (f : List ℕ) → IsTable t → IsTable u → IsUnbranched t → IsIsomorphism t u f → IsUnbranched u
unbranched_along t u f it iu ones iso =
    let b = iso.bijection in
    let back = inverse_isomorphism t u f it iso in
    record {
      tiles = λ e v h is. ones.tiles (item b.inverse e) v (back.morphism.within e h) (branching-along u t b.inverse iu.involutions back Tile e v h is);
      vertices = λ e v h is. ones.vertices (item b.inverse e) v (back.morphism.within e h) (branching-along u t b.inverse iu.involutions back Vertex e v h is);
    }

pub bare_least : (s t : Symbol) → IsOrderly s → IsBare s t → LeastTable t
bare_least s t is bare u iu (f, iso) =
    let size : t.size ≡ u.size = sym iso.size in
    ⊎_elim
    (λ less. not_above t u (inl (below_by_images t u size less)))
    (λ others. ⊎_elim
    (λ tied.
    let images : all_images t ≡ all_images u = exact_bytes (all_images t) (all_images u) tied in
    let alike : HaveSameInvolutions t u = front_same u t (all_images t) iu bare.symbol.table (sym size) (length-front t) (own_begins t) (subst (λ xs. Begins xs (code u)) (sym images) (own_begins u)) in
    let symbol = copy_is_symbol t u bare.symbol iu (f, iso) in
    not_above t u (inr (unbranched_unique t u bare.symbol symbol bare.unbranched (unbranched_along t u f bare.symbol.table iu bare.unbranched iso) alike)))
    (λ more.
    let other = carried s t u f is.table bare.same iu iso in
    let lower : slice_cmp nat_cmp (all_images other.0) (all_images s) ≡ Less =
    ap (λ xs. slice_cmp nat_cmp xs (all_images s)) (images_alike u other.0 other.1.same)
    ∙ ap (slice_cmp nat_cmp (all_images u)) (sym (images_alike s t bare.same))
    ∙ turned_round (all_images t) (all_images u) more in
    let below = below_by_images other.0 s (other.1.same.size ∙ iso.size ∙ bare.same.size) lower in
    absurd (is.least other.0 other.1.table (f, other.1.renumbering) (below_back other.0 s below)))
    others)
    (three (slice_cmp nat_cmp (all_images t) (all_images u)))

-- ## Members and tables

pub at_most_alike : (s t : Symbol) → HaveSameInvolutions s t → (p : Pair) (limit : ℕ) → AtMost s p limit → AtMost t p limit
at_most_alike s t same p limit at_most =
    ⊎_elim (λ none. inl none) (λ some. inr (some.0, are_cells-same s t same p some.0 some.1, some.2)) at_most

pub member_table : (q : Request) (job : Job) (s : Symbol) → length job.prefix ≤ 3 * job.size → IsMemberUnder q job s → HasTable q job s
member_table q job s short under =
    let is = member_orderly q s under.member in
    let has = bare_exists s is in
    let t = has.table in
    let bare = has.bare in
    let size : t.size ≡ job.size = bare.same.size ∙ under.size in
    let long = length-code t bare.symbol.table in
    let agree = agreeing_from_same s t (same-sym s t bare.same) in
    record {
      table = t;
      listed = record {
        symbol = bare.symbol;
        connected = bare.connected;
        unbranched = bare.unbranched;
        sought = record {
          least = bare_least s t is bare;
          tiles = at_most_alike s t bare.same Tile q.tiles under.member.wanted.tiles;
          vertices = at_most_alike s t bare.same Vertex q.vertices under.member.wanted.vertices;
        };
        size = size;
        begins = begins_from job.prefix (code t) (omega arith) (λ u low. agree.same u (omega arith) ∙ begins_at job.prefix (code s) u under.begins low);
      };
      same = bare.same;
    }

pub member_table_unique : (q : Request) (job : Job) (s t u : Symbol) → IsListed q job t → IsListed q job u → HaveSameInvolutions s t → HaveSameInvolutions s u → t ≡ u
member_table_unique q job s t u it iu st su =
    unbranched_unique t u it.symbol iu.symbol it.unbranched iu.unbranched
    (record { size = su.size ∙ sym st.size; s0 = su.s0 ∙ sym st.s0; s1 = su.s1 ∙ sym st.s1; s2 = su.s2 ∙ sym st.s2 })
