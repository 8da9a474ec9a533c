-- Steps without a shift reach all vertices, and lead back from each of them.
use Rattle.std.proofs.Common.{◌≡◌, ◌≢◌, ℕ, zero, suc, ◌+◌, ◌-◌, ◌<◌, ◌≤◌, Bool, true, false, cond, List, [], ◌∷◌, ◌++◌, length, set, get_or, replicate, ℤ, pos, refl, sym, ap, ◌∙◌, subst, inl, inr, ⊎_elim, arith}
use Rattle.std.proofs.lemmas.Bool.{cases_eq, cases_lt}
use Rattle.std.proofs.lemmas.Int.{ints}
use Rattle.std.proofs.lemmas.List.{get_or_default, get_or_append_left, get_or_push, length_push, get_or-set_same, get_or-set_other, length-set, length-replicate}
use Rattle.std.proofs.lemmas.List.Sums.{count_by-le-length, sum_by-cons}
use Rattle.std.specs.List.{count_by}
use Rattle.dd_model.specs.declared.index.Index.TheVariants.{Zero}
use Rattle.dd_model.specs.declared.pair.Pair.TheVariants.{Vertex, Edge}
use Rattle.dd_model.specs.Symbol.{Symbol, AreInvolutions, IsChamber, op, item}
use Rattle.dd_model.specs.Cell.{InCell, AreCells}
use Rattle.dd_model.proofs.CellLists.{cells_unique}
use Rattle.dd_model.proofs.CellWalks.{in_cell-refl, in_cell-sym, in_cell-trans}
use Rattle.dd_cells.proofs.CellSums.{has_roots}
use Rattle.dd_covers.specs.Torus.{IsTorus}
use Rattle.dd_covers.proofs.Nodes.{root_beside}
use Rattle.dd_lattice.specs.Edges.{IsOfCells, is_tree}
use Rattle.dd_lattice.specs.Growing.{is_set}
use Rattle.dd_lattice.specs.NetOf.{IsVertexNumber, IsNet}
use Rattle.dd_lattice.specs.Nets.{IsNetVertex}
use Rattle.dd_lattice.specs.declared.net.Net.{Net}
use Rattle.dd_lattice.specs.declared.net_edge.NetEdge.{NetEdge}
use Rattle.dd_lattice.specs.declared.kinds.EdgeKind.TheVariants.{Left}
use Rattle.dd_lattice.proofs.Around.{vertices_joined}
use Rattle.dd_lattice.proofs.GrowLemmas.{count_set}
use Rattle.dd_lattice.proofs.KindCounts.{level_by_chosen}
use Rattle.dd_lattice.proofs.KindLemmas.{listed_edge}
use Rattle.dd_lattice.proofs.KindsExist.{kinds_exist}
use Rattle.dd_lattice.proofs.NetLemmas.{place_in, number, number_is, first_chamber}
use Rattle.dd_lattice.proofs.TreeCounts.{tree_chosen, tree_not_chosen}
use Rattle.dd_gram.specs.Loops.{IsLoop, IsWalkTo}
use Rattle.dd_gram.specs.Spreading.{flag, IsStill, IsOver, IsStep, IsNewStep, AreLevel, IsLedTo, IsReached, AreSteps, AreWholeSteps}
use Rattle.dd_gram.specs.Walks.{sum_along}
use Rattle.dd_gram.specs.declared.back_step.BackStep.{BackStep}
use Rattle.dd_gram.proofs.WalkLemmas.{walk_on, sum_along-append}

-- ## Values of vertices that are equal at the ends of edges without a shift

module _ (t : Symbol) (torus : IsTorus t) (net : Net) (is : IsNet t net) where
  abbrev inv : AreInvolutions t
  inv = torus.symbol.table.involutions

  module _ (h : ℕ → ℕ) (level : (k : ℕ) (e : NetEdge) → k < length net.edges.items → IsStill (get_or net.edges.items k e) → h (get_or net.edges.items k e).from ≡ h (get_or net.edges.items k e).to) where
    abbrev g : ℕ → ℕ
    g d = h (number t torus net.vertices net.edges.items is d)

    of_vertices : IsOfCells t Vertex g
    of_vertices i d hd holds = ap (λ z. h (place_in is.vertices z + 1)) (root_beside t inv Vertex (has_roots t inv Vertex).root (has_roots t inv Vertex).are i d hd holds)

    abbrev none : NetEdge
    none = record { from = 0; to = 0; x = pos 0; y = pos 0 }

    at_tree : (q : ℕ) → q < length is.edges → is_tree (get_or (kinds_exist t inv is.edges is.are_edges).0 q Left) ≡ true → g (op t Zero (get_or is.edges q 0)) ≡ g (get_or is.edges q 0)
    at_tree q inside yes_ =
        let kinds = kinds_exist t inv is.edges is.are_edges in
        let d = get_or is.edges q 0 in
        let least = listed_edge t is.edges is.are_edges q inside in
        let tree = (tree_chosen t inv is.edges is.are_edges kinds.0 kinds.1 q inside yes_).1 in
        let edge = is.each q none inside in
        let many = is.many_edges in
        let still : IsStill (get_or net.edges.items q none) = record { x = edge.x ∙ is.are_first.trees d least tree; y = edge.y ∙ is.are_second.trees d least tree } in
        let from = number_is t torus net.vertices net.edges.items is d (get_or net.edges.items q none).from least.0 edge.from in
        let to = number_is t torus net.vertices net.edges.items is (op t Zero d) (get_or net.edges.items q none).to ((inv Zero).within d least.0) edge.to in
        sym (ap h to) ∙ sym (level q none (omega arith) still) ∙ ap h from

    all : (d : ℕ) → IsChamber t d → g d ≡ g 1
    all =
        let kinds = kinds_exist t inv is.edges is.are_edges in
        let each = level_by_chosen t inv Vertex Zero (λ e. Unit {0}) is.edges is.are_edges (λ k. is_tree (get_or kinds.0 k Left)) (tree_chosen t inv is.edges is.are_edges kinds.0 kinds.1) (tree_not_chosen t inv is.edges is.are_edges kinds.0 kinds.1) g of_vertices at_tree in
        vertices_joined t torus.symbol torus.connected (omega arith, torus.symbol.table.chambers) g of_vertices (λ e least. each e least tt)

    at_vertex : (w : ℕ) → IsNetVertex net w → h w ≡ g 1
    at_vertex w hw = let first = first_chamber t torus net.vertices net.edges.items is w hw in ap h first.1 ∙ all (item is.vertices w) first.0

    pub one_value : (u v : ℕ) → IsNetVertex net u → IsNetVertex net v → h u ≡ h v
    one_value u v hu hv = at_vertex u hu ∙ sym (at_vertex v hv)

-- ## A step more

-- what was read at a place
pub one_more : {A : Type 0} (es : List A) (q k : ℕ) (e x : A) → q ≡ k → q < length es → x ≡ get_or es k x → get_or es q e ≡ x
one_more es q k e x at inside here = get_or_default es q e x inside ∙ ap (λ j. get_or es j x) at ∙ sym here

-- the edge of a chamber, ahead or back
pub step_is : (t : Symbol) (net : Net) (is : IsNet t net) → AreInvolutions t → (edges : List ℕ) → AreCells t Edge edges → (k : ℕ) (e : NetEdge) (ahead : Bool) (s : BackStep) → k < length edges
    → get_or net.edges.items k e ≡ e → IsStill e → IsOver t e (get_or edges k 0) ahead s → IsStep t net is s
step_is t net is inv edges cells k e ahead s inside here still over =
    let same = cells_unique t Edge edges is.edges cells is.are_edges in
    let d = get_or edges k 0 in
    let h = (listed_edge t edges cells k inside).0 in
    let at : get_or is.edges k 0 ≡ d = ap (λ es. get_or es k 0) (sym same) in
    let size = ap (λ (es : List ℕ). length es) same in
    let edge = is.each k e (omega arith) in
    let from : IsVertexNumber t is.vertices d e.from = subst (λ c. IsVertexNumber t is.vertices c e.from) at (subst (λ (x : NetEdge). IsVertexNumber t is.vertices (get_or is.edges k 0) x.from) here edge.from) in
    let to : IsVertexNumber t is.vertices (op t Zero d) e.to = subst (λ c. IsVertexNumber t is.vertices (op t Zero c) e.to) at (subst (λ (x : NetEdge). IsVertexNumber t is.vertices (op t Zero (get_or is.edges k 0)) x.to) here edge.to) in
    let x0 : is.first d ≡ pos 0 = ap is.first (sym at) ∙ sym edge.x ∙ ap (λ (z : NetEdge). z.x) here ∙ still.x in
    let y0 : is.second d ≡ pos 0 = ap is.second (sym at) ∙ sym edge.y ∙ ap (λ (z : NetEdge). z.y) here ∙ still.y in
    let bx = is.are_first.back d h in
    let by_ = is.are_second.back d h in
    (elim ahead as (λ b. IsOver t e d b s → IsStep t net is s) [
      | true ↦ λ o. subst (IsStep t net is) (sym o) (record {
        chamber = (inv Zero).within d h;
        to = to;
        from = subst (λ c. IsVertexNumber t is.vertices c e.from) (sym ((inv Zero).involutive d h)) from;
        x = omega (arith, ints);
        y = omega (arith, ints);
      })
      | false ↦ λ o. subst (IsStep t net is) (sym o) (record { chamber = h; to = from; from = to; x = x0; y = y0 })
    ]) over

-- one that is new
pub new_step : (t : Symbol) (net : Net) → AreInvolutions t → (edges : List ℕ) → AreCells t Edge edges → (met : List Bool) (k : ℕ) (e : NetEdge) (ahead other : Bool) (s : BackStep) → k < length edges
    → get_or net.edges.items k e ≡ e → IsStill e → IsNetVertex net e.from → IsNetVertex net e.to → ahead ≡ flag met e.from → other ≡ flag met e.to → (ahead ≡ other → ⊥) → IsOver t e (get_or edges k 0) ahead s → IsNewStep t net met s
new_step t net involutions edges cells met k e true true s inside here still hf ht from to off over = absurd (off refl)
new_step t net involutions edges cells met k e false false s inside here still hf ht from to off over = absurd (off refl)
new_step t net involutions edges cells met k e true false s inside here still hf ht from to off over = record {
  step = λ is. step_is t net is involutions edges cells k e true s inside here still over;
  from = subst (λ (x : BackStep). IsNetVertex net x.from) (sym over) hf;
  to = subst (λ (x : BackStep). IsNetVertex net x.to) (sym over) ht;
  was_met = ap (λ (x : BackStep). flag met x.from) over ∙ sym from;
  new = ap (λ (x : BackStep). flag met x.to) over ∙ sym to;
}
new_step t net involutions edges cells met k e false true s inside here still hf ht from to off over = record {
  step = λ is. step_is t net is involutions edges cells k e false s inside here still over;
  from = subst (λ (x : BackStep). IsNetVertex net x.from) (sym over) ht;
  to = subst (λ (x : BackStep). IsNetVertex net x.to) (sym over) hf;
  was_met = ap (λ (x : BackStep). flag met x.from) over ∙ sym to;
  new = ap (λ (x : BackStep). flag met x.to) over ∙ sym from;
}

led_more : (xs : List BackStep) (x : BackStep) (j k v : ℕ) → j ≤ k → IsLedTo xs j v → IsLedTo (xs ++ x ∷ []) k v
led_more xs x j k v less led =
    let low = led.early in
    let inside = led.inside in
    let many = length_push xs x in
    record {
      place = led.place;
      early = omega arith;
      inside = omega arith;
      leads = λ s. ap (λ (y : BackStep). y.to) (get_or_append_left xs (x ∷ []) s led.place inside) ∙ led.leads s;
    }

pub reached_more : (root : ℕ) (xs : List BackStep) (x : BackStep) (j k v : ℕ) → j ≤ k → IsReached root xs j v → IsReached root (xs ++ x ∷ []) k v
reached_more root xs x j k v less reached = ⊎_elim (λ own. inl own) (λ led. inr (led_more xs x j k v less led)) reached

-- vertices that are met, and the steps to them
pub record IsSpread (t : Symbol) (net : Net) (root : ℕ) (met : List Bool) (steps : List BackStep) : Type 0 where
  pub many : length met ≡ net.vertices
  pub are : AreSteps t net root steps
  pub own : flag met root ≡ true
  pub told : (v : ℕ) → IsNetVertex net v → flag met v ≡ true → IsReached root steps (length steps) v
  pub count : count_by is_set met ≡ length steps + 1

module _ (t : Symbol) (net : Net) (root : ℕ) (met : List Bool) (steps : List BackStep) (spread : IsSpread t net root met steps) (step : BackStep) (new : IsNewStep t net met step) where
  abbrev met' : List Bool
  met' = set met (step.to - 1) true

  abbrev steps' : List BackStep
  steps' = steps ++ step ∷ []

  abbrev n : ℕ
  n = length steps

  place : step.to - 1 < length met
  place = let e = spread.many in let a = new.to.0 in let b = new.to.1 in omega arith

  counted : count_by is_set met' ≡ length steps' + 1
  counted =
      let sums = count_set is_set met (step.to - 1) place new.new refl in
      let e = spread.count in
      let m = length_push steps step in
      omega arith

  pub fewer : length steps' + 1 ≤ net.vertices
  fewer =
      let few = count_by-le-length is_set met' in
      let size = length-set met (step.to - 1) true in
      let many = spread.many in
      let all = counted in
      omega arith

  at_place : (P : ℕ → BackStep → Type 0) → ((k : ℕ) (e : BackStep) → k < n → P k (get_or steps k e)) → P n step → (k : ℕ) (e : BackStep) → k < length steps' → P k (get_or steps' k e)
  at_place P before last k e low =
      let many = length_push steps step in
      ⊎_elim
      (λ less. subst (P k) (sym (get_or_append_left steps (step ∷ []) e k less)) (before k e less))
      (λ rest. let at : k ≡ n = omega arith in subst (λ z. P z (get_or steps' z e)) (sym at) (subst (P n) (sym (get_or_push steps step e n refl)) last))
      (cases_lt k n)

  flag_other : (v : ℕ) → IsNetVertex net v → v ≢ step.to → flag met' v ≡ flag met v
  flag_other v h off = let a = h.0 in let b = new.to.0 in get_or-set_other met (step.to - 1) (v - 1) true false (λ e. off (omega arith))

  pub spread_more : IsNetVertex net root → IsSpread t net root met' steps'
  spread_more h = record {
    many = length-set met (step.to - 1) true ∙ spread.many;
    are = record {
      each = λ is. at_place (λ k s. IsStep t net is s) (spread.are.each is) (new.step is);
      from = at_place (λ k s. IsReached root steps' k s.from) (λ k e low. reached_more root steps step k k (get_or steps k e).from (omega arith) (spread.are.from k e low))
          (reached_more root steps step n n step.from (omega arith) (spread.told step.from new.from new.was_met));
      few = fewer;
    };
    own = ⊎_elim (λ same. ap (flag met') same ∙ get_or-set_same met (step.to - 1) true false place) (λ off. flag_other root h off ∙ spread.own) (cases_eq root step.to);
    told = λ v hv yes_.
        let many = length_push steps step in
        ⊎_elim
        (λ same. inr (record { place = n; early = omega arith; inside = omega arith; leads = λ s. ap (λ (y : BackStep). y.to) (get_or_push steps step s n refl) ∙ sym same }))
        (λ off. reached_more root steps step n (length steps') v (omega arith) (spread.told v hv (sym (flag_other v hv off) ∙ yes_)))
        (cases_eq v step.to);
    count = counted;
  }

none_set : (n i : ℕ) → get_or (replicate n false) i false ≡ false
none_set zero i = refl
none_set (suc n) zero = refl
none_set (suc n) (suc i) = none_set n i

none_counted : (n : ℕ) → count_by is_set (replicate n false) ≡ 0
none_counted zero = refl
none_counted (suc n) = let sum = sum_by-cons (λ (b : Bool). cond (is_set b) 1 0) false (replicate n false) in let rest = none_counted n in omega arith

-- the first vertex alone is met
pub spread_start : (t : Symbol) (net : Net) (root : ℕ) (items : List Bool) (steps : List BackStep) → IsNetVertex net root → items ≡ replicate net.vertices false → steps ≡ [] → IsSpread t net root (set items (root - 1) true) steps
spread_start t net root items steps h is nothing =
    let size : length items ≡ net.vertices = ap length is ∙ length-replicate net.vertices false in
    let low = h.0 in
    let high = h.1 in
    let inside : root - 1 < length items = omega arith in
    let flag_none = λ (v : ℕ). ap (λ xs. flag xs v) is ∙ none_set net.vertices (v - 1) in
    let empty : length steps ≡ 0 = ap (λ (xs : List BackStep). length xs) nothing in
    record {
      many = length-set items (root - 1) true ∙ size;
      are = record {
        each = λ is_net k s less. absurd (omega arith);
        from = λ k s less. absurd (omega arith);
        few = omega arith;
      };
      own = get_or-set_same items (root - 1) true false inside;
      told = λ v hv yes_. ⊎_elim
          (λ same. inl same)
          (λ off. absurd (not_both (flag items v) (sym (get_or-set_other items (root - 1) (v - 1) true false (λ e. let a = hv.0 in off (omega arith))) ∙ yes_) (flag_none v)))
          (cases_eq v root);
      count = let sums = count_set is_set items (root - 1) inside (flag_none root) refl in let none = ap (count_by is_set) is ∙ none_counted net.vertices in omega arith;
    }
  where
    not_both : (b : Bool) → b ≡ true → b ≡ false → ⊥
    not_both true yes_ no_ = cc
    not_both false yes_ no_ = cc

-- nothing is left to be met
pub spread_whole : (t : Symbol) → IsTorus t → (net : Net) → IsNet t net → (root : ℕ) (met : List Bool) (steps : List BackStep) → IsNetVertex net root → IsSpread t net root met steps → AreLevel net met → AreWholeSteps t net root steps
spread_whole t torus net is root met steps hr spread level = record {
  are = spread.are;
  all = λ v hv.
      let same = one_value t torus net is (λ w. cond (flag met w) 1 0) (λ k e low still. ap (λ b. cond b 1 0) (level k e low still)) v root hv hr in
      spread.told v hv (yes_from (flag met v) (same ∙ ap (λ b. cond b 1 0) spread.own));
}
  where
    yes_from : (b : Bool) → cond b (suc zero) zero ≡ suc zero → b ≡ true
    yes_from true e = refl
    yes_from false e = cc

-- ## The way back

-- by the last of some steps, or by those before
last_or_before : (root : ℕ) (steps : List BackStep) (m v : ℕ) (x : BackStep) → get_or steps m x ≡ x → IsReached root steps (m + 1) v → (x.to ≡ v → ⊥) → IsReached root steps m v
last_or_before root steps m v x at reached off =
    ⊎_elim
    (λ own. inl own)
    (λ led.
    let low = led.early in
    ⊎_elim
    (λ less. inr (record { place = led.place; early = less; inside = led.inside; leads = led.leads }))
    (λ rest. let e : led.place ≡ m = omega arith in absurd (off (ap (λ (y : BackStep). y.to) (sym at) ∙ ap (λ k. (get_or steps k x).to) (sym e) ∙ led.leads x)))
    (cases_lt led.place m))
    reached

in_one_vertex : (t : Symbol) → AreInvolutions t → (vertices : List ℕ) (a b v : ℕ) → IsChamber t b → IsVertexNumber t vertices a v → IsVertexNumber t vertices b v → InCell t Vertex a b
in_one_vertex t inv vertices a b v hb one two = in_cell-trans t Vertex a (item vertices v) b one.least.in_cell (in_cell-sym t inv Vertex b (item vertices v) hb two.least.in_cell)

-- The walk from the vertex of d has the total shift (u, v), and has come back by all steps but the first m of them.
pub record IsOnWay (t : Symbol) (net : Net) (is : IsNet t net) (root : ℕ) (steps : List BackStep) (d : ℕ) (u v : ℤ) (m : ℕ) (walk : List ℕ) (place : ℕ) : Type 0 where
  pub reached : IsReached root steps m place
  pub goes : IsWalkTo t net is d walk place
  pub along_x : sum_along is.first walk ≡ u
  pub along_y : sum_along is.second walk ≡ v

module _ (t : Symbol) (net : Net) (is : IsNet t net) (inv : AreInvolutions t) (root : ℕ) (steps : List BackStep) (are : AreSteps t net root steps) (d : ℕ) (u v : ℤ) (m : ℕ) (inside : m < length steps) (walk : List ℕ) (place : ℕ)
    (way : IsOnWay t net is root steps d u v (m + 1) walk place) (x : BackStep) (at : get_or steps m x ≡ x) where
  pub elsewhere : (x.to ≡ place → ⊥) → IsOnWay t net is root steps d u v m walk place
  elsewhere off = record {
    reached = last_or_before root steps m place x at way.reached off;
    goes = way.goes;
    along_x = way.along_x;
    along_y = way.along_y;
  }

  pub back : x.to ≡ place → IsOnWay t net is root steps d u v m (walk ++ x.back ∷ []) x.from
  back here =
      let step : IsStep t net is x = subst (IsStep t net is) at (are.each is m x inside) in
      let from : IsReached root steps m x.from = subst (λ (y : BackStep). IsReached root steps m y.from) at (are.from m x inside) in
      record {
        reached = from;
        goes = λ b hb number_b.
            let first = way.goes x.back step.chamber (subst (IsVertexNumber t is.vertices x.back) here step.to) in
            walk_on t d x.back b walk (x.back ∷ []) first (step.chamber, in_cell-refl t Vertex x.back, in_one_vertex t inv is.vertices (op t Zero x.back) b x.from hb step.from number_b);
        along_x = let e = sum_along-append is.first walk (x.back ∷ []) in let f = step.x in let g = way.along_x in omega (arith, ints);
        along_y = let e = sum_along-append is.second walk (x.back ∷ []) in let f = step.y in let g = way.along_y in omega (arith, ints);
      }

-- the edge alone
pub way_start : (t : Symbol) (net : Net) (is : IsNet t net) → AreInvolutions t → (edges : List ℕ) → AreCells t Edge edges → (root : ℕ) (steps : List BackStep) → AreWholeSteps t net root steps → (k : ℕ) (e : NetEdge) → k < length edges
    → IsNetVertex net (get_or net.edges.items k e).to
    → IsOnWay t net is root steps (get_or edges k 0) (get_or net.edges.items k e).x (get_or net.edges.items k e).y (length steps) (get_or edges k 0 ∷ []) (get_or net.edges.items k e).to
way_start t net is inv edges cells root steps whole k e inside hv =
    let same = cells_unique t Edge edges is.edges cells is.are_edges in
    let size = ap (λ (es : List ℕ). length es) same in
    let d = get_or edges k 0 in
    let h = (listed_edge t edges cells k inside).0 in
    let at : get_or is.edges k 0 ≡ d = ap (λ es. get_or es k 0) (sym same) in
    let edge = is.each k e (omega arith) in
    let to : IsVertexNumber t is.vertices (op t Zero d) (get_or net.edges.items k e).to = subst (λ c. IsVertexNumber t is.vertices (op t Zero c) (get_or net.edges.items k e).to) at edge.to in
    let x0 : (get_or net.edges.items k e).x ≡ is.first d = edge.x ∙ ap is.first at in
    let y0 : (get_or net.edges.items k e).y ≡ is.second d = edge.y ∙ ap is.second at in
    record {
      reached = whole.all (get_or net.edges.items k e).to hv;
      goes = λ b hb number_b. (h, in_cell-refl t Vertex d, in_one_vertex t inv is.vertices (op t Zero d) b (get_or net.edges.items k e).to hb to number_b);
      along_x = omega (arith, ints);
      along_y = omega (arith, ints);
    }

pub way_begun : (t : Symbol) (net : Net) (is : IsNet t net) → AreInvolutions t → (edges : List ℕ) → AreCells t Edge edges → (k : ℕ) (e x : NetEdge) → k < length edges → IsNetVertex net (get_or net.edges.items k e).to
    → get_or net.edges.items k e ≡ x → (steps : List BackStep) → AreWholeSteps t net x.from steps → (m : ℕ) → m ≡ length steps → (walk : List ℕ) → walk ≡ get_or edges k 0 ∷ []
    → IsOnWay t net is (get_or net.edges.items k e).from steps (get_or edges k 0) (get_or net.edges.items k e).x (get_or net.edges.items k e).y m walk x.to
way_begun t net is inv edges cells k e x inside hv same steps whole m many walk alone =
    let y = get_or net.edges.items k e in
    let d = get_or edges k 0 in
    let whole_y : AreWholeSteps t net y.from steps = subst (λ (z : NetEdge). AreWholeSteps t net z.from steps) (sym same) whole in
    let start = way_start t net is inv edges cells y.from steps whole_y k e inside hv in
    let at_m : IsOnWay t net is y.from steps d y.x y.y m (d ∷ []) y.to = subst (λ n. IsOnWay t net is y.from steps d y.x y.y n (d ∷ []) y.to) (sym many) start in
    subst (λ (z : NetEdge). IsOnWay t net is y.from steps d y.x y.y m walk z.to) same (subst (λ ws. IsOnWay t net is y.from steps d y.x y.y m ws y.to) (sym alone) at_m)

-- and the whole walk, which is closed
pub way_end : (t : Symbol) (net : Net) (is : IsNet t net) (edges : List ℕ) → AreCells t Edge edges → (steps : List BackStep) (k : ℕ) (e : NetEdge) (u v : ℤ) (walk : List ℕ) (place : ℕ) → k < length edges
    → IsOnWay t net is (get_or net.edges.items k e).from steps (get_or edges k 0) u v 0 walk place → IsLoop t net is walk u v
way_end t net is edges cells steps k e u v walk place inside way =
    let same = cells_unique t Edge edges is.edges cells is.are_edges in
    let size = ap (λ (es : List ℕ). length es) same in
    let d = get_or edges k 0 in
    let h = (listed_edge t edges cells k inside).0 in
    let at : get_or is.edges k 0 ≡ d = ap (λ es. get_or es k 0) (sym same) in
    let edge = is.each k e (omega arith) in
    let from : IsVertexNumber t is.vertices d (get_or net.edges.items k e).from = subst (λ c. IsVertexNumber t is.vertices c (get_or net.edges.items k e).from) at edge.from in
    let own : place ≡ (get_or net.edges.items k e).from = ⊎_elim (λ s. s) (λ led. let low = led.early in absurd (omega arith)) way.reached in
    record {
      closed = record { start = d; chamber = h; goes = way.goes d h (subst (IsVertexNumber t is.vertices d) (sym own) from) };
      along_x = way.along_x;
      along_y = way.along_y;
    }
