-- Lists on the way to a net.
use Rattle.std.proofs.Common.{◌≡◌, ℕ, zero, suc, ◌+◌, ◌-◌, ◌<◌, ◌≤◌, Bool, true, false, List, [], ◌∷◌, ◌++◌, length, map, set, get_or, refl, sym, ap, ◌∙◌, subst, ⊎_elim, arith}
use Rattle.std.proofs.lemmas.Bool.{cases_lt, cases_eq}
use Rattle.std.proofs.lemmas.List.{get_or_append_left, get_or_push, length_push, get_or-set_same, get_or-set_other, get_or_default, length-set}
use Rattle.std.proofs.lemmas.List.Elements.{Contains-append_left, Contains-push}
use Rattle.std.proofs.lemmas.List.Kept.{AllPairs-from_increasing}
use Rattle.std.proofs.lemmas.List.Sums.{count_by_more_yes, count_by_more_no}
use Rattle.std.specs.List.{AllByRecursion, Contains}
use Rattle.dd_model.specs.Symbol.{Symbol, AreInvolutions, IsChamber, item}
use Rattle.dd_model.specs.Cell.{InCell, IsLeastOfCell, AreCells}
use Rattle.dd_model.specs.Code.{chambers}
use Rattle.dd_model.specs.Small.{IsSmallSymbol}
use Rattle.dd_model.specs.declared.pair.Pair.{Pair}
use Rattle.dd_model.specs.declared.pair.Pair.TheVariants.{Vertex, Edge}
use Rattle.dd_model.proofs.CellSearch.{least_of_cell_unique}
use Rattle.dd_model.proofs.CellWalks.{in_cell-sym, in_cell-trans}
use Rattle.dd_model.proofs.CountFrom.{length-count_from}
use Rattle.dd_model.proofs.Counts.{length-le_from_partners}
use Rattle.dd_model.proofs.Transport.{in_cell_within}
use Rattle.dd_symbol.specs.Cells.{IsLeastFor}
use Rattle.dd_symbol.specs.declared.kind.Kind.TheVariants.{Cycle}
use Rattle.dd_cells.specs.Cells.{IsCellOf, AreCellsOf}
use Rattle.dd_cells.specs.declared.cell.Cell.{Cell}
use Rattle.dd_cells.proofs.CellSums.{chamber_listed, has_roots}
use Rattle.dd_lattice.specs.Edges.{IsKindOf, AreKindsOf, is_crossing, is_left}
use Rattle.dd_lattice.specs.Lists.{IsLeftAt, AreLeftOf, AreVertexNumbers}
use Rattle.dd_lattice.specs.Steps.{flag, AreCrossing}
use Rattle.dd_lattice.specs.declared.kinds.EdgeKind.{EdgeKind}
use Rattle.dd_lattice.specs.declared.kinds.EdgeKind.TheVariants.{Tree, Crossing, Left}
use Rattle.dd_lattice.proofs.KindLemmas.{ascending, listed_edge, same_default}

-- no more cells than chambers
pub few_cells : (t : Symbol) (p : Pair) (ds : List ℕ) → AreCells t p ds → length ds ≤ t.size
few_cells t p ds are =
    let few : length ds ≤ length (chambers t) = length-le_from_partners (λ a b. a ≡ b) ds (chambers t) are.ascending
    (λ a here. (a, chamber_listed t a ((are.members a).0 here).0, refl))
    (λ a b w ha hb ea eb. ea ∙ sym eb) in
    let size : length (chambers t) ≡ t.size = length-count_from 1 t.size in
    omega arith

-- ## Crossing edges

-- The flags of the first n edges are set.
pub record AreSetTo (t : Symbol) (edges : List ℕ) (kinds : List EdgeKind) (n : ℕ) (flags : List Bool) : Type 0 where
  pub whole : length flags ≡ t.size
  pub each : (q : ℕ) (e : EdgeKind) → q < n → q < length edges → flag flags (get_or edges q 0) ≡ is_crossing (get_or kinds q e)

module _ (t : Symbol) (edges : List ℕ) (cells : AreCells t Edge edges) (kinds : List EdgeKind) (are : AreKindsOf t edges kinds) where
  abbrev edge : ℕ → ℕ
  edge k = get_or edges k 0

  pub set_more : (n : ℕ) (flags : List Bool) (b : Bool) → n < length edges → ((e : EdgeKind) → b ≡ is_crossing (get_or kinds n e)) → AreSetTo t edges kinds n flags → AreSetTo t edges kinds (n + 1) (set flags (edge n - 1) b)
  set_more n flags b inside is before =
      let hn = (listed_edge t edges cells n inside).0 in
      let low = hn.0 in
      let high = hn.1 in
      let whole = before.whole in
      record {
        whole = length-set flags (edge n - 1) b ∙ whole;
        each = λ q e early listed. ⊎_elim
            (λ less.
            let hq = (listed_edge t edges cells q listed).0 in
            let some = hq.0 in
            let far = ascending edges t cells q n less inside in
            get_or-set_other flags (edge n - 1) (edge q - 1) b false (λ same. absurd (omega arith)) ∙ before.each q e less listed)
            (λ rest.
            let at : q ≡ n = omega arith in
            subst (λ z. flag (set flags (edge n - 1) b) (edge z) ≡ is_crossing (get_or kinds z e)) (sym at) (get_or-set_same flags (edge n - 1) b false (omega arith) ∙ is e))
            (cases_lt q n);
      }

  yes_of : (k : EdgeKind) (d : ℕ) → IsKindOf t d k → is_crossing k ≡ true → IsKindOf t d Crossing
  yes_of Tree d is yes_ = cc
  yes_of Crossing d is yes_ = is
  yes_of Left d is yes_ = cc

  no_of : (k : EdgeKind) (d : ℕ) → IsKindOf t d k → is_crossing k ≡ false → IsKindOf t d Crossing → ⊥
  no_of Tree d is no_ crossing = crossing.0 is
  no_of Crossing d is no_ crossing = cc
  no_of Left d is no_ crossing = crossing.1 is.1

  pub all_set : (n : ℕ) (flags : List Bool) → length edges ≤ n → AreSetTo t edges kinds n flags → AreCrossing t flags
  all_set n flags past all = record {
    whole = all.whole;
    yes = λ e least up. let at = place e least in subst (λ z. IsKindOf t z Crossing) at.2 (yes_of (get_or kinds at.0 Left) (edge at.0) (are.each at.0 Left at.1) (sym (at_flag e least) ∙ up));
    no = λ e least down crossing. let at = place e least in no_of (get_or kinds at.0 Left) (edge at.0) (are.each at.0 Left at.1) (sym (at_flag e least) ∙ down) (subst (λ z. IsKindOf t z Crossing) (sym at.2) crossing);
  } where
    place : (e : ℕ) → IsLeastOfCell t Edge e → (q : ℕ) × (q < length edges) × (edge q ≡ e)
    place e least = let listed = (cells.members e).1 least in (listed.0, listed.1, same_default edges listed.0 e listed.1 listed.2)

    at_flag : (e : ℕ) (least : IsLeastOfCell t Edge e) → flag flags e ≡ is_crossing (get_or kinds (place e least).0 Left)
    at_flag e least = let at = place e least in ap (flag flags) (sym at.2) ∙ all.each at.0 Left (let low = at.1 in omega arith) at.1

-- ## Edges that are left

left_later : (edges : List ℕ) (kinds : List EdgeKind) (n d : ℕ) → IsLeftAt edges kinds n d → IsLeftAt edges kinds (n + 1) d
left_later edges kinds n d at = let low = at.early in record { place = at.place; early = omega arith; is = at.is; left = at.left }

module _ (edges : List ℕ) (rising : (q r : ℕ) → q < r → r < length edges → get_or edges q 0 < get_or edges r 0) (kinds : List EdgeKind) (same : length kinds ≡ length edges) where
  pub left_yes : (n : ℕ) (left : List ℕ) → n < length edges → ((e : EdgeKind) → is_left (get_or kinds n e) ≡ true) → AreLeftOf edges kinds n left → AreLeftOf edges kinds (n + 1) (left ++ get_or edges n 0 ∷ [])
  left_yes n left inside is before =
      let own = get_or edges n 0 in
      let new = left ++ own ∷ [] in
      let size : length new ≡ length left + 1 = length_push left own in
      let at_end : (r : ℕ) → r ≡ length left → get_or new r 0 ≡ own = λ r e. get_or_push left own 0 r (sym e) in
      let earlier : (q : ℕ) → q < length left → get_or new q 0 ≡ get_or left q 0 = λ q low. get_or_append_left left (own ∷ []) 0 q low in
      record {
        many = size ∙ ap (λ k. k + 1) before.many ∙ sym (count_by_more_yes is_left kinds n Left (omega arith) (is Left));
        ascending = λ q r less far. ⊎_elim
            (λ low. let a = earlier q (omega arith) in let b = earlier r low in let c = before.ascending q r less low in omega arith)
            (λ rest.
            let b = at_end r (omega arith) in
            let low : q < length left = omega arith in
            let a = earlier q low in
            let from = before.each q low in
            let e = from.is in
            let c = rising from.place n from.early inside in
            omega arith)
            (cases_lt r (length left));
        each = λ q far. ⊎_elim
            (λ low. subst (IsLeftAt edges kinds (n + 1)) (sym (earlier q low)) (left_later edges kinds n (get_or left q 0) (before.each q low)))
            (λ rest. record { place = n; early = omega arith; is = sym (at_end q (omega arith)); left = is })
            (cases_lt q (length left));
        all = λ d at. let early = at.early in ⊎_elim
            (λ low. Contains-append_left left (own ∷ []) d (before.all d (record { place = at.place; early = low; is = at.is; left = at.left })))
            (λ rest. let e : n ≡ at.place = omega arith in subst (Contains new) (ap (λ k. get_or edges k 0) e ∙ at.is) (Contains-push left own))
            (cases_lt at.place n);
      }

  pub left_no : (n : ℕ) (left : List ℕ) → n < length edges → ((e : EdgeKind) → is_left (get_or kinds n e) ≡ false) → AreLeftOf edges kinds n left → AreLeftOf edges kinds (n + 1) left
  left_no n left inside not_ before = record {
    many = before.many ∙ sym (count_by_more_no is_left kinds n Left (omega arith) (not_ Left));
    ascending = before.ascending;
    each = λ q far. left_later edges kinds n (get_or left q 0) (before.each q far);
    all = λ d at. let early = at.early in ⊎_elim
        (λ low. before.all d (record { place = at.place; early = low; is = at.is; left = at.left }))
        (λ rest. let e : at.place ≡ n = omega arith in let up = at.left Left in let down = not_ Left in let here = ap (λ k. is_left (get_or kinds k Left)) e in cc)
        (cases_lt at.place n);
  }

-- ## Numbers of vertices

all_at : {X : Type 0} (P : X → Type 0) (xs : List X) → AllByRecursion P xs → (k : ℕ) (d : X) → k < length xs → P (get_or xs k d)
all_at P [] all k d low = absurd (omega arith)
all_at P (x ∷ xs) all zero d low = all.0
all_at P (x ∷ xs) all (suc k) d low = all_at P xs all.1 k d (omega arith)

map_at : {X : Type 0} (f : X → ℕ) (xs : List X) (k e : ℕ) (d : X) → k < length xs → get_or (map f xs) k e ≡ f (get_or xs k d)
map_at f [] k e d low = absurd (omega arith)
map_at f (x ∷ xs) zero e d low = refl
map_at f (x ∷ xs) (suc k) e d low = map_at f xs k e d (omega arith)

pub length_map : {X : Type 0} (f : X → ℕ) (xs : List X) → length (map f xs) ≡ length xs
length_map f [] = refl
length_map f (x ∷ xs) = ap suc (length_map f xs)

pub few_vertices : (t : Symbol) → IsSmallSymbol t → (vertices : List Cell) → AreCellsOf t Vertex vertices → length vertices ≤ 16384
few_vertices t small vertices are =
    let few = few_cells t Vertex (map (λ (c : Cell). c.least) vertices) are.least_chambers in
    let size = length_map (λ (c : Cell). c.least) vertices in
    let most = small.size in
    omega arith

pub inside_vertex : (t : Symbol) → AreInvolutions t → (vertices : List Cell) → AreCellsOf t Vertex vertices → (k : ℕ) (c : Cell) → k < length vertices → (d : ℕ) → Contains (get_or vertices k c).members d → IsChamber t d
inside_vertex t inv vertices are k c low d here =
    let is = all_at (IsCellOf t Vertex) vertices are.each k c low in
    in_cell_within t inv Vertex (get_or vertices k c).least d is.least.0 ((is.members.each d).0 here)

-- The chambers of the first n vertices have their numbers.
pub record AreNumberedTo (t : Symbol) (vertices : List Cell) (n : ℕ) (numbers : List ℕ) : Type 0 where
  pub whole : length numbers ≡ t.size
  pub each : (j : ℕ) (c : Cell) (d : ℕ) → j < n → j < length vertices → InCell t Vertex (get_or vertices j c).least d → item numbers d ≡ j + 1

module _ (t : Symbol) (inv : AreInvolutions t) (vertices : List Cell) (are : AreCellsOf t Vertex vertices) where
  abbrev least : List ℕ
  least = map (λ (c : Cell). c.least) vertices

  cell : (k : ℕ) (c : Cell) → k < length vertices → IsCellOf t Vertex (get_or vertices k c)
  cell = all_at (IsCellOf t Vertex) vertices are.each

  least_at : (k : ℕ) (c : Cell) → k < length vertices → get_or least k 0 ≡ (get_or vertices k c).least
  least_at k c low = map_at (λ (x : Cell). x.least) vertices k 0 c low

  -- two vertices have no chamber in common
  one_place : (j k : ℕ) (c : Cell) (d : ℕ) → j < length vertices → k < length vertices → InCell t Vertex (get_or vertices j c).least d → InCell t Vertex (get_or vertices k c).least d → j ≡ k
  one_place j k c d lj lk nj nk =
      let a = (cell j c lj).least in
      let b = (cell k c lk).least in
      let same = least_of_cell_unique t inv Vertex (get_or vertices j c).least (get_or vertices k c).least a b
      (in_cell-trans t Vertex (get_or vertices j c).least d (get_or vertices k c).least nj (in_cell-sym t inv Vertex (get_or vertices k c).least d b.0 nk)) in
      let equal = least_at j c lj ∙ same ∙ sym (least_at k c lk) in
      let size = length_map (λ (x : Cell). x.least) vertices in
      ⊎_elim
      (λ e. e)
      (λ off. ⊎_elim
      (λ less. let far = AllPairs-from_increasing least are.least_chambers.ascending j k 0 less (omega arith) in absurd (omega arith))
      (λ rest. let far = AllPairs-from_increasing least are.least_chambers.ascending k j 0 (omega arith) (omega arith) in absurd (omega arith))
      (cases_lt j k))
      (cases_eq j k)

  pub numbered_more : (n : ℕ) (c : Cell) (old new : List ℕ) → n < length vertices → AreNumberedTo t vertices n old → length new ≡ length old
      → ((d : ℕ) → Contains (get_or vertices n c).members d → item new d ≡ n + 1) → ((d : ℕ) → 1 ≤ d → (Contains (get_or vertices n c).members d → ⊥) → item new d ≡ item old d) → AreNumberedTo t vertices (n + 1) new
  numbered_more n c old new inside before same own others = record {
    whole = same ∙ before.whole;
    each = λ j e d early listed near0.
        let members = (cell n c inside).members in
        let near : InCell t Vertex (get_or vertices j c).least d = subst (λ (x : Cell). InCell t Vertex x.least d) (get_or_default vertices j e c listed) near0 in
        let h = in_cell_within t inv Vertex (get_or vertices j c).least d (cell j c listed).least.0 near in
        ⊎_elim
        (λ less. others d h.0 (λ here. let e = one_place j n c d listed inside near ((members.each d).0 here) in absurd (omega arith)) ∙ before.each j c d less listed near)
        (λ rest.
        let at : j ≡ n = omega arith in
        own d ((members.each d).1 (subst (λ z. InCell t Vertex (get_or vertices z c).least d) at near)) ∙ ap (λ z. z + 1) (sym at))
        (cases_lt j n);
  }

  pub all_numbered : (n : ℕ) (numbers : List ℕ) → length vertices ≤ n → AreNumberedTo t vertices n numbers → AreVertexNumbers t least numbers
  all_numbered n numbers past all = record {
    whole = all.whole;
    each = λ d h.
        let roots = (has_roots t inv Vertex).are in
        let v = (has_roots t inv Vertex).root d in
        let is = roots.least d h in
        let near = roots.in_cell d h in
        let listed = (are.least_chambers.members v).1 is in
        let size = length_map (λ (x : Cell). x.least) vertices in
        let j = listed.0 in
        let low = listed.1 in
        let inside : j < length vertices = omega arith in
        let none : Cell = record { least = 0; kind = Cycle; r = 0; v = 0; members = [] } in
        let at : get_or least j 0 ≡ v = get_or_default least j 0 v listed.1 ∙ listed.2 in
        let number = all.each j none d (omega arith) inside (subst (λ z. InCell t Vertex z d) (sym at ∙ least_at j none inside) (in_cell-sym t inv Vertex d v h near)) in
        let place : j + 1 - 1 ≡ j = omega arith in
        record {
          positive = omega arith;
          within = omega arith;
          least = subst (λ z. IsLeastFor t Vertex d z) (sym at ∙ ap (λ z. get_or least z 0) (sym place) ∙ ap (item least) (sym number)) (record { in_cell = near; is_least = is });
        };
  }
