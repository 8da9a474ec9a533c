-- Tree edges join all vertices: there are values of vertices with given differences along tree edges, and short walks along them.
use Rattle.std.proofs.Common.{◌≡◌, ◌≢◌, ℕ, zero, suc, ◌+◌, ◌<◌, ◌≤◌, Bool, true, false, cond, eqb, List, [], ◌∷◌, ◌++◌, length, get_or, ℤ, pos, ◌+ℤ◌, ◌-ℤ◌, refl, sym, ap, ◌∙◌, subst, ⊎_elim, arith}
use Rattle.std.proofs.lemmas.Bool.{cases_eq, cases_Bool, eq-eqb, ne_eqb}
use Rattle.std.proofs.lemmas.Int.{ints}
use Rattle.std.proofs.lemmas.List.{length-append}
use Rattle.std.proofs.lemmas.List.Sums.{sum_by-cons}
use Rattle.std.specs.List.{sum_by}
use Rattle.dd_model.specs.declared.index.Index.{Index}
use Rattle.dd_model.specs.declared.index.Index.TheVariants.{Zero}
use Rattle.dd_model.specs.declared.pair.Pair.TheVariants.{Vertex, Edge}
use Rattle.dd_model.specs.Symbol.{Symbol, AreInvolutions, IsChamber, op}
use Rattle.dd_model.specs.Cell.{InCell, IsLeastOfCell, AreCells}
use Rattle.dd_model.specs.Code.{chambers}
use Rattle.dd_model.proofs.CellWalks.{in_cell-refl, in_cell-sym, in_cell-trans}
use Rattle.dd_model.proofs.CountFrom.{count_contains, length-count_from}
use Rattle.dd_cells.proofs.CellSums.{has_roots, sum_by_equal, sum_by_both, sum_by_same}
use Rattle.dd_covers.specs.Ends.{Holds}
use Rattle.dd_covers.specs.Torus.{IsTorus}
use Rattle.dd_covers.proofs.Labels.{labels, linked}
use Rattle.dd_covers.proofs.Nodes.{root_beside}
use Rattle.dd_lattice.specs.Edges.{IsOfCells, IsTreeEdge, AreKindsOf, is_tree}
use Rattle.dd_lattice.specs.declared.kinds.EdgeKind.{EdgeKind}
use Rattle.dd_lattice.specs.declared.kinds.EdgeKind.TheVariants.{Left}
use Rattle.dd_lattice.proofs.Around.{vertices_joined}
use Rattle.dd_lattice.proofs.KindCounts.{links, link_listed, fresh_at, level_by_chosen}
use Rattle.dd_lattice.proofs.KindLemmas.{listed_edge, same_default}
use Rattle.dd_lattice.proofs.TileSums.{one, one_at, one_off}
use Rattle.dd_lattice.proofs.TreeCounts.{tree_chosen, tree_not_chosen}
use Rattle.dd_lattice.proofs.FreshLinks.{at_least}
use Rattle.dd_gram.specs.Walks.{IsWalk, sum_along}
use Rattle.dd_gram.proofs.WalkLemmas.{walk_on, sum_along-append}

-- ## Sums

sums_below : (f g : ℕ → ℕ) (xs : List ℕ) → ((x : ℕ) → f x ≤ g x) → sum_by f xs ≤ sum_by g xs
sums_below f g [] below = omega arith
sums_below f g (x ∷ xs) below =
    let a = sum_by-cons f x xs in
    let b = sum_by-cons g x xs in
    let first = below x in
    let rest = sums_below f g xs below in
    omega arith

-- what is 0 at tree edges, and opposite the other way
pub record IsStill (t : Symbol) (x : ℕ → ℤ) : Type 0 where
  pub back : (d : ℕ) → IsChamber t d → x (op t Zero d) ≡ pos 0 -ℤ x d
  pub trees : (d : ℕ) → IsLeastOfCell t Edge d → IsTreeEdge t d → x d ≡ pos 0

-- a walk along tree edges
pub record IsTreeWalk (t : Symbol) (a : ℕ) (ds : List ℕ) (b : ℕ) : Type 0 where
  pub walk : IsWalk t a ds b
  pub still : (x : ℕ → ℤ) → IsStill t x → sum_along x ds ≡ pos 0

-- one of at most n chambers
pub record HasTreeWalk (t : Symbol) (a b n : ℕ) : Type 0 where
  pub chambers : List ℕ
  pub is : IsTreeWalk t a chambers b
  pub few : length chambers + 1 ≤ n

-- two with an edge between them
joined_walks : (t : Symbol) (inv : AreInvolutions t) (a d b m n : ℕ) → IsChamber t d → ((x : ℕ → ℤ) → IsStill t x → x d ≡ pos 0) → HasTreeWalk t a d m → HasTreeWalk t (op t Zero d) b n → HasTreeWalk t a b (m + n)
joined_walks t inv a d b m n h still one two =
    let ds = one.chambers in
    let es = two.chambers in
    record {
      chambers = ds ++ d ∷ es;
      is = record {
        walk = walk_on t a d b ds (d ∷ es) one.is.walk (h, in_cell-refl t Vertex d, two.is.walk);
        still = λ x is.
            let e = sum_along-append x ds (d ∷ es) in
            let p = one.is.still x is in
            let q = two.is.still x is in
            let r = still x is in
            omega (arith, ints);
      };
      few =
          let e = length-append ds (d ∷ es) in
          let p = one.few in
          let q = two.few in
          omega arith;
    }

more_room : (t : Symbol) (a b m n : ℕ) → m ≤ n → HasTreeWalk t a b m → HasTreeWalk t a b n
more_room t a b m n less walk = record { chambers = walk.chambers; is = walk.is; few = let f = walk.few in omega arith }

module _ (t : Symbol) (torus : IsTorus t) (edges : List ℕ) (cells : AreCells t Edge edges) (kinds : List EdgeKind) (are : AreKindsOf t edges kinds) where
  abbrev inv : AreInvolutions t
  inv = torus.symbol.table.involutions

  abbrev All : ℕ → Type 0
  All e = Unit {0}

  abbrev edge : ℕ → ℕ
  edge k = get_or edges k 0

  abbrev tree_at : ℕ → Bool
  tree_at k = is_tree (get_or kinds k Left)

  abbrev root : ℕ → ℕ
  root = (has_roots t inv Vertex).root

  abbrev L : ℕ → ℕ → ℕ
  L k v = labels (links t inv Vertex Zero All edges cells tree_at k) v

  abbrev from : ℕ → ℕ
  from k = L k (root (edge k))

  abbrev to : ℕ → ℕ
  to k = L k (root (op t Zero (edge k)))

  -- the label of what a tree edge joins becomes that of its other end
  abbrev relabeled : ℕ → ℕ → ℕ
  relabeled k v = cond (eqb (L k v) (from k)) (to k) (L k v)

  label_tree : (k v : ℕ) → tree_at k ≡ true → L (suc k) v ≡ relabeled k v
  label_tree k v yes_ = ap (λ b. labels (cond b (record { from = root (edge k); to = root (op t Zero (edge k)) } ∷ links t inv Vertex Zero All edges cells tree_at k) (links t inv Vertex Zero All edges cells tree_at k)) v) yes_

  label_same : (k v : ℕ) → tree_at k ≡ false → L (suc k) v ≡ L k v
  label_same k v no_ = ap (λ b. labels (cond b (record { from = root (edge k); to = root (op t Zero (edge k)) } ∷ links t inv Vertex Zero All edges cells tree_at k) (links t inv Vertex Zero All edges cells tree_at k)) v) no_

  label_at : (k v : ℕ) → L k v ≡ from k → relabeled k v ≡ to k
  label_at k v e = ap (λ b. cond b (to k) (L k v)) (eq-eqb (L k v) (from k) e)

  label_off : (k v : ℕ) → L k v ≢ from k → relabeled k v ≡ L k v
  label_off k v e = ap (λ b. cond b (to k) (L k v)) (ne_eqb (L k v) (from k) e)

  apart : (k : ℕ) → k < length edges → tree_at k ≡ true → from k ≢ to k
  apart k inside yes_ = fresh_at t inv Vertex Zero All edges cells tree_at (tree_chosen t inv edges cells kinds are) (tree_not_chosen t inv edges cells kinds are) k inside yes_

  joined : (k q : ℕ) → q < k → tree_at q ≡ true → L k (root (edge q)) ≡ L k (root (op t Zero (edge q)))
  joined k q low yes_ =
      linked (links t inv Vertex Zero All edges cells tree_at k) (record { from = root (edge q); to = root (op t Zero (edge q)) }) (link_listed t inv Vertex Zero All edges cells tree_at k q low yes_)

  -- all vertices have one label in the end
  all_one : (d : ℕ) → IsChamber t d → L (length edges) (root d) ≡ L (length edges) (root 1)
  all_one =
      let value : ℕ → ℕ = λ d. L (length edges) (root d) in
      let of_cells : IsOfCells t Vertex value = λ j d h holds. ap (L (length edges)) (root_beside t inv Vertex root (has_roots t inv Vertex).are j d h holds) in
      let level = level_by_chosen t inv Vertex Zero All edges cells tree_at (tree_chosen t inv edges cells kinds are) (tree_not_chosen t inv edges cells kinds are) value of_cells
      (λ q inside yes_. sym (joined (length edges) q inside yes_)) in
      vertices_joined t torus.symbol torus.connected (omega arith, torus.symbol.table.chambers) value of_cells (λ e is. level e is tt)

  -- ## Values with given differences along tree edges

  module _ (z : ℕ → ℤ) where
    abbrev rise : (ℕ → ℤ) → ℕ → ℤ
    rise h k = (h (root (op t Zero (edge k))) -ℤ z (edge k)) -ℤ h (root (edge k))

    abbrev raised : (ℕ → ℤ) → ℕ → ℕ → ℤ
    raised h k v = cond (eqb (L k v) (from k)) (h v +ℤ rise h k) (h v)

    abbrev height : ℕ → ℕ → ℤ
    height zero v = pos 0
    height (suc k) v = cond (tree_at k) (raised (height k) k v) (height k v)

    raised_at : (h : ℕ → ℤ) (k v : ℕ) → L k v ≡ from k → raised h k v ≡ h v +ℤ rise h k
    raised_at h k v e = ap (λ b. cond b (h v +ℤ rise h k) (h v)) (eq-eqb (L k v) (from k) e)

    raised_off : (h : ℕ → ℤ) (k v : ℕ) → L k v ≢ from k → raised h k v ≡ h v
    raised_off h k v e = ap (λ b. cond b (h v +ℤ rise h k) (h v)) (ne_eqb (L k v) (from k) e)

    height_tree : (k v : ℕ) → tree_at k ≡ true → height (suc k) v ≡ raised (height k) k v
    height_tree k v yes_ = ap (λ b. cond b (raised (height k) k v) (height k v)) yes_

    height_same : (k v : ℕ) → tree_at k ≡ false → height (suc k) v ≡ height k v
    height_same k v no_ = ap (λ b. cond b (raised (height k) k v) (height k v)) no_

    abbrev Rises : (ℕ → ℤ) → ℕ → Type 0
    Rises h q = h (root (op t Zero (edge q))) ≡ h (root (edge q)) +ℤ z (edge q)

    rises : (k : ℕ) → k ≤ length edges → (q : ℕ) → q < k → tree_at q ≡ true → Rises (height k) q
    rises zero high q low yes_ = absurd (omega arith)
    rises (suc k) high q low yes_ =
        let h = height k in
        let a = root (edge q) in
        let b = root (op t Zero (edge q)) in
        ⊎_elim
        (λ tree. ⊎_elim
        (λ at.
        let there = root (op t Zero (edge k)) in
        let here = root (edge k) in
        let up = height_tree k here tree ∙ raised_at h k here refl in
        let stays = height_tree k there tree ∙ raised_off h k there (λ e. apart k (omega arith) tree (sym e)) in
        subst (Rises (height (suc k))) (sym at) (omega (arith, ints)))
        (λ other.
        let before = rises k (omega arith) q (omega arith) yes_ in
        let same = joined k q (omega arith) yes_ in
        let ta = height_tree k a tree in
        let tb = height_tree k b tree in
        ⊎_elim
        (λ moved. let ra = raised_at h k a moved in let rb = raised_at h k b (sym same ∙ moved) in omega (arith, ints))
        (λ kept. let ra = raised_off h k a kept in let rb = raised_off h k b (λ e. kept (same ∙ e)) in omega (arith, ints))
        (cases_eq (L k a) (from k)))
        (cases_eq q k))
        (λ no_.
        let before = rises k (omega arith) q (⊎_elim (λ at. absurd (let y = subst (λ j. tree_at j ≡ true) at yes_ in cc)) (λ other. omega arith) (cases_eq q k)) yes_ in
        let ta = height_same k a no_ in
        let tb = height_same k b no_ in
        omega (arith, ints))
        (cases_Bool (tree_at k))

    -- a value for each chamber
    abbrev pub level : ℕ → ℤ
    level d = height (length edges) (root d)

    pub level_of_vertices : (i : Index) (d : ℕ) → IsChamber t d → Holds Vertex i → level (op t i d) ≡ level d
    level_of_vertices i d h holds = ap (height (length edges)) (root_beside t inv Vertex root (has_roots t inv Vertex).are i d h holds)

    pub level_rises : (d : ℕ) → IsLeastOfCell t Edge d → IsTreeEdge t d → level (op t Zero d) ≡ level d +ℤ z d
    level_rises d least tree =
        let listed = (cells.members d).1 least in
        let q = listed.0 in
        let own = same_default edges q d listed.1 listed.2 in
        subst (λ e. level (op t Zero e) ≡ level e +ℤ z e) own
        (⊎_elim
        (λ yes_. rises (length edges) (omega arith) q listed.1 yes_)
        (λ no_. absurd (subst (IsTreeEdge t) (sym own) tree (tree_not_chosen t inv edges cells kinds are q listed.1 no_ tt)))
        (cases_Bool (tree_at q)))

  -- ## Walks along tree edges

  abbrev weight : ℕ → ℕ → ℕ
  weight k l = sum_by (λ c. one (L k (root c)) l) (chambers t)

  weight_some : (k a : ℕ) → IsChamber t a → 1 ≤ weight k (L k (root a))
  weight_some k a h =
      let here = at_least (λ c. one (L k (root c)) (L k (root a))) (chambers t) a (count_contains 1 t.size a h.0 (let g = h.1 in omega arith)) in
      let own = one_at (L k (root a)) (L k (root a)) refl in
      omega arith

  weight_both : (k : ℕ) → k < length edges → tree_at k ≡ true → weight (suc k) (to k) ≡ weight k (from k) + weight k (to k)
  weight_both k inside yes_ =
      sum_by_equal (λ c. one (L (suc k) (root c)) (to k)) (λ c. one (L k (root c)) (from k) + one (L k (root c)) (to k)) (λ c. each (root c)) (chambers t)
      ∙ sum_by_both (λ c. one (L k (root c)) (from k)) (λ c. one (L k (root c)) (to k)) (chambers t)
    where
      each : (v : ℕ) → one (L (suc k) v) (to k) ≡ one (L k v) (from k) + one (L k v) (to k)
      each v =
          ⊎_elim
          (λ moved.
          let a = one_at (L (suc k) v) (to k) (label_tree k v yes_ ∙ label_at k v moved) in
          let b = one_at (L k v) (from k) moved in
          let c = one_off (L k v) (to k) (λ e. apart k inside yes_ (sym moved ∙ e)) in
          omega arith)
          (λ kept.
          let a = ap (λ l. one l (to k)) (label_tree k v yes_ ∙ label_off k v kept) in
          let b = one_off (L k v) (from k) kept in
          omega arith)
          (cases_eq (L k v) (from k))

  weight_more : (k l : ℕ) → tree_at k ≡ true → l ≢ from k → weight k l ≤ weight (suc k) l
  weight_more k l yes_ off = sums_below (λ c. one (L k (root c)) l) (λ c. one (L (suc k) (root c)) l) (chambers t) (λ c. each (root c))
    where
      each : (v : ℕ) → one (L k v) l ≤ one (L (suc k) v) l
      each v =
          ⊎_elim
          (λ same.
          let a = one_at (L k v) l same in
          let b = one_at (L (suc k) v) l (label_tree k v yes_ ∙ label_off k v (λ e. off (sym same ∙ e)) ∙ same) in
          omega arith)
          (λ differ. let a = one_off (L k v) l differ in omega arith)
          (cases_eq (L k v) l)

  still_at : (k : ℕ) → k < length edges → tree_at k ≡ true → (x : ℕ → ℤ) → IsStill t x → x (edge k) ≡ pos 0
  still_at k inside yes_ x is = is.trees (edge k) (listed_edge t edges cells k inside) ((tree_chosen t inv edges cells kinds are k inside yes_).1)

  still_back : (k : ℕ) → k < length edges → tree_at k ≡ true → (x : ℕ → ℤ) → IsStill t x → x (op t Zero (edge k)) ≡ pos 0
  still_back k inside yes_ x is =
      let e = is.back (edge k) (listed_edge t edges cells k inside).0 in
      let f = still_at k inside yes_ x is in
      omega (arith, ints)

  abbrev Joins : ℕ → Type 0
  Joins k = (a b : ℕ) → IsChamber t a → IsChamber t b → L k (root a) ≡ L k (root b) → HasTreeWalk t a b (weight k (L k (root a)))

  -- the walks after a tree edge more
  joins_tree : (k : ℕ) → k < length edges → tree_at k ≡ true → Joins k → Joins (suc k)
  joins_tree k inside yes_ before a b ha hb same =
      let d = edge k in
      let hd = (listed_edge t edges cells k inside).0 in
      let e = op t Zero d in
      let he = (inv Zero).within d hd in
      let both = weight_both k inside yes_ in
      ⊎_elim
      (λ a_from.
      let label_a = label_tree k (root a) yes_ ∙ label_at k (root a) a_from in
      let room : weight (suc k) (L (suc k) (root a)) ≡ weight k (from k) + weight k (to k) = ap (weight (suc k)) label_a ∙ both in
      ⊎_elim
      (λ b_from.
      let w = before a b ha hb (a_from ∙ sym b_from) in
      let own = ap (weight k) a_from in
      more_room t a b (weight k (L k (root a))) (weight (suc k) (L (suc k) (root a))) (omega arith) w)
      (λ b_off.
      let b_to : L k (root b) ≡ to k = sym (label_tree k (root b) yes_ ∙ label_off k (root b) b_off) ∙ sym same ∙ label_a in
      let w = joined_walks t inv a d b (weight k (L k (root a))) (weight k (to k)) hd (still_at k inside yes_) (before a d ha hd a_from) (before e b he hb (sym b_to)) in
      let own = ap (weight k) a_from in
      more_room t a b (weight k (L k (root a)) + weight k (to k)) (weight (suc k) (L (suc k) (root a))) (omega arith) w)
      (cases_eq (L k (root b)) (from k)))
      (λ a_off.
      let label_a = label_tree k (root a) yes_ ∙ label_off k (root a) a_off in
      ⊎_elim
      (λ b_from.
      let label_b = label_tree k (root b) yes_ ∙ label_at k (root b) b_from in
      let a_to : L k (root a) ≡ to k = sym label_a ∙ same ∙ label_b in
      let room : weight (suc k) (L (suc k) (root a)) ≡ weight k (from k) + weight k (to k) = ap (weight (suc k)) (same ∙ label_b) ∙ both in
      let again : op t Zero e ≡ d = (inv Zero).involutive d hd in
      let last : HasTreeWalk t (op t Zero e) b (weight k (from k)) = subst (λ z. HasTreeWalk t z b (weight k (from k))) (sym again) (before d b hd hb (sym b_from)) in
      let w = joined_walks t inv a e b (weight k (L k (root a))) (weight k (from k)) he (still_back k inside yes_) (before a e ha he a_to) last in
      let own = ap (weight k) a_to in
      more_room t a b (weight k (L k (root a)) + weight k (from k)) (weight (suc k) (L (suc k) (root a))) (omega arith) w)
      (λ b_off.
      let alike : L k (root a) ≡ L k (root b) = sym label_a ∙ same ∙ label_tree k (root b) yes_ ∙ label_off k (root b) b_off in
      let more = weight_more k (L k (root a)) yes_ a_off in
      let own = ap (weight (suc k)) label_a in
      more_room t a b (weight k (L k (root a))) (weight (suc k) (L (suc k) (root a))) (omega arith) (before a b ha hb alike))
      (cases_eq (L k (root b)) (from k)))
      (cases_eq (L k (root a)) (from k))

  joins : (k : ℕ) → k ≤ length edges → Joins k
  joins zero high a b ha hb same =
      let roots = (has_roots t inv Vertex).are in
      let some = weight_some zero a ha in
      record {
        chambers = [];
        is = record {
          walk = in_cell-trans t Vertex a (root a) b (roots.in_cell a ha) (subst (λ r. InCell t Vertex r b) (sym same) (in_cell-sym t inv Vertex b (root b) hb (roots.in_cell b hb)));
          still = λ x is. refl;
        };
        few = omega arith;
      }
  joins (suc k) high a b ha hb same =
      ⊎_elim
      (λ yes_. joins_tree k (omega arith) yes_ (joins k (omega arith)) a b ha hb same)
      (λ no_.
      let alike : L k (root a) ≡ L k (root b) = sym (label_same k (root a) no_) ∙ same ∙ label_same k (root b) no_ in
      let w = joins k (omega arith) a b ha hb alike in
      let other = sum_by_equal (λ c. one (L k (root c)) (L k (root a))) (λ c. one (L (suc k) (root c)) (L (suc k) (root a)))
      (λ c. ap (λ l. one l (L k (root a))) (sym (label_same k (root c) no_)) ∙ ap (one (L (suc k) (root c))) (sym (label_same k (root a) no_))) (chambers t) in
      more_room t a b (weight k (L k (root a))) (weight (suc k) (L (suc k) (root a))) (omega arith) w)
      (cases_Bool (tree_at k))

  few_chambers : (k l : ℕ) → weight k l ≤ t.size
  few_chambers k l =
      let below = sums_below (λ c. one (L k (root c)) l) (λ c. 1) (chambers t) (λ c. at_most (L k (root c))) in
      let ones = sum_by_same (λ c. 1) 1 (chambers t) (λ c here. refl) in
      let many = length-count_from 1 t.size in
      omega arith
    where
      at_most : (v : ℕ) → one v l ≤ 1
      at_most v = ⊎_elim (λ e. let a = one_at v l e in omega arith) (λ e. let a = one_off v l e in omega arith) (cases_eq v l)

  -- any two vertices are joined by fewer edges than there are chambers
  pub tree_walks : (a b : ℕ) → IsChamber t a → IsChamber t b → HasTreeWalk t a b t.size
  tree_walks a b ha hb =
      more_room t a b (weight (length edges) (L (length edges) (root a))) t.size (few_chambers (length edges) (L (length edges) (root a)))
      (joins (length edges) (omega arith) a b ha hb (all_one a ha ∙ sym (all_one b hb)))
