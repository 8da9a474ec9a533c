-- What becomes of ends of paths in all tables that complete a partial one and pass a test.
use Rattle.std.proofs.Common.{◌≡◌, ◌≢◌, ℕ, ◌+◌, ◌*◌, ◌/◌, ◌%◌, ◌≤◌, ◌⊎◌, ◌↔◌, Bool, IsTrue, length, sym, ap, ◌∙◌, subst, inl, inr, ⊎_elim, arith}
use Rattle.dd_model.specs.declared.pair.Pair.{Pair}
use Rattle.dd_model.specs.declared.pair.Pair.TheVariants.{Tile, Vertex}
use Rattle.dd_model.specs.declared.requests.Request.{Request}
use Rattle.dd_model.specs.Code.{count_from}
use Rattle.dd_model.specs.Partial.{Completes}
use Rattle.dd_model.specs.Symbol.{Symbol, degree}
use Rattle.dd_model.specs.Wanted.{Wanted}
use Rattle.dd_model.proofs.CountFrom.{length-count_from}
use Rattle.dd_branch_bounds.specs.Shares.{IsTotal}
use Rattle.dd_branch_bounds.specs.Units.{share_unit}
use Rattle.dd_branch_bounds.proofs.Bounds.{wanted_allowed}
use Rattle.dd_branch_bounds.specs.Changes.{IsShareFrom, IsLink, HasTurns, AreJoined, IsFixedEnd, AreFixed, AreClosed, IsAlone}
use Rattle.dd_branch_bounds.specs.Classes.{IsClosedShare}
use Rattle.dd_branch_bounds.specs.Ends.{AreTables, ArePathEnds}
use Rattle.dd_branch_bounds.specs.Labels.{count_label}
use Rattle.dd_branch_bounds.specs.Passing.{Passes, AreEndsOf}
use Rattle.dd_branch_bounds.specs.PathEnd.{PathEnd, weight}
use Rattle.dd_branch_bounds.proofs.EndLemmas.{all_from, inside_whole, degree_from_one, ends_renewed}
use Rattle.dd_branch_bounds.proofs.ClosingLemmas.{DoMeet, closed_path_share}
use Rattle.dd_branch_bounds.proofs.EndTotals.{fewer_tables, total_of_ends, fixed_share, ends_alone}
use Rattle.dd_branch_bounds.proofs.JoinLemmas.{joined_share, closed_both_share, ends_joined}
use Rattle.dd_branch_bounds.proofs.LabelLemmas.{part_of_sum, parts_of_sum, sum_bound}

-- a share that is right for the chamber of a flag in all wanted tables that pass the test
abbrev pub AreRight : Request → Symbol → (Symbol → Bool) → Pair → ℕ → ℕ → Type 0
AreRight q P test p x v = (s : Symbol) → Wanted q s → Passes P test s → share_unit ≤ v * degree s p (x / 2)

pub passing_tables : (P : Symbol) (test : Symbol → Bool) → AreTables (Passes P test) P.size
passing_tables P test s is = (is.completes.table, is.completes.size)

-- ## Shares that are right after a change

module _ (q : Request) (P : Symbol) (test : Symbol → Bool) (p : Pair) (old : ℕ → PathEnd) (total : ℕ) (are : AreEndsOf q P test p old total) where
  -- for each degree that a joined path has room for
  pub linked_right : (x y k v : ℕ) → IsLink (Passes P test) p old x y → HasTurns P.size old x y k → IsShareFrom q p k v → AreRight q P test p x v
  linked_right x y k v link turns from s wanted is =
      joined_share q (Passes P test) P.size p (passing_tables P test) old old total x y are link.first_end link.second_end link.apart link.no_other link.side link.leads v k turns from.right s (wanted, is)

  -- for the cell of two paths of which the other ends are fixed
  pub linked_closed : (x y c v : ℕ) → (p ≡ Tile) ⊎ (p ≡ Vertex) → IsLink (Passes P test) p old x y → IsTrue (old x).is_capped → IsTrue (old y).is_capped → IsClosedShare q p c v
      → c % 64 ≡ (old x).chambers + (old y).chambers → c % 64 ≤ 36 → 64 ≤ c → AreRight q P test p x v
  linked_closed x y c v which link one other share count few high s wanted is =
      closed_both_share q (Passes P test) P.size p (passing_tables P test) old old total x y are link.first_end link.second_end link.apart link.no_other link.side link.leads c v which one other share
      count few high s (wanted, is)

  -- for each degree that a chain has room for
  pub fixed_right : (x k v : ℕ) → IsFixedEnd (Passes P test) p old x → k ≤ (old x).chambers → IsShareFrom q p k v → AreRight q P test p x v
  fixed_right x k v end few from s wanted is = fixed_share q (Passes P test) P.size p old total x k v (passing_tables P test) are end few from s (wanted, is)

  -- for the cell of a path of which the ends meet
  pub met_right : (x y c v : ℕ) → (p ≡ Tile) ⊎ (p ≡ Vertex) → DoMeet (Passes P test) p old x y → IsClosedShare q p c v → c % 64 ≡ (old x).chambers → c % 64 ≤ 36
      → IsTrue (old x).is_capped ↔ (64 ≤ c) → AreRight q P test p x v
  met_right x y c v which meet share count few kind s wanted is =
      closed_path_share q (Passes P test) P.size p (passing_tables P test) old total x y are meet c v which share count few kind s (wanted, is)

-- ## Changes

module _ (q : Request) (P : Symbol) (test : Symbol → Bool) (p : Pair) (old new : ℕ → PathEnd) (total more : ℕ) (are : AreEndsOf q P test p old total) where
  pub paths_linked : (x y v : ℕ) → IsLink (Passes P test) p old x y → AreRight q P test p x v → v ≤ share_unit → AreJoined old new x y v
      → more + (weight (old x) + weight (old y)) ≡ total + ((old x).chambers + (old y).chambers) * v → AreEndsOf q P test p new more
  paths_linked x y v link right small each sums =
      ends_joined q (Passes P test) P.size p (passing_tables P test) old new total x y are link.first_end link.second_end link.apart link.no_other link.side link.leads
      v more (λ s found. right s found.0 found.1) small sums each

  pub paths_joined : (x y k v : ℕ) → IsLink (Passes P test) p old x y → HasTurns P.size old x y k → IsShareFrom q p k v → AreJoined old new x y v
      → more + (weight (old x) + weight (old y)) ≡ total + ((old x).chambers + (old y).chambers) * v → AreEndsOf q P test p new more
  paths_joined x y k v link turns from each sums = paths_linked x y v link (linked_right q P test p old total are x y k v link turns from) from.small each sums

  pub path_capped : (x v : ℕ) → IsFixedEnd (Passes P test) p old x → AreRight q P test p x v → v ≤ share_unit → AreFixed old new x v
      → more + weight (old x) ≡ total + (old x).chambers * v → AreEndsOf q P test p new more
  path_capped x v end right small each sum =
      ends_renewed q (Passes P test) P.size p old new total more x v (passing_tables P test) are end.is_end (λ s found. right s found.0 found.1) small sum
      (λ z live. ⊎_elim (λ is. inl (is.0, (is.1, end.fixed))) (λ is. inr is) (each z live))

  pub path_fixed : (x k v : ℕ) → IsFixedEnd (Passes P test) p old x → k ≤ (old x).chambers → IsShareFrom q p k v → AreFixed old new x v
      → more + weight (old x) ≡ total + (old x).chambers * v → AreEndsOf q P test p new more
  path_fixed x k v end few from each sum = path_capped x v end (fixed_right q P test p old total are x k v end few from) from.small each sum

  pub path_closed : (x v : ℕ) → 1 ≤ (old x).chambers → v ≤ share_unit → AreRight q P test p x v → AreClosed old new x
      → more + weight (old x) ≡ total + (old x).chambers * v → AreEndsOf q P test p new more
  path_closed x v live low right each sum =
      ends_renewed q (Passes P test) P.size p old new total more x v (passing_tables P test) are live (λ s found. right s found.0 found.1) low sum (λ z now. inr (each z now))

-- ## Which tables

pub chambers_alone : (q : Request) (P : Symbol) (test : Symbol → Bool) (p : Pair) (ends : ℕ → PathEnd) (v : ℕ) → IsShareFrom q p 1 v
    → ((x : ℕ) → 1 ≤ (ends x).chambers → IsAlone P.size v ends x) → AreEndsOf q P test p ends (P.size * v)
chambers_alone q P test p ends v from each = ends_alone q (Passes P test) P.size p ends v from.small
    (λ d h s found.
    let inside = inside_whole P.size s found.1.completes.size d h in
    from.right (degree s p d) (wanted_allowed q s p d found.0 inside) (degree_from_one s p d found.0.symbol inside))
    each

pub ends_of_fewer : (q : Request) (P Q : Symbol) (test other : Symbol → Bool) (p : Pair) (ends : ℕ → PathEnd) (total : ℕ) → Q.size ≡ P.size
    → ((s : Symbol) → Passes Q other s → Passes P test s) → AreEndsOf q P test p ends total → AreEndsOf q Q other p ends total
ends_of_fewer q P Q test other p ends total same more are =
    subst (λ n. ArePathEnds q (Passes Q other) n p ends total) (sym same) (fewer_tables q (Passes P test) (Passes Q other) P.size p ends total more are)

pub total_bounds : (q : Request) (P : Symbol) (test : Symbol → Bool) (p : Pair) (ends : ℕ → PathEnd) (total : ℕ) → (p ≡ Tile) ⊎ (p ≡ Vertex)
    → ((s : Symbol) → Completes P s → IsTrue (test s)) → AreEndsOf q P test p ends total → IsTotal q P p share_unit total
total_bounds q P test p ends total which every are =
    total_of_ends q P p ends total which (fewer_tables q (Passes P test) (Completes P) P.size p ends total (λ s is. record { completes = is; passed = every s is }) are)

-- ## What paths have

module _ (q : Request) (P : Symbol) (test : Symbol → Bool) (p : Pair) (ends : ℕ → PathEnd) (total : ℕ) (are : AreEndsOf q P test p ends total) where
  -- what a path has, by its label
  weight_by_label : (x : ℕ) → 1 ≤ (ends x).chambers → weight (ends x) ≡ count_label are.label (are.label (x / 2)) (count_from 1 P.size) * are.shared (are.label (x / 2))
  weight_by_label x live =
      let end = are.each x live in
      ap (λ k. k * (ends x).share) end.count ∙ ap (λ g. count_label are.label (are.label (x / 2)) (count_from 1 P.size) * g) end.told

  pub one_within : (x : ℕ) → 1 ≤ (ends x).chambers → weight (ends x) ≤ total
  one_within x live =
      let mine = weight_by_label x live in
      let part = part_of_sum are.label are.shared (are.label (x / 2)) (count_from 1 P.size) in
      let sum = are.adds in
      omega (arith, mine, part, sum)

  pub two_within : (x y : ℕ) → 1 ≤ (ends x).chambers → 1 ≤ (ends y).chambers → y ≢ x → y ≢ (ends x).other → weight (ends x) + weight (ends y) ≤ total
  two_within x y live living apart no_other =
      let mine = weight_by_label x live in
      let yours = weight_by_label y living in
      let parts = parts_of_sum are.label are.shared (are.label (x / 2)) (are.label (y / 2)) (λ same. ⊎_elim apart no_other ((are.each x live).alone y living (sym same))) (count_from 1 P.size) in
      let sum = are.adds in
      omega (arith, mine, yours, parts, sum)

  pub all_within : total ≤ P.size * share_unit
  all_within =
      let share = λ (d : ℕ). are.shared (are.label d) in
      let bound = sum_bound share share_unit (count_from 1 P.size) (all_from (λ d. share d ≤ share_unit) 1 P.size (λ d low high. are.small d (low, omega (arith, high)))) in
      let long : length (count_from 1 P.size) * share_unit ≡ P.size * share_unit = ap (λ k. k * share_unit) (length-count_from 1 P.size) in
      let sum = are.adds in
      omega (arith, bound, long, sum)
