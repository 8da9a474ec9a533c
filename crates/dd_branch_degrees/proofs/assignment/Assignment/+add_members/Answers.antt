use Rattle.std.proofs.Common.{rules, ◌≡◌, ℕ, ◌-◌, ◌*◌, ◌%◌, ◌^◌, ◌<◌, ◌≤◌, List, refl, sym, ap, ◌∙◌, subst, arith}
use Rattle.std.proofs.lemmas.Nat.{one_shl}
use Rattle.dd_model.specs.Symbol.{Symbol}
use Rattle.dd_model.specs.Wanted.{IsMember}
use Rattle.dd_front_jobs.specs.Under.{Appends, AreUnder}
use Rattle.dd_branch_tables.proofs.GrowthLemmas.{grown_same, grown_by, grown_through}
use Rattle.dd_branch_tables.proofs.Prefixes.{appends_dead}
use Rattle.dd_branch_degrees.specs.Assignment.{Assigned, HasLast, IsAssignment, next_place, prefix_of, shortened, told}
use Rattle.dd_branch_degrees.specs.Budget.{no_place}
use Rattle.dd_branch_degrees.specs.Choice.{HasBranching, IsChoice}
use Rattle.dd_branch_degrees.specs.Entered.{HasEntered}
use Rattle.dd_branch_degrees.specs.Kept.{assigned_of}
use Rattle.dd_branch_degrees.specs.declared.places.DegreeSlot.{DegreeSlot}
use Rattle.dd_branch_degrees.proofs.Advancing.{IsDegreeWith, budget_more, found_entered, part_of_degree, some_sides, sound_next, tile_choice, vertex_choice, with_list}
use Rattle.dd_branch_degrees.proofs.Bits.{bit_left, highest_set}
use Rattle.dd_branch_degrees.proofs.Finishing.{HasTried, IsFitting, all_tried, back_through, found_told, none_at_end, none_tried, share_fits, share_tried, whole_here}
use Rattle.dd_branch_degrees.proofs.assignment.Assignment.+add_members.Goals as goal
use Rattle.dd_branch_degrees.proofs.assignment.Assignment.+add_members.Goals.{After-degree_with, After-enter, After-go_down-left, After-ilog2-share, After-truncate, then-len+in_ok-add_members, else-len+then-left-eq0+in_ok-add_member, else-len+else-left-eq0}

-- the greatest share that is left
share_in : {t : ℕ} (c : After-ilog2-share t) → IsFitting c.args.self.now c.args.left c.ilog2-share.result
share_in c =
    let k = c.ilog2-share.result in
    let there = c.loop-fitting.invariant.left_over k (highest_set c.loop-fitting.fitting k c.ilog2-share.ensures.power_le c.ilog2-share.ensures.next_power_gt) in
    share_fits c.args.self.now c.args.left c.args.fitting k (subst IsAssignment c.self.view_is c.self.invariant) c.requires.room c.requires.root c.requires.fitting there

degree_in : {t : ℕ} (c : After-degree_with t) → IsDegreeWith (next_place c.args.self.now) c.ilog2-share.result c.degree_with.result
degree_in c = subst (λ (x : DegreeSlot). IsDegreeWith x c.ilog2-share.result c.degree_with.result) c.next_place-place.ensures c.degree_with.ensures

entered_in : {t : ℕ} (c : After-enter t) → HasEntered c.args.self.now c.degree_with.result c.enter.new.self
entered_in c = subst (λ (y : Assigned). HasEntered y c.degree_with.result c.enter.new.self) c.loop-fitting.invariant.same c.enter.ensures.entered

-- back from where it went down
through_in : {t : ℕ} (c : After-go_down-left t) → shortened c.go_down-left.new.self (told c.args.self.now) ≡ c.args.self.now
through_in c =
    back_through c.args.self.now c.enter.new.self c.go_down-left.new.self c.degree_with.result
    (subst (λ (y : Assigned). HasEntered y c.degree_with.result c.enter.new.self) c.loop-fitting.invariant.same c.enter.ensures.entered) c.go_down-left.ensures.told

pub loop-fitting-init : goal.loop-fitting-init
loop-fitting-init t c = record { same = refl; left_over = λ e there. there; last = c.requires.last; tried = none_tried c.args.self.now c.args.left c.args.fitting c.requires.fitting c.args.list.now; grown = grown_same c.args.list.now c.args.list.now refl }

pub degree_with-requires-clause-sides : goal.degree_with-requires-clause-sides
degree_with-requires-clause-sides t c =
    let a = c.args.self.now in
    let is = subst IsAssignment c.self.view_is c.self.invariant in
    subst (λ (x : DegreeSlot). (1 ≤ x.sides) × (x.sides ≤ 2)) (sym c.next_place-place.ensures)
    (some_sides a is c.requires.room c.requires.root, (sound_next a is (told a) no_place c.requires.room).sides)

pub degree_with-requires-clause-turns : goal.degree_with-requires-clause-turns
degree_with-requires-clause-turns t c =
    let a = c.args.self.now in
    subst (λ (x : DegreeSlot). x.turns ≤ 36) (sym c.next_place-place.ensures) (sound_next a (subst IsAssignment c.self.view_is c.self.invariant) (told a) no_place c.requires.room).few

pub degree_with-requires-clause-share : goal.degree_with-requires-clause-share
degree_with-requires-clause-share t c =
    subst (λ (x : DegreeSlot). HasBranching x.sides c.ilog2-share.result) (sym c.next_place-place.ensures)
    (share_in (goal.at.degree_with-requires-clause-share t c).After-ilog2-share).branching

pub enter-requires-clause-tile : goal.enter-requires-clause-tile
enter-requires-clause-tile t c =
    let m = c.degree_with.result in
    let to = goal.at.enter-requires-clause-tile t c in
    subst (λ (y : Assigned). told y < y.table.size → IsChoice y.request.faces (next_place y).turns m) (sym c.loop-fitting.invariant.same)
    (tile_choice c.args.self.now c.ilog2-share.result m (subst IsAssignment c.self.view_is c.self.invariant) c.requires.room c.requires.root (share_in to.After-ilog2-share).told_ (degree_in to.After-degree_with))

pub enter-requires-clause-vertex : goal.enter-requires-clause-vertex
enter-requires-clause-vertex t c =
    let m = c.degree_with.result in
    let to = goal.at.enter-requires-clause-vertex t c in
    subst (λ (y : Assigned). y.table.size ≤ told y → IsChoice y.request.degrees (next_place y).turns m) (sym c.loop-fitting.invariant.same)
    (vertex_choice c.args.self.now c.ilog2-share.result m (subst IsAssignment c.self.view_is c.self.invariant) c.requires.room c.requires.root (share_in to.After-ilog2-share).told_ (degree_in to.After-degree_with))

pub overflow_sub-left : goal.overflow_sub-left
overflow_sub-left t c =
    let fits = (share_in (goal.at.overflow_sub-left t c).After-ilog2-share).fits in
    let same = c.from.ensures in
    omega (arith, fits, same)

pub go_down-left-requires-clause-budget : goal.go_down-left-requires-clause-budget
go_down-left-requires-clause-budget t c =
    let a = c.args.self.now in
    let k = c.ilog2-share.result in
    let m = c.degree_with.result in
    let to = goal.at.go_down-left-requires-clause-budget t c in
    let fits = share_in to.After-ilog2-share in
    let is = subst IsAssignment c.self.view_is c.self.invariant in
    let part = part_of_degree a k m is c.requires.room fits.branching (degree_in to.After-degree_with) in
    let budget = budget_more a c.enter.new.self m c.args.left k is c.requires.room c.requires.budget part (entered_in to.After-enter) fits.fits in
    let same = c.from.ensures in
    omega (arith, budget, same)

pub add_members-requires : goal.add_members-requires
add_members-requires t c =
    let through = through_in (goal.at.add_members-requires t c).After-go_down-left in
    let below : HasLast c.go_down-left.new.self c.loop-fitting.list = subst (λ (x : Assigned). HasLast x c.loop-fitting.list) (sym through) c.loop-fitting.invariant.last in
    (search rules, (search rules, (search rules, (search rules, (search rules, below)))))

pub add_member-requires-clause-last : goal.add_member-requires-clause-last
add_member-requires-clause-last t c =
    let through = through_in (goal.at.add_member-requires-clause-last t c).After-go_down-left in
    subst (λ (x : Assigned). HasLast x c.loop-fitting.list) (sym through) c.loop-fitting.invariant.last

-- what came of the degrees below
record IsDone (below new : Assigned) (old list : List Symbol) : Type 0 where
  same : new ≡ below
  last : HasLast below list
  found : Appends (AreUnder (IsMember below.request) below.table.size (prefix_of below)) old list

done_in : {t : ℕ} (c : After-truncate t) → shortened c.go_down-left.new.self (told c.args.self.now) ≡ c.args.self.now → IsDone c.go_down-left.new.self c.if-len.self c.loop-fitting.list c.if-len.list
done_in c through =
    let d = c.go_down-left.new.self in
    let below : HasLast d c.loop-fitting.list = subst (λ (x : Assigned). HasLast x c.loop-fitting.list) (sym through) c.loop-fitting.invariant.last in
    elim c.if-len.branch [
      | then-len+in_ok-add_members w ↦ record {
        same = w.self-is ∙ w.in_ok-add_members.ensures.same;
        last = subst (HasLast d) (sym w.list-is) w.in_ok-add_members.ensures.last;
        found = subst (Appends (AreUnder (IsMember d.request) d.table.size (prefix_of d)) c.loop-fitting.list) (sym w.list-is) w.in_ok-add_members.ensures.list;
      }
      | else-len+then-left-eq0+in_ok-add_member w ↦ record {
        same = w.self-is;
        last = subst (HasLast d) (sym w.list-is) w.in_ok-add_member.ensures.last;
        found = subst (Appends (AreUnder (IsMember d.request) d.table.size (prefix_of d)) c.loop-fitting.list) (sym w.list-is) w.in_ok-add_member.ensures.list;
      }
      | else-len+else-left-eq0 w ↦ record {
        same = w.self-is;
        last = subst (HasLast d) (sym w.list-is) below;
        found = subst (Appends (AreUnder (IsMember d.request) d.table.size (prefix_of d)) c.loop-fitting.list) (sym w.list-is)
            (appends_dead (IsMember d.request) d.table.size (prefix_of d) c.loop-fitting.list
            (none_at_end d c.go_down-left.result.0 (subst IsAssignment c.self-in-loop-fitting.view_is c.self-in-loop-fitting.invariant)
            (subst (λ a. told a ≡ 2 * a.table.size) c.self-in-loop-fitting.view_is (whole_here _ _ _ c.self-in-loop-fitting.invariant w.if-len.false c.len.ensures.value c.len-in-loop-fitting.ensures.value))
            c.go_down-left.ensures.budget w.if-left-eq0.false));
      }
    ]

-- Then the degrees are those of before.
cut_back : {t : ℕ} (c : After-truncate t) → c.if-len.self ≡ c.go_down-left.new.self → shortened c.go_down-left.new.self (told c.args.self.now) ≡ c.args.self.now → with_list (assigned_of c.self-in-loop-fitting-2.inside) c.truncate.new.self.items ≡ c.args.self.now
cut_back c same through =
    ap (with_list (assigned_of c.self-in-loop-fitting-2.inside)) c.truncate.ensures.items ∙ ap (λ (x : Assigned). shortened x c.len-next.result) (c.self-in-loop-fitting-2.view_is ∙ same)
    ∙ ap (shortened c.go_down-left.new.self) (c.len-next.ensures.value ∙ ap told c.self.view_is) ∙ through

pub invariant_of-self : goal.invariant_of-self
invariant_of-self t c =
    let to = goal.at.invariant_of-self t c in
    let through = through_in to.After-go_down-left in
    subst IsAssignment (sym (cut_back to.After-truncate (done_in to.After-truncate through).same through)) (subst IsAssignment c.self.view_is c.self.invariant)

pub loop-fitting-preserved : goal.loop-fitting-preserved
loop-fitting-preserved t c =
    let a = c.args.self.now in
    let b = c.enter.new.self in
    let n = c.loop-fitting.fitting in
    let k = c.ilog2-share.result in
    let m = c.degree_with.result in
    let low = c.ilog2-share.ensures.power_le in
    let high = c.ilog2-share.ensures.next_power_gt in
    let to = goal.at.loop-fitting-preserved t c in
    let has = (share_in to.After-ilog2-share).branching in
    let entered = entered_in to.After-enter in
    let through = through_in to.After-go_down-left in
    let done = done_in to.After-truncate through in
    let one : 1 * 2 ^ k % 2 ^ 64 ≡ 2 ^ k = one_shl k 64 c.ilog2-share.ensures.bound in
    let found = found_entered a b m entered c.loop-fitting.list c.if-len.list (found_told b c.go_down-left.new.self c.go_down-left.ensures.told c.loop-fitting.list c.if-len.list done.found) in
    record {
      same = cut_back to.After-truncate done.same through;
      left_over = λ e told_. c.loop-fitting.invariant.left_over e (bit_left n k e low high c.ilog2-share.ensures.bound told_);
      last = subst (λ (x : Assigned). HasLast x c.if-len.list) through done.last;
      tried = subst (λ y. HasTried a (n - y) c.args.list.now c.if-len.list) (sym one)
          (share_tried a n k m (subst IsAssignment c.self.view_is c.self.invariant) c.requires.room c.requires.root low high has (degree_in to.After-degree_with has.value has.crystallographic has.beyond) c.args.list.now c.loop-fitting.list c.if-len.list c.loop-fitting.invariant.tried found);
      grown = grown_through c.args.list.now c.loop-fitting.list c.if-len.list c.loop-fitting.invariant.grown (grown_by c.loop-fitting.list c.if-len.list done.found);
    }

pub returns-clause-list : goal.returns-clause-list
returns-clause-list t c = all_tried c.args.self.now c.loop-fitting.fitting (subst IsAssignment c.self.view_is c.self.invariant) c.requires.room c.loop-fitting-test.false c.args.list.now c.loop-fitting.list c.loop-fitting.invariant.tried

pub returns-clause-last : goal.returns-clause-last
returns-clause-last t c = c.loop-fitting.invariant.last
