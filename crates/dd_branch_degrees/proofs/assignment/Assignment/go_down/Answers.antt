use Rattle.std.proofs.Common.{◌*◌, ◌^◌, ◌<◌, ◌≤◌, w64, sym, subst, arith, rules}
use Rattle.std.specs.Int.{trailing_zeros}
use Rattle.dd_branch_degrees.specs.Assignment.{IsAssignment, told}
use Rattle.dd_branch_degrees.specs.Budget.{no_place}
use Rattle.dd_branch_degrees.specs.Choice.{HasBranching}
use Rattle.dd_branch_degrees.specs.declared.places.DegreeSlot.{DegreeSlot}
use Rattle.dd_branch_degrees.proofs.Advancing.{IsDegreeWith, budget_more, part_of_degree, some_sides, sound_next, tile_choice, vertex_choice}
use Rattle.dd_branch_degrees.proofs.Finishing.{IsFitting, first_fits, only_share, room_below, single_bit, told_more}
use Rattle.dd_branch_degrees.proofs.assignment.Assignment.go_down.Goals as goal
use Rattle.dd_branch_degrees.proofs.assignment.Assignment.go_down.Goals.{In-loop-self, After-next_place-place}

is_in : (c : In-loop-self) → IsAssignment c.loop-self.self
is_in c = subst IsAssignment c.self.view_is c.self.invariant

room_in : (c : In-loop-self) → told c.loop-self.self < 2 * c.loop-self.self.table.size
room_in c =
    subst (λ a. told a < 2 * a.table.size) c.self.view_is
    (room_below _ _ _ c.self.invariant c.loop-self-test.true c.len.ensures.value c.len-in-loop-self.ensures.value)

first_in : (c : After-next_place-place) → IsAssignment c.loop-self.self → told c.loop-self.self < 2 * c.loop-self.self.table.size
    → IsFitting c.loop-self.self c.loop-self.left (trailing_zeros w64 c.fitting-fitting.result)
first_in c is room =
    let wide : c.fitting-fitting.result < 2 ^ 64 = search rules in
    first_fits c.loop-self.self c.loop-self.left c.fitting-fitting.result is room c.loop-self.invariant.root c.fitting-fitting.ensures c.if-fitting-eq0.false wide

pub fitting-fitting-requires-clause-room : goal.fitting-fitting-requires-clause-room
fitting-fitting-requires-clause-room c = room_in c

pub next_place-place-requires : goal.next_place-place-requires
next_place-place-requires c = room_in (goal.at.next_place-place-requires c).In-loop-self

pub degree_with-requires-clause-sides : goal.degree_with-requires-clause-sides
degree_with-requires-clause-sides c =
    let to = (goal.at.degree_with-requires-clause-sides c).In-loop-self in
    subst (λ (x : DegreeSlot). (1 ≤ x.sides) × (x.sides ≤ 2)) (sym c.next_place-place.ensures)
    (some_sides c.loop-self.self (is_in to) (room_in to) c.loop-self.invariant.root, (sound_next c.loop-self.self (is_in to) (told c.loop-self.self) no_place (room_in to)).sides)

pub degree_with-requires-clause-turns : goal.degree_with-requires-clause-turns
degree_with-requires-clause-turns c =
    let to = (goal.at.degree_with-requires-clause-turns c).In-loop-self in
    subst (λ (x : DegreeSlot). x.turns ≤ 36) (sym c.next_place-place.ensures) (sound_next c.loop-self.self (is_in to) (told c.loop-self.self) no_place (room_in to)).few

pub degree_with-requires-clause-share : goal.degree_with-requires-clause-share
degree_with-requires-clause-share c =
    let to = goal.at.degree_with-requires-clause-share c in
    subst (λ (x : DegreeSlot). HasBranching x.sides (trailing_zeros w64 c.fitting-fitting.result)) (sym c.next_place-place.ensures)
    (first_in to.After-next_place-place (is_in to.In-loop-self) (room_in to.In-loop-self)).branching

pub enter-requires-clause-tile : goal.enter-requires-clause-tile
enter-requires-clause-tile c =
    let k = trailing_zeros w64 c.fitting-fitting.result in
    let m = c.degree_with.result in
    let to = goal.at.enter-requires-clause-tile c in
    let with = subst (λ (x : DegreeSlot). IsDegreeWith x k m) c.next_place-place.ensures c.degree_with.ensures in
    tile_choice c.loop-self.self k m (is_in to.In-loop-self) (room_in to.In-loop-self) c.loop-self.invariant.root (first_in to.After-next_place-place (is_in to.In-loop-self) (room_in to.In-loop-self)).told_ with

pub enter-requires-clause-vertex : goal.enter-requires-clause-vertex
enter-requires-clause-vertex c =
    let k = trailing_zeros w64 c.fitting-fitting.result in
    let m = c.degree_with.result in
    let to = goal.at.enter-requires-clause-vertex c in
    let with = subst (λ (x : DegreeSlot). IsDegreeWith x k m) c.next_place-place.ensures c.degree_with.ensures in
    vertex_choice c.loop-self.self k m (is_in to.In-loop-self) (room_in to.In-loop-self) c.loop-self.invariant.root (first_in to.After-next_place-place (is_in to.In-loop-self) (room_in to.In-loop-self)).told_ with

pub overflow_sub-left : goal.overflow_sub-left
overflow_sub-left c =
    let to = goal.at.overflow_sub-left c in
    let fits = (first_in to.After-next_place-place (is_in to.In-loop-self) (room_in to.In-loop-self)).fits in
    let same = c.from-left.ensures in
    omega (arith, fits, same)

pub loop-self-preserved : goal.loop-self-preserved
loop-self-preserved c =
    let b = c.loop-self.self in
    let i = c.loop-self.invariant in
    let n = c.fitting-fitting.result in
    let wide : n < 2 ^ 64 = search rules in
    let k = trailing_zeros w64 n in
    let m = c.degree_with.result in
    let to = goal.at.loop-self-preserved c in
    let is = is_in to.In-loop-self in
    let room = room_in to.In-loop-self in
    let with = subst (λ (x : DegreeSlot). IsDegreeWith x k m) c.next_place-place.ensures c.degree_with.ensures in
    let first = first_in to.After-next_place-place is room in
    let single = single_bit n c.if-fitting-eq0.false wide c.if-fitting-ne0.false in
    let part = part_of_degree b k m is room first.branching with in
    let budget = budget_more b c.enter.new.self m c.loop-self.left k is room i.budget part c.enter.ensures.entered first.fits in
    let same = c.from-left.ensures in
    record {
      root = c.enter.ensures.root;
      told = told_more c.args.self.now b c.enter.new.self m is room i.told c.enter.ensures.entered (only_share b c.loop-self.left n k m is room c.fitting-fitting.ensures single with);
      budget = omega (arith, budget, same);
    }
