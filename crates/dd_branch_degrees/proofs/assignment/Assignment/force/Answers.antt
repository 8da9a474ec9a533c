use Rattle.std.proofs.Common.{◌≡◌, ◌≢◌, ◌*◌, ◌<◌, length, get_or, sym, ap, ◌∙◌, subst, arith}
use Rattle.std.proofs.lemmas.List.{length_push}
use Rattle.dd_branch_degrees.specs.Assignment.{Assigned, IsAssignment, IsAtRoot, next_place, told}
use Rattle.dd_branch_degrees.specs.Entered.{HasForced}
use Rattle.dd_branch_degrees.specs.Budget.{no_place}
use Rattle.dd_branch_degrees.specs.Kept.{assigned_of}
use Rattle.dd_branch_degrees.specs.declared.places.DegreeSlot.{DegreeSlot}
use Rattle.dd_branch_degrees.proofs.Advancing.{at_root_at_end, forced_more, forced_none, forced_told, pushed, sound_next}
use Rattle.dd_branch_degrees.proofs.Finishing.{room_below}
use Rattle.dd_branch_degrees.proofs.assignment.Assignment.force.Goals as goal
use Rattle.dd_branch_degrees.proofs.assignment.Assignment.force.Goals.{In-loop-self, After-push}

is_in : (c : In-loop-self) → IsAssignment c.loop-self.self
is_in c = subst IsAssignment c.self.view_is c.self.invariant

room_in : (c : In-loop-self) → told c.loop-self.self < 2 * c.loop-self.self.table.size
room_in c =
    subst (λ a. told a < 2 * a.table.size) c.self.view_is
    (room_below _ _ _ c.self.invariant c.loop-self-test.true c.len.ensures.value c.len-in-loop-self.ensures.value)

pub loop-self-init : goal.loop-self-init
loop-self-init c = forced_none c.args.self.now

pub next_place-root-requires : goal.next_place-root-requires
next_place-root-requires c = room_in c

pub returns-then-root-len-clause-forced : goal.returns-then-root-len-clause-forced
returns-then-root-len-clause-forced c = c.loop-self.invariant

pub bounds-as_slice-root : goal.bounds-as_slice-root
bounds-as_slice-root c =
    let b = c.loop-self.self in
    let at = (goal.at.bounds-as_slice-root c).In-loop-self in
    let earlier = (sound_next b (is_in at) (told b) no_place (room_in at)).earlier in
    let other = c.if-root-len.false in
    let root = ap (λ (x : DegreeSlot). x.root) c.next_place-root.ensures in
    let slice = ap length c.as_slice.ensures.value in
    let own = c.len-in-loop-self-2.ensures.value in
    let same = ap told c.self.view_is in
    omega (arith, earlier, other, root, slice, own, same)

-- the degree that follows, as it was read
copied : (c : After-push) → get_or c.as_slice.result.now c.next_place-root.result.root 0 ≡ get_or c.loop-self.self.degrees.items (next_place c.loop-self.self).root 0
copied c =
    ap (λ xs. get_or xs c.next_place-root.result.root 0) (c.as_slice.ensures.value ∙ ap (λ (a : Assigned). a.degrees.items) c.self.view_is)
    ∙ ap (λ (x : DegreeSlot). get_or c.loop-self.self.degrees.items x.root 0) c.next_place-root.ensures

other_root : (c : After-push) → (next_place c.loop-self.self).root ≢ told c.loop-self.self
other_root c same =
    let root = ap (λ (x : DegreeSlot). x.root) c.next_place-root.ensures in
    c.if-root-len.false (root ∙ same ∙ sym (c.len-in-loop-self-2.ensures.value ∙ ap told c.self.view_is))

pub invariant_of-self : goal.invariant_of-self
invariant_of-self c =
    let to = goal.at.invariant_of-self c in
    subst IsAssignment (sym (pushed _ c.self.view_is c.push.ensures.items))
    (forced_told c.loop-self.self _ (is_in to.In-loop-self) (room_in to.In-loop-self) (other_root to.After-push) (copied to.After-push))

pub loop-self-preserved : goal.loop-self-preserved
loop-self-preserved c =
    let to = goal.at.loop-self-preserved c in
    subst (HasForced c.args.self.now) (sym (pushed _ c.self.view_is c.push.ensures.items))
    (forced_more c.args.self.now c.loop-self.self _ (is_in to.In-loop-self) c.loop-self.invariant (room_in to.In-loop-self) (other_root to.After-push) (copied to.After-push))

pub loop-self-smaller : goal.loop-self-smaller
loop-self-smaller c =
    let to = goal.at.loop-self-smaller c in
    let m = get_or c.as_slice.result.now c.next_place-root.result.root 0 in
    let more = ap told (pushed m c.self.view_is c.push.ensures.items) ∙ length_push c.loop-self.self.degrees.items m in
    let kept = ap (λ (a : Assigned). length a.places.items) c.self.view_is in
    let count = (is_in to.In-loop-self).places.count in
    let room = room_in to.In-loop-self in
    omega (arith, more, kept, count, room)

pub returns-clause-forced : goal.returns-clause-forced
returns-clause-forced c = c.loop-self.invariant

pub returns-clause-root : goal.returns-clause-root
returns-clause-root c =
    subst IsAtRoot c.self.view_is (at_root_at_end (assigned_of c.self.inside) (
    let count = c.self.invariant.places.count in
    let test = c.loop-self-test.false in
    let own = c.len.ensures.value in
    let whole = c.len-in-loop-self.ensures.value in
    omega (arith, count, test, own, whole)))
