use Rattle.std.proofs.Common.{◌≡◌, [], ◌∷◌, ◌++◌, length, take, sym, ap, ◌∙◌, subst, refl, arith}
use Rattle.std.specs.List.{AllByRecursion}
use Rattle.std.specs.Vec.Iter.{into_iter_items}
use Rattle.dd_front.specs.Machine.{jobs_of}
use Rattle.dd_front.specs.Joining.{IsDone}
use Rattle.dd_front.proofs.Joins.{AreJoining, joining_start, joining_last, at_hand, step_same, step_next, none_left}
use Rattle.dd_front.proofs.joined_lists.join.Goals as goal
use Rattle.dd_front.proofs.joined_lists.join.Goals.{then-not-extends+in_ok-push, else-not-extends}

pub loop-entry-init : goal.loop-entry-init
loop-entry-init c =
    let gives = c.into_iter-entry-iterator.ensures.into_iter_gives in (
      subst (AllByRecursion (λ e. IsDone e.state)) (sym gives.0) c.requires.done,
      gives.1 ∙ omega (arith, ap length gives.0),
      λ k blocks. joining_start (jobs_of (take k c.args.olds.now)) c.args.handed.items (into_iter_items c.into_iter-entry-iterator.result) c.new-lists.result.items c.none-joined.result
          c.requires.some blocks gives.0 c.new-lists.ensures.items c.none-joined.ensures,
    )

pub bounds-olds-len : goal.bounds-olds-len
bounds-olds-len c =
    let k = c.requires.come.0 in
    let s = c.loop-entry.invariant.2 k c.requires.come.1 in
    let low = (at_hand c.args.olds.now c.args.handed.items (into_iter_items c.loop-entry.entry-iterator) k c.loop-entry.lists.items c.loop-entry.joined s c.in-Some.entry).0 in
    omega (arith, c.len.ensures)

pub offset_bounds-olds-len : goal.offset_bounds-olds-len
offset_bounds-olds-len c =
    let k = c.requires.come.0 in
    let s = c.loop-entry.invariant.2 k c.requires.come.1 in
    let low = (at_hand c.args.olds.now c.args.handed.items (into_iter_items c.loop-entry.entry-iterator) k c.loop-entry.lists.items c.loop-entry.joined s c.in-Some.entry).0 in
    omega (arith, c.len.ensures)

pub list_of-requires : goal.list_of-requires
list_of-requires c = (subst (AllByRecursion (λ e. IsDone e.state)) c.in-Some.ensures.steps.0 c.loop-entry.invariant.0).0

pub loop-entry-preserved : goal.loop-entry-preserved
loop-entry-preserved c =
    let olds = c.args.olds.now in
    let whole = c.args.handed.items in
    let rest = into_iter_items c.loop-entry.entry-iterator in
    let tail = into_iter_items c.next.new.self in
    let e = c.in-Some.entry in
    let d = c.index-olds-len.result in
    let n = c.len.result in
    let steps = c.in-Some.ensures.steps in
    let lists = c.loop-entry.lists.items in
    let joined = c.loop-entry.joined in
    let now = c.append.new.self in
    let list = c.list_of.result in
    let len : n ≡ length lists = c.len.ensures ∙ omega arith in
    let longer : now ≡ c.if-not-extends.joined ++ list = c.in_ok-append.ensures.members in (
      (subst (AllByRecursion (λ x. IsDone x.state)) steps.0 c.loop-entry.invariant.0).1,
      omega (arith, c.loop-entry.invariant.1, ap length steps.0, steps.1),
      λ k blocks.
          let s = c.loop-entry.invariant.2 k blocks in
          elim c.if-not-extends.branch [
            | then-not-extends+in_ok-push w ↦
                let more : c.if-not-extends.lists.items ≡ lists ++ joined ∷ [] =
                ap (λ v. v.items) w.lists-is ∙ w.in_ok-push.ensures.items ∙ ap (λ l. lists ++ l ∷ []) w.replace.ensures.value in
                let none : c.if-not-extends.joined ≡ [] = w.joined-is ∙ w.replace.ensures.after ∙ w.none.ensures in
                step_next olds whole rest tail k n e d lists c.if-not-extends.lists.items joined c.if-not-extends.joined now list
                s steps.0 len (λ tells. let wrong = w.if-not-extends.ensures.1 tells in cc) c.list_of.ensures more none longer
            | else-not-extends w ↦
                step_same olds whole rest tail k n e d lists c.if-not-extends.lists.items joined c.if-not-extends.joined now list
                s steps.0 len (w.if-not-extends.ensures.0 refl) c.list_of.ensures (ap (λ v. v.items) w.lists-is) w.joined-is longer
          ],
    )

pub returns : goal.returns
returns c = λ k blocks.
    let s = c.loop-entry.invariant.2 k blocks in
    let jobs = jobs_of (take k c.args.olds.now) in
    let rest : into_iter_items c.loop-entry.entry-iterator ≡ [] = none_left (into_iter_items c.loop-entry.entry-iterator) _ c.loop-entry.invariant.1 c.in-None.ensures.steps.0 in
    joining_last jobs c.args.handed.items c.loop-entry.lists.items c.push-2.new.self.items c.loop-entry.joined
    (subst (λ es. AreJoining jobs c.args.handed.items es c.loop-entry.lists.items c.loop-entry.joined) rest s)
    c.in_ok-push-2.ensures.items
