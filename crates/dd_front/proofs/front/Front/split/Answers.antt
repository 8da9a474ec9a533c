use Rattle.std.proofs.Common.{◌+◌, length, sym, ap, ◌∙◌, subst, arith}
use Rattle.dd_front.specs.Invariant.{IsFront}
use Rattle.dd_front.proofs.Lasting.{split_where}
use Rattle.dd_front.proofs.front.Front.split.Goals as goal

pub invariant_of-self-2 : goal.invariant_of-self-2
invariant_of-self-2 c =
    let q = c.self.inside.request in
    let opening = c.self.inside.opening in
    let next = c.self.inside.next in
    let jobs = c.into_vec-jobs.result.items in
    subst (λ n. IsFront q opening n c.split.new.self) (ap (λ n. next + n) (sym (c.len.ensures ∙ omega arith)))
    (subst (IsFront q opening (next + length jobs)) (sym c.in_ok-split.ensures.entries)
    (split_where c.args.number jobs c.args.jobs c.self.view_is c.into_vec-jobs.ensures c.in_ok-split.ensures.numbers c.self.invariant c.requires.children))
