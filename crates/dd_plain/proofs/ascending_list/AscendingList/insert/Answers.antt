use Rattle.dd_plain.proofs.AscendingLemmas.{ascending-insert_at, Contains-insert_at}
use Rattle.dd_plain.proofs.ascending_list.AscendingList.insert.Goals as goal

pub returns-in_ok-insert-in-Err : goal.returns-in_ok-insert-in-Err
returns-in_ok-insert-in-Err c =
    rw c.in_ok-insert-in-Err.ensures.items (rw c.self.view_is (λ s. Contains-insert_at c.args.self.now c.in-Err.k c.args.symbol s))

pub invariant_of-self-in-Err : goal.invariant_of-self-in-Err
invariant_of-self-in-Err c =
    rw c.in_ok-insert-in-Err.ensures.items (ascending-insert_at c.self.inside.list.items c.in-Err.k c.args.symbol c.self.invariant
    (rw c.deref.ensures.value at c.in-Err.ensures.below) (rw c.deref.ensures.value at c.in-Err.ensures.above))
