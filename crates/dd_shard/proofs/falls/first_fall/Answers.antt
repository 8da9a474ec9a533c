use Rattle.std.proofs.Common.{◌≡◌, ◌≤◌, false, arith, rules}
use Rattle.dd_model.specs.Code.{code_cmp}
use Rattle.dd_shard.proofs.AscendingLists.{fall_here, ascending_by_neighbors}
use Rattle.dd_shard.proofs.falls.first_fall.Goals as goal

pub returns-then-not-is_lt-clause-first : goal.returns-then-not-is_lt-clause-first
returns-then-not-is_lt-clause-first c =
    let low : 1 ≤ c.loop-k.k = search rules in
    let compared : c.cmp_code.result ≡ code_cmp c.index-list-k.result c.index-list-k-in-loop-k.result = search rules in
    let less : c.is_lt.result ≡ false = search rules in
    fall_here c.args.list.now c.loop-k.k c.index-list-k.result c.index-list-k-in-loop-k.result c.cmp_code.result c.is_lt.result low c.loop-k-test.true
    c.index-list-k.is c.index-list-k-in-loop-k.is compared c.is_lt.ensures less c.loop-k.invariant

pub returns-clause-ascending : goal.returns-clause-ascending
returns-clause-ascending c =
    ascending_by_neighbors c.args.list.now (λ j d low. c.loop-k.invariant j d (let all = c.loop-k-test.false in omega arith))
