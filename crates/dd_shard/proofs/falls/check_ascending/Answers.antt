use Rattle.std.proofs.Common.{◌≡◌, ◌+◌, ◌<◌, suc, [], length, take, sym, ◌∙◌, subst, arith}
use Rattle.std.specs.List.{AllByRecursion}
use Rattle.dd_model.specs.Wanted.{IsAscending}
use Rattle.dd_shard.specs.Members.{IsShort, lists_of}
use Rattle.dd_shard.proofs.AscendingLists.{all_at, all_take_more, first_out_of_order, list_at, lists_length}
use Rattle.dd_shard.proofs.falls.check_ascending.Goals as goal

pub first_fall-requires : goal.first_fall-requires
first_fall-requires c =
    let vs = c.args.lists.now in
    let k = c.loop-before.before in
    let v = c.index-lists-before.result in
    let all = lists_length vs in
    let here = list_at vs k v [] c.loop-before-test.true c.index-lists-before.is ∙ sym c.deref.ensures.value in
    subst IsShort here (all_at IsShort (lists_of vs) k [] c.requires.short (let low = c.loop-before-test.true in omega (arith, all, low)))

pub returns-in-Some-clause-why : goal.returns-in-Some-clause-why
returns-in-Some-clause-why c =
    let vs = c.args.lists.now in
    let k = c.loop-before.before in
    let v = c.index-lists-before.result in
    let list = c.deref.result.now in
    let all = lists_length vs in
    let low : k < length (lists_of vs) = let test = c.loop-before-test.true in omega (arith, all, test) in
    first_out_of_order (lists_of vs) k c.in-Some.symbol list low (list_at vs k v list c.loop-before-test.true c.index-lists-before.is ∙ sym c.deref.ensures.value)
    c.loop-before.invariant c.in-Some.ensures.first

pub loop-before-preserved : goal.loop-before-preserved
loop-before-preserved c =
    let vs = c.args.lists.now in
    let k = c.loop-before.before in
    let v = c.index-lists-before.result in
    let all = lists_length vs in
    let low : k < length (lists_of vs) = let test = c.loop-before-test.true in omega (arith, all, test) in
    let here = list_at vs k v [] c.loop-before-test.true c.index-lists-before.is ∙ sym c.deref.ensures.value in
    let next : suc k ≡ k + 1 = omega arith in
    subst (λ j. AllByRecursion IsAscending (take j (lists_of vs))) next
    (all_take_more IsAscending (lists_of vs) k [] low c.loop-before.invariant (subst IsAscending (sym here) c.in_default.ensures.ascending))
