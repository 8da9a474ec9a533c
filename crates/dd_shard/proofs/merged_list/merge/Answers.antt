use Rattle.std.proofs.Common.{length, sym, subst}
use Rattle.std.specs.List.{AllByRecursion}
use Rattle.std.specs.List.Sorted.{IsPermutation, IsStableBy}
use Rattle.dd_model.specs.Wanted.{IsAscending}
use Rattle.dd_shard.specs.Doubles.{AreApartBelow, IsLeastDouble}
use Rattle.dd_shard.specs.Merging.{IsMerged}
use Rattle.dd_shard.specs.Members.{lists_of, by_code}
use Rattle.dd_shard.proofs.SortedMembers.{first_double, mergeable, is_merged}
use Rattle.dd_shard.proofs.merged_list.merge.Goals as goal

pub returns-in-Some-clause-why : goal.returns-in-Some-clause-why
returns-in-Some-clause-why g c =
    let lists = lists_of c.args.lists.items in
    let ms = c.sort.new.members.items in
    let up = subst (λ vs. AllByRecursion IsAscending (lists_of vs)) c.deref.ensures.value c.in_ok-check_ascending.ensures.ascending in
    record {
      ascending = up;
      first = first_double lists ms up
          (subst (λ xs. IsPermutation xs ms) c.in_ok-members.ensures c.sort.ensures.reordered.permutation)
          c.in_ok-sort.ensures.sorted
          (subst (λ xs. IsStableBy by_code xs ms) c.in_ok-members.ensures c.sort.ensures.reordered.stable)
          c.in-Some.place
          (subst (λ xs. IsLeastDouble xs (length xs) c.in-Some.place) c.deref-2.ensures.value c.in-Some.ensures);
    }

pub returns-in_ok-symbols_of-in-None-clause-mergeable : goal.returns-in_ok-symbols_of-in-None-clause-mergeable
returns-in_ok-symbols_of-in-None-clause-mergeable g c =
    let lists = lists_of c.args.lists.items in
    let ms = c.sort.new.members.items in
    let up = subst (λ vs. AllByRecursion IsAscending (lists_of vs)) c.deref.ensures.value c.in_ok-check_ascending.ensures.ascending in
    mergeable lists ms up
    (subst (λ xs. IsPermutation xs ms) c.in_ok-members.ensures c.sort.ensures.reordered.permutation)
    c.in_ok-sort.ensures.sorted
    (subst (λ xs. IsStableBy by_code xs ms) c.in_ok-members.ensures c.sort.ensures.reordered.stable)
    (subst (λ xs. AreApartBelow xs (length xs)) c.deref-2.ensures.value c.in-None.ensures)

pub returns-in_ok-symbols_of-in-None-clause-merged : goal.returns-in_ok-symbols_of-in-None-clause-merged
returns-in_ok-symbols_of-in-None-clause-merged g c =
    let lists = lists_of c.args.lists.items in
    let ms = c.sort.new.members.items in
    let up = subst (λ vs. AllByRecursion IsAscending (lists_of vs)) c.deref.ensures.value c.in_ok-check_ascending.ensures.ascending in
    subst (IsMerged lists) (sym c.in_ok-symbols_of-in-None.ensures)
    (is_merged lists ms up
    (subst (λ xs. IsPermutation xs ms) c.in_ok-members.ensures c.sort.ensures.reordered.permutation)
    c.in_ok-sort.ensures.sorted
    (subst (λ xs. IsStableBy by_code xs ms) c.in_ok-members.ensures c.sort.ensures.reordered.stable)
    (subst (λ xs. AreApartBelow xs (length xs)) c.deref-2.ensures.value c.in-None.ensures))
