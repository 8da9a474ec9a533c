use Rattle.std.proofs.Common.{ℕ, List, sym, subst, rules}
use Rattle.std.specs.Cmp.Lexicographic.{nat_list_cmp_total}
use Rattle.std.specs.Ordering.{is_lt}
use Rattle.std.proofs.lemmas.List.Sorted.{answers_always}
use Rattle.dd_name.specs.Arranged.{dictionary}
use Rattle.dd_name.specs.Boundaries.{AreBoundaries}
use Rattle.dd_name.proofs.DescendingLemmas.{ranks_back}
use Rattle.dd_name.proofs.boundaries.boundaries.Goals as goal

pub returns : goal.returns
returns c =
    let sorted =
    c.sort_unstable_by.ensures.sorted (λ (x y : List ℕ). is_lt (dictionary y x)) (ranks_back dictionary nat_list_cmp_total)
    (answers_always _ _ _ (λ f a r g k. search rules)) in
    subst (AreBoundaries c.args.rounds.now) (sym c.from_vec.ensures)
    (record {
      lists = c.in_ok-lists.lists.items;
      written = c.in_ok-lists.ensures;
      descending = record { permutation = c.sort_unstable_by.ensures.permutation; sorted = sorted };
    })
