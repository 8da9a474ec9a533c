use Rattle.std.proofs.Common.{◌≤◌, List, [], sym, subst, arith}
use Rattle.dd_model.specs.Symbol.{Symbol}
use Rattle.dd_plain.specs.Adds.{Adds}
use Rattle.dd_plain.proofs.LevelLemmas.{all_sizes}
use Rattle.dd_plain.proofs.filter.plain_catalogue.Goals as goal

pub returns : goal.returns
returns c =
    let q = c.args.q.now in
    all_sizes q c.loop-k.k c.into_vec.result.items (omega arith) c.into_vec.ensures.ascending
    (subst (λ (list : List Symbol). Adds q (λ s. s.size ≤ c.loop-k.k) [] list) (sym c.into_vec.ensures.same) c.loop-k.invariant)
