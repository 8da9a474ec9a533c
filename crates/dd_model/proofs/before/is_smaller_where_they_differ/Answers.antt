use Rattle.std.proofs.Common.{◌≤◌, ◌<◌, ◌⊎◌, length, arith, inl, inr, ⊎_elim}
use Rattle.std.proofs.lemmas.Bool.{cases_lt}
use Rattle.dd_model.proofs.SmallerPlaces.{not_smaller_past}
use Rattle.dd_model.proofs.before.is_smaller_where_they_differ.Goals as goal

pub returns : goal.returns
returns c =
    let i = c.loop-k.invariant in
    let end : (length c.args.numbers.now ≤ c.loop-k.k) ⊎ (length c.args.others.now ≤ c.loop-k.k) =
    ⊎_elim (λ (less : length c.args.numbers.now < length c.args.others.now). inl (omega arith)) (λ (more : length c.args.others.now ≤ length c.args.numbers.now). inr (omega arith)) (cases_lt (length c.args.numbers.now) (length c.args.others.now)) in
    ((λ wrong. absurd cc), (λ h. absurd (not_smaller_past c.loop-k.k c.args.numbers.now c.args.others.now end (i.0 h))))
