use Rattle.std.proofs.Common.{⊎_elim, arith}
use Rattle.std.proofs.lemmas.Bool.{cases_lt}
use Rattle.dd_branch_degrees.proofs.Bits.{highest_set, none_higher}
use Rattle.dd_branch_degrees.proofs.places.most_part.Goals as goal

pub returns-clause-most : goal.returns-clause-most
returns-clause-most c e told = ⊎_elim
    (λ above. absurd (let none = none_higher c.args.shares c.ilog2.result e c.ilog2.ensures.next_power_gt above in omega (arith, none, told)))
    (λ low. omega (arith, low))
    (cases_lt c.ilog2.result e)

pub returns-clause-small : goal.returns-clause-small
returns-clause-small c =
    let low = c.requires.shares c.ilog2.result (highest_set c.args.shares c.ilog2.result c.ilog2.ensures.power_le c.ilog2.ensures.next_power_gt) in
    omega (arith, low)
