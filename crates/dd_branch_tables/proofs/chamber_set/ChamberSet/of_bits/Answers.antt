use Rattle.std.proofs.Common.{arith}
use Rattle.dd_model.proofs.LowestBits.{two_upto, bit_masked, bit_past_mask}
use Rattle.dd_branch_tables.proofs.chamber_set.ChamberSet.of_bits.Goals as goal

pub overflow_sub-result : goal.overflow_sub-result
overflow_sub-result c = two_upto c.args.last c.requires

pub invariant_of-result : goal.invariant_of-result
invariant_of-result c = record {
  chambers = λ d told. let past = bit_past_mask c.args.bits c.args.last d c.requires told in let last = c.requires in omega (arith, past, last);
}

pub returns : goal.returns
returns c = record {
  inside = λ d low high none. bit_masked c.args.bits c.args.last d low high c.requires none;
  past = λ d told. bit_past_mask c.args.bits c.args.last d c.requires told;
}
