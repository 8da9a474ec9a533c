use Rattle.std.proofs.Common.{arith}
use Rattle.dd_model.proofs.AllIndices.{none_at_places, more_places, each_index}
use Rattle.dd_symbol.specs.Images.{rows_of}
use Rattle.dd_symbol.specs.Conditions.{IsWithin, IsInvolutive}
use Rattle.dd_symbol.proofs.RefusalLemmas.{index_before}
use Rattle.dd_symbol.proofs.code_rows.CodeRows.check.Goals as goal

pub loop-i-init : goal.loop-i-init
loop-i-init c = none_at_places (IsWithin (rows_of c.args.self.now))

pub check_range-requires : goal.check_range-requires
check_range-requires c = record { before = index_before (IsWithin (rows_of c.args.self.now)) c.loop-i.i-index c.loop-i-test.true c.loop-i.invariant }

pub loop-i-preserved : goal.loop-i-preserved
loop-i-preserved c = more_places (IsWithin (rows_of c.args.self.now)) c.loop-i.i-index c.loop-i.invariant c.in_ok-check_range.ensures.within

pub loop-i-2-init : goal.loop-i-2-init
loop-i-2-init c = record {
  within = each_index (IsWithin (rows_of c.args.self.now)) (λ k h. c.loop-i.invariant k (omega arith));
  involutive = none_at_places (IsInvolutive (rows_of c.args.self.now));
}

pub check_inverse-requires-clause-before : goal.check_inverse-requires-clause-before
check_inverse-requires-clause-before c = index_before (IsInvolutive (rows_of c.args.self.now)) c.loop-i-2.i-index c.loop-i-2-test.true c.loop-i-2.invariant.involutive

pub loop-i-2-preserved : goal.loop-i-2-preserved
loop-i-2-preserved c = record {
  within = c.loop-i-2.invariant.within;
  involutive = more_places (IsInvolutive (rows_of c.args.self.now)) c.loop-i-2.i-index c.loop-i-2.invariant.involutive c.in_ok-check_inverse.ensures.involutive;
}

pub returns-clause-involutions : goal.returns-clause-involutions
returns-clause-involutions c i = record {
  within = c.loop-i-2.invariant.within i;
  involutive = each_index (IsInvolutive (rows_of c.args.self.now)) (λ k h. c.loop-i-2.invariant.involutive k (omega arith)) i;
}
