use Rattle.std.proofs.Common.{[], subst}
use Rattle.dd_symbol.specs.Building.{listed}
use Rattle.dd_symbol.specs.Refusals.{IsInvolutionsFault}
use Rattle.dd_symbol.proofs.TableLemmas.{listed-from_rows, three_of_code}
use Rattle.dd_symbol.proofs.RefusalLemmas.{fault_of_rows, handed_on}
use Rattle.dd_symbol.proofs.involutions.Involutions.from_lists.Goals as goal

pub returns-in_err-check-clause-why : goal.returns-in_err-check-clause-why
returns-in_err-check-clause-why c =
    let same = listed-from_rows c.args.lists.now.s0.now c.args.lists.now.s1.now c.args.lists.now.s2.now _ c.args.lists.now.ones c.args.lists.now.twos c.in_ok-numbers.ensures in
    let why = c.in_err-check.field-0.0 in
    handed_on c.from_residual-in_err-check.result (IsInvolutionsFault (listed c.args.lists.now.s0.now c.args.lists.now.s1.now c.args.lists.now.s2.now [] [])) why
    c.from_residual-in_err-check.ensures.1 (subst (λ s. IsInvolutionsFault s why) same (fault_of_rows _ why c.in_err-check.ensures.why))

pub invariant_of-result : goal.invariant_of-result
invariant_of-result c = three_of_code _ c.in_ok-numbers.numbers c.args.lists.now.small c.in_ok-check.ensures.involutions

pub returns-clause-same : goal.returns-clause-same
returns-clause-same c = listed-from_rows c.args.lists.now.s0.now c.args.lists.now.s1.now c.args.lists.now.s2.now _ c.args.lists.now.ones c.args.lists.now.twos c.in_ok-numbers.ensures
