use Rattle.std.proofs.Common.{◌-◌, length}
use Rattle.dd_suite_exercise.proofs.ExchangeLemmas.{IsExchanging}
use Rattle.dd_suite_exercise.proofs.renumbering.exchange.Given as goal

abbrev pub invariant-loop-last : goal.invariant-loop-last
invariant-loop-last l = IsExchanging l.last l.generator l.list.items (length l.fn.list.items - 1) l.fn.generator l.fn.list.items

abbrev pub decreases-loop-last : goal.decreases-loop-last
decreases-loop-last l = l.last
