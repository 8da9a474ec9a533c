use Rattle.std.proofs.Common.{rules}
use Rattle.dd_suite_commands.proofs.symbol_commands.derived.Goals as goal

pub returns-in-Err-TooManyChambers-clause-why : goal.returns-in-Err-TooManyChambers-clause-why
returns-in-Err-TooManyChambers-clause-why c = search rules

pub returns-clause-form : goal.returns-clause-form
returns-clause-form c = search rules
