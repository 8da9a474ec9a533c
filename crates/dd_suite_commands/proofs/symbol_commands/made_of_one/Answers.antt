use Rattle.std.proofs.Common.{rules}
use Rattle.dd_suite_commands.proofs.symbol_commands.made_of_one.Goals as goal

pub returns-in_ok-least_form-in-Canon-clause-made :
    goal.returns-in_ok-least_form-in-Canon-clause-made
returns-in_ok-least_form-in-Canon-clause-made c = search rules
