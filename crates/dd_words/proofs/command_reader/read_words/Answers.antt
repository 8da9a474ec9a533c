use Rattle.std.proofs.Common.{IfOk, sym, subst}
use Rattle.dd_words.specs.declared.commands.Command.{Command}
use Rattle.dd_words.specs.Grammar.{IsCommand}
use Rattle.dd_words.proofs.WordLists.{first_and_rest}
use Rattle.dd_words.proofs.command_reader.read_words.Goals as goal

pub returns-clause-not_taken : goal.returns-clause-not_taken
returns-clause-not_taken c failed =
    let same = first_and_rest c.args.words.now c.first-item.result c.in-len1-up.len_at_least c.first-item.is in
    subst (λ ws. (d : Command) → IsCommand ws d → ⊥) (sym same) (c.read_from.ensures.not_taken failed)

pub returns-clause-command : goal.returns-clause-command
returns-clause-command c =
    let same = first_and_rest c.args.words.now c.first-item.result c.in-len1-up.len_at_least c.first-item.is in
    subst (λ ws. IfOk c.read_from.result (IsCommand ws)) (sym same) c.read_from.ensures.command
