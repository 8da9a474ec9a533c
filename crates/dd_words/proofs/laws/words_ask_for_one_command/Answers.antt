use Rattle.dd_words.proofs.ReadCommands.{one_command}
use Rattle.dd_words.proofs.laws.words_ask_for_one_command.Goals as goal

pub returns : goal.returns
returns c = one_command
