use Rattle.std.proofs.Common.{sym, ◌∙◌}
use Rattle.dd_words.proofs.ReadCommands.{no_checkpoint, some_told, none_told}
use Rattle.dd_words.proofs.command_reader.read_asked.Goals as goal

pub returns-in_default-clause-not_taken : goal.returns-in_default-clause-not_taken
returns-in_default-clause-not_taken c _ q pace pause checkpoint h = c.in_default.ensures.none q h.request

pub returns-in_default-read_run-clause-not_taken : goal.returns-in_default-read_run-clause-not_taken
returns-in_default-read_run-clause-not_taken c _ q pace pause checkpoint h = c.in_default-read_run.ensures.none pace pause h.run

pub returns-then-is_none-clause-not_taken : goal.returns-then-is_none-clause-not_taken
returns-then-is_none-clause-not_taken c _ =
    no_checkpoint c.args.settings.now c.args.chambers.now c.in-Some-read_run.run'.pause c.in_ok-checkpoint.checkpoint c.in_ok-checkpoint.ensures.single
    c.in-Some-read_run.ensures.some.pause_is c.in_ok-checkpoint.ensures.given
    (some_told c.in-Some-read_run.run'.pause (sym c.is_some.ensures ∙ c.if-is_some.true))
    (none_told c.in_ok-checkpoint.checkpoint c.is_none.result c.is_none.ensures c.if-is_none.true)
