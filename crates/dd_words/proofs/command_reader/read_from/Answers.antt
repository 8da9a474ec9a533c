use Rattle.std.proofs.Common.{◌≡◌, ◌∷◌, ◌∙◌, Err, map, sym, ap, subst}
use Rattle.std.proofs.lemmas.Result.{IfOk-weaker}
use Rattle.std.specs.Rc.{rc_str_bytes}
use Rattle.dd_words.specs.declared.commands.Command.{Command}
use Rattle.dd_words.specs.Grammar.{IsCommand}
use Rattle.dd_words.specs.FirstWords.{first_word}
use Rattle.dd_words.specs.Laying.{texts, arguments_in, settings_in}
use Rattle.dd_words.specs.Reading.{IsReadAs}
use Rattle.dd_words.proofs.Faults.{same_fault}
use Rattle.dd_words.proofs.ClapCommands.{not_passed, matched_single, matched_command, matched_not_read}
use Rattle.dd_words.proofs.command_reader.read_from.Goals as goal

pub returns-in_err-laid-clause-not_taken : goal.returns-in_err-laid-clause-not_taken
returns-in_err-laid-clause-not_taken c failed =
    let e : rc_str_bytes c.args.first.now ≡ first_word c.in-Some.verb = sym c.as_str.ensures.value ∙ c.in-Some.ensures.some in
    not_passed c.in-Some.verb (rc_str_bytes c.args.first.now) (map rc_str_bytes c.args.rest.now) e
    (c.in_err-laid.ensures.not_taken (ap Err (same_fault c.from_residual.result c.in_err-laid.field-0.0 c.from_residual.ensures.1 failed)))

pub invariant_of-settings : goal.invariant_of-settings
invariant_of-settings c =
    matched_single c.in-Some.verb (map rc_str_bytes c.args.rest.now) (arguments_in c.in_ok-laid.laid) (settings_in c.in_ok-laid.laid) c.in_ok-laid.ensures.matched

pub returns-clause-command : goal.returns-clause-command
returns-clause-command c =
    let e : rc_str_bytes c.args.first.now ≡ first_word c.in-Some.verb = sym c.as_str.ensures.value ∙ c.in-Some.ensures.some in
    IfOk-weaker c.read_command.result (IsReadAs c.in-Some.verb (texts c.as_slice-arguments.result.now) (settings_in c.in_ok-laid.laid))
    (IsCommand (rc_str_bytes c.args.first.now ∷ map rc_str_bytes c.args.rest.now))
    (λ d h. matched_command c.in-Some.verb (rc_str_bytes c.args.first.now) (map rc_str_bytes c.args.rest.now) (arguments_in c.in_ok-laid.laid) (settings_in c.in_ok-laid.laid) d e
    c.in_ok-laid.ensures.matched
    (subst (λ xs. IsReadAs c.in-Some.verb (texts xs) (settings_in c.in_ok-laid.laid) d) c.as_slice-arguments.ensures.value h))
    c.read_command.ensures.command

pub returns-clause-not_taken : goal.returns-clause-not_taken
returns-clause-not_taken c failed =
    let e : rc_str_bytes c.args.first.now ≡ first_word c.in-Some.verb = sym c.as_str.ensures.value ∙ c.in-Some.ensures.some in
    matched_not_read c.in-Some.verb (rc_str_bytes c.args.first.now) (map rc_str_bytes c.args.rest.now) (arguments_in c.in_ok-laid.laid) (settings_in c.in_ok-laid.laid) e
    c.in_ok-laid.ensures.matched
    (subst (λ xs. (d : Command) → IsReadAs c.in-Some.verb (texts xs) (settings_in c.in_ok-laid.laid) d → ⊥) c.as_slice-arguments.ensures.value
    (c.read_command.ensures.not_taken failed))
