use Rattle.std.proofs.Common.{Err, refl, ap, length, ◌<◌, ◌≤◌, rules, tests, arith}
use Rattle.dd_words.specs.Laying.{texts}
use Rattle.dd_words.proofs.Faults.{same_fault}
use Rattle.dd_words.proofs.ReadCommands.{read_as, one_text, no_catalogue, has_count}
use Rattle.dd_words.specs.declared.verbs.Verb.TheVariants.{Catalogue}
use Rattle.dd_words.proofs.command_reader.read_catalogue.Goals.{in_default-via-then-arguments-lt1, in_default-via-else-arguments-lt1+else-arguments-lt2}
use Rattle.dd_words.proofs.command_reader.read_catalogue.Goals as goal

pub returns-in_err-asked-clause-not_taken : goal.returns-in_err-asked-clause-not_taken
returns-in_err-asked-clause-not_taken c failed =
    no_catalogue (texts c.args.arguments.now) c.args.settings.now _ (one_text c.args.arguments.now _ c.in-len1.len_at_least c.in-len1.len_below)
    (c.in_err-asked.ensures.not_taken (ap Err (same_fault c.from_residual.result c.in_err-asked.field-0.0 c.from_residual.ensures.1 failed)))

pub returns-clause-command : goal.returns-clause-command
returns-clause-command c = read_as Catalogue _ _ _ _ (one_text c.args.arguments.now _ c.in-len1.len_at_least c.in-len1.len_below) refl c.in_ok-asked.ensures.asked

pub returns-in_default-clause-not_taken : goal.returns-in_default-clause-not_taken
returns-in_default-clause-not_taken c _ d h =
    let count = has_count Catalogue c.args.arguments.now _ d h in
    elim c.in_default.branch [
      | in_default-via-then-arguments-lt1 w ↦ let few : length c.args.arguments.now < 1 = search (rules, tests) in omega arith
      | in_default-via-else-arguments-lt1+else-arguments-lt2 w ↦ let many : 2 ≤ length c.args.arguments.now = search (rules, tests) in omega arith
    ]
