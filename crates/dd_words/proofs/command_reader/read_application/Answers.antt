use Rattle.std.proofs.Common.{refl, length, ◌<◌, ◌≤◌, rules, tests, arith}
use Rattle.dd_words.specs.declared.verbs.Verb.TheVariants.{Apply}
use Rattle.dd_words.proofs.ReadCommands.{read_as, two_texts, has_count}
use Rattle.dd_words.proofs.command_reader.read_application.Goals.{in_default-via-then-arguments-lt2, in_default-via-else-arguments-lt2+else-arguments-lt3}
use Rattle.dd_words.proofs.command_reader.read_application.Goals as goal

pub returns-clause-command : goal.returns-clause-command
returns-clause-command c =
    read_as Apply _ _ _ _ (two_texts c.args.arguments.now _ _ c.in-len2.len_at_least c.in-len2.len_below) refl
    (record { word_is = c.in-Some.ensures; same = c.in_ok-file.ensures.same; is_name = c.in_ok-file.ensures.name })

pub returns-in_default-clause-not_taken : goal.returns-in_default-clause-not_taken
returns-in_default-clause-not_taken c _ d h =
    let count = has_count Apply c.args.arguments.now _ d h in
    elim c.in_default.branch [
      | in_default-via-then-arguments-lt2 w ↦ let few : length c.args.arguments.now < 2 = search (rules, tests) in omega arith
      | in_default-via-else-arguments-lt2+else-arguments-lt3 w ↦ let many : 3 ≤ length c.args.arguments.now = search (rules, tests) in omega arith
    ]
