use Rattle.std.proofs.Common.{Err, ap, refl, length, ◌<◌, ◌≤◌, rules, tests, arith}
use Rattle.dd_words.specs.Laying.{texts}
use Rattle.dd_words.proofs.Faults.{same_fault}
use Rattle.dd_words.proofs.ReadCommands.{two_and_third, two_before_third, no_shard, read_as, three_texts, has_count}
use Rattle.dd_words.specs.declared.verbs.Verb.TheVariants.{Shard}
use Rattle.dd_words.proofs.command_reader.read_shard.Goals.{in_default-via-then-arguments-lt3, in_default-via-else-arguments-lt3+else-arguments-lt4}
use Rattle.dd_words.proofs.command_reader.read_shard.Goals as goal

pub returns-in_default-shard_of-clause-not_taken : goal.returns-in_default-shard_of-clause-not_taken
returns-in_default-shard_of-clause-not_taken c _ =
    let all = two_and_third c.args.arguments.now _ _ c.in-len3.len_at_least c.in-len3.len_below in
    no_shard (texts c.args.arguments.now) c.args.settings.now _ _ all.0 all.1
    (λ shard q pace pause checkpoint h. c.in_default-shard_of.ensures.none shard h.shard_is)

pub returns-in_err-asked-clause-not_taken : goal.returns-in_err-asked-clause-not_taken
returns-in_err-asked-clause-not_taken c failed =
    let all = two_before_third c.args.arguments.now _ c.in-len3.len_at_least c.in-len3.len_below in
    no_shard (texts c.args.arguments.now) c.args.settings.now all.0 all.1 _ all.2
    (λ shard q pace pause checkpoint h.
    c.in_err-asked.ensures.not_taken (ap Err (same_fault c.from_residual.result c.in_err-asked.field-0.0 c.from_residual.ensures.1 failed)) q pace pause checkpoint h.catalogue)

pub returns-clause-command : goal.returns-clause-command
returns-clause-command c =
    read_as Shard _ _ _ _ (three_texts c.args.arguments.now _ _ _ c.in-len3.len_at_least c.in-len3.len_below) refl
    (record { shard_is = c.in-Some.ensures.some; catalogue = c.in_ok-asked.ensures.asked })

pub returns-in_default-clause-not_taken : goal.returns-in_default-clause-not_taken
returns-in_default-clause-not_taken c _ d h =
    let count = has_count Shard c.args.arguments.now _ d h in
    elim c.in_default.branch [
      | in_default-via-then-arguments-lt3 w ↦ let few : length c.args.arguments.now < 3 = search (rules, tests) in omega arith
      | in_default-via-else-arguments-lt3+else-arguments-lt4 w ↦ let many : 4 ≤ length c.args.arguments.now = search (rules, tests) in omega arith
    ]
