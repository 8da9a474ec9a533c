use Rattle.std.proofs.Common.{Err, refl, sym, ap, subst, length, ◌<◌, ◌≤◌, rules, tests, arith}
use Rattle.dd_words.specs.Laying.{texts}
use Rattle.dd_words.proofs.ReadCommands.{some_one_text, no_resume, read_as, one_text, has_count}
use Rattle.dd_words.specs.declared.verbs.Verb.TheVariants.{Resume}
use Rattle.dd_words.proofs.Faults.{same_fault}
use Rattle.dd_words.specs.Values.{IsName}
use Rattle.dd_words.proofs.command_reader.read_resume.Goals.{in_default-via-then-arguments-lt1, in_default-via-else-arguments-lt1+else-arguments-lt2}
use Rattle.dd_words.proofs.command_reader.read_resume.Goals as goal

pub returns-in_default-read_run-clause-not_taken : goal.returns-in_default-read_run-clause-not_taken
returns-in_default-read_run-clause-not_taken c _ =
    let one = some_one_text c.args.arguments.now c.in-len1.len_at_least c.in-len1.len_below in
    no_resume (texts c.args.arguments.now) c.args.settings.now one.text one.is
    (λ name pace pause h. c.in_default-read_run.ensures.none pace pause h.run)

pub returns-in_err-read_name-clause-not_taken : goal.returns-in_err-read_name-clause-not_taken
returns-in_err-read_name-clause-not_taken c failed =
    no_resume (texts c.args.arguments.now) c.args.settings.now _ (one_text c.args.arguments.now _ c.in-len1.len_at_least c.in-len1.len_below)
    (λ name pace pause h. c.in_err-read_name.ensures.not_taken (ap Err (same_fault c.from_residual.result c.in_err-read_name.field-0.0 c.from_residual.ensures.1 failed)) (subst IsName (sym h.same) h.is_name))

pub returns-clause-command : goal.returns-clause-command
returns-clause-command c =
    read_as Resume _ _ _ _ (one_text c.args.arguments.now _ c.in-len1.len_at_least c.in-len1.len_below) refl
    (record { same = c.in_ok-read_name.ensures.same; is_name = c.in_ok-read_name.ensures.name; run = c.in-Some.ensures.some })

pub returns-in_default-clause-not_taken : goal.returns-in_default-clause-not_taken
returns-in_default-clause-not_taken c _ d h =
    let count = has_count Resume c.args.arguments.now _ d h in
    elim c.in_default.branch [
      | in_default-via-then-arguments-lt1 w ↦ let few : length c.args.arguments.now < 1 = search (rules, tests) in omega arith
      | in_default-via-else-arguments-lt1+else-arguments-lt2 w ↦ let many : 2 ≤ length c.args.arguments.now = search (rules, tests) in omega arith
    ]
