use Rattle.std.proofs.Common.{◌≡◌, ℕ, List, Option, None, Some, IfSome, map, refl, subst}
use Rattle.std.specs.Rc.{rc_str_bytes}
use Rattle.dd_model.specs.declared.requests.Request.{Request}
use Rattle.dd_front_jobs.specs.declared.pace.Pace.{Pace}
use Rattle.dd_words.specs.Grammar.{IsCommand}
use Rattle.dd_words.specs.declared.commands.Command.{Command}
use Rattle.dd_words.specs.declared.commands.Command.TheVariants.{Catalogue}
use Rattle.dd_suite_chains.specs.Words.{AskToKeep}
use Rattle.dd_test_top_call_of_suite.proofs.drive_trials.kept_name.Goals as goal

-- words of a catalogue that names a checkpoint
kept : (words : List (List ℕ)) (c : Command) (q : Request) (pace : Pace) (pause : Option ℕ) (name : Option (List ℕ)) → c ≡ Catalogue q pace pause name → IsCommand words c
    → IfSome name (AskToKeep words)
kept words c q pace pause None is asked = tt
kept words c q pace pause (Some name) is asked =
    record { request = q; round = pace.round; pause = pause; run = record { pace = pace; round_is = refl; command = subst (IsCommand words) is asked } }

pub returns-in-Catalogue : goal.returns-in-Catalogue
returns-in-Catalogue c =
    let read = c.in-Catalogue in
    kept (map rc_str_bytes c.args.words.now) c.in-Ok.command read.request read.pace read.pause read.checkpoint read.is c.in-Ok.ensures.command
