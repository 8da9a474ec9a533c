-- Where words keep a checkpoint under a name, the words that go on from it are taken.
use Rattle.std.proofs.Common.{ℕ, arith, List, [], ◌∷◌, Option, Some, None, inl, refl}
use Rattle.dd_model.specs.declared.requests.Request.{Request}
use Rattle.dd_words.specs.Given.{Given}
use Rattle.dd_words.specs.Grammar.{IsSaid, IsCommand}
use Rattle.dd_words.specs.Layout.{IsPlain, argument, nothing}
use Rattle.dd_words.specs.Values.{IsName}
use Rattle.dd_words.specs.declared.commands.Command.TheVariants as command
use Rattle.dd_front_jobs.specs.Portions.{whole}
use Rattle.dd_front_jobs.specs.declared.pace.Pace.{Pace}
use Rattle.dd_check.specs.declared.checkpoint.ResumeKind.TheVariants.{Catalogues}
use Rattle.dd_check.specs.Calls.{Begin, Resume}
use Rattle.dd_suite_tasks.specs.Words.{Order, AskForRun}
use Rattle.dd_suite_chains.specs.Words.{AskToKeep, resume_words}

-- what is asked for by the words that go on from the name
abbrev pub resume_order : List ℕ → Order
resume_order name = record { task = Resume Catalogues name; round = 64; pause = None }

abbrev pub first_order : {words : List (List ℕ)} {name : List ℕ} → AskToKeep words name → Order
first_order {words} {name} asked = record { task = Begin (whole asked.request) (Some name); round = asked.round; pause = asked.pause }

plain : (name : List ℕ) → IsName name → IsPlain name
plain [] is = absurd is
plain (byte ∷ bytes) is = is

-- a name under which a checkpoint is kept is a name
kept_name : (xs : List (List ℕ)) (given : List Given) (q : Request) (pace : Pace) (pause : Option ℕ) (name : List ℕ)
    → IsSaid (command.Catalogue q pace pause (Some name)) xs given → IsName name
kept_name [] given q pace pause name is = absurd is
kept_name (x ∷ []) given q pace pause name is = is.checkpoint_is.1
kept_name (x ∷ y ∷ xs) given q pace pause name is = absurd is

-- one worker and 64 jobs in a round
abbrev common_pace : Pace
common_pace = record { workers = 1; round = 64; some_workers = omega arith; few_workers = omega arith; some_jobs = omega arith }

resumed : (name : List ℕ) → IsName name → IsCommand (resume_words name) (command.Resume name common_pace None)
resumed name is = record {
  rest = name ∷ [];
  arguments = name ∷ [];
  settings = [];
  first = refl;
  laid = record { layout = argument name nothing; fits = (plain name is, tt); words_are = refl; arguments_are = refl; settings_are = refl };
  single = tt;
  said = record { same = refl; is_name = is; run = record { workers_are = inl (tt, refl); round_is = inl (tt, refl); pause_is = tt } };
}

pub resume_asked : (words : List (List ℕ)) (name : List ℕ) → AskToKeep words name → AskForRun (resume_words name) (resume_order name)
resume_asked words name asked =
    let c = asked.run.command in
    record { pace = common_pace; round_is = refl; command = resumed name (kept_name c.arguments c.settings asked.request asked.run.pace asked.pause name c.said) }
