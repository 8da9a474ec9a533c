-- Words that keep a checkpoint under a name, and words that go on from it.
use Rattle.std.specs.Prelude.{ℕ, List, [], ◌∷◌, Option, Some, codes}
use Rattle.dd_model.specs.declared.requests.Request.{Request}
use Rattle.dd_front_jobs.specs.Portions.{whole}
use Rattle.dd_check.specs.Calls.{Begin}
use Rattle.dd_suite_tasks.specs.Words.{AskForRun}

-- the words of a catalogue that keeps its checkpoint under the name
pub record AskToKeep (words : List (List ℕ)) (name : List ℕ) : Type 0 where
  pub request : Request
  pub round : ℕ
  pub pause : Option ℕ
  pub run : AskForRun words (record { task = Begin (whole request) (Some name); round = round; pause = pause })

-- the words that go on from the name, without settings
abbrev pub resume_words : List ℕ → List (List ℕ)
resume_words name = codes "resume" ∷ name ∷ []
