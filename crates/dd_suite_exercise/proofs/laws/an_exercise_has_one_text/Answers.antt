use Rattle.dd_suite_exercise.proofs.OneText.{text_once}
use Rattle.dd_suite_exercise.proofs.laws.an_exercise_has_one_text.Goals as goal

pub returns : goal.returns
returns c = text_once
