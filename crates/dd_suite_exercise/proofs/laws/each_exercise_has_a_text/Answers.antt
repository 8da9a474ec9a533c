use Rattle.dd_suite_exercise.proofs.TextExists.{text_exists}
use Rattle.dd_suite_exercise.proofs.laws.each_exercise_has_a_text.Goals as goal

pub returns : goal.returns
returns c = text_exists
