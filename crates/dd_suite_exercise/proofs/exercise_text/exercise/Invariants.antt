use Rattle.dd_suite_exercise.specs.Seeds.{AreSeeds}
use Rattle.dd_suite_exercise.proofs.TallyLemmas.{IsTold}
use Rattle.dd_suite_exercise.proofs.exercise_text.exercise.Given as goal

abbrev pub invariant-loop : goal.invariant-loop
invariant-loop l = AreSeeds l.seeds.items × IsTold l.seeds.items l.fn.start l.counter l.generator l.tally
