use Rattle.dd_suite_exercise.proofs.ItemSizes.{item_most}
use Rattle.dd_suite_exercise.proofs.laws.items_have_at_most_384_chambers.Goals as goal

pub returns : goal.returns
returns c = item_most
