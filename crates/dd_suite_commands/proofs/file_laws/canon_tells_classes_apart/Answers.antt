use Rattle.dd_suite_commands.proofs.CanonTexts.{canon_equal, canon_apart}
use Rattle.dd_suite_commands.proofs.file_laws.canon_tells_classes_apart.Goals as goal

pub returns : goal.returns
returns c = record { equal = canon_equal; apart = canon_apart }
