use Rattle.dd_model.proofs.ReadingExamples.{comments}
use Rattle.dd_model.proofs.reading_laws.comments_spell_nothing.Goals as goal

pub returns : goal.returns
returns c = comments
