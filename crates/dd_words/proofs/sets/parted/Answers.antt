use Rattle.std.proofs.lemmas.Str.Pattern.{split_parts}
use Rattle.dd_words.proofs.Parting.{parted_some, parted_none}
use Rattle.dd_words.proofs.sets.parted.Goals as goal

pub returns-clause-some : goal.returns-clause-some
returns-clause-some c =
    parted_some c.args.separator c.args.text.now c.split_once.result (split_parts c.args.separator c.args.text.now c.split_once.result c.split_once.ensures.cases c.requires)

pub returns-clause-none : goal.returns-clause-none
returns-clause-none c =
    parted_none c.args.separator c.args.text.now c.split_once.result (split_parts c.args.separator c.args.text.now c.split_once.result c.split_once.ensures.cases c.requires)
