use Rattle.dd_text.proofs.LineTexts.{outline_same}
use Rattle.dd_text.proofs.outline.Outline.follow.Goals as goal

pub returns-else-not-has_involutions_of : goal.returns-else-not-has_involutions_of
returns-else-not-has_involutions_of c k is =
    outline_same k c.args.last.now c.args.next.now c.args.self.now (c.has_involutions_of.ensures.0 c.if-not-has_involutions_of.false) is
