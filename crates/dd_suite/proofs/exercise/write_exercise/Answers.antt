use Rattle.std.proofs.Common.{subst}
use Rattle.dd_ports.specs.Grows.{GrowsByPrefix}
use Rattle.dd_suite_exercise.proofs.OneText.{text_once}
use Rattle.dd_suite.proofs.exercise.write_exercise.Goals as goal

pub returns-in-Ok-clause-prefix : goal.returns-in-Ok-clause-prefix
returns-in-Ok-clause-prefix g c text is =
    let old = g.O.Sink.held c.args.out.now in
    let new = g.O.Sink.held c.write_text.new.out in
    subst (GrowsByPrefix old new) (text_once c.args.start c.args.count c.in-Ok.text.items text c.in-Ok.ensures is)
    (subst (GrowsByPrefix old new) c.deref.ensures.value c.write_text.ensures.prefix)
