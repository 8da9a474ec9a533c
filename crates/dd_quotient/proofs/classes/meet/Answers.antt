use Rattle.std.proofs.Common.{sym, ap, ◌∙◌}
use Rattle.std.specs.Option.{option_copied}
use Rattle.dd_quotient.proofs.MeetLemmas.{met_new}
use Rattle.dd_quotient.proofs.classes.meet.Goals as goal

pub returns : goal.returns
returns c = met_new c.args.firsts.now c.insert.new.self c.args.signature c.args.chamber c.in_ok-insert.ensures.updates.0 (sym c.get.ensures.value ∙ ap option_copied c.in_default.is)
