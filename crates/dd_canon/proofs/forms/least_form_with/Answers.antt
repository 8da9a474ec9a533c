use Rattle.std.proofs.Common.{refl}
use Rattle.dd_canon.proofs.BestLemmas.{least_numbering}
use Rattle.dd_canon.proofs.forms.least_form_with.Goals as goal

pub returns : goal.returns
returns c =
    let best = c.in_ok-improve_to_end.ensures.best in
    least_numbering c.args.s.now c.args.s.now.size c.improve_to_end.new.self best.home.symbol.symbol best.home.connected refl best
