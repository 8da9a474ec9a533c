use Rattle.std.proofs.Common.{refl}
use Rattle.dd_canon.proofs.BestLemmas.{least_numbering}
use Rattle.dd_canon.proofs.forms.least_form.Goals as goal

pub returns : goal.returns
returns c =
    let best = c.in_ok-best.ensures.best in
    least_numbering c.args.s.now c.args.s.now.size c.in_ok-best.best best.home.symbol.symbol best.home.connected refl best
