use Rattle.dd_model.proofs.Transport.{Connected-along}
use Rattle.dd_symbol.proofs.connected.Connected.renumber.Goals as goal

pub invariant_of-result : goal.invariant_of-result
invariant_of-result c = (
  Connected-along c.self.inside.symbol c.in_ok-renumber.field-0 c.args.map.now c.self.invariant.1.symbol.table c.in_ok-renumber.ensures.isomorphism c.self.invariant.0,
  c.in_ok-renumber.ensures.symbol,
)
