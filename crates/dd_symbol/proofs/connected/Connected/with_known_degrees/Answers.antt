use Rattle.std.proofs.Common.{sym, subst}
use Rattle.dd_model.specs.Connected.{Connected}
use Rattle.dd_model.specs.Small.{IsSmallSymbol}
use Rattle.dd_model.proofs.SameInvolutions.{connected-same}
use Rattle.dd_symbol.specs.Images.{with_degrees}
use Rattle.dd_symbol.proofs.TableLemmas.{with_same}
use Rattle.dd_symbol.proofs.connected.Connected.with_known_degrees.Goals as goal

pub invariant_of-result : goal.invariant_of-result
invariant_of-result c =
    let s = c.self.inside.symbol in
    let m01 = c.args.m01.now in
    let m12 = c.args.m12.now in
    let small = subst (λ t. IsSmallSymbol (with_degrees t m01 m12)) (sym c.self.view_is) c.requires in (
      subst Connected (sym c.in_ok-with_known_degrees.ensures) (connected-same s (with_degrees s m01 m12) (with_same s m01 m12) c.self.invariant.0),
      subst IsSmallSymbol (sym c.in_ok-with_known_degrees.ensures) small,
    )
