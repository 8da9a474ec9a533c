use Rattle.std.proofs.Common.{sym, subst}
use Rattle.dd_model.specs.declared.pair.Pair.{Pair}
use Rattle.dd_covers.specs.Torus.{IsSmoothAt}
use Rattle.dd_covers.proofs.tori.is_torus.Goals as goal

pub returns-then-not-is_smooth : goal.returns-then-not-is_smooth
returns-then-not-is_smooth c = (
  λ no. absurd (cc),
  λ torus.
      let yes = c.is_smooth.ensures.1 (λ (p : Pair). subst (λ t. IsSmoothAt t p) (sym c.symbol.ensures.same) (torus.smooth p)) in
      let no = c.if-not-is_smooth.true in absurd (cc),
)

pub returns : goal.returns
returns c = (
  λ yes. record {
    symbol = c.symbol.ensures.symbol.symbol;
    connected = c.symbol.ensures.connected;
    oriented = c.in_ok-is_oriented.ensures.0 yes;
    flat = c.is_flat.ensures.0 c.if-not-is_flat.false;
    smooth = λ p. subst (λ t. IsSmoothAt t p) c.symbol.ensures.same (c.is_smooth.ensures.0 c.if-not-is_smooth.false p);
  },
  λ torus. c.in_ok-is_oriented.ensures.1 torus.oriented,
)
