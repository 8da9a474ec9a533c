use Rattle.std.proofs.Common.{◌≡◌, ◌+◌, ap, ◌∙◌, arith}
use Rattle.dd_model.specs.declared.pair.Pair.TheVariants.{Edge}
use Rattle.dd_model.specs.Symbol.{turn, act}
use Rattle.dd_model.specs.Cell.{turned}
use Rattle.dd_symbol.proofs.involutions.Involutions.check_commuting.Goals as goal

pub returns-then-turned-chamber-clause-why : goal.returns-then-turned-chamber-clause-why
returns-then-turned-chamber-clause-why c =
    let s = c.args.self.now in
    let d = c.loop-k.k + 1 in
    let image : c.turned.result ≡ turned s Edge 2 d = c.turned.ensures.image ∙ ap (act s (turn Edge)) c.turned-once.ensures.image in
    record {
      involutions = c.turned.ensures.three.involutions;
      first = record {
        chamber = (omega arith, omega arith);
        fails = λ e. c.if-turned-chamber.true (image ∙ e);
        before = λ e h below. c.loop-k.invariant e h (omega arith);
      };
    }
