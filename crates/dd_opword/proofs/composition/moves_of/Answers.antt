use Rattle.std.proofs.Common.{None, ◌∙◌, arith}
use Rattle.dd_template.specs.Table.{table_of, move}
use Rattle.dd_opword.specs.Composed.{composed_move}
use Rattle.dd_opword.proofs.ComposedParts.{same_as_both}
use Rattle.dd_opword.proofs.composition.moves_of.Goals as goal

pub returns : goal.returns
returns g c =
    let outer = table_of c.args.outer.now in
    let inner = table_of c.args.inner.now in
    let kept = c.loop-part.invariant in
    same_as_both outer inner (λ y x. composed_move outer inner y (move outer c.args.index x)) (record { by = None; to = 0 }) c.loop-part.moves
    c.requires.together.outer_lawful.lists.some (kept.length ∙ c.requires.parts) (λ z h. kept.set z (omega (arith, c.requires.parts, c.loop-part-test.false)))
