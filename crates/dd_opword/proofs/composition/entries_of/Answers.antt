use Rattle.std.proofs.Common.{◌∙◌, arith}
use Rattle.dd_template.specs.Table.{table_of, entry}
use Rattle.dd_template.specs.Entries.{entries}
use Rattle.dd_template.specs.declared.tables.Degree.TheVariants.{Fixed}
use Rattle.dd_opword.specs.Composed.{composed_degree}
use Rattle.dd_opword.proofs.ComposedParts.{same_as_both}
use Rattle.dd_opword.proofs.composition.entries_of.Goals as goal

pub returns : goal.returns
returns g c =
    let outer = table_of c.args.outer.now in
    let inner = table_of c.args.inner.now in
    let kept = c.loop-part.invariant in
    same_as_both outer inner (λ y x. composed_degree inner y (entry (entries outer c.args.pair) x)) (Fixed 0) c.loop-part.entries
    c.requires.together.outer_lawful.lists.some (kept.length ∙ c.requires.parts) (λ z h. kept.set z (omega (arith, c.requires.parts, c.loop-part-test.false)))
