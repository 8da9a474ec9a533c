use Rattle.std.proofs.Common.{◌≡◌, ◌++◌, [], ◌∷◌, ap, ◌∙◌}
use Rattle.dd_template.specs.Entries.{entries}
use Rattle.dd_template.specs.Made.{degree_of, degree_from}
use Rattle.dd_template.specs.Table.{table_of}
use Rattle.dd_template.proofs.ApplyLemmas.{one_part_more}
use Rattle.dd_template.proofs.tables.Template.push_degrees.Goals as goal

pub loop-part-preserved : goal.loop-part-preserved
loop-part-preserved g c =
    let f = degree_from c.args.s.now (entries (table_of c.args.self.now) c.args.pair) c.args.chamber in
    let here : c.degree_at.result ≡ f c.loop-part.part = c.degree_at.ensures ∙ ap (λ e. degree_of c.args.s.now e c.args.chamber) c.entry_of.ensures in
    ◌∙◌ {b = c.loop-part.degrees.items ++ c.degree_at.result ∷ []} c.in_ok-push.ensures.items
    (one_part_more c.args.degrees.now.items c.loop-part.degrees.items f c.loop-part.part c.degree_at.result c.loop-part.invariant here)
