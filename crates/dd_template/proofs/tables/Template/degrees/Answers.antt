use Rattle.dd_template.specs.Entries.{entries}
use Rattle.dd_template.specs.Made.{degree_from, of_chamber}
use Rattle.dd_template.specs.Table.{table_of}
use Rattle.dd_template.proofs.ApplyLemmas.{one_chamber_more}
use Rattle.dd_template.proofs.tables.Template.degrees.Goals as goal

pub loop-k-preserved : goal.loop-k-preserved
loop-k-preserved g c =
    let t = table_of c.args.self.now in
    one_chamber_more c.loop-k.degrees.items c.push_degrees.new.degrees.items (of_chamber t (degree_from c.args.s.now (entries t c.args.pair))) c.loop-k.k
    c.loop-k.invariant c.in_ok-push_degrees.ensures
