use Rattle.dd_model.specs.Symbol.{degree}
use Rattle.dd_covers.proofs.PushLemmas.{pushed_more}
use Rattle.dd_covers.proofs.sheets.push_degrees.Goals as goal

pub loop-j-preserved : goal.loop-j-preserved
loop-j-preserved c =
    pushed_more (degree c.args.symbol.now c.args.pair) c.loop-j.j c.degree.result c.args.degrees.now.items c.loop-j.degrees.items c.push.new.self.items
    c.loop-j.invariant c.in_ok-push.ensures.items c.degree.ensures
