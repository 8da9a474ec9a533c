use Rattle.dd_covers.proofs.PushLemmas.{chamber_more}
use Rattle.std.proofs.Common.{◌+◌, refl}
use Rattle.dd_covers.proofs.sheets.push_chambers.Goals as goal

pub loop-j-preserved : goal.loop-j-preserved
loop-j-preserved c =
    chamber_more c.loop-j.j (c.loop-j.j + 1) c.args.below.now.items c.loop-j.below.items c.push.new.self.items c.loop-j.invariant c.in_ok-push.ensures.items refl
