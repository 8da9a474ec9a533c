use Rattle.dd_covers.proofs.WantLemmas.{wanted_more}
use Rattle.dd_covers.proofs.wanted_values.first_wants.Goals as goal

pub loop-j-preserved : goal.loop-j-preserved
loop-j-preserved c =
    let one = c.want.ensures in
    let two = c.want-in-loop-j.ensures in
    let three = c.want-in-loop-j-2.ensures in
    record {
      size = three.size;
      few = three.few;
      each = wanted_more c.args.s.now c.args.k c.loop-j.j c.loop-j.wants.items c.want.new.wants.items c.want-in-loop-j.new.wants.items c.want-in-loop-j-2.new.wants.items
          c.loop-j.invariant.each one.own one.kept two.own two.kept three.own three.kept;
    }
