use Rattle.std.proofs.Common.{◌+◌, get_or, ap, length, ◌∙◌}
use Rattle.std.proofs.lemmas.List.{get_or_default, length_push}
use Rattle.dd_branch_degrees.proofs.TurnedDegrees.{automorphisms_more}
use Rattle.dd_branch_degrees.proofs.automorphisms.automorphisms_to.Goals as goal

pub to-requires-clause-start : goal.to-requires-clause-start
to-requires-clause-start c =
    let ds = c.args.starts.now in
    let k = c.loop-k.k in
    c.requires.starts (get_or ds k 0) (k, c.loop-k-test.true, get_or_default ds k (get_or ds k 0) 0 c.loop-k-test.true)

pub loop-k-preserved : goal.loop-k-preserved
loop-k-preserved c =
    let i = c.loop-k.invariant in
    let xs = c.loop-k.automorphisms.items in
    record {
      count = ap length c.in_ok-push.ensures.items ∙ length_push xs c.in-Some.automorphism ∙ ap (λ n. n + 1) i.count;
      each = automorphisms_more c.args.s.now c.args.starts.now c.loop-k.k xs c.push.new.self.items c.in-Some.automorphism i.count c.in_ok-push.ensures.items (rw c.in-Some.is at c.to.ensures) i.each;
    }
