use Rattle.std.proofs.Common.{◌≡◌, ◌≤◌, ◌+◌, sym, subst, rules, ◌∙◌}
use Rattle.std.proofs.lemmas.List.{get_or_default}
use Rattle.dd_shard.specs.Doubles.{IsPlaceOf}
use Rattle.dd_shard.proofs.LeastDoubles.{IsLeast, apart_here, double_here}
use Rattle.dd_shard.proofs.doubles.least_double.Goals as goal
use Rattle.dd_shard.proofs.doubles.least_double.Goals.{then-are_equal, else-are_equal}

pub loop-k-preserved : goal.loop-k-preserved
loop-k-preserved c =
    let ms = c.args.members.now in
    let k = c.loop-k.k in
    let a = c.index-members-k.result in
    let b = c.index-members-k-in-loop-k.result in
    let low : 1 ≤ k = search rules in
    elim c.if-are_equal.branch [
      | then-are_equal w ↦
          let own = w.index-members-k-then-are_equal in
          let here : own.result ≡ b = own.is ∙ get_or_default ms k own.result b c.loop-k-test.true ∙ sym c.index-members-k-in-loop-k.is in
          subst (IsLeast ms (k + 1)) (sym w.least-is)
          (double_here ms k a b c.loop-k.least w.place.result w.earliest.result c.loop-k-test.true low c.index-members-k.is c.index-members-k-in-loop-k.is
          (c.are_equal.ensures.same w.if-are_equal.true) (subst (λ m. IsPlaceOf m w.place.result) here w.place.ensures) w.earliest.ensures c.loop-k.invariant)
      | else-are_equal w ↦
          subst (IsLeast ms (k + 1)) (sym w.least-is)
          (apart_here ms k a b c.loop-k.least c.loop-k-test.true low c.index-members-k.is c.index-members-k-in-loop-k.is
          (λ e. let yes = c.are_equal.ensures.equal.1 e in let no = w.if-are_equal.false in cc) c.loop-k.invariant)
    ]
