use Rattle.std.proofs.Common.{◌≡◌, ◌≢◌, ◌<◌, get_or, length, length-set, set, sym, ap, ◌∙◌, subst, ⊎_elim, arith}
use Rattle.std.proofs.lemmas.Bool.{cases_eq}
use Rattle.std.proofs.lemmas.List.{get_or-set_same, get_or-set_other}
use Rattle.dd_branch_bounds.specs.Classes.{IsClassWeight}
use Rattle.dd_branch_bounds.proofs.class_shares.ClassShares.of.Goals as goal

pub loop-class-preserved : goal.loop-class-preserved
loop-class-preserved c =
    let q = c.args.request.now in
    let p = c.args.pair in
    let xs = c.loop-class.weights in
    let k = c.from.result in
    let v = c.weight_of_class.result in
    let at = c.from.ensures in
    let room = c.loop-class.invariant.room in
    let test = c.loop-class-test.true in
    let low : k < length xs = omega (arith, at, room, test) in
    record {
      room = length-set xs k v ∙ room;
      each = λ d below. ⊎_elim
          (λ (here : d ≡ k).
          subst (IsClassWeight q p c.args.size d) (sym (ap (λ j. get_or (set xs k v) j 0) here ∙ get_or-set_same xs k v 0 low)) (subst (λ e. IsClassWeight q p c.args.size e v) (sym (here ∙ at)) c.weight_of_class.ensures))
          (λ (other : d ≢ k). subst (IsClassWeight q p c.args.size d) (sym (get_or-set_other xs k d v 0 other)) (c.loop-class.invariant.each d (omega (arith, below, at, other))))
          (cases_eq d k);
    }
