use Rattle.std.proofs.Common.{◌≡◌, ℕ, ◌+◌, ◌-◌, ◌/◌, ◌++◌, length, take, drop, sym, ap, ◌∙◌, subst, arith}
use Rattle.std.proofs.lemmas.List.{length-append}
use Rattle.std.specs.Ordering.{is_gt}
use Rattle.dd_name.specs.Arranged.{IsGreatestRotation, dictionary}
use Rattle.dd_name.proofs.RotationLemmas.{IsBestBelow, part, best_starts, best_goes, best_stays, best_of_all}
use Rattle.dd_name.proofs.rotations.greatest_rotation.Goals as goal
use Rattle.dd_name.proofs.rotations.greatest_rotation.Goals.{then-is_gt, else-is_gt}

pub loop-k-init : goal.loop-k-init
loop-k-init c = best_starts c.args.doubled.now (length c.args.doubled.now / 2)

pub loop-k-preserved : goal.loop-k-preserved
loop-k-preserved c =
    let ds = c.args.doubled.now in
    let n = length ds / 2 in
    let k = c.loop-k.k in
    let best = c.loop-k.best in
    let near : k + n - k ≡ n = omega arith in
    let far : best + n - best ≡ n = omega arith in
    let order : c.is_gt.result ≡ is_gt (dictionary (part ds n k) (part ds n best)) =
    c.is_gt.ensures
    ∙ ap is_gt
    (c.cmp.ensures
    ∙ ap (λ (m : ℕ). dictionary (take m (drop k ds)) (take (best + n - best) (drop best ds))) near
    ∙ ap (λ (m : ℕ). dictionary (part ds n k) (take m (drop best ds))) far) in
    elim c.if-is_gt.branch [
      | then-is_gt w ↦
          subst (IsBestBelow ds n (k + 1)) (sym w.best-is)
          (best_goes ds n k best c.loop-k.invariant (omega arith) (sym order ∙ w.if-is_gt.true))
      | else-is_gt w ↦
          subst (IsBestBelow ds n (k + 1)) (sym w.best-is) (best_stays ds n k best c.loop-k.invariant (sym order ∙ w.if-is_gt.false))
    ]

pub returns : goal.returns
returns c xs twice =
    let n = length c.args.doubled.now / 2 in
    let best = c.loop-k.best in
    let half : n ≡ length xs = let l = ap length twice in let m = length-append xs xs in omega (arith, l, m) in
    let w : IsBestBelow (xs ++ xs) (length xs) c.loop-k.k best =
    subst (λ ds. IsBestBelow ds (length xs) c.loop-k.k best) twice (subst (λ m. IsBestBelow c.args.doubled.now m c.loop-k.k best) half c.loop-k.invariant) in
    let short : best + n - best ≡ length xs = omega arith in
    subst (λ m. IsGreatestRotation xs (take m (drop best c.args.doubled.now))) (sym short)
    (subst (λ ds. IsGreatestRotation xs (take (length xs) (drop best ds))) (sym twice)
    (best_of_all xs c.loop-k.k best (omega arith) (omega arith) w))
