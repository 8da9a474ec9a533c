use Rattle.std.proofs.Common.{◌+◌, sym, subst, arith}
use Rattle.dd_model.specs.Allowed.{IsIn}
use Rattle.dd_branch_degrees.proofs.Choices.{AreSharesBelow, all_shares_told, is_crystallographic, no_shares, share_added, share_passed}
use Rattle.dd_branch_degrees.proofs.places.shares_of.Goals as goal
use Rattle.dd_branch_degrees.proofs.places.shares_of.Goals.{then-value-ne5+then-has, else-value-ne5, else-value-ne5-via-then-value-ne5+else-has, else-value-ne5-via-else-value-ne5}

pub loop-value-init : goal.loop-value-init
loop-value-init c = record { below = no_shares c.args.set.now c.args.turns c.args.sides }

pub loop-value-preserved : goal.loop-value-preserved
loop-value-preserved c =
    let set = c.args.set.now in
    let r = c.args.turns in
    let n = c.loop-value.value in
    let sides = c.args.sides in
    let shares = c.loop-value.shares in
    let old = c.loop-value.invariant.below in
    let low = c.loop-value.auto.value in
    let high = c.loop-value-test.true in
    elim c.if-value-ne5.branch [
      | then-value-ne5+then-has w ↦ record {
        below = share_added set r sides shares n w.share_of.result c.if-value-ne5.shares old (is_crystallographic n (omega (arith, low)) (omega (arith, high)) w.if-value-ne5.true)
            (subst (IsIn set) w.from.ensures (w.has.ensures.0 w.if-has.true)) w.share_of.ensures.share (let small = w.share_of.ensures.small in omega (arith, small)) w.shares-is;
      }
      | else-value-ne5 w ↦ record {
        below = subst (λ m. AreSharesBelow set r sides m (n + 1)) (sym w.shares-is) (elim w.else-value-ne5.branch [
          | else-value-ne5-via-then-value-ne5+else-has w' ↦ share_passed set r sides shares n old (λ other allowed. let hit = w'.has.ensures.1 (subst (IsIn set) (sym w'.from.ensures) allowed) in let no' = w'.if-has.false in cc)
          | else-value-ne5-via-else-value-ne5 w' ↦ share_passed set r sides shares n old (λ other allowed. absurd (other w'.if-value-ne5.false))
        ]);
      }
    ]

pub returns : goal.returns
returns c = let past = c.loop-value-test.false in all_shares_told c.args.set.now c.args.turns c.args.sides c.loop-value.shares c.loop-value.value (omega (arith, past)) c.loop-value.invariant.below
