use Rattle.std.proofs.Common.{◌≢◌, ℕ, ◌+◌, ◌-◌, arith}
use Rattle.dd_front.specs.Places.{IsPlaceOf}
use Rattle.dd_front.proofs.Placed.{within, place_own, place_apart, one_farther, none_farther}
use Rattle.dd_front.proofs.lookups.place_near.Goals as goal
use Rattle.dd_front.proofs.lookups.place_near.Goals.{else-step-near-via-then-step-near+else-entries-near, else-step-near-via-else-step-near}
use Rattle.dd_front.proofs.lookups.place_near.Goals.{else-step-entries-via-then-step-entries+else-entries-near-2, else-step-entries-via-else-step-entries}

pub returns-then-entries-near : goal.returns-then-entries-near
returns-then-entries-near c =
    let i = c.args.near - c.loop-step.step - 1 in
    place_own c.args.number c.args.entries.now i c.index-entries-near.result c.requires.own (omega arith) c.if-entries-near.true

pub returns-then-entries-near-2 : goal.returns-then-entries-near-2
returns-then-entries-near-2 c =
    let i = c.args.near + c.loop-step.step in
    place_own c.args.number c.args.entries.now i c.index-entries-near-then-step-entries.result c.requires.own (omega arith) c.if-entries-near-2.true

pub loop-step-preserved : goal.loop-step-preserved
loop-step-preserved c =
    let k = c.args.number in
    let es = c.args.entries.now in
    let near = c.args.near in
    let step = c.loop-step.step in
    let behind : (i : ℕ) → IsPlaceOf k es i → i + step + 1 ≢ near = elim c.else-step-near.branch [
      | else-step-near-via-then-step-near+else-entries-near w ↦ λ i there at. place_apart k es i (near - step - 1) w.index-entries-near.result there w.if-entries-near.false (omega arith)
      | else-step-near-via-else-step-near w ↦ λ i there at. let past = w.if-step-near.false in absurd (omega arith)
    ] in
    let ahead : (i : ℕ) → IsPlaceOf k es i → near + step ≢ i = elim c.else-step-entries.branch [
      | else-step-entries-via-then-step-entries+else-entries-near-2 w ↦ λ i there at. place_apart k es i (near + step) w.index-entries-near-then-step-entries.result there w.if-entries-near-2.false (omega arith)
      | else-step-entries-via-else-step-entries w ↦ λ i there at. let past = w.if-step-entries.false in let low = within k es i there in absurd (omega arith)
    ] in
    one_farther k es near step c.loop-step.invariant behind ahead

pub returns : goal.returns
returns c = none_farther c.args.number c.args.entries.now c.args.near c.loop-step.step c.requires.near c.loop-step-test.false c.loop-step.invariant
