use Rattle.std.proofs.Common.{◌≡◌, ◌≢◌, ◌+◌, ◌/◌, ◌^◌, ◌<◌, w64, sym, ap, ◌∙◌, ⊎_elim, arith, rules}
use Rattle.std.proofs.lemmas.Bool.{cases_eq}
use Rattle.std.proofs.lemmas.Nat.Bits.{bit_at-zero}
use Rattle.std.specs.Int.{bit_at, trailing_zeros}
use Rattle.dd_model.proofs.LowestBits.{dropped_other, lowest_bit}
use Rattle.dd_branch_degrees.proofs.Bits.{bit_lower, bit_or_left, bit_or_right}
use Rattle.dd_branch_degrees.proofs.later_budgets.surplus_with.Goals as goal

pub returns-then-place-eq0 : goal.returns-then-place-eq0
returns-then-place-eq0 c share e f none told there sum =
    let zero_ = none c.if-place-eq0.true in
    let same : f ≡ e = omega (arith, zero_, sum) in
    ap (bit_at c.args.later) same ∙ there

pub loop-shares-init : goal.loop-shares-init
loop-shares-init c = record {
  told = λ share e f told gone there sum. absurd (let same = ap (λ n. bit_at n share) c.from-shares.ensures in omega (arith, told, gone, same));
}

pub loop-shares-preserved : goal.loop-shares-preserved
loop-shares-preserved c =
    let n = c.loop-shares.shares in
    let later = c.args.later in
    let all = c.loop-shares.all in
    let k = trailing_zeros w64 n in
    let wide : n < 2 ^ 64 = search rules in
    let some = c.loop-shares-test.true in
    let is = lowest_bit n (omega (arith, some)) wide in
    record {
      told = λ share e f told gone there sum. ⊎_elim
          (λ (here : share ≡ k).
          let at : f + k ≡ e = omega (arith, here, sum) in
          bit_or_right all (later / 2 ^ k) f (bit_lower later k f ∙ ap (bit_at later) at ∙ there))
          (λ (other : share ≢ k). bit_or_left all (later / 2 ^ k) f (c.loop-shares.invariant.told share e f told (sym (dropped_other n k share is other) ∙ gone) there sum))
          (cases_eq share k);
    }

pub returns : goal.returns
returns c share e f none told there sum =
    let some = c.if-place-eq0.false in
    let end = c.loop-shares-test.false in
    c.loop-shares.invariant.told share e f (told (omega (arith, some))) (ap (λ n. bit_at n share) end ∙ bit_at-zero share) there sum
