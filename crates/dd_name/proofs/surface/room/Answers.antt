use Rattle.std.proofs.Common.{pos, ◌-ℤ◌, inl, inr, ⊎_elim, arith}
use Rattle.std.proofs.lemmas.Bool.{cases_lt}
use Rattle.std.proofs.lemmas.Int.{ints}
use lib.IntN.{nat_abs}
use Rattle.dd_name.proofs.surface.room.Goals as goal

pub overflow_sub-euler : goal.overflow_sub-euler
overflow_sub-euler c =
    let low = c.euler-euler.ensures.low in
    let high = c.if-euler-gt2.false in
    omega (arith, ints)

pub overflow_cast-euler : goal.overflow_cast-euler
overflow_cast-euler c =
    let low = c.euler-euler.ensures.low in
    let high = c.if-euler-gt2.false in
    (omega (arith, ints), omega (arith, ints))

pub overflow_cast-result : goal.overflow_cast-result
overflow_cast-result c =
    let low = c.euler-euler.ensures.low in
    let high = c.if-euler-gt2.false in
    let is = c.saturating_sub.ensures in
    omega (arith, ints)

pub returns : goal.returns
returns c =
    let low = c.euler-euler.ensures.low in
    let high = c.if-euler-gt2.false in
    let is = c.saturating_sub.ensures in
    record {
      euler = c.euler-euler.result;
      is_euler = c.euler-euler.ensures.euler;
      rest = ⊎_elim (λ few. inr (omega (arith, ints), omega (arith, ints))) (λ many. inl (omega (arith, ints))) (cases_lt (nat_abs (pos 2 -ℤ c.euler-euler.result)) c.args.boundaries);
    }
