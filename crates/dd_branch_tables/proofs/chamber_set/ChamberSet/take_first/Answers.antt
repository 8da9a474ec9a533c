use Rattle.std.proofs.Common.{◌-◌, ◌<◌, ◌^◌, arith, rules, w64}
use Rattle.std.proofs.lemmas.Nat.{and_le_r}
use Rattle.std.proofs.lemmas.Nat.Bits.{bit_at_and, bit_at-lt}
use Rattle.std.specs.Int.{trailing_zeros}
use Rattle.dd_model.proofs.LowestBits.{dropped_other, dropped_same, lowest_bit}
use Rattle.dd_branch_tables.proofs.chamber_set.ChamberSet.take_first.Goals as goal

pub invariant_of-self : goal.invariant_of-self
invariant_of-self c = record {
  chambers = λ d told. (let n = c.args.self.now.bits in let both = bit_at_and n (n - 1) d in let bit = bit_at-lt n d in c.args.self.now.chambers d (omega (arith, both, bit, told)));
}

pub returns : goal.returns
returns c =
    let n = c.args.self.now.bits in
    let some = c.if-self-eq0.false in
    let wide : n < 2 ^ 64 = search rules in
    let is = lowest_bit n (omega (arith, some)) wide in
    let t = trailing_zeros w64 n in
    record {
      within = c.args.self.now.chambers t is.set_;
      here = is.set_;
      least = is.none_below;
      gone = dropped_same n t is;
      others = λ e other. dropped_other n t e is other;
      fewer = let low = and_le_r n (n - 1) in omega (arith, low, some);
    }
