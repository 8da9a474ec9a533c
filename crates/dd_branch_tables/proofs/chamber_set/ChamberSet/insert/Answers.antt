use Rattle.std.proofs.Common.{◌≡◌, ◌≢◌, sym, ◌∙◌, ⊎_elim, arith, w64}
use Rattle.std.proofs.lemmas.Bool.{cases_eq}
use Rattle.std.proofs.lemmas.Nat.Bits.{bit_at_set_same, bit_at_set_other}
use Rattle.dd_branch_tables.proofs.chamber_set.ChamberSet.insert.Goals as goal

pub invariant_of-self : goal.invariant_of-self
invariant_of-self c = record {
  chambers = λ d told. ⊎_elim
      (λ (here : d ≡ c.args.chamber). let few = c.requires in omega (arith, here, few))
      (λ (other : d ≢ c.args.chamber). c.args.self.now.chambers d (sym (bit_at_set_other w64 c.args.self.now.bits c.args.chamber (omega arith) d other) ∙ told))
      (cases_eq d c.args.chamber);
}

pub returns : goal.returns
returns c = record {
  here = bit_at_set_same w64 c.args.self.now.bits c.args.chamber (omega arith);
  others = bit_at_set_other w64 c.args.self.now.bits c.args.chamber (omega arith);
}
