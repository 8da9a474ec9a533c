use Rattle.std.proofs.Common.{◌≡◌, ◌≢◌, ◌≤◌, ◌*◌, ◌%◌, ◌^◌, ℕ, sym, ap, ◌∙◌, ⊎_elim, arith}
use Rattle.std.proofs.lemmas.Bool.{cases_eq}
use Rattle.std.proofs.lemmas.Nat.{one_shl}
use Rattle.std.proofs.lemmas.Nat.Bits.{bit_at-pow_same, bit_at-pow_other}
use Rattle.std.specs.Int.{bit_at}
use Rattle.dd_branch_tables.proofs.chamber_set.ChamberSet.only.Goals as goal

-- the bits of one chamber
bit : (d e : ℕ) → d ≤ 36 → bit_at (1 * 2 ^ d % 2 ^ 64) e ≡ bit_at (2 ^ d) e
bit d e few = ap (λ bits. bit_at bits e) (one_shl d 64 (omega arith))

pub invariant_of-result : goal.invariant_of-result
invariant_of-result c = record {
  chambers = λ d told. ⊎_elim
      (λ (here : d ≡ c.args.chamber). let few = c.requires in omega (arith, here, few))
      (λ (other : d ≢ c.args.chamber). let none = sym (bit c.args.chamber d c.requires ∙ bit_at-pow_other c.args.chamber d other) ∙ told in absurd (omega arith))
      (cases_eq d c.args.chamber);
}

pub returns : goal.returns
returns c = record {
  here = bit c.args.chamber c.args.chamber c.requires ∙ bit_at-pow_same c.args.chamber;
  others = λ e other. bit c.args.chamber e c.requires ∙ bit_at-pow_other c.args.chamber e other;
}
