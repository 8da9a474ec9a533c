use Rattle.std.proofs.Common.{◌≡◌, ℕ, ◌+◌, ◌-◌, ◌/◌, ◌^◌, ◌<◌, ◌≤◌, get_or, ap, sym, ◌∙◌, ⊎_elim, arith, rules}
use Rattle.std.proofs.lemmas.Bool.{cases_lt}
use Rattle.std.proofs.lemmas.Nat.Bits.{bit_at_above}
use Rattle.std.specs.Int.{bit_at}
use Rattle.dd_branch_degrees.proofs.Bits.{bit_in_both, bit_lower, bit_of_both, none_before, same_from}
use Rattle.dd_branch_degrees.proofs.later_budgets.LaterBudgets.fitting.Goals as goal

pub returns-then-left-lt64-clause-within : goal.returns-then-left-lt64-clause-within
returns-then-left-lt64-clause-within c e told =
    let bits = get_or c.args.self.now.surplus c.args.later 0 in
    let wide : bits < 2 ^ 64 = search rules in
    let low = c.if-left-lt64.true in
    let both = bit_of_both c.from-shares.result (bits / 2 ^ (63 - c.args.left)) e told in
    let there = sym (bit_lower bits (63 - c.args.left) e) ∙ both.1 in (
      ap (λ n. bit_at n e) (sym c.from-shares.ensures) ∙ both.0,
      ⊎_elim (λ inside. omega (arith, inside, low)) (λ above. absurd (let none = bit_at_above bits 64 (e + (63 - c.args.left)) wide above in omega (arith, there, none))) (cases_lt (e + (63 - c.args.left)) 64),
    )

pub returns-then-left-lt64-clause-all : goal.returns-then-left-lt64-clause-all
returns-then-left-lt64-clause-all c e rest whole told has =
    let bits = get_or c.args.self.now.surplus c.args.later 0 in
    let low = c.if-left-lt64.true in
    bit_in_both c.from-shares.result (bits / 2 ^ (63 - c.args.left)) e (ap (λ n. bit_at n e) c.from-shares.ensures ∙ told)
    (bit_lower bits (63 - c.args.left) e ∙ has.told (e + (63 - c.args.left)) (omega (arith, whole, low)))

-- what is told by the most

from_short : (left least most e rest : ℕ) → e + rest ≡ left → rest + least ≤ most → left + least - most ≤ e
from_short left least most e rest whole up = omega (arith, whole, up)

pub returns-then-short-gt31-clause-all : goal.returns-then-short-gt31-clause-all
returns-then-short-gt31-clause-all c e rest whole told has =
    let wide : c.args.shares < 2 ^ 32 = search rules in
    let least = get_or c.args.self.now.least c.args.later 0 in
    let most = get_or c.args.self.now.most c.args.later 0 in
    let high = c.if-short-gt31.true in
    let is = c.saturating_sub-short.ensures in
    let up = from_short c.args.left least most e rest whole has.most in
    absurd (let none = bit_at_above c.args.shares 32 e wide (omega (arith, high, is, up)) in omega (arith, none, told))

pub returns-clause-within : goal.returns-clause-within
returns-clause-within c e told =
    let n = c.from-shares.result in
    let s = c.saturating_sub-short.result in
    let own : n < 2 ^ 64 = search rules in
    let narrow : c.args.shares < 2 ^ 32 = search rules in
    let much = c.if-left-lt64.false in
    let same : bit_at n e ≡ bit_at c.args.shares e = ap (λ m. bit_at m e) c.from-shares.ensures in
    let there : bit_at n e ≡ 1 = ⊎_elim
    (λ low. absurd (let none = none_before n s e own low in omega (arith, none, told)))
    (λ high. sym (same_from n s e own high) ∙ told)
    (cases_lt e s) in
    let is : bit_at c.args.shares e ≡ 1 = sym same ∙ there in
    (is, ⊎_elim (λ low. omega (arith, low, much)) (λ high. absurd (let none = bit_at_above c.args.shares 32 e narrow high in omega (arith, none, is))) (cases_lt e 32))

pub returns-clause-all : goal.returns-clause-all
returns-clause-all c e rest whole told has =
    let n = c.from-shares.result in
    let s = c.saturating_sub-short.result in
    let own : n < 2 ^ 64 = search rules in
    let least = get_or c.args.self.now.least c.args.later 0 in
    let most = get_or c.args.self.now.most c.args.later 0 in
    let is = c.saturating_sub-short.ensures in
    let up = from_short c.args.left least most e rest whole has.most in
    same_from n s e own (omega (arith, is, up)) ∙ ap (λ m. bit_at m e) c.from-shares.ensures ∙ told
