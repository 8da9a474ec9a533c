use Rattle.std.proofs.Common.{◌≡◌, ◌≢◌, refl, sym, ap, ◌∙◌, ⊎_elim, arith}
use Rattle.std.proofs.lemmas.Bool.{cases_eq}
use Rattle.std.proofs.lemmas.Nat.Bits.{bit_at-zero}
use Rattle.std.specs.Int.{bit_at}
use Rattle.dd_branch_tables.specs.Chambers.{bit_of}
use Rattle.dd_branch_bounds.proofs.table_paths.TablePaths.sieve_by.Goals as goal

pub loop-number-preserved-then-not-is_ruled_out : goal.loop-number-preserved-then-not-is_ruled_out
loop-number-preserved-then-not-is_ruled_out c m asked gone out = ⊎_elim
    (λ (here : m ≡ c.in-Some.number). let set_ = ap (bit_of c.insert.new.self) here ∙ c.insert.ensures.here in absurd (omega (arith, set_, out)))
    (λ (other : m ≢ c.in-Some.number). c.loop-number.invariant m asked (sym (c.in-Some.ensures.others m other) ∙ gone) (sym (c.insert.ensures.others m other) ∙ out))
    (cases_eq m c.in-Some.number)

pub loop-number-preserved : goal.loop-number-preserved
loop-number-preserved c m asked gone out = ⊎_elim
    (λ (here : m ≡ c.in-Some.number). λ s sought has. c.if-not-is_ruled_out.ensures refl s sought (has ∙ here))
    (λ (other : m ≢ c.in-Some.number). c.loop-number.invariant m asked (sym (c.in-Some.ensures.others m other) ∙ gone) out)
    (cases_eq m c.in-Some.number)

pub returns : goal.returns
returns c m asked out = c.loop-number.invariant m asked (ap (λ bits. bit_at bits m) c.in_default.ensures ∙ bit_at-zero m) out
