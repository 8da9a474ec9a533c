use Rattle.std.proofs.Common.{◌≡◌, ◌<◌, ◌≤◌, length, refl, subst, ⊎_elim, arith}
use Rattle.std.proofs.lemmas.Bool.{cases_lt}
use Rattle.dd_front_jobs.specs.FirstVisit.{FitsAt}
use Rattle.dd_front_jobs.proofs.numbering.fits.Goals as goal

pub loop-earlier-init : goal.loop-earlier-init
loop-earlier-init c = record { third = omega arith; each = λ u low third. absurd (omega arith) }

pub returns-then-not-fits_at : goal.returns-then-not-fits_at
returns-then-not-fits_at c = (
  (λ false_. absurd cc),
  (λ all. c.if-not-fits_at.ensures.1 (all c.loop-earlier.earlier c.loop-earlier-test.true c.loop-earlier.invariant.third)),
)

pub loop-earlier-preserved : goal.loop-earlier-preserved
loop-earlier-preserved c =
    let here = c.loop-earlier.earlier in
    let i = c.loop-earlier.invariant in
    record {
      third = let t = i.third in omega (arith, t);
      each = λ u low third. ⊎_elim (λ (less : u < here). i.each u less third) (λ (past : here ≤ u). let t = i.third in let same : here ≡ u = omega (arith, t) in subst (FitsAt c.args.prefix.now c.args.number (length c.args.prefix.now)) same (c.if-not-fits_at.ensures.0 refl)) (cases_lt u here);
    }

pub returns : goal.returns
returns c =
    let past = c.loop-earlier-test.false in
    ((λ _ u low third. c.loop-earlier.invariant.each u (omega arith) third), (λ _. refl))
