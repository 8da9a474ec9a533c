-- Paces are told apart by their numbers.
use mathlib.Core.HLevel.{is_prop→PathP}
use Rattle.std.proofs.Common.{◌≡◌, ◌≤◌}
use Rattle.std.proofs.Props.{props}
use Rattle.dd_front_jobs.specs.declared.pace.Pace.{Pace}

-- paces of equal numbers are equal
pub same_pace : (a b : Pace) → a.workers ≡ b.workers → a.round ≡ b.round → a ≡ b
same_pace a b p q = λ i. record {
  workers = p i;
  round = q i;
  some_workers = is_prop→PathP (λ j. 1 ≤ p j) (λ j. hlevel props) a.some_workers b.some_workers i;
  few_workers = is_prop→PathP (λ j. p j ≤ 64) (λ j. hlevel props) a.few_workers b.few_workers i;
  some_jobs = is_prop→PathP (λ j. 1 ≤ q j) (λ j. hlevel props) a.some_jobs b.some_jobs i;
}
