-- What texts say of the part of a run.
use Rattle.std.proofs.Common.{◌≡◌, ℕ, List, [], ◌++◌, take, Option, None, Some, inl, inr, refl, sym, ap, ◌∙◌, subst}
use Rattle.std.proofs.lemmas.List.{append-nil}
use Rattle.dd_check.specs.declared.checkpoint.Checkpoint.{Checkpoint}
use Rattle.dd_check.specs.declared.faults.CheckFault.{CheckFault}
use Rattle.dd_check.specs.Accepted.{IsCheckpointText}
use Rattle.dd_check.specs.Refusals.{HasFault}
use Rattle.dd_check.proofs.Exclusion.{no_fault}
use Rattle.dd_check.specs.ChainStarts.{Holds}
use Rattle.dd_check.proofs.ChainParts.{one_held}
use Rattle.dd_suite_tasks.proofs.HeldTexts.{some_injective}
use Rattle.dd_suite_chains.specs.Making.{IsPartOf}

-- a run with another number is not the one of this number
pub other_number : (number : Option ℕ) (n run : ℕ) → number ≡ Some n → (n ≡ run → ⊥) → number ≡ Some run → ⊥
other_number number n run is other e = other (let both : Some n ≡ Some run = sym is ∙ e in cc)

-- a text with a fault is no checkpoint text
pub no_check : (text : List ℕ) (fault : CheckFault) → HasFault text fault → (c : Checkpoint) → Holds None (Some text) c → ⊥
no_check text fault faulty c is = no_fault text c fault (subst (λ t. IsCheckpointText t c) (some_injective is.text text (sym is.held_is)) is.accepted) faulty

module _ (number : Option ℕ) (text output old new : List ℕ) where
  -- nothing is appended
  pub no_part : ((c : Checkpoint) → Holds None (Some text) c → number ≡ Some c.run → ⊥) → new ≡ old
      → (part : List ℕ) × IsPartOf number (Some text) output part × (new ≡ old ++ part)
  no_part none same = ([], inr (none, refl), same ∙ sym (append-nil old))

  -- the checkpoint has the number
  pub own_part : (c : Checkpoint) (part : List ℕ) → Holds None (Some text) c → number ≡ Some c.run → part ≡ take c.bytes output → new ≡ old ++ part
      → (own : List ℕ) × IsPartOf number (Some text) output own × (new ≡ old ++ own)
  own_part c part holds e is same = (part, inl (c, holds, e, is), same)

  -- it has another one
  pub other_part : (c : Checkpoint) (part : List ℕ) → Holds None (Some text) c → (number ≡ Some c.run → ⊥) → part ≡ [] → new ≡ old ++ part
      → (own : List ℕ) × IsPartOf number (Some text) output own × (new ≡ old ++ own)
  other_part c part holds other none same =
      no_part (λ d is e. other (e ∙ ap (λ (k : Checkpoint). Some k.run) (one_held (Some text) None None d c refl is holds).1)) (same ∙ ap (λ z. old ++ z) none ∙ append-nil old)
