-- What is answered of a whole text.
use Rattle.std.proofs.Common.{◌≡◌, ℕ, List, sym, subst, inl, inr}
use Rattle.std.specs.Prelude.{Result, Ok, Err, IfOk, IfErr, IsErrAnd}
use Rattle.dd_check.specs.declared.checkpoint.Checkpoint.{Checkpoint}
use Rattle.dd_check.specs.declared.faults.CheckFault.{CheckFault}
use Rattle.dd_check.specs.declared.faults.CheckFault.TheVariants.{Version, Shape, Range, Position, Long, Memory}
use Rattle.dd_check.specs.Texts.{Text, lines_of}
use Rattle.dd_check.specs.Faults.{FirstFault, shape, range, after, IsNew, IsOld, IsLineFault, IsOldLineFault}
use Rattle.dd_check.specs.Lines.{IsToldFault}
use Rattle.dd_check.specs.Readings.{TellsCheck, TellsOldCheck}
use Rattle.dd_check.specs.Places.{IsPlace, IsOldPlace}
use Rattle.dd_check.specs.Accepted.{IsShortText, IsCheckpointText}
use Rattle.dd_check.specs.Checks.{StandsFor, OldStandsFor}
use Rattle.dd_check.specs.Refusals.{HasFault}
use Rattle.dd_check.specs.Outcomes.{AreShortLines, AreNewLines, AreOldLines, IsReading}
use Rattle.dd_check.proofs.CheckReads.{stands_for, old_stands_for}

-- a fault of a line
abbrev IsOfLine : CheckFault → Type 0
IsOfLine Version = ⊥
IsOfLine (Shape k) = Unit {0}
IsOfLine (Range k) = Unit {0}
IsOfLine Position = ⊥
IsOfLine Long = ⊥
IsOfLine Memory = ⊥

of_line : {A : Type 0} (lines : List Text) (k : ℕ) (form : List Text → A → Type 0) (in_range : A → Type 0) (later : A → CheckFault → Type 0) (fault : CheckFault)
    → ((a : A) → later a fault → IsOfLine fault) → FirstFault lines k form in_range later fault → IsOfLine fault
of_line lines k form in_range later fault f (shape e none) = subst IsOfLine (sym e) tt
of_line lines k form in_range later fault f (range a e t out) = subst IsOfLine (sym e) tt
of_line lines k form in_range later fault f (after a t r l) = f a l

line_fault_is : (ls : List Text) (f : CheckFault) → IsLineFault ls f → IsOfLine f
line_fault_is ls f h =
    of_line _ _ _ _ _ f (λ _ h3. of_line _ _ _ _ _ f (λ _ h4. of_line _ _ _ _ _ f (λ _ h5. of_line _ _ _ _ _ f (λ _ h6. of_line _ _ _ _ _ f
    (λ _ h7. of_line _ _ _ _ _ f (λ _ h8. of_line _ _ _ _ _ f (λ _ longer. subst IsOfLine (sym longer.shape) tt) h8) h7) h6) h5) h4) h3) h

old_line_fault_is : (ls : List Text) (f : CheckFault) → IsOldLineFault ls f → IsOfLine f
old_line_fault_is ls f h =
    of_line _ _ _ _ _ f (λ _ h3. of_line _ _ _ _ _ f (λ _ h4. of_line _ _ _ _ _ f (λ _ h5. of_line _ _ _ _ _ f (λ _ h6. of_line _ _ _ _ _ f
    (λ _ longer. subst IsOfLine (sym longer.shape) tt) h6) h5) h4) h3) h

line_fault : (text : Text) (f : CheckFault) → IsShortText text → IsNew (lines_of text) → IsLineFault (lines_of text) f → IsOfLine f → HasFault text f
line_fault text Version short new h never = absurd never
line_fault text (Shape k) short new h is = (short, inl (new, h))
line_fault text (Range k) short new h is = (short, inl (new, h))
line_fault text Position short new h never = absurd never
line_fault text Long short new h never = absurd never
line_fault text Memory short new h never = absurd never

old_line_fault : (text : Text) (f : CheckFault) → IsShortText text → IsOld (lines_of text) → IsOldLineFault (lines_of text) f → IsOfLine f → HasFault text f
old_line_fault text Version short old h never = absurd never
old_line_fault text (Shape k) short old h is = (short, inr (old, h))
old_line_fault text (Range k) short old h is = (short, inr (old, h))
old_line_fault text Position short old h never = absurd never
old_line_fault text Long short old h never = absurd never
old_line_fault text Memory short old h never = absurd never

-- ---- the answers

module _ (text : Text) (ls : List Text) (are : AreNewLines text ls) where
  pub new_refused : (f : CheckFault) → IsToldFault (IsLineFault ls) f → IsToldFault (HasFault text) f
  new_refused f h told =
      let fault = subst (λ l. IsLineFault l f) are.are.lines_are (h told) in
      line_fault text f are.are.short (subst IsNew are.are.lines_are are.new) fault (line_fault_is (lines_of text) f fault)

  new_stands : (c : Checkpoint) → TellsCheck ls c → StandsFor text c
  new_stands c t = stands_for text c (subst IsNew are.are.lines_are are.new) (subst (λ l. TellsCheck l c) are.are.lines_are t)

  pub new_read : (c : Checkpoint) → TellsCheck ls c → IsPlace c.request c.at → IsCheckpointText text c
  new_read c t place = inl (record { short = are.are.short; stands = new_stands c t; place = place })

  pub new_misplaced : (c : Checkpoint) → TellsCheck ls c → (IsPlace c.request c.at → ⊥) → HasFault text Position
  new_misplaced c t refused = (are.are.short, (c, inl (record { stands = new_stands c t; refused = refused })))

module _ (text : Text) (ls : List Text) (are : AreOldLines text ls) where
  pub old_refused : (f : CheckFault) → IsToldFault (IsOldLineFault ls) f → IsToldFault (HasFault text) f
  old_refused f h told =
      let fault = subst (λ l. IsOldLineFault l f) are.are.lines_are (h told) in
      old_line_fault text f are.are.short (subst IsOld are.are.lines_are are.old) fault (old_line_fault_is (lines_of text) f fault)

  old_stands : (c : Checkpoint) → TellsOldCheck ls c → OldStandsFor text c
  old_stands c t = old_stands_for text c (subst IsOld are.are.lines_are are.old) (subst (λ l. TellsOldCheck l c) are.are.lines_are t)

  pub old_read : (c : Checkpoint) → TellsOldCheck ls c → IsOldPlace c.request c.at → IsCheckpointText text c
  old_read c t place = inr (record { short = are.are.short; stands = old_stands c t; place = place })

  pub old_misplaced : (c : Checkpoint) → TellsOldCheck ls c → (IsOldPlace c.request c.at → ⊥) → HasFault text Position
  old_misplaced c t refused = (are.are.short, (c, inr (record { stands = old_stands c t; refused = refused })))

pub no_version : (text : Text) (ls : List Text) → AreShortLines text ls → (IsNew ls → ⊥) → (IsOld ls → ⊥) → HasFault text Version
no_version text ls are not_new not_old =
    (are.short, record { not_new = λ h. not_new (subst IsNew (sym are.lines_are) h); not_old = λ h. not_old (subst IsOld (sym are.lines_are) h) })

-- ---- one clause for both outcomes

pub of_value : (text : Text) (r : Result Checkpoint CheckFault) → IsReading text r → IfOk r (IsCheckpointText text)
of_value text (Ok c) h = h
of_value text (Err f) h = tt

pub of_fault : (text : Text) (r : Result Checkpoint CheckFault) → IsReading text r → IfErr r (IsToldFault (HasFault text))
of_fault text (Ok c) h = tt
of_fault text (Err f) h = h

pub refused : (text : Text) (r : Result Checkpoint CheckFault) (f : CheckFault) → IsErrAnd r (λ y. y ≡ f) → IsToldFault (HasFault text) f → IsReading text r
refused text (Ok c) f is holds = absurd is
refused text (Err g) f is holds = subst (IsToldFault (HasFault text)) (sym is) holds
