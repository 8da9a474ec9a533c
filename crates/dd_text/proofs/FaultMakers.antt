-- How faults in the text of a symbol are made.
use Rattle.std.proofs.Common.{◌≡◌, ◌≢◌, ℕ, List, refl, sym, subst}
use Rattle.dd_model.specs.declared.tokens.Part.{Part}
use Rattle.dd_model.specs.declared.tokens.Part.TheVariants.{Sign, Number, Overlong, End}
use Rattle.dd_model.specs.declared.tokens.Placed.{Placed}
use Rattle.dd_model.specs.declared.tokens.Numeral.{Numeral}
use Rattle.dd_model.specs.Parts.{Cursor, first_part, Spells}
use Rattle.dd_model.specs.Spelling.{number_part, sign_part}
use Rattle.dd_text.specs.declared.faults.Why.{Why}
use Rattle.dd_text.specs.declared.faults.Why.TheVariants as whys
use Rattle.dd_text.specs.declared.faults.Fault.{Fault}
use Rattle.dd_text.specs.TextFaults.{MayStand, IsWrong, IsFormFault, IsSizeFault, IsDimensionFault, IsTextFault}
use Rattle.dd_text.specs.Texts.{no_number_why, no_sign_why, IsNoNumber, IsNoSign}

-- what is wrong where a number may stand
wrong_number : (before : List Placed) (p : Placed) (part : Part) (x : Numeral) → p.part ≡ part → ((v : ℕ) → part ≢ Number v)
    → MayStand before (number_part x) → (MayStand before p → ⊥) → IsWrong before p (no_number_why part)
wrong_number before p (Sign b) x e o may not = record { some = λ f. cc; misplaced = not; overlong = λ f. cc }
wrong_number before p (Number v) x e o may not = absurd (o v refl)
wrong_number before p Overlong x e o may not = record { overlong = e; number = x; may_stand = may }
wrong_number before p End x e o may not = e

-- what is wrong where no number may stand
wrong_sign : (before : List Placed) (p : Placed) (part : Part) → p.part ≡ part → (MayStand before p → ⊥) → ((x : Numeral) → MayStand before (number_part x) → ⊥) → IsWrong before p (no_sign_why part)
wrong_sign before p (Sign b) e not never = record { some = λ f. cc; misplaced = not; overlong = λ f. cc }
wrong_sign before p (Number v) e not never = record { some = λ f. cc; misplaced = not; overlong = λ f. cc }
wrong_sign before p Overlong e not never = record { some = λ f. cc; misplaced = not; overlong = λ f. never }
wrong_sign before p End e not never = e

pub form_by_number : (c here : Cursor) (before : List Placed) (f : Fault) → Spells c before here → IsNoNumber (first_part here) f
    → (x : Numeral) → MayStand before (number_part x) → (MayStand before (first_part here) → ⊥) → IsFormFault c f.why f.at
form_by_number c here before f spells bad x may not = record {
  before = before;
  here = here;
  spells = spells;
  other = number_part x;
  may_go_on = may;
  wrong = subst (IsWrong before (first_part here)) (sym bad.why) (wrong_number before (first_part here) (first_part here).part x refl bad.other may not);
  place = sym bad.place;
}

pub form_by_sign : (c here : Cursor) (before : List Placed) (s : ℕ) (f : Fault) → Spells c before here → IsNoSign (first_part here) s f
    → MayStand before (sign_part s 0) → (MayStand before (first_part here) → ⊥) → ((x : Numeral) → MayStand before (number_part x) → ⊥) → IsFormFault c f.why f.at
form_by_sign c here before s f spells bad may not never = record {
  before = before;
  here = here;
  spells = spells;
  other = sign_part s 0;
  may_go_on = may;
  wrong = subst (IsWrong before (first_part here)) (sym bad.why) (wrong_sign before (first_part here) (first_part here).part refl not never);
  place = sym bad.place;
}

-- a fault of the form, with no fault of size or dimension
pub text_fault : (c : Cursor) (w : Why) (at : ℕ) → IsFormFault c w at → ((place : ℕ) → IsSizeFault c place → ⊥) → ((place : ℕ) → IsDimensionFault c place → ⊥) → IsTextFault c w at
text_fault c whys.Stray at f s d = record { form = f; size = s; dimension = d }
text_fault c whys.UnexpectedEnd at f s d = record { form = f; size = s; dimension = d }
text_fault c whys.NumberTooLong at f s d = record { form = f; size = s; dimension = d }
text_fault c whys.Dimension at f s d = absurd f.wrong
text_fault c whys.Size at f s d = absurd f.wrong
text_fault c whys.ListShort at f s d = absurd f.wrong
text_fault c whys.ListLong at f s d = absurd f.wrong
text_fault c whys.Image at f s d = absurd f.wrong
text_fault c (whys.Symbol r) at f s d = absurd f.wrong
text_fault c whys.TooManySymbols at f s d = absurd f.wrong
text_fault c whys.Long at f s d = absurd f.wrong
text_fault c whys.Memory at f s d = absurd f.wrong

-- want of memory may come anywhere
pub unless_memory : (c : Cursor) (w : Why) (at : ℕ) → (w ≢ whys.Memory → IsTextFault c w at) → IsTextFault c w at
unless_memory c whys.Memory at f = tt
unless_memory c whys.Stray at f = f (λ e. cc)
unless_memory c whys.UnexpectedEnd at f = f (λ e. cc)
unless_memory c whys.NumberTooLong at f = f (λ e. cc)
unless_memory c whys.Dimension at f = f (λ e. cc)
unless_memory c whys.Size at f = f (λ e. cc)
unless_memory c whys.ListShort at f = f (λ e. cc)
unless_memory c whys.ListLong at f = f (λ e. cc)
unless_memory c whys.Image at f = f (λ e. cc)
unless_memory c (whys.Symbol r) at f = f (λ e. cc)
unless_memory c whys.TooManySymbols at f = f (λ e. cc)
unless_memory c whys.Long at f = f (λ e. cc)
