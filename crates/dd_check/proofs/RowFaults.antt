-- What a line tells, or which fault it has.
use Rattle.std.proofs.Common.{◌≡◌, ℕ, List, sym, ◌∙◌, subst}
use Rattle.std.specs.Prelude.{Result, Ok, Err, IfErr, IsErrAnd}
use Rattle.dd_check.specs.declared.faults.CheckFault.{CheckFault}
use Rattle.dd_check.specs.declared.faults.CheckFault.TheVariants.{Range}
use Rattle.dd_check.specs.Texts.{Text}
use Rattle.dd_check.specs.Faults.{Tells, FirstFault, shape, range, after}
use Rattle.dd_check.specs.Lines.{HasWords, IsMissing, IsToldInRange, IsFaultHere}

pub missing : {A : Type 0} (lines : List Text) (k : ℕ) (form : List Text → A → Type 0) (in_range : A → Type 0) (fault : CheckFault)
    → IsMissing lines k fault → IsFaultHere lines k form in_range fault
missing lines k form in_range fault h = shape h.shape (λ a t. h.none t.line t.is_line)

pub tells : {A : Type 0} (lines : List Text) (k : ℕ) (form : List Text → A → Type 0) (words : List Text) (a : A) → HasWords lines k words → form words a → Tells form lines k a
tells lines k form words a h f = record { line = h.line; is_line = h.is_line; form_is = subst (λ ws. form ws a) (sym h.words_are) f }

pub out_of_range : {A : Type 0} (lines : List Text) (k : ℕ) (form : List Text → A → Type 0) (in_range : A → Type 0) (words : List Text) (a : A) (fault : CheckFault)
    → fault ≡ Range k → HasWords lines k words → form words a → (in_range a → ⊥) → IsFaultHere lines k form in_range fault
out_of_range lines k form in_range words a fault e h f out = range a e (tells lines k form words a h f) out

-- a fault of this line is the first of the lines from here on
pub here : {A : Type 0} (lines : List Text) (k : ℕ) (form : List Text → A → Type 0) (in_range : A → Type 0) (later : A → CheckFault → Type 0) (fault : CheckFault)
    → IsFaultHere lines k form in_range fault → FirstFault lines k form in_range later fault
here lines k form in_range later fault (shape e none) = shape e none
here lines k form in_range later fault (range a e t out) = range a e t out
here lines k form in_range later fault (after a t r never) = absurd never

-- where this line tells a value in range, so is a fault of the lines after it
pub then : {A : Type 0} (lines : List Text) (k : ℕ) (form : List Text → A → Type 0) (in_range : A → Type 0) (later : A → CheckFault → Type 0) (fault : CheckFault) (a : A)
    → IsToldInRange lines k form in_range a → later a fault → FirstFault lines k form in_range later fault
then lines k form in_range later fault a t f = after a t.tells t.in_range f

-- a fault that is handed on
pub handed_on : {A : Type 0} (r : Result A CheckFault) (P : CheckFault → Type 0) (fault : CheckFault) → IsErrAnd r (λ y. y ≡ fault) → P fault → IfErr r P
handed_on (Ok x) P fault is holds = absurd is
handed_on (Err y) P fault is holds = subst P (sym is) holds
