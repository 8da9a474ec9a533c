-- When five lists are refused, and what a refusal says.
use Rattle.std.specs.Prelude.{◌≡◌, ℕ, ◌<◌, ◌≤◌}
use Rattle.dd_model.specs.Symbol.{Symbol}
use Rattle.dd_symbol.specs.declared.refusals.Refusal.{Refusal}
use Rattle.dd_symbol.specs.declared.refusals.Refusal.TheVariants.{Empty, TooManyChambers, OpRange, NotInvolution, NotCommuting, NotConnected, DegreeZero, DegreeVaries, NotMultiple, BranchingTooLarge, Memory}
use Rattle.dd_symbol.specs.Causes.{IsOutOfRange, IsNoInvolution, DoesNotCommute, IsNotReached, HasNoDegree, DegreeChanges, IsNoMultiple, IsTooLarge}

-- there are chambers, and not too many
pub record HasSize (limit : ℕ) (s : Symbol) : Type 0 where
  pub some : 1 ≤ s.size
  pub within : s.size ≤ limit

-- what a refusal says of rows of images
abbrev pub IsRowsFault : Symbol → Refusal → Type 0
IsRowsFault s (OpRange i d) = IsOutOfRange s i d
IsRowsFault s (NotInvolution i d) = IsNoInvolution s i d
IsRowsFault s why = ⊥

-- what a refusal says of three lists of images
abbrev pub IsInvolutionsFault : Symbol → Refusal → Type 0
IsInvolutionsFault s (OpRange i d) = IsOutOfRange s i d
IsInvolutionsFault s (NotInvolution i d) = IsNoInvolution s i d
IsInvolutionsFault s (NotCommuting d) = DoesNotCommute s d
IsInvolutionsFault s (NotConnected d) = IsNotReached s d
IsInvolutionsFault s Memory = Unit {0}
IsInvolutionsFault s why = ⊥

-- what a refusal says of lists that are not too long
abbrev pub IsFault : Symbol → Refusal → Type 0
IsFault s Empty = s.size ≡ 0
IsFault s (TooManyChambers n) = ⊥
IsFault s (OpRange i d) = IsOutOfRange s i d
IsFault s (NotInvolution i d) = IsNoInvolution s i d
IsFault s (NotCommuting d) = DoesNotCommute s d
IsFault s (NotConnected d) = IsNotReached s d
IsFault s (DegreeZero p d) = HasNoDegree s p d
IsFault s (DegreeVaries p d) = DegreeChanges s p d
IsFault s (NotMultiple p d r m) = IsNoMultiple s p d r m
IsFault s (BranchingTooLarge p d v) = IsTooLarge s p d v
IsFault s Memory = Unit {0}

-- What a refusal says: its cause holds, and none that comes before it. Want of memory says nothing.
abbrev pub IsRefused : ℕ → Symbol → Refusal → Type 0
IsRefused limit s Empty = s.size ≡ 0
IsRefused limit s (TooManyChambers n) = (n ≡ s.size) × (limit < n)
IsRefused limit s (OpRange i d) = HasSize limit s × IsOutOfRange s i d
IsRefused limit s (NotInvolution i d) = HasSize limit s × IsNoInvolution s i d
IsRefused limit s (NotCommuting d) = HasSize limit s × DoesNotCommute s d
IsRefused limit s (NotConnected d) = HasSize limit s × IsNotReached s d
IsRefused limit s (DegreeZero p d) = HasSize limit s × HasNoDegree s p d
IsRefused limit s (DegreeVaries p d) = HasSize limit s × DegreeChanges s p d
IsRefused limit s (NotMultiple p d r m) = HasSize limit s × IsNoMultiple s p d r m
IsRefused limit s (BranchingTooLarge p d v) = HasSize limit s × IsTooLarge s p d v
IsRefused limit s Memory = Unit {0}
