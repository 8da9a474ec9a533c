-- What is kept to find the isomorphisms of a symbol onto itself.
use Rattle.std.specs.Prelude.{◌≡◌, ℕ, List}
use Rattle.dd_model.specs.Symbol.{Symbol, IsTable, item}
use Rattle.dd_model.specs.Isomorphic.{IsIsomorphism}
use Rattle.dd_canon.specs.Standing.{IsReady, IsWhole}
use Rattle.dd_canon.specs.declared.symmetries.Symmetries.{Symmetries}

-- the numbers of the first visits from chamber 1, the symbol in these numbers, and lists for the visits from another chamber
pub record AreSymmetriesOf (s : Symbol) (x : Symmetries) : Type 0 where
  pub home : IsWhole s 1 x.home.order.items x.home.number.items
  pub table : IsTable x.form
  pub form : IsIsomorphism s x.form x.home.number.items
  pub ready : IsReady s x.there

-- an isomorphism of s onto s that takes chamber 1 to a chamber
pub record Carries (s : Symbol) (to : ℕ) (f : List ℕ) : Type 0 where
  pub isomorphism : IsIsomorphism s s f
  pub there : item f 1 ≡ to
