-- The faults of a symbol whose text is right in form.
use Rattle.std.specs.Prelude.{◌≡◌, ◌≢◌, ℕ, ◌+◌, List, [], ◌∷◌, length}
use Rattle.dd_model.specs.declared.index.Index.{Index}
use Rattle.dd_model.specs.declared.pair.Pair.{Pair}
use Rattle.dd_model.specs.declared.pair.Pair.TheVariants.{Tile, Vertex}
use Rattle.dd_model.specs.Symbol.{Symbol, AreInvolutions, IsChamber, operation, degree}
use Rattle.dd_model.specs.Cell.{InCell}
use Rattle.dd_model.specs.Parts.{Cursor, Spells}
use Rattle.dd_model.specs.Spelling.{Shape, parts_of, IsPlane, Tells, values}
use Rattle.dd_symbol.specs.Building.{listed}
use Rattle.dd_symbol.specs.declared.refusals.Refusal.{Refusal}
use Rattle.dd_symbol.specs.declared.refusals.Refusal.TheVariants as refusals
use Rattle.dd_symbol.specs.Refusals.{IsRefused}
use Rattle.dd_text.specs.declared.faults.Why.{Why}
use Rattle.dd_text.specs.declared.faults.Why.TheVariants.{ListShort, ListLong, Image, Symbol as Refused, Memory}
use Rattle.dd_text.specs.ListFaults.{IsImagesFault, IsDegreesFault}
use Rattle.dd_text.specs.Images.{IsToldBy, AreDegrees}

-- The lists that a shape tells: involutions, and degrees that are constant on cells.
pub record Gives (x : Shape) (t : Symbol) : Type 0 where
  pub tells : Tells x t
  pub lengths : (i : Index) → length (operation t i) ≡ t.size
  pub m01_length : length t.m01 ≡ t.size
  pub m12_length : length t.m12 ≡ t.size
  pub involutions : AreInvolutions t
  pub constant : (p : Pair) (d e : ℕ) → IsChamber t d → InCell t p d e → degree t p d ≡ degree t p e

-- the three involutions are told
pub record AreTold (x : Shape) (s0 s1 s2 : List ℕ) : Type 0 where
  pub s0_told : IsToldBy x.size.value (values x.s0) s0
  pub s1_told : IsToldBy x.size.value (values x.s1) s1
  pub s2_told : IsToldBy x.size.value (values x.s2) s2

-- The first fault of five lists, list by list: those before it are told rightly.
pub data IsListsFault (x : Shape) (why : Why) (at : ℕ) : Type 0 where
  in_s0 : IsImagesFault x.size.value x.s0 why at → IsListsFault x why at
  in_s1 : (s0 : List ℕ) → IsToldBy x.size.value (values x.s0) s0 → IsImagesFault x.size.value x.s1 why at → IsListsFault x why at
  in_s2 : (s0 s1 : List ℕ) → IsToldBy x.size.value (values x.s0) s0 → IsToldBy x.size.value (values x.s1) s1 → IsImagesFault x.size.value x.s2 why at → IsListsFault x why at
  in_m01 : (s0 s1 s2 : List ℕ) → AreTold x s0 s1 s2 → IsDegreesFault (listed s0 s1 s2 [] []) Tile x.m01 why at → IsListsFault x why at
  in_m12 : (s0 s1 s2 m01 : List ℕ) → AreTold x s0 s1 s2 → AreDegrees (listed s0 s1 s2 [] []) Tile (values x.m01) m01
      → IsDegreesFault (listed s0 s1 s2 [] []) Vertex x.m12 why at → IsListsFault x why at

-- the lists are told rightly, and are no symbol that a file may hold, for this cause
pub record IsNoSymbol (x : Shape) (why : Refusal) : Type 0 where
  pub lists : Symbol
  pub gives : Gives x lists
  pub some : why ≢ refusals.Memory
  pub refused : IsRefused 1024 lists why

-- the fault of a symbol of this shape, whose < stands at a place
abbrev pub IsShapeFault : Shape → ℕ → Why → ℕ → Type 0
IsShapeFault x place ListShort at = IsListsFault x ListShort at
IsShapeFault x place ListLong at = IsListsFault x ListLong at
IsShapeFault x place Image at = IsListsFault x Image at
IsShapeFault x place (Refused why) at = IsNoSymbol x why × (place ≡ at)
IsShapeFault x place Memory at = Unit {0}
IsShapeFault x place why at = ⊥

-- the text is that of a symbol in form, from its < at c on, and the symbol has this fault
pub record IsSymbolFault (c : Cursor) (why : Why) (at : ℕ) : Type 0 where
  pub after : List ℕ
  pub begins : c.rest ≡ 60 ∷ after
  pub shape : Shape
  pub end : Cursor
  pub spells : Spells (record { at = c.at + 1; rest = after }) (parts_of shape) end
  pub plane : IsPlane shape
  pub fault : IsShapeFault shape c.at why at
