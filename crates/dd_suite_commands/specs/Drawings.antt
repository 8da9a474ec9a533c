-- The drawing of a symbol, and why there is none.
use Rattle.std.specs.Prelude.{◌≡◌, ◌⊎◌, ℕ, ◌+◌, ◌<◌, ◌≤◌, List, [], ◌∷◌, ◌++◌, length, Option, Some, None}
use Rattle.dd_model.specs.declared.pair.Pair.TheVariants.{Vertex}
use Rattle.dd_model.specs.Symbol.{Symbol}
use Rattle.dd_model.specs.Flat.{Flat}
use Rattle.dd_model.specs.Cell.{AreCells}
use Rattle.dd_covers.specs.TorusCover.{IsTorusCover}
use Rattle.dd_lattice.specs.NetOf.{IsNet}
use Rattle.dd_model.specs.declared.frame.Frame.{Frame}
use Rattle.dd_lattice.specs.declared.net.Net.{Net}
use Rattle.dd_gram.specs.Form.{IsGram}
use Rattle.dd_gram.specs.Frames.{IsOwnFrame}
use Rattle.dd_gram.specs.declared.forms.Gram.{Gram}
use Rattle.dd_draw.specs.Document.{document}
use Rattle.dd_draw.specs.Placement.{Point, IsPlacement}
use Rattle.dd_draw.specs.Tables.{place_at}
use Rattle.dd_draw.specs.Width.{Place, IsPlaceOf, IsWideAt, IsFirstWide}
use Rattle.dd_suite_commands.specs.Made.{IsLeastTorus, IsCurved}
use Rattle.dd_suite_commands.specs.declared.refusals.SymbolFault.{SymbolFault}
use Rattle.dd_suite_commands.specs.declared.refusals.SymbolFault.TheVariants.{TooManyChambers, BranchingTooLarge, NotFlat, TooManyVertices, TooWide}
use Rattle.dd_suite_commands.specs.declared.refusals.SymbolRefusal.{SymbolRefusal}

-- the net of the least form of the torus cover
pub record IsTorusNet (s : Symbol) (net : Net) : Type 0 where
  pub torus : Symbol
  pub least : IsLeastTorus s torus
  pub is_net : IsNet torus net

-- the cell that has the shape of the form of a torus
pub record IsOwnCell (torus : Symbol) (frame : Frame) : Type 0 where
  pub form : Gram
  pub is_form : IsGram torus form
  pub is_own : IsOwnFrame form frame

-- the cell in which a torus is drawn: one of a shape that is given, or its own
abbrev pub IsCell : Option Frame → Symbol → Frame → Type 0
IsCell (Some given) torus frame = frame ≡ given
IsCell None torus frame = IsOwnCell torus frame

-- the document of that net at its placement; it has at most 96 vertices, and no number of the elimination is too wide
pub record IsDrawing (shape : Option Frame) (s : Symbol) (text : List ℕ) : Type 0 where
  pub net : Net
  pub is_net : IsTorusNet s net
  pub frame : Frame
  pub is_cell : IsCell shape is_net.torus frame
  pub few : net.vertices ≤ 96
  pub narrow : (p : Place) → IsPlaceOf net p → ¬ IsWideAt net p
  pub points : List Point
  pub placed : IsPlacement net points
  pub is_document : text ≡ document frame net.edges.items points

-- the old text, and a drawing
pub record AddsDrawing (shape : Option Frame) (s : Symbol) (old new : List ℕ) : Type 0 where
  pub drawing : List ℕ
  pub is_drawing : IsDrawing shape s drawing
  pub text : new ≡ old ++ drawing

-- the drawings of symbols, one after the other
abbrev pub AreDrawings : Option Frame → List Symbol → List ℕ → Type 0
AreDrawings shape [] text = text ≡ []
AreDrawings shape (s ∷ ss) text = (one : List ℕ) × (rest : List ℕ) × IsDrawing shape s one × AreDrawings shape ss rest × (text ≡ one ++ rest)

-- the torus cover has so many vertices, over 96; the net of its least form has as many
pub record HasManyVertices (s : Symbol) (count : ℕ) : Type 0 where
  pub flat : Flat s
  pub cover : Symbol
  pub below : List ℕ
  pub is_cover : IsTorusCover s cover below
  pub vertices : List ℕ
  pub are_vertices : AreCells cover Vertex vertices
  pub many : count ≡ length vertices
  pub over : 96 < count

-- this is the first place of the elimination of a net with a number that is too wide
abbrev pub IsWideNet : Net → SymbolFault → Type 0
IsWideNet net (TooManyChambers n) = ⊥
IsWideNet net (BranchingTooLarge v) = ⊥
IsWideNet net (NotFlat x) = ⊥
IsWideNet net (TooManyVertices count) = ⊥
IsWideNet net (TooWide step row column) = IsFirstWide net (place_at step row column)

-- the net of a symbol has at most 96 vertices, and a number that is too wide
pub record HasWideNet (s : Symbol) (fault : SymbolFault) : Type 0 where
  pub net : Net
  pub is_net : IsTorusNet s net
  pub few : net.vertices ≤ 96
  pub wide : IsWideNet net fault

-- the torus cover of a symbol has too many vertices
abbrev pub IsCrowded : Symbol → SymbolFault → Type 0
IsCrowded s (TooManyChambers n) = ⊥
IsCrowded s (BranchingTooLarge v) = ⊥
IsCrowded s (NotFlat x) = ⊥
IsCrowded s (TooManyVertices count) = HasManyVertices s count
IsCrowded s (TooWide step row column) = ⊥

-- Why a symbol is not drawn: it is not flat, its torus cover has too many vertices, or the net has a number that is too wide.
abbrev pub IsUndrawn : Symbol → SymbolFault → Type 0
IsUndrawn s fault = IsCurved s fault ⊎ (IsCrowded s fault ⊎ HasWideNet s fault)

-- a symbol has a drawing
abbrev pub IsDrawn : Option Frame → Symbol → Type 0
IsDrawn shape s = (text : List ℕ) × IsDrawing shape s text

-- Of the symbols, the first of which has the number k, all before this one are drawn, and this one is not.
abbrev pub IsFirstUndrawn : Option Frame → ℕ → List Symbol → SymbolRefusal → Type 0
IsFirstUndrawn shape k [] r = ⊥
IsFirstUndrawn shape k (s ∷ ss) r = ((r.symbol ≡ k) × IsUndrawn s r.why) ⊎ (IsDrawn shape s × IsFirstUndrawn shape (k + 1) ss r)
