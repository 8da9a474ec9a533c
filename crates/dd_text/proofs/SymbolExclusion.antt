-- A shape that tells a symbol has no fault.
use Rattle.std.proofs.Common.{◌≡◌, ◌≢◌, ℕ, ◌≤◌, List, [], ◌∷◌, length, refl, sym, ap, ◌∙◌, subst, arith}
use Rattle.std.specs.Prelude.{map, filter, nat_le}
use Rattle.std.proofs.lemmas.List.{length-append}
use Rattle.dd_model.specs.declared.index.Index.{Index}
use Rattle.dd_model.specs.declared.index.Index.TheVariants.{Zero, One, Two}
use Rattle.dd_model.specs.declared.pair.Pair.{Pair}
use Rattle.dd_model.specs.declared.pair.Pair.TheVariants.{Tile, Vertex}
use Rattle.dd_model.specs.Symbol.{Symbol, AreInvolutions, IsSymbol, IsChamber, item, op, operation, degree}
use Rattle.dd_model.specs.Cell.{InCell, AreCells}
use Rattle.dd_model.specs.Code.{count_from}
use Rattle.dd_model.specs.Line.{told_images}
use Rattle.dd_model.specs.Spelling.{Told, Shape, Tells, values}
use Rattle.dd_model.specs.Reading.{IsReadable}
use Rattle.dd_model.proofs.Branching.{degree_same}
use Rattle.dd_model.proofs.CellLists.{cells_unique}
use Rattle.dd_model.proofs.CellSearch.{has_least}
use Rattle.dd_model.proofs.Codes.{same_items}
use Rattle.dd_model.proofs.Fields.{same_fields}
use Rattle.dd_model.proofs.ReadingSymbols.{HaveSameImages, in_cell_same, chamber_same, cells_same}
use Rattle.dd_model.proofs.Lists.{map_at}
use Rattle.dd_symbol.specs.Building.{listed}
use Rattle.dd_symbol.specs.Refusals.{IsRefused}
use Rattle.dd_symbol.proofs.RefusalLemmas.{not_accepted}
use Rattle.dd_text.specs.declared.faults.Why.{Why}
use Rattle.dd_text.specs.declared.faults.Why.TheVariants as whys
use Rattle.dd_text.specs.ListFaults.{IsDegreesFault}
use Rattle.dd_text.specs.Images.{IsToldBy}
use Rattle.dd_text.specs.SymbolFaults.{Gives, AreTold, IsListsFault, IsShapeFault, in_s0, in_s1, in_s2, in_m01, in_m12}
use Rattle.dd_text.proofs.CellReads.{length-numbers_of, length-mapped}
use Rattle.dd_text.proofs.ListExclusion.{told_by_unique, images_excluded}

-- the list of images of a shape
abbrev pub list_of : Shape → Index → Told
list_of x Zero = x.s0
list_of x One = x.s1
list_of x Two = x.s2

-- the lists of images that tell involutions
pub record TellsImages (x : Shape) (s : Symbol) : Type 0 where
  pub size : x.size.value ≡ s.size
  pub lengths : (i : Index) → length (operation s i) ≡ s.size
  pub involutions : AreInvolutions s
  pub told : (i : Index) → values (list_of x i) ≡ told_images s i

pub told_by : (x : Shape) (s : Symbol) → TellsImages x s → (i : Index) → IsToldBy x.size.value (values (list_of x i)) (operation s i)
told_by x s t i = record {
  length_is = t.lengths i ∙ sym t.size;
  within = λ d low high. let w = (t.involutions i).within d (low, subst (λ z. d ≤ z) t.size high) in (w.0, subst (λ z. op s i d ≤ z) (sym t.size) w.1);
  back = λ d low high. (t.involutions i).involutive d (low, subst (λ z. d ≤ z) t.size high);
  images = ap (λ n. map (op s i) (filter (λ d. nat_le d (op s i d)) (count_from 1 n))) t.size ∙ sym (t.told i);
}

pub symbol_images : (x : Shape) (s : Symbol) → Tells x s → IsSymbol s → TellsImages x s
symbol_images x s t is = record {
  size = t.size;
  lengths = is.table.lengths;
  involutions = is.table.involutions;
  told = λ i. elim i as (λ j. values (list_of x j) ≡ told_images s j) [ Zero ↦ t.s0 | One ↦ t.s1 | Two ↦ t.s2 ];
}

pub given_images : (x : Shape) (s : Symbol) → Gives x s → TellsImages x s
given_images x s g = record {
  size = g.tells.size;
  lengths = g.lengths;
  involutions = g.involutions;
  told = λ i. elim i as (λ j. values (list_of x j) ≡ told_images s j) [ Zero ↦ g.tells.s0 | One ↦ g.tells.s1 | Two ↦ g.tells.s2 ];
}

-- lists that are told are those of the symbol
same_as_told : (x : Shape) (s : Symbol) (s0 s1 s2 : List ℕ) → TellsImages x s → AreTold x s0 s1 s2 → HaveSameImages (listed s0 s1 s2 [] []) s
same_as_told x s s0 s1 s2 t told = record {
  size = told.s0_told.length_is ∙ t.size;
  images = λ i d. elim i as (λ j. op (listed s0 s1 s2 [] []) j d ≡ op s j d) [
    | Zero ↦ ap (λ xs. item xs d) (told_by_unique x.size.value (values x.s0) s0 s.s0 told.s0_told (told_by x s t Zero))
    | One ↦ ap (λ xs. item xs d) (told_by_unique x.size.value (values x.s1) s1 s.s1 told.s1_told (told_by x s t One))
    | Two ↦ ap (λ xs. item xs d) (told_by_unique x.size.value (values x.s2) s2 s.s2 told.s2_told (told_by x s t Two))
  ];
}

-- there are as many numbers as cells
pub degrees_excluded : (s bare : Symbol) (p : Pair) (l : Told) (ds : List ℕ) (f : ℕ → ℕ) (w : Why) (at : ℕ) → HaveSameImages bare s → AreCells s p ds → values l ≡ map f ds
    → IsDegreesFault bare p l w at → w ≢ whys.Memory → ⊥
degrees_excluded s bare p l ds f whys.ListShort at same are e fault some =
    let cells : fault.cells ≡ ds = cells_unique s p fault.cells ds (cells_same bare s same p fault.cells fault.are_cells) are in
    let a = ap length cells in
    let b = ap length e in
    let short = fault.short in
    omega (arith, length-numbers_of l.numbers, length-mapped f ds, a, b)
degrees_excluded s bare p l ds f whys.ListLong at same are e fault some =
    let cells : fault.cells ≡ ds = cells_unique s p fault.cells ds (cells_same bare s same p fault.cells fault.are_cells) are in
    let a = ap length cells in
    let b = ap length e in
    let enough = fault.enough in
    omega (arith, length-numbers_of l.numbers, length-mapped f ds, a, b, ap length fault.numbers, length-append fault.before (fault.number ∷ fault.after))
degrees_excluded s bare p l ds f whys.Memory at same are e fault some = some refl
degrees_excluded s bare p l ds f whys.Image at same are e fault some = fault
degrees_excluded s bare p l ds f whys.Stray at same are e fault some = fault
degrees_excluded s bare p l ds f whys.UnexpectedEnd at same are e fault some = fault
degrees_excluded s bare p l ds f whys.NumberTooLong at same are e fault some = fault
degrees_excluded s bare p l ds f whys.Dimension at same are e fault some = fault
degrees_excluded s bare p l ds f whys.Size at same are e fault some = fault
degrees_excluded s bare p l ds f (whys.Symbol r) at same are e fault some = fault
degrees_excluded s bare p l ds f whys.TooManySymbols at same are e fault some = fault
degrees_excluded s bare p l ds f whys.Long at same are e fault some = fault

pub lists_excluded : (x : Shape) (s : Symbol) (w : Why) (at : ℕ) → Tells x s → TellsImages x s → IsListsFault x w at → w ≢ whys.Memory → ⊥
lists_excluded x s w at t is (in_s0 f) some = images_excluded x.size.value x.s0 w at s.s0 f some (told_by x s is Zero)
lists_excluded x s w at t is (in_s1 s0 a f) some = images_excluded x.size.value x.s1 w at s.s1 f some (told_by x s is One)
lists_excluded x s w at t is (in_s2 s0 s1 a b f) some = images_excluded x.size.value x.s2 w at s.s2 f some (told_by x s is Two)
lists_excluded x s w at t is (in_m01 s0 s1 s2 a f) some =
    degrees_excluded s (listed s0 s1 s2 [] []) Tile x.m01 t.tiles (item s.m01) w at (same_as_told x s s0 s1 s2 is a) t.are_tiles t.m01 f some
lists_excluded x s w at t is (in_m12 s0 s1 s2 m01 a b f) some =
    degrees_excluded s (listed s0 s1 s2 [] []) Vertex x.m12 t.vertices (item s.m12) w at (same_as_told x s s0 s1 s2 is a) t.are_vertices t.m12 f some

-- ---- the lists that are given are those of the symbol

symbol_constant : (s : Symbol) → IsSymbol s → (p : Pair) (d e : ℕ) → IsChamber s d → InCell s p d e → degree s p d ≡ degree s p e
symbol_constant s is p d e h c = sym (degree_same s is p c.word d h c.letters) ∙ ap (degree s p) c.leads

degrees_agree : (s t : Symbol) → AreInvolutions s → HaveSameImages s t → (p : Pair) (ds : List ℕ)
    → ((d e : ℕ) → IsChamber s d → InCell s p d e → degree s p d ≡ degree s p e) → ((d e : ℕ) → IsChamber t d → InCell t p d e → degree t p d ≡ degree t p e)
    → AreCells s p ds → map (degree s p) ds ≡ map (degree t p) ds → (d : ℕ) → IsChamber s d → degree s p d ≡ degree t p d
degrees_agree s t inv h p ds const_s const_t cells e d c =
    let l = has_least s inv p d c in
    let at_least = map_at (degree s p) (degree t p) ds e l.least ((cells.members l.least).1 l.is_least) in
    const_s d l.least c l.in_cell ∙ at_least ∙ sym (const_t d l.least (chamber_same s t h d c) (in_cell_same s t h p d l.least l.in_cell))

-- what is known of lists that a shape tells, be they a symbol or not
pub record TellsAll (x : Shape) (s : Symbol) : Type 0 where
  pub tells : Tells x s
  pub images : TellsImages x s
  pub m01_length : length s.m01 ≡ s.size
  pub m12_length : length s.m12 ≡ s.size
  pub constant : (p : Pair) (d e : ℕ) → IsChamber s d → InCell s p d e → degree s p d ≡ degree s p e

pub symbol_tells : (x : Shape) (s : Symbol) → Tells x s → IsSymbol s → TellsAll x s
symbol_tells x s t is = record { tells = t; images = symbol_images x s t is; m01_length = is.table.m01_length; m12_length = is.table.m12_length; constant = symbol_constant s is }

pub given_tells : (x : Shape) (s : Symbol) → Gives x s → TellsAll x s
given_tells x s g = record { tells = g.tells; images = given_images x s g; m01_length = g.m01_length; m12_length = g.m12_length; constant = g.constant }

-- a shape tells at most one such list of lists
pub tells_once : (x : Shape) (s t : Symbol) → TellsAll x s → TellsAll x t → s ≡ t
tells_once x s t a b =
    let size : s.size ≡ t.size = sym a.images.size ∙ b.images.size in
    let lists : (i : Index) → operation s i ≡ operation t i = λ i.
    told_by_unique x.size.value (values (list_of x i)) (operation s i) (operation t i) (told_by x s a.images i) (told_by x t b.images i) in
    let same : HaveSameImages s t = record { size = size; images = λ i d. ap (λ xs. item xs d) (lists i) } in
    let u = a.tells in
    let v = b.tells in
    let tiles : u.tiles ≡ v.tiles = cells_unique t Tile u.tiles v.tiles (cells_same s t same Tile u.tiles u.are_tiles) v.are_tiles in
    let vertices : u.vertices ≡ v.vertices = cells_unique t Vertex u.vertices v.vertices (cells_same s t same Vertex u.vertices u.are_vertices) v.are_vertices in
    let m01_at : map (item s.m01) u.tiles ≡ map (item t.m01) u.tiles = sym u.m01 ∙ v.m01 ∙ ap (map (item t.m01)) (sym tiles) in
    let m12_at : map (item s.m12) u.vertices ≡ map (item t.m12) u.vertices = sym u.m12 ∙ v.m12 ∙ ap (map (item t.m12)) (sym vertices) in
    same_fields s t size (lists Zero) (lists One) (lists Two)
    (same_items s.m01 t.m01 s.size a.m01_length (b.m01_length ∙ sym size)
    (λ d low high. degrees_agree s t a.images.involutions same Tile u.tiles (a.constant Tile) (b.constant Tile) u.are_tiles m01_at d (low, omega arith)))
    (same_items s.m12 t.m12 s.size a.m12_length (b.m12_length ∙ sym size)
    (λ d low high. degrees_agree s t a.images.involutions same Vertex u.vertices (a.constant Vertex) (b.constant Vertex) u.are_vertices m12_at d (low, omega arith)))

-- A shape that tells a symbol that a file may hold has no fault.
pub shape_excluded : (x : Shape) (s : Symbol) (place : ℕ) (w : Why) (at : ℕ) → IsShapeFault x place w at → w ≢ whys.Memory → Tells x s → IsReadable s → ⊥
shape_excluded x s place whys.ListShort at f some t r = lists_excluded x s whys.ListShort at t (symbol_images x s t r.symbol.symbol) f some
shape_excluded x s place whys.ListLong at f some t r = lists_excluded x s whys.ListLong at t (symbol_images x s t r.symbol.symbol) f some
shape_excluded x s place whys.Image at f some t r = lists_excluded x s whys.Image at t (symbol_images x s t r.symbol.symbol) f some
shape_excluded x s place (whys.Symbol why) at f some t r =
    let bad = f.0 in
    let same : bad.lists ≡ s = tells_once x bad.lists s (given_tells x bad.lists bad.gives) (symbol_tells x s t r.symbol.symbol) in
    not_accepted 1024 s why (subst (λ z. IsRefused 1024 z why) same bad.refused) bad.some (record { symbol = r.symbol; connected = r.connected; within = r.size })
shape_excluded x s place whys.Memory at f some t r = some refl
shape_excluded x s place whys.Stray at f some t r = f
shape_excluded x s place whys.UnexpectedEnd at f some t r = f
shape_excluded x s place whys.NumberTooLong at f some t r = f
shape_excluded x s place whys.Dimension at f some t r = f
shape_excluded x s place whys.Size at f some t r = f
shape_excluded x s place whys.TooManySymbols at f some t r = f
shape_excluded x s place whys.Long at f some t r = f
