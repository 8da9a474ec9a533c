-- A symbol is known from its size, its told images, and one degree for each cell.
use Rattle.std.proofs.Common.{◌≡◌, ℕ, ◌≤◌, List, [], ◌∷◌, refl, sym, ap, ◌∙◌, subst, arith}
use Rattle.std.specs.Prelude.{map, filter, nat_le}
use Rattle.dd_model.specs.Code.{count_from}
use Rattle.dd_model.specs.declared.index.Index.{Index}
use Rattle.dd_model.specs.declared.index.Index.TheVariants.{Zero, One, Two}
use Rattle.dd_model.specs.declared.pair.Pair.{Pair}
use Rattle.dd_model.specs.declared.pair.Pair.TheVariants.{Tile, Vertex}
use Rattle.dd_model.specs.Symbol.{Symbol, AreInvolutions, IsTable, IsSymbol, IsChamber, Word, item, op, act, operation, degree}
use Rattle.dd_model.specs.Cell.{InCell, IsLeastOfCell, AreCells}
use Rattle.dd_model.specs.Line.{told_images}
use Rattle.dd_model.specs.Spelling.{Shape, Tells}
use Rattle.dd_model.proofs.Codes.{same_items}
use Rattle.dd_model.proofs.Branching.{degree_same}
use Rattle.dd_model.proofs.CellLists.{cells_unique}
use Rattle.dd_model.proofs.CellSearch.{has_least}
use Rattle.dd_model.proofs.CellWalks.{in_cell-sym}
use Rattle.dd_model.proofs.ReadingImages.{IsFold, told_same}
use Rattle.dd_model.proofs.Lists.{map_at}
use Rattle.dd_model.proofs.Fields.{same_fields}

-- an involution of a table, on numbers
pub fold_of : (s : Symbol) → AreInvolutions s → (i : Index) → IsFold s.size (op s i)
fold_of s inv i = record {
  within = λ d low high. (inv i).within d (low, high);
  back = λ d low high. (inv i).involutive d (low, high);
}

-- two tables of one size that tell the same images have the same list
pub operation_same : (s t : Symbol) → IsTable s → IsTable t → s.size ≡ t.size → (i : Index) → told_images s i ≡ told_images t i → operation s i ≡ operation t i
operation_same s t a b size i told =
    let told' : told_images s i ≡ map (op t i) (filter (λ d. nat_le d (op t i d)) (count_from 1 s.size)) = told ∙ ap (λ n. map (op t i) (filter (λ d. nat_le d (op t i d)) (count_from 1 n))) (sym size) in
    let fold_t : IsFold s.size (op t i) = subst (λ n. IsFold n (op t i)) (sym size) (fold_of t b.involutions i) in
    same_items (operation s i) (operation t i) s.size (a.lengths i) (b.lengths i ∙ sym size)
    (λ d low high. told_same s.size (op s i) (op t i) (fold_of s a.involutions i) fold_t 1 s.size (omega arith) (omega arith) (λ x p l. absurd (omega arith)) told' d low high)

-- the same images
pub record HaveSameImages (s t : Symbol) : Type 0 where
  pub size : s.size ≡ t.size
  pub images : (i : Index) (d : ℕ) → op s i d ≡ op t i d

pub images_back : (s t : Symbol) → HaveSameImages s t → HaveSameImages t s
images_back s t h = record { size = sym h.size; images = λ i d. sym (h.images i d) }

act_same : (s t : Symbol) → HaveSameImages s t → (w : Word) (d : ℕ) → act s w d ≡ act t w d
act_same s t h [] d = refl
act_same s t h (i ∷ w) d = ap (act s w) (h.images i d) ∙ act_same s t h w (op t i d)

pub in_cell_same : (s t : Symbol) → HaveSameImages s t → (p : Pair) (d e : ℕ) → InCell s p d e → InCell t p d e
in_cell_same s t h p d e c = record { word = c.word; letters = c.letters; leads = sym (act_same s t h c.word d) ∙ c.leads }

pub chamber_same : (s t : Symbol) → HaveSameImages s t → (d : ℕ) → IsChamber s d → IsChamber t d
chamber_same s t h d c = (c.0, subst (λ n. d ≤ n) h.size c.1)

least_same : (s t : Symbol) → HaveSameImages s t → (p : Pair) (d : ℕ) → IsLeastOfCell s p d → IsLeastOfCell t p d
least_same s t h p d l = (chamber_same s t h d l.0, λ e there. l.1 e (in_cell_same t s (images_back s t h) p d e there))

-- cells know nothing of degrees
pub cells_same : (s t : Symbol) → HaveSameImages s t → (p : Pair) (ds : List ℕ) → AreCells s p ds → AreCells t p ds
cells_same s t h p ds c = record {
  ascending = c.ascending;
  members = λ d. (λ here. least_same s t h p d ((c.members d).0 here), λ l. (c.members d).1 (least_same t s (images_back s t h) p d l));
}

-- the degrees of two symbols with the same images, if they are equal at the least chambers of cells
degrees_same : (s t : Symbol) → IsSymbol s → IsSymbol t → HaveSameImages s t → (p : Pair) (ds : List ℕ) → AreCells s p ds
    → map (degree s p) ds ≡ map (degree t p) ds → (d : ℕ) → IsChamber s d → degree s p d ≡ degree t p d
degrees_same s t a b h p ds cells e d c =
    let l = has_least s a.table.involutions p d c in
    let back = in_cell-sym s a.table.involutions p d l.least c l.in_cell in
    let at_least = map_at (degree s p) (degree t p) ds e l.least ((cells.members l.least).1 l.is_least) in
    let back' = in_cell_same s t h p l.least d back in
    ap (degree s p) (sym back.leads) ∙ degree_same s a p back.word l.least l.is_least.0 back.letters
    ∙ at_least
    ∙ sym (degree_same t b p back'.word l.least (chamber_same s t h l.least l.is_least.0) back'.letters) ∙ ap (degree t p) back'.leads

-- A shape tells at most one symbol.
pub same_symbol : (x : Shape) (s t : Symbol) → IsSymbol s → IsSymbol t → Tells x s → Tells x t → s ≡ t
same_symbol x s t a b u v =
    let size : s.size ≡ t.size = sym u.size ∙ v.size in
    let s0 = operation_same s t a.table b.table size Zero (sym u.s0 ∙ v.s0) in
    let s1 = operation_same s t a.table b.table size One (sym u.s1 ∙ v.s1) in
    let s2 = operation_same s t a.table b.table size Two (sym u.s2 ∙ v.s2) in
    let images : HaveSameImages s t = record {
      size = size;
      images = λ i d. elim i as (λ j. op s j d ≡ op t j d) [ Zero ↦ ap (λ xs. item xs d) s0 | One ↦ ap (λ xs. item xs d) s1 | Two ↦ ap (λ xs. item xs d) s2 ];
    } in
    let tiles : u.tiles ≡ v.tiles = cells_unique t Tile u.tiles v.tiles (cells_same s t images Tile u.tiles u.are_tiles) v.are_tiles in
    let vertices : u.vertices ≡ v.vertices = cells_unique t Vertex u.vertices v.vertices (cells_same s t images Vertex u.vertices u.are_vertices) v.are_vertices in
    let m01_at : map (item s.m01) u.tiles ≡ map (item t.m01) u.tiles = sym u.m01 ∙ v.m01 ∙ ap (map (item t.m01)) (sym tiles) in
    let m12_at : map (item s.m12) u.vertices ≡ map (item t.m12) u.vertices = sym u.m12 ∙ v.m12 ∙ ap (map (item t.m12)) (sym vertices) in
    let m01 : s.m01 ≡ t.m01 =
    same_items s.m01 t.m01 s.size a.table.m01_length (b.table.m01_length ∙ sym size)
    (λ d low high. degrees_same s t a b images Tile u.tiles u.are_tiles m01_at d (low, omega arith)) in
    let m12 : s.m12 ≡ t.m12 =
    same_items s.m12 t.m12 s.size a.table.m12_length (b.table.m12_length ∙ sym size)
    (λ d low high. degrees_same s t a b images Vertex u.vertices u.are_vertices m12_at d (low, omega arith)) in
    same_fields s t size s0 s1 s2 m01 m12
