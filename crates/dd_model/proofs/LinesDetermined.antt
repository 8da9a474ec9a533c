-- A line determines its number and its symbol, and lines determine their symbols.
use Rattle.std.proofs.Common.{◌≡◌, ℕ, ◌+◌, ◌<◌, ◌^◌, List, [], ◌∷◌, ◌++◌, length, map, refl, sym, ap, ◌∙◌, subst, arith}
use Rattle.std.specs.List.{AllByRecursion}
use Rattle.dd_model.specs.declared.index.Index.{Index}
use Rattle.dd_model.specs.declared.index.Index.TheVariants.{Zero, One, Two}
use Rattle.dd_model.specs.declared.pair.Pair.TheVariants.{Tile, Vertex}
use Rattle.dd_model.specs.Symbol.{Symbol, IsSymbol, item, operation}
use Rattle.dd_model.specs.Small.{IsSmallSymbol}
use Rattle.dd_model.specs.Line.{told_images, IsLine}
use Rattle.dd_model.specs.Text.{AreLines}
use Rattle.dd_model.proofs.Codes.{same_items}
use Rattle.dd_model.proofs.CellLists.{cells_unique}
use Rattle.dd_model.proofs.LinesParted.{LineParts, line_of, line_grouped, ArePartsShort, same_parts}
use Rattle.dd_model.proofs.LinesTold.{same_from_told}
use Rattle.dd_model.proofs.LinesDegrees.{HaveSameOps, degrees_short, told_short, same_cells, same_degrees}

-- what the line of a symbol tells
abbrev parts_of : ℕ → Symbol → List ℕ → List ℕ → LineParts
parts_of k s tiles vertices = record {
  number = k;
  size = s.size;
  first = told_images s Zero;
  second = told_images s One;
  third = told_images s Two;
  fourth = map (item s.m01) tiles;
  fifth = map (item s.m12) vertices;
}

parts_short : (k : ℕ) (s : Symbol) (bytes : List ℕ) → k < 10 ^ 64 → IsSmallSymbol s → (line : IsLine k s bytes) → ArePartsShort (parts_of k s line.tiles line.vertices)
parts_short k s bytes h small line = record {
  number = h;
  size = let size = small.size in omega (arith, size);
  first = told_short s small Zero;
  second = told_short s small One;
  third = told_short s small Two;
  fourth = degrees_short s small Tile line.tiles line.are_tiles;
  fifth = degrees_short s small Vertex line.vertices line.are_vertices;
}

same_operations : (s t : Symbol) → IsSymbol s → IsSymbol t → s.size ≡ t.size → ((i : Index) → told_images s i ≡ told_images t i) → (i : Index) → operation s i ≡ operation t i
same_operations s t is it size told i =
    same_items (operation s i) (operation t i) s.size (is.table.lengths i) (it.table.lengths i ∙ sym size)
    (λ d low high. same_from_told s t i size (is.table.involutions i) (it.table.involutions i) (told i) d (low, omega arith))

-- symbols whose lines tell the same are equal
same_symbol : (k l : ℕ) (s t : Symbol) (a b : List ℕ) → IsSymbol s → IsSymbol t → (line_s : IsLine k s a) → (line_t : IsLine l t b)
    → parts_of k s line_s.tiles line_s.vertices ≡ parts_of l t line_t.tiles line_t.vertices → s ≡ t
same_symbol k l s t a b is it line_s line_t parts =
    let size : s.size ≡ t.size = ap (λ p. p.size) parts in
    let first : told_images s Zero ≡ told_images t Zero = ap (λ p. p.first) parts in
    let second : told_images s One ≡ told_images t One = ap (λ p. p.second) parts in
    let third : told_images s Two ≡ told_images t Two = ap (λ p. p.third) parts in
    let told : (i : Index) → told_images s i ≡ told_images t i =
    λ i. elim i as (λ j. told_images s j ≡ told_images t j) [ Zero ↦ first | One ↦ second | Two ↦ third ] in
    let lists = same_operations s t is it size told in
    let ops : HaveSameOps s t = λ i d. ap (λ xs. item xs d) (lists i) in
    let tiles : line_t.tiles ≡ line_s.tiles = cells_unique t Tile line_t.tiles line_s.tiles line_t.are_tiles (same_cells s t size ops Tile line_s.tiles line_s.are_tiles) in
    let vertices : line_t.vertices ≡ line_s.vertices =
    cells_unique t Vertex line_t.vertices line_s.vertices line_t.are_vertices (same_cells s t size ops Vertex line_s.vertices line_s.are_vertices) in
    let at_tiles : map (item s.m01) line_s.tiles ≡ map (item t.m01) line_s.tiles = ap (λ p. p.fourth) parts ∙ ap (map (item t.m01)) tiles in
    let at_vertices : map (item s.m12) line_s.vertices ≡ map (item t.m12) line_s.vertices = ap (λ p. p.fifth) parts ∙ ap (map (item t.m12)) vertices in
    let m01 : s.m01 ≡ t.m01 = same_items s.m01 t.m01 s.size is.table.m01_length (it.table.m01_length ∙ sym size)
    (λ d low high. same_degrees s t is it size ops Tile line_s.tiles line_s.are_tiles at_tiles d (low, omega arith)) in
    let m12 : s.m12 ≡ t.m12 = same_items s.m12 t.m12 s.size is.table.m12_length (it.table.m12_length ∙ sym size)
    (λ d low high. same_degrees s t is it size ops Vertex line_s.vertices line_s.are_vertices at_vertices d (low, omega arith)) in
    let s0 : s.s0 ≡ t.s0 = lists Zero in
    let s1 : s.s1 ≡ t.s1 = lists One in
    let s2 : s.s2 ≡ t.s2 = lists Two in
    λ x. record { size = size x; s0 = s0 x; s1 = s1 x; s2 = s2 x; m01 = m01 x; m12 = m12 x }

-- what a line at the front of some bytes determines
record IsSameFront (k l : ℕ) (s t : Symbol) (us vs : List ℕ) : Type 0 where
  number : k ≡ l
  symbol : s ≡ t
  rest : us ≡ vs

front_determines : (k l : ℕ) (s t : Symbol) (a b us vs : List ℕ) → k < 10 ^ 64 → l < 10 ^ 64 → IsSmallSymbol s → IsSmallSymbol t → IsLine k s a → IsLine l t b
    → a ++ us ≡ b ++ vs → IsSameFront k l s t us vs
front_determines k l s t a b us vs hk hl small_s small_t line_s line_t e =
    let p = parts_of k s line_s.tiles line_s.vertices in
    let q = parts_of l t line_t.tiles line_t.vertices in
    let texts : line_of p ++ us ≡ line_of q ++ vs = ap (λ xs. xs ++ us) (sym line_s.text) ∙ e ∙ ap (λ xs. xs ++ vs) line_t.text in
    let both = same_parts p q us vs (parts_short k s a hk small_s line_s) (parts_short l t b hl small_t line_t) texts in
    record { number = ap (λ r. r.number) both.0; symbol = same_symbol k l s t a b small_s.symbol small_t.symbol line_s line_t both.0; rest = both.1 }

pub line_determines : (k l : ℕ) (s t : Symbol) (bytes : List ℕ) → k < 10 ^ 64 → l < 10 ^ 64 → IsSmallSymbol s → IsSmallSymbol t → IsLine k s bytes → IsLine l t bytes
    → (k ≡ l) × (s ≡ t)
line_determines k l s t bytes hk hl small_s small_t line_s line_t =
    let front = front_determines k l s t bytes bytes [] [] hk hl small_s small_t line_s line_t refl in
    (front.number, front.symbol)

-- a line is not empty
line_some : (k : ℕ) (s : Symbol) (line rest : List ℕ) → IsLine k s line → line ++ rest ≡ [] → ⊥
line_some k s line rest h e =
    let p = parts_of k s h.tiles h.vertices in
    let told = sym (line_grouped p rest) ∙ ap (λ xs. xs ++ rest) (sym h.text) ∙ e in
    cc

pub lines_determine : (k : ℕ) (ss ts : List Symbol) (bytes : List ℕ) → k + length ss < 10 ^ 64 → k + length ts < 10 ^ 64
    → AllByRecursion IsSmallSymbol ss → AllByRecursion IsSmallSymbol ts → AreLines k ss bytes → AreLines k ts bytes → ss ≡ ts
lines_determine k [] [] bytes hs ht small_s small_t a b = refl
lines_determine k [] (t ∷ ts) bytes hs ht small_s small_t a (line, rest, here, later, e) = absurd (line_some (k + 1) t line rest here (sym e ∙ a))
lines_determine k (s ∷ ss) [] bytes hs ht small_s small_t (line, rest, here, later, e) b = absurd (line_some (k + 1) s line rest here (sym e ∙ b))
lines_determine k (s ∷ ss) (t ∷ ts) bytes hs ht small_s small_t (line, rest, here, later, e) (line', rest', here', later', e') =
    let number : k + 1 < 10 ^ 64 = omega (arith, hs) in
    let front = front_determines (k + 1) (k + 1) s t line line' rest rest' number number small_s.0 small_t.0 here here' (sym e ∙ e') in
    let next = lines_determine (k + 1) ss ts rest (omega (arith, hs)) (omega (arith, ht)) small_s.1 small_t.1 later (subst (AreLines (k + 1) ts) (sym front.rest) later') in
    ap (λ u. u ∷ ss) front.symbol ∙ ap (λ us. t ∷ us) next
