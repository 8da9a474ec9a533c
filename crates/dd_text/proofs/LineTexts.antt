-- A line is put together from its parts.
use Rattle.std.proofs.Common.{◌≡◌, ℕ, List, [], ◌++◌, codes, decimal, map, take, get_or, All, ◌+◌, ◌≤◌, arith, length, length-append, take_at, append_assoc, refl, sym, ap, ◌∙◌, subst}
use Rattle.std.proofs.lemmas.List.{get_or_default}
use Rattle.dd_model.specs.declared.index.Index.TheVariants.{Zero, One, Two}
use Rattle.dd_model.specs.declared.pair.Pair.{Pair}
use Rattle.dd_model.specs.declared.pair.Pair.TheVariants.{Tile, Vertex}
use Rattle.dd_model.specs.Symbol.{Symbol, IsChamber, degree}
use Rattle.dd_model.specs.Cell.{AreCells}
use Rattle.dd_model.specs.Involutions.{HaveSameInvolutions}
use Rattle.dd_model.specs.Line.{spaced, told_images, text_of}
use Rattle.dd_symbol.proofs.SameCells.{are_cells-same}
use Rattle.dd_text.specs.Numbered.{IsNumbered}
use Rattle.dd_text.specs.Outline.{IsOutlineOf, shared_by}
use Rattle.dd_text.specs.Images.{IsWithin}
use Rattle.dd_text.specs.Writing.{AddsLine}
use Rattle.dd_text.specs.declared.outline.Outline.{Outline}

regrouped : (a b c d e f g h i j k l m n o : List ℕ)
    → a ++ b ++ (c ++ d ++ e ++ f ++ g ++ h ++ i ++ j ++ k) ++ l ++ m ++ n ++ o
    ≡ a ++ b ++ c ++ d ++ e ++ f ++ g ++ h ++ i ++ j ++ k ++ l ++ m ++ n ++ o
regrouped a b c d e f g h i j k l m n o = simp (append_assoc) refl

-- the number, what lines share, and the degrees, one after the other
line_text : (s : Symbol) (k : ℕ) (tiles vertices : List ℕ)
    → codes "<1." ++ decimal k ++ shared_by s ++ spaced (map (degree s Tile) tiles) ++ codes "," ++ spaced (map (degree s Vertex) vertices) ++ codes ">\n"
    ≡ text_of k s tiles vertices
line_text s k tiles vertices =
    regrouped (codes "<1.") (decimal k) (codes ":") (decimal s.size) (codes ":") (spaced (told_images s Zero)) (codes ",") (spaced (told_images s One)) (codes ",") (spaced (told_images s Two))
    (codes ":") (spaced (map (degree s Tile) tiles)) (codes ",") (spaced (map (degree s Vertex) vertices)) (codes ">\n")

-- what an outline has of a line, and the degrees of its cells
pub line_added : (k : ℕ) (s : Symbol) (o : Outline) (tiles vertices old line new : List ℕ) → IsOutlineOf k s o → tiles ≡ o.tiles.items → vertices ≡ o.vertices.items
    → line ≡ o.head.items ++ spaced (map (degree s Tile) tiles) ++ codes "," ++ spaced (map (degree s Vertex) vertices) ++ codes ">\n"
    → new ≡ old ++ line → AddsLine k s old new
line_added k s o tiles vertices old line new is et ev el en = record {
  line = text_of k s tiles vertices;
  is_line = record { tiles = tiles; vertices = vertices; are_tiles = subst (AreCells s Tile) (sym et) is.cells.tiles; are_vertices = subst (AreCells s Vertex) (sym ev) is.cells.vertices; text = refl };
  text = en
      ∙ ap (λ t. old ++ t)
      (el ∙ ap (λ t. t ++ spaced (map (degree s Tile) tiles) ++ codes "," ++ spaced (map (degree s Vertex) vertices) ++ codes ">\n") is.numbered.text_is ∙ line_text s k tiles vertices);
}

-- symbols with the same involutions share this text
pub shared_same : (s t : Symbol) → HaveSameInvolutions s t → shared_by t ≡ shared_by s
shared_same s t same = λ i. shared_by (record { size = same.size i; s0 = same.s0 i; s1 = same.s1 i; s2 = same.s2 i; m01 = []; m12 = [] })

pub outline_same : (k : ℕ) (s t : Symbol) (o : Outline) → HaveSameInvolutions s t → IsOutlineOf k s o → IsOutlineOf k t o
outline_same k s t o same is = record {
  numbered = subst (λ shared. IsNumbered k shared o.head.items o.number_end) (sym (shared_same s t same)) is.numbered;
  cells = record {
    tiles = are_cells-same s t same Tile o.tiles.items is.cells.tiles;
    vertices = are_cells-same s t same Vertex o.vertices.items is.cells.vertices;
  };
}

-- after a number comes something else
pub renumbered : (k : ℕ) (rest other text front new : List ℕ) (end : ℕ) → IsNumbered k rest text end → front ≡ take end text → new ≡ front ++ other → IsNumbered k other new end
renumbered k rest other text front new end is cut whole =
    let number = codes "<1." ++ decimal k in
    let count : length number ≡ end = length-append (codes "<1.") (decimal k) ∙ sym is.end_is in
    record {
      text_is = whole ∙ ap (λ t. t ++ other) (cut ∙ ap (take end) is.text_is ∙ take_at number rest end count);
      end_is = is.end_is;
    }

-- the end of a number lies within the text
pub number_within : (k : ℕ) (rest text : List ℕ) (end : ℕ) → IsNumbered k rest text end → end ≤ length text
number_within k rest text end is =
    let count : length (codes "<1." ++ decimal k) ≡ 3 + length (decimal k) = length-append (codes "<1.") (decimal k) in
    let all : length text ≡ length (codes "<1." ++ decimal k) + length rest = ap length is.text_is ∙ length-append (codes "<1." ++ decimal k) rest in
    let end_is = is.end_is in
    omega arith

-- the number of chambers is appended with a colon on each side, and a number after it
pub size_put : (n first : ℕ) (old a b c d : List ℕ) → a ≡ old ++ codes ":" → b ≡ a ++ decimal n → c ≡ b ++ codes ":" → d ≡ c ++ decimal first
    → d ≡ old ++ (codes ":" ++ decimal n ++ codes ":" ++ decimal first)
size_put n first old a b c d ea eb ec ed =
    ed ∙ ap (λ t. t ++ decimal first) (ec ∙ ap (λ t. t ++ codes ":") (eb ∙ ap (λ t. t ++ decimal n) ea))
    ∙ parted old (codes ":") (decimal n) (codes ":") (decimal first)
  where
    parted : (old a b c d : List ℕ) → old ++ a ++ b ++ c ++ d ≡ old ++ (a ++ b ++ c ++ d)
    parted old a b c d = simp (append_assoc) refl

-- a head that was cut back after its degrees is as before
cut_back : (head a b c d longer cut : List ℕ) (end : ℕ) → end ≡ length head → longer ≡ head ++ a ++ b ++ c ++ d → cut ≡ take end longer → cut ≡ head
cut_back head a b c d longer cut end count is cut_is =
    cut_is ∙ ap (take end) (is ∙ parted head a b c d) ∙ take_at head (a ++ b ++ c ++ d) end (sym count)
  where
    parted : (head a b c d : List ℕ) → head ++ a ++ b ++ c ++ d ≡ head ++ (a ++ b ++ c ++ d)
    parted head a b c d = simp (append_assoc) refl

-- and so is its outline
pub outline_kept : (k : ℕ) (s : Symbol) (o n : Outline) (a b c d longer : List ℕ) (end : ℕ) → end ≡ length o.head.items → longer ≡ o.head.items ++ a ++ b ++ c ++ d
    → n.head.items ≡ take end longer → n.number_end ≡ o.number_end → n.tiles ≡ o.tiles → n.vertices ≡ o.vertices → IsOutlineOf k s o → IsOutlineOf k s n
outline_kept k s o n a b c d longer end count is cut same tiles vertices kept = record {
  numbered = subst (λ m. IsNumbered k (shared_by s) n.head.items m) (sym same)
      (subst (λ t. IsNumbered k (shared_by s) t o.number_end) (sym (cut_back o.head.items a b c d longer n.head.items end count is cut)) kept.numbered);
  cells = record {
    tiles = subst (λ v. AreCells s Tile v.items) (sym tiles) kept.cells.tiles;
    vertices = subst (λ v. AreCells s Vertex v.items) (sym vertices) kept.cells.vertices;
  };
}

-- the least chambers of cells are chambers
pub all_chambers : (s : Symbol) (p : Pair) (ds : List ℕ) → AreCells s p ds → All (IsChamber s) ds
all_chambers s p ds cells k d h = ((cells.members (get_or ds k d)).0 (k, h, get_or_default ds k (get_or ds k d) d h)).0

-- and so places in lists of as many numbers
pub all_within : (s : Symbol) (p : Pair) (ds es : List ℕ) (n : ℕ) → AreCells s p ds → es ≡ ds → n ≡ s.size → All (IsWithin n) es
all_within s p ds es n cells same size =
    subst (λ m. All (IsWithin m) es) (sym size) (subst (All (IsChamber s)) (sym same) (all_chambers s p ds cells))
