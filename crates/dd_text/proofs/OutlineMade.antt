-- An outline is made chamber by chamber.
use Rattle.std.proofs.Common.{◌≡◌, ℕ, ◌+◌, ◌<◌, ◌≤◌, List, [], ◌∷◌, ◌++◌, codes, decimal, append_assoc, append-nil, refl, sym, ap, ◌∙◌, subst, inl, inr, arith}
use Rattle.std.proofs.lemmas.List.Concat.{flat_map-cons}
use Rattle.std.specs.List.{flat_map}
use Rattle.dd_model.specs.declared.index.Index.{Index}
use Rattle.dd_model.specs.declared.index.Index.TheVariants.{Zero, One, Two}
use Rattle.dd_model.specs.declared.pair.Pair.{Pair}
use Rattle.dd_model.specs.declared.pair.Pair.TheVariants.{Tile, Vertex}
use Rattle.dd_model.specs.Symbol.{Symbol, AreInvolutions, IsChamber, op}
use Rattle.dd_model.specs.Cell.{AreCells}
use Rattle.dd_model.specs.Line.{after_space, spaced, told_images}
use Rattle.dd_symbol.proofs.CellMarks.{AreCellsTo, one_cell_more, no_cell_more, all_cells}
use Rattle.dd_text.specs.Making.{IsBegun, IsFinished, TellsChamber}
use Rattle.dd_text.specs.Outline.{HasNumber, IsOutlineOf}
use Rattle.dd_text.specs.Told.{AddsLeast, TellsImage}
use Rattle.dd_text.specs.declared.outline.Outline.{Outline}
use Rattle.dd_symbol.proofs.LeastWalks.{one_is_least}
use Rattle.dd_text.proofs.Spacing.{told_after, told_after-start, told_after-told, told_after-passed, told_after-end}

-- after the first chamber, what is told so far and what is left are all images
pub record IsTellingFrom (s : Symbol) (i : Index) (k : ℕ) (start now : List ℕ) : Type 0 where
  pub whole : now ++ flat_map after_space (told_after s i k) ≡ start ++ flat_map after_space (told_after s i 1)

-- the chambers up to k are told
pub record AreTold (s : Symbol) (k : ℕ) (start now : Outline) : Type 0 where
  pub zeros : IsTellingFrom s Zero k start.head.items now.head.items
  pub ones : IsTellingFrom s One k start.ones.items now.ones.items
  pub twos : IsTellingFrom s Two k start.twos.items now.twos.items
  pub tiles : AreCellsTo s Tile k now.tiles.items
  pub vertices : AreCellsTo s Vertex k now.vertices.items
  pub end : now.number_end ≡ start.number_end

none_listed : (s : Symbol) (p : Pair) → AreCellsTo s p 0 []
none_listed s p = record {
  ascending = λ k h. absurd (omega arith);
  least = λ d inside. let none = inside.1 in absurd (omega arith);
  all = λ d least low. let some = least.0.0 in absurd (omega arith);
}

one_listed : (s : Symbol) → AreInvolutions s → (p : Pair) → IsChamber s 1 → AreCellsTo s p 1 (1 ∷ [])
one_listed s inv p h = one_cell_more s p 0 [] (none_listed s p) (one_is_least s inv p 1 h refl)

pub first_told : (s : Symbol) (old start : Outline) → AreInvolutions s → 1 ≤ s.size → IsBegun s old start → AreTold s 1 start start
first_told s old start inv some begun =
    let h : IsChamber s 1 = (omega arith, some) in
    record {
      zeros = record { whole = refl };
      ones = record { whole = refl };
      twos = record { whole = refl };
      tiles = subst (AreCellsTo s Tile 1) (sym begun.tiles) (one_listed s inv Tile h);
      vertices = subst (AreCellsTo s Vertex 1) (sym begun.vertices) (one_listed s inv Vertex h);
      end = refl;
    }

image_told : (s : Symbol) (i : Index) (k : ℕ) (start now later : List ℕ) → k < s.size → IsTellingFrom s i k start now → TellsImage (k + 1) (op s i (k + 1)) now later
    → IsTellingFrom s i (k + 1) start later
image_told s i k start now later here is (inl told) =
    let x = op s i (k + 1) in
    let left = told_after s i (k + 1) in
    record {
      whole = ap (λ t. t ++ flat_map after_space left) told.1
          ∙ append_assoc now (after_space x) (flat_map after_space left)
          ∙ ap (λ t. now ++ t) (sym (flat_map-cons after_space x left))
          ∙ ap (λ xs. now ++ flat_map after_space xs) (sym (told_after-told s i k here told.0))
          ∙ is.whole;
    }
image_told s i k start now later here is (inr passed) = record {
  whole = ap (λ t. t ++ flat_map after_space (told_after s i (k + 1))) passed.1
      ∙ ap (λ xs. now ++ flat_map after_space xs) (sym (told_after-passed s i k here passed.0))
      ∙ is.whole;
}

chamber_listed : (s : Symbol) (p : Pair) (k : ℕ) (now later : List ℕ) → AreCellsTo s p k now → AddsLeast s p (k + 1) now later → AreCellsTo s p (k + 1) later
chamber_listed s p k now later cells (inl least) = subst (AreCellsTo s p (k + 1)) (sym least.1) (one_cell_more s p k now cells least.0)
chamber_listed s p k now later cells (inr other) = subst (AreCellsTo s p (k + 1)) (sym other.1) (no_cell_more s p k now cells other.0)

pub one_told : (s : Symbol) (k : ℕ) (start now later : Outline) → k < s.size → AreTold s k start now → TellsChamber s (k + 1) now later → AreTold s (k + 1) start later
one_told s k start now later here are tells = record {
  zeros = image_told s Zero k start.head.items now.head.items later.head.items here are.zeros tells.zeros;
  ones = image_told s One k start.ones.items now.ones.items later.ones.items here are.ones tells.ones;
  twos = image_told s Two k start.twos.items now.twos.items later.twos.items here are.twos tells.twos;
  tiles = chamber_listed s Tile k now.tiles.items later.tiles.items are.tiles tells.tiles;
  vertices = chamber_listed s Vertex k now.vertices.items later.vertices.items are.vertices tells.vertices;
  end = tells.end ∙ are.end;
}

all_told : (s : Symbol) → AreInvolutions s → 1 ≤ s.size → (i : Index) (k : ℕ) (front start now : List ℕ) → s.size ≤ k → start ≡ front ++ decimal (op s i 1) → IsTellingFrom s i k start now
    → now ≡ front ++ spaced (told_images s i)
all_told s inv some i k front start now whole begun is =
    let image = ((inv i).within 1 (omega arith, some)).0 in
    let all : told_images s i ≡ op s i 1 ∷ told_after s i 1 = sym (told_after-start s i) ∙ told_after-told s i 0 some image in
    sym (append-nil now)
    ∙ ap (λ xs. now ++ flat_map after_space xs) (sym (told_after-end s i k whole))
    ∙ is.whole
    ∙ ap (λ t. t ++ flat_map after_space (told_after s i 1)) begun
    ∙ append_assoc front (decimal (op s i 1)) (flat_map after_space (told_after s i 1))
    ∙ ap (λ xs. front ++ spaced xs) (sym all)

pub outline_made : (s : Symbol) → AreInvolutions s → 1 ≤ s.size → (k n : ℕ) (old start now new : Outline) → s.size ≤ k → IsBegun s old start → AreTold s k start now → IsFinished now new
    → HasNumber n old → IsOutlineOf n s new
outline_made s inv some k n old start now new whole begun told finished has =
    let numbered = begun.numbered n has in
    let front = codes "<1." ++ decimal n ++ (codes ":" ++ decimal s.size ++ codes ":") in
    let grouped = append_assoc (codes "<1." ++ decimal n) (codes ":" ++ decimal s.size ++ codes ":") (decimal (op s Zero 1)) in
    let x = spaced (told_images s Zero) in
    let y = spaced (told_images s One) in
    let z = spaced (told_images s Two) in
    let zeros : now.head.items ≡ front ++ x = all_told s inv some Zero k front start.head.items now.head.items whole (numbered.text_is ∙ sym grouped) told.zeros in
    let ones : now.ones.items ≡ y = all_told s inv some One k [] start.ones.items now.ones.items whole begun.ones told.ones in
    let twos : now.twos.items ≡ z = all_told s inv some Two k [] start.twos.items now.twos.items whole begun.twos told.twos in
    record {
      numbered = record {
        text_is = finished.head
            ∙ ap (λ t. t ++ codes "," ++ now.ones.items ++ codes "," ++ now.twos.items ++ codes ":") zeros
            ∙ ap (λ t. front ++ x ++ codes "," ++ t ++ codes "," ++ now.twos.items ++ codes ":") ones
            ∙ ap (λ t. front ++ x ++ codes "," ++ y ++ codes "," ++ t ++ codes ":") twos
            ∙ joined (codes "<1." ++ decimal n) (codes ":") (decimal s.size) (codes ":") x (codes ",") y (codes ",") z (codes ":");
        end_is = finished.end ∙ told.end ∙ numbered.end_is;
      };
      cells = record {
        tiles = subst (AreCells s Tile) (sym finished.tiles) (all_cells s Tile k now.tiles.items told.tiles whole);
        vertices = subst (AreCells s Vertex) (sym finished.vertices) (all_cells s Vertex k now.vertices.items told.vertices whole);
      };
    }
  where
    joined : (a b c d e f g h i j : List ℕ) → a ++ (b ++ c ++ d) ++ e ++ f ++ g ++ h ++ i ++ j ≡ a ++ (b ++ c ++ d ++ e ++ f ++ g ++ h ++ i ++ j)
    joined a b c d e f g h i j = simp (append_assoc) refl
