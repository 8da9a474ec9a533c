-- The lines of `info`, one after the other, and that there is one text at most.
use Rattle.std.proofs.Common.{◌≡◌, ℕ, ◌+◌, Bool, true, false, List, [], ◌∷◌, ◌++◌, length, IsTrue, refl, sym, ap, ◌∙◌, subst, append_assoc, append-nil, arith}
use Rattle.std.specs.List.{AllByRecursion}
use Rattle.dd_model.specs.Symbol.{Symbol, IsSymbol}
use Rattle.dd_model.specs.Minimal.{Minimal}
use Rattle.dd_model.specs.Reading.{IsReadable}
use Rattle.dd_model.specs.declared.pair.Pair.{Pair}
use Rattle.dd_model.specs.declared.pair.Pair.TheVariants.{Tile, Vertex, Edge}
use Rattle.dd_model.proofs.CellLists.{cells_unique}
use Rattle.dd_cells.proofs.CurvatureLemmas.{curvature_unique}
use Rattle.dd_cells.specs.Orientation.{IsOrientation}
use Rattle.dd_cells.specs.declared.orientations.Orientation.{Orientation}
use Rattle.dd_cells.specs.declared.orientations.Orientation.TheVariants.{Oriented, Weak, None}
use Rattle.dd_name.specs.Name.{name_text}
use Rattle.dd_name.proofs.OrbifoldLemmas.{orbifold_unique}
use Rattle.dd_suite_commands.specs.declared.facts.Facts.{Facts}
use Rattle.dd_suite_commands.specs.Facts.{IsCount, AreFactsOf, head_text, tail_text}
use Rattle.dd_suite_commands.specs.Info.{IsGroup, IsInfoLine, AreInfoLines, IsInfo}
use Rattle.dd_suite_commands.specs.InfoSteps.{AddsInfoLine}
use Rattle.dd_suite_commands.specs.Totals.{totals_of, totals_text, counted}
use Rattle.dd_suite_commands.proofs.TotalsLemmas.{totals_more}

-- the lines of the symbols so far, and the totals of their groups
pub record IsToldSoFar (ss : List Symbol) (text : List ℕ) (totals : List (List ℕ × ℕ)) : Type 0 where
  pub groups : List (List ℕ)
  pub are_lines : AreInfoLines 0 ss groups text
  pub counts : totals ≡ totals_of groups

-- as many groups as symbols
pub groups_length : (k : ℕ) (ss : List Symbol) (gs : List (List ℕ)) (text : List ℕ) → AreInfoLines k ss gs text → length gs ≡ length ss
groups_length k [] [] text a = refl
groups_length k [] (g ∷ gs) text a = absurd a
groups_length k (s ∷ ss) [] text a = absurd a
groups_length k (s ∷ ss) (g ∷ gs) text a = let rest = groups_length (k + 1) ss gs a.1 a.3 in omega arith

-- one line more
pub lines_more : (k : ℕ) (ss : List Symbol) (gs : List (List ℕ)) (text : List ℕ) (s : Symbol) (g line : List ℕ) → AreInfoLines k ss gs text
    → IsInfoLine (k + length ss + 1) s g line → AreInfoLines k (ss ++ s ∷ []) (gs ++ g ∷ []) (text ++ line)
lines_more k [] [] text s g line a b =
    let place : k + 0 + 1 ≡ k + 1 = omega arith in
    (line, [], subst (λ n. IsInfoLine n s g line) place b, refl, ap (λ t. t ++ line) a ∙ sym (append-nil line))
lines_more k [] (h ∷ gs) text s g line a b = absurd a
lines_more k (r ∷ ss) [] text s g line a b = absurd a
lines_more k (r ∷ ss) (h ∷ gs) text s g line a b =
    let place : k + length (r ∷ ss) + 1 ≡ k + 1 + length ss + 1 = omega arith in
    (a.0, a.1 ++ line, a.2, lines_more (k + 1) ss gs a.1 s g line a.3 (subst (λ n. IsInfoLine n s g line) place b), ap (λ t. t ++ line) a.4 ∙ append_assoc a.0 a.1 line)

count_once : (s : Symbol) (p : Pair) (m n : ℕ) → IsCount s p m → IsCount s p n → m ≡ n
count_once s p m n a b = a.number ∙ ap length (cells_unique s p a.cells b.cells a.are_cells b.are_cells) ∙ sym b.number

orientation_once : (s : Symbol) (a b : Orientation) → IsOrientation s a → IsOrientation s b → a ≡ b
orientation_once s Oriented Oriented x y = refl
orientation_once s Oriented Weak x y = absurd (y.0 x)
orientation_once s Oriented None x y = absurd (y.0 x)
orientation_once s Weak Oriented x y = absurd (x.0 y)
orientation_once s Weak Weak x y = refl
orientation_once s Weak None x y = absurd (y.1 x.1)
orientation_once s None Oriented x y = absurd (x.0 y)
orientation_once s None Weak x y = absurd (x.1 y.1)
orientation_once s None None x y = refl

answer_once : (P : Type 0) (a b : Bool) → (IsTrue a → P) × (P → IsTrue a) → (IsTrue b → P) × (P → IsTrue b) → a ≡ b
answer_once P true true x y = refl
answer_once P true false x y = sym (y.1 (x.0 refl))
answer_once P false true x y = x.1 (y.0 refl)
answer_once P false false x y = refl

facts_once : (s : Symbol) (f g : Facts) → IsSymbol s → AreFactsOf s f → AreFactsOf s g → f ≡ g
facts_once s f g is a b =
    let chambers : f.chambers ≡ g.chambers = a.chambers ∙ sym b.chambers in
    let tiles = count_once s Tile f.tiles g.tiles a.tiles b.tiles in
    let vertices = count_once s Vertex f.vertices g.vertices a.vertices b.vertices in
    let edges = count_once s Edge f.edges g.edges a.edges b.edges in
    let curvature = curvature_unique s f.curvature g.curvature is a.curvature b.curvature in
    let orientation = orientation_once s f.orientation g.orientation a.orientation b.orientation in
    let minimal = answer_once (Minimal s) f.minimal g.minimal a.minimal b.minimal in
    λ i. record { chambers = chambers i; tiles = tiles i; vertices = vertices i; edges = edges i; curvature = curvature i; orientation = orientation i; minimal = minimal i }

pub group_once : (s : Symbol) (g h : List ℕ) → IsSymbol s → IsGroup s g → IsGroup s h → g ≡ h
group_once s g h is a b = a.text ∙ ap name_text (orbifold_unique s a.orbifold b.orbifold is a.is_orbifold b.is_orbifold) ∙ sym b.text

line_once : (k : ℕ) (s : Symbol) (g h x y : List ℕ) → IsSymbol s → IsInfoLine k s g x → IsInfoLine k s h y → (g ≡ h) × (x ≡ y)
line_once k s g h x y is a b =
    let facts = facts_once s a.facts b.facts is a.are_facts b.are_facts in
    let group = group_once s g h is a.is_group b.is_group in
    (group, a.text ∙ ap (λ f. head_text k f ++ (g ++ tail_text f)) facts ∙ ap (λ n. head_text k b.facts ++ (n ++ tail_text b.facts)) group ∙ sym b.text)

lines_once : (k : ℕ) (ss : List Symbol) (gs hs : List (List ℕ)) (x y : List ℕ) → AllByRecursion IsReadable ss → AreInfoLines k ss gs x → AreInfoLines k ss hs y → (gs ≡ hs) × (x ≡ y)
lines_once k [] [] [] x y all a b = (refl, a ∙ sym b)
lines_once k [] [] (h ∷ hs) x y all a b = absurd b
lines_once k [] (g ∷ gs) hs x y all a b = absurd a
lines_once k (s ∷ ss) [] hs x y all a b = absurd a
lines_once k (s ∷ ss) (g ∷ gs) [] x y all a b = absurd b
lines_once k (s ∷ ss) (g ∷ gs) (h ∷ hs) x y all a b =
    let first = line_once (k + 1) s g h a.0 b.0 all.0.symbol.symbol a.2 b.2 in
    let rest = lines_once (k + 1) ss gs hs a.1 b.1 all.1 a.3 b.3 in
    (ap (λ n. n ∷ gs) first.0 ∙ ap (λ ns. h ∷ ns) rest.0, a.4 ∙ ap (λ l. l ++ a.1) first.1 ∙ ap (λ r. b.0 ++ r) rest.1 ∙ sym b.4)

pub info_once : (ss : List Symbol) (x y : List ℕ) → AllByRecursion IsReadable ss → IsInfo ss x → IsInfo ss y → x ≡ y
info_once ss x y all a b =
    let same = lines_once 0 ss a.groups b.groups a.lines b.lines all a.are_lines b.are_lines in
    a.whole ∙ ap (λ l. l ++ totals_text a.groups) same.1 ∙ ap (λ gs. b.lines ++ totals_text gs) same.0 ∙ sym b.whole

-- one symbol more is told
pub told_more : (ss : List Symbol) (text new : List ℕ) (totals after : List (List ℕ × ℕ)) (s : Symbol) → IsToldSoFar ss text totals
    → AddsInfoLine (length ss + 1) s totals after text new → IsToldSoFar (ss ++ s ∷ []) new after
told_more ss text new totals after s a b =
    let place : length ss + 1 ≡ 0 + length ss + 1 = omega arith in
    record {
      groups = a.groups ++ b.group ∷ [];
      are_lines = subst (AreInfoLines 0 (ss ++ s ∷ []) (a.groups ++ b.group ∷ [])) (sym b.text)
          (lines_more 0 ss a.groups text s b.group b.line a.are_lines (subst (λ n. IsInfoLine n s b.group b.line) place b.is_line));
      counts = b.totals ∙ ap (λ t. counted t b.group) a.counts ∙ totals_more a.groups b.group;
    }
