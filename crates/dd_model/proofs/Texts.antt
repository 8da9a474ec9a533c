-- What is not before a position, and the lines of a list.
use Rattle.std.proofs.Common.{◌≡◌, ℕ, zero, suc, ◌+◌, ◌≤◌, List, [], ◌∷◌, ◌++◌, length, refl, sym, ap, ◌∙◌, subst, inl, inr, arith}
use Rattle.std.proofs.lemmas.List.{append_assoc}
use Rattle.std.specs.List.{AllByRecursion, flat_map}
use Rattle.dd_model.specs.declared.index.Index.TheVariants.{Zero, One, Two}
use Rattle.dd_model.specs.Symbol.{Symbol, IsSymbol, IsChamber, op}
use Rattle.dd_model.specs.Code.{code, count_from, images}
use Rattle.dd_model.specs.Lists.{IsWithout, IsSmallerWhereTheyDiffer}
use Rattle.dd_model.specs.Position.{IsBefore}
use Rattle.dd_model.specs.Line.{IsLine, text_of}
use Rattle.dd_model.specs.Text.{AreLines, IsText, beginning}
use Rattle.dd_model.specs.declared.requests.Request.{Request}
use Rattle.dd_model.specs.declared.jobs.Position.{Position}
use Rattle.dd_model.specs.declared.pair.Pair.TheVariants.{Tile, Vertex}
use Rattle.dd_model.proofs.CellLists.{cells_unique}
use Rattle.dd_model.proofs.Catalogues.{catalogue_unique}
use Rattle.dd_model.proofs.SmallerPlaces.{not_smaller_than_none}
use Rattle.dd_model.proofs.Without.{without_unique, without_none}

not_smaller_than_ones : (x y z : ℕ) (rest : List ℕ) → 1 ≤ x → 1 ≤ y → 1 ≤ z → IsSmallerWhereTheyDiffer (x ∷ y ∷ z ∷ rest) (1 ∷ 1 ∷ 1 ∷ []) → ⊥
not_smaller_than_ones x y z rest a b c (inl h) = omega (arith, a, h)
not_smaller_than_ones x y z rest a b c (inr (_, inl h)) = omega (arith, b, h)
not_smaller_than_ones x y z rest a b c (inr (_, inr (_, inl h))) = omega (arith, c, h)
not_smaller_than_ones x y z rest a b c (inr (_, inr (_, inr (_, h)))) = not_smaller_than_none rest h

-- the code of a symbol of one chamber begins with three numbers of at least 1
one_not_smaller : (s : Symbol) → IsSymbol s → s.size ≡ 1 → IsSmallerWhereTheyDiffer (code s) (1 ∷ 1 ∷ 1 ∷ []) → ⊥
one_not_smaller s is e h =
    let c : IsChamber s 1 = (omega arith, is.table.chambers) in
    let smaller : IsSmallerWhereTheyDiffer (flat_map (images s) (count_from 1 1) ++ s.m01 ++ s.m12) (1 ∷ 1 ∷ 1 ∷ []) =
    subst (λ n. IsSmallerWhereTheyDiffer (flat_map (images s) (count_from 1 n) ++ s.m01 ++ s.m12) (1 ∷ 1 ∷ 1 ∷ [])) e h in
    not_smaller_than_ones (op s Zero 1) (op s One 1) (op s Two 1) (s.m01 ++ s.m12)
    ((is.table.involutions Zero).within 1 c).0 ((is.table.involutions One).within 1 c).0 ((is.table.involutions Two).within 1 c).0 smaller

pub nothing_before : (s : Symbol) → IsSymbol s → IsBefore beginning s → ⊥
nothing_before s is (inl h) = let c = is.table.chambers in omega (arith, c, h)
nothing_before s is (inr (e, h)) = one_not_smaller s is e h

none_before : (ss : List Symbol) → AllByRecursion IsSymbol ss → AllByRecursion (λ s. ¬ IsBefore beginning s) ss
none_before [] h = tt
none_before (s ∷ ss) h = (nothing_before s h.0, none_before ss h.1)

pub all_from_beginning : (ss : List Symbol) → AllByRecursion IsSymbol ss → IsWithout (IsBefore beginning) ss ss
all_from_beginning ss h = without_none (IsBefore beginning) ss (none_before ss h)

-- the lines of one list, and then those of another
pub joined_lines : (k : ℕ) (ss ts : List Symbol) (a b : List ℕ) → AreLines k ss a → AreLines (k + length ss) ts b → AreLines k (ss ++ ts) (a ++ b)
joined_lines k [] ts a b ha hb =
    let place : k + zero ≡ k = omega arith in
    subst (λ xs. AreLines k ts (xs ++ b)) (sym ha) (subst (λ n. AreLines n ts b) place hb)
joined_lines k (s ∷ ss) ts a b (line, rest, here, later, e) hb =
    let place : k + suc (length ss) ≡ k + 1 + length ss = omega arith in (
      line,
      rest ++ b,
      here,
      joined_lines (k + 1) ss ts rest b later (subst (λ n. AreLines n ts b) place hb),
      ap (λ xs. xs ++ b) e ∙ append_assoc line rest b,
    )

-- where the lines of the first list end
pub split_lines : (k : ℕ) (ss ts : List Symbol) (bytes : List ℕ) → AreLines k (ss ++ ts) bytes
    → (a : List ℕ) × (b : List ℕ) × AreLines k ss a × AreLines (k + length ss) ts b × (bytes ≡ a ++ b)
split_lines k [] ts bytes h =
    let place : k ≡ k + zero = omega arith in
    ([], bytes, refl, subst (λ n. AreLines n ts bytes) place h, refl)
split_lines k (s ∷ ss) ts bytes (line, rest, here, later, e) =
    let place : k + 1 + length ss ≡ k + suc (length ss) = omega arith in
    let parts = split_lines (k + 1) ss ts rest later in (
      line ++ parts.0,
      parts.1,
      (line, parts.0, here, parts.2, refl),
      subst (λ n. AreLines n ts parts.1) place parts.3,
      e ∙ ap (λ xs. line ++ xs) parts.4 ∙ sym (append_assoc line parts.0 parts.1),
    )

-- a symbol has at most one line of number k
line_unique : (k : ℕ) (s : Symbol) (a b : List ℕ) → IsLine k s a → IsLine k s b → a ≡ b
line_unique k s a b ha hb =
    let tiles = cells_unique s Tile ha.tiles hb.tiles ha.are_tiles hb.are_tiles in
    let vertices = cells_unique s Vertex ha.vertices hb.vertices ha.are_vertices hb.are_vertices in
    ha.text ∙ ap (λ ds. text_of k s ds ha.vertices) tiles ∙ ap (text_of k s hb.tiles) vertices ∙ sym hb.text

pub lines_unique : (k : ℕ) (ss : List Symbol) (a b : List ℕ) → AreLines k ss a → AreLines k ss b → a ≡ b
lines_unique k [] a b ha hb = ha ∙ sym hb
lines_unique k (s ∷ ss) a b (line, rest, here, later, e) (line', rest', here', later', e') =
    e ∙ ap (λ xs. xs ++ rest) (line_unique (k + 1) s line line' here here') ∙ ap (λ xs. line' ++ xs) (lines_unique (k + 1) ss rest rest' later later') ∙ sym e'

pub text_unique : (q : Request) (at : Position) (c : ℕ) (a b : List ℕ) → IsText q at c a → IsText q at c b → a ≡ b
text_unique q at c a b ha hb =
    let members : hb.members ≡ ha.members = catalogue_unique q hb.members ha.members hb.catalogue ha.catalogue in
    let later : hb.later ≡ ha.later =
    without_unique (IsBefore at) ha.members hb.later ha.later (subst (λ ss. IsWithout (IsBefore at) ss hb.later) members hb.not_before) ha.not_before in
    lines_unique c ha.later a b ha.lines (subst (λ ss. AreLines c ss b) later hb.lines)
