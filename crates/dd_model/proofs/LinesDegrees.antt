-- The degrees of the cells tell those of all chambers.
use Rattle.std.proofs.Common.{◌≡◌, ℕ, zero, suc, ◌+◌, ◌*◌, ◌<◌, ◌≤◌, ◌^◌, true, false, cond, List, [], ◌∷◌, map, refl, sym, ap, ◌∙◌, arith}
use Rattle.std.specs.Prelude.{nat_le}
use Rattle.std.specs.List.{AllByRecursion, Contains, filter}
use Rattle.dd_model.specs.declared.index.Index.{Index}
use Rattle.dd_model.specs.declared.pair.Pair.{Pair}
use Rattle.dd_model.specs.Symbol.{Symbol, Word, IsSymbol, IsChamber, op, act, degree}
use Rattle.dd_model.specs.Code.{count_from}
use Rattle.dd_model.specs.Cell.{InCell, IsLeastOfCell, AreCells}
use Rattle.dd_model.specs.Small.{IsSmallSymbol}
use Rattle.dd_model.specs.Line.{told_images}
use Rattle.dd_model.proofs.Turns.{IsLeastTurns-from_period, least_turns_unique}
use Rattle.dd_model.proofs.Branching.{branching_exists, degree_same}
use Rattle.dd_model.proofs.CellWalks.{has_period}
use Rattle.dd_model.proofs.CellSearch.{has_least}
use Rattle.dd_model.proofs.Lists.{Contains-head, Contains-later, map_at}
use Rattle.dd_model.proofs.Digits.{AreShort}

-- ## Numbers of a small symbol are short

product_bound : (v r m : ℕ) → v ≤ 30 → r ≤ 16384 → v * r ≡ m → m ≤ 491520
product_bound v r m hv hr e = grind arith

short : (n : ℕ) → n ≤ 491520 → n < 10 ^ 64
short n h = omega arith

degree_short : (s : Symbol) → IsSmallSymbol s → (p : Pair) (d : ℕ) → IsChamber s d → degree s p d < 10 ^ 64
degree_short s small p d h =
    let inv = small.symbol.table.involutions in
    let has = has_period s inv p d h in
    let b = branching_exists s small.symbol p d h in
    let r = b.1.r in
    let same : r ≡ has.r = least_turns_unique s p d r has.r b.1.least_turns (IsLeastTurns-from_period s inv p d has.r h has.period) in
    let bound = has.bound in
    let size = small.size in
    short (degree s p d) (product_bound b.0 r (degree s p d) (small.branching p d b.0 h b.1) (omega (arith, same, bound, size)) b.1.quotient)

all_from_members : (P : ℕ → Type 0) (f : ℕ → ℕ) (ds : List ℕ) → ((d : ℕ) → Contains ds d → P (f d)) → AllByRecursion P (map f ds)
all_from_members P f [] h = tt
all_from_members P f (d ∷ ds) h = (h d (Contains-head d ds), all_from_members P f ds (λ x there. h x (Contains-later d x ds there)))

pub degrees_short : (s : Symbol) → IsSmallSymbol s → (p : Pair) (ds : List ℕ) → AreCells s p ds → AreShort (map (degree s p) ds)
degrees_short s small p ds cells = all_from_members (λ n. n < 10 ^ 64) (degree s p) ds (λ d there. degree_short s small p d ((cells.members d).0 there).0)

told_short_from : (s : Symbol) → IsSmallSymbol s → (i : Index) (k m : ℕ) → 1 ≤ k → k + m ≡ s.size + 1 → AreShort (map (op s i) (filter (λ d. nat_le d (op s i d)) (count_from k m)))
told_short_from s small i k zero low e = tt
told_short_from s small i k (suc m) low e =
    let w = (small.symbol.table.involutions i).within k (low, omega (arith, e)) in
    let size = small.size in
    let rest = told_short_from s small i (k + 1) m (omega arith) (omega (arith, e)) in
    let later = filter (λ d. nat_le d (op s i d)) (count_from (k + 1) m) in
    elim (nat_le k (op s i k)) as (λ b. AreShort (map (op s i) (cond b (k ∷ later) later))) [
      | true ↦ (short (op s i k) (omega (arith, w.1, size)), rest)
      | false ↦ rest
    ]

pub told_short : (s : Symbol) → IsSmallSymbol s → (i : Index) → AreShort (told_images s i)
told_short s small i = told_short_from s small i 1 s.size (omega arith) (omega arith)

-- ## Two symbols with the same involutions

abbrev pub HaveSameOps : Symbol → Symbol → Type 0
HaveSameOps s t = (i : Index) (d : ℕ) → op s i d ≡ op t i d

same_act : (s t : Symbol) → HaveSameOps s t → (w : Word) (d : ℕ) → act s w d ≡ act t w d
same_act s t same [] d = refl
same_act s t same (i ∷ w) d = same_act s t same w (op s i d) ∙ ap (act t w) (same i d)

same_in_cell : (s t : Symbol) → HaveSameOps s t → (p : Pair) (d e : ℕ) → InCell s p d e → InCell t p d e
same_in_cell s t same p d e h = record { word = h.word; letters = h.letters; leads = sym (same_act s t same h.word d) ∙ h.leads }

same_least : (s t : Symbol) → s.size ≡ t.size → HaveSameOps s t → (p : Pair) (d : ℕ) → IsLeastOfCell s p d → IsLeastOfCell t p d
same_least s t size same p d h =
    let c = h.0 in
    ((c.0, omega (arith, c.1, size)), λ e there. h.1 e (same_in_cell t s (λ i x. sym (same i x)) p d e there))

pub same_cells : (s t : Symbol) → s.size ≡ t.size → HaveSameOps s t → (p : Pair) (ds : List ℕ) → AreCells s p ds → AreCells t p ds
same_cells s t size same p ds cells = record {
  ascending = cells.ascending;
  members = λ d. (
    λ there. same_least s t size same p d ((cells.members d).0 there),
    λ least. (cells.members d).1 (same_least t s (sym size) (λ i x. sym (same i x)) p d least),
  );
}

pub same_degrees : (s t : Symbol) → IsSymbol s → IsSymbol t → s.size ≡ t.size → HaveSameOps s t → (p : Pair) (ds : List ℕ) → AreCells s p ds
    → map (degree s p) ds ≡ map (degree t p) ds → (d : ℕ) → IsChamber s d → degree s p d ≡ degree t p d
same_degrees s t is it size same p ds cells e d h =
    let l = has_least s is.table.involutions p d h in
    let w = l.in_cell.word in
    let there : act t w d ≡ l.least = sym (same_act s t same w d) ∙ l.in_cell.leads in
    sym (degree_same s is p w d h l.in_cell.letters)
    ∙ ap (degree s p) l.in_cell.leads
    ∙ map_at (degree s p) (degree t p) ds e l.least ((cells.members l.least).1 l.is_least)
    ∙ ap (degree t p) (sym there)
    ∙ degree_same t it p w d (h.0, omega (arith, h.1, size)) l.in_cell.letters
