-- The lines of sheets are determined, and symbols of which one is not flat have none.
use Rattle.std.proofs.Common.{◌≡◌, ◌<◌, ℕ, zero, suc, ◌+◌, ◌*◌, List, [], ◌∷◌, ◌++◌, take, get_or, length, append-nil, inl, inr, refl, sym, ap, ◌∙◌, subst, ⊎_elim, arith}
use Rattle.std.proofs.lemmas.List.{append_assoc}
use Rattle.dd_model.specs.Symbol.{Symbol}
use Rattle.dd_crystal.specs.SheetCounts.{IsTorusSheets}
use Rattle.dd_covers.proofs.Uniqueness.{same_greatest}
use Rattle.dd_suite_commands.specs.Made.{IsCurved}
use Rattle.dd_suite_commands.specs.SheetLines.{sheet_line, IsSheetLine, AreSheetLines, IsFirstCurved}
use Rattle.dd_suite_commands.specs.declared.refusals.SymbolFault.{SymbolFault}
use Rattle.dd_suite_commands.specs.declared.refusals.SymbolFault.TheVariants.{TooManyChambers, BranchingTooLarge, NotFlat, TooManyVertices, TooWide}
use Rattle.dd_suite_commands.specs.declared.refusals.SymbolRefusal.{SymbolRefusal}

number_once : (s : Symbol) (m n : ℕ) → IsTorusSheets s m → IsTorusSheets s n → m ≡ n
number_once s m n x y =
    let value = same_greatest s x.value y.value x.greatest y.greatest in
    ⊎_elim
    (λ a. ⊎_elim (λ b. a.1 ∙ value ∙ sym b.1) (λ b. absurd (b.0 a.0)) y.number)
    (λ a. ⊎_elim (λ b. absurd (a.0 b.0)) (λ b. a.1 ∙ ap (λ v. 2 * v) value ∙ sym b.1) y.number)
    x.number

pub sheet_lines_once : (k : ℕ) (ss : List Symbol) (one other : List ℕ) → AreSheetLines k ss one → AreSheetLines k ss other → one ≡ other
sheet_lines_once k [] one other x y = x ∙ sym y
sheet_lines_once k (s ∷ ss) one other x y =
    let number = number_once s x.2.number y.2.number x.2.sheets y.2.sheets in
    let line : x.0 ≡ y.0 = x.2.text ∙ ap (sheet_line k) number ∙ sym y.2.text in
    x.4 ∙ ap (λ a. a ++ x.1) line ∙ ap (λ b. y.0 ++ b) (sheet_lines_once (k + 1) ss x.1 y.1 x.3 y.3) ∙ sym y.4

not_curved : (k : ℕ) (s : Symbol) (line : List ℕ) (why : SymbolFault) → IsCurved s why → IsSheetLine k s line → ⊥
not_curved k s line (TooManyChambers n) curved is = curved
not_curved k s line (BranchingTooLarge v) curved is = curved
not_curved k s line (NotFlat x) curved is = curved.0 is.flat
not_curved k s line (TooManyVertices count) curved is = curved
not_curved k s line (TooWide step row column) curved is = curved

pub no_sheet_lines : (k : ℕ) (ss : List Symbol) (text : List ℕ) (r : SymbolRefusal) → IsFirstCurved k ss r → AreSheetLines k ss text → ⊥
no_sheet_lines k [] text r fault is = fault
no_sheet_lines k (s ∷ ss) text r (inl here) is = not_curved k s is.0 r.why here.1 is.2
no_sheet_lines k (s ∷ ss) text r (inr later) is = no_sheet_lines (k + 1) ss is.1 r later.1 is.3

-- one line more
pub sheet_lines_more : (k j : ℕ) (ss : List Symbol) (s : Symbol) (text line : List ℕ) → j ≡ k + length ss → AreSheetLines k ss text → IsSheetLine j s line
    → AreSheetLines k (ss ++ s ∷ []) (text ++ line)
sheet_lines_more k j [] s text line place is one =
    let at : j ≡ k = omega arith in
    (line, [], subst (λ n. IsSheetLine n s line) at one, refl, ap (λ a. a ++ line) is ∙ sym (append-nil line))
sheet_lines_more k j (t ∷ ss) s text line place is one =
    (is.0, is.1 ++ line, is.2, sheet_lines_more (k + 1) j ss s is.1 line (omega arith) is.3 one, ap (λ a. a ++ line) is.4 ∙ append_assoc is.0 is.1 line)

-- after symbols that are flat comes the first that is not
pub curved_after : (k : ℕ) (ss : List Symbol) (text : List ℕ) (i : ℕ) (r : SymbolRefusal) (s : Symbol) → i < length ss → AreSheetLines k (take i ss) text
    → r.symbol ≡ k + i → IsCurved (get_or ss i s) r.why → IsFirstCurved k ss r
curved_after k [] text i r s below is e fault = absurd (omega arith)
curved_after k (t ∷ ss) text zero r s below is e fault = inl ((omega arith), fault)
curved_after k (t ∷ ss) text (suc i) r s below is e fault =
    let rest : i < length ss = omega arith in
    let place : r.symbol ≡ k + 1 + i = omega arith in
    inr (is.2.flat, curved_after (k + 1) ss is.1 i r s rest is.3 place fault)
