-- One line more.
use Rattle.std.proofs.Common.{◌≡◌, ℕ, suc, ◌+◌, ◌<◌, ◌≤◌, List, [], ◌∷◌, ◌++◌, length, take, get_or, append-nil, append_assoc, refl, sym, ap, ◌∙◌, subst, arith}
use Rattle.std.proofs.lemmas.List.{length-take-le, take_all}
use Rattle.std.proofs.Math.Seq.{take-suc}
use Rattle.dd_model.specs.Symbol.{Symbol}
use Rattle.dd_model.specs.Line.{IsLine}
use Rattle.dd_model.specs.Text.{AreLines}
use Rattle.dd_model.specs.Longer.{IsLonger}
use Rattle.dd_model.proofs.Texts.{joined_lines}
use Rattle.dd_text.specs.Writing.{AddsLine, AddsLines}

pub one_line_more : (k number i : ℕ) (ss : List Symbol) (s : Symbol) (old now later : List ℕ) → i < length ss → s ≡ get_or ss i s → number ≡ k + i
    → AddsLines k (take i ss) old now → AddsLine (number + 1) s now later → AddsLines k (take (i + 1) ss) old later
one_line_more k number i ss s old now later h here count before line =
    let length_i : length (take i ss) ≡ i = length-take-le i ss (omega arith) in
    let next : number + 1 ≡ k + length (take i ss) + 1 = omega arith in
    let one : AreLines (k + length (take i ss)) (s ∷ []) line.line =
    (line.line, [], subst (λ n. IsLine n s line.line) next line.is_line, refl, sym (append-nil line.line)) in
    let more : i + 1 ≡ suc i = omega arith in
    let taken : take i ss ++ s ∷ [] ≡ take (i + 1) ss = ap (λ t. take i ss ++ t ∷ []) here ∙ sym (take-suc ss i s h) ∙ ap (λ j. take j ss) (sym more) in
    record {
      lines = before.lines ++ line.line;
      are_lines = subst (λ ts. AreLines k ts (before.lines ++ line.line)) taken (joined_lines k (take i ss) (s ∷ []) before.lines line.line before.are_lines one);
      text = line.text ∙ ap (λ t. t ++ line.line) before.text ∙ append_assoc old before.lines line.line;
    }

-- before the first line
pub no_lines : (k : ℕ) (ss : List Symbol) (old : List ℕ) → AddsLines k (take 0 ss) old old
no_lines k ss old = record { lines = []; are_lines = refl; text = sym (append-nil old) }

-- after the last line
pub all_lines : (k i : ℕ) (ss : List Symbol) (old new : List ℕ) → length ss ≤ i → AddsLines k (take i ss) old new → AddsLines k ss old new
all_lines k i ss old new whole added = subst (λ ts. AddsLines k ts old new) (take_all i ss whole) added

-- the old text stays in front
pub front_stays : (k : ℕ) (ss : List Symbol) (old now new : List ℕ) → AddsLines k ss old now → new ≡ now → IsLonger old new
front_stays k ss old now new added same = record { rest = added.lines; text = same ∙ added.text }
