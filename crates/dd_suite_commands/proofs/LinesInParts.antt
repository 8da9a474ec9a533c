-- The lines of symbols that are made part by part.
use Rattle.std.proofs.Common.{◌≡◌, ℕ, suc, ◌+◌, ◌*◌, ◌/◌, ◌%◌, ◌<◌, ◌≤◌, min, List, [], ◌∷◌, ◌++◌, Result, Ok, IfOk, Vec, length, take, take-add, drop, get_or, sym, ap, ◌∙◌, subst, arith}
use Rattle.std.proofs.lemmas.List.{length-take-le, take_all}
use Rattle.std.specs.Global.{Global}
use Rattle.dd_model.specs.Symbol.{Symbol}
use Rattle.dd_model.specs.Text.{AreLines}
use Rattle.dd_model.specs.declared.memory.Memory.{Memory}
use Rattle.dd_model.proofs.Texts.{joined_lines}

abbrev pub Lines : Type 0
Lines = Result (Vec ℕ Global) Memory

-- what is made of the part from a place on
pub record IsMadeFrom (symbols : List Symbol) (size start : ℕ) (lines : Lines) : Type 0 where
  pub part : List Symbol
  pub value : part ≡ take size (drop start symbols)
  pub within : start ≤ length symbols
  pub is : IfOk lines (λ text. AreLines start part text.items)

-- the text so far, and what is made of the parts that are left
pub record AreLinesSoFar (symbols : List Symbol) (size : ℕ) (left : List Lines) (text : List ℕ) : Type 0 where
  pub done : ℕ
  pub count : done + length left ≡ length symbols / size + min 1 (length symbols % size)
  pub lines : AreLines 0 (take (done * size) symbols) text
  pub rest : (k : ℕ) (d : Lines) → k < length left → IsMadeFrom symbols size ((done + k) * size) (get_or left k d)

pub none_lined : (symbols : List Symbol) (size : ℕ) (left : List Lines) (text : List ℕ) → length left ≡ length symbols / size + min 1 (length symbols % size) → text ≡ []
    → ((k : ℕ) (d : Lines) → k < length left → IsMadeFrom symbols size (k * size) (get_or left k d)) → AreLinesSoFar symbols size left text
none_lined symbols size left text count none each =
    let zero_is : 0 * size ≡ 0 = omega arith in
    let nothing : take (0 * size) symbols ≡ [] = ap (λ n. take n symbols) zero_is in
    record {
      done = 0;
      count = omega (arith, count);
      lines = subst (λ ss. AreLines 0 ss text) (sym nothing) none;
      rest = λ k d low. let same : k ≡ 0 + k = omega arith in subst (λ j. IsMadeFrom symbols size (j * size) (get_or left k d)) same (each k d low);
    }

pub one_lined : (symbols : List Symbol) (size : ℕ) (lines : Vec ℕ Global) (left later : List Lines) (text now : List ℕ) → left ≡ Ok lines ∷ later → now ≡ text ++ lines.items
    → AreLinesSoFar symbols size left text → AreLinesSoFar symbols size later now
one_lined symbols size lines left later text now next more so =
    let count = ap length next in
    let start = so.done * size in
    let same : get_or left 0 (Ok lines) ≡ Ok lines = ap (λ rs. get_or rs 0 (Ok lines)) next in
    let here : so.done + 0 ≡ so.done = omega arith in
    let made : IsMadeFrom symbols size start (Ok lines) =
    subst (λ j. IsMadeFrom symbols size (j * size) (Ok lines)) here (subst (IsMadeFrom symbols size ((so.done + 0) * size)) same (so.rest 0 (Ok lines) (omega (arith, count)))) in
    let long : 0 + length (take start symbols) ≡ start = let size_is = length-take-le start symbols made.within in omega (arith, size_is) in
    let part : AreLines (0 + length (take start symbols)) (take size (drop start symbols)) lines.items = subst (λ n. AreLines n (take size (drop start symbols)) lines.items) (sym long)
    (subst (λ ss. AreLines start ss lines.items) made.value made.is) in
    let all = joined_lines 0 (take start symbols) (take size (drop start symbols)) text lines.items so.lines part in
    let grown : (so.done + 1) * size ≡ start + size = omega arith in
    let taken : take ((so.done + 1) * size) symbols ≡ take start symbols ++ take size (drop start symbols) = ap (λ n. take n symbols) grown ∙ take-add start size symbols in
    record {
      done = so.done + 1;
      count = let before = so.count in omega (arith, before, count);
      lines = subst (λ ss. AreLines 0 ss now) (sym taken) (subst (AreLines 0 (take start symbols ++ take size (drop start symbols))) (sym more) all);
      rest = λ k d low.
          let at = so.rest (suc k) d (omega (arith, count, low)) in
          let there : get_or left (suc k) d ≡ get_or later k d = ap (λ rs. get_or rs (suc k) d) next in
          let place : so.done + suc k ≡ so.done + 1 + k = omega arith in
          subst (λ r. IsMadeFrom symbols size ((so.done + 1 + k) * size) r) there (subst (λ j. IsMadeFrom symbols size (j * size) (get_or left (suc k) d)) place at);
    }

all_parts : (n size : ℕ) → 0 < size → n ≤ (n / size + min 1 (n % size)) * size
all_parts n size some = grind arith

pub all_lined : (symbols : List Symbol) (size : ℕ) (left : List Lines) (text : List ℕ) → 0 < size → left ≡ [] → AreLinesSoFar symbols size left text → AreLines 0 symbols text
all_lined symbols size left text some none so =
    let count = ap length none in
    let parts : so.done ≡ length symbols / size + min 1 (length symbols % size) = let whole = so.count in omega (arith, whole, count) in
    let enough : length symbols ≤ so.done * size = subst (λ k. length symbols ≤ k * size) (sym parts) (all_parts (length symbols) size some) in
    subst (λ ss. AreLines 0 ss text) (take_all (so.done * size) symbols enough) so.lines
