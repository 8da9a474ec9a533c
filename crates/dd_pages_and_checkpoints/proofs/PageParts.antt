-- Members whose lines are made part by part.
use Rattle.std.proofs.Common.{◌≡◌, ℕ, ◌+◌, ◌≤◌, List, [], ◌++◌, Option, length, length-append, take, drop, take-append-drop, sym, ap, ◌∙◌, subst, arith, append_assoc}
use Rattle.std.proofs.lemmas.List.{append-nil}
use Rattle.dd_model.specs.Symbol.{Symbol}
use Rattle.dd_pages_and_checkpoints.specs.Pages.{HasLines, IsFrontOut, KeepsLines, AddsAll, WritesFrontOf}
use Rattle.dd_pages_and_checkpoints.specs.declared.pages.Page.{Page}
use Rattle.dd_pages_and_checkpoints.proofs.PageLemmas.{front_of_more}

-- Of these symbols the page has the lines, but for those that are left.
pub record HasAdded (before now : Option (List ℕ)) (old new : Page) (all left : List Symbol) : Type 0 where
  pub done : List Symbol
  pub parts : all ≡ done ++ left
  pub adds : AddsAll before now old new done
  pub count : new.count ≡ old.count + length done
  pub waiting : new.waiting ≡ []

-- a list is its first so many and the others
pub parted : (xs ys zs : List Symbol) (n : ℕ) → ys ≡ take n xs → zs ≡ drop n xs → xs ≡ ys ++ zs
parted xs ys zs n first others = sym (ap (λ vs. vs ++ zs) first ∙ ap (λ vs. take n xs ++ vs) others ∙ take-append-drop n xs)

pub none_added : (before now : Option (List ℕ)) (old new : Page) (all left : List Symbol) → KeepsLines before now old new → left ≡ all → new.count ≡ old.count → new.waiting ≡ []
    → HasAdded before now old new all left
none_added before now old new all left kept rest count waiting = record {
  done = [];
  parts = sym rest;
  adds = λ k base start ss has. subst (HasLines k base start now new) (sym (append-nil ss)) (kept k base start ss has);
  count = omega (arith, count);
  waiting = waiting;
}

pub part_added : (before then now : Option (List ℕ)) (old page new : Page) (all left part later : List Symbol) → left ≡ part ++ later → AddsAll then now page new part
    → new.count ≡ page.count + length part → new.waiting ≡ [] → HasAdded before then old page all left → HasAdded before now old new all later
part_added before then now old page new all left part later rest adds count waiting has =
    let size = length-append has.done part in
    let whole = has.count in
    record {
      done = has.done ++ part;
      parts = has.parts ∙ ap (λ ts. has.done ++ ts) rest ∙ sym (append_assoc has.done part later);
      adds = λ k base start ss lines. subst (HasLines k base start now new) (append_assoc ss has.done part) (adds k base start (ss ++ has.done) (has.adds k base start ss lines));
      count = omega (arith, count, whole, size);
      waiting = waiting;
    }

-- there is room for the next part
pub part_fits : (before now : Option (List ℕ)) (old page : Page) (all left part later : List Symbol) (most : ℕ) → left ≡ part ++ later → old.count + length all ≤ most → HasAdded before now old page all left
    → page.count + length part ≤ most
part_fits before now old page all left part later most rest few has =
    let whole = has.count in
    let size = ap length has.parts ∙ length-append has.done left in
    let next = ap length rest ∙ length-append part later in
    omega (arith, few, whole, size, next)

-- a front of the lines of the next part went out
pub front_part : (before then now : Option (List ℕ)) (old page : Page) (all left part later : List Symbol) → left ≡ part ++ later → WritesFrontOf then now page part
    → HasAdded before then old page all left → WritesFrontOf before now old all
front_part before then now old page all left part later rest writes has k base start ss lines =
    let front = writes k base start (ss ++ has.done) (has.adds k base start ss lines) in
    let more = front_of_more k base start now ((ss ++ has.done) ++ part) later front in
    let same : ((ss ++ has.done) ++ part) ++ later ≡ ss ++ all =
    append_assoc (ss ++ has.done) part later ∙ append_assoc ss has.done (part ++ later) ∙ ap (λ ts. ss ++ (has.done ++ ts)) (sym rest) ∙ ap (λ ts. ss ++ ts) (sym has.parts) in
    subst (IsFrontOut k base start now) same more

-- none is left
pub all_added : (before now : Option (List ℕ)) (old new : Page) (all left : List Symbol) → left ≡ [] → HasAdded before now old new all left → AddsAll before now old new all
all_added before now old new all left none has k base start ss lines =
    let whole : all ≡ has.done = has.parts ∙ ap (λ ts. has.done ++ ts) none ∙ append-nil has.done in
    subst (λ ts. HasLines k base start now new (ss ++ ts)) (sym whole) (has.adds k base start ss lines)

-- and all are counted
pub all_counted : (before now : Option (List ℕ)) (old new : Page) (all left : List Symbol) → left ≡ [] → HasAdded before now old new all left → new.count ≡ old.count + length all
all_counted before now old new all left none has =
    let whole = ap length (has.parts ∙ ap (λ ts. has.done ++ ts) none ∙ append-nil has.done) in
    let count = has.count in
    omega (arith, count, whole)
