-- Lines that are made, collected and written page by page.
use Rattle.std.proofs.Common.{◌≡◌, ℕ, ◌+◌, ◌-◌, List, [], ◌++◌, Option, length, length-append, refl, sym, ap, ◌∙◌, subst, arith, append_assoc}
use Rattle.std.specs.Io.KnownBytes.{Appends}
use Rattle.dd_model.specs.Symbol.{Symbol}
use Rattle.dd_model.specs.Text.{AreLines}
use Rattle.dd_model.proofs.Texts.{joined_lines}
use Rattle.dd_ports.specs.Grows.{GrowsByPrefix}
use Rattle.std.proofs.lemmas.List.{append-nil}
use Rattle.dd_ports.proofs.Growth.{Appends_trans}
use Rattle.dd_text.specs.Writing.{AddsLines}
use Rattle.dd_pages_and_checkpoints.specs.Sent.{IsSent}
use Rattle.dd_pages_and_checkpoints.specs.Pages.{HasLines, IsEmpty, IsFrontOut}
use Rattle.dd_pages_and_checkpoints.specs.declared.pages.Page.{Page}

-- nothing more was written
abbrev pub front_kept : (k : ℕ) (base : List ℕ) (start now : Option (List ℕ)) (page : Page) (ss : List Symbol) → HasLines k base start now page ss → IsFrontOut k base start now ss
front_kept k base start now page ss has = record {
  shown = has.made;
  later = page.waiting;
  parts = has.parts;
  written = has.written;
  rest = page.collected.lines.items;
  lines = has.lines;
  appended = has.appended;
}

-- a part of a text was written that makes, after what was written before, the lines of the first of these symbols
front_of_text : (k : ℕ) (base : List ℕ) (start before now : Option (List ℕ)) (ss made later : List Symbol) (written text : List ℕ) → ss ≡ made ++ later → AreLines k made ((base ++ written) ++ text)
    → Appends start before written → GrowsByPrefix before now text → IsFrontOut k base start now ss
front_of_text k base start before now ss made later written text parts lines appended grown = record {
  shown = made;
  later = later;
  parts = parts;
  written = written ++ grown.0;
  rest = grown.1;
  lines = subst (AreLines k made)
      (sym (ap (λ xs. xs ++ grown.1) (sym (append_assoc base written grown.0)) ∙ append_assoc (base ++ written) grown.0 grown.1 ∙ ap (λ xs. (base ++ written) ++ xs) grown.2)) lines;
  appended = Appends_trans start before now written grown.0 (written ++ grown.0) appended grown.3 refl;
}

-- a part of what was collected was written
pub front_written : (k : ℕ) (base : List ℕ) (start before now : Option (List ℕ)) (page : Page) (ss : List Symbol) → GrowsByPrefix before now page.collected.lines.items → HasLines k base start before page ss
    → IsFrontOut k base start now ss
front_written k base start before now page ss grown has =
    front_of_text k base start before now ss has.made page.waiting has.written page.collected.lines.items has.parts has.lines has.appended grown

-- what is a front of the lines of some symbols is one of those of more
pub front_of_more : (k : ℕ) (base : List ℕ) (start now : Option (List ℕ)) (ss more : List Symbol) → IsFrontOut k base start now ss → IsFrontOut k base start now (ss ++ more)
front_of_more k base start now ss more front = record {
  shown = front.shown;
  later = front.later ++ more;
  parts = ap (λ xs. xs ++ more) front.parts ∙ append_assoc front.shown front.later more;
  written = front.written;
  rest = front.rest;
  lines = front.lines;
  appended = front.appended;
}

-- a text was sent that makes, after what was written before, the lines of the symbols that do not wait
lines_of_text : (k : ℕ) (base : List ℕ) (start before now : Option (List ℕ)) (page : Page) (ss made : List Symbol) (written text : List ℕ) (sum : ℕ) → ss ≡ made ++ page.waiting
    → AreLines k made ((base ++ written) ++ text) → Appends start before written → page.count ≡ k + length ss → sum ≡ length (base ++ written) → IsSent before now text sum page.collected → HasLines k base start now page ss
lines_of_text k base start before now page ss made written text sum parts lines appended count bytes sent =
    let both : base ++ (written ++ sent.written) ≡ (base ++ written) ++ sent.written = sym (append_assoc base written sent.written) in
    record {
      written = written ++ sent.written;
      appended = Appends_trans start before now written sent.written (written ++ sent.written) appended sent.appended refl;
      made = made;
      parts = parts;
      lines = subst (AreLines k made)
          (ap (λ xs. (base ++ written) ++ xs) sent.parts ∙ sym (append_assoc (base ++ written) sent.written page.collected.lines.items) ∙ ap (λ xs. xs ++ page.collected.lines.items) (sym both)) lines;
      count = count;
      bytes = sent.bytes ∙ ap (λ n. n + length sent.written) bytes ∙ sym (length-append (base ++ written) sent.written) ∙ ap length (sym both);
    }

-- what was collected was sent
pub lines_sent : (k : ℕ) (base : List ℕ) (start before now : Option (List ℕ)) (old new : Page) (ss : List Symbol) → new.waiting ≡ old.waiting → new.count ≡ old.count
    → IsSent before now old.collected.lines.items old.collected.written new.collected → HasLines k base start before old ss → HasLines k base start now new ss
lines_sent k base start before now old new ss waiting count sent has =
    lines_of_text k base start before now new ss has.made has.written old.collected.lines.items old.collected.written (has.parts ∙ ap (λ ws. has.made ++ ws) (sym waiting)) has.lines has.appended (count ∙ has.count) has.bytes sent

-- where no member waits, all lines are made
pub all_made : (k : ℕ) (base : List ℕ) (start now : Option (List ℕ)) (page : Page) (ss : List Symbol) → page.waiting ≡ [] → (has : HasLines k base start now page ss) → has.made ≡ ss
all_made k base start now page ss none has = sym (append-nil has.made) ∙ ap (λ ws. has.made ++ ws) (sym none) ∙ sym has.parts

-- a text has the lines of more symbols
more_lines : (k : ℕ) (base : List ℕ) (start now : Option (List ℕ)) (page : Page) (ss more : List Symbol) (text : List ℕ) (has : HasLines k base start now page ss)
    → AreLines (k + length has.made) more text → AreLines k (has.made ++ more) ((base ++ has.written) ++ (page.collected.lines.items ++ text))
more_lines k base start now page ss more text has are =
    subst (AreLines k (has.made ++ more)) (append_assoc (base ++ has.written) page.collected.lines.items text) (joined_lines k has.made more ((base ++ has.written) ++ page.collected.lines.items) text has.lines are)

-- the lines of all that wait were made
module _ (k : ℕ) (base : List ℕ) (start before now : Option (List ℕ)) (old : Page) (text : List ℕ) (ss members : List Symbol) (count : ℕ) (counted : count ≡ length old.waiting) (same : members ≡ old.waiting)
    (are : AreLines (old.count - count) members text) (has : HasLines k base start before old ss)
  where
    all_lines : AreLines k ss ((base ++ has.written) ++ (old.collected.lines.items ++ text))
    all_lines =
        let size = ap length has.parts ∙ length-append has.made old.waiting in
        let whole = has.count in
        let from : old.count - count ≡ k + length has.made = omega (arith, whole, size, counted) in
        subst (λ ts. AreLines k ts ((base ++ has.written) ++ (old.collected.lines.items ++ text))) (ap (λ ws. has.made ++ ws) same ∙ sym has.parts)
        (more_lines k base start before old ss members text has (subst (λ n. AreLines n members text) from are))

    -- they were sent with what was collected
    pub lines_made : (new : Page) → new.waiting ≡ [] → new.count ≡ old.count → IsSent before now (old.collected.lines.items ++ text) old.collected.written new.collected → HasLines k base start now new ss
    lines_made new none still sent =
        lines_of_text k base start before now new ss ss has.written (old.collected.lines.items ++ text) old.collected.written (sym (append-nil ss) ∙ ap (λ ws. ss ++ ws) (sym none)) all_lines has.appended (still ∙ has.count) has.bytes sent

    -- of these and of what was collected a part was written
    pub front_made : GrowsByPrefix before now (old.collected.lines.items ++ text) → IsFrontOut k base start now ss
    front_made grown = front_of_text k base start before now ss ss [] has.written (old.collected.lines.items ++ text) (sym (append-nil ss)) all_lines has.appended grown

-- the lines of more members were made, where none waited
module _ (k : ℕ) (base : List ℕ) (start before now : Option (List ℕ)) (old : Page) (text : List ℕ) (ss more : List Symbol) (added : AddsLines old.count more old.collected.lines.items text) (none : old.waiting ≡ [])
    (has : HasLines k base start before old ss)
  where
    added_lines : AreLines k (ss ++ more) ((base ++ has.written) ++ text)
    added_lines =
        let made = all_made k base start before old ss none has in
        let after = subst (λ n. AreLines n more added.lines) (has.count ∙ ap (λ ts. k + length ts) (sym made)) added.are_lines in
        subst (λ xs. AreLines k (ss ++ more) ((base ++ has.written) ++ xs)) (sym added.text)
        (subst (λ ts. AreLines k (ts ++ more) ((base ++ has.written) ++ (old.collected.lines.items ++ added.lines))) made (more_lines k base start before old ss more added.lines has after))

    -- they were sent with what was collected
    pub lines_added : (new : Page) → new.waiting ≡ old.waiting → new.count ≡ old.count + length more → IsSent before now text old.collected.written new.collected → HasLines k base start now new (ss ++ more)
    lines_added new waiting count sent =
        let size = length-append ss more in
        let whole = has.count in
        lines_of_text k base start before now new (ss ++ more) (ss ++ more) has.written text old.collected.written (sym (append-nil (ss ++ more)) ∙ ap (λ ws. (ss ++ more) ++ ws) (sym (waiting ∙ none)))
        added_lines has.appended (omega (arith, count, whole, size)) has.bytes sent

    -- of these and of what was collected a part was written
    pub front_added : GrowsByPrefix before now text → IsFrontOut k base start now (ss ++ more)
    front_added grown = front_of_text k base start before now (ss ++ more) (ss ++ more) [] has.written text (sym (append-nil (ss ++ more))) added_lines has.appended grown

-- where nothing is left on the page, all lines are written
pub all_written : (k : ℕ) (base : List ℕ) (start now : Option (List ℕ)) (page : Page) (ss : List Symbol) → IsEmpty page → (has : HasLines k base start now page ss) → AreLines k ss (base ++ has.written)
all_written k base start now page ss empty has =
    let text : (base ++ has.written) ++ page.collected.lines.items ≡ base ++ has.written = ap (λ xs. (base ++ has.written) ++ xs) empty.collected ∙ append-nil (base ++ has.written) in
    subst (λ ts. AreLines k ts (base ++ has.written)) (all_made k base start now page ss empty.waiting has) (subst (AreLines k has.made) text has.lines)
