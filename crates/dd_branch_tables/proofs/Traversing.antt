-- A traversal of a partial table from some chamber, beside a prefix.
use Rattle.std.proofs.Common.{◌≡◌, ◌≢◌, ℕ, ◌+◌, ◌-◌, ◌/◌, ◌%◌, ◌<◌, ◌≤◌, List, [], ◌∷◌, length, get_or, replicate, sym, ap, ◌∙◌, subst, inl, inr, ⊎_elim, arith}
use Rattle.std.proofs.lemmas.Bool.{cases_eq, cases_lt}
use Rattle.std.proofs.lemmas.List.Folds.{sum_by-replicate}
use Rattle.std.specs.List.{sum_by}
use Rattle.dd_model.specs.Symbol.{Symbol, item, op}
use Rattle.dd_model.proofs.Lists.{zero_at}
use Rattle.std.proofs.lemmas.List.{length-replicate}
use Rattle.dd_canon.specs.Traversal.{unnumbered, IsVisit, IsMeeting}
use Rattle.dd_branch_tables.specs.FirstVisits.{AreNumbered}
use Rattle.dd_branch_tables.specs.Beaten.{ReadsKnown, IsBeaten, Extends, AreMet}
use Rattle.dd_branch_tables.specs.declared.traversal.FirstVisits.{FirstVisits}
use Rattle.dd_branch_tables.proofs.Distinct.{distinct_from, all_from}
use Rattle.dd_model.specs.Indices.{index_at}

-- so many zeros
abbrev pub zeros : ℕ → List ℕ
zeros m = replicate m 0

-- nothing has been met
pub visit_none : (n : ℕ) (order number : List ℕ) → order ≡ [] → number ≡ zeros n → IsVisit n order number
visit_none n order number none blank =
    let count : length order ≡ 0 = ap length none in
    let sums : sum_by unnumbered number ≡ n = ap (sum_by unnumbered) blank ∙ sum_by-replicate unnumbered n 0 ∙ omega arith in
    record {
      numbers = ap length blank ∙ length-replicate n 0;
      within = λ k low high. absurd (omega arith);
      numbered = λ k low high. absurd (omega arith);
      ordered = λ d low high. inl (ap (λ xs. item xs d) blank ∙ zero_at n (d - 1));
      room = omega arith;
    }

-- a visit is one of the traversals of symbols with 36 chambers
pub visit_of : (v : FirstVisits) → IsVisit 36 v.order.items v.number
visit_of v = record {
  numbers = v.are_numbered.numbers;
  within = v.are_numbered.within;
  numbered = v.are_numbered.numbered;
  ordered = λ d low high. ⊎_elim inl
      (λ some. inr (let at = v.are_numbered.ordered d low high (omega arith) in (omega arith, at.0, at.1)))
      (cases_eq (item v.number d) 0);
  room = v.are_numbered.room;
}

pub numbered_of : (order number : List ℕ) → IsVisit 36 order number → AreNumbered order number
numbered_of order number v = record {
  numbers = v.numbers;
  within = v.within;
  numbered = v.numbered;
  ordered = λ d low high some. ⊎_elim (λ none. absurd (omega arith)) (λ at. (at.1, at.2)) (v.ordered d low high);
  room = v.room;
}

-- the chambers of an order are within 1 to n
pub record AreInside (n : ℕ) (order : List ℕ) : Type 0 where
  pub inside : (k : ℕ) → k < length order → (1 ≤ get_or order k 0) × (get_or order k 0 ≤ n)

pub extends_met : (xs ys number : List ℕ) (d x : ℕ) → IsMeeting xs ys number d x → Extends xs ys
extends_met xs ys number d x m = record {
  longer = m.longer;
  same = λ i low. let e : i + 1 - 1 ≡ i = omega arith in subst (λ j. get_or ys j 0 ≡ get_or xs j 0) e (m.kept (i + 1) (omega arith) (omega arith));
}

pub inside_met : (n : ℕ) (xs ys number : List ℕ) (d x : ℕ) → IsMeeting xs ys number d x → AreInside n xs → (1 ≤ d) × (d ≤ n) → AreInside n ys
inside_met n xs ys number d x m old h = record {
  inside = λ k low. ⊎_elim
      (λ early. subst (λ e. (1 ≤ e) × (e ≤ n)) (sym ((extends_met xs ys number d x m).same k early)) (old.inside k early))
      (λ late.
      let top = m.top in
      let here : x - 1 ≡ k = omega arith in
      subst (λ e. (1 ≤ e) × (e ≤ n)) (sym (sym (ap (λ j. get_or ys j 0) here) ∙ m.at)) h)
      (cases_lt k (length xs));
}

-- the start alone
pub inside_begun : (n start : ℕ) (order : List ℕ) → order ≡ start ∷ [] → (1 ≤ start) × (start ≤ n) → AreInside n order
inside_begun n start order begun h = record {
  inside = λ k low.
      let count : length order ≡ 1 = ap length begun in
      let here : 0 ≡ k = omega arith in
      subst (λ j. (1 ≤ get_or order j 0) × (get_or order j 0 ≤ n)) here (subst (λ xs. (1 ≤ get_or xs 0 0) × (get_or xs 0 0 ≤ n)) (sym begun) h);
}

-- different chambers, as each has its number
pub met_from : (n m : ℕ) (order number : List ℕ) → IsVisit m order number → AreInside n order → AreMet n order
met_from n m order number v old = record {
  distinct = distinct_from order (λ i j less low same.
      let ei : i + 1 - 1 ≡ i = omega arith in
      let ej : j + 1 - 1 ≡ j = omega arith in
      let one : item number (get_or order i 0) ≡ i + 1 = subst (λ k. item number (get_or order k 0) ≡ i + 1) ei (v.numbered (i + 1) (omega arith) (omega arith)) in
      let two : item number (get_or order j 0) ≡ j + 1 = subst (λ k. item number (get_or order k 0) ≡ j + 1) ej (v.numbered (j + 1) (omega arith) (omega arith)) in
      let both : item number (get_or order i 0) ≡ item number (get_or order j 0) = ap (item number) same in
      omega arith);
  chambers = all_from (λ d. (1 ≤ d) × (d ≤ n)) order old.inside;
}

item_kept : (xs ys : List ℕ) (k : ℕ) → Extends xs ys → 1 ≤ k → k ≤ length xs → item ys k ≡ item xs k
item_kept xs ys k ext pos high = ext.same (k - 1) (omega arith)

reads_kept : (partial : Symbol) (xs ys : List ℕ) (u e : ℕ) → ReadsKnown partial xs u e → Extends xs ys → ReadsKnown partial ys u e
reads_kept partial xs ys u e r ext =
    let longer = ext.longer in
    let chamber = r.reads.chamber in
    let image = r.reads.image in
    let d = item_kept xs ys (1 + u / 3) ext (omega arith) chamber in
    let f = item_kept xs ys e ext r.reads.positive image in
    record {
      reads = record {
        chamber = omega arith;
        positive = r.reads.positive;
        image = omega arith;
        is = ap (op partial (index_at (u % 3))) d ∙ r.reads.is ∙ sym f;
      };
      known = λ z. r.known (ap (op partial (index_at (u % 3))) (sym d) ∙ z);
    }

-- one image more is read
pub record ReadsSo (partial : Symbol) (prefix order : List ℕ) (u : ℕ) : Type 0 where
  pub same : (v : ℕ) → v < u → ReadsKnown partial order v (get_or prefix v 0)

-- what is met at a place
pub record IsMetAt (partial : Symbol) (xs ys number : List ℕ) (u image k : ℕ) : Type 0 where
  pub low : u / 3 < length xs
  pub meeting : IsMeeting xs ys number image k
  pub image_is : op partial (index_at (u % 3)) (get_or xs (u / 3) 0) ≡ image
  pub known : image ≢ 0

reads_now : (partial : Symbol) (xs ys number : List ℕ) (u image k : ℕ) → IsMetAt partial xs ys number u image k → ReadsKnown partial ys u k
reads_now partial xs ys number u image k at =
    let m = at.meeting in
    let ext = extends_met xs ys number image k m in
    let longer = ext.longer in
    let low = at.low in
    let top = m.top in
    let place : 1 + u / 3 - 1 ≡ u / 3 = omega arith in
    let here : item ys (1 + u / 3) ≡ get_or xs (u / 3) 0 = ap (λ j. get_or ys j 0) place ∙ ext.same (u / 3) low in
    let e : op partial (index_at (u % 3)) (item ys (1 + u / 3)) ≡ image = ap (op partial (index_at (u % 3))) here ∙ at.image_is in
    record {
      reads = record { chamber = omega arith; positive = m.positive; image = omega arith; is = e ∙ sym m.at };
      known = λ z. at.known (sym e ∙ z);
    }

pub reads_more : (partial : Symbol) (prefix xs ys number : List ℕ) (u image k : ℕ) → IsMetAt partial xs ys number u image k → ReadsSo partial prefix xs u → k ≡ get_or prefix u 0 → ReadsSo partial prefix ys (u + 1)
reads_more partial prefix xs ys number u image k at before same = record {
  same = λ v low. ⊎_elim
      (λ early. reads_kept partial xs ys v (get_or prefix v 0) (before.same v early) (extends_met xs ys number image k at.meeting))
      (λ late.
      let e : u ≡ v = omega arith in
      subst (λ w. ReadsKnown partial ys w (get_or prefix w 0)) e (subst (ReadsKnown partial ys u) same (reads_now partial xs ys number u image k at)))
      (cases_lt v u);
}

pub beats_here : (partial : Symbol) (prefix xs ys number : List ℕ) (u image k m : ℕ) → IsMetAt partial xs ys number u image k → ReadsSo partial prefix xs u → IsVisit m ys number → AreInside partial.size ys
    → u < length prefix → k < get_or prefix u 0 → IsBeaten partial prefix
beats_here partial prefix xs ys number u image k m at before v old low smaller = record {
  order = ys;
  place = u;
  number = k;
  beats = record {
    met = met_from partial.size m ys number v old;
    place = low;
    same = λ w h. reads_kept partial xs ys w (get_or prefix w 0) (before.same w h) (extends_met xs ys number image k at.meeting);
    there = reads_now partial xs ys number u image k at;
    smaller = smaller;
  };
}

-- where no chamber was met, none has a number
pub none_numbered : (n : ℕ) (order number : List ℕ) (d : ℕ) → IsVisit n order number → length order ≡ 0 → 1 ≤ d → d ≤ n → item number d ≡ 0
none_numbered n order number d v none low high = ⊎_elim (λ zero_. zero_) (λ old. let a = old.0 in let b = old.1 in absurd (omega arith)) (v.ordered d low high)

-- what is read of the partial table at a place
pub met_at : (partial : Symbol) (xs ys number : List ℕ) (u image k : ℕ) → u / 3 < length xs → IsMeeting xs ys number image k
    → image ≡ op partial (index_at (u % 3)) (get_or xs (u / 3) 0) → image ≢ 0 → IsMetAt partial xs ys number u image k
met_at partial xs ys number u image k low m is some = record { low = low; meeting = m; image_is = sym is; known = some }
