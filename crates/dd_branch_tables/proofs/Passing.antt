-- A traversal of a partial table beside a prefix, as the traversal of each table that completes it.
use Rattle.std.proofs.Common.{◌≡◌, ℕ, suc, ◌+◌, ◌-◌, ◌*◌, ◌/◌, ◌%◌, ◌<◌, ◌≤◌, ◌⊎◌, List, [], ◌∷◌, length, length-drop, length-take-le, get_or, take, drop, take-append-drop, refl, sym, ap, ◌∙◌, subst, ⊎_elim, arith}
use Rattle.std.proofs.lemmas.List.{drop_more, get_or-drop, get_or-take}
use Rattle.std.proofs.lemmas.List.Sums.{sum_by-append, sum_by-cons}
use Rattle.std.specs.Cmp.{nat_cmp_is}
use Rattle.std.specs.List.{sum_by}
use Rattle.std.specs.Ordering.{nat_cmp}
use Rattle.std.specs.declared.cmp.Ordering.TheVariants.{Equal, Greater}
use Rattle.dd_model.specs.Symbol.{Symbol, item, op}
use Rattle.dd_model.specs.Lists.{Begins}
use Rattle.dd_model.specs.Code.{code}
use Rattle.dd_model.specs.FirstVisit.{rows}
use Rattle.dd_model.specs.Partial.{Completes}
use Rattle.dd_model.proofs.Ascending.{begins_at, begins_from}
use Rattle.dd_model.proofs.Codes.{length-flat_images, length-code}
use Rattle.dd_canon.specs.Traversal.{unnumbered, IsVisit, IsMeeting, IsTraversal}
use Rattle.dd_canon.proofs.Traversals.{advance, begin, falls_behind}
use Rattle.dd_branch_tables.specs.Open.{IsAgreeing, HasUnknown}
use Rattle.dd_branch_tables.specs.Passed.{IsPassed}
use Rattle.dd_branch_tables.specs.Rows.{HasNumberAt}
use Rattle.dd_front_jobs.proofs.Places.{code_at, images_at}
use Rattle.dd_branch_tables.proofs.Traversing.{AreInside, ReadsSo, IsMetAt}
use Rattle.dd_model.specs.Indices.{index_at}

-- ## Numbers of the first n chambers alone

all_unnumbered : (xs : List ℕ) → ((k : ℕ) → k < length xs → get_or xs k 0 ≡ 0) → sum_by unnumbered xs ≡ length xs
all_unnumbered [] none = refl
all_unnumbered (x ∷ xs) none =
    let first : x ≡ 0 = none 0 (omega arith) in
    let here : unnumbered x ≡ 1 = ap unnumbered first in
    let later = all_unnumbered xs (λ k low. none (suc k) (omega arith)) in
    rw (sum_by-cons unnumbered x xs) (omega arith)

-- where all chambers that are met are among the first n, the others have no number
past_unnumbered : (m n : ℕ) (order number : List ℕ) → IsVisit m order number → AreInside n order → (j : ℕ) → n ≤ j → j < m → get_or number j 0 ≡ 0
past_unnumbered m n order number v old j far low =
    let back : j + 1 - 1 ≡ j = omega arith in
    subst (λ i. get_or number i 0 ≡ 0) back
    (⊎_elim
    (λ none. none)
    (λ some.
    let first = some.0 in
    let last = some.1 in
    let there = some.2 in
    let inside = (old.inside (item number (j + 1) - 1) (omega arith)).1 in
    absurd (omega arith))
    (v.ordered (j + 1) (omega arith) (omega arith)))

pub visit_of_first : (m n : ℕ) (order number : List ℕ) → n ≤ m → IsVisit m order number → AreInside n order → IsVisit n order (take n number)
visit_of_first m n order number small v old =
    let size = v.numbers in
    let kept : (d : ℕ) → 1 ≤ d → d ≤ n → item (take n number) d ≡ item number d = λ d low high. get_or-take n number (d - 1) 0 (omega arith) in
    let inside : (k : ℕ) → 1 ≤ k → k ≤ length order → (1 ≤ item order k) × (item order k ≤ n) = λ k low high. old.inside (k - 1) (omega arith) in
    record {
      numbers = length-take-le n number (omega arith);
      within = inside;
      numbered = λ k low high. let w = inside k low high in kept (item order k) w.0 w.1 ∙ v.numbered k low high;
      ordered = λ d low high. subst (λ x. (x ≡ 0) ⊎ ((1 ≤ x) × (x ≤ length order) × (item order x ≡ d))) (sym (kept d low high)) (v.ordered d low (omega arith));
      room =
          let sums : sum_by unnumbered number ≡ sum_by unnumbered (take n number) + sum_by unnumbered (drop n number) =
          ap (sum_by unnumbered) (sym (take-append-drop n number)) ∙ sum_by-append unnumbered (take n number) (drop n number) in
          let rest : length (drop n number) ≡ length number - n = length-drop n number in
          let none : sum_by unnumbered (drop n number) ≡ length (drop n number) =
          all_unnumbered (drop n number) (λ k low. get_or-drop n number k 0 ∙ past_unnumbered m n order number v old (n + k) (omega arith) (omega arith)) in
          let room = v.room in
          omega arith;
    }

meeting_of_first : (n : ℕ) (xs ys number : List ℕ) (d x : ℕ) → 1 ≤ d → d ≤ n → IsMeeting xs ys number d x → IsMeeting xs ys (take n number) d x
meeting_of_first n xs ys number d x low high m = record {
  longer = m.longer;
  kept = m.kept;
  number = get_or-take n number (d - 1) 0 (omega arith) ∙ m.number;
  positive = m.positive;
  at = m.at;
  next = m.next;
  top = m.top;
}

-- ## Images from a place on

-- the images of n chambers from place u on
abbrev pub images_from : ℕ → ℕ → Symbol → List ℕ
images_from n u t = drop u (rows t 1 n)

next_image : (n u : ℕ) → u < 3 * n → images_from n u ≡ (λ (t : Symbol). op t (index_at (u % 3)) (1 + u / 3) ∷ images_from n (u + 1) t)
next_image n u low = λ i t. step t i
  where
    step : (t : Symbol) → drop u (rows t 1 n) ≡ op t (index_at (u % 3)) (1 + u / 3) ∷ drop (u + 1) (rows t 1 n)
    step t =
        let size : length (rows t 1 n) ≡ 3 * n = length-flat_images t 1 n in
        drop_more (rows t 1 n) u 0 (omega arith) ∙ ap (λ x. x ∷ drop (u + 1) (rows t 1 n)) (images_at t 1 n u low)

-- ## The traversal of each completion

-- The traversal from the start has read the numbers of the prefix before place u, in each completion whose code begins with the prefix.
pub record IsPassing (partial : Symbol) (prefix : List ℕ) (start : ℕ) (order number : List ℕ) (u : ℕ) : Type 0 where
  pub first : item order 1 ≡ start
  pub all : (t : Symbol) → Completes partial t → Begins prefix (code t) → IsTraversal t t order (take partial.size number) 1 (images_from partial.size u) Equal

pub passing_begun : (partial : Symbol) (prefix order number : List ℕ) (start m : ℕ) → partial.size ≤ m → order ≡ start ∷ [] → IsVisit m order number → AreInside partial.size order → IsPassing partial prefix start order number 0
passing_begun partial prefix order number start m small begun v inside =
    let n = partial.size in
    let visit = visit_of_first m n order number small v inside in
    record {
      first = ap (λ xs. item xs 1) begun;
      all = λ t full begins.
          let here : IsVisit t.size (start ∷ []) (take n number) = subst (λ k. IsVisit k (start ∷ []) (take n number)) (sym full.size) (subst (λ xs. IsVisit n xs (take n number)) begun visit) in
          subst (λ xs. IsTraversal t t xs (take n number) 1 (images_from n 0) Equal) (sym begun)
          (subst (λ k. IsTraversal t t (start ∷ []) (take n number) 1 (images_from k 0) Equal) full.size (begin t t start (take n number) refl here));
    }

-- what is read at a place and met there
pub record ReadsNext (partial : Symbol) (prefix xs ys number : List ℕ) (u image k m : ℕ) : Type 0 where
  pub place : u < length prefix
  pub at : IsMetAt partial xs ys number u image k
  pub small : partial.size ≤ m
  pub visit : IsVisit m ys number
  pub inside : AreInside partial.size ys

-- one image more of a completion
passing_step : (partial t : Symbol) (prefix xs ys old number : List ℕ) (u image k m : ℕ) → ReadsNext partial prefix xs ys number u image k m → Completes partial t → Begins prefix (code t)
    → IsTraversal t t xs old 1 (images_from partial.size u) Equal → IsTraversal t t ys (take partial.size number) 1 (images_from partial.size (u + 1)) (nat_cmp k (get_or prefix u 0))
passing_step partial t prefix xs ys old number u image k m next full begins tr =
    let n = partial.size in
    let i = index_at (u % 3) in
    let c = 1 + u / 3 in
    let at = next.at in
    let low = at.low in
    let size = full.size in
    let room = tr.visit.room in
    let place : c - 1 ≡ u / 3 = omega arith in
    let there : op t i (item xs c) ≡ image =
    ap (λ j. op t i (get_or xs j 0)) place ∙ full.images i (get_or xs (u / 3) 0) (λ z. at.known (sym at.image_is ∙ z)) ∙ at.image_is in
    let own : op t i c ≡ get_or prefix u 0 = sym (code_at t u (omega arith)) ∙ begins_at prefix (code t) u begins next.place in
    let met = at.meeting in
    let pos = met.positive in
    let top = met.top in
    let inside : (1 ≤ image) × (image ≤ n) = subst (λ d. (1 ≤ d) × (d ≤ n)) met.at (next.inside.inside (k - 1) (omega arith)) in
    let visit = subst (λ j. IsVisit j ys (take n number)) (sym size) (visit_of_first m n ys number next.small next.visit next.inside) in
    let meeting = subst (λ d. IsMeeting xs ys (take n number) d k) (sym there) (meeting_of_first n xs ys number image k inside.0 inside.1 met) in
    let before = subst (λ rest. IsTraversal t t xs old 1 rest Equal) (next_image n u (omega arith)) tr in
    subst (λ x. IsTraversal t t ys (take n number) 1 (images_from n (u + 1)) (nat_cmp k x)) own
    (advance t t xs old ys (take n number) 1 c i (images_from n (u + 1)) Equal k full.table.involutions (omega arith) (omega arith) before visit meeting (omega arith))

still_first : (partial : Symbol) (xs ys number : List ℕ) (u image k start : ℕ) → IsMetAt partial xs ys number u image k → item xs 1 ≡ start → item ys 1 ≡ start
still_first partial xs ys number u image k start at first = let low = at.low in at.meeting.kept 1 (omega arith) (omega arith) ∙ first

pub passing_more : (partial : Symbol) (prefix xs ys old number : List ℕ) (start u image k m : ℕ) → ReadsNext partial prefix xs ys number u image k m → IsPassing partial prefix start xs old u
    → k ≡ get_or prefix u 0 → IsPassing partial prefix start ys number (u + 1)
passing_more partial prefix xs ys old number start u image k m next before same =
    let equal : nat_cmp k (get_or prefix u 0) ≡ Equal = sym (nat_cmp_is k (get_or prefix u 0) Equal same) in
    record {
      first = still_first partial xs ys number u image k start next.at before.first;
      all = λ t full begins. subst (λ o. IsTraversal t t ys (take partial.size number) 1 (images_from partial.size (u + 1)) o) equal
          (passing_step partial t prefix xs ys (take partial.size old) number u image k m next full begins (before.all t full begins));
    }

-- a larger number decides
pub passed_here : (partial : Symbol) (prefix xs ys old number : List ℕ) (start u image k m : ℕ) → ReadsNext partial prefix xs ys number u image k m → IsPassing partial prefix start xs old u
    → get_or prefix u 0 < k → IsPassed partial prefix start
passed_here partial prefix xs ys old number start u image k m next before more =
    let greater : nat_cmp k (get_or prefix u 0) ≡ Greater = sym (nat_cmp_is k (get_or prefix u 0) Greater more) in
    let first = still_first partial xs ys number u image k start next.at before.first in
    record {
      larger = λ t full begins v a.
          falls_behind t t v a.map ys (take partial.size number) 1 (images_from partial.size (u + 1)) (nat_cmp k (get_or prefix u 0))
          (passing_step partial t prefix xs ys (take partial.size old) number u image k m next full begins (before.all t full begins))
          greater a.isomorphism (ap (item a.map) first ∙ a.start_first) a.first_visit;
    }

-- a prefix that is read to its end
pub agreeing_here : (partial : Symbol) (prefix order number : List ℕ) (start u : ℕ) → length prefix ≤ u → length prefix ≤ 3 * partial.size → ReadsSo partial prefix order u
    → IsPassing partial prefix start order number u → IsAgreeing partial prefix start
agreeing_here partial prefix order number start u whole short reads passing = record {
  same = λ t full begins v a.
      let tr = passing.all t full begins in
      let f = a.map in
      let iso = a.isomorphism in
      let ext = (tr.forced v f iso (ap (item f) passing.first ∙ a.start_first) a.first_visit).0 in
      let size = iso.size in
      let own = full.size in
      let long = length-code v a.table in
      begins_from prefix (code v) (omega (arith, long, size, own, short)) (λ w low.
      let i = index_at (w % 3) in
      let k = 1 + w / 3 in
      let e = get_or prefix w 0 in
      let r = reads.same w (omega (arith, low, whole)) in
      code_at v w (omega (arith, low, short, size, own))
      ∙ ap (op v i) (sym (ext.begins k (omega arith) r.reads.chamber))
      ∙ sym (iso.morphism.op i (item order k) (tr.visit.within k (omega arith) r.reads.chamber))
      ∙ ap (item f) (full.images i (item order k) r.known ∙ r.reads.is)
      ∙ ext.begins e r.reads.positive r.reads.image);
}

-- an image that is not known
pub unknown_here : (partial : Symbol) (place number : ℕ) → place < 3 * partial.size → HasNumberAt place number partial → number ≡ 0 → HasUnknown partial
unknown_here partial place number low told none = record {
  index = index_at (place % 3);
  chamber = 1 + place / 3;
  inside = (omega arith, omega (arith, low));
  none = told ∙ none;
}
