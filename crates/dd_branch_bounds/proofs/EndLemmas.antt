-- Ends of paths that are joined.
use Rattle.std.proofs.Common.{◌≡◌, ℕ, zero, suc, ◌+◌, ◌*◌, ◌/◌, ◌<◌, ◌≤◌, ◌⊎◌, ◌%◌, IsTrue, [], ◌∷◌, refl, sym, ap, ◌∙◌, subst, inl, inr, ⊎_elim, arith}
use Rattle.std.proofs.lemmas.Bool.{cases_eq}
use Rattle.std.specs.List.{AllByRecursion}
use Rattle.dd_model.specs.declared.pair.Pair.{Pair}
use Rattle.dd_model.specs.declared.requests.Request.{Request}
use Rattle.dd_model.specs.Symbol.{Symbol, IsSymbol, IsChamber, op, degree}
use Rattle.dd_model.specs.Code.{count_from}
use Rattle.dd_model.specs.Cell.{InCell, IsChain}
use Rattle.dd_model.proofs.Branching.{degree-along_cell}
use Rattle.dd_model.proofs.CellWalks.{in_cell-refl, in_cell-trans}
use Rattle.dd_branch_tables.specs.Distinct.{AreDistinct}
use Rattle.dd_branch_tables.proofs.Orders.{distinct-count_from}
use Rattle.dd_branch_bounds.specs.Ends.{IsInside, AreTables, IsFound, IsWithin, IsOpenAt, IsPathEnd, ArePathEnds, led}
use Rattle.dd_branch_bounds.specs.Changes.{IsElsewhere, IsRenewed}
use Rattle.dd_branch_bounds.specs.Labels.{count_label, reshare}
use Rattle.dd_branch_bounds.specs.Units.{share_unit}
use Rattle.dd_branch_bounds.specs.PathEnd.{PathEnd}
use Rattle.dd_branch_bounds.proofs.LabelLemmas.{reshare_same, reshare_other, sum_reshared, length-labelled, all_labelled, distinct_labelled, labelled}
use Rattle.dd_branch_bounds.proofs.WithinLemmas.{letter_in_pair, within_first}
use Rattle.dd_branch_bounds.proofs.Rotation.{cell_bound, chain_bound}

-- ## Lists of chambers

-- what holds of each number holds of those of a list
pub all_from : (Q : ℕ → Type 0) (k n : ℕ) → ((d : ℕ) → k ≤ d → d < k + n → Q d) → AllByRecursion Q (count_from k n)
all_from Q k zero each = tt
all_from Q k (suc n) each = (each k (omega arith) (omega arith), all_from Q (k + 1) n (λ d low high. each d (omega arith) (omega arith)))

-- all chambers of a label, and a fact of each of them
pub of_label : (n : ℕ) (label : ℕ → ℕ) (a : ℕ) (Q : ℕ → Type 0) → ((d : ℕ) → IsInside n d → label d ≡ a → Q d) → AllByRecursion Q (labelled label a (count_from 1 n))
of_label n label a Q each =
    all_labelled Q label a (count_from 1 n) (all_from (λ d. label d ≡ a → Q d) 1 n (λ d low high same. each d (low, omega (arith, high)) same))

pub apart_of_label : (n : ℕ) (label : ℕ → ℕ) (a : ℕ) → AreDistinct (labelled label a (count_from 1 n))
apart_of_label n label a = distinct_labelled label a (count_from 1 n) (distinct-count_from 1 n)

-- ## Cells

pub inside_whole : (n : ℕ) (s : Symbol) → s.size ≡ n → (d : ℕ) → IsInside n d → IsChamber s d
inside_whole n s size d h = (h.0, let high = h.1 in omega (arith, high, size))

pub chain-along : (s : Symbol) → (p : Pair) (d e : ℕ) → InCell s p e d → IsChain s p d → IsChain s p e
chain-along s p d e there chain = record { chamber = chain.chamber; in_cell = in_cell-trans s p e d chain.chamber there chain.in_cell; fixed = chain.fixed }

halved : (k m : ℕ) → k ≤ 2 * m → (k + 1) / 2 ≤ m
halved k m h = grind arith

-- the degree of a cell that has all chambers of a label
pub label_degree : (n : ℕ) (s : Symbol) (p : Pair) (label : ℕ → ℕ) (a d : ℕ) → IsSymbol s → s.size ≡ n → IsInside n d
    → ((e : ℕ) → IsInside n e → label e ≡ a → InCell s p d e) → (count_label label a (count_from 1 n) + 1) / 2 ≤ degree s p d
label_degree n s p label a d is size h near =
    let es = labelled label a (count_from 1 n) in
    let bound = cell_bound s is p d (inside_whole n s size d h) es (apart_of_label n label a) (of_label n label a (InCell s p d) near) in
    let all = length-labelled label a (count_from 1 n) in
    halved (count_label label a (count_from 1 n)) (degree s p d) (omega (arith, bound, all))

-- a cell has a degree from 1 on
pub degree_from_one : (s : Symbol) (p : Pair) (d : ℕ) → IsSymbol s → IsChamber s d → 1 ≤ degree s p d
degree_from_one s p d is h =
    let bound = cell_bound s is p d h (d ∷ []) (tt, tt) (in_cell-refl s p d, tt) in
    omega (arith, bound)

-- the degree of a chain that has all chambers of a label
pub label_degree_of_chain : (n : ℕ) (s : Symbol) (p : Pair) (label : ℕ → ℕ) (a d : ℕ) → IsSymbol s → s.size ≡ n → IsInside n d → IsChain s p d
    → ((e : ℕ) → IsInside n e → label e ≡ a → InCell s p d e) → count_label label a (count_from 1 n) ≤ degree s p d
label_degree_of_chain n s p label a d is size h chain near =
    let es = labelled label a (count_from 1 n) in
    let bound = chain_bound s is p d (inside_whole n s size d h) chain es (apart_of_label n label a) (of_label n label a (InCell s p d) near) in
    let all = length-labelled label a (count_from 1 n) in
    omega (arith, bound, all)

-- a cell of which a flag is fixed is a chain
pub chain_of_fixed : (s : Symbol) (p : Pair) (x : ℕ) → led s p x ≡ x / 2 → IsChain s p (x / 2)
chain_of_fixed s p x fixed = record {
  chamber = x / 2;
  in_cell = in_cell-refl s p (x / 2);
  fixed = ⊎_elim
      (λ e. inl (subst (λ j. op s j (x / 2) ≡ x / 2) e fixed))
      (λ e. inr (subst (λ j. op s j (x / 2) ≡ x / 2) e fixed))
      (letter_in_pair p (x % 2));
}

-- ## One path that has another share

-- all stays the same with another share of one label
pub ends_renewed : (q : Request) (C : Symbol → Type 0) (n : ℕ) (p : Pair) (old new : ℕ → PathEnd) (total more x v : ℕ) → AreTables C n → ArePathEnds q C n p old total → 1 ≤ (old x).chambers
    → ((s : Symbol) → IsFound q C s → share_unit ≤ v * degree s p (x / 2)) → v ≤ share_unit
    → more + (old x).chambers * (old x).share ≡ total + (old x).chambers * v
    → ((z : ℕ) → 1 ≤ (new z).chambers → ((z ≡ (old x).other) × (IsRenewed old x v (new z) × ((s : Symbol) → C s → led s p x ≡ x / 2))) ⊎ IsElsewhere old new x z)
    → ArePathEnds q C n p new more
ends_renewed q C n p old new total more x v full are live right low sum each =
    let own = are.each x live in
    let label = are.label in
    let a = label (x / 2) in
    let share = reshare are.shared a v in record {
      label = label;
      shared = share;
      joined = are.joined;
      shares = λ d h s sought. ⊎_elim
          (λ same.
          let here = reshare_same are.shared a v (label d) same in
          let near = are.joined (x / 2) d own.inside h (sym same) s sought.1 in
          let deg = degree-along_cell s sought.0.symbol p (x / 2) d (inside_whole n s (full s sought.1).1 (x / 2) own.inside) near in
          subst (λ g. share_unit ≤ g * degree s p d) (sym here) (subst (λ m. share_unit ≤ v * m) (sym deg) (right s sought)))
          (λ away. subst (λ g. share_unit ≤ g * degree s p d) (sym (reshare_other are.shared a v (label d) away)) (are.shares d h s sought))
          (cases_eq (label d) a);
      small = λ d h. ⊎_elim
          (λ same. subst (λ g. g ≤ share_unit) (sym (reshare_same are.shared a v (label d) same)) low)
          (λ away. subst (λ g. g ≤ share_unit) (sym (reshare_other are.shared a v (label d) away)) (are.small d h))
          (cases_eq (label d) a);
      adds =
          let sums = sum_reshared label are.shared a v (count_from 1 n) in
          let count = own.count in
          let before : (old x).chambers * (old x).share ≡ count_label label a (count_from 1 n) * are.shared a = ap (λ k. k * (old x).share) count ∙ ap (λ g. count_label label a (count_from 1 n) * g) own.told in
          let after : (old x).chambers * v ≡ count_label label a (count_from 1 n) * v = ap (λ k. k * v) count in
          let was = are.adds in
          omega (arith, sums, before, after, was, sum);
      each = λ z now. ⊎_elim (λ is. at_other z is.0 is.1.0 is.1.1) (λ is. at_same z now is.same is.not_this is.not_other) (each z now);
    }
  where
    at_other : (z : ℕ) → z ≡ (old x).other → IsRenewed old x v (new z) → ((s : Symbol) → C s → led s p x ≡ x / 2) → IsPathEnd C n p are.label (reshare are.shared (are.label (x / 2)) v) new z
    at_other z at is fixed =
        let own = are.each x live in
        let label = are.label in
        let a = label (x / 2) in
        let mine : label (z / 2) ≡ a = ap (λ y. label (y / 2)) at ∙ own.other.1 in
        let inside : IsInside n (z / 2) = subst (λ y. IsInside n (y / 2)) (sym at) own.other.0 in record {
          inside = inside;
          count = is.chambers ∙ own.count ∙ ap (λ l. count_label label l (count_from 1 n)) (sym mine);
          told = is.share ∙ sym (reshare_same are.shared a v (label (z / 2)) mine);
          capped = λ yes s c. chain-along s p (x / 2) (z / 2) (are.joined (z / 2) (x / 2) inside own.inside mine s c) (chain_of_fixed s p x (fixed s c));
          other = (subst (λ y. IsInside n (y / 2)) (sym is.other) own.inside, ap (λ y. label (y / 2)) is.other ∙ sym mine);
          alone = λ w now same. ⊎_elim
              (λ it. inl (it.0 ∙ sym at))
              (λ it. absurd (⊎_elim it.not_this it.not_other (own.alone w (subst (λ e. 1 ≤ e.chambers) it.same now) (same ∙ mine))))
              (each w now);
          closed = λ w h same. ⊎_elim
              (λ loose. ⊎_elim
              (λ here. inr (within_first C n p full label (new z).is_capped x x own.inside (λ _ _. refl) fixed refl (λ no _. no is.capped) w here))
              (λ there. inl (inl (there.0 ∙ sym at)))
              loose)
              (λ on. inr (record { same = on.same; moved = λ no. absurd (no is.capped) }))
              (own.closed w h (same ∙ mine));
        }

    at_same : (z : ℕ) → 1 ≤ (new z).chambers → new z ≡ old z → (z ≡ x → ⊥) → (z ≡ (old x).other → ⊥) → IsPathEnd C n p are.label (reshare are.shared (are.label (x / 2)) v) new z
    at_same z now same not_x not_other =
        let own = are.each x live in
        let label = are.label in
        let a = label (x / 2) in
        let was = subst (λ e. 1 ≤ e.chambers) same now in
        let end = are.each z was in
        let away : label (z / 2) ≡ a → ⊥ = λ is. ⊎_elim not_x not_other (own.alone z was is) in record {
          inside = end.inside;
          count = ap (λ (e : PathEnd). e.chambers) same ∙ end.count;
          told = ap (λ (e : PathEnd). e.share) same ∙ end.told ∙ sym (reshare_other are.shared a v (label (z / 2)) away);
          capped = λ yes. end.capped (subst (λ (e : PathEnd). IsTrue e.is_capped) same yes);
          other = subst (λ (e : PathEnd). IsInside n (e.other / 2) × (label (e.other / 2) ≡ label (z / 2))) (sym same) end.other;
          alone = λ w yet is. ⊎_elim
              (λ it. absurd (away (sym is ∙ ap (λ y. label (y / 2)) it.0 ∙ own.other.1)))
              (λ it. ⊎_elim (λ e. inl e) (λ e. inr (e ∙ ap (λ (e : PathEnd). e.other) (sym same))) (end.alone w (subst (λ e. 1 ≤ e.chambers) it.same yet) is))
              (each w yet);
          closed = λ w h is. subst (λ (e : PathEnd). IsOpenAt z e w ⊎ IsWithin C p label e.is_capped w) (sym same) (end.closed w h is);
        }
