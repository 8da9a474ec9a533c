-- Two paths that are joined.
use Rattle.std.proofs.Common.{◌≡◌, ℕ, ◌+◌, ◌*◌, ◌/◌, ◌%◌, ◌<◌, ◌≤◌, ◌⊎◌, Bool, IsTrue, List, length, refl, sym, ap, ◌∙◌, subst, inl, inr, ⊎_elim, arith}
use Rattle.std.proofs.lemmas.Bool.{cases_eq, cases_lt}
use Rattle.dd_model.specs.declared.pair.Pair.{Pair}
use Rattle.dd_model.specs.declared.requests.Request.{Request}
use Rattle.dd_model.specs.Symbol.{Symbol, IsChamber, first, degree}
use Rattle.dd_model.specs.Code.{count_from}
use Rattle.dd_model.specs.Cell.{InCell, IsChain}
use Rattle.dd_model.proofs.CellWalks.{in_cell-refl, in_cell-trans, in_cell-sym, in_cell-letter}
use Rattle.dd_cells.specs.Cells.{AreMembers}
use Rattle.dd_branch_bounds.specs.Ends.{IsInside, AreTables, IsFound, IsWithin, IsOpenAt, IsPathEnd, ArePathEnds, letter_of, led}
use Rattle.dd_branch_bounds.specs.Changes.{HasTurns, IsJoined, AreJoined}
use Rattle.dd_branch_bounds.specs.Labels.{count_label, relabel, reshare}
use Rattle.dd_branch_bounds.specs.Classes.{IsClosedShare}
use Rattle.dd_model.specs.declared.pair.Pair.TheVariants.{Tile, Vertex}
use Rattle.dd_branch_bounds.specs.Shares.{IsAllowed}
use Rattle.dd_branch_bounds.specs.Units.{share_unit}
use Rattle.dd_branch_bounds.specs.PathEnd.{PathEnd}
use Rattle.dd_branch_bounds.proofs.Bounds.{wanted_allowed}
use Rattle.dd_branch_bounds.proofs.OddSizes.{odd_fixes}
use Rattle.dd_model.proofs.Branching.{degree-along_cell}
use Rattle.dd_branch_bounds.proofs.ClosedLabels.{IsClosedLabel, closed_size, label_in_cell, share_of_closed}
use Rattle.dd_branch_bounds.proofs.WithinLemmas.{letter_in_pair, within_first, within_second}
use Rattle.dd_branch_bounds.proofs.EndLemmas.{inside_whole, chain-along, label_degree, label_degree_of_chain}
use Rattle.dd_branch_bounds.proofs.LabelLemmas.{label_along, relabel_same, relabel_other, reshare_same, reshare_other, count_joined, count_stays, sum_joined, whole_label}

module _ (q : Request) (C : Symbol → Type 0) (n : ℕ) (p : Pair) (full : AreTables C n) (old new : ℕ → PathEnd) (total x y : ℕ) (are : ArePathEnds q C n p old total)
    (live : 1 ≤ (old x).chambers) (living : 1 ≤ (old y).chambers) (others : y ≡ x → ⊥) (no_end : y ≡ (old x).other → ⊥)
    (side : (s : Symbol) → C s → y % 2 ≡ x % 2) (link : (s : Symbol) → C s → led s p x ≡ y / 2) where
  a : ℕ
  a = are.label (x / 2)

  b : ℕ
  b = are.label (y / 2)

  after : ℕ → ℕ
  after = relabel are.label a b

  -- the two paths are not one
  apart : a ≡ b → ⊥
  unfolding a b
  apart same = ⊎_elim others no_end ((are.each x live).alone y living (sym same))

  -- the chambers of the two flags are in one cell
  beside : (s : Symbol) → C s → InCell s p (x / 2) (y / 2)
  beside s c = subst (InCell s p (x / 2)) (link s c) (in_cell-letter s p (x / 2) (x / 2) (letter_of p (x % 2)) (letter_in_pair p (x % 2)) (in_cell-refl s p (x / 2)))

  -- a chamber with either label is in the cell of x
  near_x : (d : ℕ) → IsInside n d → after d ≡ a → (s : Symbol) → C s → InCell s p (x / 2) d
  unfolding a b after
  near_x d h same s c =
      let hx = (are.each x live).inside in
      let hy = (are.each y living).inside in
      ⊎_elim
      (λ is_b. in_cell-trans s p (x / 2) (y / 2) d (beside s c) (are.joined (y / 2) d hy h (sym is_b) s c))
      (λ not_b. are.joined (x / 2) d hx h (sym same ∙ relabel_other are.label a b d not_b) s c)
      (cases_eq (are.label d) b)

  joined_after : (d e : ℕ) → IsInside n d → IsInside n e → after d ≡ after e → (s : Symbol) → C s → InCell s p d e
  unfolding a b after
  joined_after d e hd he same s c = ⊎_elim
      (λ at. through (at) (sym same ∙ at))
      (λ away_d.
      let not_b : are.label d ≡ b → ⊥ = λ is_b. away_d (relabel_same are.label a b d is_b) in
      let not_b' : are.label e ≡ b → ⊥ = λ is_b. away_d (same ∙ relabel_same are.label a b e is_b) in
      are.joined d e hd he (sym (relabel_other are.label a b d not_b) ∙ same ∙ relabel_other are.label a b e not_b') s c)
      (cases_eq (after d) a)
    where
      through : after d ≡ a → after e ≡ a → InCell s p d e
      through d_is e_is =
          in_cell-trans s p d (x / 2) e
          (in_cell-sym s (full s c).0.involutions p (x / 2) d (inside_whole n s (full s c).1 (x / 2) (are.each x live).inside) (near_x d hd d_is s c))
          (near_x e he e_is s c)

  chain : IsTrue (old x).is_capped ⊎ IsTrue (old y).is_capped → (s : Symbol) → C s → IsChain s p (x / 2)
  chain which s c = ⊎_elim
      (λ yes. (are.each x live).capped yes s c)
      (λ yes. chain-along s p (y / 2) (x / 2) (beside s c) ((are.each y living).capped yes s c))
      which

  count : (old x).chambers + (old y).chambers ≡ count_label after a (count_from 1 n)
  unfolding a b after
  count =
      let one = (are.each x live).count in
      let two = (are.each y living).count in
      let both = count_joined are.label a b apart (count_from 1 n) in
      omega (arith, one, two, both)

  -- ## The flags of the two paths

  -- a flag of them is another end that is not told to be fixed, or leads to one of their chambers
  within_both : (is_capped : Bool) → (IsTrue (old x).is_capped ⊎ IsTrue (old y).is_capped → IsTrue is_capped) → (z : ℕ) → IsInside n (z / 2) → after (z / 2) ≡ a
      → (((z ≡ (old x).other) × (IsTrue (old x).is_capped → ⊥)) ⊎ ((z ≡ (old y).other) × (IsTrue (old y).is_capped → ⊥))) ⊎ IsWithin C p after is_capped z
  unfolding a b after
  within_both is_capped either z h same = ⊎_elim
      (λ is_b. ⊎_elim
      (λ loose. ⊎_elim
      (λ at. inr (within_second C n p full after is_capped x y (are.each x live).inside side link both (λ _. others) z at))
      (λ at. inl (inr at))
      loose)
      (λ on. inr (record { same = λ s c. relabelled on.same s c; moved = λ no. on.moved (λ yes. no (either (inr yes))) }))
      ((are.each y living).closed z h is_b))
      (λ not_b. ⊎_elim
      (λ loose. ⊎_elim
      (λ at. inr (within_first C n p full after is_capped x y (are.each x live).inside side link both (λ _. others) z at))
      (λ at. inl (inl at))
      loose)
      (λ on. inr (record { same = λ s c. relabelled on.same s c; moved = λ no. on.moved (λ yes. no (either (inl yes))) }))
      ((are.each x live).closed z h (sym (relabel_other are.label a b (z / 2) not_b) ∙ same)))
      (cases_eq (are.label (z / 2)) b)
    where
      both : after (y / 2) ≡ after (x / 2)
      both = relabel_same are.label a b (y / 2) refl ∙ sym (relabel_other are.label a b (x / 2) apart)

      relabelled : ((s : Symbol) → C s → are.label (led s p z) ≡ are.label (z / 2)) → (s : Symbol) → C s → after (led s p z) ≡ after (z / 2)
      relabelled same s c = label_along are.label a b (led s p z) (z / 2) (same s c)

  -- where both other ends are fixed, the two paths are a whole cell
  closed_both : IsTrue (old x).is_capped → IsTrue (old y).is_capped → (s : Symbol) → C s → IsClosedLabel s p after (x / 2)
  unfolding a b after
  closed_both one other s c = record {
    chamber = inside_whole n s (full s c).1 (x / 2) (are.each x live).inside;
    near = λ e h same. near_x e (inside_table s c e h) (same ∙ here) s c;
    flags = λ z h same. ⊎_elim
        (λ loose. absurd (⊎_elim (λ at. at.1 one) (λ at. at.1 other) loose))
        (λ on. on.same s c ∙ same)
        (within_both (old x).is_capped (λ _. one) z (inside_table s c (z / 2) h) (same ∙ here));
  }
    where
      here : after (x / 2) ≡ a
      here = relabel_other are.label a b (x / 2) apart

      inside_table : (s : Symbol) → C s → (e : ℕ) → IsChamber s e → IsInside n e
      inside_table s c e h = (h.0, let high = h.1 in let size = (full s c).1 in omega (arith, high, size))

  -- the cell has the chambers of both paths, and no others
  pub both_size : IsTrue (old x).is_capped → IsTrue (old y).is_capped → (s : Symbol) → C s → (members : List ℕ) → AreMembers s p (x / 2) members
      → length members ≡ (old x).chambers + (old y).chambers
  unfolding a b after
  both_size one other s c members of_cell =
      closed_size s (full s c).0.involutions p after (x / 2) (closed_both one other s c) members of_cell
      ∙ ap (λ l. count_label after l (count_from 1 s.size)) (relabel_other are.label a b (x / 2) apart)
      ∙ ap (λ m. count_label after a (count_from 1 m)) (full s c).1 ∙ sym count

  pub both_labels : IsTrue (old x).is_capped → IsTrue (old y).is_capped → (s : Symbol) → C s → (e : ℕ) → InCell s p (x / 2) e
      → (are.label e ≡ are.label (x / 2)) ⊎ (are.label e ≡ are.label (y / 2))
  unfolding a b after
  both_labels one other s c e there =
      let same = label_in_cell s (full s c).0.involutions p after (x / 2) (closed_both one other s c) e there ∙ relabel_other are.label a b (x / 2) apart in
      ⊎_elim (λ is_b. inr is_b) (λ not_b. inl (sym (relabel_other are.label a b e not_b) ∙ same)) (cases_eq (are.label e) b)

  -- the two paths have different labels
  pub other_labels : are.label (x / 2) ≡ are.label (y / 2) → ⊥
  unfolding a b
  other_labels = apart

  -- a share that is right for that cell
  pub closed_both_share : (c v : ℕ) → (p ≡ Tile) ⊎ (p ≡ Vertex) → IsTrue (old x).is_capped → IsTrue (old y).is_capped → IsClosedShare q p c v
      → c % 64 ≡ (old x).chambers + (old y).chambers → c % 64 ≤ 36 → 64 ≤ c → (s : Symbol) → IsFound q C s → share_unit ≤ v * degree s p (x / 2)
  unfolding a b after
  closed_both_share c v which one other share chambers few high s sought =
      share_of_closed q s p after (x / 2) c v which sought.0 (closed_both one other s sought.1) share
      (chambers ∙ count ∙ ap (λ l. count_label after l (count_from 1 n)) (sym (relabel_other are.label a b (x / 2) apart)) ∙ ap (λ m. count_label after (after (x / 2)) (count_from 1 m)) (sym (full s sought.1).1))
      few (λ _. chain (inl one) s sought.1) (λ low. absurd (omega (arith, low, high)))

  -- the degree of the joined path is at least half of its chambers, and at least as many where its cell is a chain
  joined_degree : (k : ℕ) → HasTurns n old x y k
      → (s : Symbol) → IsFound q C s → k ≤ degree s p (x / 2)
  joined_degree k few s sought =
      let c = sought.1 in
      let is = sought.0.symbol in
      let size = (full s c).1 in
      let hx = (are.each x live).inside in
      let near = λ (e : ℕ) (h : IsInside n e) (same : after e ≡ a). near_x e h same s c in
      let m = count in
      ⊎_elim
      (λ half. let bound = label_degree n s p after a (x / 2) is size hx near in let e : ((old x).chambers + (old y).chambers + 1) / 2 ≡ (count_label after a (count_from 1 n) + 1) / 2 = ap (λ j. (j + 1) / 2) m in omega (arith, half, bound, e))
      (λ cap.
      let all = cap.1 in
      ⊎_elim
      (λ fixed. let bound = label_degree_of_chain n s p after a (x / 2) is size hx (chain fixed s c) near in omega (arith, all, bound, m))
      (λ whole. ⊎_elim
      (λ (less : degree s p (x / 2) < n). absurd (odd_fixes s is.table.involutions (first p) (omega (arith, whole.1, size)) (λ d h fixed.
      let at : IsInside n d = (h.0, let high = h.1 in omega (arith, high, size)) in
      let there = near d at (whole_label after a 1 n (sym count ∙ whole.0) d at.0 (let high = at.1 in omega (arith, high))) in
      let bound = label_degree_of_chain n s p after a (x / 2) is size hx (record { chamber = d; in_cell = there; fixed = inl fixed }) near in
      let sum = whole.0 in
      omega (arith, less, bound, m, sum))))
      (λ enough. let sum = whole.0 in omega (arith, all, enough, sum))
      (cases_lt (degree s p (x / 2)) n))
      cap.0)
      few

  -- a share that is right for each degree that the path has room for
  pub joined_share : (v k : ℕ) → HasTurns n old x y k
      → ((m : ℕ) → IsAllowed q p m → k ≤ m → share_unit ≤ v * m) → (s : Symbol) → IsFound q C s → share_unit ≤ v * degree s p (x / 2)
  joined_share v k few right s sought =
      right (degree s p (x / 2)) (wanted_allowed q s p (x / 2) sought.0 (inside_whole n s (full s sought.1).1 (x / 2) (are.each x live).inside)) (joined_degree k few s sought)

  module _ (v more : ℕ) (bound : (s : Symbol) → IsFound q C s → share_unit ≤ v * degree s p (x / 2)) (low : v ≤ share_unit)
      (sums : more + ((old x).chambers * (old x).share + (old y).chambers * (old y).share) ≡ total + ((old x).chambers + (old y).chambers) * v)
      (each : AreJoined old new x y v) where
    pub ends_joined : ArePathEnds q C n p new more
    unfolding a b after
    ends_joined = record {
      label = after;
      shared = reshare are.shared a v;
      joined = joined_after;
      shares = λ d h s sought. ⊎_elim
          (λ same.
          let hx = inside_whole n s (full s sought.1).1 (x / 2) (are.each x live).inside in
          let deg = degree-along_cell s sought.0.symbol p (x / 2) d hx (near_x d h same s sought.1) in
          let up = bound s sought in
          subst (λ g. share_unit ≤ g * degree s p d) (sym (reshare_same are.shared a v (after d) same)) (subst (λ m. share_unit ≤ v * m) (sym deg) up))
          (λ away.
          let own = relabel_other are.label a b d (λ is_b. away (relabel_same are.label a b d is_b)) in
          let share = reshare_other are.shared a v (after d) away ∙ ap are.shared own in
          subst (λ g. share_unit ≤ g * degree s p d) (sym share) (are.shares d h s sought))
          (cases_eq (after d) a);
      small = λ d h. ⊎_elim
          (λ same. subst (λ g. g ≤ share_unit) (sym (reshare_same are.shared a v (after d) same)) low)
          (λ away.
          let own = relabel_other are.label a b d (λ is_b. away (relabel_same are.label a b d is_b)) in
          subst (λ g. g ≤ share_unit) (sym (reshare_other are.shared a v (after d) away ∙ ap are.shared own)) (are.small d h))
          (cases_eq (after d) a);
      adds =
          let all = sum_joined are.label are.shared a b v apart (count_from 1 n) in
          let ex = are.each x live in
          let ey = are.each y living in
          let na = count_label are.label a (count_from 1 n) in
          let nb = count_label are.label b (count_from 1 n) in
          let one : (old x).chambers * (old x).share ≡ na * are.shared a = ap (λ j. j * (old x).share) ex.count ∙ ap (λ g. na * g) ex.told in
          let two : (old y).chambers * (old y).share ≡ nb * are.shared b = ap (λ j. j * (old y).share) ey.count ∙ ap (λ g. nb * g) ey.told in
          let three : ((old x).chambers + (old y).chambers) * v ≡ (na + nb) * v = ap (λ j. (j + (old y).chambers) * v) ex.count ∙ ap (λ j. (na + j) * v) ey.count in
          let was = are.adds in
          omega (arith, all, one, two, three, was, sums);
      each = λ z now. ⊎_elim
          (λ is. at_end z (old y).other is.1.1 (subst (λ u. IsInside n (u / 2)) (sym is.0) (are.each x live).other.0) (label_x z is.0) ((are.each y living).other.0) (label_y (old y).other refl)
          (λ w. ends_of w z (old y).other (λ e. inl (e ∙ sym is.0)) (λ e. inr e))
          (λ w loose. ⊎_elim (λ at. inl (at.0 ∙ sym is.0)) (λ at. inr (at.0 ∙ sym is.1.1.other, λ yes. ⊎_elim is.1.0 at.1 (is.1.1.capped.0 yes))) loose))
          (λ or. ⊎_elim
          (λ is. at_end z (old x).other is.1.1 (subst (λ u. IsInside n (u / 2)) (sym is.0) (are.each y living).other.0) (label_y z is.0) ((are.each x live).other.0) (label_x (old x).other refl)
          (λ w. ends_of w z (old x).other (λ e. inr e) (λ e. inl (e ∙ sym is.0)))
          (λ w loose. ⊎_elim (λ at. inr (at.0 ∙ sym is.1.1.other, λ yes. ⊎_elim at.1 is.1.0 (is.1.1.capped.0 yes))) (λ at. inl (at.0 ∙ sym is.0)) loose))
          (λ is. at_same z now is.0.same is.0.not_this is.0.not_other is.1.not_this is.1.not_other)
          or)
          (each z now);
    }
      where
        label_x : (z : ℕ) → z ≡ (old x).other → after (z / 2) ≡ a
        label_x z at =
            let mine : are.label (z / 2) ≡ a = ap (λ u. are.label (u / 2)) at ∙ (are.each x live).other.1 in
            relabel_other are.label a b (z / 2) (λ is_b. apart (sym mine ∙ is_b)) ∙ mine

        label_y : (z : ℕ) → z ≡ (old y).other → after (z / 2) ≡ a
        label_y z at = relabel_same are.label a b (z / 2) (ap (λ u. are.label (u / 2)) at ∙ (are.each y living).other.1)

        -- a flag with either label is one of the four
        not_old : (w : ℕ) → 1 ≤ (old w).chambers → after (w / 2) ≡ a → ((w ≡ x) ⊎ (w ≡ (old x).other)) ⊎ ((w ≡ y) ⊎ (w ≡ (old y).other))
        not_old w was same = ⊎_elim
            (λ is_b. inr ((are.each y living).alone w was is_b))
            (λ not_b. inl ((are.each x live).alone w was (sym (relabel_other are.label a b (w / 2) not_b) ∙ same)))
            (cases_eq (are.label (w / 2)) b)

        ends_of : (w z mate : ℕ) → (w ≡ (old x).other → (w ≡ z) ⊎ (w ≡ mate)) → (w ≡ (old y).other → (w ≡ z) ⊎ (w ≡ mate)) → 1 ≤ (new w).chambers → after (w / 2) ≡ a → (w ≡ z) ⊎ (w ≡ mate)
        ends_of w z mate at_x at_y now same = ⊎_elim
            (λ is. at_x is.0)
            (λ or. ⊎_elim
            (λ is. at_y is.0)
            (λ is. absurd (⊎_elim (⊎_elim is.0.not_this is.0.not_other) (⊎_elim is.1.not_this is.1.not_other) (not_old w (subst (λ (e : PathEnd). 1 ≤ e.chambers) is.0.same now) same)))
            or)
            (each w now)

        at_end : (z mate : ℕ) → IsJoined old x y v mate (new z) → IsInside n (z / 2) → after (z / 2) ≡ a → IsInside n (mate / 2) → after (mate / 2) ≡ a
            → ((w : ℕ) → 1 ≤ (new w).chambers → after (w / 2) ≡ a → (w ≡ z) ⊎ (w ≡ mate))
            → ((w : ℕ) → ((w ≡ (old x).other) × (IsTrue (old x).is_capped → ⊥)) ⊎ ((w ≡ (old y).other) × (IsTrue (old y).is_capped → ⊥)) → IsOpenAt z (new z) w)
            → IsPathEnd C n p after (reshare are.shared a v) new z
        at_end z mate is inside mine inside_mate mates alone opens = record {
          inside = inside;
          count = is.chambers ∙ count ∙ ap (λ l. count_label after l (count_from 1 n)) (sym mine);
          told = is.share ∙ sym (reshare_same are.shared a v (after (z / 2)) mine);
          capped = λ yes s c.
              chain-along s p (x / 2) (z / 2)
              (in_cell-sym s (full s c).0.involutions p (x / 2) (z / 2) (inside_whole n s (full s c).1 (x / 2) (are.each x live).inside) (near_x (z / 2) inside mine s c))
              (chain (is.capped.0 yes) s c);
          other = (subst (λ u. IsInside n (u / 2)) (sym is.other) inside_mate, ap (λ u. after (u / 2)) is.other ∙ mates ∙ sym mine);
          alone = λ w now same. ⊎_elim (λ e. inl e) (λ e. inr (e ∙ sym is.other)) (alone w now (same ∙ mine));
          closed = λ w h same. ⊎_elim (λ loose. inl (opens w loose)) (λ on. inr on) (within_both (new z).is_capped is.capped.1 w h (same ∙ mine));
        }

        at_same : (z : ℕ) → 1 ≤ (new z).chambers → new z ≡ old z → (z ≡ x → ⊥) → (z ≡ (old x).other → ⊥) → (z ≡ y → ⊥) → (z ≡ (old y).other → ⊥) → IsPathEnd C n p after (reshare are.shared a v) new z
        at_same z now same not_x not_mate not_y not_other =
            let was = subst (λ (e : PathEnd). 1 ≤ e.chambers) same now in
            let end = are.each z was in
            let not_a : are.label (z / 2) ≡ a → ⊥ = λ is. ⊎_elim not_x not_mate ((are.each x live).alone z was is) in
            let not_b : are.label (z / 2) ≡ b → ⊥ = λ is. ⊎_elim not_y not_other ((are.each y living).alone z was is) in
            let mine : after (z / 2) ≡ are.label (z / 2) = relabel_other are.label a b (z / 2) not_b in
            let away : after (z / 2) ≡ a → ⊥ = λ is. not_a (sym mine ∙ is) in record {
              inside = end.inside;
              count = ap (λ (e : PathEnd). e.chambers) same ∙ end.count ∙ sym (count_stays are.label a b (are.label (z / 2)) not_a not_b (count_from 1 n)) ∙ ap (λ l. count_label after l (count_from 1 n)) (sym mine);
              told = ap (λ (e : PathEnd). e.share) same ∙ end.told ∙ ap are.shared (sym mine) ∙ sym (reshare_other are.shared a v (after (z / 2)) away);
              capped = λ yes. end.capped (subst (λ (e : PathEnd). IsTrue e.is_capped) same yes);
              other = subst (λ (e : PathEnd). IsInside n (e.other / 2) × (after (e.other / 2) ≡ after (z / 2))) (sym same)
                  (end.other.0, relabel_along end.other.1);
              alone = λ w yet is.
                  let away_w : after (w / 2) ≡ a → ⊥ = λ at. away (sym is ∙ at) in
                  ⊎_elim
                  (λ it. absurd (away_w (label_x w it.0)))
                  (λ or. ⊎_elim
                  (λ it. absurd (away_w (label_y w it.0)))
                  (λ it.
                  let own : after (w / 2) ≡ are.label (w / 2) = relabel_other are.label a b (w / 2) (λ is_b. away_w (relabel_same are.label a b (w / 2) is_b)) in
                  ⊎_elim (λ e. inl e) (λ e. inr (e ∙ ap (λ (e : PathEnd). e.other) (sym same))) (end.alone w (subst (λ (e : PathEnd). 1 ≤ e.chambers) it.0.same yet) (sym own ∙ is ∙ mine)))
                  or)
                  (each w yet);
              closed = λ w h is.
                  let away_w : after (w / 2) ≡ a → ⊥ = λ at. away (sym is ∙ at) in
                  let own : after (w / 2) ≡ are.label (w / 2) = relabel_other are.label a b (w / 2) (λ is_b. away_w (relabel_same are.label a b (w / 2) is_b)) in
                  subst (λ (e : PathEnd). IsOpenAt z e w ⊎ IsWithin C p after e.is_capped w) (sym same)
                  (⊎_elim
                  (λ loose. inl loose)
                  (λ on. inr (record { same = λ s c. relabel_along (on.same s c); moved = on.moved }))
                  (end.closed w h (sym own ∙ is ∙ mine)));
            }
          where
            relabel_along : {d e : ℕ} → are.label d ≡ are.label e → after d ≡ after e
            relabel_along same = label_along are.label a b _ _ same
