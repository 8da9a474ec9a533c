-- The ends that are left after paths were changed are in no cell that is counted then.
use Rattle.std.proofs.Common.{◌≡◌, ℕ, ◌/◌, ◌≤◌, IsTrue, refl, sym, ap, ◌∙◌, subst, inl, inr, ⊎_elim}
use Rattle.dd_model.specs.declared.pair.Pair.{Pair}
use Rattle.dd_model.specs.declared.requests.Request.{Request}
use Rattle.dd_model.specs.Symbol.{Symbol}
use Rattle.dd_model.specs.Cell.{InCell}
use Rattle.dd_model.proofs.CellWalks.{in_cell-refl}
use Rattle.dd_branch_bounds.specs.Changes.{IsElsewhere, AreFixed, AreClosed, IsLink, AreJoined}
use Rattle.dd_branch_bounds.specs.Counted.{HaveOthers, IsAtEnd, IsLoose}
use Rattle.dd_branch_bounds.specs.Ends.{AreTables, IsOpenAt, ArePathEnds}
use Rattle.dd_branch_bounds.specs.PathEnd.{PathEnd}
use Rattle.dd_branch_bounds.proofs.ClosingLemmas.{DoMeet, met_label}
use Rattle.dd_branch_bounds.proofs.CountedLemmas.{IsNear}
use Rattle.dd_branch_bounds.proofs.CountedPaths.{IsApart, IsChange}
use Rattle.dd_branch_bounds.proofs.JoinLemmas.{both_labels, other_labels}

module _ (q : Request) (C : Symbol → Type 0) (n : ℕ) (p : Pair) (full : AreTables C n) (old new : ℕ → PathEnd) (total : ℕ) (are : ArePathEnds q C n p old total) where
  -- ## Ends that stay

  live_before : (x z : ℕ) → 1 ≤ (new z).chambers → IsElsewhere old new x z → 1 ≤ (old z).chambers
  live_before x z live is = subst (λ (d : PathEnd). 1 ≤ d.chambers) is.same live

  loose_before : (x z w : ℕ) → 1 ≤ (new z).chambers → IsElsewhere old new x z → IsOpenAt z (new z) w → IsLoose old w
  loose_before x z w live is at = record { end = z; live = live_before x z live is; loose = subst (λ (d : PathEnd). IsOpenAt z d w) is.same at }

  near_before : (s : Symbol) (x z e : ℕ) → 1 ≤ (new z).chambers → IsElsewhere old new x z → z / 2 ≡ e → IsNear s p (IsAtEnd old) e
  near_before s x z e live is at = record { near = e; holds = record { end = z; live = live_before x z live is; at = at }; in_cell = in_cell-refl s p e }

  others_before : (x z : ℕ) → 1 ≤ (new z).chambers → HaveOthers old → IsElsewhere old new x z → (new z).other ≡ z → ⊥
  others_before x z live others is same = others z (live_before x z live is) (ap (λ (d : PathEnd). d.other) (sym is.same) ∙ same)

  -- a flag of an end elsewhere is not x
  not_this : (x z w : ℕ) → 1 ≤ (old x).chambers → 1 ≤ (new z).chambers → IsElsewhere old new x z → IsOpenAt z (new z) w → w ≡ x → ⊥
  not_this x z w was live is at same = ⊎_elim
      (λ here. is.not_this (sym here ∙ same))
      (λ there.
      let own = live_before x z live is in
      let mate : (old z).other ≡ x = ap (λ (d : PathEnd). d.other) (sym is.same) ∙ sym there.0 ∙ same in
      let label : are.label (z / 2) ≡ are.label (x / 2) = sym (are.each z own).other.1 ∙ ap (λ y. are.label (y / 2)) mate in
      ⊎_elim is.not_this is.not_other ((are.each x was).alone z own label))
      at

  -- the other end of a path is near it
  near_other : (s : Symbol) → C s → (x e : ℕ) → 1 ≤ (old x).chambers → (old x).other / 2 ≡ e → IsNear s p (IsAtEnd old) e
  near_other s c x e live at =
      let own = are.each x live in record {
        near = x / 2;
        holds = record { end = x; live = live; at = refl };
        in_cell = subst (λ d. InCell s p d (x / 2)) at (are.joined ((old x).other / 2) (x / 2) own.other.0 own.inside own.other.1 s c);
      }

  -- ## A path that is closed

  pub closed_change : (s : Symbol) (x : ℕ) → 1 ≤ (old x).chambers → AreClosed old new x → IsChange s p old x (IsAtEnd new) (IsLoose new)
  closed_change s x was each = record {
    near = λ e at. near_before s x at.end e at.live (each at.end at.live) at.at;
    fewer = λ z at. (loose_before x at.end z at.live (each at.end at.live) at.loose, not_this x at.end z was at.live (each at.end at.live) at.loose);
  }

  pub closed_others : (x : ℕ) → AreClosed old new x → HaveOthers old → HaveOthers new
  closed_others x each others z live = others_before x z live others (each z live)

  pub closed_apart : (s : Symbol) → C s → (x y : ℕ) → DoMeet C p old x y → AreClosed old new x → IsApart s p x (IsAtEnd new)
  closed_apart s c x y meet each e at there =
      let is = each at.end at.live in
      let label = ap are.label at.at ∙ met_label q C n p full old total x y are meet s c e there in
      ⊎_elim is.not_this is.not_other ((are.each x meet.is_end).alone at.end (live_before x at.end at.live is) label)

  -- ## A path of which an end is fixed

  module _ (x v : ℕ) (was : 1 ≤ (old x).chambers) (others : HaveOthers old) (each : AreFixed old new x v) where
    pub fixed_change : (s : Symbol) → C s → (IsTrue (old x).is_capped → ⊥) → IsChange s p old x (IsAtEnd new) (IsLoose new)
    fixed_change s c loose = record {
      near = λ e at. ⊎_elim
          (λ is. near_other s c x e was (ap (λ y. y / 2) (sym is.0) ∙ at.at))
          (λ is. near_before s x at.end e at.live is at.at)
          (each at.end at.live);
      fewer = λ z at. ⊎_elim
          (λ is. ⊎_elim
          (λ here. (
            record { end = x; live = was; loose = inr (here ∙ is.0, loose) },
            λ same. others x was (sym is.0 ∙ sym here ∙ same),
          ))
          (λ there. absurd (there.1 is.1.capped))
          at.loose)
          (λ is. (loose_before x at.end z at.live is at.loose, not_this x at.end z was at.live is at.loose))
          (each at.end at.live);
    }

    pub fixed_others : HaveOthers new
    fixed_others z live same = ⊎_elim
        (λ is. others x was (sym is.0 ∙ sym same ∙ is.1.other))
        (λ is. others_before x z live others is same)
        (each z live)

  -- ## Two paths that are joined

  module _ (x y v : ℕ) (link : IsLink C p old x y) (others : HaveOthers old) (each : AreJoined old new x y v) where
    pub joined_near : (s : Symbol) → C s → (e : ℕ) → IsAtEnd new e → IsNear s p (IsAtEnd old) e
    joined_near s c e at = ⊎_elim
        (λ is. near_other s c x e link.first_end (ap (λ z. z / 2) (sym is.0) ∙ at.at))
        (λ or. ⊎_elim
        (λ is. near_other s c y e link.second_end (ap (λ z. z / 2) (sym is.0) ∙ at.at))
        (λ is. near_before s x at.end e at.live is.0 at.at)
        or)
        (each at.end at.live)

    -- a flag of the other end of one path, which is now that of both
    joined_end : (k l z w : ℕ) → 1 ≤ (old k).chambers → 1 ≤ (old l).chambers → z ≡ (old k).other → (IsTrue (old k).is_capped → ⊥) → ((new z).other ≡ (old l).other)
        → ((IsTrue (new z).is_capped → ⊥) → IsTrue (old l).is_capped → ⊥) → IsOpenAt z (new z) w → IsLoose old w
    joined_end k l z w live living at loose mate open_too is = ⊎_elim
        (λ here. record { end = k; live = live; loose = inr (here ∙ at, loose) })
        (λ there. record { end = l; live = living; loose = inr (there.0 ∙ mate, open_too there.1) })
        is

    pub joined_fewer : (z : ℕ) → IsLoose new z → IsLoose old z
    joined_fewer z at = ⊎_elim
        (λ is. joined_end x y at.end z link.first_end link.second_end is.0 is.1.0 is.1.1.other (λ no yes. no (is.1.1.capped.1 (inr yes))) at.loose)
        (λ or. ⊎_elim
        (λ is. joined_end y x at.end z link.second_end link.first_end is.0 is.1.0 is.1.1.other (λ no yes. no (is.1.1.capped.1 (inl yes))) at.loose)
        (λ is. loose_before x at.end z at.live is.0 at.loose)
        or)
        (each at.end at.live)

    -- the other ends are not one
    other_ends : (old x).other ≡ (old y).other → ⊥
    other_ends same =
        let one = (are.each x link.first_end).other.1 in
        let two = (are.each y link.second_end).other.1 in
        other_labels q C n p full old new total x y are link.first_end link.second_end link.apart link.no_other link.side link.leads
        (sym one ∙ ap (λ z. are.label (z / 2)) same ∙ two)

    pub joined_others : HaveOthers new
    joined_others z live same = ⊎_elim
        (λ is. other_ends (sym is.0 ∙ sym same ∙ is.1.1.other))
        (λ or. ⊎_elim
        (λ is. other_ends (sym is.1.1.other ∙ same ∙ is.0))
        (λ is. others_before x z live others is.0 same)
        or)
        (each z live)

    pub joined_apart : (s : Symbol) → C s → IsTrue (old x).is_capped → IsTrue (old y).is_capped → IsApart s p x (IsAtEnd new)
    joined_apart s c one other e at there = ⊎_elim
        (λ is. is.1.0 one)
        (λ or. ⊎_elim
        (λ is. is.1.0 other)
        (λ is.
        let own = live_before x at.end at.live is.0 in
        ⊎_elim
        (λ is_x. ⊎_elim is.0.not_this is.0.not_other ((are.each x link.first_end).alone at.end own (ap are.label at.at ∙ is_x)))
        (λ is_y. ⊎_elim is.1.not_this is.1.not_other ((are.each y link.second_end).alone at.end own (ap are.label at.at ∙ is_y)))
        (both_labels q C n p full old new total x y are link.first_end link.second_end link.apart link.no_other link.side link.leads one other s c e there))
        or)
        (each at.end at.live)
