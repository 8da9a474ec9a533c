-- What a census tells of the tables with an image more, and of the ends that are left.
use Rattle.std.proofs.Common.{◌≡◌, ℕ, ◌+◌, ◌*◌, ◌%◌, ◌≤◌, Bool, refl, sym, ap, ◌∙◌, inl, inr, ⊎_elim, arith}
use Rattle.std.proofs.lemmas.Bool.{cases_lt}
use Rattle.dd_model.specs.Symbol.{Symbol}
use Rattle.dd_model.specs.Wanted.{Wanted}
use Rattle.dd_branch_bounds.specs.Census.{HasCell, HasFixedEnd, HasJoined}
use Rattle.dd_branch_bounds.specs.Changes.{IsLink, AreFixed, AreClosed, AreJoined}
use Rattle.dd_branch_bounds.specs.Classes.{IsClosedShare, IsCappedShare, IsJoinedShare}
use Rattle.dd_branch_bounds.specs.Counted.{AreCounted, HasCounted, HaveOthers, IsAtEnd, IsCounted, IsLoose}
use Rattle.dd_branch_bounds.specs.Passing.{Passes, AreEndsOf}
use Rattle.dd_branch_bounds.specs.PathEnd.{PathEnd}
use Rattle.dd_branch_bounds.specs.Sides.{IsJoin}
use Rattle.dd_branch_bounds.specs.declared.census.Census.{Census}
use Rattle.dd_branch_bounds.specs.declared.class_shares.ClassShares.{ClassShares}
use Rattle.dd_branch_bounds.proofs.ClosingLemmas.{DoMeet}
use Rattle.dd_branch_bounds.proofs.CountedEnds.{closed_change, closed_apart, fixed_change, joined_near, joined_fewer, joined_apart}
use Rattle.dd_branch_bounds.proofs.CountedLemmas.{IsNear}
use Rattle.dd_branch_bounds.proofs.CountedPaths.{IsApart, IsChange, none_left, met_counted, end_counted, joined_counted}
use Rattle.dd_branch_bounds.proofs.PassingTables.{passing_tables}
use Rattle.dd_branch_bounds.proofs.PutLemmas.{put, closed_put}
use Rattle.dd_branch_bounds.proofs.SideLemmas.{IsAnEnd, AreTwoEnds, end_live, end_chambers, end_other, end_capped, joined_both, joined_together, ends_link, end_fixed, right_capped, right_closed, right_connected}

module _ (t : ClassShares) (P : Symbol) (test : Symbol → Bool) (old : ℕ → PathEnd) (total : ℕ)
    (are : AreEndsOf t.request P test t.pair old total) where
  -- ## An involution fixes the end of a path

  module _ {x m a : ℕ} (end : IsAnEnd t old x m a) (join : IsJoin (Passes P test) t.pair x x) (few : a % 64 ≤ 36) where
    meets : 64 ≤ a → DoMeet (Passes P test) t.pair old x x
    meets high = record { is_end = end_live t old end; side = λ _ _. refl; leads = join.leads; which = inl (refl, (end_capped t old end).1 high) }

    module _ (v own : ℕ) (share : IsCappedShare t.request t.pair t.weights a v) (all : own ≡ a % 64 * v) (s : Symbol) (wanted : Wanted t.request s) (is : Passes P test s)
        (first : Census) (told : AreCounted s t.pair old first) (after : Census) (more : HasFixedEnd first a own after) where
      fixed_census : (R K : ℕ → Type 0) → IsChange s t.pair old x R K → (64 ≤ a → IsApart s t.pair x R) → IsCounted s t.pair R K after
      fixed_census R K change apart =
          end_counted t.request (Passes P test) P.size t.pair (passing_tables P test) old total are s is wanted R K first told
          x a v own (end_fixed t P test old total total are end join v share) (sym (end_chambers t old end)) all (right_capped t P test old total total are end join v share few s wanted is) (end_capped t old end) change apart after more

      pub capped_census : HasCounted s t.pair after
      capped_census = fixed_census (λ _. ⊥) (λ _. ⊥) (none_left s t.pair old x) (λ _ e no. absurd no)

      pub capped_counted : (n e : PathEnd) → HaveOthers old → n.chambers ≡ 0 → (64 ≤ a → e.chambers ≡ 0) → AreFixed old (put (put old x n) m e) x v
          → AreCounted s t.pair (put (put old x n) m e) after
      capped_counted n e others none gone each =
          let new = put (put old x n) m e in
          let closed : 64 ≤ a → AreClosed old new x = λ high. closed_put old x m n e (end_other t old end) none (gone high) in
          fixed_census (IsAtEnd new) (IsLoose new)
          (⊎_elim
          (λ low. fixed_change t.request (Passes P test) P.size t.pair (passing_tables P test) old new total are x v (end_live t old end) others each s is
          (λ yes. let high = (end_capped t old end).0 yes in absurd (omega (arith, low, high))))
          (λ high. closed_change t.request (Passes P test) P.size t.pair (passing_tables P test) old new total are s x (end_live t old end) (closed high))
          (cases_lt a 64))
          (λ high. closed_apart t.request (Passes P test) P.size t.pair (passing_tables P test) old new total are s is x x (meets high) (closed high))

  -- ## The ends of a path meet

  module _ {x m a : ℕ} (end : IsAnEnd t old x m a) (few : a % 64 ≤ 36) (y : ℕ) (join : IsJoin (Passes P test) t.pair x y) (other : m ≡ y) (apart : y ≡ x → ⊥) where
    meet : DoMeet (Passes P test) t.pair old x y
    meet = record { is_end = end_live t old end; side = join.side; leads = join.leads; which = inr (apart, sym other ∙ end_other t old end) }

    module _ (v own : ℕ) (share : IsClosedShare t.request t.pair a v) (all : own ≡ a % 64 * v) (s : Symbol) (wanted : Wanted t.request s) (is : Passes P test s)
        (first : Census) (told : AreCounted s t.pair old first) (after : Census) (more : HasCell first a own after) where
      met_census : (R K : ℕ → Type 0) → IsChange s t.pair old x R K → IsApart s t.pair x R → IsCounted s t.pair R K after
      met_census R K change away =
          met_counted t.request (Passes P test) P.size t.pair (passing_tables P test) old total are s is wanted R K first told
          x y meet a v own (sym (end_chambers t old end)) all (right_closed t P test old total total are end y join other apart v share few s wanted is) (end_capped t old end)
          (IsLoose old) first told change.near (λ z holds. (change.fewer z holds).0) away after more

      pub closed_census : HasCounted s t.pair after
      closed_census = met_census (λ _. ⊥) (λ _. ⊥) (none_left s t.pair old x) (λ e no. absurd no)

      pub closed_counted : (new : ℕ → PathEnd) → AreClosed old new x → AreCounted s t.pair new after
      closed_counted new each =
          met_census (IsAtEnd new) (IsLoose new)
          (closed_change t.request (Passes P test) P.size t.pair (passing_tables P test) old new total are s x (end_live t old end) each)
          (closed_apart t.request (Passes P test) P.size t.pair (passing_tables P test) old new total are s is x y meet each)

  -- ## An involution joins the ends of two paths

  module _ {x m a y l b : ℕ} (two : AreTwoEnds t old x m a y l b) (sized : t.size ≡ P.size) (few : a % 64 + b % 64 ≤ 36) (join : IsJoin (Passes P test) t.pair x y) where
    module _ (v own : ℕ) (share : IsJoinedShare t.request t.pair t.weights a b v) (all : own ≡ (a % 64 + b % 64) * v) (s : Symbol) (wanted : Wanted t.request s) (is : Passes P test s)
        (first : Census) (told : AreCounted s t.pair old first) (after : Census) (more : HasJoined first a b own after) where
      link : IsLink (Passes P test) t.pair old x y
      link = ends_link t P test old total total are two sized few join v share

      paths_census : (R K : ℕ → Type 0) → ((e : ℕ) → R e → IsNear s t.pair (IsAtEnd old) e) → ((z : ℕ) → K z → IsLoose old z) → (64 ≤ a → 64 ≤ b → IsApart s t.pair x R)
          → IsCounted s t.pair R K after
      paths_census R K near fewer away =
          let both = joined_both t P test old total total are two sized few join v share in
          joined_counted t.request (Passes P test) P.size t.pair (passing_tables P test) old total are s is wanted R K first told
          x y a b v own link (joined_together t P test old total total are two sized few join v share) (all ∙ ap (λ k. k * v) (sym both.chambers)) (λ high _. both.stays (inl high))
          (right_connected t P test old total total are two sized few join v share s wanted is)
          (λ high. (end_capped t old two.one).1 high) (λ high. (end_capped t old two.other).1 high) near fewer away after more

      pub joined_census : HasCounted s t.pair after
      joined_census = paths_census (λ _. ⊥) (λ _. ⊥) (λ e no. absurd no) (λ z no. absurd no) (λ _ _ e no. absurd no)

      pub joined_paths_counted : (new : ℕ → PathEnd) → HaveOthers old → AreJoined old new x y v → AreCounted s t.pair new after
      joined_paths_counted new others each =
          paths_census (IsAtEnd new) (IsLoose new)
          (joined_near t.request (Passes P test) P.size t.pair (passing_tables P test) old new total are x y v link others each s is)
          (joined_fewer t.request (Passes P test) P.size t.pair (passing_tables P test) old new total are x y v link others each)
          (λ high above. joined_apart t.request (Passes P test) P.size t.pair (passing_tables P test) old new total are x y v link others each s is
          ((end_capped t old two.one).1 high) ((end_capped t old two.other).1 above))
