-- The ends of paths after some were written.
use Rattle.std.proofs.Common.{◌≡◌, ℕ, ◌+◌, ◌*◌, ◌%◌, ◌<◌, ◌≤◌, Bool, List, Some, length, set, slice_get, sym, ap, subst, arith}
use Rattle.dd_model.specs.Symbol.{Symbol}
use Rattle.dd_model.specs.Wanted.{Wanted}
use Rattle.dd_branch_bounds.specs.Census.{HasCell, HasFixedEnd, HasJoined}
use Rattle.dd_branch_bounds.specs.Classes.{joined_class, IsClosedShare, IsCappedShare, IsJoinedShare}
use Rattle.dd_branch_bounds.specs.Counted.{AreCounted, HaveOthers}
use Rattle.dd_branch_bounds.specs.Passing.{Passes, AreEndsOf}
use Rattle.dd_branch_bounds.specs.PathEnd.{PathEnd}
use Rattle.dd_branch_bounds.specs.Sides.{IsJoin, end_of, path_end, class_weight}
use Rattle.dd_branch_bounds.specs.declared.census.Census.{Census}
use Rattle.dd_branch_bounds.specs.declared.class_shares.ClassShares.{ClassShares}
use Rattle.dd_branch_bounds.specs.declared.end.End.{End}
use Rattle.dd_branch_bounds.proofs.CountedEnds.{closed_others, fixed_others, joined_others}
use Rattle.dd_branch_bounds.proofs.CountedSides.{capped_counted, closed_counted, joined_paths_counted}
use Rattle.dd_branch_bounds.proofs.PassingTables.{passing_tables}
use Rattle.dd_branch_bounds.proofs.PutLemmas.{put, closed_put, connected}
use Rattle.dd_branch_bounds.proofs.SideLemmas.{IsAnEnd, AreTwoEnds, end_live, end_other, ends_link, are_fixed, are_joined, ends_capped, ends_connected, ends_closed}
use Rattle.dd_branch_bounds.proofs.WriteLemmas.{view, two_written, four_written, kept_two, kept_four}

-- an end in a list
pub listed_end : (t : ClassShares) (xs : List End) (x : ℕ) (e : End) → slice_get xs x ≡ Some e → 1 ≤ e.class.number % 64 → IsAnEnd t (view t xs) x e.other e.class.number
listed_end t xs x e listed some = record { told = ap (end_of t) listed; low = e.class.small; some = some }

pub live_end : (t : ClassShares) (xs : List End) (x : ℕ) (e : End) → slice_get xs x ≡ Some e → 1 ≤ (view t xs x).chambers → IsAnEnd t (view t xs) x e.other e.class.number
live_end t xs x e listed live = listed_end t xs x e listed (subst (λ (e : PathEnd). 1 ≤ e.chambers) (ap (end_of t) listed) live)

-- the ends of two paths in a list, one of which has chambers at each
pub two_ends : (t : ClassShares) (xs : List End) (x y : ℕ) (one other : End) {n m : ℕ} → slice_get xs x ≡ Some one → slice_get xs y ≡ Some other
    → n ≡ one.class.number % 64 → m ≡ other.class.number % 64 → (n ≡ 0 → ⊥) → (m ≡ 0 → ⊥) → (x ≡ y → ⊥) → (one.other ≡ y → ⊥)
    → AreTwoEnds t (view t xs) x one.other one.class.number y other.other other.class.number
two_ends t xs x y one other first second count too some any apart no_other = record {
  one = listed_end t xs x one first (omega (arith, count, some));
  other = listed_end t xs y other second (omega (arith, too, any));
  apart = λ same. apart (sym same);
  no_other = λ same. no_other (sym same);
}

-- What stands at the other end of a path that goes on: nothing where an involution fixes that end, too.
pub record IsBeyond (one : End) (further kind : ℕ) (e : End) : Type 0 where
  pub fixed : 64 ≤ one.class.number → e.class.number ≡ 0
  pub other : one.class.number < 64 → e.other ≡ further
  pub class : one.class.number < 64 → e.class.number ≡ kind

module _ (t : ClassShares) (P : Symbol) (test : Symbol → Bool) (xs : List End) (total more : ℕ)
    (are : AreEndsOf t.request P test t.pair (view t xs) total) (long : length xs ≡ 74) (x : ℕ) (one : End) (flag : x < 74) where
  pub capped_kept : IsAnEnd t (view t xs) x one.other one.class.number → one.class.number % 64 ≤ 36 → (v i j : ℕ) (n d : End) → i ≡ x → j ≡ one.other → n.class.number ≡ 0
      → IsBeyond one x (64 + one.class.number % 64) d → IsJoin (Passes P test) t.pair x x → IsCappedShare t.request t.pair t.weights one.class.number v
      → more + class_weight t one.class.number ≡ total + one.class.number % 64 * v → AreEndsOf t.request P test t.pair (view t (set (set xs i n) j d)) more
  capped_kept end few v i j n d first second none beyond join share sum =
      kept_two t t.request P test t.pair xs more long x one.other i j n d flag one.other_inside first second
      (ends_capped t P test (view t xs) total more are end join v share few (end_of t (Some n)) (end_of t (Some d)) (ap (λ k. k % 64) none)
      (λ high. ap (λ k. k % 64) (beyond.fixed high)) (λ low i. path_end t (beyond.other low i) (beyond.class low i)) sum)

  pub closed_kept : IsAnEnd t (view t xs) x one.other one.class.number → one.class.number % 64 ≤ 36 → (y v i j : ℕ) (n d : End) → one.other ≡ y → (y ≡ x → ⊥) → i ≡ x → j ≡ one.other
      → n.class.number ≡ 0 → d.class.number ≡ 0 → IsJoin (Passes P test) t.pair x y → IsClosedShare t.request t.pair one.class.number v
      → more + class_weight t one.class.number ≡ total + one.class.number % 64 * v → AreEndsOf t.request P test t.pair (view t (set (set xs i n) j d)) more
  closed_kept end few y v i j n d other apart first second none also join share sum =
      kept_two t t.request P test t.pair xs more long x one.other i j n d flag one.other_inside first second
      (ends_closed t P test (view t xs) total more are end y join other apart v share few (end_of t (Some n)) (end_of t (Some d)) (ap (λ k. k % 64) none) (ap (λ k. k % 64) also) sum)

  pub connected_kept : (y : ℕ) (other : End) → AreTwoEnds t (view t xs) x one.other one.class.number y other.other other.class.number → t.size ≡ P.size → y < 74
      → one.class.number % 64 + other.class.number % 64 ≤ 36 → (v a b i j : ℕ) (n o e d : End) → a ≡ x → b ≡ y → i ≡ one.other → j ≡ other.other → n.class.number ≡ 0 → o.class.number ≡ 0
      → IsBeyond one other.other (joined_class one.class.number other.class.number) e → IsBeyond other one.other (joined_class one.class.number other.class.number) d
      → IsJoin (Passes P test) t.pair x y → IsJoinedShare t.request t.pair t.weights one.class.number other.class.number v
      → more + (class_weight t one.class.number + class_weight t other.class.number) ≡ total + (one.class.number % 64 + other.class.number % 64) * v
      → AreEndsOf t.request P test t.pair (view t (set (set (set (set xs a n) b o) i e) j d)) more
  connected_kept y other two sized y_flag few v a b i j n o e d first second third fourth none nor ahead back join share sum =
      kept_four t t.request P test t.pair xs more long x y one.other other.other a b i j n o e d flag y_flag one.other_inside other.other_inside first second third fourth
      (ends_connected t P test (view t xs) total more are two sized few join v share (end_of t (Some n)) (end_of t (Some o)) (end_of t (Some e)) (end_of t (Some d))
      (ap (λ k. k % 64) none) (ap (λ k. k % 64) nor)
      (λ high. ap (λ k. k % 64) (ahead.fixed high)) (λ low i. path_end t (ahead.other low i) (ahead.class low i))
      (λ high. ap (λ k. k % 64) (back.fixed high)) (λ low i. path_end t (back.other low i) (back.class low i)) sum)

-- ## What is counted

-- no end is the other end of its path, and what is counted holds of the ends that are left
pub record IsRest (t : ClassShares) (P : Symbol) (test : Symbol → Bool) (old new : ℕ → PathEnd) (first after : Census) : Type 0 where
  pub others : HaveOthers new
  pub counted : (s : Symbol) → Wanted t.request s → Passes P test s → AreCounted s t.pair old first → AreCounted s t.pair new after

module _ (t : ClassShares) (P : Symbol) (test : Symbol → Bool) (xs : List End) (total : ℕ)
    (are : AreEndsOf t.request P test t.pair (view t xs) total) (others : HaveOthers (view t xs)) (long : length xs ≡ 74) (x : ℕ) (one : End) (flag : x < 74)
    (first after : Census) (v own : ℕ) where
  pub capped_rest : IsAnEnd t (view t xs) x one.other one.class.number → one.class.number % 64 ≤ 36 → (i j : ℕ) (n d : End) → i ≡ x → j ≡ one.other → n.class.number ≡ 0
      → IsBeyond one x (64 + one.class.number % 64) d → IsJoin (Passes P test) t.pair x x → IsCappedShare t.request t.pair t.weights one.class.number v
      → own ≡ one.class.number % 64 * v → HasFixedEnd first one.class.number own after → IsRest t P test (view t xs) (view t (set (set xs i n) j d)) first after
  capped_rest end few i j n d first_place second_place none beyond join share all more =
      let new = put (put (view t xs) x (end_of t (Some n))) one.other (end_of t (Some d)) in
      let empty : (end_of t (Some n)).chambers ≡ 0 = ap (λ k. k % 64) none in
      let gone : 64 ≤ one.class.number → (end_of t (Some d)).chambers ≡ 0 = λ high. ap (λ k. k % 64) (beyond.fixed high) in
      let each = are_fixed t P test (view t xs) total total are end join v share (end_of t (Some n)) (end_of t (Some d)) empty gone
      (λ low i. path_end t (beyond.other low i) (beyond.class low i)) in
      subst (λ f. IsRest t P test (view t xs) f first after) (sym (two_written t xs long x one.other i j n d flag one.other_inside first_place second_place))
      (record {
        others = fixed_others t.request (Passes P test) P.size t.pair (passing_tables P test) (view t xs) new total are x v (end_live t (view t xs) end) others each;
        counted = λ s wanted is told.
            capped_counted t P test (view t xs) total are end join few v own share all s wanted is first told after more (end_of t (Some n)) (end_of t (Some d)) others empty gone each;
      })

  pub closed_rest : IsAnEnd t (view t xs) x one.other one.class.number → one.class.number % 64 ≤ 36 → (y i j : ℕ) (n d : End) → one.other ≡ y → (y ≡ x → ⊥) → i ≡ x → j ≡ one.other
      → n.class.number ≡ 0 → d.class.number ≡ 0 → IsJoin (Passes P test) t.pair x y → IsClosedShare t.request t.pair one.class.number v
      → own ≡ one.class.number % 64 * v → HasCell first one.class.number own after → IsRest t P test (view t xs) (view t (set (set xs i n) j d)) first after
  closed_rest end few y i j n d other apart first_place second_place none also join share all more =
      let new = put (put (view t xs) x (end_of t (Some n))) one.other (end_of t (Some d)) in
      let each = closed_put (view t xs) x one.other (end_of t (Some n)) (end_of t (Some d)) (end_other t (view t xs) end) (ap (λ k. k % 64) none) (ap (λ k. k % 64) also) in
      subst (λ f. IsRest t P test (view t xs) f first after) (sym (two_written t xs long x one.other i j n d flag one.other_inside first_place second_place))
      (record {
        others = closed_others t.request (Passes P test) P.size t.pair (passing_tables P test) (view t xs) new total are x each others;
        counted = λ s wanted is told.
            closed_counted t P test (view t xs) total are end few y join other apart v own share all s wanted is first told after more new each;
      })

  pub connected_rest : (y : ℕ) (other : End) → AreTwoEnds t (view t xs) x one.other one.class.number y other.other other.class.number → t.size ≡ P.size → y < 74
      → one.class.number % 64 + other.class.number % 64 ≤ 36 → (a b i j : ℕ) (n o e d : End) → a ≡ x → b ≡ y → i ≡ one.other → j ≡ other.other → n.class.number ≡ 0 → o.class.number ≡ 0
      → IsBeyond one other.other (joined_class one.class.number other.class.number) e → IsBeyond other one.other (joined_class one.class.number other.class.number) d
      → IsJoin (Passes P test) t.pair x y → IsJoinedShare t.request t.pair t.weights one.class.number other.class.number v
      → own ≡ (one.class.number % 64 + other.class.number % 64) * v → HasJoined first one.class.number other.class.number own after
      → IsRest t P test (view t xs) (view t (set (set (set (set xs a n) b o) i e) j d)) first after
  connected_rest y other two sized y_flag few a b i j n o e d first_place second_place third_place fourth_place none nor ahead back join share all more =
      let new = connected (view t xs) x y one.other other.other (end_of t (Some n)) (end_of t (Some o)) (end_of t (Some e)) (end_of t (Some d)) in
      let each = are_joined t P test (view t xs) total total are two sized few join v share (end_of t (Some n)) (end_of t (Some o)) (end_of t (Some e)) (end_of t (Some d))
      (ap (λ k. k % 64) none) (ap (λ k. k % 64) nor)
      (λ high. ap (λ k. k % 64) (ahead.fixed high)) (λ low i. path_end t (ahead.other low i) (ahead.class low i))
      (λ high. ap (λ k. k % 64) (back.fixed high)) (λ low i. path_end t (back.other low i) (back.class low i)) in
      let link = ends_link t P test (view t xs) total total are two sized few join v share in
      subst (λ f. IsRest t P test (view t xs) f first after)
      (sym (four_written t xs long x y one.other other.other a b i j n o e d flag y_flag one.other_inside other.other_inside first_place second_place third_place fourth_place))
      (record {
        others = joined_others t.request (Passes P test) P.size t.pair (passing_tables P test) (view t xs) new total are x y v link others each;
        counted = λ s wanted is told.
            joined_paths_counted t P test (view t xs) total are two sized few join v own share all s wanted is first told after more new others each;
      })
