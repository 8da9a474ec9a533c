-- The way of the program round a boundary, and from boundary to boundary.
use Rattle.std.proofs.Common.{◌≡◌, ◌≢◌, ℕ, ◌+◌, ◌*◌, ◌<◌, ◌≤◌, ◌⊎◌, ◌↔◌, Bool, true, false, List, [], ◌∷◌, ◌++◌, length, map, get_or, refl, sym, ap, ◌∙◌, subst, inl, inr, ⊎_elim, arith}
use Rattle.std.proofs.Math.ListN.{set}
use Rattle.std.specs.List.{Contains, flat_map}
use Rattle.std.specs.List.Sorted.{IsStrictlyIncreasing}
use Rattle.std.proofs.lemmas.Bool.{cases_eq, cases_lt}
use Rattle.std.proofs.lemmas.List.{get_or-set_same, get_or-set_other, length-set, map-append}
use Rattle.std.proofs.lemmas.List.Elements.{Contains-append_left, Contains-append_right, Contains-append_cases, Contains-push, Contains-push_cases}
use Rattle.dd_model.specs.declared.index.Index.{Index}
use Rattle.dd_model.specs.declared.index.Index.TheVariants.{Zero, One, Two}
use Rattle.dd_model.specs.declared.pair.Pair.{Pair}
use Rattle.dd_model.specs.Symbol.{Symbol, AreInvolutions, IsChamber}
use Rattle.dd_model.proofs.CellLists.{increasing-push}
use Rattle.dd_model.proofs.Lists.{Contains-head, Contains-later, Contains-cases, Contains-none, cons_head, cons_tail}
use Rattle.dd_name.specs.declared.flags.Flag.{Flag}
use Rattle.dd_name.specs.declared.joints.Joint.{Joint}
use Rattle.dd_name.specs.Flags.{IsFlag, IsOfPair, place_of}
use Rattle.dd_name.specs.Rounds.{IsJoined, IsJoint, IsLinked, AreLinked, AreDistinct, flags, first_pair, IsRoundFrom, IsRound, start_place, AreRounds}
use Rattle.dd_name.specs.Marks.{IsMarked, AreMarks, IsNewRound, AreTold}
use Rattle.dd_name.proofs.ChainLemmas.{other_end_unique, joined-sym}
use Rattle.dd_name.proofs.ListLemmas.{distinct-push, distinct-append, flat_map-push, all-push}
use Rattle.dd_name.proofs.RoundLemmas.{pair_cases, two_pairs, place_apart, same_joint}
use Rattle.dd_model.proofs.AllIndices.{index_low}

-- ## Marks

pub marked-set : (marks : List Bool) (x f : Flag) → place_of x < length marks → IsMarked (set marks (place_of x) true) f ↔ (IsMarked marks f ⊎ (x ≡ f))
marked-set marks x f within = (
  λ m.
      ⊎_elim
      (λ here. inr (place_apart x f (sym here)))
      (λ other. inl (sym (get_or-set_other marks (place_of x) (place_of f) true false other) ∙ m))
      (cases_eq (place_of f) (place_of x)),
  λ either.
      ⊎_elim
      (λ old.
      ⊎_elim
      (λ here. ap (λ k. get_or (set marks (place_of x) true) k false) here ∙ get_or-set_same marks (place_of x) true false within)
      (λ other. get_or-set_other marks (place_of x) (place_of f) true false other ∙ old)
      (cases_eq (place_of f) (place_of x)))
      (λ same. ap (λ (g : Flag). get_or (set marks (place_of x) true) (place_of g) false) (sym same) ∙ get_or-set_same marks (place_of x) true false within)
      either,
)

-- the place of a flag of a chamber is among the marks
pub place_within : (s : Symbol) (f : Flag) → IsChamber s f.chamber → place_of f < 3 * s.size + 3
place_within s f h = let low = index_low f.index in let high = h.1 in omega arith

-- ## Linked joints

pub linked-push : (s : Symbol) (a : Joint) (rest front : List Joint) (x y : Joint) → front ++ x ∷ [] ≡ a ∷ rest → AreLinked s a rest → IsLinked s x y → AreLinked s a (rest ++ y ∷ [])
linked-push s a [] [] x y e linked link = let same : x ≡ a = (cc) in (subst (λ (j : Joint). IsLinked s j y) same link, tt)
linked-push s a (r ∷ rest) [] x y e linked link = absurd (let w = ap length e in omega (arith, w))
linked-push s a [] (b ∷ front) x y e linked link = absurd (none front x (cons_tail _ _ _ _ e)) where
  none : {A : Type 0} (xs : List A) (y : A) → xs ++ y ∷ [] ≡ [] → ⊥
  none [] y h = (cc)
  none (z ∷ zs) y h = (cc)
linked-push s a (r ∷ rest) (b ∷ front) x y e linked link =
    let later : front ++ x ∷ [] ≡ r ∷ rest = (cc) in (linked.0, linked-push s r rest front x y later linked.1 link)

-- ## Round one boundary

-- The way from the flag `start` by some joints to `current`. Where the chains at a marked flag lead: to a marked
-- flag, but for the way back from the start and the way on to the current flag.
pub record IsTour (s : Symbol) (start : Flag) (old marks : List Bool) (joints : List Joint) (current : Joint) : Type 0 where
  pub first : Joint
  pub rest : List Joint
  pub begins : joints ++ current ∷ [] ≡ first ∷ rest
  pub flag : first.flag ≡ start
  pub by : first.by ≡ first_pair start.index
  pub first_joint : IsJoint s first
  pub linked : AreLinked s first rest
  pub joint : IsJoint s current
  pub room : length marks ≡ 3 * s.size + 3
  pub distinct : AreDistinct (flags joints)
  pub unmarked : (f : Flag) → Contains (flags joints) f → IsMarked old f → ⊥
  pub marked : (f : Flag) → IsMarked marks f ↔ (IsMarked old f ⊎ Contains (flags joints) f)
  pub near : (p : Pair) (f g : Flag) → IsJoined s p f g → IsMarked marks f
      → IsMarked marks g ⊎ ((f ≡ first.flag) × (p ≢ first.by)) ⊎ ((g ≡ current.flag) × (p ≢ current.by))
  pub back : (p : Pair) (g : Flag) → p ≢ current.by → IsJoined s p current.flag g → IsMarked marks g ⊎ (joints ≡ [])
  pub returned : IsMarked marks current.flag → current ≡ first

pub tour_starts : (s : Symbol) (start : Flag) (old : List Bool) (first : Joint) → AreMarks s old → (IsMarked old start → ⊥) → IsJoint s first
    → first.flag ≡ start → first.by ≡ first_pair start.index → IsTour s start old old [] first
tour_starts s start old first marks fresh joint flag by = record {
  first = first;
  rest = [];
  begins = refl;
  flag = flag;
  by = by;
  first_joint = joint;
  linked = tt;
  joint = joint;
  room = marks.room;
  distinct = tt;
  unmarked = λ f none. absurd (Contains-none f none);
  marked = λ f. (λ m. inl m, λ either. ⊎_elim (λ m. m) (λ none. absurd (Contains-none f none)) either);
  near = λ p f g joined m. inl (marks.closed p f g joined m);
  back = λ p g other joined. inr refl;
  returned = λ m. absurd (fresh (subst (IsMarked old) flag m));
}

-- the only joint without joints before it is the first
first_of_none : (joints rest : List Joint) (current first : Joint) → joints ++ current ∷ [] ≡ first ∷ rest → joints ≡ [] → current ≡ first
first_of_none [] rest current first e none = (cc)
first_of_none (j ∷ joints) rest current first e none = absurd (let w = ap length none in omega (arith, w))

flags-push : (joints : List Joint) (x : Joint) → flags (joints ++ x ∷ []) ≡ flags joints ++ x.flag ∷ []
flags-push joints x = map-append (λ (j : Joint). j.flag) joints (x ∷ [])

-- the other pair of the next joint leads back
leads_back : (s : Symbol) → AreInvolutions s → (x y : Joint) → IsLinked s x y → IsJoint s y → (p : Pair) (g : Flag) → p ≢ y.by → IsJoined s p y.flag g → g ≡ x.flag
leads_back s inv x y link joint p g other joined =
    let by : p ≡ x.by = two_pairs y.flag.index p y.by x.by joined.start.letter joint.end.letter link.joined.end.letter other link.other in
    other_end_unique s inv x.by y.flag g x.flag
    (subst (λ (q : Pair). IsJoined s q y.flag g) by joined)
    (joined-sym s inv x.by x.flag y.flag link.joined)

-- a next flag that is marked is that of the first joint
comes_round : (s : Symbol) → AreInvolutions s → (start : Flag) (old marks : List Bool) (joints : List Joint) (x y : Joint) → (w : IsTour s start old marks joints x)
    → (IsMarked marks x.flag → ⊥) → IsLinked s x y → IsJoint s y → IsMarked marks y.flag → y ≡ w.first
comes_round s inv start old marks joints x y w fresh link joint m =
    let a = w.first in
    ⊎_elim
    (λ again. absurd (fresh again))
    (λ either. ⊎_elim
    (λ round.
    let by : y.by ≡ a.by =
    two_pairs y.flag.index y.by x.by a.by joint.end.letter link.joined.end.letter
    (subst (λ (f : Flag). IsOfPair a.by f.index) (sym round.0) w.first_joint.end.letter)
    (λ e. link.other (sym e)) (λ e. round.1 (sym e)) in
    same_joint s y a joint w.first_joint round.0 by)
    (λ never. absurd (never.1 refl))
    either)
    (w.near x.by y.flag x.flag (joined-sym s inv x.by x.flag y.flag link.joined) m)

pub tour_goes_on : (s : Symbol) → AreInvolutions s → (start : Flag) (old marks : List Bool) (joints : List Joint) (x y : Joint) → IsTour s start old marks joints x
    → (IsMarked marks x.flag → ⊥) → IsLinked s x y → IsJoint s y → IsTour s start old (set marks (place_of x.flag) true) (joints ++ x ∷ []) y
tour_goes_on s inv start old marks joints x y w fresh link joint =
    let a = w.first in
    let within : place_of x.flag < length marks = let low = place_within s x.flag w.joint.end.flag.chamber in let e = w.room in omega arith in
    let new = set marks (place_of x.flag) true in
    let here : IsMarked new x.flag = (marked-set marks x.flag x.flag within).1 (inr refl) in
    let kept : (f : Flag) → IsMarked marks f → IsMarked new f = λ f m. (marked-set marks x.flag f within).1 (inl m) in
    let cases : (f : Flag) → Contains (flags (joints ++ x ∷ [])) f → Contains (flags joints) f ⊎ (x.flag ≡ f) =
    λ f on. Contains-push_cases (flags joints) x.flag f (subst (λ fs. Contains fs f) (flags-push joints x) on) in
    record {
      first = a;
      rest = w.rest ++ y ∷ [];
      begins = ap (λ js. js ++ y ∷ []) w.begins;
      flag = w.flag;
      by = w.by;
      first_joint = w.first_joint;
      linked = linked-push s a w.rest joints x y w.begins w.linked link;
      joint = joint;
      room = length-set marks (place_of x.flag) true ∙ w.room;
      distinct = subst AreDistinct (sym (flags-push joints x))
          (distinct-push (flags joints) x.flag w.distinct (λ on. fresh ((w.marked x.flag).1 (inr on))));
      unmarked = λ f on m.
          ⊎_elim
          (λ before. w.unmarked f before m)
          (λ now. fresh ((w.marked x.flag).1 (inl (subst (IsMarked old) (sym now) m))))
          (cases f on);
      marked = λ f. (
        λ m.
            ⊎_elim
            (λ before.
            ⊎_elim
            (λ o. inl o)
            (λ on. inr (subst (λ fs. Contains fs f) (sym (flags-push joints x)) (Contains-append_left (flags joints) (x.flag ∷ []) f on)))
            ((w.marked f).0 before))
            (λ now. inr (subst (λ fs. Contains fs f) (sym (flags-push joints x)) (subst (Contains (flags joints ++ x.flag ∷ [])) now (Contains-push (flags joints) x.flag))))
            ((marked-set marks x.flag f within).0 m),
        λ either.
            ⊎_elim
            (λ o. kept f ((w.marked f).1 (inl o)))
            (λ on. ⊎_elim (λ before. kept f ((w.marked f).1 (inr before))) (λ now. subst (IsMarked new) now here) (cases f on))
            either,
      );
      near = λ p f g joined m.
          ⊎_elim
          (λ before.
          ⊎_elim
          (λ m. inl (kept g m))
          (λ either. ⊎_elim
          (λ start_back. inr (inl start_back))
          (λ now. inl (subst (IsMarked new) (sym now.0) here))
          either)
          (w.near p f g joined before))
          (λ now.
          let at_x : IsJoined s p x.flag g = subst (λ (h : Flag). IsJoined s p h g) (sym now) joined in
          ⊎_elim
          (λ on.
          inr (inr (
            other_end_unique s inv x.by x.flag g y.flag (subst (λ (q : Pair). IsJoined s q x.flag g) on at_x) link.joined,
            λ e. link.other (sym on ∙ e),
          )))
          (λ other.
          ⊎_elim
          (λ m. inl (kept g m))
          (λ none.
          let same = first_of_none joints w.rest x a w.begins none in
          inr (inl (sym now ∙ ap (λ (j : Joint). j.flag) same, λ e. other (e ∙ sym (ap (λ (j : Joint). j.by) same)))))
          (w.back p g other at_x))
          (pair_cases p x.by))
          ((marked-set marks x.flag f within).0 m);
      back = λ p g other joined. inl (subst (IsMarked new) (sym (leads_back s inv x y link joint p g other joined)) here);
      returned = λ m.
          ⊎_elim
          (λ before. comes_round s inv start old marks joints x y w fresh link joint before)
          (λ never. absurd (link.joined.two never))
          ((marked-set marks x.flag y.flag within).0 m);
    }

-- some joints lie on the way
tour_is_long : (s : Symbol) (start : Flag) (old marks : List Bool) (joints : List Joint) (current : Joint) → (w : IsTour s start old marks joints current)
    → (IsMarked old start → ⊥) → IsMarked marks current.flag → joints ≡ [] → ⊥
tour_is_long s start old marks joints current w fresh m none =
    let same = first_of_none joints w.rest current w.first w.begins none in
    let at_start : current.flag ≡ start = ap (λ (j : Joint). j.flag) same ∙ w.flag in
    ⊎_elim
    (λ o. fresh (subst (IsMarked old) at_start o))
    (λ on. Contains-none current.flag (subst (λ js. Contains (flags js) current.flag) none on))
    ((w.marked current.flag).0 m)

pub tour_closes : (s : Symbol) (start : Flag) (old marks : List Bool) (joints : List Joint) (current : Joint) → IsTour s start old marks joints current
    → (IsMarked old start → ⊥) → IsMarked marks current.flag → AreMarks s marks
tour_closes s start old marks joints current w fresh m =
    let same = w.returned m in
    record {
      room = w.room;
      closed = λ p f g joined before.
          ⊎_elim
          (λ inside. inside)
          (λ either. ⊎_elim
          (λ start_back.
          let at : IsJoined s p current.flag g = subst (λ (h : Flag). IsJoined s p h g) (start_back.0 ∙ sym (ap (λ (j : Joint). j.flag) same)) joined in
          ⊎_elim
          (λ inside. inside)
          (λ none. absurd (tour_is_long s start old marks joints current w fresh m none))
          (w.back p g (λ e. start_back.1 (e ∙ ap (λ (j : Joint). j.by) same)) at))
          (λ now. subst (IsMarked marks) (sym now.0) m)
          either)
          (w.near p f g joined before);
    }

pub tour_is_round : (s : Symbol) (start : Flag) (old marks : List Bool) (joints : List Joint) (current : Joint) → IsTour s start old marks joints current
    → (IsMarked old start → ⊥) → IsMarked marks current.flag → IsNewRound s start old marks joints
tour_is_round s start old marks [] current w fresh m = absurd (tour_is_long s start old marks [] current w fresh m refl)
tour_is_round s start old marks (j ∷ joints) current w fresh m =
    let same = w.returned m in
    let rest : w.rest ≡ joints ++ w.first ∷ [] = sym (cons_tail _ _ _ _ w.begins) ∙ ap (λ (k : Joint). joints ++ k ∷ []) same in
    record {
      first = w.first;
      rest = joints;
      is = ap (λ (k : Joint). k ∷ joints) (cons_head _ _ _ _ w.begins);
      flag = w.flag;
      by = w.by;
      closed = subst (AreLinked s w.first) rest w.linked;
      distinct = w.distinct;
      unmarked = w.unmarked;
      marked = w.marked;
    }

-- ## From boundary to boundary

-- nothing begins at k
pub told_skip : (s : Symbol) (k : ℕ) (marks : List Bool) (rounds : List (List Joint)) (f : Flag) → AreTold s k marks rounds → place_of f ≡ k
    → (IsFlag s f → IsMarked marks f) → AreTold s (k + 1) marks rounds
told_skip s k marks rounds f w at known = record {
  kept = w.kept;
  each = w.each;
  ascending = w.ascending;
  below = λ y there. let low = w.below y there in omega arith;
  apart = w.apart;
  marked = w.marked;
  complete = λ g flag low.
      ⊎_elim
      (λ early. w.complete g flag early)
      (λ late.
      let same : f ≡ g = place_apart f g (let e : place_of f ≡ place_of g = omega (arith, at, late, low) in e) in
      subst (IsMarked marks) same (known (subst (IsFlag s) (sym same) flag)))
      (cases_lt (place_of g) k);
}

flag_of_linked : (s : Symbol) (t a : Joint) (xs : List Joint) → AreLinked s a (xs ++ t ∷ []) → (f : Flag) → Contains (flags (a ∷ xs)) f → IsFlag s f
flag_of_linked s t a [] linked f on =
    ⊎_elim (λ here. subst (IsFlag s) here linked.0.joint.end.flag) (λ none. absurd (Contains-none f none)) (Contains-cases a.flag f [] on)
flag_of_linked s t a (x ∷ xs) linked f on =
    ⊎_elim
    (λ here. subst (IsFlag s) here linked.0.joint.end.flag)
    (λ later. flag_of_linked s t x xs linked.1 f later)
    (Contains-cases a.flag f (flags (x ∷ xs)) on)

-- a new round is told from its least flag
new_round_is_round : (s : Symbol) (k : ℕ) (old new : List Bool) (rounds : List (List Joint)) (start : Flag) (round : List Joint) → AreTold s k old rounds → place_of start ≡ k
    → (n : IsNewRound s start old new round) → IsRoundFrom s n.first n.rest
new_round_is_round s k old new rounds start round w at n =
    let a = n.first in
    let distinct = subst (λ r. AreDistinct (flags r)) n.is n.distinct in
    record {
      closed = n.closed;
      distinct = distinct;
      least = λ g there.
          let place : place_of a.flag ≡ k = ap place_of n.flag ∙ at in
          let on : Contains (flags (a ∷ n.rest)) g = Contains-later a.flag g (flags n.rest) there in
          let flag = flag_of_linked s a a n.rest n.closed g on in
          ⊎_elim
          (λ low. absurd (n.unmarked g (subst (λ r. Contains (flags r) g) (sym n.is) on) (w.complete g flag low)))
          (λ high.
          ⊎_elim
          (λ same.
          let e : a.flag ≡ g = place_apart a.flag g (place ∙ sym same) in
          absurd (distinct.0 (subst (Contains (flags n.rest)) (sym e) there)))
          (λ differ. omega (arith, place, high, differ))
          (cases_eq (place_of g) k))
          (cases_lt (place_of g) k);
      first = n.by ∙ ap (λ (f : Flag). first_pair f.index) (sym n.flag);
    }

-- one boundary more
pub told_more : (s : Symbol) (k : ℕ) (old new : List Bool) (rounds : List (List Joint)) (start : Flag) (round : List Joint) → AreTold s k old rounds → place_of start ≡ k
    → AreMarks s new → IsNewRound s start old new round → AreTold s (k + 1) new (rounds ++ round ∷ [])
told_more s k old new rounds start round w at marks n =
    let a = n.first in
    let place : start_place round ≡ k = ap start_place n.is ∙ ap place_of n.flag ∙ at in
    let starts : map start_place (rounds ++ round ∷ []) ≡ map start_place rounds ++ k ∷ [] =
    map-append start_place rounds (round ∷ []) ∙ ap (λ y. map start_place rounds ++ y ∷ []) place in
    let all : flat_map flags (rounds ++ round ∷ []) ≡ flat_map flags rounds ++ flags round = flat_map-push flags rounds round in
    let begun : Contains (flags round) start =
    subst (λ r. Contains (flags r) start) (sym n.is) (subst (Contains (flags (a ∷ n.rest))) n.flag (Contains-head a.flag (flags n.rest))) in
    record {
      kept = marks;
      each = all-push (IsRound s) rounds round w.each (subst (IsRound s) (sym n.is) (new_round_is_round s k old new rounds start round w at n));
      ascending = subst IsStrictlyIncreasing (sym starts) (increasing-push k (map start_place rounds) w.below w.ascending);
      below = λ y there.
          ⊎_elim
          (λ before. let low = w.below y before in omega arith)
          (λ now. omega arith)
          (Contains-push_cases (map start_place rounds) k y (subst (λ ys. Contains ys y) starts there));
      apart = subst AreDistinct (sym all)
          (distinct-append (flat_map flags rounds) (flags round) w.apart n.distinct (λ f before now. n.unmarked f now ((w.marked f).1 before)));
      marked = λ f. (
        λ m.
            subst (λ fs. Contains fs f) (sym all)
            (⊎_elim
            (λ before. Contains-append_left (flat_map flags rounds) (flags round) f ((w.marked f).0 before))
            (λ now. Contains-append_right (flat_map flags rounds) (flags round) f now)
            ((n.marked f).0 m)),
        λ on.
            ⊎_elim
            (λ before. (n.marked f).1 (inl ((w.marked f).1 before)))
            (λ now. (n.marked f).1 (inr now))
            (Contains-append_cases (flat_map flags rounds) (flags round) f (subst (λ fs. Contains fs f) all on)),
      );
      complete = λ g flag low.
          ⊎_elim
          (λ early. (n.marked g).1 (inl (w.complete g flag early)))
          (λ late.
          let same : start ≡ g = place_apart start g (let e : place_of start ≡ place_of g = omega (arith, at, late, low) in e) in
          subst (IsMarked new) same ((n.marked start).1 (inr begun)))
          (cases_lt (place_of g) k);
    }

pub told_all : (s : Symbol) (k : ℕ) (marks : List Bool) (rounds : List (List Joint)) → AreTold s k marks rounds → 3 * s.size + 3 ≤ k → AreRounds s rounds
told_all s k marks rounds w whole = record {
  each = w.each;
  ascending = w.ascending;
  apart = w.apart;
  complete = λ f flag. let low = place_within s f flag.chamber in (w.marked f).0 (w.complete f flag (omega arith));
}
