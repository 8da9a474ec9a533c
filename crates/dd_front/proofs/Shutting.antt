-- Entries before which none is open.
use Rattle.std.proofs.Common.{◌≡◌, ◌≢◌, ℕ, zero, suc, ◌+◌, ◌-◌, ◌<◌, ◌≤◌, min, Bool, true, false, not, is_some, Option, Some, None, MatchOption, List, [], ◌∷◌, ◌++◌, length, get_or, set, take, drop, refl, sym, ap, ◌∙◌, subst, arith}
use Rattle.std.proofs.lemmas.List.{take-append-le, take-append-drop, append_assoc, length-append, length-take-le, length-set, drop_more, drop-set-lt}
use Rattle.std.specs.List.{splice}
use Rattle.dd_model.proofs.Ascending.{all-append}
use Rattle.dd_front.specs.declared.entry.Entry.{Entry}
use Rattle.dd_front.specs.declared.entry.State.{State}
use Rattle.dd_front.specs.declared.entry.State.TheVariants.{Open}
use Rattle.dd_front.specs.Places.{with_state_at}
use Rattle.dd_front.specs.Rounds.{IsFirstOpen}
use Rattle.dd_front.specs.Shut.{AreShut, IsShutTo, IsEntryList}
use Rattle.dd_front.specs.Numbers.{HaveOwnNumbers}

length-with_state : (i : ℕ) (state : State) (es : List Entry) → length (with_state_at i state es) ≡ length es
length-with_state i state [] = refl
length-with_state zero state (e ∷ es) = refl
length-with_state (suc i) state (e ∷ es) = ap suc (length-with_state i state es)

-- fewer are shut too
shut_fewer : (n shut : ℕ) (es : List Entry) → n ≤ shut → AreShut (take shut es) → AreShut (take n es)
shut_fewer zero shut es low h = tt
shut_fewer (suc n) shut [] low h = tt
shut_fewer (suc n) zero (e ∷ es) low h = absurd (omega arith)
shut_fewer (suc n) (suc shut) (e ∷ es) low h = (h.0, shut_fewer n shut es (omega arith) h.1)

-- what stands behind does not matter
shut_before : (n i : ℕ) (state : State) (es : List Entry) → n ≤ i → AreShut (take n es) → AreShut (take n (with_state_at i state es))
shut_before n i state [] low h = h
shut_before zero i state (e ∷ es) low h = tt
shut_before (suc n) zero state (e ∷ es) low h = absurd (omega arith)
shut_before (suc n) (suc i) state (e ∷ es) low h = (h.0, shut_before n i state es (omega arith) h.1)

-- nothing was found
pub none_found : {A : Type 0} (Found : A → Type 0) (found : Option A) (none : Bool) (es : List Entry) → MatchOption found (AreShut es) Found → is_some found ≡ not none → none ≡ true → AreShut es
none_found Found None none es told is found_none = told
none_found Found (Some a) none es told is found_none = absurd (let wrong : true ≡ false = is ∙ ap not found_none in cc)

-- a state that is not open keeps what is shut, and shuts one more
shut_kept : (n i : ℕ) (state : State) (es : List Entry) → state ≢ Open → AreShut (take n es) → AreShut (take n (with_state_at i state es))
shut_kept n i state [] not h = h
shut_kept zero i state (e ∷ es) not h = tt
shut_kept (suc n) zero state (e ∷ es) not h = (not, h.1)
shut_kept (suc n) (suc i) state (e ∷ es) not h = (h.0, shut_kept n i state es not h.1)

shut_more : (i : ℕ) (state : State) (es : List Entry) → state ≢ Open → AreShut (take i es) → AreShut (take (suc i) (with_state_at i state es))
shut_more i state [] not h = tt
shut_more zero state (e ∷ es) not h = (not, tt)
shut_more (suc i) state (e ∷ es) not h = (h.0, shut_more i state es not h.1)

pub put_any : (shut i : ℕ) (state : State) (es : List Entry) → i < length es → IsShutTo shut es → IsShutTo (min shut i) (with_state_at i state es)
put_any shut i state es low is =
    let within = is.within in
    let length_is = length-with_state i state es in
    record { within = omega arith; none = shut_before (min shut i) i state es (omega arith) (shut_fewer (min shut i) shut es (omega arith) is.none) }

pub put_shut : (shut i : ℕ) (state : State) (es : List Entry) → state ≢ Open → IsShutTo shut es → IsShutTo shut (with_state_at i state es)
put_shut shut i state es not is =
    let within = is.within in
    let length_is = length-with_state i state es in
    record { within = omega arith; none = shut_kept shut i state es not is.none }

-- those up to a place and those from there to another
through : (shut i : ℕ) (es : List Entry) → shut ≤ i → AreShut (take shut es) → AreShut (take (i - shut) (drop shut es)) → AreShut (take i es)
through zero i es low first next = let same : i - 0 ≡ i = omega arith in subst (λ n. AreShut (take n es)) same next
through (suc shut) zero es low first next = tt
through (suc shut) (suc i) [] low first next = tt
through (suc shut) (suc i) (e ∷ es) low first next =
    let less : suc i - suc shut ≡ i - shut = omega arith in
    (first.0, through shut i es (omega arith) first.1 (subst (λ n. AreShut (take n (drop shut es))) less next))

pub put_next : (shut i : ℕ) (state : State) (es left : List Entry) → state ≢ Open → shut ≤ i → i < length es → IsShutTo shut es → left ≡ take (i - shut) (drop shut es) → AreShut left
    → IsShutTo (i + 1) (with_state_at i state es)
put_next shut i state es left not reach low is part none =
    let length_is = length-with_state i state es in
    let one : suc i ≡ i + 1 = omega arith in
    record {
      within = omega arith;
      none = subst (λ n. AreShut (take n (with_state_at i state es))) one (shut_more i state es not (through shut i es reach is.none (subst AreShut part none)));
    }

pub shut_spliced : (shut i : ℕ) (es new : List Entry) → i < length es → IsShutTo shut es → IsShutTo (min shut i) (splice es i (i + 1) new)
shut_spliced shut i es new low is =
    let n = min shut i in
    let long : length (take i es) ≡ i = length-take-le i es (omega arith) in
    record {
      within = simp length-append (omega arith);
      none = subst AreShut (sym (take-append-le n (take i es) (new ++ drop (i + 1) es) (omega arith))) (front n i es (omega arith) (shut_fewer n shut es (omega arith) is.none));
    }
  where
    front : (n' i' : ℕ) (ds : List Entry) → n' ≤ i' → AreShut (take n' ds) → AreShut (take n' (take i' ds))
    front zero i' ds low' h = tt
    front (suc n') zero ds low' h = absurd (omega arith)
    front (suc n') (suc i') [] low' h = tt
    front (suc n') (suc i') (d ∷ ds) low' h = (h.0, front n' i' ds (omega arith) h.1)

pub shut_rest : (shut : ℕ) (e : Entry) (es : List Entry) → IsShutTo shut (e ∷ es) → IsShutTo (shut - 1) es
shut_rest zero e es is = record { within = omega arith; none = tt }
shut_rest (suc shut) e es is =
    let within = is.within in
    let one : shut ≡ suc shut - 1 = omega arith in
    subst (λ n. IsShutTo n es) one (record { within = omega arith; none = is.none.1 })

pub all_shut : (shut : ℕ) (es : List Entry) → IsShutTo shut es → AreShut (drop shut es) → AreShut es
all_shut shut es is rest = subst AreShut (take-append-drop shut es) (all-append (λ e. e.state ≢ Open) (take shut es) (drop shut es) is.none rest)

pub open_past : (shut : ℕ) (es : List Entry) (e : Entry) → IsShutTo shut es → IsFirstOpen (drop shut es) e → IsFirstOpen es e
open_past shut es e is first = record {
  before = take shut es ++ first.before;
  after = first.after;
  parts = sym (take-append-drop shut es) ∙ ap (λ ds. take shut es ++ ds) first.parts ∙ sym (append_assoc (take shut es) first.before (e ∷ first.after));
  none = all-append (λ d. d.state ≢ Open) (take shut es) first.before is.none first.none;
  waits = first.waits;
}

-- the first open entry of what follows those that are shut
pub open_where : {A : Type 0} (view : A → Entry) (found : Option A) (shut : ℕ) (es left : List Entry) → left ≡ drop shut es → IsShutTo shut es
    → MatchOption found (AreShut left) (λ a. IsFirstOpen left (view a)) → MatchOption found (AreShut es) (λ a. IsFirstOpen es (view a))
open_where view None shut es left is closed told = all_shut shut es closed (subst AreShut is told)
open_where view (Some a) shut es left is closed told = open_past shut es (view a) closed (subst (λ ds. IsFirstOpen ds (view a)) is told)

-- what a vector keeps when one more has left
pub left_one : (all : List Entry) (gone shut less : ℕ) (x : Entry) → gone < length all → less ≡ shut - 1 → IsEntryList all gone shut → IsEntryList (set all gone x) (gone + 1) less
left_one all gone shut less x low is held =
    let front : drop gone all ≡ get_or all gone x ∷ drop (gone + 1) all = drop_more all gone x low in
    let now : drop (gone + 1) (set all gone x) ≡ drop (gone + 1) all = drop-set-lt (gone + 1) all gone x (omega arith) in
    let own = subst HaveOwnNumbers front held.numbers in
    record {
      inside = simp length-set (omega arith);
      numbers = subst HaveOwnNumbers (sym now) own.2;
      shut = subst (IsShutTo less) (sym now) (subst (λ n. IsShutTo n (drop (gone + 1) all)) (sym is) (shut_rest shut (get_or all gone x) (drop (gone + 1) all) (subst (IsShutTo shut) front held.shut)));
    }
