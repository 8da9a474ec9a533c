-- Entries in a vector whose first ones have left.
use Rattle.std.proofs.Common.{◌≡◌, ℕ, suc, ◌+◌, ◌<◌, ◌≤◌, ◌≢◌, zero, List, [], ◌∷◌, ◌++◌, length, get_or, set, take, drop, refl, sym, ap, ◌∙◌, subst, arith}
use Rattle.std.proofs.lemmas.List.{length-take-le, length-drop, length-set, length-append, get_or-drop, drop-set-add, drop-append-le, drop-take, drop-drop}
use Rattle.std.specs.List.{AllByRecursion, splice}
use Rattle.dd_model.specs.declared.jobs.Job.{Job}
use Rattle.dd_front.specs.declared.entry.Entry.{Entry}
use Rattle.dd_front.specs.declared.entry.State.{State}
use Rattle.dd_front.specs.Machine.{entry_of, open_entries}
use Rattle.dd_front.specs.Step.{with_state, split_entries}
use Rattle.dd_front.specs.Numbers.{HaveOwnNumbers, AreBelow}
use Rattle.dd_front.specs.Places.{IsPlaceOf, with_state_at}
use Rattle.dd_front.proofs.Placed.{within}
use Rattle.dd_front.proofs.Replaced.{state_at, split_at, own_split}

-- a place of the entries is one of the vector
pub place_inside : (all : List Entry) (gone i : ℕ) (es : List Entry) → drop gone all ≡ es → gone ≤ length all → i < length es → gone + i < length all
place_inside all gone i es e inside low = omega (arith, ap length e, length-drop gone all)

set_is_state : (es : List Entry) (i : ℕ) (state : State) (d : Entry) → i < length es → set es i (entry_of (get_or es i d).number (get_or es i d).job state) ≡ with_state_at i state es
set_is_state [] i state d low = absurd (omega arith)
set_is_state (e ∷ es) zero state d low = refl
set_is_state (e ∷ es) (suc i) state d low = ap (λ ds. e ∷ ds) (set_is_state es i state d (omega arith))

-- the vector with an entry in another state
pub state_in : (all : List Entry) (gone i : ℕ) (es : List Entry) (state : State) (d : Entry) → drop gone all ≡ es → i < length es
    → drop gone (set all (gone + i) (entry_of (get_or all (gone + i) d).number (get_or all (gone + i) d).job state)) ≡ with_state_at i state es
state_in all gone i es state d h low =
    let e : get_or all (gone + i) d ≡ get_or es i d = sym (get_or-drop gone all i d) ∙ ap (λ ds. get_or ds i d) h in
    drop-set-add gone all i (entry_of (get_or all (gone + i) d).number (get_or all (gone + i) d).job state)
    ∙ ap (λ x. set (drop gone all) i (entry_of x.number x.job state)) e
    ∙ ap (λ ds. set ds i (entry_of (get_or es i d).number (get_or es i d).job state)) h
    ∙ set_is_state es i state d low

-- the vector with others in the place of an entry
pub splice_in : (all : List Entry) (gone i : ℕ) (es new : List Entry) → drop gone all ≡ es → gone + i < length all
    → drop gone (splice all (gone + i) (gone + i + 1) new) ≡ splice es i (i + 1) new
splice_in all gone i es new h low =
    let len : length (take (gone + i) all) ≡ gone + i = length-take-le (gone + i) all (omega arith) in
    let end : gone + i + 1 ≡ gone + (i + 1) = omega arith in
    drop-append-le gone (take (gone + i) all) (new ++ drop (gone + i + 1) all) (omega arith)
    ∙ ap (λ ds. ds ++ (new ++ drop (gone + i + 1) all)) (drop-take gone i all ∙ ap (take i) h)
    ∙ ap (λ ds. take i es ++ (new ++ ds)) (ap (λ n. drop n all) end ∙ sym (drop-drop (i + 1) gone all) ∙ ap (drop (i + 1)) h)

pub splice_long : (all : List Entry) (gone i : ℕ) (new : List Entry) → gone + i < length all → gone ≤ length (splice all (gone + i) (gone + i + 1) new)
splice_long all gone i new low =
    let len : length (take (gone + i) all) ≡ gone + i = length-take-le (gone + i) all (omega arith) in
    simp length-append (omega arith)

own_at : (i : ℕ) (state : State) (es : List Entry) → HaveOwnNumbers es → HaveOwnNumbers (with_state_at i state es)
own_at i state [] own = tt
own_at zero state (e ∷ es) own = own
own_at (suc i) state (e ∷ es) own = (own.0, all_at e.number i es own.1, own_at i state es own.2)
  where
    all_at : (n j : ℕ) (ds : List Entry) → AllByRecursion (λ d. d.number ≢ n) ds → AllByRecursion (λ d. d.number ≢ n) (with_state_at j state ds)
    all_at n j [] all = tt
    all_at n zero (d ∷ ds) all = all
    all_at n (suc j) (d ∷ ds) all = (all.0, all_at n j ds all.1)

-- the entry of a number in another state, and others in its place
pub state_there : (k i : ℕ) (state : State) (es : List Entry) → HaveOwnNumbers es → IsPlaceOf k es i → with_state_at i state es ≡ with_state k state es
state_there k i state [] own there = absurd there
state_there k i state (e ∷ es) own there =
    let low = within k (e ∷ es) i there in
    sym (state_at k state (e ∷ es) i e own there low ∙ set_is_state (e ∷ es) i state e low)

pub splice_there : (k i next : ℕ) (jobs : List Job) (es : List Entry) → HaveOwnNumbers es → IsPlaceOf k es i → splice es i (i + 1) (open_entries next jobs) ≡ split_entries k next jobs es
splice_there k i next jobs [] own there = absurd there
splice_there k i next jobs (e ∷ es) own there =
    let one : i + 1 ≡ suc i = omega arith in
    ap (λ n. take i (e ∷ es) ++ (open_entries next jobs ++ drop n (e ∷ es))) one ∙ sym (split_at k next jobs (e ∷ es) i e own there)

pub splice_kept : (k i next : ℕ) (jobs : List Job) (es : List Entry) → HaveOwnNumbers es → AreBelow next es → IsPlaceOf k es i → HaveOwnNumbers (splice es i (i + 1) (open_entries next jobs))
splice_kept k i next jobs es own below there =
    subst HaveOwnNumbers (sym (splice_there k i next jobs es own there)) (own_split k next jobs es (one es i there below own) own below)
  where
    one : (ds : List Entry) (j : ℕ) → IsPlaceOf k ds j → AreBelow next ds → HaveOwnNumbers ds → 1 ≤ next
    one [] j there' below' own' = absurd there'
    one (d ∷ ds) j there' below' own' = let a = below'.0 in let b = own'.0 in omega arith

-- ## What the calls of a vector leave

-- after a write of a state
pub written_in : (all : List Entry) (gone i : ℕ) (es : List Entry) (state now : State) (x : Entry) → x ≡ get_or all (gone + i) x → now ≡ state → drop gone all ≡ es → i < length es
    → drop gone (set all (gone + i) (entry_of x.number x.job now)) ≡ with_state_at i state es
written_in all gone i es state now x e n h low =
    ap (λ s. drop gone (set all (gone + i) (entry_of x.number x.job s))) n
    ∙ ap (λ y. drop gone (set all (gone + i) (entry_of y.number y.job state))) e
    ∙ state_in all gone i es state x h low

pub written_kept : (all : List Entry) (gone i : ℕ) (es : List Entry) (state now : State) (x : Entry) → x ≡ get_or all (gone + i) x → now ≡ state → drop gone all ≡ es → i < length es
    → gone ≤ length all → HaveOwnNumbers (drop gone all)
    → (gone ≤ length (set all (gone + i) (entry_of x.number x.job now))) × HaveOwnNumbers (drop gone (set all (gone + i) (entry_of x.number x.job now)))
written_kept all gone i es state now x e n h low inside own =
    (simp length-set inside, subst HaveOwnNumbers (sym (written_in all gone i es state now x e n h low)) (own_at i state es (subst HaveOwnNumbers h own)))
