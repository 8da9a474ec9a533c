-- What is refused is not accepted.
use Rattle.std.proofs.Common.{◌≡◌, ◌≢◌, ℕ, Result, Ok, Err, IfOk, IfErr, ◌%◌, ◌≤◌, List, [], length, get_or, refl, sym, ap, ◌∙◌, subst, arith, zero, suc, ◌<◌}
use Rattle.std.specs.Result.{IsErrAnd}
use Rattle.std.specs.Global.{Global}
use Rattle.std.specs.Prelude.{Vec}
use Rattle.std.proofs.lemmas.List.{get_or-map}
use Rattle.dd_model.specs.declared.pair.Pair.TheVariants.{Edge}
use Rattle.dd_model.specs.Symbol.{Symbol, AreInvolutions, IsChamber, op}
use Rattle.dd_model.specs.Connected.{IsReached}
use Rattle.dd_model.specs.Cell.{turned}
use Rattle.dd_symbol.specs.Building.{listed, lists, given, IsConnectedSymbol, IsAccepted}
use Rattle.dd_symbol.specs.Images.{with_degrees}
use Rattle.dd_symbol.specs.Refusals.{HasSize, IsRowsFault, IsInvolutionsFault, IsFault, IsRefused}
use Rattle.dd_symbol.specs.declared.refusals.Refusal.{Refusal}
use Rattle.dd_symbol.specs.declared.refusals.Refusal.TheVariants.{Empty, TooManyChambers, OpRange, NotInvolution, NotCommuting, NotConnected, DegreeZero, DegreeVaries, NotMultiple, BranchingTooLarge, Memory}
use Rattle.dd_symbol.proofs.DegreeLemmas.{multiple-from_turns}
use Rattle.dd_model.proofs.Branching.{degree-along_cell}
use Rattle.dd_model.specs.declared.index.Index.{Index}
use Rattle.dd_model.proofs.AllIndices.{index_at_place}
use Rattle.dd_model.specs.declared.index.Index.TheVariants.{Zero, One, Two}
use Rattle.dd_model.specs.Involutions.{HaveSameInvolutions}
use Rattle.dd_model.proofs.SameInvolutions.{op-same, act-same, same-sym, chamber-same, involutions-same, turned-same}
use Rattle.dd_symbol.specs.Conditions.{IsWithin, IsInvolutive, Commutes, AtAll}
use Rattle.dd_symbol.specs.Causes.{IndexBefore, IsFirst}

-- ## Symbols with the same involutions

reached-same : (s t : Symbol) → HaveSameInvolutions s t → (d : ℕ) → IsReached s d → IsReached t d
reached-same s t h d r = record { word = r.word; leads = act-same s t h r.word 1 ∙ r.leads }

twice-same : (s t : Symbol) → HaveSameInvolutions s t → (i : Index) (e : ℕ) → op t i (op t i e) ≡ op s i (op s i e)
twice-same s t h i e = op-same s t h i (op t i e) ∙ ap (op s i) (op-same s t h i e)

within-same : (s t : Symbol) → HaveSameInvolutions s t → (i : Index) → IsWithin s i → IsWithin t i
within-same s t h i within d c =
    subst (IsChamber t) (sym (op-same s t h i d)) (chamber-same t s (same-sym s t h) (op s i d) (within d (chamber-same s t h d c)))

involutive-same : (s t : Symbol) → HaveSameInvolutions s t → (i : Index) → IsInvolutive s i → IsInvolutive t i
involutive-same s t h i is d c = twice-same s t h i d ∙ is d (chamber-same s t h d c)

commuting-same : (s t : Symbol) → HaveSameInvolutions s t → AtAll s (Commutes s) → AtAll t (Commutes t)
commuting-same s t h all d c = turned-same s t h Edge 2 d ∙ all d (chamber-same s t h d c)

index_all : (P Q : Index → Type 0) → ((i : Index) → P i → Q i) → (i : Index) → IndexBefore P i → IndexBefore Q i
index_all P Q f Zero before = tt
index_all P Q f One before = f Zero before
index_all P Q f Two before = (f Zero before.0, f One before.1)

first-same : (s t : Symbol) → HaveSameInvolutions s t → (P Q Fails Fails' : ℕ → Type 0) → ((e : ℕ) → P e → Q e) → ((e : ℕ) → Fails e → Fails' e)
    → (d : ℕ) → IsFirst s P Fails d → IsFirst t Q Fails' d
first-same s t h P Q Fails Fails' good bad d first = record {
  chamber = chamber-same t s (same-sym s t h) d first.chamber;
  fails = bad d first.fails;
  before = λ e c below. good e (first.before e (chamber-same s t h e c) below);
}

-- ## What refuses

-- a cause refuses lists that are not too long
sized : (limit : ℕ) (s : Symbol) (d : ℕ) → s.size ≤ limit → IsChamber s d → HasSize limit s
sized limit s d within h = record { some = let low = h.0 in let high = h.1 in omega arith; within = within }

pub refused-from_fault : (limit : ℕ) (s : Symbol) → s.size ≤ limit → (why : Refusal) → IsFault s why → IsRefused limit s why
refused-from_fault limit s within Empty none = none
refused-from_fault limit s within (TooManyChambers n) fault = absurd fault
refused-from_fault limit s within (OpRange i d) fault = (sized limit s d within fault.first.chamber, fault)
refused-from_fault limit s within (NotInvolution i d) fault = (sized limit s d within fault.first.chamber, fault)
refused-from_fault limit s within (NotCommuting d) fault = (sized limit s d within fault.first.chamber, fault)
refused-from_fault limit s within (NotConnected d) fault = (sized limit s d within fault.first.chamber, fault)
refused-from_fault limit s within (DegreeZero p d) fault = (sized limit s d within fault.first.chamber, fault)
refused-from_fault limit s within (DegreeVaries p d) fault = (sized limit s d within fault.first.chamber, fault)
refused-from_fault limit s within (NotMultiple p d r m) fault = (sized limit s d within fault.first.chamber, fault)
refused-from_fault limit s within (BranchingTooLarge p d v) fault = (sized limit s d within fault.first.chamber, fault)
refused-from_fault limit s within Memory fault = tt

-- what is refused of rows is refused of involutions
pub fault_of_rows : (s : Symbol) (why : Refusal) → IsRowsFault s why → IsInvolutionsFault s why
fault_of_rows s Empty fault = fault
fault_of_rows s (TooManyChambers n) fault = fault
fault_of_rows s (OpRange i d) fault = fault
fault_of_rows s (NotInvolution i d) fault = fault
fault_of_rows s (NotCommuting d) fault = absurd fault
fault_of_rows s (NotConnected d) fault = absurd fault
fault_of_rows s (DegreeZero p d) fault = fault
fault_of_rows s (DegreeVaries p d) fault = fault
fault_of_rows s (NotMultiple p d r m) fault = fault
fault_of_rows s (BranchingTooLarge p d v) fault = fault
fault_of_rows s Memory fault = tt

-- rows of involutions have no fault
pub no_rows_fault : (s : Symbol) (why : Refusal) → AreInvolutions s → IsRowsFault s why → ⊥
no_rows_fault s Empty inv fault = fault
no_rows_fault s (TooManyChambers n) inv fault = fault
no_rows_fault s (OpRange i d) inv fault = let f = fault.first in f.fails ((inv i).within d f.chamber)
no_rows_fault s (NotInvolution i d) inv fault = let f = fault.first in f.fails ((inv i).involutive d f.chamber)
no_rows_fault s (NotCommuting d) inv fault = fault
no_rows_fault s (NotConnected d) inv fault = fault
no_rows_fault s (DegreeZero p d) inv fault = fault
no_rows_fault s (DegreeVaries p d) inv fault = fault
no_rows_fault s (NotMultiple p d r m) inv fault = fault
no_rows_fault s (BranchingTooLarge p d v) inv fault = fault
no_rows_fault s Memory inv fault = fault

-- what is refused of involutions is refused of a symbol with them
pub fault_of_involutions : (s t : Symbol) → HaveSameInvolutions s t → (why : Refusal) → IsInvolutionsFault s why → IsFault t why
fault_of_involutions s t h Empty fault = absurd fault
fault_of_involutions s t h (TooManyChambers n) fault = absurd fault
fault_of_involutions s t h (OpRange i d) fault = record {
  before = index_all (IsWithin s) (IsWithin t) (within-same s t h) i fault.before;
  first = first-same s t h (λ e. IsChamber s (op s i e)) (λ e. IsChamber t (op t i e)) (λ e. IsChamber s (op s i e) → ⊥) (λ e. IsChamber t (op t i e) → ⊥)
      (λ e there. subst (IsChamber t) (sym (op-same s t h i e)) (chamber-same t s (same-sym s t h) (op s i e) there))
      (λ e none there. none (chamber-same s t h (op s i e) (subst (IsChamber t) (op-same s t h i e) there)))
      d fault.first;
}
fault_of_involutions s t h (NotInvolution i d) fault = record {
  within = λ j. within-same s t h j (fault.within j);
  before = index_all (IsInvolutive s) (IsInvolutive t) (involutive-same s t h) i fault.before;
  first = first-same s t h (λ e. op s i (op s i e) ≡ e) (λ e. op t i (op t i e) ≡ e) (λ e. op s i (op s i e) ≢ e) (λ e. op t i (op t i e) ≢ e)
      (λ e is. twice-same s t h i e ∙ is) (λ e none is. none (sym (twice-same s t h i e) ∙ is)) d fault.first;
}
fault_of_involutions s t h (NotCommuting d) fault = record {
  involutions = involutions-same s t h fault.involutions;
  first = first-same s t h (Commutes s) (Commutes t) (λ e. turned s Edge 2 e ≢ e) (λ e. turned t Edge 2 e ≢ e)
      (λ e is. turned-same s t h Edge 2 e ∙ is) (λ e none is. none (sym (turned-same s t h Edge 2 e) ∙ is)) d fault.first;
}
fault_of_involutions s t h (NotConnected d) fault = record {
  involutions = involutions-same s t h fault.involutions;
  commuting = commuting-same s t h fault.commuting;
  first = first-same s t h (IsReached s) (IsReached t) (λ e. IsReached s e → ⊥) (λ e. IsReached t e → ⊥)
      (λ e r. reached-same s t h e r) (λ e none r. none (reached-same t s (same-sym s t h) e r)) d fault.first;
}
fault_of_involutions s t h (DegreeZero p d) fault = absurd fault
fault_of_involutions s t h (DegreeVaries p d) fault = absurd fault
fault_of_involutions s t h (NotMultiple p d r m) fault = absurd fault
fault_of_involutions s t h (BranchingTooLarge p d v) fault = absurd fault
fault_of_involutions s t h Memory fault = tt

-- lists with a fault are no connected symbol
pub no_symbol : (s : Symbol) (why : Refusal) → IsFault s why → why ≢ Memory → IsConnectedSymbol s → ⊥
no_symbol s Empty none some ok = let n = ok.symbol.symbol.table.chambers in omega arith
no_symbol s (TooManyChambers n) many some ok = many
no_symbol s (OpRange i d) fault some ok = let f = fault.first in f.fails ((ok.symbol.symbol.table.involutions i).within d f.chamber)
no_symbol s (NotInvolution i d) fault some ok = let f = fault.first in f.fails ((ok.symbol.symbol.table.involutions i).involutive d f.chamber)
no_symbol s (NotCommuting d) fault some ok = let f = fault.first in f.fails ((ok.symbol.symbol.degrees Edge d f.chamber).turns)
no_symbol s (NotConnected d) fault some ok = let f = fault.first in f.fails (ok.connected d f.chamber)
no_symbol s (DegreeZero p d) fault some ok =
    let f = fault.first in
    let pos = (ok.symbol.symbol.degrees p d f.chamber).positive in
    let zero = f.fails in
    omega arith
no_symbol s (DegreeVaries p d) fault some ok =
    let f = fault.first in
    f.fails.other (sym (degree-along_cell s ok.symbol.symbol p d f.fails.least f.chamber f.fails.is_least.in_cell))
no_symbol s (NotMultiple p d r m) fault some ok =
    let f = fault.first in
    let multiple = multiple-from_turns s ok.symbol.symbol.table.involutions p d f.chamber ((ok.symbol.symbol.degrees p d f.chamber).turns) in
    f.fails (ap (λ x. x % r) fault.degree ∙ multiple r fault.turns)
no_symbol s (BranchingTooLarge p d v) fault some ok =
    let f = fault.first in
    let small = ok.symbol.branching p d v f.chamber fault.value in
    let large = f.fails in
    omega arith
no_symbol s Memory fault some ok = some refl

-- what is refused within a limit has a cause, or too many chambers
cause_of_refused : (limit : ℕ) (s : Symbol) (why : Refusal) → IsRefused limit s why → IsAccepted limit s → IsFault s why
cause_of_refused limit s Empty none ok = none
cause_of_refused limit s (TooManyChambers n) many ok = let w = ok.within in let e = many.0 in let b = many.1 in absurd (omega arith)
cause_of_refused limit s (OpRange i d) fault ok = fault.1
cause_of_refused limit s (NotInvolution i d) fault ok = fault.1
cause_of_refused limit s (NotCommuting d) fault ok = fault.1
cause_of_refused limit s (NotConnected d) fault ok = fault.1
cause_of_refused limit s (DegreeZero p d) fault ok = fault.1
cause_of_refused limit s (DegreeVaries p d) fault ok = fault.1
cause_of_refused limit s (NotMultiple p d r m) fault ok = fault.1
cause_of_refused limit s (BranchingTooLarge p d v) fault ok = fault.1
cause_of_refused limit s Memory fault ok = tt

pub not_accepted : (limit : ℕ) (s : Symbol) (why : Refusal) → IsRefused limit s why → why ≢ Memory → IsAccepted limit s → ⊥
not_accepted limit s why refused some ok =
    no_symbol s why (cause_of_refused limit s why refused ok) some (record { symbol = ok.symbol; connected = ok.connected })

-- what holds of an error holds of the error that `?` hands on
pub handed_on : {A : Type 0} (r : Result A Refusal) (P : Refusal → Type 0) (why : Refusal) → IsErrAnd r (λ y. y ≡ why) → P why → IfErr r P
handed_on (Ok x) P why is holds = absurd is
handed_on (Err y) P why is holds = subst P (sym is) holds

-- what holds of the value of a result
pub both_hold : {A E : Type 0} (r : Result A E) (P Q : A → Type 0) → IfOk r P → IfOk r Q → IfOk r (λ x. P x × Q x)
both_hold (Ok x) P Q p q = (p, q)
both_hold (Err y) P Q p q = tt

-- the involutions of three lists, read one by one
pub given-from_items : (ops : List (Vec ℕ Global)) → length ops ≡ 3 → (a b c : Vec ℕ Global) (s0 s1 s2 m01 m12 : List ℕ)
    → s0 ≡ (get_or ops 0 a).items → s1 ≡ (get_or ops 1 b).items → s2 ≡ (get_or ops 2 c).items
    → with_degrees (listed s0 s1 s2 [] []) m01 m12 ≡ given ops m01 m12
given-from_items ops three a b c s0 s1 s2 m01 m12 e0 e1 e2 =
    ap (λ xs. listed xs s1 s2 m01 m12) (e0 ∙ sym (get_or-map (λ v. v.items) ops 0 a [] (omega arith)))
    ∙ ap (λ xs. listed (get_or (lists ops) 0 []) xs s2 m01 m12) (e1 ∙ sym (get_or-map (λ v. v.items) ops 1 b [] (omega arith)))
    ∙ ap (λ xs. listed (get_or (lists ops) 0 []) (get_or (lists ops) 1 []) xs m01 m12) (e2 ∙ sym (get_or-map (λ v. v.items) ops 2 c [] (omega arith)))

-- what holds at the places before one holds of the involutions before it
pub index_before : (P : Index → Type 0) (n : ℕ) → n < 3 → ((k : ℕ) → k < n → P (index_at_place k)) → IndexBefore P (index_at_place n)
index_before P zero h before = tt
index_before P (suc zero) h before = before 0 (omega arith)
index_before P (suc (suc zero)) h before = (before 0 (omega arith), before 1 (omega arith))
index_before P (suc (suc (suc n))) h before = absurd (omega arith)
