-- Colors that are carried from chamber 1, and what they tell of every coloring.
use Rattle.std.proofs.Common.{◌≡◌, ◌≢◌, ℕ, ◌-◌, ◌<◌, ◌≤◌, Bool, true, false, not, cond, List, [], ◌∷◌, ◌++◌, length, get_or, set, refl, sym, ap, ◌∙◌, subst, ⊎_elim, arith}
use Rattle.std.proofs.lemmas.Bool.{cases_eq, cases_lt}
use Rattle.std.proofs.lemmas.List.{get_or-set_same, get_or-set_other, get_or_append_left, get_or_push, length_push}
use Rattle.dd_model.specs.Symbol.{Symbol, AreInvolutions, IsChamber, op}
use Rattle.dd_model.specs.Connected.{IsReached, Connected}
use Rattle.dd_model.specs.declared.index.Index.{Index}
use Rattle.dd_model.specs.declared.index.Index.TheVariants.{Zero, One, Two}
use Rattle.dd_symbol.specs.Walk.{IsMarked, IsWalk, IsClosed}
use Rattle.dd_symbol.proofs.WalkLemmas.{found, grown}
use Rattle.dd_cells.specs.Orientation.{color, AreWeakColors, HasWeakColors, IsOriented}
use Rattle.dd_cells.specs.Coloring.{IsForced, AreForced}

-- a chamber that is met with a forced color joins those whose colors are forced
pub forced_more : (s : Symbol) (seen colors : List Bool) (e : ℕ) (b : Bool) → length colors ≡ s.size
    → ((d : ℕ) → IsChamber s d → IsMarked seen d → IsForced s d (color colors d)) → IsChamber s e → IsForced s e b
    → (d : ℕ) → IsChamber s d → IsMarked (set seen (e - 1) true) d → IsForced s d (color (set colors (e - 1) b) d)
forced_more s seen colors e b l old h new d k m =
    ⊎_elim
    (λ here.
    let place : e - 1 < length colors = omega arith in
    let read : color (set colors (e - 1) b) e ≡ b = get_or-set_same colors (e - 1) b false place in
    subst (λ x. IsForced s x (color (set colors (e - 1) b) x)) (sym here) (rw read new))
    (λ other.
    let apart : d - 1 ≡ e - 1 → ⊥ = λ x. other (omega arith) in
    let same : color (set colors (e - 1) b) d ≡ color colors d = get_or-set_other colors (e - 1) (d - 1) b false apart in
    rw same (old d k (sym (get_or-set_other seen (e - 1) (d - 1) true false apart) ∙ m)))
    (cases_eq d e)

not_cond : (b x : Bool) → not (cond b (not x) x) ≡ cond (not b) (not x) x
not_cond true true = refl
not_cond true false = refl
not_cond false x = refl

-- a neighbor has the other color
pub forced_neighbor : (s : Symbol) (i : Index) (d : ℕ) (b : Bool) → IsChamber s d → op s i d ≢ d → IsForced s d b → IsForced s (op s i d) (not b)
forced_neighbor s i d b h moved own colors weak = weak i d h moved ∙ ap not (own colors weak) ∙ not_cond b (color colors 1)

cond_not : (b c x : Bool) → cond b (not x) x ≡ not (cond c (not x) x) → b ≡ not c
cond_not true true true e = absurd (cc)
cond_not true true false e = absurd (cc)
cond_not true false x e = refl
cond_not false true x e = refl
cond_not false false true e = absurd (cc)
cond_not false false false e = absurd (cc)

-- where some coloring is exchanged, the forced one is
pub forced_is_exchanged : (s : Symbol) (colors : List Bool) → AreInvolutions s → AreForced s colors → HasWeakColors s → AreWeakColors s colors
forced_is_exchanged s colors inv forced some i d h moved =
    let here = forced.forced d h some.colors some.exchanged in
    let there = forced.forced (op s i d) ((inv i).within d h) some.colors some.exchanged in
    let turned = some.exchanged i d h moved in
    cond_not (color colors (op s i d)) (color colors d) (color some.colors 1) (sym there ∙ turned ∙ ap not here)

-- a coloring that is exchanged everywhere is a weak one
pub weak_of_oriented : (s : Symbol) → IsOriented s → HasWeakColors s
weak_of_oriented s o = record { colors = o.colors; exchanged = λ i d h moved. o.exchanged i d h }

-- what is met is reached
pub reached_of_marked : (s : Symbol) (seen : List Bool) (queue : List ℕ) → IsWalk s seen queue → (d : ℕ) → IsChamber s d → IsMarked seen d → IsReached s d
reached_of_marked s seen queue walk d h m = let old = walk.queued d h m in subst (IsReached s) old.2 (walk.reached old.0 old.1)

-- a fact for each of the three involutions
pub by_index : (P : Index → Type 0) → P Zero → P One → P Two → (i : Index) → P i
by_index P zero one two i = elim i as (λ j. P j) [ Zero ↦ zero | One ↦ one | Two ↦ two ]

-- at the end of the walk all colors are forced
pub all_forced : (s : Symbol) (seen colors : List Bool) (queue : List ℕ) → AreInvolutions s → Connected s → 1 ≤ s.size → IsWalk s seen queue
    → length colors ≡ s.size → ((d : ℕ) → IsChamber s d → IsMarked seen d → IsForced s d (color colors d))
    → IsClosed s seen queue (length queue) → IsMarked seen 1 → AreForced s colors
all_forced s seen colors queue inv connected some walk l forced closed first = record {
  lengths = l;
  forced = λ d h. forced d h ((found s seen queue inv some walk closed first d h).1 (connected d h));
}

-- what is queued is marked, and stays so with one more
pub met_more : (seen : List Bool) (queue : List ℕ) (e : ℕ) → e - 1 < length seen → ((k : ℕ) → k < length queue → IsMarked seen (get_or queue k 0))
    → (k : ℕ) → k < length (queue ++ e ∷ []) → IsMarked (set seen (e - 1) true) (get_or (queue ++ e ∷ []) k 0)
met_more seen queue e h old k inside =
    ⊎_elim
    (λ before.
    subst (IsMarked (set seen (e - 1) true)) (sym (get_or_append_left queue (e ∷ []) 0 k before))
    ((grown seen queue e h).marks (get_or queue k 0) (old k before)))
    (λ after.
    let here : length queue ≡ k = omega (arith, length_push queue e) in
    subst (IsMarked (set seen (e - 1) true)) (sym (get_or_push queue e 0 k here)) (get_or-set_same seen (e - 1) true false h))
    (cases_lt k (length queue))
