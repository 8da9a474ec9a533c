-- What two symbols with the same involutions have in common, whatever their degrees are.
use Rattle.std.proofs.Common.{◌≡◌, ℕ, ◌≤◌, [], ◌∷◌, refl, sym, ap, ◌∙◌, subst}
use Rattle.dd_model.specs.declared.pair.Pair.{Pair}
use Rattle.dd_model.specs.declared.index.Index.{Index}
use Rattle.dd_model.specs.declared.index.Index.TheVariants.{Zero, One, Two}
use Rattle.dd_model.specs.Symbol.{Symbol, Word, IsChamber, AreInvolutions, op, act, degree, power, turn}
use Rattle.dd_model.specs.Connected.{Connected}
use Rattle.dd_model.specs.Cell.{InCell, IsPeriod, IsLeastTurns, IsBranching, turned}
use Rattle.dd_model.specs.Involutions.{HaveSameInvolutions}

pub op-same : (s t : Symbol) → HaveSameInvolutions s t → (i : Index) (d : ℕ) → op t i d ≡ op s i d
op-same s t h i d = elim i as (λ j. op t j d ≡ op s j d) [ Zero ↦ cc (h.s0) | One ↦ cc (h.s1) | Two ↦ cc (h.s2) ]

pub act-same : (s t : Symbol) → HaveSameInvolutions s t → (w : Word) (d : ℕ) → act t w d ≡ act s w d
act-same s t h [] d = refl
act-same s t h (i ∷ w) d = ap (act t w) (op-same s t h i d) ∙ act-same s t h w (op s i d)

pub same-sym : (s t : Symbol) → HaveSameInvolutions s t → HaveSameInvolutions t s
same-sym s t h = record { size = sym h.size; s0 = sym h.s0; s1 = sym h.s1; s2 = sym h.s2 }

pub chamber-same : (s t : Symbol) → HaveSameInvolutions s t → (d : ℕ) → IsChamber t d → IsChamber s d
chamber-same s t h d (low, high) = (low, subst (λ n. d ≤ n) h.size high)

pub involutions-same : (s t : Symbol) → HaveSameInvolutions s t → AreInvolutions s → AreInvolutions t
involutions-same s t h inv i = record {
  within = λ d c.
      subst (IsChamber t) (sym (op-same s t h i d))
      (chamber-same t s (same-sym s t h) (op s i d) ((inv i).within d (chamber-same s t h d c)));
  involutive = λ d c.
      op-same s t h i (op t i d) ∙ ap (op s i) (op-same s t h i d) ∙ (inv i).involutive d (chamber-same s t h d c);
}

pub connected-same : (s t : Symbol) → HaveSameInvolutions s t → Connected s → Connected t
connected-same s t h all d c =
    let reached = all d (chamber-same s t h d c) in
    record { word = reached.word; leads = act-same s t h reached.word 1 ∙ reached.leads }

pub in_cell-same : (s t : Symbol) → HaveSameInvolutions s t → (p : Pair) (d e : ℕ) → InCell s p d e → InCell t p d e
in_cell-same s t h p d e there =
    record { word = there.word; letters = there.letters; leads = act-same s t h there.word d ∙ there.leads }

pub least_turns-same : (s t : Symbol) → HaveSameInvolutions s t → (p : Pair) (d r : ℕ) → IsLeastTurns s p d r → IsLeastTurns t p d r
least_turns-same s t h p d r turns = record {
  positive = turns.positive;
  chamber = turns.chamber;
  in_cell = in_cell-same s t h p d turns.chamber turns.in_cell;
  fixed = act-same s t h (power (turn p) r) turns.chamber ∙ turns.fixed;
  least = λ k e positive there fixed.
      turns.least k e positive (in_cell-same t s (same-sym s t h) p d e there) (act-same t s (same-sym s t h) (power (turn p) k) e ∙ fixed);
}

-- where the degree is the same too, so is the branching value
pub branching-same : (s t : Symbol) → HaveSameInvolutions s t → (p : Pair) (d v : ℕ) → degree t p d ≡ degree s p d → IsBranching s p d v → IsBranching t p d v
branching-same s t h p d v same b =
    record { r = b.r; least_turns = least_turns-same s t h p d b.r b.least_turns; quotient = b.quotient ∙ sym same }

pub turned-same : (s t : Symbol) → HaveSameInvolutions s t → (p : Pair) (k d : ℕ) → turned t p k d ≡ turned s p k d
turned-same s t h p k d = act-same s t h (power (turn p) k) d

pub period-same : (s t : Symbol) → HaveSameInvolutions s t → (p : Pair) (d r : ℕ) → IsPeriod s p d r → IsPeriod t p d r
period-same s t h p d r is = record {
  positive = is.positive;
  fixed = turned-same s t h p r d ∙ is.fixed;
  least = λ k low fixed. is.least k low (sym (turned-same s t h p k d) ∙ fixed);
}
