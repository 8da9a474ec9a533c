-- What a ledger of a board counts, with one call more.
use Rattle.std.proofs.Common.{◌≡◌, ℕ, ◌+◌, Bool, cond, List, [], ◌∷◌, ◌++◌, count_by, sym, subst, arith}
use Rattle.std.proofs.lemmas.List.Sums.{sum_by_push}
use Rattle.dd_front.specs.declared.event.Event.{Event}

pub total_more : (kind : Event → Bool) (old new : List Event) (call : Event) (before after : ℕ) → new ≡ old ++ call ∷ [] → before ≡ count_by kind old
    → after ≡ before + cond (kind call) 1 0 → after ≡ count_by kind new
total_more kind old new call before after log counted more =
    let pushed = sum_by_push (λ e. cond (kind e) 1 0) old call in
    subst (λ es. after ≡ count_by kind es) (sym log) (omega (arith, pushed, counted, more))
