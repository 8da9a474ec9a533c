-- It is decided whether a symbol is connected: chambers that a letter leads to from those that are reached are taken out of a
-- list, until no letter leads out of the list.
use Rattle.std.proofs.Common.{◌≡◌, ℕ, zero, suc, ◌+◌, ◌-◌, ◌<◌, ◌≤◌, ◌⊎◌, List, [], ◌∷◌, ◌++◌, length, refl, sym, ap, ◌∙◌, subst, inl, inr, ⊎_elim, arith}
use Rattle.std.proofs.lemmas.Bool.{cases_eq}
use Rattle.std.specs.List.{Contains}
use Rattle.dd_model.specs.declared.index.Index.{Index}
use Rattle.dd_model.specs.declared.index.Index.TheVariants.{Zero, One, Two}
use Rattle.dd_model.specs.Symbol.{Symbol, IsChamber, AreInvolutions, Word, op, act}
use Rattle.dd_model.specs.Connected.{IsReached, Connected}
use Rattle.dd_model.specs.Code.{count_from}
use Rattle.dd_model.proofs.CellSearch.{Decided}
use Rattle.dd_model.proofs.CountFrom.{within_count, count_contains}
use Rattle.dd_model.proofs.Lists.{Contains-none, Contains-head, Contains-later, Contains-cases}
use Rattle.dd_model.proofs.Words.{act-append}
use Rattle.dd_quotient.proofs.Deciding.{decide_contains}

-- ## A list without one of its members

record IsRemoved (xs : List ℕ) (x : ℕ) (rest : List ℕ) : Type 0 where
  pub shorter : length xs ≡ suc (length rest)
  pub kept : (y : ℕ) → Contains xs y → (x ≡ y) ⊎ Contains rest y
  pub inside : (y : ℕ) → Contains rest y → Contains xs y

removed : (xs : List ℕ) (x : ℕ) → Contains xs x → (rest : List ℕ) × IsRemoved xs x rest
removed [] x there = absurd (Contains-none x there)
removed (z ∷ xs) x there =
    ⊎_elim
    (λ first. (xs, record { shorter = refl; kept = λ y here. subst (λ u. (u ≡ y) ⊎ Contains xs y) first (Contains-cases z y xs here); inside = λ y. Contains-later z y xs }))
    (λ later.
    let r = removed xs x later in (
      z ∷ r.0,
      record {
        shorter = ap suc r.1.shorter;
        kept = λ y here. ⊎_elim
            (λ head. inr (subst (Contains (z ∷ r.0)) head (Contains-head z r.0)))
            (λ tail. ⊎_elim (λ e. inl e) (λ still. inr (Contains-later z y r.0 still)) (r.1.kept y tail))
            (Contains-cases z y xs here);
        inside = λ y here. ⊎_elim
            (λ head. subst (Contains (z ∷ xs)) head (Contains-head z xs))
            (λ tail. Contains-later z y xs (r.1.inside y tail))
            (Contains-cases z y r.0 here);
      },
    ))
    (Contains-cases z x xs there)

-- ## Chambers that may be out of reach

-- each chamber but those of the list is reached
record IsOpen (s : Symbol) (left : List ℕ) : Type 0 where
  pub chambers : (d : ℕ) → Contains left d → IsChamber s d
  pub outside : Contains left 1 → ⊥
  pub reached : (d : ℕ) → IsChamber s d → IsReached s d ⊎ Contains left d

-- and no letter leads out of the list
record IsClosed (s : Symbol) (left : List ℕ) : Type 0 where
  pub is_open : IsOpen s left
  pub kept : (i : Index) (d : ℕ) → Contains left d → Contains left (op s i d)

-- a letter leads out of the list
record LeadsOut (s : Symbol) (left : List ℕ) : Type 0 where
  pub chamber : ℕ
  pub inside : Contains left chamber
  pub letter : Index
  pub outside : Contains left (op s letter chamber) → ⊥

kept_or_out : (s : Symbol) (left : List ℕ) (i : Index) (part : List ℕ) → ((d : ℕ) → Contains part d → Contains left d)
    → ((d : ℕ) → Contains part d → Contains left (op s i d)) ⊎ LeadsOut s left
kept_or_out s left i [] inside = inl (λ d none. absurd (Contains-none d none))
kept_or_out s left i (x ∷ part) inside =
    ⊎_elim
    (λ here. ⊎_elim
    (λ later. inl (λ d there. ⊎_elim (λ first. subst (λ u. Contains left (op s i u)) first here) (later d) (Contains-cases x d part there)))
    (λ out. inr out)
    (kept_or_out s left i part (λ d there. inside d (Contains-later x d part there))))
    (λ out. inr (record { chamber = x; inside = inside x (Contains-head x part); letter = i; outside = out }))
    (decide_contains left (op s i x))

closed_or_out : (s : Symbol) (left : List ℕ) → ((i : Index) (d : ℕ) → Contains left d → Contains left (op s i d)) ⊎ LeadsOut s left
closed_or_out s left =
    ⊎_elim (λ a. ⊎_elim (λ b. ⊎_elim
    (λ c. inl (λ i. elim i as (λ j. (d : ℕ) → Contains left d → Contains left (op s j d)) [ Zero ↦ a | One ↦ b | Two ↦ c ]))
    inr (test Two)) inr (test One)) inr (test Zero)
  where
    test : (i : Index) → ((d : ℕ) → Contains left d → Contains left (op s i d)) ⊎ LeadsOut s left
    test i = kept_or_out s left i left (λ d there. there)

-- a letter leads to the chamber from one that is reached
reached_by_letter : (s : Symbol) → AreInvolutions s → (i : Index) (d : ℕ) → IsChamber s d → IsReached s (op s i d) → IsReached s d
reached_by_letter s inv i d h r = record {
  word = r.word ++ i ∷ [];
  leads = act-append s r.word (i ∷ []) 1 ∙ ap (op s i) r.leads ∙ (inv i).involutive d h;
}

still_open : (s : Symbol) (left : List ℕ) → AreInvolutions s → IsOpen s left → (out : LeadsOut s left) → (rest : List ℕ) → IsRemoved left out.chamber rest → IsOpen s rest
still_open s left inv o out rest r = record {
  chambers = λ d there. o.chambers d (r.inside d there);
  outside = λ there. o.outside (r.inside 1 there);
  reached = λ d h. ⊎_elim
      (λ before. inl before)
      (λ inside. ⊎_elim (λ e. inl (subst (IsReached s) e now)) (λ still. inr still) (r.kept d inside))
      (o.reached d h);
}
  where
    here : IsChamber s out.chamber
    here = o.chambers out.chamber out.inside

    now : IsReached s out.chamber
    now = reached_by_letter s inv out.letter out.chamber here
        (⊎_elim (λ yes. yes) (λ inside. absurd (out.outside inside)) (o.reached (op s out.letter out.chamber) ((inv out.letter).within out.chamber here)))

-- what a letter leads out of is taken out, until there is no such chamber
close : (s : Symbol) → AreInvolutions s → (k : ℕ) (left : List ℕ) → length left < k → IsOpen s left → (rest : List ℕ) × IsClosed s rest
close s inv zero left few o = absurd (omega arith)
close s inv (suc k) left few o =
    ⊎_elim
    (λ kept. (left, record { is_open = o; kept = kept }))
    (λ out.
    let r = removed left out.chamber out.inside in
    let shorter = r.1.shorter in
    close s inv k r.0 (omega arith) (still_open s left inv o out r.0 r.1))
    (closed_or_out s left)

-- no word leads into what no letter leads out of
never_inside : (s : Symbol) (left : List ℕ) → AreInvolutions s → IsClosed s left → (w : Word) (d : ℕ) → IsChamber s d → (Contains left d → ⊥) → Contains left (act s w d) → ⊥
never_inside s left inv c [] d h out inside = out inside
never_inside s left inv c (i ∷ w) d h out inside =
    never_inside s left inv c w (op s i d) ((inv i).within d h) (λ there. out (subst (Contains left) ((inv i).involutive d h) (c.kept i (op s i d) there))) inside

all_but_first : (s : Symbol) → IsOpen s (count_from 2 (s.size - 1))
all_but_first s = record {
  chambers = λ d there. let w = within_count 2 (s.size - 1) d there in let low = w.0 in let high = w.1 in (omega arith, omega arith);
  outside = λ there. let w = within_count 2 (s.size - 1) 1 there in let low = w.0 in absurd (omega arith);
  reached = λ d h. let low = h.0 in let high = h.1 in ⊎_elim
      (λ one. inl (record { word = []; leads = one }))
      (λ other. inr (count_contains 2 (s.size - 1) d (omega arith) (omega arith)))
      (cases_eq 1 d);
}

pub decide_connected : (s : Symbol) → AreInvolutions s → 1 ≤ s.size → Decided (Connected s)
decide_connected s inv some = let end = close s inv (length (count_from 2 (s.size - 1)) + 1) (count_from 2 (s.size - 1)) (omega arith) (all_but_first s) in by end.0 end.1
  where
    by : (rest : List ℕ) → IsClosed s rest → Decided (Connected s)
    by [] c = inl (λ d h. ⊎_elim (λ reached. reached) (λ none. absurd (Contains-none d none)) (c.is_open.reached d h))
    by (x ∷ rest) c = inr (λ con.
        let here = Contains-head x rest in
        let r = con x (c.is_open.chambers x here) in
        never_inside s (x ∷ rest) inv c r.word 1 (omega arith, some) c.is_open.outside (subst (Contains (x ∷ rest)) (sym r.leads) here))
