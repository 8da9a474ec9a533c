-- Lists whose members are related in turn.
use Rattle.std.proofs.Common.{◌≡◌, ℕ, zero, suc, ◌+◌, ◌<◌, List, [], ◌∷◌, ◌++◌, take, get_or, length, inl, inr, refl, ap, ◌∙◌, arith}
use Rattle.std.specs.List.{AllByRecursion}
use Rattle.dd_model.specs.Symbol.{Symbol}
use Rattle.dd_suite_commands.specs.declared.commands.SymbolCommand.{SymbolCommand}
use Rattle.dd_suite_commands.specs.declared.refusals.SymbolRefusal.{SymbolRefusal}
use Rattle.dd_suite_commands.specs.InTurn.{AreInTurn}
use Rattle.dd_suite_commands.specs.Made.{IsMade, IsFaultOf, IsFirstFault}

module _ (R : Symbol → Symbol → Type 0) where
  -- one member more
  pub in_turn_more : (ss ts : List Symbol) (s t : Symbol) → AreInTurn R ss ts → R s t → AreInTurn R (ss ++ s ∷ []) (ts ++ t ∷ [])
  in_turn_more [] [] s t a b = (b, tt)
  in_turn_more [] (u ∷ ts) s t a b = absurd a
  in_turn_more (r ∷ ss) [] s t a b = absurd a
  in_turn_more (r ∷ ss) (u ∷ ts) s t a b = (a.0, in_turn_more ss ts s t a.1 b)

  -- as many members
  pub in_turn_length : (ss ts : List Symbol) → AreInTurn R ss ts → length ts ≡ length ss
  in_turn_length [] [] a = refl
  in_turn_length [] (t ∷ ts) a = absurd a
  in_turn_length (s ∷ ss) [] a = absurd a
  in_turn_length (s ∷ ss) (t ∷ ts) a = let rest = in_turn_length ss ts a.1 in omega arith

  -- what is related to each member is determined
  pub in_turn_unique : (P : Symbol → Type 0) → ((s t u : Symbol) → P s → R s t → R s u → t ≡ u)
      → (ss ts us : List Symbol) → AllByRecursion P ss → AreInTurn R ss ts → AreInTurn R ss us → ts ≡ us
  in_turn_unique P one [] [] [] all a b = refl
  in_turn_unique P one [] [] (u ∷ us) all a b = absurd b
  in_turn_unique P one [] (t ∷ ts) us all a b = absurd a
  in_turn_unique P one (s ∷ ss) [] us all a b = absurd a
  in_turn_unique P one (s ∷ ss) (t ∷ ts) [] all a b = absurd b
  in_turn_unique P one (s ∷ ss) (t ∷ ts) (u ∷ us) all a b =
      ap (λ x. x ∷ ts) (one s t u all.0 a.0 b.0) ∙ ap (λ xs. u ∷ xs) (in_turn_unique P one ss ts us all.1 a.1 b.1)

-- each member is related to itself
pub in_turn_same : (ss : List Symbol) → AreInTurn (λ s t. s ≡ t) ss ss
in_turn_same [] = tt
in_turn_same (s ∷ ss) = (refl, in_turn_same ss)

-- After symbols of which something is made comes the first with a fault.
pub first_fault_after : (command : SymbolCommand) (k : ℕ) (ss made : List Symbol) (i : ℕ) (s : Symbol) (r : SymbolRefusal) → i < length ss
    → AreInTurn (IsMade command) (take i ss) made → r.symbol ≡ k + i → IsFaultOf command (get_or ss i s) r.why → IsFirstFault command k ss r
first_fault_after command k [] made i s r below a e fault = absurd (omega arith)
first_fault_after command k (t ∷ ss) made zero s r below a e fault = inl ((omega arith), fault)
first_fault_after command k (t ∷ ss) [] (suc i) s r below a e fault = absurd a
first_fault_after command k (t ∷ ss) (u ∷ made) (suc i) s r below a e fault =
    let rest : i < length ss = omega arith in
    let place : r.symbol ≡ k + 1 + i = omega arith in
    inr ((u, a.0), first_fault_after command (k + 1) ss made i s r rest a.1 place fault)
