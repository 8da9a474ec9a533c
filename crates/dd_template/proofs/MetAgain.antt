-- A part is met again after at most as many turns as there are parts.
use Rattle.std.proofs.Common.{◌≡◌, ℕ, ◌≤◌, Option, Some, None, [], ◌∷◌, refl, sym, ap, ◌∙◌, subst, arith}
use Rattle.dd_model.specs.declared.index.Index.{Index}
use Rattle.dd_model.specs.declared.index.Index.TheVariants.{Zero, One, Two}
use Rattle.dd_model.specs.declared.pair.Pair.{Pair}
use Rattle.dd_model.specs.Symbol.{Symbol, AreInvolutions, IsChamber, Word, op, act, power, turn}
use Rattle.dd_model.specs.Worked.{single}
use Rattle.dd_model.proofs.Turns.{period_bound}
use Rattle.dd_template.specs.Table.{Table, IsPart, move, part_after}
use Rattle.dd_template.specs.Made.{chamber_of, moved, made}
use Rattle.dd_template.specs.Moves.{AreUndone}
use Rattle.dd_template.specs.Entries.{IsApart}
use Rattle.dd_template.proofs.PlaceLemmas.{chamber_of_within, op-made, same_place}
use Rattle.dd_template.proofs.MadeSymbols.{made_involutions}
use Rattle.dd_template.proofs.TurnLemmas.{part_after_within}

-- The chambers of what a table makes of one chamber are its parts.
abbrev one : Symbol
one = single 1 1

one_chamber : IsChamber one 1
one_chamber = (omega arith, omega arith)

op-one : (i : Index) (d : ℕ) → IsChamber one d → op one i d ≡ d
op-one i d h = let e : d ≡ 1 = omega arith in subst (λ x. op one i x ≡ x) (sym e) (elim i as (λ j. op one j 1 ≡ 1) [ Zero ↦ refl | One ↦ refl | Two ↦ refl ])

one_involutions : AreInvolutions one
one_involutions i = record {
  within = λ d h. subst (IsChamber one) (sym (op-one i d h)) h;
  involutive = λ d h. ap (op one i) (op-one i d h) ∙ op-one i d h;
}

moved-one : (by : Option Index) → moved one by 1 ≡ 1
moved-one None = refl
moved-one (Some i) = op-one i 1 one_chamber

act-parts : (t : Table) → AreUndone t → (w : Word) (x : ℕ) → IsPart t x → act (made t one) w (chamber_of t 1 x) ≡ chamber_of t 1 (part_after t w x)
act-parts t undone [] x inside = refl
act-parts t undone (i ∷ w) x inside =
    let m = move t i x in
    ap (act (made t one) w) (op-made t one i 1 x one_chamber inside ∙ ap (λ d. chamber_of t d m.to) (moved-one m.by))
    ∙ act-parts t undone w m.to (undone i x inside).part

pub met_again : (t : Table) → AreUndone t → (p : Pair) (x c : ℕ) → IsPart t x → IsApart t p x c → c ≤ t.parts
met_again t undone p x c inside apart =
    let some : 1 ≤ t.parts = omega arith in
    let bound = period_bound (made t one) (made_involutions t one some undone one_involutions) p (chamber_of t 1 x) c (chamber_of_within t one 1 x one_chamber inside)
    (λ k low high fixed.
    let w = power (turn p) k in
    let there = act-parts t undone w x inside in
    apart k low high (same_place t 1 1 (part_after t w x) x (omega arith) (omega arith) (part_after_within t undone w x inside) inside (sym there ∙ fixed)).part) in
    omega arith
