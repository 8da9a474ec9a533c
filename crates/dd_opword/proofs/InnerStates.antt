-- A word takes the two tables as one along its outer moves, and the inner part by the reduced word of these moves.
use Rattle.std.proofs.Common.{◌≡◌, ℕ, zero, suc, ◌+◌, ◌*◌, [], ◌∷◌, ◌++◌, Option, Some, None, refl, sym, ap, ◌∙◌, arith}
use Rattle.std.proofs.Math.Nat.{mul-suc}
use Rattle.dd_model.proofs.Words.{power_add}
use Rattle.dd_model.specs.declared.index.Index.{Index}
use Rattle.dd_model.specs.declared.index.Index.TheVariants.{Zero, One, Two}
use Rattle.dd_model.specs.Symbol.{Word, power}
use Rattle.dd_template.specs.declared.tables.Move.{Move}
use Rattle.dd_template.specs.Table.{Table, IsPart, move, part_after}
use Rattle.dd_template.specs.Reduced.{put, put_move, carried, IsReduced}
use Rattle.dd_template.specs.Moves.{AreUndone, Commute, LeadsBack}
use Rattle.dd_template.proofs.LetterSteps.{AreSteps, stepped, stepped_within, stepped-put, put_steps, repeated}
use Rattle.dd_opword.specs.Composed.{part_in, inner_move, composed}
use Rattle.dd_opword.proofs.ComposedParts.{move-composed}

-- ## Words before words

-- the letter of a move before a word that stands before another
put_move-before : (by : Option Index) (w v : Word) → IsReduced v → put_move by (stepped put w v) ≡ stepped put (put_move by w) v
put_move-before None w v h = refl
put_move-before (Some i) w v h = sym (stepped-put IsReduced put put_steps i w v h)

-- what a word carries before another word stands before it
pub carried-before : (t : Table) (w : Word) (x : ℕ) (u v : Word) → IsReduced v → carried t w x (stepped put u v) ≡ stepped put (carried t w x u) v
carried-before t [] x u v h = refl
carried-before t (i ∷ w) x u v h =
    let m = move t i x in
    ap (carried t w m.to) (put_move-before m.by u v h) ∙ carried-before t w m.to (put_move m.by u) v h

put_move_reduced : (by : Option Index) (w : Word) → IsReduced w → IsReduced (put_move by w)
put_move_reduced None w h = h
put_move_reduced (Some i) w h = put_steps.within i w h

put_move_twice : (by : Option Index) (w : Word) → IsReduced w → put_move by (put_move by w) ≡ w
put_move_twice None w h = refl
put_move_twice (Some i) w h = put_steps.twice i w h

-- ## States

-- a part, and the word by which its chamber went
pub record State : Type 0 where
  pub part : ℕ
  pub word : Word

pub record IsState (t : Table) (a : State) : Type 0 where
  pub part : IsPart t a.part
  pub word : IsReduced a.word

-- after a move
abbrev pub moved_by : Move → Word → State
moved_by m w = record { part = m.to; word = put_move m.by w }

abbrev pub step : Table → Index → State → State
step t i a = moved_by (move t i a.part) a.word

-- the moves of a word, the first of them first
abbrev pub run : Table → Word → State → State
run t [] a = a
run t (i ∷ w) a = run t w (step t i a)

pub part-run : (t : Table) (w : Word) (a : State) → (run t w a).part ≡ part_after t w a.part
part-run t [] a = refl
part-run t (i ∷ w) a = part-run t w (step t i a)

pub word-run : (t : Table) (w : Word) (a : State) → (run t w a).word ≡ carried t w a.part a.word
word-run t [] a = refl
word-run t (i ∷ w) a = word-run t w (step t i a)

pub run-append : (t : Table) (u w : Word) (a : State) → run t (u ++ w) a ≡ run t w (run t u a)
run-append t [] w a = refl
run-append t (i ∷ u) w a = run-append t u w (step t i a)

pub same_state : (a b : State) → a.part ≡ b.part → a.word ≡ b.word → a ≡ b
same_state a b part word = λ i. record { part = part i; word = word i }

step_within : (t : Table) → AreUndone t → (i : Index) (a : State) → IsState t a → IsState t (step t i a)
step_within t undone i a h = record {
  part = (undone i a.part h.part).part;
  word = put_move_reduced (move t i a.part).by a.word h.word;
}

step_twice : (t : Table) → AreUndone t → (i : Index) (a : State) → IsState t a → step t i (step t i a) ≡ a
step_twice t undone i a h =
    let m = move t i a.part in
    let back = undone i a.part h.part in
    same_state (step t i (step t i a)) a back.back
    (ap (λ by. put_move by (put_move m.by a.word)) back.by ∙ put_move_twice m.by a.word h.word)

step_turns : (t : Table) → Commute t → (a : State) → IsState t a → step t Two (step t Zero (step t Two (step t Zero a))) ≡ a
step_turns t commuting a h =
    let w = Zero ∷ Two ∷ Zero ∷ Two ∷ [] in
    let back = commuting a.part h.part in
    same_state (run t w a) a back.part
    (carried-before t w a.part [] a.word h.word ∙ ap (λ u. stepped put u a.word) back.word)

-- the moves of a lawful table undo themselves, and those of 0 and 2 commute
pub state_steps : (t : Table) → AreUndone t → Commute t → AreSteps (IsState t) (step t)
state_steps t undone commuting = record {
  within = step_within t undone;
  twice = step_twice t undone;
  turns = step_turns t commuting;
}

-- ## Both tables

-- the state of both tables: the inner one's with an outer part
abbrev pub with_outer : Table → State → ℕ → State
with_outer outer a x = record { part = part_in outer a.part x; word = a.word }

-- an outer move takes the inner part along
pub record AreTogether (outer inner : Table) : Type 0 where
  pub outer_undone : AreUndone outer
  pub inner_undone : AreUndone inner
  pub commuting : Commute inner

-- where an outer move by this involution leads
move_leads : (outer inner : Table) (by : Option Index) (to : ℕ) (a : State)
    → moved_by (inner_move outer inner a.part by to) a.word ≡ with_outer outer (stepped (step inner) (put_move by []) a) to
move_leads outer inner None to a = refl
move_leads outer inner (Some Zero) to a = refl
move_leads outer inner (Some One) to a = refl
move_leads outer inner (Some Two) to a = refl

stepped-put_move : (inner : Table) → AreSteps (IsState inner) (step inner) → (by : Option Index) (w : Word) (a : State) → IsState inner a
    → stepped (step inner) (put_move by []) (stepped (step inner) w a) ≡ stepped (step inner) (put_move by w) a
stepped-put_move inner steps None w a h = refl
stepped-put_move inner steps (Some Zero) w a h = sym (stepped-put (IsState inner) (step inner) steps Zero w a h)
stepped-put_move inner steps (Some One) w a h = sym (stepped-put (IsState inner) (step inner) steps One w a h)
stepped-put_move inner steps (Some Two) w a h = sym (stepped-put (IsState inner) (step inner) steps Two w a h)

step-both : (outer inner : Table) → AreTogether outer inner → (i : Index) (w : Word) (a : State) (x : ℕ) → IsState inner a → IsPart outer x
    → step (composed outer inner) i (with_outer outer (stepped (step inner) w a) x)
    ≡ with_outer outer (stepped (step inner) (put_move (move outer i x).by w) a) (move outer i x).to
step-both outer inner both i w a x h inside =
    let steps = state_steps inner both.inner_undone both.commuting in
    let b = stepped (step inner) w a in
    let hb = stepped_within (IsState inner) (step inner) steps w a h in
    let m = move outer i x in
    ap (λ n. moved_by n b.word) (move-composed outer inner i b.part x hb.part inside)
    ∙ move_leads outer inner m.by m.to b
    ∙ ap (λ c. with_outer outer c m.to) (stepped-put_move inner steps m.by w a h)

-- The outer part goes by the outer moves, and the inner state by their reduced word.
run-both : (outer inner : Table) → AreTogether outer inner → (v w : Word) (a : State) (x : ℕ) → IsState inner a → IsPart outer x
    → run (composed outer inner) v (with_outer outer (stepped (step inner) w a) x)
    ≡ with_outer outer (stepped (step inner) (carried outer v x w) a) (part_after outer v x)
run-both outer inner both [] w a x h inside = refl
run-both outer inner both (i ∷ v) w a x h inside =
    let m = move outer i x in
    ap (run (composed outer inner) v) (step-both outer inner both i w a x h inside)
    ∙ run-both outer inner both v (put_move m.by w) a m.to h (both.outer_undone i x inside).part

pub run-composed : (outer inner : Table) → AreTogether outer inner → (v : Word) (a : State) (x : ℕ) → IsState inner a → IsPart outer x
    → run (composed outer inner) v (with_outer outer a x) ≡ with_outer outer (stepped (step inner) (carried outer v x []) a) (part_after outer v x)
run-composed outer inner both v a x h inside = run-both outer inner both v [] a x h inside

-- where the word leads back to the outer part, the inner state goes by what it carries
pub run-back : (outer inner : Table) → AreTogether outer inner → (v to : Word) (a : State) (x : ℕ) → IsState inner a → IsPart outer x → LeadsBack outer v x to
    → run (composed outer inner) v (with_outer outer a x) ≡ with_outer outer (stepped (step inner) to a) x
run-back outer inner both v to a x h inside back =
    run-composed outer inner both v a x h inside
    ∙ ap (λ w. with_outer outer (stepped (step inner) w a) (part_after outer v x)) back.word
    ∙ ap (with_outer outer (stepped (step inner) to a)) back.part

pub run-rounds : (outer inner : Table) → AreTogether outer inner → (v to : Word) (c k : ℕ) (a : State) (x : ℕ) → IsState inner a → IsPart outer x
    → LeadsBack outer (power v c) x to
    → run (composed outer inner) (power v (c * k)) (with_outer outer a x) ≡ with_outer outer (repeated (stepped (step inner) to) k a) x
run-rounds outer inner both v to c zero a x h inside back =
    let e : c * zero ≡ 0 = omega arith in
    ap (λ n. run (composed outer inner) (power v n) (with_outer outer a x)) e
run-rounds outer inner both v to c (suc k) a x h inside back =
    let e : c * suc k ≡ c + c * k = let m = mul-suc c k in omega arith in
    let steps = state_steps inner both.inner_undone both.commuting in
    let next = stepped (step inner) to a in
    let hn = stepped_within (IsState inner) (step inner) steps to a h in
    ap (λ n. run (composed outer inner) (power v n) (with_outer outer a x)) e
    ∙ ap (λ w. run (composed outer inner) w (with_outer outer a x)) (power_add v c (c * k))
    ∙ run-append (composed outer inner) (power v c) (power v (c * k)) (with_outer outer a x)
    ∙ ap (run (composed outer inner) (power v (c * k))) (run-back outer inner both (power v c) to a x h inside back)
    ∙ run-rounds outer inner both v to c k next x hn inside back
