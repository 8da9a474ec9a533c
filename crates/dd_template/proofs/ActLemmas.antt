-- Words act on the parts of chambers by their reduced words.
use Rattle.std.proofs.Common.{◌≡◌, ℕ, [], ◌∷◌, Option, Some, None, refl, sym, ap, ◌∙◌}
use Rattle.dd_model.specs.declared.index.Index.{Index}
use Rattle.dd_model.specs.declared.pair.Pair.TheVariants.{Edge}
use Rattle.dd_model.specs.Symbol.{Symbol, AreInvolutions, IsSymbol, IsChamber, Word, op, act}
use Rattle.dd_template.specs.Table.{Table, IsPart, move, part_after}
use Rattle.dd_template.specs.Reduced.{put, reduced, put_move, carried}
use Rattle.dd_template.specs.Made.{chamber_of, composed, moved, made}
use Rattle.dd_template.specs.Moves.{AreUndone, LeadsBack}
use Rattle.dd_template.proofs.LetterSteps.{AreSteps, stepped, stepped-put}
use Rattle.dd_template.proofs.PlaceLemmas.{op-made}

pub composed_within : (s : Symbol) → AreInvolutions s → (w : Word) (d : ℕ) → IsChamber s d → IsChamber s (composed s w d)
composed_within s inv [] d h = h
composed_within s inv (i ∷ w) d h = (inv i).within (composed s w d) (composed_within s inv w d h)

composed-stepped : (s : Symbol) (w : Word) (d : ℕ) → composed s w d ≡ stepped (op s) w d
composed-stepped s [] d = refl
composed-stepped s (i ∷ w) d = ap (op s i) (composed-stepped s w d)

-- the involutions of a symbol undo themselves, and s0 and s2 commute
symbol_steps : (s : Symbol) → IsSymbol s → AreSteps (IsChamber s) (op s)
symbol_steps s is = record {
  within = λ i d h. (is.table.involutions i).within d h;
  twice = λ i d h. (is.table.involutions i).involutive d h;
  turns = λ d h. (is.degrees Edge d h).turns;
}

-- a reduced word acts as the word does
composed-put : (s : Symbol) → IsSymbol s → (i : Index) (w : Word) (d : ℕ) → IsChamber s d → composed s (put i w) d ≡ op s i (composed s w d)
composed-put s is i w d h =
    composed-stepped s (put i w) d
    ∙ stepped-put (IsChamber s) (op s) (symbol_steps s is) i w d h
    ∙ ap (op s i) (sym (composed-stepped s w d))

-- a word acts as its reduced word
pub composed-reduced : (s : Symbol) → IsSymbol s → (w : Word) (d : ℕ) → IsChamber s d → composed s (reduced w) d ≡ composed s w d
composed-reduced s is [] d h = refl
composed-reduced s is (i ∷ w) d h = composed-put s is i (reduced w) d h ∙ ap (op s i) (composed-reduced s is w d h)

composed-put_move : (s : Symbol) → IsSymbol s → (by : Option Index) (w : Word) (d : ℕ) → IsChamber s d → composed s (put_move by w) d ≡ moved s by (composed s w d)
composed-put_move s is None w d h = refl
composed-put_move s is (Some i) w d h = composed-put s is i w d h

-- A word leads from a part of a chamber to the part to which its moves lead, of the chamber to which its reduced word leads.
pub act-made : (t : Table) (s : Symbol) → AreUndone t → IsSymbol s → (w v : Word) (d x : ℕ) → IsChamber s d → IsPart t x
    → act (made t s) w (chamber_of t (composed s v d) x) ≡ chamber_of t (composed s (carried t w x v) d) (part_after t w x)
act-made t s undone is [] v d x h inside = refl
act-made t s undone is (i ∷ w) v d x h inside =
    let m = move t i x in
    ap (act (made t s) w)
    (op-made t s i (composed s v d) x (composed_within s is.table.involutions v d h) inside
    ∙ ap (λ e. chamber_of t e m.to) (sym (composed-put_move s is m.by v d h)))
    ∙ act-made t s undone is w (put_move m.by v) d m.to h (undone i x inside).part

-- a word whose moves lead back to the part
pub act-back : (t : Table) (s : Symbol) → AreUndone t → IsSymbol s → (w : Word) (d x : ℕ) (to : Word) → IsChamber s d → IsPart t x
    → LeadsBack t w x to → act (made t s) w (chamber_of t d x) ≡ chamber_of t (composed s to d) x
act-back t s undone is w d x to h inside back =
    act-made t s undone is w [] d x h inside
    ∙ ap (λ v. chamber_of t (composed s v d) (part_after t w x)) back.word
    ∙ ap (chamber_of t (composed s to d)) back.part

-- what a word does to a part of a chamber
pub act-part : (t : Table) (s : Symbol) → AreUndone t → IsSymbol s → (w : Word) (d x : ℕ) → IsChamber s d → IsPart t x
    → act (made t s) w (chamber_of t d x) ≡ chamber_of t (composed s (carried t w x []) d) (part_after t w x)
act-part t s undone is w d x h inside = act-made t s undone is w [] d x h inside
