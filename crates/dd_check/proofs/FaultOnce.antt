-- A text has one fault.
use Rattle.std.proofs.Common.{◌≡◌, ◌⊎◌, ℕ, List, refl, sym, ◌∙◌, subst, inl, inr}
use Rattle.std.specs.Prelude.{codes}
use Rattle.dd_check.specs.declared.checkpoint.Checkpoint.{Checkpoint}
use Rattle.dd_check.specs.declared.faults.CheckFault.{CheckFault}
use Rattle.dd_check.specs.declared.faults.CheckFault.TheVariants.{Version, Shape, Range, Position, Long, Memory}
use Rattle.dd_check.specs.Texts.{Text, lines_of}
use Rattle.dd_check.specs.Faults.{FirstFault, shape, range, after, IsOfNoVersion, IsLineFault, IsOldLineFault}
use Rattle.dd_check.specs.Refusals.{HasLineFault, IsMisplaced, IsOldMisplaced, HasFault}
use Rattle.dd_check.proofs.OneValue.{one_number, one_limits, one_old_limits, one_set, one_place}
use Rattle.dd_check.proofs.TellsBack.{tells_back, old_tells_back}
use Rattle.dd_check.proofs.Exclusion.{same_told, not_both, new_no_fault, old_no_fault, short_or_long}

-- two faults of the lines from here on are one
once : {A : Type 0} (lines : List Text) (k : ℕ) (form : List Text → A → Type 0) (in_range : A → Type 0) (later : A → CheckFault → Type 0) (f g : CheckFault)
    → ((words : List Text) (x y : A) → form words x → form words y → x ≡ y) → ((a : A) → later a f → later a g → f ≡ g)
    → FirstFault lines k form in_range later f → FirstFault lines k form in_range later g → f ≡ g
once lines k form in_range later f g one next (shape e none) (shape p q) = e ∙ sym p
once lines k form in_range later f g one next (shape e none) (range b p t out) = absurd (none b t)
once lines k form in_range later f g one next (shape e none) (after b t r l) = absurd (none b t)
once lines k form in_range later f g one next (range a e s out) (shape p none) = absurd (none a s)
once lines k form in_range later f g one next (range a e s out) (range b p t away) = e ∙ sym p
once lines k form in_range later f g one next (range a e s out) (after b t r l) = absurd (out (subst in_range (sym (same_told lines k form a b one s t)) r))
once lines k form in_range later f g one next (after a s r l) (shape p none) = absurd (none a s)
once lines k form in_range later f g one next (after a s r l) (range b p t out) = absurd (out (subst in_range (same_told lines k form a b one s t) r))
once lines k form in_range later f g one next (after a s r l) (after b t u m) = next a l (subst (λ x. later x g) (sym (same_told lines k form a b one s t)) m)

line_once : (ls : List Text) (f g : CheckFault) → IsLineFault ls f → IsLineFault ls g → f ≡ g
line_once ls f g =
    once ls 2 _ _ _ f g (one_number (codes "run")) (λ _.
    once ls 3 _ _ _ f g one_limits (λ _.
    once ls 4 _ _ _ f g (one_set (codes "faces")) (λ _.
    once ls 5 _ _ _ f g (one_set (codes "degrees")) (λ _.
    once ls 6 _ _ _ f g (one_number (codes "lines")) (λ _.
    once ls 7 _ _ _ f g (one_number (codes "bytes")) (λ _.
    once ls 8 _ _ _ f g one_place (λ _ p q. p.shape ∙ sym q.shape)))))))

old_line_once : (ls : List Text) (f g : CheckFault) → IsOldLineFault ls f → IsOldLineFault ls g → f ≡ g
old_line_once ls f g =
    once ls 2 _ _ _ f g (one_number (codes "run")) (λ _.
    once ls 3 _ _ _ f g one_old_limits (λ _.
    once ls 4 _ _ _ f g (one_number (codes "lines")) (λ _.
    once ls 5 _ _ _ f g (one_number (codes "bytes")) (λ _.
    once ls 6 _ _ _ f g one_place (λ _ p q. p.shape ∙ sym q.shape)))))

both_lines : (text : Text) (f g : CheckFault) → HasLineFault text f → HasLineFault text g → f ≡ g
both_lines text f g (inl a) (inl b) = line_once (lines_of text) f g a.1 b.1
both_lines text f g (inl a) (inr b) = absurd (not_both (lines_of text) a.0 b.0)
both_lines text f g (inr a) (inl b) = absurd (not_both (lines_of text) b.0 a.0)
both_lines text f g (inr a) (inr b) = old_line_once (lines_of text) f g a.1 b.1

-- a text of no version has no fault of a line
no_version_line : (text : Text) (f : CheckFault) → IsOfNoVersion (lines_of text) → HasLineFault text f → ⊥
no_version_line text f v (inl a) = v.not_new a.0
no_version_line text f v (inr a) = v.not_old a.0

-- where the values are in range, no line has a fault, and the text is of a version
misplaced_line : (text : Text) (f : CheckFault) (c : Checkpoint) → IsMisplaced text c ⊎ IsOldMisplaced text c → HasLineFault text f → ⊥
misplaced_line text f c (inl m) h = let back = tells_back text c m.stands in new_no_fault text c f back.0 back.1 h
misplaced_line text f c (inr m) h = let back = old_tells_back text c m.stands in old_no_fault text c f back.0 back.1 h

misplaced_version : (text : Text) (c : Checkpoint) → IsMisplaced text c ⊎ IsOldMisplaced text c → IsOfNoVersion (lines_of text) → ⊥
misplaced_version text c (inl m) v = v.not_new (tells_back text c m.stands).0
misplaced_version text c (inr m) v = v.not_old (old_tells_back text c m.stands).0

pub one_fault : (text : Text) (f g : CheckFault) → HasFault text f → HasFault text g → f ≡ g
one_fault text Memory g h k = absurd h
one_fault text Version Version h k = refl
one_fault text Version (Shape j) h k = absurd (no_version_line text (Shape j) h.1 k.1)
one_fault text Version (Range j) h k = absurd (no_version_line text (Range j) h.1 k.1)
one_fault text Version Position h k = absurd (misplaced_version text k.1.0 k.1.1 h.1)
one_fault text Version Long h k = absurd (short_or_long text h.0 k)
one_fault text Version Memory h k = absurd k
one_fault text (Shape i) Version h k = absurd (no_version_line text (Shape i) k.1 h.1)
one_fault text (Shape i) (Shape j) h k = both_lines text (Shape i) (Shape j) h.1 k.1
one_fault text (Shape i) (Range j) h k = both_lines text (Shape i) (Range j) h.1 k.1
one_fault text (Shape i) Position h k = absurd (misplaced_line text (Shape i) k.1.0 k.1.1 h.1)
one_fault text (Shape i) Long h k = absurd (short_or_long text h.0 k)
one_fault text (Shape i) Memory h k = absurd k
one_fault text (Range i) Version h k = absurd (no_version_line text (Range i) k.1 h.1)
one_fault text (Range i) (Shape j) h k = both_lines text (Range i) (Shape j) h.1 k.1
one_fault text (Range i) (Range j) h k = both_lines text (Range i) (Range j) h.1 k.1
one_fault text (Range i) Position h k = absurd (misplaced_line text (Range i) k.1.0 k.1.1 h.1)
one_fault text (Range i) Long h k = absurd (short_or_long text h.0 k)
one_fault text (Range i) Memory h k = absurd k
one_fault text Position Version h k = absurd (misplaced_version text h.1.0 h.1.1 k.1)
one_fault text Position (Shape j) h k = absurd (misplaced_line text (Shape j) h.1.0 h.1.1 k.1)
one_fault text Position (Range j) h k = absurd (misplaced_line text (Range j) h.1.0 h.1.1 k.1)
one_fault text Position Position h k = refl
one_fault text Position Long h k = absurd (short_or_long text h.0 k)
one_fault text Position Memory h k = absurd k
one_fault text Long Version h k = absurd (short_or_long text k.0 h)
one_fault text Long (Shape j) h k = absurd (short_or_long text k.0 h)
one_fault text Long (Range j) h k = absurd (short_or_long text k.0 h)
one_fault text Long Position h k = absurd (short_or_long text k.0 h)
one_fault text Long Long h k = refl
one_fault text Long Memory h k = absurd k
