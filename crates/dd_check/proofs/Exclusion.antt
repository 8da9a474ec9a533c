-- A text has one outcome.
use Rattle.std.proofs.Common.{get_or, ◌≡◌, ◌⊎◌, ◌≤◌, ◌<◌, ℕ, List, length, sym, ap, ◌∙◌, subst, inl, inr, arith}
use Rattle.std.specs.Prelude.{codes}
use Rattle.dd_model.specs.declared.allowed.Allowed.{Allowed}
use Rattle.dd_model.proofs.AllowedSets.{same_sets, same_from_sets}
use Rattle.dd_check.specs.declared.checkpoint.Checkpoint.{Checkpoint}
use Rattle.dd_check.specs.declared.faults.CheckFault.{CheckFault}
use Rattle.dd_check.specs.declared.faults.CheckFault.TheVariants.{Version, Shape, Range, Position, Long, Memory}
use Rattle.dd_check.specs.declared.raw_values.Item.{Item}
use Rattle.dd_check.specs.Texts.{Text, lines_of, words_of}
use Rattle.dd_check.specs.Sets.{IsSetOf, HasNumberIn}
use Rattle.dd_check.specs.Ranges.{IsInRange, IsInOldRange}
use Rattle.dd_check.specs.Rows.{IsPlaceRow}
use Rattle.dd_check.specs.Checks.{limits_of, old_limits_of}
use Rattle.dd_check.specs.Faults.{Tells, FirstFault, shape, range, after, IsNew, IsOld, IsLineFault, IsOldLineFault}
use Rattle.dd_check.specs.Lines.{IsToldInRange}
use Rattle.dd_check.specs.Readings.{TellsCheck, TellsOldCheck}
use Rattle.dd_check.specs.Accepted.{IsCheckpointText}
use Rattle.dd_check.specs.Refusals.{IsMisplaced, IsOldMisplaced, HasFault}
use Rattle.dd_check.specs.Places.{IsPlace, IsOldPlace}
use Rattle.dd_check.proofs.CheckFaults.{set_in_range}
use Rattle.dd_check.proofs.OneValue.{one_number, one_limits, one_old_limits, one_set, one_place}
use Rattle.dd_check.proofs.TellsBack.{tells_back, old_tells_back}

-- a line tells one value
pub same_told : {A : Type 0} (lines : List Text) (k : ℕ) (form : List Text → A → Type 0) (a b : A) → ((words : List Text) (x y : A) → form words x → form words y → x ≡ y)
    → Tells form lines k a → Tells form lines k b → a ≡ b
same_told lines k form a b one s t =
    one (words_of s.line) a b s.form_is (subst (λ l. form (words_of l) b) (sym t.is_line.line_is ∙ s.is_line.line_is) t.form_is)

excluded : {A : Type 0} (lines : List Text) (k : ℕ) (form : List Text → A → Type 0) (in_range : A → Type 0) (later : A → CheckFault → Type 0) (fault : CheckFault) (b : A)
    → ((words : List Text) (x y : A) → form words x → form words y → x ≡ y) → IsToldInRange lines k form in_range b → ((a : A) → a ≡ b → later a fault → ⊥)
    → FirstFault lines k form in_range later fault → ⊥
excluded lines k form in_range later fault b one t next (shape e none) = none b t.tells
excluded lines k form in_range later fault b one t next (range a e s out) = out (subst in_range (sym (same_told lines k form a b one s t.tells)) t.in_range)
excluded lines k form in_range later fault b one t next (after a s r l) = next a (same_told lines k form a b one s t.tells) l

pub no_line_fault : (ls : List Text) (f : CheckFault) (c : Checkpoint) → TellsCheck ls c → IsLineFault ls f → ⊥
no_line_fault ls f c t =
    excluded ls 2 _ _ _ f c.run (one_number (codes "run")) t.run (λ _ _.
    excluded ls 3 _ _ _ f (limits_of c.request) one_limits t.limits (λ l e.
    excluded ls 4 _ _ _ f t.faces.items (one_set (codes "faces")) (set_in_range ls 4 (codes "faces") c.request.faces t.faces) (λ _ _.
    excluded ls 5 _ _ _ f t.degrees.items (one_set (codes "degrees")) (set_in_range ls 5 (codes "degrees") c.request.degrees t.degrees) (λ _ _.
    excluded ls 6 _ _ _ f c.lines (one_number (codes "lines")) t.count (λ _ _.
    excluded ls 7 _ _ _ f c.bytes (one_number (codes "bytes")) t.bytes (λ _ _.
    excluded ls 8 _ _ _ f c.at one_place (subst (λ m. IsToldInRange ls 8 IsPlaceRow (IsInRange m.chambers) c.at) (sym e) t.at) (λ _ _ longer. longer.longer t.end)))))))

pub no_old_line_fault : (ls : List Text) (f : CheckFault) (c : Checkpoint) → TellsOldCheck ls c → IsOldLineFault ls f → ⊥
no_old_line_fault ls f c t =
    excluded ls 2 _ _ _ f c.run (one_number (codes "run")) t.run (λ _ _.
    excluded ls 3 _ _ _ f (old_limits_of c.request t.face t.degree) one_old_limits t.limits (λ l e.
    excluded ls 4 _ _ _ f c.lines (one_number (codes "lines")) t.count (λ _ _.
    excluded ls 5 _ _ _ f c.bytes (one_number (codes "bytes")) t.bytes (λ _ _.
    excluded ls 6 _ _ _ f c.at one_place (subst (λ m. IsToldInRange ls 6 IsPlaceRow (IsInOldRange m.chambers) c.at) (sym e) t.at) (λ _ _ longer. longer.longer t.end)))))

pub not_both : (ls : List Text) → IsNew ls → IsOld ls → ⊥
not_both ls a b = differ (sym a.line_is ∙ b.line_is)
  where
    differ : codes "dressline checkpoint 2" ≡ codes "dressline checkpoint 1" → ⊥
    differ e = let digit : 50 ≡ 49 = ap (λ l. get_or l 21 0) e in omega (arith, digit)

-- ---- one checkpoint

same_item_sets : (xs ys : List Item) (a b : Allowed) → xs ≡ ys → IsSetOf xs a → IsSetOf ys b → a ≡ b
same_item_sets xs ys a b e p q =
    same_sets a b (λ m. (λ h. (q m).1 (subst (λ zs. HasNumberIn zs m) e ((p m).0 h)), λ h. (p m).1 (subst (λ zs. HasNumberIn zs m) (sym e) ((q m).0 h))))

same_values : (ls : List Text) (c d : Checkpoint) → TellsCheck ls c → TellsCheck ls d → c ≡ d
same_values ls c d s t =
    let run = same_told ls 2 _ c.run d.run (one_number (codes "run")) s.run.tells t.run.tells in
    let limits = same_told ls 3 _ (limits_of c.request) (limits_of d.request) one_limits s.limits.tells t.limits.tells in
    let faces = same_item_sets s.faces.items t.faces.items c.request.faces d.request.faces
    (same_told ls 4 _ s.faces.items t.faces.items (one_set (codes "faces")) s.faces.tells t.faces.tells) s.faces.set_is t.faces.set_is in
    let degrees = same_item_sets s.degrees.items t.degrees.items c.request.degrees d.request.degrees
    (same_told ls 5 _ s.degrees.items t.degrees.items (one_set (codes "degrees")) s.degrees.tells t.degrees.tells) s.degrees.set_is t.degrees.set_is in
    let lines = same_told ls 6 _ c.lines d.lines (one_number (codes "lines")) s.count.tells t.count.tells in
    let bytes = same_told ls 7 _ c.bytes d.bytes (one_number (codes "bytes")) s.bytes.tells t.bytes.tells in
    let at = same_told ls 8 _ c.at d.at one_place s.at.tells t.at.tells in
    λ i. record {
      run = run i;
      request = record {
        chambers = (limits i).chambers;
        tiles = (limits i).tiles;
        vertices = (limits i).vertices;
        faces = faces i;
        degrees = degrees i;
        minimal = (limits i).minimal;
      };
      lines = lines i;
      bytes = bytes i;
      at = at i;
    }

same_old_values : (ls : List Text) (c d : Checkpoint) → TellsOldCheck ls c → TellsOldCheck ls d → c ≡ d
same_old_values ls c d s t =
    let run = same_told ls 2 _ c.run d.run (one_number (codes "run")) s.run.tells t.run.tells in
    let limits = same_told ls 3 _ (old_limits_of c.request s.face s.degree) (old_limits_of d.request t.face t.degree) one_old_limits s.limits.tells t.limits.tells in
    let faces = same_from_sets s.face t.face c.request.faces d.request.faces (ap (λ l. l.least_face) limits) s.face_set t.face_set in
    let degrees = same_from_sets s.degree t.degree c.request.degrees d.request.degrees (ap (λ l. l.least_degree) limits) s.degree_set t.degree_set in
    let lines = same_told ls 4 _ c.lines d.lines (one_number (codes "lines")) s.count.tells t.count.tells in
    let bytes = same_told ls 5 _ c.bytes d.bytes (one_number (codes "bytes")) s.bytes.tells t.bytes.tells in
    let at = same_told ls 6 _ c.at d.at one_place s.at.tells t.at.tells in
    λ i. record {
      run = run i;
      request = record {
        chambers = (limits i).chambers;
        tiles = (limits i).tiles;
        vertices = (limits i).vertices;
        faces = faces i;
        degrees = degrees i;
        minimal = (limits i).minimal;
      };
      lines = lines i;
      bytes = bytes i;
      at = at i;
    }

pub one_checkpoint : (text : Text) (c d : Checkpoint) → IsCheckpointText text c → IsCheckpointText text d → c ≡ d
one_checkpoint text c d (inl a) (inl b) = same_values (lines_of text) c d (tells_back text c a.stands).1 (tells_back text d b.stands).1
one_checkpoint text c d (inl a) (inr b) = absurd (not_both (lines_of text) (tells_back text c a.stands).0 (old_tells_back text d b.stands).0)
one_checkpoint text c d (inr a) (inl b) = absurd (not_both (lines_of text) (tells_back text d b.stands).0 (old_tells_back text c a.stands).0)
one_checkpoint text c d (inr a) (inr b) = same_old_values (lines_of text) c d (old_tells_back text c a.stands).1 (old_tells_back text d b.stands).1

-- ---- no fault

pub new_no_fault : (text : Text) (c : Checkpoint) (f : CheckFault) → IsNew (lines_of text) → TellsCheck (lines_of text) c
    → (IsNew (lines_of text) × IsLineFault (lines_of text) f) ⊎ (IsOld (lines_of text) × IsOldLineFault (lines_of text) f) → ⊥
new_no_fault text c f new t (inl h) = no_line_fault (lines_of text) f c t h.1
new_no_fault text c f new t (inr h) = not_both (lines_of text) new h.0

pub old_no_fault : (text : Text) (c : Checkpoint) (f : CheckFault) → IsOld (lines_of text) → TellsOldCheck (lines_of text) c
    → (IsNew (lines_of text) × IsLineFault (lines_of text) f) ⊎ (IsOld (lines_of text) × IsOldLineFault (lines_of text) f) → ⊥
old_no_fault text c f old t (inl h) = not_both (lines_of text) h.0 old
old_no_fault text c f old t (inr h) = no_old_line_fault (lines_of text) f c t h.1

pub short_or_long : (text : Text) → length text ≤ 4096 → 4096 < length text → ⊥
short_or_long text a b = omega arith

new_refuses_none : (text : Text) (c : Checkpoint) (f : CheckFault) → length text ≤ 4096 → IsNew (lines_of text) → TellsCheck (lines_of text) c → IsPlace c.request c.at → HasFault text f → ⊥
new_refuses_none text c Version short new t place h = h.1.not_new new
new_refuses_none text c (Shape k) short new t place h = new_no_fault text c (Shape k) new t h.1
new_refuses_none text c (Range k) short new t place h = new_no_fault text c (Range k) new t h.1
new_refuses_none text c Position short new t place h = misplaced h.1.0 h.1.1
  where
    misplaced : (d : Checkpoint) → IsMisplaced text d ⊎ IsOldMisplaced text d → ⊥
    misplaced d (inl m) =
        m.refused (subst (λ x. IsPlace x.request x.at) (same_values (lines_of text) c d t (tells_back text d m.stands).1) place)
    misplaced d (inr m) = not_both (lines_of text) new (old_tells_back text d m.stands).0
new_refuses_none text c Long short new t place h = short_or_long text short h
new_refuses_none text c Memory short new t place h = h

old_refuses_none : (text : Text) (c : Checkpoint) (f : CheckFault) → length text ≤ 4096 → IsOld (lines_of text) → TellsOldCheck (lines_of text) c → IsOldPlace c.request c.at → HasFault text f → ⊥
old_refuses_none text c Version short old t place h = h.1.not_old old
old_refuses_none text c (Shape k) short old t place h = old_no_fault text c (Shape k) old t h.1
old_refuses_none text c (Range k) short old t place h = old_no_fault text c (Range k) old t h.1
old_refuses_none text c Position short old t place h = misplaced h.1.0 h.1.1
  where
    misplaced : (d : Checkpoint) → IsMisplaced text d ⊎ IsOldMisplaced text d → ⊥
    misplaced d (inl m) = not_both (lines_of text) (tells_back text d m.stands).0 old
    misplaced d (inr m) =
        m.refused (subst (λ x. IsOldPlace x.request x.at) (same_old_values (lines_of text) c d t (old_tells_back text d m.stands).1) place)
old_refuses_none text c Long short old t place h = short_or_long text short h
old_refuses_none text c Memory short old t place h = h

pub no_fault : (text : Text) (c : Checkpoint) (f : CheckFault) → IsCheckpointText text c → HasFault text f → ⊥
no_fault text c f (inl a) h = let back = tells_back text c a.stands in new_refuses_none text c f a.short back.0 back.1 a.place h
no_fault text c f (inr a) h = let back = old_tells_back text c a.stands in old_refuses_none text c f a.short back.0 back.1 a.place h
