-- A descent that goes back as it came.
use Rattle.std.proofs.Common.{◌≡◌, Bool, true, false, ℕ, zero, suc, ◌-◌, ◌<◌, ◌≤◌, ◌++◌, List, [], length, take, refl, sym, ap, ◌∙◌, subst, arith}
use Rattle.std.proofs.lemmas.List.{length-take}
use Rattle.std.proofs.lemmas.Option.{slice_get-get_or}
use Rattle.std.specs.List.{slice_get}
use Rattle.std.specs.declared.option.Option.{Option}
use Rattle.std.specs.declared.option.Option.TheVariants.{None, Some}
use Rattle.dd_branch_tables.specs.Rows.{Rows, depth_of, popped, unwind}
use Rattle.dd_branch_tables.specs.Stem.{prefix_of, size_of}
use Rattle.dd_branch_bounds.specs.Kept.{no_sides}
use Rattle.dd_branch_bounds.specs.declared.table_paths.TablePaths.{TablePaths}
use Rattle.dd_branch.specs.Descent.{Descending, GoesBack, IsDescent, gone_back, shorter, with_paths, without_last}
use Rattle.dd_branch.specs.Levels.{level_of}
use Rattle.dd_branch.specs.declared.undo_point.UndoPoint.{UndoPoint}

no_level : UndoPoint
no_level = level_of 0 0 no_sides 0

-- the last level is taken away, if there is one
pub fewer_levels : (d : Descending) → 1 ≤ length d.levels → length d.levels ≡ suc (length (shorter d).levels)
fewer_levels d some =
    let n = length d.levels in
    let got : slice_get d.levels (n - 1) ≡ Some _ = slice_get-get_or d.levels (n - 1) no_level (omega arith) in
    let left : length (shorter d).levels ≡ length (take (n - 1) d.levels) = ap (λ o. length (without_last o d).levels) got in
    let count = length-take (n - 1) d.levels in
    omega (arith, left, count)

-- going back changes neither what is asked
pub same_request : (o : Option UndoPoint) (d : Descending) → (without_last o d).request ≡ d.request
same_request None d = refl
same_request (Some level) d = refl

unwind_size : (k : ℕ) (r : Rows) → (unwind k r).size ≡ r.size
unwind_size zero r = refl
unwind_size (suc k) r = unwind_size k (popped r)

-- nor the size
pub same_size : (o : Option UndoPoint) (d : Descending) → size_of (without_last o d).stem ≡ size_of d.stem
same_size None d = refl
same_size (Some level) d = unwind_size (depth_of d.stem.rows - level.rows) d.stem.rows

-- a search from the empty prefix
pub goes_back_at_first : (d : Descending) → IsDescent d → d.levels ≡ [] → prefix_of d.stem ≡ [] → GoesBack d
goes_back_at_first d is none empty =
    let count : length d.levels ≡ 0 = ap length none in
    record {
      is = is;
      levels = λ k few. absurd (omega (arith, count, few));
      empty = subst (λ n. prefix_of (gone_back n d).stem ≡ []) (sym count) empty;
    }

-- one level less
pub goes_back_shorter : (d : Descending) → 1 ≤ length d.levels → GoesBack d → GoesBack (shorter d)
goes_back_shorter d some back =
    let count = fewer_levels d some in
    record {
      is = back.levels 0 (omega (arith, some));
      levels = λ k few. back.levels (suc k) (omega (arith, count, few));
      empty = subst (λ n. prefix_of (gone_back n d).stem ≡ []) count back.empty;
    }

-- one level more
pub goes_back_longer : (old new : Descending) → IsDescent new → 1 ≤ length new.levels → shorter new ≡ old → GoesBack old → GoesBack new
goes_back_longer old new is some path back =
    let less = fewer_levels new some in
    let same : length (shorter new).levels ≡ length old.levels = ap (λ (d : Descending). length d.levels) path in
    let count : length new.levels ≡ suc (length old.levels) = less ∙ ap suc same in
    record {
      is = is;
      levels = longer count;
      empty = subst (λ n. prefix_of (gone_back n new).stem ≡ []) (sym count) (subst (λ d. prefix_of (gone_back (length old.levels) d).stem ≡ []) (sym path) back.empty);
    }
  where
    longer : length new.levels ≡ suc (length old.levels) → (k : ℕ) → k < length new.levels → IsDescent (gone_back k (shorter new))
    longer count zero few = subst IsDescent (sym path) back.is
    longer count (suc k) few = subst (λ d. IsDescent (gone_back (suc k) d)) (sym path) (back.levels k (omega (arith, count, few)))

-- whatever paths a search has, it goes back to the same
shorter_with_paths : (d : Descending) (sides : TablePaths) → 1 ≤ length d.levels → shorter (with_paths d sides) ≡ shorter d
shorter_with_paths d sides some =
    let n = length d.levels in
    let got : slice_get d.levels (n - 1) ≡ Some _ = slice_get-get_or d.levels (n - 1) no_level (omega arith) in
    ap (λ o. without_last o (with_paths d sides)) got ∙ sym (ap (λ o. without_last o d) got)

-- other paths
pub goes_back_with_paths : (d : Descending) (sides : TablePaths) → IsDescent (with_paths d sides) → GoesBack d → GoesBack (with_paths d sides)
goes_back_with_paths d sides is back = record {
  is = is;
  levels = λ k few. subst (λ e. IsDescent (gone_back k e)) (sym (shorter_with_paths d sides (omega (arith, few)))) (back.levels k few);
  empty = empty (length d.levels) refl;
}
  where
    empty : (n : ℕ) → n ≡ length d.levels → prefix_of (gone_back n (with_paths d sides)).stem ≡ []
    empty zero count = subst (λ n. prefix_of (gone_back n d).stem ≡ []) (sym count) back.empty
    empty (suc n) count =
        subst (λ e. prefix_of (gone_back n e).stem ≡ []) (sym (shorter_with_paths d sides (omega (arith, count))))
        (subst (λ n. prefix_of (gone_back n d).stem ≡ []) (sym count) back.empty)

-- a search without levels has the empty prefix
pub empty_at_first : (d : Descending) → GoesBack d → length d.levels ≡ 0 → prefix_of d.stem ≡ []
empty_at_first d back none = subst (λ n. prefix_of (gone_back n d).stem ≡ []) none back.empty

some_or_none : (n : ℕ) → (n ≡ 0 → ⊥) → 1 ≤ n
some_or_none zero some = absurd (some refl)
some_or_none (suc n) some = omega arith

-- a search whose prefix does not begin another one has a level to go back from
pub has_levels : (d : Descending) (xs own : List ℕ) (begins : Bool) → GoesBack d → own ≡ prefix_of d.stem → ((rest : List ℕ) → xs ≡ own ++ rest → begins ≡ true) → begins ≡ false
    → 1 ≤ length d.levels
has_levels d xs own begins back same told refused = some_or_none (length d.levels) (λ none.
    let empty : own ≡ [] = same ∙ empty_at_first d back none in
    let whole : xs ≡ own ++ xs = sym (ap (λ ys. ys ++ xs) empty) in
    let clash : true ≡ false = sym (told xs whole) ∙ refused in
    cc)
