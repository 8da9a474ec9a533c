-- Levels that are written where they lie.
use Rattle.std.proofs.Common.{◌≡◌, ℕ, ◌+◌, ◌<◌, List, [], ◌∷◌, ◌++◌, Some, get_or, length, length-append, length-set, take, set, slice_get, sym, ap, ◌∙◌, arith}
use Rattle.std.proofs.lemmas.List.{take-append-le, take-set, take_more_set, get_or-set_same}
use Rattle.std.proofs.lemmas.Option.{slice_get-get_or}
use Rattle.std.proofs.Math.Seq.{get_or-append_seam}
use Rattle.dd_branch.specs.Levels.{Leveled, level_of, sides_of}
use Rattle.dd_branch.specs.declared.undo_point.UndoPoint.{UndoPoint}

-- what is told of levels, where so many are before the one where the search stands
abbrev pub leveled : List UndoPoint → ℕ → Leveled
leveled xs n = record { before = take n xs; sides = sides_of (slice_get xs n) }

-- what is read where a level was written
read_back : (xs : List UndoPoint) (n : ℕ) (level : UndoPoint) → n < length xs → slice_get (set xs n level) n ≡ Some level
read_back xs n level inside =
    let long = length-set xs n level in
    slice_get-get_or (set xs n level) n level (omega (arith, long, inside)) ∙ ap Some (get_or-set_same xs n level level inside)

module _ (l : Leveled) (xs : List UndoPoint) (n numbers rows starts : ℕ) (was next : UndoPoint) (is : leveled xs n ≡ l) (inside : n < length xs) (read : was ≡ get_or xs n was)
    (copied : next ≡ get_or (set xs n (level_of numbers rows was.sides starts)) n next) where
  here : UndoPoint
  here = level_of numbers rows was.sides starts

  paths : sides_of (slice_get xs n) ≡ was.sides
  paths = ap sides_of (slice_get-get_or xs n was inside) ∙ ap (λ (e : UndoPoint). e.sides) (sym read)

  sides : next.sides ≡ l.sides
  unfolding here
  sides = ap (λ (e : UndoPoint). e.sides) (copied ∙ get_or-set_same xs n here next inside) ∙ sym paths ∙ ap (λ (m : Leveled). m.sides) is

  before : take (n + 1) (set xs n here) ≡ l.before ++ level_of numbers rows l.sides starts ∷ []
  unfolding here
  before = take_more_set xs n here inside ∙ ap (λ s. take n xs ++ level_of numbers rows s starts ∷ []) (sym paths)
      ∙ ap (λ (m : Leveled). m.before ++ level_of numbers rows m.sides starts ∷ []) is

  -- the next level is written in the place of one that was taken away
  pub before_written : take (n + 1) (set (set xs n (level_of numbers rows was.sides starts)) (n + 1) next) ≡ l.before ++ level_of numbers rows l.sides starts ∷ []
  unfolding here
  before_written = take-set (set xs n here) (n + 1) next ∙ before

  pub sides_written : n + 1 < length xs → sides_of (slice_get (set (set xs n (level_of numbers rows was.sides starts)) (n + 1) next) (n + 1)) ≡ l.sides
  unfolding here
  sides_written room =
      let long = length-set xs n here in
      ap sides_of (read_back (set xs n here) (n + 1) next (omega (arith, long, room))) ∙ sides

  -- the next level is put at the end
  pub before_pushed : take (n + 1) (set xs n (level_of numbers rows was.sides starts) ++ next ∷ []) ≡ l.before ++ level_of numbers rows l.sides starts ∷ []
  unfolding here
  before_pushed =
      let long = length-set xs n here in
      take-append-le (n + 1) (set xs n here) (next ∷ []) (omega (arith, long, inside)) ∙ before

  pub sides_pushed : n + 1 ≡ length xs → sides_of (slice_get (set xs n (level_of numbers rows was.sides starts) ++ next ∷ []) (n + 1)) ≡ l.sides
  unfolding here
  sides_pushed last =
      let long = length-set xs n here in
      let all = set xs n here ++ next ∷ [] in
      ap (λ k. sides_of (slice_get all k)) (last ∙ sym long)
      ∙ ap sides_of (slice_get-get_or all (length (set xs n here)) next (omega (arith, length-append (set xs n here) (next ∷ []))) ∙ ap Some (get_or-append_seam (set xs n here) next [] next)) ∙ sides
