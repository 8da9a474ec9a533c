-- A function on cells that is equal at the two ends of each side off a whole tree is equal at all cells.
use Rattle.std.proofs.Common.{◌≡◌, ℕ, ◌≤◌, true, false, not, ◌||◌, List, [], ◌∷◌, refl, sym, ap, ◌∙◌, subst, inl, inr, ⊎_elim, arith}
use Rattle.std.proofs.lemmas.Bool.{cases_Bool, cases_lt, or_cases, false_from_ne_true}
use Rattle.std.specs.List.{Contains}
use Rattle.dd_model.specs.declared.index.Index.{Index}
use Rattle.dd_model.specs.declared.index.Index.TheVariants.{Zero, One, Two}
use Rattle.dd_model.specs.declared.pair.Pair.{Pair}
use Rattle.dd_model.specs.declared.pair.Pair.TheVariants.{Tile, Vertex, Edge}
use Rattle.dd_model.specs.Symbol.{Symbol, AreInvolutions, IsChamber, Word, op, act}
use Rattle.dd_model.specs.Connected.{Connected}
use Rattle.dd_covers.specs.Ends.{Holds, one_end, other_end, IsOfCells, IsLevel}
use Rattle.dd_covers.proofs.Trees.{Step, IsGrown, IsTree}
use Rattle.dd_covers.proofs.Sides.{all_sides, off_sides, is_on, is_off, is_side_of, side_listed, side_of, both_met, on_beside, Contains-kept}

pub one_holds : (i : Index) → Holds (one_end i) i
one_holds Zero = inl refl
one_holds One = inl refl
one_holds Two = inr refl

pub other_holds : (i : Index) → Holds (other_end i) i
other_holds Zero = inl refl
other_holds One = inr refl
other_holds Two = inr refl

-- equal along two sides of a chamber, and so along the third
pub third : (g : Pair → ℕ → ℕ) (i : Index) (d : ℕ) → ((j : Index) → (i ≡ j → ⊥) → IsLevel g j d) → IsLevel g i d
third g Zero d others = sym (others One zero_one) ∙ sym (others Two zero_two) where
  zero_one : Zero ≡ One → ⊥
  zero_one e = cc

  zero_two : Zero ≡ Two → ⊥
  zero_two e = cc
third g One d others = sym (others Two one_two) ∙ sym (others Zero one_zero) where
  one_zero : One ≡ Zero → ⊥
  one_zero e = cc

  one_two : One ≡ Two → ⊥
  one_two e = cc
third g Two d others = sym (others Zero two_zero) ∙ sym (others One two_one) where
  two_one : Two ≡ One → ⊥
  two_one e = cc

  two_zero : Two ≡ Zero → ⊥
  two_zero e = cc

module _ (s : Symbol) (inv : AreInvolutions s) (g : Pair → ℕ → ℕ) (cells : IsOfCells s g) where
  pub level_beside : (i : Index) (d : ℕ) → IsChamber s d → IsLevel g i (op s i d) → IsLevel g i d
  level_beside i d h level = sym (cells (one_end i) i d h (one_holds i)) ∙ level ∙ cells (other_end i) i d h (other_holds i)

  level_of_image : (i : Index) (d : ℕ) → IsChamber s d → IsLevel g i d → IsLevel g i (op s i d)
  level_of_image i d h level = cells (one_end i) i d h (one_holds i) ∙ level ∙ sym (cells (other_end i) i d h (other_holds i))

  -- ## Off the tree, and then from the leaves of the tree on

  module _ (ws : List Step) (whole_tree : IsTree s ws) (off : (e : Step) → Contains (off_sides s ws) e → IsLevel g e.index e.chamber) where
    off_level : (i : Index) (d : ℕ) → IsChamber s d → is_on s ws i d ≡ false → IsLevel g i d
    off_level i d h out =
        let beside : is_on s ws i (op s i d) ≡ false = false_from_ne_true (is_on s ws i (op s i d)) (λ on.
        let back = on_beside s inv ws whole_tree i (op s i d) on in
        let here = subst (λ z. is_on s ws i z ≡ true) ((inv i).involutive d h) back in
        absurd (cc)) in
        ⊎_elim
        (λ low.
        let there = (inv i).within d h in
        let up : op s i d ≤ op s i (op s i d) = subst (λ z. op s i d ≤ z) (sym ((inv i).involutive d h)) (omega arith) in
        level_beside i d h (off (record { chamber = op s i d; index = i })
        (Contains-kept (is_off s ws) (all_sides s) (record { chamber = op s i d; index = i }) (side_listed s i (op s i d) there up) (ap not beside))))
        (λ high. off (record { chamber = d; index = i })
        (Contains-kept (is_off s ws) (all_sides s) (record { chamber = d; index = i }) (side_listed s i d h high) (ap not out)))
        (cases_lt (op s i d) d)

    -- the sides on the tree, but for those of its first steps, are level
    abbrev AreLevelAfter : List Step → Type 0
    AreLevelAfter xs = (i : Index) (d : ℕ) → IsChamber s d → is_on s ws i d ≡ true → is_on s xs i d ≡ false → IsLevel g i d

    -- the side of a step, by the two other sides of the chamber that it meets
    level_of_step : (x : Step) (xs : List Step) → IsGrown s xs x → IsTree s xs → AreLevelAfter (x ∷ xs) → IsLevel g x.index x.chamber
    level_of_step x xs grown tree later = third g x.index x.chamber (λ j differ.
        ⊎_elim
        (λ on. ⊎_elim
        (λ here. ⊎_elim
        (λ own. absurd (differ (side_of s x j x.chamber own).index))
        (λ before. let met = (both_met s inv xs tree j x.chamber before).here in let new = grown.new in absurd (cc))
        (or_cases (is_side_of s x j x.chamber) (is_on s xs j x.chamber) here))
        (λ after. later j x.chamber grown.chamber on after)
        (cases_Bool (is_on s (x ∷ xs) j x.chamber)))
        (λ out. off_level j x.chamber grown.chamber out)
        (cases_Bool (is_on s ws j x.chamber)))

    one_step_more : (x : Step) (xs : List Step) → IsGrown s xs x → IsTree s xs → AreLevelAfter (x ∷ xs) → AreLevelAfter xs
    one_step_more x xs grown tree later i d h on out =
        ⊎_elim
        (λ here.
        let is = side_of s x i d here in
        let own = level_of_step x xs grown tree later in
        subst (λ j. IsLevel g j d) is.index (⊎_elim
        (λ a. subst (IsLevel g x.index) a own)
        (λ b. subst (IsLevel g x.index) b (level_of_image x.index x.chamber grown.chamber own))
        is.end))
        (λ other. later i d h on (ap (λ b. b || is_on s xs i d) other ∙ out))
        (cases_Bool (is_side_of s x i d))

    level_to_the_root : (xs : List Step) → IsTree s xs → AreLevelAfter xs → AreLevelAfter []
    level_to_the_root [] tree after = after
    level_to_the_root (x ∷ xs) tree after = level_to_the_root xs tree.1 (one_step_more x xs tree.0 tree.1 after)

    pub all_level : (i : Index) (d : ℕ) → IsChamber s d → IsLevel g i d
    all_level i d h =
        ⊎_elim
        (λ on. level_to_the_root ws whole_tree (λ j e he yes no. absurd (cc)) i d h on refl)
        (λ out. off_level i d h out)
        (cases_Bool (is_on s ws i d))

  -- ## Where all sides are level

  module _ (level : (i : Index) (d : ℕ) → IsChamber s d → IsLevel g i d) where
    -- all three cells of a chamber have one value
    of_tile : (p : Pair) (d : ℕ) → IsChamber s d → g p d ≡ g Tile d
    of_tile Tile d h = refl
    of_tile Vertex d h = level One d h
    of_tile Edge d h = sym (level Zero d h)

    tile_beside : (i : Index) (d : ℕ) → IsChamber s d → g Tile (op s i d) ≡ g Tile d
    tile_beside i d h = sym (of_tile (one_end i) (op s i d) ((inv i).within d h)) ∙ cells (one_end i) i d h (one_holds i) ∙ of_tile (one_end i) d h

    tile_along : (w : Word) (d : ℕ) → IsChamber s d → g Tile (act s w d) ≡ g Tile d
    tile_along [] d h = refl
    tile_along (i ∷ w) d h = tile_along w (op s i d) ((inv i).within d h) ∙ tile_beside i d h

    pub one_value : 1 ≤ s.size → Connected s → (p : Pair) (d : ℕ) → IsChamber s d → g p d ≡ g Tile 1
    one_value some all p d h =
        let there = all d h in
        of_tile p d h ∙ sym (ap (g Tile) there.leads) ∙ tile_along there.word 1 (omega arith, some)
