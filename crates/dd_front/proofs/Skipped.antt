-- What is left of a list without the members that are before a position. Of an ascending list these are the first ones.
use Rattle.std.proofs.Common.{◌≡◌, ℕ, Bool, true, false, List, [], ◌∷◌, length, get_or, take, drop, inr, refl, sym, subst, arith}
use Rattle.std.specs.List.{AllByRecursion, items_where_true}
use Rattle.std.specs.List.Retain.{IsFiltered, ReturnsInTurn}
use Rattle.dd_model.specs.Symbol.{Symbol, IsSymbol, IsTable}
use Rattle.dd_model.specs.Lists.{IsWithout}
use Rattle.dd_model.specs.Position.{IsBefore}
use Rattle.dd_model.specs.Wanted.{IsAscending}
use Rattle.dd_model.specs.declared.jobs.Position.{Position}
use Rattle.dd_model.proofs.Positions.{later_drop}
use Rattle.dd_model.proofs.Without.{without_first}
use Rattle.dd_front.proofs.Replaced.{all-map}

-- from the first that is not before the position none is
pub without_front : (at : Position) (ss : List Symbol) (k : ℕ) (d : Symbol) → IsAscending ss → AllByRecursion IsSymbol ss
    → AllByRecursion (IsBefore at) (take k ss) → ¬ IsBefore at (get_or ss k d) → IsWithout (IsBefore at) ss (drop k ss)
without_front at ss k d ascending symbols before not = later_drop at ss k d ascending (all-map IsSymbol IsTable ss (λ s is. is.table) symbols) before (λ low. not)

-- all are before the position
pub without_whole : {A : Type 0} (P : A → Type 0) (xs : List A) → AllByRecursion P xs → IsWithout P xs (drop (length xs) xs)
without_whole P [] all = tt
without_whole P (x ∷ xs) all = without_first P x xs (drop (length xs) xs) all.0 (without_whole P xs all.1)

-- a test that answers `true` exactly where P does not hold, and stays as it was, leaves those at which it does not
module _ {A F : Type 0} (R : F → A → Bool → F → Type 0) (P : A → Type 0) (f : F) (h : (x : A) (b : Bool) (g : F) → R f x b g → (b ≡ true → ¬ P x) × (b ≡ false → P x) × (g ≡ f)) where
  without_told : (bs : List Bool) (q : F) (xs : List A) → length bs ≡ length xs → ReturnsInTurn R f bs xs q → IsWithout P xs (items_where_true bs xs)
  without_told [] q [] many told = tt
  without_told [] q (x ∷ xs) many told = cc
  without_told (b ∷ bs) q [] many told = absurd told
  without_told (true ∷ bs) q (x ∷ xs) many told =
      let one = h x true told.0 told.1 in
      inr (one.0 refl, refl, without_told bs q xs (let m = many in omega arith) (subst (λ g. ReturnsInTurn R g bs xs q) one.2 told.2))
  without_told (false ∷ bs) q (x ∷ xs) many told =
      let one = h x false told.0 told.1 in
      without_first P x xs (items_where_true bs xs) (one.1 refl) (without_told bs q xs (let m = many in omega arith) (subst (λ g. ReturnsInTurn R g bs xs q) one.2 told.2))

  pub without_from_retain : (xs ys : List A) → IsFiltered R f xs ys → IsWithout P xs ys
  without_from_retain xs ys k = subst (IsWithout P xs) (sym k.4) (without_told k.0 k.1 xs k.2 k.3)
