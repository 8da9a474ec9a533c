-- The cells of three involutions whose images stand in one list.
use Rattle.std.proofs.Common.{◌≡◌, ℕ, ◌≤◌, List, get_or, sym, ap, ◌∙◌, subst}
use Rattle.dd_model.specs.declared.index.Index.{Index}
use Rattle.dd_model.specs.Symbol.{AreInvolutions, IsChamber, op}
use Rattle.dd_symbol.specs.Images.{of_rows}
use Rattle.dd_front_jobs.specs.Places.{place}
use Rattle.dd_branch_tables.proofs.TableFronts.{rows_at}

-- what stands at the place of a chamber is its image
pub read_image : (n : ℕ) (images : List ℕ) (i : Index) (d at result : ℕ) → 1 ≤ d → d ≤ n → at ≡ place i d → result ≡ get_or images at 0 → result ≡ op (of_rows n images) i d
read_image n images i d at result low high is told = told ∙ ap (λ k. get_or images k 0) is ∙ sym (rows_at n images i d low high)

-- an image is a chamber
pub is_chamber : (n : ℕ) (images : List ℕ) (i : Index) (d result : ℕ) → AreInvolutions (of_rows n images) → (1 ≤ d) × (d ≤ n) → result ≡ op (of_rows n images) i d → (1 ≤ result) × (result ≤ n)
is_chamber n images i d result inv h is = subst (IsChamber (of_rows n images)) (sym is) ((inv i).within d h)
