-- Numbers with which nothing is under the prefix of a stem.
use Rattle.std.proofs.Common.{◌≡◌, ◌≢◌, ℕ, ◌+◌, ◌*◌, ◌/◌, ◌%◌, ◌<◌, ◌≤◌, ◌⊎◌, [], ◌∷◌, ◌++◌, length, subst, sym, ◌∙◌, ⊎_elim, arith}
use Rattle.dd_model.specs.Symbol.{op}
use Rattle.dd_front_jobs.specs.FirstVisit.{greatest}
use Rattle.dd_branch_tables.specs.Rows.{partial_of}
use Rattle.dd_branch_tables.specs.Stem.{Any, prefix_of, size_of, IsStem}
use Rattle.dd_front_jobs.specs.Under.{HasNothingUnder}
use Rattle.dd_branch_tables.specs.declared.stem.Stem.{Stem}
use Rattle.dd_branch_tables.proofs.Prefixes.{shortened}
use Rattle.dd_branch_tables.proofs.RowsLemmas.{leads_back}
use Rattle.dd_branch_tables.proofs.Stems.{known_next, next_inside, not_taken}
use Rattle.dd_model.specs.Indices.{index_at}

pub none_of_none : (stem : Stem) (m : ℕ) → HasNothingUnder Any (size_of stem) (prefix_of stem) → HasNothingUnder Any (size_of stem) (prefix_of stem ++ m ∷ [])
none_of_none stem m none s under = none s (shortened Any (size_of stem) (prefix_of stem) m s under).0

-- another number than the one that is known
pub none_but_known : (stem : Stem) (e m : ℕ) → IsStem stem → length (prefix_of stem) < 3 * size_of stem → e ≡ op (partial_of stem.rows) (index_at (length (prefix_of stem) % 3)) (1 + length (prefix_of stem) / 3) → e ≢ 0
    → m ≢ e → HasNothingUnder Any (size_of stem) (prefix_of stem ++ m ∷ [])
none_but_known stem e m is low known some other s under =
    let parts = shortened Any (size_of stem) (prefix_of stem) m s under in
    other (sym parts.1 ∙ known_next stem e is low known some s parts.0)

-- A number up to which no chamber is without an image, where the chamber whose image is next has none.
pub none_but_free : (stem : Stem) (last m : ℕ) → IsStem stem → length (prefix_of stem) < 3 * size_of stem → op (partial_of stem.rows) (index_at (length (prefix_of stem) % 3)) (1 + length (prefix_of stem) / 3) ≡ 0
    → (size_of stem ≤ last) ⊎ (greatest (prefix_of stem) + 1 ≤ last)
    → (1 ≤ m → m ≤ last → op (partial_of stem.rows) (index_at (length (prefix_of stem) % 3)) m ≢ 0) → HasNothingUnder Any (size_of stem) (prefix_of stem ++ m ∷ [])
none_but_free stem last m is low none far images s under =
    let i = index_at (length (prefix_of stem) % 3) in
    let chamber = 1 + length (prefix_of stem) / 3 in
    let parts = shortened Any (size_of stem) (prefix_of stem) m s under in
    let next = parts.1 in
    let inside = next_inside stem s low parts.0 in
    let one = inside.0 in
    let within = inside.1 in
    let grown = inside.2 in
    let small = is.ready.small in
    let up : m ≤ last = ⊎_elim (λ size. omega arith) (λ most. omega arith) far in
    let image = images (omega arith) up in
    let apart : op (partial_of stem.rows) i m ≢ chamber = λ led.
    let back = sym (leads_back stem.rows i m chamber is.ready (omega arith) (omega arith) (omega arith) (omega arith) led) ∙ none in
    omega arith in
    let past = not_taken stem m (m + 1) is low (λ d from before. subst (λ e. (op (partial_of stem.rows) i e ≢ 0) × (op (partial_of stem.rows) i e ≢ chamber)) (omega (arith, from, before)) (image, apart)) s parts.0 (omega arith) in
    omega arith
