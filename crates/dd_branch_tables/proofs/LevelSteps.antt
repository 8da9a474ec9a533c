-- The steps of a search from level to level, for states of any kind.
use Rattle.std.proofs.Common.{◌≡◌, ◌≢◌, ◌↔◌, ◌⊎◌, ℕ, ◌*◌, ◌<◌, ◌≤◌, List, [], ◌∷◌, ◌++◌, length, refl, sym, ap, ◌∙◌, subst, inl, inr, ⊎_elim, arith}
use Rattle.std.proofs.lemmas.Bool.{cases_eq, cases_lt}
use Rattle.std.proofs.lemmas.Nat.Bits.{bit_at-zero, bit_at-lt}
use Rattle.std.specs.Int.{bit_at}
use Rattle.dd_model.specs.Symbol.{Symbol}
use Rattle.dd_model.specs.Code.{IsBelow}
use Rattle.dd_model.specs.declared.requests.Request.{Request}
use Rattle.dd_front_jobs.specs.Under.{IsUnder, HasNothingUnder, next_number}
use Rattle.dd_branch_tables.specs.Chambers.{bit_of, HasNone, IsFirst}
use Rattle.dd_branch_tables.specs.Search.{SearchLaws}
use Rattle.dd_branch_tables.specs.Levels.{IsBeyond, IsToTry, IsLeft, IsLeftAt}
use Rattle.dd_branch_tables.specs.declared.chamber_set.ChamberSet.{ChamberSet}
use Rattle.dd_branch_tables.specs.declared.level.Level.{Level}
use Rattle.dd_branch_tables.proofs.Prefixes.{below_next, extended, shortened}

-- each level has a longer prefix than the one before it
pub few_levels : {S : Type 0} (laws : SearchLaws S)
    → (state : S) (levels : List Level) → IsBeyond laws state levels → length levels ≤ length (laws.prefix state)
few_levels laws state [] beyond = omega arith
few_levels laws state (level ∷ levels) beyond =
    let few = few_levels laws (laws.undone state level.mark) levels beyond.1 in
    let longer = beyond.0.longer.longer in
    omega arith

-- what is under the prefix of a state comes before what is left at its levels
pub below_left : {S : Type 0} (laws : SearchLaws S)
    → (W : Symbol → Type 0) (n : ℕ) → laws.end n ≤ 5 * n → (state : S) (levels : List Level) → laws.wanted (laws.request state) ≡ W → laws.size state ≡ n
    → IsBeyond laws state levels → (s t : Symbol) → IsUnder W n (laws.prefix state) s → IsLeft laws W n state levels t → IsBelow s t
below_left laws W n low state [] same_w same_n beyond s t under left = absurd left
below_left laws W n low state (level ∷ levels) same_w same_n beyond s t under left =
    let there = laws.undone state level.mark in
    let step = beyond.0 in
    let w : laws.wanted (laws.request there) ≡ W = ap laws.wanted (sym step.longer.same_request) ∙ same_w in
    let size_there : laws.size there ≡ n = sym step.longer.same_size ∙ same_n in
    let after = subst (λ V. IsUnder V n (laws.prefix there ++ step.number ∷ []) s) w (subst (λ k. IsUnder (laws.wanted (laws.request there)) k (laws.prefix there ++ step.number ∷ []) s) size_there
    ((step.longer.same.same s).0 (subst (λ k. IsUnder (laws.wanted (laws.request there)) k (laws.prefix state) s) (sym size_there) (subst (λ V. IsUnder V n (laws.prefix state) s) (sym w) under)))) in
    let parts = shortened W n (laws.prefix there) step.number s after in
    let room = subst (λ k. length (laws.prefix there) < laws.end k) size_there step.room in
    ⊎_elim
    (λ (here : IsToTry W n (laws.prefix there) level.left t).
    let later = step.later (next_number (laws.prefix there) t) here.told in
    let next = parts.1 in
    below_next W n (laws.prefix there) s t (omega (arith, room, low)) parts.0 here.under (omega (arith, later, next)))
    (λ deeper. below_left laws W n low there levels w size_there beyond.1 s t parts.0 deeper)
    left

-- nothing is left at a level without numbers
pub left_none : (W : Symbol → Type 0) (n : ℕ) (prefix : List ℕ) (left : ChamberSet) (s : Symbol) → HasNone left → ¬ IsToTry W n prefix left s
left_none W n prefix left s empty try = let zero = ap (λ bits. bit_at bits (next_number prefix s)) empty ∙ bit_at-zero (next_number prefix s) in let told = try.told in omega (arith, zero, told)

-- all under a prefix is to be tried where the numbers that are left are all that may come next
pub all_to_try : (W : Symbol → Type 0) (n : ℕ) (prefix : List ℕ) (left : ChamberSet) (s : Symbol) → length prefix < 5 * n → ((m : ℕ) → bit_of left m ≡ 0 → HasNothingUnder W n (prefix ++ m ∷ []))
    → IsUnder W n prefix s ↔ IsToTry W n prefix left s
all_to_try W n prefix left s low none = (
  (λ under.
      let next = next_number prefix s in
      let bound = bit_at-lt left.bits next in
      ⊎_elim
      (λ (zero : bit_of left next ≡ 0). absurd (none next zero s (extended W n prefix next s low under refl)))
      (λ (other : bit_of left next ≢ 0). record { under = under; told = omega (arith, other, bound) })
      (cases_eq (bit_of left next) 0)),
  (λ try. try.under),
)

-- The least number that is left is tried: what is to be tried is under the prefix with it, or still left.
pub tried_or_left : (W : Symbol → Type 0) (n : ℕ) (prefix : List ℕ) (left : ChamberSet) (m : ℕ) (rest : ChamberSet) (s : Symbol) → length prefix < 5 * n → IsFirst left m rest
    → IsToTry W n prefix left s ↔ (IsUnder W n (prefix ++ m ∷ []) s ⊎ IsToTry W n prefix rest s)
tried_or_left W n prefix left m rest s low first = (
  (λ try.
      let next = next_number prefix s in
      ⊎_elim
      (λ (here : next ≡ m). inl (extended W n prefix m s low try.under here))
      (λ (other : next ≢ m). inr (record { under = try.under; told = first.others next other ∙ try.told }))
      (cases_eq next m)),
  (λ either. ⊎_elim
      (λ under.
      let parts = shortened W n prefix m s under in
      record { under = parts.0; told = ap (bit_of left) parts.1 ∙ first.here })
      (λ (later : IsToTry W n prefix rest s).
      let next = next_number prefix s in
      ⊎_elim
      (λ (here : next ≡ m). let gone = ap (bit_of rest) here ∙ first.gone in let told = later.told in absurd (omega (arith, gone, told)))
      (λ (other : next ≢ m). record { under = later.under; told = sym (first.others next other) ∙ later.told })
      (cases_eq next m))
      either),
)

-- the numbers that are left after the least one come after it
pub later_left : (left : ChamberSet) (m : ℕ) (rest : ChamberSet) (k : ℕ) → IsFirst left m rest → bit_of rest k ≡ 1 → m < k
later_left left m rest k first told = ⊎_elim
    (λ (here : k ≡ m). let gone = ap (bit_of rest) here ∙ first.gone in absurd (omega (arith, gone, told)))
    (λ (other : k ≢ m).
    let set_ = sym (first.others k other) ∙ told in
    ⊎_elim
    (λ (below : k < m). let none = first.least k below in absurd (omega (arith, none, set_)))
    (λ above. omega (arith, above, other))
    (cases_lt k m))
    (cases_eq k m)

-- what is left at one level alone
pub at_one : {S : Type 0} (laws : SearchLaws S) (W : Symbol → Type 0) (n : ℕ) (state : S) (levels : List Level) (level : Level) → levels ≡ level ∷ []
    → (s : Symbol) → IsToTry W n (laws.prefix state) level.left s ↔ IsLeftAt laws W n state levels s
at_one laws W n state levels level is s =
    subst (λ ls. IsToTry W n (laws.prefix state) level.left s ↔ IsLeftAt laws W n state ls s) (sym is)
    ((λ try. inl try), (λ either. ⊎_elim (λ try. try) (λ none. absurd none) either))
