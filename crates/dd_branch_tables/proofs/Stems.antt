-- A stem that grows and is shortened again.
use Rattle.std.proofs.Common.{◌≡◌, ◌≢◌, ℕ, zero, suc, ◌+◌, ◌-◌, ◌*◌, ◌/◌, ◌%◌, ◌<◌, ◌≤◌, List, [], ◌∷◌, ◌++◌, length, get_or, take, refl, sym, ap, ◌∙◌, subst, ⊎_elim, arith}
use Rattle.std.proofs.lemmas.Bool.{cases_lt}
use Rattle.std.proofs.lemmas.List.{get_or_append_left, get_or_push, length_push, take-take, take_at}
use Rattle.dd_model.specs.declared.index.Index.{Index}
use Rattle.dd_model.specs.declared.index.Index.TheVariants.{Zero}
use Rattle.dd_model.specs.Symbol.{Symbol, op}
use Rattle.dd_front_jobs.specs.FirstVisit.{greatest}
use Rattle.dd_branch_tables.specs.Rows.{partial_of, depth_of, IsReady, HasNumberAt, Learns}
use Rattle.dd_branch_tables.specs.Commuting.{IsCommuting}
use Rattle.dd_front_jobs.specs.Under.{IsUnder, HasNoNumberFrom, Follows, next_number}
use Rattle.dd_branch_tables.specs.Stem.{Any, prefix_of, size_of, shortened, IsStem}
use Rattle.dd_branch_tables.specs.declared.stem.Stem.{Stem}
use Rattle.dd_front_jobs.proofs.Places.{code_at, chamber_at}
use Rattle.dd_branch_tables.proofs.Filling.{still_known}
use Rattle.dd_branch_tables.proofs.Follows.{Puts, follows_put, follows_none}
use Rattle.dd_model.specs.Code.{code}
use Rattle.dd_front_jobs.proofs.CodeFronts.{leads_out}
use Rattle.dd_front_jobs.proofs.Growth.{next_small, begins_take, one_le_greatest}
use Rattle.dd_model.specs.Indices.{index_at}

-- what is looked for is orderly
pub any_under : (W : Symbol → Type 0) (n : ℕ) (prefix : List ℕ) (s : Symbol) → IsUnder W n prefix s → IsUnder Any n prefix s
any_under W n prefix s under = record { wanted = tt; orderly = under.orderly; size = under.size; begins = under.begins }

-- the stem with one number more
pub record IsGrown (old new : Stem) (k : ℕ) : Type 0 where
  pub learns : Learns (Puts (length (prefix_of old)) k) old.rows new.rows
  pub ready : IsReady new.rows
  pub commuting : IsCommuting (partial_of old.rows) → IsCommuting (partial_of new.rows)
  pub longer : prefix_of new ≡ prefix_of old ++ k ∷ []
  pub told : HasNumberAt (length (prefix_of old)) k (partial_of new.rows)
  pub positive : 1 ≤ k

-- what holds of each number of a list, and of one that is put at its end
pub each_longer : (P : ℕ → ℕ → Type 0) (xs ys : List ℕ) (k : ℕ) → ys ≡ xs ++ k ∷ [] → ((u : ℕ) → u < length xs → P u (get_or xs u 0)) → P (length xs) k → (u : ℕ) → u < length ys → P u (get_or ys u 0)
each_longer P xs ys k longer old new u low =
    let count : length ys ≡ length xs + 1 = ap length longer ∙ length_push xs k in
    ⊎_elim
    (λ early. subst (P u) (sym (ap (λ zs. get_or zs u 0) longer ∙ get_or_append_left xs (k ∷ []) 0 u early)) (old u early))
    (λ late.
    let here : length xs ≡ u = omega arith in
    subst (P u) (sym (ap (λ zs. get_or zs u 0) longer ∙ get_or_push xs k 0 u here)) (subst (λ v. P v k) here new))
    (cases_lt u (length xs))

pub grown_stem : (old new : Stem) (k : ℕ) → IsStem old → length (prefix_of old) < 3 * size_of old → IsGrown old new k → IsStem new
grown_stem old new k is low grown =
    let count : length (prefix_of new) ≡ length (prefix_of old) + 1 = ap length grown.longer ∙ length_push (prefix_of old) k in
    let size = grown.learns.size in
    record {
      ready = grown.ready;
      commuting = grown.commuting is.commuting;
      short = omega arith;
      follows =
          let a = follows_put Any (size_of old) (prefix_of old) k (length (prefix_of old)) old.rows new.rows refl low is.follows grown.learns in
          let b = subst (λ xs. Follows Any (size_of old) xs (partial_of new.rows)) (sym grown.longer) a in
          subst (λ n. Follows Any n (prefix_of new) (partial_of new.rows)) (sym size) b;
      told = each_longer (λ u e. HasNumberAt u e (partial_of new.rows)) (prefix_of old) (prefix_of new) k grown.longer
          (λ u before. still_known (Puts (length (prefix_of old)) k) old.rows new.rows (index_at (u % 3)) (1 + u / 3) (get_or (prefix_of old) u 0) grown.learns (is.positive u before) (is.told u before))
          grown.told;
      positive = each_longer (λ u e. 1 ≤ e) (prefix_of old) (prefix_of new) k grown.longer is.positive grown.positive;
    }

pub grown_shortened : (old new : Stem) (k : ℕ) → IsGrown old new k → shortened new (depth_of old.rows) ≡ old
grown_shortened old new k grown =
    let count : length (prefix_of new) ≡ length (prefix_of old) + 1 = ap length grown.longer ∙ length_push (prefix_of old) k in
    let last : length (prefix_of new) - 1 ≡ length (prefix_of old) = omega arith in
    let items : take (length (prefix_of new) - 1) (prefix_of new) ≡ prefix_of old =
    ap (λ j. take j (prefix_of new)) last ∙ ap (take (length (prefix_of old))) grown.longer ∙ take_at (prefix_of old) (k ∷ []) (length (prefix_of old)) refl in
    let rows = grown.learns.undone in
    λ x. record { rows = rows x; prefix = items x }

-- what stands at the next place
pub known_is : (stem : Stem) (place known : ℕ) → place ≡ length (prefix_of stem) → HasNumberAt place known (partial_of stem.rows)
    → known ≡ op (partial_of stem.rows) (index_at (length (prefix_of stem) % 3)) (1 + length (prefix_of stem) / 3)
known_is stem place known at number = sym number ∙ ap (λ u. op (partial_of stem.rows) (index_at (u % 3)) (1 + u / 3)) at

-- the image that is known at the next place comes next
pub known_next : (stem : Stem) (e : ℕ) → IsStem stem → length (prefix_of stem) < 3 * size_of stem → e ≡ op (partial_of stem.rows) (index_at (length (prefix_of stem) % 3)) (1 + length (prefix_of stem) / 3) → e ≢ 0
    → (s : Symbol) → IsUnder Any (size_of stem) (prefix_of stem) s → next_number (prefix_of stem) s ≡ e
known_next stem e is low known some s under =
    let t = length (prefix_of stem) in
    let size = under.size in
    code_at s t (omega arith) ∙ (is.follows s under).images (index_at (t % 3)) (1 + t / 3) (λ z. some (known ∙ z)) ∙ sym known

-- a next number is a chamber, and at most one more than the greatest before it
pub next_inside : (stem : Stem) (s : Symbol) → length (prefix_of stem) < 3 * size_of stem → IsUnder Any (size_of stem) (prefix_of stem) s
    → (1 ≤ next_number (prefix_of stem) s) × (next_number (prefix_of stem) s ≤ size_of stem) × (next_number (prefix_of stem) s ≤ greatest (prefix_of stem) + 1)
next_inside stem s low under =
    let size = under.size in
    let inside = chamber_at s under.orderly.table (length (prefix_of stem)) (omega arith) in
    let most = inside.1 in
    (inside.0, omega arith, next_small Any (size_of stem) (prefix_of stem) s low under)

-- From one number up to another, each has an image, and another than the chamber.
abbrev pub AreTaken : Symbol → Index → ℕ → ℕ → ℕ → Type 0
AreTaken partial i chamber least m = (d : ℕ) → least ≤ d → d < m → (op partial i d ≢ 0) × (op partial i d ≢ chamber)

-- A number with another image is no image of the chamber, since twice the involution leads back.
pub not_taken : (stem : Stem) (least m : ℕ) → IsStem stem → length (prefix_of stem) < 3 * size_of stem → AreTaken (partial_of stem.rows) (index_at (length (prefix_of stem) % 3)) (1 + length (prefix_of stem) / 3) least m
    → (s : Symbol) → IsUnder Any (size_of stem) (prefix_of stem) s → least ≤ next_number (prefix_of stem) s → m ≤ next_number (prefix_of stem) s
not_taken stem least m is low taken s under up =
    let t = length (prefix_of stem) in
    let i = index_at (t % 3) in
    let chamber = 1 + t / 3 in
    let next = next_number (prefix_of stem) s in
    let size = under.size in
    let image : next ≡ op s i chamber = code_at s t (omega arith) in
    let back : op s i next ≡ chamber = ap (op s i) image ∙ (under.orderly.table.involutions i).involutive chamber (omega arith, omega arith) in
    ⊎_elim
    (λ less. let here = taken next up less in absurd (here.1 (sym ((is.follows s under).images i next here.0) ∙ back)))
    (λ more. more)
    (cases_lt next m)

pub empty_stem : (stem : Stem) → IsReady stem.rows → prefix_of stem ≡ [] → ((i : Index) (d : ℕ) → op (partial_of stem.rows) i d ≡ 0) → IsStem stem
empty_stem stem ready empty nothing =
    let count : length (prefix_of stem) ≡ 0 = ap length empty in
    record {
      ready = ready;
      commuting = record { at = λ d low some. absurd (some (nothing Zero d)) };
      short = omega arith;
      follows = subst (λ xs. Follows Any (size_of stem) xs (partial_of stem.rows)) (sym empty) (follows_none Any (size_of stem) (partial_of stem.rows) refl nothing);
      told = λ k low. absurd (omega arith);
      positive = λ k low. absurd (omega arith);
    }

greatest_take : (xs : List ℕ) (j : ℕ) → greatest (take j xs) ≤ greatest xs
greatest_take xs zero = one_le_greatest xs
greatest_take [] (suc j) = omega arith
greatest_take (x ∷ xs) (suc j) = let rest = greatest_take xs j in omega arith

-- Nothing is under a prefix that comes to a chamber which it has not met.
pub none_unmet : (stem : Stem) (k : ℕ) → length (prefix_of stem) < 3 * size_of stem → greatest (prefix_of stem) < 1 + length (prefix_of stem) / 3 → HasNoNumberFrom Any (size_of stem) (prefix_of stem) k
none_unmet stem k low past s under =
    let xs = prefix_of stem in
    let t = length xs in
    let size = under.size in
    let one = one_le_greatest xs in
    let out = leads_out s under.orderly (t / 3) (omega arith) (omega arith) in
    let front : take (3 * (t / 3)) (code s) ≡ take (3 * (t / 3)) xs =
    sym (take-take (3 * (t / 3)) t (code s) (omega arith)) ∙ ap (take (3 * (t / 3))) (begins_take xs (code s) under.begins) in
    let same : greatest (take (3 * (t / 3)) (code s)) ≡ greatest (take (3 * (t / 3)) xs) = ap greatest front in
    let less = greatest_take xs (3 * (t / 3)) in
    absurd (omega arith)
