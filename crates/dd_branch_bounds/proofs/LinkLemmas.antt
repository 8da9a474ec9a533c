-- Images that join paths, and totals that are too small.
use Rattle.std.proofs.Common.{◌≡◌, ℕ, ◌+◌, ◌*◌, ◌/◌, ◌%◌, ◌<◌, ◌≤◌, Bool, sym, ap, ◌∙◌, subst, arith}
use Rattle.std.specs.List.{sum_by}
use Rattle.dd_model.specs.Code.{chambers, count_from}
use Rattle.dd_model.specs.Symbol.{Symbol, IsChamber, op}
use Rattle.dd_model.specs.Wanted.{Wanted}
use Rattle.dd_model.specs.declared.index.Index.{Index}
use Rattle.dd_model.specs.declared.pair.Pair.{Pair}
use Rattle.dd_model.specs.declared.pair.Pair.TheVariants.{Tile, Vertex}
use Rattle.dd_model.specs.declared.requests.Request.{Request}
use Rattle.dd_branch_bounds.specs.Units.{share_unit}
use Rattle.dd_branch_bounds.proofs.FlatBound.{share_bound_at}
use Rattle.dd_branch_bounds.specs.Ends.{IsInside, letter_of}
use Rattle.dd_branch_bounds.specs.Passing.{Passes, AreEndsOf}
use Rattle.dd_branch_bounds.specs.PathEnd.{PathEnd}
use Rattle.dd_branch_bounds.specs.Sides.{IsJoin, IsSumOf}
use Rattle.dd_branch_bounds.specs.declared.class_shares.ClassShares.{ClassShares}

-- an image joins the flags of its two chambers
pub join_of_image : (C : Symbol → Type 0) (p : Pair) (i : Index) (x y d e side : ℕ) → i ≡ letter_of p side → side ≤ 1 → x ≡ 2 * d + side → y ≡ 2 * e + side
    → ((s : Symbol) → C s → op s i d ≡ e) → IsJoin C p x y
join_of_image C p i x y d e side letter low from to image =
    let here : x / 2 ≡ d = omega (arith, low, from) in
    let there : y / 2 ≡ e = omega (arith, low, to) in
    let even : x % 2 ≡ side = omega (arith, low, from) in
    let odd : y % 2 ≡ side = omega (arith, low, to) in
    record {
      side = λ s c. odd ∙ sym even;
      leads = λ s c. ap (λ k. op s (letter_of p k) (x / 2)) even ∙ ap (λ j. op s j (x / 2)) (sym letter) ∙ ap (op s i) here ∙ image s c ∙ sym there;
    }

-- No wanted symbol is among the tables that pass a test where the sums of shares are too small.
none_where_small : (q : Request) (P : Symbol) (test : Symbol → Bool) (ends other : ℕ → PathEnd) (A B : ℕ) → AreEndsOf q P test Tile ends A → AreEndsOf q P test Vertex other B
    → 2 * (A + B) < P.size * share_unit → (s : Symbol) → Wanted q s → Passes P test s → ⊥
none_where_small q P test ends other A B tiles vertices small s wanted is =
    let size = is.completes.size in
    let inside : (d : ℕ) → IsChamber s d → IsInside P.size d = λ d h. (h.0, let high = h.1 in omega (arith, high, size)) in
    let a = λ (d : ℕ). tiles.shared (tiles.label d) in
    let b = λ (d : ℕ). vertices.shared (vertices.label d) in
    let bound = share_bound_at s wanted.symbol wanted.flat share_unit a b (λ d h. tiles.shares d (inside d h) s (wanted, is)) (λ d h. vertices.shares d (inside d h) s (wanted, is)) in
    let first_sum : sum_by a (chambers s) ≡ A = ap (λ n. sum_by a (count_from 1 n)) size ∙ sym tiles.adds in
    let second_sum : sum_by b (chambers s) ≡ B = ap (λ n. sum_by b (count_from 1 n)) size ∙ sym vertices.adds in
    let same : s.size * share_unit ≡ P.size * share_unit = ap (λ n. n * share_unit) size in
    absurd (omega (arith, bound, first_sum, second_sum, same, small))

-- the same of sums that are kept
pub none_of_sums : (q : Request) (P : Symbol) (test : Symbol → Bool) (t u : ClassShares) (A B : ℕ) → t.request ≡ q → u.request ≡ q → t.pair ≡ Tile → u.pair ≡ Vertex
    → IsSumOf t P test A → IsSumOf u P test B → 2 * (A + B) < P.size * share_unit → (s : Symbol) → Wanted q s → Passes P test s → ⊥
none_of_sums q P test t u A B asked also tile vertex tiles vertices small =
    none_where_small q P test tiles.ends vertices.ends A B
    (subst (λ q. AreEndsOf q P test Tile tiles.ends A) asked (subst (λ p. AreEndsOf t.request P test p tiles.ends A) tile tiles.are))
    (subst (λ q. AreEndsOf q P test Vertex vertices.ends B) also (subst (λ p. AreEndsOf u.request P test p vertices.ends B) vertex vertices.are))
    small
