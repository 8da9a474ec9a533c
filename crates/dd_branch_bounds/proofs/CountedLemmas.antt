-- What a census tells of a table where a cell or a flag is counted.
use Rattle.std.proofs.Common.{◌≡◌, ℕ, ◌+◌, ◌*◌, ◌/◌, ◌%◌, ◌<◌, ◌≤◌, List, [], ◌∷◌, length, refl, sym, ap, ◌∙◌, subst, ⊎_elim, arith}
use Rattle.std.proofs.lemmas.Bool.{cases_lt}
use Rattle.std.proofs.lemmas.List.Sums.{sum_by-cons}
use Rattle.std.proofs.Math.Nat.{mul-le-mul_left, mul-le-mul_right}
use Rattle.std.specs.List.{sum_by}
use Rattle.dd_model.specs.declared.pair.Pair.{Pair}
use Rattle.dd_model.specs.Symbol.{Symbol, IsSymbol, IsChamber, degree}
use Rattle.dd_model.specs.Cell.{InCell}
use Rattle.dd_model.specs.Flat.{all_degrees}
use Rattle.dd_model.proofs.CellWalks.{in_cell-trans}
use Rattle.dd_cells.specs.Cells.{AreMembers}
use Rattle.dd_branch_tables.proofs.Distinct.{all_map}
use Rattle.dd_branch_bounds.specs.Census.{IsNone, IsCellMore, HasFlag, HasCell}
use Rattle.dd_branch_bounds.specs.Closed.{fixed_flags}
use Rattle.dd_branch_bounds.specs.Counted.{IsCounted, IsFixedFlag}
use Rattle.dd_branch_bounds.specs.Units.{share_unit}
use Rattle.dd_branch_bounds.specs.declared.census.Census.{Census}
use Rattle.dd_branch_bounds.proofs.CountBound.{cell_sum}
use Rattle.dd_branch_bounds.proofs.FlatBound.{part, add_parts}

-- a chamber of one cell with some of which R holds
pub record IsNear (s : Symbol) (p : Pair) (R : ℕ → Type 0) (e : ℕ) : Type 0 where
  pub near : ℕ
  pub holds : R near
  pub in_cell : InCell s p e near

-- nothing is counted
pub counted_none : (s : Symbol) (p : Pair) (R K : ℕ → Type 0) (c : Census) → IsNone c → IsCounted s p R K c
counted_none s p R K c none =
    let fixed = none.fixed in
    let cells = none.cells in record {
      cells = [];
      flags = [];
      inside = tt;
      apart = tt;
      count = sym cells;
      size = λ members are. omega arith;
      chains = λ members are. omega arith;
      total = λ members are. omega arith;
      distinct = tt;
      each = tt;
      fixed = sym fixed;
      away = tt;
      free = tt;
    }

-- a cell with so many chambers and fixed flags at most, that adds at most so much
pub record IsWholeAt (s : Symbol) (p : Pair) (d chambers chains own : ℕ) : Type 0 where
  pub chamber : IsChamber s d
  pub size : (members : List ℕ) → AreMembers s p d members → length members ≤ chambers
  pub fixed : (members : List ℕ) → AreMembers s p d members → sum_by (fixed_flags s p) members ≤ 2 * chains
  pub total : (members : List ℕ) → AreMembers s p d members → sum_by (λ x. all_degrees s / degree s p x) members * share_unit ≤ all_degrees s * own

-- what the chambers of a cell add, where each has a share
pub whole_total : (s : Symbol) → IsSymbol s → (p : Pair) (d count v : ℕ) → IsChamber s d → ((members : List ℕ) → AreMembers s p d members → length members ≤ count)
    → share_unit ≤ v * degree s p d → (members : List ℕ) → AreMembers s p d members
    → sum_by (λ x. all_degrees s / degree s p x) members * share_unit ≤ all_degrees s * (count * v)
whole_total s is p d count v h few right members are =
    let D = all_degrees s in
    let m = degree s p d in
    let sum = cell_sum s is p D d members h are in
    let unit : D / m * share_unit ≤ D * v = part D share_unit v m right in
    let fewer : length members * (D / m * share_unit) ≤ count * (D / m * share_unit) = mul-le-mul_right (D / m * share_unit) (few members are) in
    let all : count * (D / m * share_unit) ≤ count * (D * v) = mul-le-mul_left count unit in
    let left : sum_by (λ x. D / degree s p x) members * share_unit ≡ length members * (D / m * share_unit) = ap (λ n. n * share_unit) sum ∙ grind arith in
    let shape : count * (D * v) ≡ D * (count * v) = grind arith in
    omega (arith, fewer, all, left, shape)

module _ (s : Symbol) (p : Pair) (R R' K K' : ℕ → Type 0) (c : Census) (told : IsCounted s p R K c) (near : (e : ℕ) → R' e → IsNear s p R e) where
  -- what is counted stays
  pub counted_stays : ((z : ℕ) → K' z → K z) → IsCounted s p R' K' c
  counted_stays fewer = record {
    cells = told.cells;
    flags = told.flags;
    inside = told.inside;
    apart = told.apart;
    count = told.count;
    size = told.size;
    chains = told.chains;
    total = told.total;
    distinct = told.distinct;
    each = told.each;
    fixed = told.fixed;
    away = all_map (λ d. (e : ℕ) → R e → InCell s p d e → ⊥) (λ d. (e : ℕ) → R' e → InCell s p d e → ⊥)
        (λ d apart e holds there. let n = near e holds in apart n.near n.holds (in_cell-trans s p d e n.near there n.in_cell)) told.cells told.away;
    free = all_map (λ z. K z → ⊥) (λ z. K' z → ⊥) (λ z no holds. no (fewer z holds)) told.flags told.free;
  }

  -- one cell more
  pub counted_cell : ((z : ℕ) → K' z → K z) → (d class chains own : ℕ) → R d → IsWholeAt s p d (class % 64) chains own → (64 ≤ class → chains ≤ 1) → (class < 64 → chains ≡ 0)
      → ((e : ℕ) → R' e → InCell s p d e → ⊥) → (c' : Census) → HasCell c class own c' → IsCounted s p R' K' c'
  unfolding counted_stays
  counted_cell fewer d class chains own here whole chain cycle apart c' more =
      let stays = counted_stays fewer in
      ⊎_elim
      (λ same. subst (IsCounted s p R' K') (sym same) stays)
      (λ is.
      let few : chains + c.chains ≤ c'.chains = few_chains is in
      let count = is.cells in
      let sizes = is.chambers in
      let most = is.most in
      let fixed = is.fixed in
      record {
        cells = d ∷ told.cells;
        flags = told.flags;
        inside = (whole.chamber, told.inside);
        apart = (all_map (λ e. (x : ℕ) → R x → InCell s p e x → ⊥) (λ e. InCell s p e d → ⊥) (λ e no. no d here) told.cells told.away, told.apart);
        count = let known = told.count in omega (arith, known, count);
        size = λ members are.
            let cons = sum_by-cons (λ x. length (members x)) d told.cells in
            let old = told.size members are in
            let one = whole.size (members d) (are d whole.chamber) in
            omega (arith, cons, old, one, sizes);
        chains = λ members are.
            let cons = sum_by-cons (λ x. sum_by (fixed_flags s p) (members x)) d told.cells in
            let old = told.chains members are in
            let one = whole.fixed (members d) (are d whole.chamber) in
            omega (arith, cons, old, one, few);
        total = λ members are.
            let D = all_degrees s in
            let f : ℕ → ℕ = λ e. sum_by (λ x. D / degree s p x) (members e) in
            let sum = add_parts D share_unit (f d) (sum_by f told.cells) own c.most (whole.total (members d) (are d whole.chamber)) (told.total members are) in
            subst (λ n. n * share_unit ≤ D * c'.most) (sym (sum_by-cons f d told.cells)) (subst (λ n. (f d + sum_by f told.cells) * share_unit ≤ D * n) (omega (arith, most)) sum);
        distinct = told.distinct;
        each = told.each;
        fixed = told.fixed ∙ sym fixed;
        away = (apart, stays.away);
        free = stays.free;
      })
      more
    where
      few_chains : IsCellMore c class own c' → chains + c.chains ≤ c'.chains
      few_chains is = ⊎_elim
          (λ low. let none = cycle low in let same = is.cycle low in omega (arith, none, same))
          (λ high. let one = chain high in let next = is.chain high in omega (arith, one, next))
          (cases_lt class 64)

  -- one flag more
  pub counted_flag : (x : ℕ) → K x → IsFixedFlag s p x → ((z : ℕ) → K' z → K z × (z ≡ x → ⊥)) → (c' : Census) → HasFlag c c' → IsCounted s p R' K' c'
  unfolding counted_stays
  counted_flag x here fixed fewer c' more =
      let stays = counted_stays (λ z holds. (fewer z holds).0) in
      ⊎_elim
      (λ same. subst (IsCounted s p R' K') (sym same) stays)
      (λ is.
      let cells = is.cells in
      let sizes = is.chambers in
      let chains = is.chains in
      let most = is.most in
      let next = is.fixed in
      record {
        cells = told.cells;
        flags = x ∷ told.flags;
        inside = told.inside;
        apart = told.apart;
        count = told.count ∙ sym cells;
        size = λ members are. let old = told.size members are in omega (arith, old, sizes);
        chains = λ members are. let old = told.chains members are in omega (arith, old, chains);
        total = λ members are.
            subst (λ n. sum_by (λ d. sum_by (λ e. all_degrees s / degree s p e) (members d)) told.cells * share_unit ≤ all_degrees s * n) (sym most) (told.total members are);
        distinct = (all_map (λ z. K z → ⊥) (λ z. x ≡ z → ⊥) (λ z no same. no (subst K same here)) told.flags told.free, told.distinct);
        each = (fixed, told.each);
        fixed = let known = told.fixed in omega (arith, known, next);
        away = stays.away;
        free = (λ holds. (fewer x holds).1 refl, stays.free);
      })
      more
