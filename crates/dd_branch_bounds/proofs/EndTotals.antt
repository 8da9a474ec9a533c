-- What the ends of paths begin with, keep, and add up to.
use Rattle.std.proofs.Common.{◌≡◌, ℕ, zero, suc, ◌+◌, ◌*◌, ◌/◌, ◌<◌, ◌≤◌, ◌⊎◌, length, map, refl, sym, ap, ◌∙◌, subst, inl, inr, ⊎_elim, arith}
use Rattle.std.proofs.lemmas.Bool.{cases_eq, eq-eqb, ne_eqb}
use Rattle.std.proofs.lemmas.List.{length-map}
use Rattle.std.proofs.lemmas.List.Sums.{sum_by-cons, sum-map}
use Rattle.std.specs.Prelude.{cond, nat_eq}
use Rattle.std.specs.List.{sum_by}
use Rattle.dd_model.specs.declared.pair.Pair.{Pair}
use Rattle.dd_model.specs.declared.pair.Pair.TheVariants.{Tile, Vertex}
use Rattle.dd_model.specs.declared.requests.Request.{Request}
use Rattle.dd_model.specs.Symbol.{Symbol, degree}
use Rattle.dd_model.specs.Code.{count_from}
use Rattle.dd_model.specs.Cell.{InCell}
use Rattle.dd_model.specs.Partial.{Completes}
use Rattle.dd_model.proofs.CellWalks.{in_cell-refl}
use Rattle.dd_model.proofs.CountFrom.{length-count_from, item-map-count_from}
use Rattle.dd_branch_bounds.specs.Ends.{IsInside, AreTables, IsFound, ArePathEnds}
use Rattle.dd_branch_bounds.specs.Changes.{IsShareFrom, IsFixedEnd, IsAlone}
use Rattle.dd_branch_bounds.specs.Labels.{count_label}
use Rattle.dd_branch_bounds.specs.Shares.{BoundsReciprocals, IsTotal}
use Rattle.dd_branch_bounds.specs.Units.{share_unit}
use Rattle.dd_branch_bounds.specs.PathEnd.{PathEnd}
use Rattle.dd_branch_bounds.proofs.Bounds.{bounds_of_shares, wanted_allowed}
use Rattle.dd_branch_bounds.proofs.EndLemmas.{inside_whole, chain_of_fixed, label_degree_of_chain}

-- The ends of some tables are ends of fewer.
pub fewer_tables : (q : Request) (C D : Symbol → Type 0) (n : ℕ) (p : Pair) (ends : ℕ → PathEnd) (total : ℕ) → ((s : Symbol) → D s → C s) → ArePathEnds q C n p ends total → ArePathEnds q D n p ends total
fewer_tables q C D n p ends total more are = record {
  label = are.label;
  shared = are.shared;
  joined = λ d e hd he same s x. are.joined d e hd he same s (more s x);
  shares = λ d h s found. are.shares d h s (found.0, more s found.1);
  small = are.small;
  adds = are.adds;
  each = λ x live. let end = are.each x live in record {
    inside = end.inside;
    count = end.count;
    told = end.told;
    capped = λ yes s c. end.capped yes s (more s c);
    other = end.other;
    alone = end.alone;
    closed = λ z h same. ⊎_elim
        (λ loose. inl loose)
        (λ on. inr (record { same = λ s c. on.same s (more s c); moved = λ loose s c. on.moved loose s (more s c) }))
        (end.closed z h same);
  };
}

-- ## Totals

-- the total bounds what the degrees of each of the tables add
pub bounds_of_ends : (q : Request) (C : Symbol → Type 0) (n : ℕ) (p : Pair) (ends : ℕ → PathEnd) (total : ℕ) → (p ≡ Tile) ⊎ (p ≡ Vertex) → ArePathEnds q C n p ends total
    → (s : Symbol) → s.size ≡ n → IsFound q C s → BoundsReciprocals s p total
bounds_of_ends q C n p ends total which are s size found =
    let share = λ (d : ℕ). are.shared (are.label d) in
    let list = map share (count_from 1 n) in
    let long : length list ≡ n = length-map (count_from 1 n) share ∙ length-count_from 1 n in
    subst (BoundsReciprocals s p) (sum-map share (count_from 1 n) ∙ sym are.adds)
    (bounds_of_shares s found.0.symbol p share_unit list which (omega (arith, long, size))
    (λ d low high.
    let within : d ≤ n = omega (arith, high, size) in
    subst (λ a. share_unit ≤ a * degree s p d) (sym (item-map-count_from share n d low within)) (are.shares d (low, within) s found)))

-- the total is one
pub total_of_ends : (q : Request) (P : Symbol) (p : Pair) (ends : ℕ → PathEnd) (total : ℕ) → (p ≡ Tile) ⊎ (p ≡ Vertex) → ArePathEnds q (Completes P) P.size p ends total → IsTotal q P p share_unit total
total_of_ends q P p ends total which are s sought = bounds_of_ends q (Completes P) P.size p ends total which are s sought.completes.size (sought.wanted, sought.completes)

-- ## A chamber that is fixed

-- a share that is right for each degree that the chain has room for
pub fixed_share : (q : Request) (C : Symbol → Type 0) (n : ℕ) (p : Pair) (ends : ℕ → PathEnd) (total x k v : ℕ) → AreTables C n → ArePathEnds q C n p ends total → IsFixedEnd C p ends x
    → k ≤ (ends x).chambers → IsShareFrom q p k v → (s : Symbol) → IsFound q C s → share_unit ≤ v * degree s p (x / 2)
fixed_share q C n p ends total x k v full are end few from s found =
    let own = are.each x end.is_end in
    let c = found.1 in
    let size = (full s c).1 in
    let bound = label_degree_of_chain n s p are.label (are.label (x / 2)) (x / 2) found.0.symbol size own.inside (chain_of_fixed s p x (end.fixed s c)) (λ e h same. are.joined (x / 2) e own.inside h (sym same) s c) in
    let count = own.count in
    from.right (degree s p (x / 2)) (wanted_allowed q s p (x / 2) found.0 (inside_whole n s size (x / 2) own.inside)) (omega (arith, few, count, bound))

-- ## Where nothing is known

-- a number has its own label alone
alone_from : (a k n : ℕ) → (a < k → count_label (λ d. d) a (count_from k n) ≡ 0) × (k ≤ a → a < k + n → count_label (λ d. d) a (count_from k n) ≡ 1)
alone_from a k zero = (λ _. refl, λ low high. absurd (omega (arith, low, high)))
alone_from a k (suc n) =
    let rest = alone_from a (k + 1) n in
    let cons = sum_by-cons (λ d. cond (nat_eq d a) 1 0) k (count_from (k + 1) n) in (
      λ below.
          let none : cond (nat_eq k a) (suc zero) zero ≡ 0 = ap (λ t. cond t (suc zero) zero) (ne_eqb k a (λ same. absurd (omega (arith, below, same)))) in
          let more = rest.0 (omega (arith, below)) in
          omega (arith, cons, none, more),
      λ low high. ⊎_elim
          (λ same.
          let one : cond (nat_eq k a) (suc zero) zero ≡ 1 = ap (λ t. cond t (suc zero) zero) (eq-eqb k a same) in
          let more = rest.0 (omega (arith, same)) in
          omega (arith, cons, one, more))
          (λ other.
          let none : cond (nat_eq k a) (suc zero) zero ≡ 0 = ap (λ t. cond t (suc zero) zero) (ne_eqb k a other) in
          let more = rest.1 (omega (arith, low, other)) (omega (arith, high)) in
          omega (arith, cons, none, more))
          (cases_eq k a),
    )

same_sum : (v k n : ℕ) → sum_by (λ (d : ℕ). v) (count_from k n) ≡ n * v
same_sum v k zero = omega arith
same_sum v k (suc n) =
    let rest = same_sum v (k + 1) n in
    let cons = sum_by-cons (λ (d : ℕ). v) k (count_from (k + 1) n) in
    let more : suc n * v ≡ v + n * v = grind arith in
    omega (arith, rest, cons, more)

pub ends_alone : (q : Request) (C : Symbol → Type 0) (n : ℕ) (p : Pair) (ends : ℕ → PathEnd) (v : ℕ) → v ≤ share_unit
    → ((d : ℕ) → IsInside n d → (s : Symbol) → IsFound q C s → share_unit ≤ v * degree s p d) → ((x : ℕ) → 1 ≤ (ends x).chambers → IsAlone n v ends x)
    → ArePathEnds q C n p ends (n * v)
ends_alone q C n p ends v low right each = record {
  label = λ d. d;
  shared = λ _. v;
  joined = λ d e hd he same s c. subst (InCell s p d) same (in_cell-refl s p d);
  shares = right;
  small = λ d h. low;
  adds = sym (same_sum v 1 n);
  each = λ x live. let is = each x live in record {
    inside = is.inside;
    count = is.chambers ∙ sym ((alone_from (x / 2) 1 n).1 is.inside.0 (let high = is.inside.1 in omega (arith, high)));
    told = is.share;
    capped = λ yes s c. absurd (is.not_capped yes);
    other = (subst (IsInside n) (sym is.other) is.inside, is.other);
    alone = λ z _ same. is.both z same;
    closed = λ z h same. inl (⊎_elim (λ at. inl at) (λ at. inr (at, is.not_capped)) (is.both z same));
  };
}
