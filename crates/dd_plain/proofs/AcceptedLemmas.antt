-- A wanted symbol of at most three chambers is still taken where its degrees are replaced by 6,
-- since each number of turns up to three divides 6.
use Rattle.std.proofs.Common.{◌≡◌, ℕ, ◌*◌, ◌%◌, ◌≤◌, ◌⊎◌, length, refl, sym, ap, ◌∙◌, subst, ⊎_elim, arith}
use Rattle.dd_model.specs.declared.pair.Pair.{Pair}
use Rattle.dd_model.specs.declared.pair.Pair.TheVariants.{Tile, Vertex, Edge}
use Rattle.dd_model.specs.declared.index.Index.TheVariants.{Zero, One, Two}
use Rattle.dd_model.specs.declared.requests.Request.{Request}
use Rattle.dd_model.specs.Symbol.{Symbol, IsSymbol, IsTable, IsChamber, HasDegree, operation, op, power, turn, first, second, degree}
use Rattle.dd_model.specs.Cell.{IsBranching, turned}
use Rattle.dd_model.specs.Wanted.{Wanted}
use Rattle.dd_model.proofs.Turns.{period_exists, period_turns}
use Rattle.dd_symbol.specs.Building.{IsAccepted}
use Rattle.dd_plain.specs.Trials.{HasImages}
use Rattle.dd_plain.proofs.DegreeLemmas.{period_small, crystallographic_small}
use Rattle.dd_model.proofs.Numbers.{by_three, quotient_bound}
use Rattle.dd_plain.proofs.SameImages.{op-same, act-same, images-sym, chamber-same, involutions-same, connected-same, branching-same}

-- six turns fix each chamber
six_turns : (s : Symbol) → IsSymbol s → s.size ≤ 3 → (p : Pair) (d : ℕ) → IsChamber s d → turned s p 6 d ≡ d
six_turns s is few p d h =
    let has = is.degrees p d h in
    let period = period_exists s p d (degree s p d) has.positive has.turns in
    let most = period_small s is.table.involutions p d period.0 h period.1 in
    period_turns s p d period.0 6 period.1 (by_three (λ r. 6 % r ≡ 0) refl refl refl period.0 period.1.positive (omega arith))

-- the degrees of a pair are those of s, or all 6
abbrev pub KeepsOrSix : Symbol → Symbol → Pair → Type 0
KeepsOrSix s t p = ((d : ℕ) → IsChamber s d → degree t p d ≡ degree s p d) ⊎ ((d : ℕ) → IsChamber s d → degree t p d ≡ 6)

kept_degree : (s t : Symbol) → IsSymbol s → HasImages s t → (p : Pair) → ((d : ℕ) → IsChamber s d → degree t p d ≡ degree s p d)
    → (d : ℕ) → IsChamber s d → HasDegree t p d
kept_degree s t is same p keeps d h =
    let has = is.degrees p d h in
    let inv = is.table.involutions in
    let here = keeps d h in
    record {
      positive = subst (λ m. 1 ≤ m) (sym here) has.positive;
      along_first = ap (degree t p) (op-same s t same (first p) d) ∙ keeps (op s (first p) d) ((inv (first p)).within d h) ∙ has.along_first ∙ sym here;
      along_second = ap (degree t p) (op-same s t same (second p) d) ∙ keeps (op s (second p) d) ((inv (second p)).within d h) ∙ has.along_second ∙ sym here;
      turns = act-same s t same (power (turn p) (degree t p d)) d ∙ ap (λ m. turned s p m d) here ∙ has.turns;
    }

six_degree : (s t : Symbol) → IsSymbol s → s.size ≤ 3 → HasImages s t → (p : Pair) → ((d : ℕ) → IsChamber s d → degree t p d ≡ 6)
    → (d : ℕ) → IsChamber s d → HasDegree t p d
six_degree s t is few same p six d h =
    let inv = is.table.involutions in
    let here = six d h in
    record {
      positive = subst (λ m. 1 ≤ m) (sym here) (omega arith);
      along_first = ap (degree t p) (op-same s t same (first p) d) ∙ six (op s (first p) d) ((inv (first p)).within d h) ∙ sym here;
      along_second = ap (degree t p) (op-same s t same (second p) d) ∙ six (op s (second p) d) ((inv (second p)).within d h) ∙ sym here;
      turns = act-same s t same (power (turn p) (degree t p d)) d ∙ ap (λ m. turned s p m d) here ∙ six_turns s is few p d h;
    }

six_small : (v r : ℕ) → 1 ≤ r → v * r ≡ 6 → v ≤ 30
six_small v r positive e = grind arith

pub table-same : (s t : Symbol) → IsTable s → HasImages s t → length t.m01 ≡ t.size → length t.m12 ≡ t.size → IsTable t
table-same s t is same m01 m12 = record {
  chambers = subst (λ n. 1 ≤ n) (sym same.size) is.chambers;
  lengths = λ i. elim i as (λ j. length (operation t j) ≡ t.size) [
    | Zero ↦ ap length same.s0 ∙ is.lengths Zero ∙ sym same.size
    | One ↦ ap length same.s1 ∙ is.lengths One ∙ sym same.size
    | Two ↦ ap length same.s2 ∙ is.lengths Two ∙ sym same.size
  ];
  m01_length = m01;
  m12_length = m12;
  involutions = involutions-same s t same is.involutions;
}

-- what is taken is also taken with degrees of 6
pub accepted-with_sixes : (s t : Symbol) → IsAccepted 3 s → HasImages s t → length t.m01 ≡ t.size → length t.m12 ≡ t.size
    → ((p : Pair) → KeepsOrSix s t p) → IsAccepted 3 t
accepted-with_sixes s t ok same m01 m12 degrees =
    let is = ok.symbol.symbol in
    record {
      symbol = record {
        symbol = record {
          table = table-same s t is.table same m01 m12;
          degrees = λ p d h.
              let c = chamber-same s t same d h in
              ⊎_elim (λ keeps. kept_degree s t is same p keeps d c) (λ six. six_degree s t is ok.within same p six d c) (degrees p);
        };
        size = subst (λ n. n ≤ 16384) (sym same.size) ok.symbol.size;
        branching = λ p d v h b.
            let c = chamber-same s t same d h in
            ⊎_elim
            (λ keeps. ok.symbol.branching p d v c (branching-same t s (images-sym s t same) p d v (sym (keeps d c)) b))
            (λ six. six_small v b.r b.least_turns.positive (b.quotient ∙ six d c))
            (degrees p);
      };
      connected = connected-same s t same ok.connected;
      within = subst (λ n. n ≤ 3) (sym same.size) ok.within;
    }

-- a wanted symbol of at most three chambers is taken
pub wanted-accepted : (q : Request) (s : Symbol) → Wanted q s → s.size ≤ 3 → IsAccepted 3 s
wanted-accepted q s w few = record {
  symbol = record {
    symbol = w.symbol;
    size = omega arith;
    branching = λ p d v h b. (elim p as (λ r. IsBranching s r d v → v ≤ 30) [
      | Tile ↦ λ tile. crystallographic_small v (w.face_branching d v h tile)
      | Vertex ↦ λ vertex. crystallographic_small v (w.vertex_branching d v h vertex)
      | Edge ↦ λ edge. quotient_bound v edge.r edge.least_turns.positive edge.quotient
    ]) b;
  };
  connected = w.connected;
  within = few;
}
