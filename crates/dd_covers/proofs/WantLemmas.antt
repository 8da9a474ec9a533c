-- What is wanting at the cells, and the greatest branching value.
use Rattle.std.proofs.Common.{◌≡◌, ℕ, zero, suc, ◌+◌, ◌-◌, ◌*◌, ◌/◌, ◌%◌, ◌<◌, ◌≤◌, ◌⊎◌, List, length, max, set, slice_index, refl, sym, ap, ◌∙◌, subst, ⊎_elim, arith}
use Rattle.std.proofs.lemmas.Bool.{cases_lt, cases_eq}
use Rattle.std.proofs.lemmas.List.{get_or-set_same, get_or-set_other}
use Rattle.dd_model.specs.declared.pair.Pair.{Pair}
use Rattle.dd_model.specs.declared.pair.Pair.TheVariants.{Tile, Vertex, Edge}
use Rattle.dd_model.specs.Symbol.{Symbol, IsChamber, IsSymbol, op, first, second}
use Rattle.dd_model.specs.Cell.{InCell, IsBranching}
use Rattle.dd_model.proofs.Branching.{branching_exists, branching_same, branching_unique}
use Rattle.dd_model.proofs.CellSearch.{least_of_cell_unique}
use Rattle.dd_model.proofs.CellWalks.{in_cell-sym, in_cell-trans, in_cell-refl, in_cell-first, in_cell-second}
use Rattle.dd_model.proofs.Transport.{in_cell_within}
use Rattle.dd_covers.specs.CellNumbers.{numbered, IsCellNumber}
use Rattle.dd_covers.specs.PlaneValues.{IsGreatestValue}
use Rattle.dd_covers.specs.Wanting.{IsGreatestTo, IsWantedAt}
use Rattle.dd_covers.proofs.JoinLemmas.{number_low}

-- ## One number, one cell

pair_of_number : (s : Symbol) (p q : Pair) (l m : ℕ) → IsChamber s l → IsChamber s m → numbered s p l ≡ numbered s q m → p ≡ q
pair_of_number s Tile Tile l m hl hm e = refl
pair_of_number s Tile Vertex l m hl hm e = absurd (omega (arith, hl.0, hl.1, hm.0, hm.1, e))
pair_of_number s Tile Edge l m hl hm e = absurd (omega (arith, hl.0, hl.1, hm.0, hm.1, e))
pair_of_number s Vertex Tile l m hl hm e = absurd (omega (arith, hl.0, hl.1, hm.0, hm.1, e))
pair_of_number s Vertex Vertex l m hl hm e = refl
pair_of_number s Vertex Edge l m hl hm e = absurd (omega (arith, hl.0, hl.1, hm.0, hm.1, e))
pair_of_number s Edge Tile l m hl hm e = absurd (omega (arith, hl.0, hl.1, hm.0, hm.1, e))
pair_of_number s Edge Vertex l m hl hm e = absurd (omega (arith, hl.0, hl.1, hm.0, hm.1, e))
pair_of_number s Edge Edge l m hl hm e = refl

value_of_number : (s : Symbol) → IsSymbol s → (p q : Pair) (d e n v w : ℕ) → IsChamber s d → IsChamber s e → IsCellNumber s p d n → IsCellNumber s q e n → IsBranching s p d v → IsBranching s q e w → v ≡ w
value_of_number s is p q d e n v w hd he cd ce bd be =
    let hl = cd.is_least.is_least.0 in
    let hm = ce.is_least.is_least.0 in
    let same : numbered s p cd.least ≡ numbered s q ce.least = sym cd.number ∙ ce.number in
    let pair = pair_of_number s p q cd.least ce.least hl hm same in
    let own : numbered s q cd.least ≡ numbered s q ce.least = subst (λ r. numbered s r cd.least ≡ numbered s q ce.least) pair same in
    let least : cd.least ≡ ce.least = omega arith in
    let bl = branching_same s is p d cd.least v hd cd.is_least.in_cell bd in
    let bm = branching_same s is q e ce.least w he ce.is_least.in_cell be in
    branching_unique s q ce.least v w (subst (λ l. IsBranching s q l v) least (subst (λ r. IsBranching s r cd.least v) pair bl)) bm

module _ (s : Symbol) (is : IsSymbol s) (k : ℕ) (wants : List ℕ) (size : length wants ≡ 3 * (s.size + 1)) (p : Pair) (d n v : ℕ) (h : IsChamber s d) (c : IsCellNumber s p d n) (b : IsBranching s p d v) where
  abbrev after : List ℕ
  after = set wants n (k / v % k)

  inside : n < length wants
  inside = let l = number_low s p d n c in omega arith

  at_number : (q : Pair) (e m w : ℕ) → IsChamber s e → IsCellNumber s q e m → IsBranching s q e w → m ≡ n → slice_index after m ≡ k / w % k
  at_number q e m w he ce be same =
      ap (slice_index after) same ∙ get_or-set_same wants n (k / v % k) 0 inside
      ∙ ap (λ z. k / z % k) (value_of_number s is p q d e n v w h he c (subst (IsCellNumber s q e) same ce) b be)

  pub want_own : IsWantedAt s k after p d
  want_own = record {
    value = λ m w cm bw. ⊎_elim
        (λ same. at_number p d m w h cm bw same)
        (λ other. absurd (other (one_number m cm)))
        (cases_eq m n);
  } where
    one_number : (m : ℕ) → IsCellNumber s p d m → m ≡ n
    one_number m cm =
        let e = least_of_cell_unique s is.table.involutions p cm.least c.least cm.is_least.is_least c.is_least.is_least
        (in_cell-trans s p cm.least d c.least (in_cell-sym s is.table.involutions p d cm.least h cm.is_least.in_cell) c.is_least.in_cell) in
        cm.number ∙ ap (numbered s p) e ∙ sym c.number

  pub want_kept : (q : Pair) (e : ℕ) → IsChamber s e → IsWantedAt s k wants q e → IsWantedAt s k after q e
  want_kept q e he old = record {
    value = λ m w cm bw. ⊎_elim
        (λ same. at_number q e m w he cm bw same)
        (λ other. get_or-set_other wants n m (k / v % k) 0 other ∙ old.value m w cm bw)
        (cases_eq m n);
  }

-- ## The greatest value

pub raised : (s : Symbol) (n k : ℕ) → IsGreatestTo s n k → (p : Pair) (d v : ℕ) → IsChamber s d → IsBranching s p d v → IsGreatestTo s n (max k v)
raised s n k old p d v h b =
    let low : (q : Pair) (e w : ℕ) → IsChamber s e → e ≤ n → IsBranching s q e w → w ≤ max k v = λ q e w he ne be. let l = old.greatest q e w he ne be in omega arith in
    ⊎_elim
    (λ less.
    let e : v ≡ max k v = omega arith in
    record { pair = p; chamber = d; is_chamber = h; branching = subst (IsBranching s p d) e b; greatest = low })
    (λ more.
    let e : k ≡ max k v = omega arith in
    record { pair = old.pair; chamber = old.chamber; is_chamber = old.is_chamber; branching = subst (IsBranching s old.pair old.chamber) e old.branching; greatest = low })
    (cases_lt k v)

-- the value of a cell with a smaller neighbor is one of those before
pub seen_before : (s : Symbol) → IsSymbol s → (p : Pair) (d e k v : ℕ) → IsChamber s d → IsGreatestTo s (d - 1) k → (e ≡ op s (first p) d) ⊎ (e ≡ op s (second p) d) → e < d
    → IsBranching s p d v → v ≤ k
seen_before s is p d e k v h old beside less b =
    let own = in_cell-refl s p d in
    let there : InCell s p d e =
    ⊎_elim (λ a. subst (InCell s p d) (sym a) (in_cell-first s p d d own)) (λ a. subst (InCell s p d) (sym a) (in_cell-second s p d d own)) beside in
    old.greatest p e v (in_cell_within s is.table.involutions p d e h there) (omega arith) (branching_same s is p d e v h there b)

pub own_low : (s : Symbol) (p : Pair) (d k v : ℕ) → IsBranching s p d v → (w : ℕ) → IsBranching s p d w → w ≤ max k v
own_low s p d k v b w other = let e = branching_unique s p d w v other b in omega arith

-- the values at one chamber more are no greater
pub greatest_more : (s : Symbol) (d k : ℕ) → IsGreatestTo s (d - 1) k → ((p : Pair) (v : ℕ) → IsBranching s p d v → v ≤ k) → IsGreatestTo s d k
greatest_more s d k old own = record {
  pair = old.pair;
  chamber = old.chamber;
  is_chamber = old.is_chamber;
  branching = old.branching;
  greatest = λ p e v he le be. ⊎_elim
      (λ less. old.greatest p e v he (omega arith) be)
      (λ more.
      let same : e ≡ d = omega arith in
      own p v (subst (λ z. IsBranching s p z v) same be))
      (cases_lt e d);
}

pub three_more : (s : Symbol) (d a b c : ℕ) → a ≤ b → b ≤ c → IsGreatestTo s (d - 1) c → ((v : ℕ) → IsBranching s Tile d v → v ≤ a) → ((v : ℕ) → IsBranching s Vertex d v → v ≤ b)
    → ((v : ℕ) → IsBranching s Edge d v → v ≤ c) → IsGreatestTo s d c
three_more s d a b c low high old tile vertex edge = greatest_more s d c old own where
  own : (p : Pair) (v : ℕ) → IsBranching s p d v → v ≤ c
  own Tile v bv = let l = tile v bv in omega arith
  own Vertex v bv = let l = vertex v bv in omega arith
  own Edge v bv = edge v bv

pub greatest_first : (s : Symbol) (k : ℕ) → IsChamber s 1 → IsBranching s Tile 1 k → IsGreatestTo s 0 k
greatest_first s k h b = record { pair = Tile; chamber = 1; is_chamber = h; branching = b; greatest = λ p d v hd low _. absurd (omega (arith, hd.0)) }

pub greatest_last : (s : Symbol) (n k : ℕ) → n ≡ s.size → IsGreatestTo s n k → IsGreatestValue s k
greatest_last s n k same g = record {
  pair = g.pair;
  chamber = g.chamber;
  is_chamber = g.is_chamber;
  branching = g.branching;
  greatest = λ p d v h b. g.greatest p d v h (omega (arith, h.1)) b;
}

-- the greatest branching value of a symbol
pub record HasGreatestValue (s : Symbol) : Type 0 where
  pub value : ℕ
  pub greatest : IsGreatestValue s value

greatest_to : (s : Symbol) → IsSymbol s → (n : ℕ) → n ≤ s.size → (k : ℕ) × IsGreatestTo s n k
greatest_to s is zero low =
    let one : IsChamber s 1 = (omega arith, is.table.chambers) in
    let b = branching_exists s is Tile 1 one in
    (b.0, greatest_first s b.0 one b.1)
greatest_to s is (suc n) low =
    let old = greatest_to s is n (omega arith) in
    let h : IsChamber s (suc n) = (omega arith, low) in
    let a = branching_exists s is Tile (suc n) h in
    let b = branching_exists s is Vertex (suc n) h in
    let c = branching_exists s is Edge (suc n) h in
    let before : n ≡ suc n - 1 = omega arith in
    let one = raised s (suc n - 1) old.0 (subst (λ m. IsGreatestTo s m old.0) before old.1) Tile (suc n) a.0 h a.1 in
    let two = raised s (suc n - 1) (max old.0 a.0) one Vertex (suc n) b.0 h b.1 in
    let three = raised s (suc n - 1) (max (max old.0 a.0) b.0) two Edge (suc n) c.0 h c.1 in (
      max (max (max old.0 a.0) b.0) c.0,
      three_more s (suc n) (max old.0 a.0) (max (max old.0 a.0) b.0) (max (max (max old.0 a.0) b.0) c.0) (omega arith) (omega arith) three
          (own_low s Tile (suc n) old.0 a.0 a.1) (own_low s Vertex (suc n) (max old.0 a.0) b.0 b.1) (own_low s Edge (suc n) (max (max old.0 a.0) b.0) c.0 c.1),
    )

pub greatest_exists : (s : Symbol) → IsSymbol s → HasGreatestValue s
greatest_exists s is = let g = greatest_to s is s.size (omega arith) in record { value = g.0; greatest = greatest_last s s.size g.0 refl g.1 }

-- ## One chamber more

pub wanted_more : (s : Symbol) (k j : ℕ) (old one two three : List ℕ) → ((p : Pair) (d : ℕ) → IsChamber s d → d ≤ j → IsWantedAt s k old p d)
    → IsWantedAt s k one Tile (j + 1) → ((p : Pair) (d : ℕ) → IsChamber s d → IsWantedAt s k old p d → IsWantedAt s k one p d)
    → IsWantedAt s k two Vertex (j + 1) → ((p : Pair) (d : ℕ) → IsChamber s d → IsWantedAt s k one p d → IsWantedAt s k two p d)
    → IsWantedAt s k three Edge (j + 1) → ((p : Pair) (d : ℕ) → IsChamber s d → IsWantedAt s k two p d → IsWantedAt s k three p d)
    → (p : Pair) (d : ℕ) → IsChamber s d → d ≤ j + 1 → IsWantedAt s k three p d
wanted_more s k j old one two three before a ka b kb c kc p d h low =
    ⊎_elim
    (λ less. kc p d h (kb p d h (ka p d h (before p d h (omega arith)))))
    (λ more. let same : j + 1 ≡ d = omega arith in own p d h same)
    (cases_lt d (j + 1)) where
      own : (p : Pair) (d : ℕ) → IsChamber s d → j + 1 ≡ d → IsWantedAt s k three p d
      own Tile d h same = kc Tile d h (kb Tile d h (subst (IsWantedAt s k one Tile) same a))
      own Vertex d h same = kc Vertex d h (subst (IsWantedAt s k two Vertex) same b)
      own Edge d h same = subst (IsWantedAt s k three Edge) same c
