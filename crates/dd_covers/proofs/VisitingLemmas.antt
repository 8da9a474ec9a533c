-- First visits, step by step.
use Rattle.std.proofs.Common.{◌≡◌, ℕ, zero, suc, ◌+◌, ◌-◌, ◌<◌, ◌≤◌, Bool, true, false, not, List, [], ◌∷◌, ◌++◌, length, max, set, replicate, sym, ap, ◌∙◌, subst, ⊎_elim, arith}
use Rattle.std.proofs.lemmas.Bool.{cases_lt, cases_eq}
use Rattle.std.proofs.lemmas.List.{get_or-set_same, get_or-set_other, length-set, get_or_append_left, get_or_push, length_push, length-replicate}
use Rattle.dd_model.specs.declared.index.Index.{Index}
use Rattle.dd_model.specs.declared.index.Index.TheVariants.{Zero, One, Two}
use Rattle.dd_model.specs.Symbol.{Symbol, IsChamber, IsTable, item, op}
use Rattle.dd_model.specs.Connected.{Connected}
use Rattle.dd_model.specs.Small.{IsSmallSymbol}
use Rattle.dd_model.specs.FirstVisit.{Grows, IsFirstVisit, rows}
use Rattle.dd_model.proofs.Codes.{same_items}
use Rattle.dd_model.proofs.FirstVisits.{IsMet, met_all, injective}
use Rattle.dd_model.proofs.Lists.{zero_at}
use Rattle.dd_model.proofs.Numberings.{numbered_from}
use Rattle.dd_model.proofs.Transport.{Connected-along}
use Rattle.dd_cells.specs.Orientation.{color, IsOriented}
use Rattle.dd_covers.specs.TorusCover.{AreColors}
use Rattle.dd_covers.specs.Visits.{rank, IsVisitOrder}
use Rattle.dd_covers.specs.Visiting.{IsVisiting}
use Rattle.dd_covers.proofs.Assembled.{has_colors}
use Rattle.dd_covers.proofs.FreeSides.{rank_cases}
use Rattle.dd_model.proofs.AllIndices.{index_low}

-- ## Images that are first met come in order

-- The images from chamber k on, where m is met before: the next one at a place is at most m + 1.
next_at : (t : Symbol) (n k g m c : ℕ) (i : Index) → Grows g (rows t k n) → g ≤ m → 1 ≤ m → k ≤ c → c < k + n
    → ((j : Index) (d : ℕ) → k ≤ d → rank j d < rank i c → op t j d ≤ m) → op t i c ≤ m + 1
next_at t zero k g m c i grows low pos from to met = absurd (omega arith)
next_at t (suc n) k g m c i grows low pos from to met =
    ⊎_elim
    (λ here. subst (λ z. ((j : Index) (d : ℕ) → k ≤ d → rank j d < rank i z → op t j d ≤ m) → op t i z ≤ m + 1) here (own i) met)
    (λ other.
    let p = index_low i in
    let a = met Zero k (omega arith) (omega arith) in
    let b = met One k (omega arith) (omega arith) in
    let d = met Two k (omega arith) (omega arith) in
    next_at t n (k + 1) (max (max (max g (op t Zero k)) (op t One k)) (op t Two k)) m c i grows.1.1.1 (omega arith) pos (omega arith) (omega arith) (λ j e up. met j e (omega arith)))
    (cases_eq k c) where
      own : (i : Index) → ((j : Index) (d : ℕ) → k ≤ d → rank j d < rank i k → op t j d ≤ m) → op t i k ≤ m + 1
      own Zero met = let x = grows.0 in omega arith
      own One met = let x = grows.1.0 in let a = met Zero k (omega arith) (omega arith) in omega arith
      own Two met = let x = grows.1.1.0 in let a = met Zero k (omega arith) (omega arith) in let b = met One k (omega arith) (omega arith) in omega arith

next_visit : (t : Symbol) (m c : ℕ) (i : Index) → IsFirstVisit t → 1 ≤ m → IsChamber t c → ((j : Index) (d : ℕ) → 1 ≤ d → d ≤ t.size → rank j d < rank i c → op t j d ≤ m) → op t i c ≤ m + 1
next_visit t m c i first pos h met =
    next_at t t.size 1 1 m c i first pos pos h.0 (omega (arith, h.1))
    (λ j d low before. let p = index_low i in met j d low (omega (arith, h.1)) before)

-- ## The steps

-- at the beginning
pub begun_visiting : (s : Symbol) → IsSmallSymbol s → Connected s → IsOriented s → (n : ℕ) → n ≡ s.size
    → IsVisiting s (1 ∷ []) (set (replicate n 0) 0 1) (set (replicate n false) 0 true) (rank Zero 1)
begun_visiting s small all oriented n same =
    let table = small.symbol.table in
    let one : IsChamber s 1 = (omega arith, table.chambers) in
    let v = numbered_from s 1 table all one in
    let f = v.1.map in
    let c = has_colors s table.involutions table.chambers oriented in
    let ln : length (replicate {A = ℕ} n 0) ≡ n = length-replicate n 0 in
    let lw : length (replicate n false) ≡ n = length-replicate n false in
    let some = table.chambers in
    record {
      small = small;
      connected = all;
      numbered = v.0;
      numbering = v.1;
      colors = c.colors;
      are_colors = c.are;
      numbers = length-set (replicate n 0) 0 1 ∙ ln ∙ same;
      whites = length-set (replicate n false) 0 true ∙ lw ∙ same;
      begun = omega arith;
      placed = λ j low high. let e : 1 ≡ j = omega arith in subst (λ z. IsChamber s (item (1 ∷ []) z) × (item f (item (1 ∷ []) z) ≡ z)) e (one, v.1.start_first);
      visited = λ d h low.
          let inside = v.1.isomorphism.morphism.within d h in
          let first : item f d ≡ 1 = omega (arith, inside.0) in
          let at : 1 ≡ d = sym (injective s v.0 f v.1.isomorphism d 1 h one (first ∙ sym v.1.start_first)) in
          subst (λ z. (item (set (replicate n 0) 0 1) z ≡ item f z) × (color (set (replicate n false) 0 true) z ≡ color c.colors z)) at
          (get_or-set_same (replicate n 0) 0 1 0 (omega arith) ∙ sym v.1.start_first, get_or-set_same (replicate n false) 0 true false (omega arith) ∙ sym c.are.white);
      new = λ d h up.
          let apart : d ≡ 1 → ⊥ = λ e. let x = ap (item f) e ∙ v.1.start_first in absurd (omega arith) in
          get_or-set_other (replicate n 0) 0 (d - 1) 1 0 (λ e. apart (omega (arith, e, h.0))) ∙ zero_at n (d - 1);
      taken = λ i k low high before. absurd (omega arith);
    }

-- an image that has a number, or gets the next one
module _ (s : Symbol) (order number : List ℕ) (white : List Bool) (i : Index) (k : ℕ) (v : IsVisiting s order number white (rank i k)) (low : 1 ≤ k) (high : k ≤ length order) where
  abbrev table : IsTable s
  table = v.small.symbol.table

  abbrev t : Symbol
  t = v.numbered

  abbrev f : List ℕ
  f = v.numbering.map

  abbrev d : ℕ
  d = item order k

  abbrev e : ℕ
  e = op s i d

  here : IsChamber s d
  here = (v.placed k low high).0

  there : IsChamber s e
  there = (table.involutions i).within d here

  inside : (c : ℕ) → IsChamber s c → (1 ≤ item f c) × (item f c ≤ s.size)
  inside c h = let w = v.numbering.isomorphism.morphism.within c h in (w.0, let size = v.numbering.isomorphism.size in omega (arith, w.1))

  image : item f e ≡ op t i k
  image = v.numbering.isomorphism.morphism.op i d here ∙ ap (op t i) (v.placed k low high).1

  known_k : k ≤ s.size
  known_k = let w = inside d here in let p = (v.placed k low high).1 in omega (arith, w.1)

  taken_to : (m : ℕ) → length order ≤ m → op t i k ≤ m → (j : Index) (c : ℕ) → 1 ≤ c → c ≤ s.size → rank j c < rank i k + 1 → op t j c ≤ m
  taken_to m longer own j c lc hc before =
      ⊎_elim
      (λ less. let old = v.taken j c lc hc less in omega arith)
      (λ same. subst (λ z. op t z c ≤ m) (sym same.0) (subst (λ z. op t i z ≤ m) (sym same.1) own))
      (rank_cases i j k c before)

  pub seen_again : (item number e ≡ 0 → ⊥) → IsVisiting s order number white (rank i k + 1)
  seen_again known =
      let old : item f e ≤ length order = ⊎_elim (λ less. absurd (known (v.new e there less))) (λ more. more) (cases_lt (length order) (item f e)) in
      let own = image in
      record {
        small = v.small;
        connected = v.connected;
        numbered = v.numbered;
        numbering = v.numbering;
        colors = v.colors;
        are_colors = v.are_colors;
        numbers = v.numbers;
        whites = v.whites;
        begun = v.begun;
        placed = v.placed;
        visited = v.visited;
        new = v.new;
        taken = taken_to (length order) (omega arith) (omega arith);
      }

  next_number : item number e ≡ 0 → item f e ≡ length order + 1
  next_number none =
      let begun = v.begun in
      let w = inside e there in
      let up : length order < item f e = ⊎_elim (λ less. less) (λ more. let same = (v.visited e there (omega arith)).0 in absurd (omega (arith, w.0))) (cases_lt (length order) (item f e)) in
      let size = v.numbering.isomorphism.size in
      let next = next_visit t (length order) k i v.numbering.first_visit begun (low, (let h = known_k in omega arith)) (λ j c lc hc before. v.taken j c lc (omega arith) before) in
      let own = image in
      omega arith

  pub room_left : item number e ≡ 0 → length order + 1 ≤ s.size
  room_left none = let w = inside e there in let n = next_number none in omega (arith, w.1)

  pub seen_first : item number e ≡ 0 → (x : ℕ) → x ≡ length order + 1
      → IsVisiting s (order ++ e ∷ []) (set number (e - 1) x) (set white (e - 1) (not (color white d))) (rank i k + 1)
  seen_first none x at =
      let m = length order in
      let next = next_number none in
      let longer = length_push order e in
      let lh = there in
      let size = v.numbers in
      let colored = v.whites in
      let own = image in
      let old_item : (j : ℕ) → 1 ≤ j → j ≤ m → item (order ++ e ∷ []) j ≡ item order j = λ j lj hj. get_or_append_left order (e ∷ []) 0 (j - 1) (omega arith) in
      let new_item : item (order ++ e ∷ []) (m + 1) ≡ e = get_or_push order e 0 (m + 1 - 1) (omega arith) in
      let other : (c : ℕ) → IsChamber s c → (c ≡ e → ⊥) → (item (set number (e - 1) x) c ≡ item number c) × (color (set white (e - 1) (not (color white d))) c ≡ color white c) =
      λ c h apart.
      let differ : c - 1 ≡ e - 1 → ⊥ = λ q. apart (omega (arith, q, h.0, there.0)) in
      (get_or-set_other number (e - 1) (c - 1) x 0 differ, get_or-set_other white (e - 1) (c - 1) (not (color white d)) false differ) in
      let place : e - 1 < s.size = omega (arith, there.0, there.1) in
      record {
        small = v.small;
        connected = v.connected;
        numbered = v.numbered;
        numbering = v.numbering;
        colors = v.colors;
        are_colors = v.are_colors;
        numbers = length-set number (e - 1) x ∙ v.numbers;
        whites = length-set white (e - 1) (not (color white d)) ∙ v.whites;
        begun = omega arith;
        placed = λ j lj hj. ⊎_elim
            (λ old. subst (λ z. IsChamber s z × (item f z ≡ j)) (sym (old_item j lj (omega arith))) (v.placed j lj (omega arith)))
            (λ last.
            let q : m + 1 ≡ j = omega arith in
            subst (λ z. IsChamber s (item (order ++ e ∷ []) z) × (item f (item (order ++ e ∷ []) z) ≡ z)) q
            (subst (λ z. IsChamber s z × (item f z ≡ m + 1)) (sym new_item) (there, next)))
            (cases_lt j (m + 1));
        visited = λ c h lc. ⊎_elim
            (λ same.
            subst (λ z. (item (set number (e - 1) x) z ≡ item f z) × (color (set white (e - 1) (not (color white d))) z ≡ color v.colors z)) (sym same) (
              get_or-set_same number (e - 1) x 0 (omega arith) ∙ at ∙ sym next,
              get_or-set_same white (e - 1) (not (color white d)) false (omega arith) ∙ ap not (v.visited d here (let p = (v.placed k low high).1 in omega arith)).1 ∙ sym (v.are_colors.exchanged i d here),
            ))
            (λ apart.
            let o = other c h apart in
            let below : item f c ≤ m = ⊎_elim (λ q. omega arith) (λ q. absurd (apart (injective s t f v.numbering.isomorphism c e h there (omega arith)))) (cases_lt (item f c) (m + 1)) in
            let w = v.visited c h below in
            (o.0 ∙ w.0, o.1 ∙ w.1))
            (cases_eq c e);
        new = λ c h up.
            let apart : c ≡ e → ⊥ = λ q. let z = ap (item f) q in absurd (omega arith) in
            (other c h apart).0 ∙ v.new c h (omega arith);
        taken = λ j c lc hc before. taken_to (length (order ++ e ∷ [])) (omega arith) (omega arith) j c lc hc before;
      }

-- ## The rows

visits_reach : (s : Symbol) (order number : List ℕ) (white : List Bool) (k : ℕ) → IsVisiting s order number white (rank Zero k)
    → length order < k → s.size ≤ length order
visits_reach s order number white k v few =
    let table = v.small.symbol.table in
    let all = v.connected in
    let t = v.numbered in
    let iso = v.numbering.isomorphism in
    let m = length order in
    let size = iso.size in
    let some = table.chambers in
    ⊎_elim
    (λ less.
    let met : IsMet t (m + 1) m = record { met = λ i c low below. let p = index_low i in v.taken i c low (omega arith) (omega arith) } in
    let last : IsChamber t t.size = (omega arith, omega arith) in
    let bound = met_all t m v.numbering.table (Connected-along s t v.numbering.map table iso all) v.begun met t.size last in
    omega arith)
    (λ more. more)
    (cases_lt m s.size)

pub row_inside : (s : Symbol) (order number : List ℕ) (white : List Bool) (k : ℕ) → IsVisiting s order number white (rank Zero k) → k ≤ s.size → k ≤ length order
row_inside s order number white k v high =
    ⊎_elim (λ few. let reach = visits_reach s order number white k v few in absurd (omega arith)) (λ enough. enough) (cases_lt (length order) k)

module _ (s : Symbol) (order number : List ℕ) (white : List Bool) (v : IsVisiting s order number white (rank Zero (s.size + 1))) where
  whole : s.size ≤ length order
  whole = ⊎_elim (λ few. visits_reach s order number white (s.size + 1) v few) (λ more. omega arith) (cases_lt (length order) (s.size + 1))

  visited_all : (d : ℕ) → IsChamber s d → (item number d ≡ item v.numbering.map d) × (color white d ≡ color v.colors d)
  visited_all d h =
      let w = v.numbering.isomorphism.morphism.within d h in
      let size = v.numbering.isomorphism.size in
      let enough = whole in
      v.visited d h (omega (arith, w.1))

  pub order_found : IsVisitOrder s number
  order_found = record {
    numbered = v.numbered;
    is = v.numbering;
    map = sym (same_items number v.numbering.map s.size v.numbers v.numbering.isomorphism.bijection.images (λ d low high. (visited_all d (low, omega arith)).0));
  }

  pub colors_found : AreColors s white
  colors_found = record {
    exchanged = λ i d h. (visited_all (op s i d) ((v.small.symbol.table.involutions i).within d h)).1 ∙ v.are_colors.exchanged i d h ∙ ap not (sym (visited_all d h).1);
    white = (visited_all 1 (omega arith, v.small.symbol.table.chambers)).1 ∙ v.are_colors.white;
  }
