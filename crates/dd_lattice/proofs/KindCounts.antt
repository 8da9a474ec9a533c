-- How many of the edges join two parts.
use Rattle.std.proofs.Common.{◌≡◌, ◌≢◌, ℕ, zero, suc, ◌+◌, ◌<◌, ◌≤◌, Bool, true, false, cond, eqb, List, [], ◌∷◌, length, get_or, refl, sym, ap, ◌∙◌, subst, ⊎_elim, arith}
use Rattle.std.proofs.lemmas.Bool.{cases_eq, cases_Bool, eq-eqb, ne_eqb}
use Rattle.std.specs.List.{Contains}
use Rattle.dd_model.specs.declared.index.Index.{Index}
use Rattle.dd_model.specs.declared.pair.Pair.{Pair}
use Rattle.dd_model.specs.declared.pair.Pair.TheVariants.{Edge}
use Rattle.dd_model.specs.Symbol.{Symbol, AreInvolutions, IsChamber, op}
use Rattle.dd_model.specs.Cell.{IsLeastOfCell, AreCells}
use Rattle.dd_model.proofs.Lists.{Contains-head, Contains-later, Contains-cases, Contains-none}
use Rattle.dd_cells.proofs.CellSums.{has_roots}
use Rattle.dd_covers.proofs.Labels.{Link, labels, linked, label_value, joined_by_links}
use Rattle.dd_covers.proofs.Nodes.{root_beside}
use Rattle.dd_lattice.specs.Edges.{IsOfCells, AreCellsJoined}
use Rattle.dd_lattice.proofs.FreshLinks.{AreFresh, AreAmong, fresh_links}
use Rattle.dd_lattice.proofs.KindLemmas.{listed_edge, ascending, place_before, value_of_cell, same_default, own_root}

module _ (t : Symbol) (inv : AreInvolutions t) (p : Pair) (i : Index) (Counts : ℕ → Type 0) (edges : List ℕ) (cells : AreCells t Edge edges) (chosen : ℕ → Bool) where
  abbrev edge : ℕ → ℕ
  edge k = get_or edges k 0

  abbrev root : ℕ → ℕ
  root = (has_roots t inv p).root

  -- the cells at the ends of an edge
  abbrev link : ℕ → Link
  link k = record { from = root (edge k); to = root (op t i (edge k)) }

  -- the links of the chosen ones among the first edges, the latest first
  abbrev pub links : ℕ → List Link
  links zero = []
  links (suc k) = cond (chosen k) (link k ∷ links k) (links k)

  abbrev pub count : ℕ → ℕ
  count zero = 0
  count (suc k) = cond (chosen k) (suc (count k)) (count k)

  pub count_links : (k : ℕ) → length (links k) ≡ count k
  count_links zero = refl
  count_links (suc k) =
      elim (chosen k) as (λ b. length (cond b (link k ∷ links k) (links k)) ≡ cond b (suc (count k)) (count k)) [
        | true ↦ ap suc (count_links k)
        | false ↦ count_links k
      ]

  -- a link of the first edges
  pub record IsLinkTo (k : ℕ) (e : Link) : Type 0 where
    pub place : ℕ
    pub early : place < k
    pub is : link place ≡ e
    pub yes : chosen place ≡ true

  link_to : (k : ℕ) (e : Link) → Contains (links k) e → IsLinkTo k e
  link_to zero e here = absurd (Contains-none e here)
  link_to (suc k) e here =
      ⊎_elim
      (λ yes. ⊎_elim
      (λ same. record { place = k; early = omega arith; is = same; yes = yes })
      (λ later. let x = link_to k e later in let low = x.early in record { place = x.place; early = omega arith; is = x.is; yes = x.yes })
      (Contains-cases (link k) e (links k) (subst (λ b. Contains (cond b (link k ∷ links k) (links k)) e) yes here)))
      (λ no. let x = link_to k e (subst (λ b. Contains (cond b (link k ∷ links k) (links k)) e) no here) in let low = x.early in record { place = x.place; early = omega arith; is = x.is; yes = x.yes })
      (cases_Bool (chosen k))

  pub link_listed : (k q : ℕ) → q < k → chosen q ≡ true → Contains (links k) (link q)
  link_listed zero q low is = absurd (omega arith)
  link_listed (suc k) q low is =
      ⊎_elim
      (λ at. subst (λ b. Contains (cond b (link k ∷ links k) (links k)) (link q)) (sym (subst (λ z. chosen z ≡ true) at is))
      (subst (λ z. Contains (link k ∷ links k) (link z)) (sym at) (Contains-head (link k) (links k))))
      (λ other.
      let rest = link_listed k q (omega arith) is in
      elim (chosen k) as (λ b. Contains (cond b (link k ∷ links k) (links k)) (link q)) [
        | true ↦ Contains-later (link k) (link q) (links k) rest
        | false ↦ rest
      ])
      (cases_eq q k)

  module _ (yes : (k : ℕ) → k < length edges → chosen k ≡ true → Counts (edge k) × (AreCellsJoined t p i Counts (edge k) → ⊥))
      (no : (k : ℕ) → k < length edges → chosen k ≡ false → Counts (edge k) → AreCellsJoined t p i Counts (edge k)) where
    -- ## Each link joins two labels

    pub fresh_at : (k : ℕ) → k < length edges → chosen k ≡ true → labels (links k) (root (edge k)) ≢ labels (links k) (root (op t i (edge k)))
    fresh_at k inside is same =
        let e = (listed_edge t edges cells k inside).0 in
        (yes k inside is).1 (λ g of_cells level.
        let of_root : (d : ℕ) → IsChamber t d → g (root d) ≡ g d = λ d h. value_of_cell t inv p g of_cells d (root d) h ((has_roots t inv p).are.in_cell d h) in
        let along : (x : Link) → Contains (links k) x → g x.from ≡ g x.to = λ x here.
        let from = link_to k x here in
        let low = from.early in
        let listed : from.place < length edges = omega arith in
        let there = listed_edge t edges cells from.place listed in
        subst (λ (y : Link). g y.from ≡ g y.to) from.is
        (of_root (edge from.place) there.0
        ∙ sym (level (edge from.place) there (yes from.place listed from.yes).0 (ascending edges t cells from.place k low inside))
        ∙ sym (of_root (op t i (edge from.place)) ((inv i).within (edge from.place) there.0))) in
        sym (of_root (op t i (edge k)) ((inv i).within (edge k) e)) ∙ sym (label_value (links k) g along (root (op t i (edge k)))) ∙ ap g (sym same) ∙ label_value (links k) g along (root (edge k)) ∙ of_root (edge k) e)

    are_fresh : (k : ℕ) → k ≤ length edges → AreFresh (links k)
    are_fresh zero low = tt
    are_fresh (suc k) low =
        let rest = are_fresh k (omega arith) in
        ⊎_elim
        (λ is. subst (λ b. AreFresh (cond b (link k ∷ links k) (links k))) (sym is) (fresh_at k (omega arith) is, rest))
        (λ out. subst (λ b. AreFresh (cond b (link k ∷ links k) (links k))) (sym out) rest)
        (cases_Bool (chosen k))

    -- ## What is equal at the chosen edges is equal at all that count

    level_to : (g : ℕ → ℕ) → IsOfCells t p g → ((q : ℕ) → q < length edges → chosen q ≡ true → g (op t i (edge q)) ≡ g (edge q))
        → (n q : ℕ) → q < n → q < length edges → Counts (edge q) → g (op t i (edge q)) ≡ g (edge q)
    level_to g of_cells level zero q low inside counts = absurd (omega arith)
    level_to g of_cells level (suc n) q low inside counts =
        ⊎_elim
        (λ is. level q inside is)
        (λ out. no q inside out counts g of_cells (λ e edge_e counts_e less.
        let at = place_before t edges cells q inside e edge_e less in
        let below = at.1 in
        subst (λ z. g (op t i z) ≡ g z) at.2
        (level_to g of_cells level n at.0 (omega arith) (omega arith) (subst Counts (sym at.2) counts_e))))
        (cases_Bool (chosen q))

    pub level_by_chosen : (g : ℕ → ℕ) → IsOfCells t p g → ((q : ℕ) → q < length edges → chosen q ≡ true → g (op t i (edge q)) ≡ g (edge q))
        → (e : ℕ) → IsLeastOfCell t Edge e → Counts e → g (op t i e) ≡ g e
    level_by_chosen g of_cells level e edge_e counts =
        let listed = (cells.members e).1 edge_e in
        let own : edge listed.0 ≡ e = same_default edges listed.0 e listed.1 listed.2 in
        subst (λ z. g (op t i z) ≡ g z) own (level_to g of_cells level (suc listed.0) listed.0 (omega arith) listed.1 (subst Counts (sym own) counts))

    module _ (vs : List ℕ) (are : AreCells t p vs) where
      among : AreAmong vs (links (length edges))
      among x here =
          let from = link_to (length edges) x here in
          let e = (listed_edge t edges cells from.place from.early).0 in
          subst (λ (y : Link). Contains vs y.from × Contains vs y.to) from.is (
            (are.members (root (edge from.place))).1 ((has_roots t inv p).are.least (edge from.place) e),
            (are.members (root (op t i (edge from.place)))).1 ((has_roots t inv p).are.least (op t i (edge from.place)) ((inv i).within (edge from.place) e)),
          )

      -- at most one fewer than the cells
      pub few_chosen : IsChamber t 1 → count (length edges) + 1 ≤ length vs
      few_chosen one =
          let all = fresh_links vs are.ascending (root 1) ((are.members (root 1)).1 ((has_roots t inv p).are.least 1 one)) (links (length edges)) (are_fresh (length edges) (omega arith)) among in
          let many = count_links (length edges) in
          omega arith

      -- ## The links join what the edges join

      abbrev value : ℕ → ℕ
      value d = labels (links (length edges)) (root d)

      of_cells : IsOfCells t p value
      of_cells j d h holds = ap (labels (links (length edges))) (root_beside t inv p root (has_roots t inv p).are j d h holds)

      -- where the edges that count join all cells, they are one fewer
      pub exactly_chosen : IsChamber t 1
          → ((g : ℕ → ℕ) → IsOfCells t p g → ((e : ℕ) → IsLeastOfCell t Edge e → Counts e → g (op t i e) ≡ g e) → (d : ℕ) → IsChamber t d → g d ≡ g 1)
          → count (length edges) + 1 ≡ length vs
      exactly_chosen one joined =
          let level = level_by_chosen value of_cells (λ q inside is. sym (linked (links (length edges)) (link q) (link_listed (length edges) q inside is))) in
          let same = joined value of_cells level in
          let few = few_chosen one in
          let all = joined_by_links (links (length edges)) vs (value 1) are.ascending (λ v here.
          let least = (are.members v).0 here in
          ap (labels (links (length edges))) (own_root t inv p v least) ∙ same v least.0) in
          let many = count_links (length edges) in
          omega arith

-- ## All chosen ones but one

module _ (t : Symbol) (inv : AreInvolutions t) (p : Pair) (i : Index) (Counts : ℕ → Type 0) (edges : List ℕ) (cells : AreCells t Edge edges) (chosen : ℕ → Bool) (m : ℕ) where
  abbrev pub all_but : ℕ → Bool
  all_but k = cond (eqb k m) false (chosen k)

  but_own : all_but m ≡ false
  but_own = ap (λ b. cond b false (chosen m)) (eq-eqb m m refl)

  pub but_other : (k : ℕ) → k ≢ m → all_but k ≡ chosen k
  but_other k off = ap (λ b. cond b false (chosen k)) (ne_eqb k m off)

  abbrev counted : (ℕ → Bool) → ℕ → ℕ
  counted = count t inv p i Counts edges cells

  same_before : (n : ℕ) → n ≤ m → counted all_but n ≡ counted chosen n
  same_before zero low = refl
  same_before (suc n) low =
      let rest = same_before n (omega arith) in
      ap (λ b. cond b (suc (counted all_but n)) (counted all_but n)) (but_other n (λ e. absurd (omega arith))) ∙ ap (λ c. cond (chosen n) (suc c) c) rest

  pub one_fewer : chosen m ≡ true → (n : ℕ) → m < n → suc (counted all_but n) ≡ counted chosen n
  one_fewer is zero low = absurd (omega arith)
  one_fewer is (suc n) low =
      ⊎_elim
      (λ at.
      let none : all_but n ≡ false = ap all_but at ∙ but_own in
      let yes_ : chosen n ≡ true = ap chosen at ∙ is in
      ap suc (ap (λ b. cond b (suc (counted all_but n)) (counted all_but n)) none ∙ same_before n (omega arith)) ∙ sym (ap (λ b. cond b (suc (counted chosen n)) (counted chosen n)) yes_))
      (λ off.
      let rest = one_fewer is n (omega arith) in
      let same = but_other n off in
      ⊎_elim
      (λ y. ap suc (ap (λ b. cond b (suc (counted all_but n)) (counted all_but n)) (same ∙ y)) ∙ ap suc rest ∙ sym (ap (λ b. cond b (suc (counted chosen n)) (counted chosen n)) y))
      (λ no_. ap suc (ap (λ b. cond b (suc (counted all_but n)) (counted all_but n)) (same ∙ no_)) ∙ rest ∙ sym (ap (λ b. cond b (suc (counted chosen n)) (counted chosen n)) no_))
      (cases_Bool (chosen n)))
      (cases_eq n m)
