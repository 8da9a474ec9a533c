-- A label that no flag leaves is a whole cell.
use Rattle.std.proofs.Common.{◌≡◌, ℕ, ◌+◌, ◌*◌, ◌/◌, ◌%◌, ◌<◌, ◌≤◌, ◌⊎◌, List, [], ◌∷◌, length, refl, sym, ap, ◌∙◌, subst, inl, inr, ⊎_elim, arith}
use Rattle.std.proofs.lemmas.Bool.{cases_lt, eq-eqb, eqb-true}
use Rattle.std.proofs.lemmas.List.Kept.{IsStrictlyIncreasing-filter}
use Rattle.std.specs.Prelude.{nat_eq}
use Rattle.std.specs.List.{filter}
use Rattle.dd_model.specs.declared.pair.Pair.{Pair}
use Rattle.dd_model.specs.declared.pair.Pair.TheVariants.{Tile, Vertex}
use Rattle.dd_model.specs.declared.requests.Request.{Request}
use Rattle.dd_model.specs.Symbol.{Symbol, AreInvolutions, IsChamber, Word, first, second, op, act, degree}
use Rattle.dd_model.specs.Cell.{InCell, IsChain, IsWordOf, IsPeriod, IsBranching}
use Rattle.dd_model.specs.Code.{chambers, count_from}
use Rattle.dd_model.specs.Wanted.{Wanted}
use Rattle.dd_model.proofs.Branching.{branching_exists}
use Rattle.dd_model.proofs.CellWalks.{has_period}
use Rattle.dd_model.proofs.CellLists.{increasing_unique}
use Rattle.dd_model.proofs.CountFrom.{increasing-count_from}
use Rattle.dd_model.proofs.Transport.{in_cell_within}
use Rattle.dd_model.proofs.Turns.{IsLeastTurns-from_period, least_turns_unique}
use Rattle.dd_cells.specs.Cells.{AreMembers}
use Rattle.dd_cells.proofs.CellSizes.{chain_size, cycle_size}
use Rattle.dd_cells.proofs.CellSums.{Contains-filter, Contains-from_filter, chamber_listed, listed_chamber}
use Rattle.dd_branch_bounds.specs.Shares.{IsAllowed}
use Rattle.dd_branch_bounds.specs.Units.{share_unit}
use Rattle.dd_branch_bounds.proofs.Bounds.{wanted_allowed}
use Rattle.dd_branch_bounds.specs.Classes.{AreClosedTurns, IsClosedShare, IsWholeShare}
use Rattle.dd_branch_bounds.specs.Ends.{led}
use Rattle.dd_branch_bounds.specs.Labels.{count_label}
use Rattle.dd_branch_bounds.proofs.LabelLemmas.{length-labelled, filtered}
use Rattle.dd_branch_bounds.proofs.WithinLemmas.{led_even, led_odd}

-- in a table the chambers with the label of d are in its cell, and no flag of them leads elsewhere
pub record IsClosedLabel (s : Symbol) (p : Pair) (label : ℕ → ℕ) (d : ℕ) : Type 0 where
  pub chamber : IsChamber s d
  pub near : (e : ℕ) → IsChamber s e → label e ≡ label d → InCell s p d e
  pub flags : (z : ℕ) → IsChamber s (z / 2) → label (z / 2) ≡ label d → label (led s p z) ≡ label d

-- ## Its chambers are those of the cell

module _ (s : Symbol) (inv : AreInvolutions s) (p : Pair) (label : ℕ → ℕ) (d : ℕ) (closed : IsClosedLabel s p label d) where
  along_first : (e : ℕ) → IsChamber s e → label e ≡ label d → label (op s (first p) e) ≡ label d
  along_first e h same =
      let half : 2 * e / 2 ≡ e = omega arith in
      ap label (sym (led_even s p e)) ∙ closed.flags (2 * e) (subst (IsChamber s) (sym half) h) (ap label half ∙ same)

  along_second : (e : ℕ) → IsChamber s e → label e ≡ label d → label (op s (second p) e) ≡ label d
  along_second e h same =
      let half : (2 * e + 1) / 2 ≡ e = omega arith in
      ap label (sym (led_odd s p e)) ∙ closed.flags (2 * e + 1) (subst (IsChamber s) (sym half) h) (ap label half ∙ same)

  along_word : (w : Word) (e : ℕ) → IsWordOf p w → IsChamber s e → label e ≡ label d → label (act s w e) ≡ label d
  along_word [] e letters h same = same
  along_word (i ∷ w) e letters h same =
      along_word w (op s i e) letters.1 ((inv i).within e h)
      (⊎_elim
      (λ is. ap (λ j. label (op s j e)) is ∙ along_first e h same)
      (λ is. ap (λ j. label (op s j e)) is ∙ along_second e h same)
      letters.0)

  pub label_in_cell : (e : ℕ) → InCell s p d e → label e ≡ label d
  label_in_cell e there = ap label (sym there.leads) ∙ along_word there.word d there.letters closed.chamber refl

  members : AreMembers s p d (filter (λ e. nat_eq (label e) (label d)) (chambers s))
  members = record {
    ascending = IsStrictlyIncreasing-filter (λ e. nat_eq (label e) (label d)) (chambers s) (increasing-count_from 1 s.size);
    each = λ e. (
      λ listed.
          let from = Contains-from_filter (λ e. nat_eq (label e) (label d)) (chambers s) e listed in
          closed.near e (listed_chamber s e from.0) (eqb-true (label e) (label d) from.1),
      λ there.
          let h = in_cell_within s inv p d e closed.chamber there in
          Contains-filter (λ e. nat_eq (label e) (label d)) (chambers s) e (chamber_listed s e h) (eq-eqb (label e) (label d) (label_in_cell e there)),
    );
  }

  counted : length (filter (λ e. nat_eq (label e) (label d)) (chambers s)) ≡ count_label label (label d) (count_from 1 s.size)
  counted = ap length (filtered label (label d) (count_from 1 s.size)) ∙ length-labelled label (label d) (count_from 1 s.size)

  -- so many chambers have the label of d
  pub closed_size : (listed : List ℕ) → AreMembers s p d listed → length listed ≡ count_label label (label d) (count_from 1 s.size)
  closed_size listed are =
      ap length (increasing_unique listed (filter (λ e. nat_eq (label e) (label d)) (chambers s)) are.ascending members.ascending
      (λ e here. (members.each e).1 ((are.each e).0 here)) (λ e here. (are.each e).1 ((members.each e).0 here)))
      ∙ counted

  chain_chambers : (r : ℕ) → IsPeriod s p d r → IsChain s p d → count_label label (label d) (count_from 1 s.size) ≡ r
  chain_chambers r period chain = sym counted ∙ chain_size s inv p d r (filter (λ e. nat_eq (label e) (label d)) (chambers s)) closed.chamber period chain members

  cycle_chambers : (r : ℕ) → IsPeriod s p d r → (IsChain s p d → ⊥) → count_label label (label d) (count_from 1 s.size) ≡ 2 * r
  cycle_chambers r period cycle = sym counted ∙ cycle_size s inv p d r (filter (λ e. nat_eq (label e) (label d)) (chambers s)) closed.chamber period cycle members

  -- no involution fixes a chamber where each flag leads to another one
  pub no_chain : ((z : ℕ) → IsChamber s (z / 2) → label (z / 2) ≡ label d → led s p z ≡ z / 2 → ⊥) → IsChain s p d → ⊥
  no_chain moved chain =
      let e = chain.chamber in
      let h = in_cell_within s inv p d e closed.chamber chain.in_cell in
      let same = label_in_cell e chain.in_cell in
      let even : 2 * e / 2 ≡ e = omega arith in
      let odd : (2 * e + 1) / 2 ≡ e = omega arith in
      ⊎_elim
      (λ fixed. moved (2 * e) (subst (IsChamber s) (sym even) h) (ap label even ∙ same) (led_even s p e ∙ fixed ∙ sym even))
      (λ fixed. moved (2 * e + 1) (subst (IsChamber s) (sym odd) h) (ap label odd ∙ same) (led_odd s p e ∙ fixed ∙ sym odd))
      chain.fixed

  -- the turns of the class of a path with these chambers
  pub closed_turns : (c r : ℕ) → IsPeriod s p d r → c % 64 ≡ count_label label (label d) (count_from 1 s.size) → (64 ≤ c → IsChain s p d) → (c < 64 → IsChain s p d → ⊥) → AreClosedTurns c r
  closed_turns c r period count chain cycle = ⊎_elim
      (λ low. inr (low, sym (cycle_chambers r period (cycle low)) ∙ sym count))
      (λ high. inl (high, sym (chain_chambers r period (chain high)) ∙ sym count))
      (cases_lt c 64)

-- ## The share of a whole cell

-- a share that is right for the turns of a cell is right for its degree
right_for_degree : (q : Request) (s : Symbol) (p : Pair) (d r v : ℕ) → (p ≡ Tile) ⊎ (p ≡ Vertex) → Wanted q s → IsChamber s d → IsPeriod s p d r → IsWholeShare q p r v → share_unit ≤ v * degree s p d
right_for_degree q s p d r v which wanted h period share =
    let found = branching_exists s wanted.symbol p d h in
    let own = IsLeastTurns-from_period s wanted.symbol.table.involutions p d r h period in
    let same : found.1.r ≡ r = least_turns_unique s p d found.1.r r found.1.least_turns own in
    let product : found.0 * r ≡ degree s p d = ap (λ n. found.0 * n) (sym same) ∙ found.1.quotient in
    let crystal = ⊎_elim
    (λ e. wanted.face_branching d found.0 h (subst (λ p. IsBranching s p d found.0) e found.1))
    (λ e. wanted.vertex_branching d found.0 h (subst (λ p. IsBranching s p d found.0) e found.1))
    which in
    subst (λ m. share_unit ≤ v * m) product (share.right found.0 crystal (subst (IsAllowed q p) (sym product) (wanted_allowed q s p d wanted h)))

pub share_of_closed : (q : Request) (s : Symbol) (p : Pair) (label : ℕ → ℕ) (d c v : ℕ) → (p ≡ Tile) ⊎ (p ≡ Vertex) → Wanted q s → IsClosedLabel s p label d → IsClosedShare q p c v
    → c % 64 ≡ count_label label (label d) (count_from 1 s.size) → c % 64 ≤ 36 → (64 ≤ c → IsChain s p d) → (c < 64 → IsChain s p d → ⊥) → share_unit ≤ v * degree s p d
share_of_closed q s p label d c v which wanted closed share count few chain cycle =
    let inv = wanted.symbol.table.involutions in
    let has = has_period s inv p d closed.chamber in
    let turns = closed_turns s inv p label d closed c has.r has.period count chain cycle in
    let low = has.period.positive in
    let high : has.r ≤ 36 = ⊎_elim (λ is. let e = is.1 in omega (arith, e, few)) (λ is. let e = is.1 in omega (arith, e, few)) turns in
    right_for_degree q s p d has.r v which wanted closed.chamber has.period (share.right has.r low high turns)
