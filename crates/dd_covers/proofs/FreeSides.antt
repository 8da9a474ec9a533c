-- Free sides are told, and so is whether earlier ones join the ends of a side: either they do, or a function of cells shows that they do not.
use Rattle.std.proofs.Common.{◌≡◌, ◌≢◌, ℕ, ◌+◌, ◌<◌, ◌⊎◌, cond, eqb, List, [], ◌∷◌, map, refl, sym, ap, ◌∙◌, subst, inl, inr, ⊎_elim, arith}
use Rattle.std.proofs.lemmas.Bool.{cases_lt, cases_eq, eq-eqb, ne_eqb}
use Rattle.std.specs.List.{Contains}
use Rattle.dd_model.specs.declared.index.Index.{Index}
use Rattle.dd_model.specs.declared.index.Index.TheVariants.{Zero, One, Two}
use Rattle.dd_model.specs.declared.pair.Pair.{Pair}
use Rattle.dd_model.specs.Symbol.{Symbol, AreInvolutions, IsChamber, IsTable, Word, item, op, act}
use Rattle.dd_model.specs.Connected.{Connected}
use Rattle.dd_model.specs.Cell.{IsWordOf}
use Rattle.dd_model.proofs.Codes.{same_items}
use Rattle.dd_model.proofs.CellSearch.{Decided, decide_chamber}
use Rattle.dd_model.proofs.LeastForms.{numbered_unique}
use Rattle.dd_model.proofs.Lists.{Contains-none, Contains-head, Contains-later, Contains-cases, Contains-map}
use Rattle.dd_covers.proofs.Mapped.{Contains-from_map}
use Rattle.dd_model.proofs.Transport.{act-along}
use Rattle.dd_cells.proofs.CellSums.{AreRoots}
use Rattle.dd_cells.proofs.ColoringLemmas.{by_index}
use Rattle.dd_covers.specs.Ends.{one_end, other_end, IsOfCells, IsLevel}
use Rattle.dd_covers.specs.Visits.{rank, IsBefore, IsFirstStep, IsFree, AreEndsJoined, IsVisitOrder}
use Rattle.dd_covers.proofs.Nodes.{root_beside, decoded, decoded_at}
use Rattle.dd_covers.specs.CellNumbers.{numbered}
use Rattle.dd_covers.proofs.Labels.{Link, labels, linked, label_value}
use Rattle.dd_covers.proofs.Sides.{all_sides, side_listed}
use Rattle.dd_covers.proofs.Trees.{Step}
use Rattle.dd_model.specs.Indices.{index_number}
use Rattle.dd_model.proofs.AllIndices.{index_low, index_same}

-- ## There is one order of first visits

pub order_unique : (s : Symbol) → IsTable s → Connected s → (f g : List ℕ) → IsVisitOrder s f → IsVisitOrder s g → f ≡ g
order_unique s table all f g a b =
    let one : IsChamber s 1 = (omega arith, table.chambers) in
    let same = numbered_unique s a.numbered b.numbered 1 table all one a.is b.is in
    let fa = a.is.isomorphism in
    let fb = b.is.isomorphism in
    let maps : a.is.map ≡ b.is.map =
    same_items a.is.map b.is.map s.size fa.bijection.images fb.bijection.images
    (λ d low high.
    let there = all d (low, omega (arith, high)) in
    ap (item a.is.map) (sym there.leads) ∙ act-along s a.numbered a.is.map table.involutions fa.morphism there.word 1 one
    ∙ ap (act a.numbered there.word) (a.is.start_first ∙ sym b.is.start_first) ∙ ap (λ t. act t there.word (item b.is.map 1)) same
    ∙ sym (act-along s b.numbered b.is.map table.involutions fb.morphism there.word 1 one) ∙ ap (item b.is.map) there.leads) in
    sym a.map ∙ maps ∙ b.map

-- ## Ranks

pub before_from_rank : (i j : Index) (d e : ℕ) → rank j e < rank i d → IsBefore e j d i
before_from_rank i j d e less =
    let pi = index_low i in
    let pj = index_low j in
    ⊎_elim (λ low. inl low) (λ high. inr (omega arith, omega arith)) (cases_lt e d)

pub rank_from_before : (i j : Index) (d e : ℕ) → IsBefore e j d i → rank j e < rank i d
rank_from_before i j d e b = let p = index_low j in let q = index_low i in ⊎_elim (λ less. omega arith) (λ both. let e1 = both.0 in let e2 = both.1 in omega arith) b

pub rank_cases : (i j : Index) (k c : ℕ) → rank j c < rank i k + 1 → (rank j c < rank i k) ⊎ ((j ≡ i) × (c ≡ k))
rank_cases i j k c low =
    let p = index_low i in
    let q = index_low j in
    ⊎_elim (λ less. inl less) (λ more. let e : index_number j ≡ index_number i = omega arith in inr (index_same j i e, omega arith)) (cases_lt (rank j c) (rank i k))

-- ## What is free is decided

decide_before : (m : ℕ) (i : Index) (n : ℕ) (j : Index) → Decided (IsBefore m i n j)
decide_before m i n j =
    ⊎_elim
    (λ less. inl (inl less))
    (λ more. ⊎_elim
    (λ same. ⊎_elim
    (λ low. inl (inr (same, low)))
    (λ high. inr (λ b. ⊎_elim (λ less. absurd (omega arith)) (λ both. let q = both.1 in absurd (omega arith)) b))
    (cases_lt (index_number i) (index_number j)))
    (λ other. inr (λ b. ⊎_elim (λ less. absurd (omega arith)) (λ both. other both.0) b))
    (cases_eq m n))
    (cases_lt m n)

decide_not : {P : Type 0} → Decided P → Decided (P → ⊥)
decide_not (inl p) = inr (λ none. none p)
decide_not (inr fails) = inl fails

decide_both : {P Q : Type 0} → Decided P → Decided Q → Decided (P × Q)
decide_both (inl p) (inl q) = inl (p, q)
decide_both (inl p) (inr fails) = inr (λ both. fails both.1)
decide_both (inr fails) q = inr (λ both. fails both.0)

module _ (s : Symbol) (inv : AreInvolutions s) (f : List ℕ) where
  pub first_from : (i : Index) (d : ℕ) → IsChamber s d → op s i d ≢ 1
      → ((j : Index) → IsBefore (item f (op s j (op s i d))) j (item f d) i → ⊥) → IsFirstStep s f i d
  first_from i d h new none = record {
    new = new;
    first = λ j e he same before. none j (subst (λ z. IsBefore (item f z) j (item f d) i) (sym ((inv j).involutive e he) ∙ ap (op s j) same) before);
  }

  pub none_from : (i : Index) (d : ℕ) → IsChamber s d → IsFirstStep s f i d → (j : Index) → IsBefore (item f (op s j (op s i d))) j (item f d) i → ⊥
  none_from i d h first j before =
      let there = (inv i).within d h in
      first.first j (op s j (op s i d)) ((inv j).within (op s i d) there) ((inv j).involutive (op s i d) there) before

  pub decide_first : (i : Index) (d : ℕ) → IsChamber s d → Decided (IsFirstStep s f i d)
  decide_first i d h =
      let at : (j : Index) → Decided (IsBefore (item f (op s j (op s i d))) j (item f d) i → ⊥) = λ j. decide_not (decide_before (item f (op s j (op s i d))) j (item f d) i) in
      ⊎_elim
      (λ one. inr (λ first. first.new one))
      (λ new. ⊎_elim
      (λ all. inl (first_from i d h new (by_index (λ j. IsBefore (item f (op s j (op s i d))) j (item f d) i → ⊥) all.0.0 all.0.1 all.1)))
      (λ some. inr (λ first. some ((none_from i d h first Zero, none_from i d h first One), none_from i d h first Two)))
      (decide_both (decide_both (at Zero) (at One)) (at Two)))
      (cases_eq (op s i d) 1)

  pub decide_free : (i : Index) (d : ℕ) → Decided (IsFree s f i d)
  decide_free i d =
      ⊎_elim
      (λ h. ⊎_elim
      (λ low. ⊎_elim
      (λ first. inr (λ free. free.there first))
      (λ there. ⊎_elim
      (λ first. inr (λ free. free.back first))
      (λ back. inl (record { chamber = h; least = low; there = there; back = back }))
      (decide_first i (op s i d) ((inv i).within d h)))
      (decide_first i d h))
      (λ high. inr (λ free. let low = free.least in absurd (omega arith)))
      (⊎_elim (λ less. inr less) (λ more. inl more) (cases_lt (op s i d) d)))
      (λ out. inr (λ free. out free.chamber))
      (decide_chamber s d)

-- ## The members of a list at which something decided holds

abbrev pub keep_if : {P : Type 0} → Decided P → Step → List Step → List Step
keep_if (inl p) e es = e ∷ es
keep_if (inr fails) e es = es

abbrev kept_by : (P : Step → Type 0) → ((e : Step) → Decided (P e)) → List Step → List Step
kept_by P decide [] = []
kept_by P decide (e ∷ es) = keep_if (decide e) e (kept_by P decide es)

holds_if : (P : Step → Type 0) (e : Step) (v : Decided (P e)) (es : List Step) (x : Step) → (Contains es x → P x) → Contains (keep_if v e es) x → P x
holds_if P e (inl p) es x rest here = ⊎_elim (λ at. subst P at p) rest (Contains-cases e x es here)
holds_if P e (inr fails) es x rest here = rest here

kept_holds : (P : Step → Type 0) (decide : (e : Step) → Decided (P e)) (es : List Step) (x : Step) → Contains (kept_by P decide es) x → P x
kept_holds P decide [] x here = absurd (Contains-none x here)
kept_holds P decide (e ∷ es) x here = holds_if P e (decide e) (kept_by P decide es) x (λ later. kept_holds P decide es x later) here

listed_if : (P : Step → Type 0) (e : Step) (v : Decided (P e)) (es : List Step) (x : Step) → P x → (e ≡ x) ⊎ Contains es x → Contains (keep_if v e es) x
listed_if P e (inl p) es x holds (inl at) = subst (Contains (e ∷ es)) at (Contains-head e es)
listed_if P e (inl p) es x holds (inr later) = Contains-later e x es later
listed_if P e (inr fails) es x holds (inl at) = absurd (fails (subst P (sym at) holds))
listed_if P e (inr fails) es x holds (inr later) = later

kept_listed : (P : Step → Type 0) (decide : (e : Step) → Decided (P e)) (es : List Step) (x : Step) → Contains es x → P x → Contains (kept_by P decide es) x
kept_listed P decide [] x here holds = here
kept_listed P decide (e ∷ es) x here holds =
    listed_if P e (decide e) (kept_by P decide es) x holds
    (⊎_elim (λ at. inl at) (λ later. inr (kept_listed P decide es x later holds)) (Contains-cases e x es here))

-- ## Whether earlier sides join the ends of a side

-- A function of cells that is equal at the ends of each earlier free side, and has the values 1 and 0 at these two ends.
pub record AreParted (s : Symbol) (f : List ℕ) (i : Index) (d : ℕ) : Type 0 where
  pub part : Pair → ℕ → ℕ
  pub of_cells : IsOfCells s part
  pub level : (j : Index) (e : ℕ) → IsFree s f j e → IsBefore e j d i → IsLevel part j e
  pub one : part (one_end i) d ≡ 1
  pub other : part (other_end i) d ≡ 0

module _ (s : Symbol) (inv : AreInvolutions s) (f : List ℕ) (root : Pair → ℕ → ℕ) (roots : (p : Pair) → AreRoots s p (root p)) (i : Index) (d : ℕ) (h : IsChamber s d) where
  abbrev number : Pair → ℕ → ℕ
  number p e = numbered s p (root p e)

  abbrev link : Step → Link
  link e = record { from = number (one_end e.index) e.chamber; to = number (other_end e.index) e.chamber }

  abbrev IsEarlier : Step → Type 0
  IsEarlier e = IsFree s f e.index e.chamber × IsBefore e.chamber e.index d i

  decide_earlier : (e : Step) → Decided (IsEarlier e)
  decide_earlier e = decide_both (decide_free s inv f e.index e.chamber) (decide_before e.chamber e.index d i)

  earlier : List Step
  earlier = kept_by IsEarlier decide_earlier (all_sides s)

  links : List Link
  links = map link earlier

  abbrev label : Pair → ℕ → ℕ
  label p e = labels links (number p e)

  label_of_cells : IsOfCells s label
  label_of_cells p j e he holds = ap (λ z. labels links (numbered s p z)) (root_beside s inv p (root p) (roots p) j e he holds)

  label_level : (j : Index) (e : ℕ) → IsFree s f j e → IsBefore e j d i → IsLevel label j e
  unfolding links earlier
  label_level j e free before =
      let x : Step = record { chamber = e; index = j } in
      linked links (link x) (Contains-map link earlier x (kept_listed IsEarlier decide_earlier (all_sides s) x (side_listed s j e free.chamber free.least) (free, before)))

  -- what is of cells is that of the root
  at_root : (g : Pair → ℕ → ℕ) → IsOfCells s g → (p : Pair) (e : ℕ) → IsChamber s e → g p (root p e) ≡ g p e
  at_root g cells p e he =
      let there = (roots p).in_cell e he in
      along (there.word) e he there.letters there.leads where
        along : (w : Word) (e : ℕ) → IsChamber s e → IsWordOf p w → {z : ℕ} → act s w e ≡ z → g p z ≡ g p e
        along [] e he letters leads = ap (g p) (sym leads)
        along (j ∷ w) e he letters leads = along w (op s j e) ((inv j).within e he) letters.1 leads ∙ cells p j e he letters.0

  value_at : (g : Pair → ℕ → ℕ) → IsOfCells s g → (p : Pair) (e : ℕ) → IsChamber s e → decoded s g (number p e) ≡ g p e
  value_at g cells p e he = decoded_at s g p (root p e) ((roots p).least e he).0 ∙ at_root g cells p e he

  joined_by_label : label (one_end i) d ≡ label (other_end i) d → AreEndsJoined s f i d
  unfolding links earlier
  joined_by_label same g cells level =
      let along : (e : Link) → Contains links e → decoded s g e.from ≡ decoded s g e.to = λ e here.
      let from = Contains-from_map link earlier e here in
      let holds = kept_holds IsEarlier decide_earlier (all_sides s) from.0 from.1 in
      let c = holds.0.chamber in
      subst (λ (y : Link). decoded s g y.from ≡ decoded s g y.to) from.2
      (value_at g cells (one_end from.0.index) from.0.chamber c ∙ level from.0.index from.0.chamber holds.0 holds.1 ∙ sym (value_at g cells (other_end from.0.index) from.0.chamber c)) in
      sym (value_at g cells (one_end i) d h) ∙ sym (label_value links (decoded s g) along (number (one_end i) d))
      ∙ ap (decoded s g) same ∙ label_value links (decoded s g) along (number (other_end i) d) ∙ value_at g cells (other_end i) d h

  parted_by_label : (label (one_end i) d ≡ label (other_end i) d → ⊥) → AreParted s f i d
  parted_by_label differ =
      let a = label (one_end i) d in
      record {
        part = λ p e. cond (eqb (label p e) a) 1 0;
        of_cells = λ p j e he holds. ap (λ z. cond (eqb z a) 1 0) (label_of_cells p j e he holds);
        level = λ j e free before. ap (λ z. cond (eqb z a) 1 0) (label_level j e free before);
        one = ap (λ t. cond t 1 0) (eq-eqb a a refl);
        other = ap (λ t. cond t 1 0) (ne_eqb (label (other_end i) d) a (λ e. differ (sym e)));
      }

  pub joined_or_parted : AreEndsJoined s f i d ⊎ AreParted s f i d
  joined_or_parted =
      ⊎_elim (λ same. inl (joined_by_label same)) (λ differ. inr (parted_by_label differ)) (cases_eq (label (one_end i) d) (label (other_end i) d))
