-- Each edge has a kind: whether smaller edges join two cells is told by labels that each of them makes equal.
use Rattle.std.proofs.Common.{◌≡◌, ℕ, zero, suc, ◌<◌, List, [], ◌∷◌, length, get_or, refl, sym, ap, ◌∙◌, subst, inl, inr, ⊎_elim, arith}
use Rattle.std.proofs.lemmas.Bool.{cases_lt, cases_eq}
use Rattle.std.specs.List.{Contains}
use Rattle.dd_model.specs.declared.index.Index.{Index}
use Rattle.dd_model.specs.declared.index.Index.TheVariants.{Zero, Two}
use Rattle.dd_model.specs.declared.pair.Pair.{Pair}
use Rattle.dd_model.specs.declared.pair.Pair.TheVariants.{Tile, Vertex, Edge}
use Rattle.dd_model.specs.Symbol.{Symbol, AreInvolutions, IsChamber, op}
use Rattle.dd_model.specs.Cell.{AreCells}
use Rattle.dd_model.proofs.CellLists.{cells_exist}
use Rattle.dd_model.proofs.CellSearch.{Decided, decide_chamber}
use Rattle.dd_model.proofs.Lists.{Contains-none, Contains-head, Contains-later, Contains-cases}
use Rattle.dd_cells.proofs.CellSums.{has_roots}
use Rattle.dd_covers.proofs.Labels.{Link, labels, linked, label_value}
use Rattle.dd_covers.proofs.Nodes.{root_beside}
use Rattle.dd_lattice.specs.Edges.{IsOfCells, AreCellsJoined, IsTreeEdge, AreTilesJoined, IsKindOf, AreKindsOf}
use Rattle.dd_lattice.specs.declared.kinds.EdgeKind.{EdgeKind}
use Rattle.dd_lattice.specs.declared.kinds.EdgeKind.TheVariants.{Tree, Crossing, Left}
use Rattle.dd_lattice.proofs.KindLemmas.{value_of_cell}

-- a link more, where something holds
abbrev with_link : {A : Type 0} → Decided A → Link → List Link → List Link
with_link (inl a) l ls = l ∷ ls
with_link (inr out) l ls = ls

link_here : {A : Type 0} (d : Decided A) (l : Link) (ls : List Link) → A → Contains (with_link d l ls) l
link_here (inl a) l ls h = Contains-head l ls
link_here (inr out) l ls h = absurd (out h)

link_kept : {A : Type 0} (d : Decided A) (l m : Link) (ls : List Link) → Contains ls m → Contains (with_link d l ls) m
link_kept (inl a) l m ls here = Contains-later l m ls here
link_kept (inr out) l m ls here = here

link_cases : {A : Type 0} (d : Decided A) (l m : Link) (ls : List Link) (P : Type 0) → Contains (with_link d l ls) m → (A → l ≡ m → P) → (Contains ls m → P) → P
link_cases (inl a) l m ls P here first rest = ⊎_elim (first a) rest (Contains-cases l m ls here)
link_cases (inr out) l m ls P here first rest = rest here

module _ (t : Symbol) (inv : AreInvolutions t) where
  module _ (p : Pair) (i : Index) (Counts : ℕ → Type 0) (counts : (e : ℕ) → IsChamber t e → Decided (Counts e)) (d : ℕ) (h : IsChamber t d) where
    abbrev root : ℕ → ℕ
    root = (has_roots t inv p).root

    abbrev link : ℕ → Link
    link e = record { from = root e; to = root (op t i e) }

    -- a smaller edge that counts
    abbrev IsKept : ℕ → Type 0
    IsKept e = IsChamber t e × (e < d) × Counts e

    kept : (e : ℕ) → Decided (IsKept e)
    kept e =
        ⊎_elim
        (λ he. ⊎_elim
        (λ low. ⊎_elim (λ is. inl (he, low, is)) (λ out. inr (λ k. out k.2)) (counts e he))
        (λ far. inr (λ k. let low = k.1 in absurd (omega arith)))
        (cases_lt e d))
        (λ out. inr (λ k. out k.0))
        (decide_chamber t e)

    abbrev links : List ℕ → List Link
    links [] = []
    links (e ∷ es) = with_link (kept e) (link e) (links es)

    listed : (es : List ℕ) (e : ℕ) → Contains es e → IsKept e → Contains (links es) (link e)
    listed [] e here is = absurd (Contains-none e here)
    listed (x ∷ es) e here is =
        ⊎_elim
        (λ at. subst (λ z. Contains (links (x ∷ es)) (link z)) at (link_here (kept x) (link x) (links es) (subst IsKept (sym at) is)))
        (λ later. link_kept (kept x) (link x) (link e) (links es) (listed es e later is))
        (Contains-cases x e es here)

    along : (g : ℕ → ℕ) (es : List ℕ) → ((e : ℕ) → Contains es e → IsKept e → g (root e) ≡ g (root (op t i e))) → (l : Link) → Contains (links es) l → g l.from ≡ g l.to
    along g [] level l here = absurd (Contains-none l here)
    along g (x ∷ es) level l here =
        link_cases (kept x) (link x) l (links es) (g l.from ≡ g l.to) here
        (λ is at. subst (λ (m : Link). g m.from ≡ g m.to) at (level x (Contains-head x es) is))
        (λ rest. along g es (λ e later is. level e (Contains-later x e es later) is) l rest)

    abbrev all : List Link
    all = links (cells_exist t inv Edge).0

    of_root : (g : ℕ → ℕ) → IsOfCells t p g → (e : ℕ) → IsChamber t e → g (root e) ≡ g e
    of_root g of_cells e he = value_of_cell t inv p g of_cells e (root e) he ((has_roots t inv p).are.in_cell e he)

    joined_from_labels : labels all (root (op t i d)) ≡ labels all (root d) → AreCellsJoined t p i Counts d
    joined_from_labels same g of_cells level =
        let hi = (inv i).within d h in
        let along_all = along g (cells_exist t inv Edge).0 (λ e here is.
        let least = ((cells_exist t inv Edge).1.members e).0 here in
        of_root g of_cells e is.0 ∙ sym (level e least is.2 is.1) ∙ sym (of_root g of_cells (op t i e) ((inv i).within e is.0))) in
        sym (of_root g of_cells (op t i d) hi) ∙ sym (label_value all g along_all (root (op t i d))) ∙ ap g same ∙ label_value all g along_all (root d) ∙ of_root g of_cells d h

    labels_from_joined : AreCellsJoined t p i Counts d → labels all (root (op t i d)) ≡ labels all (root d)
    labels_from_joined joined =
        joined (λ c. labels all (root c)) (λ j c hc holds. ap (labels all) (root_beside t inv p root (has_roots t inv p).are j c hc holds))
        (λ e least is low. sym (linked all (link e) (listed (cells_exist t inv Edge).0 e (((cells_exist t inv Edge).1.members e).1 least) (least.0, low, is))))

    decide_joined : Decided (AreCellsJoined t p i Counts d)
    decide_joined =
        ⊎_elim
        (λ same. inl (joined_from_labels same))
        (λ differ. inr (λ joined. differ (labels_from_joined joined)))
        (cases_eq (labels all (root (op t i d))) (labels all (root d)))

  not_tree : (d : ℕ) → IsChamber t d → Decided (IsTreeEdge t d → ⊥)
  not_tree d h =
      ⊎_elim
      (λ joined. inl (λ tree. tree joined))
      (λ apart. inr (λ none. none apart))
      (decide_joined Vertex Zero (λ e. Unit {0}) (λ e he. inl tt) d h)

  -- a kind of an edge
  record HasKind (d : ℕ) : Type 0 where
    kind : EdgeKind
    is : IsKindOf t d kind

  has_kind : (d : ℕ) → IsChamber t d → HasKind d
  has_kind d h =
      ⊎_elim
      (λ none. ⊎_elim
      (λ (joined : AreTilesJoined t d). record { kind = Left; is = (none, joined) })
      (λ apart. record { kind = Crossing; is = (none, apart) })
      (decide_joined Tile Two (λ e. IsTreeEdge t e → ⊥) not_tree d h))
      (λ some. record { kind = Tree; is = λ joined. some (λ tree. tree joined) })
      (not_tree d h)

  abbrev kinds_of : (es : List ℕ) → ((e : ℕ) → Contains es e → IsChamber t e) → List EdgeKind
  kinds_of [] inside = []
  kinds_of (e ∷ es) inside = (has_kind e (inside e (Contains-head e es))).kind ∷ kinds_of es (λ x later. inside x (Contains-later e x es later))

  many_kinds : (es : List ℕ) (inside : (e : ℕ) → Contains es e → IsChamber t e) → length (kinds_of es inside) ≡ length es
  many_kinds [] inside = refl
  many_kinds (e ∷ es) inside = ap suc (many_kinds es (λ x later. inside x (Contains-later e x es later)))

  each_kind : (es : List ℕ) (inside : (e : ℕ) → Contains es e → IsChamber t e) (k : ℕ) (c : EdgeKind) → k < length es → IsKindOf t (get_or es k 0) (get_or (kinds_of es inside) k c)
  each_kind [] inside k c low = absurd (omega arith)
  each_kind (e ∷ es) inside zero c low = (has_kind e (inside e (Contains-head e es))).is
  each_kind (e ∷ es) inside (suc k) c low = each_kind es (λ x later. inside x (Contains-later e x es later)) k c (omega arith)

  pub kinds_exist : (edges : List ℕ) → AreCells t Edge edges → (kinds : List EdgeKind) × AreKindsOf t edges kinds
  kinds_exist edges cells =
      let inside : (e : ℕ) → Contains edges e → IsChamber t e = λ e here. ((cells.members e).0 here).0 in
      (kinds_of edges inside, record { many = many_kinds edges inside; each = λ k c low. each_kind edges inside k c low })
