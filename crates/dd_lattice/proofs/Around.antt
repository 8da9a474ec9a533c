-- Values of cells that are equal at both ends of each edge.
use Rattle.std.proofs.Common.{◌≡◌, ℕ, [], ◌∷◌, refl, sym, ap, ◌∙◌, subst, inl, inr, ⊎_elim}
use Rattle.dd_model.specs.declared.index.Index.{Index}
use Rattle.dd_model.specs.declared.index.Index.TheVariants.{Zero, One, Two}
use Rattle.dd_model.specs.declared.pair.Pair.TheVariants.{Tile, Vertex, Edge}
use Rattle.dd_model.specs.Symbol.{Symbol, AreInvolutions, IsChamber, IsSymbol, Word, op, act}
use Rattle.dd_model.specs.Cell.{IsWordOf, IsLeastOfCell}
use Rattle.dd_model.specs.Connected.{Connected}
use Rattle.dd_model.proofs.CellWalks.{in_cell-sym}
use Rattle.dd_cells.proofs.CellSums.{has_roots}
use Rattle.dd_covers.specs.Ends.{Holds}
use Rattle.dd_lattice.specs.Edges.{IsOfCells}

module _ (t : Symbol) (is : IsSymbol t) where
  abbrev inv : AreInvolutions t
  inv = is.table.involutions

  -- s0 and s2 commute
  pub commute : (d : ℕ) → IsChamber t d → op t Two (op t Zero d) ≡ op t Zero (op t Two d)
  commute d h =
      let x = op t Zero d in
      let y = op t Two x in
      let hx = (inv Zero).within d h in
      let hy = (inv Two).within x hx in
      let z = op t Zero y in
      let hz = (inv Zero).within y hy in
      let turns : op t Two z ≡ d = (is.degrees Edge d h).turns in
      let back : z ≡ op t Two d = sym ((inv Two).involutive z hz) ∙ ap (op t Two) turns in
      sym ((inv Zero).involutive y hy) ∙ ap (op t Zero) back

  -- what s0 and s2 keep holds all through an edge
  pub along_edge : (P : ℕ → Type 0) → ((i : Index) (d : ℕ) → IsChamber t d → Holds Edge i → P d → P (op t i d)) → (w : Word) (d : ℕ) → IsChamber t d → IsWordOf Edge w → P d → P (act t w d)
  along_edge P keeps [] d h letters holds = holds
  along_edge P keeps (i ∷ w) d h letters holds = along_edge P keeps w (op t i d) ((inv i).within d h) letters.1 (keeps i d h letters.0 holds)

  -- from the least chamber of an edge on
  pub through_edge : (P : ℕ → Type 0) → ((i : Index) (d : ℕ) → IsChamber t d → Holds Edge i → P d → P (op t i d)) → ((e : ℕ) → IsLeastOfCell t Edge e → P e) → (d : ℕ) → IsChamber t d → P d
  through_edge P keeps at d h =
      let roots = (has_roots t inv Edge).are in
      let e = (has_roots t inv Edge).root d in
      let least = roots.least d h in
      let near = in_cell-sym t inv Edge d e h (roots.in_cell d h) in
      subst P near.leads (along_edge P keeps near.word e least.0 near.letters (at e least))

  vertex_keeps : (g : ℕ → ℕ) → IsOfCells t Vertex g → (i : Index) (d : ℕ) → IsChamber t d → Holds Edge i → g (op t Zero d) ≡ g d → g (op t Zero (op t i d)) ≡ g (op t i d)
  vertex_keeps g cells i d h holds same =
      ⊎_elim
      (λ e. subst (λ j. g (op t Zero (op t j d)) ≡ g (op t j d)) (sym e) (ap g ((inv Zero).involutive d h) ∙ sym same))
      (λ e. subst (λ j. g (op t Zero (op t j d)) ≡ g (op t j d)) (sym e)
      (ap g (sym (commute d h)) ∙ cells Two (op t Zero d) ((inv Zero).within d h) (inr refl) ∙ same ∙ sym (cells Two d h (inr refl))))
      holds

  tile_keeps : (g : ℕ → ℕ) → IsOfCells t Tile g → (i : Index) (d : ℕ) → IsChamber t d → Holds Edge i → g (op t Two d) ≡ g d → g (op t Two (op t i d)) ≡ g (op t i d)
  tile_keeps g cells i d h holds same =
      ⊎_elim
      (λ e. subst (λ j. g (op t Two (op t j d)) ≡ g (op t j d)) (sym e)
      (ap g (commute d h) ∙ cells Zero (op t Two d) ((inv Two).within d h) (inl refl) ∙ same ∙ sym (cells Zero d h (inl refl))))
      (λ e. subst (λ j. g (op t Two (op t j d)) ≡ g (op t j d)) (sym e) (ap g ((inv Two).involutive d h) ∙ sym same))
      holds

  along_word : (g : ℕ → ℕ) → ((i : Index) (d : ℕ) → IsChamber t d → g (op t i d) ≡ g d) → (w : Word) (d : ℕ) → IsChamber t d → g (act t w d) ≡ g d
  along_word g each [] d h = refl
  along_word g each (i ∷ w) d h = along_word g each w (op t i d) ((inv i).within d h) ∙ each i d h

  module _ (all : Connected t) (one : IsChamber t 1) where
    everywhere : (g : ℕ → ℕ) → ((i : Index) (d : ℕ) → IsChamber t d → g (op t i d) ≡ g d) → (d : ℕ) → IsChamber t d → g d ≡ g 1
    everywhere g each d h = let there = all d h in ap g (sym there.leads) ∙ along_word g each there.word 1 one

    -- edges join all vertices
    pub vertices_joined : (g : ℕ → ℕ) → IsOfCells t Vertex g → ((e : ℕ) → IsLeastOfCell t Edge e → g (op t Zero e) ≡ g e) → (d : ℕ) → IsChamber t d → g d ≡ g 1
    vertices_joined g cells level = everywhere g (λ i d h. step i d h) where
      level_all : (d : ℕ) → IsChamber t d → g (op t Zero d) ≡ g d
      level_all = through_edge (λ d. g (op t Zero d) ≡ g d) (vertex_keeps g cells) level

      step : (i : Index) (d : ℕ) → IsChamber t d → g (op t i d) ≡ g d
      step Zero d h = level_all d h
      step One d h = cells One d h (inl refl)
      step Two d h = cells Two d h (inr refl)

    -- and are passed from each tile to all others
    pub tiles_joined : (g : ℕ → ℕ) → IsOfCells t Tile g → ((e : ℕ) → IsLeastOfCell t Edge e → g (op t Two e) ≡ g e) → (d : ℕ) → IsChamber t d → g d ≡ g 1
    tiles_joined g cells level = everywhere g (λ i d h. step i d h) where
      level_all : (d : ℕ) → IsChamber t d → g (op t Two d) ≡ g d
      level_all = through_edge (λ d. g (op t Two d) ≡ g d) (tile_keeps g cells) level

      step : (i : Index) (d : ℕ) → IsChamber t d → g (op t i d) ≡ g d
      step Zero d h = cells Zero d h (inl refl)
      step One d h = cells One d h (inr refl)
      step Two d h = level_all d h
