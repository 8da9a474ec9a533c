-- It is decided whether a symbol is a member of the catalogue of a request.
use Rattle.std.proofs.Common.{◌≡◌, ℕ, ◌*◌, ◌≤◌, Bool, true, false, IsTrue, ◌∷◌, [], length, refl, subst, inl, inr, ⊎_elim, slice_index_or}
use Rattle.std.proofs.lemmas.Bool.{cases_eq}
use Rattle.std.proofs.lemmas.Cmp.{tied_itself}
use Rattle.std.specs.declared.cmp.Ordering.{Ordering}
use Rattle.std.specs.declared.cmp.Ordering.TheVariants.{Less, Equal, Greater}
use Rattle.dd_model.specs.declared.pair.Pair.{Pair}
use Rattle.dd_model.specs.declared.pair.Pair.TheVariants.{Tile, Vertex}
use Rattle.dd_model.specs.declared.allowed.Allowed.{Allowed}
use Rattle.dd_model.specs.declared.requests.Request.{Request}
use Rattle.dd_model.specs.Allowed.{IsIn}
use Rattle.dd_model.specs.Symbol.{Symbol, IsChamber, IsTable, IsSymbol, AreInvolutions, item}
use Rattle.dd_model.specs.Connected.{Connected}
use Rattle.dd_model.specs.Cell.{IsBranching}
use Rattle.dd_model.specs.Code.{code_cmp, Least}
use Rattle.dd_model.specs.Flat.{Flat, reciprocals, all_degrees}
use Rattle.dd_model.specs.Wanted.{AtMost, IsCrystallographic, Wanted, IsMember}
use Rattle.dd_model.proofs.Branching.{branching_exists, branching_unique}
use Rattle.dd_model.proofs.CellLists.{cells_exist, cells_unique}
use Rattle.dd_model.proofs.CellSearch.{Decided}
use Rattle.dd_model.proofs.Codes.{code_cmp_total, same_from_code_cmp, least_unique}
use Rattle.dd_model.proofs.Isomorphisms.{Isomorphic-sym}
use Rattle.dd_model.proofs.LeastForms.{symbol_form_exists}
use Rattle.dd_quotient.proofs.Deciding.{decide_after, decide_same, decide_at_most, decide_truth, decide_contains, decide_each}
use Rattle.dd_quotient.proofs.AllTables.{decide_symbol}
use Rattle.dd_quotient.proofs.Reached.{decide_connected}
use Rattle.dd_quotient.proofs.LeastClasses.{decide_minimal}

decide_in : (a : Allowed) (m : ℕ) → Decided (IsIn a m)
decide_in a m = decide_truth (slice_index_or a.table m false)

decide_few : (s : Symbol) → AreInvolutions s → (p : Pair) (limit : ℕ) → Decided (AtMost s p limit)
decide_few s inv p limit =
    let cells = cells_exist s inv p in
    ⊎_elim
    (λ none. inl (inl none))
    (λ some. decide_same (decide_at_most (length cells.0) limit)
    (λ few. inr (cells.0, cells.1, few))
    (λ few. ⊎_elim (λ none. absurd (some none)) (λ all. subst (λ ds. length ds ≤ limit) (cells_unique s p all.0 cells.0 all.1 cells.1) all.2) few))
    (cases_eq limit 0)

-- each branching value at the chamber is one that flat symbols have
abbrev IsCrystallographicAt : Symbol → Pair → ℕ → Type 0
IsCrystallographicAt s p d = (v : ℕ) → IsBranching s p d v → IsCrystallographic v

-- A chamber has one branching value, which is looked at.
decide_crystallographic : (s : Symbol) → IsSymbol s → (p : Pair) → Decided ((d v : ℕ) → IsChamber s d → IsBranching s p d v → IsCrystallographic v)
decide_crystallographic s is p =
    decide_same (decide_each (IsCrystallographicAt s p) s.size at)
    (λ all d v h. all d h v)
    (λ all d h v. all d v h)
  where
    at : (d : ℕ) → IsChamber s d → Decided (IsCrystallographicAt s p d)
    at d h =
        let has = branching_exists s is p d h in
        decide_same (decide_contains (1 ∷ 2 ∷ 3 ∷ 4 ∷ 6 ∷ []) has.0)
        (λ good v other. subst IsCrystallographic (branching_unique s p d has.0 v has.1 other) good)
        (λ all. all has.0 has.1)

decide_if : {P : Type 0} (b : Bool) → Decided P → Decided (IsTrue b → P)
decide_if true p = decide_same p (λ holds _. holds) (λ f. f refl)
decide_if false p = inl (λ h. absurd cc)

decide_flat : (s : Symbol) → Decided (Flat s)
decide_flat s = cases_eq (2 * reciprocals s) (s.size * all_degrees s)

decide_wanted : (q : Request) (s : Symbol) → IsSymbol s → Decided (Wanted q s)
decide_wanted q s is =
    let inv = is.table.involutions in
    decide_after (decide_connected s inv is.table.chambers) (λ connected.
    decide_after (decide_at_most s.size q.chambers) (λ chambers.
    decide_after (decide_few s inv Tile q.tiles) (λ tiles.
    decide_after (decide_few s inv Vertex q.vertices) (λ vertices.
    decide_after (decide_each (λ d. IsIn q.faces (item s.m01 d)) s.size (λ d h. decide_in q.faces (item s.m01 d))) (λ faces.
    decide_after (decide_each (λ d. IsIn q.degrees (item s.m12 d)) s.size (λ d h. decide_in q.degrees (item s.m12 d))) (λ degrees.
    decide_after (decide_crystallographic s is Tile) (λ face_branching.
    decide_after (decide_crystallographic s is Vertex) (λ vertex_branching.
    decide_after (decide_flat s) (λ flat.
    decide_same (decide_if q.minimal (decide_minimal s inv)) (λ minimal. record {
      symbol = is;
      connected = connected;
      chambers = chambers;
      tiles = tiles;
      vertices = vertices;
      faces = faces;
      degrees = degrees;
      face_branching = face_branching;
      vertex_branching = vertex_branching;
      flat = flat;
      minimal = minimal;
    })
    (λ w. w.minimal)) (λ w. w.flat)) (λ w. w.vertex_branching)) (λ w. w.face_branching)) (λ w. w.degrees))
    (λ w. w.faces)) (λ w. w.vertices)) (λ w. w.tiles)) (λ w. w.chambers)) (λ w. w.connected)

-- ## Least symbols

decide_tie : (o : Ordering) → Decided (o ≡ Equal)
decide_tie Less = inr (λ h. cc)
decide_tie Equal = inl refl
decide_tie Greater = inr (λ h. cc)

pub decide_same_symbol : (s t : Symbol) → IsTable s → IsTable t → Decided (s ≡ t)
decide_same_symbol s t is it =
    decide_same (decide_tie (code_cmp s t)) (same_from_code_cmp s t is it) (λ e. subst (λ u. code_cmp s u ≡ Equal) e (tied_itself code_cmp_total s))

-- A symbol is least exactly where it is its least form.
decide_least : (s : Symbol) → IsSymbol s → Connected s → Decided (Least s)
decide_least s is connected =
    let form = symbol_form_exists s is connected in
    decide_same (decide_same_symbol form.0 s form.1.symbol.table is.table)
    (λ same. subst Least same form.1.least)
    (λ least. least_unique form.0 s form.1.symbol is form.1.least least (Isomorphic-sym s form.0 is.table form.1.renumbering))

pub decide_member : (q : Request) (s : Symbol) → Decided (IsMember q s)
decide_member q s =
    decide_after (decide_symbol s) (λ is.
    decide_after (decide_wanted q s is) (λ wanted.
    decide_same (decide_least s is wanted.connected) (λ least. record { wanted = wanted; least = least }) (λ m. m.least))
    (λ m. m.wanted))
    (λ m. m.wanted.symbol)
