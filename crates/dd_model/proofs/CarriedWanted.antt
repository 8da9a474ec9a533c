-- What a request asks for doesn't depend on the numbering of the chambers.
use Rattle.std.proofs.Common.{◌≡◌, ℕ, ◌≤◌, List, length, sym, subst, inl, inr, ⊎_elim, arith}
use Rattle.dd_model.specs.declared.pair.Pair.{Pair}
use Rattle.dd_model.specs.declared.pair.Pair.TheVariants.{Tile, Vertex}
use Rattle.dd_model.specs.declared.requests.Request.{Request}
use Rattle.dd_model.specs.Symbol.{Symbol, AreInvolutions, IsChamber, item}
use Rattle.dd_model.specs.Isomorphic.{HaveLengths, IsIsomorphism}
use Rattle.dd_model.specs.Cell.{AreCells, IsBranching}
use Rattle.dd_model.specs.Allowed.{IsIn}
use Rattle.dd_model.specs.Wanted.{AtMost, IsCrystallographic, Wanted}
use Rattle.dd_model.proofs.Isomorphisms.{IsIsomorphism-inverse}
use Rattle.dd_model.proofs.Transport.{involution-along, IsSymbol-along, Connected-along, each_image}
use Rattle.dd_model.proofs.CellLists.{cells_exist}
use Rattle.dd_model.proofs.Carried.{branching-along, cells-le, minimal-along}
use Rattle.dd_model.proofs.CarriedDegrees.{flat-along}

-- isomorphic symbols have equally many cells
pub cells-along : (s t : Symbol) (f : List ℕ) → AreInvolutions s → IsIsomorphism s t f → (p : Pair) (ds es : List ℕ) → AreCells s p ds → AreCells t p es → length ds ≡ length es
cells-along s t f inv iso p ds es a b =
    let low = cells-le s t f inv iso p ds es a b in
    let high = cells-le t s iso.bijection.inverse (involution-along s t f inv iso) (IsIsomorphism-inverse s t f inv iso) p es ds b a in
    omega arith

-- a limit on the number of cells
pub at_most-along : (s t : Symbol) (f : List ℕ) → AreInvolutions s → IsIsomorphism s t f → (p : Pair) (limit : ℕ) → AtMost s p limit → AtMost t p limit
at_most-along s t f inv iso p limit most =
    ⊎_elim
    (λ none. inl none)
    (λ some.
    let es = cells_exist t (involution-along s t f inv iso) p in
    let fewer = cells-le t s iso.bijection.inverse (involution-along s t f inv iso) (IsIsomorphism-inverse s t f inv iso) p es.0 some.0 es.1 some.1 in
    let few = some.2 in
    inr (es.0, es.1, omega arith))
    most

-- the branching values of the image
branching_all : (s t : Symbol) (f : List ℕ) → AreInvolutions s → IsIsomorphism s t f → (p : Pair) (P : ℕ → Type 0)
    → ((d v : ℕ) → IsChamber s d → IsBranching s p d v → P v) → (e v : ℕ) → IsChamber t e → IsBranching t p e v → P v
branching_all s t f inv iso p P all e v h b =
    let back = IsIsomorphism-inverse s t f inv iso in
    all (item iso.bijection.inverse e) v (back.morphism.within e h) (branching-along t s iso.bijection.inverse (involution-along s t f inv iso) back p e v h b)

-- The image of a wanted symbol is wanted.
pub wanted-along : (q : Request) (s t : Symbol) (f : List ℕ) → HaveLengths t → IsIsomorphism s t f → Wanted q s → Wanted q t
wanted-along q s t f ls iso w =
    let is = w.symbol.table in
    let inv = is.involutions in
    record {
      symbol = IsSymbol-along s t f w.symbol iso ls;
      connected = Connected-along s t f is iso w.connected;
      chambers = subst (λ n. n ≤ q.chambers) (sym iso.size) w.chambers;
      tiles = at_most-along s t f inv iso Tile q.tiles w.tiles;
      vertices = at_most-along s t f inv iso Vertex q.vertices w.vertices;
      faces = each_image s t f iso (λ e. IsIn q.faces (item t.m01 e)) (λ d h. subst (IsIn q.faces) (sym (iso.morphism.m01 d h)) (w.faces d h));
      degrees = each_image s t f iso (λ e. IsIn q.degrees (item t.m12 e)) (λ d h. subst (IsIn q.degrees) (sym (iso.morphism.m12 d h)) (w.degrees d h));
      face_branching = branching_all s t f inv iso Tile IsCrystallographic w.face_branching;
      vertex_branching = branching_all s t f inv iso Vertex IsCrystallographic w.vertex_branching;
      flat = flat-along s t f is ls iso w.flat;
      minimal = λ asked. minimal-along s t f inv iso (w.minimal asked);
    }
