-- The cells of a table are as many as the places that have sides.
use Rattle.std.proofs.Common.{◌≡◌, ◌↔◌, ◌⊎◌, ℕ, Bool, IsTrue, zero, suc, ◌+◌, ◌<◌, ◌≤◌, List, [], length, get_or, take, drop, min, refl, sym, ap, ◌∙◌, subst, inl, inr, ⊎_elim, arith}
use Rattle.std.proofs.lemmas.List.{get_or-drop, get_or-take, length-drop, length-take-le}
use Rattle.dd_model.specs.declared.allowed.Allowed.{Allowed}
use Rattle.dd_model.specs.declared.pair.Pair.{Pair}
use Rattle.dd_model.specs.declared.pair.Pair.TheVariants.{Tile, Vertex}
use Rattle.dd_model.specs.declared.requests.Request.{Request}
use Rattle.dd_model.specs.Symbol.{Symbol, AreInvolutions, IsChamber}
use Rattle.dd_model.specs.Cell.{IsLeastOfCell}
use Rattle.dd_model.specs.Wanted.{AtMost}
use Rattle.dd_model.proofs.CellLists.{cells_below-start, cells_exist}
use Rattle.dd_model.proofs.CellWalks.{in_cell-sym}
use Rattle.dd_symbol.specs.declared.kind.Kind.{Kind}
use Rattle.dd_symbol.specs.declared.kind.Kind.TheVariants.{Cycle, Chain}
use Rattle.dd_cells.proofs.CountLemmas.{IsCount, none_more, one_more, whole_count}
use Rattle.dd_branch_degrees.specs.Budget.{cells_to, no_place}
use Rattle.dd_branch_degrees.specs.Place.{ArePlaces, IsPlaceOf, sides_of}
use Rattle.dd_branch_degrees.specs.declared.places.DegreeSlot.{DegreeSlot}

has_one : (kind : Kind) → min (sides_of kind) 1 ≡ 1
has_one Cycle = refl
has_one Chain = refl

-- one place after another
counted : (t : Symbol) → AreInvolutions t → (p : Pair) (set : Allowed) (first : ℕ) (places : List DegreeSlot) → ((k : ℕ) → k < t.size → IsPlaceOf t set p first (k + 1) (get_or places k no_place))
    → (k : ℕ) → k ≤ t.size → IsCount t p k (cells_to places k)
counted t inv p set first places are zero low = record { chambers = []; cells = cells_below-start t p; number = refl; small = omega arith }
counted t inv p set first places are (suc k) low =
    let x = get_or places k no_place in
    let place = are k (omega (arith, low)) in
    let before = counted t inv p set first places are k (omega (arith, low)) in
    let root = place.is_shape.least in
    let h : IsChamber t (k + 1) = (omega arith, omega (arith, low)) in
    let here : IsCount t p (k + 1) (cells_to places k + min x.sides 1) = ⊎_elim
    (λ own.
    let one : min x.sides 1 ≡ 1 = ap (λ n. min n 1) own.1 ∙ has_one place.shape.kind in
    subst (λ n. IsCount t p (k + 1) (cells_to places k + n)) (sym one) (one_more t p k (cells_to places k) before (subst (IsLeastOfCell t p) own.0 root.is_least)))
    (λ other.
    let none : cells_to places k ≡ cells_to places k + min x.sides 1 = let e : min x.sides 1 ≡ 0 = ap (λ n. min n 1) other.1 in omega (arith, e) in
    subst (IsCount t p (k + 1)) none (none_more t p k (cells_to places k) before (λ least.
    let up = least.1 place.shape.least root.in_cell in
    let down = root.is_least.1 (k + 1) (in_cell-sym t inv p (k + 1) place.shape.least h root.in_cell) in
    other.0 (omega (arith, up, down)))))
    place.sides in
    let e : k + 1 ≡ suc k = omega arith in
    subst (λ n. IsCount t p n (cells_to places (suc k))) e here

-- no more cells than a limit
within : (t : Symbol) → AreInvolutions t → (p : Pair) (cells limit : ℕ) → IsCount t p t.size cells → ((limit ≡ 0) ⊎ (cells ≤ limit)) ↔ AtMost t p limit
within t inv p cells limit count = (
  (λ told. ⊎_elim inl (λ few.
      let exist = cells_exist t inv p in
      let e = whole_count t p cells count exist.0 exist.1 in
      inr (exist.0, exist.1, omega (arith, e, few))) told),
  (λ has. ⊎_elim inl (λ most.
      let e = whole_count t p cells count most.0 most.1 in
      let few = most.2 in
      inr (omega (arith, e, few))) has),
)

-- the places of a table tell whether it has no more tiles, and no more vertices
pub tiles_within : (q : Request) (t : Symbol) (places xs : List DegreeSlot) (n limit : ℕ) (yes' : Bool) → AreInvolutions t → ArePlaces q t places → n ≡ t.size → xs ≡ take n places
    → (IsTrue yes' ↔ ((limit ≡ 0) ⊎ (cells_to xs (length xs) ≤ limit))) → IsTrue yes' ↔ AtMost t Tile limit
tiles_within q t places xs n limit yes' inv are size front told =
    let count = are.count in
    let is : xs ≡ take t.size places = front ∙ ap (λ m. take m places) size in
    let long : length xs ≡ t.size = ap length is ∙ length-take-le t.size places (omega (arith, count)) in
    let all = counted t inv Tile q.faces 0 xs (λ k low.
    subst (λ ys. IsPlaceOf t q.faces Tile 0 (k + 1) (get_or ys k no_place)) (sym is) (subst (IsPlaceOf t q.faces Tile 0 (k + 1)) (sym (get_or-take t.size places k no_place low)) (are.tiles k no_place low))) t.size (omega arith) in
    let is_within = within t inv Tile (cells_to xs (length xs)) limit (subst (λ m. IsCount t Tile t.size (cells_to xs m)) (sym long) all) in (
      (λ yes. is_within.0 (told.0 yes)),
      (λ most. told.1 (is_within.1 most)),
    )

pub vertices_within : (q : Request) (t : Symbol) (places xs : List DegreeSlot) (n limit : ℕ) (yes' : Bool) → AreInvolutions t → ArePlaces q t places → n ≡ t.size → xs ≡ drop n places
    → (IsTrue yes' ↔ ((limit ≡ 0) ⊎ (cells_to xs (length xs) ≤ limit))) → IsTrue yes' ↔ AtMost t Vertex limit
vertices_within q t places xs n limit yes' inv are size back told =
    let count = are.count in
    let is : xs ≡ drop t.size places = back ∙ ap (λ m. drop m places) size in
    let rest = length-drop t.size places in
    let long : length xs ≡ t.size = ap length is ∙ omega (arith, rest, count) in
    let all = counted t inv Vertex q.degrees t.size xs (λ k low.
    subst (λ ys. IsPlaceOf t q.degrees Vertex t.size (k + 1) (get_or ys k no_place)) (sym is) (subst (IsPlaceOf t q.degrees Vertex t.size (k + 1)) (sym (get_or-drop t.size places k no_place)) (are.vertices k no_place low))) t.size (omega arith) in
    let is_within = within t inv Vertex (cells_to xs (length xs)) limit (subst (λ m. IsCount t Vertex t.size (cells_to xs m)) (sym long) all) in (
      (λ yes. is_within.0 (told.0 yes)),
      (λ most. told.1 (is_within.1 most)),
    )
