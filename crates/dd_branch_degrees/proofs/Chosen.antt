-- The degrees of a symbol as choices, at each place of a table with its involutions.
use Rattle.std.proofs.Common.{◌≡◌, ◌≢◌, ℕ, ◌+◌, ◌-◌, ◌*◌, ◌/◌, ◌<◌, ◌≤◌, ◌%◌, List, length, get_or, refl, sym, IsTrue, ap, ◌∙◌, subst, ⊎_elim, arith}
use Rattle.std.proofs.Math.Nat.{mul-le-mul_left, mul-mod_left}
use Rattle.std.proofs.lemmas.Bool.{cases_lt}
use Rattle.std.proofs.lemmas.List.{get_or_append_left, get_or-append_right}
use Rattle.dd_model.specs.declared.allowed.Allowed.{Allowed}
use Rattle.dd_model.specs.declared.pair.Pair.{Pair}
use Rattle.dd_model.specs.declared.pair.Pair.TheVariants.{Tile, Vertex, Edge}
use Rattle.dd_model.specs.declared.requests.Request.{Request}
use Rattle.dd_model.specs.Allowed.{IsIn}
use Rattle.dd_model.specs.Symbol.{Symbol, AreInvolutions, IsTable, IsSymbol, IsChamber, item, degree, power, turn}
use Rattle.dd_model.specs.Cell.{IsBranching, IsLeastTurns}
use Rattle.dd_model.specs.Flat.{Flat}
use Rattle.dd_model.specs.Minimal.{Minimal}
use Rattle.dd_model.specs.Involutions.{HaveSameInvolutions}
use Rattle.dd_model.specs.Small.{IsSmallSymbol}
use Rattle.dd_model.specs.Wanted.{IsCrystallographic, Wanted}
use Rattle.dd_model.proofs.Branching.{branching_exists, branching_unique, degree_same, turns-along}
use Rattle.dd_model.proofs.CellSearch.{least_of_cell_unique}
use Rattle.dd_model.proofs.CellWalks.{in_cell-sym, in_cell-trans}
use Rattle.dd_model.proofs.SameInvolutions.{act-same, chamber-same, connected-same, involutions-same, same-sym}
use Rattle.dd_model.proofs.Transport.{HaveLengths}
use Rattle.dd_model.proofs.Turns.{least_turns_unique}
use Rattle.dd_symbol.specs.Conditions.{AreConnected, HasDegreeOfCell}
use Rattle.dd_symbol.proofs.DegreeLemmas.{small_symbol}
use Rattle.dd_branch_tables.specs.Table.{IsBareTable}
use Rattle.dd_branch_tables.proofs.BareTables.{at_most_alike}
use Rattle.dd_branch_degrees.specs.Assignment.{HasLimits, degree_at}
use Rattle.dd_branch_degrees.specs.Budget.{no_place, twelfths}
use Rattle.dd_branch_degrees.specs.Choice.{IsChoice}
use Rattle.dd_symbol.specs.declared.kind.Kind.{Kind}
use Rattle.dd_symbol.specs.declared.kind.Kind.TheVariants.{Cycle, Chain}
use Rattle.dd_branch_degrees.specs.Place.{ArePlaces, IsPlaceOf, sides_of}
use Rattle.dd_branch_degrees.specs.declared.places.DegreeSlot.{DegreeSlot}
use Rattle.dd_branch_degrees.proofs.Budgets.{AreBounded, AreChosen, AllAreChosen, HasPart, part_of_choice, shape_at}
use Rattle.dd_branch_degrees.proofs.Choices.{share_exists, share_told, value_of}

-- ## Where degrees stand

pub tile_at : (s : Symbol) → IsTable s → (k j : ℕ) → j ≡ 0 + k → k < s.size → degree_at s j ≡ item s.m01 (k + 1)
tile_at s is k j at low =
    let len = is.m01_length in
    let back : j ≡ k + 1 - 1 = omega (arith, at) in
    get_or_append_left s.m01 s.m12 0 j (omega (arith, len, low, at)) ∙ ap (λ i. get_or s.m01 i 0) back

pub vertex_at : (s : Symbol) → IsTable s → (k j : ℕ) → j ≡ s.size + k → degree_at s j ≡ item s.m12 (k + 1)
vertex_at s is k j at =
    let back : j - s.size ≡ k + 1 - 1 = omega (arith, at) in
    get_or-append_right s.m01 s.m12 s.size j 0 is.m01_length (omega (arith, at)) ∙ ap (λ i. get_or s.m12 i 0) back

-- ## Places

pub tile_place : (q : Request) (t : Symbol) (places : List DegreeSlot) → ArePlaces q t places → (n k j : ℕ) → n ≡ t.size → j ≡ 0 + k → k < n → IsPlaceOf t q.faces Tile 0 (k + 1) (get_or places j no_place)
tile_place q t places are n k j size at low =
    let e : k ≡ j = omega (arith, at) in
    subst (λ i. IsPlaceOf t q.faces Tile 0 (k + 1) (get_or places i no_place)) e (are.tiles k no_place (omega (arith, low, size)))

pub vertex_place : (q : Request) (t : Symbol) (places : List DegreeSlot) → ArePlaces q t places → (n k j : ℕ) → n ≡ t.size → j ≡ n + k → k < n → IsPlaceOf t q.degrees Vertex n (k + 1) (get_or places j no_place)
vertex_place q t places are n k j size at low =
    let e : t.size + k ≡ j = omega (arith, at, size) in
    subst (λ m. IsPlaceOf t q.degrees Vertex m (k + 1) (get_or places j no_place)) (sym size)
    (subst (λ i. IsPlaceOf t q.degrees Vertex t.size (k + 1) (get_or places i no_place)) e (are.vertices k no_place (omega (arith, low, size))))

-- ## Members

-- the degree of a symbol is a choice, where it is in the set and its branching value is one of flat symbols
choice_at : (t s : Symbol) (set : Allowed) (p : Pair) (first d m : ℕ) (x : DegreeSlot) → IsSymbol s → HaveSameInvolutions t s → IsPlaceOf t set p first d x → IsChamber s d → m ≡ degree s p d
    → IsIn set (degree s p d) → ((v : ℕ) → IsBranching s p d v → IsCrystallographic v) → IsChoice set x.turns m
choice_at t s set p first d m x is same place h at allowed crystallographic =
    let b = branching_exists s is p d h in
    let shape = shape_at t s same p set first d x place in
    let turns : b.1.r ≡ x.turns = least_turns_unique s p d b.1.r place.shape.r b.1.least_turns shape.turns ∙ sym place.turns in
    record {
      value = b.0;
      crystallographic = crystallographic b.0 b.1;
      product = at ∙ sym b.1.quotient ∙ ap (λ r. b.0 * r) turns;
      allowed = subst (IsIn set) (sym at) allowed;
    }

chamber_after : (s : Symbol) (k : ℕ) → k < s.size → IsChamber s (k + 1)
chamber_after s k low = (omega arith, omega (arith, low))

-- the degrees of what is wanted
pub wanted_chosen : (q : Request) (t s : Symbol) (places : List DegreeSlot) → ArePlaces q t places → Wanted q s → HaveSameInvolutions t s → AllAreChosen q t s places
wanted_chosen q t s places are wanted same =
    let is = wanted.symbol in
    let size = same.size in
    record {
      tiles = record {
        place = λ k j at low. tile_place q t places are s.size k j size at low;
        choice = λ k j at low. choice_at t s q.faces Tile 0 (k + 1) (degree_at s j) (get_or places j no_place) is same (tile_place q t places are s.size k j size at low) (chamber_after s k low)
            (tile_at s is.table k j at low) (wanted.faces (k + 1) (chamber_after s k low)) (λ v b. wanted.face_branching (k + 1) v (chamber_after s k low) b);
        degree = λ k j at low. tile_at s is.table k j at low;
      };
      vertices = record {
        place = λ k j at low. vertex_place q t places are s.size k j size at low;
        choice = λ k j at low. choice_at t s q.degrees Vertex s.size (k + 1) (degree_at s j) (get_or places j no_place) is same (vertex_place q t places are s.size k j size at low) (chamber_after s k low)
            (vertex_at s is.table k j at) (wanted.degrees (k + 1) (chamber_after s k low)) (λ v b. wanted.vertex_branching (k + 1) v (chamber_after s k low) b);
        degree = λ k j at low. vertex_at s is.table k j at;
      };
    }

-- ## Bounds

bounded_at : (t s : Symbol) → HaveSameInvolutions t s → (p : Pair) (set : Allowed) (first : ℕ) (places : List DegreeSlot) → AreChosen t s p set first places → (k j : ℕ) → j ≡ first + k → k < s.size
    → (twelfths (get_or places j no_place) (degree_at s j) ≤ (get_or places j no_place).most) × HasPart (get_or places j no_place) (twelfths (get_or places j no_place) (degree_at s j))
bounded_at t s same p set first places all k j at low =
    let x = get_or places j no_place in
    let place = all.place k j at low in
    let c = all.choice k j at low in
    let some : 1 ≤ x.turns = let a = place.turns in let b = (shape_at t s same p set first (k + 1) x place).turns.positive in omega (arith, a, b) in
    let part = part_of_choice set x (degree_at s j) some c in
    let most = place.bounds.most (degree_at s j) c in
    let share : ℕ = x.sides * (12 / c.value) - 2 * x.sides in
    let beyond = share_exists x.sides c.value c.crystallographic in (
      omega (arith, part, most),
      record {
        share = share;
        is = omega (arith, part, beyond);
        none = λ none. omega (arith, beyond, none, ap (λ n. n * (12 / c.value)) none);
        allowed = λ some_sides. share_told set x.turns x.sides x.shares (degree_at s j) share (place.shares some_sides) c beyond;
      },
    )

-- all parts are within the bounds of their places
pub all_bounded : (q : Request) (t s : Symbol) (places : List DegreeSlot) → ArePlaces q t places → HaveSameInvolutions t s → AllAreChosen q t s places → AreBounded places (degree_at s)
all_bounded q t s places are same all = record {
  most = λ j low. (both j low).0;
  parts = λ j low. (both j low).1;
}
  where
    both : (j : ℕ) → j < length places
        → (twelfths (get_or places j no_place) (degree_at s j) ≤ (get_or places j no_place).most) × HasPart (get_or places j no_place) (twelfths (get_or places j no_place) (degree_at s j))
    both j low =
        let size = same.size in
        let count = are.count in
        ⊎_elim
        (λ early. bounded_at t s same Tile q.faces 0 places all.tiles j j (omega arith) early)
        (λ late. bounded_at t s same Vertex q.degrees s.size places all.vertices (j - s.size) j (omega (arith, late)) (omega (arith, late, low, count, size)))
        (cases_lt j s.size)

-- ## From choices to a symbol

-- the places of a pair
abbrev pub ArePlacesOf : Symbol → Allowed → Pair → ℕ → ℕ → List DegreeSlot → Type 0
ArePlacesOf t set p first n places = (k j : ℕ) → j ≡ first + k → k < n → IsPlaceOf t set p first (k + 1) (get_or places j no_place)

-- the least chamber of the cell has its own place
record HasRoot (first n : ℕ) (places : List DegreeSlot) (x : DegreeSlot) : Type 0 where
  k : ℕ
  at : x.root ≡ first + k
  inside : k < n
  own : (get_or places x.root no_place).root ≡ first + k
  turns : (get_or places x.root no_place).turns ≡ x.turns

root_place : (t : Symbol) → AreInvolutions t → (p : Pair) (set : Allowed) (first : ℕ) (places : List DegreeSlot) → ArePlacesOf t set p first t.size places → (k j : ℕ) → j ≡ first + k → k < t.size → HasRoot first t.size places (get_or places j no_place)
root_place t inv p set first places are k j at low =
    let x = get_or places j no_place in
    let place = are k j at low in
    let l = place.shape.least in
    let pos = place.is_shape.least.is_least.0.0 in
    let high = place.is_shape.least.is_least.0.1 in
    let root = place.root in
    let back : l - 1 + 1 ≡ l = omega (arith, pos) in
    let there : IsPlaceOf t set p first l (get_or places x.root no_place) =
    subst (λ d. IsPlaceOf t set p first d (get_or places x.root no_place)) back (are (l - 1) x.root (omega (arith, root, pos)) (omega (arith, pos, high))) in
    let own : l ≡ there.shape.least = least_of_cell_unique t inv p l there.shape.least place.is_shape.least.is_least there.is_shape.least.is_least there.is_shape.least.in_cell in
    let h : IsChamber t (k + 1) = (omega arith, omega (arith, low)) in
    let turns : there.shape.r ≡ place.shape.r = least_turns_unique t p l there.shape.r place.shape.r there.is_shape.turns (turns-along t inv p (k + 1) l place.shape.r h place.is_shape.least.in_cell place.is_shape.turns) in
    let again = there.root in
    record {
      k = l - 1;
      at = omega (arith, root, pos);
      inside = omega (arith, pos, high);
      own = omega (arith, again, own, pos);
      turns = there.turns ∙ turns ∙ sym place.turns;
    }

-- What is told of degrees f: each is that of the least chamber of its cell, and there it is a choice.
pub record AreToldOf (set : Allowed) (first n : ℕ) (places : List DegreeSlot) (f : ℕ → ℕ) : Type 0 where
  pub same : (k j : ℕ) → j ≡ first + k → k < n → f j ≡ f (get_or places j no_place).root
  pub choice : (k j : ℕ) → j ≡ first + k → k < n → (get_or places j no_place).root ≡ j → IsChoice set (get_or places j no_place).turns (f j)

-- then each is a choice
pub choice_everywhere : (t : Symbol) → AreInvolutions t → (p : Pair) (set : Allowed) (first : ℕ) (places : List DegreeSlot) (f : ℕ → ℕ) → ArePlacesOf t set p first t.size places
    → AreToldOf set first t.size places f → (k j : ℕ) → j ≡ first + k → k < t.size → IsChoice set (get_or places j no_place).turns (f j)
choice_everywhere t inv p set first places f are told k j at low =
    let x = get_or places j no_place in
    let root = root_place t inv p set first places are k j at low in
    let here : IsChoice set (get_or places x.root no_place).turns (f x.root) = told.choice root.k x.root root.at root.inside (root.own ∙ sym root.at) in
    subst (λ m. IsChoice set x.turns m) (sym (told.same k j at low)) (subst (λ r. IsChoice set r (f x.root)) root.turns here)

-- what is known of the degree of a chamber
record HasChoice (s : Symbol) (p : Pair) (set : Allowed) (d : ℕ) : Type 0 where
  r : ℕ
  turns : IsLeastTurns s p d r
  choice : IsChoice set r (degree s p d)
  constant : HasDegreeOfCell s p d

has_choice : (t s : Symbol) → AreInvolutions s → HaveSameInvolutions t s → (p : Pair) (set : Allowed) (first : ℕ) (places : List DegreeSlot) → AreChosen t s p set first places → AreToldOf set first s.size places (degree_at s)
    → (d : ℕ) → IsChamber s d → HasChoice s p set d
has_choice t s inv same p set first places all told d h =
    let low = h.0 in
    let high = h.1 in
    let e : d - 1 + 1 ≡ d = omega (arith, low) in
    subst (HasChoice s p set) e (at (d - 1) (omega (arith, low, high)))
  where
    at : (k : ℕ) → k < s.size → HasChoice s p set (k + 1)
    at k low =
        let j = first + k in
        let x = get_or places j no_place in
        let place = all.place k j refl low in
        let shape = shape_at t s same p set first (k + 1) x place in
        let here = all.degree k j refl low in
        record {
          r = place.shape.r;
          turns = shape.turns;
          choice = subst (IsChoice set place.shape.r) here (subst (λ r. IsChoice set r (degree_at s j)) place.turns (all.choice k j refl low));
          constant = λ l least.
              let own : place.shape.least ≡ l =
              least_of_cell_unique s inv p place.shape.least l shape.least.is_least least.is_least
              (in_cell-trans s p place.shape.least (k + 1) l (in_cell-sym s inv p (k + 1) place.shape.least (chamber_after s k low) shape.least.in_cell) least.in_cell) in
              let pos = least.is_least.0.0 in
              let up = least.is_least.0.1 in
              let root = place.root in
              let there : x.root ≡ first + (l - 1) = omega (arith, root, own, pos) in
              let back : l - 1 + 1 ≡ l = omega (arith, pos) in
              sym here ∙ told.same k j refl low ∙ all.degree (l - 1) x.root there (omega (arith, pos, up)) ∙ ap (degree s p) back;
        }

value_unique : (s : Symbol) (p : Pair) (set : Allowed) (d v : ℕ) → (has : HasChoice s p set d) → IsBranching s p d v → v ≡ has.choice.value
value_unique s p set d v has b = branching_unique s p d v has.choice.value b (record { r = has.r; least_turns = has.turns; quotient = sym has.choice.product })

degree_some : (s : Symbol) (p : Pair) (set : Allowed) (d : ℕ) → HasChoice s p set d → 1 ≤ degree s p d
degree_some s p set d has =
    let c = has.choice in
    let low = (value_of c.value c.crystallographic).low in
    let up : c.value * 1 ≤ c.value * has.r = mul-le-mul_left c.value has.turns.positive in
    let is = c.product in
    omega (arith, low, up, is)

degree_multiple : (s : Symbol) (p : Pair) (set : Allowed) (d : ℕ) → HasChoice s p set d → (r : ℕ) → IsLeastTurns s p d r → degree s p d % r ≡ 0
degree_multiple s p set d has r turns =
    let same : has.r ≡ r = least_turns_unique s p d has.r r has.turns turns in
    ap (λ m. m % r) (has.choice.product ∙ ap (λ k. has.choice.value * k) same) ∙ mul-mod_left has.choice.value r

connected_again : (t s : Symbol) → IsBareTable t → HaveSameInvolutions t s → AreConnected s
connected_again t s bare same = record {
  involutions = involutions-same t s same bare.symbol.table.involutions;
  commuting = λ d h. act-same t s same (power (turn Edge) 2) d ∙ (bare.symbol.degrees Edge d (chamber-same t s same d h)).turns;
  connected = connected-same t s same bare.connected;
}

-- the degrees of a symbol that is not yet known to be one
pub record AreDegrees (q : Request) (t s : Symbol) (places : List DegreeSlot) : Type 0 where
  pub lengths : HaveLengths s
  pub same : HaveSameInvolutions t s
  pub chosen : AllAreChosen q t s places
  pub tiles : AreToldOf q.faces 0 s.size places (degree_at s)
  pub vertices : AreToldOf q.degrees s.size s.size places (degree_at s)

tile_choice : (q : Request) (t s : Symbol) (places : List DegreeSlot) → IsBareTable t → AreDegrees q t s places → (d : ℕ) → IsChamber s d → HasChoice s Tile q.faces d
tile_choice q t s places bare are = has_choice t s (involutions-same t s are.same bare.symbol.table.involutions) are.same Tile q.faces 0 places are.chosen.tiles are.tiles

vertex_choice : (q : Request) (t s : Symbol) (places : List DegreeSlot) → IsBareTable t → AreDegrees q t s places → (d : ℕ) → IsChamber s d → HasChoice s Vertex q.degrees d
vertex_choice q t s places bare are = has_choice t s (involutions-same t s are.same bare.symbol.table.involutions) are.same Vertex q.degrees s.size places are.chosen.vertices are.vertices

small_value : (s : Symbol) (p : Pair) (set : Allowed) (d v : ℕ) → HasChoice s p set d → IsBranching s p d v → v ≤ 30
small_value s p set d v has b =
    let e = value_unique s p set d v has b in
    let high = (value_of has.choice.value has.choice.crystallographic).high in
    omega (arith, e, high)

pub small_of_degrees : (q : Request) (t s : Symbol) (places : List DegreeSlot) → IsBareTable t → AreDegrees q t s places → IsSmallSymbol s
small_of_degrees q t s places bare are =
    let size = are.same.size in
    let few = bare.small in
    let some = bare.symbol.table.chambers in
    let tile = tile_choice q t s places bare are in
    let vertex = vertex_choice q t s places bare are in
    small_symbol s are.lengths (omega (arith, size, some)) (omega (arith, size, few)) (connected_again t s bare are.same)
    (λ d h. degree_some s Tile q.faces d (tile d h), λ d h. degree_some s Vertex q.degrees d (vertex d h))
    (λ d h. (tile d h).constant, λ d h. (vertex d h).constant)
    (λ d h. degree_multiple s Tile q.faces d (tile d h), λ d h. degree_multiple s Vertex q.degrees d (vertex d h))
    (λ d h v b. small_value s Tile q.faces d v (tile d h) b, λ d h v b. small_value s Vertex q.degrees d v (vertex d h) b)

-- a table has the limits of each symbol with its involutions
pub limits_of_wanted : (q : Request) (t s : Symbol) → HaveSameInvolutions t s → Wanted q s → HasLimits q t
limits_of_wanted q t s same wanted = record {
  chambers = let size = same.size in let few = wanted.chambers in omega (arith, size, few);
  tiles = at_most_alike s t (same-sym t s same) Tile q.tiles wanted.tiles;
  vertices = at_most_alike s t (same-sym t s same) Vertex q.vertices wanted.vertices;
}

-- Flat, and minimal where that is asked for: then it is wanted.
pub wanted_of_degrees : (q : Request) (t s : Symbol) (places : List DegreeSlot) → IsBareTable t → HasLimits q t → AreDegrees q t s places → Flat s → (IsTrue q.minimal → Minimal s) → Wanted q s
wanted_of_degrees q t s places bare limits are flat minimal =
    let size = are.same.size in
    let tile = tile_choice q t s places bare are in
    let vertex = vertex_choice q t s places bare are in
    record {
      symbol = (small_of_degrees q t s places bare are).symbol;
      connected = connected-same t s are.same bare.connected;
      chambers = let few = limits.chambers in omega (arith, size, few);
      tiles = at_most_alike t s are.same Tile q.tiles limits.tiles;
      vertices = at_most_alike t s are.same Vertex q.vertices limits.vertices;
      faces = λ d h. (tile d h).choice.allowed;
      degrees = λ d h. (vertex d h).choice.allowed;
      face_branching = λ d v h b. subst IsCrystallographic (sym (value_unique s Tile q.faces d v (tile d h) b)) (tile d h).choice.crystallographic;
      vertex_branching = λ d v h b. subst IsCrystallographic (sym (value_unique s Vertex q.degrees d v (vertex d h) b)) (vertex d h).choice.crystallographic;
      flat = flat;
      minimal = minimal;
    }

-- ## Cells

-- a symbol has the degree of the least chamber at each place of the cell
pub constant_at : (t s : Symbol) → IsSymbol s → HaveSameInvolutions t s → (p : Pair) (set : Allowed) (first : ℕ) (places : List DegreeSlot) → AreChosen t s p set first places → (k j : ℕ) → j ≡ first + k → k < s.size
    → degree_at s j ≡ degree_at s (get_or places j no_place).root
constant_at t s is same p set first places all k j at low =
    let place = all.place k j at low in
    let least = (shape_at t s same p set first (k + 1) (get_or places j no_place) place).least in
    let l = place.shape.least in
    let pos = least.is_least.0.0 in
    let high = least.is_least.0.1 in
    let root = place.root in
    let there : (get_or places j no_place).root ≡ first + (l - 1) = omega (arith, root, pos) in
    let back : l - 1 + 1 ≡ l = omega (arith, pos) in
    let along : degree s p l ≡ degree s p (k + 1) = ap (degree s p) (sym least.in_cell.leads) ∙ degree_same s is p least.in_cell.word (k + 1) (chamber_after s k low) least.in_cell.letters in
    all.degree k j at low ∙ sym along ∙ sym (ap (degree s p) back) ∙ sym (all.degree (l - 1) (get_or places j no_place).root there (omega (arith, pos, high)))

-- what a place says by itself
pub record IsSound (j : ℕ) (x : DegreeSlot) : Type 0 where
  pub earlier : x.root ≤ j
  pub some : 1 ≤ x.turns
  pub few : x.turns ≤ 36
  pub sides : x.sides ≤ 2
  pub most : x.most ≤ x.sides * 12
  pub follows : x.root ≢ j → x.sides ≡ 0
  pub leads : x.root ≡ j → 1 ≤ x.sides

some_sides : (kind : Kind) → 1 ≤ sides_of kind
some_sides Cycle = omega arith
some_sides Chain = omega arith

sound_place : (t : Symbol) → AreInvolutions t → (p : Pair) (set : Allowed) (first k j : ℕ) (x : DegreeSlot) → j ≡ first + k → IsPlaceOf t set p first (k + 1) x → k < t.size → IsSound j x
sound_place t inv p set first k j x at place low =
    let l = place.shape.least in
    let least = place.is_shape.least in
    let root = place.root in
    let h : IsChamber t (k + 1) = (omega arith, omega (arith, low)) in
    let before = least.is_least.1 (k + 1) (in_cell-sym t inv p (k + 1) l h least.in_cell) in
    let turns = place.turns in
    let pos = place.is_shape.turns.positive in
    record {
      earlier = omega (arith, root, before, at);
      some = omega (arith, turns, pos);
      few = place.few;
      sides = place.bounds.sides;
      most = place.bounds.most_small;
      follows = λ other. ⊎_elim (λ own. absurd (other (let e = own.0 in omega (arith, e, root, at)))) (λ none. none.1) place.sides;
      leads = λ own. ⊎_elim (λ here. let is = here.1 in let some = some_sides place.shape.kind in omega (arith, is, some)) (λ none. absurd (none.0 (omega (arith, own, root, at)))) place.sides;
    }

pub sound_places : (q : Request) (t : Symbol) (places : List DegreeSlot) → AreInvolutions t → ArePlaces q t places → (j : ℕ) (x : DegreeSlot) → j < 2 * t.size → IsSound j (get_or places j x)
sound_places q t places inv are j x low =
    ⊎_elim
    (λ early. sound_place t inv Tile q.faces 0 j j (get_or places j x) (omega arith) (are.tiles j x early) early)
    (λ late.
    let e : t.size + (j - t.size) ≡ j = omega (arith, late) in
    let inside : j - t.size < t.size = omega (arith, late, low) in
    sound_place t inv Vertex q.degrees t.size (j - t.size) j (get_or places j x) (sym e)
    (subst (λ i. IsPlaceOf t q.degrees Vertex t.size (j - t.size + 1) (get_or places i x)) e (are.vertices (j - t.size) x inside)) inside)
    (cases_lt j t.size)
