-- The handles and crosscaps of each symbol exist: it is decided whether its surface is orientable.
use Rattle.std.proofs.Common.{◌≡◌, ◌≢◌, ℕ, zero, suc, ◌+◌, ◌-◌, ◌≤◌, ◌/◌, ◌⊎◌, Bool, true, false, not, List, [], ◌∷◌, map, length, ℤ, pos, negsuc, ◌-ℤ◌, ◌<ℤ◌, refl, sym, ap, ◌∙◌, inl, inr, ⊎_elim, arith}
use Rattle.std.proofs.lemmas.Bool.{cases_eq}
use Rattle.std.proofs.lemmas.Int.{ints}
use Rattle.std.proofs.lemmas.List.{get_or-map, length-map}
use Rattle.dd_model.specs.declared.index.Index.{Index}
use Rattle.dd_model.specs.declared.index.Index.TheVariants.{Zero, One, Two}
use Rattle.dd_model.specs.declared.pair.Pair.TheVariants.{Tile, Vertex, Edge}
use Rattle.dd_model.specs.Symbol.{Symbol, AreInvolutions, IsChamber, op}
use Rattle.dd_model.specs.Code.{count_from}
use Rattle.dd_model.proofs.CellLists.{cells_exist}
use Rattle.dd_model.proofs.CellSearch.{Decided}
use Rattle.dd_model.proofs.CountFrom.{length-count_from, item-count_from}
use Rattle.dd_cells.specs.Euler.{orbits}
use Rattle.dd_cells.specs.Orientation.{color, AreWeakColors, HasWeakColors}
use Rattle.dd_cells.proofs.ColoringLemmas.{weak_of_oriented}
use Rattle.dd_name.specs.Surface.{IsRoom, IsHalf, AreHandlesAndCrosscaps}
use Rattle.dd_quotient.proofs.Deciding.{decide_same, decide_each_index, decide_each}

-- ## Lists of colors

same_truth : (a b : Bool) → Decided (a ≡ b)
same_truth true true = inl refl
same_truth true false = inr (λ e. (cc))
same_truth false true = inr (λ e. (cc))
same_truth false false = inl refl

-- A list of n colors at which P holds is found, or there is none.
record HasList (n : ℕ) (P : List Bool → Type 0) : Type 0 where
  pub list : List Bool
  pub long : length list ≡ n
  pub holds : P list

find_list : (n : ℕ) (P : List Bool → Type 0) → ((xs : List Bool) → Decided (P xs)) → Decided (HasList n P)
find_list zero P decide =
    ⊎_elim (λ here. inl (record { list = []; long = refl; holds = here })) (λ fails. inr (λ h. fails (empty P h.list h.long h.holds))) (decide [])
  where
    empty : (P : List Bool → Type 0) (xs : List Bool) → length xs ≡ 0 → P xs → P []
    empty P [] e p = p
    empty P (x ∷ xs) e p = absurd (omega (arith, e))
find_list (suc n) P decide =
    ⊎_elim
    (λ h. inl (record { list = true ∷ h.list; long = ap suc h.long; holds = h.holds }))
    (λ none. ⊎_elim
    (λ h. inl (record { list = false ∷ h.list; long = ap suc h.long; holds = h.holds }))
    (λ neither. inr (λ h. first n P h.list h.long h.holds none neither))
    (find_list n (λ xs. P (false ∷ xs)) (λ xs. decide (false ∷ xs))))
    (find_list n (λ xs. P (true ∷ xs)) (λ xs. decide (true ∷ xs)))
  where
    first : (n : ℕ) (P : List Bool → Type 0) (xs : List Bool) → length xs ≡ suc n → P xs → (HasList n (λ ys. P (true ∷ ys)) → ⊥) → (HasList n (λ ys. P (false ∷ ys)) → ⊥) → ⊥
    first n P [] e p one other = absurd (omega (arith, e))
    first n P (true ∷ xs) e p one other = one (record { list = xs; long = omega (arith, e); holds = p })
    first n P (false ∷ xs) e p one other = other (record { list = xs; long = omega (arith, e); holds = p })

-- ## Whether the surface is orientable

decide_moved : (s : Symbol) (colors : List Bool) (i : Index) (d : ℕ) → Decided (op s i d ≢ d → color colors (op s i d) ≡ not (color colors d))
decide_moved s colors i d =
    ⊎_elim
    (λ fixed. inl (λ moved. absurd (moved fixed)))
    (λ moved. decide_same (same_truth (color colors (op s i d)) (not (color colors d))) (λ e _. e) (λ f. f moved))
    (cases_eq (op s i d) d)

-- the colors by involution and chamber, as what is decided has them
abbrev AreExchanged : Symbol → List Bool → Type 0
AreExchanged s colors = (i : Index) → (d : ℕ) → IsChamber s d → op s i d ≢ d → color colors (op s i d) ≡ not (color colors d)

decide_colors : (s : Symbol) (colors : List Bool) → Decided (AreExchanged s colors)
decide_colors s colors =
    decide_each_index (λ i. (d : ℕ) → IsChamber s d → op s i d ≢ d → color colors (op s i d) ≡ not (color colors d))
    (λ i. decide_each (λ d. op s i d ≢ d → color colors (op s i d) ≡ not (color colors d)) s.size (λ d h. decide_moved s colors i d))

-- the colors of the chambers, without what stands after them
colors_of : ℕ → List Bool → List Bool
colors_of n colors = map (color colors) (count_from 1 n)

color_of : (n : ℕ) (colors : List Bool) (d : ℕ) → 1 ≤ d → d ≤ n → color (colors_of n colors) d ≡ color colors d
unfolding colors_of
color_of n colors d low high =
    let size = length-count_from 1 n in
    get_or-map (color colors) (count_from 1 n) (d - 1) 0 false (omega (arith, size, low, high)) ∙ ap (color colors) (item-count_from n d low high)

colors_long : (n : ℕ) (colors : List Bool) → length (colors_of n colors) ≡ n
unfolding colors_of
colors_long n colors = length-map (count_from 1 n) (color colors) ∙ length-count_from 1 n

kept_colors : (s : Symbol) → AreInvolutions s → (colors : List Bool) → AreWeakColors s colors → AreWeakColors s (colors_of s.size colors)
kept_colors s inv colors weak i d h moved =
    let there = (inv i).within d h in
    color_of s.size colors (op s i d) there.0 there.1 ∙ weak i d h moved ∙ ap not (sym (color_of s.size colors d h.0 h.1))

decide_orientable : (s : Symbol) → AreInvolutions s → Decided (HasWeakColors s)
decide_orientable s inv =
    decide_same (find_list s.size (AreExchanged s) (decide_colors s))
    (λ h. record { colors = h.list; exchanged = h.holds })
    (λ w. record { list = colors_of s.size w.colors; long = colors_long s.size w.colors; holds = kept_colors s inv w.colors w.exchanged })

-- ## The room

record HasRoom (s : Symbol) (boundaries : ℕ) : Type 0 where
  pub room : ℕ
  pub is : IsRoom s boundaries room

record HasNumber (x : ℤ) : Type 0 where
  pub number : ℕ
  pub is : (x ≡ pos number) ⊎ ((x <ℤ pos 0) × (number ≡ 0))

number_of : (x : ℤ) → HasNumber x
number_of (pos n) = record { number = n; is = inl refl }
number_of (negsuc n) = record { number = 0; is = inr (omega (arith, ints), refl) }

room_exists : (s : Symbol) → AreInvolutions s → (boundaries : ℕ) → HasRoom s boundaries
room_exists s inv boundaries =
    let tiles = cells_exist s inv Tile in
    let vertices = cells_exist s inv Vertex in
    let edges = cells_exist s inv Edge in
    let euler = pos (length tiles.0 + length vertices.0 + length edges.0 + s.size) -ℤ pos (orbits s Zero + orbits s One + orbits s Two) in
    let n = number_of (pos 2 -ℤ pos boundaries -ℤ euler) in
    record {
      room = n.number;
      is = record {
        euler = euler;
        is_euler = record { tiles = tiles.0; vertices = vertices.0; edges = edges.0; are_tiles = tiles.1; are_vertices = vertices.1; are_edges = edges.1; sum = refl };
        rest = n.is;
      };
    }

half_is : (n : ℕ) → IsHalf n (n / 2)
half_is n = record { below = omega arith; greatest = λ k low. omega (arith, low) }

pub record HasSurface (s : Symbol) (boundaries : ℕ) : Type 0 where
  pub handles : ℕ
  pub crosscaps : ℕ
  pub are : AreHandlesAndCrosscaps s boundaries handles crosscaps

pub surface_exists : (s : Symbol) → AreInvolutions s → (boundaries : ℕ) → HasSurface s boundaries
surface_exists s inv boundaries =
    let r = room_exists s inv boundaries in
    ⊎_elim
    (λ weak. record {
      handles = r.room / 2;
      crosscaps = 0;
      are = record { room = r.room; is_room = r.is; kind = inl (record { orientable = inr weak; half = half_is r.room; none = refl }) };
    })
    (λ none. record {
      handles = 0;
      crosscaps = r.room;
      are = record {
        room = r.room;
        is_room = r.is;
        kind = inr (record { not_orientable = λ o. ⊎_elim (λ oriented. none (weak_of_oriented s oriented)) none o; whole = refl; none = refl });
      };
    })
    (decide_orientable s inv)
