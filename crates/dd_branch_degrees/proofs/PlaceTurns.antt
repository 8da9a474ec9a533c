-- The numbers of turns of all places are the degrees of a table with branching values 1.
use Rattle.std.proofs.Common.{◌≡◌, ℕ, ◌+◌, ◌-◌, ◌<◌, List, [], ◌∷◌, ◌++◌, length, length-take-le, get_or, take, drop, sym, ap, ◌∙◌, subst, ⊎_elim, arith}
use Rattle.std.proofs.lemmas.Bool.{cases_lt}
use Rattle.std.proofs.lemmas.List.{get_or_append_left, get_or_default, get_or-drop, get_or_push, get_or-take, length-drop, length_push}
use Rattle.dd_model.specs.declared.allowed.Allowed.{Allowed}
use Rattle.dd_model.specs.declared.pair.Pair.{Pair}
use Rattle.dd_model.specs.declared.pair.Pair.TheVariants.{Tile, Vertex}
use Rattle.dd_model.specs.declared.requests.Request.{Request}
use Rattle.dd_model.specs.Symbol.{Symbol, AreInvolutions, IsChamber, item}
use Rattle.dd_model.specs.Cell.{IsPeriod}
use Rattle.dd_symbol.specs.Cells.{ArePeriods}
use Rattle.dd_symbol.specs.Images.{with_degrees}
use Rattle.dd_symbol.proofs.SameCells.{shape-same}
use Rattle.dd_symbol.proofs.TableLemmas.{with_same}
use Rattle.dd_cells.proofs.MemberLemmas.{period_from_turns}
use Rattle.dd_branch_degrees.specs.Budget.{no_place}
use Rattle.dd_branch_degrees.specs.Place.{ArePlaces, AreTurns, AreTurnsUpTo, IsPlaceOf}
use Rattle.dd_branch_degrees.specs.declared.places.DegreeSlot.{DegreeSlot}

-- ## One place after another

pub no_turns : (places : List DegreeSlot) (turns : List ℕ) → turns ≡ [] → AreTurnsUpTo places 0 turns
no_turns places turns empty = record { count = ap length empty; each = λ j x low. absurd (omega (arith, low)) }

pub more_turns : (places : List DegreeSlot) (m : ℕ) (y : DegreeSlot) (old new : List ℕ) → AreTurnsUpTo places m old → m < length places → new ≡ old ++ (get_or places m y).turns ∷ [] → AreTurnsUpTo places (m + 1) new
more_turns places m y old new are room longer =
    let e = (get_or places m y).turns in
    let count = are.count in
    let more = length_push old e in
    subst (AreTurnsUpTo places (m + 1)) (sym longer) (record {
      count = omega (arith, count, more);
      each = λ j x low. ⊎_elim
          (λ early. get_or_append_left old (e ∷ []) 0 j (omega (arith, early, count)) ∙ are.each j x early)
          (λ late.
          let here : m ≡ j = omega (arith, low, late) in
          get_or_push old e 0 j (count ∙ here)
          ∙ ap (λ (z : DegreeSlot). z.turns) (get_or_default places m y x room ∙ ap (λ i. get_or places i x) here))
          (cases_lt j m);
    })

-- ## All of them

period_at : (t : Symbol) → AreInvolutions t → (set : Allowed) (p : Pair) (first d e : ℕ) (x : DegreeSlot) → IsChamber t d → e ≡ d → IsPlaceOf t set p first e x → (m : ℕ) → m ≡ x.turns → IsPeriod t p d m
period_at t inv set p first d e x h at told m is =
    let place = subst (λ k. IsPlaceOf t set p first k x) at told in
    subst (IsPeriod t p d) (sym (is ∙ place.turns)) (period_from_turns t inv p d place.shape.r h place.is_shape.turns)

pub tile_turns : (q : Request) (t : Symbol) (places : List DegreeSlot) (turns : List ℕ) → AreInvolutions t → ArePlaces q t places → AreTurns places turns → ArePeriods t Tile (take t.size turns)
tile_turns q t places turns inv are of =
    let all = are.count in
    let count = of.count in
    record {
      whole = length-take-le t.size turns (omega (arith, all, count));
      each = λ d h.
          let low = h.0 in
          let high = h.1 in
          let inside : d - 1 < t.size = omega (arith, low, high) in
          period_at t inv q.faces Tile 0 d (d - 1 + 1) (get_or places (d - 1) no_place) h (omega (arith, low)) (are.tiles (d - 1) no_place inside) (item (take t.size turns) d)
          (get_or-take t.size turns (d - 1) 0 inside ∙ of.each (d - 1) no_place (omega (arith, inside, all)));
    }

pub vertex_turns : (q : Request) (t : Symbol) (places : List DegreeSlot) (turns : List ℕ) → AreInvolutions t → ArePlaces q t places → AreTurns places turns → ArePeriods t Vertex (drop t.size turns)
vertex_turns q t places turns inv are of =
    let all = are.count in
    let count = of.count in
    let rest = length-drop t.size turns in
    record {
      whole = omega (arith, rest, all, count);
      each = λ d h.
          let low = h.0 in
          let high = h.1 in
          let inside : d - 1 < t.size = omega (arith, low, high) in
          period_at t inv q.degrees Vertex t.size d (d - 1 + 1) (get_or places (t.size + (d - 1)) no_place) h (omega (arith, low)) (are.vertices (d - 1) no_place inside) (item (drop t.size turns) d)
          (get_or-drop t.size turns (d - 1) 0 ∙ of.each (t.size + (d - 1)) no_place (omega (arith, inside, all)));
    }

-- ## The places of a table are those of its involutions

place_with : (s : Symbol) (m01 m12 : List ℕ) (set : Allowed) (p : Pair) (first d : ℕ) (x : DegreeSlot) → IsPlaceOf s set p first d x → IsPlaceOf (with_degrees s m01 m12) set p first d x
place_with s m01 m12 set p first d x place = record {
  shape = place.shape;
  is_shape = shape-same s (with_degrees s m01 m12) (with_same s m01 m12) p d place.shape place.is_shape;
  root = place.root;
  turns = place.turns;
  few = place.few;
  sides = place.sides;
  shares = place.shares;
  bounds = place.bounds;
}

pub places_with : (q : Request) (s : Symbol) (m01 m12 : List ℕ) (places : List DegreeSlot) → ArePlaces q s places → ArePlaces q (with_degrees s m01 m12) places
places_with q s m01 m12 places are = record {
  count = are.count;
  tiles = λ k x low. place_with s m01 m12 q.faces Tile 0 (k + 1) (get_or places k x) (are.tiles k x low);
  vertices = λ k x low. place_with s m01 m12 q.degrees Vertex s.size (k + 1) (get_or places (s.size + k) x) (are.vertices k x low);
}
