-- There is one list of seeds; it has a member, and each is small, connected and flat.
use Rattle.std.proofs.Common.{◌≡◌, ◌≤◌, ℕ, List, length, Some, slice_get, refl, sym, ◌∙◌, subst, arith}
use Rattle.std.specs.List.{Contains}
use Rattle.std.proofs.lemmas.Option.{get_or_from_slice_get, slice_get_within}
use Rattle.dd_model.specs.Symbol.{Symbol}
use Rattle.dd_model.specs.Flat.{Flat}
use Rattle.dd_model.specs.Wanted.{Wanted, IsCatalogue}
use Rattle.dd_model.specs.Worked.{squares}
use Rattle.dd_model.specs.declared.requests.Request.{Request}
use Rattle.dd_model.proofs.AllowedSets.{same_from_sets}
use Rattle.dd_model.proofs.Catalogues.{catalogue_unique}
use Rattle.dd_model.proofs.LeastForms.{member_exists}
use Rattle.dd_model.proofs.OneChamberCatalogue.{catalogue_of_one}
use Rattle.dd_symbol.specs.Building.{IsAccepted}
use Rattle.dd_plain.proofs.AcceptedLemmas.{wanted-accepted}
use Rattle.dd_suite_exercise.specs.Seeds.{AsksForTwoChambers, AreSeeds}

same_request : (p q : Request) → AsksForTwoChambers p → AsksForTwoChambers q → p ≡ q
same_request p q a b =
    let chambers = a.chambers ∙ sym b.chambers in
    let tiles = a.tiles ∙ sym b.tiles in
    let vertices = a.vertices ∙ sym b.vertices in
    let faces = same_from_sets 3 3 p.faces q.faces refl a.faces b.faces in
    let degrees = same_from_sets 3 3 p.degrees q.degrees refl a.degrees b.degrees in
    let minimal = a.minimal ∙ sym b.minimal in
    λ i. record { chambers = chambers i; tiles = tiles i; vertices = vertices i; faces = faces i; degrees = degrees i; minimal = minimal i }

pub one_list_of_seeds : (ss ts : List Symbol) → AreSeeds ss → AreSeeds ts → ss ≡ ts
one_list_of_seeds ss ts a b =
    catalogue_unique a.request ss ts a.catalogue (subst (λ q. IsCatalogue q ts) (same_request b.request a.request b.asks a.asks) b.catalogue)

-- a connected flat symbol of at most n chambers
pub record IsBase (n : ℕ) (s : Symbol) : Type 0 where
  pub accepted : IsAccepted n s
  pub flat : Flat s

pub seed_base : (seeds : List Symbol) (k : ℕ) (s : Symbol) → AreSeeds seeds → slice_get seeds k ≡ Some s → IsBase 2 s
seed_base seeds k s a at =
    let contains : Contains seeds s = (k, slice_get_within seeds k s at, get_or_from_slice_get seeds k s s at) in
    let wanted = ((a.catalogue.members s).0 contains).wanted in
    let few : s.size ≤ 2 = subst (λ n. s.size ≤ n) a.asks.chambers wanted.chambers in
    let accepted = wanted-accepted a.request s wanted (omega (arith, few)) in
    record { accepted = record { symbol = accepted.symbol; connected = accepted.connected; within = few }; flat = wanted.flat }

-- the squares are wanted
squares_wanted : (q : Request) → AsksForTwoChambers q → Wanted q squares
squares_wanted q a =
    let one : Request = record { chambers = 1; tiles = q.tiles; vertices = q.vertices; faces = q.faces; degrees = q.degrees; minimal = q.minimal } in
    let all = catalogue_of_one one (record { chambers = refl; tiles = a.tiles; vertices = a.vertices; faces = a.faces; degrees = a.degrees }) in
    let w : Wanted one squares = ((all.members squares).0 (1, omega arith, refl)).wanted in
    let few = a.chambers in
    record {
      symbol = w.symbol;
      connected = w.connected;
      chambers = omega (arith, few);
      tiles = w.tiles;
      vertices = w.vertices;
      faces = w.faces;
      degrees = w.degrees;
      face_branching = w.face_branching;
      vertex_branching = w.vertex_branching;
      flat = w.flat;
      minimal = w.minimal;
    }

pub some_seeds : (seeds : List Symbol) → AreSeeds seeds → 1 ≤ length seeds
some_seeds seeds a =
    let found = member_exists a.request seeds squares a.catalogue (squares_wanted a.request a.asks) in
    let place = found.1 in
    omega (arith, place.1)
