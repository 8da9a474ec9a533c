-- The crystallographic law, also for symbols that are not oriented.
use Rattle.std.proofs.Common.{◌↔◌, ℕ, List, ⊎_elim, arith}
use Rattle.dd_model.specs.declared.pair.Pair.{Pair}
use Rattle.dd_model.specs.declared.pair.Pair.TheVariants.{Tile, Vertex}
use Rattle.dd_model.specs.declared.requests.Request.{Request}
use Rattle.dd_model.specs.Symbol.{Symbol, IsSymbol, IsChamber}
use Rattle.dd_model.specs.Cell.{IsBranching}
use Rattle.dd_model.specs.Connected.{Connected}
use Rattle.dd_model.specs.Flat.{Flat}
use Rattle.dd_model.specs.Wanted.{IsCrystallographic, Wanted, IsMember, IsCatalogue}
use Rattle.dd_covers.specs.OrientedCover.{next_sheet, two_sheets}
use Rattle.dd_covers.proofs.FlatSheets.{flat-sheets}
use Rattle.dd_covers.proofs.OrientedLemmas.{symbol_of_two, two_are_connected, two_are_oriented, decide_oriented}
use Rattle.dd_covers.proofs.PlaneUses.{plane_crystal}
use Rattle.dd_crystal.specs.AnyBranching.{WantedOfAnyBranching, IsMemberOfAnyBranching, IsCatalogueOfAnyBranching}
use Rattle.dd_crystal.proofs.TwoSheets.{chamber_of_two, branching_two}

pub crystal_law : (s : Symbol) → IsSymbol s → Connected s → Flat s → (p : Pair) (d v : ℕ) → IsChamber s d → IsBranching s p d v → IsCrystallographic v
crystal_law s is connected flat p d v h b =
    ⊎_elim
    (λ oriented. plane_crystal s is connected oriented flat p d v h b)
    (λ not_oriented.
    plane_crystal (two_sheets s) (symbol_of_two s is) (two_are_connected s is connected not_oriented) (two_are_oriented s is)
    (flat-sheets s is flat 2 next_sheet (omega arith)) p d v (chamber_of_two s d h) (branching_two s is p d v h b))
    (decide_oriented s is connected)

-- ## Wanted symbols

pub any_branching_wanted : (q : Request) (s : Symbol) → WantedOfAnyBranching q s ↔ Wanted q s
any_branching_wanted q s = (
  λ w. record {
    symbol = w.symbol;
    connected = w.connected;
    chambers = w.chambers;
    tiles = w.tiles;
    vertices = w.vertices;
    faces = w.faces;
    degrees = w.degrees;
    face_branching = λ d v. crystal_law s w.symbol w.connected w.flat Tile d v;
    vertex_branching = λ d v. crystal_law s w.symbol w.connected w.flat Vertex d v;
    flat = w.flat;
    minimal = w.minimal;
  },
  λ w. record {
    symbol = w.symbol;
    connected = w.connected;
    chambers = w.chambers;
    tiles = w.tiles;
    vertices = w.vertices;
    faces = w.faces;
    degrees = w.degrees;
    flat = w.flat;
    minimal = w.minimal;
  },
)

any_branching_member : (q : Request) (s : Symbol) → IsMemberOfAnyBranching q s ↔ IsMember q s
any_branching_member q s = (
  λ m. record { wanted = (any_branching_wanted q s).0 m.wanted; least = m.least },
  λ m. record { wanted = (any_branching_wanted q s).1 m.wanted; least = m.least },
)

pub any_branching_catalogue : (q : Request) (ss : List Symbol) → IsCatalogueOfAnyBranching q ss ↔ IsCatalogue q ss
any_branching_catalogue q ss = (
  λ c. record {
    ascending = c.ascending;
    members = λ s. (λ here. (any_branching_member q s).0 ((c.members s).0 here), λ m. (c.members s).1 ((any_branching_member q s).1 m));
  },
  λ c. record {
    ascending = c.ascending;
    members = λ s. (λ here. (any_branching_member q s).1 ((c.members s).0 here), λ m. (c.members s).1 ((any_branching_member q s).0 m));
  },
)
