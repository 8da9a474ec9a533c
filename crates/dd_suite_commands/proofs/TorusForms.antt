-- What is isomorphic to a torus is one.
use Rattle.std.proofs.Common.{◌≡◌, ℕ, ◌-◌, not, false, List, map, length, sym, ap, ◌∙◌, arith}
use Rattle.std.proofs.lemmas.List.{get_or-map}
use Rattle.dd_model.specs.declared.pair.Pair.TheVariants.{Vertex}
use Rattle.dd_model.specs.Symbol.{Symbol, AreInvolutions, IsChamber, item, op}
use Rattle.dd_model.specs.Isomorphic.{HaveLengths, IsMorphism, IsIsomorphism}
use Rattle.dd_model.specs.Cell.{AreCells}
use Rattle.dd_model.specs.Code.{IsLeastForm}
use Rattle.dd_model.specs.Flat.{Flat}
use Rattle.dd_model.specs.Reading.{IsReadable}
use Rattle.dd_model.proofs.Carried.{branching-along}
use Rattle.dd_model.proofs.CarriedDegrees.{flat-along}
use Rattle.dd_model.proofs.CarriedWanted.{cells-along}
use Rattle.dd_model.proofs.Isomorphisms.{IsIsomorphism-inverse}
use Rattle.dd_model.proofs.Transport.{involution-along, Connected-along}
use Rattle.dd_cells.specs.Orientation.{color, IsOriented}
use Rattle.dd_covers.specs.Torus.{IsTorus}
use Rattle.dd_covers.specs.TorusCover.{IsTorusCover}
use Rattle.dd_covers.proofs.TorusCovers.{torus_above}
use Rattle.dd_lattice.specs.NetOf.{IsNet}
use Rattle.dd_lattice.specs.declared.net.Net.{Net}
use Rattle.dd_suite_commands.specs.Made.{IsLeastTorus}

oriented_along : (s t : Symbol) (f : List ℕ) → AreInvolutions s → IsIsomorphism s t f → IsOriented s → IsOriented t
oriented_along s t f inv iso is = record {
  free = λ i d h same. is.free i (item g d) (m.within d h) (sym (m.op i d h) ∙ ap (item g) same);
  colors = map (color is.colors) g;
  exchanged = λ i d h. kept (op t i d) ((inv_t i).within d h) ∙ ap (color is.colors) (m.op i d h) ∙ is.exchanged i (item g d) (m.within d h) ∙ ap not (sym (kept d h));
}
  where
    g : List ℕ
    g = iso.bijection.inverse

    inv_t : AreInvolutions t
    inv_t = involution-along s t f inv iso

    m : IsMorphism t s iso.bijection.inverse
    m = (IsIsomorphism-inverse s t f inv iso).morphism

    kept : (d : ℕ) → IsChamber t d → color (map (color is.colors) g) d ≡ color is.colors (item g d)
    kept d h = let long = m.images in let low = h.0 in let high = h.1 in get_or-map (color is.colors) g (d - 1) 0 false (omega arith)

pub torus_along : (s t : Symbol) → IsTorus s → IsLeastForm s t → IsTorus t
torus_along s t torus form = record {
  symbol = form.symbol;
  connected = Connected-along s t f torus.symbol.table iso torus.connected;
  oriented = oriented_along s t f inv iso torus.oriented;
  flat = flat-along s t f torus.symbol.table lengths iso torus.flat;
  smooth = λ p. record {
    each = λ d v h is. (torus.smooth p).each (item iso.bijection.inverse d) v (back.morphism.within d h)
        (branching-along t s iso.bijection.inverse (involution-along s t f inv iso) back p d v h is);
  };
}
  where
    f : List ℕ
    f = form.renumbering.0

    iso : IsIsomorphism s t f
    iso = form.renumbering.1

    inv : AreInvolutions s
    inv = torus.symbol.table.involutions

    back : IsIsomorphism t s iso.bijection.inverse
    back = IsIsomorphism-inverse s t f inv iso

    lengths : HaveLengths t
    lengths = let table = form.symbol.table in record { lengths = table.lengths; m01_length = table.m01_length; m12_length = table.m12_length }

-- the torus cover of a flat symbol that a file may hold is a torus
pub cover_torus : (s t : Symbol) (f : List ℕ) → IsReadable s → Flat s → IsTorusCover s t f → IsTorus t
cover_torus s t f readable flat is =
    torus_above s t f readable.symbol.symbol readable.connected flat is

-- and so is its least form
pub least_torus : (s t : Symbol) → IsReadable s → IsLeastTorus s t → IsTorus t
least_torus s t readable a = torus_along a.cover t (cover_torus s a.cover a.below readable a.flat a.is_cover) a.least

-- the net of the least form of a torus has as many vertices as the torus
pub many_vertices : (s t : Symbol) (net : Net) (vertices : List ℕ) → IsTorus s → IsLeastForm s t → IsNet t net → AreCells s Vertex vertices → net.vertices ≡ length vertices
many_vertices s t net vertices torus form is are =
    let same = cells-along s t form.renumbering.0 torus.symbol.table.involutions form.renumbering.1 Vertex vertices is.vertices are is.are_vertices in
    is.many_vertices ∙ sym same
