-- From the lists that are told to a symbol, or to its fault.
use Rattle.std.proofs.Common.{◌≡◌, ℕ, ◌≤◌, List, [], length, refl, sym, ap, ◌∙◌, subst}
use Rattle.std.specs.Prelude.{map, filter, nat_le}
use Rattle.dd_model.specs.declared.index.Index.{Index}
use Rattle.dd_model.specs.declared.index.Index.TheVariants.{Zero, One, Two}
use Rattle.dd_model.specs.declared.pair.Pair.{Pair}
use Rattle.dd_model.specs.declared.pair.Pair.TheVariants.{Tile, Vertex, Edge}
use Rattle.dd_model.specs.Symbol.{Symbol, IsInvolution, AreInvolutions, item, op, operation, degree}
use Rattle.dd_model.specs.Cell.{InCell}
use Rattle.dd_model.specs.Code.{count_from}
use Rattle.dd_model.specs.Spelling.{Told, Shape, values}
use Rattle.dd_model.proofs.ReadingSymbols.{HaveSameImages, images_back, in_cell_same, cells_same}
use Rattle.dd_symbol.specs.Building.{listed}
use Rattle.dd_symbol.specs.declared.refusals.Refusal.{Refusal}
use Rattle.dd_symbol.specs.declared.refusals.Refusal.TheVariants as refusals
use Rattle.dd_symbol.specs.Refusals.{IsRefused}
use Rattle.dd_text.specs.declared.faults.Why.{Why}
use Rattle.dd_text.specs.declared.faults.Why.TheVariants as whys
use Rattle.dd_text.specs.declared.symbol_text.SymbolText.{SymbolText}
use Rattle.dd_text.specs.Texts.{told_of, IsTextOf}
use Rattle.dd_text.specs.Images.{IsToldBy, AreDegrees}
use Rattle.dd_text.specs.ListFaults.{IsImagesFault, IsDegreesFault}
use Rattle.dd_text.specs.SymbolFaults.{Gives, AreTold, IsListsFault, IsShapeFault, in_s1, in_s2, in_m01, in_m12}
use Rattle.dd_text.specs.Items.{why_of}

-- ---- faults of lists

pub images_fault : (x : Shape) (place n : ℕ) (l : Told) (w : Why) (at : ℕ) → (IsImagesFault n l w at → IsListsFault x w at) → IsImagesFault n l w at → IsShapeFault x place w at
images_fault x place n l whys.ListShort at to f = to f
images_fault x place n l whys.ListLong at to f = to f
images_fault x place n l whys.Image at to f = to f
images_fault x place n l whys.Memory at to f = tt
images_fault x place n l whys.Stray at to f = absurd f
images_fault x place n l whys.UnexpectedEnd at to f = absurd f
images_fault x place n l whys.NumberTooLong at to f = absurd f
images_fault x place n l whys.Dimension at to f = absurd f
images_fault x place n l whys.Size at to f = absurd f
images_fault x place n l (whys.Symbol r) at to f = absurd f
images_fault x place n l whys.TooManySymbols at to f = absurd f
images_fault x place n l whys.Long at to f = absurd f

pub degrees_fault : (x : Shape) (place : ℕ) (s : Symbol) (p : Pair) (l : Told) (w : Why) (at : ℕ) → (IsDegreesFault s p l w at → IsListsFault x w at) → IsDegreesFault s p l w at → IsShapeFault x place w at
degrees_fault x place s p l whys.ListShort at to f = to f
degrees_fault x place s p l whys.ListLong at to f = to f
degrees_fault x place s p l whys.Image at to f = absurd f
degrees_fault x place s p l whys.Memory at to f = tt
degrees_fault x place s p l whys.Stray at to f = absurd f
degrees_fault x place s p l whys.UnexpectedEnd at to f = absurd f
degrees_fault x place s p l whys.NumberTooLong at to f = absurd f
degrees_fault x place s p l whys.Dimension at to f = absurd f
degrees_fault x place s p l whys.Size at to f = absurd f
degrees_fault x place s p l (whys.Symbol r) at to f = absurd f
degrees_fault x place s p l whys.TooManySymbols at to f = absurd f
degrees_fault x place s p l whys.Long at to f = absurd f

-- a list of the text is that of the shape
pub told_in : (m n : ℕ) (k l : Told) (f : List ℕ) → n ≡ m → k ≡ l → IsToldBy m (values k) f → IsToldBy n (values l) f
told_in m n k l f size list h = subst (λ z. IsToldBy n (values z) f) list (subst (λ z. IsToldBy z (values k) f) (sym size) h)

pub fault_in : (m n : ℕ) (k l : Told) (w : Why) (at : ℕ) → n ≡ m → k ≡ l → IsImagesFault m k w at → IsImagesFault n l w at
fault_in m n k l w at size list h = subst (λ z. IsImagesFault n z w at) list (subst (λ z. IsImagesFault z k w at) (sym size) h)

pub are_told : (t : SymbolText) (x : Shape) (s0 s1 s2 : List ℕ) → IsTextOf t x → IsToldBy t.size (values (told_of t.s0)) s0 → IsToldBy t.size (values (told_of t.s1)) s1
    → IsToldBy t.size (values (told_of t.s2)) s2 → AreTold x s0 s1 s2
are_told t x s0 s1 s2 e a b c = record {
  s0_told = told_in t.size x.size.value (told_of t.s0) x.s0 s0 e.size e.s0 a;
  s1_told = told_in t.size x.size.value (told_of t.s1) x.s1 s1 e.size e.s1 b;
  s2_told = told_in t.size x.size.value (told_of t.s2) x.s2 s2 e.size e.s2 c;
}

pub fault_s1 : (t : SymbolText) (x : Shape) (place : ℕ) (s0 : List ℕ) (w : Why) (at : ℕ) → IsTextOf t x → IsToldBy t.size (values (told_of t.s0)) s0
    → IsImagesFault t.size (told_of t.s1) w at → IsShapeFault x place w at
fault_s1 t x place s0 w at e a f =
    images_fault x place x.size.value x.s1 w at (in_s1 s0 (told_in t.size x.size.value (told_of t.s0) x.s0 s0 e.size e.s0 a))
    (fault_in t.size x.size.value (told_of t.s1) x.s1 w at e.size e.s1 f)

pub fault_s2 : (t : SymbolText) (x : Shape) (place : ℕ) (s0 s1 : List ℕ) (w : Why) (at : ℕ) → IsTextOf t x → IsToldBy t.size (values (told_of t.s0)) s0
    → IsToldBy t.size (values (told_of t.s1)) s1 → IsImagesFault t.size (told_of t.s2) w at → IsShapeFault x place w at
fault_s2 t x place s0 s1 w at e a b f =
    images_fault x place x.size.value x.s2 w at
    (in_s2 s0 s1 (told_in t.size x.size.value (told_of t.s0) x.s0 s0 e.size e.s0 a) (told_in t.size x.size.value (told_of t.s1) x.s1 s1 e.size e.s1 b))
    (fault_in t.size x.size.value (told_of t.s2) x.s2 w at e.size e.s2 f)

pub fault_m01 : (t : SymbolText) (x : Shape) (place : ℕ) (s0 s1 s2 : List ℕ) (w : Why) (at : ℕ) → IsTextOf t x → AreTold x s0 s1 s2
    → IsDegreesFault (listed s0 s1 s2 [] []) Tile (told_of t.m01) w at → IsShapeFault x place w at
fault_m01 t x place s0 s1 s2 w at e told f =
    degrees_fault x place (listed s0 s1 s2 [] []) Tile x.m01 w at (in_m01 s0 s1 s2 told) (subst (λ z. IsDegreesFault (listed s0 s1 s2 [] []) Tile z w at) e.m01 f)

pub fault_m12 : (t : SymbolText) (x : Shape) (place : ℕ) (s0 s1 s2 m01 : List ℕ) (w : Why) (at : ℕ) → IsTextOf t x → AreTold x s0 s1 s2
    → AreDegrees (listed s0 s1 s2 [] []) Tile (values (told_of t.m01)) m01
    → IsDegreesFault (listed s0 s1 s2 [] []) Vertex (told_of t.m12) w at → IsShapeFault x place w at
fault_m12 t x place s0 s1 s2 m01 w at e told degrees f =
    degrees_fault x place (listed s0 s1 s2 [] []) Vertex x.m12 w at
    (in_m12 s0 s1 s2 m01 told (subst (λ z. AreDegrees (listed s0 s1 s2 [] []) Tile (values z) m01) e.m01 degrees))
    (subst (λ z. IsDegreesFault (listed s0 s1 s2 [] []) Vertex z w at) e.m12 f)

-- ---- the lists that are given

one_involution : (n : ℕ) (told : List ℕ) (s : Symbol) (i : Index) → s.size ≡ n → IsToldBy n told (operation s i) → IsInvolution s i
one_involution n told s i size t = record {
  within = λ d h. let w = t.within d h.0 (subst (λ z. d ≤ z) size h.1) in (w.0, subst (λ z. op s i d ≤ z) (sym size) w.1);
  involutive = λ d h. t.back d h.0 (subst (λ z. d ≤ z) size h.1);
}

pub involutions_of : (n : ℕ) (t0 t1 t2 s0 s1 s2 m01 m12 : List ℕ) → IsToldBy n t0 s0 → IsToldBy n t1 s1 → IsToldBy n t2 s2 → AreInvolutions (listed s0 s1 s2 m01 m12)
involutions_of n t0 t1 t2 s0 s1 s2 m01 m12 a b c i =
    elim i as (λ j. IsInvolution (listed s0 s1 s2 m01 m12) j) [
      | Zero ↦ one_involution n t0 (listed s0 s1 s2 m01 m12) Zero a.length_is a
      | One ↦ one_involution n t1 (listed s0 s1 s2 m01 m12) One a.length_is b
      | Two ↦ one_involution n t2 (listed s0 s1 s2 m01 m12) Two a.length_is c
    ]

-- the same images, with degrees
with_degrees : (s0 s1 s2 m01 m12 : List ℕ) → HaveSameImages (listed s0 s1 s2 [] []) (listed s0 s1 s2 m01 m12)
with_degrees s0 s1 s2 m01 m12 = record {
  size = refl;
  images = λ i d. elim i as (λ j. op (listed s0 s1 s2 [] []) j d ≡ op (listed s0 s1 s2 m01 m12) j d) [ Zero ↦ refl | One ↦ refl | Two ↦ refl ];
}

told_of_size : (f : ℕ → ℕ) (n k : ℕ) (told : List ℕ) → k ≡ n → map f (filter (λ d. nat_le d (f d)) (count_from 1 n)) ≡ told → told ≡ map f (filter (λ d. nat_le d (f d)) (count_from 1 k))
told_of_size f n k told size e = sym e ∙ ap (λ z. map f (filter (λ d. nat_le d (f d)) (count_from 1 z))) (sym size)

pub gives : (x : Shape) (s0 s1 s2 m01 m12 : List ℕ) → AreTold x s0 s1 s2 → AreDegrees (listed s0 s1 s2 [] []) Tile (values x.m01) m01
    → AreDegrees (listed s0 s1 s2 [] []) Vertex (values x.m12) m12 → Gives x (listed s0 s1 s2 m01 m12)
gives x s0 s1 s2 m01 m12 t a b =
    let bare = listed s0 s1 s2 [] [] in
    let s = listed s0 s1 s2 m01 m12 in
    let same = with_degrees s0 s1 s2 m01 m12 in
    let n = x.size.value in
    let size = t.s0_told.length_is in
    record {
      tells = record {
        size = sym size;
        s0 = told_of_size (item s0) n (length s0) (values x.s0) size t.s0_told.images;
        s1 = told_of_size (item s1) n (length s0) (values x.s1) size t.s1_told.images;
        s2 = told_of_size (item s2) n (length s0) (values x.s2) size t.s2_told.images;
        tiles = a.cells;
        are_tiles = cells_same bare s same Tile a.cells a.are_cells;
        m01 = sym a.at_cells;
        vertices = b.cells;
        are_vertices = cells_same bare s same Vertex b.cells b.are_cells;
        m12 = sym b.at_cells;
      };
      lengths = λ i. elim i as (λ j. length (operation s j) ≡ length s0) [ Zero ↦ refl | One ↦ t.s1_told.length_is ∙ sym size | Two ↦ t.s2_told.length_is ∙ sym size ];
      m01_length = a.length_is;
      m12_length = b.length_is;
      involutions = involutions_of n (values x.s0) (values x.s1) (values x.s2) s0 s1 s2 m01 m12 t.s0_told t.s1_told t.s2_told;
      constant = λ p d e h there. elim p as (λ q. InCell s q d e → degree s q d ≡ degree s q e) [
        | Tile ↦ (λ c. a.same d e h (in_cell_same s bare (images_back bare s same) Tile d e c))
        | Vertex ↦ (λ c. b.same d e h (in_cell_same s bare (images_back bare s same) Vertex d e c))
        | Edge ↦ (λ c. refl)
      ] there;
    }

-- the same for lists of a text
pub text_gives : (t : SymbolText) (x : Shape) (s0 s1 s2 m01 m12 : List ℕ) → IsTextOf t x → AreTold x s0 s1 s2 → AreDegrees (listed s0 s1 s2 [] []) Tile (values (told_of t.m01)) m01
    → AreDegrees (listed s0 s1 s2 [] []) Vertex (values (told_of t.m12)) m12 → Gives x (listed s0 s1 s2 m01 m12)
text_gives t x s0 s1 s2 m01 m12 e told a b =
    gives x s0 s1 s2 m01 m12 told (subst (λ z. AreDegrees (listed s0 s1 s2 [] []) Tile (values z) m01) e.m01 a) (subst (λ z. AreDegrees (listed s0 s1 s2 [] []) Vertex (values z) m12) e.m12 b)

-- the same for involutions that were made of the lists
pub lists_give : (t : SymbolText) (x : Shape) (s0 s1 s2 m01 m12 : List ℕ) (it : Symbol) → IsTextOf t x → it ≡ listed s0 s1 s2 [] []
    → IsToldBy t.size (values (told_of t.s0)) s0 → IsToldBy t.size (values (told_of t.s1)) s1 → IsToldBy t.size (values (told_of t.s2)) s2
    → AreDegrees it Tile (values (told_of t.m01)) m01 → AreDegrees it Vertex (values (told_of t.m12)) m12
    → Gives x (record { size = it.size; s0 = it.s0; s1 = it.s1; s2 = it.s2; m01 = m01; m12 = m12 })
lists_give t x s0 s1 s2 m01 m12 it e same a b c tiles vertices =
    subst (λ u. Gives x (record { size = u.size; s0 = u.s0; s1 = u.s1; s2 = u.s2; m01 = m01; m12 = m12 })) (sym same)
    (text_gives t x s0 s1 s2 m01 m12 e (are_told t x s0 s1 s2 e a b c)
    (subst (λ u. AreDegrees u Tile (values (told_of t.m01)) m01) same tiles) (subst (λ u. AreDegrees u Vertex (values (told_of t.m12)) m12) same vertices))

-- a refusal is the fault of the shape
pub refusal_fault : (x : Shape) (s : Symbol) (place : ℕ) (why : Refusal) → Gives x s → IsRefused 1024 s why → IsShapeFault x place (why_of why) place
refusal_fault x s place refusals.Memory g r = tt
refusal_fault x s place refusals.Empty g r = (record { lists = s; gives = g; some = λ e. cc; refused = r }, refl)
refusal_fault x s place (refusals.TooManyChambers n) g r = (record { lists = s; gives = g; some = λ e. cc; refused = r }, refl)
refusal_fault x s place (refusals.OpRange i d) g r = (record { lists = s; gives = g; some = λ e. cc; refused = r }, refl)
refusal_fault x s place (refusals.NotInvolution i d) g r = (record { lists = s; gives = g; some = λ e. cc; refused = r }, refl)
refusal_fault x s place (refusals.NotCommuting d) g r = (record { lists = s; gives = g; some = λ e. cc; refused = r }, refl)
refusal_fault x s place (refusals.NotConnected d) g r = (record { lists = s; gives = g; some = λ e. cc; refused = r }, refl)
refusal_fault x s place (refusals.DegreeZero p d) g r = (record { lists = s; gives = g; some = λ e. cc; refused = r }, refl)
refusal_fault x s place (refusals.DegreeVaries p d) g r = (record { lists = s; gives = g; some = λ e. cc; refused = r }, refl)
refusal_fault x s place (refusals.NotMultiple p d k m) g r = (record { lists = s; gives = g; some = λ e. cc; refused = r }, refl)
refusal_fault x s place (refusals.BranchingTooLarge p d v) g r = (record { lists = s; gives = g; some = λ e. cc; refused = r }, refl)
