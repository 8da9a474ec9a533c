-- The dual of a connected symbol is one.
use Rattle.std.proofs.Common.{◌≡◌, ℕ, zero, suc, [], ◌∷◌, length, refl, sym, ap, ◌∙◌, subst, inl, inr, ⊎_elim, List}
use Rattle.dd_model.specs.declared.index.Index.{Index}
use Rattle.dd_model.specs.declared.index.Index.TheVariants.{Zero, One, Two}
use Rattle.dd_model.specs.declared.pair.Pair.{Pair}
use Rattle.dd_model.specs.declared.pair.Pair.TheVariants.{Tile, Vertex, Edge}
use Rattle.dd_model.specs.Symbol.{Symbol, IsChamber, AreInvolutions, IsTable, IsSymbol, HasDegree, Word, operation, op, act, first, second, turn, degree}
use Rattle.dd_model.specs.Connected.{Connected}
use Rattle.dd_model.specs.Cell.{IsWordOf, InCell, turned, IsLeastTurns, IsBranching}
use Rattle.dd_model.specs.Small.{IsSmallSymbol}
use Rattle.dd_model.proofs.Turns.{turned-suc, turned-last, turned_within}
use Rattle.dd_model.proofs.Transport.{in_cell_within}
use Rattle.dd_symbol.specs.Building.{listed, IsAccepted}
use Rattle.dd_model.proofs.Codes.{items_again}
use Rattle.dd_quotient.specs.Dual.{dual_of, degrees_of}

abbrev flip : Index → Index
flip Zero = Two
flip One = One
flip Two = Zero

abbrev opposite : Pair → Pair
opposite Tile = Vertex
opposite Vertex = Tile
opposite Edge = Edge

abbrev flips : Word → Word
flips [] = []
flips (i ∷ w) = flip i ∷ flips w

op-flip : (s : Symbol) (i : Index) (d : ℕ) → op (dual_of s) (flip i) d ≡ op s i d
op-flip s Zero d = refl
op-flip s One d = refl
op-flip s Two d = refl

act-flips : (s : Symbol) (w : Word) (d : ℕ) → act (dual_of s) (flips w) d ≡ act s w d
act-flips s [] d = refl
act-flips s (i ∷ w) d = ap (act (dual_of s) (flips w)) (op-flip s i d) ∙ act-flips s w (op s i d)

flip-first : (p : Pair) → flip (first (opposite p)) ≡ second p
flip-first Tile = refl
flip-first Vertex = refl
flip-first Edge = refl

flip-second : (p : Pair) → flip (second (opposite p)) ≡ first p
flip-second Tile = refl
flip-second Vertex = refl
flip-second Edge = refl

letters-flips : (p : Pair) (w : Word) → IsWordOf (opposite p) w → IsWordOf p (flips w)
letters-flips p [] h = tt
letters-flips p (i ∷ w) h = (
  ⊎_elim (λ e. inr (ap flip e ∙ flip-first p)) (λ e. inl (ap flip e ∙ flip-second p)) h.0,
  letters-flips p w h.1,
)

in_cell-dual : (s : Symbol) (p : Pair) (d e : ℕ) → InCell s (opposite p) d e → InCell (dual_of s) p d e
in_cell-dual s p d e h = record {
  word = flips h.word;
  letters = letters-flips p h.word h.letters;
  leads = act-flips s h.word d ∙ h.leads;
}

in_cell-back : (s : Symbol) (p : Pair) (d e : ℕ) → InCell (dual_of s) p d e → InCell s (opposite p) d e
in_cell-back s Tile d e h = in_cell-dual (dual_of s) Vertex d e h
in_cell-back s Vertex d e h = in_cell-dual (dual_of s) Tile d e h
in_cell-back s Edge d e h = in_cell-dual (dual_of s) Edge d e h

involutions-dual : (s : Symbol) → AreInvolutions s → AreInvolutions (dual_of s)
involutions-dual s inv Zero = record { within = (inv Two).within; involutive = (inv Two).involutive }
involutions-dual s inv One = record { within = (inv One).within; involutive = (inv One).involutive }
involutions-dual s inv Two = record { within = (inv Zero).within; involutive = (inv Zero).involutive }

-- a turn of the dual undoes a turn
turn-undone : (s : Symbol) → AreInvolutions s → (p : Pair) (d : ℕ) → IsChamber s d → act (dual_of s) (turn p) (act s (turn (opposite p)) d) ≡ d
turn-undone s inv Tile d h = ap (op s One) ((inv Two).involutive (op s One d) ((inv One).within d h)) ∙ (inv One).involutive d h
turn-undone s inv Vertex d h = ap (op s Zero) ((inv One).involutive (op s Zero d) ((inv Zero).within d h)) ∙ (inv Zero).involutive d h
turn-undone s inv Edge d h = ap (op s Zero) ((inv Two).involutive (op s Zero d) ((inv Zero).within d h)) ∙ (inv Zero).involutive d h

turns-undone : (s : Symbol) → AreInvolutions s → (p : Pair) (k d : ℕ) → IsChamber s d → turned (dual_of s) p k (turned s (opposite p) k d) ≡ d
turns-undone s inv p zero d h = refl
turns-undone s inv p (suc k) d h =
    let place = turned s (opposite p) k d in
    ap (turned (dual_of s) p (suc k)) (turned-last s (opposite p) k d)
    ∙ turned-suc (dual_of s) p k (act s (turn (opposite p)) place)
    ∙ ap (turned (dual_of s) p k) (turn-undone s inv p place (turned_within s inv (opposite p) k d h))
    ∙ turns-undone s inv p k d h

fixed-dual : (s : Symbol) → AreInvolutions s → (p : Pair) (k d : ℕ) → IsChamber s d → turned s (opposite p) k d ≡ d → turned (dual_of s) p k d ≡ d
fixed-dual s inv p k d h fixed = ap (turned (dual_of s) p k) (sym fixed) ∙ turns-undone s inv p k d h

fixed-back : (s : Symbol) → AreInvolutions s → (p : Pair) (k d : ℕ) → IsChamber s d → turned (dual_of s) p k d ≡ d → turned s (opposite p) k d ≡ d
fixed-back s inv Tile k d h fixed = fixed-dual (dual_of s) (involutions-dual s inv) Vertex k d h fixed
fixed-back s inv Vertex k d h fixed = fixed-dual (dual_of s) (involutions-dual s inv) Tile k d h fixed
fixed-back s inv Edge k d h fixed = fixed-dual (dual_of s) (involutions-dual s inv) Edge k d h fixed

least_turns-back : (s : Symbol) → AreInvolutions s → (p : Pair) (d r : ℕ) → IsChamber s d → IsLeastTurns (dual_of s) p d r → IsLeastTurns s (opposite p) d r
least_turns-back s inv p d r h is =
    let there = in_cell-back s p d is.chamber is.in_cell in
    record {
      positive = is.positive;
      chamber = is.chamber;
      in_cell = there;
      fixed = fixed-back s inv p r is.chamber (in_cell_within s inv (opposite p) d is.chamber h there) is.fixed;
      least = λ k e low cell fixed.
          is.least k e low (in_cell-dual s p d e cell) (fixed-dual s inv p k e (in_cell_within s inv (opposite p) d e h cell) fixed);
    }

degree-dual : (s : Symbol) (p : Pair) (d : ℕ) → degree (dual_of s) p d ≡ degree s (opposite p) d
degree-dual s Tile d = refl
degree-dual s Vertex d = refl
degree-dual s Edge d = refl

branching-back : (s : Symbol) → AreInvolutions s → (p : Pair) (d v : ℕ) → IsChamber s d → IsBranching (dual_of s) p d v → IsBranching s (opposite p) d v
branching-back s inv p d v h is = record {
  r = is.r;
  least_turns = least_turns-back s inv p d is.r h is.least_turns;
  quotient = is.quotient ∙ degree-dual s p d;
}

degrees-dual : (s : Symbol) → IsSymbol s → (p : Pair) (d : ℕ) → IsChamber s d → HasDegree (dual_of s) p d
degrees-dual s is Tile d h =
    let m = is.degrees Vertex d h in
    record { positive = m.positive; along_first = m.along_second; along_second = m.along_first; turns = fixed-dual s is.table.involutions Tile (degree s Vertex d) d h m.turns }
degrees-dual s is Vertex d h =
    let m = is.degrees Tile d h in
    record { positive = m.positive; along_first = m.along_second; along_second = m.along_first; turns = fixed-dual s is.table.involutions Vertex (degree s Tile d) d h m.turns }
degrees-dual s is Edge d h =
    let m = is.degrees Edge d h in
    record { positive = m.positive; along_first = refl; along_second = refl; turns = fixed-dual s is.table.involutions Edge 2 d h m.turns }

table-dual : (s : Symbol) → IsTable s → IsTable (dual_of s)
table-dual s is = record {
  chambers = is.chambers;
  lengths = λ i. elim i as (λ j. length (operation (dual_of s) j) ≡ s.size) [ Zero ↦ is.lengths Two | One ↦ is.lengths One | Two ↦ is.lengths Zero ];
  m01_length = is.m12_length;
  m12_length = is.m01_length;
  involutions = involutions-dual s is.involutions;
}

pub small_symbol-dual : (s : Symbol) → IsSmallSymbol s → IsSmallSymbol (dual_of s)
small_symbol-dual s is = record {
  symbol = record { table = table-dual s is.symbol.table; degrees = degrees-dual s is.symbol };
  size = is.size;
  branching = λ p d v h b. is.branching (opposite p) d v h (branching-back s is.symbol.table.involutions p d v h b);
}

pub connected-dual : (s : Symbol) → Connected s → Connected (dual_of s)
connected-dual s all d h =
    let there = all d h in
    record { word = flips there.word; leads = act-flips s there.word 1 ∙ there.leads }

-- five copied lists are those of the dual
pub listed-dual : {s t : Symbol} {s2 s1 s0 m12 m01 : List ℕ} → IsTable s → t ≡ s → s2 ≡ operation t Two → s1 ≡ operation t One → s0 ≡ operation t Zero
    → m12 ≡ degrees_of t Vertex → m01 ≡ degrees_of t Tile → listed s2 s1 s0 m12 m01 ≡ dual_of s
listed-dual {s} {t} {s2} {s1} {s0} {m12} {m01} is same a b c d e =
    let vertices = items_again s.m12 s.size is.m12_length in
    let tiles = items_again s.m01 s.size is.m01_length in
    rw a (rw b (rw c (rw d (rw e (rw same (rw vertices (rw tiles (
    ap (λ n. record { size = n; s0 = s.s2; s1 = s.s1; s2 = s.s0; m01 = s.m12; m12 = s.m01 }) (is.lengths Two)))))))))

-- the dual is a symbol that is taken
pub accepted-dual : (s t : Symbol) → IsSmallSymbol s → Connected s → t ≡ dual_of s → IsAccepted 16384 t
accepted-dual s t is all e = subst (IsAccepted 16384) (sym e)
    (record { symbol = small_symbol-dual s is; connected = connected-dual s all; within = is.size })
