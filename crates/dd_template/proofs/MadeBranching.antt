-- Each part has the branching value of the cell that its degree comes from.
use Rattle.std.proofs.Common.{◌≡◌, ℕ, zero, suc, ◌*◌, ◌≤◌, refl, sym, ap, ◌∙◌, subst, arith}
use Rattle.std.proofs.Math.Nat.{mul_left_comm}
use Rattle.dd_model.specs.declared.pair.Pair.{Pair}
use Rattle.dd_model.specs.declared.pair.Pair.TheVariants.{Tile, Vertex, Edge}
use Rattle.dd_model.specs.Symbol.{Symbol, IsSymbol, IsChamber, degree}
use Rattle.dd_model.specs.Cell.{turned, IsPeriod, IsLeastTurns, IsBranching}
use Rattle.dd_model.specs.Small.{IsSmallSymbol}
use Rattle.dd_model.proofs.Turns.{fixed_from, IsLeastTurns-from_period}
use Rattle.dd_model.proofs.CellWalks.{in_cell-refl}
use Rattle.dd_model.proofs.Branching.{branching_exists, branching_unique}
use Rattle.dd_model.proofs.Numbers.{positive_product}
use Rattle.dd_template.specs.declared.tables.Degree.{Degree}
use Rattle.dd_template.specs.declared.tables.Degree.TheVariants.{OfTile, OfVertex, Fixed}
use Rattle.dd_template.specs.Table.{Table, IsPart, entry}
use Rattle.dd_template.specs.Made.{chamber_of, degree_of, made}
use Rattle.dd_template.specs.Kept.{HasSmallBranching}
use Rattle.dd_template.specs.Lawful.{IsLawful}
use Rattle.dd_template.specs.Entries.{IsTurned, Fits, entries}
use Rattle.dd_template.proofs.PlaceLemmas.{place_of, chamber_of_within}
use Rattle.dd_template.proofs.TurnLemmas.{round_of, rounds, are_rounds}
use Rattle.dd_template.proofs.MadeSymbols.{IsFitting, tiles_fit, vertices_fit, made_involutions, made_symbol}

-- the least turns of a cell fix each of its chambers
period_of : (s : Symbol) → IsSymbol s → (p : Pair) (d r : ℕ) → IsChamber s d → IsLeastTurns s p d r → IsPeriod s p d r
period_of s is p d r h l = record {
  positive = l.positive;
  fixed = fixed_from s is.table.involutions p r l.in_cell.word d h l.in_cell.letters (subst (λ e. turned s p r e ≡ e) (sym l.in_cell.leads) l.fixed);
  least = λ k pos fixed. l.least k d pos (in_cell-refl s p d) fixed;
}

some_rounds : (c n : ℕ) → 1 ≤ c * n → 1 ≤ n
some_rounds c zero h = let e : c * zero ≡ 0 = omega arith in absurd (omega arith)
some_rounds c (suc n) h = omega arith

more_rounds : (c r n : ℕ) → r ≤ n → c * r ≤ c * n
more_rounds c r n h = grind arith

-- c rounds for each turn
made_period : (t : Table) (s : Symbol) → IsLawful t → IsSymbol s → (p q : Pair) (d x c r : ℕ) → IsChamber s d → IsPart t x → IsTurned t p q x c
    → IsPeriod s q d r → IsPeriod (made t s) p (chamber_of t d x) (c * r)
made_period t s lawful is p q d x c r h inside turns period =
    let undone = lawful.moves.undone in
    let inv = is.table.involutions in
    let round = round_of t s undone is p q x c inside turns in
    record {
      positive = positive_product c r turns.positive period.positive;
      fixed = rounds t s inv p q x c round r d h ∙ ap (λ y. chamber_of t y x) (round.fixed r d h period.fixed);
      least = λ k pos fixed.
          let are = are_rounds t s undone is p q d x c k h inside turns fixed in
          let some = some_rounds c are.number (subst (λ m. 1 ≤ m) are.whole pos) in
          subst (λ m. c * r ≤ m) (sym are.whole) (more_rounds c r are.number (period.least are.number some are.fixed));
    }

made_branching : (t : Table) (s : Symbol) → IsLawful t → IsSymbol s → (p q : Pair) (d x c v : ℕ) → IsChamber s d → IsPart t x → IsTurned t p q x c
    → degree (made t s) p (chamber_of t d x) ≡ c * degree s q d → IsBranching s q d v → IsBranching (made t s) p (chamber_of t d x) v
made_branching t s lawful is p q d x c v h inside turns is_degree b =
    let made_inv = made_involutions t s lawful.lists.some lawful.moves.undone is.table.involutions in
    let there = chamber_of_within t s d x h inside in
    let period = made_period t s lawful is p q d x c b.r h inside turns (period_of s is q d b.r h b.least_turns) in
    record {
      r = c * b.r;
      least_turns = IsLeastTurns-from_period (made t s) made_inv p (chamber_of t d x) (c * b.r) there period;
      quotient = mul_left_comm v c b.r ∙ ap (λ m. c * m) b.quotient ∙ sym is_degree;
    }

-- the entry that belongs to a pair at a part
abbrev pub own : Table → Pair → ℕ → Degree
own t p x = entry (entries t p) x

branching_of_tile : (t : Table) (s : Symbol) → IsLawful t → IsSymbol s → (p : Pair) → IsFitting t s p → (d x c v : ℕ) → IsChamber s d → IsPart t x
    → own t p x ≡ OfTile c → IsBranching s Tile d v → IsBranching (made t s) p (chamber_of t d x) v
branching_of_tile t s lawful is p fitting d x c v h inside e b =
    let fits : Fits t p x (OfTile c) = subst (Fits t p x) e (fitting.fit x inside) in
    made_branching t s lawful is p Tile d x c v h inside fits.1 (fitting.of_entries d x h inside ∙ ap (λ k. degree_of s k d) e) b

branching_of_vertex : (t : Table) (s : Symbol) → IsLawful t → IsSymbol s → (p : Pair) → IsFitting t s p → (d x c v : ℕ) → IsChamber s d → IsPart t x
    → own t p x ≡ OfVertex c → IsBranching s Vertex d v → IsBranching (made t s) p (chamber_of t d x) v
branching_of_vertex t s lawful is p fitting d x c v h inside e b =
    let fits : Fits t p x (OfVertex c) = subst (Fits t p x) e (fitting.fit x inside) in
    made_branching t s lawful is p Vertex d x c v h inside fits.1 (fitting.of_entries d x h inside ∙ ap (λ k. degree_of s k d) e) b

-- ## The laws for each pair

pub tiles_keep_branching : (t : Table) (s : Symbol) → IsLawful t → IsSymbol s → (p : Pair) (d x c v : ℕ) → IsChamber s d → IsPart t x
    → own t p x ≡ OfTile c → IsBranching s Tile d v → IsBranching (made t s) p (chamber_of t d x) v
tiles_keep_branching t s lawful is Tile d x c v h inside e b = branching_of_tile t s lawful is Tile (tiles_fit t s lawful) d x c v h inside e b
tiles_keep_branching t s lawful is Vertex d x c v h inside e b = branching_of_tile t s lawful is Vertex (vertices_fit t s lawful) d x c v h inside e b
tiles_keep_branching t s lawful is Edge d x c v h inside e b = absurd (cc)

pub vertices_keep_branching : (t : Table) (s : Symbol) → IsLawful t → IsSymbol s → (p : Pair) (d x c v : ℕ) → IsChamber s d → IsPart t x
    → own t p x ≡ OfVertex c → IsBranching s Vertex d v → IsBranching (made t s) p (chamber_of t d x) v
vertices_keep_branching t s lawful is Tile d x c v h inside e b = branching_of_vertex t s lawful is Tile (tiles_fit t s lawful) d x c v h inside e b
vertices_keep_branching t s lawful is Vertex d x c v h inside e b = branching_of_vertex t s lawful is Vertex (vertices_fit t s lawful) d x c v h inside e b
vertices_keep_branching t s lawful is Edge d x c v h inside e b = absurd (cc)

-- ## Small branching values

quotient_small : (v r m : ℕ) → 1 ≤ r → v * r ≡ m → v ≤ m
quotient_small v r m pos e = grind arith

branching_below_degree : (s : Symbol) (p : Pair) (d v : ℕ) → IsBranching s p d v → v ≤ degree s p d
branching_below_degree s p d v b = quotient_small v b.r (degree s p d) b.least_turns.positive b.quotient

small_at : (t : Table) (s : Symbol) → IsLawful t → IsSymbol s → HasSmallBranching s → (p : Pair) → IsFitting t s p
    → (d x v : ℕ) → IsChamber s d → IsPart t x → (e : Degree) → own t p x ≡ e → Fits t p x e → IsBranching (made t s) p (chamber_of t d x) v → v ≤ 30
small_at t s lawful is small p fitting d x v h inside (OfTile c) e fits b =
    let own_value = branching_exists s is Tile d h in
    let there = branching_of_tile t s lawful is p fitting d x c own_value.0 h inside e own_value.1 in
    let same = branching_unique (made t s) p (chamber_of t d x) v own_value.0 b there in
    let below = small Tile d own_value.0 h own_value.1 in
    omega arith
small_at t s lawful is small p fitting d x v h inside (OfVertex c) e fits b =
    let own_value = branching_exists s is Vertex d h in
    let there = branching_of_vertex t s lawful is p fitting d x c own_value.0 h inside e own_value.1 in
    let same = branching_unique (made t s) p (chamber_of t d x) v own_value.0 b there in
    let below = small Vertex d own_value.0 h own_value.1 in
    omega arith
small_at t s lawful is small p fitting d x v h inside (Fixed m) e fits b =
    let below = branching_below_degree (made t s) p (chamber_of t d x) v b in
    let is_degree : degree (made t s) p (chamber_of t d x) ≡ m = fitting.of_entries d x h inside ∙ ap (λ k. degree_of s k d) e in
    let high : m ≤ 30 = fits.1 in
    omega arith

small_pair : (t : Table) (s : Symbol) → IsLawful t → IsSymbol s → HasSmallBranching s → (p : Pair) (d x v : ℕ) → IsChamber s d → IsPart t x
    → IsBranching (made t s) p (chamber_of t d x) v → v ≤ 30
small_pair t s lawful is small Tile d x v h inside b =
    let f = tiles_fit t s lawful in
    small_at t s lawful is small Tile f d x v h inside (own t Tile x) refl (f.fit x inside) b
small_pair t s lawful is small Vertex d x v h inside b =
    let f = vertices_fit t s lawful in
    small_at t s lawful is small Vertex f d x v h inside (own t Vertex x) refl (f.fit x inside) b
small_pair t s lawful is small Edge d x v h inside b =
    let below = branching_below_degree (made t s) Edge (chamber_of t d x) v b in
    omega arith

pub made_small_branching : (t : Table) (s : Symbol) → IsLawful t → IsSymbol s → HasSmallBranching s → HasSmallBranching (made t s)
made_small_branching t s lawful is small p e v h b =
    let place = place_of t s e lawful.lists.some h in
    small_pair t s lawful is small p place.chamber place.part v place.is_chamber place.is_part (subst (λ y. IsBranching (made t s) p y v) (sym place.place) b)

pub made_small : (t : Table) (s : Symbol) → IsLawful t → IsSmallSymbol s → s.size * t.parts ≤ 16384 → IsSmallSymbol (made t s)
made_small t s lawful small size = record {
  symbol = made_symbol t s lawful small.symbol;
  size = size;
  branching = made_small_branching t s lawful small.symbol small.branching;
}
