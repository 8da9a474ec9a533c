-- No pivot of a connected net is 0, and what the last table says is a placement.
use Rattle.std.proofs.Common.{◌≡◌, ◌≢◌, ℕ, zero, suc, ◌<◌, ◌≤◌, ◌⊎◌, ℤ, pos, ◌+ℤ◌, ◌-ℤ◌, ◌*ℤ◌, cond, nat_eq, nat_lt, inl, inr, refl, sym, ap, ◌∙◌, subst, ⊎_elim, arith}
use Rattle.std.proofs.lemmas.Int.{ints}
use Rattle.std.proofs.lemmas.Bool.{cases_eq, cases_lt, eq-eqb, ne_eqb, lt-ltb, le-ltb}
use Rattle.dd_lattice.specs.Nets.{IsConnectedNet}
use Rattle.dd_lattice.specs.declared.net.Net.{Net}
use Rattle.dd_lattice.specs.declared.net_edge.NetEdge.{NetEdge}
use Rattle.dd_lattice.proofs.Rings.{at, nat, equal, ◌⊞◌, ◌⊟◌, ◌⊠◌}
use Rattle.dd_draw.proofs.Integers.{product_nonzero}
use Rattle.dd_draw.proofs.Totals.{total, total-same, total-zero, total_one, total_two, if_same-same, if_same-other}
use Rattle.std.specs.List.{AllByRecursion}
use Rattle.dd_draw.proofs.Pulls.{IsInside, balanced_first}
use Rattle.dd_draw.proofs.NetLemmas.{edges_inside, zero_everywhere}
use Rattle.dd_draw.proofs.FirstTable.{entry-row, row, pull_is}
use Rattle.dd_draw.proofs.WholeTables.{Table, after, value, before_step, IsUnit, unit_after}
use Rattle.dd_draw.specs.Placement.{pull}
use Rattle.dd_draw.specs.Elimination.{first_entry, sum_unlooped, seen_from}

-- the tables of a net, in whole numbers
unfoldable pub table : Net → ℕ → Table
table net zero = record { number = first_entry net; scale = pos 1 }
table net (suc k) = after (suc k) (table net k)

-- A table that came of steps with pivots other than 0: what solves its first rows solves those of the first table.
pub record IsSound (net : Net) (k : ℕ) : Type 0 where
  pub scale : (table net k).scale ≢ pos 0
  pub unit : IsUnit (table net k) k
  pub back : (w : ℕ → ℤ) (q : ℤ) (c m : ℕ) → k ≤ m → ((i : ℕ) → 1 ≤ i → i ≤ m → value net.vertices w q c (table net k) i ≡ pos 0)
      → (i : ℕ) → 1 ≤ i → i ≤ m → value net.vertices w q c (table net zero) i ≡ pos 0

one_nonzero : pos 1 ≢ pos 0
one_nonzero e = absurd (omega (arith, ints, e))

sound_first : (net : Net) → IsSound net zero
unfolding table
sound_first net = record {
  scale = one_nonzero;
  unit = λ i j li lj hj. absurd (omega arith);
  back = λ w q c m low rows. rows;
}

sound_after : (net : Net) (k : ℕ) → IsSound net k → (table net k).number (suc k) (suc k) ≢ pos 0 → IsSound net (suc k)
unfolding table
sound_after net k s pivot = record {
  scale = product_nonzero (table net k).scale ((table net k).number (suc k) (suc k)) s.scale pivot;
  unit = unit_after (table net k) k s.unit;
  back = λ w q c m low rows. s.back w q c m (omega arith) (before_step net.vertices w q c (suc k) m (table net k) s.scale pivot (omega arith) low rows);
}

-- ## From rows to vertices

-- numbers of the unknowns as numbers of the vertices
abbrev pub of_vertices : (ℕ → ℤ) → ℕ → ℤ
of_vertices w zero = pos 0
of_vertices w (suc z) = w z

-- Numbers at which a row of the first table is 0 balance its vertex; the right side is that of the column.
balanced_at : (net : Net) (shift : NetEdge → ℤ) (w : ℕ → ℤ) (q : ℤ) (c i : ℕ) → IsConnectedNet net → i < net.vertices
    → q *ℤ first_entry net i c ≡ q *ℤ sum_unlooped (seen_from shift (suc i)) net.edges.items
    → value net.vertices w q c (table net zero) i ≡ pos 0 → pull shift q (of_vertices w) net.edges.items (suc i) ≡ pos 0
unfolding table
balanced_at net shift w q c i connected low right rows =
    let es = net.edges.items in
    let n = net.vertices in
    let r = total (λ z. row es (suc i) (suc z) *ℤ w z) n in
    let sums : total (λ z. first_entry net i z *ℤ w z) n ≡ r =
    total-same (λ z. first_entry net i z *ℤ w z) (λ z. row es (suc i) (suc z) *ℤ w z) n (λ z l. ap (λ y. y *ℤ w z) (entry-row net i z l)) in
    let is = pull_is shift q (of_vertices w) es (suc i) n (edges_inside net connected) (omega arith) (omega arith) in
    turned (pull shift q (of_vertices w) es (suc i)) (q *ℤ sum_unlooped (seen_from shift (suc i)) es) r (q *ℤ first_entry net i c) (total (λ z. first_entry net i z *ℤ w z) n)
    is sums right rows
  where
    turned : (p s r f t : ℤ) → p ≡ s -ℤ r → t ≡ r → f ≡ s → t -ℤ f ≡ pos 0 → p ≡ pos 0
    turned p s r f t a b c d = omega (arith, ints)

-- ## Pivots

-- Numbers that would solve the first rows if the pivot of the next step were 0.
abbrev pub against : Table → ℕ → ℕ → ℤ
against t k zero = pos 0
against t k (suc z) = cond (nat_eq (suc z) (suc k)) t.scale (cond (nat_lt (suc z) (suc k)) (pos 0 -ℤ t.number (suc z) (suc k)) (pos 0))

against-last : (t : Table) (k : ℕ) → against t k (suc k) ≡ t.scale
against-last t k = ap (λ b. cond b t.scale (cond (nat_lt (suc k) (suc k)) (pos 0 -ℤ t.number (suc k) (suc k)) (pos 0))) (eq-eqb (suc k) (suc k) refl)

against-early : (t : Table) (k z : ℕ) → suc z < suc k → against t k (suc z) ≡ pos 0 -ℤ t.number (suc z) (suc k)
against-early t k z low =
    ap (λ b. cond b t.scale (cond (nat_lt (suc z) (suc k)) (pos 0 -ℤ t.number (suc z) (suc k)) (pos 0))) (ne_eqb (suc z) (suc k) (omega arith))
    ∙ ap (λ b. cond b (pos 0 -ℤ t.number (suc z) (suc k)) (pos 0)) (lt-ltb (suc z) (suc k) low)

against-late : (t : Table) (k z : ℕ) → suc k < suc z → against t k (suc z) ≡ pos 0
against-late t k z high =
    ap (λ b. cond b t.scale (cond (nat_lt (suc z) (suc k)) (pos 0 -ℤ t.number (suc z) (suc k)) (pos 0))) (ne_eqb (suc z) (suc k) (omega arith))
    ∙ ap (λ b. cond b (pos 0 -ℤ t.number (suc z) (suc k)) (pos 0)) (le-ltb (suc z) (suc k) (omega arith))

-- where a row has 0 in a column that is done, or the number is 0
no_term : (t : Table) (k i z : ℕ) → IsUnit t k → 1 ≤ i → z ≢ i → z ≢ suc k → t.number i z *ℤ against t k z ≡ pos 0
no_term t k i zero unit li away last = equal (at (t.number i zero) ⊠ nat 0) (nat 0) (omega arith)
no_term t k i (suc z) unit li away last =
    ⊎_elim
    (λ low. ap (λ y. y *ℤ against t k (suc z)) (unit i (suc z) li (omega arith) (omega arith) ∙ if_same-other i (suc z) t.scale (λ e. away (sym e)))
    ∙ equal (nat 0 ⊠ at (against t k (suc z))) (nat 0) (omega arith))
    (λ high. ap (λ y. t.number i (suc z) *ℤ y) (against-late t k z (omega arith)) ∙ equal (at (t.number i (suc z)) ⊠ nat 0) (nat 0) (omega arith))
    (cases_lt (suc z) (suc k))

early_row : (t : Table) (k i n : ℕ) → IsUnit t k → 1 ≤ i → i < suc k → suc k < n → total (λ z. t.number i z *ℤ against t k z) n ≡ pos 0
early_row t k zero n unit li hi high = absurd (omega arith)
early_row t k (suc i) n unit li hi high =
    let a = t.number (suc i) (suc k) in
    total_two (λ z. t.number (suc i) z *ℤ against t k z) (suc i) (suc k) n hi high (λ z l away last. no_term t k (suc i) z unit li away last)
    ∙ ap (λ y. t.number (suc i) (suc i) *ℤ y +ℤ t.number (suc i) (suc k) *ℤ against t k (suc k)) (against-early t k i hi)
    ∙ ap (λ y. y *ℤ (pos 0 -ℤ a) +ℤ a *ℤ against t k (suc k))
    (unit (suc i) (suc i) li (omega arith) (omega arith) ∙ if_same-same (suc i) (suc i) t.scale refl)
    ∙ ap (λ y. t.scale *ℤ (pos 0 -ℤ a) +ℤ a *ℤ y) (against-last t k)
    ∙ equal ((at t.scale ⊠ (nat 0 ⊟ at a)) ⊞ (at a ⊠ at t.scale)) (nat 0) (omega arith)

last_row : (t : Table) (k n : ℕ) → IsUnit t k → t.number (suc k) (suc k) ≡ pos 0 → total (λ z. t.number (suc k) z *ℤ against t k z) n ≡ pos 0
last_row t k n unit none = total-zero (λ z. t.number (suc k) z *ℤ against t k z) n
    (λ z l. ⊎_elim
    (λ last. ap (λ m. t.number (suc k) m *ℤ against t k m) last ∙ ap (λ y. y *ℤ against t k (suc k)) none
    ∙ equal (nat 0 ⊠ at (against t k (suc k))) (nat 0) (omega arith))
    (λ away. no_term t k (suc k) z unit (omega arith) away away)
    (cases_eq z (suc k)))

pivot_nonzero : (net : Net) (k : ℕ) → IsConnectedNet net → suc k < net.vertices → IsSound net k → (table net k).number (suc k) (suc k) ≢ pos 0
pivot_nonzero net k connected high s none =
    let t = table net k in
    let w = against t k in
    let n = net.vertices in
    let rows : (i : ℕ) → 1 ≤ i → i ≤ suc k → value n w (pos 0) 0 t i ≡ pos 0 = λ i li hi.
    ⊎_elim
    (λ early. ap (λ y. y -ℤ pos 0 *ℤ t.number i 0) (early_row t k i n s.unit li early high)
    ∙ equal (nat 0 ⊟ (nat 0 ⊠ at (t.number i 0))) (nat 0) (omega arith))
    (λ late. let last : i ≡ suc k = omega arith in
    ap (λ m. value n w (pos 0) 0 t m) last ∙ ap (λ y. y -ℤ pos 0 *ℤ t.number (suc k) 0) (last_row t k n s.unit none)
    ∙ equal (nat 0 ⊟ (nat 0 ⊠ at (t.number (suc k) 0))) (nat 0) (omega arith))
    (cases_lt i (suc k)) in
    let shift : NetEdge → ℤ = λ e. e.x in
    let zeros = zero_everywhere net shift (of_vertices w) connected refl
    (λ i l. balanced_or_none i l (s.back w (pos 0) 0 (suc k) (omega arith) rows)) (suc (suc k)) (omega arith) (omega arith) in
    s.scale (sym (against-last t k) ∙ zeros)
  where
    no_right : (x y : ℤ) → pos 0 *ℤ x ≡ pos 0 *ℤ y
    no_right x y = equal (nat 0 ⊠ at x) (nat 0 ⊠ at y) (omega arith)

    balanced_or_none : (i : ℕ) → i < net.vertices
        → ((j : ℕ) → 1 ≤ j → j ≤ suc k → value net.vertices (against (table net k) k) (pos 0) 0 (table net zero) j ≡ pos 0)
        → (of_vertices (against (table net k) k) (suc i) ≡ pos 0) ⊎ (pull (λ e. e.x) (pos 0) (of_vertices (against (table net k) k)) net.edges.items (suc i) ≡ pos 0)
    balanced_or_none zero l rows = inl refl
    balanced_or_none (suc i) l rows =
        ⊎_elim
        (λ late. inl (against-late (table net k) k i late))
        (λ early. inr (balanced_at net (λ e. e.x) (against (table net k) k) (pos 0) 0 (suc i) connected l
        (no_right (first_entry net (suc i) 0) (sum_unlooped (seen_from (λ e. e.x) (suc (suc i))) net.edges.items)) (rows (suc i) (omega arith) early)))
        (cases_lt (suc k) (suc i))

pub sound : (net : Net) (k : ℕ) → IsConnectedNet net → k < net.vertices → IsSound net k
sound net zero connected low = sound_first net
sound net (suc k) connected low =
    let s = sound net k connected (omega arith) in
    sound_after net k s (pivot_nonzero net k connected low s)

pub pivot : (net : Net) (k : ℕ) → IsConnectedNet net → suc k < net.vertices → (table net k).number (suc k) (suc k) ≢ pos 0
pivot net k connected high = pivot_nonzero net k connected high (sound net k connected (omega arith))

-- ## The solution

-- the entries of a column as numbers of the unknowns
abbrev pub column_of : Table → ℕ → ℕ → ℤ
column_of t c zero = pos 0
column_of t c (suc z) = t.number (suc z) c

last_value : (t : Table) (k c i : ℕ) → IsUnit t k → 1 ≤ i → i ≤ k → value (suc k) (column_of t c) t.scale c t i ≡ pos 0
last_value t k c zero unit li hi = absurd (omega arith)
last_value t k c (suc i) unit li hi =
    let b = t.number (suc i) c in
    ap (λ y. y -ℤ t.scale *ℤ b)
    (total_one (λ z. t.number (suc i) z *ℤ column_of t c z) (suc i) (suc k) (omega arith) other
    ∙ ap (λ y. y *ℤ b) (unit (suc i) (suc i) li (omega arith) hi ∙ if_same-same (suc i) (suc i) t.scale refl))
    ∙ equal ((at t.scale ⊠ at b) ⊟ (at t.scale ⊠ at b)) (nat 0) (omega arith)
  where
    other : (z : ℕ) → z < suc k → z ≢ suc i → t.number (suc i) z *ℤ column_of t c z ≡ pos 0
    other zero l away = equal (at (t.number (suc i) zero) ⊠ nat 0) (nat 0) (omega arith)
    other (suc z) l away =
        ap (λ y. y *ℤ column_of t c (suc z)) (unit (suc i) (suc z) li (omega arith) (omega arith) ∙ if_same-other (suc i) (suc z) t.scale (λ e. away (sym e)))
        ∙ equal (nat 0 ⊠ at (column_of t c (suc z))) (nat 0) (omega arith)

-- With the numbers of the last table in a column of shifts each vertex is balanced.
pub solution : (net : Net) (shift : NetEdge → ℤ) (c k : ℕ) → IsConnectedNet net → net.vertices ≡ suc k
    → ((i : ℕ) → first_entry net i c ≡ sum_unlooped (seen_from shift (suc i)) net.edges.items)
    → (v : ℕ) → 1 ≤ v → v ≤ net.vertices
    → pull shift (table net k).scale (of_vertices (column_of (table net k) c)) net.edges.items v ≡ pos 0
solution net shift c k connected count right v low high = by_vertex v low high
  where
    rows : (i : ℕ) → 1 ≤ i → i ≤ k → value net.vertices (column_of (table net k) c) (table net k).scale c (table net k) i ≡ pos 0
    rows i li hi = subst (λ n. value n (column_of (table net k) c) (table net k).scale c (table net k) i ≡ pos 0) (sym count)
        (last_value (table net k) k c i (sound net k connected (omega arith)).unit li hi)

    later : (i : ℕ) → 1 ≤ i → i ≤ k → pull shift (table net k).scale (of_vertices (column_of (table net k) c)) net.edges.items (suc i) ≡ pos 0
    later i li hi = balanced_at net shift (column_of (table net k) c) (table net k).scale c i connected (omega arith)
        (ap (λ z. (table net k).scale *ℤ z) (right i))
        ((sound net k connected (omega arith)).back (column_of (table net k) c) (table net k).scale c k (omega arith) rows i li hi)

    by_vertex : (v : ℕ) → 1 ≤ v → v ≤ net.vertices → pull shift (table net k).scale (of_vertices (column_of (table net k) c)) net.edges.items v ≡ pos 0
    by_vertex zero l h = absurd (omega arith)
    by_vertex (suc zero) l h = balanced_first shift (table net k).scale (of_vertices (column_of (table net k) c)) net.edges.items k
        (subst (λ n. AllByRecursion (IsInside n) net.edges.items) count (edges_inside net connected))
        (λ i l. later (suc i) (omega arith) (omega arith))
    by_vertex (suc (suc i)) l h = later (suc i) (omega arith) (omega arith)
