-- The catalogue of one chamber, and its text.
use Rattle.std.proofs.Common.{◌≡◌, ℕ, zero, suc, ◌*◌, ◌≤◌, List, [], ◌∷◌, length, refl, sym, ◌∙◌, ap, subst, arith, inl}
use Rattle.std.specs.List.{AllByRecursion, Contains}
use Rattle.std.specs.Prelude.{codes}
use Rattle.std.specs.Fmt.{digits}
use Rattle.dd_model.specs.declared.requests.Request.{Request}
use Rattle.dd_model.specs.declared.index.Index.{Index}
use Rattle.dd_model.specs.declared.index.Index.TheVariants.{Zero, One, Two}
use Rattle.dd_model.specs.declared.pair.Pair.{Pair}
use Rattle.dd_model.specs.declared.pair.Pair.TheVariants.{Tile, Vertex}
use Rattle.dd_model.specs.Symbol.{Symbol, IsSymbol, IsChamber, operation, degree, item, power, turn}
use Rattle.dd_model.specs.Cell.{IsBranching}
use Rattle.dd_model.specs.Flat.{Flat}
use Rattle.dd_model.specs.Allowed.{IsIn}
use Rattle.dd_model.specs.Text.{IsText, beginning}
use Rattle.dd_model.proofs.WantedDegrees.{by_value}
use Rattle.dd_model.specs.Wanted.{IsCrystallographic, Wanted, IsMember, IsCatalogue}
use Rattle.dd_model.specs.Worked.{single, single_chambers, AsksForOneChamber}
use Rattle.dd_model.proofs.OneChamber.{stays, turns, at_one, symbol, connected as single_connected, least as single_least, minimal as single_minimal, line}
use Rattle.dd_model.proofs.Texts.{all_from_beginning}

list_one : (xs : List ℕ) → length xs ≡ 1 → (x : ℕ) × (xs ≡ x ∷ [])
list_one [] h = absurd (omega (arith, h))
list_one (x ∷ []) h = (x, refl)
list_one (x ∷ y ∷ xs) h = absurd (omega (arith, h))

same : (n : ℕ) (p q r m k : List ℕ) (a b : ℕ) → n ≡ 1 → p ≡ 1 ∷ [] → q ≡ 1 ∷ [] → r ≡ 1 ∷ [] → m ≡ a ∷ [] → k ≡ b ∷ [] →
    (let s : Symbol = record { size = n; s0 = p; s1 = q; s2 = r; m01 = m; m12 = k } in s ≡ single a b)
same n p q r m k a b e f g h i j = rw e (rw f (rw g (rw h (rw i (rw j refl)))))

-- the one image of an involution of one chamber
image_one : (s : Symbol) → IsSymbol s → s.size ≡ 1 → (i : Index) → operation s i ≡ 1 ∷ []
image_one s is e i =
    let l = list_one (operation s i) (is.table.lengths i ∙ e) in
    let w = (is.table.involutions i).within 1 (omega arith, is.table.chambers) in
    let x : item (operation s i) 1 ≡ l.0 = ap (λ xs. item xs 1) l.1 in
    let y : l.0 ≡ 1 = omega (arith, w, x, e) in
    l.1 ∙ ap (λ z. z ∷ []) y

shape : (s : Symbol) → IsSymbol s → s.size ≡ 1 → (a : ℕ) × (b : ℕ) × (s ≡ single a b)
shape s is e =
    let m = list_one s.m01 (is.table.m01_length ∙ e) in let k = list_one s.m12 (is.table.m12_length ∙ e) in
    (m.0, k.0, same s.size s.s0 s.s1 s.s2 s.m01 s.m12 m.0 k.0 e (image_one s is e Zero) (image_one s is e One) (image_one s is e Two) m.1 k.1)

branching : (a b : ℕ) (p : Pair) (v : ℕ) → v ≡ degree (single a b) p 1 → IsBranching (single a b) p 1 v
branching a b p v e = record { r = 1; least_turns = turns a b p; quotient = omega (arith, e) }

v_is : (a b : ℕ) (p : Pair) (v : ℕ) → IsBranching (single a b) p 1 v → v ≡ degree (single a b) p 1
v_is a b p v h =
    let t = h.least_turns in
    let x = t.least 1 1 (omega arith) (record { word = []; letters = tt; leads = refl }) (stays a b (power (turn p) 1)) in let y = t.positive in
    let r : h.r ≡ 1 = omega (arith, x, y) in
    let e : v * 1 ≡ degree (single a b) p 1 = subst (λ r. v * r ≡ degree (single a b) p 1) r h.quotient in omega (arith, e)

abbrev IsListed : ℕ → ℕ → Type 0
IsListed a b = Flat (single a b) → Contains single_chambers (single a b)

of_degrees : (a b : ℕ) → IsCrystallographic a → IsCrystallographic b → IsListed a b
of_degrees a b h k = by_value (λ x. IsListed x b)
    (by_value (IsListed 1) (λ f. absurd (omega (arith, f))) (λ f. absurd (omega (arith, f))) (λ f. absurd (omega (arith, f))) (λ f. absurd (omega (arith, f))) (λ f. absurd (omega (arith, f))) b k)
    (by_value (IsListed 2) (λ f. absurd (omega (arith, f))) (λ f. absurd (omega (arith, f))) (λ f. absurd (omega (arith, f))) (λ f. absurd (omega (arith, f))) (λ f. absurd (omega (arith, f))) b k)
    (by_value (IsListed 3) (λ f. absurd (omega (arith, f))) (λ f. absurd (omega (arith, f))) (λ f. absurd (omega (arith, f))) (λ f. absurd (omega (arith, f))) (λ f. (0, omega arith, refl)) b k)
    (by_value (IsListed 4) (λ f. absurd (omega (arith, f))) (λ f. absurd (omega (arith, f))) (λ f. absurd (omega (arith, f))) (λ f. (1, omega arith, refl)) (λ f. absurd (omega (arith, f))) b k)
    (by_value (IsListed 6) (λ f. absurd (omega (arith, f))) (λ f. absurd (omega (arith, f))) (λ f. (2, omega arith, refl)) (λ f. absurd (omega (arith, f))) (λ f. absurd (omega (arith, f))) b k)
    a h

-- a wanted symbol of one chamber is in the row
listed : (q : Request) → AsksForOneChamber q → (s : Symbol) → IsMember q s → Contains single_chambers s
listed q asks s m =
    let w = m.wanted in
    let size : s.size ≡ 1 = (let x = w.chambers in let y = w.symbol.table.chambers in let z = asks.chambers in omega (arith, x, y, z)) in
    from_shape s w (shape s w.symbol size) where
      from_shape : (s : Symbol) → Wanted q s → ((a : ℕ) × (b : ℕ) × (s ≡ single a b)) → Contains single_chambers s
      from_shape s w (a, b, e) =
          let v : Wanted q (single a b) = subst (Wanted q) e w in
          let one : IsChamber (single a b) 1 = (omega arith, omega arith) in
          subst (Contains single_chambers) (sym e) (of_degrees a b (v.face_branching 1 a one (branching a b Tile a refl)) (v.vertex_branching 1 b one (branching a b Vertex b refl)) v.flat)

member : (q : Request) → AsksForOneChamber q → (a b : ℕ) → (3 ≤ a) × (a ≤ 216) → (3 ≤ b) × (b ≤ 216) → IsCrystallographic a → IsCrystallographic b → Flat (single a b) → IsMember q (single a b)
member q asks a b h k x y f = record {
  wanted = record {
    symbol = symbol a b (omega (arith, h)) (omega (arith, k));
    connected = single_connected a b;
    chambers = let z = asks.chambers in omega (arith, z);
    tiles = inl asks.tiles;
    vertices = inl asks.vertices;
    faces = λ d c. at_one a b (λ d. IsIn q.faces (item (single a b).m01 d)) ((asks.faces a).1 h) d c;
    degrees = λ d c. at_one a b (λ d. IsIn q.degrees (item (single a b).m12 d)) ((asks.degrees b).1 k) d c;
    face_branching = λ d v c. at_one a b (λ d. IsBranching (single a b) Tile d v → IsCrystallographic v) (λ i. subst IsCrystallographic (sym (v_is a b Tile v i)) x) d c;
    vertex_branching = λ d v c. at_one a b (λ d. IsBranching (single a b) Vertex d v → IsCrystallographic v) (λ i. subst IsCrystallographic (sym (v_is a b Vertex v i)) y) d c;
    flat = f;
    minimal = λ t. single_minimal a b;
  };
  least = single_least a b;
}

listed_is_member : (q : Request) → AsksForOneChamber q → (s : Symbol) → Contains single_chambers s → IsMember q s
listed_is_member q asks s (zero, h, e) = subst (IsMember q) e (member q asks 3 6 (omega arith, omega arith) (omega arith, omega arith) (2, omega arith, refl) (4, omega arith, refl) refl)
listed_is_member q asks s (suc zero, h, e) = subst (IsMember q) e (member q asks 4 4 (omega arith, omega arith) (omega arith, omega arith) (3, omega arith, refl) (3, omega arith, refl) refl)
listed_is_member q asks s (suc (suc zero), h, e) = subst (IsMember q) e (member q asks 6 3 (omega arith, omega arith) (omega arith, omega arith) (4, omega arith, refl) (2, omega arith, refl) refl)
listed_is_member q asks s (suc (suc (suc k)), h, e) = absurd (omega (arith, h))

pub catalogue_of_one : (q : Request) → AsksForOneChamber q → IsCatalogue q single_chambers
catalogue_of_one q asks = record { ascending = ((refl, (refl, tt)), ((refl, tt), (tt, tt))); members = λ s. (listed_is_member q asks s, listed q asks s) }

all_symbols : AllByRecursion IsSymbol single_chambers
all_symbols = (symbol 3 6 (omega arith) (omega arith), (symbol 4 4 (omega arith) (omega arith), (symbol 6 3 (omega arith) (omega arith), tt)))

pub text_of_one : (q : Request) → AsksForOneChamber q → IsText q beginning 0 (codes "<1.1:1:1,1,1:3,6>\n<1.2:1:1,1,1:4,4>\n<1.3:1:1,1,1:6,3>\n")
unfolding digits
text_of_one q asks = record {
  members = single_chambers;
  catalogue = catalogue_of_one q asks;
  later = single_chambers;
  not_before = all_from_beginning single_chambers all_symbols;
  lines = (
    codes "<1.1:1:1,1,1:3,6>\n",
    codes "<1.2:1:1,1,1:4,4>\n<1.3:1:1,1,1:6,3>\n",
    line 1 3 6 _ refl,
    (
      codes "<1.2:1:1,1,1:4,4>\n",
      codes "<1.3:1:1,1,1:6,3>\n",
      line 2 4 4 _ refl,
      (codes "<1.3:1:1,1,1:6,3>\n", [], line 3 6 3 _ refl, refl, refl),
      refl,
    ),
    refl,
  );
}
