-- The seeds: all symbols of one chamber and of two, found by trying all degrees.
use Rattle.std.proofs.Common.{◌≡◌, ◌≢◌, ℕ, zero, suc, ◌+◌, ◌*◌, ◌≤◌, ◌<◌, Bool, true, false, ◌&&◌, cond, List, [], ◌∷◌, ◌++◌, map, length, get_or, refl, sym, ap, ◌∙◌, subst, inl, ⊎_elim, arith}
use Rattle.std.specs.List.{AllByRecursion, Contains, list_all}
use Rattle.std.specs.Prelude.{eqb}
use Rattle.std.specs.Str.{bytes_eq}
use Rattle.std.specs.Ordering.{is_lt, is_gt}
use Rattle.std.specs.declared.cmp.Ordering.{Ordering}
use Rattle.std.specs.declared.cmp.Ordering.TheVariants.{Less, Equal, Greater}
use Rattle.std.proofs.lemmas.Bool.{cases_Bool, cases_eq, eqb-true}
use Rattle.std.proofs.lemmas.List.Elements.{Contains-append_left, Contains-append_right, Contains-append_cases}
use Rattle.std.proofs.lemmas.Slice.Eq.{bytes_eq-Decides}
use Rattle.dd_model.specs.declared.pair.Pair.TheVariants.{Tile, Vertex}
use Rattle.dd_model.specs.declared.requests.Request.{Request}
use Rattle.dd_model.specs.Allowed.{IsIn}
use Rattle.dd_model.specs.Cell.{IsBranching}
use Rattle.dd_model.specs.Code.{code_cmp, IsBelow}
use Rattle.dd_model.specs.Flat.{Flat, reciprocals, all_degrees}
use Rattle.dd_model.specs.Symbol.{Symbol, IsChamber, item}
use Rattle.dd_model.specs.Wanted.{IsCrystallographic, Wanted, IsAscending, IsMember, IsCatalogue}
use Rattle.dd_model.specs.Worked.{single_chambers}
use Rattle.dd_model.proofs.Branching.{branching_exists, branching_unique}
use Rattle.dd_model.proofs.Catalogues.{catalogue_unique}
use Rattle.dd_model.proofs.Lists.{Contains-none, Contains-head, Contains-later, Contains-cases, Contains-map}
use Rattle.dd_model.proofs.OneChamberCatalogue.{catalogue_of_one}
use Rattle.dd_model.proofs.Turns.{least_turns_unique}
use Rattle.dd_model.proofs.WantedDegrees.{by_value}
use Rattle.dd_suite_exercise.specs.Seeds.{AsksForTwoChambers, AreSeeds}
use Rattle.dd_suite_exercise.proofs.TwoChambers.{flip, two, period, at_both, mirror, AreDegrees, two_symbol, two_connected, two_joined, two_least, two_not_least, two_shape, turns_tile, turns_vertex, joined}
use Rattle.dd_canon.proofs.OrderLemmas.{less_of}

-- ## Tests

both : (a b : Bool) → a && b ≡ true → (a ≡ true) × (b ≡ true)
both true true e = (refl, refl)
both true false e = absurd (cc)
both false b e = absurd (cc)

passes : {A : Type 0} (p : A → Bool) (xs : List A) (x : A) → list_all p xs ≡ true → Contains xs x → p x ≡ true
passes p [] x all there = absurd (Contains-none x there)
passes p (y ∷ ys) x all there =
    let b = both (p y) (list_all p ys) all in
    ⊎_elim (λ first. subst (λ u. p u ≡ true) first b.0) (λ later. passes p ys x b.1 later) (Contains-cases y x ys there)

taken : (b v : Bool) → b ≡ true → cond b v true ≡ true → v ≡ true
taken true v e f = f
taken false v e f = absurd (cc)

equal_passes : (m n : ℕ) → m ≡ n → eqb m n ≡ true
equal_passes m n e = grind arith

-- ## Degrees

-- the degrees from 3 on, by the two involutions of the pair
abbrev values : ℕ → ℕ → List ℕ
values zero zero = 3 ∷ 4 ∷ 6 ∷ []
values zero (suc y) = 4 ∷ 6 ∷ 8 ∷ 12 ∷ []
values (suc x) zero = 4 ∷ 6 ∷ 8 ∷ 12 ∷ []
values (suc x) (suc y) = 3 ∷ 4 ∷ 6 ∷ []

record HasValue (r a : ℕ) : Type 0 where
  pub value : ℕ
  pub good : IsCrystallographic value
  pub is : value * r ≡ a
  pub low : 3 ≤ a
  pub high : a ≤ 12

once_value : (a : ℕ) → Contains (3 ∷ 4 ∷ 6 ∷ []) a → HasValue 1 a
once_value a (zero, h, e) = record { value = 3; good = (2, omega arith, refl); is = e; low = omega (arith, e); high = omega (arith, e) }
once_value a (suc zero, h, e) = record { value = 4; good = (3, omega arith, refl); is = e; low = omega (arith, e); high = omega (arith, e) }
once_value a (suc (suc zero), h, e) = record { value = 6; good = (4, omega arith, refl); is = e; low = omega (arith, e); high = omega (arith, e) }
once_value a (suc (suc (suc k)), h, e) = absurd (omega (arith, h))

twice_value : (a : ℕ) → Contains (4 ∷ 6 ∷ 8 ∷ 12 ∷ []) a → HasValue 2 a
twice_value a (zero, h, e) = record { value = 2; good = (1, omega arith, refl); is = e; low = omega (arith, e); high = omega (arith, e) }
twice_value a (suc zero, h, e) = record { value = 3; good = (2, omega arith, refl); is = e; low = omega (arith, e); high = omega (arith, e) }
twice_value a (suc (suc zero), h, e) = record { value = 4; good = (3, omega arith, refl); is = e; low = omega (arith, e); high = omega (arith, e) }
twice_value a (suc (suc (suc zero)), h, e) = record { value = 6; good = (4, omega arith, refl); is = e; low = omega (arith, e); high = omega (arith, e) }
twice_value a (suc (suc (suc (suc k))), h, e) = absurd (omega (arith, h))

value_of : (x y a : ℕ) → Contains (values x y) a → HasValue (period x y) a
value_of zero zero a there = once_value a there
value_of zero (suc y) a there = twice_value a there
value_of (suc x) zero a there = twice_value a there
value_of (suc x) (suc y) a there = once_value a there

once_listed : (v a : ℕ) → IsCrystallographic v → v * 1 ≡ a → 3 ≤ a → Contains (3 ∷ 4 ∷ 6 ∷ []) a
once_listed v a good =
    by_value (λ w. w * 1 ≡ a → 3 ≤ a → Contains (3 ∷ 4 ∷ 6 ∷ []) a)
    (λ e low. absurd (omega (arith, e, low)))
    (λ e low. absurd (omega (arith, e, low)))
    (λ e low. (0, omega arith, e))
    (λ e low. (1, omega arith, e))
    (λ e low. (2, omega arith, e))
    v good

twice_listed : (v a : ℕ) → IsCrystallographic v → v * 2 ≡ a → 3 ≤ a → Contains (4 ∷ 6 ∷ 8 ∷ 12 ∷ []) a
twice_listed v a good =
    by_value (λ w. w * 2 ≡ a → 3 ≤ a → Contains (4 ∷ 6 ∷ 8 ∷ 12 ∷ []) a)
    (λ e low. absurd (omega (arith, e, low)))
    (λ e low. (0, omega arith, e))
    (λ e low. (1, omega arith, e))
    (λ e low. (2, omega arith, e))
    (λ e low. (3, omega arith, e))
    v good

listed_value : (x y v a : ℕ) → IsCrystallographic v → v * period x y ≡ a → 3 ≤ a → Contains (values x y) a
listed_value zero zero v a good is low = once_listed v a good is low
listed_value zero (suc y) v a good is low = twice_listed v a good is low
listed_value (suc x) zero v a good is low = twice_listed v a good is low
listed_value (suc x) (suc y) v a good is low = once_listed v a good is low

-- whether both chambers have one degree, if an involution of the pair exchanges them
abbrev same : ℕ → ℕ → ℕ → ℕ → Bool
same zero zero a b = true
same zero (suc y) a b = eqb a b
same (suc x) y a b = eqb a b

same_is : (x y a b : ℕ) → same x y a b ≡ true → 1 ≤ x + y → a ≡ b
same_is zero zero a b e low = absurd (omega (arith, low))
same_is zero (suc y) a b e low = eqb-true a b e
same_is (suc x) y a b e low = eqb-true a b e

is_same : (x y a b : ℕ) → item (a ∷ b ∷ []) (item (flip x) 1) ≡ a → item (a ∷ b ∷ []) (item (flip y) 1) ≡ a → same x y a b ≡ true
is_same zero zero a b e f = refl
is_same zero (suc y) a b e f = equal_passes a b (sym f)
is_same (suc x) y a b e f = equal_passes a b (sym e)

degrees_of : (x y a b : ℕ) → HasValue (period x y) a → HasValue (period x y) b → same x y a b ≡ true → AreDegrees x y a b
degrees_of x y a b p q e =
    let low = p.low in
    let other = q.low in
    record {
      first_value = p.value;
      second_value = q.value;
      first_is = p.is;
      second_is = q.is;
      first_some = omega (arith, low);
      second_some = omega (arith, other);
      same = same_is x y a b e;
    }

-- ## Keys

record Key : Type 0 where
  pub x : ℕ
  pub y : ℕ
  pub z : ℕ
  pub a : ℕ
  pub b : ℕ
  pub c : ℕ
  pub d : ℕ

abbrev key : (x y z a b c d : ℕ) → Key
key x y z a b c d = record { x = x; y = y; z = z; a = a; b = b; c = c; d = d }

abbrev symbol_of : Key → Symbol
symbol_of k = two k.x k.y k.z k.a k.b k.c k.d

abbrev numbers_of : Key → List ℕ
numbers_of k = k.x ∷ k.y ∷ k.z ∷ k.a ∷ k.b ∷ k.c ∷ k.d ∷ []

of_numbers : List ℕ → Key
of_numbers xs = key (get_or xs 0 0) (get_or xs 1 0) (get_or xs 2 0) (get_or xs 3 0) (get_or xs 4 0) (get_or xs 5 0) (get_or xs 6 0)

same_key : (j k : Key) → numbers_of j ≡ numbers_of k → j ≡ k
unfolding of_numbers
same_key j k e = ap of_numbers e

abbrev stands : Key → List Key → Bool
stands k [] = false
stands k (j ∷ js) = cond (bytes_eq (numbers_of j) (numbers_of k)) true (stands k js)

stands_there : (k : Key) (js : List Key) → stands k js ≡ true → Contains js k
stands_there k [] e = absurd (cc)
stands_there k (j ∷ js) e =
    ⊎_elim
    (λ here. subst (Contains (j ∷ js)) (same_key j k ((bytes_eq-Decides (numbers_of j) (numbers_of k)).0 here)) (Contains-head j js))
    (λ other. Contains-later j k js (stands_there k js (ap (λ b. cond b true (stands k js)) (sym other) ∙ e)))
    (cases_Bool (bytes_eq (numbers_of j) (numbers_of k)))

-- those with a least code, in the order of their codes
abbrev fifteen : List Key
fifteen =
    key 0 0 1 3 3 6 6 ∷ key 0 0 1 3 6 4 4 ∷ key 0 0 1 4 4 4 4 ∷ key 0 1 0 4 4 4 4 ∷ key 0 1 1 4 4 4 4 ∷ key 0 1 1 6 6 3 3 ∷
    key 1 0 0 4 4 3 6 ∷ key 1 0 0 4 4 4 4 ∷ key 1 0 0 6 6 3 3 ∷ key 1 0 1 4 4 4 4 ∷ key 1 1 0 3 3 6 6 ∷ key 1 1 0 4 4 4 4 ∷
    key 1 1 1 3 3 6 6 ∷ key 1 1 1 4 4 4 4 ∷ key 1 1 1 6 6 3 3 ∷ []

-- and two with other numbers
abbrev seventeen : List Key
seventeen = key 0 0 1 6 3 4 4 ∷ key 1 0 0 4 4 6 3 ∷ fifteen

abbrev is_flat : Key → Bool
is_flat k = let s = symbol_of k in eqb (2 * reciprocals s) (2 * all_degrees s)

-- ## Each wanted symbol of two chambers is found

-- what is flat and in one piece stands among them
abbrev found : (x y z a b c d : ℕ) → Bool
found x y z a b c d =
    cond (joined x y z) (cond (same x y a b) (cond (same y z c d) (cond (is_flat (key x y z a b c d)) (stands (key x y z a b c d) seventeen) true) true) true) true

abbrev bits : List ℕ
bits = 0 ∷ 1 ∷ []

all_found : list_all (λ x. list_all (λ y. list_all (λ z. list_all (λ a. list_all (λ b. list_all (λ c. list_all (λ d. found x y z a b c d)
    (values y z)) (values y z)) (values x y)) (values x y)) bits) bits) bits ≡ true
all_found = refl

bit_listed : (x : ℕ) → x < 2 → Contains bits x
bit_listed zero few = (0, omega arith, refl)
bit_listed (suc zero) few = (1, omega arith, refl)
bit_listed (suc (suc x)) few = absurd (omega (arith, few))

found_each : (x y z a b c d : ℕ) → x < 2 → y < 2 → z < 2 → Contains (values x y) a → Contains (values x y) b → Contains (values y z) c → Contains (values y z) d → found x y z a b c d ≡ true
found_each x y z a b c d fx fy fz ha hb hc hd =
    let at_x = passes (λ x. list_all (λ y. list_all (λ z. list_all (λ a. list_all (λ b. list_all (λ c. list_all (λ d. found x y z a b c d)
    (values y z)) (values y z)) (values x y)) (values x y)) bits) bits) bits x all_found (bit_listed x fx) in
    let at_y = passes (λ y. list_all (λ z. list_all (λ a. list_all (λ b. list_all (λ c. list_all (λ d. found x y z a b c d)
    (values y z)) (values y z)) (values x y)) (values x y)) bits) bits y at_x (bit_listed y fy) in
    let at_z = passes (λ z. list_all (λ a. list_all (λ b. list_all (λ c. list_all (λ d. found x y z a b c d)
    (values y z)) (values y z)) (values x y)) (values x y)) bits z at_y (bit_listed z fz) in
    let at_a = passes (λ a. list_all (λ b. list_all (λ c. list_all (λ d. found x y z a b c d) (values y z)) (values y z)) (values x y)) (values x y) a at_z ha in
    let at_b = passes (λ b. list_all (λ c. list_all (λ d. found x y z a b c d) (values y z)) (values y z)) (values x y) b at_a hb in
    let at_c = passes (λ c. list_all (λ d. found x y z a b c d) (values y z)) (values y z) c at_b hc in
    passes (λ d. found x y z a b c d) (values y z) d at_c hd

module _ (q : Request) (asks : AsksForTwoChambers q) (x y z a b c d : ℕ) where
  abbrev s : Symbol
  s = two x y z a b c d

  tile_listed : Wanted q s → (e m : ℕ) → (1 ≤ e) × (e ≤ 2) → item (a ∷ b ∷ []) e ≡ m → Contains (values x y) m
  tile_listed w e m h is =
      let v = branching_exists s w.symbol Tile e h in
      let turns = least_turns_unique s Tile e v.1.r (period x y) v.1.least_turns (turns_tile x y z a b c d e h) in
      let low = ((asks.faces (item (a ∷ b ∷ []) e)).0 (w.faces e h)).0 in
      listed_value x y v.0 m (w.face_branching e v.0 h v.1) (ap (λ r. v.0 * r) (sym turns) ∙ v.1.quotient ∙ is) (subst (λ n. 3 ≤ n) is low)

  vertex_listed : Wanted q s → (e m : ℕ) → (1 ≤ e) × (e ≤ 2) → item (c ∷ d ∷ []) e ≡ m → Contains (values y z) m
  vertex_listed w e m h is =
      let v = branching_exists s w.symbol Vertex e h in
      let turns = least_turns_unique s Vertex e v.1.r (period y z) v.1.least_turns (turns_vertex x y z a b c d e h) in
      let low = ((asks.degrees (item (c ∷ d ∷ []) e)).0 (w.degrees e h)).0 in
      listed_value y z v.0 m (w.vertex_branching e v.0 h v.1) (ap (λ r. v.0 * r) (sym turns) ∙ v.1.quotient ∙ is) (subst (λ n. 3 ≤ n) is low)

  wanted_found : x < 2 → y < 2 → z < 2 → Wanted q s → Contains seventeen (key x y z a b c d)
  wanted_found fx fy fz w =
      let one : (1 ≤ 1) × (1 ≤ 2) = (omega arith, omega arith) in
      let other : (1 ≤ 2) × (2 ≤ 2) = (omega arith, omega arith) in
      let tile = w.symbol.degrees Tile 1 one in
      let vertex = w.symbol.degrees Vertex 1 one in
      let f = found_each x y z a b c d fx fy fz (tile_listed w 1 a one refl) (tile_listed w 2 b other refl) (vertex_listed w 1 c one refl) (vertex_listed w 2 d other refl) in
      let at_joined = taken (joined x y z) _ (two_joined x y z a b c d w.connected) f in
      let at_tiles = taken (same x y a b) _ (is_same x y a b tile.along_first tile.along_second) at_joined in
      let at_vertices = taken (same y z c d) _ (is_same y z c d vertex.along_first vertex.along_second) at_tiles in
      let at_flat = taken (is_flat (key x y z a b c d)) _ (equal_passes (2 * reciprocals s) (2 * all_degrees s) w.flat) at_vertices in
      stands_there (key x y z a b c d) seventeen at_flat

  -- ## Each of the fifteen is a member

  two_wanted : Contains (values x y) a → Contains (values x y) b → Contains (values y z) c → Contains (values y z) d
      → joined x y z ≡ true → same x y a b ≡ true → same y z c d ≡ true → Flat s → Wanted q s
  two_wanted ha hb hc hd one_piece tiles vertices flat =
      let va = value_of x y a ha in
      let vb = value_of x y b hb in
      let vc = value_of y z c hc in
      let vd = value_of y z d hd in
      let chambers = asks.chambers in
      let is = two_symbol x y z a b c d (degrees_of x y a b va vb tiles) (degrees_of y z c d vc vd vertices) in
      record {
        symbol = is;
        connected = two_connected x y z a b c d one_piece;
        chambers = omega (arith, chambers);
        tiles = inl asks.tiles;
        vertices = inl asks.vertices;
        faces = at_both (λ e. IsIn q.faces (item (a ∷ b ∷ []) e)) ((asks.faces a).1 (three va)) ((asks.faces b).1 (three vb));
        degrees = at_both (λ e. IsIn q.degrees (item (c ∷ d ∷ []) e)) ((asks.degrees c).1 (three vc)) ((asks.degrees d).1 (three vd));
        face_branching = λ e v h has. at_both (λ g. IsChamber s g → IsBranching s Tile g v → IsCrystallographic v)
            (λ i other. subst IsCrystallographic (branching_unique s Tile 1 va.value v (record { r = period x y; least_turns = turns_tile x y z a b c d 1 i; quotient = va.is }) other) va.good)
            (λ i other. subst IsCrystallographic (branching_unique s Tile 2 vb.value v (record { r = period x y; least_turns = turns_tile x y z a b c d 2 i; quotient = vb.is }) other) vb.good)
            e h h has;
        vertex_branching = λ e v h has. at_both (λ g. IsChamber s g → IsBranching s Vertex g v → IsCrystallographic v)
            (λ i other. subst IsCrystallographic (branching_unique s Vertex 1 vc.value v (record { r = period y z; least_turns = turns_vertex x y z a b c d 1 i; quotient = vc.is }) other) vc.good)
            (λ i other. subst IsCrystallographic (branching_unique s Vertex 2 vd.value v (record { r = period y z; least_turns = turns_vertex x y z a b c d 2 i; quotient = vd.is }) other) vd.good)
            e h h has;
        flat = flat;
        minimal = λ h. let no_test = asks.minimal in absurd (cc);
      }
    where
      three : {r m : ℕ} → HasValue r m → (3 ≤ m) × (m ≤ 216)
      three v = let low = v.low in let high = v.high in (low, omega (arith, high))

abbrev has : List ℕ → ℕ → Bool
has [] x = false
has (y ∷ ys) x = cond (eqb y x) true (has ys x)

has_there : (xs : List ℕ) (x : ℕ) → has xs x ≡ true → Contains xs x
has_there [] x e = absurd (cc)
has_there (y ∷ ys) x e =
    ⊎_elim
    (λ here. subst (Contains (y ∷ ys)) (eqb-true y x here) (Contains-head y ys))
    (λ other. Contains-later y x ys (has_there ys x (ap (λ b. cond b true (has ys x)) (sym other) ∙ e)))
    (cases_Bool (eqb y x))

abbrev has_values : Key → Bool
has_values k = has (values k.x k.y) k.a && (has (values k.x k.y) k.b && (has (values k.y k.z) k.c && has (values k.y k.z) k.d))

abbrev has_sides : Key → Bool
has_sides k = joined k.x k.y k.z && (same k.x k.y k.a k.b && same k.y k.z k.c k.d)

abbrev is_member : Key → Bool
is_member k = has_values k && (has_sides k && (is_flat k && eqb (cond (is_gt (code_cmp (symbol_of k) (mirror (symbol_of k)))) 1 0) 0))

not_above : (o : Ordering) → eqb (cond (is_gt o) 1 0) 0 ≡ true → o ≢ Greater
not_above Less e f = (cc)
not_above Equal e f = (cc)
not_above Greater e f = absurd (cc)

key_wanted : (q : Request) → AsksForTwoChambers q → (k : Key) → has_values k ≡ true → has_sides k ≡ true → is_flat k ≡ true → Wanted q (symbol_of k)
key_wanted q asks k values_pass sides_pass flat_pass =
    let s = symbol_of k in
    let va = both _ _ values_pass in
    let vb = both _ _ va.1 in
    let vc = both _ _ vb.1 in
    let one = both _ _ sides_pass in
    let sides = both _ _ one.1 in
    two_wanted q asks k.x k.y k.z k.a k.b k.c k.d (has_there _ _ va.0) (has_there _ _ vb.0) (has_there _ _ vc.0) (has_there _ _ vc.1)
    one.0 sides.0 sides.1 (eqb-true (2 * reciprocals s) (2 * all_degrees s) flat_pass)

key_member : (q : Request) → AsksForTwoChambers q → (k : Key) → is_member k ≡ true → IsMember q (symbol_of k)
key_member q asks k pass =
    let s = symbol_of k in
    let v = both _ _ pass in
    let sides = both _ _ v.1 in
    let last = both _ _ sides.1 in
    record {
      wanted = key_wanted q asks k v.0 sides.0 last.0;
      least = two_least k.x k.y k.z k.a k.b k.c k.d (not_above (code_cmp s (mirror s)) last.1);
    }

all_members : list_all is_member fifteen ≡ true
all_members = refl

keys_members : (q : Request) → AsksForTwoChambers q → (ks : List Key) → list_all is_member ks ≡ true → (s : Symbol) → Contains (map symbol_of ks) s → IsMember q s
keys_members q asks [] pass s there = absurd (Contains-none s there)
keys_members q asks (k ∷ ks) pass s there =
    let b = both (is_member k) (list_all is_member ks) pass in
    ⊎_elim (λ here. subst (IsMember q) here (key_member q asks k b.0)) (λ later. keys_members q asks ks b.1 s later) (Contains-cases (symbol_of k) s (map symbol_of ks) there)

-- ## Of both sizes

abbrev pub eighteen : List Symbol
eighteen = single_chambers ++ map symbol_of fifteen

abbrev is_row : List Symbol → Bool
is_row [] = true
is_row (s ∷ ss) = list_all (λ t. is_lt (code_cmp s t)) ss && is_row ss

all_below : (s : Symbol) (ss : List Symbol) → list_all (λ t. is_lt (code_cmp s t)) ss ≡ true → AllByRecursion (IsBelow s) ss
all_below s [] e = tt
all_below s (t ∷ ss) e = let b = both (is_lt (code_cmp s t)) (list_all (λ u. is_lt (code_cmp s u)) ss) e in (less_of (code_cmp s t) b.0, all_below s ss b.1)

row_ascending : (ss : List Symbol) → is_row ss ≡ true → IsAscending ss
row_ascending [] e = tt
row_ascending (s ∷ ss) e = let b = both (list_all (λ t. is_lt (code_cmp s t)) ss) (is_row ss) e in (all_below s ss b.0, row_ascending ss b.1)

-- a request with another limit of chambers
abbrev limited : Request → ℕ → Request
limited q n = record { chambers = n; tiles = q.tiles; vertices = q.vertices; faces = q.faces; degrees = q.degrees; minimal = q.minimal }

relimited : (q : Request) (n m : ℕ) (s : Symbol) → s.size ≤ m → Wanted (limited q n) s → Wanted (limited q m) s
relimited q n m s few w = record {
  symbol = w.symbol;
  connected = w.connected;
  chambers = few;
  tiles = w.tiles;
  vertices = w.vertices;
  faces = w.faces;
  degrees = w.degrees;
  face_branching = w.face_branching;
  vertex_branching = w.vertex_branching;
  flat = w.flat;
  minimal = w.minimal;
}

catalogue_of_singles : (q : Request) → AsksForTwoChambers q → IsCatalogue (limited q 1) single_chambers
catalogue_of_singles q a =
    catalogue_of_one (limited q 1) (record { chambers = refl; tiles = a.tiles; vertices = a.vertices; faces = a.faces; degrees = a.degrees })

listed_is_member : (q : Request) → AsksForTwoChambers q → (s : Symbol) → Contains eighteen s → IsMember q s
listed_is_member q asks s there =
    ⊎_elim
    (λ one.
    let m = ((catalogue_of_singles q asks).members s).0 one in
    let few = m.wanted.chambers in
    let most = asks.chambers in
    record { wanted = relimited q 1 q.chambers s (omega (arith, few, most)) m.wanted; least = m.least })
    (λ other. keys_members q asks fifteen all_members s other)
    (Contains-append_cases single_chambers (map symbol_of fifteen) s there)

-- a symbol that has a smaller code is no member
other_numbers : (q : Request) (k : Key) (s : Symbol) → code_cmp (symbol_of k) (mirror (symbol_of k)) ≡ Greater → IsMember q s → s ≡ symbol_of k → ⊥
other_numbers q k s above m same =
    let n = subst (IsMember q) same m in
    two_not_least k.x k.y k.z k.a k.b k.c k.d n.wanted.symbol above n.least

two_is_listed : (q : Request) → AsksForTwoChambers q → (s : Symbol) → IsMember q s → s.size ≡ 2 → Contains (map symbol_of fifteen) s
two_is_listed q asks s m size =
    let t = two_shape s m.wanted.symbol.table size in
    let k = key t.x t.y t.z t.a t.b t.c t.d in
    let there = wanted_found q asks t.x t.y t.z t.a t.b t.c t.d t.x_few t.y_few t.z_few (subst (Wanted q) t.is m.wanted) in
    ⊎_elim
    (λ first. absurd (other_numbers q (key 0 0 1 6 3 4 4) s refl m (t.is ∙ sym (ap symbol_of first))))
    (λ rest. ⊎_elim
    (λ second. absurd (other_numbers q (key 1 0 0 4 4 6 3) s refl m (t.is ∙ sym (ap symbol_of second))))
    (λ least. subst (Contains (map symbol_of fifteen)) (sym t.is) (Contains-map symbol_of fifteen k least))
    (Contains-cases (key 1 0 0 4 4 6 3) k fifteen rest))
    (Contains-cases (key 0 0 1 6 3 4 4) k (key 1 0 0 4 4 6 3 ∷ fifteen) there)

member_is_listed : (q : Request) → AsksForTwoChambers q → (s : Symbol) → IsMember q s → Contains eighteen s
member_is_listed q asks s m =
    let few = m.wanted.chambers in
    let most = asks.chambers in
    let some = m.wanted.symbol.table.chambers in
    ⊎_elim
    (λ one.
    Contains-append_left single_chambers (map symbol_of fifteen) s
    (((catalogue_of_singles q asks).members s).1 (record { wanted = relimited q q.chambers 1 s (omega (arith, one)) m.wanted; least = m.least })))
    (λ other. Contains-append_right single_chambers (map symbol_of fifteen) s (two_is_listed q asks s m (omega (arith, few, most, some, other))))
    (cases_eq s.size 1)

eighteen_catalogue : (q : Request) → AsksForTwoChambers q → IsCatalogue q eighteen
eighteen_catalogue q asks = record { ascending = row_ascending eighteen refl; members = λ s. (listed_is_member q asks s, member_is_listed q asks s) }

pub eighteen_seeds : (seeds : List Symbol) → AreSeeds seeds → seeds ≡ eighteen
eighteen_seeds seeds a = catalogue_unique a.request seeds eighteen a.catalogue (eighteen_catalogue a.request a.asks)

pub number_of_seeds : (seeds : List Symbol) → AreSeeds seeds → length seeds ≡ 18
number_of_seeds seeds a = ap length (eighteen_seeds seeds a)
