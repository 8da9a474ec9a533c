-- A search for all that a lawful table must have. For a table that is written out it computes, so that
-- `lawful table tt` proves that the table is lawful.
use Rattle.std.proofs.Common.{◌≡◌, ◌≢◌, ℕ, zero, suc, ◌+◌, ◌-◌, ◌*◌, ◌<◌, ◌≤◌, Bool, true, false, [], ◌∷◌, Option, Some, None, length, refl, ap, subst, inl, inr, ⊎_elim, arith}
use Rattle.std.specs.Prelude.{eqb}
use Rattle.std.proofs.lemmas.Bool.{eqb-true, eq-eqb, ltb-true, cases_lt}
use Rattle.std.proofs.Math.Dec.{ltb}
use Rattle.dd_model.specs.declared.index.Index.{Index}
use Rattle.dd_model.specs.declared.index.Index.TheVariants.{Zero, One, Two}
use Rattle.dd_model.specs.declared.pair.Pair.{Pair}
use Rattle.dd_model.specs.declared.pair.Pair.TheVariants.{Tile, Vertex}
use Rattle.dd_model.specs.Symbol.{Word, power, turn, first, second}
use Rattle.dd_template.specs.declared.tables.Degree.{Degree}
use Rattle.dd_template.specs.declared.tables.Degree.TheVariants.{OfTile, OfVertex, Fixed}
use Rattle.dd_template.specs.Table.{Table, IsPart, move, moves, entry, part_after}
use Rattle.dd_template.specs.Reduced.{carried}
use Rattle.dd_template.specs.Moves.{LeadsBack, IsUndone, AreUndone, Commute}
use Rattle.dd_template.specs.Connecting.{IsSilent, IsJoined, AreJoined, IsUsed, AreUsed}
use Rattle.dd_template.specs.Entries.{entries, GoesBy, GoWithin, IsApart, IsTurned, Fits, IsConstant, AreConstant, AllFit}
use Rattle.dd_template.specs.declared.tables.MultipleOf.TheVariants as kind
use Rattle.dd_template.specs.Shares.{KeepsCurvature, share, curvature_unit}
use Rattle.std.specs.List.{sum_by}
use Rattle.dd_template.specs.Lawful.{HaveParts, HaveMoves, HaveEntries, IsLawful}

-- ## Facts that are found

-- a fact that is found where a test passes
abbrev when : {A : Type 0} (b : Bool) → (b ≡ true → A) → Option A
when true f = Some (f refl)
when false f = None

-- a fact that is found where a test fails
abbrev unless : {A : Type 0} (b : Bool) → (b ≡ false → A) → Option A
unless true f = None
unless false f = Some (f refl)

-- the next search, where a fact is found
abbrev also : {A B : Type 0} → Option A → (A → Option B) → Option B
also None f = None
also (Some a) f = f a

-- the first of two that is found
abbrev or_else : {A : Type 0} → Option A → Option A → Option A
or_else None o = o
or_else (Some a) o = Some a

abbrev IsFound : {A : Type 0} → Option A → Type 0
IsFound None = ⊥
IsFound (Some a) = Unit {0}

found : {A : Type 0} (o : Option A) → IsFound o → A
found None none = absurd none
found (Some a) some = a

pub last_or : (P : ℕ → Type 0) (n x : ℕ) → P n → ((y : ℕ) → y < n → P y) → x < suc n → P x
last_or P n x last rest h = ⊎_elim (rest x) (λ high. let e : n ≡ x = omega arith in subst P e last) (cases_lt x n)

-- for all numbers below n
abbrev for_all : (P : ℕ → Type 0) (n : ℕ) → ((x : ℕ) → Option (P x)) → Option ((x : ℕ) → x < n → P x)
for_all P zero f = Some (λ x h. absurd (omega arith))
for_all P (suc n) f = also (f n) (λ last. also (for_all P n f) (λ rest. Some (λ x h. last_or P n x last rest h)))

-- for one of the numbers below n
abbrev for_one : (P : ℕ → Type 0) (n : ℕ) → ((x : ℕ) → Option (P x)) → Option ((x : ℕ) × (x < n) × P x)
for_one P zero f = None
for_one P (suc n) f = or_else (also (f n) (λ p. Some (n, omega arith, p))) (also (for_one P n f) (λ there. let low = there.1 in Some (there.0, omega arith, there.2)))

-- ## Equality

pub differ : (a b : ℕ) → eqb a b ≡ false → a ≢ b
differ a b not e = let yes = eq-eqb a b e in absurd (cc)

abbrev equal : (a b : ℕ) → Option (a ≡ b)
equal a b = when (eqb a b) (eqb-true a b)

abbrev below : (a b : ℕ) → Option (a < b)
below a b = when (ltb a b) (ltb-true a b)

abbrev equal_index : (i j : Index) → Option (i ≡ j)
equal_index Zero Zero = Some refl
equal_index Zero One = None
equal_index Zero Two = None
equal_index One Zero = None
equal_index One One = Some refl
equal_index One Two = None
equal_index Two Zero = None
equal_index Two One = None
equal_index Two Two = Some refl

abbrev equal_by : (i j : Option Index) → Option (i ≡ j)
equal_by None None = Some refl
equal_by None (Some j) = None
equal_by (Some i) None = None
equal_by (Some i) (Some j) = also (equal_index i j) (λ e. Some (ap (λ k. Some k) e))

abbrev equal_word : (v w : Word) → Option (v ≡ w)
equal_word [] [] = Some refl
equal_word [] (j ∷ w) = None
equal_word (i ∷ v) [] = None
equal_word (i ∷ v) (j ∷ w) = also (equal_index i j) (λ e. also (equal_word v w) (λ f. Some (λ k. e k ∷ f k)))

abbrev equal_degree : (c d : Degree) → Option (c ≡ d)
equal_degree (OfTile a) (OfTile b) = also (equal a b) (λ e. Some (ap (λ n. OfTile n) e))
equal_degree (OfTile a) (OfVertex b) = None
equal_degree (OfTile a) (Fixed b) = None
equal_degree (OfVertex a) (OfTile b) = None
equal_degree (OfVertex a) (OfVertex b) = also (equal a b) (λ e. Some (ap (λ n. OfVertex n) e))
equal_degree (OfVertex a) (Fixed b) = None
equal_degree (Fixed a) (OfTile b) = None
equal_degree (Fixed a) (OfVertex b) = None
equal_degree (Fixed a) (Fixed b) = also (equal a b) (λ e. Some (ap (λ n. Fixed n) e))

-- ## Moves

abbrev by_all : (P : Index → Type 0) → ((i : Index) → Option (P i)) → Option ((i : Index) → P i)
by_all P f =
    also (f Zero) (λ zero. also (f One) (λ one. also (f Two) (λ two. Some (λ i. elim i as P [ Zero ↦ zero | One ↦ one | Two ↦ two ]))))

abbrev leads_back : (t : Table) (w : Word) (x : ℕ) (to : Word) → Option (LeadsBack t w x to)
leads_back t w x to = also (equal (part_after t w x) x) (λ part. also (equal_word (carried t w x []) to) (λ word. Some (record { part = part; word = word })))

abbrev undone_at : (t : Table) (i : Index) (x : ℕ) → Option (IsUndone t i x)
undone_at t i x =
    let there = move t i x in
    let back = move t i there.to in
    also (below there.to t.parts) (λ part. also (equal_by back.by there.by) (λ by. also (equal back.to x) (λ to.
    Some (record { part = part; by = by; back = to }))))

abbrev undone : (t : Table) → Option (AreUndone t)
undone t = by_all (λ i. (x : ℕ) → IsPart t x → IsUndone t i x) (λ i. for_all (IsUndone t i) t.parts (undone_at t i))

abbrev commuting : (t : Table) → Option (Commute t)
commuting t =
    let w = Zero ∷ Two ∷ Zero ∷ Two ∷ [] in
    for_all (λ x. LeadsBack t w x []) t.parts (λ x. leads_back t w x [])

-- some moves without an involution of the chamber lead from one part to another
record IsPath (t : Table) (from to : ℕ) : Type 0 where
  word : Word
  leads : part_after t word from ≡ to
  silent : IsSilent t word from

abbrev path_by : (t : Table) (i : Index) (from to : ℕ) → Option (IsPath t (move t i from).to to) → Option (IsPath t from to)
path_by t i from to rest =
    also (equal_by (move t i from).by None) (λ silent. also rest (λ p. Some (record { word = i ∷ p.word; leads = p.leads; silent = (silent, p.silent) })))

abbrev here : (t : Table) (from to : ℕ) → Option (IsPath t from to)
here t from to = also (equal from to) (λ e. Some (record { word = []; leads = e; silent = tt }))

-- a path of at most n moves
abbrev path : (t : Table) (n from to : ℕ) → Option (IsPath t from to)
path t zero from to = here t from to
path t (suc n) from to =
    or_else (here t from to) (or_else (path_by t Zero from to (path t n (move t Zero from).to to))
    (or_else (path_by t One from to (path t n (move t One from).to to)) (path_by t Two from to (path t n (move t Two from).to to))))

abbrev joined : (t : Table) → Option (AreJoined t)
joined t = for_all (IsJoined t) t.parts (λ x. also (path t t.parts 0 x) (λ p. Some (record { word = p.word; leads = p.leads; silent = p.silent })))

abbrev used_by : (t : Table) (i j : Index) → Option (IsUsed t i)
used_by t i j = also (for_one (λ x. (move t j x).by ≡ Some i) t.parts (λ x. equal_by (move t j x).by (Some i))) (λ there.
    Some (record { index = j; from = there.0; part = there.1; by = there.2 }))

abbrev used : (t : Table) → Option (AreUsed t)
used t = by_all (IsUsed t) (λ i. or_else (used_by t i Zero) (or_else (used_by t i One) (used_by t i Two)))

abbrev have_moves : (t : Table) → Option (HaveMoves t)
have_moves t = also (undone t) (λ a. also (commuting t) (λ b. also (joined t) (λ c. also (used t) (λ d.
    Some (record { undone = a; commuting = b; joined = c; used = d })))))

-- ## Entries

abbrev goes_by : (q : Pair) (by : Option Index) → Option (GoesBy q by)
goes_by q None = Some tt
goes_by q (Some i) = or_else (also (equal_index i (first q)) (λ e. Some (inl e))) (also (equal_index i (second q)) (λ e. Some (inr e)))

abbrev go_within : (t : Table) (p q : Pair) (x : ℕ) → Option (GoWithin t p q x)
go_within t p q x = also (goes_by q (move t (first p) x).by) (λ a. also (goes_by q (move t (second p) x).by) (λ b. Some (record { first = a; second = b })))

abbrev apart_at : (t : Table) (p : Pair) (x k : ℕ) → Option (1 ≤ k → part_after t (power (turn p) k) x ≢ x)
apart_at t p x zero = Some (λ low. absurd (omega arith))
apart_at t p x (suc k) =
    let there = part_after t (power (turn p) (suc k)) x in
    unless (eqb there x) (λ not low. differ there x not)

abbrev apart : (t : Table) (p : Pair) (x c : ℕ) → Option (IsApart t p x c)
apart t p x c =
    also (for_all (λ k. 1 ≤ k → part_after t (power (turn p) k) x ≢ x) c (apart_at t p x)) (λ f. Some (λ k low high. f k high low))

abbrev turned : (t : Table) (p q : Pair) (x c : ℕ) → Option (IsTurned t p q x c)
turned t p q x c =
    let w = power (turn p) c in
    let back = or_else (also (leads_back t w x (first q ∷ second q ∷ [])) (λ b. Some (inl b))) (also (leads_back t w x (second q ∷ first q ∷ [])) (λ b. Some (inr b))) in
    also (below 0 c) (λ low. also (below c (suc t.parts)) (λ high. also back (λ b. also (apart t p x c) (λ f.
    Some (record { positive = omega arith; within = omega arith; back = b; first_time = f })))))

abbrev fits : (t : Table) (p : Pair) (x : ℕ) (e : Degree) → Option (Fits t p x e)
fits t p x (OfTile c) = also (go_within t p Tile x) (λ a. also (turned t p Tile x c) (λ b. Some (a, b)))
fits t p x (OfVertex c) = also (go_within t p Vertex x) (λ a. also (turned t p Vertex x c) (λ b. Some (a, b)))
fits t p x (Fixed m) =
    also (below 0 m) (λ low. also (below m 31) (λ high. also (leads_back t (power (turn p) m) x []) (λ b. Some (omega arith, omega arith, b))))

abbrev all_fit : (t : Table) (p : Pair) → Option (AllFit t p)
all_fit t p = for_all (λ x. Fits t p x (entry (entries t p) x)) t.parts (λ x. fits t p x (entry (entries t p) x))

abbrev constant_at : (t : Table) (p : Pair) (x : ℕ) → Option (IsConstant t p x)
constant_at t p x =
    let own = entry (entries t p) x in
    also (equal_degree (entry (entries t p) (move t (first p) x).to) own) (λ a. also (equal_degree (entry (entries t p) (move t (second p) x).to) own) (λ b. Some (a, b)))

abbrev are_constant : (t : Table) (p : Pair) → Option (AreConstant t p)
are_constant t p = for_all (IsConstant t p) t.parts (constant_at t p)

abbrev keeps_curvature : (t : Table) → Option (KeepsCurvature t)
keeps_curvature t =
    also (equal (sum_by (share kind.Tile) t.face + sum_by (share kind.Tile) t.degree) curvature_unit) (λ a.
    also (equal (sum_by (share kind.Vertex) t.face + sum_by (share kind.Vertex) t.degree) curvature_unit) (λ b.
    also (equal (2 * (sum_by (share kind.Neither) t.face + sum_by (share kind.Neither) t.degree)) ((t.parts - 1) * curvature_unit)) (λ c.
    Some (record { tiles = a; vertices = b; fixed = c }))))

abbrev have_entries : (t : Table) → Option (HaveEntries t)
have_entries t =
    also (are_constant t Tile) (λ a. also (are_constant t Vertex) (λ b. also (all_fit t Tile) (λ c. also (all_fit t Vertex) (λ d. also (keeps_curvature t) (λ e.
    Some (record { constant_face = a; constant_degree = b; face = c; degree = d; curvature = e }))))))

-- ## Tables

abbrev have_parts : (t : Table) → Option (HaveParts t)
have_parts t =
    also (below 0 t.parts) (λ some. also (below t.parts 65) (λ few. also (by_all (λ i. length (moves t i) ≡ t.parts) (λ i. equal (length (moves t i)) t.parts)) (λ rows.
    also (equal (length t.face) t.parts) (λ face. also (equal (length t.degree) t.parts) (λ degree.
    Some (record { some = omega arith; few = omega arith; moves = rows; face = face; degree = degree }))))))

abbrev search_lawful : (t : Table) → Option (IsLawful t)
search_lawful t = also (have_parts t) (λ a. also (have_moves t) (λ b. also (have_entries t) (λ c. Some (record { lists = a; moves = b; entries = c }))))

-- a table is lawful where all is found
pub lawful : (t : Table) → IsFound (search_lawful t) → IsLawful t
lawful t = found (search_lawful t)
