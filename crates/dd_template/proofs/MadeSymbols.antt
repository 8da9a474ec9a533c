-- What a lawful table makes of a symbol is a symbol.
use Rattle.std.proofs.Common.{◌≡◌, ℕ, ◌*◌, ◌≤◌, Option, Some, None, [], ◌∷◌, length, refl, sym, ap, ◌∙◌, subst, ⊎_elim, arith}
use Rattle.dd_model.specs.declared.index.Index.{Index}
use Rattle.dd_model.specs.declared.index.Index.TheVariants.{Zero, One, Two}
use Rattle.dd_model.specs.declared.pair.Pair.{Pair}
use Rattle.dd_model.specs.declared.pair.Pair.TheVariants.{Tile, Vertex, Edge}
use Rattle.dd_model.specs.Symbol.{Symbol, AreInvolutions, IsSymbol, IsTable, IsChamber, HasDegree, first, second, turn, degree, item, op, operation, power}
use Rattle.dd_model.specs.Cell.{turned}
use Rattle.dd_model.proofs.Numbers.{positive_product}
use Rattle.dd_template.specs.declared.tables.Degree.{Degree}
use Rattle.dd_template.specs.declared.tables.Degree.TheVariants.{OfTile, OfVertex, Fixed}
use Rattle.dd_template.specs.Table.{Table, IsPart, move, entry}
use Rattle.dd_template.specs.Made.{chamber_of, moved, degree_of, made}
use Rattle.dd_template.specs.Lawful.{IsLawful}
use Rattle.dd_template.specs.Moves.{AreUndone}
use Rattle.dd_template.specs.Entries.{GoesBy, Fits, AreConstant, AllFit, IsTurned, entries}
use Rattle.dd_template.proofs.PlaceLemmas.{place_of, item-of_parts, length-of_parts, chamber_of_within, op-made}
use Rattle.dd_template.proofs.ActLemmas.{act-back}
use Rattle.dd_template.proofs.TurnLemmas.{round_of, rounds}

pub moved_within : (s : Symbol) → AreInvolutions s → (by : Option Index) (d : ℕ) → IsChamber s d → IsChamber s (moved s by d)
moved_within s inv None d h = h
moved_within s inv (Some i) d h = (inv i).within d h

moved_twice : (s : Symbol) → AreInvolutions s → (by : Option Index) (d : ℕ) → IsChamber s d → moved s by (moved s by d) ≡ d
moved_twice s inv None d h = refl
moved_twice s inv (Some i) d h = (inv i).involutive d h

-- ## The table

image_twice : (t : Table) (s : Symbol) → AreUndone t → AreInvolutions s → (i : Index) (d x : ℕ) → IsChamber s d → IsPart t x
    → op (made t s) i (op (made t s) i (chamber_of t d x)) ≡ chamber_of t d x
image_twice t s undone inv i d x h inside =
    let m = move t i x in
    let back = undone i x inside in
    let there = moved_within s inv m.by d h in
    ap (op (made t s) i) (op-made t s i d x h inside)
    ∙ op-made t s i (moved s m.by d) m.to there back.part
    ∙ ap (λ b. chamber_of t (moved s b (moved s m.by d)) (move t i m.to).to) back.by
    ∙ ap (λ y. chamber_of t (moved s m.by (moved s m.by d)) y) back.back
    ∙ ap (λ e. chamber_of t e x) (moved_twice s inv m.by d h)

pub made_involutions : (t : Table) (s : Symbol) → 1 ≤ t.parts → AreUndone t → AreInvolutions s → AreInvolutions (made t s)
made_involutions t s some undone inv i = record {
  within = λ e h.
      let p = place_of t s e some h in
      let m = move t i p.part in
      let image = op-made t s i p.chamber p.part p.is_chamber p.is_part in
      let within = chamber_of_within t s (moved s m.by p.chamber) m.to (moved_within s inv m.by p.chamber p.is_chamber) (undone i p.part p.is_part).part in
      subst (λ y. IsChamber (made t s) (op (made t s) i y)) p.place (subst (IsChamber (made t s)) (sym image) within);
  involutive = λ e h.
      let p = place_of t s e some h in
      subst (λ y. op (made t s) i (op (made t s) i y) ≡ y) p.place (image_twice t s undone inv i p.chamber p.part p.is_chamber p.is_part);
}

made_lengths : (t : Table) (s : Symbol) (i : Index) → length (operation (made t s) i) ≡ s.size * t.parts
made_lengths t s Zero = length-of_parts t s (λ d x. chamber_of t (moved s (move t Zero x).by d) (move t Zero x).to)
made_lengths t s One = length-of_parts t s (λ d x. chamber_of t (moved s (move t One x).by d) (move t One x).to)
made_lengths t s Two = length-of_parts t s (λ d x. chamber_of t (moved s (move t Two x).by d) (move t Two x).to)

pub made_table : (t : Table) (s : Symbol) → 1 ≤ t.parts → AreUndone t → IsTable s → IsTable (made t s)
made_table t s some undone is = record {
  chambers = positive_product s.size t.parts is.chambers some;
  lengths = made_lengths t s;
  m01_length = length-of_parts t s (λ d x. degree_of s (entry t.face x) d);
  m12_length = length-of_parts t s (λ d x. degree_of s (entry t.degree x) d);
  involutions = made_involutions t s some undone is.involutions;
}

-- ## Degrees

-- the degree of tiles, or of vertices, at the parts comes from the entries of the pair
abbrev pub IsOfEntries : Table → Symbol → Pair → Type 0
IsOfEntries t s p = (d x : ℕ) → IsChamber s d → IsPart t x → degree (made t s) p (chamber_of t d x) ≡ degree_of s (entry (entries t p) x) d

tiles_of_entries : (t : Table) (s : Symbol) → IsOfEntries t s Tile
tiles_of_entries t s d x h inside = item-of_parts t s (λ e y. degree_of s (entry t.face y) e) d x h inside

vertices_of_entries : (t : Table) (s : Symbol) → IsOfEntries t s Vertex
vertices_of_entries t s d x h inside = item-of_parts t s (λ e y. degree_of s (entry t.degree y) e) d x h inside

-- a pair whose entries fit and are constant along its moves
pub record IsFitting (t : Table) (s : Symbol) (p : Pair) : Type 0 where
  pub of_entries : IsOfEntries t s p
  pub constant : AreConstant t p
  pub fit : AllFit t p

pub tiles_fit : (t : Table) (s : Symbol) → IsLawful t → IsFitting t s Tile
tiles_fit t s lawful = record { of_entries = tiles_of_entries t s; constant = lawful.entries.constant_face; fit = lawful.entries.face }

pub vertices_fit : (t : Table) (s : Symbol) → IsLawful t → IsFitting t s Vertex
vertices_fit t s lawful = record { of_entries = vertices_of_entries t s; constant = lawful.entries.constant_degree; fit = lawful.entries.degree }

degree_positive : (t : Table) (s : Symbol) → IsSymbol s → (p : Pair) (d x : ℕ) → IsChamber s d → (e : Degree) → Fits t p x e → 1 ≤ degree_of s e d
degree_positive t s is p d x h (OfTile c) fits = positive_product c (item s.m01 d) fits.1.positive (is.degrees Tile d h).positive
degree_positive t s is p d x h (OfVertex c) fits = positive_product c (item s.m12 d) fits.1.positive (is.degrees Vertex d h).positive
degree_positive t s is p d x h (Fixed m) fits = fits.0

-- an involution of the pair, or none, keeps the degree of the pair
degree_moved : (s : Symbol) → IsSymbol s → (q : Pair) (by : Option Index) (d : ℕ) → IsChamber s d → GoesBy q by → degree s q (moved s by d) ≡ degree s q d
degree_moved s is q None d h by = refl
degree_moved s is q (Some i) d h by =
    let has = is.degrees q d h in
    ⊎_elim
    (λ e. ap (λ j. degree s q (op s j d)) e ∙ has.along_first)
    (λ e. ap (λ j. degree s q (op s j d)) e ∙ has.along_second)
    by

degree_along_first : (t : Table) (s : Symbol) → IsSymbol s → (p : Pair) (d x : ℕ) → IsChamber s d → (e : Degree) → Fits t p x e
    → degree_of s e (moved s (move t (first p) x).by d) ≡ degree_of s e d
degree_along_first t s is p d x h (OfTile c) fits = ap (λ m. c * m) (degree_moved s is Tile (move t (first p) x).by d h fits.0.first)
degree_along_first t s is p d x h (OfVertex c) fits = ap (λ m. c * m) (degree_moved s is Vertex (move t (first p) x).by d h fits.0.first)
degree_along_first t s is p d x h (Fixed m) fits = refl

degree_along_second : (t : Table) (s : Symbol) → IsSymbol s → (p : Pair) (d x : ℕ) → IsChamber s d → (e : Degree) → Fits t p x e
    → degree_of s e (moved s (move t (second p) x).by d) ≡ degree_of s e d
degree_along_second t s is p d x h (OfTile c) fits = ap (λ m. c * m) (degree_moved s is Tile (move t (second p) x).by d h fits.0.second)
degree_along_second t s is p d x h (OfVertex c) fits = ap (λ m. c * m) (degree_moved s is Vertex (move t (second p) x).by d h fits.0.second)
degree_along_second t s is p d x h (Fixed m) fits = refl

-- c rounds for each turn that fixes the chamber
round_turns : (t : Table) (s : Symbol) → AreUndone t → IsSymbol s → (p q : Pair) (d x c : ℕ) → IsChamber s d → IsPart t x → IsTurned t p q x c
    → turned (made t s) p (c * degree s q d) (chamber_of t d x) ≡ chamber_of t d x
round_turns t s undone is p q d x c h inside turns =
    let inv = is.table.involutions in
    let r = round_of t s undone is p q x c inside turns in
    let m = degree s q d in
    rounds t s inv p q x c r m d h ∙ ap (λ y. chamber_of t y x) (r.fixed m d h (is.degrees q d h).turns)

degree_turns : (t : Table) (s : Symbol) → AreUndone t → IsSymbol s → (p : Pair) (d x : ℕ) → IsChamber s d → IsPart t x → (e : Degree) → Fits t p x e
    → turned (made t s) p (degree_of s e d) (chamber_of t d x) ≡ chamber_of t d x
degree_turns t s undone is p d x h inside (OfTile c) fits = round_turns t s undone is p Tile d x c h inside fits.1
degree_turns t s undone is p d x h inside (OfVertex c) fits = round_turns t s undone is p Vertex d x c h inside fits.1
degree_turns t s undone is p d x h inside (Fixed m) fits = act-back t s undone is (power (turn p) m) d x [] h inside fits.2

-- the degree at a part along a move of the pair
degree_along : (t : Table) (s : Symbol) → IsSymbol s → AreUndone t → (p : Pair) → IsOfEntries t s p → (i : Index) (d x : ℕ) → IsChamber s d → IsPart t x
    → entry (entries t p) (move t i x).to ≡ entry (entries t p) x
    → degree_of s (entry (entries t p) x) (moved s (move t i x).by d) ≡ degree_of s (entry (entries t p) x) d
    → degree (made t s) p (op (made t s) i (chamber_of t d x)) ≡ degree (made t s) p (chamber_of t d x)
degree_along t s is undone p of_entries i d x h inside constant same =
    let m = move t i x in
    let there = moved_within s is.table.involutions m.by d h in
    ap (degree (made t s) p) (op-made t s i d x h inside)
    ∙ of_entries (moved s m.by d) m.to there (undone i x inside).part
    ∙ ap (λ e. degree_of s e (moved s m.by d)) constant
    ∙ same
    ∙ sym (of_entries d x h inside)

has_degree : (t : Table) (s : Symbol) → AreUndone t → IsSymbol s → (p : Pair) → IsFitting t s p → (d x : ℕ) → IsChamber s d → IsPart t x
    → HasDegree (made t s) p (chamber_of t d x)
has_degree t s undone is p fitting d x h inside =
    let e = entry (entries t p) x in
    let fits : Fits t p x (entry (entries t p) x) = fitting.fit x inside in
    let constant = fitting.constant x inside in
    let is_degree = fitting.of_entries d x h inside in
    record {
      positive = subst (λ m. 1 ≤ m) (sym is_degree) (degree_positive t s is p d x h e fits);
      along_first = degree_along t s is undone p fitting.of_entries (first p) d x h inside constant.0 (degree_along_first t s is p d x h e fits);
      along_second = degree_along t s is undone p fitting.of_entries (second p) d x h inside constant.1 (degree_along_second t s is p d x h e fits);
      turns = ap (λ m. turned (made t s) p m (chamber_of t d x)) is_degree ∙ degree_turns t s undone is p d x h inside e fits;
    }

made_degrees : (t : Table) (s : Symbol) → IsLawful t → IsSymbol s → (p : Pair) (d x : ℕ) → IsChamber s d → IsPart t x → HasDegree (made t s) p (chamber_of t d x)
made_degrees t s lawful is Tile d x h inside = has_degree t s lawful.moves.undone is Tile (tiles_fit t s lawful) d x h inside
made_degrees t s lawful is Vertex d x h inside = has_degree t s lawful.moves.undone is Vertex (vertices_fit t s lawful) d x h inside
made_degrees t s lawful is Edge d x h inside = record {
  positive = omega arith;
  along_first = refl;
  along_second = refl;
  turns = act-back t s lawful.moves.undone is (Zero ∷ Two ∷ Zero ∷ Two ∷ []) d x [] h inside (lawful.moves.commuting x inside);
}

pub made_symbol : (t : Table) (s : Symbol) → IsLawful t → IsSymbol s → IsSymbol (made t s)
made_symbol t s lawful is = record {
  table = made_table t s lawful.lists.some lawful.moves.undone is.table;
  degrees = λ p e h.
      let place = place_of t s e lawful.lists.some h in
      subst (HasDegree (made t s) p) place.place (made_degrees t s lawful is p place.chamber place.part place.is_chamber place.is_part);
}
