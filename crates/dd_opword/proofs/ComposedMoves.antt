-- The moves of two lawful tables as one lead back, commute, join all parts and use all involutions.
use Rattle.std.proofs.Common.{◌≡◌, ℕ, ◌≤◌, [], ◌∷◌, ◌++◌, Option, Some, None, refl, sym, ap, ◌∙◌, subst, ⊎_elim, arith}
use Rattle.dd_model.specs.declared.index.Index.{Index}
use Rattle.dd_model.specs.declared.index.Index.TheVariants.{Zero, Two}
use Rattle.dd_model.specs.declared.pair.Pair.{Pair}
use Rattle.dd_model.specs.declared.pair.Pair.TheVariants.{Tile, Vertex}
use Rattle.dd_model.specs.Symbol.{Word, first, second}
use Rattle.dd_template.specs.declared.tables.Degree.{Degree}
use Rattle.dd_template.specs.declared.tables.Degree.TheVariants.{OfTile, OfVertex, Fixed}
use Rattle.dd_template.specs.Table.{Table, IsPart, move, entry, part_after}
use Rattle.dd_template.specs.Moves.{IsUndone, AreUndone, Commute, LeadsBack}
use Rattle.dd_template.specs.Connecting.{IsSilent, AreJoined, AreUsed}
use Rattle.dd_template.specs.Entries.{entries, GoesBy, Fits, AreConstant}
use Rattle.dd_template.specs.Lawful.{IsLawful}
use Rattle.dd_template.proofs.JoinedLemmas.{part_after-append, silent-append}
use Rattle.dd_opword.specs.Composed.{part_in, inner_move, times, composed_degree, composed}
use Rattle.dd_opword.proofs.ComposedParts.{parts_of_part, part_within, move-composed, entry-composed, IsOfEntries}
use Rattle.dd_opword.proofs.InnerStates.{State, IsState, AreTogether, part-run, word-run, run-back}

pub together : (outer inner : Table) → IsLawful outer → IsLawful inner → AreTogether outer inner
together outer inner lawful inner_lawful = record {
  outer_undone = lawful.moves.undone;
  inner_undone = inner_lawful.moves.undone;
  commuting = inner_lawful.moves.commuting;
}

-- ## Moves lead back

-- what an outer move does to the inner part
abbrev pub inner_part : Table → Option Index → ℕ → ℕ
inner_part inner None y = y
inner_part inner (Some j) y = (move inner j y).to

abbrev pub inner_by : Table → Option Index → ℕ → Option Index
inner_by inner None y = None
inner_by inner (Some j) y = (move inner j y).by

pub inner_move-to : (outer inner : Table) (y : ℕ) (by : Option Index) (to : ℕ) → (inner_move outer inner y by to).to ≡ part_in outer (inner_part inner by y) to
inner_move-to outer inner y None to = refl
inner_move-to outer inner y (Some j) to = refl

pub inner_move-by : (outer inner : Table) (y : ℕ) (by : Option Index) (to : ℕ) → (inner_move outer inner y by to).by ≡ inner_by inner by y
inner_move-by outer inner y None to = refl
inner_move-by outer inner y (Some j) to = refl

pub inner_part_within : (inner : Table) → AreUndone inner → (by : Option Index) (y : ℕ) → IsPart inner y → IsPart inner (inner_part inner by y)
inner_part_within inner undone None y h = h
inner_part_within inner undone (Some j) y h = (undone j y h).part

inner_part_back : (inner : Table) → AreUndone inner → (by : Option Index) (y : ℕ) → IsPart inner y → inner_part inner by (inner_part inner by y) ≡ y
inner_part_back inner undone None y h = refl
inner_part_back inner undone (Some j) y h = (undone j y h).back

inner_by_back : (inner : Table) → AreUndone inner → (by : Option Index) (y : ℕ) → IsPart inner y → inner_by inner by (inner_part inner by y) ≡ inner_by inner by y
inner_by_back inner undone None y h = refl
inner_by_back inner undone (Some j) y h = (undone j y h).by

-- a move of both, by its parts
pub to-composed : (outer inner : Table) (i : Index) (y x : ℕ) → IsPart inner y → IsPart outer x
    → (move (composed outer inner) i (part_in outer y x)).to ≡ part_in outer (inner_part inner (move outer i x).by y) (move outer i x).to
to-composed outer inner i y x hy hx = ap (λ m. m.to) (move-composed outer inner i y x hy hx) ∙ inner_move-to outer inner y (move outer i x).by (move outer i x).to

pub by-composed : (outer inner : Table) (i : Index) (y x : ℕ) → IsPart inner y → IsPart outer x
    → (move (composed outer inner) i (part_in outer y x)).by ≡ inner_by inner (move outer i x).by y
by-composed outer inner i y x hy hx = ap (λ m. m.by) (move-composed outer inner i y x hy hx) ∙ inner_move-by outer inner y (move outer i x).by (move outer i x).to

undone_at : (outer inner : Table) → AreUndone outer → AreUndone inner → (i : Index) (y x : ℕ) → IsPart inner y → IsPart outer x
    → IsUndone (composed outer inner) i (part_in outer y x)
undone_at outer inner undone inner_undone i y x hy hx =
    let all = composed outer inner in
    let m = move outer i x in
    let back = undone i x hx in
    let v = inner_part inner m.by y in
    let hv = inner_part_within inner inner_undone m.by y hy in
    let to = to-composed outer inner i y x hy hx in
    let home = to-composed outer inner i v m.to hv back.part in
    let by = by-composed outer inner i v m.to hv back.part in
    record {
      part = subst (IsPart all) (sym to) (part_within outer inner v m.to hv back.part);
      by = ap (λ z. (move all i z).by) to
          ∙ by
          ∙ ap (λ b. inner_by inner b v) back.by
          ∙ inner_by_back inner inner_undone m.by y hy
          ∙ sym (by-composed outer inner i y x hy hx);
      back = ap (λ z. (move all i z).to) to
          ∙ home
          ∙ ap (λ b. part_in outer (inner_part inner b v) (move outer i m.to).to) back.by
          ∙ ap (λ w. part_in outer w (move outer i m.to).to) (inner_part_back inner inner_undone m.by y hy)
          ∙ ap (part_in outer y) back.back;
    }

pub undone_composed : (outer inner : Table) → 1 ≤ outer.parts → AreUndone outer → AreUndone inner → AreUndone (composed outer inner)
undone_composed outer inner some undone inner_undone i z h =
    let p = parts_of_part outer inner z some h in
    subst (IsUndone (composed outer inner) i) p.place (undone_at outer inner undone inner_undone i p.inner_part p.outer_part p.is_inner p.is_outer)

-- ## The moves of 0 and 2 commute

pub commute_composed : (outer inner : Table) → IsLawful outer → IsLawful inner → Commute (composed outer inner)
commute_composed outer inner lawful inner_lawful z h =
    let all = composed outer inner in
    let both = together outer inner lawful inner_lawful in
    let p = parts_of_part outer inner z lawful.lists.some h in
    let w = Zero ∷ Two ∷ Zero ∷ Two ∷ [] in
    let a : State = record { part = p.inner_part; word = [] } in
    let state : IsState inner a = record { part = p.is_inner; word = tt } in
    let there = run-back outer inner both w [] a p.outer_part state p.is_outer (lawful.moves.commuting p.outer_part p.is_outer) in
    let start : State = record { part = part_in outer p.inner_part p.outer_part; word = [] } in
    subst (λ y. LeadsBack all w y []) p.place
    (record {
      part = sym (part-run all w start) ∙ ap (λ b. b.part) there;
      word = sym (word-run all w start) ∙ ap (λ b. b.word) there;
    })

-- ## Parts are joined

-- moves that go by no involution lead from one part to another
record IsWay (t : Table) (x y : ℕ) : Type 0 where
  pub word : Word
  pub leads : part_after t word x ≡ y
  pub silent : IsSilent t word x

way-trans : (t : Table) (x y z : ℕ) → IsWay t x y → IsWay t y z → IsWay t x z
way-trans t x y z a b = record {
  word = a.word ++ b.word;
  leads = part_after-append t a.word b.word x ∙ ap (part_after t b.word) a.leads ∙ b.leads;
  silent = silent-append t a.word b.word x a.silent (subst (IsSilent t b.word) (sym a.leads) b.silent);
}

-- one move
way-one : (t : Table) (i : Index) (x y : ℕ) → (move t i x).by ≡ None → (move t i x).to ≡ y → IsWay t x y
way-one t i x y by to = record { word = i ∷ []; leads = to; silent = (by, tt) }

-- and back
way-back : (t : Table) → AreUndone t → (w : Word) (x : ℕ) → IsPart t x → IsSilent t w x → IsWay t (part_after t w x) x
way-back t undone [] x h silent = record { word = []; leads = refl; silent = tt }
way-back t undone (i ∷ w) x h silent =
    let m = move t i x in
    let back = undone i x h in
    way-trans t (part_after t w m.to) m.to x (way-back t undone w m.to back.part silent.1)
    (way-one t i m.to x (back.by ∙ silent.0) back.back)

-- all parts of a lawful table
way-between : (t : Table) → IsLawful t → (x y : ℕ) → IsPart t x → IsPart t y → IsWay t x y
way-between t lawful x y hx hy =
    let a = lawful.moves.joined x hx in
    let b = lawful.moves.joined y hy in
    let home = way-back t lawful.moves.undone a.word 0 lawful.lists.some a.silent in
    way-trans t x 0 y (subst (λ z. IsWay t z 0) a.leads home) (record { word = b.word; leads = b.leads; silent = b.silent })

-- an outer way, in one inner part
outer_way : (outer inner : Table) → AreUndone outer → (w : Word) (y x : ℕ) → IsPart inner y → IsPart outer x → IsSilent outer w x
    → IsWay (composed outer inner) (part_in outer y x) (part_in outer y (part_after outer w x))
outer_way outer inner undone [] y x hy hx silent = record { word = []; leads = refl; silent = tt }
outer_way outer inner undone (i ∷ w) y x hy hx silent =
    let m = move outer i x in
    let by = by-composed outer inner i y x hy hx ∙ ap (λ b. inner_by inner b y) silent.0 in
    let to = to-composed outer inner i y x hy hx ∙ ap (λ b. part_in outer (inner_part inner b y) m.to) silent.0 in
    way-trans (composed outer inner) (part_in outer y x) (part_in outer y m.to) (part_in outer y (part_after outer w m.to))
    (way-one (composed outer inner) i (part_in outer y x) (part_in outer y m.to) by to)
    (outer_way outer inner undone w y m.to hy (undone i x hx).part silent.1)

-- between two outer parts of one inner part
within_inner : (outer inner : Table) → IsLawful outer → (y x z : ℕ) → IsPart inner y → IsPart outer x → IsPart outer z
    → IsWay (composed outer inner) (part_in outer y x) (part_in outer y z)
within_inner outer inner lawful y x z hy hx hz =
    let w = way-between outer lawful x z hx hz in
    subst (λ u. IsWay (composed outer inner) (part_in outer y x) (part_in outer y u)) w.leads (outer_way outer inner lawful.moves.undone w.word y x hy hx w.silent)

-- an inner move, which some outer move uses
inner_way : (outer inner : Table) → IsLawful outer → AreUndone inner → (j : Index) (y : ℕ) → IsPart inner y → (move inner j y).by ≡ None
    → IsWay (composed outer inner) (part_in outer y 0) (part_in outer (move inner j y).to 0)
inner_way outer inner lawful undone j y hy silent =
    let all = composed outer inner in
    let u = lawful.moves.used j in
    let m = move outer u.index u.from in
    let v = (move inner j y).to in
    let hv = (undone j y hy).part in
    let hm = (lawful.moves.undone u.index u.from u.part).part in
    let by = by-composed outer inner u.index y u.from hy u.part ∙ ap (λ b. inner_by inner b y) u.by ∙ silent in
    let to = to-composed outer inner u.index y u.from hy u.part ∙ ap (λ b. part_in outer (inner_part inner b y) m.to) u.by in
    way-trans all (part_in outer y 0) (part_in outer y u.from) (part_in outer v 0)
    (within_inner outer inner lawful y 0 u.from hy lawful.lists.some u.part)
    (way-trans all (part_in outer y u.from) (part_in outer v m.to) (part_in outer v 0)
    (way-one all u.index (part_in outer y u.from) (part_in outer v m.to) by to)
    (within_inner outer inner lawful v m.to 0 hv hm lawful.lists.some))

inner_ways : (outer inner : Table) → IsLawful outer → AreUndone inner → (w : Word) (y : ℕ) → IsPart inner y → IsSilent inner w y
    → IsWay (composed outer inner) (part_in outer y 0) (part_in outer (part_after inner w y) 0)
inner_ways outer inner lawful undone [] y hy silent = record { word = []; leads = refl; silent = tt }
inner_ways outer inner lawful undone (j ∷ w) y hy silent =
    let v = (move inner j y).to in
    way-trans (composed outer inner) (part_in outer y 0) (part_in outer v 0) (part_in outer (part_after inner w v) 0)
    (inner_way outer inner lawful undone j y hy silent.0)
    (inner_ways outer inner lawful undone w v (undone j y hy).part silent.1)

pub joined_composed : (outer inner : Table) → IsLawful outer → IsLawful inner → AreJoined (composed outer inner)
joined_composed outer inner lawful inner_lawful z h =
    let all = composed outer inner in
    let p = parts_of_part outer inner z lawful.lists.some h in
    let j = inner_lawful.moves.joined p.inner_part p.is_inner in
    let over = inner_ways outer inner lawful inner_lawful.moves.undone j.word 0 inner_lawful.lists.some j.silent in
    let there = subst (λ y. IsWay all (part_in outer 0 0) (part_in outer y 0)) j.leads over in
    let whole = way-trans all (part_in outer 0 0) (part_in outer p.inner_part 0) (part_in outer p.inner_part p.outer_part) there
    (within_inner outer inner lawful p.inner_part 0 p.outer_part p.is_inner lawful.lists.some p.is_outer) in
    let start : part_in outer 0 0 ≡ 0 = omega arith in
    record {
      word = whole.word;
      leads = ap (part_after all whole.word) (sym start) ∙ whole.leads ∙ p.place;
      silent = subst (IsSilent all whole.word) start whole.silent;
    }

pub used_composed : (outer inner : Table) → IsLawful outer → IsLawful inner → AreUsed (composed outer inner)
used_composed outer inner lawful inner_lawful i =
    let u = inner_lawful.moves.used i in
    let o = lawful.moves.used u.index in
    record {
      index = o.index;
      from = part_in outer u.from o.from;
      part = part_within outer inner u.from o.from u.part o.part;
      by = by-composed outer inner o.index u.from o.from u.part o.part ∙ ap (λ b. inner_by inner b u.from) o.by ∙ u.by;
    }

-- ## Entries are equal along moves

-- the entry of a tile or of a vertex of the inner table along an involution of it
along : (inner : Table) (q : Pair) → AreConstant inner q → (by : Option Index) (y : ℕ) → IsPart inner y → GoesBy q by
    → entry (entries inner q) (inner_part inner by y) ≡ entry (entries inner q) y
along inner q constant None y h goes = refl
along inner q constant (Some j) y h goes =
    ⊎_elim
    (λ e. ap (λ i. entry (entries inner q) (move inner i y).to) e ∙ (constant y h).0)
    (λ e. ap (λ i. entry (entries inner q) (move inner i y).to) e ∙ (constant y h).1)
    goes

degree_along : (inner : Table) → IsLawful inner → (e : Degree) (by : Option Index) (y : ℕ) → IsPart inner y
    → ((c : ℕ) → e ≡ OfTile c → GoesBy Tile by) → ((c : ℕ) → e ≡ OfVertex c → GoesBy Vertex by)
    → composed_degree inner (inner_part inner by y) e ≡ composed_degree inner y e
degree_along inner lawful (OfTile c) by y h tile vertex = ap (times c) (along inner Tile lawful.entries.constant_face by y h (tile c refl))
degree_along inner lawful (OfVertex c) by y h tile vertex = ap (times c) (along inner Vertex lawful.entries.constant_degree by y h (vertex c refl))
degree_along inner lawful (Fixed m) by y h tile vertex = refl

-- a pair whose entries fit and are constant
pub record IsFitting (t : Table) (p : Pair) : Type 0 where
  pub of_entries : IsOfEntries p
  pub constant : AreConstant t p
  pub fit : (x : ℕ) → IsPart t x → Fits t p x (entry (entries t p) x)

along_index : (outer inner : Table) → IsLawful inner → AreUndone outer → (p : Pair) → IsOfEntries p → (i : Index) (y x : ℕ) → IsPart inner y → IsPart outer x
    → entry (entries outer p) (move outer i x).to ≡ entry (entries outer p) x
    → ((c : ℕ) → entry (entries outer p) x ≡ OfTile c → GoesBy Tile (move outer i x).by)
    → ((c : ℕ) → entry (entries outer p) x ≡ OfVertex c → GoesBy Vertex (move outer i x).by)
    → entry (entries (composed outer inner) p) (move (composed outer inner) i (part_in outer y x)).to ≡ entry (entries (composed outer inner) p) (part_in outer y x)
along_index outer inner lawful undone p is_of i y x hy hx same tile vertex =
    let all = composed outer inner in
    let m = move outer i x in
    let v = inner_part inner m.by y in
    let hv = inner_part_within inner lawful.moves.undone m.by y hy in
    ap (entry (entries all p)) (to-composed outer inner i y x hy hx)
    ∙ entry-composed outer inner p v m.to is_of hv (undone i x hx).part
    ∙ ap (composed_degree inner v) same
    ∙ degree_along inner lawful (entry (entries outer p) x) m.by y hy tile vertex
    ∙ sym (entry-composed outer inner p y x is_of hy hx)

pub constant_composed : (outer inner : Table) → IsLawful outer → IsLawful inner → (p : Pair) → IsFitting outer p → AreConstant (composed outer inner) p
constant_composed outer inner lawful inner_lawful p fitting z h =
    let all = composed outer inner in
    let q = parts_of_part outer inner z lawful.lists.some h in
    let y = q.inner_part in
    let x = q.outer_part in
    let e = entry (entries outer p) x in
    let fits = fitting.fit x q.is_outer in
    let same = fitting.constant x q.is_outer in
    let undone = lawful.moves.undone in
    subst (λ w. (entry (entries all p) (move all (first p) w).to ≡ entry (entries all p) w) × (entry (entries all p) (move all (second p) w).to ≡ entry (entries all p) w)) q.place (
      along_index outer inner inner_lawful undone p fitting.of_entries (first p) y x q.is_inner q.is_outer same.0
          (λ c is. let f = subst (Fits outer p x) is fits in f.0.first)
          (λ c is. let f = subst (Fits outer p x) is fits in f.0.first),
      along_index outer inner inner_lawful undone p fitting.of_entries (second p) y x q.is_inner q.is_outer same.1
          (λ c is. let f = subst (Fits outer p x) is fits in f.0.second)
          (λ c is. let f = subst (Fits outer p x) is fits in f.0.second),
    )
