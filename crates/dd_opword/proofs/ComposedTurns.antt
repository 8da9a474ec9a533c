-- Turns of the parts of two tables as one: the entries of lawful tables fit together.
use Rattle.std.proofs.Common.{◌≡◌, ◌⊎◌, inl, inr, ℕ, zero, suc, ◌+◌, ◌*◌, ◌/◌, ◌%◌, ◌<◌, ◌≤◌, [], ◌∷◌, Option, Some, None, refl, sym, ap, ◌∙◌, subst, ⊎_elim, arith}
use Rattle.std.proofs.Math.Nat.{mul_comm, mul-le-mul_left}
use Rattle.std.proofs.lemmas.Bool.{cases_lt, cases_eq}
use Rattle.std.proofs.lemmas.Nat.{div-add-mod', mul-le}
use Rattle.dd_model.specs.declared.index.Index.{Index}
use Rattle.dd_model.specs.declared.index.Index.TheVariants.{Zero, One, Two}
use Rattle.dd_model.specs.declared.pair.Pair.{Pair}
use Rattle.dd_model.specs.declared.pair.Pair.TheVariants.{Tile, Vertex}
use Rattle.dd_model.specs.Symbol.{Word, first, second, turn, power}
use Rattle.dd_model.proofs.Numbers.{positive_product}
use Rattle.dd_template.specs.declared.tables.Degree.{Degree}
use Rattle.dd_template.specs.declared.tables.Degree.TheVariants.{OfTile, OfVertex, Fixed}
use Rattle.dd_template.specs.Table.{Table, IsPart, move, entry, part_after}
use Rattle.dd_template.specs.Reduced.{put, carried, IsReduced, reduced}
use Rattle.dd_template.specs.Moves.{LeadsBack}
use Rattle.dd_template.specs.Entries.{GoesBy, GoWithin, IsApart, IsTurned, Fits}
use Rattle.dd_template.proofs.ReducedLemmas.{reduced_stays}
use Rattle.dd_template.proofs.TurnLemmas.{part_after_within, part_turned, rounds_alone}
use Rattle.dd_template.proofs.LetterSteps.{AreSteps, stepped, stepped_within, stepped-put, put_steps, repeated, repeated_within, turned_back}
use Rattle.dd_opword.specs.Composed.{part_in, inner_move, times, composed_degree, composed}
use Rattle.dd_opword.specs.Together.{IsFixedUpTo}
use Rattle.dd_opword.proofs.ComposedParts.{same_part, move-composed}
use Rattle.dd_opword.proofs.InnerStates.{State, IsState, AreTogether, step, run, run-append, part-run, word-run, same_state, state_steps, carried-before, with_outer, run-composed, run-back, run-rounds}

-- ## Turns of the inner part, both ways round

-- the part alone
abbrev at : ℕ → State
at y = record { part = y; word = [] }

is_at : (t : Table) (y : ℕ) → IsPart t y → IsState t (at y)
is_at t y h = record { part = h; word = tt }

-- two letters of a pair, one way round or the other
pub data IsRound (q : Pair) : Word → Type 0 where
  forward : IsRound q (second q ∷ first q ∷ [])
  backward : IsRound q (first q ∷ second q ∷ [])

-- so many turns of a pair
turns-run : (t : Table) (q : Pair) (k : ℕ) (a : State) → repeated (stepped (step t) (second q ∷ first q ∷ [])) k a ≡ run t (power (turn q) k) a
turns-run t q zero a = refl
turns-run t q (suc k) a =
    turns-run t q k (step t (second q) (step t (first q) a)) ∙ sym (run-append t (turn q) (power (turn q) k) a)

part-turns : (t : Table) (q : Pair) (k y : ℕ) → (repeated (stepped (step t) (second q ∷ first q ∷ [])) k (at y)).part ≡ part_turned t q k y
part-turns t q k y = ap (λ a. a.part) (turns-run t q k (at y)) ∙ part-run t (power (turn q) k) (at y)

-- the other way round they lead to a part only if they lead so this way
round-part : (t : Table) → AreSteps (IsState t) (step t) → (q : Pair) (w : Word) (k y : ℕ) → IsRound q w → IsPart t y
    → (repeated (stepped (step t) w) k (at y)).part ≡ y → part_turned t q k y ≡ y
round-part t steps q w k y forward h same = sym (part-turns t q k y) ∙ same
round-part t steps q w k y backward h same =
    let f = first q in
    let g = second q in
    let there = repeated (stepped (step t) (f ∷ g ∷ [])) k (at y) in
    let back = turned_back (IsState t) (step t) steps g f k (at y) (is_at t y h) in
    let on = sym (turns-run t q k there) ∙ back in
    let parts = sym (part-run t (power (turn q) k) there) ∙ ap (λ a. a.part) on in
    ap (part_turned t q k) (sym same) ∙ parts

-- a word behind is carried along
stepped-behind : (t : Table) (w : Word) (y : ℕ) (u v : Word) → IsReduced v
    → stepped (step t) w (record { part = y; word = stepped put u v })
    ≡ record { part = (stepped (step t) w (record { part = y; word = u })).part; word = stepped put (stepped (step t) w (record { part = y; word = u })).word v }
stepped-behind t [] y u v h = refl
stepped-behind t (i ∷ w) y u v h =
    let a = stepped (step t) w (record { part = y; word = u }) in
    ap (step t i) (stepped-behind t w y u v h)
    ∙ same_state (step t i (record { part = a.part; word = stepped put a.word v })) (record { part = (step t i a).part; word = stepped put (step t i a).word v }) refl
    (carried-before t (i ∷ []) a.part a.word v h)

repeated-behind : (t : Table) (w : Word) (k y : ℕ) (u v : Word) → IsReduced v
    → repeated (stepped (step t) w) k (record { part = y; word = stepped put u v })
    ≡ record { part = (repeated (stepped (step t) w) k (record { part = y; word = u })).part; word = stepped put (repeated (stepped (step t) w) k (record { part = y; word = u })).word v }
repeated-behind t w zero y u v h = refl
repeated-behind t w (suc k) y u v h =
    let a = stepped (step t) w (record { part = y; word = u }) in
    ap (repeated (stepped (step t) w) k) (stepped-behind t w y u v h) ∙ repeated-behind t w k a.part a.word v h

-- a word stands before another as their letters do
stepped-stepped : (w u v : Word) → IsReduced v → stepped put (stepped put w u) v ≡ stepped put w (stepped put u v)
stepped-stepped [] u v h = refl
stepped-stepped (i ∷ w) u v h = stepped-put IsReduced put put_steps i (stepped put w u) v h ∙ ap (put i) (stepped-stepped w u v h)

-- words that undo each other
pub record AreInverse (v w : Word) : Type 0 where
  pub reduced : IsReduced v
  pub inverse : IsReduced w
  pub undone : stepped put v w ≡ []

-- what stands before a word and strikes it is its inverse
struck : (z v w : Word) → IsReduced z → AreInverse v w → stepped put z v ≡ [] → z ≡ w
struck z v w hz inverse gone =
    let whole : stepped put z [] ≡ z = stepped-reduced z ∙ reduced_stays z hz in
    sym whole
    ∙ ap (stepped put z) (sym inverse.undone)
    ∙ sym (stepped-stepped z v w inverse.inverse)
    ∙ ap (λ u. stepped put u w) gone where
      stepped-reduced : (u : Word) → stepped put u [] ≡ reduced u
      stepped-reduced [] = refl
      stepped-reduced (i ∷ u) = ap (put i) (stepped-reduced u)

-- Turns that lead an inner part back with a word lead it back with the word or its inverse, whichever way they go.
pub record LeadsRound (t : Table) (w : Word) (k y : ℕ) (v u : Word) : Type 0 where
  pub part : (repeated (stepped (step t) w) k (at y)).part ≡ y
  pub word : ((repeated (stepped (step t) w) k (at y)).word ≡ v) ⊎ ((repeated (stepped (step t) w) k (at y)).word ≡ u)

leads_round : (t : Table) → AreSteps (IsState t) (step t) → (q : Pair) (w : Word) (k y : ℕ) (v u : Word) → IsRound q w → IsPart t y
    → AreInverse v u → LeadsBack t (power (turn q) k) y v → LeadsRound t w k y v u
leads_round t steps q w k y v u forward h inverse back =
    let there = turns-run t q k (at y) in
    record {
      part = part-turns t q k y ∙ back.part;
      word = inl (ap (λ a. a.word) there ∙ word-run t (power (turn q) k) (at y) ∙ back.word);
    }
leads_round t steps q w k y v u backward h inverse back =
    let f = first q in
    let g = second q in
    let b : State → State = λ a. repeated (stepped (step t) (f ∷ g ∷ [])) k a in
    let there : repeated (stepped (step t) (g ∷ f ∷ [])) k (at y) ≡ record { part = y; word = v } =
    same_state (repeated (stepped (step t) (g ∷ f ∷ [])) k (at y)) (record { part = y; word = v })
    (part-turns t q k y ∙ back.part)
    (ap (λ a. a.word) (turns-run t q k (at y)) ∙ word-run t (power (turn q) k) (at y) ∙ back.word) in
    let home = sym (ap b there) ∙ turned_back (IsState t) (step t) steps f g k (at y) (is_at t y h) in
    let behind = sym (repeated-behind t (f ∷ g ∷ []) k y [] v inverse.reduced) ∙ home in
    let reached = repeated_within (IsState t) (stepped (step t) (f ∷ g ∷ [])) (λ a ha. stepped_within (IsState t) (step t) steps (f ∷ g ∷ []) a ha) k (at y) (is_at t y h) in
    record {
      part = ap (λ a. a.part) behind;
      word = inr (struck (b (at y)).word v u reached.word inverse (ap (λ a. a.word) behind));
    }

-- ## Turns of both

-- the outer part is first met again after c turns, one way round
pub record IsOuterRound (outer : Table) (p q : Pair) (x c : ℕ) : Type 0 where
  pub word : Word
  pub is_round : IsRound q word
  pub back : LeadsBack outer (power (turn p) c) x word

outer_round : (outer : Table) (p q : Pair) (x c : ℕ) → IsTurned outer p q x c → IsOuterRound outer p q x c
outer_round outer p q x c turns =
    ⊎_elim
    (λ back. record { word = first q ∷ second q ∷ []; is_round = backward; back = back })
    (λ back. record { word = second q ∷ first q ∷ []; is_round = forward; back = back })
    turns.back

-- c k turns lead to the same outer part, with the inner state k rounds further
rounds : (outer inner : Table) → AreTogether outer inner → (p q : Pair) (y x c k : ℕ) → IsPart inner y → IsPart outer x → (r : IsOuterRound outer p q x c)
    → run (composed outer inner) (power (turn p) (c * k)) (at (part_in outer y x)) ≡ with_outer outer (repeated (stepped (step inner) r.word) k (at y)) x
rounds outer inner both p q y x c k hy hx r = run-rounds outer inner both (turn p) r.word c k (at y) x (is_at inner y hy) hx r.back

-- what a number of turns that is given by rounds leads back to
lead_back : (outer inner : Table) → AreTogether outer inner → (p q : Pair) (y x c k : ℕ) (v : Word) → IsPart inner y → IsPart outer x → (r : IsOuterRound outer p q x c)
    → (repeated (stepped (step inner) r.word) k (at y)).part ≡ y → (repeated (stepped (step inner) r.word) k (at y)).word ≡ v
    → LeadsBack (composed outer inner) (power (turn p) (c * k)) (part_in outer y x) v
lead_back outer inner both p q y x c k v hy hx r part word =
    let all = composed outer inner in
    let w = power (turn p) (c * k) in
    let z = at (part_in outer y x) in
    let there = rounds outer inner both p q y x c k hy hx r in
    record {
      part = sym (part-run all w z) ∙ ap (λ a. a.part) there ∙ ap (λ e. part_in outer e x) part;
      word = sym (word-run all w z) ∙ ap (λ a. a.word) there ∙ word;
    }

-- fewer turns lead to another part
apart : (outer inner : Table) → AreTogether outer inner → (p q r : Pair) (y x c d : ℕ) → IsPart inner y → IsPart outer x
    → IsTurned outer p q x c → IsTurned inner q r y d → IsApart (composed outer inner) p (part_in outer y x) (c * d)
apart outer inner both p q r y x c d hy hx turns inner_turns k low high same =
    let all = composed outer inner in
    let o = outer_round outer p q x c turns in
    let w = power (turn p) k in
    let inner_steps = state_steps inner both.inner_undone both.commuting in
    let there = run-composed outer inner both w (at y) x (is_at inner y hy) hx in
    let b = stepped (step inner) (carried outer w x []) (at y) in
    let place : part_in outer b.part (part_after outer w x) ≡ part_in outer y x =
    sym (ap (λ a. a.part) there) ∙ part-run all w (at (part_in outer y x)) ∙ same in
    let parts = same_part outer b.part (part_after outer w x) y x (part_after_within outer both.outer_undone w x hx) hx place in
    let alone : k % c ≡ 0 = rounds_alone outer p x c k turns.positive o.back.part turns.first_time parts.1 in
    let split : k / c * c + k % c ≡ k = div-add-mod' k c in
    let turn_over : k / c * c ≡ c * (k / c) = mul_comm (k / c) c in
    let whole : c * (k / c) ≡ k = omega arith in
    let j = k / c in
    let some : 1 ≤ j = ⊎_elim (λ none. let z : c * j ≡ 0 = ap (λ m. c * m) none ∙ omega arith in absurd (omega arith)) (λ more. omega arith) (cases_eq j 0) in
    let fewer : j < d = ⊎_elim (λ l. l) (λ g. let big = mul-le-mul_left c g in absurd (omega arith)) (cases_lt j d) in
    let round = rounds outer inner both p q y x c j hy hx o in
    let inner_part : (repeated (stepped (step inner) o.word) j (at y)).part ≡ y =
    (same_part outer (repeated (stepped (step inner) o.word) j (at y)).part x y x hx hx
    (sym (ap (λ a. a.part) round) ∙ ap (λ n. (run all (power (turn p) n) (at (part_in outer y x))).part) whole ∙ part-run all w (at (part_in outer y x)) ∙ same)).0 in
    inner_turns.first_time j some fewer (round-part inner inner_steps q o.word j y o.is_round hy inner_part)

-- ## Entries

tile_letters : AreInverse (Zero ∷ One ∷ []) (One ∷ Zero ∷ [])
tile_letters = record { reduced = (tt, tt); inverse = (tt, tt); undone = refl }

tile_back : AreInverse (One ∷ Zero ∷ []) (Zero ∷ One ∷ [])
tile_back = record { reduced = (tt, tt); inverse = (tt, tt); undone = refl }

vertex_letters : AreInverse (One ∷ Two ∷ []) (Two ∷ One ∷ [])
vertex_letters = record { reduced = (tt, tt); inverse = (tt, tt); undone = refl }

vertex_back : AreInverse (Two ∷ One ∷ []) (One ∷ Two ∷ [])
vertex_back = record { reduced = (tt, tt); inverse = (tt, tt); undone = refl }

-- the two letters of tiles, or of vertices, undo each other's order
pub record AreLetters (r : Pair) : Type 0 where
  pub there : AreInverse (first r ∷ second r ∷ []) (second r ∷ first r ∷ [])
  pub back : AreInverse (second r ∷ first r ∷ []) (first r ∷ second r ∷ [])

of_tiles : AreLetters Tile
of_tiles = record { there = tile_letters; back = tile_back }

of_vertices : AreLetters Vertex
of_vertices = record { there = vertex_letters; back = vertex_back }

-- c turns over d turns are c d turns
turned_over : (outer inner : Table) → AreTogether outer inner → (p q r : Pair) (y x c d : ℕ) → AreLetters r → IsPart inner y → IsPart outer x
    → c ≤ outer.parts → d ≤ inner.parts
    → IsTurned outer p q x c → IsTurned inner q r y d → IsTurned (composed outer inner) p r (part_in outer y x) (c * d)
turned_over outer inner both p q r y x c d letters hy hx few fewer turns inner_turns =
    let o = outer_round outer p q x c turns in
    let steps = state_steps inner both.inner_undone both.commuting in
    let f = first r in
    let g = second r in
    let size = mul-le c d outer.parts inner.parts few fewer in
    let turn_over = mul_comm outer.parts inner.parts in
    record {
      positive = positive_product c d turns.positive inner_turns.positive;
      within = omega arith;
      back = ⊎_elim
          (λ back.
          let l = leads_round inner steps q o.word d y (f ∷ g ∷ []) (g ∷ f ∷ []) o.is_round hy letters.there back in
          ⊎_elim
          (λ word. inl (lead_back outer inner both p q y x c d (f ∷ g ∷ []) hy hx o l.part word))
          (λ word. inr (lead_back outer inner both p q y x c d (g ∷ f ∷ []) hy hx o l.part word))
          l.word)
          (λ back.
          let l = leads_round inner steps q o.word d y (g ∷ f ∷ []) (f ∷ g ∷ []) o.is_round hy letters.back back in
          ⊎_elim
          (λ word. inr (lead_back outer inner both p q y x c d (g ∷ f ∷ []) hy hx o l.part word))
          (λ word. inl (lead_back outer inner both p q y x c d (f ∷ g ∷ []) hy hx o l.part word))
          l.word)
          inner_turns.back;
      first_time = apart outer inner both p q r y x c d hy hx turns inner_turns;
    }

no_letters : AreInverse [] []
no_letters = record { reduced = tt; inverse = tt; undone = refl }

-- c turns over m turns that lead back are c m turns that lead back
back_over : (outer inner : Table) → AreTogether outer inner → (p q : Pair) (y x c m : ℕ) → IsPart inner y → IsPart outer x
    → IsTurned outer p q x c → LeadsBack inner (power (turn q) m) y [] → LeadsBack (composed outer inner) (power (turn p) (c * m)) (part_in outer y x) []
back_over outer inner both p q y x c m hy hx turns back =
    let o = outer_round outer p q x c turns in
    let l = leads_round inner (state_steps inner both.inner_undone both.commuting) q o.word m y [] [] o.is_round hy no_letters back in
    lead_back outer inner both p q y x c m [] hy hx o l.part (⊎_elim (λ word. word) (λ word. word) l.word)

-- the moves of a pair go by involutions of the inner table
goes_over : (outer inner : Table) (q r : Pair) (y : ℕ) (by : Option Index) (to : ℕ) → GoesBy q by → GoWithin inner q r y → GoesBy r (inner_move outer inner y by to).by
goes_over outer inner q r y None to within inner_within = tt
goes_over outer inner q r y (Some j) to within inner_within =
    ⊎_elim
    (λ e. subst (λ i. GoesBy r (move inner i y).by) (sym e) inner_within.first)
    (λ e. subst (λ i. GoesBy r (move inner i y).by) (sym e) inner_within.second)
    within

go_over : (outer inner : Table) (p q r : Pair) (y x : ℕ) → IsPart inner y → IsPart outer x → GoWithin outer p q x → GoWithin inner q r y
    → GoWithin (composed outer inner) p r (part_in outer y x)
go_over outer inner p q r y x hy hx within inner_within =
    let a = move outer (first p) x in
    let b = move outer (second p) x in
    record {
      first = subst (λ m. GoesBy r m.by) (sym (move-composed outer inner (first p) y x hy hx)) (goes_over outer inner q r y a.by a.to within.first inner_within);
      second = subst (λ m. GoesBy r m.by) (sym (move-composed outer inner (second p) y x hy hx)) (goes_over outer inner q r y b.by b.to within.second inner_within);
    }

-- a factor over an entry of the inner table
fits_over : (outer inner : Table) → AreTogether outer inner → (p q : Pair) (y x c : ℕ) → IsPart inner y → IsPart outer x
    → GoWithin outer p q x → IsTurned outer p q x c → (e : Degree) → Fits inner q y e → IsFixedUpTo 30 (times c e)
    → Fits (composed outer inner) p (part_in outer y x) (times c e)
fits_over outer inner both p q y x c hy hx within turns (OfTile d) fits small =
    (go_over outer inner p q Tile y x hy hx within fits.0, turned_over outer inner both p q Tile y x c d of_tiles hy hx turns.within fits.1.within turns fits.1)
fits_over outer inner both p q y x c hy hx within turns (OfVertex d) fits small =
    (go_over outer inner p q Vertex y x hy hx within fits.0, turned_over outer inner both p q Vertex y x c d of_vertices hy hx turns.within fits.1.within turns fits.1)
fits_over outer inner both p q y x c hy hx within turns (Fixed m) fits small =
    (positive_product c m turns.positive fits.0, small, back_over outer inner both p q y x c m hy hx turns fits.2)

-- an entry of the outer table over the inner part
pub fits_composed : (outer inner : Table) → AreTogether outer inner → (p : Pair) (y x : ℕ) → IsPart inner y → IsPart outer x
    → (e : Degree) → Fits outer p x e → Fits inner Tile y (entry inner.face y) → Fits inner Vertex y (entry inner.degree y)
    → IsFixedUpTo 30 (composed_degree inner y e) → Fits (composed outer inner) p (part_in outer y x) (composed_degree inner y e)
fits_composed outer inner both p y x hy hx (OfTile c) fits face degree small =
    fits_over outer inner both p Tile y x c hy hx fits.0 fits.1 (entry inner.face y) face small
fits_composed outer inner both p y x hy hx (OfVertex c) fits face degree small =
    fits_over outer inner both p Vertex y x c hy hx fits.0 fits.1 (entry inner.degree y) degree small
fits_composed outer inner both p y x hy hx (Fixed m) fits face degree small =
    let all = composed outer inner in
    let w = power (turn p) m in
    let z = at (part_in outer y x) in
    let there = run-back outer inner both w [] (at y) x (is_at inner y hy) hx fits.2 in (
      fits.0,
      fits.1,
      record {
        part = sym (part-run all w z) ∙ ap (λ a. a.part) there;
        word = sym (word-run all w z) ∙ ap (λ a. a.word) there;
      },
    )
