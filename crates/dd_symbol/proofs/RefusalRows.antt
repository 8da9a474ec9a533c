-- No lists are refused for two causes: each cause is the first test that fails.
use Rattle.std.proofs.Common.{◌≡◌, ◌≢◌, ℕ, ◌<◌, ◌≤◌, ◌%◌, ◌⊎◌, List, [], ◌∷◌, refl, sym, ap, ◌∙◌, subst, inl, inr, ⊎_elim, arith}
use Rattle.std.proofs.lemmas.Bool.{cases_lt}
use Rattle.dd_model.specs.declared.index.Index.{Index}
use Rattle.dd_model.specs.declared.index.Index.TheVariants.{Zero, One, Two}
use Rattle.dd_model.specs.declared.pair.Pair.{Pair}
use Rattle.dd_model.specs.declared.pair.Pair.TheVariants.{Tile, Vertex, Edge}
use Rattle.dd_model.specs.Symbol.{Symbol, IsChamber, op, degree}
use Rattle.dd_model.specs.Connected.{IsReached}
use Rattle.dd_model.specs.Cell.{IsLeastTurns, IsBranching}
use Rattle.dd_model.proofs.Turns.{least_turns_unique}
use Rattle.dd_model.proofs.Branching.{branching_unique}
use Rattle.dd_symbol.specs.Refusals.{HasSize, IsRefused}
use Rattle.dd_symbol.specs.Causes.{IsFirst, IndexBefore, PairBefore, HasNoDegree, DegreeChanges, IsNoMultiple, IsTooLarge}
use Rattle.dd_symbol.specs.Conditions.{Commutes, HasDegreeOfCell, IsMultiple, IsSmall, AtAll, OfBoth, AreConnected}
use Rattle.dd_symbol.specs.declared.refusals.Refusal.{Refusal}
use Rattle.dd_symbol.specs.declared.refusals.Refusal.TheVariants.{Empty, TooManyChambers, OpRange, NotInvolution, NotCommuting, NotConnected, DegreeZero, DegreeVaries, NotMultiple, BranchingTooLarge, Memory}

-- ## The first failure

-- d is the first chamber at which P does not hold
abbrev Fails : Symbol → (ℕ → Type 0) → ℕ → Type 0
Fails s P d = IsFirst s P (λ e. P e → ⊥) d

as_failure : (s : Symbol) (P F : ℕ → Type 0) (d : ℕ) → IsFirst s P F d → (F d → P d → ⊥) → Fails s P d
as_failure s P F d f clash = record { chamber = f.chamber; fails = clash f.fails; before = f.before }

first_unique : (s : Symbol) (P : ℕ → Type 0) (d e : ℕ) → Fails s P d → Fails s P e → d ≡ e
first_unique s P d e a b =
    ⊎_elim
    (λ below. absurd (a.fails (b.before d a.chamber below)))
    (λ above. ⊎_elim
    (λ below. absurd (b.fails (a.before e b.chamber below)))
    (λ not_below. omega arith)
    (cases_lt e d))
    (cases_lt d e)

not_all : (s : Symbol) (P : ℕ → Type 0) (d : ℕ) → Fails s P d → AtAll s P → ⊥
not_all s P d f all = f.fails (all d f.chamber)

index_unique : (P : Index → Type 0) (i j : Index) → IndexBefore P i → (P i → ⊥) → IndexBefore P j → (P j → ⊥) → i ≡ j
index_unique P Zero Zero bi fi bj fj = refl
index_unique P Zero One bi fi bj fj = absurd (fi bj)
index_unique P Zero Two bi fi bj fj = absurd (fi bj.0)
index_unique P One Zero bi fi bj fj = absurd (fj bi)
index_unique P One One bi fi bj fj = refl
index_unique P One Two bi fi bj fj = absurd (fi bj.1)
index_unique P Two Zero bi fi bj fj = absurd (fj bi.0)
index_unique P Two One bi fi bj fj = absurd (fj bi.1)
index_unique P Two Two bi fi bj fj = refl

pair_unique : (P : Pair → Type 0) (p q : Pair) → PairBefore P p → (P p → ⊥) → PairBefore P q → (P q → ⊥) → p ≡ q
pair_unique P Tile Tile bp fp bq fq = refl
pair_unique P Tile Vertex bp fp bq fq = absurd (fp bq)
pair_unique P Tile Edge bp fp bq fq = absurd bq
pair_unique P Vertex Tile bp fp bq fq = absurd (fq bp)
pair_unique P Vertex Vertex bp fp bq fq = refl
pair_unique P Vertex Edge bp fp bq fq = absurd bq
pair_unique P Edge q bp fp bq fq = absurd bp

not_both : (P : Pair → Type 0) (p : Pair) → PairBefore P p → (P p → ⊥) → OfBoth P → ⊥
not_both P Tile before fails both = fails both.0
not_both P Vertex before fails both = fails both.1
not_both P Edge before fails both = before

-- ## Each cause as a failure

positive_fails : (s : Symbol) (p : Pair) (d : ℕ) → HasNoDegree s p d → Fails s (λ e. 1 ≤ degree s p e) d
positive_fails s p d c = as_failure s (λ e. 1 ≤ degree s p e) (λ e. degree s p e ≡ 0) d c.first (λ none some. (omega arith))

constant_fails : (s : Symbol) (p : Pair) (d : ℕ) → DegreeChanges s p d → Fails s (HasDegreeOfCell s p) d
constant_fails s p d c = record {
  chamber = c.first.chamber;
  fails = λ same. let o = c.first.fails in o.other (same o.least o.is_least);
  before = c.first.before;
}

multiple_fails : (s : Symbol) (p : Pair) (d r m : ℕ) → IsNoMultiple s p d r m → Fails s (IsMultiple s p) d
multiple_fails s p d r m c = record {
  chamber = c.first.chamber;
  fails = λ multiple. c.first.fails (ap (λ x. x % r) c.degree ∙ multiple r c.turns);
  before = c.first.before;
}

small_fails : (s : Symbol) (p : Pair) (d v : ℕ) → IsTooLarge s p d v → Fails s (IsSmall s p) d
small_fails s p d v c = record {
  chamber = c.first.chamber;
  fails = λ small. let few = small v c.value in let many = c.first.fails in (omega arith);
  before = c.first.before;
}

-- ## Tests in a row

-- One test: what passes it, and what is said where it fails. No two answers are right, and none where it is passed.
record Test : Type 1 where
  pass : Type 0
  fail : Refusal → Type 0
  clash : (why : Refusal) → fail why → pass → ⊥
  unique : (a b : Refusal) → fail a → fail b → a ≡ b

-- the answer of the first test that is not passed
FirstOf : List Test → Refusal → Type 0
FirstOf [] why = ⊥
FirstOf (t ∷ ts) why = t.fail why ⊎ (t.pass × FirstOf ts why)

first_of_unique : (ts : List Test) (a b : Refusal) → FirstOf ts a → FirstOf ts b → a ≡ b
unfolding FirstOf
first_of_unique [] a b fa fb = absurd fa
first_of_unique (t ∷ ts) a b (inl x) (inl y) = t.unique a b x y
first_of_unique (t ∷ ts) a b (inl x) (inr y) = absurd (t.clash a x y.0)
first_of_unique (t ∷ ts) a b (inr x) (inl y) = absurd (t.clash b y x.0)
first_of_unique (t ∷ ts) a b (inr x) (inr y) = first_of_unique ts a b x.1 y.1

-- a failure at the first chamber of the first place, a place being an involution, a pair, or nothing
record FailsFirst (L : Type 0) (Before : (L → Type 0) → L → Type 0) (s : Symbol) (P : L → ℕ → Type 0) (Says : L → ℕ → Refusal → Type 0) (why : Refusal) : Type 0 where
  place : L
  chamber : ℕ
  before : Before (λ l. AtAll s (P l)) place
  first : Fails s (P place) chamber
  says : Says place chamber why

fails_first_unique : (L : Type 0) (Before : (L → Type 0) → L → Type 0)
    → ((Q : L → Type 0) (l m : L) → Before Q l → (Q l → ⊥) → Before Q m → (Q m → ⊥) → l ≡ m)
    → (s : Symbol) (P : L → ℕ → Type 0) (Says : L → ℕ → Refusal → Type 0) → ((l : L) (d : ℕ) (a b : Refusal) → Says l d a → Says l d b → a ≡ b)
    → (a b : Refusal) → FailsFirst L Before s P Says a → FailsFirst L Before s P Says b → a ≡ b
fails_first_unique L Before places s P Says one a b f g =
    let same : f.place ≡ g.place =
    places (λ l. AtAll s (P l)) f.place g.place f.before (not_all s (P f.place) f.chamber f.first) g.before (not_all s (P g.place) g.chamber g.first) in
    subst (λ m. (e : ℕ) → Fails s (P m) e → Says m e b → a ≡ b) same
    (λ e h n. one f.place f.chamber a b f.says (subst (λ x. Says f.place x b) (sym (first_unique s (P f.place) f.chamber e f.first h)) n))
    g.chamber g.first g.says

at_indices : (s : Symbol) (P : Index → ℕ → Type 0) → (Index → ℕ → Refusal) → Test
at_indices s P say = record {
  pass = (i : Index) → AtAll s (P i);
  fail = FailsFirst Index IndexBefore s P (λ i d why. why ≡ say i d);
  clash = λ why f pass. not_all s (P f.place) f.chamber f.first (pass f.place);
  unique = fails_first_unique Index IndexBefore index_unique s P (λ i d why. why ≡ say i d) (λ i d a b ea eb. ea ∙ sym eb);
}

at_chambers : (s : Symbol) (P : ℕ → Type 0) → (ℕ → Refusal) → Test
at_chambers s P say = record {
  pass = AtAll s P;
  fail = λ why. (d : ℕ) × Fails s P d × (why ≡ say d);
  clash = λ why f pass. not_all s P f.0 f.1 pass;
  unique = λ a b f g. f.2 ∙ ap say (first_unique s P f.0 g.0 f.1 g.1) ∙ sym g.2;
}

at_pairs : (s : Symbol) (P : Pair → ℕ → Type 0) (Says : Pair → ℕ → Refusal → Type 0) → ((p : Pair) (d : ℕ) (a b : Refusal) → Says p d a → Says p d b → a ≡ b) → Test
at_pairs s P Says one = record {
  pass = OfBoth (λ p. AtAll s (P p));
  fail = FailsFirst Pair PairBefore s P Says;
  clash = λ why f pass. not_both (λ p. AtAll s (P p)) f.place f.before (not_all s (P f.place) f.chamber f.first) pass;
  unique = fails_first_unique Pair PairBefore pair_unique s P Says one;
}

-- ## The ten tests

-- what is said of a degree that is no multiple
record SaysMultiple (s : Symbol) (p : Pair) (d : ℕ) (why : Refusal) : Type 0 where
  r : ℕ
  m : ℕ
  turns : IsLeastTurns s p d r
  degree : m ≡ degree s p d
  is : why ≡ NotMultiple p d r m

says_multiple_unique : (s : Symbol) (p : Pair) (d : ℕ) (a b : Refusal) → SaysMultiple s p d a → SaysMultiple s p d b → a ≡ b
says_multiple_unique s p d a b x y =
    x.is ∙ ap (λ r. NotMultiple p d r x.m) (least_turns_unique s p d x.r y.r x.turns y.turns)
    ∙ ap (λ m. NotMultiple p d y.r m) (x.degree ∙ sym y.degree) ∙ sym y.is

-- what is said of a branching value that is too large
record SaysValue (s : Symbol) (p : Pair) (d : ℕ) (why : Refusal) : Type 0 where
  v : ℕ
  value : IsBranching s p d v
  is : why ≡ BranchingTooLarge p d v

says_value_unique : (s : Symbol) (p : Pair) (d : ℕ) (a b : Refusal) → SaysValue s p d a → SaysValue s p d b → a ≡ b
says_value_unique s p d a b x y = x.is ∙ ap (BranchingTooLarge p d) (branching_unique s p d x.v y.v x.value y.value) ∙ sym y.is

is_empty : Symbol → Test
is_empty s = record {
  pass = 1 ≤ s.size;
  fail = λ why. (s.size ≡ 0) × (why ≡ Empty);
  clash = λ why f pass. let none = f.0 in (omega arith);
  unique = λ a b f g. f.1 ∙ sym g.1;
}

is_too_long : ℕ → Symbol → Test
is_too_long limit s = record {
  pass = s.size ≤ limit;
  fail = λ why. (limit < s.size) × (why ≡ TooManyChambers s.size);
  clash = λ why f pass. let many = f.0 in (omega arith);
  unique = λ a b f g. f.1 ∙ sym g.1;
}

of_range : Symbol → Test
of_range s = at_indices s (λ i e. IsChamber s (op s i e)) OpRange

of_inverse : Symbol → Test
of_inverse s = at_indices s (λ i e. op s i (op s i e) ≡ e) NotInvolution

of_commuting : Symbol → Test
of_commuting s = at_chambers s (Commutes s) NotCommuting

of_connected : Symbol → Test
of_connected s = at_chambers s (IsReached s) NotConnected

of_positive : Symbol → Test
of_positive s = at_pairs s (λ p e. 1 ≤ degree s p e) (λ p d why. why ≡ DegreeZero p d) (λ p d a b ea eb. ea ∙ sym eb)

of_constant : Symbol → Test
of_constant s = at_pairs s (HasDegreeOfCell s) (λ p d why. why ≡ DegreeVaries p d) (λ p d a b ea eb. ea ∙ sym eb)

of_multiples : Symbol → Test
of_multiples s = at_pairs s (IsMultiple s) (SaysMultiple s) (says_multiple_unique s)

of_small : Symbol → Test
of_small s = at_pairs s (IsSmall s) (SaysValue s) (says_value_unique s)

tests_of_degrees : Symbol → List Test
tests_of_degrees s = of_positive s ∷ of_constant s ∷ of_multiples s ∷ of_small s ∷ []

tests : ℕ → Symbol → List Test
tests limit s = is_empty s ∷ is_too_long limit s ∷ of_range s ∷ of_inverse s ∷ of_commuting s ∷ of_connected s ∷ tests_of_degrees s

-- the tests before those of degrees are passed
past_connected : (limit : ℕ) (s : Symbol) (why : Refusal) → HasSize limit s → AreConnected s → FirstOf (tests_of_degrees s) why → FirstOf (tests limit s) why
unfolding FirstOf tests is_empty is_too_long of_range of_inverse of_commuting of_connected at_indices at_chambers
past_connected limit s why size t rest =
    inr (
      size.some,
      inr (
        size.within,
        inr (
          λ i. (t.involutions i).within,
          inr (
            λ i. (t.involutions i).involutive,
            inr (t.commuting, inr (t.connected, rest)),
          ),
        ),
      ),
    )

first_test : (limit : ℕ) (s : Symbol) (why : Refusal) → IsRefused limit s why → why ≢ Memory → FirstOf (tests limit s) why
unfolding FirstOf tests tests_of_degrees is_empty is_too_long of_range of_inverse of_commuting of_connected of_positive of_constant of_multiples of_small at_indices at_chambers at_pairs
first_test limit s Empty c some = inl (c, refl)
first_test limit s (TooManyChambers n) c some =
    inr (omega arith, inl (omega arith, ap TooManyChambers c.0))
first_test limit s (OpRange i d) c some =
    inr (c.0.some, inr (c.0.within, inl (record { place = i; chamber = d; before = c.1.before; first = c.1.first; says = refl })))
first_test limit s (NotInvolution i d) c some =
    inr (c.0.some, inr (c.0.within, inr (c.1.within, inl (record { place = i; chamber = d; before = c.1.before; first = c.1.first; says = refl }))))
first_test limit s (NotCommuting d) c some =
    let inv = c.1.involutions in
    inr (c.0.some, inr (c.0.within, inr (λ i. (inv i).within, inr (λ i. (inv i).involutive, inl (d, c.1.first, refl)))))
first_test limit s (NotConnected d) c some =
    let inv = c.1.involutions in
    inr (c.0.some, inr (c.0.within, inr (λ i. (inv i).within, inr (λ i. (inv i).involutive, inr (c.1.commuting, inl (d, c.1.first, refl))))))
first_test limit s (DegreeZero p d) c some =
    past_connected limit s (DegreeZero p d) c.0 c.1.table
    (inl (record { place = p; chamber = d; before = c.1.before; first = positive_fails s p d c.1; says = refl }))
first_test limit s (DegreeVaries p d) c some =
    past_connected limit s (DegreeVaries p d) c.0 c.1.table
    (inr (c.1.positive, inl (record { place = p; chamber = d; before = c.1.before; first = constant_fails s p d c.1; says = refl })))
first_test limit s (NotMultiple p d r m) c some =
    past_connected limit s (NotMultiple p d r m) c.0 c.1.table
    (inr (
      c.1.positive,
      inr (
        c.1.constant,
        inl (record {
          place = p;
          chamber = d;
          before = c.1.before;
          first = multiple_fails s p d r m c.1;
          says = record { r = r; m = m; turns = c.1.turns; degree = c.1.degree; is = refl };
        }),
      ),
    ))
first_test limit s (BranchingTooLarge p d v) c some =
    past_connected limit s (BranchingTooLarge p d v) c.0 c.1.table
    (inr (
      c.1.positive,
      inr (
        c.1.constant,
        inr (
          c.1.multiples,
          inl (record {
            place = p;
            chamber = d;
            before = c.1.before;
            first = small_fails s p d v c.1;
            says = record { v = v; value = c.1.value; is = refl };
          }),
        ),
      ),
    ))
first_test limit s Memory c some = absurd (some refl)

-- No lists are refused for two causes.
pub refusal_unique : (limit : ℕ) (s : Symbol) (a b : Refusal) → IsRefused limit s a → IsRefused limit s b → a ≢ Memory → b ≢ Memory → a ≡ b
refusal_unique limit s a b ca cb some_a some_b = first_of_unique (tests limit s) a b (first_test limit s a ca some_a) (first_test limit s b cb some_b)
