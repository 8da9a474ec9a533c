-- The sides of a symbol, and those that lie on a tree.
use Rattle.std.proofs.Common.{◌≡◌, ℕ, ◌+◌, ◌≤◌, ◌⊎◌, Bool, true, false, not, cond, ◌&&◌, ◌||◌, eqb, leb, List, [], ◌∷◌, ◌++◌, length, map, refl, sym, ap, ◌∙◌, subst, inl, inr, ⊎_elim, arith}
use Rattle.std.proofs.lemmas.Bool.{cases_lt, eq-eqb, le-leb, or_cases, and_parts, false_from_ne_true}
use Rattle.std.proofs.lemmas.List.{length-map, length-append}
use Rattle.std.proofs.lemmas.List.Sums.{length-filter, count_by-le-length}
use Rattle.std.proofs.lemmas.List.Elements.{Contains-append_left, Contains-append_right}
use Rattle.std.specs.List.{Contains, filter}
use borrow.Author.Tests.{eqb-true}
use Rattle.dd_model.specs.declared.index.Index.{Index}
use Rattle.dd_model.specs.declared.index.Index.TheVariants.{Zero, One, Two}
use Rattle.dd_model.specs.Symbol.{Symbol, AreInvolutions, IsChamber, op}
use Rattle.dd_model.specs.Code.{chambers}
use Rattle.dd_model.proofs.Lists.{Contains-none, Contains-head, Contains-later, Contains-cases, Contains-map}
use Rattle.dd_cells.specs.Euler.{orbits}
use Rattle.dd_cells.proofs.CellSums.{Contains-filter, chamber_listed}
use Rattle.dd_covers.proofs.Trees.{Step, is_met, IsGrown, IsTree, met_here, met_before, or_left, or_right}

-- ## All sides: each is told by the smaller of its two chambers

abbrev is_smaller : Symbol → Index → ℕ → Bool
is_smaller s i d = leb d (op s i d)

abbrev side : Index → ℕ → Step
side i d = record { chamber = d; index = i }

abbrev sides_by : Symbol → Index → List Step
sides_by s i = map (side i) (filter (is_smaller s i) (chambers s))

abbrev pub all_sides : Symbol → List Step
all_sides s = sides_by s Zero ++ sides_by s One ++ sides_by s Two

length-sides_by : (s : Symbol) (i : Index) → length (sides_by s i) ≡ orbits s i
unfolding orbits
length-sides_by s i = length-map (filter (is_smaller s i) (chambers s)) (side i) ∙ length-filter (is_smaller s i) (chambers s)

pub length-all_sides : (s : Symbol) → length (all_sides s) ≡ orbits s Zero + orbits s One + orbits s Two
length-all_sides s =
    let outer = length-append (sides_by s Zero ++ sides_by s One) (sides_by s Two) in
    let inner = length-append (sides_by s Zero) (sides_by s One) in
    let a = length-sides_by s Zero in
    let b = length-sides_by s One in
    let c = length-sides_by s Two in
    omega arith

listed_by : (s : Symbol) (i : Index) (d : ℕ) → IsChamber s d → d ≤ op s i d → Contains (sides_by s i) (side i d)
listed_by s i d h low = Contains-map (side i) (filter (is_smaller s i) (chambers s)) d (Contains-filter (is_smaller s i) (chambers s) d (chamber_listed s d h) (le-leb d (op s i d) low))

pub side_listed : (s : Symbol) (i : Index) (d : ℕ) → IsChamber s d → d ≤ op s i d → Contains (all_sides s) (side i d)
side_listed s Zero d h low =
    Contains-append_left (sides_by s Zero ++ sides_by s One) (sides_by s Two) (side Zero d) (Contains-append_left (sides_by s Zero) (sides_by s One) (side Zero d) (listed_by s Zero d h low))
side_listed s One d h low =
    Contains-append_left (sides_by s Zero ++ sides_by s One) (sides_by s Two) (side One d) (Contains-append_right (sides_by s Zero) (sides_by s One) (side One d) (listed_by s One d h low))
side_listed s Two d h low =
    Contains-append_right (sides_by s Zero ++ sides_by s One) (sides_by s Two) (side Two d) (listed_by s Two d h low)

-- ## Sides on a tree

abbrev pub same_index : Index → Index → Bool
same_index Zero Zero = true
same_index One One = true
same_index Two Two = true
same_index _ _ = false

pub index_same : (i j : Index) → same_index i j ≡ true → i ≡ j
index_same Zero Zero e = refl
index_same Zero One e = absurd (cc)
index_same Zero Two e = absurd (cc)
index_same One Zero e = absurd (cc)
index_same One One e = refl
index_same One Two e = absurd (cc)
index_same Two Zero e = absurd (cc)
index_same Two One e = absurd (cc)
index_same Two Two e = refl

pub same_index-refl : (i : Index) → same_index i i ≡ true
same_index-refl Zero = refl
same_index-refl One = refl
same_index-refl Two = refl

-- the side of a step, from either of its chambers
abbrev pub is_side_of : Symbol → Step → Index → ℕ → Bool
is_side_of s x i d = same_index x.index i && (eqb x.chamber d || eqb (op s x.index x.chamber) d)

abbrev pub is_on : Symbol → List Step → Index → ℕ → Bool
is_on s [] i d = false
is_on s (x ∷ xs) i d = is_side_of s x i d || is_on s xs i d

-- what it says to be the side of a step
pub record IsSideOf (s : Symbol) (x : Step) (i : Index) (d : ℕ) : Type 0 where
  pub index : x.index ≡ i
  pub end : (x.chamber ≡ d) ⊎ (op s x.index x.chamber ≡ d)

pub side_of : (s : Symbol) (x : Step) (i : Index) (d : ℕ) → is_side_of s x i d ≡ true → IsSideOf s x i d
side_of s x i d h =
    let parts = and_parts (same_index x.index i) (eqb x.chamber d || eqb (op s x.index x.chamber) d) h in
    record {
      index = index_same x.index i parts.0;
      end = ⊎_elim
          (λ a. inl (eqb-true x.chamber d a))
          (λ b. inr (eqb-true (op s x.index x.chamber) d b))
          (or_cases (eqb x.chamber d) (eqb (op s x.index x.chamber) d) parts.1);
    }

-- both chambers of a side on a tree are met
pub record AreBothMet (s : Symbol) (xs : List Step) (i : Index) (d : ℕ) : Type 0 where
  pub here : is_met xs d ≡ true
  pub there : is_met xs (op s i d) ≡ true

met_by_step : (s : Symbol) → AreInvolutions s → (x : Step) (xs : List Step) → IsGrown s xs x → (i : Index) (d : ℕ) → IsSideOf s x i d → AreBothMet s (x ∷ xs) i d
met_by_step s inv x xs grown i d is =
    subst (λ j. AreBothMet s (x ∷ xs) j d) is.index (⊎_elim
    (λ a. subst (AreBothMet s (x ∷ xs) x.index) a (record {
      here = met_here x xs;
      there = met_before x xs (op s x.index x.chamber) grown.joined;
    }))
    (λ b. subst (AreBothMet s (x ∷ xs) x.index) b (record {
      here = met_before x xs (op s x.index x.chamber) grown.joined;
      there = subst (λ z. is_met (x ∷ xs) z ≡ true) (sym ((inv x.index).involutive x.chamber grown.chamber)) (met_here x xs);
    }))
    is.end)

pub both_met : (s : Symbol) → AreInvolutions s → (xs : List Step) → IsTree s xs → (i : Index) (d : ℕ) → is_on s xs i d ≡ true → AreBothMet s xs i d
both_met s inv [] tree i d h = absurd (cc)
both_met s inv (x ∷ xs) tree i d h =
    ⊎_elim
    (λ here. met_by_step s inv x xs tree.0 i d (side_of s x i d here))
    (λ before.
    let old = both_met s inv xs tree.1 i d before in
    record { here = met_before x xs d old.here; there = met_before x xs (op s i d) old.there })
    (or_cases (is_side_of s x i d) (is_on s xs i d) h)

-- ## Sides off a tree

abbrev pub is_off : Symbol → List Step → Step → Bool
is_off s xs e = not (is_on s xs e.index e.chamber)

abbrev pub off_sides : Symbol → List Step → List Step
off_sides s xs = filter (is_off s xs) (all_sides s)

-- a filter that passes less, and one member less, keeps fewer
filter_less : (p q : Step → Bool) (es : List Step) → ((e : Step) → q e ≡ true → p e ≡ true) → length (filter q es) ≤ length (filter p es)
filter_less p q [] less = omega arith
filter_less p q (e ∷ es) less = case (p e) (q e) refl refl (filter_less p q es less) where
  case : (a b : Bool) → p e ≡ a → q e ≡ b → length (filter q es) ≤ length (filter p es)
      → length (cond b (e ∷ filter q es) (filter q es)) ≤ length (cond a (e ∷ filter p es) (filter p es))
  case true true ha hb rest = omega arith
  case true false ha hb rest = omega arith
  case false true ha hb rest = let yes = less e hb in absurd (cc)
  case false false ha hb rest = rest

filter_one_less : (p q : Step → Bool) (es : List Step) (x : Step) → ((e : Step) → q e ≡ true → p e ≡ true) → Contains es x → p x ≡ true → q x ≡ false
    → length (filter q es) + 1 ≤ length (filter p es)
filter_one_less p q [] x less here passes fails = absurd (Contains-none x here)
filter_one_less p q (e ∷ es) x less here passes fails =
    ⊎_elim
    (λ at. first (p e) (q e) (ap p at ∙ passes) (ap q at ∙ fails) (filter_less p q es less))
    (λ later. case (p e) (q e) refl refl (filter_one_less p q es x less later passes fails))
    (Contains-cases e x es here) where
      first : (a b : Bool) → a ≡ true → b ≡ false → length (filter q es) ≤ length (filter p es)
          → length (cond b (e ∷ filter q es) (filter q es)) + 1 ≤ length (cond a (e ∷ filter p es) (filter p es))
      first true true ha hb rest = absurd (cc)
      first true false ha hb rest = omega arith
      first false b ha hb rest = absurd (cc)

      case : (a b : Bool) → p e ≡ a → q e ≡ b → length (filter q es) + 1 ≤ length (filter p es)
          → length (cond b (e ∷ filter q es) (filter q es)) + 1 ≤ length (cond a (e ∷ filter p es) (filter p es))
      case true true ha hb rest = omega arith
      case true false ha hb rest = omega arith
      case false true ha hb rest = let yes = less e hb in absurd (cc)
      case false false ha hb rest = rest

pub Contains-kept : (p : Step → Bool) (es : List Step) (x : Step) → Contains es x → p x ≡ true → Contains (filter p es) x
Contains-kept p [] x here passes = here
Contains-kept p (e ∷ es) x here passes =
    elim (p e) as (λ b. p e ≡ b → Contains (cond b (e ∷ filter p es) (filter p es)) x) [
      | true ↦ λ _.
          ⊎_elim
          (λ at. subst (λ z. Contains (e ∷ filter p es) z) at (Contains-head e (filter p es)))
          (λ later. Contains-later e x (filter p es) (Contains-kept p es x later passes))
          (Contains-cases e x es here)
      | false ↦ λ fails.
          ⊎_elim
          (λ at. let same = ap p at in absurd (cc))
          (λ later. Contains-kept p es x later passes)
          (Contains-cases e x es here)
    ]
    refl

or_false : (a b : Bool) → not (a || b) ≡ true → not b ≡ true
or_false true b h = absurd (cc)
or_false false b h = h

-- a new step is on a side that was off the tree
new_side : (s : Symbol) → AreInvolutions s → (x : Step) (xs : List Step) → IsGrown s xs x → IsTree s xs → (c : ℕ)
    → (x.chamber ≡ c) ⊎ (op s x.index x.chamber ≡ c) → is_on s xs x.index c ≡ false
new_side s inv x xs grown tree c end = false_from_ne_true (is_on s xs x.index c) (λ on.
    let met = both_met s inv xs tree x.index c on in
    let new = grown.new in
    ⊎_elim
    (λ a. let old = subst (λ z. is_met xs z ≡ true) (sym a) met.here in absurd (cc))
    (λ b.
    let back : op s x.index c ≡ x.chamber = ap (op s x.index) (sym b) ∙ (inv x.index).involutive x.chamber grown.chamber in
    let old = subst (λ z. is_met xs z ≡ true) back met.there in absurd (cc))
    end)

fewer_off : (s : Symbol) → AreInvolutions s → (x : Step) (xs : List Step) → IsGrown s xs x → IsTree s xs → (c : ℕ) → IsChamber s c → c ≤ op s x.index c
    → (x.chamber ≡ c) ⊎ (op s x.index x.chamber ≡ c) → is_side_of s x x.index c ≡ true → length (off_sides s (x ∷ xs)) + 1 ≤ length (off_sides s xs)
fewer_off s inv x xs grown tree c h low end is =
    filter_one_less (is_off s xs) (is_off s (x ∷ xs)) (all_sides s) (side x.index c)
    (λ e off. or_false (is_side_of s x e.index e.chamber) (is_on s xs e.index e.chamber) off)
    (side_listed s x.index c h low)
    (ap not (new_side s inv x xs grown tree c end))
    (ap (λ b. not (b || is_on s xs x.index c)) is)

pub side_by_chamber : (s : Symbol) (x : Step) → is_side_of s x x.index x.chamber ≡ true
side_by_chamber s x =
    ap (λ a. a && (eqb x.chamber x.chamber || eqb (op s x.index x.chamber) x.chamber)) (same_index-refl x.index)
    ∙ ap (λ b. b || eqb (op s x.index x.chamber) x.chamber) (eq-eqb x.chamber x.chamber refl)

or_true : (a : Bool) → a || true ≡ true
or_true true = refl
or_true false = refl

pub side_by_image : (s : Symbol) (x : Step) → is_side_of s x x.index (op s x.index x.chamber) ≡ true
side_by_image s x =
    let c = op s x.index x.chamber in
    ap (λ a. a && (eqb x.chamber c || eqb c c)) (same_index-refl x.index)
    ∙ ap (λ b. eqb x.chamber c || b) (eq-eqb c c refl) ∙ or_true (eqb x.chamber c)

one_off_less : (s : Symbol) → AreInvolutions s → (x : Step) (xs : List Step) → IsGrown s xs x → IsTree s xs → length (off_sides s (x ∷ xs)) + 1 ≤ length (off_sides s xs)
one_off_less s inv x xs grown tree =
    let c = op s x.index x.chamber in
    let there = (inv x.index).within x.chamber grown.chamber in
    ⊎_elim
    (λ low.
    let up : c ≤ op s x.index c = subst (λ z. c ≤ z) (sym ((inv x.index).involutive x.chamber grown.chamber)) (omega arith) in
    fewer_off s inv x xs grown tree c there up (inr refl) (side_by_image s x))
    (λ high. fewer_off s inv x xs grown tree x.chamber grown.chamber high (inl refl) (side_by_chamber s x))
    (cases_lt c x.chamber)

-- Each step of a tree leaves one side less off it.
pub few_off : (s : Symbol) → AreInvolutions s → (xs : List Step) → IsTree s xs → length (off_sides s xs) + length xs ≤ length (all_sides s)
few_off s inv [] tree = let kept = length-filter (is_off s []) (all_sides s) in let all = count_by-le-length (is_off s []) (all_sides s) in omega arith
few_off s inv (x ∷ xs) tree =
    let one = one_off_less s inv x xs tree.0 tree.1 in
    let rest = few_off s inv xs tree.1 in
    omega arith

-- a side is on a tree from both of its chambers
pub on_beside : (s : Symbol) → AreInvolutions s → (xs : List Step) → IsTree s xs → (i : Index) (d : ℕ) → is_on s xs i d ≡ true → is_on s xs i (op s i d) ≡ true
on_beside s inv [] tree i d h = absurd (cc)
on_beside s inv (x ∷ xs) tree i d h =
    ⊎_elim
    (λ here.
    let is = side_of s x i d here in
    let there : is_side_of s x x.index (op s x.index d) ≡ true =
    ⊎_elim
    (λ a. subst (λ z. is_side_of s x x.index (op s x.index z) ≡ true) a (side_by_image s x))
    (λ b. subst (λ z. is_side_of s x x.index (op s x.index z) ≡ true) b
    (subst (λ z. is_side_of s x x.index z ≡ true) (sym ((inv x.index).involutive x.chamber tree.0.chamber)) (side_by_chamber s x)))
    is.end in
    or_left (is_side_of s x i (op s i d)) (is_on s xs i (op s i d)) (subst (λ j. is_side_of s x j (op s j d) ≡ true) is.index there))
    (λ before. or_right (is_side_of s x i (op s i d)) (is_on s xs i (op s i d)) (on_beside s inv xs tree.1 i d before))
    (or_cases (is_side_of s x i d) (is_on s xs i d) h)
