-- Trees of sides: from chamber 1 on, each chamber is met by a side that leads to one met before.
use Rattle.std.proofs.Common.{◌≡◌, ℕ, zero, suc, ◌+◌, ◌<◌, ◌≤◌, ◌⊎◌, Bool, true, false, ◌||◌, eqb, List, [], ◌∷◌, length, refl, sym, ap, ◌∙◌, subst, inl, inr, ⊎_elim, arith}
use Rattle.std.proofs.lemmas.Bool.{or_cases, cases_lt, cases_Bool, eq-eqb}
use Rattle.std.proofs.lemmas.Map.Keys.{IsDistinct-cons}
use Rattle.std.proofs.lemmas.Map.Steps.{length-le_from_distinct_below, le-length_from_below}
use Rattle.std.specs.List.{IsDistinct, AllByRecursion, list_any}
use borrow.Author.Tests.{eqb-true}
use Rattle.dd_model.specs.declared.index.Index.{Index}
use Rattle.dd_model.specs.declared.index.Index.TheVariants.{Zero, One, Two}
use Rattle.dd_model.specs.Symbol.{Symbol, AreInvolutions, IsChamber, Word, op, act}
use Rattle.dd_model.specs.Connected.{IsReached, Connected}
use Rattle.dd_cells.proofs.ColoringLemmas.{by_index}
use Rattle.dd_symbol.proofs.WalkLemmas.{next_reached}

-- a chamber, and the involution of the side by which it is met
pub record Step : Type 0 where
  pub chamber : ℕ
  pub index : Index

-- the chambers that are met, the latest first
abbrev pub met : List Step → List ℕ
met [] = 1 ∷ []
met (x ∷ xs) = x.chamber ∷ met xs

abbrev pub is_met : List Step → ℕ → Bool
is_met xs d = list_any (eqb d) (met xs)

-- the latest step leads from a chamber met before to a new one
pub record IsGrown (s : Symbol) (xs : List Step) (x : Step) : Type 0 where
  pub chamber : IsChamber s x.chamber
  pub new : is_met xs x.chamber ≡ false
  pub joined : is_met xs (op s x.index x.chamber) ≡ true

abbrev pub IsTree : Symbol → List Step → Type 0
IsTree s [] = Unit {0}
IsTree s (x ∷ xs) = IsGrown s xs x × IsTree s xs

-- ## What is met

pub or_left : (a b : Bool) → a ≡ true → a || b ≡ true
or_left true b h = refl
or_left false b h = cc

pub or_right : (a b : Bool) → b ≡ true → a || b ≡ true
or_right true b h = refl
or_right false b h = h

pub met_first : (xs : List Step) → is_met xs 1 ≡ true
met_first [] = refl
met_first (x ∷ xs) = or_right (eqb 1 x.chamber) (is_met xs 1) (met_first xs)

pub met_here : (x : Step) (xs : List Step) → is_met (x ∷ xs) x.chamber ≡ true
met_here x xs = or_left (eqb x.chamber x.chamber) (is_met xs x.chamber) (eq-eqb x.chamber x.chamber refl)

pub met_before : (x : Step) (xs : List Step) (d : ℕ) → is_met xs d ≡ true → is_met (x ∷ xs) d ≡ true
met_before x xs d h = or_right (eqb d x.chamber) (is_met xs d) h

pub met_cases : (x : Step) (xs : List Step) (d : ℕ) → is_met (x ∷ xs) d ≡ true → (d ≡ x.chamber) ⊎ (is_met xs d ≡ true)
met_cases x xs d h = ⊎_elim (λ here. inl (eqb-true d x.chamber here)) (λ before. inr before) (or_cases (eqb d x.chamber) (is_met xs d) h)

-- what is met is a chamber to which a word leads
pub met_within : (s : Symbol) (xs : List Step) → 1 ≤ s.size → IsTree s xs → (d : ℕ) → is_met xs d ≡ true → IsChamber s d
met_within s [] some tree d h =
    ⊎_elim (λ here. let e = eqb-true d 1 here in (omega arith, omega arith)) (λ none. absurd (cc)) (or_cases (eqb d 1) false h)
met_within s (x ∷ xs) some tree d h =
    ⊎_elim
    (λ here. subst (IsChamber s) (sym here) tree.0.chamber)
    (λ before. met_within s xs some tree.1 d before)
    (met_cases x xs d h)

-- ## Growth

-- a chamber of a list from which an involution leads to one that is not met
record LeadsOut (s : Symbol) (xs : List Step) (ys : List ℕ) : Type 0 where
  pub chamber : ℕ
  pub listed : list_any (eqb chamber) ys ≡ true
  pub index : Index
  pub new : is_met xs (op s index chamber) ≡ false

-- nothing leads from the chambers of a list to one that is not met
abbrev StaysIn : Symbol → List Step → List ℕ → Type 0
StaysIn s xs ys = (d : ℕ) → list_any (eqb d) ys ≡ true → (i : Index) → is_met xs (op s i d) ≡ true

-- an involution that leads from a chamber out of what is met, or none
leads_out_at : (s : Symbol) (xs : List Step) (y : ℕ) → ((i : Index) × (is_met xs (op s i y) ≡ false)) ⊎ ((i : Index) → is_met xs (op s i y) ≡ true)
leads_out_at s xs y =
    ⊎_elim
    (λ first. ⊎_elim
    (λ second. ⊎_elim
    (λ third. inr (by_index (λ i. is_met xs (op s i y) ≡ true) first second third))
    (λ out. inl (Two, out))
    (cases_Bool (is_met xs (op s Two y))))
    (λ out. inl (One, out))
    (cases_Bool (is_met xs (op s One y))))
    (λ out. inl (Zero, out))
    (cases_Bool (is_met xs (op s Zero y)))

leads_out : (s : Symbol) (xs : List Step) (ys : List ℕ) → LeadsOut s xs ys ⊎ StaysIn s xs ys
leads_out s xs [] = inr (λ d listed i. absurd (cc))
leads_out s xs (y ∷ ys) =
    ⊎_elim
    (λ out. inl (record {
      chamber = y;
      listed = or_left (eqb y y) (list_any (eqb y) ys) (eq-eqb y y refl);
      index = out.0;
      new = out.1;
    }))
    (λ here. ⊎_elim
    (λ later. inl (record {
      chamber = later.chamber;
      listed = or_right (eqb later.chamber y) (list_any (eqb later.chamber) ys) later.listed;
      index = later.index;
      new = later.new;
    }))
    (λ rest. inr (λ d listed i. ⊎_elim
    (λ e. subst (λ z. is_met xs (op s i z) ≡ true) (sym (eqb-true d y e)) (here i))
    (λ later. rest d later i)
    (or_cases (eqb d y) (list_any (eqb d) ys) listed)))
    (leads_out s xs ys))
    (leads_out_at s xs y)

-- ## How many chambers are met

neither : (a b : Bool) → a || b ≡ false → (a ≡ false) × (b ≡ false)
neither true b h = absurd (cc)
neither false b h = (refl, h)

apart_from : (d : ℕ) (ys : List ℕ) → list_any (eqb d) ys ≡ false → AllByRecursion (λ y. eqb d y ≡ false) ys
apart_from d [] h = tt
apart_from d (y ∷ ys) h = let parts = neither (eqb d y) (list_any (eqb d) ys) h in (parts.0, apart_from d ys parts.1)

distinct-none : IsDistinct eqb []
unfolding IsDistinct
distinct-none = tt

distinct_met : (s : Symbol) (xs : List Step) → IsTree s xs → IsDistinct eqb (met xs)
distinct_met s [] tree = IsDistinct-cons eqb 1 [] tt distinct-none
distinct_met s (x ∷ xs) tree = IsDistinct-cons eqb x.chamber (met xs) (apart_from x.chamber (met xs) tree.0.new) (distinct_met s xs tree.1)

zero_apart : (s : Symbol) (xs : List Step) → 1 ≤ s.size → IsTree s xs → AllByRecursion (λ y. eqb 0 y ≡ false) (met xs)
zero_apart s xs some tree = apart_from 0 (met xs) (none (list_any (eqb 0) (met xs)) refl) where
  none : (b : Bool) → is_met xs 0 ≡ b → b ≡ false
  none true e = let h = met_within s xs some tree 0 e in absurd (omega (arith, h.0))
  none false e = refl

length-met : (xs : List Step) → length (met xs) ≡ suc (length xs)
length-met [] = refl
length-met (x ∷ xs) = ap suc (length-met xs)

pub few_met : (s : Symbol) (xs : List Step) → 1 ≤ s.size → IsTree s xs → length xs + 1 ≤ s.size
few_met s xs some tree =
    let below : (q : ℕ) → list_any (eqb q) (0 ∷ met xs) ≡ true → q < s.size + 1 = λ q h.
    ⊎_elim
    (λ e. let z = eqb-true q 0 e in omega arith)
    (λ there. let c = met_within s xs some tree q there in omega (arith, c.1))
    (or_cases (eqb q 0) (is_met xs q) h) in
    let bound = length-le_from_distinct_below (0 ∷ met xs) (s.size + 1) (IsDistinct-cons eqb 0 (met xs) (zero_apart s xs some tree) (distinct_met s xs tree)) below in
    let e = length-met xs in
    omega arith

-- ## Whole trees

-- a tree from which no involution leads out
pub record IsWhole (s : Symbol) (xs : List Step) : Type 0 where
  pub tree : IsTree s xs
  pub closed : (d : ℕ) (i : Index) → is_met xs d ≡ true → is_met xs (op s i d) ≡ true

pub record HasWholeTree (s : Symbol) : Type 0 where
  pub steps : List Step
  pub whole : IsWhole s steps

grow : (s : Symbol) → AreInvolutions s → 1 ≤ s.size → (fuel : ℕ) (xs : List Step) → IsTree s xs → s.size ≤ fuel + length xs → HasWholeTree s
grow s inv some zero xs tree enough = let few = few_met s xs some tree in absurd (omega arith)
grow s inv some (suc fuel) xs tree enough =
    ⊎_elim
    (λ out.
    let h = met_within s xs some tree out.chamber out.listed in
    let x : Step = record { chamber = op s out.index out.chamber; index = out.index } in
    grow s inv some fuel (x ∷ xs) (
      record {
        chamber = (inv out.index).within out.chamber h;
        new = out.new;
        joined = subst (λ z. is_met xs z ≡ true) (sym ((inv out.index).involutive out.chamber h)) out.listed;
      },
      tree,
    )
    (omega arith))
    (λ none. record { steps = xs; whole = record { tree = tree; closed = λ d i h. none d h i } })
    (leads_out s xs (met xs))

pub whole_tree : (s : Symbol) → AreInvolutions s → 1 ≤ s.size → HasWholeTree s
whole_tree s inv some = grow s inv some s.size [] tt (omega arith)

-- ## What is met is what is reached

pub met_along : (s : Symbol) (xs : List Step) → IsWhole s xs → (w : Word) (d : ℕ) → is_met xs d ≡ true → is_met xs (act s w d) ≡ true
met_along s xs whole [] d h = h
met_along s xs whole (i ∷ w) d h = met_along s xs whole w (op s i d) (whole.closed d i h)

pub met_from_reached : (s : Symbol) (xs : List Step) → IsWhole s xs → (d : ℕ) → IsReached s d → is_met xs d ≡ true
met_from_reached s xs whole d there = subst (λ z. is_met xs z ≡ true) there.leads (met_along s xs whole there.word 1 (met_first xs))

pub reached_from_met : (s : Symbol) (xs : List Step) → AreInvolutions s → IsTree s xs → (d : ℕ) → is_met xs d ≡ true → IsReached s d
reached_from_met s [] inv tree d h =
    ⊎_elim
    (λ here. record { word = []; leads = sym (eqb-true d 1 here) })
    (λ none. absurd (cc))
    (or_cases (eqb d 1) false h)
reached_from_met s (x ∷ xs) inv tree d h =
    ⊎_elim
    (λ here.
    let before = reached_from_met s xs inv tree.1 (op s x.index x.chamber) tree.0.joined in
    let back = (inv x.index).involutive x.chamber tree.0.chamber in
    subst (IsReached s) (back ∙ sym here) (next_reached s (op s x.index x.chamber) x.index before))
    (λ before. reached_from_met s xs inv tree.1 d before)
    (met_cases x xs d h)

-- a whole tree of a connected symbol meets every chamber, and so has a side less than there are chambers
pub all_met : (s : Symbol) (xs : List Step) → Connected s → IsWhole s xs → (d : ℕ) → IsChamber s d → is_met xs d ≡ true
all_met s xs all whole d h = met_from_reached s xs whole d (all d h)

pub many_met : (s : Symbol) (xs : List Step) → Connected s → IsWhole s xs → s.size ≤ length xs + 1
many_met s xs all whole =
    let each : (q : ℕ) → q < s.size + 1 → list_any (eqb q) (0 ∷ met xs) ≡ true = λ q below.
    ⊎_elim
    (λ none. let z : 0 ≡ q = omega arith in subst (λ (n : ℕ). list_any (eqb n) (0 ∷ met xs) ≡ true) z refl)
    (λ some. or_right (eqb q 0) (is_met xs q) (all_met s xs all whole q (some, omega arith)))
    (cases_lt q 1) in
    let bound = le-length_from_below (0 ∷ met xs) (s.size + 1) each in
    let e = length-met xs in
    omega arith
