-- Steps of the three letters that undo themselves, where those of 0 and 2 commute: a word and its reduced word lead to
-- the same.
use Rattle.std.proofs.Common.{◌≡◌, ℕ, zero, suc, [], ◌∷◌, refl, sym, ap, ◌∙◌}
use Rattle.dd_model.specs.declared.index.Index.{Index}
use Rattle.dd_model.specs.declared.index.Index.TheVariants.{Zero, One, Two}
use Rattle.dd_model.specs.Symbol.{Word}
use Rattle.dd_template.specs.Reduced.{strike, put, IsReduced}
use Rattle.dd_template.proofs.ReducedLemmas.{put_reduced, put_twice, put_exchanged}

pub record AreSteps {A : Type 0} (P : A → Type 0) (f : Index → A → A) : Type 0 where
  pub within : (i : Index) (a : A) → P a → P (f i a)
  pub twice : (i : Index) (a : A) → P a → f i (f i a) ≡ a
  pub turns : (a : A) → P a → f Two (f Zero (f Two (f Zero a))) ≡ a

-- the steps of a word; that of the last letter is the first
abbrev pub stepped : {A : Type 0} → (Index → A → A) → Word → A → A
stepped f [] a = a
stepped f (i ∷ w) a = f i (stepped f w a)

pub stepped_within : {A : Type 0} (P : A → Type 0) (f : Index → A → A) → AreSteps P f → (w : Word) (a : A) → P a → P (stepped f w a)
stepped_within P f steps [] a h = h
stepped_within P f steps (i ∷ w) a h = steps.within i (stepped f w a) (stepped_within P f steps w a h)

commuting : {A : Type 0} (P : A → Type 0) (f : Index → A → A) → AreSteps P f → (a : A) → P a → f Zero (f Two a) ≡ f Two (f Zero a)
commuting P f steps a h =
    let b = f Two (f Zero a) in
    let hb = steps.within Two (f Zero a) (steps.within Zero a h) in
    let half : f Zero b ≡ f Two a = sym (steps.twice Two (f Zero b) (steps.within Zero b hb)) ∙ ap (f Two) (steps.turns a h) in
    ap (f Zero) (sym half) ∙ steps.twice Zero b hb

-- what is struck out leads nowhere
stepped-strike : {A : Type 0} (P : A → Type 0) (f : Index → A → A) → AreSteps P f → (i : Index) (w : Word) (a : A) → P a
    → stepped f (strike i w) a ≡ f i (stepped f w a)
stepped-strike P f steps i [] a h = refl
stepped-strike P f steps Zero (Zero ∷ w) a h = sym (steps.twice Zero (stepped f w a) (stepped_within P f steps w a h))
stepped-strike P f steps Zero (One ∷ w) a h = refl
stepped-strike P f steps Zero (Two ∷ w) a h = refl
stepped-strike P f steps One (Zero ∷ w) a h = refl
stepped-strike P f steps One (One ∷ w) a h = sym (steps.twice One (stepped f w a) (stepped_within P f steps w a h))
stepped-strike P f steps One (Two ∷ w) a h = refl
stepped-strike P f steps Two (Zero ∷ w) a h = refl
stepped-strike P f steps Two (One ∷ w) a h = refl
stepped-strike P f steps Two (Two ∷ w) a h = sym (steps.twice Two (stepped f w a) (stepped_within P f steps w a h))

-- a letter that is put before a word leads a step further
pub stepped-put : {A : Type 0} (P : A → Type 0) (f : Index → A → A) → AreSteps P f → (i : Index) (w : Word) (a : A) → P a
    → stepped f (put i w) a ≡ f i (stepped f w a)
stepped-put P f steps Zero w a h = stepped-strike P f steps Zero w a h
stepped-put P f steps One w a h = stepped-strike P f steps One w a h
stepped-put P f steps Two [] a h = refl
stepped-put P f steps Two (Zero ∷ w) a h =
    ap (f Zero) (stepped-strike P f steps Two w a h) ∙ commuting P f steps (stepped f w a) (stepped_within P f steps w a h)
stepped-put P f steps Two (One ∷ w) a h = refl
stepped-put P f steps Two (Two ∷ w) a h = sym (steps.twice Two (stepped f w a) (stepped_within P f steps w a h))

-- a letter put before a reduced word is a step
pub put_steps : AreSteps IsReduced put
put_steps = record {
  within = put_reduced;
  twice = put_twice;
  turns = λ w h.
      let zeroed = put_reduced Zero w h in
      let twoed = put_reduced Two w h in
      ap (λ v. put Two (put Zero v)) (put_exchanged w h)
      ∙ ap (put Two) (put_twice Zero (put Two w) twoed)
      ∙ put_twice Two w h;
}

-- ## Two letters in turn

-- k times one map
abbrev pub repeated : {A : Type 0} → (A → A) → ℕ → A → A
repeated f zero a = a
repeated f (suc k) a = repeated f k (f a)

repeated-last : {A : Type 0} (f : A → A) (k : ℕ) (a : A) → repeated f (suc k) a ≡ f (repeated f k a)
repeated-last f zero a = refl
repeated-last f (suc k) a = repeated-last f k (f a)

pub repeated_within : {A : Type 0} (P : A → Type 0) (f : A → A) → ((a : A) → P a → P (f a)) → (k : ℕ) (a : A) → P a → P (repeated f k a)
repeated_within P f within zero a h = h
repeated_within P f within (suc k) a h = repeated_within P f within k (f a) (within a h)

-- the steps of i and then of j, k times, lead back by those of j and then of i
pub turned_back : {A : Type 0} (P : A → Type 0) (f : Index → A → A) → AreSteps P f → (i j : Index) (k : ℕ) (a : A) → P a
    → repeated (stepped f (i ∷ j ∷ [])) k (repeated (stepped f (j ∷ i ∷ [])) k a) ≡ a
turned_back P f steps i j zero a h = refl
turned_back P f steps i j (suc k) a h =
    let b = repeated (stepped f (j ∷ i ∷ [])) k a in
    let hb = repeated_within P (stepped f (j ∷ i ∷ [])) (λ c hc. steps.within j (f i c) (steps.within i c hc)) k a h in
    ap (repeated (stepped f (i ∷ j ∷ [])) (suc k)) (repeated-last (stepped f (j ∷ i ∷ [])) k a)
    ∙ ap (λ c. repeated (stepped f (i ∷ j ∷ [])) k (f i c)) (steps.twice j (f i b) (steps.within i b hb))
    ∙ ap (repeated (stepped f (i ∷ j ∷ [])) k) (steps.twice i b hb)
    ∙ turned_back P f steps i j k a h
