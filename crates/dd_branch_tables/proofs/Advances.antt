-- How far a search has come from a state at its levels, for states of any kind.
use Rattle.std.proofs.Common.{◌≡◌, ◌↔◌, ◌⊎◌, ℕ, ◌*◌, ◌<◌, ◌≤◌, List, [], ◌∷◌, ◌++◌, length, sym, ap, ◌∙◌, subst, inl, inr, ⊎_elim, arith}
use Rattle.dd_model.specs.Symbol.{Symbol}
use Rattle.dd_model.specs.Code.{IsBelow}
use Rattle.dd_model.specs.declared.requests.Request.{Request}
use Rattle.dd_branch_tables.specs.Chambers.{bit_of, HasNone, IsFirst}
use Rattle.dd_branch_tables.specs.Search.{SearchLaws, GoesOn}
use Rattle.dd_front_jobs.specs.Under.{IsUnder, HasNothingUnder}
use Rattle.dd_branch_tables.specs.Levels.{IsStep, IsBeyond, IsAt, IsToTry, IsLeft, IsLeftAt, first_at, first_of, weight}
use Rattle.dd_branch_tables.specs.declared.chamber_set.ChamberSet.{ChamberSet}
use Rattle.dd_branch_tables.specs.declared.level.Level.{Level}
use Rattle.dd_branch_tables.proofs.LevelSteps.{below_left, left_none, all_to_try, tried_or_left, later_left}
use Rattle.dd_branch_tables.proofs.Weights.{lighter_popped, lighter_tried}

-- both ways, and on
pub through : {A B C : Type 0} → A ↔ B → B ↔ C → A ↔ C
through ab bc = ((λ a. bc.0 (ab.0 a)), (λ c. ab.1 (bc.1 c)))

-- what is left at a level without numbers is left at the others
pub left_others : {A B : Type 0} → ¬ A → (A ⊎ B) ↔ B
left_others none = ((λ either. ⊎_elim (λ a. absurd (none a)) (λ b. b) either), inr)

pub regroup : {A B C D : Type 0} → A ↔ (B ⊎ C) → (A ⊎ D) ↔ (B ⊎ (C ⊎ D))
regroup parts = (
  (λ either. ⊎_elim (λ a. ⊎_elim inl (λ c. inr (inl c)) (parts.0 a)) (λ d. inr (inr d)) either),
  (λ either. ⊎_elim (λ b. inl (parts.1 (inl b))) (λ rest. ⊎_elim (λ c. inl (parts.1 (inr c))) inr rest) either),
)

pub on_left : {A B D : Type 0} → A ↔ B → (A ⊎ D) ↔ (B ⊎ D)
on_left parts = ((λ either. ⊎_elim (λ a. inl (parts.0 a)) inr either), (λ either. ⊎_elim (λ b. inl (parts.1 b)) inr either))

module _ {S : Type 0} (laws : SearchLaws S) where
  -- From one state at its levels the search has come to another: the same is left.
  pub record HasCome (begun : S) (first : List Level) (state : S) (levels : List Level) : Type 0 where
    pub valid_now : laws.valid state
    pub same_request : laws.request state ≡ laws.request begun
    pub same_size : laws.size state ≡ laws.size begun
    pub at : IsAt laws state levels
    pub same_first : first_at laws state levels ≡ first_at laws begun first
    pub left : (s : Symbol) → IsLeftAt laws (laws.wanted (laws.request begun)) (laws.size begun) begun first s ↔ IsLeftAt laws (laws.wanted (laws.request begun)) (laws.size begun) state levels s
    pub lighter : weight levels ≤ weight first

  -- what is said of the request and the size of a state is said of those of the first one
  pub of_first : (begun state : S) → laws.request state ≡ laws.request begun → laws.size state ≡ laws.size begun → (P : (Symbol → Type 0) → ℕ → Type 0) → P (laws.wanted (laws.request state)) (laws.size state) → P (laws.wanted (laws.request begun)) (laws.size begun)
  of_first begun state q n P p = subst (λ k. P (laws.wanted (laws.request begun)) k) n (subst (λ r. P (laws.wanted r) (laws.size state)) q p)

  -- a prefix that is not whole has room for a number
  low_prefix : (begun state : S) (first : List Level) (level : Level) (levels : List Level) → laws.end (laws.size begun) ≤ 5 * laws.size begun → HasCome begun first state (level ∷ levels) → length (laws.prefix state) < 5 * laws.size begun
  low_prefix begun state first level levels fits come = let room = subst (λ k. length (laws.prefix state) < laws.end k) come.same_size come.at.0.room in omega (arith, room, fits)

  -- Nothing was left at the last level: the search goes back to the one before.
  pub came_back : (begun state : S) (first levels : List Level) (level before : Level) → HasCome begun first state (level ∷ before ∷ levels) → HasNone level.left → HasCome begun first (laws.undone state before.mark) (before ∷ levels)
  came_back begun state first levels level before come empty =
      let step = come.at.1.0 in
      record {
        valid_now = step.valid_there;
        same_request = sym step.longer.same_request ∙ come.same_request;
        same_size = sym step.longer.same_size ∙ come.same_size;
        at = (record { mark = step.mark; room = step.room }, come.at.1.1);
        same_first = come.same_first;
        left = λ s. through (come.left s) (left_others (left_none (laws.wanted (laws.request begun)) (laws.size begun) (laws.prefix state) level.left s empty));
        lighter = let most = come.lighter in let less = lighter_popped level (before ∷ levels) empty in omega (arith, most, less);
      }

  -- The least number that was left is tried, and nothing is under the prefix with it.
  pub came_dead : (begun state : S) (first levels : List Level) (level : Level) (m : ℕ) (rest : ChamberSet) → laws.end (laws.size begun) ≤ 5 * laws.size begun → HasCome begun first state (level ∷ levels) → IsFirst level.left m rest
      → HasNothingUnder (laws.wanted (laws.request state)) (laws.size state) (laws.prefix state ++ m ∷ []) → HasCome begun first state (record { mark = level.mark; left = rest } ∷ levels)
  came_dead begun state first levels level m rest fits come taken dead =
      let W = laws.wanted (laws.request begun) in
      let n = laws.size begun in
      let low = low_prefix begun state first level levels fits come in
      let none = of_first begun state come.same_request come.same_size (λ V k. HasNothingUnder V k (laws.prefix state ++ m ∷ [])) dead in
      record {
        valid_now = come.valid_now;
        same_request = come.same_request;
        same_size = come.same_size;
        at = (record { mark = come.at.0.mark; room = come.at.0.room }, come.at.1);
        same_first = come.same_first;
        left = λ s. through (come.left s) (on_left (through (tried_or_left W n (laws.prefix state) level.left m rest s low taken) (left_others (none s))));
        lighter = let before = come.lighter in let less = lighter_tried level (record { mark = level.mark; left = rest }) levels taken.fewer in omega (arith, before, less);
      }

  -- The least number that was left led on to a state beyond the level.
  pub record HasEntered (begun : S) (first : List Level) (state : S) (levels : List Level) : Type 0 where
    pub beyond : IsBeyond laws state levels
    pub same_request : laws.request state ≡ laws.request begun
    pub same_size : laws.size state ≡ laws.size begun
    pub same_first : first_of laws state levels ≡ first_at laws begun first
    pub left : (s : Symbol) → IsLeftAt laws (laws.wanted (laws.request begun)) (laws.size begun) begun first s
        ↔ (IsUnder (laws.wanted (laws.request begun)) (laws.size begun) (laws.prefix state) s ⊎ IsLeft laws (laws.wanted (laws.request begun)) (laws.size begun) state levels s)
    pub lighter : weight levels < weight first

  pub came_in : (begun state new : S) (first levels : List Level) (level : Level) (m : ℕ) (rest : ChamberSet) → laws.end (laws.size begun) ≤ 5 * laws.size begun → HasCome begun first state (level ∷ levels) → IsFirst level.left m rest
      → GoesOn laws m state new → laws.undone new (laws.depth state) ≡ state → HasEntered begun first new (record { mark = level.mark; left = rest } ∷ levels)
  came_in begun state new first levels level m rest fits come taken on back =
      let W = laws.wanted (laws.request begun) in
      let n = laws.size begun in
      let low = low_prefix begun state first level levels fits come in
      let later : Level = record { mark = level.mark; left = rest } in
      let there : laws.undone new level.mark ≡ state = ap (laws.undone new) come.at.0.mark ∙ back in
      let step : IsStep laws later state new = record {
        number = m;
        valid_there = come.valid_now;
        mark = come.at.0.mark;
        room = come.at.0.room;
        longer = on;
        later = λ k told. later_left level.left m rest k taken told;
      } in
      let same : (s : Symbol) → IsUnder W n (laws.prefix new) s ↔ IsUnder W n (laws.prefix state ++ m ∷ []) s = λ s. of_first begun state come.same_request come.same_size (λ V k. IsUnder V k (laws.prefix new) s ↔ IsUnder V k (laws.prefix state ++ m ∷ []) s) (on.same.same s) in
      record {
        beyond = subst (λ t. IsStep laws later t new × IsBeyond laws t levels) (sym there) (step, come.at.1);
        same_request = on.same_request ∙ come.same_request;
        same_size = on.same_size ∙ come.same_size;
        same_first = ap (λ t. first_of laws t levels) there ∙ come.same_first;
        left = λ s. through (come.left s) (through
            (regroup (tried_or_left W n (laws.prefix state) level.left m rest s low taken))
            (subst (λ t. (IsUnder W n (laws.prefix state ++ m ∷ []) s ⊎ (IsToTry W n (laws.prefix state) later.left s ⊎ IsLeft laws W n state levels s))
            ↔ (IsUnder W n (laws.prefix new) s ⊎ (IsToTry W n (laws.prefix t) later.left s ⊎ IsLeft laws W n t levels s))) (sym there)
            (on_left ((same s).1, (same s).0))));
        lighter = let before = come.lighter in let less = lighter_tried level later levels taken.fewer in omega (arith, before, less);
      }

  -- The search goes on at the state to which the number led, as a new level.
  pub came_on : (begun new : S) (first levels : List Level) (level : Level) → laws.end (laws.size begun) ≤ 5 * laws.size begun → laws.valid new → HasEntered begun first new levels
      → level.mark ≡ laws.depth new → length (laws.prefix new) < laws.end (laws.size new) → ((k : ℕ) → bit_of level.left k ≡ 0 → HasNothingUnder (laws.wanted (laws.request new)) (laws.size new) (laws.prefix new ++ k ∷ []))
      → weight (level ∷ levels) ≤ weight first → HasCome begun first new (level ∷ levels)
  came_on begun new first levels level fits v entered mark room none light =
      let inside = subst (λ k. length (laws.prefix new) < laws.end k) entered.same_size room in
      let low : length (laws.prefix new) < 5 * laws.size begun = omega (arith, inside, fits) in
      record {
        valid_now = v;
        same_request = entered.same_request;
        same_size = entered.same_size;
        at = (record { mark = mark; room = room }, entered.beyond);
        same_first = entered.same_first;
        left = λ s. through (entered.left s) (on_left (all_to_try (laws.wanted (laws.request begun)) (laws.size begun) (laws.prefix new) level.left s low
            (λ k zero. of_first begun new entered.same_request entered.same_size (λ V j. HasNothingUnder V j (laws.prefix new ++ k ∷ [])) (none k zero))));
        lighter = light;
      }

  -- what is under a whole prefix comes before what is left
  pub comes_first : (begun new : S) (first levels : List Level) → laws.end (laws.size begun) ≤ 5 * laws.size begun → HasEntered begun first new levels → (s t : Symbol)
      → IsUnder (laws.wanted (laws.request begun)) (laws.size begun) (laws.prefix new) s → IsLeft laws (laws.wanted (laws.request begun)) (laws.size begun) new levels t → IsBelow s t
  comes_first begun new first levels fits entered s t under left =
      below_left laws (laws.wanted (laws.request begun)) (laws.size begun) fits new levels (ap laws.wanted entered.same_request) entered.same_size entered.beyond s t under left
