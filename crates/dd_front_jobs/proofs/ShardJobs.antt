-- The jobs of a list whose places are those of a shard.
use Rattle.std.proofs.Common.{◌≡◌, ◌≢◌, ◌⊎◌, ℕ, ◌+◌, ◌*◌, ◌/◌, ◌%◌, ◌<◌, List, [], ◌∷◌, ◌++◌, length, refl, sym, ap, ◌∙◌, subst, inl, inr, ⊎_elim, arith}
use Rattle.std.proofs.lemmas.Bool.{cases_lt}
use Rattle.std.proofs.lemmas.Nat.{div-add-mod', mod-mul-add, mod_below}
use Rattle.std.proofs.lemmas.List.{append_assoc, length_push}
use Rattle.std.proofs.lemmas.List.Elements.{Contains-append_right}
use Rattle.std.specs.List.{Contains}
use Rattle.dd_model.specs.Jobs.{IsJobBelow, AreAscendingJobs}
use Rattle.dd_model.specs.declared.requests.Request.{Request}
use Rattle.dd_model.specs.declared.jobs.Job.{Job}
use Rattle.dd_model.proofs.Lists.{Contains-none, Contains-head, Contains-later, Contains-cases, each_of, all_from_members}
use Rattle.dd_front_jobs.specs.declared.shards.Shard.{Shard}
use Rattle.dd_front_jobs.specs.Opening.{IsOpening}
use Rattle.dd_front_jobs.specs.Shards.{ComesAfter, IsShardOpening}
use Rattle.dd_front_jobs.proofs.Listings.{one_opening}

-- the place is one of the shard's
abbrev pub IsPlaceOf : Shard → ℕ → Type 0
IsPlaceOf shard place = place % shard.count + 1 ≡ shard.index

-- of jobs at the places from k on, those at the shard's places
abbrev pub IsPicked : Shard → ℕ → List Job → List Job → Type 0
IsPicked shard k [] picked = picked ≡ []
IsPicked shard k (j ∷ js) picked = (IsPlaceOf shard k × (rest : List Job) × (picked ≡ j ∷ rest) × IsPicked shard (k + 1) js rest) ⊎ ((¬ IsPlaceOf shard k) × IsPicked shard (k + 1) js picked)

pub picked_more : (shard : Shard) (k n : ℕ) (js picked : List Job) (j : Job) → n ≡ k + length js → IsPlaceOf shard n → IsPicked shard k js picked → IsPicked shard k (js ++ j ∷ []) (picked ++ j ∷ [])
picked_more shard k n [] picked j at is part =
    let here : n ≡ k = omega (arith, at) in
    inl (subst (IsPlaceOf shard) here is, [], ap (λ ks. ks ++ j ∷ []) part, refl)
picked_more shard k n (i ∷ js) picked j at is part =
    ⊎_elim
    (λ taken. inl (taken.0, taken.1 ++ j ∷ [], ap (λ ks. ks ++ j ∷ []) taken.2, picked_more shard (k + 1) n js taken.1 j (omega (arith, at)) is taken.3))
    (λ left. inr (left.0, picked_more shard (k + 1) n js picked j (omega (arith, at)) is left.1))
    part

pub picked_past : (shard : Shard) (k n : ℕ) (js picked : List Job) (j : Job) → n ≡ k + length js → (¬ IsPlaceOf shard n) → IsPicked shard k js picked → IsPicked shard k (js ++ j ∷ []) picked
picked_past shard k n [] picked j at not part =
    let here : n ≡ k = omega (arith, at) in
    inr ((λ is. not (subst (IsPlaceOf shard) (sym here) is)), part)
picked_past shard k n (i ∷ js) picked j at not part =
    ⊎_elim
    (λ taken. inl (taken.0, taken.1, taken.2, picked_past shard (k + 1) n js taken.1 j (omega (arith, at)) not taken.3))
    (λ left. inr (left.0, picked_past shard (k + 1) n js picked j (omega (arith, at)) not left.1))
    part

-- a job of the list at one of the shard's places
pub record IsChosen (shard : Shard) (k : ℕ) (js : List Job) (job : Job) : Type 0 where
  pub before : List Job
  pub comes : ComesAfter js before job
  pub place : IsPlaceOf shard (k + length before)

chosen_first : (shard : Shard) (k : ℕ) (j job : Job) (js : List Job) → IsPlaceOf shard k → j ≡ job → IsChosen shard k (j ∷ js) job
chosen_first shard k j job js is same = record {
  before = [];
  comes = record { after = js; parts = ap (λ i. i ∷ js) same };
  place = let here : k ≡ k + 0 = omega arith in subst (IsPlaceOf shard) here is;
}

chosen_later : (shard : Shard) (k : ℕ) (j job : Job) (js : List Job) → IsChosen shard (k + 1) js job → IsChosen shard k (j ∷ js) job
chosen_later shard k j job js is = record {
  before = j ∷ is.before;
  comes = record { after = is.comes.after; parts = ap (λ is. j ∷ is) is.comes.parts };
  place = let there : k + 1 + length is.before ≡ k + length (j ∷ is.before) = omega arith in subst (IsPlaceOf shard) there is.place;
}

pub picked_chosen : (shard : Shard) (k : ℕ) (js picked : List Job) (job : Job) → IsPicked shard k js picked → Contains picked job → IsChosen shard k js job
picked_chosen shard k [] picked job part there = absurd (Contains-none job (subst (λ ks. Contains ks job) part there))
picked_chosen shard k (j ∷ js) picked job part there =
    ⊎_elim
    (λ taken.
    ⊎_elim
    (λ same. chosen_first shard k j job js taken.0 same)
    (λ later. chosen_later shard k j job js (picked_chosen shard (k + 1) js taken.1 job taken.3 later))
    (Contains-cases j job taken.1 (subst (λ ks. Contains ks job) taken.2 there)))
    (λ left. chosen_later shard k j job js (picked_chosen shard (k + 1) js picked job left.1 there))
    part

chosen_here : (shard : Shard) (k : ℕ) (j job : Job) (js before after : List Job) → j ∷ js ≡ before ++ job ∷ after → IsPlaceOf shard (k + length before)
    → (IsPlaceOf shard k × (j ≡ job)) ⊎ IsChosen shard (k + 1) js job
chosen_here shard k j job js [] after parts is = inl (let here : k + 0 ≡ k = omega arith in subst (IsPlaceOf shard) here is, cc)
chosen_here shard k j job js (b ∷ before) after parts is = inr (record {
  before = before;
  comes = record { after = after; parts = cc };
  place = let there : k + length (b ∷ before) ≡ k + 1 + length before = omega arith in subst (IsPlaceOf shard) there is;
})

pub chosen_picked : (shard : Shard) (k : ℕ) (js picked : List Job) (job : Job) → IsPicked shard k js picked → IsChosen shard k js job → Contains picked job
chosen_picked shard k [] picked job part is = absurd (no_part is.before is.comes.after is.comes.parts)
  where
    no_part : (before after : List Job) → [] ≡ before ++ job ∷ after → ⊥
    no_part [] after e = cc
    no_part (b ∷ before) after e = cc
chosen_picked shard k (j ∷ js) picked job part is =
    ⊎_elim
    (λ taken. subst (λ ks. Contains ks job) (sym taken.2)
    (⊎_elim
    (λ first. subst (λ i. Contains (j ∷ taken.1) i) first.1 (Contains-head j taken.1))
    (λ later. Contains-later j job taken.1 (chosen_picked shard (k + 1) js taken.1 job taken.3 later))
    (chosen_here shard k j job js is.before is.comes.after is.comes.parts is.place)))
    (λ left.
    ⊎_elim
    (λ first. absurd (left.0 first.0))
    (λ later. chosen_picked shard (k + 1) js picked job left.1 later)
    (chosen_here shard k j job js is.before is.comes.after is.comes.parts is.place))
    part

pub picked_there : (shard : Shard) (k : ℕ) (js picked : List Job) (job : Job) → IsPicked shard k js picked → Contains picked job → Contains js job
picked_there shard k js picked job part there =
    let is = picked_chosen shard k js picked job part there in
    subst (λ ks. Contains ks job) (sym is.comes.parts) (Contains-append_right is.before (job ∷ is.comes.after) job (Contains-head job is.comes.after))

pub picked_ascending : (shard : Shard) (k : ℕ) (js picked : List Job) → IsPicked shard k js picked → AreAscendingJobs js → AreAscendingJobs picked
picked_ascending shard k [] picked part ascending = subst AreAscendingJobs (sym part) tt
picked_ascending shard k (j ∷ js) picked part ascending =
    ⊎_elim
    (λ taken. subst AreAscendingJobs (sym taken.2) (
      all_from_members (IsJobBelow j) taken.1 (λ i there. each_of (IsJobBelow j) js i ascending.0 (picked_there shard (k + 1) js taken.1 i taken.3 there)),
      picked_ascending shard (k + 1) js taken.1 taken.3 ascending.1,
    ))
    (λ left. picked_ascending shard (k + 1) js picked left.1 ascending.1)
    part

-- the jobs of an opening at the places of a shard are those of the shard
pub shard_whole : (q : Request) (shard : Shard) (opening picked : List Job) → IsOpening q opening → IsPicked shard 0 opening picked → IsShardOpening q shard picked
shard_whole q shard opening picked is part = record {
  ascending = picked_ascending shard 0 opening picked part is.ascending;
  members = λ job. (
    (λ there.
        let c = picked_chosen shard 0 opening picked job part there in
        record { opening = opening; is_opening = is; before = c.before; comes = c.comes; remainder = let none : 0 + length c.before ≡ length c.before = omega arith in subst (IsPlaceOf shard) none c.place }),
    (λ of_shard.
        let same : of_shard.opening ≡ opening = one_opening q of_shard.opening opening of_shard.is_opening is in
        chosen_picked shard 0 opening picked job part (record {
          before = of_shard.before;
          comes = record { after = of_shard.comes.after; parts = sym same ∙ of_shard.comes.parts };
          place = let none : length of_shard.before ≡ 0 + length of_shard.before = omega arith in subst (IsPlaceOf shard) none of_shard.remainder;
        })),
  );
}

-- ## The place of the next job

pub next_place : (place n c : ℕ) → 0 < c → place ≡ n % c → (place + 1) % c ≡ (n + 1) % c
next_place place n c some is =
    let low : n % c < c = mod_below n c some in
    let whole : n / c * c + n % c ≡ n = div-add-mod' n c in
    let next : (n + 1) % c ≡ (n / c * c + (place + 1)) % c = ap (λ m. m % c) (omega (arith, whole, is)) in
    ⊎_elim
    (λ less.
    let one : (place + 1) % c ≡ (0 * c + (place + 1)) % c = ap (λ m. m % c) (omega arith) in
    one ∙ mod-mul-add 0 c (place + 1) less ∙ sym (next ∙ mod-mul-add (n / c) c (place + 1) less))
    (λ more.
    let all : place + 1 ≡ 1 * c + 0 = omega (arith, more, low, is) in
    let turned : n / c * c + (place + 1) ≡ (n / c + 1) * c + 0 = omega (arith, all) in
    let none : (1 * c + 0) % c ≡ 0 = mod-mul-add 1 c 0 some in
    let none_more : ((n / c + 1) * c + 0) % c ≡ 0 = mod-mul-add (n / c + 1) c 0 some in
    ap (λ m. m % c) all ∙ none ∙ sym (next ∙ ap (λ m. m % c) turned ∙ none_more))
    (cases_lt (place + 1) c)

-- ## One job more

pub whole_on : (q : Request) (yielded old new : List Job) (job : Job) → old ≡ job ∷ new → IsOpening q (yielded ++ old) → IsOpening q ((yielded ++ job ∷ []) ++ new)
whole_on q yielded old new job same is = subst (IsOpening q) (ap (λ js. yielded ++ js) same ∙ sym (append_assoc yielded (job ∷ []) new)) is

pub place_on : (shard : Shard) (place count : ℕ) (yielded : List Job) (job : Job) → count ≡ shard.count → place ≡ length yielded % shard.count → (place + 1) % count ≡ length (yielded ++ job ∷ []) % shard.count
place_on shard place count yielded job same is =
    let some = shard.positive in
    let within = shard.within in
    ap (λ c. (place + 1) % c) same ∙ next_place place (length yielded) shard.count (omega (arith, some, within)) is ∙ ap (λ n. n % shard.count) (sym (length_push yielded job))

pub picked_on : (shard : Shard) (place index : ℕ) (yielded old new : List Job) (job : Job) → index ≡ shard.index → place ≡ length yielded % shard.count → IsPicked shard 0 yielded old
    → ((place + 1 ≡ index) × (new ≡ old ++ job ∷ [])) ⊎ ((place + 1 ≢ index) × (new ≡ old)) → IsPicked shard 0 (yielded ++ job ∷ []) new
picked_on shard place index yielded old new job named is part =
    let here : length yielded ≡ 0 + length yielded = omega arith in
    ⊎_elim
    (λ taken. subst (IsPicked shard 0 (yielded ++ job ∷ [])) (sym taken.1)
    (picked_more shard 0 (length yielded) yielded old job here (ap (λ p. p + 1) (sym is) ∙ taken.0 ∙ named) part))
    (λ left. subst (IsPicked shard 0 (yielded ++ job ∷ [])) (sym left.1)
    (picked_past shard 0 (length yielded) yielded old job here (λ at. left.0 (ap (λ p. p + 1) is ∙ at ∙ sym named)) part))
