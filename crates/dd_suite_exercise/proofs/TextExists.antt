-- Each exercise has a text.
use Rattle.std.proofs.Common.{ℕ, ◌+◌, List, [], ◌∷◌, refl, subst, inl, inr, ⊎_elim}
use Rattle.std.specs.List.{AllByRecursion, Contains, sum_by}
use Rattle.dd_model.specs.Symbol.{Symbol, IsSymbol}
use Rattle.dd_model.proofs.CellSearch.{Decided}
use Rattle.dd_model.proofs.Lists.{Contains-none, Contains-head, Contains-later, Contains-cases}
use Rattle.dd_name.specs.Name.{name_text}
use Rattle.dd_quotient.proofs.Deciding.{decide_same}
use Rattle.dd_quotient.proofs.Members.{decide_same_symbol}
use Rattle.dd_suite_commands.specs.Info.{IsGroup}
use Rattle.dd_suite_commands.specs.Totals.{totals_of}
use Rattle.dd_suite_exercise.specs.Counting.{AreNew, AreGroups}
use Rattle.dd_suite_exercise.specs.Exercise.{tally_text, IsExerciseText}
use Rattle.dd_suite_exercise.proofs.ItemsExist.{items_exist}
use Rattle.dd_suite_exercise.proofs.OrbifoldExists.{orbifold_exists}
use Rattle.dd_suite_exercise.proofs.SeedsExist.{seeds_exist}

-- ## How many are different

decide_among : (ss : List Symbol) (s : Symbol) → AllByRecursion IsSymbol ss → IsSymbol s → Decided (Contains ss s)
decide_among [] s all is = inr (Contains-none s)
decide_among (t ∷ ss) s all is =
    ⊎_elim
    (λ same. inl (subst (Contains (t ∷ ss)) same (Contains-head t ss)))
    (λ other. decide_same (decide_among ss s all.1 is) (Contains-later t s ss)
    (λ there. ⊎_elim (λ same. absurd (other same)) (λ later. later) (Contains-cases t s ss there)))
    (decide_same_symbol t s all.0.table is.table)

record HasNew (before ss : List Symbol) : Type 0 where
  pub number : ℕ
  pub are : AreNew before ss number

new_exist : (before ss : List Symbol) → AllByRecursion IsSymbol before → AllByRecursion IsSymbol ss → HasNew before ss
new_exist before [] old all = record { number = 0; are = refl }
new_exist before (s ∷ ss) old all =
    let rest = new_exist (s ∷ before) ss (all.0, old) all.1 in
    ⊎_elim
    (λ there. record { number = rest.number; are = inl (there, rest.are) })
    (λ none. record { number = rest.number + 1; are = inr (none, rest.number, refl, rest.are) })
    (decide_among before s old all.0)

-- ## The names of the groups

pub record HasGroup (s : Symbol) : Type 0 where
  pub name : List ℕ
  pub is : IsGroup s name

pub group_exists : (s : Symbol) → IsSymbol s → HasGroup s
group_exists s is =
    let o = orbifold_exists s is in
    record { name = name_text o.orbifold; is = record { orbifold = o.orbifold; is_orbifold = o.is; text = refl } }

record HasGroups (ss : List Symbol) : Type 0 where
  pub names : List (List ℕ)
  pub are : AreGroups ss names

groups_exist : (ss : List Symbol) → AllByRecursion IsSymbol ss → HasGroups ss
groups_exist [] all = record { names = []; are = tt }
groups_exist (s ∷ ss) all =
    let first = group_exists s all.0 in
    let rest = groups_exist ss all.1 in
    record { names = first.name ∷ rest.names; are = (first.is, rest.are) }

-- ## The text

pub text_exists : (start count : ℕ) → (text : List ℕ) × IsExerciseText start count text
text_exists start count =
    let seeds = seeds_exist in
    let items = items_exist seeds.seeds start count seeds.are in
    let new = new_exist [] items.forms tt items.symbols in
    let groups = groups_exist items.forms items.symbols in (
      tally_text count (sum_by (λ s. s.size) items.forms) new.number (totals_of groups.names),
      record {
        seeds = seeds.seeds;
        are_seeds = seeds.are;
        forms = items.forms;
        number = items.number;
        are_items = items.are;
        classes = new.number;
        are_different = new.are;
        groups = groups.names;
        are_groups = groups.are;
        is_text = refl;
      },
    )
