-- Names have one merged text where the store tells what they hold.
use Rattle.std.proofs.Common.{◌≡◌, ℕ, List, [], ◌∷◌, Bool, true, Option, inr, refl, sym, ap, ◌∙◌, subst}
use Rattle.dd_ports.specs.Grows.{GrowsByPrefix}
use Rattle.dd_suite_commands.specs.Merges.{IsMergedText}
use Rattle.dd_suite_commands.proofs.MergedTexts.{merged_text_unique}
use Rattle.dd_suite_tasks.specs.declared.ending.Ending.{Ending}
use Rattle.dd_suite_tasks.specs.declared.ending.Ending.TheVariants.{Done, SinkFault, Memory}
use Rattle.dd_suite_tasks.specs.Merges.{AreAllFetched, IsMergeOfHeld, AppendsMergePart, HasMergeCause}
use Rattle.dd_suite_tasks.specs.Outside.{Before, After}
use Rattle.dd_suite_tasks.specs.Stops.{IsWriteEnding}
use Rattle.dd_suite_tasks.proofs.HeldTexts.{some_injective}

pub fetched_once : (tells : Bool) (held : List ℕ → Option (List ℕ)) (names xs ys : List (List ℕ)) → tells ≡ true → AreAllFetched tells held names xs → AreAllFetched tells held names ys → xs ≡ ys
fetched_once tells held [] [] [] told a b = refl
fetched_once tells held [] [] (y ∷ ys) told a b = absurd b
fetched_once tells held [] (x ∷ xs) ys told a b = absurd a
fetched_once tells held (n ∷ names) [] ys told a b = absurd a
fetched_once tells held (n ∷ names) (x ∷ xs) [] told a b = absurd b
fetched_once tells held (n ∷ names) (x ∷ xs) (y ∷ ys) told a b =
    ap (λ f. f ∷ xs) (some_injective x y (sym (a.0 told) ∙ b.0 told)) ∙ ap (λ fs. y ∷ fs) (fetched_once tells held names xs ys told a.1 b.1)

pub merge_once : (names : List (List ℕ)) (tells : Bool) (held : List ℕ → Option (List ℕ)) (a b : List ℕ) → tells ≡ true → IsMergeOfHeld names tells held a → IsMergeOfHeld names tells held b → a ≡ b
merge_once names tells held a b told x y =
    let files : y.files ≡ x.files = fetched_once tells held names y.files x.files told y.fetched x.fetched in
    merged_text_unique x.files a b x.is_text (subst (λ fs. IsMergedText fs b) files y.is_text)

-- What grew by a prefix of one merged text grew by a prefix of each.
pub prefix_of_each_merge : (names : List (List ℕ)) (tells : Bool) (held : List ℕ → Option (List ℕ)) (old new : Option (List ℕ)) (mine text : List ℕ) → tells ≡ true
    → IsMergeOfHeld names tells held mine → GrowsByPrefix old new mine → IsMergeOfHeld names tells held text → GrowsByPrefix old new text
prefix_of_each_merge names tells held old new mine text told is grown other =
    subst (GrowsByPrefix old new) (merge_once names tells held mine text told is other) grown

-- the cause of how the merged text was written
pub merge_cause : (names : List (List ℕ)) (ending : Ending) (before : Before) (after : After) → IsWriteEnding ending before.sink_faults after.sink_faults
    → AppendsMergePart names before.tells before.held before.written after.written → HasMergeCause names ending before after
merge_cause names Done before after c part = tt
merge_cause names SinkFault before after c part = (c, inr part)
merge_cause names Memory before after c part = inr part
merge_cause names other before after c part = absurd c
