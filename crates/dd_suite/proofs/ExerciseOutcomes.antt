-- What the words of an exercise have come to.
use Rattle.std.proofs.Common.{◌≡◌, ◌⊎◌, ℕ, List, inl, inr, refl, sym, subst}
use Rattle.dd_ports.specs.Causes.{Rose}
use Rattle.dd_ports.specs.Grows.{GrowsByPrefix}
use Rattle.dd_suite_exercise.specs.Exercise.{IsExerciseText}
use Rattle.dd_suite_tasks.specs.declared.ending.Ending.{Ending}
use Rattle.dd_suite_tasks.specs.declared.ending.Ending.TheVariants.{Done, Usage, Refused, RefusedSymbol, RefusedCheck, RefusedMerge, Paused, StoreFault, SinkFault, Memory, TooManyLines}
use Rattle.dd_suite_tasks.specs.declared.status.Status.{Status}
use Rattle.dd_suite_tasks.specs.declared.status.Status.TheVariants as status
use Rattle.dd_suite_tasks.specs.Cuts.{IsEndOfOwn}
use Rattle.dd_suite_tasks.specs.Endings.{status_of}
use Rattle.dd_suite_tasks.specs.Messages.{IsItsCause}
use Rattle.dd_suite_tasks.specs.Outside.{Before, After}
use Rattle.dd_suite_tasks.specs.Output.{AppendsOutput, IsKnownOutput}
use Rattle.dd_suite_tasks.specs.Stops.{IsWriteEnding, EndsExercise}
use Rattle.dd_suite_tasks.specs.Words.{AskToExercise}
use Rattle.dd_suite_tasks.proofs.Requests.{one_exercise, run_or_exercise, file_or_exercise, merge_or_exercise}

module _ (words : List (List ℕ)) (start count : ℕ) (before : Before) (after : After) (asked : AskToExercise words start count) where
  pub exercise_known : (ending : Ending) → EndsExercise start count ending before after → (bytes : List ℕ) → IsKnownOutput words before.tells before.held bytes
      → GrowsByPrefix before.written after.written bytes
  exercise_known ending ends bytes (inl is) = absurd (run_or_exercise words _ start count is.asked.run asked)
  exercise_known ending ends bytes (inr (inl (told, is))) = absurd (run_or_exercise words _ start count is.asked.run asked)
  exercise_known ending ends bytes (inr (inr (inl (told, file)))) = absurd (file_or_exercise words file.command file.name start count file.asked asked)
  exercise_known ending ends bytes (inr (inr (inr (inl (told, is))))) = absurd (merge_or_exercise words is.names start count is.asked asked)
  exercise_known ending ends bytes (inr (inr (inr (inr (inl is))))) =
      let same = one_exercise words is.start is.count start count is.asked asked in
      ends.prefix bytes (subst (λ n. IsExerciseText n count bytes) same.0 (subst (λ n. IsExerciseText is.start n bytes) same.1 is.text))
  exercise_known ending ends bytes (inr (inr (inr (inr (inr none))))) = absurd (none.0 (_, asked))

  pub exercise_whole : (ending : Ending) → EndsExercise start count ending before after → ending ≡ Done → AppendsOutput words before.tells before.held before.written after.written
  exercise_whole ending ends e =
      let own = ends.whole e in
      record { bytes = own.text; output = inr (inr (inr (inr (inl (record { start = start; count = count; asked = asked; text = own.is_text }))))); appended = own.appended }

pub exercise_complete : (ending : Ending) (old new : ℕ) → IsWriteEnding ending old new → (¬ Rose old new) → IsEndOfOwn (status_of ending) ⊎ (status_of ending ≡ status.Memory)
exercise_complete Done old new c sank = inl (inl refl)
exercise_complete Usage old new c sank = absurd c
exercise_complete (Refused fault) old new c sank = absurd c
exercise_complete (RefusedSymbol refusal) old new c sank = absurd c
exercise_complete (RefusedCheck fault) old new c sank = absurd c
exercise_complete (RefusedMerge refusal) old new c sank = absurd c
exercise_complete (Paused lines) old new c sank = absurd c
exercise_complete StoreFault old new c sank = absurd c
exercise_complete SinkFault old new c sank = absurd (sank c)
exercise_complete Memory old new c sank = inr refl
exercise_complete TooManyLines old new c sank = absurd c

pub exercise_told : (ending : Ending) (words : List (List ℕ)) (before : Before) (old new : ℕ) → IsWriteEnding ending old new → IsItsCause ending words before.tells before.held
exercise_told Done words before old new c = tt
exercise_told Usage words before old new c = tt
exercise_told (Refused fault) words before old new c = absurd c
exercise_told (RefusedSymbol refusal) words before old new c = absurd c
exercise_told (RefusedCheck fault) words before old new c = absurd c
exercise_told (RefusedMerge refusal) words before old new c = absurd c
exercise_told (Paused lines) words before old new c = absurd c
exercise_told StoreFault words before old new c = tt
exercise_told SinkFault words before old new c = tt
exercise_told Memory words before old new c = tt
exercise_told TooManyLines words before old new c = tt

pub exercise_sink : (ending : Ending) (old new : ℕ) → ending ≡ SinkFault → IsWriteEnding ending old new → Rose old new
exercise_sink ending old new e c = subst (λ x. IsWriteEnding x old new) e c

-- the statuses that an exercise has not
abbrev pub IsNone : Status → Type 0
IsNone status.Usage = Unit {0}
IsNone status.Refused = Unit {0}
IsNone status.Paused = Unit {0}
IsNone status.StoreFault = Unit {0}
IsNone status.TooManyLines = Unit {0}
IsNone other = ⊥

never : (ending : Ending) (old new : ℕ) → IsWriteEnding ending old new → IsNone (status_of ending) → ⊥
never Done old new c is = is
never Usage old new c is = c
never (Refused fault) old new c is = c
never (RefusedSymbol refusal) old new c is = c
never (RefusedCheck fault) old new c is = c
never (RefusedMerge refusal) old new c is = c
never (Paused lines) old new c is = c
never StoreFault old new c is = c
never SinkFault old new c is = is
never Memory old new c is = is
never TooManyLines old new c is = c

-- it is not refused, does not pause and is not cut short, and the store does not fail
pub exercise_never : (ending : Ending) (old new : ℕ) (state : Status) → IsWriteEnding ending old new → status_of ending ≡ state → IsNone state → ⊥
exercise_never ending old new state c e is = never ending old new c (subst IsNone (sym e) is)
