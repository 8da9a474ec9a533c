-- What the words of a merge have come to.
use Rattle.std.proofs.Common.{◌≡◌, ◌⊎◌, ℕ, List, inl, inr, refl, sym, subst}
use Rattle.dd_ports.specs.Causes.{Rose}
use Rattle.dd_ports.specs.Grows.{GrowsByPrefix}
use Rattle.dd_suite_commands.specs.Merges.{IsMergeRefusal}
use Rattle.dd_suite_commands.proofs.MergedTexts.{refused_without_merge}
use Rattle.dd_suite_tasks.specs.declared.ending.Ending.{Ending}
use Rattle.dd_suite_tasks.specs.declared.ending.Ending.TheVariants.{Done, Usage, Refused, RefusedSymbol, RefusedCheck, RefusedMerge, Paused, StoreFault, SinkFault, Memory, TooManyLines}
use Rattle.dd_suite_tasks.specs.declared.status.Status.{Status}
use Rattle.dd_suite_tasks.specs.declared.status.Status.TheVariants as status
use Rattle.dd_suite_tasks.specs.Arguments.{AreRefused}
use Rattle.dd_suite_tasks.specs.Cuts.{IsEndOfOwn}
use Rattle.dd_suite_tasks.specs.Endings.{status_of}
use Rattle.dd_suite_tasks.specs.MergeEndings.{EndsMerge, IsMergeOutput, IsMergeAccepted}
use Rattle.dd_suite_tasks.specs.Merges.{AskToMerge, IsMergeOfHeld, AreAllFetched, WritesMergePart, HasMergeCause}
use Rattle.dd_suite_tasks.specs.Messages.{IsItsCause}
use Rattle.dd_suite_tasks.specs.Outside.{Before, After, WritesNothing}
use Rattle.dd_suite_tasks.specs.Output.{AppendsOutput, IsKnownOutput}
use Rattle.dd_suite_tasks.proofs.MergedOfHeld.{fetched_once}
use Rattle.dd_suite_tasks.proofs.Requests.{run_or_merge, file_or_merge, one_merge, merge_or_exercise}

module _ (words : List (List ℕ)) (names : List (List ℕ)) (before : Before) (after : After) (asked : AskToMerge words names) where
  pub merge_known : (ending : Ending) → EndsMerge names ending before after → (bytes : List ℕ) → IsKnownOutput words before.tells before.held bytes
      → GrowsByPrefix before.written after.written bytes
  merge_known ending ends bytes (inl is) = absurd (run_or_merge words _ names is.asked.run asked)
  merge_known ending ends bytes (inr (inl (told, is))) = absurd (run_or_merge words _ names is.asked.run asked)
  merge_known ending ends bytes (inr (inr (inl (told, file)))) = absurd (file_or_merge words file.command file.name names file.asked asked)
  merge_known ending ends bytes (inr (inr (inr (inl (told, is))))) =
      ends.prefix told bytes (subst (λ ns. IsMergeOfHeld ns before.tells before.held bytes) (one_merge words is.names names is.asked asked) is.text)
  merge_known ending ends bytes (inr (inr (inr (inr (inl is))))) = absurd (merge_or_exercise words names is.start is.count asked is.asked)
  merge_known ending ends bytes (inr (inr (inr (inr (inr none))))) = absurd (none.0 (_, asked))

  pub merge_whole : (ending : Ending) → EndsMerge names ending before after → ending ≡ Done → AppendsOutput words before.tells before.held before.written after.written
  merge_whole ending ends e =
      let own = ends.whole e in
      record { bytes = own.text; output = inr (inr (inr (inl (record { names = names; asked = asked; text = own.is_text })))); appended = own.appended }

  part_nothing : ((text : List ℕ) → IsMergeOutput words before.tells before.held text → ⊥) → WritesMergePart names before after → WritesNothing before after
  part_nothing none (inl nothing) = nothing
  part_nothing none (inr part) = absurd (none part.text (record { names = names; asked = asked; text = part.is_text }))

  -- where there is no merged text, nothing was written
  pub merge_nothing : (ending : Ending) → EndsMerge names ending before after → ((text : List ℕ) → IsMergeOutput words before.tells before.held text → ⊥) → WritesNothing before after
  merge_nothing Done ends none = let own = ends.whole refl in absurd (none own.text (record { names = names; asked = asked; text = own.is_text }))
  merge_nothing (RefusedMerge refusal) ends none = ends.cause.1
  merge_nothing StoreFault ends none = ends.cause.1
  merge_nothing SinkFault ends none = part_nothing none ends.cause.1
  merge_nothing Memory ends none = part_nothing none ends.cause
  merge_nothing other ends none = absurd ends.cause

  pub merge_refused : (ending : Ending) → EndsMerge names ending before after → status_of ending ≡ status.Refused → AreRefused words before.tells before.held
  merge_refused (RefusedMerge refusal) ends e = inr (inr (inr (refusal, record { names = names; asked = asked; holds = ends.cause.0 })))
  merge_refused (Refused fault) ends e = absurd ends.cause
  merge_refused (RefusedSymbol refusal) ends e = absurd ends.cause
  merge_refused (RefusedCheck fault) ends e = absurd ends.cause
  merge_refused Done ends e = absurd (cc)
  merge_refused Usage ends e = absurd (cc)
  merge_refused (Paused lines) ends e = absurd (cc)
  merge_refused StoreFault ends e = absurd (cc)
  merge_refused SinkFault ends e = absurd (cc)
  merge_refused Memory ends e = absurd (cc)
  merge_refused TooManyLines ends e = absurd (cc)

  -- a refusal, and a fault of the store, came before anything was written
  pub merge_quiet : (ending : Ending) → EndsMerge names ending before after → (status_of ending ≡ status.Refused) ⊎ (status_of ending ≡ status.StoreFault) → WritesNothing before after
  merge_quiet (RefusedMerge refusal) ends e = ends.cause.1
  merge_quiet StoreFault ends e = ends.cause.1
  merge_quiet Done ends (inl e) = absurd (cc)
  merge_quiet Done ends (inr e) = absurd (cc)
  merge_quiet SinkFault ends (inl e) = absurd (cc)
  merge_quiet SinkFault ends (inr e) = absurd (cc)
  merge_quiet Memory ends (inl e) = absurd (cc)
  merge_quiet Memory ends (inr e) = absurd (cc)
  merge_quiet other ends e = absurd ends.cause

  pub merge_complete : (ending : Ending) → EndsMerge names ending before after → IsMergeAccepted words before.tells before.held
      → (¬ Rose before.store_faults after.store_faults) → (¬ Rose before.sink_faults after.sink_faults) → IsEndOfOwn (status_of ending) ⊎ (status_of ending ≡ status.Memory)
  merge_complete Done ends accepted kept sank = inl (inl refl)
  merge_complete (RefusedMerge refusal) ends accepted kept sank =
      let ok = accepted names asked in
      let none = ends.cause.0 in
      let own : AreAllFetched before.tells before.held names ok.1.files = subst (λ t. AreAllFetched t before.held names ok.1.files) (sym ok.0) ok.1.fetched in
      let same = fetched_once before.tells before.held names none.files ok.1.files ok.0 none.fetched own in
      absurd (refused_without_merge ok.1.files ok.1.text refusal (subst (λ fs. IsMergeRefusal fs refusal) same none.refused) ok.1.is_text)
  merge_complete StoreFault ends accepted kept sank = absurd (kept ends.cause.0)
  merge_complete SinkFault ends accepted kept sank = absurd (sank ends.cause.0)
  merge_complete Memory ends accepted kept sank = inr refl
  merge_complete other ends accepted kept sank = absurd ends.cause

  pub merge_told : (ending : Ending) → EndsMerge names ending before after → IsItsCause ending words before.tells before.held
  merge_told Done ends = tt
  merge_told (RefusedMerge refusal) ends = record { names = names; asked = asked; holds = ends.cause.0 }
  merge_told StoreFault ends = tt
  merge_told SinkFault ends = tt
  merge_told Memory ends = tt
  merge_told other ends = absurd ends.cause

pub merge_store : (names : List (List ℕ)) (ending : Ending) (before : Before) (after : After) → ending ≡ StoreFault → HasMergeCause names ending before after
    → Rose before.store_faults after.store_faults
merge_store names ending before after e c = let own : HasMergeCause names StoreFault before after = subst (λ x. HasMergeCause names x before after) e c in own.0

pub merge_sink : (names : List (List ℕ)) (ending : Ending) (before : Before) (after : After) → ending ≡ SinkFault → HasMergeCause names ending before after
    → Rose before.sink_faults after.sink_faults
merge_sink names ending before after e c = let own : HasMergeCause names SinkFault before after = subst (λ x. HasMergeCause names x before after) e c in own.0

-- the statuses that a merge has not
abbrev pub IsNever : Status → Type 0
IsNever status.Usage = Unit {0}
IsNever status.Paused = Unit {0}
IsNever status.TooManyLines = Unit {0}
IsNever other = ⊥

never : (names : List (List ℕ)) (ending : Ending) (before : Before) (after : After) → HasMergeCause names ending before after → IsNever (status_of ending) → ⊥
never names Done before after c is = is
never names (RefusedMerge refusal) before after c is = is
never names StoreFault before after c is = is
never names SinkFault before after c is = is
never names Memory before after c is = is
never names other before after c is = c

-- the words are taken, and it does not pause and is not cut short
pub merge_never : (names : List (List ℕ)) (ending : Ending) (before : Before) (after : After) (state : Status) → HasMergeCause names ending before after → status_of ending ≡ state → IsNever state → ⊥
merge_never names ending before after state c e is = never names ending before after c (subst IsNever (sym e) is)
