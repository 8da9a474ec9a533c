-- What a command on a file has come to.
use Rattle.std.proofs.Common.{◌≡◌, ◌⊎◌, ℕ, List, inl, inr, refl, sym, ◌∙◌, subst}
use Rattle.dd_model.specs.Reading.{Reads}
use Rattle.dd_model.proofs.ReadingRows.{reads_once}
use Rattle.dd_ports.specs.Causes.{Rose}
use Rattle.dd_ports.specs.Grows.{GrowsByPrefix}
use Rattle.dd_suite_commands.specs.declared.commands.FileCommand.{FileCommand}
use Rattle.dd_suite_commands.specs.Files.{IsRefusalOf}
use Rattle.dd_suite_tasks.specs.declared.ending.Ending.{Ending}
use Rattle.dd_suite_tasks.specs.declared.ending.Ending.TheVariants.{Done, Usage, Refused, RefusedSymbol, RefusedCheck, RefusedMerge, Paused, StoreFault, SinkFault, Memory, TooManyLines}
use Rattle.dd_suite_tasks.specs.declared.status.Status.TheVariants as status
use Rattle.dd_suite_tasks.specs.Outside.{Before, After, WritesNothing}
use Rattle.dd_suite_tasks.specs.Words.{file_command, IsOnFile}
use Rattle.dd_suite_tasks.specs.Held.{IsTextOfHeld}
use Rattle.dd_suite_tasks.specs.Stops.{WritesPart, HasFileCause, EndsOnFile}
use Rattle.dd_suite_tasks.specs.Output.{AppendsOutput, IsFileOutput, IsKnownOutput}
use Rattle.dd_suite_tasks.specs.Arguments.{AreRefused, IsFileAccepted}
use Rattle.dd_suite_tasks.specs.Cuts.{IsEndOfOwn}
use Rattle.dd_suite_tasks.specs.Endings.{status_of}
use Rattle.dd_suite_tasks.specs.Messages.{IsItsCause}
use Rattle.dd_suite_tasks.proofs.HeldTexts.{some_injective}
use Rattle.dd_suite_tasks.proofs.Requests.{not_both, same_command, file_or_merge, file_or_exercise}

module _ (words : List (List ℕ)) (command : FileCommand) (name : List ℕ) (before : Before) (after : After) (asked : IsOnFile words command name) where
  pub file_known : (ending : Ending) → EndsOnFile command name ending before after → (bytes : List ℕ) → IsKnownOutput words before.tells before.held bytes
      → GrowsByPrefix before.written after.written bytes
  file_known ending ends bytes (inl is) = absurd (not_both words _ command name is.asked.run asked)
  file_known ending ends bytes (inr (inl (told, is))) = absurd (not_both words _ command name is.asked.run asked)
  file_known ending ends bytes (inr (inr (inl (told, file)))) =
      let same = same_command words file.command command file.name name file.asked asked in
      ends.prefix told bytes
      (subst (λ k. IsTextOfHeld k before.tells (before.held name) bytes) same.0 (subst (λ n. IsTextOfHeld file.command before.tells (before.held n) bytes) same.1 file.text))
  file_known ending ends bytes (inr (inr (inr (inl (told, is))))) = absurd (file_or_merge words command name is.names asked is.asked)
  file_known ending ends bytes (inr (inr (inr (inr (inl is))))) = absurd (file_or_exercise words command name is.start is.count asked is.asked)
  file_known ending ends bytes (inr (inr (inr (inr (inr none))))) = absurd (none.0 (file_command command name, asked))

  pub file_whole : (ending : Ending) → EndsOnFile command name ending before after → ending ≡ Done → AppendsOutput words before.tells before.held before.written after.written
  file_whole ending ends e =
      let own = ends.whole e in
      record { bytes = own.text; output = inr (inr (inl (record { command = command; name = name; asked = asked; text = own.is_text }))); appended = own.appended }

  part_nothing : ((text : List ℕ) → IsFileOutput words before.tells before.held text → ⊥) → WritesPart command name before after → WritesNothing before after
  part_nothing none (inl nothing) = nothing
  part_nothing none (inr part) = absurd (none part.text (record { command = command; name = name; asked = asked; text = part.is_text }))

  -- where there is no text of the file, nothing was written
  pub file_nothing : (ending : Ending) → EndsOnFile command name ending before after → ((text : List ℕ) → IsFileOutput words before.tells before.held text → ⊥) → WritesNothing before after
  file_nothing Done ends none = let own = ends.whole refl in absurd (none own.text (record { command = command; name = name; asked = asked; text = own.is_text }))
  file_nothing Usage ends none = absurd ends.cause
  file_nothing (Refused fault) ends none = ends.cause.1
  file_nothing (RefusedSymbol refusal) ends none = ends.cause.1
  file_nothing (RefusedCheck fault) ends none = absurd ends.cause
  file_nothing (RefusedMerge refusal) ends none = absurd ends.cause
  file_nothing (Paused lines) ends none = absurd ends.cause
  file_nothing StoreFault ends none = ends.cause.1
  file_nothing SinkFault ends none = part_nothing none ends.cause.1
  file_nothing Memory ends none = part_nothing none ends.cause
  file_nothing TooManyLines ends none = absurd ends.cause

  pub file_refused : (ending : Ending) → EndsOnFile command name ending before after → status_of ending ≡ status.Refused → AreRefused words before.tells before.held
  file_refused Done ends e = absurd (cc)
  file_refused Usage ends e = absurd (cc)
  file_refused (Refused fault) ends e = inl (fault, record { command = command; name = name; asked = asked; holds = ends.cause.0 })
  file_refused (RefusedSymbol refusal) ends e = inr (inl (refusal, record { command = command; name = name; asked = asked; holds = ends.cause.0 }))
  file_refused (RefusedCheck fault) ends e = absurd ends.cause
  file_refused (RefusedMerge refusal) ends e = absurd ends.cause
  file_refused (Paused lines) ends e = absurd (cc)
  file_refused StoreFault ends e = absurd (cc)
  file_refused SinkFault ends e = absurd (cc)
  file_refused Memory ends e = absurd (cc)
  file_refused TooManyLines ends e = absurd (cc)

  -- a refusal, and a fault of the store, came before anything was written
  pub file_quiet : (ending : Ending) → EndsOnFile command name ending before after → (status_of ending ≡ status.Refused) ⊎ (status_of ending ≡ status.StoreFault) → WritesNothing before after
  file_quiet Done ends (inl e) = absurd (cc)
  file_quiet Usage ends (inl e) = absurd (cc)
  file_quiet (Refused fault) ends (inl e) = ends.cause.1
  file_quiet (RefusedSymbol refusal) ends (inl e) = ends.cause.1
  file_quiet (RefusedCheck fault) ends (inl e) = absurd ends.cause
  file_quiet (RefusedMerge refusal) ends (inl e) = absurd ends.cause
  file_quiet (Paused lines) ends (inl e) = absurd (cc)
  file_quiet StoreFault ends (inl e) = absurd (cc)
  file_quiet SinkFault ends (inl e) = absurd (cc)
  file_quiet Memory ends (inl e) = absurd (cc)
  file_quiet TooManyLines ends (inl e) = absurd (cc)
  file_quiet Done ends (inr e) = absurd (cc)
  file_quiet Usage ends (inr e) = absurd (cc)
  file_quiet (Refused fault) ends (inr e) = absurd (cc)
  file_quiet (RefusedSymbol refusal) ends (inr e) = absurd (cc)
  file_quiet (RefusedCheck fault) ends (inr e) = absurd (cc)
  file_quiet (RefusedMerge refusal) ends (inr e) = absurd (cc)
  file_quiet (Paused lines) ends (inr e) = absurd (cc)
  file_quiet StoreFault ends (inr e) = ends.cause.1
  file_quiet SinkFault ends (inr e) = absurd (cc)
  file_quiet Memory ends (inr e) = absurd (cc)
  file_quiet TooManyLines ends (inr e) = absurd (cc)

  pub file_complete : (ending : Ending) → EndsOnFile command name ending before after → IsFileAccepted words before.tells before.held
      → (¬ Rose before.store_faults after.store_faults) → (¬ Rose before.sink_faults after.sink_faults) → IsEndOfOwn (status_of ending) ⊎ (status_of ending ≡ status.Memory)
  file_complete Done ends accepted kept sank = inl (inl refl)
  file_complete Usage ends accepted kept sank = absurd ends.cause
  file_complete (Refused fault) ends accepted kept sank =
      let ok = accepted command name asked in
      let none = ends.cause.0 in
      let same : ok.1.bytes ≡ none.bytes = some_injective ok.1.bytes none.bytes (sym ok.1.holds ∙ none.fetched ok.0) in
      absurd (none.faulty.none ok.1.symbols (subst (λ b. Reads b ok.1.symbols) same ok.1.reads))
  file_complete (RefusedSymbol refusal) ends accepted kept sank =
      let ok = accepted command name asked in
      let none = ends.cause.0 in
      let same : none.bytes ≡ ok.1.bytes = some_injective none.bytes ok.1.bytes (sym (none.fetched ok.0) ∙ ok.1.holds) in
      let symbols : none.refused.symbols ≡ ok.1.symbols =
      reads_once ok.1.bytes none.refused.symbols ok.1.symbols (subst (λ b. Reads b none.refused.symbols) same none.refused.reads) ok.1.reads in
      absurd (ok.1.accepted refusal (subst (λ ss. IsRefusalOf command ss refusal) symbols none.refused.first))
  file_complete (RefusedCheck fault) ends accepted kept sank = absurd ends.cause
  file_complete (RefusedMerge refusal) ends accepted kept sank = absurd ends.cause
  file_complete (Paused lines) ends accepted kept sank = absurd ends.cause
  file_complete StoreFault ends accepted kept sank = absurd (kept ends.cause.0)
  file_complete SinkFault ends accepted kept sank = absurd (sank ends.cause.0)
  file_complete Memory ends accepted kept sank = inr refl
  file_complete TooManyLines ends accepted kept sank = absurd ends.cause

  pub file_told : (ending : Ending) → EndsOnFile command name ending before after → IsItsCause ending words before.tells before.held
  file_told Done ends = tt
  file_told Usage ends = tt
  file_told (Refused fault) ends = record { command = command; name = name; asked = asked; holds = ends.cause.0 }
  file_told (RefusedSymbol refusal) ends = record { command = command; name = name; asked = asked; holds = ends.cause.0 }
  file_told (RefusedCheck fault) ends = absurd ends.cause
  file_told (RefusedMerge refusal) ends = absurd ends.cause
  file_told (Paused lines) ends = absurd ends.cause
  file_told StoreFault ends = tt
  file_told SinkFault ends = tt
  file_told Memory ends = tt
  file_told TooManyLines ends = tt

pub file_store : (command : FileCommand) (name : List ℕ) (ending : Ending) (before : Before) (after : After) → ending ≡ StoreFault → HasFileCause command name ending before after
    → Rose before.store_faults after.store_faults
file_store command name ending before after e c = let own : HasFileCause command name StoreFault before after = subst (λ x. HasFileCause command name x before after) e c in own.0

pub file_sink : (command : FileCommand) (name : List ℕ) (ending : Ending) (before : Before) (after : After) → ending ≡ SinkFault → HasFileCause command name ending before after
    → Rose before.sink_faults after.sink_faults
file_sink command name ending before after e c = let own : HasFileCause command name SinkFault before after = subst (λ x. HasFileCause command name x before after) e c in own.0

pub file_usage : (command : FileCommand) (name : List ℕ) (ending : Ending) (before : Before) (after : After) → ending ≡ Usage → HasFileCause command name ending before after → ⊥
file_usage command name ending before after e c = subst (λ x. HasFileCause command name x before after) e c

-- a command on a file does not pause, and is not cut short
pub file_ends : (command : FileCommand) (name : List ℕ) (ending : Ending) (before : Before) (after : After) → HasFileCause command name ending before after
    → (status_of ending ≡ status.Paused) ⊎ (status_of ending ≡ status.TooManyLines) → ⊥
file_ends command name Done before after c (inl e) = cc
file_ends command name Usage before after c (inl e) = cc
file_ends command name (Refused fault) before after c (inl e) = cc
file_ends command name (RefusedSymbol refusal) before after c (inl e) = cc
file_ends command name (RefusedCheck fault) before after c (inl e) = cc
file_ends command name (RefusedMerge refusal) before after c (inl e) = cc
file_ends command name (Paused lines) before after c (inl e) = c
file_ends command name StoreFault before after c (inl e) = cc
file_ends command name SinkFault before after c (inl e) = cc
file_ends command name Memory before after c (inl e) = cc
file_ends command name TooManyLines before after c (inl e) = cc
file_ends command name Done before after c (inr e) = cc
file_ends command name Usage before after c (inr e) = cc
file_ends command name (Refused fault) before after c (inr e) = cc
file_ends command name (RefusedSymbol refusal) before after c (inr e) = cc
file_ends command name (RefusedCheck fault) before after c (inr e) = cc
file_ends command name (RefusedMerge refusal) before after c (inr e) = cc
file_ends command name (Paused lines) before after c (inr e) = cc
file_ends command name StoreFault before after c (inr e) = cc
file_ends command name SinkFault before after c (inr e) = cc
file_ends command name Memory before after c (inr e) = cc
file_ends command name TooManyLines before after c (inr e) = c
