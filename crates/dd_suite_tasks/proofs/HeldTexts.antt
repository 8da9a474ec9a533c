-- The text of a file is one where the store tells what it holds, and so is a checkpoint.
use Rattle.std.proofs.Common.{◌≡◌, ℕ, List, Bool, true, Option, Some, sym, ◌∙◌, subst}
use Rattle.dd_ports.specs.Grows.{GrowsByPrefix}
use Rattle.dd_suite_commands.specs.declared.commands.FileCommand.{FileCommand}
use Rattle.dd_suite_commands.specs.Files.{IsFileText}
use Rattle.dd_suite_commands.proofs.FileTexts.{file_text_unique}
use Rattle.dd_check.specs.ShardChecks.{IsAcceptedText}
use Rattle.dd_check.specs.declared.checkpoint.ResumeKind.{ResumeKind}
use Rattle.dd_check.specs.ChainStarts.{Start, next_start}
use Rattle.dd_check.proofs.ChainParts.{one_accepted}
use Rattle.dd_suite_tasks.specs.Beginnings.{BeginsNext}
use Rattle.dd_suite_tasks.specs.Held.{IsTextOfHeld}

pub some_injective : (a b : List ℕ) → Some a ≡ Some b → a ≡ b
some_injective a b e = cc

held_text_unique : (command : FileCommand) (tells : Bool) (held : Option (List ℕ)) (a b : List ℕ) → tells ≡ true
    → IsTextOfHeld command tells held a → IsTextOfHeld command tells held b → a ≡ b
held_text_unique command tells held a b told x y =
    let bytes : y.bytes ≡ x.bytes = some_injective y.bytes x.bytes (sym (y.fetched told) ∙ x.fetched told) in
    file_text_unique command x.bytes a b x.is_text (subst (λ c. IsFileText command c b) bytes y.is_text)

-- What grew by a prefix of one text of the file grew by a prefix of each.
pub prefix_of_each_file : (command : FileCommand) (tells : Bool) (held old new : Option (List ℕ)) (mine text : List ℕ) → tells ≡ true
    → IsTextOfHeld command tells held mine → GrowsByPrefix old new mine → IsTextOfHeld command tells held text → GrowsByPrefix old new text
prefix_of_each_file command tells held old new mine text told is grown other =
    subst (GrowsByPrefix old new) (held_text_unique command tells held mine text told is other) grown

-- a run that goes on from what a name holds begins at one place
pub one_next : (kind : ResumeKind) (tells : Bool) (held : Option (List ℕ)) (s t : Start) → tells ≡ true → BeginsNext kind tells held s → BeginsNext kind tells held t → s ≡ t
one_next kind tells held s t told x y =
    let a = x.held_is in
    let b = y.held_is in
    let bytes : b.holds.bytes ≡ a.holds.bytes = some_injective b.holds.bytes a.holds.bytes (sym (b.holds.fetched told) ∙ a.holds.fetched told) in
    let one = one_accepted a.holds.bytes a.shard b.shard a.check b.check (a.kind_is ∙ sym b.kind_is) a.holds.accepted (subst (λ z. IsAcceptedText b.shard z b.check) bytes b.holds.accepted) in
    x.start_is ∙ (λ i. next_start (one.0 i) (one.1 i)) ∙ sym y.start_is
