-- The first word of each command.
use Rattle.std.specs.Prelude.{codes}
use Rattle.dd_template.specs.declared.operations.Operation.{Operation}
use Rattle.dd_template.specs.declared.operations.Operation.TheVariants as operation
use Rattle.dd_words.specs.declared.commands.FileKind.{FileKind}
use Rattle.dd_words.specs.declared.commands.FileKind.TheVariants as kind
use Rattle.dd_words.specs.declared.commands.Command.{Command}
use Rattle.dd_words.specs.declared.commands.Command.TheVariants as command
use Rattle.dd_words.specs.declared.verbs.Verb.{Verb}
use Rattle.dd_words.specs.declared.verbs.Verb.TheVariants as verb
use Rattle.dd_words.specs.Values.{Text}

-- the first word of the command that makes a derived tiling
abbrev pub word_of_operation : Operation → Text
word_of_operation operation.Ambo = codes "ambo"
word_of_operation operation.Truncate = codes "truncate"
word_of_operation operation.Chamfer = codes "chamfer"

-- the first word of a command on a file
abbrev pub word_of_kind : FileKind → Text
word_of_kind kind.Canon = codes "canon"
word_of_kind kind.Lines = codes "lines"
word_of_kind kind.Info = codes "info"
word_of_kind kind.Minimal = codes "minimal"
word_of_kind kind.Dual = codes "dual"
word_of_kind (kind.Derived operation) = word_of_operation operation
word_of_kind kind.Oriented = codes "oriented"
word_of_kind kind.Torus = codes "torus"
word_of_kind kind.Sheets = codes "sheets"

-- the first word
abbrev pub first_word : Verb → Text
first_word verb.Catalogue = codes "catalogue"
first_word verb.Resume = codes "resume"
first_word verb.Shard = codes "shard"
first_word verb.ResumeShard = codes "resume-shard"
first_word verb.Draw = codes "draw"
first_word verb.Exercise = codes "exercise"
first_word verb.Apply = codes "apply"
first_word verb.Merge = codes "merge"
first_word (verb.File kind) = word_of_kind kind

-- what a command does, without its values
abbrev pub verb_of : Command → Verb
verb_of (command.Catalogue request pace pause checkpoint) = verb.Catalogue
verb_of (command.Resume name pace pause) = verb.Resume
verb_of (command.Shard shard request pace pause checkpoint) = verb.Shard
verb_of (command.ResumeShard name pace pause) = verb.ResumeShard
verb_of (command.Draw file frame) = verb.Draw
verb_of (command.Exercise start count) = verb.Exercise
verb_of (command.Apply word file) = verb.Apply
verb_of (command.Merge files) = verb.Merge
verb_of (command.File kind file) = verb.File kind
