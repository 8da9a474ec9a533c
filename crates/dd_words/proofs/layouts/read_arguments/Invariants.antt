use Rattle.std.proofs.Common.{◌≡◌, take}
use Rattle.clap.specs.Words.{found_of, rows_of}
use Rattle.dd_words.specs.Laying.{texts}
use Rattle.dd_words.specs.Matching.{arguments_at}
use Rattle.dd_words.proofs.layouts.read_arguments.Given as goal

abbrev pub invariant-loop-place : goal.invariant-loop-place
invariant-loop-place l = texts l.arguments.items ≡ arguments_at (rows_of (found_of l.matches)) (take l.place-index l.places)
