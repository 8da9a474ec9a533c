use Rattle.std.proofs.Common.{◌≡◌, length}
use Rattle.std.specs.Vec.Iter.{into_iter_items, into_iter_len}
use Rattle.dd_shard.specs.Members.{lists_of}
use Rattle.dd_suite_commands.specs.Merges.{bytes_of}
use Rattle.dd_suite_commands.proofs.MergedTexts.{AreReadSoFar}
use Rattle.dd_suite_commands.proofs.merged.read_files.Given as goal

-- the lists so far are those of all files but those whose readings are left
abbrev pub invariant-loop-symbols : goal.invariant-loop-symbols
invariant-loop-symbols g l =
    (into_iter_len l.symbols-iterator ≡ length (into_iter_items l.symbols-iterator))
    × AreReadSoFar (bytes_of l.fn.files) (into_iter_items l.symbols-iterator) (lists_of l.lists.items)
