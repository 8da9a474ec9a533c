use Rattle.std.proofs.Common.{arith}
use Rattle.dd_shard.specs.Members.{lists_of}
use Rattle.dd_shard.proofs.AscendingLists.{lists_length}
use Rattle.dd_suite_commands.specs.Merges.{bytes_of}
use Rattle.dd_suite_commands.proofs.MergedTexts.{read_length, read_short, files_length}
use Rattle.dd_suite_commands.proofs.merged.merge_files.Goals as goal

pub merge_lists-requires-clause-few : goal.merge_lists-requires-clause-few
merge_lists-requires-clause-few g c κs within =
    let same = read_length (bytes_of c.args.files.now) (lists_of c.in_ok-lists.lists.items) c.in_ok-lists.ensures.read in
    let files = files_length c.args.files.now in
    let lists = lists_length c.in_ok-lists.lists.items in
    let few = c.requires.few in
    omega (arith, same, files, lists, few)

pub merge_lists-requires-clause-short : goal.merge_lists-requires-clause-short
merge_lists-requires-clause-short g c κs within = read_short (bytes_of c.args.files.now) (lists_of c.in_ok-lists.lists.items) c.in_ok-lists.ensures.read
