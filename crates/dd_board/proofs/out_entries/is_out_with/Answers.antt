use Rattle.std.proofs.Common.{rules}
use Rattle.dd_board.proofs.out_entries.is_out_with.Goals as goal

pub returns-then-is_out : goal.returns-then-is_out
returns-then-is_out c = search rules
