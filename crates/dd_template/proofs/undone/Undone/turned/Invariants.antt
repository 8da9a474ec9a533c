use Rattle.std.proofs.Common.{◌≡◌, ◌+◌, ◌*◌, ◌<◌, ◌≤◌, []}
use Rattle.dd_model.specs.Symbol.{power, turn}
use Rattle.dd_template.specs.Table.{table_of, part_after}
use Rattle.dd_template.specs.Reduced.{carried}
use Rattle.dd_template.specs.Letters.{word_of}
use Rattle.dd_template.proofs.undone.Undone.turned.Given as goal

abbrev pub invariant-loop-left : goal.invariant-loop-left
invariant-loop-left g l = record {
  part : part_after (table_of l.self.table.now) (power (turn l.pair) l.left) l.place ≡ part_after (table_of l.self.table.now) (power (turn l.pair) l.fn.turns) l.fn.part.number;
  word : carried (table_of l.self.table.now) (power (turn l.pair) l.left) l.place (word_of l.word) ≡ carried (table_of l.self.table.now) (power (turn l.pair) l.fn.turns) l.fn.part.number [];
  place : l.place < g.row.K;
  left : l.left ≤ l.fn.turns;
  room : l.word.count + 2 * l.left ≤ 128;
}

abbrev pub decreases-loop-left : goal.decreases-loop-left
decreases-loop-left g l = l.left
