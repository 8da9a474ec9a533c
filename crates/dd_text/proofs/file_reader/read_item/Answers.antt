use Rattle.dd_text.proofs.ItemReads.{reads_symbol}
use Rattle.dd_text.proofs.file_reader.read_item.Goals as goal

pub returns-clause-ok : goal.returns-clause-ok
returns-clause-ok c = reads_symbol _ _ c.in_ok-symbol.symbol _ _ c.in_ok-symbol.ensures.ok c.in_ok-push.ensures.items
