use Rattle.std.proofs.Common.{sym}
use Rattle.dd_member_lists.proofs.Places.{count_of}
use Rattle.dd_member_lists.proofs.symbol_list.SymbolList.len.Goals as goal

pub returns : goal.returns
returns c = sym (count_of c.self.inside.series.items c.self.inside.degrees.items c.self.inside.count c.args.self.now c.self.view_is)
