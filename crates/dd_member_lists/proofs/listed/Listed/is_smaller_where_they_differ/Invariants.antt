use Rattle.std.proofs.Common.{◌↔◌}
use Rattle.dd_model.specs.Code.{code}
use Rattle.dd_model.proofs.SmallerPlaces.{SmallerFrom}
use Rattle.dd_symbol.specs.Images.{with_degrees}
use Rattle.dd_member_lists.proofs.listed.Listed.is_smaller_where_they_differ.Given as goal

abbrev pub invariant-loop-k : goal.invariant-loop-k
invariant-loop-k l =
    SmallerFrom 0 (code (with_degrees l.self.table.now l.self.m01.now l.self.m12.now)) l.others
    ↔ SmallerFrom l.k (code (with_degrees l.self.table.now l.self.m01.now l.self.m12.now)) l.others
