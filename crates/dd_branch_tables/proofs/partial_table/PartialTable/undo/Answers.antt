use Rattle.std.proofs.Common.{◌<◌, length, refl, ◌∙◌, arith}
use Rattle.dd_branch_tables.specs.Kept.{rows_of}
use Rattle.dd_branch_tables.proofs.RowsLemmas.{cleared_by, flipped_by, popped_from, popped_ready, unwound_less}
use Rattle.dd_branch_tables.proofs.partial_table.PartialTable.undo.Goals as goal

pub loop-self-preserved-in-Some : goal.loop-self-preserved-in-Some
loop-self-preserved-in-Some c =
    let r = rows_of c.loop-self.self-inside in
    let some : 0 < length r.trail = omega arith in
    let low : c.args.mark < length r.trail = omega arith in
    let is = popped_from r _ c.in-Some.place refl (cleared_by r.numbers c.in-Some.place _ c.back_of-back.ensures.back) (flipped_by r.free c.in-Some.place _ _ c.bits_of.ensures) c.in-Some.ensures.items in
    record { ready = popped_ready r _ c.loop-self.invariant.ready some is; same = unwound_less r _ c.args.mark low is ∙ c.loop-self.invariant.same }
