use Rattle.std.proofs.Common.{refl}
use Rattle.dd_draw.proofs.FirstSums.{entry_wide, entry_narrow, entry_not_wide}
use Rattle.dd_draw.proofs.RowLemmas.{made_more}
use Rattle.dd_draw.proofs.first_table.first_row.Goals as goal

pub returns-then-unsigned_abs-gt-LIMIT-clause-fault : goal.returns-then-unsigned_abs-gt-LIMIT-clause-fault
returns-then-unsigned_abs-gt-LIMIT-clause-fault c = (
  refl,
  refl,
  record {
    place = c.loop-place.place;
    inside = c.loop-place-test.true;
    column = refl;
    wide = entry_wide c.args.small.now.net.now c.args.row c.loop-place.place c.unsigned_abs.result c.first_entry-entry.result (record { sfits = c.first_entry-entry.type_inv })
        c.first_entry-entry.ensures c.unsigned_abs.ensures.value c.if-unsigned_abs-gt-LIMIT.true;
    first = c.loop-place.invariant.none_wide;
  },
)

pub loop-place-preserved : goal.loop-place-preserved
loop-place-preserved c =
    made_more _ _ c.loop-place.place c.loop-place.new.items c.push.new.self.items _ c.in_ok-push.ensures.items c.loop-place.invariant
    (entry_narrow c.args.small.now.net.now c.args.row c.loop-place.place c.unsigned_abs.result c.first_entry-entry.result (record { sfits = c.first_entry-entry.type_inv })
    c.first_entry-entry.ensures c.unsigned_abs.ensures.value c.if-unsigned_abs-gt-LIMIT.false)
    (entry_not_wide c.args.small.now.net.now c.args.row c.loop-place.place c.unsigned_abs.result c.first_entry-entry.result (record { sfits = c.first_entry-entry.type_inv })
    c.first_entry-entry.ensures c.unsigned_abs.ensures.value c.if-unsigned_abs-gt-LIMIT.false)
